-- Parts in which no variable is left.
use Rattle.std.proofs.Common.{◌≡◌, Bool, ◌&&◌, List, [], ◌∷◌, ◌++◌, Option, Some, None, is_some, refl, ap}
use Rattle.opl_value.specs.declared.value.Value.{Value}
use Rattle.opl_form.specs.Parts.{Form, all_known, with_value}
use Rattle.opl_form.specs.Parts.Form.{known, number, name, condition, truth}
use Rattle.opl_nodes.specs.Pieces.{value_of}

pub one-known : (g : Form) (v : Value) → value_of g ≡ Some v → all_known (g ∷ []) ≡ Some (v ∷ [])
one-known (known w) v h = let e : w ≡ v = cc in ap (λ (v : Value). Some (v ∷ [])) e
one-known (number e) v h = cc
one-known (name d e) v h = cc
one-known (condition c) v h = cc
one-known (truth c) v h = cc

pub live-first : (g : Form) (gs : List Form) → value_of g ≡ None → all_known (g ∷ gs) ≡ None
live-first (known w) gs h = cc
live-first (number e) gs h = refl
live-first (name d e) gs h = refl
live-first (condition c) gs h = refl
live-first (truth c) gs h = refl

live-rest : (g : Form) (o : Option (List Value)) → o ≡ None → with_value g o ≡ None
live-rest (known w) None h = refl
live-rest (known w) (Some vs) h = cc
live-rest (number e) o h = refl
live-rest (name d e) o h = refl
live-rest (condition c) o h = refl
live-rest (truth c) o h = refl

pub live-second : (g h : Form) → value_of h ≡ None → all_known (g ∷ h ∷ []) ≡ None
live-second g h k = live-rest g (all_known (h ∷ [])) (live-first h [] k)

known-before : (g : Form) (v : Value) (o : Option (List Value)) (ws : List Value) → value_of g ≡ Some v → o ≡ Some ws → with_value g o ≡ Some (v ∷ ws)
known-before (known u) v None ws h k = cc
known-before (known u) v (Some vs) ws h k = cc
known-before (number e) v o ws h k = cc
known-before (name d e) v o ws h k = cc
known-before (condition c) v o ws h k = cc
known-before (truth c) v o ws h k = cc

pub known-both : (g h : Form) (v w : Value) → value_of g ≡ Some v → value_of h ≡ Some w → all_known (g ∷ h ∷ []) ≡ Some (v ∷ w ∷ [])
known-both g h v w k l = known-before g v (all_known (h ∷ [])) (w ∷ []) k (one-known h w l)

pub ruleset two_known = (known-both, live-second, live-first)

-- a value after others
append-with : (g : Form) (a b : Option (List Value)) (x : Bool) → is_some a ≡ (is_some b && x) → is_some (with_value g a) ≡ (is_some (with_value g b) && x)
append-with (known w) None None x h = refl
append-with (known w) None (Some vs) x h = h
append-with (known w) (Some us) None x h = h
append-with (known w) (Some us) (Some vs) x h = h
append-with (number e) a b x h = refl
append-with (name d e) a b x h = refl
append-with (condition c) a b x h = refl
append-with (truth c) a b x h = refl

pub known-push : (gs : List Form) (g : Form) → is_some (all_known (gs ++ g ∷ [])) ≡ (is_some (all_known gs) && is_some (value_of g))
known-push [] (known v) = refl
known-push [] (number e) = refl
known-push [] (name d e) = refl
known-push [] (condition c) = refl
known-push [] (truth c) = refl
known-push (h ∷ gs) g = append-with h (all_known (gs ++ g ∷ [])) (all_known gs) (is_some (value_of g)) (known-push gs g)
