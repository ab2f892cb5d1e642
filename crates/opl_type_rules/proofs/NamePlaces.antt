-- Names are found at the places that are kept for them.
use Rattle.std.proofs.Common.{◌≡◌, ℕ, ◌+◌, suc, zero, Bool, true, false, cond, List, [], ◌∷◌, ◌++◌, length, drop, map, Option, None, Some, Vec, Global, refl, ap, sym, subst, ◌∙◌, arith}
use Rattle.std.specs.Prelude.{bytes_eq}
use Rattle.std.specs.List.{slice_get}
use Rattle.std.specs.Option.{option_map}
use Rattle.std.specs.HashMap.{HashMap, UpdatesBy, get_by}
use Rattle.std.specs.Map.{lookup, KeepsOthers, IsKeyTest, AreApart}
use Rattle.std.specs.Cmp.Lexicographic.{nat_list_eq_equiv, bytes_decides}
use Rattle.std.proofs.lemmas.Bool.{cases_Bool, cond-true, cond-false}
use Rattle.std.proofs.lemmas.List.{map-append}
use mathlib.Core.Logic.{⊎_elim}
use Rattle.opl_type_rules.specs.declared.kind.Ty.{Ty}
use Rattle.opl_type_rules.specs.declared.names.Local.{Local}
use Rattle.opl_type_rules.specs.NamePlaces.{latest_place}
use Rattle.opl_type_rules.specs.Values.{local_at, local_or}
use Rattle.opl_type_rules.proofs.Places.{head-at, tail-at, bytes_eq-turn}

-- ---- a map whose keys are bytes

apart : (bs cs ks : List ℕ) → bytes_eq bs cs ≡ false → bytes_eq bs ks ≡ true → bytes_eq cs ks ≡ false
apart bs cs ks n y = nat_list_eq_equiv.symm cs ks ∙ sym (nat_list_eq_equiv.congr bs ks cs y) ∙ n

module _ {K : Type 0} (eq : K → K → Bool) (test : K → Bool) where
  other_entries : {X : Type 0} (old new : List (K × X)) → KeepsOthers eq test old new → (other : K → Bool) → IsKeyTest eq other → AreApart test other → lookup other new ≡ lookup other old
  unfolding KeepsOthers
  other_entries old new h = h

by_bytes : {W : Type 0} (f g : List ℕ → W) (bs : List ℕ) (w : W) → g bs ≡ w → ((cs : List ℕ) → bytes_eq bs cs ≡ false → g cs ≡ f cs) → (cs : List ℕ) → g cs ≡ cond (bytes_eq bs cs) w (f cs)
by_bytes f g bs w here other cs =
    ⊎_elim
    (λ y. subst (λ l. g l ≡ w) ((bytes_decides bs cs).0 y) here ∙ sym (cond-true (bytes_eq bs cs) w (f cs) y))
    (λ n. other cs n ∙ sym (cond-false (bytes_eq bs cs) w (f cs) n))
    (cases_Bool (bytes_eq bs cs))

updated : (bs : List ℕ) → {X S : Type 0} (m n : HashMap (Vec ℕ Global) X S) (w : Option X) → UpdatesBy (λ x y. bytes_eq x.items y.items) (λ k. bytes_eq bs k.items) m n w
    → (cs : List ℕ) → get_by (λ k. bytes_eq cs k.items) n ≡ cond (bytes_eq bs cs) w (get_by (λ k. bytes_eq cs k.items) m)
updated bs m n w h = by_bytes (λ ds. get_by (λ k. bytes_eq ds k.items) m) (λ ds. get_by (λ k. bytes_eq ds k.items) n) bs w h.1 (λ cs e. other_entries _ _ _ _ h.3 _ (λ x y. nat_list_eq_equiv.congr cs x.items y.items) (λ k. apart bs cs k.items e))

-- what a change at the bytes bs leaves at any bytes
pub updates-bytes : (bs : List ℕ) → {X S : Type 0} (m n : HashMap (Vec ℕ Global) X S) (w : Option X) → UpdatesBy (λ x y. bytes_eq x.items y.items) (λ k. bytes_eq bs k.items) m n w
    → (cs : List ℕ) → get_by (λ k. bytes_eq cs k.items) n ≡ cond (bytes_eq cs bs) w (get_by (λ k. bytes_eq cs k.items) m)
updates-bytes bs m n w h cs = updated bs m n w h cs ∙ ap (λ b. cond b w (get_by (λ k. bytes_eq cs k.items) m)) (bytes_eq-turn bs cs)

-- ---- one more name

next-place : (i : ℕ) (n : List ℕ) (ns : List (List ℕ)) → i + 1 + length ns ≡ i + length (n ∷ ns)
next-place i n ns = omega arith

place-along : (before : Option ℕ) (i : ℕ) (name : List ℕ) (ns : List (List ℕ)) (n : List ℕ) → latest_place before i name (ns ++ n ∷ []) ≡ cond (bytes_eq name n) (Some (i + length ns)) (latest_place before i name ns)
place-along before i name [] n = ap (λ k. cond (bytes_eq name n) (Some k) before) (omega arith)
place-along before i name (x ∷ xs) n =
    place-along (cond (bytes_eq name x) (Some i) before) (i + 1) name xs n
    ∙ ap (λ k. cond (bytes_eq name n) (Some k) (latest_place before i name (x ∷ xs))) (next-place i x xs)

place-added : (name : List ℕ) (ns : List (List ℕ)) (n : List ℕ) → latest_place None 0 name (ns ++ n ∷ []) ≡ cond (bytes_eq name n) (Some (length ns)) (latest_place None 0 name ns)
place-added name ns n = place-along None 0 name ns n ∙ ap (λ k. cond (bytes_eq name n) (Some k) (latest_place None 0 name ns)) (omega arith)

pub places-kept : {S : Type 0} (m n : HashMap (Vec ℕ Global) ℕ S) (ns new : List (List ℕ)) (x : List ℕ) (name : List ℕ) →
    get_by (λ k. bytes_eq name k.items) m ≡ latest_place None 0 name ns →
    get_by (λ k. bytes_eq name k.items) n ≡ cond (bytes_eq name x) (Some (length ns)) (get_by (λ k. bytes_eq name k.items) m) →
    new ≡ ns ++ x ∷ [] → get_by (λ k. bytes_eq name k.items) n ≡ latest_place None 0 name new
places-kept m n ns new x name h a q =
    a ∙ ap (cond (bytes_eq name x) (Some (length ns))) h ∙ sym (place-added name ns x) ∙ ap (latest_place None 0 name) (sym q)

-- ---- parameters

type-if : (b : Bool) (all : List Local) (i : ℕ) (l : Local) (before : Option ℕ) → slice_get all i ≡ Some l → cond b (Some l.ty) (local_at before all) ≡ local_at (cond b (Some i) before) all
type-if true all i l before h = sym (ap (option_map (λ x. x.ty)) h)
type-if false all i l before h = refl

local-along : (all : List Local) (name : List ℕ) (rest : List Local) (i : ℕ) (before : Option ℕ) → drop i all ≡ rest →
    local_or (local_at before all) name rest ≡ local_at (latest_place before i name (map (λ x. x.name) rest)) all
local-along all name [] i before h = refl
local-along all name (l ∷ ls) i before h =
    ap (λ o. local_or o name ls) (type-if (bytes_eq name l.name) all i l before (head-at all i l ls h))
    ∙ local-along all name ls (i + 1) (cond (bytes_eq name l.name) (Some i) before) (tail-at all i l ls h)

pub local-found : (all : List Local) (name : List ℕ) → local_at (latest_place None 0 name (map (λ x. x.name) all)) all ≡ local_or None name all
local-found all name = sym (local-along all name all 0 None refl)

-- the names of one more
pub names-added : (ls new : List Local) (l : Local) (ns : List (List ℕ)) → ns ≡ map (λ x. x.name) ls → new ≡ ls ++ l ∷ [] → ns ++ l.name ∷ [] ≡ map (λ x. x.name) new
names-added ls new l ns h q = ap (λ xs. xs ++ l.name ∷ []) h ∙ sym (map-append (λ x. x.name) ls (l ∷ [])) ∙ ap (map (λ x. x.name)) (sym q)

pub ruleset locals_placed = (local-found)
