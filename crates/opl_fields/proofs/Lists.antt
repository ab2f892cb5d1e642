-- What is left of the lists that loops go over.
use Rattle.std.proofs.Common.{◌≡◌, ℕ, ◌+◌, ◌<◌, ◌≤◌, List, [], ◌∷◌, length, append_assoc, append-nil, drop, get_or, map, Result, Ok, Err, OnOk, refl, ap, sym, subst, ◌∙◌}
use Rattle.std.proofs.lemmas.List.{drop_more, at_drop_all}
use Rattle.opl_fields.specs.Walk.{State, Pass, in_turn}

pub map_more : {A B : Type 0} (f : A → B) (xs : List A) (i : ℕ) (d : A) → i < length xs → map f (drop i xs) ≡ f (get_or xs i d) ∷ map f (drop (i + 1) xs)
map_more f xs i d h = ap (map f) (drop_more xs i d h)

pub ruleset lists = (map_more, append_assoc, append-nil)

no_cells : (ks : List Pass) (s : State) → in_turn ks [] s ≡ s
no_cells [] s = refl
no_cells (k ∷ ks) s = refl

-- keys without cells
pub cells_done : {A : Type 0} (f : A → Pass) (keys cells : List A) (i : ℕ) (s : State) → length cells ≤ i → s ≡ in_turn (map f (drop i keys)) (map f (drop i cells)) s
cells_done f keys cells i s all =
    sym (at_drop_all (λ ys. in_turn (map f (drop i keys)) (map f ys) s) cells i all ∙ no_cells (map f (drop i keys)) s)

-- no keys left
pub keys_done : {A : Type 0} (f : A → Pass) (keys cells : List A) (i : ℕ) (s : State) → length keys ≤ i → s ≡ in_turn (map f (drop i keys)) (map f (drop i cells)) s
keys_done f keys cells i s all = sym (at_drop_all (λ ys. in_turn (map f ys) (map f (drop i cells)) s) keys i all)

-- what is known where nothing failed, said otherwise
pub said : {E : Type 0} (r : Result (Unit {0}) E) (x a b : State) → OnOk r (x ≡ a) → a ≡ b → OnOk r (x ≡ b)
said (Ok u) x a b h e = h ∙ e
said (Err u) x a b h e = h
