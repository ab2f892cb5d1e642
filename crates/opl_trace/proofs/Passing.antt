-- Tests of the members of lists.
use Rattle.std.proofs.Common.{◌≡◌, ◌⊎◌, Bool, true, false, ◌||◌, refl, List, [], ◌∷◌, ◌++◌, map, ℤ, inl, inr, sym, subst}
use Rattle.std.specs.Prelude.{not}
use Rattle.std.specs.List.{list_any, list_all, flat_map}
use Rattle.std.proofs.lemmas.Bool.{or_cases, and_parts, and_from}
use Rattle.opl_domain.specs.Family.{member}
use Rattle.opl_domain.proofs.Members.{member_cases, member_first, member_later}

pub false_unless : (b : Bool) → (b ≡ true → ⊥) → b ≡ false
false_unless true h = absurd (h refl)
false_unless false h = refl

pub not_from_false : (b : Bool) → b ≡ false → not b ≡ true
not_from_false true h = sym h
not_from_false false h = refl

pub or_left : (a b : Bool) → a ≡ true → (a || b) ≡ true
or_left true b h = refl
or_left false b h = cc

pub or_right : (a b : Bool) → b ≡ true → (a || b) ≡ true
or_right true b h = refl
or_right false b h = h

pub any_left : {X : Type 0} (p : X → Bool) (xs ys : List X) → list_any p xs ≡ true → list_any p (xs ++ ys) ≡ true
any_left p [] ys h = cc
any_left p (x ∷ xs) ys h = elim (or_cases (p x) (list_any p xs) h) [
  | inl e ↦ or_left (p x) (list_any p (xs ++ ys)) e
  | inr e ↦ or_right (p x) (list_any p (xs ++ ys)) (any_left p xs ys e)
]

pub any_right : {X : Type 0} (p : X → Bool) (xs ys : List X) → list_any p ys ≡ true → list_any p (xs ++ ys) ≡ true
any_right p [] ys h = h
any_right p (x ∷ xs) ys h = or_right (p x) (list_any p (xs ++ ys)) (any_right p xs ys h)

pub from_any_append : {X : Type 0} (p : X → Bool) (xs ys : List X) → list_any p (xs ++ ys) ≡ true → (list_any p xs ≡ true) ⊎ (list_any p ys ≡ true)
from_any_append p [] ys h = inr h
from_any_append p (x ∷ xs) ys h = elim (or_cases (p x) (list_any p (xs ++ ys)) h) [
  | inl e ↦ inl (or_left (p x) (list_any p xs) e)
  | inr e ↦ elim (from_any_append p xs ys e) [ inl k ↦ inl (or_right (p x) (list_any p xs) k) | inr k ↦ inr k ]
]

pub any_map : {X Y : Type 0} (p : Y → Bool) (f : X → Y) (xs : List X) → list_any p (map f xs) ≡ list_any (λ x. p (f x)) xs
any_map p f [] = refl
any_map p f (x ∷ xs) = rw (any_map p f xs) refl

pub any_flat : {X Y : Type 0} (p : Y → Bool) (f : X → List Y) (xs : List X) → list_any (λ x. list_any p (f x)) xs ≡ true → list_any p (flat_map f xs) ≡ true
any_flat p f [] h = h
any_flat p f (x ∷ xs) h = elim (or_cases (list_any p (f x)) (list_any (λ y. list_any p (f y)) xs) h) [
  | inl e ↦ any_left p (f x) (flat_map f xs) e
  | inr e ↦ any_right p (f x) (flat_map f xs) (any_flat p f xs e)
]

pub from_any_flat : {X Y : Type 0} (p : Y → Bool) (f : X → List Y) (xs : List X) → list_any p (flat_map f xs) ≡ true → list_any (λ x. list_any p (f x)) xs ≡ true
from_any_flat p f [] h = h
from_any_flat p f (x ∷ xs) h = elim (from_any_append p (f x) (flat_map f xs) h) [
  | inl e ↦ or_left (list_any p (f x)) (list_any (λ y. list_any p (f y)) xs) e
  | inr e ↦ or_right (list_any p (f x)) (list_any (λ y. list_any p (f y)) xs) (from_any_flat p f xs e)
]

pub all_member : (p : ℤ → Bool) (vs : List ℤ) (v : ℤ) → list_all p vs ≡ true → member v vs ≡ true → p v ≡ true
all_member p [] v h m = cc
all_member p (w ∷ vs) v h m = let r = and_parts (p w) (list_all p vs) h in elim (member_cases v w vs m) [
  | inl e ↦ subst (λ u. p u ≡ true) (sym e) r.0
  | inr k ↦ all_member p vs v r.1 k
]

pub all_from : (p : ℤ → Bool) (vs : List ℤ) → ((v : ℤ) → member v vs ≡ true → p v ≡ true) → list_all p vs ≡ true
all_from p [] h = refl
all_from p (v ∷ vs) h = and_from (p v) (list_all p vs) (h v (member_first v vs)) (all_from p vs (λ w m. h w (member_later w v vs m)))
