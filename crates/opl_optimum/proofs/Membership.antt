-- An assignment stands in the list of solutions exactly where it is one.
use Rattle.std.proofs.Common.{◌≡◌, ◌⊎◌, refl, sym, ap, ◌∙◌, subst, ℕ, zero, suc, ◌+◌, Bool, true, false, cond, List, [], ◌∷◌, ◌++◌, map, filter, ℤ, pos, ◌+ℤ◌, ◌-ℤ◌, ◌≤ℤ◌, ◌<ℤ◌, int_lt, unsigned_abs, if◌then◌else◌, inl, inr, arith}
use Rattle.std.proofs.lemmas.Int.{ints}
use Rattle.opl_meaning.specs.declared.variable.DeclaredSet.{DeclaredSet}
use Rattle.opl_meaning.specs.Variables.{sets_of}
use Rattle.opl_meaning.specs.Solutions.{declared_sets, whole_numbers, size_between, numbers_of, product}
use Rattle.opl_draft.specs.Solutions as conditions
use Rattle.opl_draft.specs.Solutions.{satisfies}
use Rattle.opl_optimum.specs.Best.{HasOneOfEach, IsAmong}
use Rattle.opl_optimum.specs.Laws.{SolutionsAre}
use Rattle.opl_optimum.specs.Optima.{is_defined, solutions}
use Rattle.opl_optimum.proofs.Order.{with_values}

module _ {A : Type 0} (x : A) where
  among_append : (xs ys : List A) → IsAmong x (xs ++ ys) → IsAmong x xs ⊎ IsAmong x ys
  among_append [] ys h = inr h
  among_append (y ∷ xs) ys (inl e) = inl (inl e)
  among_append (y ∷ xs) ys (inr h) = either (among_append xs ys h)
    where
      either : IsAmong x xs ⊎ IsAmong x ys → IsAmong x (y ∷ xs) ⊎ IsAmong x ys
      either (inl a) = inl (inr a)
      either (inr a) = inr a

  append_left : (xs ys : List A) → IsAmong x xs → IsAmong x (xs ++ ys)
  append_left [] ys h = elim h [ ]
  append_left (y ∷ xs) ys (inl e) = inl e
  append_left (y ∷ xs) ys (inr h) = inr (append_left xs ys h)

  append_right : (xs ys : List A) → IsAmong x ys → IsAmong x (xs ++ ys)
  append_right [] ys h = h
  append_right (y ∷ xs) ys h = inr (append_right xs ys h)

  module _ (p : A → Bool) where
    kept : (y : A) (xs ys : List A) (b : Bool) → p y ≡ b → (IsAmong x ys → IsAmong x xs × (p x ≡ true)) → IsAmong x (cond b (y ∷ ys) ys) → IsAmong x (y ∷ xs) × (p x ≡ true)
    kept y xs ys true e rest (inl same) = (inl same, ap p same ∙ e)
    kept y xs ys true e rest (inr h) = (inr (rest h).0, (rest h).1)
    kept y xs ys false e rest h = (inr (rest h).0, (rest h).1)

    among_filter : (xs : List A) → IsAmong x (filter p xs) → IsAmong x xs × (p x ≡ true)
    among_filter [] h = absurd h
    among_filter (y ∷ xs) h = kept y xs (filter p xs) (p y) refl (among_filter xs) h

    keep : (y : A) (ys : List A) (b : Bool) → p y ≡ b → p x ≡ true → (x ≡ y) ⊎ IsAmong x ys → IsAmong x (cond b (y ∷ ys) ys)
    keep y ys true e t h = h
    keep y ys false e t (inl same) = let no : true ≡ false = sym t ∙ ap p same ∙ e in absurd (cc)
    keep y ys false e t (inr h) = h

    filter_among : (xs : List A) → IsAmong x xs → p x ≡ true → IsAmong x (filter p xs)
    filter_among [] h t = elim h [ ]
    filter_among (y ∷ xs) (inl same) t = keep y (filter p xs) (p y) refl t (inl same)
    filter_among (y ∷ xs) (inr h) t = keep y (filter p xs) (p y) refl t (inr (filter_among xs h t))

-- a list that begins with a value, and goes on as one of `rest`
record Begins (v : ℤ) (rest : List (List ℤ)) (values : List ℤ) : Type 0 where
  others : List ℤ
  whole : values ≡ v ∷ others
  among : IsAmong others rest

among_map : (v : ℤ) (rest : List (List ℤ)) (values : List ℤ) → IsAmong values (map (λ vs. v ∷ vs) rest) → Begins v rest values
among_map v [] values h = elim h [ ]
among_map v (vs ∷ rest) values (inl e) = record { others = vs; whole = e; among = inl refl }
among_map v (vs ∷ rest) values (inr h) = let b = among_map v rest values h in record { others = b.others; whole = b.whole; among = inr b.among }

map_among : (v : ℤ) (rest : List (List ℤ)) (others : List ℤ) → IsAmong others rest → IsAmong (v ∷ others) (map (λ vs. v ∷ vs) rest)
map_among v [] others h = elim h [ ]
map_among v (vs ∷ rest) others (inl e) = inl (ap (λ vs. v ∷ vs) e)
map_among v (vs ∷ rest) others (inr h) = inr (map_among v rest others h)

-- it begins with one of `n` numbers from `low` on
record Within (low : ℤ) (n : ℕ) (rest : List (List ℤ)) (values : List ℤ) : Type 0 where
  v : ℤ
  least : low ≤ℤ v
  most : v <ℤ (low +ℤ pos n)
  begins : Begins v rest values

first_below : (low : ℤ) (n : ℕ) → low <ℤ (low +ℤ pos (suc n))
first_below low n = omega (arith, ints)

least_less : (low v : ℤ) → (low +ℤ pos 1) ≤ℤ v → low ≤ℤ v
least_less low v h = omega (arith, ints)

most_more : (low v : ℤ) (n : ℕ) → v <ℤ (low +ℤ pos 1 +ℤ pos n) → v <ℤ (low +ℤ pos (suc n))
most_more low v n h = omega (arith, ints)

most_less : (low v : ℤ) (n : ℕ) → v <ℤ (low +ℤ pos (suc n)) → v <ℤ (low +ℤ pos 1 +ℤ pos n)
most_less low v n h = omega (arith, ints)

no_room : (low v : ℤ) → low ≤ℤ v → v <ℤ (low +ℤ pos 0) → ⊥
no_room low v a b = omega (arith, ints)

same_or_more : (low v : ℤ) → low ≤ℤ v → (v ≡ low) ⊎ ((low +ℤ pos 1) ≤ℤ v)
same_or_more low v h = grind (arith, ints)

among_values : (rest : List (List ℤ)) (low : ℤ) (n : ℕ) (values : List ℤ) → IsAmong values (with_values rest low n) → Within low n rest values
unfolding whole_numbers
among_values rest low zero values h = absurd h
among_values rest low (suc n) values h = either (among_append values (map (λ vs. low ∷ vs) rest) _ h) (among_values rest (low +ℤ pos 1) n values)
  where
    either : IsAmong values (map (λ vs. low ∷ vs) rest) ⊎ IsAmong values (with_values rest (low +ℤ pos 1) n) →
        (IsAmong values (with_values rest (low +ℤ pos 1) n) → Within (low +ℤ pos 1) n rest values) → Within low (suc n) rest values
    either (inl a) more = record { v = low; least = omega (arith, ints); most = first_below low n; begins = among_map low rest values a }
    either (inr a) more = let w = more a in record { v = w.v; least = least_less low w.v w.least; most = most_more low w.v n w.most; begins = w.begins }

values_among : (rest : List (List ℤ)) (low : ℤ) (n : ℕ) (v : ℤ) (others : List ℤ) → low ≤ℤ v → v <ℤ (low +ℤ pos n) → IsAmong others rest →
    IsAmong (v ∷ others) (with_values rest low n)
unfolding whole_numbers
values_among rest low zero v others a b h = absurd (no_room low v a b)
values_among rest low (suc n) v others a b h = either (same_or_more low v a) (λ more. values_among rest (low +ℤ pos 1) n v others more (most_less low v n b) h)
  where
    either : (v ≡ low) ⊎ ((low +ℤ pos 1) ≤ℤ v) → ((low +ℤ pos 1) ≤ℤ v → IsAmong (v ∷ others) (with_values rest (low +ℤ pos 1) n)) →
        IsAmong (v ∷ others) (map (λ vs. low ∷ vs) rest ++ with_values rest (low +ℤ pos 1) n)
    either (inl e) more = append_left (v ∷ others) _ _ (subst (λ w. IsAmong (v ∷ others) (map (λ vs. w ∷ vs) rest)) e (map_among v rest others h))
    either (inr e) more = append_right (v ∷ others) _ _ (more e)

-- the numbers of a set are those from its low end to its high end
below_high : (low high v : ℤ) (b : Bool) → int_lt high low ≡ b → low ≤ℤ v → v <ℤ (low +ℤ pos (if b then 0 else unsigned_abs (high -ℤ low) + 1)) → v ≤ℤ high
below_high low high v true e a h = absurd (no_room low v a h)
below_high low high v false e a h = grind (arith, ints)

above_low : (low high v : ℤ) (b : Bool) → int_lt high low ≡ b → low ≤ℤ v → v ≤ℤ high → v <ℤ (low +ℤ pos (if b then 0 else unsigned_abs (high -ℤ low) + 1))
above_low low high v true e a h = grind (arith, ints)
above_low low high v false e a h = grind (arith, ints)

among_product : (sets : List DeclaredSet) (values : List ℤ) → IsAmong values (product (map numbers_of sets)) → HasOneOfEach sets values
unfolding product
among_product [] values (inl e) = subst (HasOneOfEach []) (sym e) tt
among_product [] values (inr h) = elim h [ ]
among_product (set ∷ sets) values h =
    let w = among_values _ set.low (size_between set.low set.high) values h in
    subst (HasOneOfEach (set ∷ sets)) (sym w.begins.whole)
    (w.least, below_high set.low set.high w.v _ refl w.least w.most, among_product sets w.begins.others w.begins.among)

product_among : (sets : List DeclaredSet) (values : List ℤ) → HasOneOfEach sets values → IsAmong values (product (map numbers_of sets))
unfolding product
product_among [] [] h = inl refl
product_among [] (value ∷ values) h = elim h [ ]
product_among (set ∷ sets) [] h = elim h [ ]
product_among (set ∷ sets) (value ∷ values) h =
    values_among _ set.low _ value values h.0 (above_low set.low set.high value _ refl h.0 h.1) (product_among sets values h.2)

pub solutions_are : SolutionsAre
unfolding solutions conditions.solutions
solutions_are p values = (
  λ h.
      let defined = among_filter values (is_defined p) (conditions.solutions p.model) h in
      let met = among_filter values (satisfies p.model) (product (declared_sets p.model.variables)) defined.0 in
      (among_product (sets_of p.model.variables) values met.0, met.1, defined.1),
  λ h. filter_among values (is_defined p) (conditions.solutions p.model)
      (filter_among values (satisfies p.model) (product (declared_sets p.model.variables)) (product_among (sets_of p.model.variables) values h.0) h.1) h.2,
)
