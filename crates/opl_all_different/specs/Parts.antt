-- Parts: expressions that are a multiple of one variable and a constant, or a constant alone, and when a family refutes that they differ.
use Rattle.std.specs.Prelude.{◌≡◌, ◌≢◌, ℕ, ◌+◌, ◌*◌, ◌<◌, Bool, true, false, cond, ◌||◌, List, [], ◌∷◌, length, ℤ, pos, ◌+ℤ◌, ◌*ℤ◌, unsigned_abs, nat_eq, slice_index_or}
use Rattle.std.specs.List.{list_all}
use Rattle.std.specs.Ordering.{int_eq}
use Rattle.opl_domain.specs.Family.{Family, member, set_of}
use Rattle.opl_expr.specs.Forms.{Term, Terms}
use Rattle.opl_expr.specs.Range.{coef, pure}
use Rattle.opl_expr.specs.Sound.{IsSmall, var_magnitude}
use Rattle.opl_linear.specs.Forms.{constant_part}
use Rattle.opl_all_different.specs.declared.part.Part.{Part}

-- the part at a place of a list; behind the list, by custom, the constant 0
abbrev pub nothing : Part
nothing = record { variable = 0; factor = pos 0; constant = pos 0 }

abbrev pub part_at : List Part → ℕ → Part
part_at ps i = slice_index_or ps i nothing

-- the factor of variable x in a part
abbrev pub factor_of : Part → ℕ → ℤ
factor_of p x = cond (nat_eq x p.variable) p.factor (pos 0)

-- the numbers that the factor may multiply: the values of the variable, or 0 alone where the factor is 0
abbrev pub numbers_of : Family → Part → List ℤ
numbers_of F p = cond (int_eq p.factor (pos 0)) (pos 0 ∷ []) (set_of F p.variable)

-- the value of a part, where its factor multiplies w
abbrev pub value_with : Part → ℤ → ℤ
value_with p w = p.constant +ℤ (p.factor *ℤ w)

-- the part has no value but v
abbrev pub HasOnly : Family → Part → ℤ → Type 0
HasOnly F p v = (w : ℤ) → member w (numbers_of F p) ≡ true → value_with p w ≡ v

-- v is no value of the part
abbrev pub Misses : Family → Part → ℤ → Type 0
Misses F p v = (w : ℤ) → member w (numbers_of F p) ≡ true → value_with p w ≢ v

-- each value of the one part is each value of the other: both have one, and the same
abbrev pub meets : Family → Part → Part → Bool
meets F p q = list_all (λ v. list_all (λ w. int_eq (value_with p v) (value_with q w)) (numbers_of F q)) (numbers_of F p)

abbrev pub meets_any : Family → Part → List Part → Bool
meets_any F p [] = false
meets_any F p (q ∷ qs) = meets F p q || meets_any F p qs

-- two parts of the list have one value each, and the same
abbrev pub clashes : List Part → Family → Bool
clashes [] F = false
clashes (p ∷ ps) F = meets_any F p ps || clashes ps F

-- ---- lists of parts

-- the variable of a part, if its factor isn't 0, is one of n
abbrev pub IsThere : ℕ → Part → Type 0
IsThere n p = p.factor ≢ pos 0 → p.variable < n

-- no variable stands in both
abbrev pub AreApart : Part → Part → Type 0
AreApart p q = p.factor ≢ pos 0 → q.factor ≢ pos 0 → p.variable ≢ q.variable

-- the variables are among n, and none stands in two parts
pub record AreSeparate (n : ℕ) (ps : List Part) : Type 0 where
  pub there : (i : ℕ) → i < length ps → IsThere n (part_at ps i)
  pub apart : (i j : ℕ) → i < length ps → j < length ps → i ≢ j → AreApart (part_at ps i) (part_at ps j)

-- the value of the part, where its factor multiplies w, can be told
abbrev pub FitsWith : Part → ℤ → Type 0
FitsWith p w = IsSmall (unsigned_abs p.constant + unsigned_abs p.factor * unsigned_abs w)

-- each value of a part can be told, and compared with the constant of each other one
pub record AreFitting (F : Family) (ps : List Part) : Type 0 where
  pub own : (i : ℕ) (w : ℤ) → i < length ps → member w (numbers_of F (part_at ps i)) ≡ true → FitsWith (part_at ps i) w
  pub pairs : (i j : ℕ) (w : ℤ) → i < length ps → j < length ps → j ≢ i → member w (numbers_of F (part_at ps i)) ≡ true
      → IsSmall (unsigned_abs (part_at ps j).constant + (unsigned_abs (part_at ps i).constant + unsigned_abs (part_at ps i).factor * unsigned_abs w))

-- no value of the part is greater in absolute value, over declared sets
abbrev pub weight_of : List (ℤ × ℤ) → Part → ℕ
weight_of sets p = unsigned_abs p.constant + unsigned_abs p.factor * var_magnitude sets p.variable

-- ---- expressions as parts

-- a linear expression of some of n variables is this part
pub record IsPartOf (n : ℕ) (t : Term) (p : Part) : Type 0 where
  pub linear : pure t ≡ true
  pub factors : (x : ℕ) → coef t x ≡ factor_of p x
  pub constant : p.constant ≡ constant_part t
  pub there : IsThere n p

-- expressions are these parts, one by one
abbrev pub ArePartsOf : ℕ → Terms → List Part → Type 0
ArePartsOf n Terms.no_terms [] = Unit {0}
ArePartsOf n Terms.no_terms (p ∷ ps) = ⊥
ArePartsOf n (Terms.more_terms t ts) [] = ⊥
ArePartsOf n (Terms.more_terms t ts) (p ∷ ps) = IsPartOf n t p × ArePartsOf n ts ps
