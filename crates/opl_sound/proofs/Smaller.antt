-- No measure is too great.
use Rattle.std.proofs.Common.{◌≡◌, ◌⊎◌, ℕ, ◌+◌, ◌*◌, ◌≤◌, ◌^◌, Bool, true, false, cond, ◌&&◌, refl, List, length, ℤ, sym, subst, arith, inl, inr}
use Rattle.std.specs.Prelude.{nat_lt, unsigned_abs, Option, Some, None}
use Rattle.std.proofs.lemmas.Bool.{ltb-true, ltb-false}
use Rattle.opl_expr.specs.Forms.{Term, Terms}
use Rattle.opl_expr.specs.declared.tables.Table.{Table}
use Rattle.opl_expr.specs.Sound.{IsSmall, var_magnitude, cells_magnitude}
use Rattle.opl_sound.specs.Measures.{small, added, multiplied, at_least_one, greater, first, one_if, only_if, is_whole, measure_table, answer_magnitude, fits, measure, measure_sum, measure_all, measure_some, fit_subscripts, dims_of}

-- a magnitude is there, or it is too great
pub smalls : (n : ℕ) → (IsSmall n × (small n ≡ Some n)) ⊎ ((2 ^ 127 ≤ n) × (small n ≡ None))
unfolding small
smalls n = elim (nat_lt n (2 ^ 127)) as (λ b. nat_lt n (2 ^ 127) ≡ b → (IsSmall n × (cond b (Some n) None ≡ Some n)) ⊎ ((2 ^ 127 ≤ n) × (cond b (Some n) None ≡ None))) [
  | true ↦ λ e. inl (ltb-true n (2 ^ 127) e, refl)
  | false ↦ λ e. inr (ltb-false n (2 ^ 127) e, refl)
] refl

-- a magnitude that is there is small
abbrev pub IsMeasure : Option ℕ → Type 0
IsMeasure None = Unit {0}
IsMeasure (Some n) = IsSmall n

pub small_measure : (n : ℕ) → IsMeasure (small n)
small_measure n = elim (smalls n) [ inl a ↦ subst IsMeasure (sym a.1) a.0 | inr a ↦ subst IsMeasure (sym a.1) tt ]

added_measure : (m n : Option ℕ) → IsMeasure (added m n)
added_measure None n = tt
added_measure (Some m) None = tt
added_measure (Some m) (Some n) = small_measure (m + n)

multiplied_measure : (m n : Option ℕ) → IsMeasure (multiplied m n)
multiplied_measure None n = tt
multiplied_measure (Some m) None = tt
multiplied_measure (Some m) (Some n) = small_measure (m * n)

least_measure : (n : Option ℕ) → IsMeasure n → IsMeasure (at_least_one n)
least_measure None h = tt
least_measure (Some n) h = omega (arith, h)

greater_measure : (m n : Option ℕ) → IsMeasure m → IsMeasure n → IsMeasure (greater m n)
greater_measure None n h i = tt
greater_measure (Some m) None h i = tt
greater_measure (Some m) (Some n) h i = omega (arith, h, i)

first_measure : (m n : Option ℕ) → IsMeasure m → IsMeasure (first m n)
first_measure None n h = tt
first_measure (Some m) None h = tt
first_measure (Some m) (Some n) h = h

one_measure : (b : Bool) → IsMeasure (one_if b)
one_measure true = omega arith
one_measure false = tt

only_measure : (b : Bool) (n : Option ℕ) → IsMeasure n → IsMeasure (only_if b n)
only_measure true n h = h
only_measure false n h = tt

module _ (sets : List (ℤ × ℤ)) where
  table_measure : (table : Option Table) (b : Bool) → IsMeasure (measure_table sets table b)
  table_measure None b = tt
  table_measure (Some t) b = only_measure (is_whole sets t && b) (at_least_one (small (cells_magnitude sets t.cells))) (least_measure (small (cells_magnitude sets t.cells)) (small_measure (cells_magnitude sets t.cells)))

  module _ (asks : Bool) where
    mutual
      pub is_measure : (t : Term) → IsMeasure (measure sets asks t)
      is_measure (Term.const k) = small_measure (unsigned_abs k)
      is_measure (Term.var x) = only_measure (nat_lt x (length sets)) (small (var_magnitude sets x)) (small_measure (var_magnitude sets x))
      is_measure (Term.sum ts) = sum_measure ts
      is_measure (Term.neg t) = is_measure t
      is_measure (Term.scale k t) = multiplied_measure (small (unsigned_abs k)) (measure sets asks t)
      is_measure (Term.mul s t) = least_measure (multiplied (measure sets asks s) (measure sets asks t)) (multiplied_measure (measure sets asks s) (measure sets asks t))
      is_measure (Term.div s t) = least_measure (first (measure sets asks s) (measure sets asks t)) (first_measure (measure sets asks s) (measure sets asks t) (is_measure s))
      is_measure (Term.rem s t) = least_measure (first (measure sets asks s) (measure sets asks t)) (first_measure (measure sets asks s) (measure sets asks t) (is_measure s))
      is_measure (Term.abs t) = least_measure (measure sets asks t) (is_measure t)
      is_measure (Term.least ts) = some_measure ts
      is_measure (Term.greatest ts) = some_measure ts
      is_measure (Term.at table ts) = table_measure table (fit_subscripts sets asks (dims_of table) ts)
      is_measure (Term.truth c) = one_measure (fits sets asks c)
      is_measure (Term.asked ask x) = only_measure (asks && nat_lt x (length sets)) (small (answer_magnitude sets ask x)) (small_measure (answer_magnitude sets ask x))

      sum_measure : (ts : Terms) → IsMeasure (measure_sum sets asks ts)
      sum_measure Terms.no_terms = omega arith
      sum_measure (Terms.more_terms t ts) = added_measure (measure sets asks t) (measure_sum sets asks ts)

      pub all_measure : (ts : Terms) → IsMeasure (measure_all sets asks ts)
      all_measure Terms.no_terms = omega arith
      all_measure (Terms.more_terms t ts) = greater_measure (measure sets asks t) (measure_all sets asks ts) (is_measure t) (all_measure ts)

      some_measure : (ts : Terms) → IsMeasure (measure_some sets asks ts)
      some_measure Terms.no_terms = tt
      some_measure (Terms.more_terms t ts) = least_measure (greater (measure sets asks t) (measure_all sets asks ts)) (greater_measure (measure sets asks t) (measure_all sets asks ts) (is_measure t) (all_measure ts))
