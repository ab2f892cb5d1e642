-- A measure without questions is the magnitude of a sound expression, and it is missing where the expression isn't sound.
use Rattle.std.proofs.Common.{◌+◌, ◌*◌, max, false, refl, List, [], ◌∷◌, length, ℤ, arith}
use Rattle.std.specs.Prelude.{nat_lt, unsigned_abs, Some, None}
use Rattle.opl_expr.specs.Forms.{Term, Terms, Fact, Facts}
use Rattle.opl_expr.specs.Sound.{IsSmall, IsSome, greatest_abs, cells_magnitude, var_magnitude, term_magnitude, sum_magnitude, greatest_magnitude, FitDimensions, AreComparable, IsSoundTerm, AreSoundTerms, IsSoundFact, AreSoundFacts}
use Rattle.opl_sound.specs.Measures.{small, is_some, added, multiplied, at_least_one, greater, first, measure, measure_sum, measure_all, measure_some, measure_pairs, comparable, fit_subscripts, fits, all_fit}
use Rattle.opl_sound.proofs.Smaller.{is_measure}
use Rattle.opl_sound.proofs.Tells.{IsTold, IsMeasured, tells_less, tells_both, tells_as, some_tells, iff_as, iff_small, iff_known, iff_added, iff_multiplied, iff_least, iff_greater, iff_comparable, iff_first, iff_one, iff_only, iff_fits, iff_table}

module _ (sets : List (ℤ × ℤ)) where
  mutual
    pub tells : (t : Term) → IsMeasured (measure sets false t) (IsSoundTerm sets t) (term_magnitude sets t)
    tells (Term.const k) = iff_small (unsigned_abs k)
    tells (Term.var x) = iff_only (nat_lt x (length sets)) (small (var_magnitude sets x)) (var_magnitude sets x) (tells_less x (length sets)) (iff_small (var_magnitude sets x))
    tells (Term.sum ts) = tells_sum ts
    tells (Term.neg t) = iff_fits (measure sets false t) (term_magnitude sets t) (is_measure sets false t) (tells t)
    tells (Term.scale k t) = iff_multiplied (small (unsigned_abs k)) (measure sets false t) (unsigned_abs k) (term_magnitude sets t) (iff_small (unsigned_abs k)) (tells t)
    tells (Term.mul s t) =
        iff_least (multiplied (measure sets false s) (measure sets false t)) (term_magnitude sets s * term_magnitude sets t) (iff_multiplied (measure sets false s) (measure sets false t) (term_magnitude sets s) (term_magnitude sets t) (tells s) (tells t))
    tells (Term.div s t) = iff_least (first (measure sets false s) (measure sets false t)) (term_magnitude sets s) (iff_first (measure sets false s) (measure sets false t) (term_magnitude sets s) (term_magnitude sets t) (tells s) (tells t))
    tells (Term.rem s t) = iff_least (first (measure sets false s) (measure sets false t)) (term_magnitude sets s) (iff_first (measure sets false s) (measure sets false t) (term_magnitude sets s) (term_magnitude sets t) (tells s) (tells t))
    tells (Term.abs t) = iff_least (measure sets false t) (term_magnitude sets t) (tells t)
    tells (Term.least ts) = tells_some ts
    tells (Term.greatest ts) = tells_some ts
    tells (Term.at None ts) = record { iff = λ h. h.1 }
    tells (Term.at (Some t) ts) =
        iff_as (measure sets false (Term.at (Some t) ts)) (max 1 (cells_magnitude sets t.cells)) (λ h. (h.0, h.1, h.2.0, h.2.1)) (λ h. (h.0, h.1, (h.2, h.3)))
        (iff_table sets t (fit_subscripts sets false t.dims ts) (tells_subscripts t.dims ts))
    tells (Term.truth c) = iff_one (fits sets false c) (tells_fact c)
    tells (Term.asked ask x) = record { iff = λ h. h }

    tells_sum : (ts : Terms) → IsMeasured (measure_sum sets false ts) (IsSmall (sum_magnitude sets ts) × AreSoundTerms sets ts) (sum_magnitude sets ts)
    tells_sum Terms.no_terms = record { iff = ((omega arith, tt), refl) }
    tells_sum (Terms.more_terms t ts) =
        iff_as (added (measure sets false t) (measure_sum sets false ts)) (term_magnitude sets t + sum_magnitude sets ts) (λ h. (h.0, (h.1, h.2.1))) (λ h. (h.0, h.1.0, (omega (arith, h.0), h.1.1)))
        (iff_added (measure sets false t) (measure_sum sets false ts) (term_magnitude sets t) (sum_magnitude sets ts) (tells t) (tells_sum ts))

    tells_all : (ts : Terms) → IsMeasured (measure_all sets false ts) (AreSoundTerms sets ts) (greatest_magnitude sets ts)
    tells_all Terms.no_terms = record { iff = (tt, refl) }
    tells_all (Terms.more_terms t ts) = iff_greater (measure sets false t) (measure_all sets false ts) (term_magnitude sets t) (greatest_magnitude sets ts) (tells t) (tells_all ts)

    tells_pairs : (ts : Terms) → IsMeasured (measure_pairs sets false ts) (AreComparable sets ts × AreSoundTerms sets ts) (greatest_magnitude sets ts)
    tells_pairs Terms.no_terms = record { iff = ((tt, tt), refl) }
    tells_pairs (Terms.more_terms t ts) =
        iff_as (comparable (measure sets false t) (measure_pairs sets false ts)) (max (term_magnitude sets t) (greatest_magnitude sets ts)) (λ h. ((h.0, h.2.0), (h.1, h.2.1))) (λ h. (h.0.0, h.1.0, (h.0.1, h.1.1)))
        (iff_comparable (measure sets false t) (measure_pairs sets false ts) (term_magnitude sets t) (greatest_magnitude sets ts) (tells t) (tells_pairs ts))

    tells_some : (ts : Terms) → IsMeasured (measure_some sets false ts) (IsSome sets ts × AreSoundTerms sets ts) (max 1 (greatest_magnitude sets ts))
    tells_some Terms.no_terms = record { iff = λ h. h.0 }
    tells_some (Terms.more_terms t ts) =
        iff_as (at_least_one (greater (measure sets false t) (measure_all sets false ts))) (max 1 (max (term_magnitude sets t) (greatest_magnitude sets ts))) (λ h. (tt, h)) (λ h. h.1)
        (iff_least (greater (measure sets false t) (measure_all sets false ts)) (max (term_magnitude sets t) (greatest_magnitude sets ts)) (iff_greater (measure sets false t) (measure_all sets false ts) (term_magnitude sets t) (greatest_magnitude sets ts) (tells t) (tells_all ts)))

    tells_subscripts : (dims : List (List ℤ)) (ts : Terms) → IsTold (fit_subscripts sets false dims ts) (FitDimensions sets dims ts × AreSoundTerms sets ts)
    tells_subscripts [] Terms.no_terms = record { told = (tt, tt) }
    tells_subscripts [] (Terms.more_terms t ts) = record { told = λ h. h.0 }
    tells_subscripts (dim ∷ dims) Terms.no_terms = record { told = λ h. h.0 }
    tells_subscripts (dim ∷ dims) (Terms.more_terms t ts) =
        tells_as (fit_subscripts sets false (dim ∷ dims) (Terms.more_terms t ts)) (λ h. ((h.0.0, h.1.0), (h.0.1, h.1.1))) (λ h. ((h.0.0, h.1.0, tt), (h.0.1, h.1.1)))
        (tells_both (is_some (added (measure sets false t) (Some (greatest_abs dim)))) (fit_subscripts sets false dims ts)
        (some_tells (added (measure sets false t) (Some (greatest_abs dim))) (term_magnitude sets t + greatest_abs dim) (iff_added (measure sets false t) (Some (greatest_abs dim)) (term_magnitude sets t) (greatest_abs dim) (tells t) (iff_known (greatest_abs dim)))) (tells_subscripts dims ts))

    pub tells_fact : (c : Fact) → IsTold (fits sets false c) (IsSoundFact sets c)
    tells_fact (Fact.fixed b) = record { told = tt }
    tells_fact (Fact.cmp rel s t) = some_tells (added (measure sets false s) (measure sets false t)) (term_magnitude sets s + term_magnitude sets t) (iff_added (measure sets false s) (measure sets false t) (term_magnitude sets s) (term_magnitude sets t) (tells s) (tells t))
    tells_fact (Fact.and cs) = tells_facts cs
    tells_fact (Fact.or cs) = tells_facts cs
    tells_fact (Fact.iff c d) = tells_both (fits sets false c) (fits sets false d) (tells_fact c) (tells_fact d)
    tells_fact (Fact.not c) = tells_fact c
    tells_fact (Fact.different ts) = some_tells (measure_pairs sets false ts) (greatest_magnitude sets ts) (tells_pairs ts)
    tells_fact (Fact.bound x) = record { told = λ h. h }

    tells_facts : (cs : Facts) → IsTold (all_fit sets false cs) (AreSoundFacts sets cs)
    tells_facts Facts.no_facts = record { told = tt }
    tells_facts (Facts.more_facts c cs) = tells_both (fits sets false c) (all_fit sets false cs) (tells_fact c) (tells_facts cs)
