-- A measure with questions is the magnitude of a sound expression in which questions may stand, and it is missing where the expression isn't sound.
use Rattle.std.proofs.Common.{◌≡◌, ℕ, ◌+◌, ◌*◌, ◌<◌, max, true, refl, List, [], ◌∷◌, length, ℤ, subst, arith}
use Rattle.std.specs.Prelude.{nat_lt, unsigned_abs, Some, None}
use Rattle.opl_expr.specs.Forms.{Term, Terms, Fact, Facts}
use Rattle.opl_expr.specs.Sound.{IsSmall, IsSome, greatest_abs, cells_magnitude, var_magnitude}
use Rattle.opl_expr.specs.declared.forms.Ask.{Ask}
use Rattle.opl_expr.specs.declared.forms.Ask.TheVariants.{Size, Least, Greatest}
use Rattle.opl_trace.specs.Questions.{ask_magnitude, open_magnitude, open_sum, open_greatest, FitOpen, AreOpenComparable, IsOpenTerm, AreOpenTerms, IsOpenFact, AreOpenFacts}
use Rattle.opl_sound.specs.Measures.{small, is_some, added, multiplied, at_least_one, greater, first, measure, measure_sum, measure_all, measure_some, measure_pairs, comparable, fit_subscripts, fits, all_fit, answer_magnitude, measure_question}
use Rattle.opl_sound.proofs.Smaller.{is_measure}
use Rattle.opl_sound.proofs.Tells.{IsTold, IsMeasured, tells_less, tells_both, tells_as, some_tells, iff_as, iff_small, iff_known, iff_added, iff_multiplied, iff_least, iff_greater, iff_comparable, iff_first, iff_one, iff_only, iff_fits, iff_table}

same_answer : (sets : List (ℤ × ℤ)) (ask : Ask) (x : ℕ) → answer_magnitude sets ask x ≡ ask_magnitude sets ask x
same_answer sets Size x = refl
same_answer sets Least x = refl
same_answer sets Greatest x = refl

tells_question : (sets : List (ℤ × ℤ)) (ask : Ask) (x : ℕ) → IsMeasured (measure_question sets true ask x) (IsSmall (ask_magnitude sets ask x) × (x < length sets)) (ask_magnitude sets ask x)
tells_question sets ask x =
    subst (λ n. IsMeasured (measure_question sets true ask x) (IsSmall n × (x < length sets)) n) (same_answer sets ask x)
    (iff_only (nat_lt x (length sets)) (small (answer_magnitude sets ask x)) (answer_magnitude sets ask x) (tells_less x (length sets)) (iff_small (answer_magnitude sets ask x)))

module _ (sets : List (ℤ × ℤ)) where
  mutual
    pub tells : (t : Term) → IsMeasured (measure sets true t) (IsOpenTerm sets t) (open_magnitude sets t)
    tells (Term.const k) = iff_small (unsigned_abs k)
    tells (Term.var x) = iff_only (nat_lt x (length sets)) (small (var_magnitude sets x)) (var_magnitude sets x) (tells_less x (length sets)) (iff_small (var_magnitude sets x))
    tells (Term.sum ts) = tells_sum ts
    tells (Term.neg t) = iff_fits (measure sets true t) (open_magnitude sets t) (is_measure sets true t) (tells t)
    tells (Term.scale k t) = iff_multiplied (small (unsigned_abs k)) (measure sets true t) (unsigned_abs k) (open_magnitude sets t) (iff_small (unsigned_abs k)) (tells t)
    tells (Term.mul s t) =
        iff_least (multiplied (measure sets true s) (measure sets true t)) (open_magnitude sets s * open_magnitude sets t) (iff_multiplied (measure sets true s) (measure sets true t) (open_magnitude sets s) (open_magnitude sets t) (tells s) (tells t))
    tells (Term.div s t) = iff_least (first (measure sets true s) (measure sets true t)) (open_magnitude sets s) (iff_first (measure sets true s) (measure sets true t) (open_magnitude sets s) (open_magnitude sets t) (tells s) (tells t))
    tells (Term.rem s t) = iff_least (first (measure sets true s) (measure sets true t)) (open_magnitude sets s) (iff_first (measure sets true s) (measure sets true t) (open_magnitude sets s) (open_magnitude sets t) (tells s) (tells t))
    tells (Term.abs t) = iff_least (measure sets true t) (open_magnitude sets t) (tells t)
    tells (Term.least ts) = tells_some ts
    tells (Term.greatest ts) = tells_some ts
    tells (Term.at None ts) = record { iff = λ h. h.1 }
    tells (Term.at (Some t) ts) =
        iff_as (measure sets true (Term.at (Some t) ts)) (max 1 (cells_magnitude sets t.cells)) (λ h. (h.0, h.1, h.2.0, h.2.1)) (λ h. (h.0, h.1, (h.2, h.3)))
        (iff_table sets t (fit_subscripts sets true t.dims ts) (tells_subscripts t.dims ts))
    tells (Term.truth c) = iff_one (fits sets true c) (tells_fact c)
    tells (Term.asked ask x) = tells_question sets ask x

    tells_sum : (ts : Terms) → IsMeasured (measure_sum sets true ts) (IsSmall (open_sum sets ts) × AreOpenTerms sets ts) (open_sum sets ts)
    tells_sum Terms.no_terms = record { iff = ((omega arith, tt), refl) }
    tells_sum (Terms.more_terms t ts) =
        iff_as (added (measure sets true t) (measure_sum sets true ts)) (open_magnitude sets t + open_sum sets ts) (λ h. (h.0, (h.1, h.2.1))) (λ h. (h.0, h.1.0, (omega (arith, h.0), h.1.1)))
        (iff_added (measure sets true t) (measure_sum sets true ts) (open_magnitude sets t) (open_sum sets ts) (tells t) (tells_sum ts))

    tells_all : (ts : Terms) → IsMeasured (measure_all sets true ts) (AreOpenTerms sets ts) (open_greatest sets ts)
    tells_all Terms.no_terms = record { iff = (tt, refl) }
    tells_all (Terms.more_terms t ts) = iff_greater (measure sets true t) (measure_all sets true ts) (open_magnitude sets t) (open_greatest sets ts) (tells t) (tells_all ts)

    tells_pairs : (ts : Terms) → IsMeasured (measure_pairs sets true ts) (AreOpenComparable sets ts × AreOpenTerms sets ts) (open_greatest sets ts)
    tells_pairs Terms.no_terms = record { iff = ((tt, tt), refl) }
    tells_pairs (Terms.more_terms t ts) =
        iff_as (comparable (measure sets true t) (measure_pairs sets true ts)) (max (open_magnitude sets t) (open_greatest sets ts)) (λ h. ((h.0, h.2.0), (h.1, h.2.1))) (λ h. (h.0.0, h.1.0, (h.0.1, h.1.1)))
        (iff_comparable (measure sets true t) (measure_pairs sets true ts) (open_magnitude sets t) (open_greatest sets ts) (tells t) (tells_pairs ts))

    tells_some : (ts : Terms) → IsMeasured (measure_some sets true ts) (IsSome sets ts × AreOpenTerms sets ts) (max 1 (open_greatest sets ts))
    tells_some Terms.no_terms = record { iff = λ h. h.0 }
    tells_some (Terms.more_terms t ts) =
        iff_as (at_least_one (greater (measure sets true t) (measure_all sets true ts))) (max 1 (max (open_magnitude sets t) (open_greatest sets ts))) (λ h. (tt, h)) (λ h. h.1)
        (iff_least (greater (measure sets true t) (measure_all sets true ts)) (max (open_magnitude sets t) (open_greatest sets ts)) (iff_greater (measure sets true t) (measure_all sets true ts) (open_magnitude sets t) (open_greatest sets ts) (tells t) (tells_all ts)))

    tells_subscripts : (dims : List (List ℤ)) (ts : Terms) → IsTold (fit_subscripts sets true dims ts) (FitOpen sets dims ts × AreOpenTerms sets ts)
    tells_subscripts [] Terms.no_terms = record { told = (tt, tt) }
    tells_subscripts [] (Terms.more_terms t ts) = record { told = λ h. h.0 }
    tells_subscripts (dim ∷ dims) Terms.no_terms = record { told = λ h. h.0 }
    tells_subscripts (dim ∷ dims) (Terms.more_terms t ts) =
        tells_as (fit_subscripts sets true (dim ∷ dims) (Terms.more_terms t ts)) (λ h. ((h.0.0, h.1.0), (h.0.1, h.1.1))) (λ h. ((h.0.0, h.1.0, tt), (h.0.1, h.1.1)))
        (tells_both (is_some (added (measure sets true t) (Some (greatest_abs dim)))) (fit_subscripts sets true dims ts)
        (some_tells (added (measure sets true t) (Some (greatest_abs dim))) (open_magnitude sets t + greatest_abs dim) (iff_added (measure sets true t) (Some (greatest_abs dim)) (open_magnitude sets t) (greatest_abs dim) (tells t) (iff_known (greatest_abs dim)))) (tells_subscripts dims ts))

    pub tells_fact : (c : Fact) → IsTold (fits sets true c) (IsOpenFact sets c)
    tells_fact (Fact.fixed b) = record { told = tt }
    tells_fact (Fact.cmp rel s t) = some_tells (added (measure sets true s) (measure sets true t)) (open_magnitude sets s + open_magnitude sets t) (iff_added (measure sets true s) (measure sets true t) (open_magnitude sets s) (open_magnitude sets t) (tells s) (tells t))
    tells_fact (Fact.and cs) = tells_facts cs
    tells_fact (Fact.or cs) = tells_facts cs
    tells_fact (Fact.iff c d) = tells_both (fits sets true c) (fits sets true d) (tells_fact c) (tells_fact d)
    tells_fact (Fact.not c) = tells_fact c
    tells_fact (Fact.different ts) = some_tells (measure_pairs sets true ts) (open_greatest sets ts) (tells_pairs ts)
    tells_fact (Fact.bound x) = tells_less x (length sets)

    tells_facts : (cs : Facts) → IsTold (all_fit sets true cs) (AreOpenFacts sets cs)
    tells_facts Facts.no_facts = record { told = tt }
    tells_facts (Facts.more_facts c cs) = tells_both (fits sets true c) (all_fit sets true cs) (tells_fact c) (tells_facts cs)
