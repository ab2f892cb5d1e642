-- What is proved of comparisons of linear sides: what a family refutes of one is told by its linear form alone.
use Rattle.std.specs.Prelude.{◌≡◌, ℕ, Bool, true, false, cond, List, length, ℤ, ◌+ℤ◌, neg_ℤ}
use Rattle.opl_domain.specs.Family.{Family, IsFamily, Full}
use Rattle.opl_expr.specs.declared.forms.Op.{Op}
use Rattle.opl_expr.specs.declared.forms.Op.TheVariants.{Eq}
use Rattle.opl_expr.specs.Forms.{Term, compared}
use Rattle.opl_expr.specs.Range.{coef, pure, is_one_or_two, has_zero}
use Rattle.opl_filter.specs.declared.outcome.Outcome.{Outcome}
use Rattle.opl_filter.specs.Filtering.{refutes, IsBetween, Filters}
use Rattle.opl_linear.specs.Linear.{factor_in}
use Rattle.opl_linear.specs.Forms.{constant_part, kind_of, left_of, right_of, rejects}

-- the factor of each variable in one side less the other
abbrev pub factors_of : Term → Term → ℕ → ℤ
factors_of a b x = coef a x +ℤ neg_ℤ (coef b x)

-- and the constant
abbrev pub constant_of : Term → Term → ℤ
constant_of a b = constant_part a +ℤ neg_ℤ (constant_part b)

-- the difference has one variable, or two with the factors 1 and -1
abbrev pub is_short : Term → Term → Family → Bool
is_short a b F = is_one_or_two (factors_of a b) (length F)

-- a family refutes a comparison of linear sides where it rejects what their difference is to be; of `=` this holds where that isn't short
abbrev pub ComparisonsByForms : Type 0
ComparisonsByForms =
    (op : Op) (a b : Term) (F : Family) → Full F → pure a ≡ true → pure b ≡ true → (op ≡ Eq → is_short a b F ≡ false) →
    refutes (compared op a b) F ≡ rejects (kind_of op) (factors_of (left_of op a b) (right_of op a b)) (constant_of (left_of op a b) (right_of op a b)) F

-- where it is short, a family refutes `=` where no values of its sets make the difference 0
abbrev pub EqualByValues : Type 0
EqualByValues =
    (a b : Term) (F : Family) → Full F → pure a ≡ true → pure b ≡ true → is_short a b F ≡ true →
    refutes (compared Eq a b) F ≡ cond (has_zero F (factors_of a b) (constant_of a b) (length F)) false true

-- what filters the linear form of a comparison filters the comparison; of `=` this holds where it isn't short
abbrev pub ComparisonsFilter : Type 0
ComparisonsFilter =
    (op : Op) (a b : Term) (ps : List (ℕ × ℤ)) (D F : Family) (o : Outcome) → IsFamily D → pure a ≡ true → pure b ≡ true → (op ≡ Eq → is_short a b D ≡ false) →
    ((x : ℕ) → factor_in ps x ≡ factors_of (left_of op a b) (right_of op a b) x) →
    IsBetween (rejects (kind_of op) (factor_in ps) (constant_of (left_of op a b) (right_of op a b))) D F →
    Filters (rejects (kind_of op) (factor_in ps) (constant_of (left_of op a b) (right_of op a b))) D F o →
    IsBetween (refutes (compared op a b)) D F × Filters (refutes (compared op a b)) D F o
