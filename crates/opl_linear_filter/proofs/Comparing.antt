-- The filter of a comparison of linear sides: how it is made, and that it filters the comparison.
use Rattle.std.proofs.Common.{◌≡◌, ◌∙◌, ℕ, Bool, true, false, refl, length, ap, sym, subst}
use Rattle.std.proofs.Math.Path.{fun_ext}
use Rattle.opl_domain.specs.Family.{Family, IsFamily, Full, Below}
use Rattle.opl_expr.specs.declared.model.Core.{Core}
use Rattle.opl_expr.specs.declared.forms.Op.{Op}
use Rattle.opl_expr.specs.declared.forms.Op.TheVariants.{Eq}
use Rattle.opl_expr.specs.declared.forms.Expr.{Expr}
use Rattle.opl_expr.specs.Forms.{Term, Fact, compared}
use Rattle.opl_expr.specs.Range.{pure, is_one_or_two}
use Rattle.opl_expr.specs.Solutions.{declared}
use Rattle.opl_filter.specs.declared.outcome.Outcome.{Outcome}
use Rattle.opl_filter.specs.Filtering.{refutes, IsBetween, Filters}
use Rattle.opl_range.specs.Between.{term_of, between, CanCompare}
use Rattle.opl_linear.specs.declared.kind.Kind.{Kind}
use Rattle.opl_linear.specs.declared.kind.Kind.TheVariants as kinds
use Rattle.opl_linear.specs.Linear.{factor_in}
use Rattle.opl_linear.specs.Forms.{kind_of, left_of, right_of, rejects}
use Rattle.opl_linear.specs.Laws.{factors_of, constant_of}
use Rattle.opl_linear.proofs.Carrying.{SaysTheSame, between_carried, outcome_carried, comparisons_by_forms, comparisons_filter}
use Rattle.opl_linear_filter.specs.declared.linear_filter.LinearFilter.{LinearFilter}
use Rattle.opl_linear_filter.specs.Parts.{ArePartsBoth, is_short}
use Rattle.opl_linear_filter.specs.ShortForms.{equation, IsShort}
use Rattle.opl_linear_filter.specs.LinearForms.{IsMade, IsDifference, IsFilterOf}
use Rattle.opl_linear_filter.proofs.Weights.{form_fits, all_factors, between_is, below_length}
use Rattle.opl_linear_filter.proofs.Counts.{short_is}
use Rattle.opl_linear_filter.proofs.Equations.{only_equal, equation_is, equality_is}

pub difference_made : (core : Core) (kind : Kind) (a b : Expr) (f : LinearFilter) → CanCompare core a b → pure (term_of core a) ≡ true → pure (term_of core b) ≡ true
    → f.kind ≡ kind → ArePartsBoth (between core a b) (length core.sets) (f.parts, f.opposites) → f.constant ≡ constant_of (term_of core a) (term_of core b)
    → IsDifference core kind (term_of core a) (term_of core b) f
difference_made core kind a b f s p q k i j =
    let e = all_factors core (term_of core a) (term_of core b) f.parts s.1 s.2 i.0.among (λ x l. i.0.same x l ∙ between_is core a b x) in
    record {
      made = record {
        once = i.0.once;
        falling = i.0.falling;
        among = i.0.among;
        factors = i.0.factors;
        opposites = i.1;
        fits = form_fits core (term_of core a) (term_of core b) f.parts f.constant s.0 p q e i.0.once i.0.among j;
      };
      kind = k;
      factors = e;
      constant = j;
    }

-- the filter of a comparison
pub comparison_made : (core : Core) (op : Op) (a b : Term) (f : LinearFilter) → pure a ≡ true → pure b ≡ true → IsDifference core (kind_of op) (left_of op a b) (right_of op a b) f → IsFilterOf core (compared op a b) f
comparison_made core op a b f p q d = record { op = op; left = a; right = b; is = refl; comparison = record { first = p; second = q; difference = d } }

-- a short form of an equality
pub short_form : (core : Core) (f : LinearFilter) → IsMade core f → is_short f.parts ≡ true → IsShort core f.parts f.constant
short_form core f m s = record { short = s; falling = m.falling; among = m.among; factors = m.factors; fits = m.fits }

not_both : (b : Bool) → b ≡ true → b ≡ false → ⊥
not_both b h k = cc

-- a form that is not short has not one variable, nor two with opposite units
module _ (core : Core) (c : Fact) (f : LinearFilter) (is : IsFilterOf core c f) where
  pub long_as : (n : ℕ) → n ≡ length core.sets → is.op ≡ Eq → is_short f.parts ≡ false → is_one_or_two (factors_of is.left is.right) n ≡ false
  long_as n l e h =
      let d = is.comparison.difference in
      let left : left_of is.op is.left is.right ≡ is.left = ap (λ z. left_of z is.left is.right) e in
      let right : right_of is.op is.left is.right ≡ is.right = ap (λ z. right_of z is.left is.right) e in
      let same : (x : ℕ) → factor_in f.parts x ≡ factors_of is.left is.right x = λ x. d.factors x ∙ ap (λ z. factors_of z (right_of is.op is.left is.right) x) left ∙ ap (λ z. factors_of is.left z x) right in
      ap (is_one_or_two (factors_of is.left is.right)) l ∙ short_is (factors_of is.left is.right) f.parts (length core.sets) same d.made.once d.made.among d.made.factors ∙ h

-- a family refutes the constraint exactly where it rejects the form
pub form_refutes : (core : Core) (c : Fact) (f : LinearFilter) (is : IsFilterOf core c f) (F : Family) → Full F → length F ≡ length core.sets → (f.kind ≡ kinds.Zero → is_short f.parts ≡ false) → rejects f.kind (factor_in f.parts) f.constant F ≡ refutes c F
form_refutes core c f is F w l long =
    let m = is.comparison in
    let d = m.difference in
    let factors = factors_of (left_of is.op is.left is.right) (right_of is.op is.left is.right) in
    ap (λ z. rejects z (factor_in f.parts) f.constant F) d.kind
    ∙ ap (λ z. rejects (kind_of is.op) z f.constant F) (fun_ext d.factors)
    ∙ ap (λ z. rejects (kind_of is.op) factors z F) d.constant
    ∙ sym (ap (λ z. refutes z F) is.is ∙ comparisons_by_forms is.op is.left is.right F w m.first m.second (λ e. long_as core c f is (length F) l e (long (d.kind ∙ ap kind_of e))))

-- of a short form that is to be 0, where it refutes the equation
pub short_refutes : (core : Core) (c : Fact) (f : LinearFilter) (is : IsFilterOf core c f) (F : Family) → Full F → length F ≡ length core.sets → f.kind ≡ kinds.Zero → is_short f.parts ≡ true → refutes (equation f.parts f.constant) F ≡ refutes c F
short_refutes core c f is F w l z s =
    let m = is.comparison in
    let d = m.difference in
    let e = only_equal is.op (sym d.kind ∙ z) in
    let left : left_of is.op is.left is.right ≡ is.left = ap (λ z. left_of z is.left is.right) e in
    let right : right_of is.op is.left is.right ≡ is.right = ap (λ z. right_of z is.left is.right) e in
    let factors : (x : ℕ) → factor_in f.parts x ≡ factors_of is.left is.right x = λ x. d.factors x ∙ ap (λ z. factors_of z (right_of is.op is.left is.right) x) left ∙ ap (λ z. factors_of is.left z x) right in
    let constant : f.constant ≡ constant_of is.left is.right = d.constant ∙ ap (λ z. constant_of z (right_of is.op is.left is.right)) left ∙ ap (λ z. constant_of is.left z) right in
    equation_is core f.parts f.constant F w l s d.made.once d.made.among d.made.factors
    ∙ sym (ap (λ y. refutes y F) (is.is ∙ ap (λ y. compared y is.left is.right) e) ∙ equality_is is.left is.right f.parts f.constant F w m.first m.second factors constant
    (ap (is_one_or_two (factors_of is.left is.right)) l ∙ short_is (factors_of is.left is.right) f.parts (length core.sets) factors d.made.once d.made.among d.made.factors ∙ s))

-- what filters the form filters the constraint
module _ (core : Core) (c : Fact) (f : LinearFilter) (is : IsFilterOf core c f) (D F : Family) (o : Outcome) (sets : IsFamily D) (b : Below D (declared core)) where
  pub form_filters : (f.kind ≡ kinds.Zero → is_short f.parts ≡ false) → IsBetween (rejects f.kind (factor_in f.parts) f.constant) D F → Filters (rejects f.kind (factor_in f.parts) f.constant) D F o → IsBetween (refutes c) D F × Filters (refutes c) D F o
  form_filters long i g =
      let m = is.comparison in
      let d = m.difference in
      let k = constant_of (left_of is.op is.left is.right) (right_of is.op is.left is.right) in
      let same : rejects f.kind (factor_in f.parts) f.constant ≡ rejects (kind_of is.op) (factor_in f.parts) k = ap (λ z. rejects z (factor_in f.parts) f.constant) d.kind ∙ ap (rejects (kind_of is.op) (factor_in f.parts)) d.constant in
      subst (λ z. IsBetween (refutes z) D F × Filters (refutes z) D F o) (sym is.is)
      (comparisons_filter is.op is.left is.right f.parts D F o sets m.first m.second (λ e. long_as core c f is (length D) (below_length core D b) e (long (d.kind ∙ ap kind_of e))) d.factors
      (subst (λ t. IsBetween t D F) same i) (subst (λ t. Filters t D F o) same g))

  -- what filters the equation of a short form filters the constraint
  pub short_filters : f.kind ≡ kinds.Zero → is_short f.parts ≡ true → IsBetween (refutes (equation f.parts f.constant)) D F → Filters (refutes (equation f.parts f.constant)) D F o → IsBetween (refutes c) D F × Filters (refutes c) D F o
  short_filters z s i g =
      let same : SaysTheSame (length D) (refutes (equation f.parts f.constant)) (refutes c) = λ G w h. short_refutes core c f is G w (h ∙ below_length core D b) z s in
      (between_carried (length D) (refutes (equation f.parts f.constant)) (refutes c) same D F sets refl i, outcome_carried (length D) (refutes (equation f.parts f.constant)) (refutes c) same D F o refl g)
