-- What the measures say of each form of expression and constraint, as the code sees it.
use Rattle.std.proofs.Common.{◌≡◌, Bool, true, false, List, map, ℤ, refl, ap, ◌∙◌}
use Rattle.std.specs.Prelude.{ℕ, slice_get}
use Rattle.opl_expr.specs.declared.forms.Ask.{Ask}
use Rattle.opl_expr.specs.declared.forms.Op.{Op}
use Rattle.opl_expr.specs.declared.forms.Expr.{Expr}
use Rattle.opl_expr.specs.declared.forms.Expr.TheVariants as E
use Rattle.opl_expr.specs.declared.forms.Cons.{Cons}
use Rattle.opl_expr.specs.declared.forms.Cons.TheVariants as C
use Rattle.opl_expr.specs.declared.tables.Table.{Table}
use Rattle.opl_expr.specs.declared.tables.Resource.{Resource}
use Rattle.opl_expr.specs.Forms.{Term, Fact, terms_of, facts_of, product, compared, capacity_at, term, fact}
use Rattle.opl_expr.specs.Forms.Facts.{no_facts, more_facts}
use Rattle.opl_expr.proofs.Parts.{product_cases}
use Rattle.opl_expr.proofs.Plain.{term_Const, term_Var, term_Sum, term_Neg, term_Mul, term_Div, term_Rem, term_Abs, term_Min, term_Max, term_At, term_Truth, term_Ask, fact_Fixed, fact_Cmp, fact_And, fact_Or, fact_Imp, fact_Iff, fact_Not, fact_AllDifferent, fact_Capacity, fact_Bound}
use Rattle.opl_sound.specs.Measures.{is_number, measure, fits}

no_number : (s t : Term) → is_number (product s t) ≡ false
no_number = product_cases (λ s t p. is_number p ≡ false) (λ k t. refl) (λ s k. refl) (λ s t. refl)

module _ (tables : List Table) (resources : List Resource) where
  pub number_Const : (k : ℤ) → is_number (term tables resources (E.Const k)) ≡ true
  number_Const k = ap is_number (term_Const tables resources k)

  pub number_Var : (x : ℕ) → is_number (term tables resources (E.Var x)) ≡ false
  number_Var x = ap is_number (term_Var tables resources x)

  pub number_Sum : (es : List Expr) → is_number (term tables resources (E.Sum es)) ≡ false
  number_Sum es = ap is_number (term_Sum tables resources es)

  pub number_Neg : (a : Expr) → is_number (term tables resources (E.Neg a)) ≡ false
  number_Neg a = ap is_number (term_Neg tables resources a)

  pub number_Mul : (a b : Expr) → is_number (term tables resources (E.Mul a b)) ≡ false
  number_Mul a b = ap is_number (term_Mul tables resources a b) ∙ no_number (term tables resources a) (term tables resources b)

  pub number_Div : (a b : Expr) → is_number (term tables resources (E.Div a b)) ≡ false
  number_Div a b = ap is_number (term_Div tables resources a b)

  pub number_Rem : (a b : Expr) → is_number (term tables resources (E.Rem a b)) ≡ false
  number_Rem a b = ap is_number (term_Rem tables resources a b)

  pub number_Abs : (a : Expr) → is_number (term tables resources (E.Abs a)) ≡ false
  number_Abs a = ap is_number (term_Abs tables resources a)

  pub number_Min : (es : List Expr) → is_number (term tables resources (E.Min es)) ≡ false
  number_Min es = ap is_number (term_Min tables resources es)

  pub number_Max : (es : List Expr) → is_number (term tables resources (E.Max es)) ≡ false
  number_Max es = ap is_number (term_Max tables resources es)

  pub number_At : (t : ℕ) (es : List Expr) → is_number (term tables resources (E.At t es)) ≡ false
  number_At t es = ap is_number (term_At tables resources t es)

  pub number_Truth : (c : Cons) → is_number (term tables resources (E.Truth c)) ≡ false
  number_Truth c = ap is_number (term_Truth tables resources c)

  pub number_Ask : (ask : Ask) (x : ℕ) → is_number (term tables resources (E.Ask ask x)) ≡ false
  number_Ask ask x = ap is_number (term_Ask tables resources ask x)

  module _ (sets : List (ℤ × ℤ)) (asks : Bool) where
    pub measure_Const : (k : ℤ) → measure sets asks (term tables resources (E.Const k)) ≡ measure sets asks (Term.const k)
    measure_Const k = ap (measure sets asks) (term_Const tables resources k)

    pub measure_Var : (x : ℕ) → measure sets asks (term tables resources (E.Var x)) ≡ measure sets asks (Term.var x)
    measure_Var x = ap (measure sets asks) (term_Var tables resources x)

    pub measure_Sum : (es : List Expr) → measure sets asks (term tables resources (E.Sum es)) ≡ measure sets asks (Term.sum (terms_of (map (term tables resources) es)))
    measure_Sum es = ap (measure sets asks) (term_Sum tables resources es)

    pub measure_Neg : (a : Expr) → measure sets asks (term tables resources (E.Neg a)) ≡ measure sets asks (Term.neg (term tables resources a))
    measure_Neg a = ap (measure sets asks) (term_Neg tables resources a)

    pub measure_Mul : (a b : Expr) → measure sets asks (term tables resources (E.Mul a b)) ≡ measure sets asks (product (term tables resources a) (term tables resources b))
    measure_Mul a b = ap (measure sets asks) (term_Mul tables resources a b)

    pub measure_Div : (a b : Expr) → measure sets asks (term tables resources (E.Div a b)) ≡ measure sets asks (Term.div (term tables resources a) (term tables resources b))
    measure_Div a b = ap (measure sets asks) (term_Div tables resources a b)

    pub measure_Rem : (a b : Expr) → measure sets asks (term tables resources (E.Rem a b)) ≡ measure sets asks (Term.rem (term tables resources a) (term tables resources b))
    measure_Rem a b = ap (measure sets asks) (term_Rem tables resources a b)

    pub measure_Abs : (a : Expr) → measure sets asks (term tables resources (E.Abs a)) ≡ measure sets asks (Term.abs (term tables resources a))
    measure_Abs a = ap (measure sets asks) (term_Abs tables resources a)

    pub measure_Min : (es : List Expr) → measure sets asks (term tables resources (E.Min es)) ≡ measure sets asks (Term.least (terms_of (map (term tables resources) es)))
    measure_Min es = ap (measure sets asks) (term_Min tables resources es)

    pub measure_Max : (es : List Expr) → measure sets asks (term tables resources (E.Max es)) ≡ measure sets asks (Term.greatest (terms_of (map (term tables resources) es)))
    measure_Max es = ap (measure sets asks) (term_Max tables resources es)

    pub measure_At : (t : ℕ) (es : List Expr) → measure sets asks (term tables resources (E.At t es)) ≡ measure sets asks (Term.at (slice_get tables t) (terms_of (map (term tables resources) es)))
    measure_At t es = ap (measure sets asks) (term_At tables resources t es)

    pub measure_Truth : (c : Cons) → measure sets asks (term tables resources (E.Truth c)) ≡ measure sets asks (Term.truth (fact tables resources c))
    measure_Truth c = ap (measure sets asks) (term_Truth tables resources c)

    pub measure_Ask : (ask : Ask) (x : ℕ) → measure sets asks (term tables resources (E.Ask ask x)) ≡ measure sets asks (Term.asked ask x)
    measure_Ask ask x = ap (measure sets asks) (term_Ask tables resources ask x)

    pub fits_Fixed : (b : Bool) → fits sets asks (fact tables resources (C.Fixed b)) ≡ fits sets asks (Fact.fixed b)
    fits_Fixed b = ap (fits sets asks) (fact_Fixed tables resources b)

    pub fits_Cmp : (op : Op) (a b : Expr) → fits sets asks (fact tables resources (C.Cmp op a b)) ≡ fits sets asks (compared op (term tables resources a) (term tables resources b))
    fits_Cmp op a b = ap (fits sets asks) (fact_Cmp tables resources op a b)

    pub fits_And : (cs : List Cons) → fits sets asks (fact tables resources (C.And cs)) ≡ fits sets asks (Fact.and (facts_of (map (fact tables resources) cs)))
    fits_And cs = ap (fits sets asks) (fact_And tables resources cs)

    pub fits_Or : (cs : List Cons) → fits sets asks (fact tables resources (C.Or cs)) ≡ fits sets asks (Fact.or (facts_of (map (fact tables resources) cs)))
    fits_Or cs = ap (fits sets asks) (fact_Or tables resources cs)

    pub fits_Imp : (a b : Cons) → fits sets asks (fact tables resources (C.Imp a b)) ≡ fits sets asks (Fact.or (more_facts (Fact.not (fact tables resources a)) (more_facts (fact tables resources b) no_facts)))
    fits_Imp a b = ap (fits sets asks) (fact_Imp tables resources a b)

    pub fits_Iff : (a b : Cons) → fits sets asks (fact tables resources (C.Iff a b)) ≡ fits sets asks (Fact.iff (fact tables resources a) (fact tables resources b))
    fits_Iff a b = ap (fits sets asks) (fact_Iff tables resources a b)

    pub fits_Not : (a : Cons) → fits sets asks (fact tables resources (C.Not a)) ≡ fits sets asks (Fact.not (fact tables resources a))
    fits_Not a = ap (fits sets asks) (fact_Not tables resources a)

    pub fits_AllDifferent : (es : List Expr) → fits sets asks (fact tables resources (C.AllDifferent es)) ≡ fits sets asks (Fact.different (terms_of (map (term tables resources) es)))
    fits_AllDifferent es = ap (fits sets asks) (fact_AllDifferent tables resources es)

    pub fits_Capacity : (r : ℕ) (t : ℤ) → fits sets asks (fact tables resources (C.Capacity r t)) ≡ fits sets asks (capacity_at (slice_get resources r) t)
    fits_Capacity r t = ap (fits sets asks) (fact_Capacity tables resources r t)

    pub fits_Bound : (x : ℕ) → fits sets asks (fact tables resources (C.Bound x)) ≡ fits sets asks (Fact.bound x)
    fits_Bound x = ap (fits sets asks) (fact_Bound tables resources x)

pub ruleset are_numbers = (number_Const, number_Var, number_Sum, number_Neg, number_Mul, number_Div, number_Rem, number_Abs, number_Min, number_Max, number_At, number_Truth, number_Ask)

pub ruleset measures = (measure_Const, measure_Var, measure_Sum, measure_Neg, measure_Mul, measure_Div, measure_Rem, measure_Abs, measure_Min, measure_Max, measure_At, measure_Truth, measure_Ask)

pub ruleset fittings = (fits_Fixed, fits_Cmp, fits_And, fits_Or, fits_Imp, fits_Iff, fits_Not, fits_AllDifferent, fits_Capacity, fits_Bound)
