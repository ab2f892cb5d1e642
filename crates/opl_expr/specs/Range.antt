-- The range of an expression or a constraint over a family: an interval, or none where it is surely undefined.
use Rattle.std.specs.Prelude.{ℕ, zero, suc, ◌+◌, Bool, true, false, cond, ◌&&◌, ◌||◌, List, [], ◌∷◌, ◌++◌, map, length, ℤ, pos, negsuc, ◌+ℤ◌, ◌*ℤ◌, neg_ℤ, int_le, int_lt, nat_eq, Option, Some, None}
use Rattle.std.specs.List.{list_any, flat_map}
use Rattle.std.specs.Ordering.{int_eq}
use Rattle.opl_domain.specs.Span.{Span, smaller, larger, point, is_point}
use Rattle.opl_domain.specs.Arithmetic.{span_add, span_neg, span_mul, span_div, span_rem, span_abs, span_min, span_max, span_hull, is_nonzero}
use Rattle.opl_domain.specs.Family.{Family, set_of, hull, only}
use Rattle.opl_expr.specs.declared.tables.Table.{Table}
use Rattle.opl_expr.specs.declared.tables.Cell.{Cell}
use Rattle.opl_expr.specs.declared.tables.Cell.TheVariants as cell
use Rattle.opl_expr.specs.Forms.{Relation, Term, Terms, Fact, Facts}
use Rattle.opl_expr.specs.Forms.Relation.{equal, at_most, below}
use Rattle.opl_expr.specs.Options.{lift1, bind1, lift, bind, lift_all, lift_some, joined}

-- ---- truth as an interval: 1 is true, 0 is false, and [0,1] is open

-- true where `surely`, false where `never`, else open
abbrev pub verdict : Bool → Bool → Span
verdict surely never = record { low = cond surely (pos 1) (pos 0); high = cond never (pos 0) (pos 1) }

-- 1 minus an interval, end by end
unfoldable pub flip : Span → Span
flip a = record { low = pos 1 +ℤ neg_ℤ a.high; high = pos 1 +ℤ neg_ℤ a.low }

-- true where both are fixed and equal, false where both are fixed and unequal
unfoldable pub same_truth : Span → Span → Span
same_truth a b =
    verdict ((is_point (pos 1) a && is_point (pos 1) b) || (is_point (pos 0) a && is_point (pos 0) b))
    ((is_point (pos 1) a && is_point (pos 0) b) || (is_point (pos 0) a && is_point (pos 1) b))

-- the range allows the constraint to hold: it is neither missing nor [0,0]
abbrev pub is_possible : Option Span → Bool
is_possible None = false
is_possible (Some a) = cond (is_point (pos 0) a) false true

-- an interval scaled by a number
unfoldable pub span_scale : ℤ → Span → Span
span_scale k a = record { low = smaller (k *ℤ a.low) (k *ℤ a.high); high = larger (k *ℤ a.low) (k *ℤ a.high) }

-- ---- linear forms

-- a coefficient for each variable; whether there is no other part; the constant and the scaled ranges of the other parts,
-- missing where a part's is
pub record Linear : Type 0 where
  pub coef : ℕ → ℤ
  pub pure : Bool
  pub rest : Option Span

abbrev pub constant : ℤ → Linear
constant k = record { coef = λ x. pos 0; pure = true; rest = Some (point k) }

abbrev pub minus : Linear → Linear → Linear
minus a b = record { coef = λ x. a.coef x +ℤ neg_ℤ (b.coef x); pure = a.pure && b.pure; rest = lift span_add a.rest (lift1 span_neg b.rest) }

-- the sum, over the first n variables, of the coefficient times the hull of the set
abbrev pub weighted : Family → (ℕ → ℤ) → ℕ → Span
weighted F c zero = point (pos 0)
weighted F c (suc n) = span_add (weighted F c n) (span_scale (c n) (hull F n))

unfoldable pub with_variables : Family → (ℕ → ℤ) → ℕ → Span → Span
with_variables F c n r = span_add r (weighted F c n)

abbrev pub range_of_linear : Family → Linear → Option Span
range_of_linear F a = lift1 (with_variables F a.coef (length F)) a.rest

-- ---- comparisons, on the linear form of left minus right

-- how many of the first n variables have a coefficient that passes the test
abbrev pub count : (ℤ → Bool) → (ℕ → ℤ) → ℕ → ℕ
count p c zero = 0
count p c (suc n) = cond (p (c n)) 1 0 + count p c n

-- the form has one variable, or two with coefficients 1 and -1
abbrev pub is_one_or_two : (ℕ → ℤ) → ℕ → Bool
is_one_or_two c n =
    nat_eq (count is_nonzero c n) 1
    || (nat_eq (count is_nonzero c n) 2 && (nat_eq (count (int_eq (pos 1)) c n) 1 && nat_eq (count (int_eq (negsuc 0)) c n) 1))

-- some values of the first n variables make k plus the form zero
abbrev pub has_zero : Family → (ℕ → ℤ) → ℤ → ℕ → Bool
has_zero F c k zero = int_eq k (pos 0)
has_zero F c k (suc n) = list_any (λ v. has_zero F c (k +ℤ (c n *ℤ v)) n) (set_of F n)

-- 0 isn't in the interval
abbrev pub misses_zero : Span → Bool
misses_zero a = int_lt (pos 0) a.low || int_lt a.high (pos 0)

-- the form is surely not zero: by its values where it has one or two variables and no other part, else by its interval
unfoldable pub never_zero : Family → (ℕ → ℤ) → ℕ → Bool → Span → Bool
never_zero F c n p r = cond (p && is_one_or_two c n) (cond (has_zero F c r.low n) false true) (misses_zero (with_variables F c n r))

-- the verdict of a comparison: c are the coefficients of n variables, p tells that there is no other part, r is the rest
unfoldable pub compare : Relation → Family → (ℕ → ℤ) → ℕ → Bool → Span → Span
compare equal F c n p r = verdict (is_point (pos 0) (with_variables F c n r)) (never_zero F c n p r)
compare at_most F c n p r = let d = with_variables F c n r in verdict (int_le d.high (pos 0)) (int_lt (pos 0) d.low)
compare below F c n p r = let d = with_variables F c n r in verdict (int_lt d.high (pos 0)) (int_le (pos 0) d.low)

abbrev pub compare_of : Relation → Family → Linear → Option Span
compare_of rel F d = lift1 (compare rel F d.coef (length F) d.pure) d.rest

-- ---- tables

-- which cells are taken, in order, where each dimension tells which of its indices may be
abbrev pub taken : List (List Bool) → List Bool
taken [] = true ∷ []
taken (index ∷ others) = flat_map (λ b. map (λ c. b && c) (taken others)) index

-- the cells that are taken
abbrev pub chosen : {C : Type 0} → List Bool → List C → List C
chosen [] cells = []
chosen (b ∷ bs) [] = []
chosen (b ∷ bs) (c ∷ cs) = cond b (c ∷ chosen bs cs) (chosen bs cs)

-- which indices of each dimension its subscript may equal
abbrev pub masks : {E : Type 0} → (E → ℤ → Bool) → List (List ℤ) → List E → List (List Bool)
masks may [] es = []
masks may (dim ∷ dims) [] = []
masks may (dim ∷ dims) (e ∷ es) = map (may e) dim ∷ masks may dims es

-- what the cells give that the subscripts may reach, joined; missing where there is none
abbrev pub look_up : {E R : Type 0} → (E → ℤ → Bool) → (Cell → R) → (R → R → R) → Option Table → List E → Option R
look_up may look join None es = None
look_up may look join (Some t) es = joined join (map look (chosen (taken (masks may t.dims es)) t.cells))

abbrev pub cell_range : Family → Cell → Span
cell_range F (cell.Const k) = point k
cell_range F (cell.Var x) = hull F x

-- ---- pairs

-- what each of a list gives alone, and then with each later one
abbrev pub pairwise : {E R : Type 0} → (E → R) → (E → E → R) → List E → List R
pairwise alone two [] = []
pairwise alone two (e ∷ others) = alone e ∷ (map (two e) others ++ pairwise alone two others)

-- 1 where an expression has a range
abbrev pub defined_range : Linear → Option Span
defined_range e = lift1 (λ r. point (pos 1)) e.rest

-- the range of two expressions being different
abbrev pub differ_range : Family → Linear → Linear → Option Span
differ_range F d e = lift1 flip (compare_of equal F (minus d e))

-- ---- the coefficient of a variable in an expression, and whether the expression has no part that isn't linear

abbrev mutual
  pub coef : Term → ℕ → ℤ
  coef (Term.var y) x = cond (nat_eq x y) (pos 1) (pos 0)
  coef (Term.sum ts) x = coefs ts x
  coef (Term.neg t) x = neg_ℤ (coef t x)
  coef (Term.scale k t) x = k *ℤ coef t x
  coef t x = pos 0

  pub coefs : Terms → ℕ → ℤ
  coefs Terms.no_terms x = pos 0
  coefs (Terms.more_terms t ts) x = coef t x +ℤ coefs ts x

abbrev mutual
  pub pure : Term → Bool
  pure (Term.const k) = true
  pure (Term.var y) = true
  pure (Term.sum ts) = all_pure ts
  pure (Term.neg t) = pure t
  pure (Term.scale k t) = pure t
  pure t = false

  pub all_pure : Terms → Bool
  all_pure Terms.no_terms = true
  all_pure (Terms.more_terms t ts) = pure t && all_pure ts

-- ---- ranges

module _ (F : Family) where
  -- the range of an expression, by its rest
  abbrev pub ends : Term → Option Span → Option Span
  ends t r = lift1 (with_variables F (coef t) (length F)) r

  -- the subscript may equal the index
  abbrev pub may_be : Linear → ℤ → Bool
  may_be e i = is_possible (compare_of equal F (minus e (constant i)))

  abbrev mutual
    -- the constant of an expression, plus the scaled ranges of its parts that aren't linear
    pub rest : Term → Option Span
    rest (Term.const k) = Some (point k)
    rest (Term.var y) = Some (point (pos 0))
    rest (Term.sum ts) = lift_all span_add (point (pos 0)) (map (λ e. e.rest) (linears ts))
    rest (Term.neg t) = lift1 span_neg (rest t)
    rest (Term.scale k t) = lift1 (span_scale k) (rest t)
    rest (Term.mul a b) = lift span_mul (ends a (rest a)) (ends b (rest b))
    rest (Term.div a b) = bind span_div (ends a (rest a)) (ends b (rest b))
    rest (Term.rem a b) = bind span_rem (ends a (rest a)) (ends b (rest b))
    rest (Term.abs a) = bind1 span_abs (ends a (rest a))
    rest (Term.least ts) = lift_some span_min (map (range_of_linear F) (linears ts))
    rest (Term.greatest ts) = lift_some span_max (map (range_of_linear F) (linears ts))
    rest (Term.at table ts) = look_up may_be (cell_range F) span_hull table (linears ts)
    rest (Term.truth c) = fact_range c
    rest (Term.asked ask x) = None

    -- the linear forms of expressions
    pub linears : Terms → List Linear
    linears Terms.no_terms = []
    linears (Terms.more_terms t ts) = record { coef = coef t; pure = pure t; rest = rest t } ∷ linears ts

    -- the range of a constraint
    pub fact_range : Fact → Option Span
    fact_range (Fact.fixed b) = Some (point (cond b (pos 1) (pos 0)))
    fact_range (Fact.cmp rel a b) =
        compare_of rel F (minus (record { coef = coef a; pure = pure a; rest = rest a }) (record { coef = coef b; pure = pure b; rest = rest b }))
    fact_range (Fact.and cs) = lift_all span_min (point (pos 1)) (fact_ranges cs)
    fact_range (Fact.or cs) = lift_all span_max (point (pos 0)) (fact_ranges cs)
    fact_range (Fact.iff a b) = lift same_truth (fact_range a) (fact_range b)
    fact_range (Fact.not c) = lift1 flip (fact_range c)
    fact_range (Fact.different ts) = lift_all span_min (point (pos 1)) (pairwise defined_range (differ_range F) (linears ts))
    fact_range (Fact.bound x) = None

    pub fact_ranges : Facts → List (Option Span)
    fact_ranges Facts.no_facts = []
    fact_ranges (Facts.more_facts c cs) = fact_range c ∷ fact_ranges cs

  -- the range of an expression
  abbrev pub range : Term → Option Span
  range t = ends t (rest t)

  -- the family refutes the constraint: its range is missing or [0,0]
  abbrev pub is_refuted : Fact → Bool
  is_refuted c = cond (is_possible (fact_range c)) false true

-- the family refutes the constraint once variable x has the value v alone
abbrev pub is_singly_refuted : Family → Fact → ℕ → ℤ → Bool
is_singly_refuted F c x v = is_refuted (only F x v) c
