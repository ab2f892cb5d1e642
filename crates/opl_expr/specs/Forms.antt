-- Ground expressions and constraints as plain data, on which their ranges and their meaning are defined. The forms that
-- are short for others, as `<>`, `=>` and a capacity, are written out here.
use Rattle.std.specs.Prelude.{ℕ, Bool, List, [], ◌∷◌, map, ℤ, pos, Option, Some, None, slice_get}
use Rattle.opl_expr.specs.declared.forms.Ask.{Ask}
use Rattle.opl_expr.specs.declared.forms.Op.{Op}
use Rattle.opl_expr.specs.declared.forms.Op.TheVariants.{Eq, Ne, Lt, Le, Gt, Ge}
use Rattle.opl_expr.specs.declared.forms.Expr.{Expr}
use Rattle.opl_expr.specs.declared.forms.Cons.{Cons}
use Rattle.opl_expr.specs.declared.forms.Cons.TheOpen.{Expr-F, Cons-F}
use Rattle.opl_expr.specs.declared.forms.Cons.TheFolds.{fold-Expr, fold-Cons}
use Rattle.opl_expr.specs.declared.tables.Table.{Table}
use Rattle.opl_expr.specs.declared.tables.Use.{Use}
use Rattle.opl_expr.specs.declared.tables.Resource.{Resource}

-- how a comparison relates its sides
pub data Relation : Type 0 where
  equal : Relation
  at_most : Relation
  below : Relation

mutual
  -- an expression; `scale k t` is the product of t and the number k, and `at` has its whole table
  pub data Term : Type 0 where
    const : ℤ → Term
    var : ℕ → Term
    sum : Terms → Term
    neg : Term → Term
    scale : ℤ → Term → Term
    mul : Term → Term → Term
    div : Term → Term → Term
    rem : Term → Term → Term
    abs : Term → Term
    least : Terms → Term
    greatest : Terms → Term
    at : Option Table → Terms → Term
    truth : Fact → Term
    asked : Ask → ℕ → Term

  pub data Terms : Type 0 where
    no_terms : Terms
    more_terms : Term → Terms → Terms

  -- a constraint; `different` says that expressions are defined and differ pairwise
  pub data Fact : Type 0 where
    fixed : Bool → Fact
    cmp : Relation → Term → Term → Fact
    and : Facts → Fact
    or : Facts → Fact
    iff : Fact → Fact → Fact
    not : Fact → Fact
    different : Terms → Fact
    bound : ℕ → Fact

  pub data Facts : Type 0 where
    no_facts : Facts
    more_facts : Fact → Facts → Facts

abbrev pub terms_of : List Term → Terms
terms_of [] = no_terms
terms_of (t ∷ ts) = more_terms t (terms_of ts)

abbrev pub facts_of : List Fact → Facts
facts_of [] = no_facts
facts_of (c ∷ cs) = more_facts c (facts_of cs)

-- the sum of two expressions
abbrev pub plus : Term → Term → Term
plus a b = sum (more_terms a (more_terms b no_terms))

-- `<>` is the opposite of `=`, and `>` and `>=` are `<` and `<=` with the sides exchanged
abbrev pub compared : Op → Term → Term → Fact
compared Eq a b = cmp equal a b
compared Ne a b = not (cmp equal a b)
compared Lt a b = cmp below a b
compared Le a b = cmp at_most a b
compared Gt a b = cmp below b a
compared Ge a b = cmp at_most b a

-- the number that an expression is, if it is one
abbrev pub constant_value : Term → Option ℤ
constant_value (const k) = Some k
constant_value _ = None

-- a product scales where a factor is a number, and else multiplies
abbrev pub product_by : Option ℤ → Option ℤ → Term → Term → Term
product_by (Some k) d a b = scale k b
product_by None (Some k) a b = scale k a
product_by None None a b = mul a b

abbrev pub product : Term → Term → Term
product a b = product_by (constant_value a) (constant_value b) a b

-- the demand of a use at time t: all of it from its start up to its end, else 0
abbrev pub demand_at : ℤ → Use → Term
demand_at t u =
    scale u.demand
    (truth (and (more_facts (cmp at_most (var u.start) (const t)) (more_facts (cmp below (const t) (plus (var u.start) (var u.duration))) no_facts))))

-- at time t the demands on a resource are at most its capacity; of a resource that isn't there, this has no value
abbrev pub capacity_at : Option Resource → ℤ → Fact
capacity_at None t = cmp equal (at None no_terms) (const (pos 0))
capacity_at (Some r) t = cmp at_most (sum (terms_of (map (demand_at t) r.uses))) (const r.capacity)

module _ (tables : List Table) (resources : List Resource) where
  -- one layer of an expression, its parts being plain data already
  abbrev pub term_layer : Expr-F Fact Term → Term
  term_layer (Expr-F.Const k) = const k
  term_layer (Expr-F.Var x) = var x
  term_layer (Expr-F.Sum parts) = sum (terms_of parts)
  term_layer (Expr-F.Neg a) = neg a
  term_layer (Expr-F.Mul a b) = product a b
  term_layer (Expr-F.Div a b) = div a b
  term_layer (Expr-F.Rem a b) = rem a b
  term_layer (Expr-F.Abs a) = abs a
  term_layer (Expr-F.Min parts) = least (terms_of parts)
  term_layer (Expr-F.Max parts) = greatest (terms_of parts)
  term_layer (Expr-F.At t parts) = at (slice_get tables t) (terms_of parts)
  term_layer (Expr-F.Truth c) = truth c
  term_layer (Expr-F.Ask ask x) = asked ask x

  -- one layer of a constraint
  abbrev pub fact_layer : Cons-F Fact Term → Fact
  fact_layer (Cons-F.Fixed b) = fixed b
  fact_layer (Cons-F.Cmp op a b) = compared op a b
  fact_layer (Cons-F.And parts) = and (facts_of parts)
  fact_layer (Cons-F.Or parts) = or (facts_of parts)
  fact_layer (Cons-F.Imp a b) = or (more_facts (not a) (more_facts b no_facts))
  fact_layer (Cons-F.Iff a b) = iff a b
  fact_layer (Cons-F.Not a) = not a
  fact_layer (Cons-F.AllDifferent parts) = different (terms_of parts)
  fact_layer (Cons-F.Capacity r t) = capacity_at (slice_get resources r) t
  fact_layer (Cons-F.Bound x) = bound x

  -- the plain data of an expression, with the tables that it names
  unfoldable pub term : Expr → Term
  term = fold-Expr Fact Term fact_layer term_layer

  -- the plain data of a constraint
  unfoldable pub fact : Cons → Fact
  fact = fold-Cons Fact Term fact_layer term_layer
