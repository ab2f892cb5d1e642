-- Ranges worked out by hand, row by row.
use Rattle.std.proofs.Common.{◌≡◌, ℕ, true, false, refl, List, [], ◌∷◌, ◌++◌, map, ℤ, pos, negsuc}
use Rattle.std.specs.Prelude.{Option, Some, None}
use Rattle.opl_domain.specs.Span.{Span, smaller, larger, hull_of, values}
use Rattle.opl_domain.specs.Arithmetic.{span_add, span_neg, span_mul, span_div, span_rem, span_abs, span_min, span_max, span_hull, low_rest, high_rest, greatest_rest}
use Rattle.opl_domain.specs.Family.{Family, set_of, hull, only}
use Rattle.opl_expr.specs.declared.forms.Ask.TheVariants.{Size}
use Rattle.opl_expr.specs.declared.forms.Op.TheVariants.{Ne, Gt, Ge}
use Rattle.opl_expr.specs.declared.tables.Table.{Table}
use Rattle.opl_expr.specs.declared.tables.Cell.TheVariants as cell
use Rattle.opl_expr.specs.declared.tables.Use.{Use}
use Rattle.opl_expr.specs.declared.tables.Resource.{Resource}
use Rattle.opl_expr.specs.Forms.{Term, Fact, terms_of, facts_of, compared, capacity_at, product}
use Rattle.opl_expr.specs.Forms.Relation.{equal, at_most, below}
use Rattle.opl_expr.specs.Forms.Term.{const, var, neg, scale, mul, div, rem, abs, truth, asked}
use Rattle.opl_expr.specs.Forms.Fact.{fixed, cmp, iff, not, bound}
use Rattle.opl_expr.specs.Range.{flip, same_truth, span_scale, with_variables, never_zero, compare, range, fact_range, is_refuted, is_singly_refuted}

-- x in {1, 2, 4}, y in {-1, 0, 3}, z and u in {0}, w in {2, 3}, b in {0, 1}
abbrev family : Family
family =
    (pos 1 ∷ pos 2 ∷ pos 4 ∷ []) ∷ (negsuc 0 ∷ pos 0 ∷ pos 3 ∷ []) ∷ (pos 0 ∷ []) ∷ (pos 2 ∷ pos 3 ∷ []) ∷ (pos 0 ∷ pos 1 ∷ []) ∷ (pos 0 ∷ []) ∷ []

abbrev x : Term
x = var 0

abbrev y : Term
y = var 1

abbrev z : Term
z = var 2

abbrev w : Term
w = var 3

abbrev b : Term
b = var 4

abbrev u : Term
u = var 5

abbrev n : ℕ → Term
n k = const (pos k)

abbrev sum : List Term → Term
sum ts = Term.sum (terms_of ts)

abbrev and : List Fact → Fact
and cs = Fact.and (facts_of cs)

abbrev or : List Fact → Fact
or cs = Fact.or (facts_of cs)

-- from -m to h
abbrev below_zero : ℕ → ℤ → Option Span
below_zero m h = Some (record { low = negsuc m; high = h })

abbrev from : ℕ → ℕ → Option Span
from l h = Some (record { low = pos l; high = pos h })

-- a quotient by 0
abbrev undefined : Term
undefined = div x z

linear_forms : map (range family) (
    n 7 ∷ x ∷ y ∷ sum (x ∷ y ∷ []) ∷ sum (x ∷ neg x ∷ []) ∷ neg y ∷ scale (pos 3) x ∷ scale (negsuc 1) y ∷ sum []
    ∷ sum (scale (pos 2) x ∷ scale (negsuc 0) x ∷ n 5 ∷ []) ∷ sum (x ∷ mul x y ∷ []) ∷ sum (mul x y ∷ neg (mul x y) ∷ [])
    ∷ scale (pos 0) (mul x y) ∷ scale (pos 0) undefined ∷ sum (x ∷ undefined ∷ []) ∷ [])
    ≡ from 7 7 ∷ from 1 4 ∷ below_zero 0 (pos 3) ∷ from 0 7 ∷ from 0 0 ∷ below_zero 2 (pos 1) ∷ from 3 12 ∷ below_zero 5 (pos 2) ∷ from 0 0
    ∷ from 6 9 ∷ below_zero 2 (pos 16) ∷ below_zero 15 (pos 16) ∷ from 0 0 ∷ None ∷ None ∷ []
unfolding set_of hull hull_of smaller larger span_add span_neg span_mul span_div values span_scale with_variables
linear_forms = refl

products_and_quotients : map (range family) (
    mul x y ∷ mul y y ∷ mul x undefined ∷ div x w ∷ div x y ∷ div y z ∷ div (n 7) y ∷ div (const (negsuc 6)) (n 2) ∷ div (n 0) y ∷ div undefined x ∷ div x undefined ∷ [])
    ≡ below_zero 3 (pos 12) ∷ below_zero 2 (pos 9) ∷ None ∷ from 0 2 ∷ below_zero 3 (pos 4) ∷ None ∷ below_zero 6 (pos 7) ∷ below_zero 2 (negsuc 2) ∷ from 0 0 ∷ None ∷ None ∷ []
unfolding set_of hull hull_of smaller larger span_add span_neg span_mul span_div values span_scale with_variables
products_and_quotients = refl

remainders : map (range family) (
    rem x z ∷ rem x (n 3) ∷ rem (sum (x ∷ n 4 ∷ [])) (n 5) ∷ rem y (n 3) ∷ rem y w ∷ rem (neg x) w ∷ rem x y ∷ rem x (const (negsuc 0)) ∷ rem undefined w ∷ [])
    ≡ None ∷ from 0 2 ∷ from 0 3 ∷ below_zero 0 (pos 2) ∷ below_zero 0 (pos 2) ∷ below_zero 1 (pos 0) ∷ from 0 2 ∷ from 0 0 ∷ None ∷ []
unfolding set_of hull hull_of smaller larger span_add span_neg span_div span_rem low_rest high_rest greatest_rest values span_scale with_variables
remainders = refl

absolute_values_and_extremes : map (range family) (
    abs y ∷ abs (neg x) ∷ abs x ∷ abs undefined ∷ Term.least (terms_of (x ∷ y ∷ [])) ∷ Term.greatest (terms_of (x ∷ y ∷ [])) ∷ Term.least (terms_of (x ∷ []))
    ∷ Term.greatest (terms_of (x ∷ undefined ∷ [])) ∷ Term.least (terms_of (undefined ∷ y ∷ [])) ∷ Term.least (terms_of []) ∷ [])
    ≡ from 0 3 ∷ from 1 4 ∷ from 1 4 ∷ None ∷ below_zero 0 (pos 3) ∷ from 1 4 ∷ from 1 4 ∷ None ∷ None ∷ None ∷ []
unfolding set_of hull hull_of smaller larger span_add span_neg span_div span_abs span_min span_max values span_scale with_variables
absolute_values_and_extremes = refl

-- the cells 10, y, 30 at 1, 2, 3
abbrev row : Table
row = record { name = []; dims = (pos 1 ∷ pos 2 ∷ pos 3 ∷ []) ∷ []; cells = cell.Const (pos 10) ∷ cell.Var 1 ∷ cell.Const (pos 30) ∷ [] }

-- 1, 2 and 3, 4 in two rows
abbrev square : Table
square = record {
  name = [];
  dims = (pos 0 ∷ pos 1 ∷ []) ∷ (pos 0 ∷ pos 1 ∷ []) ∷ [];
  cells = cell.Const (pos 1) ∷ cell.Const (pos 2) ∷ cell.Const (pos 3) ∷ cell.Const (pos 4) ∷ [];
}

abbrev in_row : Term → Term
in_row e = Term.at (Some row) (terms_of (e ∷ []))

tables : map (range family) (
    in_row x ∷ in_row (sum (x ∷ n 1 ∷ [])) ∷ in_row (n 3) ∷ in_row (n 9) ∷ in_row undefined ∷ in_row (mul x b)
    ∷ Term.at (Some square) (terms_of (b ∷ n 1 ∷ [])) ∷ Term.at (Some square) (terms_of (b ∷ n 2 ∷ [])) ∷ [])
    ≡ below_zero 0 (pos 10) ∷ below_zero 0 (pos 30) ∷ from 30 30 ∷ None ∷ None ∷ below_zero 0 (pos 30) ∷ from 2 4 ∷ None ∷ []
unfolding set_of hull hull_of smaller larger span_add span_neg span_mul span_div span_hull values span_scale with_variables never_zero compare
tables = refl

truths : map (range family) (
    truth (cmp at_most x (n 4)) ∷ truth (cmp below x (n 1)) ∷ sum (truth (cmp equal y (n 0)) ∷ truth (cmp equal x (n 3)) ∷ []) ∷ truth (cmp equal undefined x) ∷ asked Size 0 ∷ [])
    ≡ from 1 1 ∷ from 0 0 ∷ from 0 1 ∷ None ∷ None ∷ []
unfolding set_of hull hull_of smaller larger span_add span_neg span_div values span_scale with_variables never_zero compare
truths = refl

-- one variable: by its values
equations_of_one : map (fact_range family) (
    cmp equal x (n 3) ∷ cmp equal x (n 2) ∷ cmp equal z (n 0) ∷ cmp equal (scale (pos 2) x) (n 8) ∷ cmp equal (scale (pos 2) x) (n 5) ∷ cmp equal (sum (x ∷ x ∷ [])) (n 6) ∷ cmp equal (n 3) x ∷ [])
    ≡ from 0 0 ∷ from 0 1 ∷ from 1 1 ∷ from 0 1 ∷ from 0 0 ∷ from 0 0 ∷ from 0 0 ∷ []
unfolding set_of hull hull_of smaller larger span_add span_neg span_scale with_variables never_zero compare
equations_of_one = refl

-- two variables with coefficients 1 and -1: by their values
equations_of_two : map (fact_range family) (
    cmp equal x y ∷ cmp equal x w ∷ cmp equal z u ∷ cmp equal (sum (x ∷ n 1 ∷ [])) w ∷ cmp equal (sum (y ∷ n 2 ∷ [])) x ∷ cmp equal (sum (w ∷ n 4 ∷ [])) x ∷ [])
    ≡ from 0 0 ∷ from 0 1 ∷ from 1 1 ∷ from 0 1 ∷ from 0 1 ∷ from 0 0 ∷ []
unfolding set_of hull hull_of smaller larger span_add span_neg span_scale with_variables never_zero compare
equations_of_two = refl

-- otherwise: by the interval, though no values meet
other_equations : map (fact_range family) (
    cmp equal (sum (x ∷ y ∷ [])) (n 6) ∷ cmp equal (sum (x ∷ scale (pos 0) (mul x y) ∷ [])) (n 3) ∷ cmp equal (scale (pos 2) x) (scale (pos 2) y) ∷ cmp equal x x
    ∷ cmp equal (n 3) (n 4) ∷ cmp equal x undefined ∷ cmp equal (sum (x ∷ y ∷ w ∷ [])) (n 0) ∷ cmp equal (sum (x ∷ w ∷ [])) (sum (w ∷ n 3 ∷ [])) ∷ [])
    ≡ from 0 1 ∷ from 0 1 ∷ from 0 1 ∷ from 1 1 ∷ from 0 0 ∷ None ∷ from 0 0 ∷ from 0 0 ∷ []
unfolding set_of hull hull_of smaller larger span_add span_neg span_mul span_div values span_scale with_variables never_zero compare
other_equations = refl

orders : map (fact_range family) (
    compared Ne x (n 3) ∷ compared Ne x (n 2) ∷ cmp at_most x (n 0) ∷ cmp at_most x (n 1) ∷ cmp at_most x (n 4) ∷ cmp at_most x (n 2) ∷ cmp below x (n 1) ∷ cmp below x (n 5) ∷ cmp below x (n 4)
    ∷ cmp at_most y x ∷ compared Gt x (n 4) ∷ compared Gt x (n 0) ∷ compared Ge x (n 1) ∷ compared Ge x (n 5) ∷ compared Ne x undefined ∷ cmp at_most undefined (n 5) ∷ [])
    ≡ from 1 1 ∷ from 0 1 ∷ from 0 0 ∷ from 0 1 ∷ from 1 1 ∷ from 0 1 ∷ from 0 0 ∷ from 1 1 ∷ from 0 1
    ∷ from 0 1 ∷ from 0 0 ∷ from 1 1 ∷ from 1 1 ∷ from 0 0 ∷ None ∷ None ∷ []
unfolding set_of hull hull_of smaller larger span_add span_neg span_div values flip span_scale with_variables never_zero compare
orders = refl

abbrev certain : Fact
certain = cmp at_most x (n 4)

abbrev impossible : Fact
impossible = cmp equal x (n 3)

abbrev open_one : Fact
open_one = cmp equal x (n 2)

abbrev missing : Fact
missing = cmp equal x undefined

connectives : map (fact_range family) (
    fixed true ∷ fixed false ∷ and [] ∷ or [] ∷ and (open_one ∷ impossible ∷ []) ∷ and (certain ∷ open_one ∷ []) ∷ and (impossible ∷ missing ∷ [])
    ∷ or (impossible ∷ open_one ∷ []) ∷ or (impossible ∷ impossible ∷ []) ∷ or (certain ∷ open_one ∷ []) ∷ or (certain ∷ missing ∷ [])
    ∷ iff certain certain ∷ iff certain impossible ∷ iff impossible impossible ∷ iff open_one open_one ∷ iff certain missing
    ∷ not open_one ∷ not certain ∷ not missing ∷ or (not certain ∷ impossible ∷ []) ∷ or (not impossible ∷ open_one ∷ []) ∷ bound 0 ∷ [])
    ≡ from 1 1 ∷ from 0 0 ∷ from 1 1 ∷ from 0 0 ∷ from 0 0 ∷ from 0 1 ∷ None
    ∷ from 0 1 ∷ from 0 0 ∷ from 1 1 ∷ None
    ∷ from 1 1 ∷ from 0 0 ∷ from 1 1 ∷ from 0 1 ∷ None
    ∷ from 0 1 ∷ from 0 0 ∷ None ∷ from 0 0 ∷ from 1 1 ∷ None ∷ []
unfolding set_of hull hull_of smaller larger span_add span_neg span_div span_min span_max values flip same_truth span_scale with_variables never_zero compare
connectives = refl

differences : map (λ ts. fact_range family (Fact.different (terms_of ts))) (
    [] ∷ (x ∷ []) ∷ (undefined ∷ []) ∷ (x ∷ y ∷ []) ∷ (x ∷ w ∷ []) ∷ (z ∷ u ∷ []) ∷ (x ∷ y ∷ w ∷ []) ∷ (x ∷ undefined ∷ []) ∷ [])
    ≡ from 1 1 ∷ from 1 1 ∷ None ∷ from 1 1 ∷ from 0 1 ∷ from 0 0 ∷ from 0 1 ∷ None ∷ []
unfolding set_of hull hull_of smaller larger span_add span_neg span_div span_min values flip span_scale with_variables never_zero compare
differences = refl

-- a use of 2 that starts at z, so at 0, or at b, so at 0 or 1; both last from 2 to 3
abbrev from_z : Use
from_z = record { demand = pos 2; start = 2; duration = 3 }

abbrev from_b : Use
from_b = record { demand = pos 2; start = 4; duration = 3 }

abbrev resource : List Use → Option Resource
resource uses = Some (record { name = []; capacity = pos 2; from = pos 0; to = pos 4; uses = uses })

capacities : map (fact_range family) (
    capacity_at (resource (from_z ∷ [])) (pos 1) ∷ capacity_at (resource (from_z ∷ from_b ∷ [])) (pos 1) ∷ capacity_at (resource (from_z ∷ from_b ∷ [])) (pos 0)
    ∷ capacity_at (resource (from_b ∷ from_b ∷ [])) (pos 0) ∷ capacity_at (resource (from_z ∷ from_z ∷ [])) (pos 3) ∷ capacity_at (resource []) (pos 0) ∷ [])
    ≡ from 1 1 ∷ from 0 0 ∷ from 0 1 ∷ from 0 1 ∷ from 1 1 ∷ from 1 1 ∷ []
unfolding set_of hull hull_of smaller larger span_add span_neg span_min span_max values flip span_scale with_variables never_zero compare
capacities = refl

refutations : map (is_refuted family) (certain ∷ impossible ∷ open_one ∷ missing ∷ or (certain ∷ missing ∷ []) ∷ []) ++ map (is_singly_refuted family (cmp equal x w) 0) (pos 1 ∷ pos 2 ∷ pos 4 ∷ [])
    ≡ false ∷ true ∷ false ∷ true ∷ true ∷ true ∷ false ∷ true ∷ []
unfolding set_of hull hull_of smaller larger span_add span_neg span_div span_max values only span_scale with_variables never_zero compare
refutations = refl

-- a factor that is a number scales, on either side; else the product multiplies
factors : product (n 2) x ∷ product x (n 2) ∷ product x y ∷ product (n 2) (n 3) ∷ [] ≡ scale (pos 2) x ∷ scale (pos 2) x ∷ mul x y ∷ scale (pos 2) (n 3) ∷ []
factors = refl
