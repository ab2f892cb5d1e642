-- The texts of ground expressions and constraints, and of a whole core.
use Rattle.std.specs.Prelude.{ℕ, zero, suc, ℤ, Bool, cond, codes, decimal, length, List, [], ◌∷◌, ◌++◌, nat_eq, Option, None, Some, slice_get}
use Rattle.std.specs.Fmt.{signed_decimal}
use Rattle.opl_expr.specs.declared.forms.Ask.{Ask}
use Rattle.opl_expr.specs.declared.forms.Ask.TheVariants.{Size, Least, Greatest}
use Rattle.opl_expr.specs.declared.forms.Op.{Op}
use Rattle.opl_expr.specs.declared.forms.Op.TheVariants.{Eq, Ne, Lt, Le, Gt, Ge}
use Rattle.opl_expr.specs.declared.forms.Expr.{Expr}
use Rattle.opl_expr.specs.declared.forms.Cons.{Cons}
use Rattle.opl_expr.specs.declared.forms.Cons.TheOpen.{Expr-F, Cons-F}
use Rattle.opl_expr.specs.declared.forms.Cons.TheFolds.{fold-Expr, fold-Cons}
use Rattle.opl_expr.specs.declared.forms.Cons.TheViews.{out-Cons}
use Rattle.opl_expr.specs.declared.tables.Table.{Table}
use Rattle.opl_expr.specs.declared.tables.Resource.{Resource}
use Rattle.opl_expr.specs.declared.model.Goal.{Goal}
use Rattle.opl_expr.specs.declared.model.Core.{Core}

-- ---- nodes

-- each of these behind a blank
abbrev pub spaced : List (List ℕ) → List ℕ
spaced [] = []
spaced (t ∷ ts) = codes " " ++ t ++ spaced ts

-- a word and the texts of its parts, with a blank before each part
abbrev pub node : List ℕ → List (List ℕ) → List ℕ
node word parts = codes "(" ++ word ++ spaced parts ++ codes ")"

-- one part alone stands for itself
abbrev pub chain : List ℕ → List (List ℕ) → List ℕ
chain word [] = node word []
chain word (t ∷ []) = t
chain word (t ∷ s ∷ ts) = node word (t ∷ s ∷ ts)

-- how a comparison is written
abbrev pub op_word : Op → List ℕ
op_word Eq = codes "="
op_word Ne = codes "<>"
op_word Lt = codes "<"
op_word Le = codes "<="
op_word Gt = codes ">"
op_word Ge = codes ">="

-- how a question is written
abbrev pub ask_word : Ask → List ℕ
ask_word Size = codes "dsize"
ask_word Least = codes "dmin"
ask_word Greatest = codes "dmax"

-- the text of a truth
abbrev pub truth_text : Bool → List ℕ
truth_text b = cond b (codes "true") (codes "false")

-- two numbers with `..` between them
abbrev pub ends_text : ℤ → ℤ → List ℕ
ends_text low high = signed_decimal low ++ codes ".." ++ signed_decimal high

-- the name of a variable; nothing where there is no such variable
abbrev pub name_text : Option (List ℕ) → List ℕ
name_text None = []
name_text (Some name) = name

-- the name of a table; nothing where there is no such table
abbrev pub table_name : Option Table → List ℕ
table_name None = []
table_name (Some t) = t.name

-- the capacity of a resource at the times from the first to the second; nothing where there is no such resource
abbrev pub capacity_text : Option Resource → ℤ → ℤ → List ℕ
capacity_text None from to = []
capacity_text (Some r) from to =
    codes "(capacity " ++ r.name ++ codes " " ++ ends_text from to ++ codes " " ++ signed_decimal r.capacity ++ codes ")"

-- ---- expressions and constraints

module _ (core : Core) where
  -- the name of the variable with this number
  abbrev pub variable_name : ℕ → List ℕ
  variable_name x = name_text (slice_get core.names x)

  -- one layer of an expression, its parts being texts already
  abbrev pub expr_layer : Expr-F (List ℕ) (List ℕ) → List ℕ
  expr_layer (Expr-F.Const k) = signed_decimal k
  expr_layer (Expr-F.Var x) = variable_name x
  expr_layer (Expr-F.Sum parts) = chain (codes "+") parts
  expr_layer (Expr-F.Neg a) = node (codes "-") (a ∷ [])
  expr_layer (Expr-F.Mul a b) = node (codes "*") (a ∷ b ∷ [])
  expr_layer (Expr-F.Div a b) = node (codes "div") (a ∷ b ∷ [])
  expr_layer (Expr-F.Rem a b) = node (codes "mod") (a ∷ b ∷ [])
  expr_layer (Expr-F.Abs a) = node (codes "abs") (a ∷ [])
  expr_layer (Expr-F.Min parts) = node (codes "min") parts
  expr_layer (Expr-F.Max parts) = node (codes "max") parts
  expr_layer (Expr-F.At t parts) = node (codes "at") (table_name (slice_get core.tables t) ∷ parts)
  expr_layer (Expr-F.Truth c) = c
  expr_layer (Expr-F.Ask ask x) = node (ask_word ask) (variable_name x ∷ [])

  -- one layer of a constraint
  abbrev pub cons_layer : Cons-F (List ℕ) (List ℕ) → List ℕ
  cons_layer (Cons-F.Fixed b) = truth_text b
  cons_layer (Cons-F.Cmp op a b) = node (op_word op) (a ∷ b ∷ [])
  cons_layer (Cons-F.And parts) = chain (codes "&") parts
  cons_layer (Cons-F.Or parts) = chain (codes "\\/") parts
  cons_layer (Cons-F.Imp a b) = node (codes "=>") (a ∷ b ∷ [])
  cons_layer (Cons-F.Iff a b) = node (codes "<=>") (a ∷ b ∷ [])
  cons_layer (Cons-F.Not a) = node (codes "not") (a ∷ [])
  cons_layer (Cons-F.AllDifferent parts) = node (codes "alldifferent") parts
  cons_layer (Cons-F.Capacity r t) = capacity_text (slice_get core.resources r) t t
  cons_layer (Cons-F.Bound x) = node (codes "bound") (variable_name x ∷ [])

  -- the text of an expression
  unfoldable pub expr_text : Expr → List ℕ
  expr_text = fold-Expr (List ℕ) (List ℕ) cons_layer expr_layer

  -- the text of a constraint
  unfoldable pub cons_text : Cons → List ℕ
  cons_text = fold-Cons (List ℕ) (List ℕ) cons_layer expr_layer

-- ---- lines

-- the resource of a capacity constraint; none of another constraint
abbrev pub resource_layer : Cons-F Cons Expr → Option ℕ
resource_layer (Cons-F.Fixed b) = None
resource_layer (Cons-F.Cmp op a b) = None
resource_layer (Cons-F.And parts) = None
resource_layer (Cons-F.Or parts) = None
resource_layer (Cons-F.Imp a b) = None
resource_layer (Cons-F.Iff a b) = None
resource_layer (Cons-F.Not a) = None
resource_layer (Cons-F.AllDifferent parts) = None
resource_layer (Cons-F.Capacity r t) = Some r
resource_layer (Cons-F.Bound x) = None

unfoldable pub resource_of : Cons → Option ℕ
resource_of c = resource_layer (out-Cons c)

-- the same of the constraint at this number, if there is one
abbrev pub resource_at : Option Cons → Option ℕ
resource_at None = None
resource_at (Some c) = resource_of c

-- the same of the constraint before the one at this number
abbrev pub resource_before : List Cons → ℕ → Option ℕ
resource_before cs zero = None
resource_before cs (suc i) = resource_at (slice_get cs i)

-- the capacity of a resource over all its times
abbrev pub resource_text : Option Resource → List ℕ
resource_text None = []
resource_text (Some r) = capacity_text (Some r) r.from r.to

module _ (core : Core) where
  -- NAME in LOW..HIGH
  abbrev pub set_line : List ℕ → Option (ℤ × ℤ) → List ℕ
  set_line name None = []
  set_line name (Some ends) = name ++ codes " in " ++ ends_text ends.0 ends.1 ++ codes "\n"

  -- the line of the variable with this number
  abbrev pub variable_line : ℕ → List ℕ
  variable_line x = set_line (variable_name core x) (slice_get core.sets x)

  -- the objective
  abbrev pub goal_line : Option Goal → List ℕ
  goal_line None = []
  goal_line (Some g) = cond g.maximize (codes "maximize ") (codes "minimize ") ++ expr_text core g.value ++ codes "\n"

  -- one line for capacity constraints of one resource that stand behind each other; a line for each other constraint
  abbrev pub line_by : (before own : Option ℕ) → Cons → List ℕ
  line_by before None c = cons_text core c ++ codes "\n"
  line_by None (Some r) c = resource_text (slice_get core.resources r) ++ codes "\n"
  line_by (Some q) (Some r) c = cond (nat_eq q r) [] (resource_text (slice_get core.resources r) ++ codes "\n")

  abbrev pub line_of : (before : Option ℕ) → Option Cons → List ℕ
  line_of before None = []
  line_of before (Some c) = line_by before (resource_of c) c

  -- the line of the constraint with this number; nothing where the line of the one before speaks of it too
  abbrev pub constraint_line : ℕ → List ℕ
  constraint_line i = line_of (resource_before core.cons i) (slice_get core.cons i)

-- the lines with the first n numbers
abbrev pub lines : (ℕ → List ℕ) → ℕ → List ℕ
lines line zero = []
lines line (suc n) = lines line n ++ line n

-- ---- the whole

-- what stands before the variables
abbrev pub variables_heading : Core → List ℕ
variables_heading core = codes "Variables: " ++ decimal (length core.sets) ++ codes "\n"

-- what stands between the variables and the constraints
abbrev pub constraints_heading : Core → List ℕ
constraints_heading core = goal_line core core.goal ++ codes "Constraints: " ++ decimal (length core.cons) ++ codes "\n"

-- the text of a core
unfoldable pub ground_text : Core → List ℕ
ground_text core =
    variables_heading core ++ lines (variable_line core) (length core.sets)
    ++ constraints_heading core ++ lines (constraint_line core) (length core.cons)
