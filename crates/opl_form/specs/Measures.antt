-- How deep forms nest, and how many nodes they have.
use Rattle.std.specs.Prelude.{ℕ, suc, ◌+◌, max, List, [], ◌∷◌}
use Rattle.opl_expr.specs.declared.forms.Cons.{Cons}
use Rattle.opl_expr.specs.declared.forms.Cons.TheOpen.{Expr-F, Cons-F}
use Rattle.opl_expr.specs.declared.forms.Cons.TheFolds.{fold-Expr, fold-Cons}
use Rattle.opl_expr.specs.declared.forms.Expr.{Expr}
use Rattle.opl_form.specs.Parts.{Form}
use Rattle.opl_form.specs.Parts.Form.{known, number, name, condition, truth}

-- The greatest of these, 0 where there is none.
abbrev pub greatest : List ℕ → ℕ
greatest [] = 0
greatest (n ∷ ns) = max n (greatest ns)

-- How deep an expression nests, from the depths of its parts.
abbrev pub expr_depth : Expr-F ℕ ℕ → ℕ
expr_depth (Expr-F.Const k) = 1
expr_depth (Expr-F.Var x) = 1
expr_depth (Expr-F.Sum ns) = suc (greatest ns)
expr_depth (Expr-F.Neg n) = suc n
expr_depth (Expr-F.Mul m n) = suc (max m n)
expr_depth (Expr-F.Div m n) = suc (max m n)
expr_depth (Expr-F.Rem m n) = suc (max m n)
expr_depth (Expr-F.Abs n) = suc n
expr_depth (Expr-F.Min ns) = suc (greatest ns)
expr_depth (Expr-F.Max ns) = suc (greatest ns)
expr_depth (Expr-F.At t ns) = suc (greatest ns)
expr_depth (Expr-F.Truth n) = suc n
expr_depth (Expr-F.Ask ask x) = 1

-- The same of a constraint.
abbrev pub cons_depth : Cons-F ℕ ℕ → ℕ
cons_depth (Cons-F.Fixed b) = 1
cons_depth (Cons-F.Cmp op m n) = suc (max m n)
cons_depth (Cons-F.And ns) = suc (greatest ns)
cons_depth (Cons-F.Or ns) = suc (greatest ns)
cons_depth (Cons-F.Imp m n) = suc (max m n)
cons_depth (Cons-F.Iff m n) = suc (max m n)
cons_depth (Cons-F.Not n) = suc n
cons_depth (Cons-F.AllDifferent ns) = suc (greatest ns)
cons_depth (Cons-F.Capacity r t) = 1
cons_depth (Cons-F.Bound x) = 1

-- All of these together.
abbrev pub total : List ℕ → ℕ
total [] = 0
total (n ∷ ns) = n + total ns

-- How many nodes an expression has, from the nodes of its parts.
abbrev pub expr_nodes : Expr-F ℕ ℕ → ℕ
expr_nodes (Expr-F.Const k) = 1
expr_nodes (Expr-F.Var x) = 1
expr_nodes (Expr-F.Sum ns) = suc (total ns)
expr_nodes (Expr-F.Neg n) = suc n
expr_nodes (Expr-F.Mul m n) = suc (m + n)
expr_nodes (Expr-F.Div m n) = suc (m + n)
expr_nodes (Expr-F.Rem m n) = suc (m + n)
expr_nodes (Expr-F.Abs n) = suc n
expr_nodes (Expr-F.Min ns) = suc (total ns)
expr_nodes (Expr-F.Max ns) = suc (total ns)
expr_nodes (Expr-F.At t ns) = suc (total ns)
expr_nodes (Expr-F.Truth n) = suc n
expr_nodes (Expr-F.Ask ask x) = 1

-- The same of a constraint.
abbrev pub cons_nodes : Cons-F ℕ ℕ → ℕ
cons_nodes (Cons-F.Fixed b) = 1
cons_nodes (Cons-F.Cmp op m n) = suc (m + n)
cons_nodes (Cons-F.And ns) = suc (total ns)
cons_nodes (Cons-F.Or ns) = suc (total ns)
cons_nodes (Cons-F.Imp m n) = suc (m + n)
cons_nodes (Cons-F.Iff m n) = suc (m + n)
cons_nodes (Cons-F.Not n) = suc n
cons_nodes (Cons-F.AllDifferent ns) = suc (total ns)
cons_nodes (Cons-F.Capacity r t) = 1
cons_nodes (Cons-F.Bound x) = 1

-- The depth of an expression, and of a constraint: that of a leaf is 1.
unfoldable pub depth : Expr → ℕ
depth = fold-Expr ℕ ℕ cons_depth expr_depth

unfoldable pub depth_of : Cons → ℕ
depth_of = fold-Cons ℕ ℕ cons_depth expr_depth

-- The nodes of an expression, and of a constraint.
unfoldable pub nodes : Expr → ℕ
nodes = fold-Expr ℕ ℕ cons_nodes expr_nodes

unfoldable pub nodes_of : Cons → ℕ
nodes_of = fold-Cons ℕ ℕ cons_nodes expr_nodes

-- The nodes of a part: a value is one.
abbrev pub part_nodes : Form → ℕ
part_nodes (known v) = 1
part_nodes (number e) = nodes e
part_nodes (name d e) = nodes e
part_nodes (condition c) = nodes_of c
part_nodes (truth c) = suc (nodes_of c)

-- How deep a part nests: a value is a leaf.
abbrev pub part_depth : Form → ℕ
part_depth (known v) = 1
part_depth (number e) = depth e
part_depth (name d e) = depth e
part_depth (condition c) = depth_of c
part_depth (truth c) = suc (depth_of c)

-- The nodes of parts together.
abbrev pub all_nodes : List Form → ℕ
all_nodes [] = 0
all_nodes (g ∷ gs) = part_nodes g + all_nodes gs
