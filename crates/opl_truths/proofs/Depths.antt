-- The depth and the nodes of conditions, by those of their parts.
use Rattle.std.proofs.Common.{◌≡◌, ℕ, suc, ◌+◌, ◌*◌, max, ℤ, pos, Bool, List, map, sym, ap, ◌∙◌, arith}
use Rattle.opl_expr.specs.declared.forms.Cons.{Cons}
use Rattle.opl_expr.specs.declared.forms.Cons.TheVariants as C
use Rattle.opl_expr.specs.declared.forms.Cons.TheOpen.{Expr-F, Cons-F}
use Rattle.opl_expr.specs.declared.forms.Cons.TheFolds.{fold-roll-Expr, fold-roll-Cons}
use Rattle.opl_expr.specs.declared.forms.Expr.{Expr}
use Rattle.opl_expr.specs.declared.forms.Expr.TheVariants as E
use Rattle.opl_expr.specs.declared.forms.Op.{Op}
use Rattle.opl_expr.specs.declared.forms.Op.TheVariants.{Ne}
use Rattle.opl_form.specs.Measures.{cons_depth, cons_nodes, depth, depth_of, expr_depth, expr_nodes, greatest, nodes, nodes_of, total}
use Rattle.opl_form.specs.Parts.{nothing}

-- ---- depths

depth-Const : (k : ℤ) → depth (E.Const k) ≡ 1
unfolding depth
depth-Const k = ap depth (sym (E.rolls-Const k)) ∙ fold-roll-Expr ℕ ℕ cons_depth expr_depth (Expr-F.Const k)

depth-Mul : (e f : Expr) → depth (E.Mul e f) ≡ suc (max (depth e) (depth f))
unfolding depth
depth-Mul e f = ap depth (sym (E.rolls-Mul e f)) ∙ fold-roll-Expr ℕ ℕ cons_depth expr_depth (Expr-F.Mul e f)

pub depth-Fixed : (b : Bool) → depth_of (C.Fixed b) ≡ 1
unfolding depth_of
depth-Fixed b = ap depth_of (sym (C.rolls-Fixed b)) ∙ fold-roll-Cons ℕ ℕ cons_depth expr_depth (Cons-F.Fixed b)

depth-Cmp : (op : Op) (e f : Expr) → depth_of (C.Cmp op e f) ≡ suc (max (depth e) (depth f))
unfolding depth depth_of
depth-Cmp op e f = ap depth_of (sym (C.rolls-Cmp op e f)) ∙ fold-roll-Cons ℕ ℕ cons_depth expr_depth (Cons-F.Cmp op e f)

pub depth-And : (cs : List Cons) → depth_of (C.And cs) ≡ suc (greatest (map depth_of cs))
unfolding depth_of
depth-And cs = ap depth_of (sym (C.rolls-And cs)) ∙ fold-roll-Cons ℕ ℕ cons_depth expr_depth (Cons-F.And cs)

pub depth-Or : (cs : List Cons) → depth_of (C.Or cs) ≡ suc (greatest (map depth_of cs))
unfolding depth_of
depth-Or cs = ap depth_of (sym (C.rolls-Or cs)) ∙ fold-roll-Cons ℕ ℕ cons_depth expr_depth (Cons-F.Or cs)

pub depth-Imp : (c d : Cons) → depth_of (C.Imp c d) ≡ suc (max (depth_of c) (depth_of d))
unfolding depth_of
depth-Imp c d = ap depth_of (sym (C.rolls-Imp c d)) ∙ fold-roll-Cons ℕ ℕ cons_depth expr_depth (Cons-F.Imp c d)

pub depth-Iff : (c d : Cons) → depth_of (C.Iff c d) ≡ suc (max (depth_of c) (depth_of d))
unfolding depth_of
depth-Iff c d = ap depth_of (sym (C.rolls-Iff c d)) ∙ fold-roll-Cons ℕ ℕ cons_depth expr_depth (Cons-F.Iff c d)

pub depth-Not : (c : Cons) → depth_of (C.Not c) ≡ suc (depth_of c)
unfolding depth_of
depth-Not c = ap depth_of (sym (C.rolls-Not c)) ∙ fold-roll-Cons ℕ ℕ cons_depth expr_depth (Cons-F.Not c)

-- ---- nodes

nodes-Const : (k : ℤ) → nodes (E.Const k) ≡ 1
unfolding nodes
nodes-Const k = ap nodes (sym (E.rolls-Const k)) ∙ fold-roll-Expr ℕ ℕ cons_nodes expr_nodes (Expr-F.Const k)

nodes-Mul : (e f : Expr) → nodes (E.Mul e f) ≡ suc (nodes e + nodes f)
unfolding nodes
nodes-Mul e f = ap nodes (sym (E.rolls-Mul e f)) ∙ fold-roll-Expr ℕ ℕ cons_nodes expr_nodes (Expr-F.Mul e f)

pub nodes-Fixed : (b : Bool) → nodes_of (C.Fixed b) ≡ 1
unfolding nodes_of
nodes-Fixed b = ap nodes_of (sym (C.rolls-Fixed b)) ∙ fold-roll-Cons ℕ ℕ cons_nodes expr_nodes (Cons-F.Fixed b)

nodes-Cmp : (op : Op) (e f : Expr) → nodes_of (C.Cmp op e f) ≡ suc (nodes e + nodes f)
unfolding nodes nodes_of
nodes-Cmp op e f = ap nodes_of (sym (C.rolls-Cmp op e f)) ∙ fold-roll-Cons ℕ ℕ cons_nodes expr_nodes (Cons-F.Cmp op e f)

pub nodes-And : (cs : List Cons) → nodes_of (C.And cs) ≡ suc (total (map nodes_of cs))
unfolding nodes_of
nodes-And cs = ap nodes_of (sym (C.rolls-And cs)) ∙ fold-roll-Cons ℕ ℕ cons_nodes expr_nodes (Cons-F.And cs)

pub nodes-Or : (cs : List Cons) → nodes_of (C.Or cs) ≡ suc (total (map nodes_of cs))
unfolding nodes_of
nodes-Or cs = ap nodes_of (sym (C.rolls-Or cs)) ∙ fold-roll-Cons ℕ ℕ cons_nodes expr_nodes (Cons-F.Or cs)

pub nodes-Imp : (c d : Cons) → nodes_of (C.Imp c d) ≡ suc (nodes_of c + nodes_of d)
unfolding nodes_of
nodes-Imp c d = ap nodes_of (sym (C.rolls-Imp c d)) ∙ fold-roll-Cons ℕ ℕ cons_nodes expr_nodes (Cons-F.Imp c d)

pub nodes-Iff : (c d : Cons) → nodes_of (C.Iff c d) ≡ suc (nodes_of c + nodes_of d)
unfolding nodes_of
nodes-Iff c d = ap nodes_of (sym (C.rolls-Iff c d)) ∙ fold-roll-Cons ℕ ℕ cons_nodes expr_nodes (Cons-F.Iff c d)

pub nodes-Not : (c : Cons) → nodes_of (C.Not c) ≡ suc (nodes_of c)
unfolding nodes_of
nodes-Not c = ap nodes_of (sym (C.rolls-Not c)) ∙ fold-roll-Cons ℕ ℕ cons_nodes expr_nodes (Cons-F.Not c)

-- ---- what never holds

twice-deep : (d m : ℕ) → d ≡ suc m → suc (max d d) ≡ m + 2
twice-deep d m h = omega (arith, h)

twice-many : (n m : ℕ) → n ≡ suc (1 + m) → suc (n + n) ≡ 2 * m + 5
twice-many n m h = omega (arith, h)

pub depth-never : (e : Expr) → depth_of (C.Cmp Ne (nothing e) (nothing e)) ≡ max 1 (depth e) + 2
depth-never e =
    depth-Cmp Ne (nothing e) (nothing e)
    ∙ twice-deep (depth (nothing e)) (max 1 (depth e)) (depth-Mul (E.Const (pos 0)) e ∙ ap (λ n. suc (max n (depth e))) (depth-Const (pos 0)))

pub nodes-never : (e : Expr) → nodes_of (C.Cmp Ne (nothing e) (nothing e)) ≡ 2 * nodes e + 5
nodes-never e =
    nodes-Cmp Ne (nothing e) (nothing e)
    ∙ twice-many (nodes (nothing e)) (nodes e) (nodes-Mul (E.Const (pos 0)) e ∙ ap (λ n. suc (n + nodes e)) (nodes-Const (pos 0)))

pub ruleset depths = (depth-Fixed, depth-never)

pub ruleset counts = (nodes-Fixed, nodes-never)
