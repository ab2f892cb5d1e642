-- The measures of forms, by those of their parts.
use Rattle.std.proofs.Common.{◌≡◌, ℕ, suc, ◌+◌, ◌*◌, max, ℤ, pos, List, [], ◌∷◌, map, sym, ap, ◌∙◌, arith}
use Rattle.opl_expr.specs.declared.forms.Cons.{Cons}
use Rattle.opl_expr.specs.declared.forms.Cons.TheVariants as C
use Rattle.opl_expr.specs.declared.forms.Cons.TheOpen.{Expr-F, Cons-F}
use Rattle.opl_expr.specs.declared.forms.Cons.TheFolds.{fold-roll-Expr, fold-roll-Cons}
use Rattle.opl_expr.specs.declared.forms.Expr.{Expr}
use Rattle.opl_expr.specs.declared.forms.Expr.TheVariants as E
use Rattle.opl_expr.specs.declared.forms.Op.{Op}
use Rattle.opl_expr.specs.Sound.{term_magnitude, var_magnitude}
use Rattle.opl_expr.proofs.Plain.{term_Var}
use Rattle.opl_form.specs.Parts.{nothing, tables}
use Rattle.opl_form.specs.Measures.{cons_depth, cons_nodes, depth, depth_of, expr_depth, expr_nodes, greatest, nodes, nodes_of, total}
use Rattle.opl_nodes.specs.declared.context.Context.{Context}
use Rattle.opl_nodes.specs.declared.part.Part.{Part}
use Rattle.opl_nodes.specs.Contexts.{arrays, sets}
use Rattle.opl_nodes.specs.Pieces.{IsPart, magnitude}
use Rattle.opl_elements.specs.Comparisons.{apart}
use Rattle.opl_elements.specs.Ranks.{HasMeasures}

-- ---- leaves

pub depth-Const : (k : ℤ) → depth (E.Const k) ≡ 1
unfolding depth
depth-Const k = ap depth (sym (E.rolls-Const k)) ∙ fold-roll-Expr ℕ ℕ cons_depth expr_depth (Expr-F.Const k)

pub nodes-Const : (k : ℤ) → nodes (E.Const k) ≡ 1
unfolding nodes
nodes-Const k = ap nodes (sym (E.rolls-Const k)) ∙ fold-roll-Expr ℕ ℕ cons_nodes expr_nodes (Expr-F.Const k)

pub depth-Var : (x : ℕ) → depth (E.Var x) ≡ 1
unfolding depth
depth-Var x = ap depth (sym (E.rolls-Var x)) ∙ fold-roll-Expr ℕ ℕ cons_depth expr_depth (Expr-F.Var x)

pub nodes-Var : (x : ℕ) → nodes (E.Var x) ≡ 1
unfolding nodes
nodes-Var x = ap nodes (sym (E.rolls-Var x)) ∙ fold-roll-Expr ℕ ℕ cons_nodes expr_nodes (Expr-F.Var x)

pub depth-Truth : (c : Cons) → depth (E.Truth c) ≡ suc (depth_of c)
unfolding depth depth_of
depth-Truth c = ap depth (sym (E.rolls-Truth c)) ∙ fold-roll-Expr ℕ ℕ cons_depth expr_depth (Expr-F.Truth c)

pub nodes-Truth : (c : Cons) → nodes (E.Truth c) ≡ suc (nodes_of c)
unfolding nodes nodes_of
nodes-Truth c = ap nodes (sym (E.rolls-Truth c)) ∙ fold-roll-Expr ℕ ℕ cons_nodes expr_nodes (Expr-F.Truth c)

pub ruleset leaves = (depth-Const, nodes-Const, depth-Var, nodes-Var, depth-Truth, nodes-Truth)

pub magnitude-Var : (c : Context) (x : ℕ) → magnitude c (E.Var x) ≡ var_magnitude (sets c) x
unfolding magnitude
magnitude-Var c x = ap (term_magnitude (sets c)) (term_Var (tables (arrays c)) [] x)

-- ---- comparisons

depth-Mul : (e f : Expr) → depth (E.Mul e f) ≡ suc (max (depth e) (depth f))
unfolding depth
depth-Mul e f = ap depth (sym (E.rolls-Mul e f)) ∙ fold-roll-Expr ℕ ℕ cons_depth expr_depth (Expr-F.Mul e f)

nodes-Mul : (e f : Expr) → nodes (E.Mul e f) ≡ suc (nodes e + nodes f)
unfolding nodes
nodes-Mul e f = ap nodes (sym (E.rolls-Mul e f)) ∙ fold-roll-Expr ℕ ℕ cons_nodes expr_nodes (Expr-F.Mul e f)

pub depth-Cmp : (op : Op) (e f : Expr) → depth_of (C.Cmp op e f) ≡ suc (max (depth e) (depth f))
unfolding depth depth_of
depth-Cmp op e f = ap depth_of (sym (C.rolls-Cmp op e f)) ∙ fold-roll-Cons ℕ ℕ cons_depth expr_depth (Cons-F.Cmp op e f)

pub nodes-Cmp : (op : Op) (e f : Expr) → nodes_of (C.Cmp op e f) ≡ suc (nodes e + nodes f)
unfolding nodes nodes_of
nodes-Cmp op e f = ap nodes_of (sym (C.rolls-Cmp op e f)) ∙ fold-roll-Cons ℕ ℕ cons_nodes expr_nodes (Cons-F.Cmp op e f)

depth-And : (cs : List Cons) → depth_of (C.And cs) ≡ suc (greatest (map depth_of cs))
unfolding depth_of
depth-And cs = ap depth_of (sym (C.rolls-And cs)) ∙ fold-roll-Cons ℕ ℕ cons_depth expr_depth (Cons-F.And cs)

nodes-And : (cs : List Cons) → nodes_of (C.And cs) ≡ suc (total (map nodes_of cs))
unfolding nodes_of
nodes-And cs = ap nodes_of (sym (C.rolls-And cs)) ∙ fold-roll-Cons ℕ ℕ cons_nodes expr_nodes (Cons-F.And cs)

depth-nothing : (e : Expr) → depth (nothing e) ≡ suc (max 1 (depth e))
depth-nothing e = depth-Mul (E.Const (pos 0)) e ∙ ap (λ n. suc (max n (depth e))) (depth-Const (pos 0))

nodes-nothing : (e : Expr) → nodes (nothing e) ≡ suc (1 + nodes e)
nodes-nothing e = nodes-Mul (E.Const (pos 0)) e ∙ ap (λ n. suc (n + nodes e)) (nodes-Const (pos 0))

deep : (a b m n k l : ℕ) → a ≡ suc (max 1 m) → b ≡ suc (max 1 n) → k ≡ suc (max a a) → l ≡ suc (max b b) → suc (max k (max l 0)) ≡ max 1 (max m n) + 3
deep a b m n k l h i j o = omega (arith, h, i, j, o)

many : (a b m n k l : ℕ) → a ≡ suc (1 + m) → b ≡ suc (1 + n) → k ≡ suc (a + a) → l ≡ suc (b + b) → suc (k + (l + 0)) ≡ 2 * (m + n) + 11
many a b m n k l h i j o = omega (arith, h, i, j, o)

pub depth-apart : (op : Op) (e f : Expr) → depth_of (apart op e f) ≡ max 1 (max (depth e) (depth f)) + 3
depth-apart op e f =
    depth-And (C.Cmp op (nothing e) (nothing e) ∷ C.Cmp op (nothing f) (nothing f) ∷ [])
    ∙ deep (depth (nothing e)) (depth (nothing f)) (depth e) (depth f) (depth_of (C.Cmp op (nothing e) (nothing e))) (depth_of (C.Cmp op (nothing f) (nothing f)))
    (depth-nothing e) (depth-nothing f) (depth-Cmp op (nothing e) (nothing e)) (depth-Cmp op (nothing f) (nothing f))

pub nodes-apart : (op : Op) (e f : Expr) → nodes_of (apart op e f) ≡ 2 * (nodes e + nodes f) + 11
nodes-apart op e f =
    nodes-And (C.Cmp op (nothing e) (nothing e) ∷ C.Cmp op (nothing f) (nothing f) ∷ [])
    ∙ many (nodes (nothing e)) (nodes (nothing f)) (nodes e) (nodes f) (nodes_of (C.Cmp op (nothing e) (nothing e))) (nodes_of (C.Cmp op (nothing f) (nothing f)))
    (nodes-nothing e) (nodes-nothing f) (nodes-Cmp op (nothing e) (nothing e)) (nodes-Cmp op (nothing f) (nothing f))

pub ruleset constraints = (depth-Cmp, nodes-Cmp, depth-apart, nodes-apart)

-- ---- parts

pub measured : (c : Context) (p : Part) → IsPart c p → HasMeasures p
measured c p h = record { depth = h.depth; nodes = h.nodes; is_shallow = h.is_shallow; are_few = h.are_few }
