-- Cores are within the limits of depth and nodes.
use Rattle.std.proofs.Common.{◌≡◌, ℕ, suc, ◌+◌, ◌≤◌, max, ℤ, List, [], ◌∷◌, map, Option, None, Some, refl, ap, subst, arith}
use Rattle.opl_meaning.specs.Runs.{names_of, no_names}
use Rattle.opl_draft.specs.Drafts.{Cells}
use Rattle.opl_draft.specs.Laws.{arrays}
use Rattle.opl_expr.specs.declared.forms.Cons.{Cons}
use Rattle.opl_expr.specs.declared.forms.Cons.TheOpen.{Cons-F, Expr-F}
use Rattle.opl_expr.specs.declared.forms.Cons.TheFolds.{fold-Cons, fold-Expr}
use Rattle.opl_expr.specs.declared.forms.Expr.{Expr}
use Rattle.opl_expr.specs.declared.model.Goal.{Goal}
use Rattle.opl_form.specs.Laws.{declared_ends}
use Rattle.opl_form.specs.Measures as forms
use Rattle.opl_form.proofs.FormLaws.{forms_are_sound}
use Rattle.opl_optimum.specs.Goals.{goal_nodes}
use Rattle.opl_optimum.specs.Optima.{objective_of}
use Rattle.opl_optimum.proofs.GoalLaws.{IsSoundObjective, goal-sound}
use Rattle.opl_trace.specs.GroundCores as cores
use Rattle.opl_ground.specs.Ground.{conditions_of}
use Rattle.opl_ground.specs.Measured.{GroundedIsMeasured, IsMeasured, IsShallow}
use Rattle.opl_ground.proofs.Arrays.{arrays_are_sound}
use Rattle.opl_ground.proofs.Cores.{goal-few}
use Rattle.opl_ground.proofs.Ground.{core-parts}
use Rattle.opl_ground.proofs.Variables.{variables_are_laid_out}

-- ---- both measures count alike

greatest-is : (ns : List ℕ) → forms.greatest ns ≡ cores.deepest ns
greatest-is [] = refl
greatest-is (n ∷ ns) = ap (max n) (greatest-is ns)

total-is : (ns : List ℕ) → forms.total ns ≡ cores.total ns
total-is [] = refl
total-is (n ∷ ns) = ap (λ m. n + m) (total-is ns)

one-deep : (n : ℕ) → suc n ≡ suc (max n 0)
one-deep n = omega arith

two-deep : (m n : ℕ) → suc (max m n) ≡ suc (max m (max n 0))
two-deep m n = omega arith

one-node : (n : ℕ) → suc n ≡ suc (n + 0)
one-node n = omega arith

two-nodes : (m n : ℕ) → suc (m + n) ≡ suc (m + (n + 0))
two-nodes m n = omega arith

expr-depth : (x : Expr-F ℕ ℕ) → forms.expr_depth x ≡ suc (cores.deepest (cores.expr_parts x))
expr-depth (Expr-F.Const k) = refl
expr-depth (Expr-F.Var x) = refl
expr-depth (Expr-F.Sum ns) = ap (λ n. suc n) (greatest-is ns)
expr-depth (Expr-F.Neg n) = one-deep n
expr-depth (Expr-F.Mul m n) = two-deep m n
expr-depth (Expr-F.Div m n) = two-deep m n
expr-depth (Expr-F.Rem m n) = two-deep m n
expr-depth (Expr-F.Abs n) = one-deep n
expr-depth (Expr-F.Min ns) = ap (λ n. suc n) (greatest-is ns)
expr-depth (Expr-F.Max ns) = ap (λ n. suc n) (greatest-is ns)
expr-depth (Expr-F.At t ns) = ap (λ n. suc n) (greatest-is ns)
expr-depth (Expr-F.Truth n) = one-deep n
expr-depth (Expr-F.Ask ask x) = refl

cons-depth : (x : Cons-F ℕ ℕ) → forms.cons_depth x ≡ suc (cores.deepest (cores.cons_parts x))
cons-depth (Cons-F.Fixed b) = refl
cons-depth (Cons-F.Cmp op m n) = two-deep m n
cons-depth (Cons-F.And ns) = ap (λ n. suc n) (greatest-is ns)
cons-depth (Cons-F.Or ns) = ap (λ n. suc n) (greatest-is ns)
cons-depth (Cons-F.Imp m n) = two-deep m n
cons-depth (Cons-F.Iff m n) = two-deep m n
cons-depth (Cons-F.Not n) = one-deep n
cons-depth (Cons-F.AllDifferent ns) = ap (λ n. suc n) (greatest-is ns)
cons-depth (Cons-F.Capacity r t) = refl
cons-depth (Cons-F.Bound x) = refl

expr-nodes : (x : Expr-F ℕ ℕ) → forms.expr_nodes x ≡ suc (cores.total (cores.expr_parts x))
expr-nodes (Expr-F.Const k) = refl
expr-nodes (Expr-F.Var x) = refl
expr-nodes (Expr-F.Sum ns) = ap (λ n. suc n) (total-is ns)
expr-nodes (Expr-F.Neg n) = one-node n
expr-nodes (Expr-F.Mul m n) = two-nodes m n
expr-nodes (Expr-F.Div m n) = two-nodes m n
expr-nodes (Expr-F.Rem m n) = two-nodes m n
expr-nodes (Expr-F.Abs n) = one-node n
expr-nodes (Expr-F.Min ns) = ap (λ n. suc n) (total-is ns)
expr-nodes (Expr-F.Max ns) = ap (λ n. suc n) (total-is ns)
expr-nodes (Expr-F.At t ns) = ap (λ n. suc n) (total-is ns)
expr-nodes (Expr-F.Truth n) = one-node n
expr-nodes (Expr-F.Ask ask x) = refl

cons-nodes : (x : Cons-F ℕ ℕ) → forms.cons_nodes x ≡ suc (cores.total (cores.cons_parts x))
cons-nodes (Cons-F.Fixed b) = refl
cons-nodes (Cons-F.Cmp op m n) = two-nodes m n
cons-nodes (Cons-F.And ns) = ap (λ n. suc n) (total-is ns)
cons-nodes (Cons-F.Or ns) = ap (λ n. suc n) (total-is ns)
cons-nodes (Cons-F.Imp m n) = two-nodes m n
cons-nodes (Cons-F.Iff m n) = two-nodes m n
cons-nodes (Cons-F.Not n) = one-node n
cons-nodes (Cons-F.AllDifferent ns) = ap (λ n. suc n) (total-is ns)
cons-nodes (Cons-F.Capacity r t) = refl
cons-nodes (Cons-F.Bound x) = refl

depth-is : (c : Cons) → forms.depth_of c ≡ cores.cons_depth c
unfolding forms.depth_of cores.cons_depth
depth-is c = λ i. fold-Cons ℕ ℕ (λ x. cons-depth x i) (λ x. expr-depth x i) c

nodes-are : (c : Cons) → forms.nodes_of c ≡ cores.cons_nodes c
unfolding forms.nodes_of cores.cons_nodes
nodes-are c = λ i. fold-Cons ℕ ℕ (λ x. cons-nodes x i) (λ x. expr-nodes x i) c

all-nodes : (cs : List Cons) → forms.total (map forms.nodes_of cs) ≡ cores.total (map cores.cons_nodes cs)
all-nodes [] = refl
all-nodes (c ∷ cs) = λ i. nodes-are c i + all-nodes cs i

expr-depth-is : (e : Expr) → forms.depth e ≡ cores.expr_depth e
unfolding forms.depth cores.expr_depth
expr-depth-is e = λ i. fold-Expr ℕ ℕ (λ x. cons-depth x i) (λ x. expr-depth x i) e

expr-nodes-are : (e : Expr) → forms.nodes e ≡ cores.expr_nodes e
unfolding forms.nodes cores.expr_nodes
expr-nodes-are e = λ i. fold-Expr ℕ ℕ (λ x. cons-nodes x i) (λ x. expr-nodes x i) e

goal-nodes-are : (goal : Option Goal) → goal_nodes goal ≡ cores.goal_nodes goal
goal-nodes-are None = refl
goal-nodes-are (Some g) = expr-nodes-are g.value

goal-shallow : (sets : List (ℤ × ℤ)) (arrays : List Cells) (goal : Option Goal) → IsSoundObjective sets arrays goal → IsShallow goal
goal-shallow sets arrays None h = tt
goal-shallow sets arrays (Some g) h = subst (λ n. n ≤ 2048) (expr-depth-is g.value) h.depth

-- ---- cores

together : (a b m n : ℕ) → a + m ≤ 4194304 → a ≡ b → m ≡ n → n + (b + (0 + 0)) ≤ 4194304
together a b m n h e f = omega (arith, h, e, f)

pub grounded_is_measured : GroundedIsMeasured
grounded_is_measured enumerations t env core keyed filled h =
    let c = core-parts enumerations t env core h in
    let sound = arrays_are_sound env c.items keyed filled (variables_are_laid_out env t.decls c.items c.variables) in
    let g = goal-sound env c.items (names_of no_names t.decls) (objective_of t.instr) c.goal sound c.has_goal in
    let s = forms_are_sound (declared_ends c.items) (arrays env c.items) (goal_nodes c.goal) (conditions_of t env c.items) c.constraints sound (goal-few (declared_ends c.items) (arrays env c.items) c.goal g) c.has_constraints in
    subst IsMeasured c.is (record {
      depth = λ k d l. subst (λ n. n ≤ 2048) (depth-is _) (s.depth k d l);
      goal = goal-shallow (declared_ends c.items) (arrays env c.items) c.goal g;
      nodes = together (goal_nodes c.goal) (cores.goal_nodes c.goal) (forms.total (map forms.nodes_of c.constraints)) (cores.total (map cores.cons_nodes c.constraints)) s.nodes (goal-nodes-are c.goal) (all-nodes c.constraints);
    })
