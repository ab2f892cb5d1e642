-- The nodes of expressions and constraints, form by form, as the code sees it.
use Rattle.std.proofs.Common.{◌≡◌, ◌∙◌, ℕ, suc, ◌+◌, ◌≤◌, ◌^◌, Bool, refl, List, [], ◌∷◌, map, ℤ, ap, sym, arith, inl, inr}
use Rattle.std.specs.Prelude.{Some, None}
use Rattle.opl_expr.specs.declared.forms.Ask.{Ask}
use Rattle.opl_expr.specs.declared.forms.Op.{Op}
use Rattle.opl_expr.specs.declared.forms.Expr.{Expr}
use Rattle.opl_expr.specs.declared.forms.Expr.TheVariants as E
use Rattle.opl_expr.specs.declared.forms.Cons.{Cons}
use Rattle.opl_expr.specs.declared.forms.Cons.TheVariants as C
use Rattle.opl_expr.specs.declared.forms.Cons.TheOpen.{Expr-F, Cons-F}
use Rattle.opl_expr.specs.declared.forms.Cons.TheFolds.{fold-roll-Expr, fold-roll-Cons, map-Expr, map-Cons}
use Rattle.opl_expr.specs.declared.forms.Cons.TheViews.{roll-Expr, roll-Cons}
use Rattle.opl_trace.specs.GroundCores.{expr_parts, cons_parts, total, expr_nodes, cons_nodes}
use Rattle.opl_sound.specs.Measures.{small, added}
use Rattle.opl_sound.specs.Ground.{count}
use Rattle.opl_sound.proofs.Smaller.{smalls}

-- ---- sums

some_none : {X : Type 0} {x : X} → Some x ≡ None → ⊥
some_none e = cc

too_great : (n : ℕ) → 2 ^ 127 ≤ n → small n ≡ None
too_great n h = elim (smalls n) [ inl a ↦ absurd (omega (arith, a.0, h)) | inr b ↦ b.1 ]

pub small_added : (m n : ℕ) → added (small m) (small n) ≡ small (m + n)
small_added m n = elim (smalls m) [
  | inl a ↦ elim (smalls n) [
    | inl b ↦ rw (a.1, b.1) refl
    | inr b ↦ rw (a.1, b.1) (sym (too_great (m + n) (omega (arith, b.0))))
  ]
  | inr a ↦ rw a.1 (sym (too_great (m + n) (omega (arith, a.0))))
]

pub count_is : {X : Type 0} (f : X → ℕ) (xs : List X) → count f xs ≡ small (total (map f xs))
unfolding small
count_is f [] = refl
count_is f (x ∷ xs) = ap (added (small (f x))) (count_is f xs) ∙ small_added (f x) (total (map f xs))

pub one_small : Some 1 ≡ small 1
unfolding small
one_small = refl

pub one_more : (n : ℕ) → small (suc n) ≡ added (Some 1) (small n)
one_more n = let e : suc n ≡ 1 + n = omega arith in ap small e ∙ sym (ap (λ o. added o (small n)) one_small ∙ small_added 1 n)

pub with_parts : {X : Type 0} (f : X → ℕ) (xs : List X) → small (suc (total (map f xs))) ≡ added (Some 1) (count f xs)
with_parts f xs = one_more (total (map f xs)) ∙ ap (added (Some 1)) (sym (count_is f xs))

pub with_one : (m : ℕ) → small (suc (m + 0)) ≡ added (Some 1) (small m)
with_one m = let e : suc (m + 0) ≡ suc m = omega arith in ap small e ∙ one_more m

pub with_two : (m n : ℕ) → small (suc (m + (n + 0))) ≡ added (Some 1) (added (small m) (small n))
with_two m n = let e : suc (m + (n + 0)) ≡ suc (m + n) = omega arith in ap small e ∙ (one_more (m + n) ∙ ap (added (Some 1)) (sym (small_added m n)))

-- ---- forms

layer : (d : Expr-F Cons Expr) → expr_nodes (roll-Expr d) ≡ suc (total (expr_parts (map-Expr Cons Expr ℕ ℕ cons_nodes expr_nodes d)))
unfolding expr_nodes cons_nodes
layer d = fold-roll-Expr ℕ ℕ (λ c. suc (total (cons_parts c))) (λ e. suc (total (expr_parts e))) d

cons_layer : (d : Cons-F Cons Expr) → cons_nodes (roll-Cons d) ≡ suc (total (cons_parts (map-Cons Cons Expr ℕ ℕ cons_nodes expr_nodes d)))
unfolding expr_nodes cons_nodes
cons_layer d = fold-roll-Cons ℕ ℕ (λ c. suc (total (cons_parts c))) (λ e. suc (total (expr_parts e))) d

pub nodes_Const : (k : ℤ) → small (expr_nodes (E.Const k)) ≡ Some 1
nodes_Const k = ap small (ap expr_nodes (sym (E.rolls-Const k)) ∙ layer (Expr-F.Const k)) ∙ sym one_small

pub nodes_Var : (x : ℕ) → small (expr_nodes (E.Var x)) ≡ Some 1
nodes_Var x = ap small (ap expr_nodes (sym (E.rolls-Var x)) ∙ layer (Expr-F.Var x)) ∙ sym one_small

pub nodes_Sum : (es : List Expr) → small (expr_nodes (E.Sum es)) ≡ added (Some 1) (count expr_nodes es)
nodes_Sum es = ap small (ap expr_nodes (sym (E.rolls-Sum es)) ∙ layer (Expr-F.Sum es)) ∙ with_parts expr_nodes es

pub nodes_Neg : (a : Expr) → small (expr_nodes (E.Neg a)) ≡ added (Some 1) (small (expr_nodes a))
nodes_Neg a = ap small (ap expr_nodes (sym (E.rolls-Neg a)) ∙ layer (Expr-F.Neg a)) ∙ with_one (expr_nodes a)

pub nodes_Mul : (a b : Expr) → small (expr_nodes (E.Mul a b)) ≡ added (Some 1) (added (small (expr_nodes a)) (small (expr_nodes b)))
nodes_Mul a b = ap small (ap expr_nodes (sym (E.rolls-Mul a b)) ∙ layer (Expr-F.Mul a b)) ∙ with_two (expr_nodes a) (expr_nodes b)

pub nodes_Div : (a b : Expr) → small (expr_nodes (E.Div a b)) ≡ added (Some 1) (added (small (expr_nodes a)) (small (expr_nodes b)))
nodes_Div a b = ap small (ap expr_nodes (sym (E.rolls-Div a b)) ∙ layer (Expr-F.Div a b)) ∙ with_two (expr_nodes a) (expr_nodes b)

pub nodes_Rem : (a b : Expr) → small (expr_nodes (E.Rem a b)) ≡ added (Some 1) (added (small (expr_nodes a)) (small (expr_nodes b)))
nodes_Rem a b = ap small (ap expr_nodes (sym (E.rolls-Rem a b)) ∙ layer (Expr-F.Rem a b)) ∙ with_two (expr_nodes a) (expr_nodes b)

pub nodes_Abs : (a : Expr) → small (expr_nodes (E.Abs a)) ≡ added (Some 1) (small (expr_nodes a))
nodes_Abs a = ap small (ap expr_nodes (sym (E.rolls-Abs a)) ∙ layer (Expr-F.Abs a)) ∙ with_one (expr_nodes a)

pub nodes_Min : (es : List Expr) → small (expr_nodes (E.Min es)) ≡ added (Some 1) (count expr_nodes es)
nodes_Min es = ap small (ap expr_nodes (sym (E.rolls-Min es)) ∙ layer (Expr-F.Min es)) ∙ with_parts expr_nodes es

pub nodes_Max : (es : List Expr) → small (expr_nodes (E.Max es)) ≡ added (Some 1) (count expr_nodes es)
nodes_Max es = ap small (ap expr_nodes (sym (E.rolls-Max es)) ∙ layer (Expr-F.Max es)) ∙ with_parts expr_nodes es

pub nodes_At : (t : ℕ) (es : List Expr) → small (expr_nodes (E.At t es)) ≡ added (Some 1) (count expr_nodes es)
nodes_At t es = ap small (ap expr_nodes (sym (E.rolls-At t es)) ∙ layer (Expr-F.At t es)) ∙ with_parts expr_nodes es

pub nodes_Truth : (c : Cons) → small (expr_nodes (E.Truth c)) ≡ added (Some 1) (small (cons_nodes c))
nodes_Truth c = ap small (ap expr_nodes (sym (E.rolls-Truth c)) ∙ layer (Expr-F.Truth c)) ∙ with_one (cons_nodes c)

pub nodes_Ask : (ask : Ask) (x : ℕ) → small (expr_nodes (E.Ask ask x)) ≡ Some 1
nodes_Ask ask x = ap small (ap expr_nodes (sym (E.rolls-Ask ask x)) ∙ layer (Expr-F.Ask ask x)) ∙ sym one_small

pub nodes_Fixed : (b : Bool) → small (cons_nodes (C.Fixed b)) ≡ Some 1
nodes_Fixed b = ap small (ap cons_nodes (sym (C.rolls-Fixed b)) ∙ cons_layer (Cons-F.Fixed b)) ∙ sym one_small

pub nodes_Cmp : (op : Op) (a b : Expr) → small (cons_nodes (C.Cmp op a b)) ≡ added (Some 1) (added (small (expr_nodes a)) (small (expr_nodes b)))
nodes_Cmp op a b = ap small (ap cons_nodes (sym (C.rolls-Cmp op a b)) ∙ cons_layer (Cons-F.Cmp op a b)) ∙ with_two (expr_nodes a) (expr_nodes b)

pub nodes_And : (cs : List Cons) → small (cons_nodes (C.And cs)) ≡ added (Some 1) (count cons_nodes cs)
nodes_And cs = ap small (ap cons_nodes (sym (C.rolls-And cs)) ∙ cons_layer (Cons-F.And cs)) ∙ with_parts cons_nodes cs

pub nodes_Or : (cs : List Cons) → small (cons_nodes (C.Or cs)) ≡ added (Some 1) (count cons_nodes cs)
nodes_Or cs = ap small (ap cons_nodes (sym (C.rolls-Or cs)) ∙ cons_layer (Cons-F.Or cs)) ∙ with_parts cons_nodes cs

pub nodes_Imp : (a b : Cons) → small (cons_nodes (C.Imp a b)) ≡ added (Some 1) (added (small (cons_nodes a)) (small (cons_nodes b)))
nodes_Imp a b = ap small (ap cons_nodes (sym (C.rolls-Imp a b)) ∙ cons_layer (Cons-F.Imp a b)) ∙ with_two (cons_nodes a) (cons_nodes b)

pub nodes_Iff : (a b : Cons) → small (cons_nodes (C.Iff a b)) ≡ added (Some 1) (added (small (cons_nodes a)) (small (cons_nodes b)))
nodes_Iff a b = ap small (ap cons_nodes (sym (C.rolls-Iff a b)) ∙ cons_layer (Cons-F.Iff a b)) ∙ with_two (cons_nodes a) (cons_nodes b)

pub nodes_Not : (a : Cons) → small (cons_nodes (C.Not a)) ≡ added (Some 1) (small (cons_nodes a))
nodes_Not a = ap small (ap cons_nodes (sym (C.rolls-Not a)) ∙ cons_layer (Cons-F.Not a)) ∙ with_one (cons_nodes a)

pub nodes_AllDifferent : (es : List Expr) → small (cons_nodes (C.AllDifferent es)) ≡ added (Some 1) (count expr_nodes es)
nodes_AllDifferent es = ap small (ap cons_nodes (sym (C.rolls-AllDifferent es)) ∙ cons_layer (Cons-F.AllDifferent es)) ∙ with_parts expr_nodes es

pub nodes_Capacity : (r : ℕ) (t : ℤ) → small (cons_nodes (C.Capacity r t)) ≡ Some 1
nodes_Capacity r t = ap small (ap cons_nodes (sym (C.rolls-Capacity r t)) ∙ cons_layer (Cons-F.Capacity r t)) ∙ sym one_small

pub nodes_Bound : (x : ℕ) → small (cons_nodes (C.Bound x)) ≡ Some 1
nodes_Bound x = ap small (ap cons_nodes (sym (C.rolls-Bound x)) ∙ cons_layer (Cons-F.Bound x)) ∙ sym one_small

pub ruleset expressions = (nodes_Const, nodes_Var, nodes_Sum, nodes_Neg, nodes_Mul, nodes_Div, nodes_Rem, nodes_Abs, nodes_Min, nodes_Max, nodes_At, nodes_Truth, nodes_Ask)

pub ruleset constraints = (nodes_Fixed, nodes_Cmp, nodes_And, nodes_Or, nodes_Imp, nodes_Iff, nodes_Not, nodes_AllDifferent, nodes_Capacity, nodes_Bound)
