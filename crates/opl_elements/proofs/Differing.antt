-- Whether the elements of an array differ.
use Rattle.std.proofs.Common.{◌≡◌, ℕ, zero, suc, ◌+◌, ◌^◌, ◌<◌, ◌≤◌, max, true, false, cond, List, [], ◌∷◌, map, None, Ok, Err, refl, sym, ap, ◌∙◌, arith}
use Rattle.opl_value.specs.declared.value.Value.{Value}
use Rattle.opl_value.specs.declared.value.Value.TheVariants as values
use Rattle.opl_eval.specs.declared.fault.EvalFault.TheVariants.{OutOfIndex}
use Rattle.opl_eval.specs.Compare.{all_different}
use Rattle.opl_meaning.specs.declared.variable.Kind.{Kind}
use Rattle.opl_meaning.specs.declared.variable.Kind.TheVariants.{Number, Enumeration}
use Rattle.opl_draft.specs.Drafts.{Leaves}
use Rattle.opl_draft.specs.Drafts.Leaves.{listed, numbered}
use Rattle.opl_expr.specs.declared.forms.Cons.TheVariants as C
use Rattle.opl_expr.specs.declared.forms.Cons.TheOpen.{Cons-F}
use Rattle.opl_expr.specs.declared.forms.Cons.TheFolds.{fold-roll-Cons}
use Rattle.opl_expr.specs.declared.forms.Expr.{Expr}
use Rattle.opl_expr.specs.declared.forms.Expr.TheVariants as E
use Rattle.opl_expr.specs.Sound.{term_magnitude, var_magnitude}
use Rattle.opl_expr.proofs.Plain.{term_Var}
use Rattle.opl_form.specs.Parts as parts
use Rattle.opl_form.specs.Parts.{Form, all_known, ranked, tables, variables}
use Rattle.opl_form.specs.Parts.Form.{known}
use Rattle.opl_form.specs.Measures.{cons_depth, cons_nodes, depth, depth_of, expr_depth, expr_nodes, greatest, nodes, nodes_of, total}
use Rattle.opl_form.specs.Nodes.{all_differ, are_alike, condition_node, folded, known_node, size, sized, two_greatest}
use Rattle.opl_form.specs.Nodes.Fault.{eval, large}
use Rattle.opl_form.proofs.Nodes.{known-values}
use Rattle.opl_nodes.specs.declared.context.Context.{Context}
use Rattle.opl_nodes.specs.Contexts.{arrays, sets}
use Rattle.opl_nodes.proofs.Tests.{sized-large, sized-small}
use Rattle.opl_elements.specs.Differences.{leaves_differ}
use Rattle.opl_elements.specs.Runs.{run, run_sizes}
use Rattle.opl_elements.proofs.Successive.{run-depth, run-nodes}

-- ---- measures

depth-AllDifferent : (es : List Expr) → depth_of (C.AllDifferent es) ≡ suc (greatest (map depth es))
unfolding depth depth_of
depth-AllDifferent es = ap depth_of (sym (C.rolls-AllDifferent es)) ∙ fold-roll-Cons ℕ ℕ cons_depth expr_depth (Cons-F.AllDifferent es)

nodes-AllDifferent : (es : List Expr) → nodes_of (C.AllDifferent es) ≡ suc (total (map nodes es))
unfolding nodes nodes_of
nodes-AllDifferent es = ap nodes_of (sym (C.rolls-AllDifferent es)) ∙ fold-roll-Cons ℕ ℕ cons_nodes expr_nodes (Cons-F.AllDifferent es)

pub run-differs-depth : (x n : ℕ) → 0 < n → 2 ≡ depth_of (C.AllDifferent (run x n))
run-differs-depth x zero h = absurd (omega (arith, h))
run-differs-depth x (suc n) h = sym (depth-AllDifferent (run x (suc n)) ∙ ap (λ m. suc m) (run-depth x n))

pub run-differs-nodes : (x n : ℕ) → n + 1 ≡ nodes_of (C.AllDifferent (run x n))
run-differs-nodes x n = one-more n ∙ sym (nodes-AllDifferent (run x n) ∙ ap (λ m. suc m) (run-nodes x n))
  where
    one-more : (n : ℕ) → n + 1 ≡ suc n
    one-more n = omega arith

-- ---- variables in the order of values

variables-ranked : (kind : Kind) (x n : ℕ) → map ranked (variables kind x n) ≡ run x n
variables-ranked kind x zero = refl
variables-ranked Number x (suc n) = ap (λ es. E.Var x ∷ es) (variables-ranked Number (suc x) n)
variables-ranked (Enumeration d) x (suc n) = ap (λ es. E.Var x ∷ es) (variables-ranked (Enumeration d) (suc x) n)

variables-live : (kind : Kind) (x n : ℕ) → all_known (variables kind x (suc n)) ≡ None
variables-live Number x n = refl
variables-live (Enumeration d) x n = refl

module _ (c : Context) where
  size-Var : (x : ℕ) → size (sets c) (arrays c) (E.Var x) ≡ var_magnitude (sets c) x
  size-Var x = ap (term_magnitude (sets c)) (term_Var (tables (arrays c)) [] x)

  variables-sizes : (kind : Kind) (x n : ℕ) → map (λ g. size (sets c) (arrays c) (ranked g)) (variables kind x n) ≡ run_sizes (sets c) x n
  variables-sizes kind x zero = refl
  variables-sizes Number x (suc n) = λ i. size-Var x i ∷ variables-sizes Number (suc x) n i
  variables-sizes (Enumeration d) x (suc n) = λ i. size-Var x i ∷ variables-sizes (Enumeration d) (suc x) n i

  -- ---- the elements of an array

  module _ (at n : ℕ) where
    pub listed-differ : (vs : List Value) → leaves_differ c at n (listed vs) ≡ known_node c.item n (values.Bool (all_different vs))
    listed-differ vs =
        ap (λ o. folded c.item n o (λ vs. Ok (values.Bool (all_different vs)))
        (sized at (two_greatest (map (λ g. size (sets c) (arrays c) (ranked g)) (map known vs))) (condition_node c.item n (C.AllDifferent (map ranked (map known vs))))))
        (known-values vs)

    pub undeclared-differ : (ls : Leaves) → are_alike (sets c) ls ≡ false → leaves_differ c at n ls ≡ Err (eval (OutOfIndex at))
    undeclared-differ ls h = ap (λ b. cond b (all_differ (sets c) (arrays c) c.item at n (parts.leaves ls)) (Err (eval (OutOfIndex at)))) h

    declared-differ : (ls : Leaves) → are_alike (sets c) ls ≡ true → leaves_differ c at n ls ≡ all_differ (sets c) (arrays c) c.item at n (parts.leaves ls)
    declared-differ ls h = ap (λ b. cond b (all_differ (sets c) (arrays c) c.item at n (parts.leaves ls)) (Err (eval (OutOfIndex at)))) h

    pub none-differ : (kind : Kind) (x m : ℕ) → are_alike (sets c) (numbered kind x m) ≡ true → m ≡ 0 → leaves_differ c at n (numbered kind x m) ≡ known_node c.item n (values.Bool true)
    none-differ kind x zero h e = declared-differ (numbered kind x zero) h
    none-differ kind x (suc m) h e = absurd (omega (arith, e))

    run-tested : (kind : Kind) (x m : ℕ) → are_alike (sets c) (numbered kind x (suc m)) ≡ true →
        leaves_differ c at n (numbered kind x (suc m)) ≡ sized at (two_greatest (run_sizes (sets c) x (suc m))) (condition_node c.item n (C.AllDifferent (run x (suc m))))
    run-tested kind x m h =
        declared-differ (numbered kind x (suc m)) h
        ∙ ap (λ o. folded c.item n o (λ vs. Ok (values.Bool (all_different vs)))
        (sized at (two_greatest (map (λ g. size (sets c) (arrays c) (ranked g)) (variables kind x (suc m)))) (condition_node c.item n (C.AllDifferent (map ranked (variables kind x (suc m)))))))
        (variables-live kind x m)
        ∙ (λ i. sized at (two_greatest (variables-sizes kind x (suc m) i)) (condition_node c.item n (C.AllDifferent (variables-ranked kind x (suc m) i))))

    pub large-differ : (kind : Kind) (x m : ℕ) → are_alike (sets c) (numbered kind x m) ≡ true → 0 < m → 2 ^ 127 ≤ two_greatest (run_sizes (sets c) x m) → leaves_differ c at n (numbered kind x m) ≡ Err (large at)
    large-differ kind x zero h k l = absurd (omega (arith, k))
    large-differ kind x (suc m) h k l = run-tested kind x m h ∙ sized-large at (two_greatest (run_sizes (sets c) x (suc m))) (condition_node c.item n (C.AllDifferent (run x (suc m)))) l

    pub run-differ : (kind : Kind) (x m : ℕ) → are_alike (sets c) (numbered kind x m) ≡ true → 0 < m → two_greatest (run_sizes (sets c) x m) < 2 ^ 127 →
        leaves_differ c at n (numbered kind x m) ≡ condition_node c.item n (C.AllDifferent (run x m))
    run-differ kind x zero h k l = absurd (omega (arith, k))
    run-differ kind x (suc m) h k l = run-tested kind x m h ∙ sized-small at (two_greatest (run_sizes (sets c) x (suc m))) (condition_node c.item n (C.AllDifferent (run x (suc m)))) l

-- ---- the two greatest

pub two-more : (m : ℕ) (ns : List ℕ) → two_greatest (m ∷ ns) ≡ max (m + greatest ns) (two_greatest ns)
two-more m [] = alone m
  where
    alone : (m : ℕ) → m ≡ max (m + 0) 0
    alone m = omega arith
two-more m (n ∷ ns) = refl
