-- Variables and elements, by their sorts.
use Rattle.std.proofs.Common.{◌≡◌, ℕ, ◌<◌, ◌≤◌, ◌^◌, cond, true, false, nat_lt, min, length, Result, Err, sym, ap, subst, arith}
use Rattle.std.proofs.lemmas.Bool.Decides.{nat_tests}
use Rattle.opl_eval.specs.declared.fault.EvalFault.TheVariants.{OutOfIndex}
use Rattle.opl_meaning.specs.declared.variable.Kind.{Kind}
use Rattle.opl_draft.specs.Drafts.{Draft}
use Rattle.opl_expr.specs.declared.forms.Expr.{Expr}
use Rattle.opl_expr.specs.declared.forms.Expr.TheVariants as E
use Rattle.opl_form.specs.Parts as parts
use Rattle.opl_form.specs.Parts.Form.{name, number}
use Rattle.opl_form.specs.Parts.Sort.{whole, named, other}
use Rattle.opl_form.specs.Made.{made}
use Rattle.opl_form.specs.Nodes.{element_node, variable_sort}
use Rattle.opl_form.specs.Nodes.Fault.{eval}
use Rattle.opl_nodes.specs.declared.context.Context.{Context}
use Rattle.opl_nodes.specs.declared.fault.FormFault.{FormFault}
use Rattle.opl_nodes.specs.declared.part.Part.{Part}
use Rattle.opl_nodes.specs.Contexts.{arrays, sets}
use Rattle.opl_nodes.specs.Pieces.{Makes, tested}
use Rattle.opl_nodes.proofs.Tests.{makes-same, name-tested, number-tested}

module _ (c : Context) (at n : ℕ) where
  -- an element of each sort
  pub sorted-whole : (e : Expr) (s : parts.Sort) (r : Result Part FormFault) → whole ≡ s → Makes c (tested c at n (number e)) r → Makes c (element_node (sets c) (arrays c) c.item s at n e) r
  sorted-whole e s r h k =
      subst (λ s. Makes c (element_node (sets c) (arrays c) c.item s at n e) r) h (makes-same c (tested c at n (number e)) (element_node (sets c) (arrays c) c.item whole at n e) r (number-tested c at n e) k)

  pub sorted-named : (d : ℕ) (e : Expr) (s : parts.Sort) (r : Result Part FormFault) → named d ≡ s → Makes c (tested c at n (name d e)) r → Makes c (element_node (sets c) (arrays c) c.item s at n e) r
  sorted-named d e s r h k =
      subst (λ s. Makes c (element_node (sets c) (arrays c) c.item s at n e) r) h (makes-same c (tested c at n (name d e)) (element_node (sets c) (arrays c) c.item (named d) at n e) r (name-tested c at n d e) k)

  pub sorted-other : (e : Expr) (s : parts.Sort) → other ≡ s → element_node (sets c) (arrays c) c.item s at n e ≡ Err (eval (OutOfIndex at))
  sorted-other e s h = ap (λ s. element_node (sets c) (arrays c) c.item s at n e) (sym h)

  -- a variable that is declared, or is not
  pub made-declared : (x : ℕ) (kind : Kind) → x < length (sets c) → made (sets c) (arrays c) c.item n (Draft.variable at x kind) ≡ element_node (sets c) (arrays c) c.item (variable_sort (sets c) kind x) at n (E.Var x)
  made-declared x kind h = ap (λ b. cond b (element_node (sets c) (arrays c) c.item (variable_sort (sets c) kind x) at n (E.Var x)) (Err (eval (OutOfIndex at)))) (is-below x (length (sets c)) h)
    where
      is-below : (x n : ℕ) → x < n → nat_lt x n ≡ true
      is-below x n h = grind (arith, nat_tests)

  pub made-undeclared : (x : ℕ) (kind : Kind) → length (sets c) ≤ x → made (sets c) (arrays c) c.item n (Draft.variable at x kind) ≡ Err (eval (OutOfIndex at))
  made-undeclared x kind h = ap (λ b. cond b (element_node (sets c) (arrays c) c.item (variable_sort (sets c) kind x) at n (E.Var x)) (Err (eval (OutOfIndex at)))) (is-above x (length (sets c)) h)
    where
      is-above : (x n : ℕ) → n ≤ x → nat_lt x n ≡ false
      is-above x n h = grind (arith, nat_tests)

pub same-capped : (m n : ℕ) → m ≡ n → min m (2 ^ 127) ≡ min n (2 ^ 127)
same-capped m n h = ap (λ m. min m (2 ^ 127)) h
