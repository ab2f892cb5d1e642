-- The cells of variables one behind another.
use Rattle.std.proofs.Common.{◌≡◌, ℕ, zero, suc, ◌+◌, List, [], ◌∷◌, ◌++◌, IfOk, Result, Ok, Err, ap, sym, ◌∙◌, arith}
use Rattle.opl_meaning.specs.declared.variable.Kind.{Kind}
use Rattle.opl_expr.specs.declared.tables.Cell.TheVariants as cell
use Rattle.opl_expr.specs.declared.tables.Cell.{Cell}
use Rattle.opl_form.specs.Parts.{cells_of, number_cells}
use Rattle.opl_nodes.specs.declared.array.Leaves.{Leaves}
use Rattle.opl_nodes.specs.declared.array.Leaves.TheVariants.{Numbered}
use Rattle.opl_nodes.specs.Contexts.{leaves}

numbers-more : (k : Kind) (x n : ℕ) → number_cells k x n ++ cell.Var (x + n) ∷ [] ≡ number_cells k x (suc n)
numbers-more k x zero = ap (λ m. cell.Var m ∷ []) (plus-zero x)
  where
    plus-zero : (x : ℕ) → x + 0 ≡ x
    plus-zero x = omega arith
numbers-more k x (suc n) = ap (λ m. cell.Var x ∷ (number_cells k (suc x) n ++ cell.Var m ∷ [])) (plus-suc x n) ∙ ap (λ cs. cell.Var x ∷ cs) (numbers-more k (suc x) n)
  where
    plus-suc : (x n : ℕ) → x + suc n ≡ suc x + n
    plus-suc x n = omega arith

pub numbers-push : (k : Kind) (x n : ℕ) → number_cells k x n ++ cell.Var (x + n) ∷ [] ≡ number_cells k x (n + 1)
numbers-push k x n = numbers-more k x n ∙ ap (number_cells k x) (plus-one n)
  where
    plus-one : (n : ℕ) → suc n ≡ n + 1
    plus-one n = omega arith

-- the cells of an array of variables
pub numbered-cells : {E : Type 0} (r : Result (List Cell) E) (ls : Leaves) (k : Kind) (x n : ℕ) → ls ≡ Numbered k x n → IfOk r (λ cs. (k : Kind) → cs ≡ number_cells k x n) → IfOk r (λ cs. cs ≡ cells_of (leaves ls))
numbered-cells (Ok cs) ls k x n e h = h k ∙ ap (λ l. cells_of (leaves l)) (sym e)
numbered-cells (Err fault) ls k x n e h = tt
