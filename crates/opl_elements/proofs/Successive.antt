-- Variables one behind another.
use Rattle.std.proofs.Common.{◌≡◌, ℕ, zero, suc, ◌+◌, ◌-◌, ◌<◌, ◌≤◌, max, ℤ, pos, Bool, true, false, cond, ◌&&◌, nat_eq, List, [], ◌∷◌, ◌++◌, map, refl, sym, ap, ◌∙◌, arith}
use Rattle.std.specs.Prelude.{slice_index_or}
use Rattle.std.specs.Cmp.{unsigned_Decides}
use Rattle.opl_meaning.specs.declared.variable.Kind.TheVariants.{Number, Enumeration}
use Rattle.opl_expr.specs.declared.forms.Expr.TheVariants as E
use Rattle.opl_expr.specs.Sound.{var_magnitude}
use Rattle.opl_form.specs.Parts.{alike}
use Rattle.opl_form.specs.Parts.Sort.{whole, named, other}
use Rattle.opl_form.specs.Measures.{depth, greatest, nodes, total}
use Rattle.opl_form.specs.Nodes.{has_positions, variable_sort, variable_sorts}
use Rattle.opl_elements.specs.Runs.{all_positions, run, run_sizes}
use Rattle.opl_elements.proofs.Measured.{depth-Var, nodes-Var}

plus-suc : (x n : ℕ) → suc x + n ≡ x + suc n
plus-suc x n = omega arith

plus-zero : (x : ℕ) → x ≡ x + 0
plus-zero x = omega arith

-- ---- one more behind, one more before

run-last : (x n : ℕ) → run x (suc n) ≡ run x n ++ E.Var (x + n) ∷ []
run-last x zero = ap (λ y. E.Var y ∷ []) (plus-zero x)
run-last x (suc n) = ap (λ es. E.Var x ∷ es) (run-last (suc x) n ∙ ap (λ y. run (suc x) n ++ E.Var y ∷ []) (plus-suc x n))

pub run-push : (x n : ℕ) → run x (n + 1) ≡ run x n ++ E.Var (x + n) ∷ []
run-push x n = ap (run x) (one-more n) ∙ run-last x n
  where
    one-more : (n : ℕ) → n + 1 ≡ suc n
    one-more n = omega arith

one-less : (i n : ℕ) → i < n → n - i ≡ suc (n - (i + 1))
one-less i n h = omega (arith, h)

next : (x i : ℕ) → suc (x + i) ≡ x + (i + 1)
next x i = omega arith

module _ (sets : List (ℤ × ℤ)) where
  pub positions-more : (x n i : ℕ) → i < n → all_positions sets (x + i) (n - i) ≡ (has_positions (slice_index_or sets (x + i) (pos 0, pos 0)) && all_positions sets (x + (i + 1)) (n - (i + 1)))
  positions-more x n i h =
      ap (all_positions sets (x + i)) (one-less i n h) ∙ ap (λ y. has_positions (slice_index_or sets (x + i) (pos 0, pos 0)) && all_positions sets y (n - (i + 1))) (next x i)

  pub positions-all : (x n : ℕ) → all_positions sets x n ≡ all_positions sets (x + 0) (n - 0)
  positions-all x n = (λ i. all_positions sets (plus-zero x i) (minus-zero n i))
    where
      minus-zero : (n : ℕ) → n ≡ n - 0
      minus-zero n = omega arith

  pub positions-none : (x n i : ℕ) → n ≤ i → all_positions sets (x + i) (n - i) ≡ true
  positions-none x n i h = ap (all_positions sets (x + i)) (none n i h)
    where
      none : (n i : ℕ) → n ≤ i → n - i ≡ 0
      none n i h = omega (arith, h)

  pub sizes-more : (x n k l : ℕ) → k < n → l ≡ k + 1 → run_sizes sets (x + k) (n - k) ≡ var_magnitude sets (x + k) ∷ run_sizes sets (x + l) (n - l)
  sizes-more x n k l h e =
      ap (run_sizes sets (x + k)) (one-less k n h) ∙ ap (λ y. var_magnitude sets (x + k) ∷ run_sizes sets y (n - (k + 1))) (next x k)
      ∙ ap (λ l. var_magnitude sets (x + k) ∷ run_sizes sets (x + l) (n - l)) (sym e)

  pub sizes-none : (x n : ℕ) → run_sizes sets (x + n) (n - n) ≡ []
  sizes-none x n = ap (run_sizes sets (x + n)) (none n)
    where
      none : (n : ℕ) → n - n ≡ 0
      none n = omega arith

  pub sizes-all : (x n l : ℕ) → l ≤ 0 → run_sizes sets (x + l) (n - l) ≡ run_sizes sets x n
  sizes-all x n l h = λ i. run_sizes sets (first x l h i) (all n l h i)
    where
      first : (x l : ℕ) → l ≤ 0 → x + l ≡ x
      first x l h = omega (arith, h)

      all : (n l : ℕ) → l ≤ 0 → n - l ≡ n
      all n l h = omega (arith, h)

-- ---- sorts

nat-self : (c : ℕ) → nat_eq c c ≡ true
nat-self c = (unsigned_Decides c c).1 refl

named-alike : (d : ℕ) (b : Bool) → alike (named d) (cond b (named d) other) ≡ b
named-alike d true = nat-self d
named-alike d false = refl

module _ (sets : List (ℤ × ℤ)) where
  named-positions : (d x n : ℕ) → variable_sorts sets (named d) (Enumeration d) x n ≡ all_positions sets x n
  named-positions d x zero = refl
  named-positions d x (suc n) = λ i. named-alike d (has_positions (slice_index_or sets x (pos 0, pos 0))) i && named-positions d (suc x) n i

  pub sorts-positions : (d x n : ℕ) → variable_sorts sets (variable_sort sets (Enumeration d) x) (Enumeration d) x n ≡ all_positions sets x n
  sorts-positions d x zero = refl
  sorts-positions d x (suc n) = by (has_positions (slice_index_or sets x (pos 0, pos 0)))
    where
      by : (b : Bool) → (alike (cond b (named d) other) (cond b (named d) other) && variable_sorts sets (cond b (named d) other) (Enumeration d) (suc x) n) ≡ (b && all_positions sets (suc x) n)
      by true = λ i. nat-self d i && named-positions d (suc x) n i
      by false = refl

  pub sorts-numbers : (x n : ℕ) → variable_sorts sets whole Number x n ≡ true
  sorts-numbers x zero = refl
  sorts-numbers x (suc n) = sorts-numbers (suc x) n

-- ---- measures

pub run-depth : (x n : ℕ) → greatest (map depth (run x (suc n))) ≡ 1
run-depth x zero = ap (λ d. max d 0) (depth-Var x)
run-depth x (suc n) = λ i. max (depth-Var x i) (run-depth (suc x) n i)

pub run-nodes : (x n : ℕ) → total (map nodes (run x n)) ≡ n
run-nodes x zero = refl
run-nodes x (suc n) = (λ i. nodes-Var x i + run-nodes (suc x) n i) ∙ one-more n
  where
    one-more : (n : ℕ) → 1 + n ≡ suc n
    one-more n = omega arith
