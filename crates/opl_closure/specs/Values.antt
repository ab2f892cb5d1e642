-- What narrowing leaves where one variable is to have one value.
use Rattle.std.specs.Prelude.{◌≡◌, ℕ, true, ℤ}
use Rattle.opl_domain.specs.Family.{Family, has}
use Rattle.opl_trace.specs.Answers.{is_value}
use Rattle.opl_filter.specs.Filtering.{refutes, IsLeftOf}

-- values of x have gone, each of them other than v, which stays; those that stay pass
pub record Keeps (x : ℕ) (v : ℤ) (passes : ℤ → Type 0) (F G : Family) : Type 0 where
  pub removals : IsLeftOf (refutes (is_value x v)) F G
  pub value : has G x v ≡ true
  pub others : (w : ℤ) → has G x w ≡ true → passes w
