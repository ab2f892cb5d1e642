use Rattle.std.proofs.Common.{◌≡◌, Option, ℕ, IfOk, subst}
use Rattle.opl_making.proofs.arrays.declared_number.Goals as goal

pub returns : goal.returns
returns c = subst (λ (k : Option ℕ). IfOk c.narrowed.result (λ n. n ≡ k)) c.array.ensures c.narrowed.ensures
