use Rattle.std.proofs.Common.{◌≡◌, Option, ℕ, IfOk, subst, sym}
use Rattle.opl_groups.specs.Visits.{sees}
use Rattle.opl_making.proofs.arrays.array_number.Goals as goal

pub returns-in-Some : goal.returns-in-Some
returns-in-Some c = subst (λ (k : Option ℕ). IfOk c.named_number.result (λ n. n ≡ k)) (sym (c.in-Some.ensures.array (sees c.args.scope))) c.named_number.ensures

pub returns-in-None : goal.returns-in-None
returns-in-None c = sym (c.in-None.ensures.array (sees c.args.scope))
