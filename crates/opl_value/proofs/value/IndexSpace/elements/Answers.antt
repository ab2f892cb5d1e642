use Rattle.std.proofs.Common.{◌≡◌, true, arith, rules}
use Rattle.std.specs.List.{list_any}
use Rattle.opl_value.specs.Places.{has_none, lists}
use Rattle.opl_value.proofs.Counts.{elements-none}
use Rattle.opl_value.proofs.value.IndexSpace.elements.Goals as goal

pub returns-then-has_empty : goal.returns-then-has_empty
returns-then-has_empty c =
    let h : list_any has_none (lists c.args.self.now) ≡ true = search rules in
    let e = elements-none (lists c.args.self.now) h in
    (omega arith, omega arith)
