use Rattle.std.proofs.Common.{arith}
use Rattle.opl_declaration_types.proofs.Declared.{ends_given}
use Rattle.opl_declaration_types.proofs.declaration.is_given.Goals as goal

pub returns-in-Origin : goal.returns-in-Origin
returns-in-Origin c = grind (arith, ends_given)

pub returns-in-Horizon : goal.returns-in-Horizon
returns-in-Horizon c = grind (arith, ends_given)
