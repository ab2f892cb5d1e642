use Rattle.std.proofs.Common.{arith}
use Rattle.opl_item_types.proofs.Resources.{names_known}
use Rattle.opl_item_types.proofs.item.known.Goals as goal

pub returns-in-Some : goal.returns-in-Some
returns-in-Some c = grind (arith, names_known)

pub returns-in-Some-lookup : goal.returns-in-Some-lookup
returns-in-Some-lookup c = grind (arith, names_known)

pub returns-in-None-lookup : goal.returns-in-None-lookup
returns-in-None-lookup c = grind (arith, names_known)
