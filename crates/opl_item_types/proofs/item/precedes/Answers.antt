use Rattle.std.proofs.Common.{arith}
use Rattle.opl_item_types.proofs.Items.{fronts}
use Rattle.opl_item_types.proofs.item.precedes.Goals as goal

pub returns-in_err-post : goal.returns-in_err-post
returns-in_err-post c = grind (arith, fronts)

pub returns-in_err-first : goal.returns-in_err-first
returns-in_err-first c = grind (arith, fronts)

pub returns-in_err-post-2 : goal.returns-in_err-post-2
returns-in_err-post-2 c = grind (arith, fronts)

pub returns-in_err-second : goal.returns-in_err-second
returns-in_err-second c = grind (arith, fronts)

pub returns : goal.returns
returns c = grind (arith, fronts)
