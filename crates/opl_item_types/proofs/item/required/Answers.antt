use Rattle.std.proofs.Common.{arith}
use Rattle.opl_item_types.proofs.Items.{fronts}
use Rattle.opl_item_types.proofs.item.required.Goals as goal

pub returns-in_err-post : goal.returns-in_err-post
returns-in_err-post c = grind (arith, fronts)

pub returns-in_err-activity : goal.returns-in_err-activity
returns-in_err-activity c = grind (arith, fronts)

pub returns-in_err-demand : goal.returns-in_err-demand
returns-in_err-demand c = grind (arith, fronts)

pub returns-in_err-known : goal.returns-in_err-known
returns-in_err-known c = grind (arith, fronts)

pub returns-in_err-parts : goal.returns-in_err-parts
returns-in_err-parts c = grind (arith, fronts)
