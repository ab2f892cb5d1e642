use Rattle.std.proofs.Common.{sym}
use Rattle.opl_choices.proofs.AnswerParts.{made_swapped, made_kept}
use Rattle.opl_choices.proofs.answers.answered_product.Goals as goal

pub returns-then-is_swapped : goal.returns-then-is_swapped
returns-then-is_swapped g c = made_swapped _ _ _ _ _ _ _ (sym c.if-is_swapped.ensures) c.requires.left c.requires.right

pub returns-else-is_swapped : goal.returns-else-is_swapped
returns-else-is_swapped g c = made_kept _ _ _ _ _ _ _ (sym c.if-is_swapped.ensures) c.requires.left c.requires.right
