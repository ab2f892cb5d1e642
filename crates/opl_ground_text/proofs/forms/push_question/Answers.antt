use Rattle.opl_ground_text.proofs.Parts.{node-name}
use Rattle.opl_ground_text.proofs.forms.push_question.Goals as goal

pub returns : goal.returns
returns c = node-name _ _ _ _ _ _ _ c.in_ok-push_opening.ensures c.in_ok-extend_from_slice.ensures.items c.in_ok-push_variable.ensures c.in_ok-extend_from_slice-2.ensures.items
