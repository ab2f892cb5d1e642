use Rattle.std.proofs.Common.{ap}
use Rattle.std.specs.Prelude.{decimal}
use Rattle.opl_ground_text.proofs.Parts.{added, three}
use Rattle.opl_ground_text.proofs.lines.push_variables_heading.Goals as goal

pub returns : goal.returns
returns c = three _ _ _ _ _ _ _ c.in_ok-extend_from_slice.ensures.items (added _ _ _ _ c.in_ok-push_number.ensures (ap decimal c.len.ensures)) c.in_ok-extend_from_slice-2.ensures.items
