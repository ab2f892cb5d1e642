-- Parts that take up one part after another: equivalences, and the sums of chains.
use Rattle.std.proofs.Common.{ℕ, ◌+◌, sym}
use Rattle.opl_draft.specs.Drafts.{drafts_of, steps_of}
use Rattle.opl_form.specs.Measures.{part_nodes}
use Rattle.opl_form.specs.Made.{made, made_same, made_steps, place}
use Rattle.opl_form.specs.Nodes.{next, parts_nodes, same, stepped, truth_part}
use Rattle.opl_unfolding.specs.Laws.{MadeSame, MadeSteps}
use Rattle.opl_unfolding.specs.Onto.{operand_made}
use Rattle.opl_unfolding.proofs.Lists.{next-out}

pub made-same : MadeSame
made-same sets arrays item n d ds = record {
  first = λ at. sym (next-out (made sets arrays item n d) (λ g. truth_part item n g) (λ h. made_same sets arrays item n h (drafts_of ds)));
  more = λ g. sym (next-out (made sets arrays item (n + part_nodes g) d) (λ h. same item n g h) (λ h. made_same sets arrays item n h (drafts_of ds)));
}

pub made-steps : MadeSteps
made-steps sets arrays item at n ps s ss =
    sym (next-out (operand_made sets arrays item (n + parts_nodes ps) s.operand) (λ g. stepped sets arrays item s.sign at (place s.operand) n ps g) (λ qs. made_steps sets arrays item at n qs (steps_of ss)))
