use Rattle.std.specs.Prelude.{slice_index_or}
use Rattle.std.proofs.Common.{refl, ◌<◌, length, arith}
use Rattle.opl_trace.specs.SoundCores.{facts_in}
use Rattle.opl_choices.specs.Branches.{element}
use Rattle.opl_reference_search.specs.Tasks.{tasks_in}
use Rattle.opl_reference_search.proofs.Performed.{first_made}
use Rattle.opl_reference_search.proofs.statements.first_body.Goals as goal

pub returns : goal.returns
returns g c =
    let core = c.args.search.now.core.now in
    let some : 0 < length c.args.elements.now = grind (arith, c.if-is_empty.false, c.if-is_empty.ensures) in
    first_made c.args.sets.now (λ e. element core e.now) (facts_in core c.args.posted.now) c.args.elements.now (tasks_in core c.args.others.now) c.in_ok-at.at (slice_index_or c.args.elements.now c.in_ok-at.at c.index-elements-at.result) c.index-elements-at.result _
    c.in_ok-at.ensures.place (c.in_ok-at.ensures.there some) refl c.in_ok-way.ensures
