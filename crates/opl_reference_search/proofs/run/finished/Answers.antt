use Rattle.std.proofs.Common.{ap}
use Rattle.opl_trace.specs.SoundCores.{facts_in}
use Rattle.opl_reference_labelling.specs.Outcomes.{outcome}
use Rattle.opl_reference_search.proofs.Running.{whole_run, inner_run}
use Rattle.opl_reference_search.proofs.run.finished.Goals as goal

pub returns-in_ok-outcome-in-Whole : goal.returns-in_ok-outcome-in-Whole
returns-in_ok-outcome-in-Whole g c =
    let core = c.args.search.now.core.now in
    whole_run core _ c.args.end (facts_in core c.args.posted.now) c.args.best c.args.left c.args.sets.now c.requires.moment c.in-Whole.is c.in_ok-outcome-in-Whole.ensures

pub returns-in_ok-outcome-in-Inner : goal.returns-in_ok-outcome-in-Inner
returns-in_ok-outcome-in-Inner g c =
    let core = c.args.search.now.core.now in
    inner_run core _ c.args.end (facts_in core c.args.posted.now) (facts_in core c.in_ok-copies-in-Inner.field-0) c.args.best c.args.left c.args.sets.now c.requires.moment c.in-Inner.is c.requires.posted c.requires.best
    (ap (outcome core) c.in_ok-outcome-in-Inner.ensures) (ap (facts_in core) c.in_ok-copies-in-Inner.ensures)
