use Rattle.opl_filter.specs.Filtering.{refutes}
use Rattle.opl_reify.specs.Parts.{fact_in}
use Rattle.opl_connective.proofs.Going.{stable_goes, failed_goes}
use Rattle.opl_connective.proofs.rounds.by_part.Goals as goal

pub returns-in-Stable-clause-goes : goal.returns-in-Stable-clause-goes
returns-in-Stable-clause-goes g c =
    let d = fact_in c.args.core.now c.args.part.now in
    stable_goes (refutes d) (g.N.View.family c.args.n.now) (g.N.View.family c.filter.new.n) (c.filter.ensures.between d c.requires.part.filter) (c.in-Stable.ensures.outcome d c.requires.part.filter)

pub returns-in-Failed-clause-goes : goal.returns-in-Failed-clause-goes
returns-in-Failed-clause-goes g c =
    let d = fact_in c.args.core.now c.args.part.now in
    failed_goes (refutes d) (g.N.View.family c.args.n.now) (g.N.View.family c.filter.new.n) (c.filter.ensures.between d c.requires.part.filter) (c.in-Failed.ensures.outcome d c.requires.part.filter)
