use Rattle.opl_trace.proofs.Families.{below_join}
use Rattle.opl_expr.specs.Forms.{Fact}
use Rattle.opl_filter.proofs.Refuting.{refutes_falls}
use Rattle.opl_reify.specs.Parts.{signed}
use Rattle.opl_connective.specs.Trees.{tree, holds, iff_refuted}
use Rattle.opl_connective.proofs.Going.{iff_open, first_spares, second_spares}
use Rattle.opl_connective.proofs.Reading.{listed_there, spares_as}
use Rattle.opl_connective.proofs.rounds.by_unlike.Goals as goal

pub by_values-requires-clause-falls : goal.by_values-requires-clause-falls
by_values-requires-clause-falls g c = refutes_falls (signed c.args.is_opposite (Fact.iff (holds c.args.core.now (tree c.args.first.now)) (holds c.args.core.now (tree c.args.second.now))))

pub by_values-requires-clause-tests : goal.by_values-requires-clause-tests
by_values-requires-clause-tests g c = λ F b. (c.requires.first, c.requires.second, below_join F _ _ b c.requires.declared)

pub by_values-requires-clause-there : goal.by_values-requires-clause-there
by_values-requires-clause-there g c = listed_there c.args.core.now c.args.first.now c.variables-variables.result.now (g.N.View.family c.args.n.now) c.variables-variables.ensures c.requires.first c.requires.declared

pub by_values-requires-clause-spared : goal.by_values-requires-clause-spared
by_values-requires-clause-spared g c =
    iff_open c.args.core.now c.args.is_opposite (tree c.args.first.now) (tree c.args.second.now) c.requires.first c.requires.second (g.N.View.family c.args.n.now) c.vars-vars.ensures.sets.full c.requires.first_open.holds c.requires.first_open.fails

pub by_values-requires-clause-first : goal.by_values-requires-clause-first
by_values-requires-clause-first g c =
    let s = tree c.args.first.now in
    let t = tree c.args.second.now in
    let D = g.N.View.family c.args.n.now in
    spares_as (iff_refuted c.args.core.now c.args.is_opposite s t) c.args.first.now c.variables-variables.result.now D c.variables-variables.ensures
    (first_spares c.args.core.now c.args.is_opposite s t c.requires.first c.requires.second D c.vars-vars.ensures.sets.full c.requires.first_open.holds c.requires.first_open.fails)

pub by_values-requires-clause-second : goal.by_values-requires-clause-second
by_values-requires-clause-second g c =
    let s = tree c.args.first.now in
    let t = tree c.args.second.now in
    let D = g.N.View.family c.args.n.now in
    spares_as (iff_refuted c.args.core.now c.args.is_opposite s t) c.args.second.now c.variables-others.result.now D c.variables-others.ensures
    (second_spares c.args.core.now c.args.is_opposite s t c.requires.first c.requires.second D c.vars-vars.ensures.sets.full c.requires.second_open.holds c.requires.second_open.fails)
