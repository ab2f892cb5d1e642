use Rattle.std.proofs.Common.{map}
use Rattle.opl_trace.proofs.Families.{below_join}
use Rattle.opl_connective.specs.Trees.{tree}
use Rattle.opl_connective.proofs.Places.{all_falls}
use Rattle.opl_connective.proofs.Reading.{names_at, open_at, spares_at}
use Rattle.opl_connective.proofs.rounds.by_two.Goals as goal

pub by_values-requires-clause-falls : goal.by_values-requires-clause-falls
by_values-requires-clause-falls g c = all_falls c.args.core.now c.args.is_opposite (map tree c.args.nodes.now)

pub by_values-requires-clause-tests : goal.by_values-requires-clause-tests
by_values-requires-clause-tests g c = λ F b. (c.requires.nodes, below_join F _ _ b c.requires.declared)

pub by_values-requires-clause-there : goal.by_values-requires-clause-there
by_values-requires-clause-there g c =
    names_at c.args.core.now c.args.nodes.now c.args.first c.index-nodes-first.result c.variables-variables.result.now (g.N.View.family c.args.n.now) c.requires.first.there c.index-nodes-first.is c.variables-variables.ensures c.requires.nodes c.requires.declared

pub by_values-requires-clause-spared : goal.by_values-requires-clause-spared
by_values-requires-clause-spared g c = open_at c.args.core.now c.args.is_opposite c.args.nodes.now c.args.first c.index-nodes-first.result (g.N.View.family c.args.n.now) c.index-nodes-first.is c.requires.first

pub by_values-requires-clause-first : goal.by_values-requires-clause-first
by_values-requires-clause-first g c =
    spares_at c.args.core.now c.args.is_opposite c.args.nodes.now c.args.first c.index-nodes-first.result c.variables-variables.result.now (g.N.View.family c.args.n.now) c.vars-vars.ensures.sets.full c.index-nodes-first.is c.variables-variables.ensures c.requires.nodes c.requires.first

pub by_values-requires-clause-second : goal.by_values-requires-clause-second
by_values-requires-clause-second g c =
    spares_at c.args.core.now c.args.is_opposite c.args.nodes.now c.args.second c.index-nodes-second.result c.variables-others.result.now (g.N.View.family c.args.n.now) c.vars-vars.ensures.sets.full c.index-nodes-second.is c.variables-others.ensures c.requires.nodes c.requires.second
