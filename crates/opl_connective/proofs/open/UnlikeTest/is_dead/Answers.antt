use Rattle.std.proofs.Common.{◌∙◌, sym}
use Rattle.opl_trace.proofs.Families.{below_self}
use Rattle.opl_connective.specs.Trees.{tree}
use Rattle.opl_connective.proofs.Refuted.{iff_first_open}
use Rattle.opl_connective.proofs.open.UnlikeTest.is_dead.Goals as goal

pub returns-in-First : goal.returns-in-First
returns-in-First g c = let F = g.V.View.family c.args.view.now in c.refuted.ensures ∙ c.in-First.ensures F c.vars-vars.ensures.sets.full (below_self F)

pub returns-in-Second : goal.returns-in-Second
returns-in-Second g c = let F = g.V.View.family c.args.view.now in c.refuted-in-Second.ensures ∙ c.in-Second.ensures F c.vars-vars.ensures.sets.full (below_self F)

pub returns-in-Both : goal.returns-in-Both
returns-in-Both g c =
    let s = c.args.self.now in
    sym (iff_first_open s.core.now (g.V.View.family c.args.view.now) c.vars-vars.ensures.sets.full s.is_opposite (tree s.first.now) (tree s.second.now) c.requires.0 c.requires.1 c.in-Both.ensures.0.holds c.in-Both.ensures.0.fails)
