use Rattle.std.proofs.Common.{◌∙◌, ap, subst, arith, reverse}
use Rattle.opl_trace.specs.Marks.{objective}
use Rattle.opl_turns.specs.Coming.{coming}
use Rattle.opl_turns.specs.Coming as plain
use Rattle.opl_turns.specs.Covered.{Covers}
use Rattle.opl_turns.specs.Weights.{weight_at}
use Rattle.opl_search.specs.Tails.{tail_of}
use Rattle.opl_search.specs.States.{moment}
use Rattle.opl_search.specs.Pending.{places}
use Rattle.opl_search.proofs.Parts.{tail_end, tail_label}
use Rattle.opl_search.proofs.Places.{goes_from}
use Rattle.opl_search.proofs.search.Search.at.Goals as goal

pub finish-requires-clause-covers : goal.finish-requires-clause-covers
finish-requires-clause-covers g c =
    let s = g.S.Solver.state c.args.self.now.solver in
    subst (Covers s.sets) (ap tail_of c.in-End.is ∙ tail_end) c.requires.turn.1

pub at_label-requires-clause-covers : goal.at_label-requires-clause-covers
at_label-requires-clause-covers g c =
    let s = g.S.Solver.state c.args.self.now.solver in
    subst (Covers s.sets) (ap tail_of c.in-Label.is ∙ tail_label c.in-Label.variables c.in-Label.place c.in-Label.rest) c.requires.turn.1

pub returns-in-End-clause-goes : goal.returns-in-End-clause-goes
returns-in-End-clause-goes g c =
    let m = c.args.self.now in
    let s = g.S.Solver.state m.solver in
    let ps = places (reverse m.opens.items) s.levels in
    goes_from (ap (λ ts. coming (objective s.core) (moment s.core) (plain.Turn.down ts) s.posted s.best m.left ps) (ap tail_of c.in-End.is ∙ tail_end)) c.finish.ensures.goes

pub returns-in_ok-turn-in-Label-clause-goes : goal.returns-in_ok-turn-in-Label-clause-goes
returns-in_ok-turn-in-Label-clause-goes g c =
    let m = c.args.self.now in
    let s = g.S.Solver.state m.solver in
    let ps = places (reverse m.opens.items) s.levels in
    goes_from (ap (λ ts. coming (objective s.core) (moment s.core) (plain.Turn.down ts) s.posted s.best m.left ps) (ap tail_of c.in-Label.is ∙ tail_label c.in-Label.variables c.in-Label.place c.in-Label.rest)) c.in_ok-turn-in-Label.ensures.goes

pub returns-in_ok-turn-in-Label-clause-less : goal.returns-in_ok-turn-in-Label-clause-less
returns-in_ok-turn-in-Label-clause-less g c =
    let m = c.args.self.now in
    let s = g.S.Solver.state m.solver in
    let ps = places (reverse m.opens.items) s.levels in
    let tail = ap (λ ts. weight_at ts ps m.left) (ap tail_of c.in-Label.is ∙ tail_label c.in-Label.variables c.in-Label.place c.in-Label.rest) in
    λ e. let a = c.in_ok-turn-in-Label.ensures.less e in omega (arith, a, tail)
