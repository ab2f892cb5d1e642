use Rattle.std.proofs.Common.{◌≡◌, ◌∙◌, ap, sym, subst, length, reverse}
use Rattle.opl_expr.specs.Solutions.{declared}
use Rattle.opl_trace.specs.Marks.{objective}
use Rattle.opl_trace.specs.Objective.{best_after}
use Rattle.opl_trace.specs.Run.{values_of}
use Rattle.opl_turns.proofs.Covered.{covers_end}
use Rattle.opl_search.specs.declared.search.Turn.TheVariants as at
use Rattle.opl_search.specs.declared.search.Step1.TheVariants as step
use Rattle.opl_search.specs.Pending.{AreOpen, comes}
use Rattle.opl_search.proofs.Places.{goes_same, solves}
use Rattle.opl_search.proofs.Moments.{moment_long}
use Rattle.opl_search.proofs.search.Search.finish.Goals as goal

pub improve-requires-clause-single : goal.improve-requires-clause-single
improve-requires-clause-single g c = covers_end (g.S.Solver.state c.args.self.now.solver).sets c.requires.covers

pub returns-clause-goes : goal.returns-clause-goes
returns-clause-goes g c =
    let m = c.args.self.now in
    let s = g.S.Solver.state m.solver in
    let os = reverse m.opens.items in
    let e = c.improve.ensures in
    goes_same m.left (ap (λ u. u.core) e) (ap (λ u. u.best) e ∙ ap (λ u. best_after (objective s.core) (values_of u.sets) s.best) (sym e)) (solves s os m.left c.requires.moment ∙ ap (λ u. comes u os m.left (at.Done step.Solution)) (sym e))
    (subst (λ u. AreOpen os (length u.levels) u.levels) (sym e) c.requires.opens) (subst (λ u. length u.sets ≡ length (declared u.core)) (sym e) (moment_long s c.requires.moment))
