use Rattle.std.proofs.Common.{◌≡◌, ◌∙◌, true, ap, sym, subst}
use Rattle.std.specs.Prelude.{FitsSigned}
use mir.Syntax.{w64}
use Rattle.std.proofs.lemmas.Int.{to_z-of_z}
use Rattle.opl_domain.specs.Family.{has}
use Rattle.opl_trace.specs.Answers.{is_value}
use Rattle.opl_search.specs.States.{posting}
use Rattle.opl_solver.specs.Pairs.{Joint, state_of}
use Rattle.opl_solver.proofs.pair.PairSolver.post_value.Goals as goal

pub post_value-requires-clause-value : goal.post_value-requires-clause-value
post_value-requires-clause-value c =
    let v : FitsSigned w64 c.args.v = c.ranges.v in
    rw (to_z-of_z w64 c.args.v v) (subst (λ (p : Joint). has p.store.top c.args.x c.args.v ≡ true) (sym c.self.view_is) c.requires)

pub returns : goal.returns
returns c =
    let v : FitsSigned w64 c.args.v = c.ranges.v in
    (rw (to_z-of_z w64 c.args.v v) at c.in_ok-post_value.ensures.posted) ∙ ap (λ (p : Joint). posting (is_value c.args.x c.args.v) (state_of p)) c.self.view_is
