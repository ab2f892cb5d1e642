use Rattle.std.proofs.Common.{subst, sym}
use Rattle.std.specs.Prelude.{FitsSigned}
use mir.Syntax.{w64}
use Rattle.std.proofs.lemmas.Int.{to_z-of_z}
use Rattle.opl_trace.specs.Answers.{is_value}
use Rattle.opl_engine.specs.States.{seen}
use Rattle.opl_solver.specs.Pairs.{IsPair}
use Rattle.opl_solver.proofs.Pairs.{there, posted_pair, posted_both}
use Rattle.opl_solver.proofs.together.post_value.Goals as goal

pub post_value-requires : goal.post_value-requires
post_value-requires c = there (seen c.args.engine.now) c.args.store.now c.args.x c.args.v c.requires.pair c.requires.value

pub returns-in_err-post_value-clause-pair : goal.returns-in_err-post_value-clause-pair
returns-in_err-post_value-clause-pair c = subst (λ p. IsPair (seen p) c.args.store.now) (sym c.in_err-post_value.ensures.err) c.requires.pair

pub returns-clause-pair : goal.returns-clause-pair
returns-clause-pair c =
    let e = c.post_value.ensures in
    let v : FitsSigned w64 c.args.v = c.ranges.v in
    posted_pair (seen c.args.engine.now) (seen c.post_value.new.self) c.args.store.now (is_value c.args.x c.args.v) e.same (rw (to_z-of_z w64 c.args.v v) at c.in_ok-post_value.ensures.ok) e.fits c.requires.pair

pub returns-clause-posted : goal.returns-clause-posted
returns-clause-posted c =
    let e = c.post_value.ensures in
    let v : FitsSigned w64 c.args.v = c.ranges.v in
    posted_both (seen c.args.engine.now) (seen c.post_value.new.self) c.args.store.now (is_value c.args.x c.args.v) e.same (rw (to_z-of_z w64 c.args.v v) at c.in_ok-post_value.ensures.ok)
