use Rattle.std.proofs.Common.{ap, subst, sym, length, arith}
use Rattle.opl_engine.specs.States.{seen}
use Rattle.opl_store.specs.Stacks.{Stack}
use Rattle.opl_solver.specs.Pairs.{IsPair}
use Rattle.opl_solver.proofs.Pairs.{stack_pair, reopened, opened_pair, opened_both}
use Rattle.opl_solver.proofs.together.open_level.Goals as goal

pub returns-in_err-open_level-clause-pair : goal.returns-in_err-open_level-clause-pair
returns-in_err-open_level-clause-pair c = subst (IsPair (seen c.args.engine.now)) (sym c.in_err-open_level.ensures.err) c.requires

pub close_level-requires : goal.close_level-requires
close_level-requires c = let h = ap (λ (t : Stack). length t.below) c.in_ok-open_level.ensures.ok in omega (arith, h)

pub returns-in-Err-clause-pair : goal.returns-in-Err-clause-pair
returns-in-Err-clause-pair c =
    let s = c.in_ok-open_level.ensures.ok in
    let r = reopened c.args.store.now c.open_level.new.self c.close_level.new.self (ap (λ (t : Stack). t.below) s) c.close_level.ensures.levels in
    subst (λ p. IsPair (seen p) c.close_level.new.self) (sym c.in-Err.ensures.err) (stack_pair (seen c.args.engine.now) c.args.store.now c.close_level.new.self r.0 r.1 c.requires)

pub returns-in-Ok-clause-pair : goal.returns-in-Ok-clause-pair
returns-in-Ok-clause-pair c =
    let e = c.in-Ok.ensures in
    let s = c.in_ok-open_level.ensures.ok in
    opened_pair (seen c.args.engine.now) (seen c.open_level-2.new.self) c.args.store.now c.open_level.new.self e.core e.best e.posted e.ok e.fits (ap (λ (t : Stack). t.top) s) (ap (λ (t : Stack). t.below) s) c.requires

pub returns-in-Ok-clause-opened : goal.returns-in-Ok-clause-opened
returns-in-Ok-clause-opened c =
    let e = c.in-Ok.ensures in
    let s = c.in_ok-open_level.ensures.ok in
    opened_both (seen c.args.engine.now) (seen c.open_level-2.new.self) c.args.store.now c.open_level.new.self e.core e.best e.posted e.ok (ap (λ (t : Stack). t.top) s) (ap (λ (t : Stack). t.below) s)
