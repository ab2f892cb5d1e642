use Rattle.std.proofs.Common.{◌∙◌, reverse, ap, length, length-set}
use Rattle.opl_engine.specs.declared.member.Member.TheVariants as member
use Rattle.opl_engine.specs.States.{seen}
use Rattle.opl_engine.proofs.Made.{some_members}
use Rattle.opl_engine.proofs.Changes.{betters, betters_keep}
use Rattle.opl_engine.proofs.engine.Engine.set_best.Goals as goal

pub set_best-requires : goal.set_best-requires
set_best-requires c = let s = c.self.inside in some_members s.core.value s.best s.members.members c.self.invariant.bounded

pub invariant_of-self : goal.invariant_of-self
invariant_of-self c =
    let s = c.self.inside in
    let b = c.self.invariant.bounded in
    let e = c.set_best.ensures.bound b.value b.variables b.form b.first in
    betters_keep s.core.value s.best c.args.best s.members c.set_best.new.self (reverse s.openings.items) c.self.invariant e c.set_best.ensures.variables c.set_best.ensures.notes
    (c.self.invariant.made 0 (member.Bound b.value b.variables b.form) b.first) (ap length e ∙ length-set s.members.members 0 (member.Bound c.args.best b.variables b.form))

pub returns : goal.returns
returns c =
    let s = c.self.inside in
    let b = c.self.invariant.bounded in
    let e = c.set_best.ensures.bound b.value b.variables b.form b.first in
    let r = betters s.core.value s.best c.args.best s.members c.set_best.new.self (reverse s.openings.items) (seen c.args.self.now) c.self.invariant (ap seen c.self.view_is) e c.set_best.ensures.waits c.set_best.ensures.notes c.set_best.ensures.long in
    record { best = r.best_is; core = r.core_is; posted = r.posted; levels = r.levels; fits = r.fits }
