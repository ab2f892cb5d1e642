use Rattle.std.proofs.Common.{rules, length, reverse, ap, arith}
use Rattle.std.specs.Prelude.{FitsSigned}
use mir.Syntax.{w64}
use Rattle.std.proofs.lemmas.Int.{to_z-of_z}
use Rattle.opl_engine.specs.declared.member.Member.TheVariants as member
use Rattle.opl_engine.specs.States.{Parts, seen}
use Rattle.opl_engine.proofs.Changes.{posts, posts_keep, stays, stays_engine}
use Rattle.opl_engine.proofs.engine.Engine.post_value.Goals as goal

pub invariant_of-self : goal.invariant_of-self
invariant_of-self c =
    let s = c.self.inside in
    stays_engine s.core.value s.best s.members c.add.new.self (reverse s.openings.items) c.in_err-add.ensures.err c.self.invariant

pub invariant_of-self-2 : goal.invariant_of-self-2
invariant_of-self-2 c =
    let s = c.self.inside in
    let fits : FitsSigned w64 c.args.v = search rules in
    let d = ap (λ (p : Parts). length p.core.sets) c.self.view_is in
    posts_keep s.core.value s.best s.members c.add.new.self (reverse s.openings.items) (member.Value c.args.x c.args.v) c.self.invariant (omega (arith, c.requires, d)) (rw (to_z-of_z w64 c.args.v fits) at c.in_ok-add.ensures.ok)

pub returns-in_err-add-clause-same : goal.returns-in_err-add-clause-same
returns-in_err-add-clause-same c =
    let s = c.self.inside in
    (stays s.core.value s.best s.members c.add.new.self (reverse s.openings.items) c.args.self.now c.in_err-add.ensures.err c.self.view_is).same

pub returns-in_err-add-clause-fits : goal.returns-in_err-add-clause-fits
returns-in_err-add-clause-fits c =
    let s = c.self.inside in
    (stays s.core.value s.best s.members c.add.new.self (reverse s.openings.items) c.args.self.now c.in_err-add.ensures.err c.self.view_is).fits

pub returns-clause-ok : goal.returns-clause-ok
returns-clause-ok c =
    let s = c.self.inside in
    let fits : FitsSigned w64 c.args.v = search rules in
    (posts s.core.value s.best s.members c.add.new.self (reverse s.openings.items) (member.Value c.args.x c.args.v) (seen c.args.self.now) c.self.invariant (ap seen c.self.view_is) (rw (to_z-of_z w64 c.args.v fits) at c.in_ok-add.ensures.ok) c.add.ensures.long (λ fs n. tt)).posted

pub returns-clause-same : goal.returns-clause-same
returns-clause-same c =
    let s = c.self.inside in
    let fits : FitsSigned w64 c.args.v = search rules in
    (posts s.core.value s.best s.members c.add.new.self (reverse s.openings.items) (member.Value c.args.x c.args.v) (seen c.args.self.now) c.self.invariant (ap seen c.self.view_is) (rw (to_z-of_z w64 c.args.v fits) at c.in_ok-add.ensures.ok) c.add.ensures.long (λ fs n. tt)).same

pub returns-clause-fits : goal.returns-clause-fits
returns-clause-fits c =
    let s = c.self.inside in
    let fits : FitsSigned w64 c.args.v = search rules in
    (posts s.core.value s.best s.members c.add.new.self (reverse s.openings.items) (member.Value c.args.x c.args.v) (seen c.args.self.now) c.self.invariant (ap seen c.self.view_is) (rw (to_z-of_z w64 c.args.v fits) at c.in_ok-add.ensures.ok) c.add.ensures.long (λ fs n. tt)).fits
