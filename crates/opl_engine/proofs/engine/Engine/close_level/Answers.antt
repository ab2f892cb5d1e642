use Rattle.std.proofs.Common.{◌≡◌, ◌∙◌, ◌∷◌, reverse, ap}
use Rattle.opl_engine.specs.declared.opening.Opening.{Opening}
use Rattle.opl_engine.specs.States.{seen}
use Rattle.opl_engine.proofs.Changes.{closes_level, closes_level_keep, reverse_last}
use Rattle.opl_engine.proofs.engine.Engine.close_level.Goals as goal

pub invariant_of-self : goal.invariant_of-self
invariant_of-self c =
    let s = c.self.inside in
    let o = c.in-Some.opening in
    let made : reverse s.openings.items ≡ o ∷ reverse c.pop.new.self.items = ap (reverse {A = Opening}) c.in-Some.ensures.items ∙ reverse_last s.core.value c.pop.new.self.items o in
    closes_level_keep s.core.value s.best s.members c.give_back.new.members o (reverse c.pop.new.self.items) (reverse s.openings.items) c.self.invariant made c.give_back.ensures.members c.give_back.ensures.variables c.give_back.ensures.notes

pub returns-in-Some : goal.returns-in-Some
returns-in-Some c =
    let s = c.self.inside in
    let o = c.in-Some.opening in
    let made : reverse s.openings.items ≡ o ∷ reverse c.pop.new.self.items = ap (reverse {A = Opening}) c.in-Some.ensures.items ∙ reverse_last s.core.value c.pop.new.self.items o in
    let r = closes_level s.core.value s.best s.members c.give_back.new.members o (reverse c.pop.new.self.items) (reverse s.openings.items) (seen c.args.self.now) c.self.invariant (ap seen c.self.view_is) made c.give_back.ensures.members c.give_back.ensures.notes c.give_back.ensures.calm c.give_back.ensures.bounded in
    record { posted = r.below_is; core = r.core_is; best = r.best_is; fits = r.fits }
