use Rattle.std.proofs.Common.{◌≡◌, ◌∙◌, [], ◌∷◌, ◌++◌, reverse, ap, sym}
use Rattle.opl_engine.specs.declared.opening.Opening.{Opening}
use Rattle.std.specs.Prelude.{not}
use Rattle.opl_engine.specs.States.{seen}
use Rattle.opl_engine.proofs.Changes.{opens, opens_keep, reverse_last, unless}
use Rattle.opl_engine.proofs.engine.Engine.open_level.Goals as goal

pub invariant_of-self-2 : goal.invariant_of-self-2
invariant_of-self-2 c =
    let s = c.self.inside in
    let o : Opening = record { members = c.len.result; calm = c.is_calm.result; bounded = not c.waits.result; best = s.best } in
    let made : reverse c.push_reserved.new.self.items ≡ o ∷ reverse s.openings.items = ap (reverse {A = Opening}) (c.push_reserved.ensures.items ∙ ap (λ xs. xs ++ o ∷ []) c.in_ok-reserve.ensures.items) ∙ reverse_last s.core.value s.openings.items o in
    opens_keep s.core.value s.best s.members c.open_level.new.self (reverse s.openings.items) (reverse c.push_reserved.new.self.items) o c.self.invariant c.in_ok-open_level.ensures.ok c.len.ensures made

pub returns-clause-fits : goal.returns-clause-fits
returns-clause-fits c =
    let s = c.self.inside in
    let o : Opening = record { members = c.len.result; calm = c.is_calm.result; bounded = not c.waits.result; best = s.best } in
    let made : reverse c.push_reserved.new.self.items ≡ o ∷ reverse s.openings.items = ap (reverse {A = Opening}) (c.push_reserved.ensures.items ∙ ap (λ xs. xs ++ o ∷ []) c.in_ok-reserve.ensures.items) ∙ reverse_last s.core.value s.openings.items o in
    (opens s.core.value s.best s.members c.open_level.new.self (reverse s.openings.items) (reverse c.push_reserved.new.self.items) c.len.result c.is_calm.result (not c.waits.result) (seen c.args.self.now) (ap seen c.self.view_is) c.in_ok-open_level.ensures.ok c.len.ensures made
    c.is_calm.ensures (λ h. sym c.waits.ensures ∙ unless s.core.value c.waits.result h)).fits
