use Rattle.std.proofs.Common.{◌∙◌, ap, get_or}
use Rattle.opl_engine.proofs.Made.{declared_sound, declared_made, declared_fact}
use Rattle.opl_engine.proofs.base.declared_member.Goals as goal

pub returns-clause-member : goal.returns-clause-member
returns-clause-member c =
    let a = c.index-as_slice-place.result in
    declared_made c.args.core.now c.args.place a c.in_ok-variables.variables c.in_ok-form.form c.requires.sound c.requires.place
    (c.index-as_slice-place.is ∙ ap (λ xs. get_or xs c.args.place a) c.as_slice.ensures) c.in_ok-variables.ensures c.in_ok-form.ensures.filter

pub returns-clause-fact : goal.returns-clause-fact
returns-clause-fact c =
    let a = c.index-as_slice-place.result in
    declared_fact c.args.core.now c.args.place a c.in_ok-variables.variables c.in_ok-form.form c.requires.place
    (c.index-as_slice-place.is ∙ ap (λ xs. get_or xs c.args.place a) c.as_slice.ensures)

pub new-requires-clause-sound : goal.new-requires-clause-sound
new-requires-clause-sound c =
    let a = c.index-as_slice-place.result in
    declared_sound c.args.core.now c.args.place a c.requires.sound c.requires.place (c.index-as_slice-place.is ∙ ap (λ xs. get_or xs c.args.place a) c.as_slice.ensures)
