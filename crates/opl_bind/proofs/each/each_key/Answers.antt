use Rattle.std.proofs.Common.{◌+◌, ◌∷◌, [], ◌∙◌, ap, arith, length, map, refl}
use Rattle.opl_given.specs.Elements.{left}
use Rattle.opl_given.specs.Readings.{axis_of, known_of}
use Rattle.opl_bind.specs.Keys.{to_come}
use Rattle.opl_bind.specs.Scopes.{names_in}
use Rattle.opl_bind.specs.Written as spec
use Rattle.opl_bind.proofs.Answering.{gives_same}
use Rattle.opl_bind.proofs.EachKey.{keys-start}
use Rattle.opl_bind.proofs.each.each_key.Goals as goal

pub returns : goal.returns
returns c =
    gives_same (λ a. a) _ _ c.values_walked.result
    (keys-start (spec.written (known_of c.args.types.now) c.args.term.now).fit c.args.form.now (c.args.first.now ∷ c.args.rest.now) (map axis_of c.args.axes.now) (map axis_of c.first_of.result.now) (names_in c.args.scope) c.as_slice.result.now
    (length c.args.rest.now + 1) (to_come c.new-walk.result) []
    (omega arith) c.first_of.ensures (ap (map left) c.as_slice.ensures.value ∙ c.in_ok-sets.ensures) c.new-walk.ensures refl)
    c.values_walked.ensures
