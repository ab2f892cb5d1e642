use Rattle.std.proofs.Common.{◌∷◌, ◌∙◌, ap, map, subst}
use Rattle.opl_eval.specs.Visible.{parameter_of}
use Rattle.opl_given.specs.Faults.{Binds}
use Rattle.opl_given.specs.Readings.{known_of}
use Rattle.opl_bind.specs.Keys.{chosen}
use Rattle.opl_bind.specs.Written as spec
use Rattle.opl_bind.proofs.EachKey.{within-names}
use Rattle.opl_bind.proofs.each.value_at.Goals as goal

pub returns : goal.returns
returns c =
    subst (λ env. Binds ((spec.written (known_of c.args.types.now) c.args.term.now).fit c.args.form.now env) c.fitted.result)
    (within-names c.args.scope.environment.now c.args.scope.parameters.now c.as_slice.result.now (c.args.first.now ∷ c.args.rest.now) (chosen c.args.key.now) (ap (map parameter_of) c.as_slice.ensures.value ∙ c.in_ok-parameters.ensures))
    c.fitted.ensures
