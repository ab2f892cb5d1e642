use Rattle.std.proofs.Common.{◌∷◌, ◌∙◌, ap, map, subst}
use Rattle.opl_eval.specs.Visible.{parameter_of}
use Rattle.opl_bind.specs.Keys.{chosen}
use Rattle.opl_bind.proofs.EachKey.{within-names}
use Rattle.opl_meaning.specs.EachSet.{set_by}
use Rattle.opl_meaning.specs.Faults.{Makes}
use Rattle.opl_meaning.proofs.sets.set_at.Goals as goal

pub returns : goal.returns
returns c =
    subst (λ env. Makes (set_by c.args.t.now c.args.ends.now c.args.before env) c.set_by.result)
    (within-names c.args.visible.environment.now c.args.visible.parameters.now c.as_slice.result.now (c.args.first.now ∷ c.args.rest.now) (chosen c.args.key.now) (ap (map parameter_of) c.as_slice.ensures.value ∙ c.in_ok-parameters.ensures))
    c.set_by.ensures
