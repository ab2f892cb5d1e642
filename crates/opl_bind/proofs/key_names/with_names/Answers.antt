use Rattle.std.proofs.Common.{◌++◌, ◌∷◌, arith, drop, map}
use Rattle.std.proofs.lemmas.Grind.{common_steps}
use Rattle.std.proofs.lemmas.List.{nil_from_length}
use Rattle.opl_eval.specs.Visible.{parameter_of}
use Rattle.opl_bind.specs.Keys.{chosen, named_all}
use Rattle.opl_bind.proofs.EachKey.{names-end}
use Rattle.opl_bind.proofs.key_names.with_names.Goals as goal

pub returns-in_default-split_first : goal.returns-in_default-split_first
returns-in_default-split_first c =
    names-end (map parameter_of c.args.parameters.now ++ named_all (c.args.first.now ∷ c.args.rest.now) (chosen c.args.key.now)) (map parameter_of c.loop-dim.all.items) (drop c.loop-dim.dim-index c.args.rest.now) c.loop-dim.left.now
    c.loop-dim.invariant (nil_from_length c.loop-dim.left.now c.in_default-split_first.ensures.cases)

pub returns-in_default : goal.returns-in_default
returns-in_default c = grind (arith, common_steps)

pub loop-dim-init : goal.loop-dim-init
loop-dim-init c = grind (arith, common_steps)

pub loop-dim-preserved : goal.loop-dim-preserved
loop-dim-preserved c = grind (arith, common_steps)

pub returns : goal.returns
returns c = grind (arith, common_steps)
