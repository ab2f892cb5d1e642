use Rattle.std.proofs.Common.{◌<◌, ◌++◌, ◌∷◌, [], length, ap, ◌∙◌, arith, rules}
use Rattle.std.specs.Prelude.{FitsSigned}
use Rattle.std.proofs.lemmas.Int.{to_z-of_z}
use mir.Syntax.{w64}
use Rattle.opl_reference_labelling.proofs.Values.{values_step}
use Rattle.opl_reference_labelling.proofs.labelling.values_of.Goals as goal

pub loop-x-preserved : goal.loop-x-preserved
loop-x-preserved c =
    let fits : FitsSigned w64 c.min.result = search rules in
    let there : c.loop-x.x < length c.args.sets.now = omega (arith, c.loop-x-test.true, c.vars-x-end.ensures.count) in
    values_step c.args.sets.now c.loop-x.x c.min.result c.loop-x.values c.push.new.self c.vars-x-end.ensures.sets there c.loop-x.invariant c.min.ensures
    (c.in_ok-push.ensures.ok ∙ ap (λ v. c.loop-x.values ++ v ∷ []) (to_z-of_z w64 c.min.result fits))
