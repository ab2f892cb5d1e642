use Rattle.std.proofs.Common.{◌∷◌, pos, get_or, refl, ap, rules, arith}
use Rattle.std.specs.Prelude.{FitsSigned}
use Rattle.std.proofs.lemmas.Int.{to_z-of_z}
use mir.Syntax.{w64}
use Rattle.opl_trace.specs.SoundCores.{facts_in}
use Rattle.opl_steps.specs.Tasks.Task.{values}
use Rattle.opl_steps.specs.Steps.{on_value}
use Rattle.opl_reference_search.specs.Tasks.{tasks_in}
use Rattle.opl_reference_search.specs.Steps.{way_of, ways_in}
use Rattle.opl_reference_search.proofs.Mapped.{mapped_more, mapped_all}
use Rattle.opl_reference_search.proofs.step.each_value.Goals as goal

pub loop-v-init : goal.loop-v-init
loop-v-init c = ap (ways_in c.args.core.now) c.new-ways.ensures

pub loop-v-preserved : goal.loop-v-preserved
loop-v-preserved c =
    let core = c.args.core.now in
    let v = get_or c.args.choices.now c.loop-v.v-index (pos 0) in
    let fits : FitsSigned w64 v = search rules in
    mapped_more (way_of core) (λ v. on_value c.args.x v (facts_in core c.args.posted.now) (values c.args.variables.now ∷ tasks_in core c.args.others.now)) c.loop-v.ways c.push.new.self c.args.choices.now c.loop-v.v-index c.in_ok-valued.field-0 v (pos 0)
    c.in_ok-push.ensures.ok c.loop-v.invariant c.loop-v-test.true refl (rw (to_z-of_z w64 v fits) at c.in_ok-valued.ensures)

pub returns : goal.returns
returns c =
    let core = c.args.core.now in
    mapped_all (way_of core) (λ v. on_value c.args.x v (facts_in core c.args.posted.now) (values c.args.variables.now ∷ tasks_in core c.args.others.now)) c.loop-v.ways c.args.choices.now c.loop-v.v-index c.loop-v.invariant (omega (arith, c.loop-v-test.false))
