use Rattle.std.proofs.Common.{None, ◌+◌, ◌≤◌, length, ap, sym, ◌∙◌, subst, arith}
use Rattle.opl_trace.specs.Marks.{numbers_from}
use Rattle.opl_trace.specs.Run.{marks_of}
use Rattle.opl_trace.specs.SoundCores.{AreThere}
use Rattle.opl_reference_labelling.specs.Labelling.{labelling}
use Rattle.opl_trace.specs.SoundCores.{facts_in}
use Rattle.opl_reference_labelling.proofs.Labels.{numbers_there, default_is}
use Rattle.opl_reference_labelling.proofs.marks.default_marks.Goals as goal

pub label-requires-clause-variables : goal.label-requires-clause-variables
label-requires-clause-variables g c =
    let core = c.args.core.now in
    let all : 0 + length core.sets ≤ length core.sets = omega arith in
    subst (λ xs. AreThere core.sets xs) (sym (c.as_slice.ensures ∙ c.in_ok-variables.ensures ∙ ap (numbers_from 0) c.len.ensures)) (numbers_there core.sets 0 (length core.sets) all)

pub returns : goal.returns
returns g c =
    let core = c.args.core.now in
    let variables = c.as_slice.ensures ∙ c.in_ok-variables.ensures ∙ ap (numbers_from 0) c.len.ensures in
    let posted = ap (facts_in core) c.as_slice-2.ensures ∙ c.in_ok-base.ensures in
    c.in_ok-marks.ensures
    ∙ ap marks_of
    (c.in_ok-outcome.ensures.same ∙ ap (λ xs. labelling core xs (facts_in core c.as_slice-2.result.now) None c.args.budget) variables
    ∙ ap (λ P. labelling core (numbers_from 0 (length core.sets)) P None c.args.budget) posted ∙ default_is core c.args.budget)
