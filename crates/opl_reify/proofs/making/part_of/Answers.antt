use Rattle.std.proofs.Common.{◌∙◌, refl}
use Rattle.opl_reify.proofs.Made.{comparison_sound, part_read, sides_read}
use Rattle.opl_reify.proofs.making.part_of.Goals as goal

pub new-requires : goal.new-requires
new-requires c = comparison_sound c.args.core.now c.get-2.result.now c.args.op c.args.a.now c.args.b.now (c.get-2.ensures ∙ c.in_ok-constraint.ensures) c.requires

pub returns-in-Some-clause-part : goal.returns-in-Some-clause-part
returns-in-Some-clause-part c =
    part_read c.args.core.now c.in_ok-constraint.constraint c.get.result.now c.get-2.result.now c.args.op c.args.a.now c.args.b.now
    (record { constraint = c.in_ok-constraint.constraint; variables = c.in_ok-variables.variables; filter = c.in-Some.filter }) c.in_ok-new.field-0
    c.in_ok-constraint.ensures refl c.get.ensures c.get-2.ensures c.requires c.in_ok-variables.ensures c.in_ok-new.ensures.filter c.in-Some.is

pub returns-in-Some-clause-kind : goal.returns-in-Some-clause-kind
returns-in-Some-clause-kind c =
    sides_read c.args.core.now c.get-2.result.now c.args.op c.args.a.now c.args.b.now c.in_ok-new.field-0 c.in-Some.filter (c.get-2.ensures ∙ c.in_ok-constraint.ensures) c.in_ok-new.ensures.kind c.in-Some.is
