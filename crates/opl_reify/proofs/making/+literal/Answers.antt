use Rattle.std.proofs.Common.{rules, not, refl}
use Rattle.std.proofs.lemmas.Result.{IfOk-weaker}
use Rattle.opl_expr.specs.declared.forms.Cons.TheFolds.{the_lemmas}
use Rattle.opl_reify.proofs.Made.{ok_both, sides_sound, comparison_literal, comparison_kind, negated_sound, negated_literal, negated_kind}
use Rattle.opl_reify.proofs.making.+literal.Goals as goal

pub part_of-requires : goal.part_of-requires
part_of-requires t c =
    sides_sound c.args.core.now c.args.c.now c.args.is_opposite c.in-Cmp.op c.turned.result c.in-Cmp.a c.in-Cmp.b c.get.result.now c.get-in-Cmp.result.now c.in-Cmp.is c.turned.ensures c.get.ensures c.get-in-Cmp.ensures c.requires

pub literal-requires : goal.literal-requires
literal-requires t c = (search (rules, the_lemmas), negated_sound c.args.core.now c.args.c.now c.in-Not.a c.get-in-Not.result.now c.in-Not.is c.get-in-Not.ensures c.requires)

pub returns-in-Cmp-clause-part : goal.returns-in-Cmp-clause-part
returns-in-Cmp-clause-part t c =
    ok_both c.part_of.result _ _ _ (comparison_literal c.args.core.now c.args.c.now c.args.is_opposite c.in-Cmp.op c.turned.result c.in-Cmp.a c.in-Cmp.b c.get.result.now c.get-in-Cmp.result.now c.in-Cmp.is c.turned.ensures c.get.ensures c.get-in-Cmp.ensures)
    c.part_of.ensures.part c.part_of.ensures.kind

pub returns-in-Cmp-clause-kind : goal.returns-in-Cmp-clause-kind
returns-in-Cmp-clause-kind t c =
    IfOk-weaker c.part_of.result _ _ (comparison_kind c.args.core.now c.args.c.now c.in-Cmp.op c.in-Cmp.a c.in-Cmp.b c.get.result.now c.get-in-Cmp.result.now c.in-Cmp.is c.get.ensures c.get-in-Cmp.ensures) c.part_of.ensures.kind

pub returns-in-Not-clause-part : goal.returns-in-Not-clause-part
returns-in-Not-clause-part t c =
    IfOk-weaker c.literal.result _ _ (negated_literal c.args.core.now c.args.c.now c.in-Not.a c.get-in-Not.result.now c.args.is_opposite (not c.args.is_opposite) c.in-Not.is c.get-in-Not.ensures refl) c.literal.ensures.part

pub returns-in-Not-clause-kind : goal.returns-in-Not-clause-kind
returns-in-Not-clause-kind t c =
    IfOk-weaker c.literal.result _ _ (negated_kind c.args.core.now c.args.c.now c.in-Not.a c.get-in-Not.result.now c.in-Not.is c.get-in-Not.ensures) c.literal.ensures.kind
