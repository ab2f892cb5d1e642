use Rattle.std.proofs.Common.{subst, sym}
use Rattle.opl_form.specs.Parts.{Form}
use Rattle.opl_groups.specs.Visits.{sees}
use Rattle.opl_nodes.specs.Pieces.{Refuses}
use Rattle.opl_unfolding.specs.Unrolling.{value_draft}
use Rattle.opl_making.specs.Sites.{items, maker, names}
use Rattle.opl_making.proofs.ValueParts.{value-made, value-refused}
use Rattle.opl_making.proofs.values.value_part.Goals as goal

pub returns-in-Ok : goal.returns-in-Ok
returns-in-Ok c = value-made c.args.site c.args.scope c.args.term.now c.args.before c.place-at.result c.in-Ok.value c.value_node.result c.place-at.ensures c.in-Ok.ensures c.value_node.ensures

pub returns-in-Err : goal.returns-in-Err
returns-in-Err c =
    subst (λ e. Refuses {A = Form} (maker c.args.site c.args.before (value_draft (items c.args.site) (names c.args.site) c.args.term.now (sees c.args.scope))) e) (sym c.from.ensures)
    (value-refused c.args.site c.args.scope c.args.term.now c.args.before c.in-Err.fault c.in-Err.ensures)
