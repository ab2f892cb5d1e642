use Rattle.std.proofs.Common.{◌∙◌, sym}
use Rattle.indexmap.specs.IndexSet.{insert_key}
use Rattle.opl_value.specs.Order.{value_eq}
use Rattle.opl_value.proofs.Sets.{with_new-push}
use Rattle.opl_value.proofs.set.make_set.Goals as goal

pub loop-item-preserved : goal.loop-item-preserved
loop-item-preserved c =
    c.in_ok-insert.ensures.keys
    ∙ (λ i. insert_key value_eq (c.loop-item.invariant i) c.in-Some.item)
    ∙ sym (with_new-push c.new-found.result.keys c.loop-item.yielded c.in-Some.item)
