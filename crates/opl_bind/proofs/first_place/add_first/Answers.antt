use Rattle.std.proofs.Common.{sym, ◌∙◌}
use Rattle.std.specs.HashMap.{get_by}
use Rattle.opl_value.specs.Order.{value_eq}
use Rattle.opl_bind.proofs.FirstPlaces.{first-added, first-stays}
use Rattle.opl_bind.proofs.first_place.add_first.Goals as goal

pub returns-in_ok-insert : goal.returns-in_ok-insert
returns-in_ok-insert c = first-added (λ w. get_by (λ v. value_eq w v.now) c.args.places.now) (λ w. get_by (λ v. value_eq w v.now) c.insert.new.self) c.args.value.now c.args.place
    (sym c.contains_key.ensures ∙ c.if-not-contains_key.true) (λ w. c.in_ok-insert.ensures.updates.0 (record { ref_ptr = (0, 0); now = w }))

pub returns-else-not-contains_key : goal.returns-else-not-contains_key
returns-else-not-contains_key c = first-stays (λ w. get_by (λ v. value_eq w v.now) c.args.places.now) c.args.value.now c.args.place (sym c.contains_key.ensures ∙ c.if-not-contains_key.false)
