use Rattle.std.proofs.Common.{◌≡◌, take}
use Rattle.std.specs.HashMap.{get_by}
use Rattle.opl_value.specs.declared.value.Value.{Value}
use Rattle.opl_value.specs.Order.{value_eq}
use Rattle.opl_value.specs.Places.{place_in}
use Rattle.opl_bind.proofs.first_place.first_places.Given as goal

abbrev pub invariant-loop-place : goal.invariant-loop-place
invariant-loop-place l = (wanted : Value) → get_by (λ v. value_eq wanted v.now) l.places ≡ place_in wanted (take l.place l.values)
