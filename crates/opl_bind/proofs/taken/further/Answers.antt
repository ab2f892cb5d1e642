use Rattle.std.proofs.Common.{◌≡◌, ◌+◌, ◌*◌, ap, length, map, subst, sym, ◌∙◌}
use Rattle.std.specs.List.{flat_map}
use Rattle.std.specs.Prelude.{IfSome, is_some}
use Rattle.opl_value.specs.Places.{dimension_values}
use Rattle.opl_given.specs.declared.fault.BindFault.TheVariants.{Shape}
use Rattle.opl_given.specs.Arrays.{values_of}
use Rattle.opl_given.specs.Readings.{axis_of}
use Rattle.opl_bind.specs.Written as spec
use Rattle.opl_bind.proofs.TakenArrays.{further-found, gives_done}
use Rattle.opl_bind.proofs.taken.further.Goals as goal

pub returns : goal.returns
returns c =
    gives_done (λ ps. ps.items) (spec.further (Shape 0 c.args.at) c.args.before.now (values_of (axis_of c.args.axis.now)) (dimension_values c.args.other.now))
    (flat_map (λ n. map (λ p. n * c.in-Some.size + p) c.as_slice.result.now) c.args.before.now) c.behind_groups.result
    (further-found (Shape 0 c.args.at) c.args.before.now (values_of (axis_of c.args.axis.now)) (dimension_values c.args.other.now) c.in-Some.size c.in_ok-places.places.items c.as_slice.result.now
    (sym c.in_ok-size.ensures.same ∙ ap is_some c.in-Some.is)
    (subst (λ s. IfSome s (λ n. n ≡ length (dimension_values c.args.other.now))) c.in-Some.is c.in_ok-size.ensures.size)
    c.in_ok-places.ensures c.as_slice.ensures.value)
    c.behind_groups.ensures
