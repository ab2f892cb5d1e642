-- A dimension by which places can be found is one in a single way.
use Rattle.std.specs.Prelude.{ℕ, List, [], ◌∷◌}
use Rattle.std.specs.Coded.{×_prop, Unit-prop}
use Rattle.std.proofs.Props.{props}
use Rattle.opl_value.specs.declared.value.Value.{Value}
use Rattle.opl_value.specs.declared.value.Dimension.{Dimension}
use Rattle.opl_value.specs.declared.value.Dimension.TheOpen.{Dimension-F}
use Rattle.opl_value.specs.declared.value.Dimension.TheViews.{out-Dimension}
use Rattle.opl_value.specs.Places.{AreRising, AreSorted, sorted_layer}

AreRising-prop : (values : List Value) (rising : List ℕ) → IsProp (AreRising values rising)
AreRising-prop values rising = hlevel props

layer-prop : {A C : Type 0} (d : Dimension-F A Value C) → IsProp (sorted_layer d)
layer-prop (Dimension-F.Whole low high) = Unit-prop
layer-prop (Dimension-F.Listed values rising) = AreRising-prop values rising

pub AreSorted-prop : (ds : List Dimension) → IsProp (AreSorted ds)
AreSorted-prop [] = Unit-prop
AreSorted-prop (d ∷ ds) = ×_prop (layer-prop (out-Dimension d)) (AreSorted-prop ds)
