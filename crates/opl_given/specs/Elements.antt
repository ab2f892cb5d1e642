-- What the program goes over where it goes over an index set.
use Rattle.std.specs.Prelude.{List, []}
use Rattle.opl_value.specs.declared.value.Value.{Value}
use Rattle.opl_value.specs.declared.value.Dimension.{Dimension}
use Rattle.opl_value.specs.declared.value.Dimension.TheOpen.{Dimension-F}
use Rattle.opl_value.specs.declared.value.Dimension.TheViews.{out-Dimension}
use Rattle.opl_value.specs.Places.{numbers_between}
use Rattle.opl_given.specs.declared.elements.Element.{Element}
use Rattle.opl_given.specs.declared.elements.Element.TheVariants.{Borrowed, Owned}
use Rattle.opl_given.specs.declared.elements.Elements.{Elements}
use Rattle.opl_given.specs.declared.elements.Elements.TheVariants.{Listed, Between}

-- an element, borrowed or owned
abbrev pub element : Element → Value
element (Borrowed v) = v.now
element (Owned v) = v

-- the elements that are left
abbrev pub left : Elements → List Value
left (Listed vs) = vs.now
left (Between low high) = numbers_between low high

-- the values that an index set lists: none where it is a range
abbrev pub listed_layer : {A C : Type 0} → Dimension-F A Value C → List Value
listed_layer (Dimension-F.Whole low high) = []
listed_layer (Dimension-F.Listed values rising) = values

abbrev pub listed_values : Dimension → List Value
listed_values d = listed_layer (out-Dimension d)
