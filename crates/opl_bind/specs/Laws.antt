-- Laws of the data values of a model.
use Rattle.std.specs.Prelude.{◌≡◌, ◌≢◌, ℕ, List, [], ◌∷◌, length, Ok, Err}
use Rattle.opl_tree.specs.declared.declaration.DeclTree.{DeclTree}
use Rattle.opl_data.specs.declared.tree.DataTree.{DataTree}
use Rattle.opl_value.specs.declared.value.Value.{Value}
use Rattle.opl_value.specs.declared.value.IndexSpace.{IndexSpace}
use Rattle.opl_value.specs.declared.value.Dimension.TheOpen.{Value-F}
use Rattle.opl_value.specs.declared.value.Dimension.TheViews.{out-Value}
use Rattle.opl_value.specs.Places.{elements, lists}
use Rattle.opl_eval.specs.declared.fault.EvalFault.TheVariants as evaluation
use Rattle.opl_eval.specs.Evaluation.{Item}
use Rattle.opl_given.specs.declared.assigned.Override.{Override}
use Rattle.opl_given.specs.declared.fault.BindFault.TheVariants.{Eval, OutOfMemory}
use Rattle.opl_bind.specs.Bind.{Data, bound}

-- an array has as many cells as its index space has keys
abbrev pub filled_layer : {A : Type 0} → Value-F A Value IndexSpace → Type 0
filled_layer (Value-F.Array space cells) = length cells ≡ elements (lists space)
filled_layer v = Unit {0}

abbrev pub IsFilled : Value → Type 0
IsFilled v = filled_layer (out-Value v)

abbrev pub AreFilled : List Item → Type 0
AreFilled [] = Unit {0}
AreFilled (i ∷ items) = IsFilled i.value × AreFilled items

-- each declared array is: for each of its keys it has one cell
abbrev pub ArraysAreFilled : Type 0
ArraysAreFilled = (position : ℕ → ℕ) (ts : List DeclTree) (files : List DataTree) (os : List Override) (d : Data) →
    bound position ts files os ≡ Ok d → AreFilled d.environment.items

-- want of memory is no fault of the data of a model, nor of an expression in it
abbrev pub NeverMemory : Type 0
NeverMemory = (position : ℕ → ℕ) (ts : List DeclTree) (files : List DataTree) (os : List Override) →
    (bound position ts files os ≢ Err OutOfMemory) × (bound position ts files os ≢ Err (Eval evaluation.OutOfMemory))
