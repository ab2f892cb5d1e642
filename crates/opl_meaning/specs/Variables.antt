-- The decision variables of declarations, with their declared sets.
use Rattle.std.specs.Prelude.{ℕ, ◌+◌, ◌^◌, ℤ, pos, ◌+ℤ◌, ◌-ℤ◌, unsigned_abs, nat_le, cond, List, [], ◌∷◌, ◌++◌, length, Option, Some, None, Ok, Err}
use Rattle.std.specs.List.{flat_map}
use Rattle.opl_tree.specs.declared.declaration.BoundsTree.{BoundsTree}
use Rattle.opl_tree.specs.declared.declaration.DeclTree.{DeclTree}
use Rattle.opl_tree.specs.declared.declaration.DeclTree.TheVariants as decls
use Rattle.opl_tree.specs.declared.declaration.DimTree.{DimTree}
use Rattle.opl_tree.specs.declared.declaration.DimsTree.{DimsTree}
use Rattle.opl_tree.specs.declared.declaration.VariableTree.{VariableTree}
use Rattle.opl_tree.specs.declared.declaration.VariableTypeTree.{VariableTypeTree}
use Rattle.opl_tree.specs.declared.declaration.VariableTypeTree.TheVariants as types
use Rattle.opl_tree.specs.declared.expression.AddTree.{AddTree}
use Rattle.opl_tree.specs.declared.expression.NameTree.{NameTree}
use Rattle.opl_term.specs.Terms.{add_term}
use Rattle.opl_value.specs.declared.value.IndexSpace.{IndexSpace}
use Rattle.opl_value.specs.declared.value.Value.{Value}
use Rattle.opl_value.specs.declared.value.Dimension.TheOpen.{Value-F}
use Rattle.opl_value.specs.declared.value.Dimension.TheViews.{out-Value}
use Rattle.opl_value.specs.Places.{elements, lists, or_zero}
use Rattle.opl_eval.specs.Compare.{number}
use Rattle.opl_eval.specs.Evaluation.{Environment, Item, eval, item_named, with_parameters}
use Rattle.opl_bind.specs.Dimensions.{space_in}
use Rattle.opl_given.specs.Faults.{Bound}
use Rattle.opl_given.specs.declared.fault.BindFault.{BindFault}
use Rattle.opl_given.specs.declared.fault.BindFault.TheVariants as binding
use Rattle.opl_meaning.specs.declared.fault.MeaningFault.{MeaningFault}
use Rattle.opl_meaning.specs.declared.fault.MeaningFault.TheVariants.{Eval, TooManyVariables, TooFar, TooWide, TooManyValues, OutOfMemory}
use Rattle.opl_meaning.specs.declared.totals.Totals.{Totals}
use Rattle.opl_meaning.specs.declared.variable.DeclaredSet.{DeclaredSet}
use Rattle.opl_meaning.specs.declared.variable.Kind.{Kind}
use Rattle.opl_meaning.specs.declared.variable.Kind.TheVariants.{Number, Enumeration}
use Rattle.opl_meaning.specs.declared.variable.VariableItem.{VariableItem}
use Rattle.opl_meaning.specs.Faults.{Made, then, found, evaluated}

-- what index sets come to: they have the faults of their expressions alone
abbrev pub fault_of : BindFault → MeaningFault
fault_of (binding.Eval fault) = Eval fault
fault_of fault = OutOfMemory

abbrev pub spaced : {A : Type 0} → Bound A → Made A
spaced (Ok a) = Ok a
spaced (Err fault) = Err (fault_of fault)

-- ---- the ends of declared sets

-- what the values of a variable are, and the ends of its declared set
pub record Ends : Type 0 where
  pub kind : Kind
  pub low : ℤ
  pub high : ℤ

abbrev pub no_ends : Ends
no_ends = record { kind = Number; low = pos 1; high = pos 0 }

-- the ends of a range, and the positions of an enumeration of this declaration
abbrev pub type_layer : {A C : Type 0} → ℕ → Value-F A Value C → Ends
type_layer declaration (Value-F.Range low high) = record { kind = Number; low = low; high = high }
type_layer declaration (Value-F.Names names) = record { kind = Enumeration declaration; low = pos 0; high = pos (length names) -ℤ pos 1 }
type_layer declaration v = no_ends

abbrev pub type_ends : Option Item → Ends
type_ends None = no_ends
type_ends (Some item) = type_layer item.declaration (out-Value item.value)

-- those of a type: a named range or an enumeration
abbrev pub ends_of_type : Environment → VariableTypeTree → Ends
ends_of_type env (types.Int at) = no_ends
ends_of_type env (types.Named name) = type_ends (item_named name.text env)

abbrev pub end_in : Environment → AddTree → Made ℤ
end_in env t = found number (evaluated (eval (add_term t) env))

-- those that are written, else those of the type
abbrev pub ends_in : Environment → VariableTypeTree → Option BoundsTree → Made Ends
ends_in env kind None = Ok (ends_of_type env kind)
ends_in env kind (Some bounds) =
    then (end_in env bounds.low) (λ low. then (end_in env bounds.high) (λ high. Ok (record { kind = Number; low = low; high = high })))

-- an end of a declared set is from -2^62 to 2^62
abbrev pub near : ℕ → ℤ → Made ℤ
near at n = cond (nat_le (unsigned_abs n) (2 ^ 62)) (Ok n) (Err (TooFar at))

abbrev pub near_set : ℕ → Ends → Made DeclaredSet
near_set at ends = then (near at ends.low) (λ low. then (near at ends.high) (λ high. Ok (record { low = low; high = high })))

-- how many values a declared set has, and how many declared sets have together
abbrev pub size_of : DeclaredSet → ℕ
size_of set = or_zero (set.high +ℤ pos 1 -ℤ set.low)

abbrev pub values_of : List DeclaredSet → ℕ
values_of [] = 0
values_of (set ∷ sets) = size_of set + values_of sets

-- a declared set has at most 1,048,576 values, and with those before, which have so many, at most 33,554,432
abbrev pub few_values : ℕ → ℕ → DeclaredSet → Made DeclaredSet
few_values at before set =
    cond (nat_le (size_of set) 1048576) (cond (nat_le (before + size_of set) 33554432) (Ok set) (Err (TooManyValues at))) (Err (TooWide at))

abbrev pub limited_set : ℕ → ℕ → Ends → Made DeclaredSet
limited_set at before ends = then (near_set at ends) (few_values at before)

-- the declared set of a variable, or of one element of an array of them, where those before have so many values
abbrev pub set_in : VariableTree → ℕ → Environment → Made DeclaredSet
set_in t before env = then (ends_in env t.kind t.bounds) (limited_set t.at before)

abbrev pub kind_of : Environment → VariableTypeTree → Option BoundsTree → Kind
kind_of env kind (Some bounds) = Number
kind_of env kind None = (ends_of_type env kind).kind

-- ---- one declaration

-- what the name of a dimension stands for, if it has one
abbrev pub with_name : Option NameTree → Value → Environment → Environment
with_name (Some name) v env = with_parameters (record { name = name.text; value = v } ∷ []) env
with_name None v env = env

-- one value after another, behind what was found before
abbrev pub over : {A : Type 0} → (Value → List A → Made (List A)) → List A → List Value → Made (List A)
over next before [] = Ok before
over next before (v ∷ vs) = then (next v before) (λ more. over next more vs)

-- the declared set for each key, in index order, where those of earlier declarations have so many values
abbrev pub each_set : VariableTree → ℕ → List DimTree → List (List Value) → Environment → List DeclaredSet → Made (List DeclaredSet)
each_set t earlier (d ∷ ds) (vs ∷ others) env before = over (λ v more. each_set t earlier ds others (with_name d.name v env) more) before vs
each_set t earlier ds others env before = then (set_in t (earlier + values_of before) env) (λ set. Ok (before ++ set ∷ []))

abbrev pub item_with : VariableTree → Environment → Option IndexSpace → List DeclaredSet → VariableItem
item_with t env space sets = record { name = t.name.text; kind = kind_of env t.kind t.bounds; space = space; sets = sets }

-- with those before, of which there are so many, there are at most 65,536 variables
abbrev pub few_variables : {A : Type 0} → ℕ → ℕ → ℕ → Made A → Made A
few_variables at before more made = cond (nat_le (before + more) 65536) made (Err (TooManyVariables at))

-- the variables of a declaration, where there are so many before: their number is tested before the first end
abbrev pub item_over : Environment → Totals → VariableTree → Option DimsTree → Made VariableItem
item_over env before t None = few_variables t.at before.variables 1 (then (set_in t before.values env) (λ set. Ok (item_with t env None (set ∷ []))))
item_over env before t (Some dims) =
    then (spaced (space_in env dims))
    (λ space. few_variables t.at before.variables (elements (lists space)) (found (item_with t env (Some space)) (each_set t before.values (dims.first ∷ dims.rest) (lists space) env [])))

-- the decision variables of a declaration
unfoldable pub item_in : Environment → Totals → VariableTree → Made VariableItem
item_in env before t = item_over env before t t.dims

-- ---- all declarations

-- the declared sets of all variables; how many there are, and how many values they have together
abbrev pub sets_of : List VariableItem → List DeclaredSet
sets_of items = flat_map (λ v. v.sets) items

abbrev pub totals_of : List VariableItem → Totals
totals_of items = record { variables = length (sets_of items); values = values_of (sets_of items) }

abbrev pub with_decl : Environment → List VariableItem → DeclTree → Made (List VariableItem)
with_decl env before (decls.Variable t) = found (λ v. before ++ v ∷ []) (item_in env (totals_of before) t)
with_decl env before t = Ok before

-- the decision variables of declarations, behind those before, or the first fault
unfoldable pub variables_in : Environment → List VariableItem → List DeclTree → Made (List VariableItem)
variables_in env before [] = Ok before
variables_in env before (t ∷ ts) = then (with_decl env before t) (λ more. variables_in env more ts)
