-- The declared sets of arrays.
use Rattle.std.proofs.Common.{◌≡◌, ℕ, List, [], ◌∷◌, map, Result, subst}
use Rattle.opl_tree.specs.declared.declaration.DimTree.{DimTree}
use Rattle.opl_tree.specs.declared.declaration.VariableTree.{VariableTree}
use Rattle.opl_value.specs.declared.value.Dimension.{Dimension}
use Rattle.opl_value.specs.declared.value.IndexSpace.{IndexSpace}
use Rattle.opl_value.specs.Places.{dimension_values, dimensions, lists}
use Rattle.opl_eval.specs.Evaluation.{Environment}
use Rattle.opl_meaning.specs.declared.fault.MeaningFault.{MeaningFault}
use Rattle.opl_meaning.specs.declared.variable.DeclaredSet.{DeclaredSet}
use Rattle.opl_meaning.specs.Faults.{Makes}
use Rattle.opl_meaning.specs.Variables.{each_set}

-- over the index sets of a space
pub sets_made : (t : VariableTree) (earlier : ℕ) (d : DimTree) (rest ds : List DimTree) (dims : List Dimension) (space : IndexSpace) (env seen_there : Environment) (result : Result (List DeclaredSet) MeaningFault) →
    rest ≡ ds → dims ≡ dimensions space → env ≡ seen_there → Makes (each_set t earlier (d ∷ rest) (map dimension_values dims) env []) result → Makes (each_set t earlier (d ∷ ds) (lists space) seen_there []) result
sets_made t earlier d rest ds dims space env seen_there result again same_dims same h = subst (λ made. Makes made result) (λ i. each_set t earlier (d ∷ again i) (map dimension_values (same_dims i)) (same i) []) h
