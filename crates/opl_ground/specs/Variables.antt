-- What the declarations of decision variables keep.
use Rattle.std.specs.Prelude.{◌≡◌, ℕ, ◌≤◌, ℤ, List, [], length, map, Ok}
use Rattle.std.specs.List.{All}
use Rattle.opl_domain.specs.Span.{span_size}
use Rattle.opl_tree.specs.declared.declaration.DeclTree.{DeclTree}
use Rattle.opl_eval.specs.Evaluation.{Environment}
use Rattle.opl_meaning.specs.declared.variable.VariableItem.{VariableItem}
use Rattle.opl_meaning.specs.Variables.{variables_in}
use Rattle.opl_form.specs.Laws.{declared_ends}
use Rattle.opl_trace.specs.GroundCores.{total}
use Rattle.opl_trace.specs.SoundCores.{IsSoundSet}
use Rattle.opl_ground.specs.Declared.{IsLaidOut}

-- Arrays of decision variables are laid out.
abbrev pub VariablesAreLaidOut : Type 0
VariablesAreLaidOut = (env : Environment) (decls : List DeclTree) (items : List VariableItem) → variables_in env [] decls ≡ Ok items → All IsLaidOut items

-- How many values declared sets have together.
abbrev pub all_values : List (ℤ × ℤ) → ℕ
all_values sets = total (map (λ p. span_size (record { low = p.0; high = p.1 })) sets)

-- Declared sets within the limits: each is near and has at most 1,048,576 values, there are at most 65,536, and at most 33,554,432 values together.
pub record AreWithinLimits (sets : List (ℤ × ℤ)) : Type 0 where
  pub each : All IsSoundSet sets
  pub few : length sets ≤ 65536
  pub values : all_values sets ≤ 33554432

-- The declared sets of decision variables are within the limits.
abbrev pub VariablesAreWithinLimits : Type 0
VariablesAreWithinLimits = (env : Environment) (decls : List DeclTree) (items : List VariableItem) → variables_in env [] decls ≡ Ok items → AreWithinLimits (declared_ends items)
