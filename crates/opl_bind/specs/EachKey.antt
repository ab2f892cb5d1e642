-- The expression of an array whose dimensions have names, key by key.
use Rattle.std.specs.Prelude.{List, [], ◌∷◌, ◌++◌, length, map, take, Ok}
use Rattle.opl_tree.specs.declared.declaration.DimTree.{DimTree}
use Rattle.opl_value.specs.declared.value.Value.{Value}
use Rattle.opl_eval.specs.Evaluation.{Environment}
use Rattle.opl_given.specs.declared.form.Form.{Form}
use Rattle.opl_given.specs.Arrays.{Axis, values_of}
use Rattle.opl_given.specs.Faults.{Bound, then}
use Rattle.opl_bind.specs.Written.{Fit, with_name}

-- the index sets of dimensions, as far as there are both
abbrev pub sets_for : List DimTree → List Axis → List (List Value)
sets_for ts axes = map values_of (take (length ts) axes)

-- what the names of dimensions stand for at a key
abbrev pub with_names : List DimTree → List Value → Environment → Environment
with_names (t ∷ ts) (v ∷ vs) env = with_names ts vs (with_name t.name v env)
with_names ts vs env = env

-- one key after another, behind what was found before
abbrev pub over_keys : (List Value → List Value → Bound (List Value)) → List Value → List (List Value) → Bound (List Value)
over_keys next before [] = Ok before
over_keys next before (key ∷ keys) = then (next key before) (λ more. over_keys next more keys)

-- the expression for a key, behind what was found before
abbrev pub cell_at : Fit → Form → List DimTree → Environment → List Value → List Value → Bound (List Value)
cell_at fit form ts env key before = then (fit form (with_names ts key env)) (λ v. Ok (before ++ v ∷ []))
