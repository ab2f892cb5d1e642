-- How deep a tree nests: the greatest level that its marks open.
use Rattle.std.specs.Prelude.{ℕ, max, [], ◌∷◌}
use Rattle.opl_tree.specs.declared.model.ModelTree.{ModelTree}
use Rattle.opl_tree.specs.Marks.{place, token, unbraced, opens, Marks, marks_model}

-- how many levels a text may open one in another
abbrev pub max_nesting : ℕ
max_nesting = 256

-- how deep marks nest: the greatest level that a token opens
abbrev pub depth_of : Marks → ℕ
depth_of [] = 0
depth_of (place at ∷ ms) = depth_of ms
depth_of (token p ∷ ms) = depth_of ms
depth_of (unbraced ∷ ms) = depth_of ms
depth_of (opens k ∷ ms) = max k (depth_of ms)

-- how deep a model nests
abbrev pub depth_model : ModelTree → ℕ
depth_model t = depth_of (marks_model t)
