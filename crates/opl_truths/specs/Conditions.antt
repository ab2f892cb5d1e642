-- Parts as conditions.
use Rattle.std.specs.Prelude.{◌≡◌, ◌≤◌, ℕ, Bool, false, List, map, Option, Some, None}
use Rattle.opl_value.specs.declared.value.Value.{Value}
use Rattle.opl_eval.specs.Evaluation.{is_true}
use Rattle.opl_expr.specs.declared.forms.Cons.{Cons}
use Rattle.opl_form.specs.Parts.{as_condition}
use Rattle.opl_form.specs.Measures.{depth_of, greatest, nodes_of, part_depth, part_nodes, total}
use Rattle.opl_nodes.specs.declared.part.Part.{Part}
use Rattle.opl_nodes.specs.Pieces.{form, value_of}

-- ---- truths of values

-- Whether there is a value, and it is true.
abbrev pub is_true_value : Option Value → Bool
is_true_value (Some v) = is_true v
is_true_value None = false

-- Whether a part is a value that is true.
abbrev pub is_true_part : Part → Bool
is_true_part p = is_true_value (value_of (form p))

-- ---- conditions with their measures

-- The depth and the nodes of a part are right, and within their limits.
pub record IsMeasured (p : Part) : Type 0 where
  pub depth : p.depth ≡ part_depth (form p)
  pub nodes : p.nodes ≡ part_nodes (form p)
  pub is_shallow : p.depth ≤ 2048
  pub are_few : p.nodes ≤ 4194304

-- The condition that a part is.
abbrev pub condition : Part → Cons
condition p = as_condition (form p)

-- The conditions that parts are.
abbrev pub conditions : List Part → List Cons
conditions ps = map condition ps

-- The depth of the deepest of them.
abbrev pub deepest : List Part → ℕ
deepest ps = greatest (map depth_of (conditions ps))

-- All their nodes together.
abbrev pub nodes_in : List Part → ℕ
nodes_in ps = total (map nodes_of (conditions ps))
