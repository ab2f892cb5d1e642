-- Parts in the order of values, with their measures.
use Rattle.std.specs.Prelude.{◌≡◌, ◌≤◌}
use Rattle.opl_form.specs.Measures as measures
use Rattle.opl_form.specs.Measures.{part_depth, part_nodes}
use Rattle.opl_nodes.specs.declared.part.Part.{Part}
use Rattle.opl_nodes.specs.Pieces.{form}
use Rattle.opl_elements.specs.declared.ranks.Ranked.{Ranked}

-- The depth and the nodes of a part are right, and within their limits.
pub record HasMeasures (p : Part) : Type 0 where
  pub depth : p.depth ≡ part_depth (form p)
  pub nodes : p.nodes ≡ part_nodes (form p)
  pub is_shallow : p.depth ≤ 2048
  pub are_few : p.nodes ≤ 4194304

-- The same of an expression, which may be one deeper than its part.
pub record IsMeasured (r : Ranked) : Type 0 where
  pub depth : r.depth ≡ measures.depth r.expr
  pub nodes : r.nodes ≡ measures.nodes r.expr
  pub is_shallow : r.depth ≤ 2049
  pub are_few : r.nodes ≤ 4194305
