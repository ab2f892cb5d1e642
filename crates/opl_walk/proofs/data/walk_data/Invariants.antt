use Rattle.std.proofs.Common.{◌≡◌, true, map, drop}
use Rattle.opl_tree.specs.Marks.{joined}
use Rattle.opl_data.specs.Marks.{marks_item, marks_file}
use Rattle.opl_walk.specs.Told.{told}
use Rattle.opl_walk.proofs.data.walk_data.Given as goal

abbrev pub invariant-loop-item : goal.invariant-loop-item
invariant-loop-item g l =
    let tell = told g.V.Visitor.token g.V.Visitor.opens 0 in
    g.V.Visitor.is_whole l.visitor ≡ true → (g.V.Visitor.is_whole l.fn.visitor ≡ true) × (tell (joined (map marks_item (drop l.item-index l.t.items))) l.visitor ≡ tell (marks_file l.fn.t) l.fn.visitor)
