use Rattle.std.proofs.Common.{◌≡◌, ◌+◌, ◌*◌, length, map, drop}
use Rattle.opl_declaration_types.specs.DeclarationSteps.{cells_behind, pairs_behind}
use Rattle.opl_type_rules.specs.Forms.{form_add, form_keyed, forms_of}
use Rattle.opl_type_rules.specs.Types.{sort}
use Rattle.opl_type_rules.specs.Values.{within}
use Rattle.opl_declaration_types.proofs.declaration.+initials.Given as goal

-- an array's cells have one index less
abbrev pub decreases-initial : goal.decreases-initial
decreases-initial l = 3 * length l.indices.now

abbrev pub decreases-initial_pair : goal.decreases-initial_pair
decreases-initial_pair l = 3 * length l.indices.now + 1

abbrev pub decreases-initial_cells : goal.decreases-initial_cells
decreases-initial_cells l = 3 * length l.indices.now + 2

abbrev pub decreases-initial_pairs : goal.decreases-initial_pairs
decreases-initial_pairs l = 3 * length l.indices.now + 2

abbrev pub invariant-initial_cells-loop-cell : goal.invariant-initial_cells-loop-cell
invariant-initial_cells-loop-cell l =
    cells_behind (map sort l.fn.kinds) (within l.model l.locals) (sort l.element) (map sort l.indices) (forms_of (map form_add l.cells))
    ≡ cells_behind (map sort l.kinds) (within l.model l.locals) (sort l.element) (map sort l.indices) (forms_of (map form_add (drop l.cell-index l.cells)))

abbrev pub invariant-initial_pairs-loop-cell : goal.invariant-initial_pairs-loop-cell
invariant-initial_pairs-loop-cell l =
    pairs_behind (map sort l.fn.kinds) (within l.model l.locals) (sort l.element) (sort l.index) (map sort l.indices) (map form_keyed l.cells)
    ≡ pairs_behind (map sort l.kinds) (within l.model l.locals) (sort l.element) (sort l.index) (map sort l.indices) (map form_keyed (drop l.cell-index l.cells))
