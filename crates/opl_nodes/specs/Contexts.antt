-- What forms are made for, as the program has it.
use Rattle.std.specs.Prelude.{ℤ, List, map}
use Rattle.opl_value.specs.Places.{lists}
use Rattle.opl_draft.specs.Drafts as drafts
use Rattle.opl_draft.specs.Drafts.{Cells}
use Rattle.opl_draft.specs.Drafts.Leaves.{listed, numbered}
use Rattle.opl_nodes.specs.declared.array.Array.{Array}
use Rattle.opl_nodes.specs.declared.array.Leaves.{Leaves}
use Rattle.opl_nodes.specs.declared.array.Leaves.TheVariants.{Listed, Numbered}
use Rattle.opl_nodes.specs.declared.context.Context.{Context}

-- ---- arrays

-- The elements of an array.
abbrev pub leaves : Leaves → drafts.Leaves
leaves (Listed vs) = listed vs.now
leaves (Numbered kind x n) = numbered kind x n

-- An array.
abbrev pub cells : Array → Cells
cells a = record { name = a.name.now; dims = lists a.space.now; leaves = leaves a.leaves }

-- ---- contexts

-- The declared sets.
abbrev pub sets : Context → List (ℤ × ℤ)
sets c = c.sets.now

-- All arrays.
abbrev pub arrays : Context → List Cells
arrays c = map cells c.arrays.now
