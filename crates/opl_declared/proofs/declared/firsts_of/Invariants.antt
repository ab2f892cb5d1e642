use Rattle.std.proofs.Common.{◌≡◌, ◌++◌, drop}
use Rattle.opl_declared.specs.Kept.{firsts_of}
use Rattle.opl_declared.proofs.declared.firsts_of.Given as goal

-- the numbers so far, and those of the declarations that are left
abbrev pub invariant-loop-item : goal.invariant-loop-item
invariant-loop-item l = l.firsts ++ firsts_of l.number (drop l.item-index l.items) ≡ firsts_of 0 l.items
