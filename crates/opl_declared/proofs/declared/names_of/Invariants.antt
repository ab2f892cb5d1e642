use Rattle.std.proofs.Common.{◌≡◌, ◌++◌, map, drop}
use Rattle.opl_declared.specs.Kept.{texts_of}
use Rattle.opl_declared.proofs.declared.names_of.Given as goal

-- the names so far, and those of the declarations that are left
abbrev pub invariant-loop-item : goal.invariant-loop-item
invariant-loop-item l = texts_of l.names ++ map (λ v. v.name) (drop l.item-index l.items) ≡ map (λ v. v.name) l.items
