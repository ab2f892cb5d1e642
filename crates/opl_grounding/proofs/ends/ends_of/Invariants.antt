use Rattle.std.proofs.Common.{◌≡◌, ◌++◌, drop}
use Rattle.opl_form.specs.Laws.{declared_ends}
use Rattle.opl_grounding.proofs.ends.ends_of.Given as goal

-- the ends so far, and those of the declarations that are left
abbrev pub invariant-loop-item : goal.invariant-loop-item
invariant-loop-item l = l.ends ++ declared_ends (drop l.item-index l.variables) ≡ declared_ends l.variables
