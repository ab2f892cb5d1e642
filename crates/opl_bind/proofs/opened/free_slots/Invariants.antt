use Rattle.std.proofs.Common.{◌≡◌, ◌++◌, drop, map, None}
use Rattle.opl_bind.specs.Cells.{terms_at}
use Rattle.opl_bind.proofs.opened.free_slots.Given as goal

abbrev pub invariant-loop-key : goal.invariant-loop-key
invariant-loop-key l = map (λ key. None) l.keys ≡ terms_at l.slots.items ++ map (λ key. None) (drop l.key-index l.keys)
