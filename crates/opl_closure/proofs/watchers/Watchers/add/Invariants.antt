use Rattle.std.proofs.Common.{◌≡◌, ℕ, true, length, map, take}
use Rattle.opl_filter.specs.Mentions.{lists}
use Rattle.opl_closure.specs.Waits.{watches}
use Rattle.opl_closure.specs.Watching.{KeepsBefore}
use Rattle.opl_closure.proofs.watchers.Watchers.add.Given as goal

abbrev pub invariant-loop-x : goal.invariant-loop-x
invariant-loop-x l = record {
  long : length l.self-inside.lists.items ≡ length l.fn.self;
  kept : KeepsBefore l.i l.fn.self (map (λ v. v.items) l.self-inside.lists.items);
  added : (x : ℕ) → lists (take l.x-index l.variables) x ≡ true → watches (map (λ v. v.items) l.self-inside.lists.items) l.i x ≡ true;
}
