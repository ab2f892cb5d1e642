use Rattle.std.proofs.Common.{◌≡◌, ◌+◌, ◌-◌, ◌<◌, ◌≤◌, take, drop, length}
use Rattle.std.specs.List.{All}
use Rattle.std.specs.Vec.{vec_capacity}
use Rattle.opl_trail.specs.Trails.{undo, word_of, at_of, saves_in}
use Rattle.opl_trail.proofs.trail.undo_to.Given as goal

abbrev pub invariant-loop-saved : goal.invariant-loop-saved
invariant-loop-saved l = record {
  words : undo word_of (drop l.mark l.saved.items) l.bits ≡ undo word_of (drop l.mark l.fn.saved.items) l.fn.bits;
  ats : undo at_of (drop l.mark l.saved.items) l.at.items ≡ undo at_of (drop l.mark l.fn.saved.items) l.fn.at.items;
  kept : take l.mark l.saved.items ≡ take l.mark l.fn.saved.items;
  start : l.mark ≤ length l.saved.items;
  places : All (λ e. e.place < length l.bits) l.saved.items;
  same : length l.at.items ≡ length l.bits;
  room : vec_capacity l.saved ≡ vec_capacity l.fn.saved;
  wide : length l.bits ≡ length l.fn.bits;
  front : l.front + saves_in 0 l.split (drop l.mark l.saved.items) ≤ l.fn.front + saves_in 0 l.split (drop l.mark l.fn.saved.items);
  back : l.back + saves_in l.split (length l.fn.bits - l.split) (drop l.mark l.saved.items) ≤ l.fn.back + saves_in l.split (length l.fn.bits - l.split) (drop l.mark l.fn.saved.items);
}

abbrev pub decreases-loop-saved : goal.decreases-loop-saved
decreases-loop-saved l = goal.left-loop-saved l
