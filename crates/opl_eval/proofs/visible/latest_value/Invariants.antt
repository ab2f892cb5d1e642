use Rattle.std.proofs.Common.{◌≡◌, ◌≤◌, Option, length, take}
use Rattle.opl_value.specs.declared.value.Value.{Value}
use Rattle.opl_eval.specs.Turns.{in_turns}
use Rattle.opl_eval.proofs.visible.latest_value.Given as goal

abbrev pub invariant-loop-place : goal.invariant-loop-place
invariant-loop-place l = record {
  within : l.place ≤ length l.turns;
  none_behind : (before : Option Value) → in_turns before l.name l.turns ≡ in_turns before l.name (take l.place l.turns);
}

abbrev pub decreases-loop-place : goal.decreases-loop-place
decreases-loop-place l = l.place
