use Rattle.std.proofs.Common.{◌≡◌, ℕ, List, Some, cond, drop}
use Rattle.std.specs.HashMap.{get_by}
use Rattle.std.specs.List.{list_any}
use Rattle.std.specs.Str.{bytes_eq}
use Rattle.opl_eval.proofs.stack.add_all.Given as goal

-- the names that are left make of the places what all of them make of those before
abbrev pub invariant-loop-name : goal.invariant-loop-name
invariant-loop-name l =
    (other : List ℕ) → cond (list_any (bytes_eq other) (drop l.name-index l.names)) (Some l.end) (get_by (λ k. bytes_eq other k.now) l.ends)
    ≡ cond (list_any (bytes_eq other) l.names) (Some l.end) (get_by (λ k. bytes_eq other k.now) l.initial.ends)
