use Rattle.std.proofs.Common.{◌≡◌, ℕ, List, None, drop}
use Rattle.std.specs.Prelude.{bytes_eq}
use Rattle.std.specs.HashMap.{get_by}
use Rattle.opl_runs.specs.Scopes.{plain_or}
use Rattle.opl_runs.proofs.scope.plain_of.Given as goal

-- what is known so far, and the declarations that are left
abbrev pub invariant-loop-item : goal.invariant-loop-item
invariant-loop-item l = (name : List ℕ) → plain_or (get_by (λ k. bytes_eq name k.now) l.plain) name (drop l.item-index l.items) ≡ plain_or None name l.items
