-- Whether a core is a ground core, computed; nodes are counted, unless they are too many.
use Rattle.std.specs.Prelude.{ℕ, Bool, false, ◌&&◌, ◌||◌, List, [], ◌∷◌, length, ℤ, pos, int_le, int_lt, nat_lt, nat_le, nat_eq, slice_index_or, Option, Some, None}
use Rattle.std.specs.List.{list_all}
use Rattle.opl_domain.specs.Span.{span_size}
use Rattle.opl_expr.specs.declared.search.Branch as code
use Rattle.opl_expr.specs.declared.search.Step.TheFolds.{fold-Branch}
use Rattle.opl_expr.specs.declared.tables.Table.{Table}
use Rattle.opl_expr.specs.declared.tables.Resource.{Resource}
use Rattle.opl_expr.specs.declared.tables.Use.{Use}
use Rattle.opl_expr.specs.declared.model.Core.{Core}
use Rattle.opl_expr.specs.Holds.{same}
use Rattle.opl_trace.specs.GroundCores.{Element, step_count, branch_count, cons_nodes, goal_nodes, section_nodes, resource_nodes, most_deep, cons_fits, goal_fits, section_fits, step_made, branch_made}
use Rattle.opl_sound.specs.Measures.{small, added, is_whole}
use Rattle.opl_sound.specs.Cores.{fits_core}

-- ---- counts

-- a count for each of a list, together
abbrev pub count : {X : Type 0} → (X → ℕ) → List X → Option ℕ
count f [] = Some 0
count f (x ∷ xs) = added (small (f x)) (count f xs)

-- a count is there, and not above the limit
abbrev pub is_at_most : ℕ → Option ℕ → Bool
is_at_most limit None = false
is_at_most limit (Some n) = nat_le n limit

-- the nodes of an element
unfoldable pub branch_nodes : code.Branch → ℕ
branch_nodes = fold-Branch ℕ ℕ step_count branch_count

-- the number of values between two ends
abbrev pub set_values : ℤ × ℤ → ℕ
set_values p = span_size (record { low = p.0; high = p.1 })

-- ---- elements

-- the element is ordered so, and has a key or none
abbrev pub is_like : Bool → Bool → Element → Bool
is_like rising has_key b = same rising b.rising && same has_key b.has_key

module _ (tables : List Table) (resources : List Resource) where
  unfoldable pub element_made : code.Branch → Element
  element_made = fold-Branch Bool Element (step_made tables resources) (branch_made tables resources)

-- ---- resources

module _ (sets : List (ℤ × ℤ)) where
  abbrev pub lasts : ℤ × ℤ → Bool
  lasts ends = int_lt ends.1 ends.0 || int_le (pos 0) ends.0

  abbrev pub use_fits : Use → Bool
  use_fits u = int_le (pos 0) u.demand && (nat_lt u.start (length sets) && (nat_lt u.duration (length sets) && lasts (slice_index_or sets u.duration (pos 0, pos 0))))

  abbrev pub resource_fits : Resource → Bool
  resource_fits r = int_le (pos 0) r.capacity && list_all use_fits r.uses

-- ---- cores

abbrev pub node_count : Core → Option ℕ
node_count core = added (count cons_nodes core.cons) (added (small (goal_nodes core.goal)) (added (small (section_nodes core.search)) (count resource_nodes core.resources)))

abbrev pub fits_ground : Core → Bool
fits_ground core =
    nat_eq (length core.names) (length core.sets)
    && (nat_le (length core.sets) 65536
    && (is_at_most 33554432 (count set_values core.sets)
    && (is_at_most 4194304 (node_count core)
    && (list_all (cons_fits core.tables core.resources false most_deep) core.cons
    && (goal_fits core.tables core.resources core.goal
    && (section_fits core.tables core.resources core.search
    && (list_all (is_whole core.sets) core.tables
    && (list_all (resource_fits core.sets) core.resources
    && fits_core core))))))))
