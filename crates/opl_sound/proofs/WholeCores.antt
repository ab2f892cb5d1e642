-- The test of a ground core tells whether it is one.
use Rattle.std.proofs.Common.{◌≡◌, ℕ, zero, suc, ◌+◌, ◌<◌, ◌≤◌, ◌^◌, true, false, ◌&&◌, ◌||◌, refl, List, map, length, ℤ, pos, negsuc, ◌≤ℤ◌, ◌<ℤ◌, ◌+ℤ◌, neg_ℤ, sym, arith, inl, inr}
use Rattle.std.specs.Prelude.{nat_lt, nat_le, nat_eq, int_le, int_lt, slice_index_or, Option, Some}
use Rattle.std.specs.List.{list_all}
use Rattle.std.proofs.lemmas.Int.{ints}
use Rattle.opl_domain.specs.Span.{span_size, count_from}
use Rattle.opl_expr.specs.declared.tables.Resource.{Resource}
use Rattle.opl_expr.specs.declared.tables.Use.{Use}
use Rattle.opl_expr.specs.declared.model.Core.{Core}
use Rattle.opl_expr.specs.Sound.{IsSoundTable}
use Rattle.opl_trace.specs.GroundCores.{total, all_values, cons_nodes, goal_nodes, section_nodes, resource_nodes, core_nodes, most_deep, cons_fits, goal_fits, section_fits, HasNoNegative, IsSoundUse, IsSoundResource, IsGroundCore}
use Rattle.opl_sound.specs.Measures.{small, is_whole}
use Rattle.opl_sound.specs.Cores.{fits_core}
use Rattle.opl_sound.specs.Ground.{count, is_at_most, set_values, lasts, use_fits, resource_fits, node_count, fits_ground}
use Rattle.opl_sound.proofs.Smaller.{smalls}
use Rattle.opl_sound.proofs.Tells.{IsTold, tells_both, tells_as, tells_less, tells_is, tells_same, whole_tells}
use Rattle.opl_sound.proofs.Cores.{all_told, tells_most, core_told}
use Rattle.opl_sound.proofs.NodeForms.{small_added, count_is}

-- ---- numbers

count_none : (n : ℤ) → n ≤ℤ pos 0 → count_from n ≡ 0
count_none (pos zero) h = refl
count_none (pos (suc n)) h = absurd (omega (arith, ints, h))
count_none (negsuc n) h = refl

pub no_values : (lo hi : ℤ) → hi <ℤ lo → 0 ≡ span_size (record { low = lo; high = hi })
no_values lo hi h = sym (count_none (hi +ℤ pos 1 +ℤ neg_ℤ lo) (omega (arith, ints, h)))

pub ruleset sizes = (no_values)

tells_int : (x y : ℤ) → IsTold (int_le x y) (x ≤ℤ y)
tells_int x y = elim (int_le x y) as (λ b. int_le x y ≡ b → IsTold b (x ≤ℤ y)) [
  | true ↦ λ e. record { told = omega (arith, ints, e) }
  | false ↦ λ e. record { told = λ h. absurd (omega (arith, ints, e, h)) }
] refl

-- a count below a limit
small_at_most : (limit n : ℕ) → limit < 2 ^ 127 → IsTold (is_at_most limit (small n)) (n ≤ limit)
small_at_most limit n l = elim (smalls n) [
  | inl a ↦ rw a.1 (tells_most n limit)
  | inr b ↦ rw b.1 (record { told = λ h. omega (arith, b.0, l, h) })
]

at_most_told : (limit n : ℕ) (o : Option ℕ) → limit < 2 ^ 127 → o ≡ small n → IsTold (is_at_most limit o) (n ≤ limit)
at_most_told limit n o l e = rw e (small_at_most limit n l)

-- ---- resources

module _ (sets : List (ℤ × ℤ)) where
  lasts_told : (ends : ℤ × ℤ) → IsTold (lasts sets ends) (HasNoNegative ends)
  lasts_told ends = elim (int_lt ends.1 ends.0) as (λ b. int_lt ends.1 ends.0 ≡ b → IsTold (b || int_le (pos 0) ends.0) (HasNoNegative ends)) [
    | true ↦ λ e. record { told = λ h. absurd (omega (arith, ints, e, h)) }
    | false ↦ λ e. tells_as (int_le (pos 0) ends.0) (λ h o. h) (λ h. h (omega (arith, ints, e))) (tells_int (pos 0) ends.0)
  ] refl

  use_told : (u : Use) → IsTold (use_fits sets u) (IsSoundUse sets u)
  use_told u =
      let set = slice_index_or sets u.duration (pos 0, pos 0) in
      tells_as (use_fits sets u) (λ h. record { demand = h.0; start = h.1.0; duration = h.1.1.0; lasts = h.1.1.1 }) (λ h. (h.demand, (h.start, (h.duration, h.lasts))))
      (tells_both (int_le (pos 0) u.demand) (nat_lt u.start (length sets) && (nat_lt u.duration (length sets) && lasts sets set)) (tells_int (pos 0) u.demand)
      (tells_both (nat_lt u.start (length sets)) (nat_lt u.duration (length sets) && lasts sets set) (tells_less u.start (length sets))
      (tells_both (nat_lt u.duration (length sets)) (lasts sets set) (tells_less u.duration (length sets)) (lasts_told set))))

  resource_told : (r : Resource) → IsTold (resource_fits sets r) (IsSoundResource sets r)
  resource_told r =
      tells_as (resource_fits sets r) (λ h. record { capacity = h.0; uses = h.1 }) (λ h. (h.capacity, h.uses))
      (tells_both (int_le (pos 0) r.capacity) (list_all (use_fits sets) r.uses) (tells_int (pos 0) r.capacity) (all_told (use_fits sets) (IsSoundUse sets) use_told r.uses))

-- ---- cores

nodes_are : (core : Core) → node_count core ≡ small (core_nodes core)
nodes_are core =
    let a = total (map cons_nodes core.cons) in
    let g = goal_nodes core.goal in
    let s = section_nodes core.search in
    let r = total (map resource_nodes core.resources) in
    rw (count_is cons_nodes core.cons, count_is resource_nodes core.resources, small_added s r, small_added g (s + r)) (small_added a (g + (s + r)))

pub ground_told : (core : Core) → IsTold (fits_ground core) (IsGroundCore core)
ground_told core =
    let named = nat_eq (length core.names) (length core.sets) in
    let few = nat_le (length core.sets) 65536 in
    let values = is_at_most 33554432 (count set_values core.sets) in
    let nodes = is_at_most 4194304 (node_count core) in
    let constraints = list_all (cons_fits core.tables core.resources false most_deep) core.cons in
    let goal = goal_fits core.tables core.resources core.goal in
    let search_section = section_fits core.tables core.resources core.search in
    let tables = list_all (is_whole core.sets) core.tables in
    let resources = list_all (resource_fits core.sets) core.resources in
    let sound = fits_core core in
    tells_as (fits_ground core)
    (λ h. record { named = h.0; few = h.1.0; values = h.1.1.0; nodes = h.1.1.1.0; constraints = h.1.1.1.1.0; goal = h.1.1.1.1.1.0; search = h.1.1.1.1.1.1.0; tables = h.1.1.1.1.1.1.1.0; resources = h.1.1.1.1.1.1.1.1.0; sound = h.1.1.1.1.1.1.1.1.1 })
    (λ h. (h.named, (h.few, (h.values, (h.nodes, (h.constraints, (h.goal, (h.search, (h.tables, (h.resources, h.sound))))))))))
    (tells_both named (few && (values && (nodes && (constraints && (goal && (search_section && (tables && (resources && sound)))))))) (tells_same (length core.names) (length core.sets))
    (tells_both few (values && (nodes && (constraints && (goal && (search_section && (tables && (resources && sound))))))) (tells_most (length core.sets) 65536)
    (tells_both values (nodes && (constraints && (goal && (search_section && (tables && (resources && sound)))))) (at_most_told 33554432 (all_values core.sets) (count set_values core.sets) (omega arith) (count_is set_values core.sets))
    (tells_both nodes (constraints && (goal && (search_section && (tables && (resources && sound))))) (at_most_told 4194304 (core_nodes core) (node_count core) (omega arith) (nodes_are core))
    (tells_both constraints (goal && (search_section && (tables && (resources && sound)))) (tells_is constraints)
    (tells_both goal (search_section && (tables && (resources && sound))) (tells_is goal)
    (tells_both search_section (tables && (resources && sound)) (tells_is search_section)
    (tells_both tables (resources && sound) (all_told (is_whole core.sets) (λ t. IsSoundTable core.sets (Some t)) (whole_tells core.sets) core.tables)
    (tells_both resources sound (all_told (resource_fits core.sets) (IsSoundResource core.sets) (resource_told core.sets) core.resources) (core_told core))))))))))
