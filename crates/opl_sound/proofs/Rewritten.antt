-- A capacity as it is written out.
use Rattle.std.proofs.Common.{◌≡◌, Bool, true, false, ◌&&◌, refl, List, [], ◌∷◌, map, ℤ, ap, ◌∙◌}
use Rattle.std.specs.Prelude.{unsigned_abs, Some}
use Rattle.opl_expr.specs.declared.tables.Use.{Use}
use Rattle.opl_expr.specs.declared.tables.Resource.{Resource}
use Rattle.opl_expr.specs.Forms.{terms_of, demand_at, capacity_at}
use Rattle.opl_sound.specs.Measures.{small, is_some, added, multiplied, one_if, measure, measure_sum, measure_variable, measure_use, measure_uses, fits, fits_capacity}

and_true : (b : Bool) → (b && true) ≡ b
and_true true = refl
and_true false = refl

module _ (sets : List (ℤ × ℤ)) (asks : Bool) where
  use_is : (t : ℤ) (u : Use) → measure sets asks (demand_at t u) ≡ measure_use sets (unsigned_abs t) u
  use_is t u =
      ap (λ b. multiplied (small (unsigned_abs u.demand)) (one_if (is_some (added (measure_variable sets u.start) (small (unsigned_abs t))) && b)))
      (and_true (is_some (added (small (unsigned_abs t)) (added (measure_variable sets u.start) (added (measure_variable sets u.duration) (Some 0))))))

  uses_are : (t : ℤ) (uses : List Use) → measure_sum sets asks (terms_of (map (demand_at t) uses)) ≡ measure_uses sets (unsigned_abs t) uses
  uses_are t [] = refl
  uses_are t (u ∷ uses) = ap (λ m. added m (measure_sum sets asks (terms_of (map (demand_at t) uses)))) (use_is t u) ∙ ap (added (measure_use sets (unsigned_abs t) u)) (uses_are t uses)

  pub capacity_is : (r : Resource) (t : ℤ) → fits sets asks (capacity_at (Some r) t) ≡ fits_capacity sets (unsigned_abs t) r
  capacity_is r t = ap (λ m. is_some (added m (small (unsigned_abs r.capacity)))) (uses_are t r.uses)
