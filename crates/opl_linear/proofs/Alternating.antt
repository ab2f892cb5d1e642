-- Two filters that take turns until neither has anything to remove.
use Rattle.std.proofs.Common.{◌≡◌, ◌⊎◌, ℕ, ◌+◌, ◌≤◌, Bool, true, false, ◌||◌, refl, List, [], ◌∷◌, ℤ, sym, subst, arith, inl, inr}
use Rattle.std.specs.Prelude.{unsigned_abs}
use Rattle.std.proofs.lemmas.Int.{ints}
use Rattle.std.proofs.Math.Nat.{mul-le-mul_left}
use Rattle.opl_domain.specs.Span.{Span, magnitude}
use Rattle.opl_domain.specs.Family.{Family, IsFamily, Full, Below, hull, only}
use Rattle.opl_expr.specs.Sound.{IsSmall}
use Rattle.opl_expr.proofs.Inside.{In}
use Rattle.opl_expr.proofs.Comparisons.{hull_in}
use Rattle.opl_trace.specs.Stable.{IsMonotone, IsStable, IsGreatestStable, HasFailed}
use Rattle.opl_filter.specs.Filtering.{IsLeftOf, IsBetween}
use Rattle.opl_filter.proofs.Removals.{left_sets, left_below, left_kept, left_wider}
use Rattle.opl_linear.specs.Linear.{AreAmong, bulk}
use Rattle.opl_linear.specs.Alternating.{either, Changes}

or_cases : (a b : Bool) → (a || b) ≡ true → (a ≡ true) ⊎ (b ≡ true)
or_cases true b e = inl refl
or_cases false b e = inr e

or_first : (a b : Bool) → a ≡ true → (a || b) ≡ true
or_first true b e = refl
or_first false b e = cc

or_second : (a b : Bool) → b ≡ true → (a || b) ≡ true
or_second true b e = refl
or_second false b e = e

first_false : (a b : Bool) → (a || b) ≡ false → a ≡ false
first_false true b e = cc
first_false false b e = refl

second_false : (a b : Bool) → (a || b) ≡ false → b ≡ false
second_false true b e = cc
second_false false b e = e

both_false : (a b : Bool) → a ≡ false → b ≡ false → (a || b) ≡ false
both_false true b e f = cc
both_false false b e f = f

module _ (d e : Family → Bool) where
  pub either_falls : IsMonotone d → IsMonotone e → IsMonotone (either d e)
  either_falls m n = record {
    falls = λ F G f b h. elim (or_cases (d G) (e G) h) [
      | inl i ↦ or_first (d F) (e F) (m.falls F G f b i)
      | inr i ↦ or_second (d F) (e F) (n.falls F G f b i)
    ];
  }

  pub left_by_first : (D F : Family) → IsLeftOf d D F → IsLeftOf (either d e) D F
  left_by_first D F a = left_wider d (either d e) D F (λ G h. or_first (d G) (e G) h) a

  pub left_by_second : (D F : Family) → IsLeftOf e D F → IsLeftOf (either d e) D F
  left_by_second D F a = left_wider e (either d e) D F (λ G h. or_second (d G) (e G) h) a

  first_stable : (F : Family) → IsStable (either d e) F → IsStable d F
  first_stable F s = record { full = s.full; spared = first_false (d F) (e F) s.spared; each = λ x v h m. first_false (d (only F x v)) (e (only F x v)) (s.each x v h m) }

  second_stable : (F : Family) → IsStable (either d e) F → IsStable e F
  second_stable F s = record { full = s.full; spared = second_false (d F) (e F) s.spared; each = λ x v h m. second_false (d (only F x v)) (e (only F x v)) (s.each x v h m) }

  pub first_fails : (D F : Family) → IsMonotone (either d e) → IsLeftOf (either d e) D F → HasFailed d F → HasFailed (either d e) D
  first_fails D F m a h G s = h G (record { stable = first_stable G s.stable; within = (left_kept (either d e) D F m a).above G s.stable s.within })

  pub second_fails : (D F : Family) → IsMonotone (either d e) → IsLeftOf (either d e) D F → HasFailed e F → HasFailed (either d e) D
  second_fails D F m a h G s = h G (record { stable = second_stable G s.stable; within = (left_kept (either d e) D F m a).above G s.stable s.within })

  pub both_stable : (D F : Family) → IsMonotone (either d e) → IsFamily D → IsLeftOf (either d e) D F → IsStable d F → IsStable e F → IsGreatestStable (either d e) D F
  both_stable D F m f a s t = record {
    is_stable = record {
      stable = record { full = s.full; spared = both_false (d F) (e F) s.spared t.spared; each = λ x v h i. both_false (d (only F x v)) (e (only F x v)) (s.each x v h i) (t.each x v h i) };
      within = left_below (either d e) D F a;
    };
    most = λ G i. (left_kept (either d e) D F m a).above G i.stable i.within;
  }

  pub left_so_far : (D F : Family) → IsFamily D → IsLeftOf (either d e) D F → IsBetween (either d e) D F
  left_so_far D F f a = record { removals = a; below = left_below (either d e) D F a; sets = left_sets (either d e) D F f a }

-- ---- narrower families need no greater numbers

less_magnitude : (a b : Span) → In a b → magnitude a ≤ magnitude b
less_magnitude a b i = omega (arith, ints, i.low.least, i.low.most, i.high.least, i.high.most)

bulk_falls : (F G : Family) (ps : List (ℕ × ℤ)) → Full F → Below F G → bulk F ps ≤ bulk G ps
bulk_falls F G [] f b = omega arith
bulk_falls F G (p ∷ ps) f b = omega (arith, bulk_falls F G ps f b, mul-le-mul_left (unsigned_abs p.1) (less_magnitude (hull F p.0) (hull G p.0) (hull_in F G f b p.0)))

pub fits_later : (F G : Family) (ps : List (ℕ × ℤ)) (k : ℕ) → IsFamily F → Below F G → IsSmall (k + bulk G ps) → IsSmall (k + bulk F ps)
fits_later F G ps k f b h = omega (arith, bulk_falls F G ps f.full b, h)

pub among_later : (n m : ℕ) (ps : List (ℕ × ℤ)) → n ≡ m → AreAmong n ps → AreAmong m ps
among_later n m ps e a = subst (λ i. AreAmong i ps) e a

unchanged : (D F : Family) (b : Bool) → Changes D F b → b ≡ false → F ≡ D
unchanged D F false h e = h
unchanged D F true h e = cc

-- the second filter found nothing to remove
pub turns_end : (d e : Family → Bool) (D F G H : Family) (b : Bool) → IsMonotone (either d e) → IsFamily D → IsLeftOf (either d e) D H → IsGreatestStable d F G → IsGreatestStable e G H → Changes G H b → b ≡ false → IsGreatestStable (either d e) D H
turns_end d e D F G H b m f a s t h i = both_stable d e D H m f a (subst (λ X. IsStable d X) (sym (unchanged G H b h i)) s.is_stable.stable) t.is_stable.stable
