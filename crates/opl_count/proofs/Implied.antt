-- What one test removes another may remove that finds dead, within a first family, all that the one does.
use Rattle.std.proofs.Common.{◌≡◌, ◌⊎◌, ℕ, ◌+◌, ◌≤◌, ◌<◌, Bool, true, false, refl, List, [], ◌∷◌, length, ℤ, inl, inr, sym, subst, arith}
use Rattle.opl_domain.specs.Family.{Family, IsFamily, Full, Below, only, cut_of}
use Rattle.opl_trace.specs.Stable.{IsStable, HasFailed}
use Rattle.opl_trace.specs.Sweeps.{size}
use Rattle.opl_trace.proofs.Passing.{false_unless}
use Rattle.opl_trace.proofs.Families.{only_full, only_below, below_join}
use Rattle.opl_trace.proofs.StoredSets.{cut_is_family}
use Rattle.opl_trace.proofs.Removals.{cut_smaller}
use Rattle.opl_filter.specs.Filtering.{without, EachCanGo, IsLeftOf}
use Rattle.opl_filter.proofs.Removals.{cut_below}

abbrev pub Implies : Family → (Family → Bool) → (Family → Bool) → Type 0
Implies W dead other = (F : Family) → Full F → Below F W → dead F ≡ true → other F ≡ true

module _ (W : Family) (dead other : Family → Bool) (implies : Implies W dead other) where
  each_implied : (D : Family) (gone : List (ℕ × ℤ)) → IsFamily D → Below D W → EachCanGo dead D gone → EachCanGo other D gone
  each_implied D [] f b h = tt
  each_implied D (p ∷ gone) f b h =
      let d = h.0.dead_value in (
        record {
          dead_value = record {
            variable = d.variable;
            value = d.value;
            is_dead = implies (only D p.0 p.1) (only_full D p.0 p.1 f.full) (below_join (only D p.0 p.1) D W (only_below D p.0 p.1 d.value) b) d.is_dead;
          };
          stays = h.0.stays;
        },
        each_implied (cut_of D p.0 p.1 p.1) gone (cut_is_family D p.0 p.1 p.1 f d.variable h.0.stays) (below_join (cut_of D p.0 p.1 p.1) D W (cut_below D p.0 p.1 p.1) b) h.1,
      )

  pub left_implied : (D F : Family) → IsFamily D → Below D W → IsLeftOf dead D F → IsLeftOf other D F
  left_implied D F f b a = record { gone = a.gone; each = each_implied D a.gone f b a.each; left = a.left }

  spared : (F : Family) → Full F → Below F W → other F ≡ false → dead F ≡ false
  spared F f b h = false_unless (dead F) (λ e. let i = implies F f b e in cc)

  stable_implied : (F : Family) → Below F W → IsStable other F → IsStable dead F
  stable_implied F b s = record {
    full = s.full;
    spared = spared F s.full b s.spared;
    each = λ x v h m. spared (only F x v) (only_full F x v s.full) (below_join (only F x v) F W (only_below F x v m) b) (s.each x v h m);
  }

  pub failed_implied : HasFailed dead W → HasFailed other W
  failed_implied h G s = h G (record { stable = stable_implied G s.within s.stable; within = s.within })

-- ---- whether any value has gone

each_smaller : (dead : Family → Bool) (D : Family) (gone : List (ℕ × ℤ)) → EachCanGo dead D gone → size (without D gone) + length gone ≤ size D
each_smaller dead D [] h = omega arith
each_smaller dead D (p ∷ gone) h = omega (arith, each_smaller dead (cut_of D p.0 p.1 p.1) gone h.1, cut_smaller D p.0 p.1 h.0.dead_value.value)

pub same_or_smaller : (dead : Family → Bool) (D F : Family) → IsLeftOf dead D F → (F ≡ D) ⊎ (size F < size D)
same_or_smaller dead D F a = subst (λ G. (G ≡ D) ⊎ (size G < size D)) (sym a.left) (by_gone a.gone a.each)
  where
    by_gone : (gone : List (ℕ × ℤ)) → EachCanGo dead D gone → (without D gone ≡ D) ⊎ (size (without D gone) < size D)
    by_gone [] h = inl refl
    by_gone (p ∷ gone) h = inr (omega (arith, each_smaller dead D (p ∷ gone) h))
