-- What holds of one test holds of another that says the same of all families within a first one.
use Rattle.std.proofs.Common.{◌≡◌, ◌∙◌, ℕ, Bool, List, [], ◌∷◌, ℤ, sym}
use Rattle.opl_domain.specs.Family.{Family, IsFamily, Full, Below, only, cut_of}
use Rattle.opl_trace.specs.Stable.{IsStable, IsStableWithin}
use Rattle.opl_trace.proofs.Families.{only_full, only_below, below_self, below_join}
use Rattle.opl_trace.proofs.StoredSets.{cut_is_family}
use Rattle.opl_filter.specs.declared.outcome.Outcome.{Outcome}
use Rattle.opl_filter.specs.declared.outcome.Outcome.TheVariants as outcome
use Rattle.opl_filter.specs.Filtering.{EachCanGo, IsLeftOf, IsBetween, Filters}
use Rattle.opl_filter.proofs.Removals.{cut_below}

abbrev pub SaysTheSameWithin : Family → (Family → Bool) → (Family → Bool) → Type 0
SaysTheSameWithin W dead other = (F : Family) → Full F → Below F W → dead F ≡ other F

module _ (W : Family) (dead other : Family → Bool) (same : SaysTheSameWithin W dead other) where
  each_carried : (D : Family) (gone : List (ℕ × ℤ)) → IsFamily D → Below D W → EachCanGo dead D gone → EachCanGo other D gone
  each_carried D [] f b h = tt
  each_carried D (p ∷ gone) f b h =
      let d = h.0.dead_value in (
        record {
          dead_value = record {
            variable = d.variable;
            value = d.value;
            is_dead = sym (same (only D p.0 p.1) (only_full D p.0 p.1 f.full) (below_join (only D p.0 p.1) D W (only_below D p.0 p.1 d.value) b)) ∙ d.is_dead;
          };
          stays = h.0.stays;
        },
        each_carried (cut_of D p.0 p.1 p.1) gone (cut_is_family D p.0 p.1 p.1 f d.variable h.0.stays) (below_join (cut_of D p.0 p.1 p.1) D W (cut_below D p.0 p.1 p.1) b) h.1,
      )

  left_carried : (D F : Family) → IsFamily D → Below D W → IsLeftOf dead D F → IsLeftOf other D F
  left_carried D F f b a = record { gone = a.gone; each = each_carried D a.gone f b a.each; left = a.left }

  stable_carried : (F : Family) → Below F W → IsStable dead F → IsStable other F
  stable_carried F b s = record {
    full = s.full;
    spared = sym (same F s.full b) ∙ s.spared;
    each = λ x v h m. sym (same (only F x v) (only_full F x v s.full) (below_join (only F x v) F W (only_below F x v m) b)) ∙ s.each x v h m;
  }

  within_carried : (F : Family) → IsStableWithin dead W F → IsStableWithin other W F
  within_carried F s = record { stable = stable_carried F s.within s.stable; within = s.within }

module _ (D : Family) (dead other : Family → Bool) (same : SaysTheSameWithin D dead other) where
  back : SaysTheSameWithin D other dead
  back F f b = sym (same F f b)

  pub between_carried : (F : Family) → IsFamily D → IsBetween dead D F → IsBetween other D F
  between_carried F f b = record { removals = left_carried D dead other same D F f (below_self D) b.removals; below = b.below; sets = b.sets }

  pub outcome_carried : (F : Family) (o : Outcome) → Filters dead D F o → Filters other D F o
  outcome_carried F outcome.Stable g = record {
    is_stable = within_carried D dead other same F g.is_stable;
    most = λ G s. g.most G (within_carried D other dead back G s);
  }
  outcome_carried F outcome.Failed h = λ G s. h G (within_carried D other dead back G s)
