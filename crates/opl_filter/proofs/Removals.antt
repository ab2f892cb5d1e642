-- What is left of a family once dead values have gone, one after another.
use Rattle.std.proofs.Common.{◌≡◌, ◌∙◌, ℕ, ◌<◌, Bool, true, refl, List, [], ◌∷◌, ◌++◌, length, ℤ, inl, inr, sym, subst}
use Rattle.std.proofs.lemmas.Bool.{cases_eq}
use Rattle.opl_domain.specs.Family.{member, Family, IsFamily, is_outside, set_of, has, only, cut_of, Below}
use Rattle.opl_domain.proofs.Members.{from_filter}
use Rattle.opl_domain.proofs.Sets.{length-cut, cut_here, cut_there}
use Rattle.opl_trace.specs.Stable.{IsMonotone}
use Rattle.opl_trace.proofs.Families.{has_at, below_self, below_join}
use Rattle.opl_trace.proofs.StoredSets.{cut_is_family}
use Rattle.opl_trace.specs.Removals.{Kept}
use Rattle.opl_trace.proofs.Removals.{kept_self, kept_cut}
use Rattle.opl_filter.specs.Filtering.{CanGo, without, EachCanGo, IsLeftOf}
use Rattle.opl_filter.specs.Laws.{RemovalsLoseNone, RemovalsWiden}

pub from_cut : (F : Family) (x : ℕ) (lo hi : ℤ) (y : ℕ) (w : ℤ) → has (cut_of F x lo hi) y w ≡ true → has F y w ≡ true
from_cut F x lo hi y w h = elim (cases_eq y x) [
  | inl e ↦
      let k = subst (λ n. y < n) (length-cut F x lo hi) (has_at (cut_of F x lo hi) y w h) in
      let i = subst (λ z. z < length F) e k in
      let m = subst (λ vs. member w vs ≡ true) (cut_here F x lo hi i) (subst (λ z. has (cut_of F x lo hi) z w ≡ true) e h) in
      subst (λ z. has F z w ≡ true) (sym e) (from_filter (is_outside lo hi) (set_of F x) w m).0
  | inr n ↦ subst (λ vs. member w vs ≡ true) (cut_there F x y lo hi n) h
]

pub cut_below : (F : Family) (x : ℕ) (lo hi : ℤ) → Below (cut_of F x lo hi) F
cut_below F x lo hi = record { sub = from_cut F x lo hi; same = length-cut F x lo hi }

-- ---- chains

without_join : (D : Family) (ps qs : List (ℕ × ℤ)) → without D (ps ++ qs) ≡ without (without D ps) qs
without_join D [] qs = refl
without_join D (p ∷ ps) qs = without_join (cut_of D p.0 p.1 p.1) ps qs

each_join : (dead : Family → Bool) (D : Family) (ps qs : List (ℕ × ℤ)) → EachCanGo dead D ps → EachCanGo dead (without D ps) qs → EachCanGo dead D (ps ++ qs)
each_join dead D [] qs h k = k
each_join dead D (p ∷ ps) qs h k = (h.0, each_join dead (cut_of D p.0 p.1 p.1) ps qs h.1 k)

pub left_self : (dead : Family → Bool) (D : Family) → IsLeftOf dead D D
left_self dead D = record { gone = []; each = tt; left = refl }

pub left_one : (dead : Family → Bool) (D : Family) (x : ℕ) (v : ℤ) → CanGo dead D x v → IsLeftOf dead D (cut_of D x v v)
left_one dead D x v h = record { gone = (x, v) ∷ []; each = (h, tt); left = refl }

pub left_join : (dead : Family → Bool) (D F G : Family) → IsLeftOf dead D F → IsLeftOf dead F G → IsLeftOf dead D G
left_join dead D F G a b = record {
  gone = a.gone ++ b.gone;
  each = each_join dead D a.gone b.gone a.each (subst (λ H. EachCanGo dead H b.gone) a.left b.each);
  left = b.left ∙ (subst (λ H. without H b.gone ≡ without (without D a.gone) b.gone) (sym a.left) refl ∙ sym (without_join D a.gone b.gone));
}

-- ---- what stays

each_sets : (dead : Family → Bool) (D : Family) (ps : List (ℕ × ℤ)) → IsFamily D → EachCanGo dead D ps → IsFamily (without D ps)
each_sets dead D [] f h = f
each_sets dead D (p ∷ ps) f h = each_sets dead (cut_of D p.0 p.1 p.1) ps (cut_is_family D p.0 p.1 p.1 f h.0.dead_value.variable h.0.stays) h.1

pub left_sets : (dead : Family → Bool) (D F : Family) → IsFamily D → IsLeftOf dead D F → IsFamily F
left_sets dead D F f h = subst (λ G. IsFamily G) (sym h.left) (each_sets dead D h.gone f h.each)

without_below : (D : Family) (ps : List (ℕ × ℤ)) → Below (without D ps) D
without_below D [] = below_self D
without_below D (p ∷ ps) = below_join (without (cut_of D p.0 p.1 p.1) ps) (cut_of D p.0 p.1 p.1) D (without_below (cut_of D p.0 p.1 p.1) ps) (cut_below D p.0 p.1 p.1)

pub left_below : (dead : Family → Bool) (D F : Family) → IsLeftOf dead D F → Below F D
left_below dead D F h = subst (λ G. Below G D) (sym h.left) (without_below D h.gone)

-- each stable family stays below
pub each_kept : (dead : Family → Bool) (D F : Family) (ps : List (ℕ × ℤ)) → IsMonotone dead → Kept dead D F → EachCanGo dead F ps → Kept dead D (without F ps)
each_kept dead D F [] m k h = k
each_kept dead D F (p ∷ ps) m k h = each_kept dead D (cut_of F p.0 p.1 p.1) ps m (kept_cut dead D F p.0 p.1 m k h.0.dead_value) h.1

pub left_kept : (dead : Family → Bool) (D F : Family) → IsMonotone dead → IsLeftOf dead D F → Kept dead D F
left_kept dead D F m h = subst (λ G. Kept dead D G) (sym h.left) (each_kept dead D D h.gone m (kept_self dead D) h.each)

pub lose_none : RemovalsLoseNone
lose_none dead D F G m a s = (left_kept dead D F m a).above G s.stable s.within

-- ---- by another test

each_wider : (dead other : Family → Bool) (D : Family) (ps : List (ℕ × ℤ)) → ((G : Family) → dead G ≡ true → other G ≡ true) → EachCanGo dead D ps → EachCanGo other D ps
each_wider dead other D [] w h = tt
each_wider dead other D (p ∷ ps) w h = (
  record {
    dead_value = record { variable = h.0.dead_value.variable; value = h.0.dead_value.value; is_dead = w (only D p.0 p.1) h.0.dead_value.is_dead };
    stays = h.0.stays;
  },
  each_wider dead other (cut_of D p.0 p.1 p.1) ps w h.1,
)

pub left_wider : RemovalsWiden
left_wider dead other D F w a = record { gone = a.gone; each = each_wider dead other D a.gone w a.each; left = a.left }
