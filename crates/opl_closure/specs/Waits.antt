-- Who waits, and who is woken.
use Rattle.std.specs.Prelude.{◌≡◌, ℕ, ◌<◌, ◌≤◌, ◌⊎◌, Bool, true, false, cond, zero, ◌+◌, List, [], ◌∷◌, ℤ, length, slice_index_or, slice_set, Option, Some, None}
use Rattle.std.proofs.Common.{refl, ◌∙◌, subst, sym, arith, inl, inr}
use Rattle.opl_domain.specs.Family.{Family, member, is_outside, set_of, hull, Below}
use Rattle.opl_trace.specs.Sweeps.{size}
use Rattle.opl_filter.specs.Mentions.{lists}

-- member i waits
abbrev pub waits : List Bool → ℕ → Bool
waits w i = slice_index_or w i false

-- whoever waits was taken out
abbrev pub Takes : List Bool → List Bool → Option ℕ → Type 0
Takes old new None = (new ≡ old) × ((i : ℕ) → waits old i ≡ false)
Takes old new (Some i) = (i < length old) × (waits old i ≡ true) × (new ≡ slice_set old i false)

-- member i watches variable x, by lists of those who watch each
abbrev pub watches : List (List ℕ) → ℕ → ℕ → Bool
watches watchers i x = lists (slice_index_or watchers x []) i

-- some number of the list lies between lo and hi, or none does
abbrev pub Between : List ℤ → ℤ → ℤ → Bool → Type 0
Between vs lo hi true = (v : ℤ) × (member v vs ≡ true) × (is_outside lo hi v ≡ false)
Between vs lo hi false = (v : ℤ) → member v vs ≡ true → is_outside lo hi v ≡ true

-- from F to G sets have lost values, and whoever watches such a set waits, or watches its ends and it has lost one
pub record Wakes (watches watches_ends : ℕ → ℕ → Bool) (old : List Bool) (F : Family) (new : List Bool) (G : Family) : Type 0 where
  pub same : length new ≡ length old
  pub below : Below G F
  pub woken : (i : ℕ) → i < length old → waits new i ≡ false → (waits old i ≡ false) × ((x : ℕ) → watches i x ≡ true → set_of G x ≡ set_of F x) × ((x : ℕ) → watches_ends i x ≡ true → hull G x ≡ hull F x)
  pub smaller : size G ≤ size F
  pub ends : (size G < size F) ⊎ (new ≡ old)

-- before variable x alone loses values, from F to G, those have been woken who watch it, and those who watch its ends, if these don't stay
pub record WakesFor (watchers end_watchers : List (List ℕ)) (old new : List Bool) (F : Family) (x : ℕ) (G : Family) : Type 0 where
  pub same : length new ≡ length old
  pub woken : (i : ℕ) → i < length old → waits new i ≡ false → (waits old i ≡ false) × (watches watchers i x ≡ false) × ((watches end_watchers i x ≡ false) ⊎ (hull G x ≡ hull F x))

pub below_self : (F : Family) → Below F F
below_self F = record { sub = λ x v h. h; same = refl }

pub wakes_self : (watches watches_ends : ℕ → ℕ → Bool) (w : List Bool) (F : Family) → Wakes watches watches_ends w F w F
wakes_self watches watches_ends w F = record { same = refl; below = below_self F; woken = λ i n h. (h, λ x k. refl, λ x k. refl); ends = inr refl; smaller = omega arith }

pub wakes_join : (ls ks es ds : List (List ℕ)) → ks ≡ ls → ds ≡ es → (u : List Bool) (F : Family) (v : List Bool) (G : Family) (w : List Bool) (H : Family) → Wakes (watches ls) (watches es) u F v G → Wakes (watches ks) (watches ds) v G w H → Wakes (watches ls) (watches es) u F w H
wakes_join ls ks es ds e d u F v G w H a b = record {
  same = b.same ∙ a.same;
  below = record { sub = λ x z h. a.below.sub x z (b.below.sub x z h); same = b.below.same ∙ a.below.same };
  smaller = omega (arith, a.smaller, b.smaller);
  woken = λ i n h. let k = b.woken i (omega (arith, n, a.same)) h in let l = a.woken i n k.0 in (l.0, λ x m. k.1 x (subst (λ cs. watches cs i x ≡ true) (sym e) m) ∙ l.1 x m, λ x m. k.2 x (subst (λ cs. watches cs i x ≡ true) (sym d) m) ∙ l.2 x m);
  ends = elim a.ends [
    | inl l ↦ inl (omega (arith, l, b.smaller))
    | inr l ↦ elim b.ends [ inl m ↦ inl (omega (arith, m, a.smaller)) | inr m ↦ inr (m ∙ l) ]
  ];
}

-- how many wait
abbrev pub count_waits : List Bool → ℕ
count_waits [] = zero
count_waits (b ∷ w) = cond b 1 0 + count_waits w
