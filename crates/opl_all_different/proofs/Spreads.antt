-- The value of one part is taken from the others: what goes is dead, and what is left.
use Rattle.std.proofs.Common.{◌≡◌, ◌≢◌, ◌∙◌, ◌⊎◌, ℕ, ◌+◌, ◌<◌, ◌≤◌, Bool, true, false, List, length, ℤ, pos, ap, sym, subst, arith, inl, inr}
use Rattle.opl_domain.specs.Family.{member, Family, Below, only}
use Rattle.opl_filter.specs.Filtering.{IsLeftOf}
use Rattle.opl_filter.proofs.Removals.{left_self, left_one, left_join, left_below}
use Rattle.opl_all_different.specs.declared.part.Part.{Part}
use Rattle.opl_all_different.specs.Parts.{part_at, value_with, HasOnly, Misses, clashes, AreSeparate}
use Rattle.opl_all_different.specs.Taking.{HasLost, Takes}
use Rattle.opl_all_different.specs.Spreading.{TakesFrom, Spreads}
use Rattle.opl_all_different.proofs.Meetings.{numbers_only, numbers_other, only_below_has, misses_below, both_clash}

module _ (ps : List Part) (D : Family) (i j : ℕ) (v : ℤ) (s : AreSeparate (length D) ps) (a : i < length ps) (b : j < length ps) (n : j ≢ i) (h : HasOnly D (part_at ps i) v) where
  -- where part j has the value too, and no other, the family clashes
  value_clashes : (w : ℤ) → (part_at ps j).factor ≢ pos 0 → value_with (part_at ps j) w ≡ v → clashes ps (only D (part_at ps j).variable w) ≡ true
  value_clashes w m e =
      let p = part_at ps i in
      let q = part_at ps j in
      let G = only D q.variable w in
      both_clash G ps i j v a b (λ z. n (sym z))
      (λ u k. h u (subst (λ vs. member u vs ≡ true) (numbers_other D p q.variable w (λ o. s.apart i j a b (λ z. n (sym z)) o m)) k))
      (λ u k. ap (value_with q) (numbers_only D q w m (s.there j b m) u k) ∙ e)

  lost_goes : (F : Family) → HasLost D F (part_at ps j) v → IsLeftOf (clashes ps) D F
  lost_goes F l = subst (λ G. IsLeftOf (clashes ps) D G) (sym l.left) (left_one (clashes ps) D (part_at ps j).variable l.number (record {
    dead_value = record { variable = s.there j b l.factor; value = l.had; is_dead = value_clashes l.number l.factor l.is };
    stays = l.stays;
  }))

  pub taken_from : (F : Family) (r : Bool) → Takes D F (part_at ps j) v r → TakesFrom D F ps i j v r
  taken_from F true t = (elim t.0 [ inl e ↦ subst (λ G. IsLeftOf (clashes ps) D G) (sym e) (left_self (clashes ps) D) | inr l ↦ lost_goes F l ], λ m. t.1)
  taken_from F false t = (t.0, both_clash D ps i j v a b (λ z. n (sym z)) h t.1)

-- ---- the loop over the other parts

-- the value was taken from the first k parts
pub record Spreading (D F : Family) (ps : List Part) (i k : ℕ) (v : ℤ) : Type 0 where
  pub removals : IsLeftOf (clashes ps) D F
  pub others : (j : ℕ) → j < k → j ≢ i → Misses F (part_at ps j) v

last_or_before : (j k : ℕ) → j < k + 1 → (j ≡ k) ⊎ (j < k)
last_or_before j k h = grind arith

pub spread_next : (D F G : Family) (ps : List Part) (i k : ℕ) (v : ℤ) (b : Bool) → Spreading D F ps i k v → TakesFrom F G ps i k v b → b ≡ true → Spreading D G ps i (k + 1) v
spread_next D F G ps i k v true s t e = record {
  removals = left_join (clashes ps) D F G s.removals t.0;
  others = λ j h n. elim (last_or_before j k h) [
    | inl z ↦ subst (λ l. Misses G (part_at ps l) v) (sym z) (t.1 (λ y. n (z ∙ y)))
    | inr l ↦ misses_below G F (part_at ps j) v (left_below (clashes ps) F G t.0) (s.others j l n)
  ];
}
spread_next D F G ps i k v false s t e = cc

pub spread_end : (D F : Family) (ps : List Part) (i k : ℕ) (v : ℤ) → HasOnly D (part_at ps i) v → Spreading D F ps i k v → length ps ≤ k → Spreads D F ps i true
spread_end D F ps i k v h s e = (
  s.removals,
  record {
    value = v;
    single = only_below_has F D (part_at ps i) v (left_below (clashes ps) D F s.removals) h;
    others = λ j l n. s.others j (omega (arith, l, e)) n;
  },
)

-- so far the parts are as they were
pub separate_later : (D F : Family) (ps : List Part) → Below F D → AreSeparate (length D) ps → AreSeparate (length F) ps
separate_later D F ps b s = subst (λ n. AreSeparate n ps) (sym b.same) s
