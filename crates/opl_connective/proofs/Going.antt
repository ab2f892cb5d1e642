-- What is known after a round over a node, by what is known of the rounds over its parts.
use Rattle.std.proofs.Common.{◌≡◌, ◌∙◌, ◌≢◌, ◌⊎◌, ℕ, zero, suc, ◌+◌, ◌<◌, ◌≤◌, Bool, true, false, cond, not, refl, List, [], ◌∷◌, length, ℤ, ap, sym, subst, arith, inl, inr}
use Rattle.std.specs.Prelude.{Some, None, slice_get}
use Rattle.std.proofs.lemmas.Bool.{cases_eq}
use Rattle.std.proofs.Math.Path.{fun_ext}
use Rattle.opl_domain.specs.Family.{Family, IsFamily, Below, Full, only, cut_of}
use Rattle.opl_expr.specs.declared.model.Core.{Core}
use Rattle.opl_expr.specs.Range.{is_possible}
use Rattle.opl_trace.specs.Stable.{IsMonotone, IsStable}
use Rattle.opl_trace.specs.Sweeps.{size}
use Rattle.opl_trace.proofs.Families.{below_self, only_full}
use Rattle.opl_trace.proofs.Removals.{cut_smaller}
use Rattle.opl_filter.specs.declared.outcome.Outcome.TheVariants as outcome
use Rattle.opl_filter.specs.Mentions.{lists}
use Rattle.opl_filter.specs.Filtering.{refutes, without, EachCanGo, IsLeftOf, IsBetween, Filters}
use Rattle.opl_filter.proofs.Removals.{left_join, left_kept, left_wider}
use Rattle.opl_filter.proofs.Refuting.{refutes_falls}
use Rattle.opl_reify.specs.declared.part.Part.{Part}
use Rattle.opl_reify.specs.Parts.{signed, fact_in}
use Rattle.opl_reify.specs.Rounds.{TriesShared, Looks}
use Rattle.opl_reify.proofs.Carrying.{SaysTheSameWithin, between_carried, outcome_carried}
use Rattle.opl_reify.proofs.Looking.{left_between, nothing_between, dead_has_failed, stuck_has_failed}
use Rattle.opl_reify.proofs.Negation.{signed_not}
use Rattle.opl_connective.specs.Trees.{Tree, trees_of, holds, names, is_refuted, some_refuted, all_refuted, iff_refuted}
use Rattle.opl_connective.specs.Nodes.{IsTree, AreTrees, TellsAt}
use Rattle.opl_connective.specs.Rounds.{Goes, SparesOthers}
use Rattle.opl_connective.specs.Noticing.{Notices}
use Rattle.opl_connective.proofs.Refuted.{and_refuted, and_certain, or_refuted, or_certain, iff_first_sure, iff_first_never, iff_first_open, iff_second_sure, iff_second_never, iff_second_open}
use Rattle.opl_connective.proofs.Places.{one_open, one_left, one_refuted, some_falls, tells_below, unnamed_same}

-- ---- by another test that says the same

greatest_self : (dead : Family → Bool) (D : Family) → IsStable dead D → Filters dead D D outcome.Stable
greatest_self dead D s = record { is_stable = record { stable = s; within = below_self D }; most = λ G t. t.within }

pub goes_carried : (dead other : Family → Bool) (D F : Family) (r : Bool) → IsFamily D → SaysTheSameWithin D dead other → Goes dead D F r → Goes other D F r
goes_carried dead other D F false f same g = (between_carried D dead other same F f g.0, outcome_carried D dead other same F outcome.Failed g.1)
goes_carried dead other D F true f same g =
    (between_carried D dead other same F f g.0, λ e. (outcome_carried D dead other same D outcome.Stable (greatest_self dead D (g.1 e))).is_stable.stable)

-- ---- a comparison

pub stable_goes : (dead : Family → Bool) (D F : Family) → IsBetween dead D F → Filters dead D F outcome.Stable → Goes dead D F true
stable_goes dead D F b g = (b, λ e. subst (IsStable dead) e g.is_stable.stable)

pub failed_goes : (dead : Family → Bool) (D F : Family) → IsBetween dead D F → Filters dead D F outcome.Failed → Goes dead D F false
failed_goes dead D F b g = (b, g)

-- ---- nothing to try, or values that two parts share

pub dead_goes : (dead : Family → Bool) (D F : Family) → IsMonotone dead → IsFamily D → F ≡ D → dead D ≡ true → Goes dead D F false
dead_goes dead D F m f e h = (subst (IsBetween dead D) (sym e) (nothing_between dead D f), dead_has_failed dead D m h)

stable_here : (dead : Family → Bool) (D F : Family) → IsFamily D → F ≡ D → IsStable dead D → Goes dead D F true
stable_here dead D F f e s = (subst (IsBetween dead D) (sym e) (nothing_between dead D f), λ h. s)

pub tried_failed : (dead : Family → Bool) (xs ys : List ℕ) (D F : Family) → IsMonotone dead → IsFamily D → TriesShared dead xs ys D F None → Goes dead D F false
tried_failed dead xs ys D F m f s = (left_between dead D F f s.removals, stuck_has_failed dead D F m s)

pub tried_goes : (dead : Family → Bool) (xs ys : List ℕ) (D F : Family) (r : Bool) → IsFamily D → dead D ≡ false → SparesOthers dead xs D → SparesOthers dead ys D → TriesShared dead xs ys D F (Some r) → Goes dead D F true
tried_goes dead xs ys D F true f h p q s = (left_between dead D F f s.removals, λ e. absurd (omega (arith, s.smaller, ap size e)))
tried_goes dead xs ys D F false f h p q s = stable_here dead D F f s.0 (record {
  full = f.full;
  spared = h;
  each = λ x v l m. elim (lists xs x) as (λ b. lists xs x ≡ b → dead (only D x v) ≡ false) [
    | false ↦ λ e. p x v e m
    | true ↦ λ e. elim (lists ys x) as (λ b. lists ys x ≡ b → dead (only D x v) ≡ false) [ false ↦ λ d. q x v d m | true ↦ λ d. s.1 x v e d m ] refl
  ] refl;
})

-- ---- one after another

each_smaller : (dead : Family → Bool) (D : Family) (gone : List (ℕ × ℤ)) → EachCanGo dead D gone → size (without D gone) + length gone ≤ size D
each_smaller dead D [] h = omega arith
each_smaller dead D (p ∷ gone) h = omega (arith, each_smaller dead (cut_of D p.0 p.1 p.1) gone h.1, cut_smaller D p.0 p.1 h.0.dead_value.value)

same_or_smaller : (dead : Family → Bool) (D F : Family) → IsLeftOf dead D F → (F ≡ D) ⊎ (size F < size D)
same_or_smaller dead D F a = subst (λ G. (G ≡ D) ⊎ (size G < size D)) (sym a.left) (by_gone a.gone a.each)
  where
    by_gone : (gone : List (ℕ × ℤ)) → EachCanGo dead D gone → (without D gone ≡ D) ⊎ (size (without D gone) < size D)
    by_gone [] h = inl refl
    by_gone (p ∷ gone) h = inr (omega (arith, each_smaller dead D (p ∷ gone) h))

-- where nothing has gone in the end, nothing had gone before
both_same : (dead : Family → Bool) (D F G : Family) → IsLeftOf dead D F → IsLeftOf dead F G → G ≡ D → F ≡ D
both_same dead D F G a b e = elim (same_or_smaller dead D F a) [
  | inl h ↦ h
  | inr s ↦ elim (same_or_smaller dead F G b) [ inl k ↦ sym k ∙ e | inr t ↦ absurd (omega (arith, s, t, ap size e)) ]
]

-- the first n trees are stable for D, if nothing has gone
pub record Gone (core : Core) (o : Bool) (ts : List Tree) (D F : Family) (n : ℕ) : Type 0 where
  pub removals : IsLeftOf (some_refuted core o ts) D F
  pub stable : F ≡ D → (i : ℕ) (t : Tree) → i < n → slice_get ts i ≡ Some t → IsStable (is_refuted core o t) D

module _ (core : Core) (o : Bool) (ts : List Tree) where
  abbrev dead : Family → Bool
  dead = some_refuted core o ts

  -- what one tree removes may go for all
  wider : (i : ℕ) (t : Tree) (D F : Family) → slice_get ts i ≡ Some t → IsLeftOf (is_refuted core o t) D F → IsLeftOf dead D F
  wider i t D F h a = left_wider (is_refuted core o t) dead D F (λ G e. one_refuted core G o ts i t h e) a

  spared_one : (i : ℕ) (t : Tree) (F : Family) → slice_get ts i ≡ Some t → dead F ≡ false → is_refuted core o t F ≡ false
  spared_one i t F h e = elim (is_refuted core o t F) as (λ b. is_refuted core o t F ≡ b → b ≡ false) [ false ↦ λ k. refl | true ↦ λ k. let r = one_refuted core F o ts i t h k in cc ] refl

  stable_one : (i : ℕ) (t : Tree) (F : Family) → slice_get ts i ≡ Some t → IsStable dead F → IsStable (is_refuted core o t) F
  stable_one i t F h s = record { full = s.full; spared = spared_one i t F h s.spared; each = λ x v l m. spared_one i t (only F x v) h (s.each x v l m) }

  pub gone_first : (D : Family) → IsLeftOf dead D D → Gone core o ts D D 0
  gone_first D a = record { removals = a; stable = λ e i t l h. absurd (omega (arith, l)) }

  pub gone_next : (D F G : Family) (n : ℕ) (t : Tree) → slice_get ts n ≡ Some t → Gone core o ts D F n → Goes (is_refuted core o t) F G true → Gone core o ts D G (n + 1)
  gone_next D F G n t h g r =
      let k = wider n t F G h r.0.removals in
      record {
        removals = left_join dead D F G g.removals k;
        stable = λ e i u l m.
            let s = both_same dead D F G g.removals k e in
            elim (cases_eq i n) [
              | inl j ↦
                  let z : t ≡ u = the_same t u (sym h ∙ ap (slice_get ts) (sym j) ∙ m) in
                  subst (λ (y : Tree). IsStable (is_refuted core o y) D) z (subst (IsStable (is_refuted core o t)) s (r.1 (e ∙ sym s)))
              | inr d ↦ g.stable s i u (omega (arith, l, d)) m
            ];
      }
    where
      the_same : (a b : Tree) → Some a ≡ Some b → a ≡ b
      the_same a b e = cc

  pub gone_failed : (D F G : Family) (n : ℕ) (t : Tree) → IsFamily D → slice_get ts n ≡ Some t → Gone core o ts D F n → Goes (is_refuted core o t) F G false → Goes dead D G false
  gone_failed D F G n t f h g r = (
    left_between dead D G f (left_join dead D F G g.removals (wider n t F G h r.0.removals)),
    λ H s. r.1 H (record { stable = stable_one n t H h s.stable; within = (left_kept dead D F (some_falls core o ts) g.removals).above H s.stable s.within }),
  )

  all_false : (us : List Tree) (F : Family) → ((i : ℕ) (t : Tree) → slice_get us i ≡ Some t → is_refuted core o t F ≡ false) → some_refuted core o us F ≡ false
  all_false [] F h = refl
  all_false (u ∷ us) F h = rw (h zero u refl) (all_false us F (λ i t e. h (suc i) t e))

  within : (us : List Tree) (i : ℕ) (t : Tree) → slice_get us i ≡ Some t → i < length us
  within [] i t h = cc
  within (u ∷ us) zero t h = omega arith
  within (u ∷ us) (suc i) t h = let r = within us i t h in omega (arith, r)

  pub gone_all : (D F : Family) (n : ℕ) → IsFamily D → length ts ≤ n → Gone core o ts D F n → Goes dead D F true
  gone_all D F n f l g = (
    left_between dead D F f g.removals,
    λ e. record {
      full = f.full;
      spared = all_false ts D (λ i t h. (each e i t h).spared);
      each = λ x v k m. all_false ts (only D x v) (λ i t h. (each e i t h).each x v k m);
    },
  )
    where
      each : F ≡ D → (i : ℕ) (t : Tree) → slice_get ts i ≡ Some t → IsStable (is_refuted core o t) D
      each e i t h = let w = within ts i t h in g.stable e i t (omega (arith, w, l)) h

-- ---- one that is to hold of several

module _ (core : Core) (o : Bool) (ts : List Tree) (a : AreTrees core (trees_of ts)) where
  pub one_within : (D : Family) (i : ℕ) (t : Tree) → slice_get ts i ≡ Some t → ((j : ℕ) → j ≢ i → TellsAt core D o ts true j) → SaysTheSameWithin D (is_refuted core o t) (all_refuted core o ts)
  one_within D i t h e F f b = sym (one_left core F o ts i t h (λ j n. tells_below core F D o ts j f b (e j n)))

  pub open_spares : (F : Family) (i : ℕ) (t : Tree) → Full F → IsTree core t → slice_get ts i ≡ Some t → is_refuted core o t F ≡ false → SparesOthers (all_refuted core o ts) (names t) F
  open_spares F i t f k h e x v l m = one_open core (only F x v) o ts i t h (unnamed_same core o t F x v k f l ∙ e)

-- ---- what joins trees, and its parts

module _ (core : Core) (xs : List ℕ) (ts : List Tree) (a : AreTrees core (trees_of ts)) (D : Family) where
  pub and_within : SaysTheSameWithin D (some_refuted core false ts) (is_refuted core false (Tree.and xs (trees_of ts)))
  and_within F f b = sym (and_refuted core F f ts a)

  pub and_opposite_within : SaysTheSameWithin D (all_refuted core true ts) (is_refuted core true (Tree.and xs (trees_of ts)))
  and_opposite_within F f b = sym (and_certain core F f ts a)

  pub or_within : SaysTheSameWithin D (all_refuted core false ts) (is_refuted core false (Tree.or xs (trees_of ts)))
  or_within F f b = sym (or_refuted core F f ts a)

  pub or_opposite_within : SaysTheSameWithin D (some_refuted core true ts) (is_refuted core true (Tree.or xs (trees_of ts)))
  or_opposite_within F f b = sym (or_certain core F f ts a)

-- the opposite of an opposite
pub not_same : (core : Core) (o : Bool) (t : Tree) → is_refuted core (not o) t ≡ is_refuted core o (Tree.not t)
not_same core o t = fun_ext (λ F. ap (λ r. cond (is_possible r) false true) (sym (signed_not F o (holds core t))))

pub opposite_same : (core : Core) (p q : Part) → IsTree core (Tree.literal p q) → refutes (fact_in core q) ≡ is_refuted core true (Tree.literal p q)
opposite_same core p q i = fun_ext (λ F. ap (λ r. cond (is_possible r) false true) (sym (i.1.same F)))

-- ---- two trees that are to be alike

module _ (core : Core) (o : Bool) (s t : Tree) (i : IsTree core s) (j : IsTree core t) (D : Family) where
  lower : (b : Bool) (u : Tree) (F : Family) → Full F → Below F D → is_refuted core b u D ≡ true → is_refuted core b u F ≡ true
  lower b u F f k h = (refutes_falls (signed b (holds core u))).falls F D f k h

  pub first_sure_within : is_refuted core true s D ≡ true → SaysTheSameWithin D (is_refuted core o t) (iff_refuted core o s t)
  first_sure_within h F f b = sym (iff_first_sure core F f o s t i j (lower true s F f b h))

  pub first_never_within : is_refuted core false s D ≡ true → SaysTheSameWithin D (is_refuted core (not o) t) (iff_refuted core o s t)
  first_never_within h F f b = sym (iff_first_never core F f o s t i j (lower false s F f b h))

  pub second_sure_within : is_refuted core true t D ≡ true → SaysTheSameWithin D (is_refuted core o s) (iff_refuted core o s t)
  second_sure_within h F f b = sym (iff_second_sure core F f o s t i j (lower true t F f b h))

  pub second_never_within : is_refuted core false t D ≡ true → SaysTheSameWithin D (is_refuted core (not o) s) (iff_refuted core o s t)
  second_never_within h F f b = sym (iff_second_never core F f o s t i j (lower false t F f b h))

  pub iff_open : Full D → is_refuted core true s D ≡ false → is_refuted core false s D ≡ false → iff_refuted core o s t D ≡ false
  iff_open f h k = iff_first_open core D f o s t i j h k

  pub first_spares : Full D → is_refuted core true s D ≡ false → is_refuted core false s D ≡ false → SparesOthers (iff_refuted core o s t) (names s) D
  first_spares f h k x v l m = iff_first_open core (only D x v) (only_full D x v f) o s t i j (unnamed_same core true s D x v i f l ∙ h) (unnamed_same core false s D x v i f l ∙ k)

  pub second_spares : Full D → is_refuted core true t D ≡ false → is_refuted core false t D ≡ false → SparesOthers (iff_refuted core o s t) (names t) D
  second_spares f h k x v l m = iff_second_open core (only D x v) (only_full D x v f) o s t i j (unnamed_same core true t D x v j f l ∙ h) (unnamed_same core false t D x v j f l ∙ k)

-- ---- after a look

pub look_failed : (dead : Family → Bool) (D F : Family) → Goes dead D F false → Looks dead D F (Some outcome.Failed)
look_failed dead D F g = g

pub look_again : (dead : Family → Bool) (D F : Family) (c : Bool) → Notices false D c F → c ≡ true → Goes dead D F true → Looks dead D F None
look_again dead D F c n e g = record { removals = g.0.removals; smaller = n.some e refl }

pub look_stable : (dead : Family → Bool) (D F : Family) (c : Bool) → IsFamily D → Notices false D c F → c ≡ false → Goes dead D F true → Looks dead D F (Some outcome.Stable)
look_stable dead D F c f n e g =
    let h = (n.none e).1 in
    subst (λ G. Looks dead D G (Some outcome.Stable)) (sym h) (nothing_between dead D f, greatest_self dead D (g.1 h))
