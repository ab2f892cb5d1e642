-- Dead values that are cut at once, or one after another.
use Rattle.std.proofs.Common.{◌≡◌, ℕ, zero, suc, ◌<◌, ◌⊎◌, Bool, true, false, cond, ◌||◌, refl, List, [], ◌∷◌, length, ℤ, inl, inr, ap, sym, subst, arith}
use Rattle.std.specs.Prelude.{int_lt}
use Rattle.std.proofs.lemmas.Int.{ints}
use Rattle.std.proofs.lemmas.List.{set-set, set-get_or}
use Rattle.opl_domain.specs.Family.{member, Family, IsFamily, is_outside, outside, set_of, has, only, cut_of}
use Rattle.opl_domain.proofs.Members.{member_first, member_later, from_filter, member_filter}
use Rattle.opl_domain.proofs.Sets.{length-cut, cut_here, set_of-here}
use Rattle.opl_trace.specs.Stable.{IsMonotone}
use Rattle.opl_trace.specs.Sweeps.{size}
use Rattle.opl_trace.proofs.Families.{only_full, only_below_only}
use Rattle.opl_trace.proofs.StoredSets.{cut_is_family}
use Rattle.opl_trace.proofs.Removals.{lt_or_eq, cut_smaller}
use Rattle.opl_filter.specs.Filtering.{CanGo, IsLeftOf}
use Rattle.opl_filter.specs.Laws.{IsDeadRun, RunsCanGo}
use Rattle.opl_filter.proofs.Removals.{from_cut, cut_below, left_self, left_one, left_join}

or_right_false : (a b : Bool) → b ≡ true → (a || b) ≡ false → ⊥
or_right_false true b e h = cc
or_right_false false b e h = cc

inside_one : (v w : ℤ) → is_outside v v w ≡ false → w ≡ v
unfolding is_outside
inside_one v w h = elim (lt_or_eq v w) [
  | inl k ↦ let e : int_lt w v ≡ true = grind (arith, ints) in cc
  | inr o ↦ elim o [ inl e ↦ e | inr k ↦ let e : int_lt v w ≡ true = grind (arith, ints) in absurd (or_right_false (int_lt w v) (int_lt v w) e h) ]
]

outside_one : (v w : ℤ) → (w ≡ v → ⊥) → is_outside v v w ≡ true
outside_one v w h = elim (is_outside v v w) as (λ b. is_outside v v w ≡ b → b ≡ true) [ true ↦ λ e. refl | false ↦ λ e. absurd (h (inside_one v w e)) ] refl

-- a number of the list within the run, or none is
record IsWithinRun (lo hi : ℤ) (xs : List ℤ) : Type 0 where
  pub number : ℤ
  pub among : member number xs ≡ true
  pub within : is_outside lo hi number ≡ false

first_within : (lo hi : ℤ) (xs : List ℤ) → IsWithinRun lo hi xs ⊎ (outside lo hi xs ≡ xs)
first_within lo hi [] = inr refl
first_within lo hi (v ∷ xs) =
    elim (is_outside lo hi v) as (λ b. is_outside lo hi v ≡ b → IsWithinRun lo hi (v ∷ xs) ⊎ (cond b (v ∷ outside lo hi xs) (outside lo hi xs) ≡ v ∷ xs)) [
      | true ↦ λ e. elim (first_within lo hi xs) [
        | inl f ↦ inl (record { number = f.number; among = member_later f.number v xs f.among; within = f.within })
        | inr n ↦ inr (ap (λ ys. v ∷ ys) n)
      ]
      | false ↦ λ e. inl (record { number = v; among = member_first v xs; within = e })
    ] refl

-- a number within the run that has gone before
outside_twice : (lo hi v : ℤ) (xs : List ℤ) → is_outside lo hi v ≡ false → outside lo hi (outside v v xs) ≡ outside lo hi xs
outside_twice lo hi v [] h = refl
outside_twice lo hi v (w ∷ xs) h =
    let rest = outside_twice lo hi v xs h in
    elim (is_outside v v w) as (λ b. is_outside v v w ≡ b → outside lo hi (cond b (w ∷ outside v v xs) (outside v v xs)) ≡ outside lo hi (w ∷ xs)) [
      | true ↦ λ e. ap (λ ys. cond (is_outside lo hi w) (w ∷ ys) ys) rest
      | false ↦ λ e.
          let k : is_outside lo hi w ≡ false = subst (λ u. is_outside lo hi u ≡ false) (sym (inside_one v w e)) h in
          rw k rest
    ] refl

cut_twice : (F : Family) (x : ℕ) (lo hi v : ℤ) → x < length F → is_outside lo hi v ≡ false → cut_of (cut_of F x v v) x lo hi ≡ cut_of F x lo hi
unfolding cut_of
cut_twice F x lo hi v k h =
    let e = set_of-here F x (outside v v (set_of F x)) k in
    rw (e, outside_twice lo hi v (set_of F x) h) (set-set F x (outside v v (set_of F x)) (outside lo hi (set_of F x)))

cut_nothing : (F : Family) (x : ℕ) (lo hi : ℤ) → outside lo hi (set_of F x) ≡ set_of F x → cut_of F x lo hi ≡ F
unfolding cut_of set_of
cut_nothing F x lo hi h = rw h (set-get_or F x [])

-- another value stays once one of the run has gone
stays_first : (F : Family) (x : ℕ) (lo hi v : ℤ) → x < length F → is_outside lo hi v ≡ false → (w : ℤ) × (has (cut_of F x lo hi) x w ≡ true) → (w : ℤ) × (has (cut_of F x v v) x w ≡ true)
stays_first F x lo hi v k h s =
    let m = subst (λ vs. member s.0 vs ≡ true) (cut_here F x lo hi k) s.1 in
    let r = from_filter (is_outside lo hi) (set_of F x) s.0 m in (
      s.0,
      subst (λ vs. member s.0 vs ≡ true) (sym (cut_here F x v v k))
          (member_filter (is_outside v v) (set_of F x) s.0 r.0 (outside_one v s.0 (λ e. let j = subst (λ u. is_outside lo hi u ≡ true) e r.1 in cc))),
    )

run_later : (dead : Family → Bool) (F : Family) (x : ℕ) (lo hi v : ℤ) → IsMonotone dead → IsFamily F → IsFamily (cut_of F x v v) → IsDeadRun dead F x lo hi → IsDeadRun dead (cut_of F x v v) x lo hi
run_later dead F x lo hi v m f g r u h o =
    m.falls (only (cut_of F x v v) x u) (only F x u) (only_full (cut_of F x v v) x u g.full) (only_below_only (cut_of F x v v) F x u (cut_below F x v v))
    (r u (from_cut F x v v x u h) o)

-- at most n values are in the sets
run_goes : (n : ℕ) (dead : Family → Bool) (F : Family) (x : ℕ) (lo hi : ℤ) → size F < n → IsMonotone dead → IsFamily F → x < length F → IsDeadRun dead F x lo hi → (w : ℤ) × (has (cut_of F x lo hi) x w ≡ true) → IsLeftOf dead F (cut_of F x lo hi)
run_goes zero dead F x lo hi b m f k r s = absurd (omega arith)
run_goes (suc n) dead F x lo hi b m f k r s = elim (first_within lo hi (set_of F x)) [
  | inr e ↦ subst (λ G. IsLeftOf dead F G) (sym (cut_nothing F x lo hi e)) (left_self dead F)
  | inl i ↦
      let v = i.number in
      let stays = stays_first F x lo hi v k i.within s in
      let G = cut_of F x v v in
      let g = cut_is_family F x v v f k stays in
      let same = cut_twice F x lo hi v k i.within in
      let goes : CanGo dead F x v = record { dead_value = record { variable = k; value = i.among; is_dead = r v i.among i.within }; stays = stays } in
      let later = run_goes n dead G x lo hi (omega (arith, b, cut_smaller F x v i.among)) m g (omega (arith, k, length-cut F x v v)) (run_later dead F x lo hi v m f g r)
      (s.0, subst (λ H. has H x s.0 ≡ true) (sym same) s.1) in
      subst (λ H. IsLeftOf dead F H) same (left_join dead F G (cut_of G x lo hi) (left_one dead F x v goes) later)
]

pub runs_can_go : RunsCanGo
runs_can_go dead F x lo hi m f k r s = run_goes (suc (size F)) dead F x lo hi (omega arith) m f k r s
