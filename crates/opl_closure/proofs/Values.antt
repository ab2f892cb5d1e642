-- What narrowing leaves where one variable is to have one value.
use Rattle.std.proofs.Common.{◌≡◌, ◌≢◌, ◌∙◌, ℕ, zero, suc, ◌<◌, ◌≤◌, Bool, true, false, ◌||◌, cond, refl, [], ◌∷◌, length, replicate, ℤ, pos, ◌+ℤ◌, ◌≤ℤ◌, int_eq, ap, sym, subst, arith, inl, inr}
use Rattle.std.specs.Prelude.{Some, not, int_lt, nat_eq}
use Rattle.std.proofs.lemmas.Int.{ints}
use Rattle.std.proofs.lemmas.Bool.{cases_eq, cases_lt}
use Rattle.std.proofs.lemmas.Bool.Decides.{nat_tests}
use Rattle.opl_domain.specs.Family.{Family, IsFamily, member, is_outside, set_of, has, only, cut_of, Below, Full, IsLeast, IsGreatest}
use Rattle.opl_domain.specs.Span.{point}
use Rattle.opl_domain.proofs.Members.{member_first, from_filter, member_filter}
use Rattle.opl_domain.proofs.Sets.{only_here, length-only, cut_here}
use Rattle.opl_expr.specs.Laws.{singles}
use Rattle.opl_expr.specs.Range.{is_possible}
use Rattle.opl_expr.specs.Holds.{value_at, bit}
use Rattle.opl_expr.proofs.SingleValues.{single_values}
use Rattle.opl_trace.specs.Answers.{is_value}
use Rattle.opl_trace.specs.Stable.{IsStable, IsGreatestStable, HasFailed}
use Rattle.opl_trace.proofs.Families.{only_full, only_below, only_has, only_has_other}
use Rattle.opl_filter.specs.Filtering.{refutes, IsLeftOf, IsBetween}
use Rattle.opl_filter.proofs.Agreeing.{agreeing_same}
use Rattle.opl_filter.proofs.Refuting.{refutes_falls}
use Rattle.opl_filter.proofs.Removals.{left_self, left_join, left_sets, left_below, lose_none}
use Rattle.opl_filter.proofs.Runs.{runs_can_go}
use Rattle.opl_closure.specs.Values.{Keeps}
use Rattle.opl_closure.proofs.Turns.{stable_moves}

-- ---- where x has one value

-- the family of n variables that have the value w alone
abbrev all_have : ℕ → ℤ → Family
all_have n w = singles (replicate n w)

value_here : (n x : ℕ) (w : ℤ) → x < n → value_at (replicate n w) x ≡ w
value_here zero x w l = absurd (omega arith)
value_here (suc n) zero w l = refl
value_here (suc n) (suc x) w l = value_here n x w (omega arith)

set_here : (n x : ℕ) (w : ℤ) → x < n → set_of (all_have n w) x ≡ w ∷ []
unfolding set_of
set_here zero x w l = absurd (omega arith)
set_here (suc n) zero w l = refl
set_here (suc n) (suc x) w l = set_here n x w (omega arith)

length-all_have : (n : ℕ) (w : ℤ) → length (all_have n w) ≡ n
length-all_have zero w = refl
length-all_have (suc n) w = ap suc (length-all_have n w)

all_full : (n : ℕ) (w : ℤ) → Full (all_have n w)
all_full n w x l = (w, subst (λ vs. member w vs ≡ true) (sym (set_here n x w (omega (arith, l, length-all_have n w)))) (member_first w []))

possible_or_not : (b : Bool) → cond (is_possible (Some (point (bit b)))) false true ≡ not b
possible_or_not true = refl
possible_or_not false = refl

same_number : (x y : ℕ) → (nat_eq y x || false) ≡ true → y ≡ x
same_number x y h = grind (arith, nat_tests)

refuted_alone : (F : Family) (x : ℕ) (v w : ℤ) → Full F → x < length F → set_of F x ≡ w ∷ [] → refutes (is_value x v) F ≡ not (int_eq w v)
refuted_alone F x v w f l e =
    let n = length F in
    let agree = agreeing_same (is_value x v) F (all_have n w) (record {
      same = sym (length-all_have n w);
      first = f;
      second = all_full n w;
      sets = λ y h. let i = same_number x y h in subst (λ z. set_of F z ≡ set_of (all_have n w) z) (sym i) (e ∙ sym (set_here n x w l));
    }) in
    let r = agree ∙ single_values.facts (is_value x v) (replicate n w) refl in
    ap (λ o. cond (is_possible o) false true) r ∙ ap (λ u. cond (is_possible (Some (point (bit (int_eq u v))))) false true) (value_here n x w l) ∙ possible_or_not (int_eq w v)

dead_other : (F : Family) (x : ℕ) (v w : ℤ) → Full F → x < length F → w ≢ v → refutes (is_value x v) (only F x w) ≡ true
dead_other F x v w f l n =
    let r = refuted_alone (only F x w) x v w (only_full F x w f) (omega (arith, l, length-only F x w)) (only_here F x w l) in
    r ∙ (elim (int_eq w v) as (λ b. int_eq w v ≡ b → not b ≡ true) [ true ↦ λ e. absurd (n (grind (arith, ints))) | false ↦ λ e. refl ]) refl

spared_same : (F : Family) (x : ℕ) (v : ℤ) → Full F → x < length F → refutes (is_value x v) (only F x v) ≡ false
spared_same F x v f l =
    let r = refuted_alone (only F x v) x v v (only_full F x v f) (omega (arith, l, length-only F x v)) (only_here F x v l) in
    let e : int_eq v v ≡ true = grind (arith, ints) in
    r ∙ ap not e

spared_has : (F : Family) (x : ℕ) (v : ℤ) → Full F → x < length F → has F x v ≡ true → refutes (is_value x v) F ≡ false
spared_has F x v f l m = elim (refutes (is_value x v) F) as (λ b. refutes (is_value x v) F ≡ b → b ≡ false) [
  | true ↦ λ e. absurd (let d = (refutes_falls (is_value x v)).falls (only F x v) F (only_full F x v f) (only_below F x v m) e in let s = spared_same F x v f l in cc)
  | false ↦ λ e. refl
] refl

-- ---- what is left

single_stable : (G : Family) (x : ℕ) (v : ℤ) → Full G → x < length G → has G x v ≡ true → ((w : ℤ) → has G x w ≡ true → w ≡ v) → IsStable (refutes (is_value x v)) G
single_stable G x v g l m one = record {
  full = g;
  spared = spared_has G x v g l m;
  each = λ y w k h. spared_has (only G y w) x v (only_full G y w g) (omega (arith, l, length-only G y w)) (elim (cases_eq x y) [
    | inl e ↦
        let i = one w (subst (λ z. has G z w ≡ true) (sym e) h) in
        subst (λ z. has (only G y w) z v ≡ true) (sym e) (subst (λ u. has (only G y w) y u ≡ true) i (only_has G y w k))
    | inr n ↦ only_has_other G y x w v n m
  ]);
}

pub value_fails : (F : Family) (x : ℕ) (v : ℤ) → x < length F → has F x v ≡ false → HasFailed (refutes (is_value x v)) F
value_fails F x v l n G s =
    let k : x < length G = omega (arith, l, s.within.same) in
    let r = s.stable.full x k in
    let a = refuted_alone (only G x r.0) x v r.0 (only_full G x r.0 s.stable.full) (omega (arith, k, length-only G x r.0)) (only_here G x r.0 k) in
    let b = s.stable.each x r.0 k r.1 in
    let e : not (int_eq r.0 v) ≡ false = sym a ∙ b in
    let i : r.0 ≡ v = grind (arith, ints) in
    let h = subst (λ u. has F x u ≡ true) i (s.within.sub x r.0 r.1) in
    cc

pub value_keeps : (F G H : Family) (x : ℕ) (v : ℤ) → IsFamily F → x < length F → Keeps x v (λ w. v ≤ℤ w) F G → Keeps x v (λ w. w ≤ℤ v) G H → IsBetween (refutes (is_value x v)) F H × IsGreatestStable (refutes (is_value x v)) F H
value_keeps F G H x v f l a b =
    let dead = refutes (is_value x v) in
    let left = left_join dead F G H a.removals b.removals in
    let below = left_below dead F H left in
    let sets = left_sets dead F H f left in
    let down = left_below dead G H b.removals in (
      record { removals = left; below = below; sets = sets },
      record {
        is_stable = record {
          stable = single_stable H x v sets.full (omega (arith, l, below.same)) b.value (λ w h. let p = b.others w h in let q = a.others w (down.sub x w h) in omega (arith, ints, p, q));
          within = below;
        };
        most = λ K s. lose_none dead F H K (refutes_falls (is_value x v)) left s;
      },
    )

stays_in : (F : Family) (x : ℕ) (lo hi v : ℤ) → x < length F → has F x v ≡ true → is_outside lo hi v ≡ true → has (cut_of F x lo hi) x v ≡ true
stays_in F x lo hi v l m o = subst (λ vs. member v vs ≡ true) (sym (cut_here F x lo hi l)) (member_filter (is_outside lo hi) (set_of F x) v m o)

from_here : (F : Family) (x : ℕ) (lo hi w : ℤ) → x < length F → has (cut_of F x lo hi) x w ≡ true → (has F x w ≡ true) × (is_outside lo hi w ≡ true)
from_here F x lo hi w l h = from_filter (is_outside lo hi) (set_of F x) w (subst (λ vs. member w vs ≡ true) (cut_here F x lo hi l) h)

cut_goes : (F : Family) (x : ℕ) (lo hi v : ℤ) → IsFamily F → x < length F → has F x v ≡ true → is_outside lo hi v ≡ true → IsLeftOf (refutes (is_value x v)) F (cut_of F x lo hi)
cut_goes F x lo hi v f l m o =
    runs_can_go (refutes (is_value x v)) F x lo hi (refutes_falls (is_value x v)) f l
    (λ w h i. dead_other F x v w f.full l (λ e. let q = subst (λ u. is_outside lo hi u ≡ false) e i in cc))
    (v, stays_in F x lo hi v l m o)

above_out : (lo hi v : ℤ) → hi +ℤ pos 1 ≡ v → is_outside lo hi v ≡ true
unfolding is_outside
above_out lo hi v e = elim (int_lt v lo) as (λ b. (b || int_lt hi v) ≡ true) [ true ↦ refl | false ↦ grind (arith, ints) ]

below_out : (lo hi v : ℤ) → v +ℤ pos 1 ≡ lo → is_outside lo hi v ≡ true
unfolding is_outside
below_out lo hi v e = grind (arith, ints)

out_low : (lo hi v w : ℤ) → hi +ℤ pos 1 ≡ v → lo ≤ℤ w → is_outside lo hi w ≡ true → v ≤ℤ w
unfolding is_outside
out_low lo hi v w e l o = grind (arith, ints)

out_high : (lo hi v w : ℤ) → v +ℤ pos 1 ≡ lo → w ≤ℤ hi → is_outside lo hi w ≡ true → w ≤ℤ v
unfolding is_outside
out_high lo hi v w e l o = grind (arith, ints)

-- a cut below v, and one above
pub record Cuts (x : ℕ) (v : ℤ) (passes : ℤ → Type 0) (F : Family) (lo hi : ℤ) : Type 0 where
  pub stays : (w : ℤ) × (has (cut_of F x lo hi) x w ≡ true)
  pub keeps : Keeps x v passes F (cut_of F x lo hi)

pub cuts_below : (F : Family) (x : ℕ) (v lo hi : ℤ) → IsFamily F → x < length F → has F x v ≡ true → IsLeast (set_of F x) lo → hi +ℤ pos 1 ≡ v → Cuts x v (λ w. v ≤ℤ w) F lo hi
cuts_below F x v lo hi f l m a e =
    let o = above_out lo hi v e in
    let s = stays_in F x lo hi v l m o in
    record {
      stays = (v, s);
      keeps = record {
        removals = cut_goes F x lo hi v f l m o;
        value = s;
        others = λ w h. let r = from_here F x lo hi w l h in out_low lo hi v w e (a.least w r.0) r.1;
      };
    }

pub cuts_above : (F : Family) (x : ℕ) (v lo hi : ℤ) → IsFamily F → x < length F → has F x v ≡ true → IsGreatest (set_of F x) hi → v +ℤ pos 1 ≡ lo → Cuts x v (λ w. w ≤ℤ v) F lo hi
cuts_above F x v lo hi f l m a e =
    let o = below_out lo hi v e in
    let s = stays_in F x lo hi v l m o in
    record {
      stays = (v, s);
      keeps = record {
        removals = cut_goes F x lo hi v f l m o;
        value = s;
        others = λ w h. let r = from_here F x lo hi w l h in out_high lo hi v w e (a.most w r.0) r.1;
      };
    }

pub none_below : (F : Family) (x : ℕ) (v lo : ℤ) → has F x v ≡ true → IsLeast (set_of F x) lo → v ≤ℤ lo → Keeps x v (λ w. v ≤ℤ w) F F
none_below F x v lo m a e = record { removals = left_self (refutes (is_value x v)) F; value = m; others = λ w h. let k = a.least w h in omega (arith, ints, k, e) }

pub none_above : (F : Family) (x : ℕ) (v hi : ℤ) → has F x v ≡ true → IsGreatest (set_of F x) hi → hi ≤ℤ v → Keeps x v (λ w. w ≤ℤ v) F F
none_above F x v hi m a e = record { removals = left_self (refutes (is_value x v)) F; value = m; others = λ w h. let k = a.most w h in omega (arith, ints, k, e) }

-- ---- a variable that has its value alone keeps it

value_is_one : (F : Family) (x : ℕ) (v w : ℤ) → x < length F → IsStable (refutes (is_value x v)) F → has F x w ≡ true → w ≡ v
value_is_one F x v w l s h = elim (int_eq w v) as (λ b. int_eq w v ≡ b → w ≡ v) [
  | true ↦ λ e. grind (arith, ints)
  | false ↦ λ e. absurd (let d = dead_other F x v w s.full l (λ q. let r = ap (λ u. int_eq u v) q in let t : int_eq v v ≡ true = grind (arith, ints) in cc) in let a = s.each x w l h in cc)
] refl

not_there : (F : Family) (x : ℕ) → length F ≤ x → set_of F x ≡ []
unfolding set_of
not_there [] x l = refl
not_there (vs ∷ F) zero l = absurd (omega arith)
not_there (vs ∷ F) (suc x) l = not_there F x (omega arith)

pub value_rests : (x : ℕ) (v : ℤ) (F G : Family) → IsStable (refutes (is_value x v)) F → Full G → Below G F → IsStable (refutes (is_value x v)) G
value_rests x v F G s g b = elim (cases_lt x (length F)) [
  | inl l ↦
      let k : x < length G = omega (arith, l, b.same) in
      let r = g x k in
      let one : (w : ℤ) → has G x w ≡ true → w ≡ v = λ w h. value_is_one F x v w l s (b.sub x w h) in
      single_stable G x v g k (subst (λ w. has G x w ≡ true) (one r.0 r.1) r.1) one
  | inr l ↦ stable_moves (is_value x v) F G s g b (λ y h. let e : y ≡ x = same_number x y h in subst (λ z. set_of G z ≡ set_of F z) (sym e) (not_there G x (omega (arith, l, b.same)) ∙ sym (not_there F x l)))
]
