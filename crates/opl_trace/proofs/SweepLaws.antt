-- Sweeps give the closure.
use Rattle.std.proofs.Common.{◌≡◌, ◌∙◌, ℕ, zero, suc, ◌≤◌, ◌<◌, ◌⊎◌, Bool, true, false, cond, ◌&&◌, refl, List, [], ◌∷◌, length, ℤ, inl, inr, ap, sym, subst, arith}
use Rattle.std.specs.Prelude.{not, Option, Some, None}
use Rattle.std.specs.List.{list_any, filter}
use Rattle.std.proofs.Math.Path.{fun_ext}
use Rattle.std.proofs.lemmas.Bool.{not-true}
use Rattle.opl_domain.specs.Family.{member, Family, set_of, has, only, Below}
use Rattle.opl_domain.proofs.Members.{member_cases, member_first, member_later}
use Rattle.opl_trace.specs.Stable.{IsMonotone, IsStable}
use Rattle.opl_trace.specs.Closure.{families, is_stable, is_in_stable, restrict, closure}
use Rattle.opl_trace.specs.Objective.{Objective}
use Rattle.opl_trace.specs.Run.{is_dead, closed}
use Rattle.opl_trace.specs.Marks.{searched, trace}
use Rattle.opl_trace.specs.Sweeps.{size, round, or_next, failed, sweeps, swept, swept_sets}
use Rattle.opl_trace.specs.SearchLaws.{SweepsClose, SweepsTrace}
use Rattle.opl_trace.proofs.Passing.{not_from_false}
use Rattle.opl_trace.proofs.Families.{has_at, only_full, only_below_only, filter_shorter, has_restrict, from_restrict, restrict_below, length-restrict}
use Rattle.opl_trace.proofs.StableFamilies.{spared_above, greatest_from_union}
use Rattle.opl_trace.proofs.Closures.{stable_is, stable_from, any_stable, union_is, in_stable_from}
use Rattle.opl_trace.proofs.Constraints.{dead_monotone}

-- ---- sizes

pub restrict_smaller : (keeps : ℕ → ℤ → Bool) (F : Family) → size (restrict keeps F) ≤ size F
restrict_smaller keeps [] = omega arith
restrict_smaller keeps (vs ∷ F) = omega (arith, filter_shorter (keeps zero) vs, restrict_smaller (λ x. keeps (suc x)) F)

filter_same : (p : ℤ → Bool) (vs : List ℤ) (v : ℤ) → length (filter p vs) ≡ length vs → member v vs ≡ true → p v ≡ true
filter_same p [] v h m = cc
filter_same p (w ∷ vs) v h m =
    elim (p w) as (λ b. p w ≡ b → length (cond b (w ∷ filter p vs) (filter p vs)) ≡ suc (length vs) → p v ≡ true) [
      | true ↦ λ e k. elim (member_cases v w vs m) [ inl s ↦ ap p s ∙ e | inr n ↦ filter_same p vs v (omega arith) n ]
      | false ↦ λ e k. absurd (omega (arith, filter_shorter p vs))
    ] refl h

pub restrict_same : (keeps : ℕ → ℤ → Bool) (F : Family) (x : ℕ) (v : ℤ) → size (restrict keeps F) ≡ size F → has F x v ≡ true → keeps x v ≡ true
unfolding set_of
restrict_same keeps [] x v h m = cc
restrict_same keeps (vs ∷ F) zero v h m = filter_same (keeps zero) vs v (omega (arith, filter_shorter (keeps zero) vs, restrict_smaller (λ y. keeps (suc y)) F)) m
restrict_same keeps (vs ∷ F) (suc x) v h m =
    restrict_same (λ y. keeps (suc y)) F x v (omega (arith, filter_shorter (keeps zero) vs, restrict_smaller (λ y. keeps (suc y)) F)) m

-- ---- restricting twice

filter_twice : (p q : ℤ → Bool) (vs : List ℤ) → filter q (filter p vs) ≡ filter (λ v. p v && q v) vs
filter_twice p q [] = refl
filter_twice p q (v ∷ vs) = elim (p v) as (λ b. filter q (cond b (v ∷ filter p vs) (filter p vs)) ≡ cond (b && q v) (v ∷ filter (λ w. p w && q w) vs) (filter (λ w. p w && q w) vs)) [
  | true ↦ rw (filter_twice p q vs) refl
  | false ↦ filter_twice p q vs
]

pub restrict_twice : (p q : ℕ → ℤ → Bool) (F : Family) → restrict q (restrict p F) ≡ restrict (λ x v. p x v && q x v) F
restrict_twice p q [] = refl
restrict_twice p q (vs ∷ F) = rw (filter_twice (p zero) (q zero) vs, restrict_twice (λ x. p (suc x)) (λ x. q (suc x)) F) refl

pub filter_all : (vs : List ℤ) → filter (λ v. true) vs ≡ vs
filter_all [] = refl
filter_all (v ∷ vs) = ap (λ ws. v ∷ ws) (filter_all vs)

pub restrict_all : (F : Family) → restrict (λ x v. true) F ≡ F
restrict_all [] = refl
restrict_all (vs ∷ F) = rw (filter_all vs, restrict_all F) refl

filter_alike : (p q : ℤ → Bool) (vs : List ℤ) → ((v : ℤ) → member v vs ≡ true → p v ≡ q v) → filter p vs ≡ filter q vs
filter_alike p q [] h = refl
filter_alike p q (v ∷ vs) h = rw (h v (member_first v vs), filter_alike p q vs (λ w m. h w (member_later w v vs m))) refl

restrict_alike : (p q : ℕ → ℤ → Bool) (F : Family) → ((x : ℕ) (v : ℤ) → has F x v ≡ true → p x v ≡ q x v) → restrict p F ≡ restrict q F
unfolding set_of
restrict_alike p q [] h = refl
restrict_alike p q (vs ∷ F) h = rw (filter_alike (p zero) (q zero) vs (h zero), restrict_alike (λ x. p (suc x)) (λ x. q (suc x)) F (λ x. h (suc x))) refl

-- ---- rounds

-- a stable family below F is below what a round leaves of it
round_keeps : (dead : Family → Bool) (F G : Family) → IsMonotone dead → IsStable dead G → Below G F → Below G (round dead F)
round_keeps dead F G m s b = record {
  sub = λ x v h.
      has_restrict (λ y w. not (dead (only F y w))) F x v (b.sub x v h)
      (not_from_false (dead (only F x v)) (spared_above dead (only G x v) (only F x v) m (only_full G x v s.full) (only_below_only G F x v b) (s.each x v (has_at G x v h) h)));
  same = let e = length-restrict (λ y w. not (dead (only F y w))) F in let i = b.same in cc;
}

-- a family above a stable one, of which a round leaves as many values, is stable
round_ends : (dead : Family → Bool) (F G : Family) → IsMonotone dead → IsStable dead G → Below G F → size (round dead F) ≡ size F → IsStable dead F
round_ends dead F G m s b e = record {
  full = λ x h. let r = s.full x (omega (arith, b.same)) in (r.0, b.sub x r.0 r.1);
  spared = spared_above dead G F m s.full b s.spared;
  each = λ x v h k. not-true (dead (only F x v)) (restrict_same (λ y w. not (dead (only F y w))) F x v e k);
}

-- ---- sweeps

-- C is stable, and has those values of F that pass a test
pub record IsPart (dead : Family → Bool) (F C : Family) : Type 0 where
  pub stable : IsStable dead C
  pub keeps : ℕ → ℤ → Bool
  pub is_kept : C ≡ restrict keeps F

part_self : (dead : Family → Bool) (F : Family) → is_stable dead F ≡ true → IsPart dead F F
part_self dead F e = record { stable = stable_is dead F e; keeps = λ x v. true; is_kept = sym (restrict_all F) }

sweeps_part : (dead : Family → Bool) (n : ℕ) (F C : Family) → sweeps dead n F ≡ Some C → IsPart dead F C
sweeps_part dead zero F C h =
    elim (is_stable dead F) as (λ b. is_stable dead F ≡ b → or_next b F failed F ≡ Some C → IsPart dead F C) [
      | true ↦ λ e k. let s : F ≡ C = cc in subst (λ G. IsPart dead F G) s (part_self dead F e)
      | false ↦ λ e k. cc
    ] refl h
sweeps_part dead (suc n) F C h =
    elim (is_stable dead F) as (λ b. is_stable dead F ≡ b → or_next b F (λ G. sweeps dead n (round dead G)) F ≡ Some C → IsPart dead F C) [
      | true ↦ λ e k. let s : F ≡ C = cc in subst (λ G. IsPart dead F G) s (part_self dead F e)
      | false ↦ λ e k.
          let r = sweeps_part dead n (round dead F) C k in
          record {
            stable = r.stable;
            keeps = λ x v. not (dead (only F x v)) && r.keeps x v;
            is_kept = r.is_kept ∙ restrict_twice (λ x v. not (dead (only F x v))) r.keeps F;
          }
    ] refl h

-- sweeps give a family above G
record Reaches (o : Option Family) (G : Family) : Type 0 where
  family : Family
  is : o ≡ Some family
  above : Below G family

pub is_less : (i j : ℕ) → i ≤ j → (i < j) ⊎ (i ≡ j)
is_less i j h = grind arith

round_less : (dead : Family → Bool) (F G : Family) → IsMonotone dead → IsStable dead G → Below G F → is_stable dead F ≡ false → size (round dead F) < size F
round_less dead F G m s b e = elim (is_less (size (round dead F)) (size F) (restrict_smaller (λ x v. not (dead (only F x v))) F)) [
  | inl l ↦ l
  | inr q ↦ let k = stable_from dead F (round_ends dead F G m s b q) in cc
]

sweeps_reach : (dead : Family → Bool) (n : ℕ) (F G : Family) → IsMonotone dead → size F ≤ n → IsStable dead G → Below G F → Reaches (sweeps dead n F) G
sweeps_reach dead zero F G m i s b =
    elim (is_stable dead F) as (λ c. is_stable dead F ≡ c → Reaches (or_next c F failed F) G) [
      | true ↦ λ e. record { family = F; is = refl; above = b }
      | false ↦ λ e. absurd (omega (arith, round_less dead F G m s b e))
    ] refl
sweeps_reach dead (suc n) F G m i s b =
    elim (is_stable dead F) as (λ c. is_stable dead F ≡ c → Reaches (or_next c F (λ H. sweeps dead n (round dead H)) F) G) [
      | true ↦ λ e. record { family = F; is = refl; above = b }
      | false ↦ λ e. sweeps_reach dead n (round dead F) G m (omega (arith, round_less dead F G m s b e)) s (round_keeps dead F G m s b)
    ] refl

pub same_tests : (b c : Bool) → (b ≡ true → c ≡ true) → (c ≡ true → b ≡ true) → b ≡ c
same_tests true c h k = sym (h refl)
same_tests false true h k = k refl
same_tests false false h k = refl

-- a part of D above all that is in stable families has just that
pub part_is : (dead : Family → Bool) (D C : Family) → IsMonotone dead → IsPart dead D C → Below (restrict (is_in_stable dead D) D) C → C ≡ restrict (is_in_stable dead D) D
part_is dead D C m p b =
    let below : Below C D = subst (λ G. Below G D) (sym p.is_kept) (restrict_below p.keeps D) in
    p.is_kept ∙ restrict_alike p.keeps (is_in_stable dead D) D (λ x v h.
    same_tests (p.keeps x v) (is_in_stable dead D x v)
    (λ k. in_stable_from dead D x v m (record {
      family = C;
      is_stable = record { stable = p.stable; within = below };
      value = subst (λ G. has G x v ≡ true) (sym p.is_kept) (has_restrict p.keeps D x v h k);
    }))
    (λ k. (from_restrict p.keeps D x v (subst (λ G. has G x v ≡ true) p.is_kept (b.sub x v (has_restrict (is_in_stable dead D) D x v h k)))).1))

-- where no family within D is stable, sweeps fail
none_swept : (dead : Family → Bool) (D : Family) (o : Option Family) → IsMonotone dead → list_any (is_stable dead) (families D) ≡ false → ((C : Family) → o ≡ Some C → IsPart dead D C) → o ≡ None
none_swept dead D None m e h = refl
none_swept dead D (Some C) m e h =
    let p = h C refl in
    let below : Below C D = subst (λ G. Below G D) (sym p.is_kept) (restrict_below p.keeps D) in
    let k = any_stable dead D C m (record { stable = p.stable; within = below }) in
    cc

pub sweeps_close : SweepsClose
unfolding closure swept
sweeps_close dead D m =
    elim (list_any (is_stable dead) (families D)) as (λ b. list_any (is_stable dead) (families D) ≡ b → sweeps dead (size D) D ≡ cond b (Some (restrict (is_in_stable dead D) D)) None) [
      | true ↦ λ e.
          let u = greatest_from_union dead D (restrict (is_in_stable dead D) D) m (union_is dead D m e) in
          let r = sweeps_reach dead (size D) D (restrict (is_in_stable dead D) D) m (omega arith) u.is_stable.stable u.is_stable.within in
          r.is ∙ ap (λ C. Some C) (part_is dead D r.family m (sweeps_part dead (size D) D r.family r.is) r.above)
      | false ↦ λ e. none_swept dead D (sweeps dead (size D) D) m e (sweeps_part dead (size D) D)
    ] refl

sets_swept : (goal : Option Objective) (D : Family) → swept_sets goal D ≡ closed goal D
unfolding closed
sets_swept goal D = fun_ext (λ P. fun_ext (λ b. sweeps_close (is_dead goal P b) D (dead_monotone goal P b)))

pub sweeps_trace : SweepsTrace
unfolding trace
sweeps_trace goal D section P n = ap (λ sets. searched goal sets (length D) section P None n) (sets_swept goal D)
