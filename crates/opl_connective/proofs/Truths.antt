-- The truths of connectives whose parts are never undefined, where no set is empty.
use Rattle.std.proofs.Common.{◌≡◌, ◌∙◌, ◌⊎◌, Bool, true, false, ◌&&◌, ◌||◌, cond, refl, ℤ, pos, ◌≤ℤ◌, ap, subst, arith, inl, inr}
use Rattle.std.specs.Prelude.{Option, Some, None}
use Rattle.std.proofs.lemmas.Int.{ints}
use Rattle.opl_domain.specs.Span.{Span, smaller, larger, IsInside}
use Rattle.opl_domain.specs.Arithmetic.{span_min, span_max}
use Rattle.opl_domain.specs.Family.{Family, Full}
use Rattle.opl_expr.specs.Forms.{Fact, Facts}
use Rattle.opl_expr.specs.Options.{lift, lift1}
use Rattle.opl_expr.specs.Range.{verdict, flip, same_truth, is_possible, fact_range}
use Rattle.opl_expr.proofs.Narrower.{monotony}
use Rattle.opl_range.proofs.Weights.{fact_truth}
use Rattle.opl_trace.proofs.Families.{below_self}
use Rattle.opl_filter.specs.Filtering.{refutes}

-- ---- rows of truths

min_verdict : (s n u m : Bool) → span_min (verdict s n) (verdict u m) ≡ verdict (s && u) (n || m)
unfolding span_min smaller
min_verdict true true true true = refl
min_verdict true true true false = refl
min_verdict true true false true = refl
min_verdict true true false false = refl
min_verdict true false true true = refl
min_verdict true false true false = refl
min_verdict true false false true = refl
min_verdict true false false false = refl
min_verdict false true true true = refl
min_verdict false true true false = refl
min_verdict false true false true = refl
min_verdict false true false false = refl
min_verdict false false true true = refl
min_verdict false false true false = refl
min_verdict false false false true = refl
min_verdict false false false false = refl

max_verdict : (s n u m : Bool) → span_max (verdict s n) (verdict u m) ≡ verdict (s || u) (n && m)
unfolding span_max larger
max_verdict true true true true = refl
max_verdict true true true false = refl
max_verdict true true false true = refl
max_verdict true true false false = refl
max_verdict true false true true = refl
max_verdict true false true false = refl
max_verdict true false false true = refl
max_verdict true false false false = refl
max_verdict false true true true = refl
max_verdict false true true false = refl
max_verdict false true false true = refl
max_verdict false true false false = refl
max_verdict false false true true = refl
max_verdict false false true false = refl
max_verdict false false false true = refl
max_verdict false false false false = refl

flip_verdict : (s n : Bool) → flip (verdict s n) ≡ verdict n s
unfolding flip
flip_verdict true true = refl
flip_verdict true false = refl
flip_verdict false true = refl
flip_verdict false false = refl

same_verdict : (s n u m : Bool) → (s && n) ≡ false → (u && m) ≡ false → same_truth (verdict s n) (verdict u m) ≡ verdict ((s && u) || (n && m)) ((s && m) || (n && u))
unfolding same_truth
same_verdict true true u m p q = cc
same_verdict true false true true p q = cc
same_verdict true false true false p q = refl
same_verdict true false false true p q = refl
same_verdict true false false false p q = refl
same_verdict false true true true p q = cc
same_verdict false true true false p q = refl
same_verdict false true false true p q = refl
same_verdict false true false false p q = refl
same_verdict false false true true p q = cc
same_verdict false false true false p q = refl
same_verdict false false false true p q = refl
same_verdict false false false false p q = refl

and_apart : (s n u m : Bool) → (s && n) ≡ false → (u && m) ≡ false → ((s && u) && (n || m)) ≡ false
and_apart true true u m p q = cc
and_apart true false u m p q = q
and_apart false n u m p q = refl

or_apart : (s n u m : Bool) → (s && n) ≡ false → (u && m) ≡ false → ((s || u) && (n && m)) ≡ false
or_apart true true u m p q = cc
or_apart true false u m p q = refl
or_apart false true u m p q = q
or_apart false false true m p q = refl
or_apart false false false m p q = refl

not_apart : (s n : Bool) → (s && n) ≡ false → (n && s) ≡ false
not_apart true true p = cc
not_apart true false p = refl
not_apart false true p = refl
not_apart false false p = refl

same_apart : (s n u m : Bool) → (s && n) ≡ false → (u && m) ≡ false → (((s && u) || (n && m)) && ((s && m) || (n && u))) ≡ false
same_apart true true u m p q = cc
same_apart true false true true p q = cc
same_apart true false true false p q = refl
same_apart true false false m p q = refl
same_apart false true true true p q = cc
same_apart false true false true p q = refl
same_apart false true true false p q = refl
same_apart false true false false p q = refl
same_apart false false u m p q = refl

-- ---- truths

-- the constraint is surely so, or never, or open
pub record HasTruth (F : Family) (c : Fact) (surely never : Bool) : Type 0 where
  pub is : fact_range F c ≡ Some (verdict surely never)
  pub apart : (surely && never) ≡ false

possible_verdict : (s n : Bool) → (s && n) ≡ false → cond (is_possible (Some (verdict s n))) false true ≡ n
possible_verdict true true p = cc
possible_verdict true false p = refl
possible_verdict false true p = refl
possible_verdict false false p = refl

-- where it is never so, it is refuted
pub never_is : (F : Family) (c : Fact) (s n : Bool) → HasTruth F c s n → refutes c F ≡ n
never_is F c s n t = ap (λ r. cond (is_possible r) false true) t.is ∙ possible_verdict s n t.apart

pub not_truth : (F : Family) (c : Fact) (s n : Bool) → HasTruth F c s n → HasTruth F (Fact.not c) n s
not_truth F c s n t = record { is = ap (lift1 flip) t.is ∙ ap Some (flip_verdict s n); apart = not_apart s n t.apart }

-- where it is surely so, its opposite is refuted
pub surely_is : (F : Family) (c : Fact) (s n : Bool) → HasTruth F c s n → refutes (Fact.not c) F ≡ s
surely_is F c s n t = never_is F (Fact.not c) n s (not_truth F c s n t)

pub true_truth : (F : Family) → HasTruth F (Fact.and Facts.no_facts) true false
true_truth F = record { is = refl; apart = refl }

pub false_truth : (F : Family) → HasTruth F (Fact.or Facts.no_facts) false true
false_truth F = record { is = refl; apart = refl }

pub and_truth : (F : Family) (c : Fact) (cs : Facts) (s n u m : Bool) → HasTruth F c s n → HasTruth F (Fact.and cs) u m → HasTruth F (Fact.and (Facts.more_facts c cs)) (s && u) (n || m)
and_truth F c cs s n u m t w = record {
  is = ap (λ o. lift span_min o (fact_range F (Fact.and cs))) t.is ∙ ap (lift span_min (Some (verdict s n))) w.is ∙ ap Some (min_verdict s n u m);
  apart = and_apart s n u m t.apart w.apart;
}

pub or_truth : (F : Family) (c : Fact) (cs : Facts) (s n u m : Bool) → HasTruth F c s n → HasTruth F (Fact.or cs) u m → HasTruth F (Fact.or (Facts.more_facts c cs)) (s || u) (n && m)
or_truth F c cs s n u m t w = record {
  is = ap (λ o. lift span_max o (fact_range F (Fact.or cs))) t.is ∙ ap (lift span_max (Some (verdict s n))) w.is ∙ ap Some (max_verdict s n u m);
  apart = or_apart s n u m t.apart w.apart;
}

pub iff_truth : (F : Family) (c d : Fact) (s n u m : Bool) → HasTruth F c s n → HasTruth F d u m → HasTruth F (Fact.iff c d) ((s && u) || (n && m)) ((s && m) || (n && u))
iff_truth F c d s n u m t w = record {
  is = ap (λ o. lift same_truth o (fact_range F d)) t.is ∙ ap (lift same_truth (Some (verdict s n))) w.is ∙ ap Some (same_verdict s n u m t.apart w.apart);
  apart = same_apart s n u m t.apart w.apart;
}

-- ---- what is never undefined

-- the truth of a constraint, where it has one
pub record Truth (F : Family) (c : Fact) : Type 0 where
  pub surely : Bool
  pub never : Bool
  pub has : HasTruth F c surely never

bit : (i : ℤ) → pos 0 ≤ℤ i → i ≤ℤ pos 1 → (i ≡ pos 0) ⊎ (i ≡ pos 1)
bit i p q = grind (arith, ints)

span_is : (r : Span) (l h : ℤ) → r.low ≡ l → r.high ≡ h → r ≡ record { low = l; high = h }
span_is r l h p q = rw (p, q) refl

ordered : (F : Family) (c : Fact) (r : Span) → Full F → fact_range F c ≡ Some r → r.low ≤ℤ r.high
ordered F c r f e = subst (λ o. IsOrdered o) e (is_ordered (fact_range F c) (monotony.facts c F F f (below_self F)))
  where
    IsOrdered : Option Span → Type 0
    IsOrdered None = Unit {0}
    IsOrdered (Some a) = a.low ≤ℤ a.high

    is_ordered : (o : Option Span) → IsInside o o → IsOrdered o
    is_ordered None i = tt
    is_ordered (Some a) i = i.0.most

pub truth_of : (F : Family) (c : Fact) (r : Span) → Full F → fact_range F c ≡ Some r → Truth F c
truth_of F c r f e =
    let t = fact_truth F c r e in
    let o = ordered F c r f e in
    elim (bit r.low t.low_least t.low_most) [
      | inl l ↦ elim (bit r.high t.high_least t.high_most) [
        | inl h ↦ record { surely = false; never = true; has = record { is = e ∙ ap Some (span_is r (pos 0) (pos 0) l h); apart = refl } }
        | inr h ↦ record { surely = false; never = false; has = record { is = e ∙ ap Some (span_is r (pos 0) (pos 1) l h); apart = refl } }
      ]
      | inr l ↦ elim (bit r.high t.high_least t.high_most) [
        | inl h ↦ absurd (omega (arith, ints, l, h, o))
        | inr h ↦ record { surely = true; never = false; has = record { is = e ∙ ap Some (span_is r (pos 1) (pos 1) l h); apart = refl } }
      ]
    ]
