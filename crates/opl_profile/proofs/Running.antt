-- When an activity surely runs, by the ends of the sets of its start and its duration.
use Rattle.std.proofs.Common.{◌≡◌, ℕ, ◌<◌, Bool, true, false, ◌&&◌, refl, List, [], ◌∷◌, length, ℤ, pos, ◌+ℤ◌, neg_ℤ, ◌≤ℤ◌, ap, sym, ◌∙◌, arith}
use Rattle.std.specs.Prelude.{int_le, int_lt, not, Some}
use Rattle.std.proofs.lemmas.Int.{ints}
use Rattle.opl_domain.specs.Span.{Span, point, is_point, smaller, hull_of}
use Rattle.opl_domain.specs.Arithmetic.{span_add, span_neg, span_min}
use Rattle.opl_domain.specs.Family.{Family, member, set_of, IsLeast, IsGreatest}
use Rattle.opl_domain.proofs.Members.{greatest_member, greatest_is}
use Rattle.opl_domain.proofs.Sets.{hull_made}
use Rattle.opl_expr.specs.declared.tables.Use.{Use}
use Rattle.opl_expr.specs.Forms.{Term, Fact, plus}
use Rattle.opl_expr.specs.Forms.Relation.{at_most, below}
use Rattle.opl_expr.specs.Options.{lift}
use Rattle.opl_expr.specs.Range.{verdict, fact_range}
use Rattle.opl_trace.specs.Answers.{is_some_point}
use Rattle.opl_range.proofs.Demands.{started_is, not_ended_is}
use Rattle.opl_profile.specs.Activities.{surely_runs}

-- two verdicts are both sure
both_sure : (a b c d : Bool) → is_point (pos 1) (span_min (verdict a b) (span_min (verdict c d) (point (pos 1)))) ≡ ((a && not b) && (c && not d))
unfolding span_min smaller
both_sure true true true true = refl
both_sure true true true false = refl
both_sure true true false true = refl
both_sure true true false false = refl
both_sure true false true true = refl
both_sure true false true false = refl
both_sure true false false true = refl
both_sure true false false false = refl
both_sure false true true true = refl
both_sure false true true false = refl
both_sure false true false true = refl
both_sure false true false false = refl
both_sure false false true true = refl
both_sure false false true false = refl
both_sure false false false true = refl
both_sure false false false false = refl

-- what is sure is not impossible as well
not_both : (a b : Bool) → (a ≡ true → b ≡ false) → (a && not b) ≡ a
not_both true b h = ap not (h refl)
not_both false b h = refl

-- the ends of a set
pub record AreEnds (F : Family) (x : ℕ) (l h : ℤ) : Type 0 where
  pub least : IsLeast (set_of F x) l
  pub greatest : IsGreatest (set_of F x) h

ordered : (F : Family) (x : ℕ) (l h : ℤ) → AreEnds F x l h → l ≤ℤ h
ordered F x l h e = e.least.least h e.greatest.among

greatest_of_hull : (vs : List ℤ) (v : ℤ) → member v vs ≡ true → IsGreatest vs (hull_of vs).high
unfolding hull_of
greatest_of_hull [] v m = cc
greatest_of_hull (x ∷ xs) v m = record { among = greatest_member x xs; most = λ w n. greatest_is x xs w n }

-- a set with a least value has a greatest one
pub with_hull : (F : Family) (x : ℕ) (l : ℤ) → IsLeast (set_of F x) l → (h : ℤ) × AreEnds F x l h
with_hull F x l e = ((hull_of (set_of F x)).high, record { least = e; greatest = greatest_of_hull (set_of F x) l e.among })

started : (l h t : ℤ) → l ≤ℤ h → (int_le (h +ℤ neg_ℤ t) (pos 0) && not (int_lt (pos 0) (l +ℤ neg_ℤ t))) ≡ int_le h t
started l h t o =
    not_both (int_le (h +ℤ neg_ℤ t) (pos 0)) (int_lt (pos 0) (l +ℤ neg_ℤ t)) (λ e. grind (arith, ints))
    ∙ same_order h t
  where
    same_order : (h t : ℤ) → int_le (h +ℤ neg_ℤ t) (pos 0) ≡ int_le h t
    same_order h t = elim (int_le h t) as (λ b. int_le h t ≡ b → int_le (h +ℤ neg_ℤ t) (pos 0) ≡ b) [ true ↦ λ e. grind (arith, ints) | false ↦ λ e. grind (arith, ints) ] refl

not_ended : (l h t : ℤ) → l ≤ℤ h → (int_lt (t +ℤ neg_ℤ l) (pos 0) && not (int_le (pos 0) (t +ℤ neg_ℤ h))) ≡ int_lt t l
not_ended l h t o =
    not_both (int_lt (t +ℤ neg_ℤ l) (pos 0)) (int_le (pos 0) (t +ℤ neg_ℤ h)) (λ e. grind (arith, ints))
    ∙ same_order t l
  where
    same_order : (t l : ℤ) → int_lt (t +ℤ neg_ℤ l) (pos 0) ≡ int_lt t l
    same_order t l = elim (int_lt t l) as (λ b. int_lt t l ≡ b → int_lt (t +ℤ neg_ℤ l) (pos 0) ≡ b) [ true ↦ λ e. grind (arith, ints) | false ↦ λ e. grind (arith, ints) ] refl

started_as : (F : Family) (u : Use) (t sl sh : ℤ) → AreEnds F u.start sl sh → u.start < length F
    → Some (verdict (int_le (sh +ℤ neg_ℤ t) (pos 0)) (int_lt (pos 0) (sl +ℤ neg_ℤ t))) ≡ fact_range F (Fact.cmp at_most (Term.var u.start) (Term.const t))
unfolding span_add span_neg
started_as F u t sl sh s h =
    let start : Span = record { low = sl; high = sh } in
    started_is F u.start t start (span_neg (point t)) (span_add start (span_neg (point t))) (verdict (int_le (sh +ℤ neg_ℤ t) (pos 0)) (int_lt (pos 0) (sl +ℤ neg_ℤ t))) h (sym (hull_made F u.start sl sh s.least s.greatest)) refl refl refl

not_ended_as : (F : Family) (u : Use) (t sl sh dl dh : ℤ) → AreEnds F u.start sl sh → AreEnds F u.duration dl dh → u.start < length F → u.duration < length F
    → Some (verdict (int_lt (t +ℤ neg_ℤ (sl +ℤ dl)) (pos 0)) (int_le (pos 0) (t +ℤ neg_ℤ (sh +ℤ dh)))) ≡ fact_range F (Fact.cmp below (Term.const t) (plus (Term.var u.start) (Term.var u.duration)))
unfolding span_add span_neg
not_ended_as F u t sl sh dl dh s d h k =
    let start : Span = record { low = sl; high = sh } in
    let duration : Span = record { low = dl; high = dh } in
    let end = span_add start duration in
    not_ended_is F u.start u.duration t start duration end (span_neg end) (point t) (span_add (point t) (span_neg end)) (verdict (int_lt (t +ℤ neg_ℤ (sl +ℤ dl)) (pos 0)) (int_le (pos 0) (t +ℤ neg_ℤ (sh +ℤ dh)))) h k
    (sym (hull_made F u.start sl sh s.least s.greatest)) (sym (hull_made F u.duration dl dh d.least d.greatest)) refl refl refl refl refl

pub runs_surely : (F : Family) (u : Use) (t sl sh dl dh : ℤ) → AreEnds F u.start sl sh → AreEnds F u.duration dl dh → u.start < length F → u.duration < length F → (int_le sh t && int_lt t (sl +ℤ dl)) ≡ surely_runs F t u
runs_surely F u t sl sh dl dh s d h k =
    let a = int_le (sh +ℤ neg_ℤ t) (pos 0) in
    let b = int_lt (pos 0) (sl +ℤ neg_ℤ t) in
    let c = int_lt (t +ℤ neg_ℤ (sl +ℤ dl)) (pos 0) in
    let e = int_le (pos 0) (t +ℤ neg_ℤ (sh +ℤ dh)) in
    let o = ordered F u.start sl sh s in
    let p = ordered F u.duration dl dh d in
    ap (λ z. z && int_lt t (sl +ℤ dl)) (sym (started sl sh t o))
    ∙ ap (λ z. (a && not b) && z) (sym (not_ended (sl +ℤ dl) (sh +ℤ dh) t (omega (arith, ints, o, p))))
    ∙ sym (both_sure a b c e)
    ∙ ap (λ r. is_some_point (pos 1) (lift span_min r (lift span_min (Some (verdict c e)) (Some (point (pos 1)))))) (started_as F u t sl sh s h)
    ∙ ap (λ r. is_some_point (pos 1) (lift span_min (fact_range F (Fact.cmp at_most (Term.var u.start) (Term.const t))) (lift span_min r (Some (point (pos 1)))))) (not_ended_as F u t sl sh dl dh s d h k)
