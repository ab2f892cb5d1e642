-- Intervals that are made of others, as the code makes them.
use Rattle.std.proofs.Common.{◌≡◌, ℕ, Bool, true, false, ◌&&◌, ◌||◌, refl, List, [], ◌∷◌, ℤ, pos, ◌+ℤ◌, ◌*ℤ◌, neg_ℤ, ◌≤ℤ◌, ◌∙◌, arith}
use Rattle.std.proofs.lemmas.Int.{ints}
use Rattle.opl_domain.specs.Span.{Span, smaller, larger, point, is_point, hull_of, least_of, greatest_of}
use Rattle.opl_domain.specs.Arithmetic.{span_mul}
use Rattle.opl_domain.specs.Family.{Family, set_of, hull, IsLeast, IsGreatest}
use Rattle.opl_domain.proofs.Members.{least_member, least_is, greatest_member, greatest_is, between_is}
use Rattle.opl_expr.specs.Range.{flip, span_scale, same_truth, verdict}
use Rattle.opl_expr.proofs.Inside.{not_two_points}

smaller_four : (p q : ℤ) → smaller p (smaller q (smaller p q)) ≡ smaller p q
unfolding smaller
smaller_four p q = grind (arith, ints)

larger_four : (p q : ℤ) → larger p (larger q (larger p q)) ≡ larger p q
unfolding larger
larger_four p q = grind (arith, ints)

pub mul_point : (k : ℤ) (a : Span) → span_mul (point k) a ≡ span_scale k a
unfolding span_mul hull_of span_scale
mul_point k a = rw (smaller_four (k *ℤ a.low) (k *ℤ a.high), larger_four (k *ℤ a.low) (k *ℤ a.high)) refl

pub flip_is : (r a : Span) (l h : ℤ) → r ≡ record { low = l; high = h } → l ≡ pos 1 +ℤ neg_ℤ a.high → h ≡ pos 1 +ℤ neg_ℤ a.low → r ≡ flip a
unfolding flip
flip_is r a l h e p q = cc

pub same_truth_is : (a b : Span) → verdict ((is_point (pos 1) a && is_point (pos 1) b) || (is_point (pos 0) a && is_point (pos 0) b)) ((is_point (pos 1) a && is_point (pos 0) b) || (is_point (pos 0) a && is_point (pos 1) b)) ≡ same_truth a b
unfolding same_truth
same_truth_is a b = refl

apart : (p q r s : Bool) → (q ≡ true → p ≡ false) → (s ≡ true → r ≡ false) → ((p && r) || (q && s)) ≡ true → ((p && s) || (q && r)) ≡ false
apart true true r s h k e = let f = h refl in cc
apart true false true true h k e = let f = k refl in cc
apart true false true false h k e = refl
apart true false false s h k e = cc
apart false true r true h k e = let f : r ≡ false = k refl in rw f refl
apart false true r false h k e = cc
apart false false r s h k e = refl

pub truths_apart : (a b : Span) → ((is_point (pos 1) a && is_point (pos 1) b) || (is_point (pos 0) a && is_point (pos 0) b)) ≡ true → ((is_point (pos 1) a && is_point (pos 0) b) || (is_point (pos 0) a && is_point (pos 1) b)) ≡ false
truths_apart a b e = apart (is_point (pos 1) a) (is_point (pos 0) a) (is_point (pos 1) b) (is_point (pos 0) b) (not_two_points a) (not_two_points b) e

ends_are : (xs : List ℤ) (l h : ℤ) → IsLeast xs l → IsGreatest xs h → record { low = l; high = h } ≡ hull_of xs
unfolding hull_of
ends_are [] l h p q = let m = p.among in cc
ends_are (v ∷ xs) l h p q =
    rw (
      between_is (least_of v xs) l (least_is v xs l p.among) (p.least (least_of v xs) (least_member v xs)),
      between_is (greatest_of v xs) h (q.most (greatest_of v xs) (greatest_member v xs)) (greatest_is v xs h q.among),
    ) refl

pub hull_made : (F : Family) (x : ℕ) (r : Span) (l h : ℤ) → IsLeast (set_of F x) l → IsGreatest (set_of F x) h → r ≡ record { low = l; high = h } → r ≡ hull F x
unfolding hull
hull_made F x r l h p q e = e ∙ ends_are (set_of F x) l h p q

pub ends_ordered : (xs : List ℤ) (l h : ℤ) → IsLeast xs l → IsGreatest xs h → l ≤ℤ h
ends_ordered xs l h p q = p.least h q.among
