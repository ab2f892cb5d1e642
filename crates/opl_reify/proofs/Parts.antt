-- When a family refutes the disjunction of parts: where it refutes each.
use Rattle.std.proofs.Common.{◌≡◌, ◌∙◌, ◌≢◌, ℕ, zero, suc, Bool, true, false, cond, ◌&&◌, refl, List, [], ◌∷◌, length, ℤ, pos, ◌≤ℤ◌, ap, sym, subst, arith}
use Rattle.std.specs.Prelude.{slice_get, Some}
use Rattle.std.specs.List.{list_all}
use Rattle.std.specs.Ordering.{int_eq}
use Rattle.std.proofs.lemmas.Int.{ints}
use Rattle.opl_domain.specs.Span.{Span, larger, point, is_point}
use Rattle.opl_domain.specs.Arithmetic.{span_max}
use Rattle.opl_domain.specs.Family.{Family, Below, Full}
use Rattle.opl_expr.specs.declared.model.Core.{Core}
use Rattle.opl_expr.specs.declared.forms.Op.{Op}
use Rattle.opl_expr.specs.declared.forms.Op.TheVariants.{Eq, Ne, Lt, Le, Gt, Ge}
use Rattle.opl_expr.specs.Forms.{Term, Fact, compared}
use Rattle.opl_expr.specs.Forms.Relation.{equal, at_most, below}
use Rattle.opl_expr.specs.Options.{lift, lift1}
use Rattle.opl_expr.specs.Range.{flip, is_possible, compare, pure, fact_range}
use Rattle.opl_range.specs.Magnitudes.{IsTruth}
use Rattle.opl_range.proofs.Weights.{fact_truth}
use Rattle.opl_filter.specs.Filtering.{refutes}
use Rattle.opl_filter.proofs.Refuting.{refutes_falls}
use Rattle.opl_linear.proofs.Normal.{difference, difference_fixed, normal_range}
use Rattle.opl_reify.specs.declared.part.Part.{Part}
use Rattle.opl_reify.specs.Parts.{fact_in, IsPart, AreParts, any_of, IsRefutedAt}

-- ---- a comparison of linear sides is never undefined

compared_range : (F : Family) (op : Op) (a b : Term) → pure a ≡ true → pure b ≡ true → (r : Span) × (fact_range F (compared op a b) ≡ Some r)
compared_range F Eq a b p q = (compare equal F (difference a b) (length F) true (point (difference_fixed a b)), normal_range F equal a b p q)
compared_range F Ne a b p q = (flip (compare equal F (difference a b) (length F) true (point (difference_fixed a b))), ap (lift1 flip) (normal_range F equal a b p q))
compared_range F Lt a b p q = (compare below F (difference a b) (length F) true (point (difference_fixed a b)), normal_range F below a b p q)
compared_range F Le a b p q = (compare at_most F (difference a b) (length F) true (point (difference_fixed a b)), normal_range F at_most a b p q)
compared_range F Gt a b p q = (compare below F (difference b a) (length F) true (point (difference_fixed b a)), normal_range F below b a q p)
compared_range F Ge a b p q = (compare at_most F (difference b a) (length F) true (point (difference_fixed b a)), normal_range F at_most b a q p)

part_range : (core : Core) (F : Family) (p : Part) → IsPart core p → (r : Span) × (fact_range F (fact_in core p) ≡ Some r)
part_range core F p i =
    let f = i.filter in
    let r = compared_range F f.op f.left f.right f.comparison.first f.comparison.second in
    (r.0, ap (fact_range F) f.is ∙ r.1)

-- ---- the greater of two truths is 0 where both are

larger_zero : (i j : ℤ) → pos 0 ≤ℤ i → pos 0 ≤ℤ j → int_eq (larger i j) (pos 0) ≡ (int_eq i (pos 0) && int_eq j (pos 0))
unfolding larger
larger_zero i j p q = grind (arith, ints)

four : (a b c d : Bool) → cond (a && b) (c && d) false ≡ (cond a c false && cond b d false)
four true true true true = refl
four true true true false = refl
four true true false true = refl
four true true false false = refl
four true false true d = refl
four true false false d = refl
four false b c d = refl

max_zero : (a b : Span) → IsTruth a → IsTruth b → is_point (pos 0) (span_max a b) ≡ (is_point (pos 0) a && is_point (pos 0) b)
unfolding span_max
max_zero a b s t =
    rw (larger_zero a.low b.low s.low_least t.low_least, larger_zero a.high b.high s.high_least t.high_least)
    (four (int_eq a.low (pos 0)) (int_eq b.low (pos 0)) (int_eq a.high (pos 0)) (int_eq b.high (pos 0)))

twice_not : (b : Bool) → cond (cond b false true) false true ≡ b
twice_not true = refl
twice_not false = refl

refuted_point : (F : Family) (c : Fact) (r : Span) → fact_range F c ≡ Some r → refutes c F ≡ is_point (pos 0) r
refuted_point F c r e = ap (λ o. cond (is_possible o) false true) e ∙ twice_not (is_point (pos 0) r)

-- ---- all parts

-- whether the family refutes each part
abbrev pub all_refuted : Core → Family → List Part → Bool
all_refuted core F ps = list_all (λ p. refutes (fact_in core p) F) ps

record HasRange (core : Core) (F : Family) (ps : List Part) : Type 0 where
  range : Span
  is : fact_range F (any_of core ps) ≡ Some range
  zero : is_point (pos 0) range ≡ all_refuted core F ps

any_range : (core : Core) (F : Family) (ps : List Part) → AreParts core ps → HasRange core F ps
any_range core F [] a = record { range = point (pos 0); is = refl; zero = refl }
any_range core F (p ∷ ps) a =
    let r = part_range core F p a.0 in
    let t = any_range core F ps a.1 in
    record {
      range = span_max r.0 t.range;
      is = ap (λ o. lift span_max o (fact_range F (any_of core ps))) r.1 ∙ ap (lift span_max (Some r.0)) t.is;
      zero = max_zero r.0 t.range (fact_truth F (fact_in core p) r.0 r.1) (fact_truth F (any_of core ps) t.range t.is)
          ∙ ap (λ b. b && is_point (pos 0) t.range) (sym (refuted_point F (fact_in core p) r.0 r.1)) ∙ ap (λ b. refutes (fact_in core p) F && b) t.zero;
    }

pub any_refuted : (core : Core) (F : Family) (ps : List Part) → AreParts core ps → refutes (any_of core ps) F ≡ all_refuted core F ps
any_refuted core F ps a = let t = any_range core F ps a in refuted_point F (any_of core ps) t.range t.is ∙ t.zero

-- ---- by places

pub the_one : {A : Type 0} (a b : A) → Some a ≡ Some b → a ≡ b
the_one a b h = cc

pub part_at : (core : Core) (ps : List Part) (i : ℕ) (p : Part) → AreParts core ps → slice_get ps i ≡ Some p → IsPart core p
part_at core [] i p a h = cc
part_at core (q ∷ ps) zero p a h = subst (IsPart core) (the_one q p h) a.0
part_at core (q ∷ ps) (suc i) p a h = part_at core ps i p a.1 h

and_false : (b : Bool) → (b && false) ≡ false
and_false true = refl
and_false false = refl

and_true : (b : Bool) → (b && true) ≡ b
and_true true = refl
and_true false = refl

pub each_refuted : (core : Core) (F : Family) (ps : List Part) → ((i : ℕ) → IsRefutedAt core F ps i) → all_refuted core F ps ≡ true
each_refuted core F [] h = refl
each_refuted core F (p ∷ ps) h = rw (h zero p refl) (each_refuted core F ps (λ i. h (suc i)))

pub one_open : (core : Core) (F : Family) (ps : List Part) (i : ℕ) (p : Part) → slice_get ps i ≡ Some p → refutes (fact_in core p) F ≡ false → all_refuted core F ps ≡ false
one_open core F [] i p h o = cc
one_open core F (q ∷ ps) zero p h o = ap (λ z. refutes (fact_in core z) F && all_refuted core F ps) (the_one q p h) ∙ ap (λ b. b && all_refuted core F ps) o
one_open core F (q ∷ ps) (suc i) p h o = ap (λ b. refutes (fact_in core q) F && b) (one_open core F ps i p h o) ∙ and_false (refutes (fact_in core q) F)

pub one_left : (core : Core) (F : Family) (ps : List Part) (i : ℕ) (p : Part) → slice_get ps i ≡ Some p → ((j : ℕ) → j ≢ i → IsRefutedAt core F ps j) → all_refuted core F ps ≡ refutes (fact_in core p) F
one_left core F [] i p h o = cc
one_left core F (q ∷ ps) zero p h o =
    ap (λ z. refutes (fact_in core z) F && all_refuted core F ps) (the_one q p h)
    ∙ ap (λ b. refutes (fact_in core p) F && b) (each_refuted core F ps (λ j. o (suc j) (λ e. omega (arith, e)))) ∙ and_true (refutes (fact_in core p) F)
one_left core F (q ∷ ps) (suc i) p h o =
    ap (λ b. b && all_refuted core F ps) (o zero (λ e. omega (arith, e)) q refl) ∙ one_left core F ps i p h (λ j n. o (suc j) (λ e. n (omega (arith, e))))

-- ---- in narrower families

pub refuted_below : (core : Core) (F G : Family) (ps : List Part) (i : ℕ) → Full F → Below F G → IsRefutedAt core G ps i → IsRefutedAt core F ps i
refuted_below core F G ps i f b h p e = (refutes_falls (fact_in core p)).falls F G f b (h p e)
