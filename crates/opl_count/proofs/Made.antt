-- Filters of comparisons of counting sums, as they are made.
use Rattle.std.proofs.Common.{◌≡◌, ◌∙◌, ◌≢◌, ℕ, ◌+◌, ◌≤◌, Bool, true, false, cond, ◌&&◌, ◌||◌, refl, List, [], length, pos, ◌+ℤ◌, neg_ℤ, ap, sym, subst, arith}
use Rattle.std.specs.Prelude.{int_lt, nat_lt, slice_get, Option, Some, None}
use Rattle.std.proofs.lemmas.Int.{ints}
use Rattle.opl_domain.specs.Span.{Span}
use Rattle.opl_domain.specs.Family.{Family}
use Rattle.opl_expr.specs.declared.model.Core.{Core}
use Rattle.opl_expr.specs.declared.forms.Op.{Op}
use Rattle.opl_expr.specs.declared.forms.Op.TheVariants.{Eq, Ne, Lt, Le, Gt, Ge}
use Rattle.opl_expr.specs.declared.forms.Expr.{Expr}
use Rattle.opl_expr.specs.declared.forms.Cons.{Cons}
use Rattle.opl_expr.specs.declared.forms.Cons.TheVariants as C
use Rattle.opl_expr.specs.Forms.{Fact, fact, compared}
use Rattle.opl_expr.specs.Forms.Relation.{equal, at_most, below}
use Rattle.opl_expr.specs.Range.{pure}
use Rattle.opl_expr.specs.Sound.{IsSoundFact}
use Rattle.opl_expr.proofs.Plain.{fact_Cmp}
use Rattle.opl_filter.specs.Filtering.{refutes}
use Rattle.opl_linear.specs.Alternating.{either}
use Rattle.opl_range.specs.Between.{term_of, is_pure_between, CanCompare}
use Rattle.opl_reify.proofs.Carrying.{SaysTheSameWithin}
use Rattle.opl_count.specs.declared.sum.Literal.{Literal}
use Rattle.opl_count.specs.declared.sum.Costs.{Costs}
use Rattle.opl_count.specs.declared.sum.Tie.{Tie}
use Rattle.opl_count.specs.declared.sum.Sum.{Sum}
use Rattle.opl_count.specs.declared.count_filter.CountFilter.{CountFilter}
use Rattle.opl_count.specs.Costs.{prices, weights, HaveParts, is_over}
use Rattle.opl_count.specs.Sums.{AreTies, IsSum}
use Rattle.opl_count.specs.CountingSums.{Counts}
use Rattle.opl_count.specs.Readings.{excess, load, Reads, ReadsIf}
use Rattle.opl_count.specs.CountFilters.{IsDifference, IsSumOf, IsNothing, IsMadeIfAny, IsMadeBothIfAny, IsCountFor, IsCountIfAny, CountSides, IsMadeForSides}
use Rattle.opl_count.proofs.Prices.{the_one}
use Rattle.opl_count.proofs.Over.{over_excess, AreBare, at_most_refuted, below_refuted, equal_refuted}

-- ---- a sum

start_load : (n : ℕ) (ls : List Literal) (b : Bool) → ls ≡ [] → n ≡ cond b 1 0 → load (record { literals = ls; paid = n; room = 0 }) ≤ 1
start_load n ls true e h = let w = ap weights e in omega (arith, w, h)
start_load n ls false e h = let w = ap weights e in omega (arith, w, h)

start_excess : (core : Core) (F : Family) (n : ℕ) (ls : List Literal) (b : Bool) → ls ≡ [] → n ≡ cond b 1 0 → excess core (record { literals = ls; paid = n; room = 0 }) F ≡ pos (cond b 1 0)
start_excess core F n ls b e h = let w = ap (prices core F) e in let k = ap pos h in omega (arith, ints, w, k)

sum_made : (core : Core) (a b : Expr) (s : Bool) (ls : List Literal) (n : ℕ) (mid new : Costs) (ts : List Tie) → ls ≡ [] → n ≡ cond s 1 0 → Counts core a → Counts core b → Reads core false (term_of core a) (record { literals = ls; paid = n; room = 0 }) mid
    → Reads core true (term_of core b) mid new → AreTies new.literals ts → CanCompare core a b → IsSumOf core a b s (record { costs = new; ties = ts; first_place = None })
sum_made core a b s ls n mid new ts e h i j p q t can = record {
  made = record {
    made = record {
      parts = q.parts (p.parts (subst (HaveParts core) (sym e) tt));
      fits = omega (arith, p.load, q.load, start_load n ls s e h, can.0);
    };
    ties = t;
  };
  first = i;
  second = j;
  bare = p.bare;
  bare_second = q.bare;
  differences = λ F f.
      let x = p.ranges F f in
      let y = q.ranges F f in
      record {
        first = x.range;
        second = y.range;
        is_first = x.is;
        is_second = y.is;
        first_ordered = x.ordered;
        second_ordered = y.ordered;
        over = omega (arith, ints, x.more, y.more, start_excess core F n ls s e h);
      };
}

pub sum_read : (core : Core) (a b : Expr) (s : Bool) (ls : List Literal) (n : ℕ) (mid new : Costs) (xs : List Literal) (ts : List Tie) (r u : Bool) → ls ≡ [] → n ≡ cond s 1 0 → ReadsIf core false a (record { literals = ls; paid = n; room = 0 }) mid r → r ≡ true
    → ReadsIf core true b mid new u → u ≡ true → xs ≡ new.literals → AreTies xs ts → CanCompare core a b → IsSumOf core a b s (record { costs = new; ties = ts; first_place = None })
sum_read core a b s ls n mid new xs ts false u e h p k q l z t can = cc
sum_read core a b s ls n mid new xs ts true false e h p k q l z t can = cc
sum_read core a b s ls n mid new xs ts true true e h p k q l z t can = sum_made core a b s ls n mid new ts e h p.0 q.0 p.1 q.1 (subst (λ ys. AreTies ys ts) z t) can

-- ---- no costs

nothing_sum : (core : Core) (s : Sum) → IsNothing s → IsSum core s
nothing_sum core s n = record {
  made = record {
    parts = subst (HaveParts core) (sym n.literals) tt;
    fits = let w = ap weights n.literals in omega (arith, w, n.paid);
  };
  ties = record {
    same = ap length n.ties ∙ sym (ap length n.literals);
    each = λ i t h. let k : slice_get [] i ≡ Some t = ap (λ z. slice_get z i) (sym n.ties) ∙ h in cc;
  };
}

nothing_over : (core : Core) (s : Sum) (F : Family) → IsNothing s → is_over core s.costs F ≡ false
nothing_over core s F n = not_less s.costs.room (s.costs.paid + prices core F s.costs.literals) (let w = ap (prices core F) n.literals in omega (arith, w, n.paid, n.room))
  where
    not_less : (k m : ℕ) → m ≤ k → nat_lt k m ≡ false
    not_less k m h = grind arith

-- ---- comparisons

bare_of : (core : Core) (a b : Expr) (s : Bool) (x : Sum) (F : Family) → is_pure_between core a b ≡ false → IsSumOf core a b s x → (d : IsDifference core a b s x F) → AreBare F (term_of core a) (term_of core b) d.first d.second
bare_of core a b s x F m i d = record { first = i.bare; second = i.bare_second; mixed = m; first_range = d.is_first; second_range = d.is_second; first_ordered = d.first_ordered; second_ordered = d.second_ordered }

sum_over : (core : Core) (a b : Expr) (s : Bool) (x : Sum) (F : Family) → (d : IsDifference core a b s x F) → is_over core x.costs F ≡ int_lt (pos 0) (pos (cond s 1 0) +ℤ d.first.low +ℤ neg_ℤ d.second.high)
sum_over core a b s x F d = over_excess core x.costs F ∙ ap (int_lt (pos 0)) d.over

or_none : (b c : Bool) → c ≡ false → b ≡ (b || c)
or_none true c e = refl
or_none false c e = sym e

most_for : (core : Core) (a b : Expr) (f : CountFilter) → is_pure_between core a b ≡ false → IsSumOf core a b false f.first → IsNothing f.second → IsCountFor core (Fact.cmp at_most (term_of core a) (term_of core b)) f
most_for core a b f m i n = record {
  made = (i.made, nothing_sum core f.second n);
  same = λ F full.
      let d = i.differences F full in
      let z : pos 0 +ℤ d.first.low +ℤ neg_ℤ d.second.high ≡ d.first.low +ℤ neg_ℤ d.second.high = omega (arith, ints) in
      at_most_refuted F (term_of core a) (term_of core b) d.first d.second (bare_of core a b false f.first F m i d) ∙ sym (sum_over core a b false f.first F d ∙ ap (int_lt (pos 0)) z)
      ∙ or_none (is_over core f.first.costs F) (is_over core f.second.costs F) (nothing_over core f.second F n);
}

below_for : (core : Core) (a b : Expr) (f : CountFilter) → is_pure_between core a b ≡ false → IsSumOf core a b true f.first → IsNothing f.second → IsCountFor core (Fact.cmp below (term_of core a) (term_of core b)) f
below_for core a b f m i n = record {
  made = (i.made, nothing_sum core f.second n);
  same = λ F full.
      let d = i.differences F full in
      below_refuted F (term_of core a) (term_of core b) d.first d.second (bare_of core a b true f.first F m i d) ∙ sym (sum_over core a b true f.first F d)
      ∙ or_none (is_over core f.first.costs F) (is_over core f.second.costs F) (nothing_over core f.second F n);
}

equal_for : (core : Core) (a b : Expr) (f : CountFilter) → is_pure_between core a b ≡ false → IsSumOf core a b false f.first → IsSumOf core b a false f.second → IsCountFor core (Fact.cmp equal (term_of core a) (term_of core b)) f
equal_for core a b f m i j = record {
  made = (i.made, j.made);
  same = λ F full.
      let d = i.differences F full in
      let e = j.differences F full in
      let p = ap (λ (r : Span). r.low) (the_one e.first d.second (sym e.is_first ∙ d.is_second)) in
      let q = ap (λ (r : Span). r.high) (the_one e.second d.first (sym e.is_second ∙ d.is_first)) in
      let y : pos 0 +ℤ d.first.low +ℤ neg_ℤ d.second.high ≡ d.first.low +ℤ neg_ℤ d.second.high = omega (arith, ints) in
      let z : pos 0 +ℤ e.first.low +ℤ neg_ℤ e.second.high ≡ d.second.low +ℤ neg_ℤ d.first.high = omega (arith, ints, p, q) in
      equal_refuted F (term_of core a) (term_of core b) d.first d.second (bare_of core a b false f.first F m i d)
      ∙ ap (λ b. b || int_lt (pos 0) (d.second.low +ℤ neg_ℤ d.first.high)) (sym (sum_over core a b false f.first F d ∙ ap (int_lt (pos 0)) y))
      ∙ ap (λ b. is_over core f.first.costs F || b) (sym (sum_over core b a false f.second F e ∙ ap (int_lt (pos 0)) z));
}

and_turned : (x y : Bool) → (x && y) ≡ false → (y && x) ≡ false
and_turned true true e = cc
and_turned true false e = refl
and_turned false true e = refl
and_turned false false e = refl

mixed_turned : (core : Core) (a b : Expr) → is_pure_between core a b ≡ false → is_pure_between core b a ≡ false
mixed_turned core a b m = and_turned (pure (term_of core a)) (pure (term_of core b)) m

sides : (core : Core) (op o : Op) (a b : Expr) → op ≡ o → o ≢ Ne → Counts core a → Counts core b → is_pure_between core a b ≡ false → CountSides core op a b
sides core op o a b e n i j m = record { comparable = λ h. n (sym e ∙ h); first = i; second = j; mixed = m }

made_as : (core : Core) (op o : Op) (a b : Expr) (f : CountFilter) → op ≡ o → IsCountFor core (compared o (term_of core a) (term_of core b)) f → IsCountFor core (compared op (term_of core a) (term_of core b)) f
made_as core op o a b f e h = subst (λ z. IsCountFor core (compared z (term_of core a) (term_of core b)) f) (sym e) h

pub is_equal : (core : Core) (op : Op) (a b : Expr) → op ≡ Eq → is_pure_between core a b ≡ false → (x : Option CountFilter) → IsMadeBothIfAny core a b x → IsMadeForSides core op a b x
is_equal core op a b e m None h = λ s. h s.first s.second
is_equal core op a b e m (Some f) h = (sides core op Eq a b e (λ n. cc) h.0.first h.0.second m, made_as core op Eq a b f e (equal_for core a b f m h.0 h.1))

pub is_below : (core : Core) (op : Op) (a b : Expr) → op ≡ Lt → is_pure_between core a b ≡ false → (x : Option CountFilter) → IsMadeIfAny core a b true x → IsMadeForSides core op a b x
is_below core op a b e m None h = λ s. h s.first s.second
is_below core op a b e m (Some f) h = (sides core op Lt a b e (λ n. cc) h.0.first h.0.second m, made_as core op Lt a b f e (below_for core a b f m h.0 h.1))

pub is_at_most : (core : Core) (op : Op) (a b : Expr) → op ≡ Le → is_pure_between core a b ≡ false → (x : Option CountFilter) → IsMadeIfAny core a b false x → IsMadeForSides core op a b x
is_at_most core op a b e m None h = λ s. h s.first s.second
is_at_most core op a b e m (Some f) h = (sides core op Le a b e (λ n. cc) h.0.first h.0.second m, made_as core op Le a b f e (most_for core a b f m h.0 h.1))

pub is_above : (core : Core) (op : Op) (a b : Expr) → op ≡ Gt → is_pure_between core a b ≡ false → (x : Option CountFilter) → IsMadeIfAny core b a true x → IsMadeForSides core op a b x
is_above core op a b e m None h = λ s. h s.second s.first
is_above core op a b e m (Some f) h = (sides core op Gt a b e (λ n. cc) h.0.second h.0.first m, made_as core op Gt a b f e (below_for core b a f (mixed_turned core a b m) h.0 h.1))

pub is_at_least : (core : Core) (op : Op) (a b : Expr) → op ≡ Ge → is_pure_between core a b ≡ false → (x : Option CountFilter) → IsMadeIfAny core b a false x → IsMadeForSides core op a b x
is_at_least core op a b e m None h = λ s. h s.second s.first
is_at_least core op a b e m (Some f) h = (sides core op Ge a b e (λ n. cc) h.0.second h.0.first m, made_as core op Ge a b f e (most_for core b a f (mixed_turned core a b m) h.0 h.1))

-- ---- a constraint

compared_is : (core : Core) (c : Cons) (op : Op) (a b p q : Expr) → c ≡ C.Cmp op a b → p ≡ a → q ≡ b → fact core.tables core.resources c ≡ compared op (term_of core p) (term_of core q)
compared_is core c op a b p q e i j = ap (fact core.tables core.resources) (e ∙ ap (λ z. C.Cmp op z b) (sym i) ∙ ap (C.Cmp op p) (sym j)) ∙ fact_Cmp core.tables core.resources op p q

pub compared_sound : (core : Core) (c : Cons) (op : Op) (a b p q : Expr) → c ≡ C.Cmp op a b → p ≡ a → q ≡ b → IsSoundFact core.sets (fact core.tables core.resources c) → IsSoundFact core.sets (compared op (term_of core p) (term_of core q))
compared_sound core c op a b p q e i j s = subst (IsSoundFact core.sets) (compared_is core c op a b p q e i j) s

pub count_made : (core : Core) (c : Cons) (op : Op) (a b p q : Expr) → c ≡ C.Cmp op a b → p ≡ a → q ≡ b → (x : Option CountFilter) → IsMadeForSides core op p q x → IsCountIfAny core (fact core.tables core.resources c) x
count_made core c op a b p q e i j None h = tt
count_made core c op a b p q e i j (Some f) h = subst (λ d. IsCountFor core d f) (sym (compared_is core c op a b p q e i j)) h.1

-- ---- filtering

-- what holds of the two sums holds of the constraint
pub tests_read : (core : Core) (c : Fact) (f : CountFilter) (D : Family) → IsCountFor core c f → SaysTheSameWithin D (either (is_over core f.first.costs) (is_over core f.second.costs)) (refutes c)
tests_read core c f D i F full b = sym (i.same F full)
