-- Expressions, as they are read as costs.
use Rattle.std.proofs.Common.{◌≡◌, ◌∙◌, ℕ, zero, suc, ◌+◌, ◌-◌, ◌*◌, ◌≤◌, ◌<◌, Bool, true, false, cond, not, refl, List, [], ◌∷◌, ◌++◌, map, length, get_or, drop, ℤ, pos, ◌+ℤ◌, ◌*ℤ◌, ◌≤ℤ◌, neg_ℤ, inl, inr, ap, sym, subst, arith}
use Rattle.std.specs.Prelude.{◌^◌, int_lt, unsigned_abs, slice_get, Option, Some, None}
use Rattle.std.proofs.lemmas.Int.{ints}
use Rattle.std.proofs.lemmas.Bool.{cases_eq}
use Rattle.opl_domain.specs.Span.{Span, point, is_point}
use Rattle.opl_domain.specs.Arithmetic.{span_add, span_neg}
use Rattle.opl_domain.specs.Family.{Family}
use Rattle.opl_expr.specs.declared.model.Core.{Core}
use Rattle.opl_expr.specs.declared.forms.Cons.{Cons}
use Rattle.opl_expr.specs.declared.forms.Expr.{Expr}
use Rattle.opl_expr.specs.declared.forms.Expr.TheVariants as E
use Rattle.opl_expr.specs.Forms.{Term, Terms, Fact, fact, terms_of, constant_value}
use Rattle.opl_expr.specs.Options.{lift, lift1}
use Rattle.opl_expr.specs.Range.{flip, span_scale, is_possible, rest, fact_range}
use Rattle.opl_expr.specs.Sound.{term_magnitude, sum_magnitude, IsSoundTerm, IsSoundFact}
use Rattle.opl_expr.proofs.Plain.{term_Const, term_Sum, term_Neg, term_Mul, term_Truth}
use Rattle.opl_range.specs.Between.{term_of}
use Rattle.opl_range.proofs.Parts.{product_left, product_right, part_before}
use Rattle.opl_range.proofs.Weights.{fact_truth}
use Rattle.opl_filter.specs.Filtering.{refutes}
use Rattle.opl_reify.specs.declared.part.Part.{Part}
use Rattle.opl_reify.specs.Parts.{signed, IsPartOf, IsPartIfAny}
use Rattle.opl_reify.specs.Literals.{IsLiteral, IsLiteralIfAny}
use Rattle.opl_count.specs.declared.sum.Literal.{Literal}
use Rattle.opl_count.specs.declared.sum.Costs.{Costs}
use Rattle.opl_count.specs.Costs.{price, prices, weights, HaveParts}
use Rattle.opl_count.specs.Readings.{excess, load, least_of, added, is_paid, is_turned, ReadsTruth, ReadsTruthIf, Reads, ReadsIf, ReadsMultipleIf, ReadAllIf}
use Rattle.opl_count.specs.CountingSums.{IsTruth, Counts}
use Rattle.opl_count.proofs.Prices.{the_one, within, at_place}
use Rattle.opl_count.proofs.Shapes.{a_truth, other_truth, only_truth, only_opposite, only_total, only_multiple}
use Rattle.opl_count.proofs.Ranges.{literal_ordered, one_of, refuted_point, low_price, high_price, scaled_least, scaled_ordered, is_below, not_below}

-- ---- one literal more

more_parts : (core : Core) (ls : List Literal) (l : Literal) → HaveParts core (l ∷ []) → HaveParts core ls → HaveParts core (ls ++ l ∷ [])
more_parts core [] l p a = p
more_parts core (m ∷ ls) l p a = (a.0, more_parts core ls l p a.1)

more_prices : (core : Core) (F : Family) (ls : List Literal) (l : Literal) → prices core F (ls ++ l ∷ []) ≡ prices core F ls + price core F l
more_prices core F [] l = omega arith
more_prices core F (m ∷ ls) l = omega (arith, more_prices core F ls l)

more_weights : (ls : List Literal) (l : Literal) → weights (ls ++ l ∷ []) ≡ weights ls + l.weight
more_weights [] l = omega arith
more_weights (m ∷ ls) l = omega (arith, more_weights ls l)

one_price : (core : Core) (F : Family) (c : Fact) (o : Bool) (l : Literal) (r : Span) → IsPartOf core (signed (not o) c) l.part → fact_range F c ≡ Some r → price core F l ≡ cond (refutes (signed (not o) c) F) l.weight 0
one_price core F c o l r p e = ap (λ x. cond (cond (is_possible x) false true) l.weight 0) (sym (p.same F))

-- what a truth makes to pay
pub truth_more : (core : Core) (F : Family) (c : Fact) (o : Bool) (l : Literal) (r : Span) → IsPartOf core (signed (not o) c) l.part → fact_range F c ≡ Some r → r.low ≤ℤ r.high → pos (price core F l) +ℤ neg_ℤ (pos (cond o l.weight 0)) ≡ pos l.weight *ℤ least_of o r
truth_more core F c false l r p e h =
    let t = one_of r (fact_truth F c r e) h in
    let q : price core F l ≡ cond (is_point (pos 0) (flip r)) l.weight 0 = one_price core F c false l r p e ∙ ap (λ b. cond b l.weight 0) (refuted_point F (Fact.not c) (flip r) (ap (lift1 flip) e)) in
    omega (arith, ints, ap pos q, low_price r l.weight t)
truth_more core F c true l r p e h =
    let t = one_of r (fact_truth F c r e) h in
    let q : price core F l ≡ cond (is_point (pos 0) r) l.weight 0 = one_price core F c true l r p e ∙ ap (λ b. cond b l.weight 0) (refuted_point F c r e) in
    omega (arith, ints, ap pos q, high_price r l.weight t)

excess_more : (p q w n m : ℕ) (x : ℤ) → q ≡ p + w → pos w +ℤ neg_ℤ (pos n) ≡ x → pos q +ℤ neg_ℤ (pos (m + n)) ≡ pos p +ℤ neg_ℤ (pos m) +ℤ x
excess_more p q w n m x e h = omega (arith, ints, e, h)

room_most : (o : Bool) (w : ℕ) → cond o w 0 ≤ w
room_most true w = omega arith
room_most false w = omega arith

truth_reads : (core : Core) (o : Bool) (w : ℕ) (c : Cons) (p : Part) (n : ℕ) (old : Costs) (ls : List Literal) (m : ℕ) → IsPartOf core (signed (not o) (fact core.tables core.resources c)) p → IsLiteral core n c
    → ls ≡ old.literals ++ (record { part = p; weight = w }) ∷ [] → m ≡ old.room + cond o w 0 → ReadsTruth core o w (fact core.tables core.resources c) old (record { literals = ls; paid = old.paid; room = m })
truth_reads core o w c p n old ls m y k e h =
    let l : Literal = record { part = p; weight = w } in
    record {
      parts = λ a. subst (HaveParts core) (sym e) (more_parts core old.literals l (y.part, tt) a);
      ranges = λ F f.
          let r = literal_ordered core F n c f k in
          let q : prices core F ls ≡ prices core F old.literals + price core F l = ap (prices core F) e ∙ more_prices core F old.literals l in
          record {
            range = r.range;
            is = r.is;
            ordered = r.ordered;
            more = ap (λ z. pos (old.paid + prices core F ls) +ℤ neg_ℤ (pos z)) h
                ∙ excess_more (old.paid + prices core F old.literals) (old.paid + prices core F ls) (price core F l) (cond o w 0) old.room (pos w *ℤ least_of o r.range) (omega (arith, q)) (truth_more core F (fact core.tables core.resources c) o l r.range y r.is r.ordered);
          };
      load = let s : weights ls ≡ weights old.literals + w = ap weights e ∙ more_weights old.literals l in omega (arith, s, h, room_most o w);
    }

pub truth_read : (core : Core) (o : Bool) (w : ℕ) (c : Cons) (p : Part) (x : Option Part) (old : Costs) (ls : List Literal) (m : ℕ) → x ≡ Some p → IsPartIfAny core (signed (not o) (fact core.tables core.resources c)) x → IsLiteralIfAny core c x
    → ls ≡ old.literals ++ (record { part = p; weight = w }) ∷ [] → m ≡ old.room + cond o w 0 → ReadsTruthIf core o w c old (record { literals = ls; paid = old.paid; room = m }) true
truth_read core o w c p x old ls m i y k e h =
    let a = subst (IsPartIfAny core (signed (not o) (fact core.tables core.resources c))) i y in
    let b = subst (IsLiteralIfAny core c) i k in
    (b, truth_reads core o w c p b.0 old ls m a b.1 e h)

-- ---- terms

number_more : (o b : Bool) (k : ℤ) (p m : ℕ) (q n : ℕ) → int_lt k (pos 0) ≡ b → q ≡ cond (cond b o (not o)) (p + unsigned_abs k) p → n ≡ cond (cond b o (not o)) m (m + unsigned_abs k)
    → pos q +ℤ neg_ℤ (pos n) ≡ pos p +ℤ neg_ℤ (pos m) +ℤ (pos 1 *ℤ least_of o (point k))
number_more true true k p m q n h e f = let l = is_below k h in omega (arith, ints, e, f, l)
number_more true false k p m q n h e f = let l = not_below k h in omega (arith, ints, e, f, l)
number_more false true k p m q n h e f = let l = is_below k h in omega (arith, ints, e, f, l)
number_more false false k p m q n h e f = let l = not_below k h in omega (arith, ints, e, f, l)

added_parts : (core : Core) (b : Bool) (n : ℕ) (c : Costs) → HaveParts core c.literals → HaveParts core (added b n c).literals
added_parts core true n c a = a
added_parts core false n c a = a

added_load : (b : Bool) (n : ℕ) (c : Costs) → load (added b n c) ≡ load c + n
added_load true n c = omega arith
added_load false n c = omega arith

added_excess : (core : Core) (F : Family) (b : Bool) (n : ℕ) (c : Costs) → excess core (added b n c) F ≡ pos (cond b (c.paid + prices core F c.literals + n) (c.paid + prices core F c.literals)) +ℤ neg_ℤ (pos (cond b c.room (c.room + n)))
added_excess core F true n c = omega (arith, ints)
added_excess core F false n c = refl

pub number_reads : (core : Core) (o : Bool) (k : ℤ) (old : Costs) → Reads core o (Term.const k) old (added (is_paid o k) (unsigned_abs k) old)
number_reads core o k old = record {
  bare = λ x. refl;
  parts = added_parts core (is_paid o k) (unsigned_abs k) old;
  ranges = λ F f. record {
    range = point k;
    is = refl;
    ordered = omega (arith, ints);
    more = added_excess core F (is_paid o k) (unsigned_abs k) old ∙ number_more o (int_lt k (pos 0)) k (old.paid + prices core F old.literals) old.room _ _ refl refl refl;
  };
  load = omega (arith, added_load (is_paid o k) (unsigned_abs k) old);
}

least_negated : (o : Bool) (r : Span) → least_of (not o) r ≡ least_of o (span_neg r)
unfolding span_neg
least_negated true r = omega (arith, ints)
least_negated false r = refl

negated_ordered : (r : Span) → r.low ≤ℤ r.high → (span_neg r).low ≤ℤ (span_neg r).high
unfolding span_neg
negated_ordered r h = omega (arith, ints, h)

pub negated_reads : (core : Core) (o : Bool) (t : Term) (old new : Costs) → Reads core (not o) t old new → Reads core o (Term.neg t) old new
negated_reads core o t old new h = record {
  bare = λ x. ap neg_ℤ (h.bare x);
  parts = h.parts;
  ranges = λ F f.
      let r = h.ranges F f in
      record {
        range = span_neg r.range;
        is = ap (lift1 span_neg) r.is;
        ordered = negated_ordered r.range r.ordered;
        more = r.more ∙ ap (λ z. excess core old F +ℤ (pos 1 *ℤ z)) (least_negated o r.range);
      };
  load = h.load;
}

pub truth_term : (core : Core) (o : Bool) (c : Fact) (old new : Costs) → ReadsTruth core o 1 c old new → Reads core o (Term.truth c) old new
truth_term core o c old new h = record { bare = λ x. refl; parts = h.parts; ranges = h.ranges; load = h.load }

pub multiple_reads : (core : Core) (o : Bool) (k : ℤ) (c : Fact) (old new : Costs) → ReadsTruth core (is_turned o k) (unsigned_abs k) c old new → Reads core o (Term.scale k (Term.truth c)) old new
multiple_reads core o k c old new h = record {
  bare = λ x. omega (arith, ints);
  parts = h.parts;
  ranges = λ F f.
      let r = h.ranges F f in
      let t = one_of r.range (fact_truth F c r.range r.is) r.ordered in
      let s = scaled_least o k r.range t in
      record {
        range = span_scale k r.range;
        is = ap (lift1 (span_scale k)) r.is;
        ordered = scaled_ordered k r.range t;
        more = omega (arith, ints, r.more, s);
      };
  load = omega (arith, h.load);
}

least_sum : (o : Bool) (a b : Span) → least_of o (span_add a b) ≡ least_of o a +ℤ least_of o b
unfolding span_add
least_sum true a b = omega (arith, ints)
least_sum false a b = refl

sum_ordered : (a b : Span) → a.low ≤ℤ a.high → b.low ≤ℤ b.high → (span_add a b).low ≤ℤ (span_add a b).high
unfolding span_add
sum_ordered a b h k = omega (arith, ints, h, k)

pub none_reads : (core : Core) (o : Bool) (old : Costs) → Reads core o (Term.sum Terms.no_terms) old old
none_reads core o old = record { bare = λ x. refl; parts = λ a. a; ranges = λ F f. record { range = point (pos 0); is = refl; ordered = omega (arith, ints); more = none_more o (excess core old F) }; load = omega arith }
  where
    none_more : (o : Bool) (x : ℤ) → x ≡ x +ℤ (pos 1 *ℤ least_of o (point (pos 0)))
    none_more true x = omega (arith, ints)
    none_more false x = omega (arith, ints)

pub more_reads : (core : Core) (o : Bool) (t : Term) (ts : Terms) (old mid new : Costs) → Reads core o (Term.sum ts) old mid → Reads core o t mid new → Reads core o (Term.sum (Terms.more_terms t ts)) old new
more_reads core o t ts old mid new h k = record {
  bare = λ x. omega (arith, ints, h.bare x, k.bare x);
  parts = λ a. k.parts (h.parts a);
  ranges = λ F f.
      let r = h.ranges F f in
      let s = k.ranges F f in
      let l = least_sum o s.range r.range in
      record {
        range = span_add s.range r.range;
        is = ap (λ x. lift span_add x (rest F (Term.sum ts))) s.is ∙ ap (lift span_add (Some s.range)) r.is;
        ordered = sum_ordered s.range r.range s.ordered r.ordered;
        more = omega (arith, ints, r.more, s.more, l);
      };
  load = omega (arith, h.load, k.load);
}

-- ---- as the code reads

pub room_with : (m w : ℕ) (o : Bool) → o ≡ true → m + w ≡ m + cond o w 0
room_with m w true h = refl
room_with m w false h = cc

pub room_without : (m w : ℕ) (o : Bool) → o ≡ false → m ≡ m + cond o w 0
room_without m w true h = cc
room_without m w false h = omega arith

truth_is : (core : Core) (e : Expr) (c d : Cons) → e ≡ E.Truth c → d ≡ c → term_of core e ≡ Term.truth (fact core.tables core.resources d)
truth_is core e c d i j = ap (term_of core) i ∙ term_Truth core.tables core.resources c ∙ ap (λ z. Term.truth (fact core.tables core.resources z)) (sym j)

pub truth_sound : (core : Core) (e : Expr) (c d : Cons) → e ≡ E.Truth c → d ≡ c → IsSoundTerm core.sets (term_of core e) → IsSoundFact core.sets (fact core.tables core.resources d)
truth_sound core e c d i j s = subst (IsSoundTerm core.sets) (truth_is core e c d i j) s

pub multiple_fits : (core : Core) (e : Expr) (c : Cons) (k : ℤ) (n l : ℕ) → e ≡ E.Truth c → n ≡ unsigned_abs k → l + 2 * term_magnitude core.sets (Term.scale k (term_of core e)) < 2 ^ 128 → l + 2 * n < 2 ^ 128
multiple_fits core e c k n l i j s =
    let t = subst (λ t. l + 2 * term_magnitude core.sets (Term.scale k t) < 2 ^ 128) (truth_is core e c c i refl) s in
    omega (arith, t, j)

pub multiple_read : (core : Core) (o : Bool) (k : ℤ) (e : Expr) (c d : Cons) (t : Bool) (n : ℕ) (old new : Costs) → e ≡ E.Truth c → d ≡ c → t ≡ is_turned o k → n ≡ unsigned_abs k → (b : Bool) → ReadsTruthIf core t n d old new b → ReadsMultipleIf core o k e old new b
multiple_read core o k e c d t n old new i j p q false h = other_truth core e c d i j h
multiple_read core o k e c d t n old new i j p q true h =
    let f = fact core.tables core.resources d in
    let r = subst (λ z. ReadsTruth core z (unsigned_abs k) f old new) p (subst (λ z. ReadsTruth core t z f old new) q h.1) in
    (a_truth core e c d i j h.0, subst (λ z. Reads core o (Term.scale k z) old new) (sym (truth_is core e c d i j)) (multiple_reads core o k f old new r))

pub truth_one : (core : Core) (o : Bool) (e : Expr) (c d : Cons) (old new : Costs) → e ≡ E.Truth c → d ≡ c → (b : Bool) → ReadsTruthIf core o 1 d old new b → ReadsIf core o e old new b
truth_one core o e c d old new i j false h = λ k. other_truth core e c d i j h (only_truth core e c i k)
truth_one core o e c d old new i j true h =
    (Counts.one e (a_truth core e c d i j h.0), subst (λ z. Reads core o z old new) (sym (truth_is core e c d i j)) (truth_term core o (fact core.tables core.resources d) old new h.1))

pub truth_fits : (core : Core) (e : Expr) (c : Cons) (l : ℕ) → e ≡ E.Truth c → l + 2 * term_magnitude core.sets (term_of core e) < 2 ^ 128 → l + 2 * 1 < 2 ^ 128
truth_fits core e c l i s = subst (λ t. l + 2 * term_magnitude core.sets t < 2 ^ 128) (truth_is core e c c i refl) s

-- numbers

number_is : (core : Core) (e : Expr) (k : ℤ) → e ≡ E.Const k → term_of core e ≡ Term.const k
number_is core e k i = ap (term_of core) i ∙ term_Const core.tables core.resources k

pub number_fits : (core : Core) (e : Expr) (k : ℤ) (n l : ℕ) → e ≡ E.Const k → n ≡ unsigned_abs k → l + 2 * term_magnitude core.sets (term_of core e) < 2 ^ 128 → l + n < 2 ^ 128
number_fits core e k n l i j s = let t = subst (λ t. l + 2 * term_magnitude core.sets t < 2 ^ 128) (number_is core e k i) s in omega (arith, t, j)

pub number_read : (core : Core) (o : Bool) (e : Expr) (k : ℤ) (b : Bool) (n : ℕ) (old new : Costs) → e ≡ E.Const k → b ≡ is_paid o k → n ≡ unsigned_abs k → new ≡ added b n old → ReadsIf core o e old new true
number_read core o e k b n old new i p q h =
    let s = subst (λ c. Reads core o (Term.const k) old c) (sym (h ∙ ap (λ z. added z n old) p ∙ ap (λ z. added (is_paid o k) z old) q)) (number_reads core o k old) in
    (Counts.number e k i, subst (λ z. Reads core o z old new) (sym (number_is core e k i)) s)

-- opposites

negated_is : (core : Core) (e a b : Expr) → e ≡ E.Neg a → b ≡ a → term_of core e ≡ Term.neg (term_of core b)
negated_is core e a b i j = ap (term_of core) i ∙ term_Neg core.tables core.resources a ∙ ap (λ z. Term.neg (term_of core z)) (sym j)

pub negated_fits : (core : Core) (e a b : Expr) (l : ℕ) → e ≡ E.Neg a → b ≡ a → l + 2 * term_magnitude core.sets (term_of core e) < 2 ^ 128 → l + 2 * term_magnitude core.sets (term_of core b) < 2 ^ 128
negated_fits core e a b l i j s = subst (λ t. l + 2 * term_magnitude core.sets t < 2 ^ 128) (negated_is core e a b i j) s

pub negated_read : (core : Core) (o : Bool) (e a b : Expr) (old new : Costs) → e ≡ E.Neg a → b ≡ a → (r : Bool) → ReadsIf core (not o) b old new r → ReadsIf core o e old new r
negated_read core o e a b old new i j false h = λ k. h (subst (Counts core) (sym j) (only_opposite core e a i k))
negated_read core o e a b old new i j true h =
    (Counts.opposite e b (i ∙ ap E.Neg (sym j)) h.0, subst (λ z. Reads core o z old new) (sym (negated_is core e a b i j)) (negated_reads core o (term_of core b) old new h.1))

-- multiples

left_is : (core : Core) (e a b p q : Expr) (k : ℤ) → e ≡ E.Mul a b → p ≡ a → q ≡ b → Some k ≡ constant_value (term_of core p) → term_of core e ≡ Term.scale k (term_of core q)
left_is core e a b p q k i j l f =
    ap (term_of core) i ∙ term_Mul core.tables core.resources a b ∙ product_left (term_of core a) (term_of core b) k (f ∙ ap (λ z. constant_value (term_of core z)) j) ∙ ap (λ z. Term.scale k (term_of core z)) (sym l)

right_is : (core : Core) (e a b p s q : Expr) (k : ℤ) → e ≡ E.Mul a b → p ≡ a → s ≡ a → q ≡ b → None ≡ constant_value (term_of core p) → Some k ≡ constant_value (term_of core q) → term_of core e ≡ Term.scale k (term_of core s)
right_is core e a b p s q k i j m l f g =
    ap (term_of core) i ∙ term_Mul core.tables core.resources a b
    ∙ product_right (term_of core a) (term_of core b) k (f ∙ ap (λ z. constant_value (term_of core z)) j) (g ∙ ap (λ z. constant_value (term_of core z)) l) ∙ ap (λ z. Term.scale k (term_of core z)) (sym m)

pub left_fits : (core : Core) (e a b p q : Expr) (k : ℤ) (l : ℕ) → e ≡ E.Mul a b → p ≡ a → q ≡ b → Some k ≡ constant_value (term_of core p) → l + 2 * term_magnitude core.sets (term_of core e) < 2 ^ 128 → l + 2 * term_magnitude core.sets (Term.scale k (term_of core q)) < 2 ^ 128
left_fits core e a b p q k l i j m f s = subst (λ t. l + 2 * term_magnitude core.sets t < 2 ^ 128) (left_is core e a b p q k i j m f) s

pub right_fits : (core : Core) (e a b p s q : Expr) (k : ℤ) (l : ℕ) → e ≡ E.Mul a b → p ≡ a → s ≡ a → q ≡ b → None ≡ constant_value (term_of core p) → Some k ≡ constant_value (term_of core q) → l + 2 * term_magnitude core.sets (term_of core e) < 2 ^ 128
    → l + 2 * term_magnitude core.sets (Term.scale k (term_of core s)) < 2 ^ 128
right_fits core e a b p s q k l i j m n f g h = subst (λ t. l + 2 * term_magnitude core.sets t < 2 ^ 128) (right_is core e a b p s q k i j m n f g) h

constant_of : (core : Core) (a p : Expr) (x : Option ℤ) → p ≡ a → x ≡ constant_value (term_of core p) → constant_value (term_of core a) ≡ x
constant_of core a p x j f = ap (λ z. constant_value (term_of core z)) (sym j) ∙ sym f

not_both : (o : Option ℤ) (k : ℤ) → o ≡ Some k → o ≡ None → ⊥
not_both o k e f = cc

pub left_read : (core : Core) (o : Bool) (e a b p q : Expr) (k : ℤ) (old new : Costs) → e ≡ E.Mul a b → p ≡ a → q ≡ b → Some k ≡ constant_value (term_of core p) → (r : Bool) → ReadsMultipleIf core o k q old new r → ReadsIf core o e old new r
left_read core o e a b p q k old new i j l f false h = λ c. elim (only_multiple core e a b i c) [
  | inl m ↦ h (subst (IsTruth core) (sym l) m.truth)
  | inr n ↦ not_both (constant_value (term_of core a)) k (constant_of core a p (Some k) j f) n.0
]
left_read core o e a b p q k old new i j l f true h = (
  Counts.multiple e a b i (record { number = k; is = constant_of core a p (Some k) j f; truth = subst (IsTruth core) l h.0 }),
  subst (λ z. Reads core o z old new) (sym (left_is core e a b p q k i j l f)) h.1,
)

pub right_read : (core : Core) (o : Bool) (e a b p s q : Expr) (k : ℤ) (old new : Costs) → e ≡ E.Mul a b → p ≡ a → s ≡ a → q ≡ b → None ≡ constant_value (term_of core p) → Some k ≡ constant_value (term_of core q) → (r : Bool) → ReadsMultipleIf core o k s old new r → ReadsIf core o e old new r
right_read core o e a b p s q k old new i j m l f g false h = λ c. elim (only_multiple core e a b i c) [
  | inl n ↦ not_both (constant_value (term_of core a)) n.number n.is (constant_of core a p None j f)
  | inr n ↦ h (subst (IsTruth core) (sym m) n.1.truth)
]
right_read core o e a b p s q k old new i j m l f g true h = (
  Counts.multiple_by e a b i (constant_of core a p None j f) (record { number = k; is = constant_of core b q (Some k) l g; truth = subst (IsTruth core) m h.0 }),
  subst (λ z. Reads core o z old new) (sym (right_is core e a b p s q k i j m l f g)) h.1,
)

pub product_counts : (core : Core) (e a b p q : Expr) → e ≡ E.Mul a b → p ≡ a → q ≡ b → None ≡ constant_value (term_of core p) → None ≡ constant_value (term_of core q) → Counts core e → ⊥
product_counts core e a b p q i j l f g c = elim (only_multiple core e a b i c) [
  | inl n ↦ not_both (constant_value (term_of core a)) n.number n.is (constant_of core a p None j f)
  | inr n ↦ not_both (constant_value (term_of core b)) n.1.number n.1.is (constant_of core b q None l g)
]

-- sums

sum_is : (core : Core) (e : Expr) (es ps : List Expr) → e ≡ E.Sum es → ps ≡ es → term_of core e ≡ Term.sum (terms_of (map (term_of core) ps))
sum_is core e es ps i j = ap (term_of core) i ∙ term_Sum core.tables core.resources es ∙ ap (λ z. Term.sum (terms_of (map (term_of core) z))) (sym j)

pub sum_fits : (core : Core) (e : Expr) (es ps : List Expr) (l : ℕ) → e ≡ E.Sum es → ps ≡ es → l + 2 * term_magnitude core.sets (term_of core e) < 2 ^ 128 → l + 2 * term_magnitude core.sets (Term.sum (terms_of (map (term_of core) ps))) < 2 ^ 128
sum_fits core e es ps l i j s = subst (λ t. l + 2 * term_magnitude core.sets t < 2 ^ 128) (sum_is core e es ps i j) s

pub sum_read : (core : Core) (o : Bool) (e : Expr) (es ps : List Expr) (old new : Costs) → e ≡ E.Sum es → ps ≡ es → (r : Bool) → ReadAllIf core o ps old new r → ReadsIf core o e old new r
sum_read core o e es ps old new i j false h = λ k. h (subst (λ z. (n : ℕ) (x : Expr) → slice_get z n ≡ Some x → Counts core x) (sym j) (only_total core e es i k))
sum_read core o e es ps old new i j true h =
    (Counts.total e ps (i ∙ ap E.Sum (sym j)) h.0, subst (λ z. Reads core o z old new) (sym (sum_is core e es ps i j)) h.1)

-- the expressions from place n on were read
pub record ReadFrom (core : Core) (o : Bool) (es : List Expr) (n : ℕ) (old new : Costs) : Type 0 where
  pub count : (i : ℕ) (x : Expr) → n ≤ i → slice_get es i ≡ Some x → Counts core x
  pub reads : Reads core o (Term.sum (terms_of (map (term_of core) (drop n es)))) old new

end_drop : {A : Type 0} (xs : List A) → [] ≡ drop (length xs) xs
end_drop [] = refl
end_drop (x ∷ xs) = end_drop xs

pub read_first : (core : Core) (o : Bool) (es : List Expr) (old : Costs) → ReadFrom core o es (length es) old old
read_first core o es old = record {
  count = λ i x l h. absurd (let w = within es i x h in omega (arith, l, w));
  reads = subst (λ z. Reads core o (Term.sum (terms_of (map (term_of core) z))) old old) (end_drop es) (none_reads core o old);
}

pub next_fits : (core : Core) (o : Bool) (es : List Expr) (n : ℕ) (x : Expr) (old mid : Costs) → 0 < n → n ≤ length es → x ≡ get_or es (n - 1) x → ReadFrom core o es n old mid
    → load old + 2 * term_magnitude core.sets (Term.sum (terms_of (map (term_of core) es))) < 2 ^ 128 → load mid + 2 * term_magnitude core.sets (term_of core x) < 2 ^ 128
next_fits core o es n x old mid p l e h s =
    let d = ap (λ z. sum_magnitude core.sets (terms_of (map (term_of core) z))) (part_before es n x p l e) in
    omega (arith, h.reads.load, s, d, magnitude_drop core es (n - 1))
  where
    magnitude_drop : (core : Core) (es : List Expr) (i : ℕ) → sum_magnitude core.sets (terms_of (map (term_of core) (drop i es))) ≤ sum_magnitude core.sets (terms_of (map (term_of core) es))
    magnitude_drop core [] zero = omega arith
    magnitude_drop core [] (suc i) = omega arith
    magnitude_drop core (x ∷ es) zero = omega arith
    magnitude_drop core (x ∷ es) (suc i) = omega (arith, magnitude_drop core es i)

pub read_next : (core : Core) (o : Bool) (es : List Expr) (n : ℕ) (x : Expr) (old mid new : Costs) → 0 < n → n ≤ length es → x ≡ get_or es (n - 1) x → ReadFrom core o es n old mid → (r : Bool) → ReadsIf core o x mid new r → r ≡ true → ReadFrom core o es (n - 1) old new
read_next core o es n x old mid new p l e h false k b = cc
read_next core o es n x old mid new p l e h true k b = record {
  count = λ i y m g. elim (cases_eq i (n - 1)) [
    | inl j ↦ subst (Counts core) (the_one x y (sym (at_place es (n - 1) x (omega (arith, p, l)) e) ∙ ap (slice_get es) (sym j) ∙ g)) k.0
    | inr d ↦ h.count i y (omega (arith, m, d)) g
  ];
  reads = subst (λ z. Reads core o (Term.sum (terms_of (map (term_of core) z))) old new) (sym (part_before es n x p l e)) (more_reads core o (term_of core x) (terms_of (map (term_of core) (drop n es))) old mid new h.reads k.1);
}

pub read_none : (core : Core) (o : Bool) (es : List Expr) (n : ℕ) (x : Expr) (mid new : Costs) → 0 < n → n ≤ length es → x ≡ get_or es (n - 1) x → (r : Bool) → ReadsIf core o x mid new r → r ≡ false → ((i : ℕ) (y : Expr) → slice_get es i ≡ Some y → Counts core y) → ⊥
read_none core o es n x mid new p l e true k b a = cc
read_none core o es n x mid new p l e false k b a = k (a (n - 1) x (at_place es (n - 1) x (omega (arith, p, l)) e))

pub read_whole : (core : Core) (o : Bool) (es : List Expr) (n : ℕ) (old new : Costs) → n ≤ 0 → ReadFrom core o es n old new → ReadAllIf core o es old new true
read_whole core o es n old new l h =
    let e : n ≡ 0 = omega (arith, l) in
    let k = subst (λ m. ReadFrom core o es m old new) e h in
    (λ i x g. k.count i x (omega arith) g, subst (λ z. Reads core o (Term.sum (terms_of (map (term_of core) z))) old new) (drop_none es) k.reads)
  where
    drop_none : {A : Type 0} (xs : List A) → drop 0 xs ≡ xs
    drop_none [] = refl
    drop_none (x ∷ xs) = refl
