-- The range of a constraint over two families that differ in a variable that it doesn't mention.
use Rattle.std.proofs.Common.{◌≡◌, ◌≢◌, ◌∙◌, ℕ, zero, suc, ◌<◌, ◌≤◌, Bool, true, false, ◌||◌, refl, List, [], ◌∷◌, ◌++◌, map, length, ℤ, pos, ◌+ℤ◌, ◌*ℤ◌, neg_ℤ, inl, inr, ap, sym, subst, arith, eqb}
use Rattle.std.specs.Prelude.{Option, Some, None, nat_eq}
use Rattle.std.specs.List.{list_any}
use Rattle.std.proofs.lemmas.Int.{ints}
use Rattle.std.proofs.lemmas.Bool.{cases_eq}
use Rattle.std.proofs.lemmas.Bool.Decides.{Decides-eqb}
use Rattle.opl_domain.specs.Span.{Span, point, hull_of}
use Rattle.opl_domain.specs.Arithmetic.{span_add, span_neg, span_mul, span_div, span_rem, span_abs, span_min, span_max, span_hull}
use Rattle.opl_domain.specs.Family.{member, Family, set_of, hull, only, Full}
use Rattle.opl_domain.proofs.Sets.{length-only, only_there}
use Rattle.opl_expr.specs.declared.tables.Table.{Table}
use Rattle.opl_expr.specs.declared.tables.Cell.{Cell}
use Rattle.opl_expr.specs.declared.tables.Cell.TheVariants as cell
use Rattle.opl_expr.specs.Forms.{Relation, Term, Terms, Fact, Facts}
use Rattle.opl_expr.specs.Forms.Relation.{equal, at_most, below}
use Rattle.opl_expr.specs.Options.{lift1, bind1, lift, bind, lift_all, lift_some, joined}
use Rattle.opl_expr.specs.Range.{verdict, flip, same_truth, is_possible, span_scale, Linear, constant, minus, weighted, with_variables, range_of_linear, has_zero, never_zero, compare, compare_of, taken, chosen, masks, look_up, cell_range, pairwise, defined_range, differ_range, coef, coefs, pure, ends, may_be, rest, linears, fact_range, fact_ranges}
use Rattle.opl_trace.proofs.Families.{only_full}
use Rattle.opl_filter.specs.Mentions.{cell_mentions, cells_mention, table_mentions, term_mentions, terms_mention, mentions, facts_mention}
use Rattle.opl_filter.specs.Fresh.{DifferAt}

pub neither : (a b : Bool) → (a || b) ≡ false → (a ≡ false) × (b ≡ false)
neither true b h = cc
neither false b h = (refl, h)

pub other_variable : (x y : ℕ) → nat_eq x y ≡ false → y ≢ x
other_variable x y h e = let k = (Decides-eqb x y).1 (sym e) in cc

-- ---- sums over the variables

zero_times : (k v : ℤ) → k ≡ pos 0 → k *ℤ v ≡ pos 0
zero_times k v h = subst (λ j. j *ℤ v ≡ pos 0) (sym h) (omega (arith, ints))

times_zero : (k : ℤ) → k *ℤ pos 0 ≡ pos 0
times_zero k = omega (arith, ints)

scale_zero : (k : ℤ) (a b : Span) → k ≡ pos 0 → span_scale k a ≡ span_scale k b
unfolding span_scale
scale_zero k a b h = rw (zero_times k a.low h, zero_times k a.high h, zero_times k b.low h, zero_times k b.high h) refl

hull_same : (F G : Family) (y : ℕ) → set_of F y ≡ set_of G y → hull F y ≡ hull G y
unfolding hull
hull_same F G y e = ap hull_of e

scaled_same : (x : ℕ) (F G : Family) → DifferAt x F G → (c : ℕ → ℤ) → c x ≡ pos 0 → (n : ℕ) → span_scale (c n) (hull F n) ≡ span_scale (c n) (hull G n)
scaled_same x F G d c h n = elim (cases_eq n x) [
  | inl e ↦ scale_zero (c n) (hull F n) (hull G n) (subst (λ y. c y ≡ pos 0) (sym e) h)
  | inr k ↦ ap (span_scale (c n)) (hull_same F G n (d.others n k))
]

weighted_same : (x : ℕ) (F G : Family) → DifferAt x F G → (c : ℕ → ℤ) → c x ≡ pos 0 → (n : ℕ) → weighted F c n ≡ weighted G c n
weighted_same x F G d c h zero = refl
weighted_same x F G d c h (suc n) =
    ap (λ s. span_add s (span_scale (c n) (hull F n))) (weighted_same x F G d c h n) ∙ ap (span_add (weighted G c n)) (scaled_same x F G d c h n)

-- ---- zeros by values

any_ext : (f g : ℤ → Bool) → ((v : ℤ) → f v ≡ g v) → (xs : List ℤ) → list_any f xs ≡ list_any g xs
any_ext f g h [] = refl
any_ext f g h (v ∷ xs) = ap (λ b. b || list_any f xs) (h v) ∙ ap (λ b. g v || b) (any_ext f g h xs)

none_false : (xs : List ℤ) → list_any (λ w. false) xs ≡ false
none_false [] = refl
none_false (v ∷ xs) = none_false xs

any_same_for_all : (b : Bool) (v : ℤ) (xs : List ℤ) → member v xs ≡ true → list_any (λ w. b) xs ≡ b
any_same_for_all b v [] h = cc
any_same_for_all true v (w ∷ xs) h = refl
any_same_for_all false v (w ∷ xs) h = none_false xs

nothing_added : (j k v : ℤ) → k ≡ pos 0 → j +ℤ (k *ℤ v) ≡ j
nothing_added j k v h = omega (arith, ints, zero_times k v h)

has_zero_same : (x : ℕ) (F G : Family) → DifferAt x F G → (c : ℕ → ℤ) → c x ≡ pos 0 → (n : ℕ) → n ≤ length F → (k : ℤ) → has_zero F c k n ≡ has_zero G c k n
has_zero_same x F G d c h zero b k = refl
has_zero_same x F G d c h (suc n) b k =
    let earlier : (j : ℤ) → has_zero F c j n ≡ has_zero G c j n = has_zero_same x F G d c h n (omega (arith, b)) in
    elim (cases_eq n x) [
      | inl e ↦
          let z : c n ≡ pos 0 = subst (λ y. c y ≡ pos 0) (sym e) h in
          let right : (v : ℤ) → has_zero G c (k +ℤ (c n *ℤ v)) n ≡ has_zero G c k n = λ v. ap (λ j. has_zero G c j n) (nothing_added k (c n) v z) in
          let r = d.first n (omega (arith, b)) in
          let s = d.second n (omega (arith, b, d.same)) in
          any_ext (λ v. has_zero F c (k +ℤ (c n *ℤ v)) n) (λ v. has_zero G c k n) (λ v. earlier (k +ℤ (c n *ℤ v)) ∙ right v) (set_of F n)
          ∙ (any_same_for_all (has_zero G c k n) r.0 (set_of F n) r.1
          ∙ (sym (any_same_for_all (has_zero G c k n) s.0 (set_of G n) s.1)
          ∙ sym (any_ext (λ v. has_zero G c (k +ℤ (c n *ℤ v)) n) (λ v. has_zero G c k n) right (set_of G n))))
      | inr o ↦
          any_ext (λ v. has_zero F c (k +ℤ (c n *ℤ v)) n) (λ v. has_zero G c (k +ℤ (c n *ℤ v)) n) (λ v. earlier (k +ℤ (c n *ℤ v))) (set_of F n)
          ∙ ap (list_any (λ v. has_zero G c (k +ℤ (c n *ℤ v)) n)) (d.others n o)
    ]

-- ---- comparisons

with_same : (x : ℕ) (F G : Family) → DifferAt x F G → (c : ℕ → ℤ) → c x ≡ pos 0 → (n : ℕ) (r : Span) → with_variables F c n r ≡ with_variables G c n r
unfolding with_variables
with_same x F G d c h n r = ap (span_add r) (weighted_same x F G d c h n)

never_same : (x : ℕ) (F G : Family) → DifferAt x F G → (c : ℕ → ℤ) → c x ≡ pos 0 → (n : ℕ) → n ≤ length F → (p : Bool) (r : Span) → never_zero F c n p r ≡ never_zero G c n p r
unfolding never_zero
never_same x F G d c h n b p r = rw (has_zero_same x F G d c h n b r.low, with_same x F G d c h n r) refl

compare_same : (rel : Relation) (x : ℕ) (F G : Family) → DifferAt x F G → (c : ℕ → ℤ) → c x ≡ pos 0 → (n : ℕ) → n ≤ length F → (p : Bool) (r : Span) → compare rel F c n p r ≡ compare rel G c n p r
unfolding compare
compare_same equal x F G d c h n b p r = rw (never_same x F G d c h n b p r, with_same x F G d c h n r) refl
compare_same at_most x F G d c h n b p r = rw (with_same x F G d c h n r) refl
compare_same below x F G d c h n b p r = rw (with_same x F G d c h n r) refl

compared_same : (rel : Relation) (x : ℕ) (F G : Family) → DifferAt x F G → (c : ℕ → ℤ) → c x ≡ pos 0 → (p : Bool) (r : Option Span) → lift1 (compare rel F c (length F) p) r ≡ lift1 (compare rel G c (length G) p) r
compared_same rel x F G d c h p None = refl
compared_same rel x F G d c h p (Some r) = ap Some (compare_same rel x F G d c h (length F) (omega arith) p r ∙ ap (λ n. compare rel G c n p r) d.same)

compare_of_same : (rel : Relation) (x : ℕ) (F G : Family) → DifferAt x F G → (e : Linear) → e.coef x ≡ pos 0 → compare_of rel F e ≡ compare_of rel G e
compare_of_same rel x F G d e h = compared_same rel x F G d e.coef h e.pure e.rest

ranged_same : (x : ℕ) (F G : Family) → DifferAt x F G → (c : ℕ → ℤ) → c x ≡ pos 0 → (r : Option Span) → lift1 (with_variables F c (length F)) r ≡ lift1 (with_variables G c (length G)) r
ranged_same x F G d c h None = refl
ranged_same x F G d c h (Some r) = ap Some (with_same x F G d c h (length F) r ∙ ap (λ n. with_variables G c n r) d.same)

-- ---- lists of linear forms

-- x has the coefficient 0 in each
AllFree : ℕ → List Linear → Type 0
AllFree x [] = Unit {0}
AllFree x (e ∷ es) = (e.coef x ≡ pos 0) × AllFree x es

map_free : {A : Type 0} (x : ℕ) (f g : Linear → A) → ((e : Linear) → e.coef x ≡ pos 0 → f e ≡ g e) → (es : List Linear) → AllFree x es → map f es ≡ map g es
unfolding AllFree
map_free x f g h [] a = refl
map_free x f g h (e ∷ es) a = ap (λ r. r ∷ map f es) (h e a.0) ∙ ap (λ rs. g e ∷ rs) (map_free x f g h es a.1)

-- ---- tables

map_ext : {A B : Type 0} (f g : A → B) → ((a : A) → f a ≡ g a) → (xs : List A) → map f xs ≡ map g xs
map_ext f g h [] = refl
map_ext f g h (a ∷ xs) = ap (λ r. r ∷ map f xs) (h a) ∙ ap (λ rs. g a ∷ rs) (map_ext f g h xs)

may_same : (x : ℕ) (F G : Family) → DifferAt x F G → (e : Linear) → e.coef x ≡ pos 0 → (i : ℤ) → may_be F e i ≡ may_be G e i
may_same x F G d e h i = ap is_possible (compare_of_same equal x F G d (minus e (constant i)) (subst (λ k. k +ℤ neg_ℤ (pos 0) ≡ pos 0) (sym h) refl))

masks_same : (x : ℕ) (F G : Family) → DifferAt x F G → (dims : List (List ℤ)) (es : List Linear) → AllFree x es → masks (may_be F) dims es ≡ masks (may_be G) dims es
unfolding AllFree
masks_same x F G d [] es a = refl
masks_same x F G d (dim ∷ dims) [] a = refl
masks_same x F G d (dim ∷ dims) (e ∷ es) a =
    ap (λ m. m ∷ masks (may_be F) dims es) (map_ext (may_be F e) (may_be G e) (may_same x F G d e a.0) dim) ∙ ap (λ ms. map (may_be G e) dim ∷ ms) (masks_same x F G d dims es a.1)

cell_same : (x : ℕ) (F G : Family) → DifferAt x F G → (c : Cell) → cell_mentions c x ≡ false → cell_range F c ≡ cell_range G c
cell_same x F G d (cell.Const k) h = refl
cell_same x F G d (cell.Var y) h = hull_same F G y (d.others y (other_variable x y h))

cells_same : (x : ℕ) (F G : Family) → DifferAt x F G → (bs : List Bool) (cells : List Cell) → cells_mention cells x ≡ false → map (cell_range F) (chosen bs cells) ≡ map (cell_range G) (chosen bs cells)
cells_same x F G d [] cells h = refl
cells_same x F G d (b ∷ bs) [] h = refl
cells_same x F G d (true ∷ bs) (c ∷ cells) h =
    let n = neither (cell_mentions c x) (cells_mention cells x) h in
    ap (λ r. r ∷ map (cell_range F) (chosen bs cells)) (cell_same x F G d c n.0) ∙ ap (λ rs. cell_range G c ∷ rs) (cells_same x F G d bs cells n.1)
cells_same x F G d (false ∷ bs) (c ∷ cells) h = cells_same x F G d bs cells (neither (cell_mentions c x) (cells_mention cells x) h).1

look_same : (x : ℕ) (F G : Family) → DifferAt x F G → (table : Option Table) → table_mentions table x ≡ false → (es : List Linear) → AllFree x es → look_up (may_be F) (cell_range F) span_hull table es ≡ look_up (may_be G) (cell_range G) span_hull table es
look_same x F G d None h es a = refl
look_same x F G d (Some t) h es a =
    ap (joined span_hull)
    (ap (λ ms. map (cell_range F) (chosen (taken ms) t.cells)) (masks_same x F G d t.dims es a) ∙ cells_same x F G d (taken (masks (may_be G) t.dims es)) t.cells h)

-- ---- pairs

difference_none : (j k : ℤ) → j ≡ pos 0 → k ≡ pos 0 → j +ℤ neg_ℤ k ≡ pos 0
difference_none j k h i = ap (λ l. l +ℤ neg_ℤ k) h ∙ ap (λ l. pos 0 +ℤ neg_ℤ l) i

differ_same : (x : ℕ) (F G : Family) → DifferAt x F G → (d e : Linear) → d.coef x ≡ pos 0 → e.coef x ≡ pos 0 → differ_range F d e ≡ differ_range G d e
differ_same x F G a d e h i = ap (lift1 flip) (compare_of_same equal x F G a (minus d e) (difference_none (d.coef x) (e.coef x) h i))

pairs_same : (x : ℕ) (F G : Family) → DifferAt x F G → (es : List Linear) → AllFree x es → pairwise defined_range (differ_range F) es ≡ pairwise defined_range (differ_range G) es
unfolding AllFree
pairs_same x F G d [] a = refl
pairs_same x F G d (e ∷ es) a =
    ap (λ rs. defined_range e ∷ (rs ++ pairwise defined_range (differ_range F) es)) (map_free x (differ_range F e) (differ_range G e) (λ l h. differ_same x F G d e l a.0 h) es a.1)
    ∙ ap (λ rs. defined_range e ∷ (map (differ_range G e) es ++ rs)) (pairs_same x F G d es a.1)

-- ---- coefficients

mutual
  coef_free : (x : ℕ) (t : Term) → term_mentions t x ≡ false → coef t x ≡ pos 0
  coef_free x (Term.const k) h = refl
  coef_free x (Term.var y) h = rw h refl
  coef_free x (Term.sum ts) h = coefs_free x ts h
  coef_free x (Term.neg t) h = ap neg_ℤ (coef_free x t h)
  coef_free x (Term.scale k t) h = ap (λ j. k *ℤ j) (coef_free x t h) ∙ times_zero k
  coef_free x (Term.mul s t) h = refl
  coef_free x (Term.div s t) h = refl
  coef_free x (Term.rem s t) h = refl
  coef_free x (Term.abs t) h = refl
  coef_free x (Term.least ts) h = refl
  coef_free x (Term.greatest ts) h = refl
  coef_free x (Term.at table ts) h = refl
  coef_free x (Term.truth c) h = refl
  coef_free x (Term.asked ask y) h = refl

  coefs_free : (x : ℕ) (ts : Terms) → terms_mention ts x ≡ false → coefs ts x ≡ pos 0
  coefs_free x Terms.no_terms h = refl
  coefs_free x (Terms.more_terms t ts) h =
      let n = neither (term_mentions t x) (terms_mention ts x) h in
      ap (λ k. k +ℤ coefs ts x) (coef_free x t n.0) ∙ ap (λ k. pos 0 +ℤ k) (coefs_free x ts n.1)

linears_free : (x : ℕ) (F : Family) (ts : Terms) → terms_mention ts x ≡ false → AllFree x (linears F ts)
unfolding AllFree
linears_free x F Terms.no_terms h = tt
linears_free x F (Terms.more_terms t ts) h =
    let n = neither (term_mentions t x) (terms_mention ts x) h in
    (coef_free x t n.0, linears_free x F ts n.1)

-- ---- all rows

-- the linear form of an expression, by its rest
abbrev linear : Term → Option Span → Linear
linear t r = record { coef = coef t; pure = pure t; rest = r }

difference_free : (x : ℕ) (s t : Term) → term_mentions s x ≡ false → term_mentions t x ≡ false → coef s x +ℤ neg_ℤ (coef t x) ≡ pos 0
difference_free x s t h k = difference_none (coef s x) (coef t x) (coef_free x s h) (coef_free x t k)

both : {A B C : Type 0} (f : A → B → C) (a a' : A) (b b' : B) → a ≡ a' → b ≡ b' → f a b ≡ f a' b'
both f a a' b b' p q = ap (λ y. f y b) p ∙ ap (f a') q

module _ (x : ℕ) (F G : Family) (d : DifferAt x F G) where
  ends_same : (t : Term) → term_mentions t x ≡ false → (r r' : Option Span) → r ≡ r' → ends F t r ≡ ends G t r'
  ends_same t h r r' e = ranged_same x F G d (coef t) (coef_free x t h) r ∙ ap (ends G t) e

  ranges_same : (ts : Terms) → terms_mention ts x ≡ false → (es : List Linear) → es ≡ linears G ts → map (range_of_linear F) es ≡ map (range_of_linear G) (linears G ts)
  ranges_same ts h es e =
      ap (map (range_of_linear F)) e
      ∙ map_free x (range_of_linear F) (range_of_linear G) (λ l k. ranged_same x F G d l.coef k l.rest) (linears G ts) (linears_free x G ts h)

  mutual
    rest_same : (t : Term) → term_mentions t x ≡ false → rest F t ≡ rest G t
    rest_same (Term.const k) h = refl
    rest_same (Term.var y) h = refl
    rest_same (Term.sum ts) h = ap (λ es. lift_all span_add (point (pos 0)) (map (λ (e : Linear). e.rest) es)) (linears_same ts h)
    rest_same (Term.neg t) h = ap (lift1 span_neg) (rest_same t h)
    rest_same (Term.scale k t) h = ap (lift1 (span_scale k)) (rest_same t h)
    rest_same (Term.mul s t) h =
        let n = neither (term_mentions s x) (term_mentions t x) h in
        both (lift span_mul) (ends F s (rest F s)) (ends G s (rest G s)) (ends F t (rest F t)) (ends G t (rest G t)) (ends_same s n.0 (rest F s) (rest G s) (rest_same s n.0)) (ends_same t n.1 (rest F t) (rest G t) (rest_same t n.1))
    rest_same (Term.div s t) h =
        let n = neither (term_mentions s x) (term_mentions t x) h in
        both (bind span_div) (ends F s (rest F s)) (ends G s (rest G s)) (ends F t (rest F t)) (ends G t (rest G t)) (ends_same s n.0 (rest F s) (rest G s) (rest_same s n.0)) (ends_same t n.1 (rest F t) (rest G t) (rest_same t n.1))
    rest_same (Term.rem s t) h =
        let n = neither (term_mentions s x) (term_mentions t x) h in
        both (bind span_rem) (ends F s (rest F s)) (ends G s (rest G s)) (ends F t (rest F t)) (ends G t (rest G t)) (ends_same s n.0 (rest F s) (rest G s) (rest_same s n.0)) (ends_same t n.1 (rest F t) (rest G t) (rest_same t n.1))
    rest_same (Term.abs t) h = ap (bind1 span_abs) (ends_same t h (rest F t) (rest G t) (rest_same t h))
    rest_same (Term.least ts) h = ap (lift_some span_min) (ranges_same ts h (linears F ts) (linears_same ts h))
    rest_same (Term.greatest ts) h = ap (lift_some span_max) (ranges_same ts h (linears F ts) (linears_same ts h))
    rest_same (Term.at table ts) h =
        let n = neither (table_mentions table x) (terms_mention ts x) h in
        ap (look_up (may_be F) (cell_range F) span_hull table) (linears_same ts n.1) ∙ look_same x F G d table n.0 (linears G ts) (linears_free x G ts n.1)
    rest_same (Term.truth c) h = fact_same c h
    rest_same (Term.asked ask y) h = refl

    linears_same : (ts : Terms) → terms_mention ts x ≡ false → linears F ts ≡ linears G ts
    linears_same Terms.no_terms h = refl
    linears_same (Terms.more_terms t ts) h =
        let n = neither (term_mentions t x) (terms_mention ts x) h in
        ap (λ r. linear t r ∷ linears F ts) (rest_same t n.0) ∙ ap (λ es. linear t (rest G t) ∷ es) (linears_same ts n.1)

    pub fact_same : (c : Fact) → mentions c x ≡ false → fact_range F c ≡ fact_range G c
    fact_same (Fact.fixed b) h = refl
    fact_same (Fact.cmp rel s t) h =
        let n = neither (term_mentions s x) (term_mentions t x) h in
        both (λ r q. compare_of rel F (minus (linear s r) (linear t q))) (rest F s) (rest G s) (rest F t) (rest G t) (rest_same s n.0) (rest_same t n.1)
        ∙ compare_of_same rel x F G d (minus (linear s (rest G s)) (linear t (rest G t))) (difference_free x s t n.0 n.1)
    fact_same (Fact.and cs) h = ap (lift_all span_min (point (pos 1))) (facts_same cs h)
    fact_same (Fact.or cs) h = ap (lift_all span_max (point (pos 0))) (facts_same cs h)
    fact_same (Fact.iff a b) h =
        let n = neither (mentions a x) (mentions b x) h in
        both (lift same_truth) (fact_range F a) (fact_range G a) (fact_range F b) (fact_range G b) (fact_same a n.0) (fact_same b n.1)
    fact_same (Fact.not c) h = ap (lift1 flip) (fact_same c h)
    fact_same (Fact.different ts) h =
        ap (λ es. lift_all span_min (point (pos 1)) (pairwise defined_range (differ_range F) es)) (linears_same ts h)
        ∙ ap (lift_all span_min (point (pos 1))) (pairs_same x F G d (linears G ts) (linears_free x G ts h))
    fact_same (Fact.bound y) h = refl

    facts_same : (cs : Facts) → facts_mention cs x ≡ false → fact_ranges F cs ≡ fact_ranges G cs
    facts_same Facts.no_facts h = refl
    facts_same (Facts.more_facts c cs) h =
        let n = neither (mentions c x) (facts_mention cs x) h in
        ap (λ r. r ∷ fact_ranges F cs) (fact_same c n.0) ∙ ap (λ rs. fact_range G c ∷ rs) (facts_same cs n.1)

pub differ_only : (F : Family) (x : ℕ) (v : ℤ) → Full F → DifferAt x (only F x v) F
differ_only F x v f = record { same = length-only F x v; first = only_full F x v f; second = f; others = λ y n. only_there F x y v n }

pub others_dont_matter : (c : Fact) (F G : Family) (x : ℕ) → DifferAt x F G → mentions c x ≡ false → fact_range F c ≡ fact_range G c
others_dont_matter c F G x d h = fact_same x F G d c h
