-- A constraint without variables and questions has one range, whatever the family; so conditions and keys that ask nothing
-- are decided without one.
use Rattle.std.proofs.Common.{◌≡◌, ◌∙◌, ℕ, zero, suc, Bool, true, false, cond, ◌&&◌, refl, List, [], ◌∷◌, map, length, ℤ, pos, ◌+ℤ◌, ◌*ℤ◌, neg_ℤ, ap, sym, arith}
use Rattle.std.specs.Prelude.{int_le, int_lt, Option, Some, None}
use Rattle.std.specs.List.{list_all}
use Rattle.std.proofs.lemmas.Int.{ints}
use Rattle.std.proofs.lemmas.Bool.{and_parts, and_from}
use Rattle.opl_domain.specs.Span.{Span, point, is_point, smaller, larger}
use Rattle.opl_domain.specs.Arithmetic.{span_add, is_nonzero, span_mul, span_div, span_rem, span_abs, span_min, span_max, span_hull, span_neg}
use Rattle.opl_domain.specs.Family.{Family, hull}
use Rattle.opl_expr.specs.declared.tables.Table.{Table}
use Rattle.opl_expr.specs.declared.tables.Cell.{Cell}
use Rattle.opl_expr.specs.declared.tables.Cell.TheVariants as cell
use Rattle.opl_expr.specs.Forms.{Relation, Term, Terms, Fact, Facts, constant_value, product_by, product}
use Rattle.opl_expr.specs.Forms.Relation.{equal, at_most, below}
use Rattle.opl_expr.specs.Options.{lift1, bind1, lift, bind, lift_all, lift_some, joined}
use Rattle.opl_expr.specs.Range.{verdict, flip, same_truth, is_possible, span_scale, Linear, weighted, with_variables, range_of_linear, count, is_one_or_two, misses_zero, never_zero, compare, taken, chosen, masks, look_up, cell_range, pairwise, defined_range, differ_range, coef, coefs, pure, may_be, rest, linears, range, fact_range, fact_ranges}
use Rattle.opl_trace.specs.Answers.{is_some_point, answered_term, answered_terms, answered, all_answered, ranges_to, is_met, key_value}
use Rattle.opl_trace.specs.Paths.{asks_none, all_ask_none, is_free, all_free, is_free_key}
use Rattle.opl_trace.specs.GroundCores.{is_constant, has_constants}

-- ---- no variable, also behind a table; and nothing asked

module _ (asks : Bool) where
  abbrev mutual
    -- questions may be asked where `asks`
    pub names_none : Term → Bool
    names_none (Term.const k) = true
    names_none (Term.var x) = false
    names_none (Term.sum ts) = all_name_none ts
    names_none (Term.neg t) = names_none t
    names_none (Term.scale k t) = names_none t
    names_none (Term.mul s t) = names_none s && names_none t
    names_none (Term.div s t) = names_none s && names_none t
    names_none (Term.rem s t) = names_none s && names_none t
    names_none (Term.abs t) = names_none t
    names_none (Term.least ts) = all_name_none ts
    names_none (Term.greatest ts) = all_name_none ts
    names_none (Term.at table ts) = has_constants table && all_name_none ts
    names_none (Term.truth c) = fact_names_none c
    names_none (Term.asked ask x) = asks

    pub all_name_none : Terms → Bool
    all_name_none Terms.no_terms = true
    all_name_none (Terms.more_terms t ts) = names_none t && all_name_none ts

    pub fact_names_none : Fact → Bool
    fact_names_none (Fact.fixed b) = true
    fact_names_none (Fact.cmp rel s t) = names_none s && names_none t
    fact_names_none (Fact.and cs) = facts_name_none cs
    fact_names_none (Fact.or cs) = facts_name_none cs
    fact_names_none (Fact.iff c d) = fact_names_none c && fact_names_none d
    fact_names_none (Fact.not c) = fact_names_none c
    fact_names_none (Fact.different ts) = all_name_none ts
    fact_names_none (Fact.bound x) = asks

    pub facts_name_none : Facts → Bool
    facts_name_none Facts.no_facts = true
    facts_name_none (Facts.more_facts c cs) = fact_names_none c && facts_name_none cs

abbrev pub key_names_none : Bool → Option Term → Bool
key_names_none asks None = true
key_names_none asks (Some t) = names_none asks t

-- ---- answers where nothing is asked

pub both_are : {A B : Type 0} (f : A → A → B) (a b c d : A) → a ≡ c → b ≡ d → f a b ≡ f c d
both_are f a b c d e g = rw (e, g) refl

module _ (F G : Family) where
  mutual
    pub same_term : (t : Term) → asks_none t ≡ true → answered_term F t ≡ answered_term G t
    same_term (Term.const k) h = refl
    same_term (Term.var x) h = refl
    same_term (Term.sum ts) h = ap Term.sum (same_terms ts h)
    same_term (Term.neg t) h = ap Term.neg (same_term t h)
    same_term (Term.scale k t) h = ap (Term.scale k) (same_term t h)
    same_term (Term.mul s t) h = let r = and_parts (asks_none s) (asks_none t) h in both_are product (answered_term F s) (answered_term F t) (answered_term G s) (answered_term G t) (same_term s r.0) (same_term t r.1)
    same_term (Term.div s t) h = let r = and_parts (asks_none s) (asks_none t) h in both_are Term.div (answered_term F s) (answered_term F t) (answered_term G s) (answered_term G t) (same_term s r.0) (same_term t r.1)
    same_term (Term.rem s t) h = let r = and_parts (asks_none s) (asks_none t) h in both_are Term.rem (answered_term F s) (answered_term F t) (answered_term G s) (answered_term G t) (same_term s r.0) (same_term t r.1)
    same_term (Term.abs t) h = ap Term.abs (same_term t h)
    same_term (Term.least ts) h = ap Term.least (same_terms ts h)
    same_term (Term.greatest ts) h = ap Term.greatest (same_terms ts h)
    same_term (Term.at table ts) h = ap (Term.at table) (same_terms ts h)
    same_term (Term.truth c) h = ap Term.truth (same_fact c h)
    same_term (Term.asked ask x) h = cc

    same_terms : (ts : Terms) → all_ask_none ts ≡ true → answered_terms F ts ≡ answered_terms G ts
    same_terms Terms.no_terms h = refl
    same_terms (Terms.more_terms t ts) h = let r = and_parts (asks_none t) (all_ask_none ts) h in rw (same_term t r.0, same_terms ts r.1) refl

    pub same_fact : (c : Fact) → is_free c ≡ true → answered F c ≡ answered G c
    same_fact (Fact.fixed b) h = refl
    same_fact (Fact.cmp rel s t) h = let r = and_parts (asks_none s) (asks_none t) h in both_are (Fact.cmp rel) (answered_term F s) (answered_term F t) (answered_term G s) (answered_term G t) (same_term s r.0) (same_term t r.1)
    same_fact (Fact.and cs) h = ap Fact.and (same_facts cs h)
    same_fact (Fact.or cs) h = ap Fact.or (same_facts cs h)
    same_fact (Fact.iff c d) h = let r = and_parts (is_free c) (is_free d) h in both_are Fact.iff (answered F c) (answered F d) (answered G c) (answered G d) (same_fact c r.0) (same_fact d r.1)
    same_fact (Fact.not c) h = ap Fact.not (same_fact c h)
    same_fact (Fact.different ts) h = ap Fact.different (same_terms ts h)
    same_fact (Fact.bound x) h = cc

    same_facts : (cs : Facts) → all_free cs ≡ true → all_answered F cs ≡ all_answered G cs
    same_facts Facts.no_facts h = refl
    same_facts (Facts.more_facts c cs) h = let r = and_parts (is_free c) (all_free cs) h in rw (same_fact c r.0, same_facts cs r.1) refl

-- a product names no variable where its factors don't
product_names : (i j : Option ℤ) (s t : Term) → names_none false s ≡ true → names_none false t ≡ true → names_none false (product_by i j s t) ≡ true
product_names (Some k) j s t h i = i
product_names None (Some k) s t h i = h
product_names None None s t h i = and_from (names_none false s) (names_none false t) h i

-- what is answered asks nothing
module _ (F : Family) where
  mutual
    pub answer_names : (t : Term) → names_none true t ≡ true → names_none false (answered_term F t) ≡ true
    answer_names (Term.const k) h = refl
    answer_names (Term.var x) h = cc
    answer_names (Term.sum ts) h = answers_name ts h
    answer_names (Term.neg t) h = answer_names t h
    answer_names (Term.scale k t) h = answer_names t h
    answer_names (Term.mul s t) h =
        let r = and_parts (names_none true s) (names_none true t) h in
        product_names (constant_value (answered_term F s)) (constant_value (answered_term F t)) (answered_term F s) (answered_term F t) (answer_names s r.0) (answer_names t r.1)
    answer_names (Term.div s t) h = let r = and_parts (names_none true s) (names_none true t) h in and_from (names_none false (answered_term F s)) (names_none false (answered_term F t)) (answer_names s r.0) (answer_names t r.1)
    answer_names (Term.rem s t) h = let r = and_parts (names_none true s) (names_none true t) h in and_from (names_none false (answered_term F s)) (names_none false (answered_term F t)) (answer_names s r.0) (answer_names t r.1)
    answer_names (Term.abs t) h = answer_names t h
    answer_names (Term.least ts) h = answers_name ts h
    answer_names (Term.greatest ts) h = answers_name ts h
    answer_names (Term.at table ts) h = let r = and_parts (has_constants table) (all_name_none true ts) h in and_from (has_constants table) (all_name_none false (answered_terms F ts)) r.0 (answers_name ts r.1)
    answer_names (Term.truth c) h = answer_fact_names c h
    answer_names (Term.asked ask x) h = refl

    answers_name : (ts : Terms) → all_name_none true ts ≡ true → all_name_none false (answered_terms F ts) ≡ true
    answers_name Terms.no_terms h = refl
    answers_name (Terms.more_terms t ts) h = let r = and_parts (names_none true t) (all_name_none true ts) h in and_from (names_none false (answered_term F t)) (all_name_none false (answered_terms F ts)) (answer_names t r.0) (answers_name ts r.1)

    pub answer_fact_names : (c : Fact) → fact_names_none true c ≡ true → fact_names_none false (answered F c) ≡ true
    answer_fact_names (Fact.fixed b) h = refl
    answer_fact_names (Fact.cmp rel s t) h = let r = and_parts (names_none true s) (names_none true t) h in and_from (names_none false (answered_term F s)) (names_none false (answered_term F t)) (answer_names s r.0) (answer_names t r.1)
    answer_fact_names (Fact.and cs) h = answer_facts_name cs h
    answer_fact_names (Fact.or cs) h = answer_facts_name cs h
    answer_fact_names (Fact.iff c d) h = let r = and_parts (fact_names_none true c) (fact_names_none true d) h in and_from (fact_names_none false (answered F c)) (fact_names_none false (answered F d)) (answer_fact_names c r.0) (answer_fact_names d r.1)
    answer_fact_names (Fact.not c) h = answer_fact_names c h
    answer_fact_names (Fact.different ts) h = answers_name ts h
    answer_fact_names (Fact.bound x) h = refl

    answer_facts_name : (cs : Facts) → facts_name_none true cs ≡ true → facts_name_none false (all_answered F cs) ≡ true
    answer_facts_name Facts.no_facts h = refl
    answer_facts_name (Facts.more_facts c cs) h = let r = and_parts (fact_names_none true c) (facts_name_none true cs) h in and_from (fact_names_none false (answered F c)) (facts_name_none false (all_answered F cs)) (answer_fact_names c r.0) (answer_facts_name cs r.1)

-- ---- forms without variables

-- all coefficients are 0
abbrev IsFlat : (ℕ → ℤ) → Type 0
IsFlat c = (x : ℕ) → c x ≡ pos 0

mutual
  flat : (t : Term) → names_none false t ≡ true → IsFlat (coef t)
  flat (Term.const k) h x = refl
  flat (Term.var y) h x = cc
  flat (Term.sum ts) h x = all_flat ts h x
  flat (Term.neg t) h x = ap neg_ℤ (flat t h x)
  flat (Term.scale k t) h x = let e = flat t h x in ap (λ v. k *ℤ v) e ∙ omega (arith, ints)
  flat (Term.mul s t) h x = refl
  flat (Term.div s t) h x = refl
  flat (Term.rem s t) h x = refl
  flat (Term.abs t) h x = refl
  flat (Term.least ts) h x = refl
  flat (Term.greatest ts) h x = refl
  flat (Term.at table ts) h x = refl
  flat (Term.truth c) h x = refl
  flat (Term.asked ask y) h x = refl

  all_flat : (ts : Terms) → all_name_none false ts ≡ true → IsFlat (coefs ts)
  all_flat Terms.no_terms h x = refl
  all_flat (Terms.more_terms t ts) h x = let r = and_parts (names_none false t) (all_name_none false ts) h in rw (flat t r.0 x, all_flat ts r.1 x) refl

flat_less : (c d : ℕ → ℤ) → IsFlat c → IsFlat d → IsFlat (λ x. c x +ℤ neg_ℤ (d x))
flat_less c d h i x = rw (h x, i x) refl

scale_none : (a : Span) → span_scale (pos 0) a ≡ point (pos 0)
unfolding span_scale smaller larger
scale_none a =
    let e : pos 0 *ℤ a.low ≡ pos 0 = omega (arith, ints) in
    let f : pos 0 *ℤ a.high ≡ pos 0 = omega (arith, ints) in
    rw (e, f) refl

add_none : (a : Span) → span_add a (point (pos 0)) ≡ a
unfolding span_add
add_none a =
    let e : a.low +ℤ pos 0 ≡ a.low = omega (arith, ints) in
    let f : a.high +ℤ pos 0 ≡ a.high = omega (arith, ints) in
    rw (e, f) refl

weighs_nothing : (F : Family) (c : ℕ → ℤ) (n : ℕ) → IsFlat c → weighted F c n ≡ point (pos 0)
weighs_nothing F c zero h = refl
weighs_nothing F c (suc n) h = rw (weighs_nothing F c n h, h n, scale_none (hull F n)) (add_none (point (pos 0)))

no_variables : (F : Family) (c : ℕ → ℤ) (n : ℕ) (r : Span) → IsFlat c → with_variables F c n r ≡ r
unfolding with_variables
no_variables F c n r h = rw (weighs_nothing F c n h) (add_none r)

counts_none : (p : ℤ → Bool) (c : ℕ → ℤ) (n : ℕ) → IsFlat c → p (pos 0) ≡ false → count p c n ≡ 0
counts_none p c zero h e = refl
counts_none p c (suc n) h e = rw (h n, e, counts_none p c n h e) refl

not_one_or_two : (c : ℕ → ℤ) (n : ℕ) → IsFlat c → is_one_or_two c n ≡ false
not_one_or_two c n h = rw (counts_none is_nonzero c n h refl) refl

-- a comparison without variables
abbrev alone : Relation → Span → Span
alone equal r = verdict (is_point (pos 0) r) (misses_zero r)
alone at_most r = verdict (int_le r.high (pos 0)) (int_lt (pos 0) r.low)
alone below r = verdict (int_lt r.high (pos 0)) (int_le (pos 0) r.low)

by_interval : (p b c : Bool) → cond (p && false) b c ≡ c
by_interval true b c = refl
by_interval false b c = refl

never_alone : (F : Family) (c : ℕ → ℤ) (n : ℕ) (p : Bool) (r : Span) → IsFlat c → never_zero F c n p r ≡ misses_zero r
unfolding never_zero
never_alone F c n p r h =
    rw (not_one_or_two c n h) (by_interval p _ (misses_zero (with_variables F c n r)) ∙ ap misses_zero (no_variables F c n r h))

compares_alone : (rel : Relation) (F : Family) (c : ℕ → ℤ) (n : ℕ) (p : Bool) (r : Span) → IsFlat c → compare rel F c n p r ≡ alone rel r
unfolding compare
compares_alone equal F c n p r h = rw (no_variables F c n r h, never_alone F c n p r h) refl
compares_alone at_most F c n p r h = rw (no_variables F c n r h) refl
compares_alone below F c n p r h = rw (no_variables F c n r h) refl

-- ---- ranges without variables

module _ (F G : Family) where
  same_compare : (rel : Relation) (c : ℕ → ℤ) (p : Bool) (r : Option Span) → IsFlat c → lift1 (compare rel F c (length F) p) r ≡ lift1 (compare rel G c (length G) p) r
  same_compare rel c p None h = refl
  same_compare rel c p (Some a) h = ap (λ s. Some s) (compares_alone rel F c (length F) p a h ∙ sym (compares_alone rel G c (length G) p a h))

  same_ends : (c : ℕ → ℤ) (r : Option Span) → IsFlat c → lift1 (with_variables F c (length F)) r ≡ lift1 (with_variables G c (length G)) r
  same_ends c None h = refl
  same_ends c (Some a) h = ap (λ s. Some s) (no_variables F c (length F) a h ∙ sym (no_variables G c (length G) a h))

  -- ---- tables

  abbrev AreFlat : List Linear → Type 0
  AreFlat [] = Unit {0}
  AreFlat (e ∷ es) = IsFlat e.coef × AreFlat es

  same_may : (e : Linear) (i : ℤ) → IsFlat e.coef → may_be F e i ≡ may_be G e i
  same_may e i h = ap is_possible (same_compare equal (λ x. e.coef x +ℤ neg_ℤ (pos 0)) (e.pure && true) (lift span_add e.rest (lift1 span_neg (Some (point i)))) (flat_less e.coef (λ x. pos 0) h (λ x. refl)))

  same_row : (e : Linear) (dim : List ℤ) → IsFlat e.coef → map (may_be F e) dim ≡ map (may_be G e) dim
  same_row e [] h = refl
  same_row e (i ∷ dim) h = rw (same_may e i h, same_row e dim h) refl

  same_masks : (dims : List (List ℤ)) (es : List Linear) → AreFlat es → masks (may_be F) dims es ≡ masks (may_be G) dims es
  same_masks [] es h = refl
  same_masks (dim ∷ dims) [] h = refl
  same_masks (dim ∷ dims) (e ∷ es) h = rw (same_row e dim h.0, same_masks dims es h.1) refl

  chosen_constant : (bs : List Bool) (cells : List Cell) → list_all is_constant cells ≡ true → map (cell_range F) (chosen bs cells) ≡ map (cell_range G) (chosen bs cells)
  chosen_constant [] cells h = refl
  chosen_constant (b ∷ bs) [] h = refl
  chosen_constant (b ∷ bs) (cell.Const k ∷ cells) h = elim b as (λ b. map (cell_range F) (cond b (cell.Const k ∷ chosen bs cells) (chosen bs cells)) ≡ map (cell_range G) (cond b (cell.Const k ∷ chosen bs cells) (chosen bs cells))) [
    | true ↦ ap (λ rs. point k ∷ rs) (chosen_constant bs cells h)
    | false ↦ chosen_constant bs cells h
  ]
  chosen_constant (b ∷ bs) (cell.Var x ∷ cells) h = cc

  same_look : (table : Option Table) (es : List Linear) → AreFlat es → has_constants table ≡ true → look_up (may_be F) (cell_range F) span_hull table es ≡ look_up (may_be G) (cell_range G) span_hull table es
  same_look None es h c = refl
  same_look (Some t) es h c = rw (same_masks t.dims es h) (ap (joined span_hull) (chosen_constant (taken (masks (may_be G) t.dims es)) t.cells c))

  linears_flat : (ts : Terms) → all_name_none false ts ≡ true → AreFlat (linears F ts)
  linears_flat Terms.no_terms h = tt
  linears_flat (Terms.more_terms t ts) h = let r = and_parts (names_none false t) (all_name_none false ts) h in (flat t r.0, linears_flat ts r.1)

  same_forms : (es : List Linear) → AreFlat es → map (range_of_linear F) es ≡ map (range_of_linear G) es
  same_forms [] h = refl
  same_forms (e ∷ es) h = rw (same_ends e.coef e.rest h.0, same_forms es h.1) refl

  same_differ : (d : Linear) (es : List Linear) → IsFlat d.coef → AreFlat es → map (differ_range F d) es ≡ map (differ_range G d) es
  same_differ d [] h i = refl
  same_differ d (e ∷ es) h i =
      let s = same_compare equal (λ x. d.coef x +ℤ neg_ℤ (e.coef x)) (d.pure && e.pure) (lift span_add d.rest (lift1 span_neg e.rest)) (flat_less d.coef e.coef h i.0) in
      rw (s, same_differ d es h i.1) refl

  same_pairs : (es : List Linear) → AreFlat es → pairwise defined_range (differ_range F) es ≡ pairwise defined_range (differ_range G) es
  same_pairs [] h = refl
  same_pairs (e ∷ es) h = rw (same_differ e es h.0 h.1, same_pairs es h.1) refl

  same_by : (t : Term) → names_none false t ≡ true → rest F t ≡ rest G t → range F t ≡ range G t
  same_by t h e = same_ends (coef t) (rest F t) (flat t h) ∙ ap (lift1 (with_variables G (coef t) (length G))) e

  mutual
    same_rest : (t : Term) → names_none false t ≡ true → rest F t ≡ rest G t
    same_rest (Term.const k) h = refl
    same_rest (Term.var x) h = refl
    same_rest (Term.sum ts) h = ap (λ es. lift_all span_add (point (pos 0)) (map (λ e. e.rest) es)) (same_linears ts h)
    same_rest (Term.neg t) h = ap (lift1 span_neg) (same_rest t h)
    same_rest (Term.scale k t) h = ap (lift1 (span_scale k)) (same_rest t h)
    same_rest (Term.mul s t) h = let r = and_parts (names_none false s) (names_none false t) h in both_are (lift span_mul) (range F s) (range F t) (range G s) (range G t) (same_by s r.0 (same_rest s r.0)) (same_by t r.1 (same_rest t r.1))
    same_rest (Term.div s t) h = let r = and_parts (names_none false s) (names_none false t) h in both_are (bind span_div) (range F s) (range F t) (range G s) (range G t) (same_by s r.0 (same_rest s r.0)) (same_by t r.1 (same_rest t r.1))
    same_rest (Term.rem s t) h = let r = and_parts (names_none false s) (names_none false t) h in both_are (bind span_rem) (range F s) (range F t) (range G s) (range G t) (same_by s r.0 (same_rest s r.0)) (same_by t r.1 (same_rest t r.1))
    same_rest (Term.abs t) h = ap (bind1 span_abs) (same_by t h (same_rest t h))
    same_rest (Term.least ts) h = ap (lift_some span_min) (same_forms (linears F ts) (linears_flat ts h) ∙ ap (map (range_of_linear G)) (same_linears ts h))
    same_rest (Term.greatest ts) h = ap (lift_some span_max) (same_forms (linears F ts) (linears_flat ts h) ∙ ap (map (range_of_linear G)) (same_linears ts h))
    same_rest (Term.at table ts) h =
        let r = and_parts (has_constants table) (all_name_none false ts) h in
        same_look table (linears F ts) (linears_flat ts r.1) r.0 ∙ ap (look_up (may_be G) (cell_range G) span_hull table) (same_linears ts r.1)
    same_rest (Term.truth c) h = same_fact_range c h
    same_rest (Term.asked ask x) h = refl

    same_linears : (ts : Terms) → all_name_none false ts ≡ true → linears F ts ≡ linears G ts
    same_linears Terms.no_terms h = refl
    same_linears (Terms.more_terms t ts) h = let r = and_parts (names_none false t) (all_name_none false ts) h in rw (same_rest t r.0, same_linears ts r.1) refl

    pub same_fact_range : (c : Fact) → fact_names_none false c ≡ true → fact_range F c ≡ fact_range G c
    same_fact_range (Fact.fixed b) h = refl
    same_fact_range (Fact.cmp rel s t) h =
        let r = and_parts (names_none false s) (names_none false t) h in
        same_compare rel (λ x. coef s x +ℤ neg_ℤ (coef t x)) (pure s && pure t) (lift span_add (rest F s) (lift1 span_neg (rest F t))) (flat_less (coef s) (coef t) (flat s r.0) (flat t r.1))
        ∙ both_are (λ a b. lift1 (compare rel G (λ x. coef s x +ℤ neg_ℤ (coef t x)) (length G) (pure s && pure t)) (lift span_add a (lift1 span_neg b))) (rest F s) (rest F t) (rest G s) (rest G t) (same_rest s r.0) (same_rest t r.1)
    same_fact_range (Fact.and cs) h = ap (lift_all span_min (point (pos 1))) (same_fact_ranges cs h)
    same_fact_range (Fact.or cs) h = ap (lift_all span_max (point (pos 0))) (same_fact_ranges cs h)
    same_fact_range (Fact.iff c d) h = let r = and_parts (fact_names_none false c) (fact_names_none false d) h in both_are (lift same_truth) (fact_range F c) (fact_range F d) (fact_range G c) (fact_range G d) (same_fact_range c r.0) (same_fact_range d r.1)
    same_fact_range (Fact.not c) h = ap (lift1 flip) (same_fact_range c h)
    same_fact_range (Fact.different ts) h =
        ap (lift_all span_min (point (pos 1))) (same_pairs (linears F ts) (linears_flat ts h) ∙ ap (pairwise defined_range (differ_range G)) (same_linears ts h))
    same_fact_range (Fact.bound x) h = refl

    same_fact_ranges : (cs : Facts) → facts_name_none false cs ≡ true → fact_ranges F cs ≡ fact_ranges G cs
    same_fact_ranges Facts.no_facts h = refl
    same_fact_ranges (Facts.more_facts c cs) h = let r = and_parts (fact_names_none false c) (facts_name_none false cs) h in rw (same_fact_range c r.0, same_fact_ranges cs r.1) refl

  pub same_range : (t : Term) → names_none false t ≡ true → range F t ≡ range G t
  same_range t h = same_by t h (same_rest t h)

-- ---- conditions and keys

pub same_met : (F G : Family) (c : Fact) → is_free c ≡ true → fact_names_none true c ≡ true → is_met F c ≡ is_met G c
unfolding is_met
same_met F G c h i =
    ap (ranges_to F (pos 1)) (same_fact F G c h) ∙ ap (λ r. is_some_point (pos 1) r) (same_fact_range F G (answered G c) (answer_fact_names G c i))

pub same_key : (F G : Family) (key : Option Term) → is_free_key key ≡ true → key_names_none true key ≡ true → key_value F key ≡ key_value G key
unfolding key_value
same_key F G None h i = refl
same_key F G (Some t) h i = ap (λ s. lift1 (λ a. a.low) (range F s)) (same_term F G t h) ∙ ap (lift1 (λ a. a.low)) (same_range F G (answered_term G t) (answer_names G t i))
