-- In how many addends a variable has a factor, as they are gone through.
use Rattle.std.proofs.Common.{◌≡◌, ◌≢◌, ◌∙◌, ℕ, zero, suc, ◌+◌, ◌-◌, ◌≤◌, ◌<◌, Bool, true, false, cond, ◌||◌, refl, List, [], ◌∷◌, ◌++◌, length, get_or, take, drop, ℤ, pos, ◌+ℤ◌, ◌*ℤ◌, neg_ℤ, inl, inr, ap, sym, subst, arith}
use Rattle.std.specs.Prelude.{Option, Some, None, slice_get, nat_eq}
use Rattle.std.specs.Ordering.{int_eq}
use Rattle.std.proofs.lemmas.Int.{ints}
use Rattle.std.proofs.lemmas.Bool.{cases_eq, or_cases}
use Rattle.std.proofs.lemmas.Bool.Decides.{Decides-eqb, Decides-int_eq}
use Rattle.opl_domain.specs.Arithmetic.{is_nonzero}
use Rattle.opl_expr.specs.declared.model.Core.{Core}
use Rattle.opl_expr.specs.declared.forms.Expr.{Expr}
use Rattle.opl_expr.specs.declared.forms.Expr.TheVariants as E
use Rattle.opl_expr.specs.Forms.{Term, Terms}
use Rattle.opl_expr.specs.Range.{coef, coefs}
use Rattle.opl_expr.proofs.Plain.{term_Const}
use Rattle.opl_filter.specs.Mentions.{lists, term_mentions, terms_mention}
use Rattle.opl_range.specs.Between.{term_of, between, IsLastFactor}
use Rattle.opl_expr.proofs.Parts.{any_default}
use Rattle.opl_range.proofs.Parts.{part_before}
use Rattle.opl_addends.specs.declared.sum.Addend.{Addend}
use Rattle.opl_addends.specs.declared.sum.Mention.{Mention}
use Rattle.opl_addends.specs.Apart.{AreNumbered, AreOnce}
use Rattle.opl_addends.specs.Sums.{IsMention, variables}
use Rattle.opl_addends.specs.Addends.{plain, plains, listed, picked, one_if, with_factor, mentioning, AreApart, AreSound}

neither : (a b : Bool) → (a || b) ≡ false → (a ≡ false) × (b ≡ false)
neither true b h = cc
neither false b h = (refl, h)

times_nothing : (k : ℤ) → k *ℤ pos 0 ≡ pos 0
times_nothing k = grind (arith, ints)

-- a variable that an expression doesn't mention has no factor in it
module _ (x : ℕ) where
  mutual
    coef_free : (t : Term) → term_mentions t x ≡ false → coef t x ≡ pos 0
    coef_free (Term.const k) h = refl
    coef_free (Term.var y) h = rw h refl
    coef_free (Term.sum ts) h = coefs_free ts h
    coef_free (Term.neg t) h = ap neg_ℤ (coef_free t h)
    coef_free (Term.scale k t) h = ap (λ j. k *ℤ j) (coef_free t h) ∙ times_nothing k
    coef_free (Term.mul s t) h = refl
    coef_free (Term.div s t) h = refl
    coef_free (Term.rem s t) h = refl
    coef_free (Term.abs t) h = refl
    coef_free (Term.least ts) h = refl
    coef_free (Term.greatest ts) h = refl
    coef_free (Term.at table ts) h = refl
    coef_free (Term.truth c) h = refl
    coef_free (Term.asked ask y) h = refl

    coefs_free : (ts : Terms) → terms_mention ts x ≡ false → coefs ts x ≡ pos 0
    coefs_free Terms.no_terms h = refl
    coefs_free (Terms.more_terms t ts) h =
        let n = neither (term_mentions t x) (terms_mention ts x) h in
        ap (λ k. k +ℤ coefs ts x) (coef_free t n.0) ∙ ap (λ k. pos 0 +ℤ k) (coefs_free ts n.1)

  zero_one : (k : ℤ) → k ≡ pos 0 → one_if (is_nonzero k) ≡ 0
  zero_one k h = ap (λ j. one_if (is_nonzero j)) h

  -- only addends that mention it count
  pub by_mention : (ss : List (Bool × Term)) → with_factor x (mentioning x ss) ≡ with_factor x ss
  by_mention [] = refl
  by_mention (a ∷ ss) = elim (term_mentions a.1 x) as (λ b. term_mentions a.1 x ≡ b → with_factor x (cond b (a ∷ mentioning x ss) (mentioning x ss)) ≡ one_if (is_nonzero (coef a.1 x)) + with_factor x ss) [
    | true ↦ λ e. omega (arith, by_mention ss)
    | false ↦ λ e. omega (arith, by_mention ss, zero_one (coef a.1 x) (coef_free a.1 e))
  ] refl

pub all_apart : (xs : List ℕ) (ss : List (Bool × Term)) → ((x : ℕ) → lists xs x ≡ true → with_factor x ss ≤ 1) → ((x : ℕ) → lists xs x ≡ false → mentioning x ss ≡ []) → AreApart ss
all_apart xs ss h n x = elim (lists xs x) as (λ b. lists xs x ≡ b → with_factor x ss ≤ 1) [
  | true ↦ λ e. h x e
  | false ↦ λ e. omega (arith, by_mention x ss, ap (with_factor x) (n x e))
] refl

-- ---- a factor in one expression

nonzero_true : (k : ℤ) → (k ≡ pos 0 → ⊥) → is_nonzero k ≡ true
nonzero_true k h = elim (int_eq k (pos 0)) as (λ b. int_eq k (pos 0) ≡ b → cond b false true ≡ true) [
  | true ↦ λ e. absurd (h ((Decides-int_eq k (pos 0)).0 e))
  | false ↦ λ e. refl
] refl

between_zero : (core : Core) (e z : Expr) (x : ℕ) → z ≡ E.Const (pos 0) → between core e z x ≡ coef (term_of core e) x
unfolding between
between_zero core e z x i =
    ap (λ k. coef (term_of core e) x +ℤ neg_ℤ k) (ap (λ w. coef (term_of core w) x) i ∙ ap (λ t. coef t x) (term_Const core.tables core.resources (pos 0))) ∙ plus_nothing (coef (term_of core e) x)
  where
    plus_nothing : (k : ℤ) → k +ℤ neg_ℤ (pos 0) ≡ k
    plus_nothing k = omega (arith, ints)

pub none_factor : (core : Core) (e z : Expr) (x n : ℕ) → z ≡ E.Const (pos 0) → n ≡ x + 1 → IsLastFactor (between core e z) n None → false ≡ is_nonzero (coef (term_of core e) x)
none_factor core e z x n i m h = sym (ap is_nonzero (sym (between_zero core e z x i) ∙ h x (omega (arith, m))))

pub some_factor : (core : Core) (e z : Expr) (x n y : ℕ) (k : ℤ) → z ≡ E.Const (pos 0) → n ≡ x + 1 → IsLastFactor (between core e z) n (Some (y, k)) → nat_eq x y ≡ is_nonzero (coef (term_of core e) x)
some_factor core e z x n y k i m h = elim (cases_eq x y) [
  | inl s ↦ (Decides-eqb x y).1 s ∙ sym (nonzero_true (coef (term_of core e) x) (λ j. h.0.nonzero (subst (λ w. between core e z w ≡ pos 0) s (between_zero core e z x i ∙ j))))
  | inr d ↦
      let c : between core e z x ≡ pos 0 = h.0.behind x (omega (arith, h.0.below, m, d)) (omega (arith, m)) in
      apart x y d ∙ sym (ap is_nonzero (sym (between_zero core e z x i) ∙ c))
]
  where
    apart : (x y : ℕ) → x ≢ y → nat_eq x y ≡ false
    apart x y d = elim (nat_eq x y) as (λ b. nat_eq x y ≡ b → b ≡ false) [ true ↦ λ e. absurd (d ((Decides-eqb x y).0 e)) | false ↦ λ e. refl ] refl

-- ---- the addends at some places

pub one_with : (core : Core) (a : Addend) (e : Expr) (x : ℕ) (r : Bool) → e ≡ a.expression → r ≡ is_nonzero (coef (term_of core e) x) → r ≡ true → 1 ≡ with_factor x (plain core a ∷ [])
one_with core a e x r i h k = omega (arith, ap one_if (sym k ∙ h ∙ ap (λ z. is_nonzero (coef (term_of core z) x)) i))

pub none_with : (core : Core) (a : Addend) (e : Expr) (x : ℕ) (r : Bool) → e ≡ a.expression → r ≡ is_nonzero (coef (term_of core e) x) → r ≡ false → 0 ≡ with_factor x (plain core a ∷ [])
none_with core a e x r i h k = omega (arith, ap one_if (sym k ∙ h ∙ ap (λ z. is_nonzero (coef (term_of core z) x)) i))

at_most_one : (x : ℕ) (b : Bool) → one_if b ≤ 1
at_most_one x true = omega arith
at_most_one x false = omega arith

module _ (core : Core) (x : ℕ) (xs : List Addend) where
  with_append : (ss ts : List (Bool × Term)) → with_factor x (ss ++ ts) ≡ with_factor x ss + with_factor x ts
  with_append [] ts = omega arith
  with_append (a ∷ ss) ts = omega (arith, with_append ss ts)

  with_listed : (o : Option Addend) → with_factor x (plains core (listed o)) ≤ 1
  with_listed None = omega arith
  with_listed (Some a) = omega (arith, at_most_one x (is_nonzero (coef (term_of core a.expression) x)))

  plains_both : (us bs : List Addend) → plains core (us ++ bs) ≡ plains core us ++ plains core bs
  plains_both [] bs = refl
  plains_both (a ∷ us) bs = ap (λ zs. plain core a ∷ zs) (plains_both us bs)

  with_picked : (p : ℕ) (ps : List ℕ) → with_factor x (plains core (picked xs (p ∷ ps))) ≡ with_factor x (plains core (listed (slice_get xs p))) + with_factor x (plains core (picked xs ps))
  with_picked p ps = ap (with_factor x) (plains_both (listed (slice_get xs p)) (picked xs ps)) ∙ with_append (plains core (listed (slice_get xs p))) (plains core (picked xs ps))

  -- one more place from the right
  pub factors_next : (ps : List ℕ) (L k n : ℕ) → 0 < L → L ≤ length ps → k ≡ with_factor x (plains core (listed (slice_get xs (get_or ps (L - 1) 0)))) → n ≡ with_factor x (plains core (picked xs (drop L ps))) → n + k ≡ with_factor x (plains core (picked xs (drop (L - 1) ps)))
  factors_next ps L k n h l i j =
      let p = get_or ps (L - 1) 0 in
      let e = part_before ps L p h l (any_default ps (L - 1) 0 p (omega (arith, h, l))) in
      omega (arith, i, j, with_picked p (drop L ps), ap (λ qs. with_factor x (plains core (picked xs qs))) e)

  pub factor_small : (k p : ℕ) → k ≡ with_factor x (plains core (listed (slice_get xs p))) → k ≤ 1
  factor_small k p e = omega (arith, e, with_listed (slice_get xs p))

  sound_both : (sets : List (ℤ × ℤ)) (ss ts : List (Bool × Term)) → AreSound sets (ss ++ ts) → AreSound sets ss × AreSound sets ts
  sound_both sets [] ts h = (tt, h)
  sound_both sets (a ∷ ss) ts h = let r = sound_both sets ss ts h.1 in ((h.0, r.0), r.1)

  pub place_sound : (sets : List (ℤ × ℤ)) (ps : List ℕ) (i : ℕ) → i < length ps → AreSound sets (plains core (picked xs ps)) → AreSound sets (plains core (listed (slice_get xs (get_or ps i 0))))
  place_sound sets [] i l h = absurd (omega arith)
  place_sound sets (p ∷ ps) zero l h = (sound_both sets (plains core (listed (slice_get xs p))) (plains core (picked xs ps)) (subst (AreSound sets) (plains_both (listed (slice_get xs p)) (picked xs ps)) h)).0
  place_sound sets (p ∷ ps) (suc i) l h = place_sound sets ps i (omega arith) (sound_both sets (plains core (listed (slice_get xs p))) (plains core (picked xs ps)) (subst (AreSound sets) (plains_both (listed (slice_get xs p)) (picked xs ps)) h)).1

-- ---- one mention after another

record IsNumbered (core : Core) (addends : List Addend) (m : Mention) : Type 0 where
  pub mention : IsMention core addends m
  pub number : m.variable + 1 < 4294967296

numbered_at : (core : Core) (addends : List Addend) (ms : List Mention) (i : ℕ) (m : Mention) → i < length ms → m ≡ get_or ms i m → AreNumbered core addends ms → IsNumbered core addends m
numbered_at core addends [] i m h e n = absurd (omega arith)
numbered_at core addends (l ∷ ms) zero m h e n = let s : m ≡ l = e in subst (IsNumbered core addends) (sym s) (record { mention = n.0; number = n.1 })
numbered_at core addends (l ∷ ms) (suc i) m h e n = numbered_at core addends ms i m (omega arith) e n.2

filter_sound : (sets : List (ℤ × ℤ)) (x : ℕ) (ss : List (Bool × Term)) → AreSound sets ss → AreSound sets (mentioning x ss)
filter_sound sets x [] h = h
filter_sound sets x (a ∷ ss) h = elim (term_mentions a.1 x) as (λ b. AreSound sets (cond b (a ∷ mentioning x ss) (mentioning x ss))) [
  | true ↦ (h.0, filter_sound sets x ss h.1)
  | false ↦ filter_sound sets x ss h.1
]

or_nothing : (b : Bool) → b ≡ (b || false)
or_nothing true = refl
or_nothing false = refl

or_later : (a b c : Bool) → ((a || b) || c) ≡ (a || (b || c))
or_later true b c = refl
or_later false b c = refl

or_behind : (a b : Bool) → b ≡ true → (a || b) ≡ true
or_behind true b h = refl
or_behind false b h = h

listed_there : (ms : List Mention) (i : ℕ) (m : Mention) → i < length ms → m ≡ get_or ms i m → lists (variables ms) m.variable ≡ true
listed_there [] i m h e = absurd (omega arith)
listed_there (l ∷ ms) zero m h e =
    let s : m ≡ l = e in
    ap (λ b. b || lists (variables ms) m.variable) ((Decides-eqb m.variable l.variable).1 (ap (λ (z : Mention). z.variable) s))
listed_there (l ∷ ms) (suc i) m h e = or_behind (nat_eq m.variable l.variable) (lists (variables ms) m.variable) (listed_there ms i m (omega arith) e)

listed_more : (ms : List Mention) (i : ℕ) (m : Mention) (x : ℕ) → i < length ms → m ≡ get_or ms i m → lists (variables (take (suc i) ms)) x ≡ (lists (variables (take i ms)) x || nat_eq x m.variable)
listed_more [] i m x h e = absurd (omega arith)
listed_more (l ∷ ms) zero m x h e = let s : m ≡ l = e in ap (λ (z : Mention). nat_eq x z.variable || false) (sym s) ∙ sym (or_nothing (nat_eq x m.variable))
listed_more (l ∷ ms) (suc i) m x h e = ap (λ b. nat_eq x l.variable || b) (listed_more ms i m x (omega arith) e) ∙ sym (or_later (nat_eq x l.variable) (lists (variables (take i ms)) x) (nat_eq x m.variable))

take_all : {X : Type 0} (xs : List X) (n : ℕ) → length xs ≤ n → take n xs ≡ xs
take_all [] zero h = refl
take_all [] (suc n) h = refl
take_all (x ∷ xs) zero h = absurd (omega arith)
take_all (x ∷ xs) (suc n) h = ap (λ ys. x ∷ ys) (take_all xs n (omega arith))

module _ (core : Core) (addends : List Addend) (ms : List Mention) (i : ℕ) (m : Mention) where
  pub factors_number : i < length ms → m ≡ get_or ms i m → AreNumbered core addends ms → m.variable + 1 < 4294967296
  factors_number h e n = (numbered_at core addends ms i m h e n).number

  picks : (places : List ℕ) → i < length ms → m ≡ get_or ms i m → places ≡ m.places → AreNumbered core addends ms → plains core (picked addends places) ≡ mentioning m.variable (plains core addends)
  picks places h e p n = ap (λ ps. plains core (picked addends ps)) p ∙ (numbered_at core addends ms i m h e n).mention

  pub factors_sound : (places : List ℕ) → i < length ms → m ≡ get_or ms i m → places ≡ m.places → AreNumbered core addends ms → AreSound core.sets (plains core addends) → AreSound core.sets (plains core (picked addends places))
  factors_sound places h e p n s = subst (AreSound core.sets) (sym (picks places h e p n)) (filter_sound core.sets m.variable (plains core addends) s)

  counted : (places : List ℕ) (k : ℕ) → i < length ms → m ≡ get_or ms i m → places ≡ m.places → AreNumbered core addends ms → k ≡ with_factor m.variable (plains core (picked addends places)) → k ≡ with_factor m.variable (plains core addends)
  counted places k h e p n j = j ∙ ap (with_factor m.variable) (picks places h e p n) ∙ by_mention m.variable (plains core addends)

  pub not_once : (places : List ℕ) (k : ℕ) → i < length ms → m ≡ get_or ms i m → places ≡ m.places → AreNumbered core addends ms → k ≡ with_factor m.variable (plains core (picked addends places)) → 1 < k → AreOnce (plains core addends) (variables ms) → ⊥
  not_once places k h e p n j g o = omega (arith, g, counted places k h e p n j, o m.variable (listed_there ms i m h e))

  pub once_next : (places : List ℕ) (k : ℕ) → i < length ms → m ≡ get_or ms i m → places ≡ m.places → AreNumbered core addends ms → k ≡ with_factor m.variable (plains core (picked addends places)) → k ≤ 1 → AreOnce (plains core addends) (variables (take i ms)) → AreOnce (plains core addends) (variables (take (i + 1) ms))
  once_next places k h e p n j g o x l =
      let s : suc i ≡ i + 1 = omega arith in
      elim (or_cases (lists (variables (take i ms)) x) (nat_eq x m.variable) (sym (listed_more ms i m x h e) ∙ subst (λ q. lists (variables (take q ms)) x ≡ true) (sym s) l)) [
        | inl a ↦ o x a
        | inr b ↦ let t : x ≡ m.variable = (Decides-eqb x m.variable).0 b in subst (λ y. with_factor y (plains core addends) ≤ 1) (sym t) (omega (arith, g, counted places k h e p n j))
      ]

pub once_first : (core : Core) (addends : List Addend) (ms : List Mention) → AreOnce (plains core addends) (variables (take 0 ms))
once_first core addends [] x l = cc
once_first core addends (m ∷ ms) x l = cc

pub once_all : (core : Core) (addends : List Addend) (ms : List Mention) (n : ℕ) → length ms ≤ n → AreOnce (plains core addends) (variables (take n ms)) → AreOnce (plains core addends) (variables ms)
once_all core addends ms n h o = subst (λ ls. AreOnce (plains core addends) (variables ls)) (take_all ms n h) o
