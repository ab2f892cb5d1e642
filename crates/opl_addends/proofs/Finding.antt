-- The addends of two sides, as they are found one after another, and the mentions of their variables.
use Rattle.std.proofs.Common.{◌≡◌, ◌∙◌, ℕ, zero, suc, ◌+◌, ◌<◌, ◌≤◌, Bool, true, false, cond, not, ◌||◌, refl, List, [], ◌∷◌, ◌++◌, map, length, get_or, take, ℤ, pos, ap, sym, subst, arith}
use Rattle.std.specs.Prelude.{Some, slice_get, nat_eq}
use Rattle.std.specs.List.{list_any}
use Rattle.opl_expr.specs.declared.model.Core.{Core}
use Rattle.opl_expr.specs.declared.forms.Ask.{Ask}
use Rattle.opl_expr.specs.declared.forms.Op.TheVariants.{Le}
use Rattle.opl_expr.specs.declared.forms.Expr.{Expr}
use Rattle.opl_expr.specs.declared.forms.Expr.TheVariants as E
use Rattle.opl_expr.specs.declared.forms.Cons.{Cons}
use Rattle.opl_expr.specs.declared.forms.Cons.TheVariants as C
use Rattle.opl_expr.specs.Forms.{Term, Fact, fact, terms_of, product}
use Rattle.opl_expr.specs.Forms.Relation.{at_most}
use Rattle.opl_expr.proofs.Parts.{product_cases, any_default}
use Rattle.opl_expr.proofs.Plain.{term_Const, term_Var, term_Sum, term_Neg, term_Mul, term_Div, term_Rem, term_Abs, term_Min, term_Max, term_At, term_Truth, term_Ask, fact_Cmp}
use Rattle.opl_filter.specs.Mentions.{lists, term_mentions, AreVariables, mentions}
use Rattle.opl_range.specs.Between.{term_of}
use Rattle.opl_reify.proofs.Trying.{listed_is}
use Rattle.opl_addends.specs.declared.sum.Addend.{Addend}
use Rattle.opl_addends.specs.declared.sum.Mention.{Mention}
use Rattle.opl_addends.specs.Addends.{addends, all_addends, addends_between, mentioning, plain, plains, listed, picked}
use Rattle.opl_addends.specs.Sums.{variables, IsMention}
use Rattle.opl_addends.specs.Making.{AreNamed, AllNamed, AddsAddends, HasBetween, Notes, IsMentionOf, AreMentions, AreMentionsOf}
use Rattle.opl_addends.proofs.Intervals.{append_again, append_nothing}

-- ---- the variables of an expression, by those of a comparison

or_none : (b : Bool) → (b || false) ≡ b
or_none true = refl
or_none false = refl

pub named_read : (core : Core) (e : Expr) (c : Cons) → c ≡ C.Cmp Le e (E.Const (pos 0)) → (xs : List ℕ) → AreVariables xs (fact core.tables core.resources c) → AreNamed xs (term_of core e)
named_read core e c i xs a x =
    let same : fact core.tables core.resources c ≡ Fact.cmp at_most (term_of core e) (Term.const (pos 0)) =
    ap (fact core.tables core.resources) i ∙ fact_Cmp core.tables core.resources Le e (E.Const (pos 0)) ∙ ap (Fact.cmp at_most (term_of core e)) (term_Const core.tables core.resources (pos 0)) in
    a x ∙ ap (λ z. mentions z x) same ∙ or_none (term_mentions (term_of core e) x)

-- ---- addends that come at the end

plains_append : (core : Core) (xs ys : List Addend) → plains core (xs ++ ys) ≡ plains core xs ++ plains core ys
plains_append core [] ys = refl
plains_append core (x ∷ xs) ys = ap (λ zs. plain core x ∷ zs) (plains_append core xs ys)

named_append : (core : Core) (xs ys : List Addend) → AllNamed core xs → AllNamed core ys → AllNamed core (xs ++ ys)
named_append core [] ys h k = k
named_append core (x ∷ xs) ys h k = (h.0, named_append core xs ys h.1 k)

pub one_added : (core : Core) (e : Expr) (o : Bool) (a : Addend) (before now : List Addend) → a.is_opposite ≡ o → a.expression ≡ e → AreNamed a.variables (term_of core e) → now ≡ before ++ a ∷ [] → AddsAddends core ((o, term_of core e) ∷ []) before now
one_added core e o a before now i j n h = record {
  added =
      ap (plains core) h ∙ plains_append core before (a ∷ [])
      ∙ ap (λ s. plains core before ++ s ∷ []) (ap (λ b. (b, term_of core a.expression)) i ∙ ap (λ z. (o, term_of core z)) j);
  named = λ m. subst (AllNamed core) (sym h) (named_append core before (a ∷ []) m (subst (λ z. AreNamed a.variables (term_of core z)) (sym j) n, tt));
}

pub none_added : (core : Core) (found : List Addend) → AddsAddends core [] found found
none_added core found = record { added = sym (append_nothing (plains core found)); named = λ n. n }

pub same_added : (core : Core) (ss ts : List (Bool × Term)) (before now : List Addend) → ss ≡ ts → AddsAddends core ss before now → AddsAddends core ts before now
same_added core ss ts before now e a = record { added = a.added ∙ ap (λ us. plains core before ++ us) e; named = a.named }

pub both_added : (core : Core) (ss ts : List (Bool × Term)) (before between now : List Addend) → AddsAddends core ss before between → AddsAddends core ts between now → AddsAddends core (ss ++ ts) before now
both_added core ss ts before between now a b = record {
  added = b.added ∙ ap (λ us. us ++ ts) a.added ∙ append_again (plains core before) ss ts;
  named = λ n. b.named (a.named n);
}

-- an expression that is one addend
one_addend : (o : Bool) (t s : Term) → t ≡ s → addends o s ≡ (o, s) ∷ [] → (o, t) ∷ [] ≡ addends o t
one_addend o t s e h = sym (ap (addends o) e ∙ h ∙ ap (λ z. (o, z) ∷ []) (sym e))

module _ (core : Core) (o : Bool) (e : Expr) where
  abbrev IsOne : Type 0
  IsOne = (o, term_of core e) ∷ [] ≡ addends o (term_of core e)

  pub one_Const : (k : ℤ) → e ≡ E.Const k → IsOne
  one_Const k i = one_addend o (term_of core e) (Term.const k) (ap (term_of core) i ∙ term_Const core.tables core.resources k) refl

  pub one_Var : (x : ℕ) → e ≡ E.Var x → IsOne
  one_Var x i = one_addend o (term_of core e) (Term.var x) (ap (term_of core) i ∙ term_Var core.tables core.resources x) refl

  pub one_Mul : (a b : Expr) → e ≡ E.Mul a b → IsOne
  one_Mul a b i =
      one_addend o (term_of core e) (product (term_of core a) (term_of core b)) (ap (term_of core) i ∙ term_Mul core.tables core.resources a b)
      (product_cases (λ s t p. addends o p ≡ (o, p) ∷ []) (λ k t. refl) (λ s k. refl) (λ s t. refl) (term_of core a) (term_of core b))

  pub one_Div : (a b : Expr) → e ≡ E.Div a b → IsOne
  one_Div a b i = one_addend o (term_of core e) (Term.div (term_of core a) (term_of core b)) (ap (term_of core) i ∙ term_Div core.tables core.resources a b) refl

  pub one_Rem : (a b : Expr) → e ≡ E.Rem a b → IsOne
  one_Rem a b i = one_addend o (term_of core e) (Term.rem (term_of core a) (term_of core b)) (ap (term_of core) i ∙ term_Rem core.tables core.resources a b) refl

  pub one_Abs : (a : Expr) → e ≡ E.Abs a → IsOne
  one_Abs a i = one_addend o (term_of core e) (Term.abs (term_of core a)) (ap (term_of core) i ∙ term_Abs core.tables core.resources a) refl

  pub one_Min : (es : List Expr) → e ≡ E.Min es → IsOne
  one_Min es i = one_addend o (term_of core e) (Term.least (terms_of (map (term_of core) es))) (ap (term_of core) i ∙ term_Min core.tables core.resources es) refl

  pub one_Max : (es : List Expr) → e ≡ E.Max es → IsOne
  one_Max es i = one_addend o (term_of core e) (Term.greatest (terms_of (map (term_of core) es))) (ap (term_of core) i ∙ term_Max core.tables core.resources es) refl

  pub one_At : (t : ℕ) (es : List Expr) → e ≡ E.At t es → IsOne
  one_At t es i = one_addend o (term_of core e) (Term.at (slice_get core.tables t) (terms_of (map (term_of core) es))) (ap (term_of core) i ∙ term_At core.tables core.resources t es) refl

  pub one_Truth : (c : Cons) → e ≡ E.Truth c → IsOne
  one_Truth c i = one_addend o (term_of core e) (Term.truth (fact core.tables core.resources c)) (ap (term_of core) i ∙ term_Truth core.tables core.resources c) refl

  pub one_Ask : (ask : Ask) (x : ℕ) → e ≡ E.Ask ask x → IsOne
  one_Ask ask x i = one_addend o (term_of core e) (Term.asked ask x) (ap (term_of core) i ∙ term_Ask core.tables core.resources ask x) refl

  -- a sum and an opposite are opened
  pub sum_addends : (es ps : List Expr) → e ≡ E.Sum es → ps ≡ es → all_addends o (terms_of (map (term_of core) ps)) ≡ addends o (term_of core e)
  sum_addends es ps i j = ap (λ zs. all_addends o (terms_of (map (term_of core) zs))) j ∙ sym (ap (addends o) (ap (term_of core) i ∙ term_Sum core.tables core.resources es))

  pub neg_addends : (a b : Expr) → e ≡ E.Neg a → b ≡ a → addends (not o) (term_of core b) ≡ addends o (term_of core e)
  neg_addends a b i j = ap (λ z. addends (not o) (term_of core z)) j ∙ sym (ap (addends o) (ap (term_of core) i ∙ term_Neg core.tables core.resources a))

-- ---- one expression after another

abbrev all_of : Core → Bool → List Expr → List (Bool × Term)
all_of core o es = all_addends o (terms_of (map (term_of core) es))

all_next : (core : Core) (o : Bool) (es : List Expr) (i : ℕ) (e : Expr) → i < length es → e ≡ get_or es i e → all_of core o (take (suc i) es) ≡ all_of core o (take i es) ++ addends o (term_of core e)
all_next core o [] i e h k = absurd (omega arith)
all_next core o (d ∷ es) zero e h k = let s : e ≡ d = k in append_nothing (addends o (term_of core d)) ∙ ap (λ z. addends o (term_of core z)) (sym s)
all_next core o (d ∷ es) (suc i) e h k =
    ap (λ zs. addends o (term_of core d) ++ zs) (all_next core o es i e (omega arith) k) ∙ sym (append_again (addends o (term_of core d)) (all_of core o (take i es)) (addends o (term_of core e)))

all_whole : (core : Core) (o : Bool) (es : List Expr) (n : ℕ) → length es ≤ n → all_of core o (take n es) ≡ all_of core o es
all_whole core o [] zero h = refl
all_whole core o [] (suc n) h = refl
all_whole core o (e ∷ es) zero h = absurd (omega arith)
all_whole core o (e ∷ es) (suc n) h = ap (λ zs. addends o (term_of core e) ++ zs) (all_whole core o es n (omega arith))

-- the addends of the first n expressions have come
pub AddsFirst : Core → Bool → List Expr → ℕ → List Addend → List Addend → Type 0
AddsFirst core o es n before now = AddsAddends core (all_of core o (take n es)) before now

pub first_none : (core : Core) (o : Bool) (es : List Expr) (found : List Addend) → AddsFirst core o es 0 found found
unfolding AddsFirst
first_none core o [] found = none_added core found
first_none core o (e ∷ es) found = none_added core found

pub first_next : (core : Core) (o : Bool) (es : List Expr) (i : ℕ) (e : Expr) (before between now : List Addend) → i < length es → e ≡ get_or es i e → AddsFirst core o es i before between → AddsAddends core (addends o (term_of core e)) between now → AddsFirst core o es (i + 1) before now
unfolding AddsFirst
first_next core o es i e before between now h k a b =
    let n : suc i ≡ i + 1 = omega arith in
    subst (λ m. AddsAddends core (all_of core o (take m es)) before now) n
    (same_added core (all_of core o (take i es) ++ addends o (term_of core e)) (all_of core o (take (suc i) es)) before now (sym (all_next core o es i e h k))
    (both_added core (all_of core o (take i es)) (addends o (term_of core e)) before between now a b))

pub first_all : (core : Core) (o : Bool) (es : List Expr) (n : ℕ) (before now : List Addend) → length es ≤ n → AddsFirst core o es n before now → AddsAddends core (all_of core o es) before now
unfolding AddsFirst
first_all core o es n before now h a = same_added core (all_of core o (take n es)) (all_of core o es) before now (all_whole core o es n h) a

pub between_found : (core : Core) (a b : Expr) (start first found : List Addend) → start ≡ [] → AddsAddends core (addends false (term_of core a)) start first → AddsAddends core (addends true (term_of core b)) first found → HasBetween core a b found
between_found core a b start first found e p q =
    let r = both_added core (addends false (term_of core a)) (addends true (term_of core b)) start first found p q in
    record {
      same = r.added ∙ ap (λ xs. plains core xs ++ addends_between (term_of core a) (term_of core b)) e;
      named = r.named (subst (AllNamed core) (sym e) tt);
    }

-- ---- the places of a variable

picked_append : (xs : List Addend) (ps : List ℕ) (p : ℕ) → picked xs (ps ++ p ∷ []) ≡ picked xs ps ++ listed (slice_get xs p)
picked_append xs [] p = append_nothing (listed (slice_get xs p))
picked_append xs (q ∷ ps) p = ap (λ zs. listed (slice_get xs q) ++ zs) (picked_append xs ps p) ∙ sym (append_again (listed (slice_get xs q)) (picked xs ps) (listed (slice_get xs p)))

get_at : (xs : List Addend) (i : ℕ) (a : Addend) → i < length xs → a ≡ get_or xs i a → slice_get xs i ≡ Some a
get_at [] i a h e = absurd (omega arith)
get_at (x ∷ xs) zero a h e = ap Some (sym e)
get_at (x ∷ xs) (suc i) a h e = get_at xs i a (omega arith) e

named_at : (core : Core) (xs : List Addend) (i : ℕ) (a : Addend) → i < length xs → a ≡ get_or xs i a → AllNamed core xs → AreNamed a.variables (term_of core a.expression)
named_at core [] i a h e n = absurd (omega arith)
named_at core (x ∷ xs) zero a h e n = let s : a ≡ x = e in subst (λ (z : Addend). AreNamed z.variables (term_of core z.expression)) (sym s) n.0
named_at core (x ∷ xs) (suc i) a h e n = named_at core xs i a (omega arith) e n.1

-- one more addend, which mentions the variable or not
mentioning_next : (core : Core) (x : ℕ) (xs : List Addend) (i : ℕ) (a : Addend) → i < length xs → a ≡ get_or xs i a →
    mentioning x (plains core (take (suc i) xs)) ≡ mentioning x (plains core (take i xs)) ++ cond (term_mentions (term_of core a.expression) x) (plain core a ∷ []) []
mentioning_next core x [] i a h e = absurd (omega arith)
mentioning_next core x (z ∷ xs) zero a h e = let s : a ≡ z = e in ap (λ (y : Addend). cond (term_mentions (term_of core y.expression) x) (plain core y ∷ []) []) (sym s)
mentioning_next core x (z ∷ xs) (suc i) a h e = elim (term_mentions (term_of core z.expression) x) as (λ b.
    cond b (plain core z ∷ mentioning x (plains core (take (suc i) xs))) (mentioning x (plains core (take (suc i) xs)))
    ≡ cond b (plain core z ∷ mentioning x (plains core (take i xs))) (mentioning x (plains core (take i xs))) ++ cond (term_mentions (term_of core a.expression) x) (plain core a ∷ []) []) [
      | true ↦ ap (λ zs. plain core z ∷ zs) (mentioning_next core x xs i a (omega arith) e)
      | false ↦ mentioning_next core x xs i a (omega arith) e
    ]

-- the places of the first n addends were told
pub Finds : Core → List Addend → ℕ → ℕ → List ℕ → Type 0
Finds core xs x n places = plains core (picked xs places) ≡ mentioning x (plains core (take n xs))

pub finds_none : (core : Core) (xs : List Addend) (x : ℕ) (places : List ℕ) → places ≡ [] → Finds core xs x 0 places
unfolding Finds
finds_none core [] x places e = ap (λ ps. plains core (picked [] ps)) e
finds_none core (a ∷ xs) x places e = ap (λ ps. plains core (picked (a ∷ xs) ps)) e

told : (core : Core) (xs : List Addend) (x i : ℕ) (a : Addend) → i < length xs → a ≡ get_or xs i a → AllNamed core xs → list_any (λ y. nat_eq y x) a.variables ≡ term_mentions (term_of core a.expression) x
told core xs x i a h e n = listed_is a.variables x ∙ named_at core xs i a h e n x

pub finds_next : (core : Core) (xs : List Addend) (x i : ℕ) (a : Addend) (before now : List ℕ) → i < length xs → a ≡ get_or xs i a → AllNamed core xs → list_any (λ y. nat_eq y x) a.variables ≡ true → now ≡ before ++ i ∷ [] → Finds core xs x i before → Finds core xs x (i + 1) now
unfolding Finds
finds_next core xs x i a before now h e n t g f =
    let m : suc i ≡ i + 1 = omega arith in
    ap (λ ps. plains core (picked xs ps)) g
    ∙ ap (plains core) (picked_append xs before i ∙ ap (λ o. picked xs before ++ listed o) (get_at xs i a h e))
    ∙ plains_append core (picked xs before) (a ∷ [])
    ∙ ap (λ zs. zs ++ plain core a ∷ []) f
    ∙ ap (λ b. mentioning x (plains core (take i xs)) ++ cond b (plain core a ∷ []) []) (sym t ∙ told core xs x i a h e n)
    ∙ sym (mentioning_next core x xs i a h e)
    ∙ ap (λ k. mentioning x (plains core (take k xs))) m

pub finds_same : (core : Core) (xs : List Addend) (x i : ℕ) (a : Addend) (before : List ℕ) → i < length xs → a ≡ get_or xs i a → AllNamed core xs → list_any (λ y. nat_eq y x) a.variables ≡ false → Finds core xs x i before → Finds core xs x (i + 1) before
unfolding Finds
finds_same core xs x i a before h e n t f =
    let m : suc i ≡ i + 1 = omega arith in
    f ∙ sym (append_nothing (mentioning x (plains core (take i xs))))
    ∙ ap (λ b. mentioning x (plains core (take i xs)) ++ cond b (plain core a ∷ []) []) (sym t ∙ told core xs x i a h e n)
    ∙ sym (mentioning_next core x xs i a h e)
    ∙ ap (λ k. mentioning x (plains core (take k xs))) m

pub noted : (x at : ℕ) (vs slice before now : List ℕ) (r b : Bool) → slice ≡ vs → r ≡ list_any (λ y. nat_eq y x) slice → r ≡ b → Notes b at before now → Notes (lists vs x) at before now
noted x at vs slice before now r b e h k n = subst (λ c. Notes c at before now) (sym k ∙ h ∙ ap (list_any (λ y. nat_eq y x)) e ∙ listed_is vs x) n

pub finds_noted : (core : Core) (xs : List Addend) (x i : ℕ) (a : Addend) (before now : List ℕ) → i < length xs → a ≡ get_or xs i a → AllNamed core xs → Notes (lists a.variables x) i before now → Finds core xs x i before → Finds core xs x (i + 1) now
finds_noted core xs x i a before now h e n t f = elim (lists a.variables x) as (λ b. lists a.variables x ≡ b → Notes b i before now → Finds core xs x (i + 1) now) [
  | true ↦ λ k m. finds_next core xs x i a before now h e n (listed_is a.variables x ∙ k) m f
  | false ↦ λ k m. subst (Finds core xs x (i + 1)) (sym m) (finds_same core xs x i a before h e n (listed_is a.variables x ∙ k) f)
] refl t

take_whole : {X : Type 0} (xs : List X) (n : ℕ) → length xs ≤ n → take n xs ≡ xs
take_whole [] zero h = refl
take_whole [] (suc n) h = refl
take_whole (x ∷ xs) zero h = absurd (omega arith)
take_whole (x ∷ xs) (suc n) h = ap (λ ys. x ∷ ys) (take_whole xs n (omega arith))

pub finds_all : (core : Core) (xs : List Addend) (x n : ℕ) (m : Mention) → length xs ≤ n → m.variable ≡ x → Finds core xs x n m.places → IsMentionOf core xs x m
unfolding Finds
finds_all core xs x n m h v f = record {
  is = v;
  mention = f ∙ ap (λ ys. mentioning x (plains core ys)) (take_whole xs n h) ∙ ap (λ y. mentioning y (plains core xs)) (sym v);
}

-- ---- a mention of each variable

pub AreFirst : Core → List Addend → List ℕ → ℕ → List Mention → Type 0
AreFirst core addends xs n ms = AreMentionsOf core addends (take n xs) ms

pub mentions_none : (core : Core) (addends : List Addend) (xs : List ℕ) (ms : List Mention) → ms ≡ [] → AreFirst core addends xs 0 ms
unfolding AreFirst
mentions_none core addends [] ms e = record { are = ap variables e; each = subst (AreMentions core addends) (sym e) tt }
mentions_none core addends (x ∷ xs) ms e = record { are = ap variables e; each = subst (AreMentions core addends) (sym e) tt }

variables_append : (ms : List Mention) (m : Mention) → variables (ms ++ m ∷ []) ≡ variables ms ++ m.variable ∷ []
variables_append [] m = refl
variables_append (l ∷ ms) m = ap (λ zs. l.variable ∷ zs) (variables_append ms m)

mentions_append : (core : Core) (addends : List Addend) (ms : List Mention) (m : Mention) → AreMentions core addends ms → IsMention core addends m → AreMentions core addends (ms ++ m ∷ [])
mentions_append core addends [] m h k = (k, tt)
mentions_append core addends (l ∷ ms) m h k = (h.0, mentions_append core addends ms m h.1 k)

take_next : (xs : List ℕ) (i x : ℕ) → i < length xs → x ≡ get_or xs i x → take (suc i) xs ≡ take i xs ++ x ∷ []
take_next [] i x h e = absurd (omega arith)
take_next (y ∷ xs) zero x h e = ap (λ z. z ∷ []) (sym e)
take_next (y ∷ xs) (suc i) x h e = ap (λ zs. y ∷ zs) (take_next xs i x (omega arith) e)

pub mentions_next : (core : Core) (addends : List Addend) (xs : List ℕ) (i x : ℕ) (m : Mention) (before now : List Mention) → i < length xs → x ≡ get_or xs i x → now ≡ before ++ m ∷ [] → IsMentionOf core addends x m → AreFirst core addends xs i before → AreFirst core addends xs (i + 1) now
unfolding AreFirst
mentions_next core addends xs i x m before now h e g k a =
    let n : suc i ≡ i + 1 = omega arith in
    record {
      are =
          ap variables g ∙ variables_append before m ∙ ap (λ zs. zs ++ m.variable ∷ []) a.are ∙ ap (λ y. take i xs ++ y ∷ []) k.is
          ∙ sym (take_next xs i x h e) ∙ ap (λ j. take j xs) n;
      each = subst (AreMentions core addends) (sym g) (mentions_append core addends before m a.each k.mention);
    }

pub mentions_at : (core : Core) (addends : List Addend) (xs : List ℕ) (i : ℕ) (m : Mention) (before now : List Mention) → i < length xs → now ≡ before ++ m ∷ [] → IsMentionOf core addends (get_or xs i 0) m → AreFirst core addends xs i before → AreFirst core addends xs (i + 1) now
mentions_at core addends xs i m before now h g k a = mentions_next core addends xs i (get_or xs i 0) m before now h (any_default xs i 0 (get_or xs i 0) h) g k a

pub mentions_all : (core : Core) (addends : List Addend) (xs : List ℕ) (n : ℕ) (ms : List Mention) → length xs ≤ n → AreFirst core addends xs n ms → AreMentionsOf core addends xs ms
unfolding AreFirst
mentions_all core addends xs n ms h a = record { are = a.are ∙ take_whole xs n h; each = a.each }
