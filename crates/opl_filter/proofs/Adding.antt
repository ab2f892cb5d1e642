-- Variables that are added to a list, one after another.
use Rattle.std.proofs.Common.{◌≡◌, ◌∙◌, ℕ, zero, suc, ◌+◌, ◌<◌, ◌≤◌, Bool, true, false, ◌||◌, refl, List, [], ◌∷◌, ◌++◌, map, length, get_or, take, ℤ, pos, Ok, Err, ap, sym, subst, arith, eqb}
use Rattle.std.specs.Prelude.{IfOk, Option, Some, None, nat_eq}
use Rattle.std.specs.declared.result.Result.{Result}
use Rattle.std.specs.List.{list_any}
use Rattle.std.proofs.lemmas.Bool.Decides.{Decides-eqb}
use Rattle.opl_expr.specs.declared.forms.Op.{Op}
use Rattle.opl_expr.specs.declared.forms.Op.TheVariants.{Eq, Ne, Lt, Le, Gt, Ge}
use Rattle.opl_expr.specs.declared.tables.Use.{Use}
use Rattle.opl_expr.specs.declared.tables.Cell.{Cell}
use Rattle.opl_expr.specs.declared.tables.Resource.{Resource}
use Rattle.opl_expr.specs.Forms.{Relation, Term, Terms, Fact, Facts, terms_of, facts_of, compared, product, demand_at, capacity_at}
use Rattle.opl_expr.specs.Forms.Relation.{equal}
use Rattle.opl_expr.specs.Forms.Facts.{no_facts, more_facts}
use Rattle.opl_expr.proofs.Parts.{product_cases, any_default}
use Rattle.opl_filter.specs.Mentions.{cell_mentions, cells_mention, use_mentions, uses_mention, resource_mentions, term_mentions, terms_mention, mentions, facts_mention, lists, Adds}

-- ---- truth values

pub or_none : (b : Bool) → b ≡ (b || false)
or_none true = refl
or_none false = refl

pub or_again : (a b c : Bool) → ((a || b) || c) ≡ (a || (b || c))
or_again true b c = refl
or_again false b c = refl

or_turned : (a b : Bool) → (a || b) ≡ (b || a)
or_turned true true = refl
or_turned true false = refl
or_turned false true = refl
or_turned false false = refl

or_there : (a b : Bool) → b ≡ true → a ≡ (a || b) → a ≡ true
or_there true b h e = refl
or_there false b h e = e ∙ h

same_as_self : (x : ℕ) → nat_eq x x ≡ true
same_as_self x = (Decides-eqb x x).1 refl

-- ---- lists

lists_more : (xs : List ℕ) (x y : ℕ) → lists (xs ++ x ∷ []) y ≡ (lists xs y || nat_eq y x)
lists_more [] x y = sym (or_none (nat_eq y x))
lists_more (z ∷ xs) x y = ap (λ b. nat_eq y z || b) (lists_more xs x y) ∙ sym (or_again (nat_eq y z) (lists xs y) (nat_eq y x))

pub adds_last : (A B : List ℕ) (x : ℕ) → B ≡ A ++ x ∷ [] → Adds (λ y. nat_eq y x) A B
adds_last A B x e y = ap (λ xs. lists xs y) e ∙ lists_more A x y

listed : (xs : List ℕ) (x : ℕ) → list_any (λ y. nat_eq y x) xs ≡ true → lists xs x ≡ true
listed [] x h = h
listed (z ∷ xs) x h = elim (nat_eq z x) as (λ b. nat_eq z x ≡ b → lists (z ∷ xs) x ≡ true) [
  | true ↦ λ e. let s : z ≡ x = (Decides-eqb z x).0 e in ap (λ b. b || lists xs x) ((Decides-eqb x z).1 (sym s))
  | false ↦ λ e. ap (λ b. nat_eq x z || b) (listed xs x (subst (λ b. (b || list_any (λ y. nat_eq y x) xs) ≡ true) e h)) ∙ or_true (nat_eq x z)
] refl
  where
    or_true : (b : Bool) → (b || true) ≡ true
    or_true true = refl
    or_true false = refl

adds_nothing : (a b : Bool) → (b ≡ true → a ≡ true) → a ≡ (a || b)
adds_nothing true b h = refl
adds_nothing false true h = h refl
adds_nothing false false h = refl

pub adds_listed : (A B : List ℕ) (x : ℕ) → B ≡ A → list_any (λ y. nat_eq y x) B ≡ true → Adds (λ y. nat_eq y x) A A
adds_listed A B x e h y = adds_nothing (lists A y) (nat_eq y x) (λ s.
    let i : y ≡ x = (Decides-eqb y x).0 s in
    subst (λ z. lists A z ≡ true) (sym i) (listed A x (subst (λ xs. list_any (λ z. nat_eq z x) xs ≡ true) e h)))

-- ---- one after another

pub adds_none : (p : ℕ → Bool) (A : List ℕ) → ((y : ℕ) → p y ≡ false) → Adds p A A
adds_none p A h y = or_none (lists A y) ∙ ap (λ b. lists A y || b) (sym (h y))

pub adds_both : (p q s : ℕ → Bool) (A B C : List ℕ) → ((y : ℕ) → (p y || q y) ≡ s y) → Adds p A B → Adds q B C → Adds s A C
adds_both p q s A B C e h k y = k y ∙ ap (λ b. b || q y) (h y) ∙ or_again (lists A y) (p y) (q y) ∙ ap (λ b. lists A y || b) (e y)

pub ok_both : {E : Type 0} (r : Result (Unit {0}) E) (p q s : ℕ → Bool) (A B C : List ℕ) → ((y : ℕ) → (p y || q y) ≡ s y) → Adds p A B → IfOk r (λ u. Adds q B C) → IfOk r (λ u. Adds s A C)
ok_both (Ok u) p q s A B C e h k = adds_both p q s A B C e h k
ok_both (Err f) p q s A B C e h k = k

pub ok_same : {E : Type 0} (r : Result (Unit {0}) E) (p q : ℕ → Bool) (A B : List ℕ) → ((y : ℕ) → p y ≡ q y) → IfOk r (λ u. Adds p A B) → IfOk r (λ u. Adds q A B)
ok_same (Ok u) p q A B e h = λ y. h y ∙ ap (λ b. lists A y || b) (e y)
ok_same (Err f) p q A B e h = h

-- ---- loops

-- the first n elements have been gone through
abbrev pub AddsFirst : {X : Type 0} → (X → ℕ → Bool) → List X → ℕ → List ℕ → List ℕ → Type 0
AddsFirst p xs n A B = Adds (λ y. list_any (λ x. p x y) (take n xs)) A B

pub first_none : {X : Type 0} (p : X → ℕ → Bool) (xs : List X) (A : List ℕ) → AddsFirst p xs 0 A A
first_none p [] A = adds_none (λ y. false) A (λ y. refl)
first_none p (x ∷ xs) A = adds_none (λ y. false) A (λ y. refl)

any_next : {X : Type 0} (q : X → Bool) (xs : List X) (i : ℕ) (x : X) → i < length xs → x ≡ get_or xs i x → (list_any q (take i xs) || q x) ≡ list_any q (take (suc i) xs)
any_next q [] i x h e = absurd (omega arith)
any_next q (z ∷ xs) zero x h e = ap q e ∙ or_none (q z)
any_next q (z ∷ xs) (suc i) x h e = or_again (q z) (list_any q (take i xs)) (q x) ∙ ap (λ b. q z || b) (any_next q xs i x (omega arith) e)

pub first_next : {X : Type 0} (p : X → ℕ → Bool) (xs : List X) (i : ℕ) (x : X) (A B C : List ℕ) → i < length xs → x ≡ get_or xs i x → AddsFirst p xs i A B → Adds (p x) B C → AddsFirst p xs (i + 1) A C
first_next p xs i x A B C h e s k =
    let n : suc i ≡ i + 1 = omega arith in
    subst (λ m. AddsFirst p xs m A C) n
    (adds_both (λ y. list_any (λ z. p z y) (take i xs)) (p x) (λ y. list_any (λ z. p z y) (take (suc i) xs)) A B C (λ y. any_next (λ z. p z y) xs i x h e) s k)

pub first_at : {X : Type 0} (p : X → ℕ → Bool) (xs : List X) (i : ℕ) (d : X) (A B C : List ℕ) → i < length xs → AddsFirst p xs i A B → Adds (p (get_or xs i d)) B C → AddsFirst p xs (i + 1) A C
first_at p xs i d A B C h s k = first_next p xs i (get_or xs i d) A B C h (any_default xs i d (get_or xs i d) h) s k

any_whole : {X : Type 0} (q : X → Bool) (xs : List X) (n : ℕ) → length xs ≤ n → list_any q (take n xs) ≡ list_any q xs
any_whole q [] zero h = refl
any_whole q [] (suc n) h = refl
any_whole q (x ∷ xs) zero h = absurd (omega arith)
any_whole q (x ∷ xs) (suc n) h = ap (λ b. q x || b) (any_whole q xs n (omega arith))

pub first_all : {X : Type 0} (p : X → ℕ → Bool) (s : ℕ → Bool) (xs : List X) (n : ℕ) (A B : List ℕ) → ((y : ℕ) → list_any (λ x. p x y) xs ≡ s y) → length xs ≤ n → AddsFirst p xs n A B → Adds s A B
first_all p s xs n A B e h k y = k y ∙ ap (λ b. lists A y || b) (any_whole (λ x. p x y) xs n h ∙ e y)

pub any_cells : (cells : List Cell) (y : ℕ) → list_any (λ c. cell_mentions c y) cells ≡ cells_mention cells y
any_cells [] y = refl
any_cells (c ∷ cells) y = ap (λ b. cell_mentions c y || b) (any_cells cells y)

pub any_uses : (uses : List Use) (y : ℕ) → list_any (λ u. use_mentions u y) uses ≡ uses_mention uses y
any_uses [] y = refl
any_uses (u ∷ uses) y = ap (λ b. use_mentions u y || b) (any_uses uses y)

pub any_terms : {X : Type 0} (f : X → Term) (xs : List X) (y : ℕ) → list_any (λ x. term_mentions (f x) y) xs ≡ terms_mention (terms_of (map f xs)) y
any_terms f [] y = refl
any_terms f (x ∷ xs) y = ap (λ b. term_mentions (f x) y || b) (any_terms f xs y)

pub any_facts : {X : Type 0} (f : X → Fact) (xs : List X) (y : ℕ) → list_any (λ x. mentions (f x) y) xs ≡ facts_mention (facts_of (map f xs)) y
any_facts f [] y = refl
any_facts f (x ∷ xs) y = ap (λ b. mentions (f x) y || b) (any_facts f xs y)

-- ---- forms that are short for others

pub in_product : (s t : Term) (y : ℕ) → (term_mentions s y || term_mentions t y) ≡ term_mentions (product s t) y
in_product s t y =
    product_cases (λ s t p. (term_mentions s y || term_mentions t y) ≡ term_mentions p y) (λ k t. refl) (λ s k. sym (or_none (term_mentions s y))) (λ s t. refl) s t

pub in_compared : (op : Op) (s t : Term) (y : ℕ) → (term_mentions s y || term_mentions t y) ≡ mentions (compared op s t) y
in_compared Eq s t y = refl
in_compared Ne s t y = refl
in_compared Lt s t y = refl
in_compared Le s t y = refl
in_compared Gt s t y = or_turned (term_mentions s y) (term_mentions t y)
in_compared Ge s t y = or_turned (term_mentions s y) (term_mentions t y)

pub in_implied : (c d : Fact) (y : ℕ) → (mentions c y || mentions d y) ≡ mentions (Fact.or (more_facts (Fact.not c) (more_facts d no_facts))) y
in_implied c d y = ap (λ b. mentions c y || b) (or_none (mentions d y))

active : (s d : Bool) → (s || d) ≡ ((s || false) || ((false || (s || (d || false))) || false))
active true d = refl
active false true = refl
active false false = refl

demanded : (t : ℤ) (uses : List Use) (y : ℕ) → uses_mention uses y ≡ terms_mention (terms_of (map (demand_at t) uses)) y
demanded t [] y = refl
demanded t (u ∷ uses) y = ap (λ b. b || uses_mention uses y) (active (nat_eq y u.start) (nat_eq y u.duration)) ∙ ap (λ b. term_mentions (demand_at t u) y || b) (demanded t uses y)

pub in_capacity : (r : Option Resource) (t : ℤ) (y : ℕ) → resource_mentions r y ≡ mentions (capacity_at r t) y
in_capacity None t y = refl
in_capacity (Some r) t y = demanded t r.uses y ∙ or_none (terms_mention (terms_of (map (demand_at t) r.uses)) y)
