-- The values of one variable, and those of the variables that two lists share, tried one after another.
use Rattle.std.proofs.Common.{◌≡◌, ◌∙◌, ℕ, zero, suc, ◌+◌, ◌<◌, ◌≤◌, Bool, true, false, ◌||◌, refl, List, [], ◌∷◌, length, get_or, take, ℤ, ◌≤ℤ◌, inl, inr, ap, sym, subst, arith}
use Rattle.std.specs.Prelude.{Option, Some, None, nat_eq}
use Rattle.std.specs.List.{list_any}
use Rattle.std.proofs.lemmas.Bool.{or_cases}
use Rattle.std.proofs.lemmas.Bool.Decides.{Decides-eqb}
use Rattle.opl_domain.specs.Family.{member, Family, IsLeast, IsLeastAbove, set_of, has, only}
use Rattle.opl_trace.specs.Removals.{DeadValue}
use Rattle.opl_trace.specs.Sweeps.{size}
use Rattle.opl_trace.proofs.Passing.{false_unless, or_right}
use Rattle.opl_trace.proofs.Removals.{Passed, passed_first, passed_next, passed_all, cut_smaller}
use Rattle.opl_filter.specs.Mentions.{lists}
use Rattle.opl_filter.specs.Filtering.{IsLeftOf}
use Rattle.opl_filter.specs.Rounds.{IsStuck, TriesValue, TriesValues}
use Rattle.opl_filter.proofs.Removals.{left_self, left_one, left_join, left_below}
use Rattle.opl_reify.specs.Rounds.{TriesIfListed, TriesShared}

-- nothing has gone and some values are known to be spared, or the family has shrunk
abbrev SoFar : Family → Family → Type 0 → Bool → Type 0
SoFar D F Spared false = (F ≡ D) × Spared
SoFar D F Spared true = size F < size D

-- the values of x below v were tried
pub record Trying (dead : Family → Bool) (D F : Family) (x : ℕ) (v : ℤ) (removed : Bool) : Type 0 where
  pub removals : IsLeftOf dead D F
  pub value : has F x v ≡ true
  pub so_far : SoFar D F (Passed dead D x v) removed

pub trying_first : (dead : Family → Bool) (D : Family) (x : ℕ) (v : ℤ) → IsLeast (set_of D x) v → Trying dead D D x v false
trying_first dead D x v l = record { removals = left_self dead D; value = l.among; so_far = (refl, passed_first dead D x v l) }

left_tried : (dead : Family → Bool) (F G : Family) (x : ℕ) (v : ℤ) (r : Bool) → TriesValue dead F G x v (Some r) → IsLeftOf dead F G
left_tried dead F G x v false t = subst (λ H. IsLeftOf dead F H) (sym t.0) (left_self dead F)
left_tried dead F G x v true t = subst (λ H. IsLeftOf dead F H) (sym t.0) (left_one dead F x v t.1)

-- the variable is still there
pub tried_variable : (dead : Family → Bool) (F G : Family) (x y : ℕ) (v : ℤ) (r : Bool) → TriesValue dead F G x v (Some r) → y < length F → y < length G
tried_variable dead F G x y v r t h = omega (arith, (left_below dead F G (left_tried dead F G x v r t)).same, h)

smaller_tried : (dead : Family → Bool) (F G : Family) (x : ℕ) (v : ℤ) → TriesValue dead F G x v (Some true) → size G < size F
smaller_tried dead F G x v t = subst (λ H. size H < size F) (sym t.0) (cut_smaller F x v t.1.dead_value.value)

next_so_far : (dead : Family → Bool) (D F G : Family) (x : ℕ) (v w : ℤ) (b r : Bool) → SoFar D F (Passed dead D x v) b → TriesValue dead F G x v (Some r) → IsLeastAbove (set_of G x) v w → SoFar D G (Passed dead D x w) (b || r)
next_so_far dead D F G x v w false false s t l =
    let e : G ≡ D = t.0 ∙ s.0 in (
      e,
      passed_next dead D x v w s.1 (subst (λ H. dead (only H x v) ≡ false) s.0 t.1) (subst (λ H. IsLeastAbove (set_of H x) v w) e l),
    )
next_so_far dead D F G x v w false true s t l = subst (λ H. size G < size H) s.0 (smaller_tried dead F G x v t)
next_so_far dead D F G x v w true false s t l = subst (λ H. size H < size D) (sym t.0) s
next_so_far dead D F G x v w true true s t l = omega (arith, s, smaller_tried dead F G x v t)

pub trying_next : (dead : Family → Bool) (D F G : Family) (x : ℕ) (v w : ℤ) (b r : Bool) → Trying dead D F x v b → TriesValue dead F G x v (Some r) → IsLeastAbove (set_of G x) v w → Trying dead D G x w (b || r)
trying_next dead D F G x v w b r s t l = record {
  removals = left_join dead D F G s.removals (left_tried dead F G x v r t);
  value = l.among;
  so_far = next_so_far dead D F G x v w b r s.so_far t l;
}

pub trying_end : (dead : Family → Bool) (D F G : Family) (x : ℕ) (v : ℤ) (b r : Bool) → Trying dead D F x v b → TriesValue dead F G x v (Some r) → ((w : ℤ) → member w (set_of G x) ≡ true → w ≤ℤ v) → TriesValues dead D G x (Some (b || r))
trying_end dead D F G x v false false s t l =
    let e : G ≡ D = t.0 ∙ s.so_far.0 in (
      e,
      passed_all dead D x v s.so_far.1 (subst (λ H. dead (only H x v) ≡ false) s.so_far.0 t.1) (subst (λ H. (w : ℤ) → member w (set_of H x) ≡ true → w ≤ℤ v) e l),
    )
trying_end dead D F G x v false true s t l = record {
  removals = left_join dead D F G s.removals (left_tried dead F G x v true t);
  smaller = subst (λ H. size G < size H) s.so_far.0 (smaller_tried dead F G x v t);
}
trying_end dead D F G x v true false s t l = record {
  removals = left_join dead D F G s.removals (left_tried dead F G x v false t);
  smaller = subst (λ H. size H < size D) (sym t.0) s.so_far;
}
trying_end dead D F G x v true true s t l = record {
  removals = left_join dead D F G s.removals (left_tried dead F G x v true t);
  smaller = omega (arith, s.so_far, smaller_tried dead F G x v t);
}

pub stuck_later : (dead : Family → Bool) (D F G : Family) → IsLeftOf dead D F → IsStuck dead F G → IsStuck dead D G
stuck_later dead D F G a s = record { removals = left_join dead D F G a s.removals; variable = s.variable; value = s.value; last_value = s.last_value }

pub trying_stuck : (dead : Family → Bool) (D F G : Family) (x : ℕ) (v : ℤ) → IsLeftOf dead D F → TriesValue dead F G x v None → IsStuck dead D G
trying_stuck dead D F G x v a t = subst (λ H. IsStuck dead D H) (sym t.0) (record { removals = a; variable = x; value = v; last_value = t.1 })

-- ---- a variable that another list may have

same_either_way : (x y : ℕ) → nat_eq x y ≡ nat_eq y x
same_either_way x y = elim (nat_eq x y) as (λ b. nat_eq x y ≡ b → b ≡ nat_eq y x) [
  | true ↦ λ e. sym ((Decides-eqb y x).1 (sym ((Decides-eqb x y).0 e)))
  | false ↦ λ e. sym (false_unless (nat_eq y x) (λ h. let k = (Decides-eqb x y).1 (sym ((Decides-eqb y x).0 h)) in cc))
] refl

pub listed_is : (xs : List ℕ) (x : ℕ) → list_any (λ y. nat_eq y x) xs ≡ lists xs x
listed_is [] x = refl
listed_is (y ∷ xs) x = ap (λ b. b || list_any (λ z. nat_eq z x) xs) (same_either_way y x) ∙ ap (λ b. nat_eq x y || b) (listed_is xs x)

pub not_listed : (dead : Family → Bool) (others : List ℕ) (D F : Family) (x : ℕ) → F ≡ D → lists others x ≡ false → TriesIfListed dead others D F x (Some false)
not_listed dead others D F x e h = (e, λ k. let n = h in cc)

pub if_listed : (dead : Family → Bool) (others : List ℕ) (D F : Family) (x : ℕ) (o : Option Bool) → TriesValues dead D F x o → TriesIfListed dead others D F x o
if_listed dead others D F x None t = t
if_listed dead others D F x (Some false) t = (t.0, λ k. t.1)
if_listed dead others D F x (Some true) t = t

-- ---- all variables of a list that another one has

or_none : (b : Bool) → b ≡ (b || false)
or_none true = refl
or_none false = refl

or_again : (a b c : Bool) → ((a || b) || c) ≡ (a || (b || c))
or_again true b c = refl
or_again false b c = refl

lists_next : (xs : List ℕ) (i y : ℕ) → i < length xs → lists (take (suc i) xs) y ≡ (lists (take i xs) y || nat_eq y (get_or xs i 0))
lists_next [] i y h = absurd (omega arith)
lists_next (x ∷ xs) zero y h = sym (or_none (nat_eq y x))
lists_next (x ∷ xs) (suc i) y h = ap (λ b. nat_eq y x || b) (lists_next xs i y (omega arith)) ∙ sym (or_again (nat_eq y x) (lists (take i xs) y) (nat_eq y (get_or xs i 0)))

lists_whole : (xs : List ℕ) (n y : ℕ) → length xs ≤ n → lists (take n xs) y ≡ lists xs y
lists_whole [] zero y h = refl
lists_whole [] (suc n) y h = refl
lists_whole (x ∷ xs) zero y h = absurd (omega arith)
lists_whole (x ∷ xs) (suc n) y h = ap (λ b. nat_eq y x || b) (lists_whole xs n y (omega arith))

listed_first : (x : ℕ) (b : Bool) → (nat_eq x x || b) ≡ true
listed_first x b = ap (λ c. c || b) ((Decides-eqb x x).1 refl)

pub listed_at : (xs : List ℕ) (i : ℕ) → i < length xs → lists xs (get_or xs i 0) ≡ true
listed_at [] i h = absurd (omega arith)
listed_at (x ∷ xs) zero h = listed_first x (lists xs x)
listed_at (x ∷ xs) (suc i) h = or_right (nat_eq (get_or xs i 0) x) (lists xs (get_or xs i 0)) (listed_at xs i (omega arith))

-- no value of the first n variables of the list, so far as the other one has them, is dead
abbrev PassedShared : (Family → Bool) → List ℕ → List ℕ → Family → ℕ → Type 0
PassedShared dead variables others D n = (y : ℕ) (v : ℤ) → lists (take n variables) y ≡ true → lists others y ≡ true → has D y v ≡ true → dead (only D y v) ≡ false

-- the first n variables of the list were gone through
pub record TryingShared (dead : Family → Bool) (variables others : List ℕ) (D F : Family) (n : ℕ) (removed : Bool) : Type 0 where
  pub removals : IsLeftOf dead D F
  pub so_far : SoFar D F (PassedShared dead variables others D n) removed

none_first : (variables : List ℕ) (y : ℕ) → lists (take 0 variables) y ≡ false
none_first [] y = refl
none_first (x ∷ variables) y = refl

pub shared_first : (dead : Family → Bool) (variables others : List ℕ) (D : Family) → TryingShared dead variables others D D 0 false
shared_first dead variables others D = record { removals = left_self dead D; so_far = (refl, λ y v h k m. let n = none_first variables y in cc) }

left_shared : (dead : Family → Bool) (others : List ℕ) (F G : Family) (x : ℕ) (r : Bool) → TriesIfListed dead others F G x (Some r) → IsLeftOf dead F G
left_shared dead others F G x false t = subst (λ H. IsLeftOf dead F H) (sym t.0) (left_self dead F)
left_shared dead others F G x true t = t.removals

passed_one_more : (dead : Family → Bool) (variables others : List ℕ) (D : Family) (n : ℕ) → n < length variables → PassedShared dead variables others D n
    → (lists others (get_or variables n 0) ≡ true → DeadValue dead D (get_or variables n 0) None) → PassedShared dead variables others D (n + 1)
passed_one_more dead variables others D n k p d y v h l m =
    let e : n + 1 ≡ suc n = omega arith in
    let i = sym (lists_next variables n y k) ∙ subst (λ j. lists (take j variables) y ≡ true) e h in
    elim (or_cases (lists (take n variables) y) (nat_eq y (get_or variables n 0)) i) [
      | inl a ↦ p y v a l m
      | inr b ↦
          let s : y ≡ get_or variables n 0 = (Decides-eqb y (get_or variables n 0)).0 b in
          subst (λ z. dead (only D z v) ≡ false) (sym s) (d (subst (λ z. lists others z ≡ true) s l) v (subst (λ z. has D z v ≡ true) s m))
    ]

shared_so_far : (dead : Family → Bool) (variables others : List ℕ) (D F G : Family) (n : ℕ) (b r : Bool) → n < length variables → SoFar D F (PassedShared dead variables others D n) b
    → TriesIfListed dead others F G (get_or variables n 0) (Some r) → SoFar D G (PassedShared dead variables others D (n + 1)) (b || r)
shared_so_far dead variables others D F G n false false k s t =
    (t.0 ∙ s.0, passed_one_more dead variables others D n k s.1 (λ l. subst (λ H. DeadValue dead H (get_or variables n 0) None) s.0 (t.1 l)))
shared_so_far dead variables others D F G n false true k s t = subst (λ H. size G < size H) s.0 t.smaller
shared_so_far dead variables others D F G n true false k s t = subst (λ H. size H < size D) (sym t.0) s
shared_so_far dead variables others D F G n true true k s t = omega (arith, s, t.smaller)

pub shared_next : (dead : Family → Bool) (variables others : List ℕ) (D F G : Family) (n : ℕ) (b r : Bool) → n < length variables → TryingShared dead variables others D F n b
    → TriesIfListed dead others F G (get_or variables n 0) (Some r) → TryingShared dead variables others D G (n + 1) (b || r)
shared_next dead variables others D F G n b r k s t = record {
  removals = left_join dead D F G s.removals (left_shared dead others F G (get_or variables n 0) r t);
  so_far = shared_so_far dead variables others D F G n b r k s.so_far t;
}

pub shared_end : (dead : Family → Bool) (variables others : List ℕ) (D F : Family) (n : ℕ) (b : Bool) → TryingShared dead variables others D F n b → length variables ≤ n → TriesShared dead variables others D F (Some b)
shared_end dead variables others D F n false s e = (s.so_far.0, λ y v h l m. s.so_far.1 y v (lists_whole variables n y e ∙ h) l m)
shared_end dead variables others D F n true s e = record { removals = s.removals; smaller = s.so_far }

pub shared_stuck : (dead : Family → Bool) (variables others : List ℕ) (D F G : Family) (o : Option Bool) → IsLeftOf dead D F → IsStuck dead F G → o ≡ None → TriesShared dead variables others D G o
shared_stuck dead variables others D F G o a s e = subst (λ p. TriesShared dead variables others D G p) (sym e) (stuck_later dead D F G a s)
