-- The sum of the greatest values is the same over families that agree on the variables.
use Rattle.std.proofs.Common.{◌≡◌, ◌∙◌, ℕ, Bool, true, false, ◌||◌, refl, List, [], ◌∷◌, map, ℤ, ap, arith}
use Rattle.std.specs.Prelude.{nat_eq, Option, Some, None}
use Rattle.opl_domain.specs.Family.{Family, set_of, hull}
use Rattle.opl_expr.specs.Forms.{Term, Fact, terms_of}
use Rattle.opl_filter.specs.Mentions.{mentions, terms_mention, lists}
use Rattle.opl_filter.specs.Fresh.{AgreeOn}
use Rattle.opl_sum_filter.specs.Sums.{total_most, at_most_limit, IsMost}

lists_first : (x : ℕ) (xs : List ℕ) → lists (x ∷ xs) x ≡ true
lists_first x xs = let e : nat_eq x x ≡ true = grind arith in rw e refl

lists_later : (x y : ℕ) (xs : List ℕ) → lists xs y ≡ true → lists (x ∷ xs) y ≡ true
lists_later x y xs h = either (nat_eq y x) (lists xs y) h
  where
    either : (a b : Bool) → b ≡ true → (a || b) ≡ true
    either true b h = refl
    either false b h = h

same_sums : (F G : Family) (xs : List ℕ) → ((y : ℕ) → lists xs y ≡ true → set_of F y ≡ set_of G y) → total_most F xs ≡ total_most G xs
unfolding hull
same_sums F G [] h = refl
same_sums F G (x ∷ xs) h = rw (h x (lists_first x xs), same_sums F G xs (λ y l. h y (lists_later x y xs l))) refl

terms_list : (xs : List ℕ) (y : ℕ) → terms_mention (terms_of (map Term.var xs)) y ≡ lists xs y
terms_list [] y = refl
terms_list (x ∷ xs) y = ap (λ b. nat_eq y x || b) (terms_list xs y)

mentioned : (xs : List ℕ) (k : ℤ) (y : ℕ) → lists xs y ≡ true → mentions (at_most_limit xs k) y ≡ true
mentioned xs k y h = ap (λ b. b || false) (terms_list xs y ∙ h)

pub agreeing : (m : Option ℤ) (F G : Family) (xs : List ℕ) (k : ℤ) (c : Fact) → c ≡ at_most_limit xs k → AgreeOn (mentions c) F G → IsMost m F xs → IsMost m G xs
agreeing None F G xs k c e a i = tt
agreeing (Some s) F G xs k c e a i = i ∙ same_sums F G xs (λ y h. a.sets y (ap (λ d. mentions d y) e ∙ mentioned xs k y h))
