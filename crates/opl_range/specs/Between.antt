-- The difference of two expressions of a core: the linear form on which a comparison is decided.
use Rattle.std.specs.Prelude.{◌≡◌, ◌≢◌, ◌↔◌, ℕ, ◌<◌, max, Bool, cond, ◌&&◌, ◌||◌, List, [], ◌∷◌, ℤ, pos, negsuc, ◌+ℤ◌, ◌*ℤ◌, neg_ℤ, Option, Some, None}
use Rattle.std.specs.List.{list_any}
use Rattle.std.specs.Ordering.{int_eq}
use Rattle.opl_domain.specs.Span.{Span}
use Rattle.opl_domain.specs.Arithmetic.{span_add, span_neg}
use Rattle.opl_domain.specs.Family.{Family, set_of, has}
use Rattle.opl_expr.specs.declared.model.Core.{Core}
use Rattle.opl_expr.specs.declared.forms.Expr.{Expr}
use Rattle.opl_expr.specs.Forms.{Relation, Term, Fact, term}
use Rattle.opl_expr.specs.Options.{lift, lift1, combined}
use Rattle.opl_expr.specs.Range.{Linear, coef, pure, rest, is_one_or_two, has_zero}
use Rattle.opl_expr.specs.Sound.{IsSoundFact}

-- an expression as plain data, with the tables of the core
abbrev pub term_of : Core → Expr → Term
term_of core e = term core.tables core.resources e

-- the coefficient of each variable in a minus b
unfoldable pub between : Core → Expr → Expr → ℕ → ℤ
between core a b x = coef (term_of core a) x +ℤ neg_ℤ (coef (term_of core b) x)

-- neither has a part that isn't linear
abbrev pub is_pure_between : Core → Expr → Expr → Bool
is_pure_between core a b = pure (term_of core a) && pure (term_of core b)

-- the constant of a minus b, plus the scaled ranges of their parts that aren't linear
abbrev pub rest_between : Family → Core → Expr → Expr → Option Span
rest_between F core a b = lift span_add (rest F (term_of core a)) (lift1 span_neg (rest F (term_of core b)))

-- the linear form of an expression
abbrev pub linear_of : Family → Term → Linear
linear_of F t = record { coef = coef t; pure = pure t; rest = rest F t }

-- all values of a list, with a result r behind the last
abbrev pub joined_onto : {A : Type 0} → (A → A → A) → List A → Option A → Option A
joined_onto f [] r = r
joined_onto f (a ∷ others) r = Some (combined f a (joined_onto f others r))

-- a comparison of both is sound
abbrev pub CanCompare : Core → Expr → Expr → Type 0
CanCompare core a b = IsSoundFact core.sets (Fact.cmp Relation.equal (term_of core a) (term_of core b))

-- x is one of the first n variables, and no later one of these has a coefficient other than 0
pub record EndsAt (c : ℕ → ℤ) (n x : ℕ) : Type 0 where
  pub below : x < n
  pub behind : (y : ℕ) → x < y → y < n → c y ≡ pos 0

-- no variable behind this one, of the first n, has a coefficient other than 0; where there is none, no variable has
abbrev pub Ends : (ℕ → ℤ) → ℕ → Option ℕ → Type 0
Ends c n None = (y : ℕ) → y < n → c y ≡ pos 0
Ends c n (Some x) = EndsAt c n x

-- the later of two variables, of which each may be missing
abbrev pub later : Option ℕ → Option ℕ → Option ℕ
later None y = y
later (Some x) None = Some x
later (Some x) (Some y) = Some (max x y)

-- x is the last of the first n variables whose coefficient isn't 0
pub record IsLastVariable (c : ℕ → ℤ) (n x : ℕ) : Type 0 where
  pub below : x < n
  pub nonzero : c x ≢ pos 0
  pub behind : (y : ℕ) → x < y → y < n → c y ≡ pos 0

-- the last of the first n variables whose coefficient isn't 0, with that coefficient, or none
abbrev pub IsLastFactor : (ℕ → ℤ) → ℕ → Option (ℕ × ℤ) → Type 0
IsLastFactor c n None = (y : ℕ) → y < n → c y ≡ pos 0
IsLastFactor c n (Some last) = IsLastVariable c n last.0 × (last.1 ≡ c last.0)

-- the number that makes k plus its multiple by c zero, or none
abbrev pub IsRoot : ℤ → ℤ → Option ℤ → Type 0
IsRoot k c None = (v : ℤ) → (k +ℤ (c *ℤ v)) ≢ pos 0
IsRoot k c (Some r) = (v : ℤ) → ((k +ℤ (c *ℤ v)) ≡ pos 0) ↔ (v ≡ r)

-- some value of variable x makes k plus its multiple zero
unfoldable pub has_root : Family → (ℕ → ℤ) → ℕ → ℤ → Bool
has_root F c x k = list_any (λ v. int_eq (k +ℤ (c x *ℤ v)) (pos 0)) (set_of F x)

-- some value of variable x, with the shift added, is a value of variable y
unfoldable pub meets : Family → ℕ → ℕ → ℤ → Bool
meets F x y shift = list_any (λ v. has F y (v +ℤ shift)) (set_of F x)

-- 1 and -1, in any order
abbrev pub are_opposite_units : ℤ → ℤ → Bool
are_opposite_units i j = (int_eq (pos 1) i && int_eq (negsuc 0) j) || (int_eq (negsuc 0) i && int_eq (pos 1) j)

-- whether some values of the variables x and y make k plus their multiples zero, where these are by 1 and -1
abbrev pub zero_by_two : Family → ℕ → ℤ → ℕ → ℤ → ℤ → Option Bool
zero_by_two F x first y second k =
    cond (are_opposite_units first second)
    (Some (list_any (λ v. has_root F (λ z. second) y (k +ℤ (first *ℤ v))) (set_of F x))) None

-- whether some values make k plus the form zero, where it has one variable, or two with coefficients 1 and -1
abbrev pub zero_by_values : Family → (ℕ → ℤ) → ℕ → ℤ → Option Bool
zero_by_values F c n k = cond (is_one_or_two c n) (Some (has_zero F c k n)) None
