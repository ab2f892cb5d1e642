-- The addends of a comparison, and the range of their sum.
use Rattle.std.specs.Prelude.{ℕ, ◌+◌, ◌≤◌, Bool, true, false, not, List, [], ◌∷◌, ◌++◌, map, ℤ, pos, neg_ℤ, slice_get, Option, Some, None}
use Rattle.std.specs.List.{filter}
use Rattle.opl_domain.specs.Span.{Span, point}
use Rattle.opl_domain.specs.Arithmetic.{span_add, span_neg, is_nonzero}
use Rattle.opl_domain.specs.Family.{Family}
use Rattle.opl_expr.specs.declared.model.Core.{Core}
use Rattle.opl_expr.specs.Forms.{Term, Terms}
use Rattle.opl_expr.specs.Options.{lift, lift1}
use Rattle.opl_expr.specs.Range.{coef, range}
use Rattle.opl_expr.specs.Sound.{IsSmall, IsSoundTerm, term_magnitude}
use Rattle.opl_filter.specs.Mentions.{term_mentions}
use Rattle.opl_range.specs.Between.{term_of}
use Rattle.opl_addends.specs.declared.sum.Addend.{Addend}

-- An addend as plain data tells whether the opposite of an expression is added, and the expression.

abbrev mutual
  -- the addends of an expression, or of its opposite: sums and opposites are opened, all else is one addend
  pub addends : Bool → Term → List (Bool × Term)
  addends o (Term.sum ts) = all_addends o ts
  addends o (Term.neg t) = addends (not o) t
  addends o t = (o, t) ∷ []

  pub all_addends : Bool → Terms → List (Bool × Term)
  all_addends o Terms.no_terms = []
  all_addends o (Terms.more_terms t ts) = addends o t ++ all_addends o ts

-- the addends of a less b
abbrev pub addends_between : Term → Term → List (Bool × Term)
addends_between a b = addends false a ++ addends true b

-- a number or its opposite
abbrev pub signed : Bool → ℤ → ℤ
signed false k = k
signed true k = neg_ℤ k

-- an interval, or the numbers with the other sign
abbrev pub signed_span : Bool → Span → Span
signed_span false a = a
signed_span true a = span_neg a

-- ---- ranges

-- the range of an addend
abbrev pub addend_range : Family → Bool × Term → Option Span
addend_range F a = lift1 (signed_span a.0) (range F a.1)

-- the sum of the ranges of addends; it is missing where one is
abbrev pub total : Family → List (Bool × Term) → Option Span
total F [] = Some (point (pos 0))
total F (a ∷ ss) = lift span_add (addend_range F a) (total F ss)

-- ---- variables

-- the addends that mention x, and the others
abbrev pub mentioning : ℕ → List (Bool × Term) → List (Bool × Term)
mentioning x = filter (λ a. term_mentions a.1 x)

abbrev pub others : ℕ → List (Bool × Term) → List (Bool × Term)
others x = filter (λ a. not (term_mentions a.1 x))

abbrev pub one_if : Bool → ℕ
one_if false = 0
one_if true = 1

-- how many addends have x with a factor
abbrev pub with_factor : ℕ → List (Bool × Term) → ℕ
with_factor x [] = 0
with_factor x (a ∷ ss) = one_if (is_nonzero (coef a.1 x)) + with_factor x ss

-- no variable has a factor in two addends
abbrev pub AreApart : List (Bool × Term) → Type 0
AreApart ss = (x : ℕ) → with_factor x ss ≤ 1

-- ---- sizes

-- the magnitudes of addends together
abbrev pub magnitudes : List (ℤ × ℤ) → List (Bool × Term) → ℕ
magnitudes sets [] = 0
magnitudes sets (a ∷ ss) = term_magnitude sets a.1 + magnitudes sets ss

abbrev pub AreSound : List (ℤ × ℤ) → List (Bool × Term) → Type 0
AreSound sets [] = Unit {0}
AreSound sets (a ∷ ss) = IsSoundTerm sets a.1 × AreSound sets ss

-- the ranges of the addends can be added
pub record CanAdd (sets : List (ℤ × ℤ)) (ss : List (Bool × Term)) : Type 0 where
  pub sound : AreSound sets ss
  pub small : IsSmall (magnitudes sets ss)

-- ---- as the program keeps them

abbrev pub plain : Core → Addend → Bool × Term
plain core a = (a.is_opposite, term_of core a.expression)

abbrev pub plains : Core → List Addend → List (Bool × Term)
plains core = map (plain core)

-- one element, or none
abbrev pub listed : {A : Type 0} → Option A → List A
listed None = []
listed (Some a) = a ∷ []

-- the elements at some places
abbrev pub picked : {A : Type 0} → List A → List ℕ → List A
picked ss [] = []
picked ss (p ∷ ps) = listed (slice_get ss p) ++ picked ss ps
