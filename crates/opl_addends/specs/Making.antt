-- How the addends of two sides are made, and where their variables stand.
use Rattle.std.specs.Prelude.{◌≡◌, ℕ, Bool, true, false, List, [], ◌∷◌, ◌++◌}
use Rattle.opl_expr.specs.declared.model.Core.{Core}
use Rattle.opl_expr.specs.declared.forms.Expr.{Expr}
use Rattle.opl_expr.specs.Forms.{Term}
use Rattle.opl_filter.specs.Mentions.{lists, term_mentions}
use Rattle.opl_range.specs.Between.{term_of}
use Rattle.opl_addends.specs.declared.sum.Addend.{Addend}
use Rattle.opl_addends.specs.declared.sum.Mention.{Mention}
use Rattle.opl_addends.specs.Addends.{plains, addends_between}
use Rattle.opl_addends.specs.Sums.{variables, IsMention}

-- the variables are those that the expression mentions
abbrev pub AreNamed : List ℕ → Term → Type 0
AreNamed xs t = (x : ℕ) → lists xs x ≡ term_mentions t x

-- each addend has the variables that it mentions
abbrev pub AllNamed : Core → List Addend → Type 0
AllNamed core [] = Unit {0}
AllNamed core (a ∷ addends) = AreNamed a.variables (term_of core a.expression) × AllNamed core addends

-- addends have come at the end
pub record AddsAddends (core : Core) (ss : List (Bool × Term)) (before now : List Addend) : Type 0 where
  pub added : plains core now ≡ plains core before ++ ss
  pub named : AllNamed core before → AllNamed core now

-- the addends are those of a less b
pub record HasBetween (core : Core) (a b : Expr) (found : List Addend) : Type 0 where
  pub same : plains core found ≡ addends_between (term_of core a) (term_of core b)
  pub named : AllNamed core found

-- a place has come at the end, or none has
abbrev pub Notes : Bool → ℕ → List ℕ → List ℕ → Type 0
Notes false at before now = now ≡ before
Notes true at before now = now ≡ before ++ at ∷ []

-- it mentions the variable
pub record IsMentionOf (core : Core) (addends : List Addend) (x : ℕ) (m : Mention) : Type 0 where
  pub is : m.variable ≡ x
  pub mention : IsMention core addends m

abbrev pub AreMentions : Core → List Addend → List Mention → Type 0
AreMentions core addends [] = Unit {0}
AreMentions core addends (m ∷ ms) = IsMention core addends m × AreMentions core addends ms

-- there is one for each variable
pub record AreMentionsOf (core : Core) (addends : List Addend) (xs : List ℕ) (ms : List Mention) : Type 0 where
  pub are : variables ms ≡ xs
  pub each : AreMentions core addends ms
