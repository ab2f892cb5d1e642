-- Expressions that are parts: linear, of at most one variable.
use Rattle.std.specs.Prelude.{◌≡◌, ◌≢◌, ℕ, ◌<◌, Bool, true, false, List, length, map, pos, nat_eq, slice_get, Option, Some, None}
use Rattle.std.specs.HashSet.{HashSet, contains}
use Rattle.opl_expr.specs.declared.model.Core.{Core}
use Rattle.opl_expr.specs.declared.forms.Expr.{Expr}
use Rattle.opl_expr.specs.Forms.{Term, terms_of}
use Rattle.opl_expr.specs.Range.{coef, pure}
use Rattle.opl_range.specs.Between.{term_of}
use Rattle.opl_all_different.specs.declared.part.Part.{Part}
use Rattle.opl_all_different.specs.Parts.{part_at, AreApart, AreSeparate, IsPartOf, ArePartsOf}

-- an expression has at most one variable whose factor isn't 0
abbrev pub HasOneVariable : Term → Type 0
HasOneVariable t = (x y : ℕ) → coef t x ≢ pos 0 → coef t y ≢ pos 0 → x ≡ y

-- no variable has a factor other than 0 in both
abbrev pub HaveNoneInCommon : Term → Term → Type 0
HaveNoneInCommon s t = (x : ℕ) → coef s x ≢ pos 0 → coef t x ≡ pos 0

-- expressions are linear, each has at most one variable, and no two have the same
pub record AreSingleVariables (core : Core) (es : List Expr) : Type 0 where
  pub linear : (i : ℕ) (e : Expr) → slice_get es i ≡ Some e → pure (term_of core e) ≡ true
  pub one : (i : ℕ) (e : Expr) → slice_get es i ≡ Some e → HasOneVariable (term_of core e)
  pub apart : (i j : ℕ) (d e : Expr) → slice_get es i ≡ Some d → slice_get es j ≡ Some e → i ≢ j → HaveNoneInCommon (term_of core d) (term_of core e)

-- an expression was read as a part, or as none where it isn't linear or has two variables
abbrev pub IsReadAs : Core → Term → Option Part → Type 0
IsReadAs core t None = pure t ≡ true → HasOneVariable t → ⊥
IsReadAs core t (Some p) = IsPartOf (length core.sets) t p

-- a part of the list has variable x
pub record HasVariableAt (ps : List Part) (x i : ℕ) : Type 0 where
  pub place : i < length ps
  pub factor : (part_at ps i).factor ≢ pos 0
  pub is : (part_at ps i).variable ≡ x

-- whether one has
abbrev pub HasVariable : List Part → ℕ → Bool → Type 0
HasVariable ps x true = (i : ℕ) × HasVariableAt ps x i
HasVariable ps x false = (i : ℕ) → i < length ps → (part_at ps i).factor ≢ pos 0 → (part_at ps i).variable ≢ x

-- a set has the variables of the parts, and no others
abbrev pub AreSeen : {S : Type 0} → HashSet ℕ S → List Part → Type 0
AreSeen seen ps = (x : ℕ) → HasVariable ps x (contains nat_eq seen x)

-- a part of the list has the variable of another one
pub record SharesAt (ps : List Part) (p : Part) (i : ℕ) : Type 0 where
  pub place : i < length ps
  pub first : (part_at ps i).factor ≢ pos 0
  pub second : p.factor ≢ pos 0
  pub same : (part_at ps i).variable ≡ p.variable

-- whether one has
abbrev pub Shares : List Part → Part → Bool → Type 0
Shares ps p true = (i : ℕ) × SharesAt ps p i
Shares ps p false = (i : ℕ) → i < length ps → AreApart (part_at ps i) p

-- expressions were read as parts, one by one, no two of them with the same variable
pub record HaveParts (core : Core) (es : List Expr) (ps : List Part) : Type 0 where
  pub parts : ArePartsOf (length core.sets) (terms_of (map (term_of core) es)) ps
  pub separate : AreSeparate (length core.sets) ps

-- the same, or as none where one isn't linear or has two variables, or two have the same
abbrev pub AreReadAs : Core → List Expr → Option (List Part) → Type 0
AreReadAs core es None = AreSingleVariables core es → ⊥
AreReadAs core es (Some ps) = HaveParts core es ps
