-- Constraints that compare linear sides, or are opposites of such comparisons.
use Rattle.std.specs.Prelude.{◌≡◌, ℕ, zero, suc, Bool, true, false, List, [], ◌∷◌, Option, Some, None}
use Rattle.opl_expr.specs.declared.model.Core.{Core}
use Rattle.opl_expr.specs.declared.forms.Cons.{Cons}
use Rattle.opl_expr.specs.declared.forms.Cons.TheVariants as constraint
use Rattle.opl_expr.specs.declared.forms.Expr.{Expr}
use Rattle.opl_expr.specs.Range.{pure}
use Rattle.opl_range.specs.Between.{term_of}
use Rattle.opl_linear_filter.specs.LinearForms.{ComparesLinear}
use Rattle.opl_reify.specs.declared.part.Part.{Part}

-- under so many negations stands a comparison of linear sides
abbrev pub IsLiteral : Core → ℕ → Cons → Type 0
IsLiteral core zero c = ComparesLinear core c
IsLiteral core (suc n) c = (a : Cons) × (c ≡ constraint.Not a) × IsLiteral core n a

abbrev pub AreLiterals : Core → List Cons → Type 0
AreLiterals core [] = Unit {0}
AreLiterals core (c ∷ cs) = ((n : ℕ) × IsLiteral core n c) × AreLiterals core cs

-- there is a part for the comparison of two sides where both are linear, and nowhere else
abbrev pub SidesIfAny : Core → Expr → Expr → Option Part → Type 0
SidesIfAny core a b None = pure (term_of core a) ≡ true → pure (term_of core b) ≡ true → ⊥
SidesIfAny core a b (Some p) = (pure (term_of core a) ≡ true) × (pure (term_of core b) ≡ true)

-- a yes comes for literals alone, and for each of them
abbrev pub IsLiteralIf : Core → Cons → Bool → Type 0
IsLiteralIf core c false = (n : ℕ) → IsLiteral core n c → ⊥
IsLiteralIf core c true = (n : ℕ) × IsLiteral core n c

-- the same of a part, and of parts
abbrev pub IsLiteralIfAny : Core → Cons → Option Part → Type 0
IsLiteralIfAny core c None = (n : ℕ) → IsLiteral core n c → ⊥
IsLiteralIfAny core c (Some p) = (n : ℕ) × IsLiteral core n c

abbrev pub AreLiteralsIfAny : Core → List Cons → Option (List Part) → Type 0
AreLiteralsIfAny core cs None = AreLiterals core cs → ⊥
AreLiteralsIfAny core cs (Some ps) = AreLiterals core cs
