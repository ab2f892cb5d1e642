-- In how many addends variables have factors.
use Rattle.std.specs.Prelude.{◌≡◌, ℕ, ◌+◌, ◌≤◌, ◌<◌, ◌^◌, Bool, true, false, List, [], ◌∷◌}
use Rattle.opl_expr.specs.declared.model.Core.{Core}
use Rattle.opl_expr.specs.Forms.{Term}
use Rattle.opl_filter.specs.Mentions.{lists}
use Rattle.opl_addends.specs.declared.sum.Addend.{Addend}
use Rattle.opl_addends.specs.declared.sum.Mention.{Mention}
use Rattle.opl_addends.specs.Addends.{with_factor}
use Rattle.opl_addends.specs.Sums.{IsMention}

-- each is a mention, of a variable whose number is not the greatest that there can be
abbrev pub AreNumbered : Core → List Addend → List Mention → Type 0
AreNumbered core addends [] = Unit {0}
AreNumbered core addends (m ∷ ms) = IsMention core addends m × (m.variable + 1 < 2 ^ 32) × AreNumbered core addends ms

-- each listed variable has a factor in at most one addend
abbrev pub AreOnce : List (Bool × Term) → List ℕ → Type 0
AreOnce ss xs = (x : ℕ) → lists xs x ≡ true → with_factor x ss ≤ 1

abbrev pub AreOnceIf : List (Bool × Term) → List ℕ → Bool → Type 0
AreOnceIf ss xs false = AreOnce ss xs → ⊥
AreOnceIf ss xs true = AreOnce ss xs
