-- One decision variable.
use Rattle.std.specs.Prelude.{◌≡◌, List, [], ◌∷◌, length, None}
use Rattle.opl_eval.specs.declared.environment.Environment.{Environment}
use Rattle.opl_eval.specs.Visible.{seen}
use Rattle.opl_meaning.specs.declared.variable.VariableItem.{VariableItem}
use Rattle.opl_declared.specs.declared.declared.Declared.{Declared}
use Rattle.opl_declared.specs.Kept.{IsDeclared}

-- A variable that is no array.
pub record IsPlain (v : VariableItem) : Type 0 where
  pub space : v.space ≡ None
  pub sets : length v.sets ≡ 1

-- These are one such variable.
pub record AreSingle (items : List VariableItem) : Type 0 where
  pub item : VariableItem
  pub alone : items ≡ item ∷ []
  pub plain : IsPlain item

-- Such a variable alone is declared, and no data.
pub record IsAlone (d : Declared) (env : Environment) : Type 0 where
  pub declared : IsDeclared d (seen env).items
  pub nothing : (seen env).items ≡ []
  pub variables : AreSingle d.items.now
