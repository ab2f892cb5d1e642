-- The branches of a statement as plain data, and what sound ones keep.
use Rattle.std.specs.Prelude.{List, [], ◌∷◌, ℤ}
use Rattle.opl_expr.specs.declared.model.Core.{Core}
use Rattle.opl_expr.specs.declared.search.Branch.{Branch}
use Rattle.opl_expr.specs.declared.search.Step.{Step}
use Rattle.opl_expr.specs.Forms.{term, fact}
use Rattle.opl_expr.specs.Options.{lift1}
use Rattle.opl_trace.specs.Elements.{Arm}
use Rattle.opl_trace.specs.Statements.{Statement, statement}
use Rattle.opl_trace.specs.Questions.{IsOpenFact}
use Rattle.opl_trace.specs.SoundCores.{IsOpenKey, IsSoundStatement}

-- a statement
abbrev pub statement_in : Core → Step → Statement
statement_in core s = statement core.tables core.resources s

-- an element of a statement
abbrev pub element : Core → Branch → Arm Statement
element core b = record { when = fact core.tables core.resources b.when; key = lift1 (term core.tables core.resources) b.key; rising = b.rising; body = statement_in core b.body }

-- conditions, keys and bodies are sound
abbrev pub AreSoundElements : List (ℤ × ℤ) → List (Arm Statement) → Type 0
AreSoundElements sets [] = Unit {0}
AreSoundElements sets (a ∷ others) = (IsOpenFact sets a.when × IsOpenKey sets a.key × IsSoundStatement sets a.body) × AreSoundElements sets others
