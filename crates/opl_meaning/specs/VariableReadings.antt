-- What the program's values stand for in the definitions of decision variables.
use Rattle.std.specs.Prelude.{ℕ, Bool, bytes_eq, List}
use Rattle.std.specs.List.{list_any}
use Rattle.opl_eval.specs.declared.environment.Parameter as parameters
use Rattle.opl_eval.specs.Evaluation.{Environment}
use Rattle.opl_eval.specs.Visible.{within}
use Rattle.opl_meaning.specs.declared.ends.Ends as code
use Rattle.opl_meaning.specs.declared.variable.Kind.TheVariants.{Number}
use Rattle.opl_meaning.specs.declared.visible.Visible.{Visible}
use Rattle.opl_meaning.specs.Variables.{Ends}

-- what a declaration of variables sees
abbrev pub sees : Visible → Environment
sees s = within s.environment.now s.parameters.now

-- whether one of the parameters has this name
abbrev pub is_named : List parameters.Parameter → List ℕ → Bool
is_named ps name = list_any (λ p. bytes_eq name p.name.now) ps

-- the ends alone, as the program keeps them
abbrev pub reach : Ends → code.Ends
reach ends = record { low = ends.low; high = ends.high }

-- ends of numbers
abbrev pub whole : code.Ends → Ends
whole ends = record { kind = Number; low = ends.low; high = ends.high }
