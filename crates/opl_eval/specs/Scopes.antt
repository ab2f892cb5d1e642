-- What a scope sees.
use Rattle.opl_eval.specs.declared.scope.Scope.{Scope}
use Rattle.opl_eval.specs.Evaluation.{Environment}
use Rattle.opl_eval.specs.Turns.{under}
use Rattle.opl_eval.specs.Visible.{within}

abbrev pub names_in : Scope → Environment
names_in s = under (within s.environment.now s.parameters.now) s.turns.now.chosen.items
