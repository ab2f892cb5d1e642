-- What the names that an initial value sees stand for.
use Rattle.opl_eval.specs.Evaluation.{Environment}
use Rattle.opl_eval.specs.Visible.{within}
use Rattle.opl_bind.specs.declared.scope.Scope.{Scope}

-- what a scope sees
abbrev pub names_in : Scope → Environment
names_in s = within s.environment.now s.parameters.now
