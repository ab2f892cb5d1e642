use Rattle.std.proofs.Common.{◌≡◌, [], drop}
use Rattle.opl_eval.specs.Visible.{seen}
use Rattle.opl_meaning.specs.Variables.{variables_in}
use Rattle.opl_meaning.proofs.items.variables.Given as goal

abbrev pub invariant-loop-t : goal.invariant-loop-t
invariant-loop-t l = variables_in (seen l.environment) [] l.decls ≡ variables_in (seen l.environment) l.counted.items (drop l.t-index l.decls)
