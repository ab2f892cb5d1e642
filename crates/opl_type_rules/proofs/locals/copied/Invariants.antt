use Rattle.std.proofs.Common.{◌≡◌, ◌++◌, drop}
use Rattle.opl_type_rules.proofs.locals.copied.Given as goal

abbrev pub invariant-loop-local : goal.invariant-loop-local
invariant-loop-local l = l.locals ≡ l.found ++ drop l.local-index l.locals
