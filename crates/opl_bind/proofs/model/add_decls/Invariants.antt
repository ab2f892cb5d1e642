use Rattle.std.proofs.Common.{◌≡◌, drop}
use Rattle.opl_bind.specs.Bind as spec
use Rattle.opl_given.specs.Readings.{given_of}
use Rattle.opl_bind.specs.Readings.{data_of}
use Rattle.opl_bind.proofs.model.add_decls.Given as goal

abbrev pub invariant-loop-t : goal.invariant-loop-t
invariant-loop-t l =
    spec.with_decls (given_of l.given) l.overrides l.ts (data_of l.fn.before) ≡ spec.with_decls (given_of l.given) l.overrides (drop l.t-index l.ts) (data_of l.before)
