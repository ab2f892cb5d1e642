use Rattle.std.proofs.Common.{◌≡◌, ◌++◌, map, drop}
use Rattle.opl_type_rules.specs.Types.{sort}
use Rattle.opl_fields.specs.Fields.{record_of}
use Rattle.opl_fields.proofs.model.records.Given as goal

abbrev pub invariant-loop-ty : goal.invariant-loop-ty
invariant-loop-ty l = l.found ++ map record_of (map sort (drop l.ty-index l.kinds)) ≡ map record_of (map sort l.kinds)
