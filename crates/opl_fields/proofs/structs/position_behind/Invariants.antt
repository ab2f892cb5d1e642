use Rattle.std.proofs.Common.{◌≡◌, ◌+◌, map, drop}
use Rattle.opl_fields.specs.Structs.{field_name, position_from}
use Rattle.opl_fields.proofs.structs.position_behind.Given as goal

abbrev pub invariant-loop-i : goal.invariant-loop-i
invariant-loop-i l = position_from 1 l.name (map field_name l.fields) ≡ position_from (l.i + 1) l.name (map field_name (drop l.i l.fields))
