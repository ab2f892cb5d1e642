use Rattle.std.proofs.Common.{sym, ◌∙◌, map, arith}
use Rattle.opl_value.specs.Places.{dimension_values}
use Rattle.opl_held.proofs.Places.{all-filled, nowhere}
use Rattle.opl_held.proofs.keys.place_where_any.Goals as goal

pub returns-then-count-eq0 : goal.returns-then-count-eq0
returns-then-count-eq0 c = sym (nowhere (map dimension_values c.args.dims.now) c.args.parts.now (sym c.requires ∙ c.if-count-eq0.true))

pub place_in_all-requires-clause-filled : goal.place_in_all-requires-clause-filled
place_in_all-requires-clause-filled c = all-filled (map dimension_values c.args.dims.now) (omega (arith, c.requires))
