use Rattle.std.proofs.Common.{rules}
use Rattle.std.specs.Prelude.{FitsSigned}
use mir.Syntax.{w128}
use Rattle.std.proofs.lemmas.Int.{to_z-of_z}
use Rattle.opl_range.proofs.Minus.{minus_small, minus_is}
use Rattle.opl_range.proofs.differences.coefficient_between.Goals as goal

pub subtracted-requires : goal.subtracted-requires
subtracted-requires c =
    let first : FitsSigned w128 c.coefficient.result = search rules in
    let second : FitsSigned w128 c.coefficient-2.result = search rules in
    simp to_z-of_z (minus_small c.args.core.now c.args.a.now c.args.b.now c.args.x _ _ c.requires c.coefficient.ensures c.coefficient-2.ensures)

pub returns : goal.returns
returns c =
    let first : FitsSigned w128 c.coefficient.result = search rules in
    let second : FitsSigned w128 c.coefficient-2.result = search rules in
    let fits : FitsSigned w128 c.subtracted.result = search rules in
    let e = simp to_z-of_z at c.subtracted.ensures in
    simp to_z-of_z (minus_is c.args.core.now c.args.a.now c.args.b.now c.args.x _ _ _ e c.coefficient.ensures c.coefficient-2.ensures)
