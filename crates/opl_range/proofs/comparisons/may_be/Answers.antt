use Rattle.std.proofs.Common.{refl, ap, ◌∙◌, to_z, of_z}
use Rattle.std.specs.Prelude.{Some}
use mir.Syntax.{w128}
use Rattle.std.proofs.lemmas.Int.{to_z-of_z}
use Rattle.opl_expr.specs.declared.forms.Expr.TheVariants as E
use Rattle.opl_range.proofs.Compare.{with_number, rest_of_number, may_be_is}
use Rattle.opl_range.proofs.comparisons.may_be.Goals as goal

pub rest_of_difference-difference-requires-clause-sound : goal.rest_of_difference-difference-requires-clause-sound
rest_of_difference-difference-requires-clause-sound g c =
    let i = c.ranges.i in
    simp to_z-of_z (with_number c.args.core.now c.args.e.now (E.Const c.args.i) c.args.i c.requires.sound c.requires.small refl)

pub rest_of_difference-difference-requires-clause-second : goal.rest_of_difference-difference-requires-clause-second
rest_of_difference-difference-requires-clause-second g c =
    let i = c.ranges.i in
    let e = simp to_z-of_z at c.point.ensures in
    simp to_z-of_z (ap Some e ∙ rest_of_number (g.V.View.family c.args.view.now) c.args.core.now (E.Const c.args.i) c.args.i refl)

pub equal-requires-clause-sound : goal.equal-requires-clause-sound
equal-requires-clause-sound g c =
    let i = c.ranges.i in
    simp to_z-of_z (with_number c.args.core.now c.args.e.now (E.Const c.args.i) c.args.i c.requires.sound c.requires.small refl)

pub returns : goal.returns
returns g c =
    may_be_is (g.V.View.family c.args.view.now) c.args.core.now c.args.e.now (E.Const (to_z w128 (of_z w128 c.args.i))) c.args.i c.equal.result c.is_possible.result (ap E.Const (to_z-of_z w128 c.args.i c.ranges.i)) c.equal.ensures c.is_possible.ensures
