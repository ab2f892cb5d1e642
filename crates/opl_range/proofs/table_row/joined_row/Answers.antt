use Rattle.std.proofs.Common.{◌≡◌, ◌-◌, ◌<◌, sym, subst, rules, arith, map, length, get_or, true, pos}
use Rattle.std.specs.Prelude.{FitsSigned}
use mir.Syntax.{w128}
use Rattle.std.proofs.lemmas.Int.{to_z-of_z}
use Rattle.opl_expr.specs.declared.tables.Cell.TheVariants as cell
use Rattle.opl_expr.specs.Range.{may_be}
use Rattle.opl_expr.specs.Sound.{is_there}
use Rattle.opl_range.specs.Between.{term_of, linear_of}
use Rattle.opl_range.proofs.Demands.{count_is}
use Rattle.opl_range.proofs.Tables.{hull_start, hull_skips, hull_takes, cell_there, abs_at, length_map}
use Rattle.opl_range.proofs.table_row.joined_row.Goals as goal

pub loop-left-init : goal.loop-left-init
loop-left-init g c =
    let F = g.V.View.family c.args.view.now in
    (omega arith, hull_start F (map (may_be F (linear_of F (term_of c.args.core.now c.args.part.now))) c.args.dim.now) c.args.cells.now c.args.found (length c.args.dim.now) (length_map (may_be F (linear_of F (term_of c.args.core.now c.args.part.now))) c.args.dim.now))

pub may_be-requires-clause-small : goal.may_be-requires-clause-small
may_be-requires-clause-small g c =
    let index : c.loop-left.left - 1 < length c.args.dim.now = omega (arith, c.loop-left.invariant.0, c.loop-left-test.true) in
    let v : FitsSigned w128 (get_or c.args.dim.now (c.loop-left.left - 1) (pos 0)) = search rules in
    simp to_z-of_z (omega (arith, c.requires.small, abs_at c.args.dim.now (c.loop-left.left - 1) index))

pub cell_range-requires : goal.cell_range-requires
cell_range-requires g c =
    let F = g.V.View.family c.args.view.now in
    subst (λ n. is_there n (get_or c.args.cells.now (c.loop-left.left - 1) (cell.Const (pos 0))) ≡ true) (sym (count_is c.args.core.now F c.requires.within))
    (cell_there (length c.args.core.now.sets) c.args.cells.now (c.loop-left.left - 1) (cell.Const (pos 0)) (omega (arith, c.loop-left.invariant.0, c.loop-left-test.true, c.requires.whole)) c.requires.there)

pub loop-left-preserved-then-may_be : goal.loop-left-preserved-then-may_be
loop-left-preserved-then-may_be g c =
    let F = g.V.View.family c.args.view.now in
    let may = may_be F (linear_of F (term_of c.args.core.now c.args.part.now)) in
    let index : c.loop-left.left - 1 < length c.args.dim.now = omega (arith, c.loop-left.invariant.0, c.loop-left-test.true) in
    let v : FitsSigned w128 (get_or c.args.dim.now (c.loop-left.left - 1) (pos 0)) = search rules in
    let m = subst (λ z. c.may_be.result ≡ may z) (to_z-of_z w128 (get_or c.args.dim.now (c.loop-left.left - 1) (pos 0)) v) c.may_be.ensures in (
      omega (arith, c.loop-left.invariant.0),
      hull_takes F may c.args.dim.now c.args.cells.now c.args.found c.loop-left.left (cell.Const (pos 0)) c.loop-left.joined c.may_be.result c.joined.result c.cell_range.result c.requires.whole c.loop-left-test.true c.loop-left.invariant.0 m c.if-may_be.true
          c.loop-left.invariant.1 c.cell_range.ensures c.joined.ensures,
    )

pub loop-left-preserved : goal.loop-left-preserved
loop-left-preserved g c =
    let F = g.V.View.family c.args.view.now in
    let may = may_be F (linear_of F (term_of c.args.core.now c.args.part.now)) in
    let index : c.loop-left.left - 1 < length c.args.dim.now = omega (arith, c.loop-left.invariant.0, c.loop-left-test.true) in
    let v : FitsSigned w128 (get_or c.args.dim.now (c.loop-left.left - 1) (pos 0)) = search rules in
    let m = subst (λ z. c.may_be.result ≡ may z) (to_z-of_z w128 (get_or c.args.dim.now (c.loop-left.left - 1) (pos 0)) v) c.may_be.ensures in
    (omega (arith, c.loop-left.invariant.0), hull_skips F may c.args.dim.now c.args.cells.now c.args.found c.loop-left.left (cell.Const (pos 0)) c.loop-left.joined c.may_be.result c.requires.whole c.loop-left-test.true c.loop-left.invariant.0 m c.if-may_be.false c.loop-left.invariant.1)
