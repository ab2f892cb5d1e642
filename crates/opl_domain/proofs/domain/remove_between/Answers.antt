use Rattle.std.proofs.Common.{arith, rules, sym, ◌∙◌}
use Rattle.std.specs.Prelude.{FitsSigned}
use mir.Syntax.{w64}
use Rattle.std.proofs.lemmas.Int.{to_z-of_z}
use Rattle.std.proofs.lemmas.List.Filters.{FiltersInPlace-all, FiltersInPlace-more_no, FiltersInPlace-more_set}
use Rattle.opl_domain.proofs.domain.remove_between.Goals as goal
use Rattle.opl_domain.proofs.domain.remove_between.Goals.{then-is_outside, else-is_outside}

pub loop-place-preserved : goal.loop-place-preserved
loop-place-preserved c =
    let fits : FitsSigned w64 c.index-v.result.now = search rules in
    let lo_fits : FitsSigned w64 c.args.lo = c.ranges.lo in
    let hi_fits : FitsSigned w64 c.args.hi = c.ranges.hi in
    let test = simp to_z-of_z at c.is_outside.ensures in
    let before = simp to_z-of_z at c.loop-place.invariant in
    elim c.if-is_outside.branch [
      | then-is_outside w ↦ rw (w.values-is, w.kept-is) (simp to_z-of_z (FiltersInPlace-more_set before (omega (arith, before.long, c.len-place-end.ensures)) (sym test ∙ w.if-is_outside.true) c.index-v.ensures))
      | else-is_outside w ↦ rw (w.values-is, w.kept-is) (simp to_z-of_z (FiltersInPlace-more_no before (omega (arith, before.long, c.len-place-end.ensures)) (sym test ∙ w.if-is_outside.false) c.index-v.ensures))
    ]

pub returns : goal.returns
returns c =
    let lo_fits : FitsSigned w64 c.args.lo = c.ranges.lo in
    let hi_fits : FitsSigned w64 c.args.hi = c.ranges.hi in
    c.truncate.ensures.items ∙ FiltersInPlace-all (simp to_z-of_z at c.loop-place.invariant) (omega arith)
