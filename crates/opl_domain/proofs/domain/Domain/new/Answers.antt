use Rattle.std.proofs.Common.{arith, sym, ap, ◌∙◌, subst}
use Rattle.std.specs.Prelude.{FitsSigned}
use mir.Syntax.{w64}
use Rattle.std.proofs.lemmas.Int.{ints, to_z-of_z}
use Rattle.opl_domain.specs.Span.{ints_from, values}
use Rattle.opl_domain.specs.Family.{IsDomain}
use Rattle.opl_domain.proofs.Sets.{size_is, ints_domain}
use Rattle.opl_domain.proofs.domain.Domain.new.Goals as goal

pub values_from-requires : goal.values_from-requires
values_from-requires c =
    let lo_fits : FitsSigned w64 c.args.lo = c.ranges.lo in
    let hi_fits : FitsSigned w64 c.args.hi = c.ranges.hi in
    let n = simp to_z-of_z at c.size_of.ensures in
    let made = size_is c.args.lo c.args.hi c.requires.ordered in
    omega (arith, ints, n)

pub invariant_of-result : goal.invariant_of-result
unfolding values
invariant_of-result c =
    let lo_fits : FitsSigned w64 c.args.lo = c.ranges.lo in
    let hi_fits : FitsSigned w64 c.args.hi = c.ranges.hi in
    let n = simp to_z-of_z at c.size_of.ensures in
    let made = simp to_z-of_z at (c.in_ok-values_from.ensures) in
    subst (λ xs. IsDomain xs) (sym (made ∙ ap (ints_from c.args.lo) n)) (ints_domain c.args.lo c.args.hi c.requires.ordered c.requires.few)

pub returns : goal.returns
unfolding values
returns c =
    let lo_fits : FitsSigned w64 c.args.lo = c.ranges.lo in
    let hi_fits : FitsSigned w64 c.args.hi = c.ranges.hi in
    let n = simp to_z-of_z at c.size_of.ensures in
    let made = simp to_z-of_z at (c.in_ok-values_from.ensures) in
    made ∙ ap (ints_from c.args.lo) n
