use Rattle.std.proofs.Common.{arith, ◌+ℤ◌, pos, neg_ℤ}
use Rattle.std.specs.Prelude.{FitsSigned}
use mir.Syntax.{w64}
use Rattle.std.proofs.lemmas.Int.{ints}
use Rattle.opl_domain.proofs.Sets.{size_is}
use Rattle.opl_domain.proofs.domain.size_of.Goals as goal

pub returns : goal.returns
returns c =
    let made = size_is c.args.lo c.args.hi c.requires.ordered in
    let small = c.requires.few in
    let difference : FitsSigned w64 (c.args.hi +ℤ neg_ℤ c.args.lo) = omega (arith, ints) in
    let whole : FitsSigned w64 (c.args.hi +ℤ neg_ℤ c.args.lo +ℤ pos 1) = omega (arith, ints) in
    omega (arith, ints)
