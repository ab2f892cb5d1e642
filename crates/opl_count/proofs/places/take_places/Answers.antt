use Rattle.std.proofs.Common.{◌+◌, ◌<◌, length, arith, subst, sym}
use Rattle.std.specs.Prelude.{◌^◌, Some}
use Rattle.opl_count.specs.Places.{GivesPlacesTo}
use Rattle.opl_count.proofs.Known.{no_places, some_places, placed}
use Rattle.opl_count.proofs.places.take_places.Goals as goal

pub returns-then-literals-end-clause-places : goal.returns-then-literals-end-clause-places
returns-then-literals-end-clause-places c = no_places c.args.sum.now c.args.first

pub returns-clause-places : goal.returns-clause-places
returns-clause-places c =
    let s = c.args.sum.now in
    let f = c.ranges.end.fits in
    let l : c.args.first + length s.costs.literals < 2 ^ 32 = omega (arith, f, c.len-literals.ensures, c.if-literals-end.false, c.requires) in
    subst (λ n. GivesPlacesTo s (placed s (Some c.args.first)) c.args.first (c.args.first + n)) (sym c.len-literals.ensures) (some_places s c.args.first l)
