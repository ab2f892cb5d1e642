use Rattle.std.proofs.Common.{refl}
use Rattle.std.specs.Prelude.{FitsSigned}
use mir.Syntax.{w64}
use Rattle.std.proofs.lemmas.Int.{to_z-of_z}
use Rattle.opl_connective.proofs.Notices.{cut_within, notices_told}
use Rattle.opl_connective.proofs.noticing.NoticingNarrow.cut.Goals as goal

pub size-requires : goal.size-requires
size-requires g c =
    let lo : FitsSigned w64 c.args.lo = c.ranges.lo in
    let hi : FitsSigned w64 c.args.hi = c.ranges.hi in
    let k = rw (to_z-of_z w64 c.args.lo lo, to_z-of_z w64 c.args.hi hi) at c.cut.ensures.cut in
    cut_within (g.N.View.family c.args.self.now.inner.now) (g.N.View.family c.cut.new.self) c.args.x c.args.lo c.args.hi c.requires.within k

pub returns-clause-leads_to : goal.returns-clause-leads_to
returns-clause-leads_to g c =
    let lo : FitsSigned w64 c.args.lo = c.ranges.lo in
    let hi : FitsSigned w64 c.args.hi = c.ranges.hi in
    let k = rw (to_z-of_z w64 c.args.lo lo, to_z-of_z w64 c.args.hi hi) at c.cut.ensures.cut in
    (refl, c.cut.ensures.leads_to, notices_told (g.N.View.family c.args.self.now.inner.now) (g.N.View.family c.cut.new.self) c.args.x c.args.lo c.args.hi c.args.self.now.changed c.size-before.result c.size.result c.requires.within k c.size-before.ensures c.size.ensures)
