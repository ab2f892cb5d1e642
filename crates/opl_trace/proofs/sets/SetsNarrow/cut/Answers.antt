use Rattle.std.proofs.Common.{arith, sym, subst, length-set}
use Rattle.std.specs.Prelude.{FitsSigned}
use mir.Syntax.{w64}
use Rattle.opl_domain.specs.Family.{IsFamily}
use Rattle.opl_trace.proofs.StoredSets.{read_is, cut_stays, cut_is, cut_is_family}
use Rattle.opl_trace.proofs.sets.SetsNarrow.cut.Goals as goal

pub cut-requires : goal.cut-requires
cut-requires c =
    let lo_fits : FitsSigned w64 c.args.lo = c.ranges.lo in
    let hi_fits : FitsSigned w64 c.args.hi = c.ranges.hi in
    cut_stays _ _ _ _ _ lo_fits hi_fits c.requires.within (read_is _ _ _ _ c.self.view_is c.requires.within c.index_mut.ensures.value) c.requires.stays

pub invariant_of-self : goal.invariant_of-self
invariant_of-self c =
    let lo_fits : FitsSigned w64 c.args.lo = c.ranges.lo in
    let hi_fits : FitsSigned w64 c.args.hi = c.ranges.hi in
    let made = cut_is _ _ _ _ _ _ _ lo_fits hi_fits c.self.view_is (read_is _ _ _ _ c.self.view_is c.requires.within c.index_mut.ensures.value) c.cut.ensures in (
      subst (λ F. IsFamily F) (sym made) (cut_is_family _ _ _ _ (subst (λ F. IsFamily F) c.self.view_is c.self.invariant.0) c.requires.within c.requires.stays),
      omega (arith, c.self.invariant.1, length-set c.self.inside.domains.items c.args.x c.cut.new.self),
    )

pub returns-clause-cut : goal.returns-clause-cut
returns-clause-cut c =
    let lo_fits : FitsSigned w64 c.args.lo = c.ranges.lo in
    let hi_fits : FitsSigned w64 c.args.hi = c.ranges.hi in
    cut_is _ _ _ _ _ _ _ lo_fits hi_fits c.self.view_is (read_is _ _ _ _ c.self.view_is c.requires.within c.index_mut.ensures.value) c.cut.ensures
