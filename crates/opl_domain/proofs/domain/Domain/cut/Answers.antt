use Rattle.std.proofs.Common.{◌≡◌, true, sym, subst}
use Rattle.std.specs.Prelude.{FitsSigned}
use mir.Syntax.{w64}
use Rattle.std.proofs.lemmas.Int.{to_z-of_z}
use Rattle.opl_domain.specs.Family.{member, outside, IsDomain}
use Rattle.opl_domain.proofs.Sets.{cut_domain}
use Rattle.opl_domain.proofs.domain.Domain.cut.Goals as goal

pub invariant_of-self : goal.invariant_of-self
invariant_of-self c =
    let lo_fits : FitsSigned w64 c.args.lo = c.ranges.lo in
    let hi_fits : FitsSigned w64 c.args.hi = c.ranges.hi in
    let e = simp to_z-of_z at c.remove_between.ensures in
    subst (λ xs. IsDomain xs) (sym e) (cut_domain c.args.lo c.args.hi _ c.self.invariant c.requires.0 (subst (λ xs. member c.requires.0 (outside c.args.lo c.args.hi xs) ≡ true) (sym c.self.view_is) c.requires.1))
