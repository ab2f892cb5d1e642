use Rattle.std.proofs.Common.{rules, List, ◌≡◌, ℤ, pos, sym, ◌∙◌, to_z, of_z, subst, get_or}
use Rattle.std.specs.Prelude.{FitsSigned}
use mir.Syntax.{w64}
use Rattle.std.proofs.lemmas.Int.{to_z-of_z}
use Rattle.opl_domain.specs.Family.{IsLeast, IsDomain}
use Rattle.opl_domain.proofs.Sets.{first_is_least, same_default}
use Rattle.opl_domain.proofs.domain.Domain.min.Goals as goal

at_end : (xs : List ℤ) (r : ℤ) → IsDomain xs → r ≡ get_or xs 0 r → FitsSigned w64 r → IsLeast xs (to_z w64 (of_z w64 r))
at_end xs r d e fits =
    let same : r ≡ get_or xs 0 (pos 0) = (e ∙ same_default xs 0 r (pos 0) d.some) in
    subst (λ v. IsLeast xs v) (sym same ∙ sym (to_z-of_z w64 r fits)) (first_is_least xs d.rising d.some)

pub returns : goal.returns
returns c =
    let fits : FitsSigned w64 c.index.result.now = search rules in
    rw (← c.self.view_is) (at_end _ _ c.self.invariant c.index.ensures fits)
