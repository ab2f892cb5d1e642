use Rattle.std.proofs.Common.{arith, rules, ℕ, List, ◌-◌, ◌≡◌, ℤ, pos, sym, ◌∙◌, to_z, of_z, subst, length, get_or}
use Rattle.std.specs.Prelude.{FitsSigned}
use mir.Syntax.{w64}
use Rattle.std.proofs.lemmas.Int.{to_z-of_z}
use Rattle.opl_domain.specs.Family.{IsGreatest, IsDomain}
use Rattle.opl_domain.proofs.Sets.{last_is_greatest, same_default}
use Rattle.opl_domain.proofs.domain.Domain.max.Goals as goal

at_end : (xs : List ℤ) (r : ℤ) (n : ℕ) → IsDomain xs → r ≡ get_or xs n r → n ≡ length xs - 1 → FitsSigned w64 r → IsGreatest xs (to_z w64 (of_z w64 r))
at_end xs r n d e p fits =
    let same : r ≡ get_or xs (length xs - 1) (pos 0) = rw p at (e ∙ same_default xs n r (pos 0) (omega (arith, d.some))) in
    subst (λ v. IsGreatest xs v) (sym same ∙ sym (to_z-of_z w64 r fits)) (last_is_greatest xs d.rising d.some)

pub returns : goal.returns
returns c =
    let fits : FitsSigned w64 c.index.result.now = search rules in
    rw (← c.self.view_is) (at_end _ _ _ c.self.invariant c.index.ensures (search rules) fits)
