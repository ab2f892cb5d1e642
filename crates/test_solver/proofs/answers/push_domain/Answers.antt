use Rattle.std.proofs.Common.{◌≡◌, true, pos, refl, sym, subst}
use Rattle.opl_domain.specs.Span.{values}
use Rattle.opl_domain.specs.Family.{member, outside, is_outside}
use Rattle.test_solver.proofs.answers.push_domain.Goals as goal

pub cut-requires : goal.cut-requires
unfolding values is_outside
cut-requires c = (pos 3, subst (λ xs. member (pos 3) (outside (pos 1) (pos 2) xs) ≡ true) (sym (c.in_ok-d.ensures)) refl)
