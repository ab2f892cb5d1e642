use Rattle.std.proofs.Common.{rules, ℕ, List, ◌≡◌, ◌<◌, ℤ, pos, sym, ◌∙◌, to_z, of_z, subst, length, get_or, List}
use Rattle.std.specs.Prelude.{FitsSigned}
use mir.Syntax.{w64}
use Rattle.std.proofs.lemmas.Int.{to_z-of_z}
use Rattle.opl_domain.specs.Family.{IsRising, IsRank, IsLeastAbove}
use Rattle.opl_domain.proofs.Sets.{next_at_rank, none_at_rank, same_default}
use Rattle.opl_domain.proofs.domain.Domain.next.Goals as goal

at_rank : (xs : List ℤ) (n : ℕ) (r v : ℤ) → IsRising xs → IsRank xs v n → n < length xs → r ≡ get_or xs n r → FitsSigned w64 r → IsLeastAbove xs v (to_z w64 (of_z w64 r))
at_rank xs n r v rising t h e p =
    let same : r ≡ get_or xs n (pos 0) = e ∙ same_default xs n r (pos 0) h in
    subst (λ u. IsLeastAbove xs v u) (sym same ∙ sym (to_z-of_z w64 r p)) (next_at_rank xs v n rising t h)

pub returns-then-place-len : goal.returns-then-place-len
returns-then-place-len c =
    let after_fits : FitsSigned w64 c.args.after = c.ranges.after in
    let fits : FitsSigned w64 c.index.result.now = search rules in
    let t = simp to_z-of_z at c.rank-place.ensures in
    rw (← c.self.view_is) (at_rank _ _ _ _ c.self.invariant.rising (subst (λ xs. IsRank xs c.args.after c.rank-place.result) c.deref.ensures.value t) (search rules) c.index.ensures fits)

pub returns-else-place-len : goal.returns-else-place-len
returns-else-place-len c =
    let after_fits : FitsSigned w64 c.args.after = c.ranges.after in
    let t = simp to_z-of_z at c.rank-place.ensures in
    rw (← c.self.view_is) (none_at_rank _ _ _ (subst (λ xs. IsRank xs c.args.after c.rank-place.result) c.deref.ensures.value t) (search rules))
