use Rattle.std.proofs.Common.{arith, rules, ℕ, List, ◌-◌, ◌≡◌, ◌<◌, ℤ, pos, false, ap, ◌∙◌, of_z, subst, get_or, eqb, ltb, List}
use Rattle.std.specs.Prelude.{FitsSigned}
use mir.Syntax.{w64}
use Rattle.std.proofs.lemmas.Int.{to_z-of_z}
use Rattle.opl_domain.proofs.Bits.{same_bits_64}
use Rattle.std.specs.Ordering.{int_eq}
use Rattle.opl_domain.specs.Family.{member, IsRising, IsRank}
use Rattle.opl_domain.proofs.Sets.{last_of_rank, none_of_rank, same_default}
use Rattle.opl_domain.proofs.domain.Domain.has.Goals as goal

at_rank : (xs : List ℤ) (n : ℕ) (r v : ℤ) → IsRising xs → IsRank xs v n → 0 < n → r ≡ get_or xs (n - 1) r → FitsSigned w64 r → FitsSigned w64 v → eqb (of_z w64 r) (of_z w64 v) ≡ member v xs
at_rank xs n r v rising t h e p q =
    let same : r ≡ get_or xs (n - 1) (pos 0) = e ∙ same_default xs (n - 1) r (pos 0) (omega (arith, t.bound)) in
    same_bits_64 r v p q ∙ ap (λ u. int_eq u v) same ∙ last_of_rank xs v n rising t h

pub returns-then-place-gt0 : goal.returns-then-place-gt0
returns-then-place-gt0 c =
    let v_fits : FitsSigned w64 c.args.v = c.ranges.v in
    let fits : FitsSigned w64 c.index.result.now = search rules in
    let t = simp to_z-of_z at c.rank-place.ensures in
    rw (← c.self.view_is) (at_rank _ _ _ _ c.self.invariant.rising (subst (λ xs. IsRank xs c.args.v c.rank-place.result) c.deref.ensures.value t) c.if-place-gt0.true c.index.ensures fits v_fits)

pub returns-else-place-gt0 : goal.returns-else-place-gt0
returns-else-place-gt0 c =
    let v_fits : FitsSigned w64 c.args.v = c.ranges.v in
    let t = simp to_z-of_z at c.rank-place.ensures in
    let e : ltb 0 c.rank-place.result ≡ false = grind arith in
    rw (← c.self.view_is) (e ∙ none_of_rank _ _ _ (subst (λ xs. IsRank xs c.args.v c.rank-place.result) c.deref.ensures.value t) c.if-place-gt0.false)
