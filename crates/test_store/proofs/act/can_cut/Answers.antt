use Rattle.std.proofs.Common.{rules, ◌≡◌, ◌<◌, ◌||◌, ℕ, ℤ, true, false, length, sym, subst, arith, refl, ◌<ℤ◌}
use Rattle.std.specs.Prelude.{FitsSigned, int_lt}
use mir.Syntax.{w64}
use Rattle.std.proofs.lemmas.Int.{to_z-of_z, ints}
use Rattle.opl_domain.specs.Family.{Family, member, is_outside, set_of, has, cut_of}
use Rattle.opl_domain.proofs.Members.{member_filter}
use Rattle.opl_domain.proofs.Sets.{cut_here}
use Rattle.test_store.proofs.act.can_cut.Goals as goal

below_is_outside : (lo hi v : ℤ) → v <ℤ lo → is_outside lo hi v ≡ true
unfolding is_outside
below_is_outside lo hi v h = grind (arith, ints)

above_is_outside : (lo hi v : ℤ) → hi <ℤ v → is_outside lo hi v ≡ true
unfolding is_outside
above_is_outside lo hi v h = elim (int_lt v lo) as (λ b. (b || int_lt hi v) ≡ true) [ true ↦ refl | false ↦ grind (arith, ints) ]

-- a value that is outside stays
outside_stays : (F : Family) (x : ℕ) (lo hi v : ℤ) → x < length F → member v (set_of F x) ≡ true → is_outside lo hi v ≡ true → (w : ℤ) × (has (cut_of F x lo hi) x w ≡ true)
outside_stays F x lo hi v h m o = (v, subst (λ vs. member v vs ≡ true) (sym (cut_here F x lo hi h)) (member_filter (is_outside lo hi) (set_of F x) v m o))

pub returns-then-min-lo-clause-stays : goal.returns-then-min-lo-clause-stays
returns-then-min-lo-clause-stays c t =
    let lo : FitsSigned w64 c.args.lo = c.ranges.lo in
    let fits : FitsSigned w64 c.min.result = search rules in
    let l : c.min.result <ℤ c.args.lo = grind (arith, ints, to_z-of_z, c.if-min-lo.true) in
    let x : c.args.x < length c.args.store.now.top = omega (arith, c.vars.ensures.count, c.if-x-vars.false) in
    outside_stays c.args.store.now.top c.args.x c.args.lo c.args.hi c.min.result x c.min.ensures.among (below_is_outside c.args.lo c.args.hi c.min.result l)

pub returns-clause-stays : goal.returns-clause-stays
returns-clause-stays c t =
    let hi : FitsSigned w64 c.args.hi = c.ranges.hi in
    let fits : FitsSigned w64 c.max.result = search rules in
    let l : c.args.hi <ℤ c.max.result = grind (arith, ints, to_z-of_z, t) in
    let x : c.args.x < length c.args.store.now.top = omega (arith, c.vars.ensures.count, c.if-x-vars.false) in
    outside_stays c.args.store.now.top c.args.x c.args.lo c.args.hi c.max.result x c.max.ensures.among (above_is_outside c.args.lo c.args.hi c.max.result l)
