-- Unions of stable families are stable.
use Rattle.std.proofs.Common.{◌≡◌, ℕ, Bool, true, false, List, ℤ, subst, sym, arith}
use Rattle.opl_domain.specs.Family.{Family, has, only, Below, Full}
use Rattle.opl_expr.specs.Laws.{singles}
use Rattle.opl_trace.specs.Stable.{IsMonotone, IsStable, IsStableWithin, IsStableUnion, IsGreatestStable}
use Rattle.opl_trace.specs.ClosureLaws.{UnionIsStable, ClosureIsGreatest}
use Rattle.opl_trace.proofs.Passing.{false_unless}
use Rattle.opl_trace.proofs.Families.{has_at, only_full, only_below_only, singles_full, singles_only}

-- a family below one that isn't dead
pub spared_above : (dead : Family → Bool) (F G : Family) → IsMonotone dead → Full F → Below F G → dead F ≡ false → dead G ≡ false
spared_above dead F G m f b h = false_unless (dead G) (λ e. let k = m.falls F G f b e in cc)

-- a stable family below U that has the value v of x
pub record IsCovered (dead : Family → Bool) (U : Family) (x : ℕ) (v : ℤ) : Type 0 where
  pub family : Family
  pub stable : IsStable dead family
  pub below : Below family U
  pub value : has family x v ≡ true

pub covered_stable : (dead : Family → Bool) (G U : Family) → IsMonotone dead → IsStable dead G → Below G U → ((x : ℕ) (v : ℤ) → has U x v ≡ true → IsCovered dead U x v) → IsStable dead U
covered_stable dead G U m s b all = record {
  full = λ x h. let r = s.full x (omega (arith, b.same)) in (r.0, b.sub x r.0 r.1);
  spared = spared_above dead G U m s.full b s.spared;
  each = λ x v h k. let c = all x v k in
      spared_above dead (only c.family x v) (only U x v) m (only_full c.family x v c.stable.full) (only_below_only c.family U x v c.below)
      (c.stable.each x v (has_at c.family x v c.value) c.value);
}

pub union_is_stable : UnionIsStable
union_is_stable dead among U m u all =
    let below : (F : Family) → among F ≡ true → Below F U = λ F a. record { sub = λ x v h. (u.values x v).1 (record { family = F; is_among = a; value = h }); same = u.same F a } in
    covered_stable dead u.family U m (all u.family u.is_among) (below u.family u.is_among)
    (λ x v h. let w = (u.values x v).0 h in record { family = w.family; stable = all w.family w.is_among; below = below w.family w.is_among; value = w.value })

-- each stable family within D is below the union of all
pub below_union : (dead : Family → Bool) (D C F : Family) → IsStableUnion dead D C → IsStableWithin dead D F → Below F C
below_union dead D C F u s = record {
  sub = λ x v h. (u.values x v).1 (record { family = F; is_stable = s; value = h });
  same = let a = s.within.same in let b = u.same in cc;
}

pub greatest_from_union : (dead : Family → Bool) (D C : Family) → IsMonotone dead → IsStableUnion dead D C → IsGreatestStable dead D C
greatest_from_union dead D C m u = record {
  is_stable = record {
    stable = covered_stable dead u.family C m u.is_stable.stable (below_union dead D C u.family u u.is_stable)
        (λ x v h. let w = (u.values x v).0 h in record { family = w.family; stable = w.is_stable.stable; below = below_union dead D C w.family u w.is_stable; value = w.value });
    within = record { sub = λ x v h. let w = (u.values x v).0 h in w.is_stable.within.sub x v w.value; same = u.same };
  };
  most = λ F s. below_union dead D C F u s;
}

pub union_from_greatest : (dead : Family → Bool) (D C : Family) → IsGreatestStable dead D C → IsStableUnion dead D C
union_from_greatest dead D C g = record {
  family = C;
  is_stable = g.is_stable;
  same = g.is_stable.within.same;
  values = λ x v. (λ h. record { family = C; is_stable = g.is_stable; value = h }, λ w. (g.most w.family w.is_stable).sub x v w.value);
}

pub closure_is_greatest : ClosureIsGreatest
closure_is_greatest dead D C m = (greatest_from_union dead D C m, union_from_greatest dead D C)

-- a family that has the values of a stable one is stable
pub stable_alike : (dead : Family → Bool) (F G : Family) → IsMonotone dead → IsStable dead F → Below F G → Below G F → IsStable dead G
stable_alike dead F G m s a b = covered_stable dead F G m s a (λ x v h. record { family = F; stable = s; below = a; value = b.sub x v h })

-- an assignment that is spared is a stable family
pub singles_stable : (dead : Family → Bool) (a : List ℤ) → dead (singles a) ≡ false → IsStable dead (singles a)
singles_stable dead a h = record {
  full = singles_full a;
  spared = h;
  each = λ x v k m. subst (λ F. dead F ≡ false) (sym (singles_only a x v m)) h;
}
