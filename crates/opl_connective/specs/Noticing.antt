-- Noticing that values go.
use Rattle.std.specs.Prelude.{◌≡◌, ◌≤◌, ◌<◌, Bool, true, false}
use Rattle.std.proofs.Common.{◌∙◌, refl, arith}
use Rattle.opl_domain.specs.Family.{Family}
use Rattle.opl_trace.specs.Sweeps.{size}

-- whether values have gone was known of the family F, and is of the later family G
pub record Notices (before : Bool) (F : Family) (now : Bool) (G : Family) : Type 0 where
  pub less : size G ≤ size F
  pub none : now ≡ false → (before ≡ false) × (G ≡ F)
  pub some : now ≡ true → before ≡ false → size G < size F

pub notices_none : (b : Bool) (F : Family) → Notices b F b F
notices_none b F = record { less = omega arith; none = λ h. (h, refl); some = λ h k. cc }

pub notices_on : (b : Bool) (F : Family) (c : Bool) (G : Family) (d : Bool) (H : Family) → Notices b F c G → Notices c G d H → Notices b F d H
notices_on b F false G d H m n = record {
  less = omega (arith, m.less, n.less);
  none = λ h. ((m.none refl).0, (n.none h).1 ∙ (m.none refl).1);
  some = λ h k. let s = n.some h refl in omega (arith, s, m.less);
}
notices_on b F true G d H m n = record {
  less = omega (arith, m.less, n.less);
  none = λ h. let e = (n.none h).0 in cc;
  some = λ h k. let s = m.some refl k in omega (arith, s, n.less);
}
