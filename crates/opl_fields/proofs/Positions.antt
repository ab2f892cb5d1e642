-- The position of a name is where it stands.
use Rattle.std.proofs.Common.{◌≡◌, ℕ, suc, ◌+◌, Bool, true, false, cond, List, [], ◌∷◌, Option, Some, refl, ap, sym, subst, arith}
use Rattle.std.specs.List.{slice_get}
use Rattle.std.specs.Str.{bytes_eq}
use Rattle.std.proofs.lemmas.Slice.Eq.{bytes_eq-Decides}
use Rattle.opl_fields.specs.Structs.{field_names, position_from, position}
use Rattle.opl_fields.specs.Laws.{PositionsAreRight}

-- the name stands at q, and p counts from b on
record Stands (b : ℕ) (name : List ℕ) (names : List (List ℕ)) (p : ℕ) : Type 0 where
  q : ℕ
  is : p ≡ b + q
  stands : slice_get names q ≡ Some name

same : (a b : ℕ) → ◌≡◌ {A = Option ℕ} (Some a) (Some b) → a ≡ b
same a b h = cc

stands-here : (v : Bool) (b : ℕ) (name n : List ℕ) (ns : List (List ℕ)) (p : ℕ) → bytes_eq name n ≡ v → (position_from (b + 1) name ns ≡ Some p → Stands (b + 1) name ns p) →
    cond v (Some b) (position_from (b + 1) name ns) ≡ Some p → Stands b name (n ∷ ns) p
stands-here true b name n ns p e below h =
    let is : b ≡ p = same b p h in
    record { q = 0; is = omega arith; stands = ap (λ m. Some m) (sym ((bytes_eq-Decides name n).0 e)) }
stands-here false b name n ns p e below h =
    let s : Stands (b + 1) name ns p = below h in
    let is : p ≡ (b + 1) + s.q = s.is in
    record { q = suc s.q; is = omega arith; stands = s.stands }

stands-from : (b : ℕ) (name : List ℕ) (names : List (List ℕ)) (p : ℕ) → position_from b name names ≡ Some p → Stands b name names p
stands-from b name [] p h = absurd (cc)
stands-from b name (n ∷ ns) p h = stands-here (bytes_eq name n) b name n ns p refl (stands-from (b + 1) name ns p) h

pub positions_are_right : PositionsAreRight
unfolding position
positions_are_right ds k name p h =
    let s : Stands 0 name (field_names ds k) p = stands-from 0 name (field_names ds k) p h in
    let is : p ≡ 0 + s.q = s.is in
    let e : s.q ≡ p = omega arith in
    subst (λ q. slice_get (field_names ds k) q ≡ Some name) e s.stands
