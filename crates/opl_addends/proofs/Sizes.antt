-- How large sums of ranges are, and how loops over addends make them.
use Rattle.std.proofs.Common.{◌≡◌, ◌∙◌, ℕ, zero, suc, ◌+◌, ◌-◌, ◌≤◌, ◌<◌, Bool, true, false, cond, not, refl, List, [], ◌∷◌, ◌++◌, map, length, get_or, drop, ℤ, pos, ap, sym, subst, arith}
use Rattle.std.specs.Prelude.{Option, Some}
use Rattle.std.specs.List.{filter}
use Rattle.opl_domain.specs.Span.{Span, magnitude, point}
use Rattle.opl_domain.specs.Arithmetic.{span_add}
use Rattle.opl_domain.specs.Family.{Family, Below}
use Rattle.opl_expr.specs.declared.model.Core.{Core}
use Rattle.opl_expr.specs.Forms.{Term}
use Rattle.opl_expr.specs.Options.{lift}
use Rattle.opl_expr.specs.Range.{range}
use Rattle.opl_expr.specs.Solutions.{declared}
use Rattle.opl_expr.specs.Sound.{IsSmall, IsSoundTerm, term_magnitude}
use Rattle.opl_expr.proofs.Bounds.{lift1_parts, lift_parts, sound_small}
use Rattle.opl_range.proofs.Bounds.{add_bound, neg_bound}
use Rattle.opl_range.proofs.Weights.{ranges_are_small}
use Rattle.opl_range.proofs.Parts.{part_before}
use Rattle.opl_addends.specs.Addends.{signed_span, addend_range, total, magnitudes, AreSound, CanAdd}

signed_bound : (o : Bool) (a : Span) → magnitude (signed_span o a) ≤ magnitude a
signed_bound false a = omega arith
signed_bound true a = neg_bound a

pub addend_small : (core : Core) (F : Family) (a : Bool × Term) (r : Span) → Below F (declared core) → addend_range F a ≡ Some r → magnitude r ≤ term_magnitude core.sets a.1
addend_small core F a r b e =
    let p = lift1_parts (signed_span a.0) (range F a.1) r e in
    let h = ranges_are_small.ranges core F a.1 p.0 b p.1 in
    subst (λ z. magnitude z ≤ term_magnitude core.sets a.1) (sym p.2) (omega (arith, h, signed_bound a.0 p.0))

pub total_small : (core : Core) (F : Family) (ss : List (Bool × Term)) (r : Span) → Below F (declared core) → total F ss ≡ Some r → magnitude r ≤ magnitudes core.sets ss
total_small core F [] r b e = let s : point (pos 0) ≡ r = cc in subst (λ z. magnitude z ≤ 0) s (omega arith)
total_small core F (a ∷ ss) r b e =
    let p = lift_parts span_add (addend_range F a) (total F ss) r e in
    let h = addend_small core F a p.0 b p.2 in
    let k = total_small core F ss p.1 b p.3 in
    subst (λ z. magnitude z ≤ magnitudes core.sets (a ∷ ss)) (sym p.4) (omega (arith, h, k, add_bound p.0 p.1))

-- ---- some of the addends

module _ (sets : List (ℤ × ℤ)) where
  magnitudes_append : (ss ts : List (Bool × Term)) → magnitudes sets (ss ++ ts) ≡ magnitudes sets ss + magnitudes sets ts
  magnitudes_append [] ts = omega arith
  magnitudes_append (a ∷ ss) ts = omega (arith, magnitudes_append ss ts)

  sound_behind : (ss ts : List (Bool × Term)) → AreSound sets (ss ++ ts) → AreSound sets ts
  sound_behind [] ts h = h
  sound_behind (a ∷ ss) ts h = sound_behind ss ts h.1

  pub can_add_behind : (ss ts : List (Bool × Term)) → CanAdd sets (ss ++ ts) → CanAdd sets ts
  can_add_behind ss ts c = record { sound = sound_behind ss ts c.sound; small = omega (arith, c.small, magnitudes_append ss ts) }

  -- those that pass a test, and the others
  magnitudes_some : (p : Bool × Term → Bool) (ss : List (Bool × Term)) → magnitudes sets (filter p ss) ≤ magnitudes sets ss
  magnitudes_some p [] = omega arith
  magnitudes_some p (a ∷ ss) = elim (p a) as (λ b. magnitudes sets (cond b (a ∷ filter p ss) (filter p ss)) ≤ magnitudes sets (a ∷ ss)) [
    | true ↦ omega (arith, magnitudes_some p ss)
    | false ↦ omega (arith, magnitudes_some p ss)
  ]

  sound_some : (p : Bool × Term → Bool) (ss : List (Bool × Term)) → AreSound sets ss → AreSound sets (filter p ss)
  sound_some p [] h = h
  sound_some p (a ∷ ss) h = elim (p a) as (λ b. AreSound sets (cond b (a ∷ filter p ss) (filter p ss))) [
    | true ↦ (h.0, sound_some p ss h.1)
    | false ↦ sound_some p ss h.1
  ]

  pub can_add_some : (p : Bool × Term → Bool) (ss : List (Bool × Term)) → CanAdd sets ss → CanAdd sets (filter p ss)
  can_add_some p ss c = record { sound = sound_some p ss c.sound; small = omega (arith, c.small, magnitudes_some p ss) }

  pub magnitudes_split : (p : Bool × Term → Bool) (ss : List (Bool × Term)) → magnitudes sets (filter (λ a. not (p a)) ss) + magnitudes sets (filter p ss) ≡ magnitudes sets ss
  magnitudes_split p [] = refl
  magnitudes_split p (a ∷ ss) = elim (p a) as (λ b. magnitudes sets (cond (not b) (a ∷ filter (λ c. not (p c)) ss) (filter (λ c. not (p c)) ss)) + magnitudes sets (cond b (a ∷ filter p ss) (filter p ss)) ≡ magnitudes sets (a ∷ ss)) [
    | true ↦ omega (arith, magnitudes_split p ss)
    | false ↦ omega (arith, magnitudes_split p ss)
  ]

-- ---- one more addend

pub first_sound : (core : Core) (a : Bool × Term) (ss : List (Bool × Term)) → CanAdd core.sets (a ∷ ss) → IsSoundTerm core.sets a.1
first_sound core a ss c = c.sound.0

pub one_more_fits : (core : Core) (F : Family) (a : Bool × Term) (ss : List (Bool × Term)) (r s : Option Span) → Below F (declared core) → CanAdd core.sets (a ∷ ss) → r ≡ addend_range F a → s ≡ total F ss → (u v : Span) → r ≡ Some u → s ≡ Some v → IsSmall (magnitude u + magnitude v)
one_more_fits core F a ss r s b c i j u v h k = omega (arith, c.small, addend_small core F a u b (sym i ∙ h), total_small core F ss v b (sym j ∙ k))

pub one_more : (F : Family) (a : Bool × Term) (ss : List (Bool × Term)) (r s w : Option Span) → r ≡ addend_range F a → s ≡ total F ss → w ≡ lift span_add r s → w ≡ total F (a ∷ ss)
one_more F a ss r s w i j e = e ∙ ap (λ z. lift span_add z s) i ∙ ap (lift span_add (addend_range F a)) j

pub small_addend : (core : Core) (F : Family) (a : Bool × Term) (r : Span) → Below F (declared core) → IsSoundTerm core.sets a.1 → Some r ≡ range F a.1 → IsSmall (magnitude r)
small_addend core F a r b s e = omega (arith, ranges_are_small.ranges core F a.1 r b (sym e), sound_small core.sets a.1 s)

-- ---- loops from the right

module _ {X : Type 0} (f : X → Bool × Term) where
  -- what is left from the place before
  pub from_before : (xs : List X) (L : ℕ) (x : X) → 0 < L → L ≤ length xs → x ≡ get_or xs (L - 1) x → map f (drop (L - 1) xs) ≡ f x ∷ map f (drop L xs)
  from_before xs L x p h e = ap (map f) (part_before xs L x p h e)

  dropped : (sets : List (ℤ × ℤ)) (xs : List X) (L : ℕ) → CanAdd sets (map f xs) → CanAdd sets (map f (drop L xs))
  dropped sets xs zero c = c
  dropped sets [] (suc L) c = c
  dropped sets (x ∷ xs) (suc L) c = dropped sets xs L (can_add_behind sets (f x ∷ []) (map f xs) c)

  pub can_add_before : (sets : List (ℤ × ℤ)) (xs : List X) (L : ℕ) (x : X) → 0 < L → L ≤ length xs → x ≡ get_or xs (L - 1) x → CanAdd sets (map f xs) → CanAdd sets (f x ∷ map f (drop L xs))
  can_add_before sets xs L x p h e c = subst (CanAdd sets) (from_before xs L x p h e) (dropped sets xs (L - 1) c)
