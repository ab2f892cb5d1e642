-- Values of assignments: within the magnitudes of their variables, and positions where the declared set has positions alone.
use Rattle.std.proofs.Common.{◌≡◌, ℕ, zero, suc, ◌≤◌, max, ℤ, pos, negsuc, ◌≤ℤ◌, true, false, cond, int_le, unsigned_abs, List, [], ◌∷◌, map, refl, arith}
use Rattle.std.specs.Prelude.{slice_index_or}
use Rattle.std.proofs.lemmas.Bool.{and_parts}
use Rattle.std.proofs.lemmas.Int.{ints}
use Rattle.opl_domain.specs.Span.{values}
use Rattle.opl_domain.specs.Family.{member}
use Rattle.opl_domain.proofs.Members.{from_values}
use Rattle.opl_meaning.specs.Assigned.{position_of}
use Rattle.opl_expr.specs.Solutions.{is_among}
use Rattle.opl_expr.specs.Sound.{set_magnitude}
use Rattle.opl_form.specs.Nodes.{has_positions}

-- what is known of a value of a declared set
abbrev pub Belongs : List (ℤ × ℤ) → ℤ × ℤ → ℤ → Type 0
Belongs sets ends v = (unsigned_abs v ≤ set_magnitude sets ends) × (has_positions ends ≡ true → v ≡ pos (position_of v))

natural : (v : ℤ) → pos 0 ≤ℤ v → v ≡ pos (position_of v)
natural (pos n) h = refl
natural (negsuc n) h = absurd (omega (arith, ints, h))

le-up : (a b c : ℤ) → int_le a b ≡ true → b ≤ℤ c → a ≤ℤ c
le-up a b c h k = grind (arith, ints)

one-belongs : (p : ℤ × ℤ) (v : ℤ) (sets : List (ℤ × ℤ)) → member v (values (record { low = p.0; high = p.1 })) ≡ true → Belongs sets p v
one-belongs p v sets m =
    let w = from_values (record { low = p.0; high = p.1 }) v m in (
      elim (int_le p.0 p.1) as (λ b. int_le p.0 p.1 ≡ b → unsigned_abs v ≤ cond b (max 1 (max (unsigned_abs p.0) (unsigned_abs p.1))) 1) [
        | true ↦ λ e. omega (arith, ints, w.least, w.most)
        | false ↦ λ e. let l = w.least in let h = w.most in absurd (not_ordered p.0 p.1 e (omega (arith, ints)))
      ] refl,
      λ h. natural v (le-up (pos 0) p.0 v h w.least),
    )
  where
    not_ordered : (l h : ℤ) → int_le l h ≡ false → l ≤ℤ h → ⊥
    not_ordered l h e o = grind (arith, ints)

zero-belongs : (sets : List (ℤ × ℤ)) (p : ℤ × ℤ) → Belongs sets p (pos 0)
zero-belongs sets p = (omega arith, λ h. refl)

-- each value belongs to the set of its variable; past the last variable it is 0
pub belongs : (ns : List ℤ) (sets whole : List (ℤ × ℤ)) (x : ℕ) → is_among ns (map (λ p. values (record { low = p.0; high = p.1 })) sets) ≡ true → Belongs whole (slice_index_or sets x (pos 0, pos 0)) (slice_index_or ns x (pos 0))
belongs [] [] whole zero m = zero-belongs whole (pos 0, pos 0)
belongs [] [] whole (suc x) m = zero-belongs whole (pos 0, pos 0)
belongs [] (p ∷ sets) whole x m = absurd (cc)
belongs (v ∷ ns) [] whole x m = absurd (cc)
belongs (v ∷ ns) (p ∷ sets) whole zero m = one-belongs p v whole (and_parts (member v (values (record { low = p.0; high = p.1 }))) (is_among ns (map (λ p. values (record { low = p.0; high = p.1 })) sets)) m).0
belongs (v ∷ ns) (p ∷ sets) whole (suc x) m = belongs ns sets whole x (and_parts (member v (values (record { low = p.0; high = p.1 }))) (is_among ns (map (λ p. values (record { low = p.0; high = p.1 })) sets)) m).1
