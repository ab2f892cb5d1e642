-- What is read of sets that are kept as they are seen.
use Rattle.std.proofs.Common.{◌≡◌, ◌∙◌, ℕ, zero, suc, ◌<◌, true, refl, map, List, [], ◌∷◌, length, get_or, set, ℤ, inl, inr, ap, sym, subst, arith, to_z, of_z}
use Rattle.opl_trace.specs.Between.{IsRangeOfValues, values_between}
use Rattle.std.specs.List.{All}
use Rattle.std.proofs.lemmas.List.Elements.{All-head, All-tail}
use Rattle.std.proofs.lemmas.Int.{ints}
use Rattle.opl_domain.specs.Span.{values, span_size}
use Rattle.opl_domain.proofs.Members.{in_values}
use Rattle.opl_domain.proofs.Sets.{ints_rise}
use Rattle.opl_domain.specs.Family.{Full}
use Rattle.std.specs.Prelude.{FitsSigned, Bool, Option}
use Rattle.std.proofs.lemmas.Int.{to_z-of_z}
use Rattle.std.proofs.lemmas.Bool.{cases_eq}
use mir.Syntax.{w64}
use Rattle.opl_domain.specs.Family.{member, Family, IsRising, IsFamily, is_outside, outside, set_of, has, cut_of, IsNext}
use Rattle.opl_domain.proofs.Sets.{length-cut, cut_here, cut_there, filter_rises}

get_any : (F : Family) (x : ℕ) (d e : List ℤ) → x < length F → get_or F x d ≡ get_or F x e
get_any [] x d e h = absurd (omega arith)
get_any (vs ∷ F) zero d e h = refl
get_any (vs ∷ F) (suc x) d e h = get_any F x d e (omega arith)

-- the set that is read at a place is that of the variable
pub read_is : (F G : Family) (x : ℕ) (vs : List ℤ) → F ≡ G → x < length G → vs ≡ get_or F x vs → vs ≡ set_of G x
unfolding set_of
read_is F G x vs e h r = r ∙ ap (λ H. get_or H x vs) e ∙ get_any G x vs [] h

pub told_set : (P : List ℤ → ℤ → Type 0) (G : Family) (x : ℕ) (vs : List ℤ) (v : ℤ) → FitsSigned w64 v → vs ≡ set_of G x → P vs v → P (set_of G x) (to_z w64 (of_z w64 v))
told_set P G x vs v fits e p = rw (sym e, to_z-of_z w64 v fits) p

pub told_has : (G : Family) (x : ℕ) (vs : List ℤ) (v : ℤ) (b : Bool) → FitsSigned w64 v → vs ≡ set_of G x → b ≡ member (to_z w64 (of_z w64 v)) vs → b ≡ has G x v
told_has G x vs v b fits e h = let k = simp to_z-of_z at h in k ∙ ap (member v) e

pub told_next : (G : Family) (x : ℕ) (vs : List ℤ) (after : ℤ) (o : Option ℤ) → FitsSigned w64 after → vs ≡ set_of G x → IsNext vs (to_z w64 (of_z w64 after)) o → IsNext (set_of G x) after o
told_next G x vs after o fits e h = let k = rw (to_z-of_z w64 after fits) at h in subst (λ ws. IsNext ws after o) e k

pub cut_stays : (G : Family) (x : ℕ) (lo hi : ℤ) (vs : List ℤ) → FitsSigned w64 lo → FitsSigned w64 hi → x < length G → vs ≡ set_of G x → (v : ℤ) × (has (cut_of G x lo hi) x v ≡ true) → (v : ℤ) × (member v (outside (to_z w64 (of_z w64 lo)) (to_z w64 (of_z w64 hi)) vs) ≡ true)
cut_stays G x lo hi vs l h i e s =
    (s.0, rw (to_z-of_z w64 lo l, to_z-of_z w64 hi h, e) (subst (λ ws. member s.0 ws ≡ true) (cut_here G x lo hi i) s.1))

pub cut_is : (F G : Family) (x : ℕ) (lo hi : ℤ) (vs ws : List ℤ) → FitsSigned w64 lo → FitsSigned w64 hi → F ≡ G → vs ≡ set_of G x → ws ≡ outside (to_z w64 (of_z w64 lo)) (to_z w64 (of_z w64 hi)) vs → set F x ws ≡ cut_of G x lo hi
unfolding cut_of
cut_is F G x lo hi vs ws l h e r w =
    let k = simp to_z-of_z at w in
    let i : ws ≡ outside lo hi (set_of G x) = k ∙ ap (outside lo hi) r in
    rw (e, i) refl

pub cut_is_family : (F : Family) (x : ℕ) (lo hi : ℤ) → IsFamily F → x < length F → (v : ℤ) × (has (cut_of F x lo hi) x v ≡ true) → IsFamily (cut_of F x lo hi)
cut_is_family F x lo hi f k s = record {
  full = λ y h. elim (cases_eq y x) [
    | inl e ↦ (s.0, subst (λ z. has (cut_of F x lo hi) z s.0 ≡ true) (sym e) s.1)
    | inr n ↦ let r = f.full y (omega (arith, length-cut F x lo hi)) in (r.0, subst (λ vs. member r.0 vs ≡ true) (sym (cut_there F x y lo hi n)) r.1)
  ];
  rising = λ y. elim (cases_eq y x) [
    | inl e ↦ subst (λ z. IsRising (set_of (cut_of F x lo hi) z)) (sym e) (subst (λ vs. IsRising vs) (sym (cut_here F x lo hi k)) (filter_rises (is_outside lo hi) (set_of F x) (f.rising x)))
    | inr n ↦ subst (λ vs. IsRising vs) (sym (cut_there F x y lo hi n)) (f.rising y)
  ];
}

-- ---- declared sets

between_full : (ps : List (ℤ × ℤ)) → All IsRangeOfValues ps → Full (map values_between ps)
unfolding set_of
between_full [] h x l = absurd (omega arith)
between_full (p ∷ ps) h zero l =
    let r = All-head IsRangeOfValues p ps h in
    (p.0, in_values (record { low = p.0; high = p.1 }) p.0 (record { least = omega (arith, ints); most = r.0 }))
between_full (p ∷ ps) h (suc x) l = between_full ps (All-tail IsRangeOfValues p ps h) x (omega arith)

between_rises : (ps : List (ℤ × ℤ)) (x : ℕ) → IsRising (set_of (map values_between ps) x)
unfolding set_of values
between_rises [] x = tt
between_rises (p ∷ ps) zero = ints_rise p.0 (span_size (record { low = p.0; high = p.1 }))
between_rises (p ∷ ps) (suc x) = between_rises ps x

length-between : (ps : List (ℤ × ℤ)) → length (map values_between ps) ≡ length ps
length-between [] = refl
length-between (p ∷ ps) = ap suc (length-between ps)

-- the invariant of sets that were made of all ends
pub between_sets : (F : Family) (ps qs : List (ℤ × ℤ)) → F ≡ map values_between qs → qs ≡ ps → All IsRangeOfValues ps → length ps < 4294967296 → IsFamily F × (length F < 4294967296)
between_sets F ps qs e i h l =
    let m : F ≡ map values_between ps = e ∙ ap (map values_between) i in
    (subst (λ G. IsFamily G) (sym m) (record { full = between_full ps h; rising = between_rises ps }), omega (arith, ap length m, length-between ps))
