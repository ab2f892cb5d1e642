-- Noticing that values go.
use Rattle.std.proofs.Common.{◌≡◌, ◌∙◌, ℕ, zero, suc, ◌+◌, ◌≤◌, ◌<◌, Bool, true, false, cond, ◌||◌, refl, List, [], ◌∷◌, length, set, ℤ, ap, sym, subst, arith}
use Rattle.std.specs.Prelude.{nat_lt}
use Rattle.std.specs.List.{filter}
use Rattle.opl_domain.specs.Family.{Family, is_outside, outside, set_of, cut_of}
use Rattle.opl_domain.proofs.Sets.{length-cut, cut_here}
use Rattle.opl_trace.specs.Sweeps.{size}
use Rattle.opl_trace.proofs.Families.{filter_shorter}
use Rattle.opl_connective.specs.Noticing.{Notices}

size_set : (F : Family) (x : ℕ) (vs : List ℤ) → x < length F → size (set F x vs) + length (set_of F x) ≡ size F + length vs
unfolding set_of
size_set [] x vs h = absurd (omega arith)
size_set (us ∷ F) zero vs h = omega arith
size_set (us ∷ F) (suc x) vs h = let r = size_set F x vs (omega arith) in omega (arith, r)

set_again : (F : Family) (x : ℕ) → set F x (set_of F x) ≡ F
unfolding set_of
set_again [] x = refl
set_again (us ∷ F) zero = refl
set_again (us ∷ F) (suc x) = ap (λ G. us ∷ G) (set_again F x)

all_left : (p : ℤ → Bool) (vs : List ℤ) → length vs ≤ length (filter p vs) → filter p vs ≡ vs
all_left p [] h = refl
all_left p (v ∷ vs) h =
    elim (p v) as (λ b. length (v ∷ vs) ≤ length (cond b (v ∷ filter p vs) (filter p vs)) → cond b (v ∷ filter p vs) (filter p vs) ≡ v ∷ vs) [
      | true ↦ λ l. ap (λ ws. v ∷ ws) (all_left p vs (omega (arith, l)))
      | false ↦ λ l. absurd (let s = filter_shorter p vs in omega (arith, l, s))
    ] h

sized : (F : Family) (x : ℕ) (lo hi : ℤ) → x < length F → size (cut_of F x lo hi) + length (set_of F x) ≡ size F + length (outside lo hi (set_of F x))
unfolding cut_of
sized F x lo hi l = size_set F x (outside lo hi (set_of F x)) l

same : (F : Family) (x : ℕ) (lo hi : ℤ) (before now : ℕ) → before ≡ length (set_of F x) → before ≤ now → now ≡ length (outside lo hi (set_of F x)) → cut_of F x lo hi ≡ F
unfolding cut_of
same F x lo hi before now e k n = ap (set F x) (all_left (is_outside lo hi) (set_of F x) (omega (arith, k, n, e))) ∙ set_again F x

-- before and now are the sizes of the set of x, before a cut and afterwards
pub notices_cut : (F : Family) (x : ℕ) (lo hi : ℤ) (b : Bool) (before now : ℕ) → x < length F → before ≡ length (set_of F x) → now ≡ length (set_of (cut_of F x lo hi) x) → Notices b F (b || nat_lt now before) (cut_of F x lo hi)
notices_cut F x lo hi b before now l e i =
    let s : size (cut_of F x lo hi) + length (set_of F x) ≡ size F + length (outside lo hi (set_of F x)) = sized F x lo hi l in
    let n : now ≡ length (outside lo hi (set_of F x)) = i ∙ ap length (cut_here F x lo hi l) in
    let m = filter_shorter (is_outside lo hi) (set_of F x) in
    record {
      less = omega (arith, s, m);
      none = λ h. let o = or_parts b (nat_lt now before) h in (o.0, same F x lo hi before now e (not_less now before o.1) n);
      some = λ h k. let o = or_second b (nat_lt now before) h k in omega (arith, s, n, e, is_less now before o);
    }
  where
    or_parts : (a c : Bool) → (a || c) ≡ false → (a ≡ false) × (c ≡ false)
    or_parts true c h = cc
    or_parts false c h = (refl, h)

    or_second : (a c : Bool) → (a || c) ≡ true → a ≡ false → c ≡ true
    or_second true c h k = cc
    or_second false c h k = h

    not_less : (n m : ℕ) → nat_lt n m ≡ false → m ≤ n
    not_less n m h = grind arith

    is_less : (n m : ℕ) → nat_lt n m ≡ true → n < m
    is_less n m h = grind arith

pub cut_within : (F G : Family) (x : ℕ) (lo hi : ℤ) → x < length F → G ≡ cut_of F x lo hi → x < length G
cut_within F G x lo hi l e = omega (arith, l, ap length e, length-cut F x lo hi)

pub notices_told : (F G : Family) (x : ℕ) (lo hi : ℤ) (b : Bool) (before now : ℕ) → x < length F → G ≡ cut_of F x lo hi → before ≡ length (set_of F x) → now ≡ length (set_of G x) → Notices b F (b || nat_lt now before) G
notices_told F G x lo hi b before now l e h k = subst (λ H. Notices b F (b || nat_lt now before) H) (sym e) (notices_cut F x lo hi b before now l h (k ∙ ap (λ H. length (set_of H x)) e))
