-- Sets and values within declared ones.
use Rattle.std.proofs.Common.{◌≡◌, ◌≢◌, ℕ, zero, suc, ◌+◌, ◌-◌, ◌≤◌, ◌<◌, Bool, true, false, ◌&&◌, refl, List, [], ◌∷◌, map, length, get_or, drop, ℤ, pos, ◌≤ℤ◌, ap, sym, ◌∙◌, subst, arith, inl, inr}
use Rattle.std.specs.Prelude.{int_le}
use Rattle.std.proofs.lemmas.Int.{ints}
use Rattle.std.proofs.lemmas.Bool.{cases_eq}
use Rattle.opl_domain.specs.Family.{Family, member, has, set_of, IsLeast, IsGreatest, Below}
use Rattle.opl_domain.proofs.Members.{in_values, from_values}
use Rattle.opl_expr.specs.declared.model.Core.{Core}
use Rattle.opl_expr.specs.Solutions.{declared, is_among}
use Rattle.opl_expr.proofs.Parts.{drop_at, one_less}
use Rattle.opl_trace.specs.Between.{values_between}
use Rattle.opl_sound.proofs.Lists.{and_false}

-- ---- values between two ends

same_truth : (b c : Bool) → (b ≡ true → c ≡ true) → (c ≡ true → b ≡ true) → b ≡ c
same_truth true c f g = sym (f refl)
same_truth false true f g = g refl
same_truth false false f g = refl

is_most : (v w : ℤ) → v ≤ℤ w → int_le v w ≡ true
is_most v w h = elim (int_le v w) as (λ b. int_le v w ≡ b → b ≡ true) [ true ↦ λ e. refl | false ↦ λ e. absurd (omega (arith, ints, e, h)) ] refl

pub up_to : (p : ℤ × ℤ) (v : ℤ) → int_le p.0 v ≡ true → int_le v p.1 ≡ member v (values_between p)
up_to p v h =
    same_truth (int_le v p.1) (member v (values_between p)) (λ e. in_values (record { low = p.0; high = p.1 }) v (record { least = omega (arith, ints, h); most = omega (arith, ints, e) }))
    (λ e. is_most v p.1 (from_values (record { low = p.0; high = p.1 }) v e).most)

pub from_low : (p : ℤ × ℤ) (v : ℤ) → int_le p.0 v ≡ false → int_le p.0 v ≡ member v (values_between p)
from_low p v h =
    same_truth (int_le p.0 v) (member v (values_between p)) (λ e. absurd (omega (arith, ints, e, h)))
    (λ e. let l = (from_values (record { low = p.0; high = p.1 }) v e).least in absurd (omega (arith, ints, l, h)))

-- all values of a variable are between two ends
abbrev pub LieBetween : Family → ℕ → ℤ × ℤ → Type 0
LieBetween F x p = (v : ℤ) → has F x v ≡ true → member v (values_between p) ≡ true

pub lie_up_to : (F : Family) (x : ℕ) (p : ℤ × ℤ) (l m : ℤ) → IsLeast (set_of F x) l → IsGreatest (set_of F x) m → int_le p.0 l ≡ true → (int_le m p.1 ≡ true → LieBetween F x p) × (LieBetween F x p → int_le m p.1 ≡ true)
lie_up_to F x p l m i j h = (
  λ e v k. let a = i.least v k in let b = j.most v k in in_values (record { low = p.0; high = p.1 }) v (record { least = omega (arith, ints, h, a); most = omega (arith, ints, e, b) }),
  λ k. is_most m p.1 (from_values (record { low = p.0; high = p.1 }) m (k m j.among)).most,
)

pub lie_from : (F : Family) (x : ℕ) (p : ℤ × ℤ) (l : ℤ) → IsLeast (set_of F x) l → int_le p.0 l ≡ false → (int_le p.0 l ≡ true → LieBetween F x p) × (LieBetween F x p → int_le p.0 l ≡ true)
lie_from F x p l i h = (λ e. absurd (omega (arith, ints, e, h)), λ k. let a = (from_values (record { low = p.0; high = p.1 }) l (k l i.among)).least in absurd (omega (arith, ints, a, h)))

-- ---- families

map_length : (ps : List (ℤ × ℤ)) → length (map values_between ps) ≡ length ps
map_length [] = refl
map_length (p ∷ ps) = ap suc (map_length ps)

pub length_declared : (core : Core) → length (declared core) ≡ length core.sets
unfolding declared
length_declared core = map_length core.sets

map_at : (ps : List (ℤ × ℤ)) (x : ℕ) (d : ℤ × ℤ) → x < length ps → get_or (map values_between ps) x [] ≡ values_between (get_or ps x d)
map_at [] x d h = absurd (omega (arith, h))
map_at (p ∷ ps) zero d h = refl
map_at (p ∷ ps) (suc x) d h = map_at ps x d (omega (arith, h))

pub declared_at : (core : Core) (x : ℕ) (d : ℤ × ℤ) → x < length core.sets → set_of (declared core) x ≡ values_between (get_or core.sets x d)
unfolding declared set_of
declared_at core x d h = map_at core.sets x d h

pub is_variable : (F : Family) (x : ℕ) (v : ℤ) → has F x v ≡ true → x < length F
unfolding set_of
is_variable [] x v h = cc
is_variable (vs ∷ F) zero v h = omega arith
is_variable (vs ∷ F) (suc x) v h = let i = is_variable F x v h in omega (arith, i)

-- ---- assignments

pub among_is : (core : Core) (a : List ℤ) → is_among a (declared core) ≡ is_among a (map values_between core.sets)
unfolding declared
among_is core a = refl

pub other_count : (a : List ℤ) (ps : List (ℤ × ℤ)) → length a ≢ length ps → false ≡ is_among a (map values_between ps)
other_count [] [] h = absurd (h refl)
other_count [] (p ∷ ps) h = refl
other_count (v ∷ a) [] h = refl
other_count (v ∷ a) (p ∷ ps) h = sym (ap (λ b. member v (values_between p) && b) (sym (other_count a ps (λ e. h (ap suc e)))) ∙ and_false (member v (values_between p)))

among_from : (a : List ℤ) (ps : List (ℤ × ℤ)) (k : ℕ) → length a ≡ length ps → is_among (drop k a) (map values_between (drop k ps)) ≡ false → is_among a (map values_between ps) ≡ false
among_from a ps zero l e = e
among_from [] [] (suc k) l e = e
among_from [] (p ∷ ps) (suc k) l e = refl
among_from (v ∷ a) [] (suc k) l e = refl
among_from (v ∷ a) (p ∷ ps) (suc k) l e = ap (λ b. member v (values_between p) && b) (among_from a ps k (omega (arith, l)) e) ∙ and_false (member v (values_between p))

any_end : {X : Type 0} (xs : List X) (k : ℕ) (d e : X) → k < length xs → get_or xs k d ≡ get_or xs k e
any_end [] k d e h = absurd (omega (arith, h))
any_end (x ∷ xs) zero d e h = refl
any_end (x ∷ xs) (suc k) d e h = any_end xs k d e (omega (arith, h))

among_at : (a : List ℤ) (ps : List (ℤ × ℤ)) (k : ℕ) (d : ℤ × ℤ) → k < length a → length a ≡ length ps
    → is_among (drop k a) (map values_between (drop k ps)) ≡ (member (get_or a k (pos 0)) (values_between (get_or ps k d)) && is_among (drop (k + 1) a) (map values_between (drop (k + 1) ps)))
among_at a ps k d h l =
    ap (λ xs. is_among xs (map values_between (drop k ps))) (drop_at a k (get_or a k (pos 0)) h (any_end a k (pos 0) (get_or a k (pos 0)) h))
    ∙ ap (λ qs. is_among (get_or a k (pos 0) ∷ drop (k + 1) a) (map values_between qs)) (drop_at ps k (get_or ps k d) (omega (arith, h, l)) (any_end ps k d (get_or ps k d) (omega (arith, h, l))))

pub one_outside : (a : List ℤ) (ps : List (ℤ × ℤ)) (k : ℕ) (d : ℤ × ℤ) → k < length a → length a ≡ length ps → member (get_or a k (pos 0)) (values_between (get_or ps k d)) ≡ false → false ≡ is_among a (map values_between ps)
one_outside a ps k d h l e = sym (among_from a ps k l (among_at a ps k d h l ∙ ap (λ b. b && is_among (drop (k + 1) a) (map values_between (drop (k + 1) ps))) e))

pub one_more : (a : List ℤ) (ps : List (ℤ × ℤ)) (L : ℕ) (d : ℤ × ℤ) → 0 < L → L ≤ length a → length a ≡ length ps → member (get_or a (L - 1) (pos 0)) (values_between (get_or ps (L - 1) d)) ≡ true
    → is_among (drop L a) (map values_between (drop L ps)) ≡ true → is_among (drop (L - 1) a) (map values_between (drop (L - 1) ps)) ≡ true
one_more a ps L d p h l e f =
    among_at a ps (L - 1) d (omega (arith, p, h)) l ∙ ap (λ b. b && is_among (drop (L - 1 + 1) a) (map values_between (drop (L - 1 + 1) ps))) e
    ∙ ap (λ k. is_among (drop k a) (map values_between (drop k ps))) (one_less L p) ∙ f

-- ---- families within the declared one

no_truth : false ≡ true → ⊥
no_truth e = cc

pub other_variables : (core : Core) (F : Family) (n : ℕ) → n ≡ length F → n ≢ length core.sets → (false ≡ true → Below F (declared core)) × (Below F (declared core) → false ≡ true)
other_variables core F n e h = (λ t. absurd (no_truth t), λ b. absurd (h (e ∙ b.same ∙ length_declared core)))

pub one_not_within : (core : Core) (F : Family) (x : ℕ) (r : Bool) → x < length core.sets → (LieBetween F x (get_or core.sets x (pos 0, pos 0)) → r ≡ true) → r ≡ false → (false ≡ true → Below F (declared core)) × (Below F (declared core) → false ≡ true)
one_not_within core F x r h f e =
    (λ t. absurd (no_truth t), λ b. sym e ∙ f (λ v i. subst (λ vs. member v vs ≡ true) (declared_at core x (pos 0, pos 0) h) (b.sub x v i)))

pub next_within : (core : Core) (F : Family) (x : ℕ) (r : Bool) → x < length core.sets → (r ≡ true → LieBetween F x (get_or core.sets x (pos 0, pos 0))) → r ≡ true → ((y : ℕ) (v : ℤ) → y < x → has F y v ≡ true → has (declared core) y v ≡ true)
    → (y : ℕ) (v : ℤ) → y < x + 1 → has F y v ≡ true → has (declared core) y v ≡ true
next_within core F x r h f e i y v j k = elim (cases_eq y x) [
  | inl s ↦ subst (λ z. has (declared core) z v ≡ true) (sym s) (subst (λ vs. member v vs ≡ true) (sym (declared_at core x (pos 0, pos 0) h)) (f e v (subst (λ z. has F z v ≡ true) s k)))
  | inr n ↦ i y v (below j n) k
]
  where
    below : y < x + 1 → y ≢ x → y < x
    below j n = grind arith

pub all_within : (core : Core) (F : Family) (n x : ℕ) → n ≡ length F → n ≡ length core.sets → n ≤ x → ((y : ℕ) (v : ℤ) → y < x → has F y v ≡ true → has (declared core) y v ≡ true) → (true ≡ true → Below F (declared core)) × (Below F (declared core) → true ≡ true)
all_within core F n x e l h i = (λ t. record { sub = λ y v k. i y v (let j = is_variable F y v k in omega (arith, j, e, h)) k; same = sym e ∙ l ∙ sym (length_declared core) }, λ b. refl)
