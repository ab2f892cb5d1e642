-- What undoing leaves.
use Rattle.std.proofs.Common.{◌≡◌, ◌∙◌, ℕ, ◌+◌, ◌<◌, ◌≤◌, true, false, cond, refl, List, [], ◌∷◌, ◌++◌, length, set, take, drop, ap, sym, subst, arith, inl, inr}
use Rattle.std.specs.Prelude.{nat_eq}
use Rattle.std.proofs.lemmas.Bool.{cases_eq}
use Rattle.std.proofs.lemmas.List.{length-set, set-set, set_comm, take-append-le, drop-append-le}
use Rattle.opl_trail.specs.declared.trail.Saved.{Saved}
use Rattle.opl_trail.specs.Trails.{undo, saves_of}

pub undo_append : (old : Saved → ℕ) (es fs : List Saved) (xs : List ℕ) → undo old (es ++ fs) xs ≡ undo old es (undo old fs xs)
undo_append old [] fs xs = refl
undo_append old (e ∷ es) fs xs = ap (λ ys. set ys e.place (old e)) (undo_append old es fs xs)

pub length-undo : (old : Saved → ℕ) (es : List Saved) (xs : List ℕ) → length (undo old es xs) ≡ length xs
length-undo old [] xs = refl
length-undo old (e ∷ es) xs = length-set (undo old es xs) e.place (old e) ∙ length-undo old es xs

-- what is written at a place has no part in it, once the place is written again
pub write_hidden : (old : Saved → ℕ) (es : List Saved) (xs : List ℕ) (p w v : ℕ) → set (undo old es (set xs p w)) p v ≡ set (undo old es xs) p v
write_hidden old [] xs p w v = set-set xs p w v
write_hidden old (e ∷ es) xs p w v =
    elim (cases_eq e.place p) [
      | inl i ↦ subst (λ q. set (set (undo old es (set xs p w)) q (old e)) p v ≡ set (set (undo old es xs) q (old e)) p v) (sym i)
          (set-set (undo old es (set xs p w)) p (old e) v ∙ write_hidden old es xs p w v ∙ sym (set-set (undo old es xs) p (old e) v))
      | inr n ↦ set_comm (undo old es (set xs p w)) e.place p (old e) v n ∙ ap (λ ys. set ys e.place (old e)) (write_hidden old es xs p w v) ∙ sym (set_comm (undo old es xs) e.place p (old e) v n)
    ]

same_nat : (x y : ℕ) → nat_eq x y ≡ true → x ≡ y
same_nat x y h = grind arith

-- a saved word may be written again
pub undo_saved : (old : Saved → ℕ) (es : List Saved) (xs : List ℕ) (p w : ℕ) → 0 < saves_of p es → undo old es (set xs p w) ≡ undo old es xs
undo_saved old [] xs p w h = absurd (omega arith)
undo_saved old (e ∷ es) xs p w h =
    elim (nat_eq p e.place) as (λ b. nat_eq p e.place ≡ b → 0 < cond b 1 0 + saves_of p es → set (undo old es (set xs p w)) e.place (old e) ≡ set (undo old es xs) e.place (old e)) [
      | true ↦ λ i k. subst (λ q. set (undo old es (set xs p w)) q (old e) ≡ set (undo old es xs) q (old e)) (same_nat p e.place i) (write_hidden old es xs p w (old e))
      | false ↦ λ i k. ap (λ ys. set ys e.place (old e)) (undo_saved old es xs p w (omega (arith, k)))
    ] refl h

-- the last save is undone first
pub undo_last : (old : Saved → ℕ) (es : List Saved) (e : Saved) (xs : List ℕ) → undo old (es ++ e ∷ []) xs ≡ undo old es (set xs e.place (old e))
undo_last old es e xs = undo_append old es (e ∷ []) xs

-- one save less in the trail
pub step_back : (old : Saved → ℕ) (m : ℕ) (es fs : List Saved) (e : Saved) (xs ys zs : List ℕ) → es ≡ fs ++ e ∷ [] → m ≤ length fs → undo old (drop m es) xs ≡ zs → ys ≡ set xs e.place (old e) → undo old (drop m fs) ys ≡ zs
step_back old m es fs e xs ys zs i l h j =
    let k : drop m es ≡ drop m fs ++ e ∷ [] = ap (drop m) i ∙ drop-append-le m fs (e ∷ []) l in
    ap (undo old (drop m fs)) j ∙ sym (undo_last old (drop m fs) e xs) ∙ ap (λ gs. undo old gs xs) (sym k) ∙ h

pub front_back : (m : ℕ) (es fs : List Saved) (e : Saved) → es ≡ fs ++ e ∷ [] → m ≤ length fs → take m fs ≡ take m es
front_back m es fs e i l = sym (ap (take m) i ∙ take-append-le m fs (e ∷ []) l)
