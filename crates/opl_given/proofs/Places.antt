-- The places that are kept are those of the latest names.
use Rattle.std.proofs.Common.{◌≡◌, ℕ, ◌+◌, cond, List, [], ◌∷◌, ◌++◌, length, map, Bor, Decides, Option, None, Some, refl, ap, ◌∙◌, sym, arith}
use Rattle.std.specs.Prelude.{bytes_eq}
use Rattle.std.specs.HashMap.{HashMap, get_by}
use Rattle.std.proofs.lemmas.Bool.Decides.{same_from_decides}
use Rattle.std.proofs.lemmas.Slice.Eq.{bytes_eq-Decides}
use Rattle.opl_given.specs.Names.{latest, position}

next-place : (i : ℕ) (xs : List (Bor (List ℕ))) (x : Bor (List ℕ)) → i + 1 + length xs ≡ i + length (x ∷ xs)
next-place i xs x = omega arith

latest-along : (before : Option ℕ) (i : ℕ) (name : List ℕ) (ts : List (Bor (List ℕ))) (t : Bor (List ℕ)) →
    latest before i name (map (λ s. s.now) (ts ++ t ∷ [])) ≡ cond (bytes_eq name t.now) (Some (i + length ts)) (latest before i name (map (λ s. s.now) ts))
latest-along before i name [] t = ap (λ n. cond (bytes_eq name t.now) (Some n) before) (omega arith)
latest-along before i name (x ∷ xs) t =
    latest-along (cond (bytes_eq name x.now) (Some i) before) (i + 1) name xs t
    ∙ ap (λ n. cond (bytes_eq name t.now) (Some n) (latest before i name (map (λ s. s.now) (x ∷ xs)))) (next-place i xs x)

position-added : (name : List ℕ) (ts : List (Bor (List ℕ))) (t : Bor (List ℕ)) →
    position name (map (λ s. s.now) (ts ++ t ∷ [])) ≡ cond (bytes_eq name t.now) (Some (length ts)) (position name (map (λ s. s.now) ts))
position-added name ts t = latest-along None 0 name ts t ∙ ap (λ n. cond (bytes_eq name t.now) (Some n) (position name (map (λ s. s.now) ts))) (omega arith)

pub bytes_eq-turn : (xs ys : List ℕ) → bytes_eq xs ys ≡ bytes_eq ys xs
bytes_eq-turn xs ys =
    let d : Decides (bytes_eq ys xs) (ys ≡ xs) = bytes_eq-Decides ys xs in
    same_from_decides (bytes_eq xs ys) (bytes_eq ys xs) (bytes_eq-Decides xs ys) (λ e. sym (d.0 e), λ e. d.1 (sym e))

pub places-kept : {S : Type 0} (m n : HashMap (Bor (List ℕ)) ℕ S) (ts new : List (Bor (List ℕ))) (t : Bor (List ℕ)) (name : List ℕ) →
    get_by (λ k. bytes_eq name k.now) m ≡ position name (map (λ s. s.now) ts) →
    get_by (λ k. bytes_eq name k.now) n ≡ cond (bytes_eq name t.now) (Some (length ts)) (get_by (λ k. bytes_eq name k.now) m) →
    new ≡ ts ++ t ∷ [] → get_by (λ k. bytes_eq name k.now) n ≡ position name (map (λ s. s.now) new)
places-kept m n ts new t name h a q =
    a ∙ ap (cond (bytes_eq name t.now) (Some (length ts))) h ∙ sym (position-added name ts t) ∙ ap (λ xs. position name (map (λ s. s.now) xs)) (sym q)

pub texts-added : (ts new : List (Bor (List ℕ))) (t : Bor (List ℕ)) → new ≡ ts ++ t ∷ [] → map (λ s. s.now) new ≡ map (λ s. s.now) ts ++ t.now ∷ []
texts-added ts new t q = ap (map (λ s. s.now)) q ∙ along ts
  where
    along : (xs : List (Bor (List ℕ))) → map (λ s. s.now) (xs ++ t ∷ []) ≡ map (λ s. s.now) xs ++ t.now ∷ []
    along [] = refl
    along (x ∷ xs) = ap (λ ys. x.now ∷ ys) (along xs)
