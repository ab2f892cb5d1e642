-- Texts that are written piece by piece: each is the one before and what was added.
use Rattle.std.proofs.Common.{◌≡◌, ◌≢◌, ℕ, List, [], ◌∷◌, ◌++◌, codes, length, sym, ap, ◌∙◌, refl, append_assoc, append-nil}
use Rattle.opl_ground_text.specs.Texts.{chain, node, spaced}

module _ (s a b c d e f g : List ℕ) where
  of-two : s ++ a ++ b ≡ s ++ (a ++ b)
  of-two = simp append_assoc

  of-three : s ++ a ++ b ++ c ≡ s ++ (a ++ b ++ c)
  of-three = simp append_assoc

  of-four : s ++ a ++ b ++ c ++ d ≡ s ++ (a ++ b ++ c ++ d)
  of-four = simp append_assoc

  of-seven : s ++ a ++ b ++ c ++ d ++ e ++ f ++ g ≡ s ++ (a ++ b ++ c ++ d ++ e ++ f ++ g)
  of-seven = simp append_assoc

  of-node : s ++ (a ++ b) ++ c ++ d ≡ s ++ (a ++ b ++ c ++ d)
  of-node = simp append_assoc

  of-name : s ++ (a ++ b) ++ c ++ d ++ e ≡ s ++ (a ++ b ++ (c ++ d ++ []) ++ e)
  of-name = simp (append_assoc, append-nil)

  of-halves : s ++ (a ++ b ++ (c ++ d)) ++ (c ++ e ++ f) ≡ s ++ (a ++ b ++ (c ++ d ++ (c ++ e ++ [])) ++ f)
  of-halves = simp (append_assoc, append-nil)

of-cell : (s n p : List ℕ) → s ++ codes "(at " ++ n ++ p ++ codes ")" ≡ s ++ (codes "(" ++ codes "at" ++ (codes " " ++ n ++ p) ++ codes ")")
of-cell s n p = simp append_assoc

-- the same by an equal addition
pub added : (s1 s2 a b : List ℕ) → s2 ≡ s1 ++ a → a ≡ b → s2 ≡ s1 ++ b
added s1 s2 a b p q = p ∙ ap (λ t. s1 ++ t) q

pub two : (s0 s1 s2 a b : List ℕ) → s1 ≡ s0 ++ a → s2 ≡ s1 ++ b → s2 ≡ s0 ++ (a ++ b)
two s0 s1 s2 a b p q = q ∙ ap (λ s. s ++ b) p ∙ of-two s0 a b [] [] [] [] []

pub three : (s0 s1 s2 s3 a b c : List ℕ) → s1 ≡ s0 ++ a → s2 ≡ s1 ++ b → s3 ≡ s2 ++ c → s3 ≡ s0 ++ (a ++ b ++ c)
three s0 s1 s2 s3 a b c p q r = r ∙ ap (λ s. s ++ c) (q ∙ ap (λ s. s ++ b) p) ∙ of-three s0 a b c [] [] [] []

pub four : (s0 s1 s2 s3 s4 a b c d : List ℕ) → s1 ≡ s0 ++ a → s2 ≡ s1 ++ b → s3 ≡ s2 ++ c → s4 ≡ s3 ++ d → s4 ≡ s0 ++ (a ++ b ++ c ++ d)
four s0 s1 s2 s3 s4 a b c d p q r t = t ∙ ap (λ s. s ++ d) (r ∙ ap (λ s. s ++ c) (q ∙ ap (λ s. s ++ b) p)) ∙ of-four s0 a b c d [] [] []

pub seven : (s0 s1 s2 s3 s4 s5 s6 s7 a b c d e f g : List ℕ)
    → s1 ≡ s0 ++ a → s2 ≡ s1 ++ b → s3 ≡ s2 ++ c → s4 ≡ s3 ++ d → s5 ≡ s4 ++ e → s6 ≡ s5 ++ f → s7 ≡ s6 ++ g → s7 ≡ s0 ++ (a ++ b ++ c ++ d ++ e ++ f ++ g)
seven s0 s1 s2 s3 s4 s5 s6 s7 a b c d e f g p1 p2 p3 p4 p5 p6 p7 =
    p7 ∙ ap (λ s. s ++ g) (p6 ∙ ap (λ s. s ++ f) (p5 ∙ ap (λ s. s ++ e) (p4 ∙ ap (λ s. s ++ d) (p3 ∙ ap (λ s. s ++ c) (p2 ∙ ap (λ s. s ++ b) p1))))) ∙ of-seven s0 a b c d e f g

-- ---- nodes

pub node-of : (s0 s1 s2 s3 w : List ℕ) (ts : List (List ℕ)) → s1 ≡ s0 ++ (codes "(" ++ w) → s2 ≡ s1 ++ spaced ts → s3 ≡ s2 ++ codes ")" → s3 ≡ s0 ++ node w ts
node-of s0 s1 s2 s3 w ts p q r = r ∙ ap (λ s. s ++ codes ")") (q ∙ ap (λ s. s ++ spaced ts) p) ∙ of-node s0 (codes "(") w (spaced ts) (codes ")") [] [] []

pub node-one : (s0 s1 s2 s3 w t : List ℕ) → s1 ≡ s0 ++ (codes "(" ++ w) → s2 ≡ s1 ++ (codes " " ++ t) → s3 ≡ s2 ++ codes ")" → s3 ≡ s0 ++ node w (t ∷ [])
node-one s0 s1 s2 s3 w t p q r = node-of s0 s1 s2 s3 w (t ∷ []) p (q ∙ ap (λ u. s1 ++ u) (sym (append-nil (codes " " ++ t)))) r

pub node-name : (s0 s1 s2 s3 s4 w n : List ℕ) → s1 ≡ s0 ++ (codes "(" ++ w) → s2 ≡ s1 ++ codes " " → s3 ≡ s2 ++ n → s4 ≡ s3 ++ codes ")" → s4 ≡ s0 ++ node w (n ∷ [])
node-name s0 s1 s2 s3 s4 w n p q r e =
    e ∙ ap (λ s. s ++ codes ")") (r ∙ ap (λ s. s ++ n) (q ∙ ap (λ s. s ++ codes " ") p)) ∙ of-name s0 (codes "(") w (codes " ") n (codes ")") [] []

pub node-cell : (s0 s1 s2 s3 s4 n : List ℕ) (ts : List (List ℕ)) → s1 ≡ s0 ++ codes "(at " → s2 ≡ s1 ++ n → s3 ≡ s2 ++ spaced ts → s4 ≡ s3 ++ codes ")"
    → s4 ≡ s0 ++ node (codes "at") (n ∷ ts)
node-cell s0 s1 s2 s3 s4 n ts p q r e = e ∙ ap (λ s. s ++ codes ")") (r ∙ ap (λ s. s ++ spaced ts) (q ∙ ap (λ s. s ++ n) p)) ∙ of-cell s0 n (spaced ts)

-- a node over two parts, which is the text x, in two steps
pub node-halves : (s0 s1 s2 w t u x : List ℕ) → s1 ≡ s0 ++ (codes "(" ++ w ++ (codes " " ++ t)) → s2 ≡ s1 ++ (codes " " ++ u ++ codes ")") → x ≡ node w (t ∷ u ∷ []) → s2 ≡ s0 ++ x
node-halves s0 s1 s2 w t u x p q r =
    q ∙ ap (λ s. s ++ (codes " " ++ u ++ codes ")")) p ∙ of-halves s0 (codes "(") w (codes " ") t u (codes ")") [] ∙ ap (λ y. s0 ++ y) (sym r)

-- a list of other than one part is a node
pub chain-node : (w : List ℕ) (ts : List (List ℕ)) → length ts ≢ 1 → node w ts ≡ chain w ts
chain-node w [] h = refl
chain-node w (t ∷ []) h = absurd (h refl)
chain-node w (t ∷ u ∷ ts) h = refl
