-- Texts behind texts.
use Rattle.std.proofs.Common.{◌≡◌, ℕ, List, ◌++◌, sym, ap, ◌∙◌, append_assoc}

seam : (before c t rest : List ℕ) → before ++ (c ++ t ++ rest) ≡ before ++ c ++ t ++ rest
seam before c t rest = simp append_assoc

-- a text between what opens and what closes it
pub enclosed : (start a t z opened middle closed : List ℕ) → opened ≡ start ++ a → middle ≡ opened ++ t → closed ≡ middle ++ z → closed ≡ start ++ (a ++ t ++ z)
enclosed start a t z opened middle closed p q r = r ∙ ap (λ s. s ++ z) (q ∙ ap (λ s. s ++ t) p) ∙ sym (seam start a t z)
