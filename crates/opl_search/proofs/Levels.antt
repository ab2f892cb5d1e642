-- Levels by their numbers.
use Rattle.std.proofs.Common.{◌≡◌, ◌∙◌, ℕ, ◌<◌, true, false, cond, nat_eq, refl, List, [], ◌∷◌, length, ap, sym, arith}
use Rattle.std.specs.Prelude.{Some}
use Rattle.opl_search.specs.States.{Level, level_at, lowest}

not_same : (k n : ℕ) → k < n → nat_eq k n ≡ false
not_same k n h = grind arith

same_number : (n : ℕ) → nat_eq n n ≡ true
same_number n = grind arith

pub level_more : (k : ℕ) (l : Level) (ls : List Level) → k < length ls → level_at k (l ∷ ls) ≡ level_at k ls
level_more k l ls h = ap (λ b. cond b (Some l) (level_at k ls)) (not_same k (length ls) h)

pub level_last : (k : ℕ) (l : Level) (ls : List Level) → k ≡ length ls → level_at k (l ∷ ls) ≡ Some l
level_last k l ls e = ap (λ b. cond b (Some l) (level_at k ls)) (ap (λ j. nat_eq j (length ls)) e ∙ same_number (length ls))

pub length_lowest : (k : ℕ) (ls : List Level) → k < length ls → length (lowest k ls) ≡ k
length_lowest k [] h = absurd (omega arith)
length_lowest k (l ∷ ls) h = elim (nat_eq k (length ls)) as (λ b. nat_eq k (length ls) ≡ b → length (cond b ls (lowest k ls)) ≡ k) [
  | true ↦ λ e. let i : k ≡ length ls = grind arith in sym i
  | false ↦ λ e. let i : k < length ls = grind arith in length_lowest k ls i
] refl

pub level_lowest : (j k : ℕ) (ls : List Level) → j < k → k < length ls → level_at j (lowest k ls) ≡ level_at j ls
level_lowest j k [] h i = absurd (omega (arith, i))
level_lowest j k (l ∷ ls) h i = elim (nat_eq k (length ls)) as (λ b. nat_eq k (length ls) ≡ b → level_at j (cond b ls (lowest k ls)) ≡ level_at j (l ∷ ls)) [
  | true ↦ λ e. let m : k ≡ length ls = grind arith in sym (level_more j l ls (omega (arith, m, h)))
  | false ↦ λ e. let m : k < length ls = grind arith in level_lowest j k ls h m ∙ sym (level_more j l ls (omega (arith, m, h)))
] refl
