-- Choices that are made one after another.
use Rattle.std.proofs.Common.{◌≡◌, ◌∙◌, ℕ, zero, suc, ◌+◌, ◌-◌, ◌≤◌, refl, List, [], ◌∷◌, ◌++◌, ℤ, ap, sym, subst, arith, append_assoc}
use Rattle.std.specs.Prelude.{Option}
use Rattle.opl_trace.specs.Run.{Mark, Out, marked, behind, choices}
use Rattle.opl_trace.specs.Run.Mark.{choice, leaf, solution, cut}
use Rattle.opl_trace.specs.Marks.{solved}
use Rattle.opl_turns.specs.Coming.{Chooses}

pub choices_joined : (ms ns : List Mark) → choices (ms ++ ns) ≡ choices ms + choices ns
choices_joined [] ns = omega arith
choices_joined (choice l ∷ ms) ns = omega (arith, choices_joined ms ns)
choices_joined (leaf P ∷ ms) ns = choices_joined ms ns
choices_joined (solution a ∷ ms) ns = choices_joined ms ns
choices_joined (cut ∷ ms) ns = choices_joined ms ns

pub solved_joined : (ms ns : List Mark) → solved (ms ++ ns) ≡ solved ms ++ solved ns
solved_joined [] ns = refl
solved_joined (choice l ∷ ms) ns = solved_joined ms ns
solved_joined (leaf P ∷ ms) ns = solved_joined ms ns
solved_joined (solution a ∷ ms) ns = ap (λ s. a ∷ s) (solved_joined ms ns)
solved_joined (cut ∷ ms) ns = solved_joined ms ns

pub behind_joined : (ms ns : List Mark) (o : Out) → behind (ms ++ ns) o ≡ behind ms (behind ns o)
behind_joined ms ns o = ap (λ l. let p : Out = record { marks = l; best = o.best; left = o.left; is_cut = o.is_cut } in p) (append_assoc ms ns o.marks)

-- no choice, and one
pub chooses_none : {o p : Out} → o ≡ p → Chooses 0 o p
chooses_none e = record { marks = []; joins = e; made = refl; solves_none = refl }

pub chooses_one : {o p : Out} (l : Option _) → o ≡ marked (choice l) p → Chooses 1 o p
chooses_one l e = record { marks = choice l ∷ []; joins = e; made = refl; solves_none = refl }

pub chooses_from : {n : ℕ} {o p q : Out} → o ≡ p → Chooses n p q → Chooses n o q
chooses_from e c = record { marks = c.marks; joins = e ∙ c.joins; made = c.made; solves_none = c.solves_none }

pub chooses_join : {m n : ℕ} {o p q : Out} → Chooses m o p → Chooses n p q → Chooses (m + n) o q
chooses_join {m} {n} {o} {p} {q} c d = record {
  marks = c.marks ++ d.marks;
  joins = c.joins ∙ ap (behind c.marks) d.joins ∙ sym (behind_joined c.marks d.marks q);
  made = choices_joined c.marks d.marks ∙ ap (λ k. k + choices d.marks) c.made ∙ ap (λ k. m + k) d.made;
  solves_none = solved_joined c.marks d.marks ∙ ap (λ s. s ++ solved d.marks) c.solves_none ∙ d.solves_none;
}

-- by the choices that are left
pub chooses_same : {o p : Out} (n : ℕ) → o ≡ p → Chooses (n - n) o p
chooses_same {o} {p} n e = let z : n - n ≡ 0 = omega arith in subst (λ k. Chooses k o p) (sym z) (chooses_none e)

pub chooses_taken : {o p : Out} (l : Option _) (n m : ℕ) → n ≡ m + 1 → o ≡ marked (choice l) p → Chooses (n - m) o p
chooses_taken {o} {p} l n m h e = let z : n - m ≡ 1 = omega (arith, h) in subst (λ k. Chooses k o p) (sym z) (chooses_one l e)

pub chooses_on : {o p q : Out} (a b c : ℕ) → b ≤ a → c ≤ b → Chooses (a - b) o p → Chooses (b - c) p q → Chooses (a - c) o q
chooses_on {o} {p} {q} a b c h k x y = let z : a - b + (b - c) ≡ a - c = omega (arith, h, k) in subst (λ n. Chooses n o q) z (chooses_join x y)
