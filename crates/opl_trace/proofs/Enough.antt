-- Labelling makes no more choices than there are prefixes of assignments.
use Rattle.std.proofs.Common.{◌≡◌, ◌∙◌, ℕ, zero, suc, ◌+◌, ◌*◌, ◌≤◌, Bool, true, false, cond, refl, List, [], ◌∷◌, ◌++◌, map, length, ℤ, inl, inr, ap, sym, subst, arith}
use Rattle.std.specs.Prelude.{Option, Some, None}
use Rattle.std.specs.List.{list_any}
use Rattle.std.proofs.Math.Nat.{mul-le-mul_right}
use Rattle.std.proofs.lemmas.Bool.{eqb-true, cases_lt}
use Rattle.opl_domain.specs.Family.{Family, set_of}
use Rattle.opl_expr.specs.Forms.{Fact}
use Rattle.opl_trace.specs.Closure.{families, is_stable, is_in_stable, restrict, closure}
use Rattle.opl_trace.specs.Answers.{is_single, is_value}
use Rattle.opl_trace.specs.Objective.{Objective, best_after}
use Rattle.opl_trace.specs.Run.{Out, Rest, Alternative, marked, behind, after, by_value, alternatives, values_of, is_dead, closed, entered, within, whole_leaf, label}
use Rattle.opl_trace.specs.Run.Mark.{choice, solution}
use Rattle.opl_trace.specs.Marks.{numbers_from, labelled, trace, prefixes}
use Rattle.opl_trace.specs.SearchLaws.{Enough}
use Rattle.opl_trace.proofs.Families.{filter_shorter, set_of-restrict}
use Rattle.opl_trace.proofs.Prefixes.{choices_counted}

-- ---- the sets of the closure are no larger than the declared ones

-- each set of the family, if there is one, is no larger than that of D
abbrev Smaller : Family → Option Family → Type 0
Smaller D None = Unit {0}
Smaller D (Some C) = (x : ℕ) → length (set_of C x) ≤ length (set_of D x)

closure_smaller : (dead : Family → Bool) (D : Family) → Smaller D (closure dead D)
unfolding closure
closure_smaller dead D = elim (list_any (is_stable dead) (families D)) as (λ b. Smaller D (cond b (Some (restrict (is_in_stable dead D) D)) None)) [
  | true ↦ λ x. subst (λ vs. length vs ≤ length (set_of D x)) (sym (set_of-restrict (is_in_stable dead D) D x)) (filter_shorter (is_in_stable dead D x) (set_of D x))
  | false ↦ tt
]

-- ---- how many choices are made

-- n choices that are N or more are enough, and at most N of them are made
pub record Takes (N n : ℕ) (o : Out) : Type 0 where
  pub ends : o.is_cut ≡ false
  pub few : n ≤ o.left + N

abbrev Needs : ℕ → Rest → Type 0
Needs N k = (P : List Fact) (b : Option ℤ) (n : ℕ) → N ≤ n → Takes N n (k P b n)

needs_more : (M N : ℕ) (k : Rest) → M ≤ N → Needs M k → Needs N k
needs_more M N k i h P b n j = let t = h P b n (omega arith) in record { ends = t.ends; few = omega (arith, t.few) }

abbrev AllNeed : ℕ → List Alternative → Type 0
AllNeed N [] = Unit {0}
AllNeed N (k ∷ ks) = Needs N k.rest × AllNeed N ks

after_takes : (M N n l : ℕ) (o : Out) (f : Option ℤ → ℕ → Out) → o.is_cut ≡ false → o.left ≡ l → n ≤ l + M → Takes N l (f o.best o.left) → Takes (M + N) n (after o f)
after_takes M N n l o f e s i t = subst (λ b. Takes (M + N) n (cond b o (behind o.marks (f o.best o.left)))) (sym e) (record { ends = t.ends; few = omega (arith, t.few) })

alternatives_need : (N : ℕ) (ks : List Alternative) → AllNeed N ks → Needs (length ks * (1 + N)) (alternatives ks)
alternatives_need N [] h P b n i = record { ends = refl; few = omega arith }
alternatives_need N (k ∷ ks) h P b zero i = absurd (omega arith)
alternatives_need N (k ∷ ks) h P b (suc n) i =
    let t = h.0 P b n (omega arith) in
    let e : (1 + N) + length ks * (1 + N) ≡ length (k ∷ ks) * (1 + N) = omega arith in
    rw (sym e) (after_takes (1 + N) (length ks * (1 + N)) (suc n) (k.rest P b n).left (marked (choice k.label) (k.rest P b n)) (alternatives ks P) t.ends refl (omega (arith, t.few))
    (alternatives_need N ks h.1 P (k.rest P b n).best (k.rest P b n).left (omega (arith, t.few))))

length-map : {X Y : Type 0} (f : X → Y) (xs : List X) → length (map f xs) ≡ length xs
length-map f [] = refl
length-map f (x ∷ xs) = ap suc (length-map f xs)

single_cost : (m l c : ℕ) → l ≡ 1 → l ≤ m → c ≤ m * (1 + c)
single_cost zero l c e i = absurd (omega arith)
single_cost (suc m) l c e i = omega arith

module _ (goal : Option Objective) (D : Family) where
  entered_needs : (N : ℕ) (f : Family → Rest) (o : Option Family) → Smaller D o → ((C : Family) → Smaller D (Some C) → Needs N (f C)) → Needs N (entered f o)
  entered_needs N f None s h = λ P b n i. record { ends = refl; few = omega arith }
  entered_needs N f (Some C) s h = h C s

  within_needs : (N : ℕ) (f : Family → Rest) → ((C : Family) → Smaller D (Some C) → Needs N (f C)) → Needs N (within goal (closed goal D) f)
  unfolding within closed
  within_needs N f h P b n i = entered_needs N f (closed goal D P b) (closure_smaller (is_dead goal P b) D) h P b n i

  -- the choices of labelling the variables of a list
  abbrev cost : List ℕ → ℕ
  cost [] = 0
  cost (x ∷ xs) = length (set_of D x) * (1 + cost xs)

  whole_needs : Needs 0 (whole_leaf goal (closed goal D))
  whole_needs =
      within_needs 0 (λ C P b n. record { marks = solution (values_of C) ∷ []; best = best_after goal (values_of C) b; left = n; is_cut = false })
      (λ C s P b n i. record { ends = refl; few = omega arith })

  labels_need : (N : ℕ) (k : Rest) (x : ℕ) (vs : List ℤ) → Needs N k → AllNeed N (by_value x (λ v P. k (P ++ is_value x v ∷ [])) vs)
  labels_need N k x [] h = tt
  labels_need N k x (v ∷ vs) h = (λ P b n i. h (P ++ is_value x v ∷ []) b n i, labels_need N k x vs h)

  label_needs : (xs : List ℕ) (k : Rest) → Needs 0 k → Needs (cost xs) (label goal (closed goal D) xs k)
  label_needs [] k h = within_needs 0 (λ C. k) (λ C s. h)
  label_needs (x ∷ xs) k h =
      let j : Needs (cost xs) (label goal (closed goal D) xs k) = label_needs xs k h in
      within_needs (cost (x ∷ xs)) (λ C. cond (is_single C x) (label goal (closed goal D) xs k) (alternatives (by_value x (λ v P. label goal (closed goal D) xs k (P ++ is_value x v ∷ [])) (set_of C x))))
      (λ C s. elim (is_single C x) as (λ b. is_single C x ≡ b → Needs (cost (x ∷ xs)) (cond b (label goal (closed goal D) xs k) (alternatives (by_value x (λ v P. label goal (closed goal D) xs k (P ++ is_value x v ∷ [])) (set_of C x))))) [
        | true ↦ λ e. needs_more (cost xs) (cost (x ∷ xs)) (label goal (closed goal D) xs k) (single_cost (length (set_of D x)) (length (set_of C x)) (cost xs) (eqb-true (length (set_of C x)) 1 e) (s x)) j
        | false ↦ λ e.
            needs_more (length (by_value x (λ v P. label goal (closed goal D) xs k (P ++ is_value x v ∷ [])) (set_of C x)) * (1 + cost xs)) (cost (x ∷ xs)) (alternatives (by_value x (λ v P. label goal (closed goal D) xs k (P ++ is_value x v ∷ [])) (set_of C x)))
            (rw (length-map {Y = Alternative} (λ v. record { label = Some (x, v); rest = λ P. label goal (closed goal D) xs k (P ++ is_value x v ∷ []) }) (set_of C x)) (mul-le-mul_right (1 + cost xs) (s x)))
            (alternatives_need (cost xs) (by_value x (λ v P. label goal (closed goal D) xs k (P ++ is_value x v ∷ [])) (set_of C x)) (labels_need (cost xs) (label goal (closed goal D) xs k) x (set_of C x) j))
      ] refl)

-- ---- the cost of labelling all variables

cost_later : (goal : Option Objective) (vs : List ℤ) (D : Family) (x n : ℕ) → cost goal (vs ∷ D) (numbers_from (suc x) n) ≡ cost goal D (numbers_from x n)
unfolding set_of
cost_later goal vs D x zero = refl
cost_later goal vs D x (suc n) = ap (λ c. length (set_of D x) * (1 + c)) (cost_later goal vs D (suc x) n)

cost_is : (goal : Option Objective) (D : Family) → cost goal D (numbers_from zero (length D)) ≡ prefixes D
unfolding set_of
cost_is goal [] = refl
cost_is goal (vs ∷ D) = ap (λ c. length vs * (1 + c)) (cost_later goal vs D zero (length D) ∙ cost_is goal D)

labelled_needs : (goal : Option Objective) (D : Family) → Needs (prefixes D) (labelled goal (closed goal D) (length D))
labelled_needs goal D = subst (λ N. Needs N (labelled goal (closed goal D) (length D))) (cost_is goal D) (label_needs goal D (numbers_from zero (length D)) (whole_leaf goal (closed goal D)) (whole_needs goal D))

trace_takes : (goal : Option Objective) (D : Family) (P : List Fact) (n : ℕ) → prefixes D ≤ n → Takes (prefixes D) n (trace goal D None P n)
unfolding trace
trace_takes goal D P n i = labelled_needs goal D P None n i

pub prefixes_enough : Enough
prefixes_enough goal D P n =
    let c = choices_counted goal D None P n in
    record {
      few = elim (cases_lt n (prefixes D)) [ inl i ↦ omega (arith, c) | inr i ↦ let t = trace_takes goal D P n i in omega (arith, c, t.few) ];
      ends = λ i. (trace_takes goal D P n i).ends;
    }
