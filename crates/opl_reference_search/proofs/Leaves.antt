-- The first Leaf among marks, and how many of them are choices.
use Rattle.std.proofs.Common.{◌≡◌, ℕ, zero, suc, ◌+◌, ◌<◌, cond, refl, List, [], ◌∷◌, length, take, get_or, ap, sym, ◌∙◌, subst, arith}
use Rattle.std.specs.Prelude.{Option, Some, None}
use Rattle.opl_expr.specs.declared.model.Core.{Core}
use Rattle.opl_expr.specs.Forms.{Fact}
use Rattle.opl_trace.specs.Run.{Mark, Left, left_with, first_leaf, choices}
use Rattle.opl_trace.specs.Run.Mark.{choice, leaf, solution, cut}
use Rattle.opl_reference_labelling.specs.declared.mark.Mark as code
use Rattle.opl_reference_labelling.specs.Outcomes.{mark_of, marks_in}
use Rattle.opl_reference_search.specs.Leaves.{leaf_of, is_choice}

-- marks before a Leaf, and its constraints
abbrev pub entering : List Mark → List Fact → Left
entering ms P = record { before = ms; posted = P }

no_left : (m : Mark) (o : Option Left) → left_with m o ≡ None → o ≡ None
no_left m None e = refl
no_left m (Some l) e = cc

leaf_here : (m : Mark) (ms : List Mark) (P : List Fact) → leaf_of m ≡ Some P → first_leaf (m ∷ ms) ≡ Some (entering [] P)
leaf_here (choice t) ms P e = cc
leaf_here (leaf Q) ms P e = ap (λ o. of_some o) e
  where
    of_some : Option (List Fact) → Option Left
    of_some None = None
    of_some (Some R) = Some (entering [] R)
leaf_here (solution a) ms P e = cc
leaf_here cut ms P e = cc

no_leaf_later : (m : Mark) (ms : List Mark) → first_leaf (m ∷ ms) ≡ None → first_leaf ms ≡ None
no_leaf_later (choice t) ms e = no_left (choice t) (first_leaf ms) e
no_leaf_later (leaf Q) ms e = cc
no_leaf_later (solution a) ms e = no_left (solution a) (first_leaf ms) e
no_leaf_later cut ms e = no_left cut (first_leaf ms) e

leaf_later : (m : Mark) (ms ns bs : List Mark) (P : List Fact) → first_leaf (m ∷ ms) ≡ None → first_leaf ns ≡ Some (entering bs P) → first_leaf (m ∷ ns) ≡ Some (entering (m ∷ bs) P)
leaf_later (choice t) ms ns bs P e h = ap (left_with (choice t)) h
leaf_later (leaf Q) ms ns bs P e h = cc
leaf_later (solution a) ms ns bs P e h = ap (left_with (solution a)) h
leaf_later cut ms ns bs P e h = ap (left_with cut) h

no_leaf_yet : (m : Mark) (ms ns : List Mark) → first_leaf (m ∷ ms) ≡ None → first_leaf ns ≡ None → first_leaf (m ∷ ns) ≡ None
no_leaf_yet (choice t) ms ns e h = ap (left_with (choice t)) h
no_leaf_yet (leaf Q) ms ns e h = cc
no_leaf_yet (solution a) ms ns e h = ap (left_with (solution a)) h
no_leaf_yet cut ms ns e h = ap (left_with cut) h

no_leaf_here : (m : Mark) → leaf_of m ≡ None → first_leaf (m ∷ []) ≡ None
no_leaf_here (choice t) e = refl
no_leaf_here (leaf Q) e = cc
no_leaf_here (solution a) e = refl
no_leaf_here cut e = refl

module _ (core : Core) where
  pub leaf_at : (ms : List code.Mark) (i : ℕ) (m d : code.Mark) (P : List Fact) → i < length ms → m ≡ get_or ms i d → first_leaf (marks_in core (take i ms)) ≡ None → leaf_of (mark_of core m) ≡ Some P → first_leaf (marks_in core ms) ≡ Some (entering (marks_in core (take i ms)) P)
  leaf_at [] i m d P h e n l = absurd (omega arith)
  leaf_at (x ∷ ms) zero m d P h e n l = leaf_here (mark_of core x) (marks_in core ms) P (ap (λ y. leaf_of (mark_of core y)) (sym e) ∙ l)
  leaf_at (x ∷ ms) (suc i) m d P h e n l =
      leaf_later (mark_of core x) (marks_in core (take i ms)) (marks_in core ms) (marks_in core (take i ms)) P n
      (leaf_at ms i m d P (omega arith) e (no_leaf_later (mark_of core x) (marks_in core (take i ms)) n) l)

  no_leaf_suc : (ms : List code.Mark) (i : ℕ) (m d : code.Mark) → i < length ms → m ≡ get_or ms i d → first_leaf (marks_in core (take i ms)) ≡ None → leaf_of (mark_of core m) ≡ None → first_leaf (marks_in core (take (suc i) ms)) ≡ None
  no_leaf_suc [] i m d h e n l = absurd (omega arith)
  no_leaf_suc (x ∷ ms) zero m d h e n l = no_leaf_here (mark_of core x) (ap (λ y. leaf_of (mark_of core y)) (sym e) ∙ l)
  no_leaf_suc (x ∷ ms) (suc i) m d h e n l =
      no_leaf_yet (mark_of core x) (marks_in core (take i ms)) (marks_in core (take (suc i) ms)) n
      (no_leaf_suc ms i m d (omega arith) e (no_leaf_later (mark_of core x) (marks_in core (take i ms)) n) l)

  pub no_leaf_at : (ms : List code.Mark) (i : ℕ) (m d : code.Mark) → i < length ms → m ≡ get_or ms i d → first_leaf (marks_in core (take i ms)) ≡ None → leaf_of (mark_of core m) ≡ None → first_leaf (marks_in core (take (i + 1) ms)) ≡ None
  no_leaf_at ms i m d h e n l = let k : i + 1 ≡ suc i = omega arith in subst (λ j. first_leaf (marks_in core (take j ms)) ≡ None) (sym k) (no_leaf_suc ms i m d h e n l)

  -- ---- choices

  one_more : (m : code.Mark) (ms : List Mark) → choices (mark_of core m ∷ ms) ≡ cond (is_choice m) 1 0 + choices ms
  one_more (code.TheVariants.Choice t) ms = omega arith
  one_more (code.TheVariants.Leaf cs) ms = omega arith
  one_more (code.TheVariants.Solution a) ms = omega arith
  one_more (code.TheVariants.Cut) ms = omega arith

  choices_suc : (ms : List code.Mark) (i : ℕ) (m d : code.Mark) → i < length ms → m ≡ get_or ms i d → choices (marks_in core (take (suc i) ms)) ≡ choices (marks_in core (take i ms)) + cond (is_choice m) 1 0
  choices_suc [] i m d h e = absurd (omega arith)
  choices_suc (x ∷ ms) zero m d h e =
      let a = one_more x [] in let b = ap (λ y. cond (is_choice y) 1 0) e in
      one_sum (choices (mark_of core x ∷ [])) (cond (is_choice x) 1 0) (cond (is_choice m) 1 0) a b
    where
      one_sum : (p q r : ℕ) → p ≡ q + 0 → r ≡ q → p ≡ 0 + r
      one_sum p q r a b = omega (arith, a, b)
  choices_suc (x ∷ ms) (suc i) m d h e =
      let a = one_more x (marks_in core (take (suc i) ms)) in
      let b = one_more x (marks_in core (take i ms)) in
      let k = choices_suc ms i m d (omega arith) e in
      sums (choices (marks_in core (take (suc (suc i)) (x ∷ ms)))) (cond (is_choice x) 1 0) (choices (marks_in core (take (suc i) ms))) (choices (marks_in core (take i ms))) (choices (marks_in core (take (suc i) (x ∷ ms)))) (cond (is_choice m) 1 0) a b k
    where
      sums : (p q r s t u : ℕ) → p ≡ q + r → t ≡ q + s → r ≡ s + u → p ≡ t + u
      sums p q r s t u a b k = omega (arith, a, b, k)

  pub choices_at : (ms : List code.Mark) (i count next : ℕ) (m d : code.Mark) → i < length ms → m ≡ get_or ms i d → count ≡ choices (marks_in core (take i ms)) → next ≡ count + cond (is_choice m) 1 0 → next ≡ choices (marks_in core (take (i + 1) ms))
  choices_at ms i count next m d h e c n =
      let k : i + 1 ≡ suc i = omega arith in
      n ∙ ap (λ j. j + cond (is_choice m) 1 0) c ∙ sym (choices_suc ms i m d h e) ∙ ap (λ j. choices (marks_in core (take j ms))) (sym k)
