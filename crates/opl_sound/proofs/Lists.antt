-- Lists of which an element fails.
use Rattle.std.proofs.Common.{◌≡◌, ◌≢◌, ℕ, zero, suc, ◌+◌, ◌-◌, ◌≤◌, ◌<◌, Bool, true, false, ◌&&◌, cond, refl, List, [], ◌∷◌, map, length, get_or, drop, ℤ, pos, ap, sym, ◌∙◌, subst, arith}
use Rattle.std.specs.Prelude.{Some, not}
use Rattle.std.specs.Ordering.{int_eq}
use Rattle.std.proofs.lemmas.Bool.Decides.{Decides-int_eq}
use Rattle.opl_domain.specs.Family.{member}
use Rattle.opl_expr.specs.Laws.{all_differ}
use Rattle.opl_expr.specs.Forms.{Term, Fact, terms_of, facts_of}
use Rattle.opl_expr.specs.Sound.{greatest_abs}
use Rattle.opl_expr.proofs.Parts.{drop_at, one_less, any_default}
use Rattle.opl_trace.specs.Statements.{Statement, Branch, statements_of, branches_of}
use Rattle.opl_sound.specs.Cores.{fits_statement, fit_statements, fits_branch, fit_branches}
use Rattle.opl_sound.specs.Measures.{measure, measure_all, measure_some, fit_subscripts, fits, all_fit, is_some, added, at_least_one}

pub and_false : (b : Bool) → (b && false) ≡ false
and_false true = refl
and_false false = refl

module _ (sets : List (ℤ × ℤ)) (asks : Bool) where
  facts_from : {X : Type 0} (f : X → Fact) (xs : List X) (k : ℕ) → all_fit sets asks (facts_of (map f (drop k xs))) ≡ false → all_fit sets asks (facts_of (map f xs)) ≡ false
  facts_from f xs zero e = e
  facts_from f [] (suc k) e = e
  facts_from f (x ∷ xs) (suc k) e = ap (λ b. fits sets asks (f x) && b) (facts_from f xs k e) ∙ and_false (fits sets asks (f x))

  pub one_misfits : {X : Type 0} (f : X → Fact) (xs : List X) (k : ℕ) (x : X) → k < length xs → x ≡ get_or xs k x → fits sets asks (f x) ≡ false → false ≡ all_fit sets asks (facts_of (map f xs))
  one_misfits f xs k x h i e =
      sym (facts_from f xs k (ap (λ ys. all_fit sets asks (facts_of (map f ys))) (drop_at xs k x h i) ∙ ap (λ b. b && all_fit sets asks (facts_of (map f (drop (k + 1) xs)))) e))

  pub other_lengths : {X : Type 0} (f : X → Term) (dims : List (List ℤ)) (xs : List X) → length dims ≢ length xs → false ≡ fit_subscripts sets asks dims (terms_of (map f xs))
  other_lengths f [] [] h = absurd (h refl)
  other_lengths f [] (x ∷ xs) h = refl
  other_lengths f (dim ∷ dims) [] h = refl
  other_lengths f (dim ∷ dims) (x ∷ xs) h =
      sym (ap (λ b. is_some (added (measure sets asks (f x)) (Some (greatest_abs dim))) && b) (sym (other_lengths f dims xs (λ e. h (ap suc e)))) ∙ and_false (is_some (added (measure sets asks (f x)) (Some (greatest_abs dim)))))

  subscripts_from : {X : Type 0} (f : X → Term) (dims : List (List ℤ)) (xs : List X) (k : ℕ) → length dims ≡ length xs → fit_subscripts sets asks (drop k dims) (terms_of (map f (drop k xs))) ≡ false → fit_subscripts sets asks dims (terms_of (map f xs)) ≡ false
  subscripts_from f dims xs zero h e = e
  subscripts_from f [] [] (suc k) h e = e
  subscripts_from f [] (x ∷ xs) (suc k) h e = refl
  subscripts_from f (dim ∷ dims) [] (suc k) h e = refl
  subscripts_from f (dim ∷ dims) (x ∷ xs) (suc k) h e =
      ap (λ b. is_some (added (measure sets asks (f x)) (Some (greatest_abs dim))) && b) (subscripts_from f dims xs k (omega (arith, h)) e) ∙ and_false (is_some (added (measure sets asks (f x)) (Some (greatest_abs dim))))

  pub subscript_misfits : {X : Type 0} (f : X → Term) (dims : List (List ℤ)) (xs : List X) (k : ℕ) (dim : List ℤ) (x : X) → length dims ≡ length xs → k < length xs → dim ≡ get_or dims k dim → x ≡ get_or xs k x
      → is_some (added (measure sets asks (f x)) (Some (greatest_abs dim))) ≡ false → false ≡ fit_subscripts sets asks dims (terms_of (map f xs))
  subscript_misfits f dims xs k dim x l h i j e =
      sym (subscripts_from f dims xs k l
      (ap (λ ds. fit_subscripts sets asks ds (terms_of (map f (drop k xs)))) (drop_at dims k dim (omega (arith, l, h)) i)
      ∙ ap (λ ys. fit_subscripts sets asks (dim ∷ drop (k + 1) dims) (terms_of (map f ys))) (drop_at xs k x h j)
      ∙ ap (λ b. b && fit_subscripts sets asks (drop (k + 1) dims) (terms_of (map f (drop (k + 1) xs)))) e))

  pub some_greatest : {X : Type 0} (f : X → Term) (xs : List X) → 0 < length xs → at_least_one (measure_all sets asks (terms_of (map f xs))) ≡ measure_some sets asks (terms_of (map f xs))
  some_greatest f [] h = absurd (omega (arith, h))
  some_greatest f (x ∷ xs) h = refl

-- ---- numbers that stand in a list

found_here : (v : ℤ) (xs : List ℤ) (k : ℕ) → k < length xs → v ≡ get_or xs k (pos 0) → member v (drop k xs) ≡ true
found_here v [] k h e = absurd (omega (arith, h))
found_here v (x ∷ xs) zero h e = let s : v ≡ x = e in rw ((Decides-int_eq v x).1 s) refl
found_here v (x ∷ xs) (suc k) h e = found_here v xs k (omega (arith, h)) e

member_more : (v : ℤ) (xs : List ℤ) (k : ℕ) → member v (drop (suc k) xs) ≡ true → member v (drop k xs) ≡ true
member_more v [] k e = cc
member_more v (x ∷ xs) zero e = later (int_eq v x) e
  where
    later : (b : Bool) {c : Bool} → c ≡ true → cond b true c ≡ true
    later true e = refl
    later false e = e
member_more v (x ∷ xs) (suc k) e = member_more v xs k e

member_from : (v : ℤ) (xs : List ℤ) (j k n : ℕ) → k ≡ n + j → member v (drop k xs) ≡ true → member v (drop j xs) ≡ true
member_from v xs j k zero s e = let t : k ≡ j = omega (arith, s) in subst (λ m. member v (drop m xs) ≡ true) t e
member_from v xs j k (suc n) s e = let t : k ≡ suc (n + j) = omega (arith, s) in member_from v xs j (n + j) n refl (member_more v xs (n + j) (subst (λ m. member v (drop m xs) ≡ true) t e))

pub found_behind : (v : ℤ) (xs : List ℤ) (j k : ℕ) → j ≤ k → k < length xs → v ≡ get_or xs k (pos 0) → true ≡ member v (drop j xs)
found_behind v xs j k h i e =
    let s : k ≡ (k - j) + j = omega (arith, h) in
    sym (member_from v xs j k (k - j) s (found_here v xs k i e))

pub not_yet_found : (v : ℤ) (xs : List ℤ) (L : ℕ) → 0 < L → L ≤ length xs → v ≢ get_or xs (L - 1) (pos 0) → member v (drop L xs) ≡ false → member v (drop (L - 1) xs) ≡ false
not_yet_found v xs L p h d e =
    let x = get_or xs (L - 1) (pos 0) in
    ap (member v) (drop_at xs (L - 1) x (omega (arith, p, h)) (any_default xs (L - 1) (pos 0) x (omega (arith, p, h))))
    ∙ other (int_eq v x) (λ f. d ((Decides-int_eq v x).0 f)) (ap (λ k. member v (drop k xs)) (one_less L p) ∙ e)
  where
    other : (b : Bool) {c : Bool} → (b ≡ true → ⊥) → c ≡ false → cond b true c ≡ false
    other true f g = absurd (f refl)
    other false f g = g

-- ---- numbers that differ

differ_from : (xs : List ℤ) (k : ℕ) → all_differ (drop k xs) ≡ false → all_differ xs ≡ false
differ_from xs zero e = e
differ_from [] (suc k) e = e
differ_from (x ∷ xs) (suc k) e = ap (λ b. not (member x xs) && b) (differ_from xs k e) ∙ and_false (not (member x xs))

pub one_again : (xs : List ℤ) (k : ℕ) → k < length xs → member (get_or xs k (pos 0)) (drop (k + 1) xs) ≡ true → false ≡ all_differ xs
one_again xs k h e =
    let x = get_or xs k (pos 0) in
    let i = any_default xs k (pos 0) x h in
    sym (differ_from xs k (ap all_differ (drop_at xs k x h i) ∙ ap (λ b. not b && all_differ (drop (k + 1) xs)) e))

pub none_again : (xs : List ℤ) (k : ℕ) → k < length xs → member (get_or xs k (pos 0)) (drop (k + 1) xs) ≡ false → all_differ (drop (k + 1) xs) ≡ true → all_differ (drop k xs) ≡ true
none_again xs k h e f =
    let x = get_or xs k (pos 0) in
    let i = any_default xs k (pos 0) x h in
    ap all_differ (drop_at xs k x h i) ∙ ap (λ b. not b && all_differ (drop (k + 1) xs)) e ∙ f

-- ---- statements

module _ (sets : List (ℤ × ℤ)) where
  statements_from : {X : Type 0} (f : X → Statement) (xs : List X) (k : ℕ) → fit_statements sets (statements_of (map f (drop k xs))) ≡ false → fit_statements sets (statements_of (map f xs)) ≡ false
  statements_from f xs zero e = e
  statements_from f [] (suc k) e = e
  statements_from f (x ∷ xs) (suc k) e = ap (λ b. fits_statement sets (f x) && b) (statements_from f xs k e) ∙ and_false (fits_statement sets (f x))

  pub statement_misfits : {X : Type 0} (f : X → Statement) (xs : List X) (k : ℕ) (x : X) → k < length xs → x ≡ get_or xs k x → fits_statement sets (f x) ≡ false → false ≡ fit_statements sets (statements_of (map f xs))
  statement_misfits f xs k x h i e =
      sym (statements_from f xs k (ap (λ ys. fit_statements sets (statements_of (map f ys))) (drop_at xs k x h i) ∙ ap (λ b. b && fit_statements sets (statements_of (map f (drop (k + 1) xs)))) e))

  branches_from : {X : Type 0} (f : X → Branch) (xs : List X) (k : ℕ) → fit_branches sets (branches_of (map f (drop k xs))) ≡ false → fit_branches sets (branches_of (map f xs)) ≡ false
  branches_from f xs zero e = e
  branches_from f [] (suc k) e = e
  branches_from f (x ∷ xs) (suc k) e = ap (λ b. fits_branch sets (f x) && b) (branches_from f xs k e) ∙ and_false (fits_branch sets (f x))

  pub branch_misfits : {X : Type 0} (f : X → Branch) (xs : List X) (k : ℕ) (x : X) → k < length xs → x ≡ get_or xs k x → fits_branch sets (f x) ≡ false → false ≡ fit_branches sets (branches_of (map f xs))
  branch_misfits f xs k x h i e =
      sym (branches_from f xs k (ap (λ ys. fit_branches sets (branches_of (map f ys))) (drop_at xs k x h i) ∙ ap (λ b. b && fit_branches sets (branches_of (map f (drop (k + 1) xs)))) e))
