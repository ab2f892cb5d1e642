-- What comes next, statement by statement and task by task, over plain variables.
use Rattle.std.proofs.Common.{◌≡◌, ◌∙◌, ℕ, zero, suc, Bool, true, false, cond, refl, List, [], ◌∷◌, ◌++◌, map, length, ℤ, ap, sym}
use Rattle.opl_domain.specs.Family.{Family, set_of}
use Rattle.opl_expr.specs.Forms.{Fact}
use Rattle.opl_trace.specs.Answers.{is_single, answered, is_met, is_decided, is_value, precedes}
use Rattle.opl_trace.specs.Elements.{Arm, pick, ordered, taken}
use Rattle.opl_trace.specs.Statements.{Statement, Branch, Branches, statements_of, branches_of}
use Rattle.opl_trace.specs.Statements.Statement.{post, block, try, try_all, for_all, select, once, while, decide, generate, rank}
use Rattle.opl_steps.specs.Tasks.{Task}
use Rattle.opl_steps.specs.Tasks.Task.{act, values, orders, elements, turns}
use Rattle.opl_steps.specs.Steps.{Way, Next, on, on_value, acts_then, each_then, element_of, elements_of, bodies_then, next_step}
use Rattle.opl_steps.specs.Steps.Next.{nothing, spent, go, choose, commit}

-- a statement of a list of statements
acts_map : (ss : List Statement) (us : List Task) → acts_then (statements_of ss) us ≡ map act ss ++ us
acts_map [] us = refl
acts_map (s ∷ ss) us = ap (λ ts. act s ∷ ts) (acts_map ss us)

each_map : (P : List Fact) (ss : List Statement) (us : List Task) → each_then P (statements_of ss) us ≡ map (λ s. on P (act s ∷ us)) ss
each_map P [] us = refl
each_map P (s ∷ ss) us = ap (λ ws. on P (act s ∷ us) ∷ ws) (each_map P ss us)

elements_map : (bs : List Branch) → elements_of (branches_of bs) ≡ map element_of bs
elements_map [] = refl
elements_map (b ∷ bs) = ap (λ es. element_of b ∷ es) (elements_map bs)

module _ (C : Family) (P : List Fact) (n : ℕ) (us : List Task) where
  pub next_post : (c : Fact) → next_step C P n (act (post c) ∷ us) ≡ go (on (P ++ answered C c ∷ []) us)
  next_post c = refl

  pub next_block : (ss : List Statement) → next_step C P n (act (block (statements_of ss)) ∷ us) ≡ go (on P (map act ss ++ us))
  next_block ss = ap (λ ts. go (on P ts)) (acts_map ss us)

  pub next_try : (ss : List Statement) → next_step C P n (act (try (statements_of ss)) ∷ us) ≡ choose (map (λ s. on P (act s ∷ us)) ss)
  next_try ss = ap choose (each_map P ss us)

  pub next_try_all : (bs : List Branch) (es : List (Arm Statement)) → es ≡ taken C (map element_of bs) → next_step C P n (act (try_all (branches_of bs)) ∷ us) ≡ choose (map (λ a. on P (act a.body ∷ us)) (ordered C (length es) es))
  next_try_all bs es e = ap (λ as'. choose (let r = taken C as' in bodies_then P (ordered C (length r) r) us)) (elements_map bs) ∙ ap (λ r. choose (bodies_then P (ordered C (length r) r) us)) (sym e)

  pub next_for_all : (bs : List Branch) (es : List (Arm Statement)) → es ≡ taken C (map element_of bs) → next_step C P n (act (for_all (branches_of bs)) ∷ us) ≡ go (on P (elements es ∷ us))
  next_for_all bs es e = ap (λ as'. go (on P (elements (taken C as') ∷ us))) (elements_map bs) ∙ ap (λ r. go (on P (elements r ∷ us))) (sym e)

  pub next_select_none : (bs : Branches) → taken C (elements_of bs) ≡ [] → next_step C P n (act (select bs) ∷ us) ≡ nothing
  next_select_none bs e = rw e refl

  pub next_select : (bs : Branches) (a : Arm Statement) (others : List (Arm Statement)) → taken C (elements_of bs) ≡ a ∷ others → next_step C P n (act (select bs) ∷ us) ≡ go (on P (act (pick C a others).arm.body ∷ us))
  next_select bs a others e = rw e refl

  pub next_once : (s : Statement) → next_step C P n (act (once s) ∷ us) ≡ commit s us
  next_once s = refl

  pub next_decide : (c : Fact) (s t : Statement) (v : Bool) → is_met C c ≡ v → next_step C P n (act (decide c s t) ∷ us) ≡ go (on P (act (cond v s t) ∷ us))
  next_decide c s t v e = rw e refl

  pub next_while : (c : Fact) (s : Statement) → next_step C P n (act (while c s) ∷ us) ≡ go (on P (turns n c s ∷ us))
  next_while c s = refl

  pub next_turn : (m : ℕ) (c : Fact) (s : Statement) → is_met C c ≡ true → next_step C P n (turns (suc m) c s ∷ us) ≡ choose (on P (act s ∷ turns m c s ∷ us) ∷ [])
  next_turn m c s e = rw e refl

  pub next_no_turn : (c : Fact) (s : Statement) → is_met C c ≡ true → next_step C P n (turns zero c s ∷ us) ≡ spent
  next_no_turn c s e = rw e refl

  pub next_turned : (m : ℕ) (c : Fact) (s : Statement) → is_met C c ≡ false → next_step C P n (turns m c s ∷ us) ≡ go (on P us)
  next_turned m c s e = rw e refl

  pub next_generate : (xs : List ℕ) → next_step C P n (act (generate xs) ∷ us) ≡ go (on P (values xs ∷ us))
  next_generate xs = refl

  pub next_rank : (ps : List (ℕ × ℕ)) → next_step C P n (act (rank ps) ∷ us) ≡ go (on P (orders ps ∷ us))
  next_rank ps = refl

  pub next_ordered : (x y : ℕ) (ps : List (ℕ × ℕ)) → is_decided C (precedes x y) ≡ true → next_step C P n (orders ((x, y) ∷ ps) ∷ us) ≡ go (on P (orders ps ∷ us))
  next_ordered x y ps e = rw e refl

  pub next_turned_round : (x y : ℕ) (ps : List (ℕ × ℕ)) → is_decided C (precedes x y) ≡ false → is_decided C (precedes y x) ≡ true → next_step C P n (orders ((x, y) ∷ ps) ∷ us) ≡ go (on P (orders ps ∷ us))
  next_turned_round x y ps e i = rw (e, i) refl

  pub next_orders : (x y : ℕ) (ps : List (ℕ × ℕ)) → is_decided C (precedes x y) ≡ false → is_decided C (precedes y x) ≡ false →
      next_step C P n (orders ((x, y) ∷ ps) ∷ us) ≡ choose (on (P ++ precedes x y ∷ []) (orders ps ∷ us) ∷ on (P ++ precedes y x ∷ []) (orders ps ∷ us) ∷ [])
  next_orders x y ps e i = rw (e, i) refl

  pub next_no_element : next_step C P n (elements [] ∷ us) ≡ go (on P us)
  next_no_element = refl

  pub next_element : (a : Arm Statement) (es : List (Arm Statement)) → next_step C P n (elements (a ∷ es) ∷ us) ≡ go (on P (act (pick C a es).arm.body ∷ elements (pick C a es).others ∷ us))
  next_element a es = refl

  pub next_labelled : next_step C P n (values [] ∷ us) ≡ go (on P us)
  next_labelled = refl

  pub next_single : (x : ℕ) (xs : List ℕ) → is_single C x ≡ true → next_step C P n (values (x ∷ xs) ∷ us) ≡ go (on P (values xs ∷ us))
  next_single x xs e = rw e refl

  pub next_values : (x : ℕ) (xs : List ℕ) → is_single C x ≡ false → next_step C P n (values (x ∷ xs) ∷ us) ≡ choose (map (λ v. on_value x v P (values xs ∷ us)) (set_of C x))
  next_values x xs e = rw e refl
