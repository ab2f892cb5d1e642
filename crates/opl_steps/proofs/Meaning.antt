-- What comes next makes what the tasks make.
use Rattle.std.proofs.Common.{◌≡◌, ℕ, zero, suc, ◌++◌, Bool, true, false, cond, refl, List, [], ◌∷◌, map, length, ℤ, ap, sym, ◌∙◌}
use Rattle.std.specs.Prelude.{Option, Some, None}
use Rattle.opl_domain.specs.Family.{Family, set_of}
use Rattle.opl_expr.specs.Forms.{Fact}
use Rattle.opl_trace.specs.Answers.{is_single, answered, is_met, is_decided, is_value, precedes, key_value}
use Rattle.opl_trace.specs.Elements.{Arm, Picked, comes_first, picked_of, pick, ordered, taken}
use Rattle.opl_trace.specs.Objective.{Objective}
use Rattle.opl_trace.specs.Statements.{Statement, Statements, Branches}
use Rattle.opl_trace.specs.Statements.Statement.{post, block, try, try_all, for_all, select, once, while, decide, generate, rank}
use Rattle.opl_trace.specs.Statements.Statements.{no_statements, more_statements}
use Rattle.opl_trace.specs.Statements.Branch.{branch}
use Rattle.opl_trace.specs.Statements.Branches.{no_branches, more_branches}
use Rattle.opl_trace.specs.Run as run
use Rattle.opl_trace.specs.Run.Mark.{choice}
use Rattle.opl_trace.specs.Run.{Out, Rest, Alternative, unlabelled, by_value, stopped, marked, behind, after, alternatives, first_leaf, committed, selected, entered, within, inner_leaf, label, rank_pairs, visit, loop, perform, perform_all, arms}
use Rattle.opl_steps.specs.Tasks.{Task, End, performing, all_done, end_of, doing}
use Rattle.opl_steps.specs.Tasks.Task.{act, values, orders, elements, turns}
use Rattle.opl_steps.specs.Steps.{Way, on, on_value, acts_then, each_then, element_of, elements_of, bodies_then, first_then, performed, labelled, both_then, ranked, visited, turned, started, next_step}
use Rattle.opl_steps.specs.Steps.Next.{spent, go, choose}
use Rattle.opl_steps.specs.Made.{rests, Means}

length_mapped : {A B : Type 0} (f : A → B) (xs : List A) → length (map f xs) ≡ length xs
length_mapped f [] = refl
length_mapped f (x ∷ xs) = ap suc (length_mapped f xs)

-- ---- the sets of a moment

within_at : (goal : Option Objective) (sets : List Fact → Option ℤ → Option Family) (next : Family → Rest) (P : List Fact) (b : Option ℤ) (n : ℕ) (C : Family) → sets P b ≡ Some C → within goal sets next P b n ≡ next C P b n
unfolding within
within_at goal sets next P b n C e = ap (λ o. entered next o P b n) e

-- ---- alternatives

head_same : {X : Type 0} (x y : X) (xs ys : List X) → x ∷ xs ≡ y ∷ ys → x ≡ y
head_same x y xs ys e = cc

tail_same : {X : Type 0} (x y : X) (xs ys : List X) → x ∷ xs ≡ y ∷ ys → xs ≡ ys
tail_same x y xs ys e = cc

after_same : (o : Out) (f g : Option ℤ → ℕ → Out) → ((b : Option ℤ) (n : ℕ) → f b n ≡ g b n) → after o f ≡ after o g
after_same o f g h = ap (λ r. cond o.is_cut o (behind o.marks r)) (h o.best o.left)

-- the label of an alternative, and what it makes from these constraints
abbrev entry : List Fact → Alternative → Option (ℕ × ℤ) × (Option ℤ → ℕ → Out)
entry P a = (a.label, a.rest P)

-- alternatives that make the same make the same one after another
pub alike : (ks ls : List Alternative) (P Q : List Fact) (b : Option ℤ) (n : ℕ) → map (entry P) ks ≡ map (entry Q) ls → alternatives ks P b n ≡ alternatives ls Q b n
alike [] [] P Q b n e = refl
alike [] (l ∷ ls) P Q b n e = cc
alike (k ∷ ks) [] P Q b n e = cc
alike (k ∷ ks) (l ∷ ls) P Q b zero e = refl
alike (k ∷ ks) (l ∷ ls) P Q b (suc n) e =
    let here : entry P k ≡ entry Q l = head_same (entry P k) (entry Q l) (map (entry P) ks) (map (entry Q) ls) e in
    let there : map (entry P) ks ≡ map (entry Q) ls = tail_same (entry P k) (entry Q l) (map (entry P) ks) (map (entry Q) ls) e in
    ap (λ f. after (marked (choice f.0) (f.1 b n)) (alternatives ks P)) here
    ∙ after_same (marked (choice l.label) (l.rest Q b n)) (alternatives ks P) (alternatives ls Q) (λ c m. alike ks ls P Q c m there)

-- ---- statements one after another, and each of some

module _ (goal : Option Objective) (sets : List Fact → Option ℤ → Option Family) where
  acts_done : (end : Rest) (ss : Statements) (ts : List Task) → perform_all goal sets ss (all_done goal sets end ts) ≡ all_done goal sets end (acts_then ss ts)
  acts_done end no_statements ts = refl
  acts_done end (more_statements s ss) ts = ap (perform goal sets s) (acts_done end ss ts)

  each_done : (e : End) (P : List Fact) (ss : Statements) (ts : List Task) → map (entry P) (unlabelled (run.performed goal sets ss (all_done goal sets (end_of goal sets e) ts))) ≡ map (entry []) (rests goal sets e (each_then P ss ts))
  unfolding doing
  each_done e P no_statements ts = refl
  each_done e P (more_statements s ss) ts = ap (λ ks. (None, perform goal sets s (all_done goal sets (end_of goal sets e) ts) P) ∷ ks) (each_done e P ss ts)

  bodies_done : (e : End) (P : List Fact) (es : List (Arm Statement)) (ts : List Task) → map (entry P) (unlabelled (map (λ a. a.body (all_done goal sets (end_of goal sets e) ts)) (map (performing goal sets) es))) ≡ map (entry []) (rests goal sets e (bodies_then P es ts))
  unfolding doing
  bodies_done e P [] ts = refl
  bodies_done e P (a ∷ es) ts = ap (λ ks. (None, perform goal sets a.body (all_done goal sets (end_of goal sets e) ts) P) ∷ ks) (bodies_done e P es ts)

  -- ---- elements

  branch_arms : (bs : Branches) → arms goal sets bs ≡ map (performing goal sets) (elements_of bs)
  branch_arms no_branches = refl
  branch_arms (more_branches (branch c key rising s) bs) = ap (λ es. performing goal sets (element_of (branch c key rising s)) ∷ es) (branch_arms bs)

  taken_mapped : (F : Family) (es : List (Arm Statement)) → taken F (map (performing goal sets) es) ≡ map (performing goal sets) (taken F es)
  taken_mapped F [] = refl
  taken_mapped F (a ∷ es) = elim (is_met F a.when) as (λ b. cond b (performing goal sets a ∷ taken F (map (performing goal sets) es)) (taken F (map (performing goal sets) es)) ≡ map (performing goal sets) (cond b (a ∷ taken F es) (taken F es))) [
    | true ↦ ap (λ as'. performing goal sets a ∷ as') (taken_mapped F es)
    | false ↦ taken_mapped F es
  ]

  -- what is picked, each with what its body does
  abbrev picked_mapped : Picked Statement → Picked (Rest → Rest)
  picked_mapped p = record { arm = performing goal sets p.arm; others = map (performing goal sets) p.others }

  pick_mapped : (F : Family) (a : Arm Statement) (es : List (Arm Statement)) → pick F (performing goal sets a) (map (performing goal sets) es) ≡ picked_mapped (pick F a es)
  pick_mapped F a [] = refl
  pick_mapped F a (b ∷ es) =
      ap (picked_of F (performing goal sets a) (map (performing goal sets) (b ∷ es))) (pick_mapped F b es)
      ∙ elim (comes_first a.rising (key_value F (pick F b es).arm.key) (key_value F a.key)) as (λ t.
      (let p : Picked (Rest → Rest) = cond t (record { arm = performing goal sets (pick F b es).arm; others = performing goal sets a ∷ map (performing goal sets) (pick F b es).others }) (record { arm = performing goal sets a; others = map (performing goal sets) (b ∷ es) }) in p)
      ≡ picked_mapped (cond t (record { arm = (pick F b es).arm; others = a ∷ (pick F b es).others }) (record { arm = a; others = b ∷ es }))) [
        | true ↦ refl
        | false ↦ refl
      ]

  ordered_mapped : (F : Family) (n : ℕ) (es : List (Arm Statement)) → ordered F n (map (performing goal sets) es) ≡ map (performing goal sets) (ordered F n es)
  ordered_mapped F zero es = refl
  ordered_mapped F (suc n) [] = refl
  ordered_mapped F (suc n) (a ∷ es) =
      ap (λ p. p.arm ∷ ordered F n p.others) (pick_mapped F a es)
      ∙ ap (λ as'. performing goal sets (pick F a es).arm ∷ as') (ordered_mapped F n (pick F a es).others)

  others_length : (F : Family) (a : Arm Statement) (es : List (Arm Statement)) → length (pick F a es).others ≡ length es
  others_length F a [] = refl
  others_length F a (b ∷ es) = elim (comes_first a.rising (key_value F (pick F b es).arm.key) (key_value F a.key)) as (λ t.
      length (let p : Picked Statement = cond t (record { arm = (pick F b es).arm; others = a ∷ (pick F b es).others }) (record { arm = a; others = b ∷ es }) in p).others ≡ length (b ∷ es)) [
        | true ↦ ap suc (others_length F b es)
        | false ↦ refl
      ]

  ready_is : (F : Family) (bs : Branches) → taken F (arms goal sets bs) ≡ map (performing goal sets) (taken F (elements_of bs))
  ready_is F bs = ap (taken F) (branch_arms bs) ∙ taken_mapped F (elements_of bs)

  -- ---- each statement

  module _ (e : End) (P : List Fact) (b : Option ℤ) (n : ℕ) (C : Family) (moment : sets P b ≡ Some C) where
    abbrev later : List Task → Rest
    later ts = all_done goal sets (end_of goal sets e) ts

    tried : (ss : Statements) (ts : List Task) → Means goal sets e (act (try ss) ∷ ts) P b n (choose (each_then P ss ts))
    unfolding doing
    tried ss ts =
        within_at goal sets (λ F. alternatives (unlabelled (run.performed goal sets ss (later ts)))) P b n C moment
        ∙ alike (unlabelled (run.performed goal sets ss (later ts))) (rests goal sets e (each_then P ss ts)) P [] b n (each_done e P ss ts)

    all_tried : (bs : Branches) (ts : List Task) → Means goal sets e (act (try_all bs) ∷ ts) P b n (performed C P n (try_all bs) ts)
    unfolding doing
    all_tried bs ts =
        let ready = taken C (elements_of bs) in
        within_at goal sets (λ F. let r = taken F (arms goal sets bs) in alternatives (unlabelled (map (λ a. a.body (later ts)) (ordered F (length r) r)))) P b n C moment
        ∙ ap (λ r. alternatives (unlabelled (map (λ a. a.body (later ts)) (ordered C (length r) r))) P b n) (ready_is C bs)
        ∙ ap (λ m. alternatives (unlabelled (map (λ a. a.body (later ts)) (ordered C m (map (performing goal sets) ready)))) P b n) (length_mapped (performing goal sets) ready)
        ∙ ap (λ as'. alternatives (unlabelled (map (λ a. a.body (later ts)) as')) P b n) (ordered_mapped C (length ready) ready)
        ∙ alike (unlabelled (map (λ a. a.body (later ts)) (map (performing goal sets) (ordered C (length ready) ready)))) (rests goal sets e (bodies_then P (ordered C (length ready) ready) ts)) P [] b n (bodies_done e P (ordered C (length ready) ready) ts)

    for_each : (bs : Branches) (ts : List Task) → Means goal sets e (act (for_all bs) ∷ ts) P b n (performed C P n (for_all bs) ts)
    unfolding doing
    for_each bs ts =
        let ready = taken C (elements_of bs) in
        within_at goal sets (λ F. let r = taken F (arms goal sets bs) in visit goal sets (length r) r (later ts)) P b n C moment
        ∙ ap (λ r. visit goal sets (length r) r (later ts) P b n) (ready_is C bs)
        ∙ ap (λ m. visit goal sets m (map (performing goal sets) ready) (later ts) P b n) (length_mapped (performing goal sets) ready)

    first_done : (o : Out) (ts : List Task) (es : List (Arm Statement)) → doing goal sets e ts P b n ≡ o → (us : List Task) → o ≡ selected C (map (performing goal sets) es) (later us) P b n → Means goal sets e ts P b n (first_then C P es us)
    unfolding doing
    first_done o ts [] d us i = d ∙ i
    first_done o ts (a ∷ others) d us i = d ∙ i ∙ ap (λ p. p.arm.body (later us) P b n) (pick_mapped C a others)

    selected_one : (bs : Branches) (ts : List Task) → Means goal sets e (act (select bs) ∷ ts) P b n (performed C P n (select bs) ts)
    unfolding doing
    selected_one bs ts =
        first_done (selected C (taken C (arms goal sets bs)) (later ts) P b n) (act (select bs) ∷ ts) (taken C (elements_of bs))
        (within_at goal sets (λ F. selected F (taken F (arms goal sets bs)) (later ts)) P b n C moment)
        ts (ap (λ r. selected C r (later ts) P b n) (ready_is C bs))

    decided : (c : Fact) (s t : Statement) (ts : List Task) → Means goal sets e (act (decide c s t) ∷ ts) P b n (performed C P n (decide c s t) ts)
    unfolding doing
    decided c s t ts =
        within_at goal sets (λ F. cond (is_met F c) (perform goal sets s (later ts)) (perform goal sets t (later ts))) P b n C moment
        ∙ elim (is_met C c) as (λ v. cond v (perform goal sets s (later ts)) (perform goal sets t (later ts)) P b n ≡ perform goal sets (cond v s t) (later ts) P b n) [
          | true ↦ refl
          | false ↦ refl
        ]

    statement_means : (s : Statement) (ts : List Task) → Means goal sets e (act s ∷ ts) P b n (performed C P n s ts)
    unfolding doing
    statement_means (post c) ts = within_at goal sets (λ F Q. later ts (Q ++ answered F c ∷ [])) P b n C moment
    statement_means (block ss) ts =
        within_at goal sets (λ F. perform_all goal sets ss (later ts)) P b n C moment ∙ ap (λ k. k P b n) (acts_done (end_of goal sets e) ss ts)
    statement_means (try ss) ts = tried ss ts
    statement_means (try_all bs) ts = all_tried bs ts
    statement_means (for_all bs) ts = for_each bs ts
    statement_means (select bs) ts = selected_one bs ts
    statement_means (once s) ts =
        within_at goal sets (λ F Q c m. let o = perform goal sets s (inner_leaf goal sets) Q c m in committed (later ts) o c m (first_leaf o.marks)) P b n C moment
    statement_means (while c s) ts = refl
    statement_means (decide c s t) ts = decided c s t ts
    statement_means (generate xs) ts = refl
    statement_means (rank pairs) ts = refl

    -- ---- other tasks

    labels_done : (x : ℕ) (xs : List ℕ) (ts : List Task) (vs : List ℤ) → map (entry P) (by_value x (λ v Q. label goal sets xs (later ts) (Q ++ is_value x v ∷ [])) vs) ≡ map (entry []) (rests goal sets e (map (λ v. on_value x v P (values xs ∷ ts)) vs))
    unfolding doing
    labels_done x xs ts [] = refl
    labels_done x xs ts (v ∷ vs) = ap (λ ks. (Some (x, v), label goal sets xs (later ts) (P ++ is_value x v ∷ [])) ∷ ks) (labels_done x xs ts vs)

    label_means : (xs : List ℕ) (ts : List Task) → Means goal sets e (values xs ∷ ts) P b n (labelled C P xs ts)
    unfolding doing
    label_means [] ts = within_at goal sets (λ F. later ts) P b n C moment
    label_means (x ∷ xs) ts =
        let k = label goal sets xs (later ts) in
        let all : List Alternative = by_value x (λ v Q. k (Q ++ is_value x v ∷ [])) (set_of C x) in
        let ways : List Way = map (λ v. on_value x v P (values xs ∷ ts)) (set_of C x) in
        let here = within_at goal sets (λ F. cond (is_single F x) k (alternatives (by_value x (λ v Q. k (Q ++ is_value x v ∷ [])) (set_of F x)))) P b n C moment in
        elim (is_single C x) as (λ v. doing goal sets e (values (x ∷ xs) ∷ ts) P b n ≡ cond v k (alternatives all) P b n → Means goal sets e (values (x ∷ xs) ∷ ts) P b n (cond v (go (on P (values xs ∷ ts))) (choose ways))) [
          | true ↦ λ d. d
          | false ↦ λ d. d ∙ alike all (rests goal sets e ways) P [] b n (labels_done x xs ts (set_of C x))
        ] here

    -- the first pair, by what is decided of it
    settled : (p : ℕ × ℕ) (ps : List (ℕ × ℕ)) (ts : List Task) (u v : Bool) →
        (let k = rank_pairs goal sets ps (later ts) in doing goal sets e (orders (p ∷ ps) ∷ ts) P b n ≡ cond u k (cond v k (alternatives (unlabelled ((λ Q. k (Q ++ precedes p.0 p.1 ∷ [])) ∷ (λ Q. k (Q ++ precedes p.1 p.0 ∷ [])) ∷ [])))) P b n) →
        Means goal sets e (orders (p ∷ ps) ∷ ts) P b n (cond u (go (on P (orders ps ∷ ts))) (cond v (go (on P (orders ps ∷ ts))) (both_then P p ps ts)))
    unfolding doing
    settled p ps ts true v d = d
    settled p ps ts false true d = d
    settled p ps ts false false d =
        let k = rank_pairs goal sets ps (later ts) in
        d ∙ alike (unlabelled ((λ Q. k (Q ++ precedes p.0 p.1 ∷ [])) ∷ (λ Q. k (Q ++ precedes p.1 p.0 ∷ [])) ∷ []))
        (rests goal sets e (on (P ++ precedes p.0 p.1 ∷ []) (orders ps ∷ ts) ∷ on (P ++ precedes p.1 p.0 ∷ []) (orders ps ∷ ts) ∷ [])) P [] b n refl

    rank_means : (ps : List (ℕ × ℕ)) (ts : List Task) → Means goal sets e (orders ps ∷ ts) P b n (ranked C P ps ts)
    unfolding doing
    rank_means [] ts = within_at goal sets (λ F. later ts) P b n C moment
    rank_means (p ∷ ps) ts =
        let k = rank_pairs goal sets ps (later ts) in
        settled p ps ts (is_decided C (precedes p.0 p.1)) (is_decided C (precedes p.1 p.0))
        (within_at goal sets (λ F. cond (is_decided F (precedes p.0 p.1)) k (cond (is_decided F (precedes p.1 p.0)) k
        (alternatives (unlabelled ((λ Q. k (Q ++ precedes p.0 p.1 ∷ [])) ∷ (λ Q. k (Q ++ precedes p.1 p.0 ∷ [])) ∷ []))))) P b n C moment)

    visit_means : (es : List (Arm Statement)) (ts : List Task) → Means goal sets e (elements es ∷ ts) P b n (visited C P es ts)
    unfolding doing
    visit_means [] ts = within_at goal sets (λ F. later ts) P b n C moment
    visit_means (a ∷ es) ts =
        within_at goal sets (λ F. let p = pick F (performing goal sets a) (map (performing goal sets) es) in p.arm.body (visit goal sets (length es) p.others (later ts))) P b n C moment
        ∙ ap (λ p. p.arm.body (visit goal sets (length es) p.others (later ts)) P b n) (pick_mapped C a es)
        ∙ ap (λ m. perform goal sets (pick C a es).arm.body (visit goal sets m (map (performing goal sets) (pick C a es).others) (later ts)) P b n) (sym (others_length C a es))

    -- a loop, by whether its condition holds
    turn_means : (m : ℕ) (c : Fact) (s : Statement) (ts : List Task) (v : Bool) → is_met C c ≡ v → Means goal sets e (turns m c s ∷ ts) P b n (cond v (turned P m c s ts) (go (on P ts)))
    unfolding doing
    turn_means zero c s ts v i =
        let here = within_at goal sets (λ F. cond (is_met F c) run.spent (later ts)) P b n C moment ∙ ap (λ w. cond w run.spent (later ts) P b n) i in
        elim v as (λ w. doing goal sets e (turns zero c s ∷ ts) P b n ≡ cond w run.spent (later ts) P b n → Means goal sets e (turns zero c s ∷ ts) P b n (cond w spent (go (on P ts)))) [
          | true ↦ λ d. d
          | false ↦ λ d. d
        ] here
    turn_means (suc m) c s ts v i =
        let k = perform goal sets s (loop goal sets m c (perform goal sets s) (later ts)) in
        let ways = on P (act s ∷ turns m c s ∷ ts) ∷ [] in
        let here = within_at goal sets (λ F. cond (is_met F c) (alternatives (unlabelled (k ∷ []))) (later ts)) P b n C moment ∙ ap (λ w. cond w (alternatives (unlabelled (k ∷ []))) (later ts) P b n) i in
        elim v as (λ w. doing goal sets e (turns (suc m) c s ∷ ts) P b n ≡ cond w (alternatives (unlabelled (k ∷ []))) (later ts) P b n → Means goal sets e (turns (suc m) c s ∷ ts) P b n (cond w (choose ways) (go (on P ts)))) [
          | true ↦ λ d. d ∙ alike (unlabelled (k ∷ [])) (rests goal sets e ways) P [] b n refl
          | false ↦ λ d. d
        ] here

    task_means : (t : Task) (ts : List Task) → Means goal sets e (t ∷ ts) P b n (started C P n t ts)
    task_means (act s) ts = statement_means s ts
    task_means (values xs) ts = label_means xs ts
    task_means (orders ps) ts = rank_means ps ts
    task_means (elements es) ts = visit_means es ts
    task_means (turns m c s) ts = turn_means m c s ts (is_met C c) refl

    pub step_means : (ts : List Task) → Means goal sets e ts P b n (next_step C P n ts)
    unfolding doing
    step_means [] = refl
    step_means (t ∷ ts) = task_means t ts
