-- Each solution of a search has a value for each variable, whatever the search section.
use Rattle.std.proofs.Common.{◌≡◌, ◌∙◌, refl, ap, subst, ℕ, zero, suc, ◌-◌, Bool, true, false, cond, List, [], ◌∷◌, ◌++◌, map, length, ℤ}
use Rattle.std.specs.Prelude.{Option, Some, None}
use Rattle.std.specs.List.{list_any}
use Rattle.opl_domain.specs.Family.{Family, set_of}
use Rattle.opl_expr.specs.declared.model.Core.{Core}
use Rattle.opl_expr.specs.Forms.{Fact}
use Rattle.opl_expr.specs.Options.{lift1}
use Rattle.opl_expr.specs.Solutions.{base, declared}
use Rattle.opl_trace.specs.Answers.{is_single, answered, is_met, is_decided, key_value, is_value, precedes}
use Rattle.opl_trace.specs.Closure.{families, is_stable, is_in_stable, restrict, closure}
use Rattle.opl_trace.specs.Elements.{Arm, Picked, comes_first, picked_of, pick, ordered, taken}
use Rattle.opl_trace.specs.Objective.{Objective, best_after}
use Rattle.opl_trace.specs.Statements.{Statement, Statements, Branch, Branches}
use Rattle.opl_trace.specs.Statements.Statement.{post, block, try, try_all, for_all, select, once, while, decide, generate, rank}
use Rattle.opl_trace.specs.Statements.Statements.{no_statements, more_statements}
use Rattle.opl_trace.specs.Statements.Branch.{branch}
use Rattle.opl_trace.specs.Statements.Branches.{no_branches, more_branches}
use Rattle.opl_trace.specs.Run.{Mark, Out, Rest, spent, marked, behind, after, Alternative, unlabelled, by_value, alternatives, choices, Left, left_with, first_leaf, committed, selected, values_of, is_dead, closed, entered, within, whole_leaf, inner_leaf, label, rank_pairs, visit, loop, perform, perform_all, performed, arm_of, arms}
use Rattle.opl_trace.specs.Run.Mark.{choice, leaf, solution, cut}
use Rattle.opl_trace.specs.Marks.{numbers_from, labelled, searched, trace, objective, section, core_trace}
use Rattle.opl_search.specs.Machines.{nth_solution}

-- ---- marks

module _ (d : ℕ) where
  abbrev IsLongMark : Mark → Type 0
  IsLongMark (choice l) = Unit {0}
  IsLongMark (leaf P) = Unit {0}
  IsLongMark (solution a) = length a ≡ d
  IsLongMark cut = Unit {0}

  -- each solution has d values
  abbrev pub AreLong : List Mark → Type 0
  AreLong [] = Unit {0}
  AreLong (m ∷ ms) = IsLongMark m × AreLong ms

  long-append : (ms ns : List Mark) → AreLong ms → AreLong ns → AreLong (ms ++ ns)
  long-append [] ns g k = k
  long-append (m ∷ ms) ns g k = (g.0, long-append ms ns g.1 k)

  -- what follows has only such solutions, whatever is posted
  abbrev IsSafe : Rest → Type 0
  IsSafe K = (P : List Fact) (b : Option ℤ) (n : ℕ) → AreLong (K P b n).marks

  after_long : (o : Out) (f : Option ℤ → ℕ → Out) → AreLong o.marks → ((b : Option ℤ) (n : ℕ) → AreLong (f b n).marks) → AreLong (after o f).marks
  after_long o f g k = elim (o.is_cut) as (λ c. AreLong (cond c o (behind o.marks (f o.best o.left))).marks) [
    | true ↦ g
    | false ↦ long-append o.marks (f o.best o.left).marks g (k o.best o.left)
  ]

  abbrev AllSafe : List Alternative → Type 0
  AllSafe [] = Unit {0}
  AllSafe (a ∷ others) = IsSafe a.rest × AllSafe others

  alternatives_safe : (ks : List Alternative) → AllSafe ks → IsSafe (alternatives ks)
  alternatives_safe [] k P b n = tt
  alternatives_safe (a ∷ others) k P b zero = tt
  alternatives_safe (a ∷ others) k P b (suc n) =
      after_long (marked (choice a.label) (a.rest P b n)) (alternatives others P) (tt, k.0 P b n) (λ c m. alternatives_safe others k.1 P c m)

  cond_safe : (c : Bool) (k l : Rest) → IsSafe k → IsSafe l → IsSafe (cond c k l)
  cond_safe true k l f g = f
  cond_safe false k l f g = g

  posted_safe : (c : Fact) (K : Rest) → IsSafe K → IsSafe (λ P. K (P ++ c ∷ []))
  posted_safe c K k P b n = k (P ++ c ∷ []) b n

  values_safe : (x : ℕ) (K : Rest) (vs : List ℤ) → IsSafe K → AllSafe (by_value x (λ v P. K (P ++ is_value x v ∷ [])) vs)
  values_safe x K [] k = tt
  values_safe x K (v ∷ vs) k = (posted_safe (is_value x v) K k, values_safe x K vs k)

  spent_safe : IsSafe spent
  spent_safe P b n = tt

  -- ---- once

  abbrev IsLongLeft : Option Left → Type 0
  IsLongLeft None = Unit {0}
  IsLongLeft (Some l) = AreLong l.before

  left_long : (m : Mark) (o : Option Left) → IsLongMark m → IsLongLeft o → IsLongLeft (left_with m o)
  left_long m None g k = tt
  left_long m (Some l) g k = (g, k)

  first_long : (ms : List Mark) → AreLong ms → IsLongLeft (first_leaf ms)
  first_long [] g = tt
  first_long (choice l ∷ ms) g = left_long (choice l) (first_leaf ms) g.0 (first_long ms g.1)
  first_long (leaf P ∷ ms) g = tt
  first_long (solution a ∷ ms) g = left_long (solution a) (first_leaf ms) g.0 (first_long ms g.1)
  first_long (cut ∷ ms) g = left_long cut (first_leaf ms) g.0 (first_long ms g.1)

  committed_long : (next : Rest) (o : Out) (b : Option ℤ) (n : ℕ) (l : Option Left) → IsSafe next → AreLong o.marks → IsLongLeft l → AreLong (committed next o b n l).marks
  committed_long next o b n None k g i = g
  committed_long next o b n (Some l) k g i = long-append l.before (next l.posted b (n - choices l.before)).marks i (k l.posted b (n - choices l.before))

  -- ---- elements

  abbrev Keeps : (Rest → Rest) → Type 0
  Keeps body = (K : Rest) → IsSafe K → IsSafe (body K)

  abbrev AllKeep : List (Arm (Rest → Rest)) → Type 0
  AllKeep [] = Unit {0}
  AllKeep (a ∷ others) = Keeps a.body × AllKeep others

  picked_keeps : (F : Family) (a : Arm (Rest → Rest)) (others : List (Arm (Rest → Rest))) (p : Picked (Rest → Rest)) → Keeps a.body → AllKeep others → Keeps p.arm.body → AllKeep p.others →
      Keeps (picked_of F a others p).arm.body × AllKeep (picked_of F a others p).others
  picked_keeps F a others p f k i j =
      elim (comes_first a.rising (key_value F p.arm.key) (key_value F a.key)) as (λ b. let q : Picked (Rest → Rest) = cond b (record { arm = p.arm; others = a ∷ p.others }) (record { arm = a; others = others }) in Keeps q.arm.body × AllKeep q.others) [
        | true ↦ (i, (f, j))
        | false ↦ (f, k)
      ]

  pick_keeps : (F : Family) (a : Arm (Rest → Rest)) (others : List (Arm (Rest → Rest))) → Keeps a.body → AllKeep others → Keeps (pick F a others).arm.body × AllKeep (pick F a others).others
  pick_keeps F a [] f i = (f, tt)
  pick_keeps F a (b ∷ others) f i = let r = pick_keeps F b others i.0 i.1 in picked_keeps F a (b ∷ others) (pick F b others) f i r.0 r.1

  ordered_keep : (F : Family) (n : ℕ) (list : List (Arm (Rest → Rest))) → AllKeep list → AllKeep (ordered F n list)
  ordered_keep F zero list k = tt
  ordered_keep F (suc n) [] k = tt
  ordered_keep F (suc n) (a ∷ others) k = let r = pick_keeps F a others k.0 k.1 in (r.0, ordered_keep F n (pick F a others).others r.1)

  taken_keep : (F : Family) (list : List (Arm (Rest → Rest))) → AllKeep list → AllKeep (taken F list)
  taken_keep F [] k = tt
  taken_keep F (a ∷ others) k = elim (is_met F a.when) as (λ b. AllKeep (cond b (a ∷ taken F others) (taken F others))) [
    | true ↦ (k.0, taken_keep F others k.1)
    | false ↦ taken_keep F others k.1
  ]

  bodies_safe : (K : Rest) (list : List (Arm (Rest → Rest))) → IsSafe K → AllKeep list → AllSafe (unlabelled (map (λ a. a.body K) list))
  bodies_safe K [] k i = tt
  bodies_safe K (a ∷ others) k i = (i.0 K k, bodies_safe K others k i.1)

  selected_safe : (F : Family) (list : List (Arm (Rest → Rest))) (K : Rest) → IsSafe K → AllKeep list → IsSafe (selected F list K)
  selected_safe F [] K k i = λ P b n. tt
  selected_safe F (a ∷ others) K k i = (pick_keeps F a others i.0 i.1).0 K k

  -- ---- the rules

  module _ (goal : Option Objective) (sets : List Fact → Option ℤ → Option Family) (long : (P : List Fact) (b : Option ℤ) (C : Family) → sets P b ≡ Some C → length (values_of C) ≡ d) where
    within_long : (next : Family → Rest) (P : List Fact) (b : Option ℤ) (n : ℕ) → ((C : Family) → sets P b ≡ Some C → AreLong (next C P b n).marks) → AreLong (within goal sets next P b n).marks
    unfolding within
    within_long next P b n k =
        elim (sets P b) as (λ o. sets P b ≡ o → AreLong (entered next o P b n).marks) [
          | None ↦ λ e. tt
          | Some C ↦ λ e. k C e
        ] refl

    within_safe : (next : Family → Rest) → ((C : Family) → IsSafe (next C)) → IsSafe (within goal sets next)
    within_safe next k P b n = within_long next P b n (λ C e. k C P b n)

    whole_safe : IsSafe (whole_leaf goal sets)
    whole_safe P b n =
        within_long (λ C P b n. record { marks = solution (values_of C) ∷ []; best = best_after goal (values_of C) b; left = n; is_cut = false }) P b n (λ C e. (long P b C e, tt))

    inner_safe : IsSafe (inner_leaf goal sets)
    inner_safe = within_safe (λ C P b n. record { marks = leaf P ∷ []; best = b; left = n; is_cut = false }) (λ C P b n. (tt, tt))

    label_safe : (xs : List ℕ) (K : Rest) → IsSafe K → IsSafe (label goal sets xs K)
    label_safe [] K k = within_safe (λ C. K) (λ C. k)
    label_safe (x ∷ xs) K k =
        let L = label goal sets xs K in
        let i = label_safe xs K k in
        within_safe (λ C. cond (is_single C x) L (alternatives (by_value x (λ v P. L (P ++ is_value x v ∷ [])) (set_of C x))))
        (λ C. cond_safe (is_single C x) L (alternatives (by_value x (λ v P. L (P ++ is_value x v ∷ [])) (set_of C x))) i
        (alternatives_safe (by_value x (λ v P. L (P ++ is_value x v ∷ [])) (set_of C x)) (values_safe x L (set_of C x) i)))

    rank_safe : (ps : List (ℕ × ℕ)) (K : Rest) → IsSafe K → IsSafe (rank_pairs goal sets ps K)
    rank_safe [] K k = within_safe (λ C. K) (λ C. k)
    rank_safe (p ∷ ps) K k =
        let L = rank_pairs goal sets ps K in
        let i = rank_safe ps K k in
        let both = unlabelled ((λ P. L (P ++ precedes p.0 p.1 ∷ [])) ∷ (λ P. L (P ++ precedes p.1 p.0 ∷ [])) ∷ []) in
        within_safe (λ C. cond (is_decided C (precedes p.0 p.1)) L (cond (is_decided C (precedes p.1 p.0)) L (alternatives both)))
        (λ C. cond_safe (is_decided C (precedes p.0 p.1)) L (cond (is_decided C (precedes p.1 p.0)) L (alternatives both)) i
        (cond_safe (is_decided C (precedes p.1 p.0)) L (alternatives both) i
        (alternatives_safe both (posted_safe (precedes p.0 p.1) L i, (posted_safe (precedes p.1 p.0) L i, tt)))))

    visit_safe : (n : ℕ) (list : List (Arm (Rest → Rest))) → AllKeep list → (K : Rest) → IsSafe K → IsSafe (visit goal sets n list K)
    visit_safe zero list i K k = within_safe (λ C. K) (λ C. k)
    visit_safe (suc n) [] i K k = within_safe (λ C. K) (λ C. k)
    visit_safe (suc n) (a ∷ others) i K k =
        within_safe (λ C. (pick C a others).arm.body (visit goal sets n (pick C a others).others K))
        (λ C. let r = pick_keeps C a others i.0 i.1 in r.0 (visit goal sets n (pick C a others).others K) (visit_safe n (pick C a others).others r.1 K k))

    loop_safe : (u : ℕ) (c : Fact) (body : Rest → Rest) (K : Rest) → Keeps body → IsSafe K → IsSafe (loop goal sets u c body K)
    loop_safe zero c body K f k = within_safe (λ C. cond (is_met C c) spent K) (λ C. cond_safe (is_met C c) spent K spent_safe k)
    loop_safe (suc u) c body K f k =
        let turn = unlabelled (body (loop goal sets u c body K) ∷ []) in
        within_safe (λ C. cond (is_met C c) (alternatives turn) K)
        (λ C. cond_safe (is_met C c) (alternatives turn) K (alternatives_safe turn (f (loop goal sets u c body K) (loop_safe u c body K f k), tt)) k)

    -- ---- statements

    mutual
      perform_safe : (s : Statement) → Keeps (perform goal sets s)
      perform_safe (post c) K k = within_safe (λ C P. K (P ++ answered C c ∷ [])) (λ C. posted_safe (answered C c) K k)
      perform_safe (block ss) K k = within_safe (λ C. perform_all goal sets ss K) (λ C. all_safe ss K k)
      perform_safe (try ss) K k = within_safe (λ C. alternatives (unlabelled (performed goal sets ss K))) (λ C. alternatives_safe (unlabelled (performed goal sets ss K)) (each_safe ss K k))
      perform_safe (try_all bs) K k =
          within_safe (λ C. let ready = taken C (arms goal sets bs) in alternatives (unlabelled (map (λ a. a.body K) (ordered C (length ready) ready))))
          (λ C. let ready = taken C (arms goal sets bs) in
          alternatives_safe (unlabelled (map (λ a. a.body K) (ordered C (length ready) ready)))
          (bodies_safe K (ordered C (length ready) ready) k (ordered_keep C (length ready) ready (taken_keep C (arms goal sets bs) (arms_safe bs)))))
      perform_safe (for_all bs) K k =
          within_safe (λ C. let ready = taken C (arms goal sets bs) in visit goal sets (length ready) ready K)
          (λ C. let ready = taken C (arms goal sets bs) in visit_safe (length ready) ready (taken_keep C (arms goal sets bs) (arms_safe bs)) K k)
      perform_safe (select bs) K k =
          within_safe (λ C. selected C (taken C (arms goal sets bs)) K)
          (λ C. selected_safe C (taken C (arms goal sets bs)) K k (taken_keep C (arms goal sets bs) (arms_safe bs)))
      perform_safe (once s) K k =
          let inner = perform goal sets s (inner_leaf goal sets) in
          within_safe (λ C P b n. let o = inner P b n in committed K o b n (first_leaf o.marks))
          (λ C P b n.
          let g = perform_safe s (inner_leaf goal sets) inner_safe P b n in
          committed_long K (inner P b n) b n (first_leaf (inner P b n).marks) k g (first_long (inner P b n).marks g))
      perform_safe (while c s) K k = λ P b n. loop_safe n c (perform goal sets s) K (perform_safe s) k P b n
      perform_safe (decide c s r) K k =
          within_safe (λ C. cond (is_met C c) (perform goal sets s K) (perform goal sets r K))
          (λ C. cond_safe (is_met C c) (perform goal sets s K) (perform goal sets r K) (perform_safe s K k) (perform_safe r K k))
      perform_safe (generate xs) K k = label_safe xs K k
      perform_safe (rank ps) K k = rank_safe ps K k

      all_safe : (ss : Statements) → Keeps (perform_all goal sets ss)
      all_safe no_statements K k = k
      all_safe (more_statements s ss) K k = perform_safe s (perform_all goal sets ss K) (all_safe ss K k)

      each_safe : (ss : Statements) (K : Rest) → IsSafe K → AllSafe (unlabelled (performed goal sets ss K))
      each_safe no_statements K k = tt
      each_safe (more_statements s ss) K k = (perform_safe s K k, each_safe ss K k)

      arm_safe : (b : Branch) → Keeps (arm_of goal sets b).body
      arm_safe (branch c key rising s) K k = perform_safe s K k

      arms_safe : (bs : Branches) → AllKeep (arms goal sets bs)
      arms_safe no_branches = tt
      arms_safe (more_branches b bs) = (arm_safe b, arms_safe bs)

    searched_safe : (n : ℕ) (s : Option Statement) → IsSafe (searched goal sets n s)
    searched_safe n None = label_safe (numbers_from zero n) (whole_leaf goal sets) whole_safe
    searched_safe n (Some s) = perform_safe s (labelled goal sets n) (label_safe (numbers_from zero n) (whole_leaf goal sets) whole_safe)

-- ---- the sets of a moment

restrict_long : (keeps : ℕ → ℤ → Bool) (D : Family) → length (restrict keeps D) ≡ length D
restrict_long keeps [] = refl
restrict_long keeps (vs ∷ D) = ap (λ n. suc n) (restrict_long (λ x. keeps (suc x)) D)

values_long : (C : Family) → length (values_of C) ≡ length C
values_long [] = refl
values_long (vs ∷ C) = ap (λ n. suc n) (values_long C)

kept_is : (t : Bool) (F C : Family) → cond t (Some F) None ≡ Some C → C ≡ F
kept_is true F C e = cc
kept_is false F C e = cc

closed_long : (goal : Option Objective) (D : Family) (P : List Fact) (b : Option ℤ) (C : Family) → closed goal D P b ≡ Some C → length (values_of C) ≡ length D
unfolding closed closure
closed_long goal D P b C e =
    values_long C
    ∙ ap length (kept_is (list_any (is_stable (is_dead goal P b)) (families D)) (restrict (is_in_stable (is_dead goal P b) D) D) C e)
    ∙ restrict_long (is_in_stable (is_dead goal P b) D) D

trace_long : (goal : Option Objective) (D : Family) (s : Option Statement) (P : List Fact) (n : ℕ) → AreLong (length D) (trace goal D s P n).marks
unfolding trace
trace_long goal D s P n = searched_safe (length D) goal (closed goal D) (closed_long goal D) (length D) s P None n

-- ---- the solutions that a machine finds

abbrev IsLongFound : ℕ → Option (ℕ × List ℤ) → Type 0
IsLongFound d None = Unit {0}
IsLongFound d (Some p) = length p.1 ≡ d

lifted_long : (d : ℕ) (o : Option (ℕ × List ℤ)) → IsLongFound d o → IsLongFound d (lift1 (λ p. (suc p.0, p.1)) o)
lifted_long d None h = tt
lifted_long d (Some p) h = h

nth_long : (d : ℕ) (ms : List Mark) (k : ℕ) → AreLong d ms → IsLongFound d (nth_solution ms k)
nth_long d [] k g = tt
nth_long d (choice l ∷ ms) k g = lifted_long d (nth_solution ms k) (nth_long d ms k g.1)
nth_long d (leaf P ∷ ms) k g = nth_long d ms k g.1
nth_long d (solution a ∷ ms) zero g = g.0
nth_long d (solution a ∷ ms) (suc k) g = nth_long d ms k g.1
nth_long d (cut ∷ ms) k g = nth_long d ms k g.1

pub found_long : (default : Bool) (core : Core) (n k c : ℕ) (a : List ℤ) → nth_solution (core_trace default core n).marks k ≡ Some (c, a) → length a ≡ length (declared core)
found_long default core n k c a e =
    subst (IsLongFound (length (declared core))) e
    (nth_long (length (declared core)) (core_trace default core n).marks k (trace_long (objective core) (declared core) (section default core) (base core) n))
