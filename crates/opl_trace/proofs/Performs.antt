-- What more choices make of each statement.
use Rattle.std.proofs.Common.{ℕ, zero, suc, ◌+◌, ◌≤◌, Bool, true, false, cond, refl, List, [], ◌∷◌, ◌++◌, map, length, ℤ, arith}
use Rattle.std.specs.Prelude.{Option, Some, None}
use Rattle.opl_domain.specs.Family.{Family, set_of}
use Rattle.opl_expr.specs.Forms.{Fact}
use Rattle.opl_trace.specs.Answers.{is_single, answered, is_met, is_decided, key_value, is_value, precedes}
use Rattle.opl_trace.specs.Elements.{Arm, Picked, comes_first, picked_of, pick, ordered, taken}
use Rattle.opl_trace.specs.Objective.{Objective, best_after}
use Rattle.opl_trace.specs.Statements.{Statement, Statements, Branch, Branches}
use Rattle.opl_trace.specs.Statements.Statement.{post, block, try, try_all, for_all, select, once, while, decide, generate, rank}
use Rattle.opl_trace.specs.Statements.Statements.{no_statements, more_statements}
use Rattle.opl_trace.specs.Statements.Branch.{branch}
use Rattle.opl_trace.specs.Statements.Branches.{no_branches, more_branches}
use Rattle.opl_trace.specs.Run.{Rest, Alternative, spent, unlabelled, by_value, alternatives, first_leaf, committed, selected, values_of, entered, within, whole_leaf, inner_leaf, label, rank_pairs, visit, loop, perform, perform_all, performed, arm_of, arms}
use Rattle.opl_trace.specs.Run.Mark.{leaf, solution}
use Rattle.opl_trace.specs.Marks.{numbers_from, labelled, searched}
use Rattle.opl_trace.proofs.Budgets.{Grows, grows_less, nothing_grows, stopped_agrees, AllGrow, AllEnter, unlabelled_enter, alternatives_grow, committed_agrees}

-- ---- elements

module _ (d : ℕ) where
  -- more choices for what follows are more choices for the statement and what follows
  abbrev Extends : (Rest → Rest) → Type 0
  Extends body = (N : ℕ) (k l : Rest) → Grows d N k l → Grows d N (body k) (body l)

  abbrev AllExtend : List (Arm (Rest → Rest)) → Type 0
  AllExtend [] = Unit {0}
  AllExtend (a ∷ others) = Extends a.body × AllExtend others

  picked_extends : (F : Family) (a : Arm (Rest → Rest)) (others : List (Arm (Rest → Rest))) (p : Picked (Rest → Rest)) → Extends a.body → AllExtend others → Extends p.arm.body → AllExtend p.others → Extends (picked_of F a others p).arm.body × AllExtend (picked_of F a others p).others
  picked_extends F a others p h k i j =
      elim (comes_first a.rising (key_value F p.arm.key) (key_value F a.key)) as (λ b. let q : Picked (Rest → Rest) = cond b (record { arm = p.arm; others = a ∷ p.others }) (record { arm = a; others = others }) in Extends q.arm.body × AllExtend q.others) [
        | true ↦ (i, (h, j))
        | false ↦ (h, k)
      ]

  pick_extends : (F : Family) (a : Arm (Rest → Rest)) (others : List (Arm (Rest → Rest))) → Extends a.body → AllExtend others → Extends (pick F a others).arm.body × AllExtend (pick F a others).others
  pick_extends F a [] h i = (h, tt)
  pick_extends F a (b ∷ others) h i = let r = pick_extends F b others i.0 i.1 in picked_extends F a (b ∷ others) (pick F b others) h i r.0 r.1

  ordered_extend : (F : Family) (n : ℕ) (list : List (Arm (Rest → Rest))) → AllExtend list → AllExtend (ordered F n list)
  ordered_extend F zero list h = tt
  ordered_extend F (suc n) [] h = tt
  ordered_extend F (suc n) (a ∷ others) h = let r = pick_extends F a others h.0 h.1 in (r.0, ordered_extend F n (pick F a others).others r.1)

  taken_extend : (F : Family) (list : List (Arm (Rest → Rest))) → AllExtend list → AllExtend (taken F list)
  taken_extend F [] h = tt
  taken_extend F (a ∷ others) h = elim (is_met F a.when) as (λ b. AllExtend (cond b (a ∷ taken F others) (taken F others))) [
    | true ↦ (h.0, taken_extend F others h.1)
    | false ↦ taken_extend F others h.1
  ]

  bodies_grow : (N : ℕ) (k l : Rest) (list : List (Arm (Rest → Rest))) → Grows d N k l → AllExtend list → AllGrow d N (map (λ a. a.body k) list) (map (λ a. a.body l) list)
  bodies_grow N k l [] g h = tt
  bodies_grow N k l (a ∷ others) g h = (h.0 N k l g, bodies_grow N k l others g h.1)

  selected_grows : (N : ℕ) (k l : Rest) (F : Family) (list : List (Arm (Rest → Rest))) → Grows d N k l → AllExtend list → Grows d N (selected F list k) (selected F list l)
  selected_grows N k l F [] g h = nothing_grows d N
  selected_grows N k l F (a ∷ others) g h = (pick_extends F a others h.0 h.1).0 N k l g

  cond_grows : (N : ℕ) (b : Bool) (k l k' l' : Rest) → Grows d N k l → Grows d N k' l' → Grows d N (cond b k k') (cond b l l')
  cond_grows N true k l k' l' g h = g
  cond_grows N false k l k' l' g h = h

  entered_within : (N : ℕ) (ks ls : List Alternative) → AllEnter d N ks ls → Grows d N (alternatives ks) (alternatives ls)
  entered_within N ks ls h = grows_less d N (suc N) (alternatives ks) (alternatives ls) (omega arith) (alternatives_grow d N ks ls h)

  alternatives_within : (N : ℕ) (ks ls : List Rest) → AllGrow d N ks ls → Grows d N (alternatives (unlabelled ks)) (alternatives (unlabelled ls))
  alternatives_within N ks ls h = entered_within N (unlabelled ks) (unlabelled ls) (unlabelled_enter d N ks ls h)

  posted_grows : (N : ℕ) (k l : Rest) (c : Fact) → Grows d N k l → Grows d N (λ P. k (P ++ c ∷ [])) (λ P. l (P ++ c ∷ []))
  posted_grows N k l c g P b n m i e = g (P ++ c ∷ []) b n m i e

  -- ---- what is done with the sets of a moment

  module _ (goal : Option Objective) (sets : List Fact → Option ℤ → Option Family) where
    entered_grows : (N : ℕ) (f g : Family → Rest) (o : Option Family) → ((C : Family) → Grows d N (f C) (g C)) → Grows d N (entered f o) (entered g o)
    entered_grows N f g None h = nothing_grows d N
    entered_grows N f g (Some C) h = h C

    within_grows : (N : ℕ) (f g : Family → Rest) → ((C : Family) → Grows d N (f C) (g C)) → Grows d N (within goal sets f) (within goal sets g)
    unfolding within
    within_grows N f g h P b n m i e = entered_grows N f g (sets P b) h P b n m i e

    whole_grows : (N : ℕ) → Grows d N (whole_leaf goal sets) (whole_leaf goal sets)
    whole_grows N =
        let next : Family → Rest = λ C P b n. record { marks = solution (values_of C) ∷ []; best = best_after goal (values_of C) b; left = n; is_cut = false } in
        within_grows N next next (λ C P b n m i e. record { counted = omega arith; alike = λ c. rw e refl; rest = []; joins = refl })

    inner_grows : (N : ℕ) → Grows d N (inner_leaf goal sets) (inner_leaf goal sets)
    inner_grows N =
        let next : Family → Rest = λ C P b n. record { marks = leaf P ∷ []; best = b; left = n; is_cut = false } in
        within_grows N next next (λ C P b n m i e. record { counted = omega arith; alike = λ c. rw e refl; rest = []; joins = refl })

    labels_grow : (N : ℕ) (k l : Rest) (x : ℕ) (vs : List ℤ) → Grows d N k l → AllEnter d N (by_value x (λ v P. k (P ++ is_value x v ∷ [])) vs) (by_value x (λ v P. l (P ++ is_value x v ∷ [])) vs)
    labels_grow N k l x [] g = tt
    labels_grow N k l x (v ∷ vs) g = ((refl, posted_grows N k l (is_value x v) g), labels_grow N k l x vs g)

    label_extends : (xs : List ℕ) → Extends (label goal sets xs)
    label_extends [] N k l g = within_grows N (λ C. k) (λ C. l) (λ C. g)
    label_extends (x ∷ xs) N k l g =
        let h = label_extends xs N k l g in
        within_grows N
        (λ C. cond (is_single C x) (label goal sets xs k) (alternatives (by_value x (λ v P. label goal sets xs k (P ++ is_value x v ∷ [])) (set_of C x))))
        (λ C. cond (is_single C x) (label goal sets xs l) (alternatives (by_value x (λ v P. label goal sets xs l (P ++ is_value x v ∷ [])) (set_of C x))))
        (λ C. cond_grows N (is_single C x) (label goal sets xs k) (label goal sets xs l)
        (alternatives (by_value x (λ v P. label goal sets xs k (P ++ is_value x v ∷ [])) (set_of C x)))
        (alternatives (by_value x (λ v P. label goal sets xs l (P ++ is_value x v ∷ [])) (set_of C x)))
        h
        (entered_within N (by_value x (λ v P. label goal sets xs k (P ++ is_value x v ∷ [])) (set_of C x)) (by_value x (λ v P. label goal sets xs l (P ++ is_value x v ∷ [])) (set_of C x))
        (labels_grow N (label goal sets xs k) (label goal sets xs l) x (set_of C x) h)))

    -- both orders of a pair
    abbrev both : Rest → ℕ × ℕ → List Rest
    both k p = (λ P. k (P ++ precedes p.0 p.1 ∷ [])) ∷ (λ P. k (P ++ precedes p.1 p.0 ∷ [])) ∷ []

    abbrev ranked : Rest → ℕ × ℕ → Family → Rest
    ranked k p C = cond (is_decided C (precedes p.0 p.1)) k (cond (is_decided C (precedes p.1 p.0)) k (alternatives (unlabelled (both k p))))

    ranked_grows : (N : ℕ) (k l : Rest) (p : ℕ × ℕ) (C : Family) → Grows d N k l → Grows d N (ranked k p C) (ranked l p C)
    ranked_grows N k l p C g =
        cond_grows N (is_decided C (precedes p.0 p.1)) k l
        (cond (is_decided C (precedes p.1 p.0)) k (alternatives (unlabelled (both k p)))) (cond (is_decided C (precedes p.1 p.0)) l (alternatives (unlabelled (both l p))))
        g
        (cond_grows N (is_decided C (precedes p.1 p.0)) k l (alternatives (unlabelled (both k p))) (alternatives (unlabelled (both l p))) g
        (alternatives_within N (both k p) (both l p) (posted_grows N k l (precedes p.0 p.1) g, (posted_grows N k l (precedes p.1 p.0) g, tt))))

    rank_extends : (ps : List (ℕ × ℕ)) → Extends (rank_pairs goal sets ps)
    rank_extends [] N k l g = within_grows N (λ C. k) (λ C. l) (λ C. g)
    rank_extends (p ∷ ps) N k l g =
        within_grows N (ranked (rank_pairs goal sets ps k) p) (ranked (rank_pairs goal sets ps l) p)
        (λ C. ranked_grows N (rank_pairs goal sets ps k) (rank_pairs goal sets ps l) p C (rank_extends ps N k l g))

    visit_extends : (n : ℕ) (list : List (Arm (Rest → Rest))) → AllExtend list → Extends (visit goal sets n list)
    visit_extends zero list h N k l g = within_grows N (λ C. k) (λ C. l) (λ C. g)
    visit_extends (suc n) [] h N k l g = within_grows N (λ C. k) (λ C. l) (λ C. g)
    visit_extends (suc n) (a ∷ others) h N k l g =
        within_grows N
        (λ C. (pick C a others).arm.body (visit goal sets n (pick C a others).others k))
        (λ C. (pick C a others).arm.body (visit goal sets n (pick C a others).others l))
        (λ C. let r = pick_extends C a others h.0 h.1 in
        r.0 N (visit goal sets n (pick C a others).others k) (visit goal sets n (pick C a others).others l) (visit_extends n (pick C a others).others r.1 N k l g))

    -- with no choice there is no turn
    no_turn : (k l : Rest) → Grows d zero (alternatives (unlabelled (k ∷ []))) l
    no_turn k l P b zero m i e = stopped_agrees d b (l P b m)
    no_turn k l P b (suc n) m i e = absurd (omega arith)

    spent_grows : (l : Rest) → Grows d zero spent l
    spent_grows l P b zero m i e = stopped_agrees d b (l P b m)
    spent_grows l P b (suc n) m i e = absurd (omega arith)

    abbrev turn : Rest → List Alternative
    turn k = unlabelled (k ∷ [])

    loop_grows : (u w N : ℕ) (c : Fact) (body : Rest → Rest) (k l : Rest) → N ≤ u → N + d ≤ w → Extends body → Grows d N k l → Grows d N (loop goal sets u c body k) (loop goal sets w c body l)
    loop_grows zero zero zero c body k l i j h g =
        within_grows zero (λ C. cond (is_met C c) spent k) (λ C. cond (is_met C c) spent l) (λ C. cond_grows zero (is_met C c) spent spent k l (spent_grows spent) g)
    loop_grows zero (suc w) zero c body k l i j h g =
        within_grows zero (λ C. cond (is_met C c) spent k) (λ C. cond (is_met C c) (alternatives (turn (body (loop goal sets w c body l)))) l)
        (λ C. cond_grows zero (is_met C c) spent (alternatives (turn (body (loop goal sets w c body l)))) k l (spent_grows (alternatives (turn (body (loop goal sets w c body l))))) g)
    loop_grows zero w (suc N) c body k l i j h g = absurd (omega arith)
    loop_grows (suc u) zero zero c body k l i j h g =
        within_grows zero (λ C. cond (is_met C c) (alternatives (turn (body (loop goal sets u c body k)))) k) (λ C. cond (is_met C c) spent l)
        (λ C. cond_grows zero (is_met C c) (alternatives (turn (body (loop goal sets u c body k)))) spent k l (no_turn (body (loop goal sets u c body k)) spent) g)
    loop_grows (suc u) (suc w) zero c body k l i j h g =
        within_grows zero (λ C. cond (is_met C c) (alternatives (turn (body (loop goal sets u c body k)))) k) (λ C. cond (is_met C c) (alternatives (turn (body (loop goal sets w c body l)))) l)
        (λ C. cond_grows zero (is_met C c) (alternatives (turn (body (loop goal sets u c body k)))) (alternatives (turn (body (loop goal sets w c body l)))) k l
        (no_turn (body (loop goal sets u c body k)) (alternatives (turn (body (loop goal sets w c body l))))) g)
    loop_grows (suc u) zero (suc N) c body k l i j h g = absurd (omega arith)
    loop_grows (suc u) (suc w) (suc N) c body k l i j h g =
        within_grows (suc N) (λ C. cond (is_met C c) (alternatives (turn (body (loop goal sets u c body k)))) k) (λ C. cond (is_met C c) (alternatives (turn (body (loop goal sets w c body l)))) l)
        (λ C. cond_grows (suc N) (is_met C c) (alternatives (turn (body (loop goal sets u c body k)))) (alternatives (turn (body (loop goal sets w c body l)))) k l
        (alternatives_grow d N (turn (body (loop goal sets u c body k))) (turn (body (loop goal sets w c body l)))
        ((refl, h N (loop goal sets u c body k) (loop goal sets w c body l) (loop_grows u w N c body k l (omega arith) (omega arith) h (grows_less d N (suc N) k l (omega arith) g))), tt))
        g)

    -- ---- statements

    mutual
      perform_extends : (s : Statement) → Extends (perform goal sets s)
      perform_extends (post c) N k l g =
          within_grows N (λ C P. k (P ++ answered C c ∷ [])) (λ C P. l (P ++ answered C c ∷ [])) (λ C. posted_grows N k l (answered C c) g)
      perform_extends (block ss) N k l g =
          within_grows N (λ C. perform_all goal sets ss k) (λ C. perform_all goal sets ss l) (λ C. all_extend ss N k l g)
      perform_extends (try ss) N k l g =
          within_grows N (λ C. alternatives (unlabelled (performed goal sets ss k))) (λ C. alternatives (unlabelled (performed goal sets ss l)))
          (λ C. alternatives_within N (performed goal sets ss k) (performed goal sets ss l) (each_extends ss N k l g))
      perform_extends (try_all bs) N k l g =
          within_grows N
          (λ C. let ready = taken C (arms goal sets bs) in alternatives (unlabelled (map (λ a. a.body k) (ordered C (length ready) ready))))
          (λ C. let ready = taken C (arms goal sets bs) in alternatives (unlabelled (map (λ a. a.body l) (ordered C (length ready) ready))))
          (λ C. let ready = taken C (arms goal sets bs) in
          alternatives_within N (map (λ a. a.body k) (ordered C (length ready) ready)) (map (λ a. a.body l) (ordered C (length ready) ready))
          (bodies_grow N k l (ordered C (length ready) ready) g (ordered_extend C (length ready) ready (taken_extend C (arms goal sets bs) (arms_extend bs)))))
      perform_extends (for_all bs) N k l g =
          within_grows N
          (λ C. let ready = taken C (arms goal sets bs) in visit goal sets (length ready) ready k)
          (λ C. let ready = taken C (arms goal sets bs) in visit goal sets (length ready) ready l)
          (λ C. let ready = taken C (arms goal sets bs) in visit_extends (length ready) ready (taken_extend C (arms goal sets bs) (arms_extend bs)) N k l g)
      perform_extends (select bs) N k l g =
          within_grows N (λ C. selected C (taken C (arms goal sets bs)) k) (λ C. selected C (taken C (arms goal sets bs)) l)
          (λ C. selected_grows N k l C (taken C (arms goal sets bs)) g (taken_extend C (arms goal sets bs) (arms_extend bs)))
      perform_extends (once s) N k l g =
          within_grows N
          (λ C P b n. let o = perform goal sets s (inner_leaf goal sets) P b n in committed k o b n (first_leaf o.marks))
          (λ C P b n. let o = perform goal sets s (inner_leaf goal sets) P b n in committed l o b n (first_leaf o.marks))
          (λ C P b n m i e.
          committed_agrees d N n m k l (perform goal sets s (inner_leaf goal sets) P b n) (perform goal sets s (inner_leaf goal sets) P b m) b
          (perform_extends s N (inner_leaf goal sets) (inner_leaf goal sets) (inner_grows N) P b n m i e) g i e)
      perform_extends (while c s) N k l g = λ P b n m i e.
          loop_grows n m n c (perform goal sets s) k l (omega arith) (omega arith) (perform_extends s) (grows_less d n N k l i g) P b n m (omega arith) e
      perform_extends (decide c s t) N k l g =
          within_grows N (λ C. cond (is_met C c) (perform goal sets s k) (perform goal sets t k)) (λ C. cond (is_met C c) (perform goal sets s l) (perform goal sets t l))
          (λ C. cond_grows N (is_met C c) (perform goal sets s k) (perform goal sets s l) (perform goal sets t k) (perform goal sets t l) (perform_extends s N k l g) (perform_extends t N k l g))
      perform_extends (generate xs) N k l g = label_extends xs N k l g
      perform_extends (rank pairs) N k l g = rank_extends pairs N k l g

      all_extend : (ss : Statements) → Extends (perform_all goal sets ss)
      all_extend no_statements N k l g = g
      all_extend (more_statements s ss) N k l g = perform_extends s N (perform_all goal sets ss k) (perform_all goal sets ss l) (all_extend ss N k l g)

      each_extends : (ss : Statements) (N : ℕ) (k l : Rest) → Grows d N k l → AllGrow d N (performed goal sets ss k) (performed goal sets ss l)
      each_extends no_statements N k l g = tt
      each_extends (more_statements s ss) N k l g = (perform_extends s N k l g, each_extends ss N k l g)

      arm_extends : (b : Branch) → Extends (arm_of goal sets b).body
      arm_extends (branch c key rising s) = perform_extends s

      arms_extend : (bs : Branches) → AllExtend (arms goal sets bs)
      arms_extend no_branches = tt
      arms_extend (more_branches b bs) = (arm_extends b, arms_extend bs)

    -- ---- the whole

    labelled_grows : (n N : ℕ) → Grows d N (labelled goal sets n) (labelled goal sets n)
    labelled_grows n N = label_extends (numbers_from zero n) N (whole_leaf goal sets) (whole_leaf goal sets) (whole_grows N)

    pub searched_grows : (n : ℕ) (section : Option Statement) (N : ℕ) → Grows d N (searched goal sets n section) (searched goal sets n section)
    searched_grows n None N = labelled_grows n N
    searched_grows n (Some s) N = perform_extends s N (labelled goal sets n) (labelled goal sets n) (labelled_grows n N)
