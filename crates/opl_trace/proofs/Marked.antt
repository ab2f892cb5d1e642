-- Each Solution mark of a search is a solution, also where the search ends with a Cut.
use Rattle.std.proofs.Common.{◌≡◌, ◌∙◌, ℕ, zero, suc, ◌+◌, ◌-◌, ◌<◌, Bool, true, false, cond, refl, List, [], ◌∷◌, ◌++◌, map, length, ℤ, inl, inr, ap, sym, subst, arith, append-nil, append_assoc, get_or}
use Rattle.std.specs.Prelude.{Option, Some, None}
use Rattle.std.specs.List.{All, list_any}
use Rattle.std.proofs.lemmas.Bool.{and_from, cases_order}
use Rattle.std.proofs.lemmas.List.Elements.{All-nil, All-cons}
use Rattle.opl_domain.specs.Family.{member, Family, IsRising, set_of, has, Below}
use Rattle.opl_domain.proofs.Members.{member_first}
use Rattle.opl_expr.specs.Forms.{Fact}
use Rattle.opl_expr.specs.Holds.{value}
use Rattle.opl_expr.specs.Range.{is_refuted}
use Rattle.opl_expr.specs.Laws.{singles}
use Rattle.opl_expr.specs.Solutions.{base, declared, is_among, is_solution}
use Rattle.opl_trace.specs.Answers.{is_single, answered, is_met, is_decided, key_value, is_value, precedes}
use Rattle.opl_trace.specs.Elements.{Arm, Picked, comes_first, picked_of, pick, ordered, taken}
use Rattle.opl_trace.specs.Objective.{Objective, bound, best_after, Tighter}
use Rattle.opl_trace.specs.Solutions.{satisfies}
use Rattle.opl_trace.specs.Statements.{Statement, Statements, Branch, Branches}
use Rattle.opl_trace.specs.Statements.Statement.{post, block, try, try_all, for_all, select, once, while, decide, generate, rank}
use Rattle.opl_trace.specs.Statements.Statements.{no_statements, more_statements}
use Rattle.opl_trace.specs.Statements.Branch.{branch}
use Rattle.opl_trace.specs.Statements.Branches.{no_branches, more_branches}
use Rattle.opl_trace.specs.Run.{Mark, Out, Rest, marks_of, spent, marked, behind, after, Alternative, unlabelled, by_value, alternatives, choices, Left, left_with, first_leaf, committed, selected, values_of, is_dead, closed, entered, within, whole_leaf, inner_leaf, label, rank_pairs, visit, loop, perform, perform_all, performed, arm_of, arms}
use Rattle.opl_trace.specs.Run.Mark.{choice, leaf, solution, cut}
use Rattle.opl_trace.specs.Marks.{numbers_from, labelled, searched, trace, objective, section, core_marks, solved}
use Rattle.opl_trace.specs.SearchLaws.{clear_all, IsWider}
use Rattle.opl_trace.specs.GroundLaws.{MarksAreSolutions}
use Rattle.opl_trace.proofs.Passing.{false_unless, any_left, any_right}
use Rattle.opl_trace.proofs.Families.{below_self}
use Rattle.opl_trace.proofs.Constraints.{spared_satisfied}
use Rattle.opl_trace.proofs.Posting.{closed_stable, posting_narrows, posted_is_single}
use Rattle.opl_trace.proofs.Better.{closed_tighter, tighter_self, tighter_join, better_tighter}
use Rattle.opl_trace.proofs.Found.{IsPartOf, PartOrNone, closure_part, part_rises, IsOne, one_set, all_single, one_from_single, same_sets, some_same}
use Rattle.opl_trace.proofs.Improving.{clear_better, holds_better}
use Rattle.opl_trace.proofs.Reached.{ClearGoal, goal_clear, base_clear, declared_rise}

-- ---- best values that are at least as good

abbrev Nearer : Option Objective → Option ℤ → Option ℤ → Type 0
Nearer None b c = Unit {0}
Nearer (Some g) b c = Tighter g b c

nearer_self : (goal : Option Objective) (b : Option ℤ) → Nearer goal b b
nearer_self None b = tt
nearer_self (Some g) b = tighter_self g b

nearer_join : (goal : Option Objective) (b c d : Option ℤ) → Nearer goal b c → Nearer goal c d → Nearer goal b d
nearer_join None b c d h k = tt
nearer_join (Some g) b c d h k = tighter_join g b c d h k

nearer_wider : (goal : Option Objective) (D : Family) (P : List Fact) (b c : Option ℤ) (C : Family) → Nearer goal b c → closed goal D P c ≡ Some C → IsWider (closed goal D P b) C
nearer_wider None D P b c C l e = record { family = C; is = same_sets D P b c ∙ e; above = below_self C }
nearer_wider (Some g) D P b c C l e = closed_tighter g D P b c C l e

-- ---- assignments of the closure

below_among : (a : List ℤ) (D : Family) → Below (singles a) D → is_among a D ≡ true
unfolding set_of
below_among [] [] b = refl
below_among [] (vs ∷ D) b = absurd (omega (arith, b.same))
below_among (v ∷ a) [] b = absurd (omega (arith, b.same))
below_among (v ∷ a) (vs ∷ D) b = and_from (member v vs) (is_among a D) (b.sub zero v (member_first v [])) (below_among a D (record { sub = λ x w m. b.sub (suc x) w m; same = omega (arith, b.same) }))

closed_part : (goal : Option Objective) (D : Family) (P : List Fact) (b : Option ℤ) (C : Family) → closed goal D P b ≡ Some C → IsPartOf D C
unfolding closed
closed_part goal D P b C e = subst (λ o. PartOrNone D o) e (closure_part (is_dead goal P b) D)

clear_best : (goal : Option Objective) (b : Option ℤ) → ClearGoal goal → clear_all (bound goal b) ≡ true
clear_best None b t = refl
clear_best (Some g) None t = refl
clear_best (Some g) (Some i) t = clear_better g.is_most g.term i t

best_nearer : (goal : Option Objective) (b : Option ℤ) (a : List ℤ) → satisfies (bound goal b) a ≡ true → Nearer goal b (best_after goal a b)
best_nearer None b a s = tt
best_nearer (Some g) None a s = tt
best_nearer (Some g) (Some i) a s = better_tighter g (value a g.term) (Some i) (sym (holds_better g.is_most g.term i a) ∙ s)

none_first : (F : Family) (P Q : List Fact) → list_any (is_refuted F) (P ++ Q) ≡ false → list_any (is_refuted F) P ≡ false
none_first F P Q h = false_unless (list_any (is_refuted F) P) (λ e. let k = any_left (is_refuted F) P Q e in cc)

none_last : (F : Family) (P Q : List Fact) → list_any (is_refuted F) (P ++ Q) ≡ false → list_any (is_refuted F) Q ≡ false
none_last F P Q h = false_unless (list_any (is_refuted F) Q) (λ e. let k = any_right (is_refuted F) P Q e in cc)

spared_list : (goal : Option Objective) (P : List Fact) (b : Option ℤ) (F : Family) → is_dead goal P b F ≡ false → list_any (is_refuted F) (P ++ bound goal b) ≡ false
unfolding is_dead
spared_list goal P b F h = h

module _ (goal : Option Objective) (D : Family) (B : List Fact) (t : ClearGoal goal) (h : clear_all B ≡ true) (rise : (y : ℕ) → IsRising (set_of D y)) where
  -- an assignment of the declared sets on which the first constraints hold
  abbrev IsMember : List ℤ → Type 0
  IsMember a = (is_among a D ≡ true) × (satisfies B a ≡ true)

  -- the first constraints, and more
  record IsMore (P : List Fact) : Type 0 where
    pub others : List Fact
    pub joins : P ≡ B ++ others

  abbrev IsGoodMark : Mark → Type 0
  IsGoodMark (choice l) = Unit {0}
  IsGoodMark (leaf P) = IsMore P
  IsGoodMark (solution a) = IsMember a
  IsGoodMark cut = Unit {0}

  abbrev AreGood : List Mark → Type 0
  AreGood [] = Unit {0}
  AreGood (m ∷ ms) = IsGoodMark m × AreGood ms

  record IsGood (b : Option ℤ) (o : Out) : Type 0 where
    pub marks : AreGood o.marks
    pub best : Nearer goal b o.best

  -- what follows is good, whatever more is posted
  abbrev IsSafe : Rest → Type 0
  IsSafe K = (P : List Fact) → IsMore P → (b : Option ℤ) (n : ℕ) → IsGood b (K P b n)

  more_posted : (P : List Fact) (c : Fact) → IsMore P → IsMore (P ++ c ∷ [])
  more_posted P c m = record { others = m.others ++ c ∷ []; joins = ap (λ Q. Q ++ c ∷ []) m.joins ∙ append_assoc B m.others (c ∷ []) }

  good-append : (ms ns : List Mark) → AreGood ms → AreGood ns → AreGood (ms ++ ns)
  good-append [] ns g k = k
  good-append (m ∷ ms) ns g k = (g.0, good-append ms ns g.1 k)

  no_marks : (b : Option ℤ) (n : ℕ) (c : Bool) → IsGood b (record { marks = []; best = b; left = n; is_cut = c })
  no_marks b n c = record { marks = tt; best = nearer_self goal b }

  after_good : (b : Option ℤ) (o : Out) (f : Option ℤ → ℕ → Out) → IsGood b o → ((n : ℕ) → IsGood o.best (f o.best n)) → IsGood b (after o f)
  after_good b o f g k = elim (o.is_cut) as (λ c. IsGood b (cond c o (behind o.marks (f o.best o.left)))) [
    | true ↦ g
    | false ↦ record { marks = good-append o.marks (f o.best o.left).marks g.marks (k o.left).marks; best = nearer_join goal b o.best (f o.best o.left).best g.best (k o.left).best }
  ]

  choice_good : (b : Option ℤ) (l : Option (ℕ × ℤ)) (o : Out) → IsGood b o → IsGood b (marked (choice l) o)
  choice_good b l o g = record { marks = (tt, g.marks); best = g.best }

  within_good : (next : Family → Rest) (P : List Fact) (b : Option ℤ) (n : ℕ) → ((C : Family) → closed goal D P b ≡ Some C → IsGood b (next C P b n)) → IsGood b (within goal (closed goal D) next P b n)
  unfolding within
  within_good next P b n k =
      elim (closed goal D P b) as (λ o. closed goal D P b ≡ o → IsGood b (entered next o P b n)) [
        | None ↦ λ e. no_marks b n false
        | Some C ↦ λ e. k C e
      ] refl

  within_safe : (next : Family → Rest) → ((C : Family) → IsSafe (next C)) → IsSafe (within goal (closed goal D) next)
  within_safe next k P m b n = within_good next P b n (λ C e. k C P m b n)

  abbrev AllSafe : List Alternative → Type 0
  AllSafe [] = Unit {0}
  AllSafe (a ∷ others) = IsSafe a.rest × AllSafe others

  alternatives_safe : (ks : List Alternative) → AllSafe ks → IsSafe (alternatives ks)
  alternatives_safe [] k P m b n = no_marks b n false
  alternatives_safe (a ∷ others) k P m b zero = no_marks b zero true
  alternatives_safe (a ∷ others) k P m b (suc n) =
      after_good b (marked (choice a.label) (a.rest P b n)) (alternatives others P) (choice_good b a.label (a.rest P b n) (k.0 P m b n)) (λ j. alternatives_safe others k.1 P m (a.rest P b n).best j)

  cond_safe : (c : Bool) (k l : Rest) → IsSafe k → IsSafe l → IsSafe (cond c k l)
  cond_safe true k l f g = f
  cond_safe false k l f g = g

  posted_safe : (c : Fact) (K : Rest) → IsSafe K → IsSafe (λ P. K (P ++ c ∷ []))
  posted_safe c K k P m b n = k (P ++ c ∷ []) (more_posted P c m) b n

  values_safe : (x : ℕ) (K : Rest) (vs : List ℤ) → IsSafe K → AllSafe (by_value x (λ v P. K (P ++ is_value x v ∷ [])) vs)
  values_safe x K [] k = tt
  values_safe x K (v ∷ vs) k = (posted_safe (is_value x v) K k, values_safe x K vs k)

  label_safe : (xs : List ℕ) (K : Rest) → IsSafe K → IsSafe (label goal (closed goal D) xs K)
  label_safe [] K k = within_safe (λ C. K) (λ C. k)
  label_safe (x ∷ xs) K k =
      let L = label goal (closed goal D) xs K in
      let i = label_safe xs K k in
      within_safe (λ C. cond (is_single C x) L (alternatives (by_value x (λ v P. L (P ++ is_value x v ∷ [])) (set_of C x))))
      (λ C. cond_safe (is_single C x) L (alternatives (by_value x (λ v P. L (P ++ is_value x v ∷ [])) (set_of C x))) i
      (alternatives_safe (by_value x (λ v P. L (P ++ is_value x v ∷ [])) (set_of C x)) (values_safe x L (set_of C x) i)))

  rank_safe : (ps : List (ℕ × ℕ)) (K : Rest) → IsSafe K → IsSafe (rank_pairs goal (closed goal D) ps K)
  rank_safe [] K k = within_safe (λ C. K) (λ C. k)
  rank_safe (p ∷ ps) K k =
      let L = rank_pairs goal (closed goal D) ps K in
      let i = rank_safe ps K k in
      let both = unlabelled ((λ P. L (P ++ precedes p.0 p.1 ∷ [])) ∷ (λ P. L (P ++ precedes p.1 p.0 ∷ [])) ∷ []) in
      within_safe (λ C. cond (is_decided C (precedes p.0 p.1)) L (cond (is_decided C (precedes p.1 p.0)) L (alternatives both)))
      (λ C. cond_safe (is_decided C (precedes p.0 p.1)) L (cond (is_decided C (precedes p.1 p.0)) L (alternatives both)) i
      (cond_safe (is_decided C (precedes p.1 p.0)) L (alternatives both) i
      (alternatives_safe both (posted_safe (precedes p.0 p.1) L i, (posted_safe (precedes p.1 p.0) L i, tt)))))

  -- ---- once

  abbrev IsGoodLeft : Option Left → Type 0
  IsGoodLeft None = Unit {0}
  IsGoodLeft (Some l) = AreGood l.before × IsMore l.posted

  left_good : (m : Mark) (o : Option Left) → IsGoodMark m → IsGoodLeft o → IsGoodLeft (left_with m o)
  left_good m None g k = tt
  left_good m (Some l) g k = ((g, k.0), k.1)

  first_good : (ms : List Mark) → AreGood ms → IsGoodLeft (first_leaf ms)
  first_good [] g = tt
  first_good (choice l ∷ ms) g = left_good (choice l) (first_leaf ms) g.0 (first_good ms g.1)
  first_good (leaf P ∷ ms) g = (tt, g.0)
  first_good (solution a ∷ ms) g = left_good (solution a) (first_leaf ms) g.0 (first_good ms g.1)
  first_good (cut ∷ ms) g = left_good cut (first_leaf ms) g.0 (first_good ms g.1)

  committed_good : (next : Rest) (o : Out) (b : Option ℤ) (n : ℕ) (l : Option Left) → IsSafe next → IsGood b o → IsGoodLeft l → IsGood b (committed next o b n l)
  committed_good next o b n None k g i = g
  committed_good next o b n (Some l) k g i =
      let r = k l.posted i.1 b (n - choices l.before) in
      record { marks = good-append l.before (next l.posted b (n - choices l.before)).marks i.0 r.marks; best = r.best }

  inner_safe : IsSafe (inner_leaf goal (closed goal D))
  inner_safe = within_safe (λ C P b n. record { marks = leaf P ∷ []; best = b; left = n; is_cut = false }) (λ C P m b n. record { marks = (m, tt); best = nearer_self goal b })

  -- ---- elements

  abbrev Keeps : (Rest → Rest) → Type 0
  Keeps body = (K : Rest) → IsSafe K → IsSafe (body K)

  abbrev AllKeep : List (Arm (Rest → Rest)) → Type 0
  AllKeep [] = Unit {0}
  AllKeep (a ∷ others) = Keeps a.body × AllKeep others

  picked_keeps : (F : Family) (a : Arm (Rest → Rest)) (others : List (Arm (Rest → Rest))) (p : Picked (Rest → Rest)) → Keeps a.body → AllKeep others → Keeps p.arm.body → AllKeep p.others → Keeps (picked_of F a others p).arm.body × AllKeep (picked_of F a others p).others
  picked_keeps F a others p f k i j =
      elim (comes_first a.rising (key_value F p.arm.key) (key_value F a.key)) as (λ b. let q : Picked (Rest → Rest) = cond b (record { arm = p.arm; others = a ∷ p.others }) (record { arm = a; others = others }) in Keeps q.arm.body × AllKeep q.others) [
        | true ↦ (i, (f, j))
        | false ↦ (f, k)
      ]

  pick_keeps : (F : Family) (a : Arm (Rest → Rest)) (others : List (Arm (Rest → Rest))) → Keeps a.body → AllKeep others → Keeps (pick F a others).arm.body × AllKeep (pick F a others).others
  pick_keeps F a [] f i = (f, tt)
  pick_keeps F a (b ∷ others) f i = let r = pick_keeps F b others i.0 i.1 in picked_keeps F a (b ∷ others) (pick F b others) f i r.0 r.1

  ordered_keep : (F : Family) (n : ℕ) (list : List (Arm (Rest → Rest))) → AllKeep list → AllKeep (ordered F n list)
  ordered_keep F zero list k = tt
  ordered_keep F (suc n) [] k = tt
  ordered_keep F (suc n) (a ∷ others) k = let r = pick_keeps F a others k.0 k.1 in (r.0, ordered_keep F n (pick F a others).others r.1)

  taken_keep : (F : Family) (list : List (Arm (Rest → Rest))) → AllKeep list → AllKeep (taken F list)
  taken_keep F [] k = tt
  taken_keep F (a ∷ others) k = elim (is_met F a.when) as (λ b. AllKeep (cond b (a ∷ taken F others) (taken F others))) [
    | true ↦ (k.0, taken_keep F others k.1)
    | false ↦ taken_keep F others k.1
  ]

  bodies_safe : (K : Rest) (list : List (Arm (Rest → Rest))) → IsSafe K → AllKeep list → AllSafe (unlabelled (map (λ a. a.body K) list))
  bodies_safe K [] k i = tt
  bodies_safe K (a ∷ others) k i = (i.0 K k, bodies_safe K others k i.1)

  selected_safe : (F : Family) (list : List (Arm (Rest → Rest))) (K : Rest) → IsSafe K → AllKeep list → IsSafe (selected F list K)
  selected_safe F [] K k i = λ P m b n. no_marks b n false
  selected_safe F (a ∷ others) K k i = (pick_keeps F a others i.0 i.1).0 K k

  visit_safe : (n : ℕ) (list : List (Arm (Rest → Rest))) → AllKeep list → (K : Rest) → IsSafe K → IsSafe (visit goal (closed goal D) n list K)
  visit_safe zero list i K k = within_safe (λ C. K) (λ C. k)
  visit_safe (suc n) [] i K k = within_safe (λ C. K) (λ C. k)
  visit_safe (suc n) (a ∷ others) i K k =
      within_safe (λ C. (pick C a others).arm.body (visit goal (closed goal D) n (pick C a others).others K))
      (λ C. let r = pick_keeps C a others i.0 i.1 in r.0 (visit goal (closed goal D) n (pick C a others).others K) (visit_safe n (pick C a others).others r.1 K k))

  spent_safe : IsSafe spent
  spent_safe P m b n = no_marks b zero true

  loop_safe : (u : ℕ) (c : Fact) (body : Rest → Rest) (K : Rest) → Keeps body → IsSafe K → IsSafe (loop goal (closed goal D) u c body K)
  loop_safe zero c body K f k = within_safe (λ C. cond (is_met C c) spent K) (λ C. cond_safe (is_met C c) spent K spent_safe k)
  loop_safe (suc u) c body K f k =
      let turn = unlabelled (body (loop goal (closed goal D) u c body K) ∷ []) in
      within_safe (λ C. cond (is_met C c) (alternatives turn) K)
      (λ C. cond_safe (is_met C c) (alternatives turn) K (alternatives_safe turn (f (loop goal (closed goal D) u c body K) (loop_safe u c body K f k), tt)) k)

  -- ---- statements

  mutual
    perform_safe : (s : Statement) → Keeps (perform goal (closed goal D) s)
    perform_safe (post c) K k = within_safe (λ C P. K (P ++ answered C c ∷ [])) (λ C. posted_safe (answered C c) K k)
    perform_safe (block ss) K k = within_safe (λ C. perform_all goal (closed goal D) ss K) (λ C. all_safe ss K k)
    perform_safe (try ss) K k = within_safe (λ C. alternatives (unlabelled (performed goal (closed goal D) ss K))) (λ C. alternatives_safe (unlabelled (performed goal (closed goal D) ss K)) (each_safe ss K k))
    perform_safe (try_all bs) K k =
        within_safe (λ C. let ready = taken C (arms goal (closed goal D) bs) in alternatives (unlabelled (map (λ a. a.body K) (ordered C (length ready) ready))))
        (λ C. let ready = taken C (arms goal (closed goal D) bs) in
        alternatives_safe (unlabelled (map (λ a. a.body K) (ordered C (length ready) ready)))
        (bodies_safe K (ordered C (length ready) ready) k (ordered_keep C (length ready) ready (taken_keep C (arms goal (closed goal D) bs) (arms_safe bs)))))
    perform_safe (for_all bs) K k =
        within_safe (λ C. let ready = taken C (arms goal (closed goal D) bs) in visit goal (closed goal D) (length ready) ready K)
        (λ C. let ready = taken C (arms goal (closed goal D) bs) in visit_safe (length ready) ready (taken_keep C (arms goal (closed goal D) bs) (arms_safe bs)) K k)
    perform_safe (select bs) K k =
        within_safe (λ C. selected C (taken C (arms goal (closed goal D) bs)) K)
        (λ C. selected_safe C (taken C (arms goal (closed goal D) bs)) K k (taken_keep C (arms goal (closed goal D) bs) (arms_safe bs)))
    perform_safe (once s) K k =
        let inner = perform goal (closed goal D) s (inner_leaf goal (closed goal D)) in
        within_safe (λ C P b n. let o = inner P b n in committed K o b n (first_leaf o.marks))
        (λ C P m b n.
        let g = perform_safe s (inner_leaf goal (closed goal D)) inner_safe P m b n in
        committed_good K (inner P b n) b n (first_leaf (inner P b n).marks) k g (first_good (inner P b n).marks g.marks))
    perform_safe (while c s) K k = λ P m b n. loop_safe n c (perform goal (closed goal D) s) K (perform_safe s) k P m b n
    perform_safe (decide c s r) K k =
        within_safe (λ C. cond (is_met C c) (perform goal (closed goal D) s K) (perform goal (closed goal D) r K))
        (λ C. cond_safe (is_met C c) (perform goal (closed goal D) s K) (perform goal (closed goal D) r K) (perform_safe s K k) (perform_safe r K k))
    perform_safe (generate xs) K k = label_safe xs K k
    perform_safe (rank ps) K k = rank_safe ps K k

    all_safe : (ss : Statements) → Keeps (perform_all goal (closed goal D) ss)
    all_safe no_statements K k = k
    all_safe (more_statements s ss) K k = perform_safe s (perform_all goal (closed goal D) ss K) (all_safe ss K k)

    each_safe : (ss : Statements) (K : Rest) → IsSafe K → AllSafe (unlabelled (performed goal (closed goal D) ss K))
    each_safe no_statements K k = tt
    each_safe (more_statements s ss) K k = (perform_safe s K k, each_safe ss K k)

    arm_safe : (b : Branch) → Keeps (arm_of goal (closed goal D) b).body
    arm_safe (branch c key rising s) K k = perform_safe s K k

    arms_safe : (bs : Branches) → AllKeep (arms goal (closed goal D) bs)
    arms_safe no_branches = tt
    arms_safe (more_branches b bs) = (arm_safe b, arms_safe bs)

  -- ---- labelling at the end

  -- the variables before x have one value each, now and with each better value
  abbrev AreOne : List Fact → ℕ → Option ℤ → Type 0
  AreOne P x b = (c : Option ℤ) → Nearer goal b c → (C : Family) → closed goal D P c ≡ Some C → (y : ℕ) → y < x → IsOne C y

  ones_further : (P : List Fact) (b : Option ℤ) (x : ℕ) (C : Family) → AreOne P x b → closed goal D P b ≡ Some C → IsOne C x → AreOne P (suc x) b
  ones_further P b x C o e i c l C' e' y k = elim (cases_order y x) [
    | inl s ↦
        let q = nearer_wider goal D P b c C' l e' in
        let same : q.family ≡ C = some_same q.family C (sym q.is ∙ e) in
        (i.0, λ w m. i.1 w (subst (λ z. has C z w ≡ true) s (subst (λ F. has F y w ≡ true) same (q.above.sub y w m))))
    | inr d ↦ elim d [ inl j ↦ o c l C' e' y j | inr j ↦ absurd (omega arith) ]
  ]

  ones_after : (P : List Fact) (x : ℕ) (v : ℤ) (b c : Option ℤ) → AreOne P x b → Nearer goal b c → AreOne (P ++ is_value x v ∷ []) (suc x) c
  ones_after P x v b c o l c' l' C e y k = elim (cases_order y x) [
    | inl s ↦ (v, λ w m. posted_is_single goal D P c' x v w C e (subst (λ z. has C z w ≡ true) s m))
    | inr d ↦ elim d [
      | inl j ↦
          let q = posting_narrows goal D P (is_value x v ∷ []) c' C e in
          let i = o c' (nearer_join goal b c c' l l') q.family q.is y j in
          (i.0, λ w m. i.1 w (q.above.sub y w m))
      | inr j ↦ absurd (omega arith)
    ]
  ]

  leaf_good : (P : List Fact) (b : Option ℤ) (n : ℕ) (C : Family) → IsMore P → closed goal D P b ≡ Some C → ((y : ℕ) → y < length D → IsOne C y) →
      IsGood b (record { marks = solution (values_of C) ∷ []; best = best_after goal (values_of C) b; left = n; is_cut = false })
  leaf_good P b n C m e o =
      let s = closed_stable goal D P b C e in
      let p = closed_part goal D P b C e in
      let length_is = s.within.same in
      let a = values_of C in
      let single : C ≡ singles a = all_single C (λ y l. one_set C y (part_rises D C y p (rise y)) s.stable.full l (o y (omega (arith, length_is)))) in
      let spared : list_any (is_refuted (singles a)) (P ++ bound goal b) ≡ false = subst (λ F. list_any (is_refuted F) (P ++ bound goal b) ≡ false) single (spared_list goal P b C s.stable.spared) in
      let first : list_any (is_refuted (singles a)) B ≡ false = none_first (singles a) B m.others (subst (λ Q. list_any (is_refuted (singles a)) Q ≡ false) m.joins (none_first (singles a) P (bound goal b) spared)) in
      let last : satisfies (bound goal b) a ≡ true = spared_satisfied (bound goal b) a (clear_best goal b t) (none_last (singles a) P (bound goal b) spared) in
      record { marks = ((below_among a D (subst (λ F. Below F D) single s.within), spared_satisfied B a h first), tt); best = best_nearer goal b a last }

  values_good : (x : ℕ) (P : List Fact) (b : Option ℤ) (vs : List ℤ) (k : ℤ → Rest) → ((v : ℤ) (c : Option ℤ) → Nearer goal b c → (n : ℕ) → IsGood c (k v P c n)) → (c : Option ℤ) → Nearer goal b c → (n : ℕ) → IsGood c (alternatives (by_value x k vs) P c n)
  values_good x P b [] k f c l n = no_marks c n false
  values_good x P b (v ∷ vs) k f c l zero = no_marks c zero true
  values_good x P b (v ∷ vs) k f c l (suc n) =
      let g = f v c l n in
      after_good c (marked (choice (Some (x, v))) (k v P c n)) (alternatives (by_value x k vs) P) (choice_good c (Some (x, v)) (k v P c n) g)
      (λ j. values_good x P b vs k f (k v P c n).best (nearer_join goal b c (k v P c n).best l g.best) j)

  label_good : (m x : ℕ) → x + m ≡ length D → (P : List Fact) → IsMore P → (b : Option ℤ) → AreOne P x b → (n : ℕ) → IsGood b (label goal (closed goal D) (numbers_from x m) (whole_leaf goal (closed goal D)) P b n)
  label_good zero x l P i b o n =
      within_good (λ C. whole_leaf goal (closed goal D)) P b n
      (λ C e. within_good (λ C P b n. record { marks = solution (values_of C) ∷ []; best = best_after goal (values_of C) b; left = n; is_cut = false }) P b n
      (λ C' e'. leaf_good P b n C' i e' (λ y k. o b (nearer_self goal b) C' e' y (omega arith))))
  label_good (suc m) x l P i b o n =
      let L = label goal (closed goal D) (numbers_from (suc x) m) (whole_leaf goal (closed goal D)) in
      within_good (λ C. cond (is_single C x) L (alternatives (by_value x (λ v P. L (P ++ is_value x v ∷ [])) (set_of C x)))) P b n
      (λ C e.
      let s = closed_stable goal D P b C e in
      let length_is = s.within.same in
      elim (is_single C x) as (λ q. is_single C x ≡ q → IsGood b (cond q L (alternatives (by_value x (λ v P. L (P ++ is_value x v ∷ [])) (set_of C x))) P b n)) [
        | true ↦ λ q. label_good m (suc x) (omega arith) P i b (ones_further P b x C o e (one_from_single C x 0 q s.stable.full (omega (arith, length_is)))) n
        | false ↦ λ q.
            values_good x P b (set_of C x) (λ v P. L (P ++ is_value x v ∷ []))
            (λ v c k j. label_good m (suc x) (omega arith) (P ++ is_value x v ∷ []) (more_posted P (is_value x v) i) c (ones_after P x v b c o k) j) b (nearer_self goal b) n
      ] refl)

  labelled_safe : IsSafe (labelled goal (closed goal D) (length D))
  labelled_safe P i b n = label_good (length D) zero (omega arith) P i b (λ c l C e y k. absurd (omega arith)) n

  searched_good : (s : Option Statement) (n : ℕ) → IsGood None (searched goal (closed goal D) (length D) s B None n)
  searched_good None n = labelled_safe B (record { others = []; joins = sym (append-nil B) }) None n
  searched_good (Some s) n = perform_safe s (labelled goal (closed goal D) (length D)) labelled_safe B (record { others = []; joins = sym (append-nil B) }) None n

  cut_good : (c : Bool) → AreGood (cond c (cut ∷ []) [])
  cut_good true = (tt, tt)
  cut_good false = tt

  good_solved : (ms : List Mark) → AreGood ms → All IsMember (solved ms)
  good_solved [] g = All-nil IsMember
  good_solved (choice l ∷ ms) g = good_solved ms g.1
  good_solved (leaf P ∷ ms) g = good_solved ms g.1
  good_solved (solution a ∷ ms) g = All-cons IsMember a (solved ms) g.0 (good_solved ms g.1)
  good_solved (cut ∷ ms) g = good_solved ms g.1

  marks_members : (s : Option Statement) (n : ℕ) → All IsMember (solved (marks_of (trace goal D s B n)))
  unfolding trace
  marks_members s n =
      let o = searched goal (closed goal D) (length D) s B None n in
      good_solved (marks_of o) (good-append o.marks (cond o.is_cut (cut ∷ []) []) (searched_good s n).marks (cut_good o.is_cut))

all_are : {X : Type 0} (P Q : X → Type 0) → ((x : X) → P x → Q x) → (xs : List X) → All P xs → All Q xs
all_are P Q f xs h k d i = f (get_or xs k d) (h k d i)

pub marks_are_solutions : MarksAreSolutions
unfolding is_solution
marks_are_solutions core default n g =
    all_are (λ a. (is_among a (declared core) ≡ true) × (satisfies (base core) a ≡ true)) (λ a. is_solution core a ≡ true) (λ a r. and_from (is_among a (declared core)) (satisfies (base core) a) r.0 r.1)
    (solved (core_marks default core n))
    (marks_members (objective core) (declared core) (base core) (goal_clear core g.sound.goal) (base_clear core g.sound) (declared_rise core) (section default core) n)
