-- A search by a plain section finds the solutions that its paths reach.
use Rattle.std.proofs.Common.{◌≡◌, ◌∙◌, ℕ, zero, suc, Bool, true, false, cond, ◌&&◌, refl, List, [], ◌∷◌, ◌++◌, map, length, ℤ, pos, ◌+ℤ◌, neg_ℤ, ap, sym, subst, arith, append-nil, append_assoc}
use Rattle.std.specs.Prelude.{Option, Some, None}
use Rattle.std.specs.List.{filter, flat_map}
use Rattle.std.proofs.lemmas.Bool.{and_parts, and_from}
use Rattle.std.proofs.lemmas.List.Folds.{list_all-append}
use Rattle.opl_domain.specs.Span.{values, count_from}
use Rattle.opl_domain.specs.Family.{Family, IsRising, set_of}
use Rattle.opl_domain.proofs.Sets.{ints_rise}
use Rattle.opl_expr.specs.declared.model.Core.{Core}
use Rattle.opl_expr.specs.declared.search.Step.{Step}
use Rattle.opl_expr.specs.declared.tables.Table.{Table}
use Rattle.opl_expr.specs.declared.tables.Resource.{Resource}
use Rattle.opl_expr.specs.Forms.{Relation, Fact, term}
use Rattle.opl_expr.specs.Options.{lift, lift1}
use Rattle.opl_expr.specs.Holds.{value, holds, relates}
use Rattle.opl_expr.specs.Laws.{singles, clear, clear_fact}
use Rattle.opl_expr.specs.Solutions.{facts, goal_term, definedness, base, declared, is_true, is_among}
use Rattle.opl_trace.specs.ClosureLaws.{IsBelowSome}
use Rattle.opl_trace.specs.Answers.{answered, is_met, key_value}
use Rattle.opl_trace.specs.Elements.{Arm, comes_first, Picked, picked_of, pick, ordered, taken}
use Rattle.opl_trace.specs.Objective.{Objective, bound, is_better, improving}
use Rattle.opl_trace.specs.Solutions.{satisfies, product, solutions}
use Rattle.opl_trace.specs.Statements.{Statement, Statements, Branch, Branches, statement}
use Rattle.opl_trace.specs.Statements.Statement.{post, block, try, try_all, for_all, select, once, while, decide, generate, rank}
use Rattle.opl_trace.specs.Statements.Statements.{no_statements, more_statements}
use Rattle.opl_trace.specs.Statements.Branch.{branch}
use Rattle.opl_trace.specs.Statements.Branches.{no_branches, more_branches}
use Rattle.opl_trace.specs.Run.{Out, Rest, nothing, stopped, marked, after, unlabelled, alternatives, closed, entered, within, selected, visit, perform, perform_all, performed, arm_of, arms}
use Rattle.opl_trace.specs.Run.Mark.{choice}
use Rattle.opl_trace.specs.Marks.{labelled, searched, trace, objective, section, solved}
use Rattle.opl_trace.specs.Paths.{Path, joinings, sequence, first_paths, either, paths, joined_paths, each_path, route, routes, reached, is_free, is_free_key, is_plain, all_plain, plain_branch, plain_branches}
use Rattle.opl_trace.specs.SearchLaws.{clear_all, Defines}
use Rattle.opl_trace.specs.SoundCores.{IsSoundGoal, IsSoundSection, IsSoundCore}
use Rattle.opl_trace.specs.GroundCores.{section_fits}
use Rattle.opl_trace.specs.GroundLaws.{PlainSections}
use Rattle.opl_trace.proofs.Passing.{false_unless}
use Rattle.opl_trace.proofs.Constraints.{solutions_stay}
use Rattle.opl_trace.proofs.Products.{filter_flat, found_alike, none_found, join_both, among_below}
use Rattle.opl_trace.proofs.Better.{best_of, betters, IsSame, drop_worse, tighter_self}
use Rattle.opl_trace.proofs.Found.{Solves, after_solves, label_found, found}
use Rattle.opl_trace.proofs.Improving.{SolvesBest, after_best, solves_same, filter_both, bound_is, clear_bound, defines_more, label_best}
use Rattle.opl_trace.proofs.CoreSolutions.{solutions_satisfy, base_sound}
use Rattle.opl_trace.proofs.WithoutVariables.{fact_names_none, key_names_none, same_met, same_key}
use Rattle.opl_trace.proofs.Answering.{means_fact, clear_answered}
use Rattle.opl_trace.proofs.SoundForms.{all_sound_clear, sound_clear, posts_clear, all_post_clear, branch_posts_clear, branches_post_clear, sound_posts_clear, decides_alone, all_decide_alone, branch_decides_alone, branches_decide_alone, made_decides}

-- ---- lists of paths

flat-append : {X A : Type 0} (f : X → List A) (xs ys : List X) → flat_map f (xs ++ ys) ≡ flat_map f xs ++ flat_map f ys
flat-append f [] ys = refl
flat-append f (x ∷ xs) ys = ap (λ zs. f x ++ zs) (flat-append f xs ys) ∙ sym (append_assoc (f x) (flat_map f xs) (flat_map f ys))

flat_same : {X A : Type 0} (f g : X → List A) (xs : List X) → ((x : X) → f x ≡ g x) → flat_map f xs ≡ flat_map g xs
flat_same f g [] h = refl
flat_same f g (x ∷ xs) h = join_both (f x) (g x) (flat_map f xs) (flat_map g xs) (h x) (flat_same f g xs h)

flat_empty : {X A : Type 0} (f : X → List A) (xs : List X) → ((x : X) → f x ≡ []) → flat_map f xs ≡ []
flat_empty f [] h = refl
flat_empty f (x ∷ xs) h = join_both (f x) [] (flat_map f xs) [] (h x) (flat_empty f xs h)

flat-map : {X Y A : Type 0} (f : Y → List A) (g : X → Y) (xs : List X) → flat_map f (map g xs) ≡ flat_map (λ x. f (g x)) xs
flat-map f g [] = refl
flat-map f g (x ∷ xs) = ap (λ ys. f (g x) ++ ys) (flat-map f g xs)

flat-flat : {X Y A : Type 0} (f : Y → List A) (g : X → List Y) (xs : List X) → flat_map f (flat_map g xs) ≡ flat_map (λ x. flat_map f (g x)) xs
flat-flat f g [] = refl
flat-flat f g (x ∷ xs) = flat-append f (g x) (flat_map g xs) ∙ ap (λ ys. flat_map f (g x) ++ ys) (flat-flat f g xs)

joinings_none : (qs : List Path) → joinings ([] ∷ []) qs ≡ qs
joinings_none qs = append-nil (map (λ q. [] ++ q) qs) ∙ map_same qs
  where
    map_same : (ps : List Path) → map (λ q. [] ++ q) ps ≡ ps
    map_same [] = refl
    map_same (p ∷ ps) = ap (λ rs. p ∷ rs) (map_same ps)

joinings-append : (ps rs qs : List Path) → joinings (ps ++ rs) qs ≡ joinings ps qs ++ joinings rs qs
joinings-append ps rs qs = flat-append (λ p. map (λ q. p ++ q) qs) ps rs

map-append : {X A : Type 0} (f : X → A) (xs ys : List X) → map f (xs ++ ys) ≡ map f xs ++ map f ys
map-append f [] ys = refl
map-append f (x ∷ xs) ys = ap (λ zs. f x ∷ zs) (map-append f xs ys)

map-prefixed : (p : Path) (r : Path) (qs : List Path) → map (λ q. (p ++ r) ++ q) qs ≡ map (λ q. p ++ q) (map (λ q. r ++ q) qs)
map-prefixed p r [] = refl
map-prefixed p r (q ∷ qs) = rw (append_assoc p r q, map-prefixed p r qs) refl

joinings_prefixed : (p : Path) (rs qs : List Path) → joinings (map (λ r. p ++ r) rs) qs ≡ map (λ q. p ++ q) (joinings rs qs)
joinings_prefixed p [] qs = refl
joinings_prefixed p (r ∷ rs) qs = rw (map-prefixed p r qs, joinings_prefixed p rs qs) (sym (map-append (λ q. p ++ q) (map (λ q. r ++ q) qs) (joinings rs qs)))

joinings_assoc : (ps rs qs : List Path) → joinings (joinings ps rs) qs ≡ joinings ps (joinings rs qs)
joinings_assoc [] rs qs = refl
joinings_assoc (p ∷ ps) rs qs =
    joinings-append (map (λ r. p ++ r) rs) (joinings ps rs) qs
    ∙ join_both (joinings (map (λ r. p ++ r) rs) qs) (map (λ q. p ++ q) (joinings rs qs)) (joinings (joinings ps rs) qs) (joinings ps (joinings rs qs)) (joinings_prefixed p rs qs) (joinings_assoc ps rs qs)

-- ---- outcomes, with an objective or without

-- an outcome without a Cut has these assignments, or the better ones of them
abbrev Gives : Option Objective → Option ℤ → List (List ℤ) → Out → Type 0
Gives None b S o = Solves S o
Gives (Some g) b S o = SolvesBest g b S o

abbrev pub ClearGoal : Option Objective → Type 0
ClearGoal None = Unit {0}
ClearGoal (Some g) = clear g.term ≡ true

nothing_gives : (goal : Option Objective) (P : List Fact) (b : Option ℤ) (n : ℕ) → Gives goal b [] (nothing P b n)
nothing_gives None P b n = λ c. refl
nothing_gives (Some g) P b n = λ c. (refl, refl)

stopped_gives : (goal : Option Objective) (b : Option ℤ) (S : List (List ℤ)) → Gives goal b S (stopped b)
stopped_gives None b S = λ c. cc
stopped_gives (Some g) b S = λ c. cc

choice_gives : (goal : Option Objective) (b : Option ℤ) (S : List (List ℤ)) (l : Option (ℕ × ℤ)) (o : Out) → Gives goal b S o → Gives goal b S (marked (choice l) o)
choice_gives None b S l o h = h
choice_gives (Some g) b S l o h = h

after_gives : (goal : Option Objective) (b : Option ℤ) (o : Out) (f : Option ℤ → ℕ → Out) (S T : List (List ℤ)) → Gives goal b S o → ((c : Option ℤ) (n : ℕ) → Gives goal c T (f c n)) → Gives goal b (S ++ T) (after o f)
after_gives None b o f S T h k = after_solves o f S T h k
after_gives (Some g) b o f S T h k = after_best g b o f S T h (λ n. k (best_of g b S) n)

pub clear_bounded : (goal : Option Objective) (P : List Fact) (b : Option ℤ) → ClearGoal goal → clear_all P ≡ true → clear_all (P ++ bound goal b) ≡ true
clear_bounded None P b t h = rw (append-nil P) h
clear_bounded (Some g) P b t h = clear_bound g P b t h

defines_further : (goal : Option Objective) (P Q : List Fact) → Defines goal P → Defines goal (P ++ Q)
defines_further None P Q d = tt
defines_further (Some g) P Q d = defines_more g P Q d

-- where the sets have failed, no assignment of the declared sets meets the constraints and the bound
none_meets : (goal : Option Objective) (D : Family) (P : List Fact) (b : Option ℤ) (a : List ℤ) → ClearGoal goal → clear_all P ≡ true → closed goal D P b ≡ None → is_among a D ≡ true → satisfies (P ++ bound goal b) a ≡ true → ⊥
none_meets goal D P b a t h e i s = subst (λ o. IsBelowSome (singles a) o) e (solutions_stay goal D P b a (clear_bounded goal P b t h) s (among_below a D i))

-- what paths find: the assignments on which what is posted and the path hold
abbrev along : Family → List Fact → List Path → List (List ℤ)
along D P qs = flat_map (λ q. found D (P ++ q)) qs

first_holds : (P Q : List Fact) (a : List ℤ) → satisfies (P ++ Q) a ≡ true → satisfies P a ≡ true
first_holds P Q a s = (and_parts (satisfies P a) (satisfies Q a) (sym (list_all-append (λ c. is_true (holds a c)) P Q) ∙ s)).0

failed_gives : (goal : Option Objective) (D : Family) (P : List Fact) (b : Option ℤ) (n : ℕ) (qs : List Path) → ClearGoal goal → clear_all P ≡ true → Defines goal P → closed goal D P b ≡ None → Gives goal b (along D P qs) (nothing P b n)
failed_gives None D P b n qs t h d e = λ c.
    sym (flat_empty (λ q. found D (P ++ q)) qs
    (λ q. none_found (satisfies (P ++ q)) D (λ a i. false_unless (satisfies (P ++ q) a) (λ s. none_meets None D P b a t h e i (rw (append-nil P) (first_holds P q a s))))))
failed_gives (Some g) D P b n qs t h d e =
    let none : betters g b (along D P qs) ≡ [] =
    filter_flat (λ a. is_better g (value a g.term) b) (λ q. found D (P ++ q)) qs
    ∙ flat_empty (λ q. betters g b (found D (P ++ q))) qs (λ q.
    filter_both (satisfies (P ++ q)) (λ a. is_better g (value a g.term) b) (product D)
    ∙ none_found (λ a. satisfies (P ++ q) a && is_better g (value a g.term) b) D (λ a i. false_unless (satisfies (P ++ q) a && is_better g (value a g.term) b) (λ s.
    let r = and_parts (satisfies (P ++ q) a) (is_better g (value a g.term) b) s in
    none_meets (Some g) D P b a t h e i (bound_is g P b a d ∙ and_from (satisfies P a) (is_better g (value a g.term) b) (first_holds P q a r.0) r.1)))) in
    solves_same g b [] (along D P qs) (nothing P b n) (subst (λ L. IsSame g b L (along D P qs)) none (drop_worse g b b (along D P qs) (tighter_self g b))) (λ i. (refl, refl))

within_gives : (goal : Option Objective) (D : Family) (next : Family → Rest) (P : List Fact) (b : Option ℤ) (n : ℕ) (S : List (List ℤ)) → (closed goal D P b ≡ None → Gives goal b S (nothing P b n)) → ((C : Family) → Gives goal b S (next C P b n)) →
    Gives goal b S (within goal (closed goal D) next P b n)
unfolding within
within_gives goal D next P b n S h k =
    elim (closed goal D P b) as (λ o. closed goal D P b ≡ o → Gives goal b S (entered next o P b n)) [
      | None ↦ λ e. h e
      | Some C ↦ λ e. k C
    ] refl

module _ (goal : Option Objective) (D : Family) (t : ClearGoal goal) where
  abbrev IsReady : List Fact → Type 0
  IsReady P = (clear_all P ≡ true) × Defines goal P

  -- what follows finds what these paths reach
  abbrev Finds : List Path → Rest → Type 0
  Finds qs K = (P : List Fact) → IsReady P → (b : Option ℤ) (n : ℕ) → Gives goal b (along D P qs) (K P b n)

  finds_as : (ps qs : List Path) (K : Rest) → ps ≡ qs → Finds ps K → Finds qs K
  finds_as ps qs K e f = subst (λ rs. Finds rs K) e f

  within_finds : (next : Family → Rest) (qs : List Path) → ((C : Family) → Finds qs (next C)) → Finds qs (within goal (closed goal D) next)
  within_finds next qs f P r b n = within_gives goal D next P b n (along D P qs) (failed_gives goal D P b n qs t r.0 r.1) (λ C. f C P r b n)

  nothing_finds : Finds [] nothing
  nothing_finds P r b n = nothing_gives goal P b n

  leaves : Finds [] (alternatives (unlabelled []))
  leaves P r b n = nothing_gives goal P b n

  along-append : (P : List Fact) (ps qs : List Path) → along D P (ps ++ qs) ≡ along D P ps ++ along D P qs
  along-append P ps qs = flat-append (λ q. found D (P ++ q)) ps qs

  enters : (k : Rest) (ks : List Rest) (ps qs : List Path) → Finds ps k → Finds qs (alternatives (unlabelled ks)) → Finds (ps ++ qs) (alternatives (unlabelled (k ∷ ks)))
  enters k ks ps qs f g P r b zero = stopped_gives goal b (along D P (ps ++ qs))
  enters k ks ps qs f g P r b (suc n) =
      subst (λ S. Gives goal b S (after (marked (choice None) (k P b n)) (alternatives (unlabelled ks) P))) (sym (along-append P ps qs))
      (after_gives goal b (marked (choice None) (k P b n)) (alternatives (unlabelled ks) P) (along D P ps) (along D P qs) (choice_gives goal b (along D P ps) None (k P b n) (f P r b n)) (λ c m. g P r c m))

  -- ---- posting

  same_posts : (P : List Fact) (c d : Fact) (q : Path) (a : List ℤ) → holds a d ≡ holds a c → satisfies ((P ++ d ∷ []) ++ q) a ≡ satisfies (P ++ (c ∷ q)) a
  same_posts P c d q a e =
      ap (λ R. satisfies R a) (append_assoc P (d ∷ []) q)
      ∙ (list_all-append (λ k. is_true (holds a k)) P (d ∷ q) ∙ (ap (λ o. satisfies P a && (is_true o && satisfies q a)) e ∙ sym (list_all-append (λ k. is_true (holds a k)) P (c ∷ q))))

  posted_along : (P : List Fact) (C : Family) (c : Fact) (qs : List Path) → is_free c ≡ true → along D (P ++ answered C c ∷ []) qs ≡ along D P (joinings ((c ∷ []) ∷ []) qs)
  posted_along P C c qs f =
      flat_same (λ q. found D ((P ++ answered C c ∷ []) ++ q)) (λ q. found D (P ++ (c ∷ q))) qs
      (λ q. found_alike (satisfies ((P ++ answered C c ∷ []) ++ q)) (satisfies (P ++ (c ∷ q))) D (λ a i. same_posts P c (answered C c) q a (means_fact C a c f)))
      ∙ (sym (flat-map (λ q. found D (P ++ q)) (λ q. c ∷ q) qs) ∙ ap (along D P) (sym (append-nil (map (λ q. c ∷ q) qs))))

  ready_posted : (P : List Fact) (C : Family) (c : Fact) → is_free c ≡ true → clear_fact c ≡ true → IsReady P → IsReady (P ++ answered C c ∷ [])
  ready_posted P C c f h r = (
    list_all-append clear_fact P (answered C c ∷ []) ∙ and_from (clear_all P) (clear_fact (answered C c) && true) r.0 (and_from (clear_fact (answered C c)) true (clear_answered C c f ∙ h) refl),
    defines_further goal P (answered C c ∷ []) r.1,
  )

  post_finds : (c : Fact) → is_free c ≡ true → clear_fact c ≡ true → (qs : List Path) (K : Rest) → Finds qs K → Finds (joinings ((c ∷ []) ∷ []) qs) (perform goal (closed goal D) (post c) K)
  post_finds c f h qs K k =
      within_finds (λ C P. K (P ++ answered C c ∷ [])) (joinings ((c ∷ []) ∷ []) qs)
      (λ C P r b n. subst (λ S. Gives goal b S (K (P ++ answered C c ∷ []) b n)) (posted_along P C c qs f) (k (P ++ answered C c ∷ []) (ready_posted P C c f h r) b n))

  -- ---- elements

  record Matches (a : Arm (List Path)) (c : Arm (Rest → Rest)) : Type 0 where
    pub met : (F : Family) → is_met [] a.when ≡ is_met F c.when
    pub keyed : (F : Family) → key_value [] a.key ≡ key_value F c.key
    pub rising : a.rising ≡ c.rising
    pub body : (qs : List Path) (K : Rest) → Finds qs K → Finds (joinings a.body qs) (c.body K)

  abbrev AllMatch : List (Arm (List Path)) → List (Arm (Rest → Rest)) → Type 0
  AllMatch [] [] = Unit {0}
  AllMatch [] (c ∷ cs) = ⊥
  AllMatch (a ∷ as') [] = ⊥
  AllMatch (a ∷ as') (c ∷ cs) = Matches a c × AllMatch as' cs

  match_length : (as' : List (Arm (List Path))) (cs : List (Arm (Rest → Rest))) → AllMatch as' cs → length as' ≡ length cs
  match_length [] [] m = refl
  match_length [] (c ∷ cs) m = absurd m
  match_length (a ∷ as') [] m = absurd m
  match_length (a ∷ as') (c ∷ cs) m = ap suc (match_length as' cs m.1)

  taken_match : (F : Family) (as' : List (Arm (List Path))) (cs : List (Arm (Rest → Rest))) → AllMatch as' cs → AllMatch (taken [] as') (taken F cs)
  taken_match F [] [] m = tt
  taken_match F [] (c ∷ cs) m = absurd m
  taken_match F (a ∷ as') [] m = absurd m
  taken_match F (a ∷ as') (c ∷ cs) m =
      let i = taken_match F as' cs m.1 in
      rw (m.0.met F) (elim (is_met F c.when) as (λ b. AllMatch (cond b (a ∷ taken [] as') (taken [] as')) (cond b (c ∷ taken F cs) (taken F cs))) [ true ↦ (m.0, i) | false ↦ i ])

  abbrev PickMatch : Picked (List Path) → Picked (Rest → Rest) → Type 0
  PickMatch p q = Matches p.arm q.arm × AllMatch p.others q.others

  same_first : (r s : Bool) (i j k l : Option ℤ) → r ≡ s → i ≡ j → k ≡ l → comes_first r i k ≡ comes_first s j l
  same_first r s i j k l e f g = rw (e, f, g) refl

  picked_match : (F : Family) (a : Arm (List Path)) (as' : List (Arm (List Path))) (p : Picked (List Path)) (c : Arm (Rest → Rest)) (cs : List (Arm (Rest → Rest))) (q : Picked (Rest → Rest)) → Matches a c → AllMatch as' cs → PickMatch p q →
      PickMatch (picked_of [] a as' p) (picked_of F c cs q)
  picked_match F a as' p c cs q m ms n =
      let e = same_first a.rising c.rising (key_value [] p.arm.key) (key_value F q.arm.key) (key_value [] a.key) (key_value F c.key) m.rising (n.0.keyed F) (m.keyed F) in
      let q1 : Bool → Picked (List Path) = λ b. cond b (record { arm = p.arm; others = a ∷ p.others }) (record { arm = a; others = as' }) in
      let q2 : Bool → Picked (Rest → Rest) = λ b. cond b (record { arm = q.arm; others = c ∷ q.others }) (record { arm = c; others = cs }) in
      subst (λ b. PickMatch (q1 b) (q2 (comes_first c.rising (key_value F q.arm.key) (key_value F c.key)))) (sym e)
      (elim (comes_first c.rising (key_value F q.arm.key) (key_value F c.key)) as (λ b. PickMatch (q1 b) (q2 b)) [ true ↦ (n.0, (m, n.1)) | false ↦ (m, ms) ])

  pick_match : (F : Family) (a : Arm (List Path)) (as' : List (Arm (List Path))) (c : Arm (Rest → Rest)) (cs : List (Arm (Rest → Rest))) → Matches a c → AllMatch as' cs → PickMatch (pick [] a as') (pick F c cs)
  pick_match F a [] c [] m ms = (m, tt)
  pick_match F a [] c (d ∷ cs) m ms = absurd ms
  pick_match F a (x ∷ as') c [] m ms = absurd ms
  pick_match F a (x ∷ as') c (d ∷ cs) m ms = picked_match F a (x ∷ as') (pick [] x as') c (d ∷ cs) (pick F d cs) m ms (pick_match F x as' d cs ms.0 ms.1)

  ordered_match : (F : Family) (n : ℕ) (as' : List (Arm (List Path))) (cs : List (Arm (Rest → Rest))) → AllMatch as' cs → AllMatch (ordered [] n as') (ordered F n cs)
  ordered_match F zero as' cs m = tt
  ordered_match F (suc n) [] [] m = tt
  ordered_match F (suc n) [] (c ∷ cs) m = absurd m
  ordered_match F (suc n) (a ∷ as') [] m = absurd m
  ordered_match F (suc n) (a ∷ as') (c ∷ cs) m =
      let p = pick_match F a as' c cs m.0 m.1 in
      (p.0, ordered_match F n (pick [] a as').others (pick F c cs).others p.1)

  bodies_find : (as' : List (Arm (List Path))) (cs : List (Arm (Rest → Rest))) → AllMatch as' cs → (qs : List Path) (K : Rest) → Finds qs K → Finds (joinings (flat_map (λ a. a.body) as') qs) (alternatives (unlabelled (map (λ c. c.body K) cs)))
  bodies_find [] [] m qs K k = leaves
  bodies_find [] (c ∷ cs) m qs K k = absurd m
  bodies_find (a ∷ as') [] m qs K k = absurd m
  bodies_find (a ∷ as') (c ∷ cs) m qs K k =
      finds_as (joinings a.body qs ++ joinings (flat_map (λ a. a.body) as') qs) (joinings (a.body ++ flat_map (λ a. a.body) as') qs) (alternatives (unlabelled (c.body K ∷ map (λ c. c.body K) cs))) (sym (joinings-append a.body (flat_map (λ a. a.body) as') qs))
      (enters (c.body K) (map (λ c. c.body K) cs) (joinings a.body qs) (joinings (flat_map (λ a. a.body) as') qs) (m.0.body qs K k) (bodies_find as' cs m.1 qs K k))

  first_finds : (F : Family) (as' : List (Arm (List Path))) (cs : List (Arm (Rest → Rest))) → AllMatch as' cs → (qs : List Path) (K : Rest) → Finds qs K → Finds (joinings (first_paths as') qs) (selected F cs K)
  first_finds F [] [] m qs K k = nothing_finds
  first_finds F [] (c ∷ cs) m qs K k = absurd m
  first_finds F (a ∷ as') [] m qs K k = absurd m
  first_finds F (a ∷ as') (c ∷ cs) m qs K k = (pick_match F a as' c cs m.0 m.1).0.body qs K k

  next_finds : (qs : List Path) (K : Rest) → Finds qs K → Finds (joinings ([] ∷ []) qs) (within goal (closed goal D) (λ C. K))
  next_finds qs K k = finds_as qs (joinings ([] ∷ []) qs) (within goal (closed goal D) (λ C. K)) (sym (joinings_none qs)) (within_finds (λ C. K) qs (λ C. k))

  visit_finds : (n : ℕ) (as' : List (Arm (List Path))) (cs : List (Arm (Rest → Rest))) → AllMatch as' cs → (qs : List Path) (K : Rest) → Finds qs K → Finds (joinings (sequence (ordered [] n as')) qs) (visit goal (closed goal D) n cs K)
  visit_finds zero as' cs m qs K k = next_finds qs K k
  visit_finds (suc n) [] [] m qs K k = next_finds qs K k
  visit_finds (suc n) [] (c ∷ cs) m qs K k = absurd m
  visit_finds (suc n) (a ∷ as') [] m qs K k = absurd m
  visit_finds (suc n) (a ∷ as') (c ∷ cs) m qs K k =
      let p = pick [] a as' in
      let others = sequence (ordered [] n p.others) in
      within_finds (λ C. (pick C c cs).arm.body (visit goal (closed goal D) n (pick C c cs).others K)) (joinings (joinings p.arm.body others) qs)
      (λ C.
      let i = pick_match C a as' c cs m.0 m.1 in
      finds_as (joinings p.arm.body (joinings others qs)) (joinings (joinings p.arm.body others) qs) ((pick C c cs).arm.body (visit goal (closed goal D) n (pick C c cs).others K)) (sym (joinings_assoc p.arm.body others qs))
      (i.0.body (joinings others qs) (visit goal (closed goal D) n (pick C c cs).others K) (visit_finds n p.others (pick C c cs).others i.1 qs K k)))

  either_finds : (b : Bool) (ps rs qs : List Path) (k l : Rest) → Finds (joinings ps qs) k → Finds (joinings rs qs) l → Finds (joinings (either b ps rs) qs) (cond b k l)
  either_finds true ps rs qs k l f g = f
  either_finds false ps rs qs k l f g = g

  -- ---- statements

  mutual
    finds : (s : Statement) → is_plain s ≡ true → decides_alone s ≡ true → posts_clear s ≡ true → (qs : List Path) (K : Rest) → Finds qs K → Finds (joinings (paths s) qs) (perform goal (closed goal D) s K)
    finds (post c) p d h qs K k = post_finds c p h qs K k
    finds (block ss) p d h qs K k = within_finds (λ C. perform_all goal (closed goal D) ss K) (joinings (joined_paths ss) qs) (λ C. all_find ss p d h qs K k)
    finds (try ss) p d h qs K k = within_finds (λ C. alternatives (unlabelled (performed goal (closed goal D) ss K))) (joinings (each_path ss) qs) (λ C. each_finds ss p d h qs K k)
    finds (try_all bs) p d h qs K k =
        let as' = taken [] (routes bs) in
        within_finds (λ C. let ready = taken C (arms goal (closed goal D) bs) in alternatives (unlabelled (map (λ a. a.body K) (ordered C (length ready) ready)))) (joinings (flat_map (λ a. a.body) (ordered [] (length as') as')) qs)
        (λ C.
        let m = taken_match C (routes bs) (arms goal (closed goal D) bs) (routes_match bs p d h) in
        let cs = taken C (arms goal (closed goal D) bs) in
        bodies_find (ordered [] (length as') as') (ordered C (length cs) cs) (subst (λ n. AllMatch (ordered [] (length as') as') (ordered C n cs)) (match_length as' cs m) (ordered_match C (length as') as' cs m)) qs K k)
    finds (for_all bs) p d h qs K k =
        let as' = taken [] (routes bs) in
        within_finds (λ C. let ready = taken C (arms goal (closed goal D) bs) in visit goal (closed goal D) (length ready) ready K) (joinings (sequence (ordered [] (length as') as')) qs)
        (λ C.
        let m = taken_match C (routes bs) (arms goal (closed goal D) bs) (routes_match bs p d h) in
        let cs = taken C (arms goal (closed goal D) bs) in
        subst (λ n. Finds (joinings (sequence (ordered [] (length as') as')) qs) (visit goal (closed goal D) n cs K)) (match_length as' cs m) (visit_finds (length as') as' cs m qs K k))
    finds (select bs) p d h qs K k =
        within_finds (λ C. selected C (taken C (arms goal (closed goal D) bs)) K) (joinings (first_paths (taken [] (routes bs))) qs)
        (λ C. first_finds C (taken [] (routes bs)) (taken C (arms goal (closed goal D) bs)) (taken_match C (routes bs) (arms goal (closed goal D) bs) (routes_match bs p d h)) qs K k)
    finds (once s) p d h qs K k = cc
    finds (while c s) p d h qs K k = cc
    finds (decide c s r) p d h qs K k =
        let i = and_parts (is_free c) (is_plain s && is_plain r) p in
        let j = and_parts (is_plain s) (is_plain r) i.1 in
        let e = and_parts (fact_names_none true c) (decides_alone s && decides_alone r) d in
        let f = and_parts (decides_alone s) (decides_alone r) e.1 in
        let g = and_parts (posts_clear s) (posts_clear r) h in
        within_finds (λ C. cond (is_met C c) (perform goal (closed goal D) s K) (perform goal (closed goal D) r K)) (joinings (either (is_met [] c) (paths s) (paths r)) qs)
        (λ C. subst (λ b. Finds (joinings (either b (paths s) (paths r)) qs) (cond (is_met C c) (perform goal (closed goal D) s K) (perform goal (closed goal D) r K))) (same_met C [] c i.0 e.0)
        (either_finds (is_met C c) (paths s) (paths r) qs (perform goal (closed goal D) s K) (perform goal (closed goal D) r K) (finds s j.0 f.0 g.0 qs K k) (finds r j.1 f.1 g.1 qs K k)))
    finds (generate xs) p d h qs K k = cc
    finds (rank ps) p d h qs K k = cc

    all_find : (ss : Statements) → all_plain ss ≡ true → all_decide_alone ss ≡ true → all_post_clear ss ≡ true → (qs : List Path) (K : Rest) → Finds qs K → Finds (joinings (joined_paths ss) qs) (perform_all goal (closed goal D) ss K)
    all_find no_statements p d h qs K k = finds_as qs (joinings ([] ∷ []) qs) K (sym (joinings_none qs)) k
    all_find (more_statements s ss) p d h qs K k =
        let i = and_parts (is_plain s) (all_plain ss) p in
        let e = and_parts (decides_alone s) (all_decide_alone ss) d in
        let g = and_parts (posts_clear s) (all_post_clear ss) h in
        finds_as (joinings (paths s) (joinings (joined_paths ss) qs)) (joinings (joinings (paths s) (joined_paths ss)) qs) (perform goal (closed goal D) s (perform_all goal (closed goal D) ss K)) (sym (joinings_assoc (paths s) (joined_paths ss) qs))
        (finds s i.0 e.0 g.0 (joinings (joined_paths ss) qs) (perform_all goal (closed goal D) ss K) (all_find ss i.1 e.1 g.1 qs K k))

    each_finds : (ss : Statements) → all_plain ss ≡ true → all_decide_alone ss ≡ true → all_post_clear ss ≡ true → (qs : List Path) (K : Rest) → Finds qs K → Finds (joinings (each_path ss) qs) (alternatives (unlabelled (performed goal (closed goal D) ss K)))
    each_finds no_statements p d h qs K k = leaves
    each_finds (more_statements s ss) p d h qs K k =
        let i = and_parts (is_plain s) (all_plain ss) p in
        let e = and_parts (decides_alone s) (all_decide_alone ss) d in
        let g = and_parts (posts_clear s) (all_post_clear ss) h in
        finds_as (joinings (paths s) qs ++ joinings (each_path ss) qs) (joinings (paths s ++ each_path ss) qs) (alternatives (unlabelled (perform goal (closed goal D) s K ∷ performed goal (closed goal D) ss K))) (sym (joinings-append (paths s) (each_path ss) qs))
        (enters (perform goal (closed goal D) s K) (performed goal (closed goal D) ss K) (joinings (paths s) qs) (joinings (each_path ss) qs) (finds s i.0 e.0 g.0 qs K k) (each_finds ss i.1 e.1 g.1 qs K k))

    route_matches : (b : Branch) → plain_branch b ≡ true → branch_decides_alone b ≡ true → branch_posts_clear b ≡ true → Matches (route b) (arm_of goal (closed goal D) b)
    route_matches (branch c key rising s) p d h =
        let i = and_parts (is_free c) (is_free_key key && is_plain s) p in
        let j = and_parts (is_free_key key) (is_plain s) i.1 in
        let e = and_parts (fact_names_none true c) (key_names_none true key && decides_alone s) d in
        let f = and_parts (key_names_none true key) (decides_alone s) e.1 in
        record {
          met = λ F. same_met [] F c i.0 e.0;
          keyed = λ F. same_key [] F key j.0 f.0;
          rising = refl;
          body = λ qs K k. finds s j.1 f.1 h qs K k;
        }

    routes_match : (bs : Branches) → plain_branches bs ≡ true → branches_decide_alone bs ≡ true → branches_post_clear bs ≡ true → AllMatch (routes bs) (arms goal (closed goal D) bs)
    routes_match no_branches p d h = tt
    routes_match (more_branches b bs) p d h =
        let i = and_parts (plain_branch b) (plain_branches bs) p in
        let e = and_parts (branch_decides_alone b) (branches_decide_alone bs) d in
        let g = and_parts (branch_posts_clear b) (branches_post_clear bs) h in
        (route_matches b i.0 e.0 g.0, routes_match bs i.1 e.1 g.1)

  -- ---- labelling comes last

  joined_none : (ps : List Path) → joinings ps ([] ∷ []) ≡ ps
  joined_none [] = refl
  joined_none (p ∷ ps) = rw (append-nil p, joined_none ps) refl

along_none : (D : Family) (P : List Fact) → found D P ≡ along D P ([] ∷ [])
along_none D P = sym (append-nil (found D (P ++ [])) ∙ ap (found D) (append-nil P))

labelled_finds : (goal : Option Objective) (D : Family) (t : ClearGoal goal) → ((y : ℕ) → IsRising (set_of D y)) → Finds goal D t ([] ∷ []) (labelled goal (closed goal D) (length D))
labelled_finds None D t r P i b n = subst (λ S. Gives None b S (labelled None (closed None D) (length D) P b n)) (along_none D P) (label_found D r (length D) zero (omega arith) P i.0 (λ b C e y l. absurd (omega arith)) b n)
labelled_finds (Some g) D t r P i b n =
    subst (λ S. Gives (Some g) b S (labelled (Some g) (closed (Some g) D) (length D) P b n)) (along_none D P)
    (label_best g D r t (length D) zero (omega arith) P i.0 i.1 b (λ c l C e y k. absurd (omega arith)) n)

gives_improving : (goal : Option Objective) (S : List (List ℤ)) (o : Out) → Gives goal None S o → o.is_cut ≡ false → solved o.marks ≡ improving goal S
gives_improving None S o h c = h c
gives_improving (Some g) S o h c = (h c).0

-- ---- ground cores

values_rise : (ends : List (ℤ × ℤ)) (y : ℕ) → IsRising (set_of (map (λ p. values (record { low = p.0; high = p.1 })) ends) y)
unfolding set_of values
values_rise [] y = tt
values_rise (p ∷ ends) zero = ints_rise p.0 (count_from (p.1 +ℤ pos 1 +ℤ neg_ℤ p.0))
values_rise (p ∷ ends) (suc y) = values_rise ends y

pub declared_rise : (core : Core) (y : ℕ) → IsRising (set_of (declared core) y)
unfolding declared
declared_rise core y = values_rise core.sets y

pub base_clear : (core : Core) → IsSoundCore core → clear_all (base core) ≡ true
base_clear core s = all_sound_clear core.sets (base core) (base_sound core s)

pub goal_clear : (core : Core) → IsSoundGoal core.sets (goal_term core) → ClearGoal (objective core)
goal_clear core = elim (core.goal) as (λ o. IsSoundGoal core.sets (lift1 (λ g. term core.tables core.resources g.value) o) → ClearGoal (lift1 (λ g. record { is_most = g.maximize; term = term core.tables core.resources g.value }) o)) [
  | None ↦ λ h. tt
  | Some g ↦ λ h. sound_clear core.sets (term core.tables core.resources g.value) h.1
]

self_defined : (o : Option ℤ) → is_true (lift (relates Relation.equal) o o) ≡ true → (v : ℤ) × (o ≡ Some v)
self_defined None h = cc
self_defined (Some v) h = (v, refl)

goal_defined : (core : Core) → Defines (objective core) (base core)
goal_defined core = elim (core.goal) as (λ o. Defines (lift1 (λ g. record { is_most = g.maximize; term = term core.tables core.resources g.value }) o) (facts core ++ definedness (lift1 (λ g. term core.tables core.resources g.value) o))) [
  | None ↦ tt
  | Some g ↦ λ a s.
      let u = term core.tables core.resources g.value in
      let r = and_parts (satisfies (facts core) a) (satisfies (Fact.cmp Relation.equal u u ∷ []) a) (sym (list_all-append (λ c. is_true (holds a c)) (facts core) (Fact.cmp Relation.equal u u ∷ [])) ∙ s) in
      self_defined (value a u) (and_parts (is_true (holds a (Fact.cmp Relation.equal u u))) true r.1).0
]

reached_is : (core : Core) (ps : List Path) → along (declared core) (base core) ps ≡ flat_map (λ p. filter (satisfies p) (solutions core)) ps
reached_is core ps =
    flat_same (λ p. found (declared core) (base core ++ p)) (λ p. filter (satisfies p) (solutions core)) ps
    (λ p. found_alike (satisfies (base core ++ p)) (λ a. satisfies (base core) a && satisfies p a) (declared core) (λ a i. list_all-append (λ c. is_true (holds a c)) (base core) p)
    ∙ (sym (filter_both (satisfies (base core)) (satisfies p) (product (declared core))) ∙ ap (filter (satisfies p)) (sym (solutions_satisfy core))))

section_decides : (tables : List Table) (resources : List Resource) (o : Option Step) (s : Statement) → section_fits tables resources o ≡ true → lift1 (statement tables resources) o ≡ Some s → decides_alone s ≡ true
section_decides tables resources None s h e = cc
section_decides tables resources (Some step) s h e = let i : statement tables resources step ≡ s = cc in subst (λ z. decides_alone z ≡ true) i (made_decides tables resources step h)

section_clear : (core : Core) (s : Statement) → IsSoundSection core.sets (section false core) → section false core ≡ Some s → posts_clear s ≡ true
section_clear core s h e = sound_posts_clear core.sets s (subst (λ o. IsSoundSection core.sets o) e h)

pub plain_sections : PlainSections
unfolding trace
plain_sections core s n g e p c =
    let goal = objective core in
    let D = declared core in
    let t = goal_clear core g.sound.goal in
    let f = finds goal D t s p (section_decides core.tables core.resources core.search s g.search e) (section_clear core s g.sound.search e) ([] ∷ []) (labelled goal (closed goal D) (length D)) (labelled_finds goal D t (declared_rise core)) in
    let o : Option Statement → Out = λ q. searched goal (closed goal D) (length D) q (base core) None n in
    subst (λ q. (o q).is_cut ≡ false → solved (o q).marks ≡ improving goal (reached core s)) (sym e)
    (λ c. gives_improving goal (along D (base core) (joinings (paths s) ([] ∷ []))) (o (Some s)) (f (base core) (base_clear core g.sound, goal_defined core) None n) c
    ∙ ap (improving goal) (ap (along D (base core)) (joined_none goal D t (paths s)) ∙ reached_is core (paths s))) c
