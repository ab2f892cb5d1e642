-- Default search with an objective finds the solutions that are better than all before them.
use Rattle.std.proofs.Common.{◌≡◌, ◌∙◌, ℕ, zero, suc, ◌+◌, ◌<◌, Bool, true, false, cond, ◌&&◌, refl, List, [], ◌∷◌, ◌++◌, length, ℤ, inl, inr, ap, sym, subst, arith, append-nil}
use Rattle.std.specs.Prelude.{int_lt, Option, Some, None}
use Rattle.std.specs.List.{list_any, filter, flat_map}
use Rattle.std.proofs.Math.Bool.{and-true}
use Rattle.std.proofs.lemmas.Bool.{and_parts, and_from, cases_order}
use Rattle.std.proofs.lemmas.List.Folds.{list_all-append}
use Rattle.opl_domain.specs.Family.{member, IsRising, Family, set_of, has}
use Rattle.opl_domain.proofs.Members.{member_first, member_later}
use Rattle.opl_expr.specs.Forms.{Term, Fact}
use Rattle.opl_expr.specs.Holds.{holds, value, relates}
use Rattle.opl_expr.specs.Options.{lift}
use Rattle.opl_expr.specs.Forms.Relation.{below}
use Rattle.opl_expr.specs.Range.{is_refuted}
use Rattle.opl_expr.specs.Solutions.{is_true}
use Rattle.opl_expr.specs.Laws.{clear, clear_fact}
use Rattle.opl_trace.specs.Closure.{closure}
use Rattle.opl_trace.specs.Answers.{is_single, is_value}
use Rattle.opl_trace.specs.Objective.{Objective, better_than, bound, best_after, is_better, improving_from, Tighter}
use Rattle.opl_trace.specs.Solutions.{product, satisfies}
use Rattle.opl_trace.specs.Run.{Out, Rest, nothing, marked, behind, after, by_value, alternatives, values_of, is_dead, closed, entered, within, whole_leaf, label}
use Rattle.opl_trace.specs.Run.Mark.{choice, solution}
use Rattle.opl_trace.specs.Marks.{numbers_from, trace, solved}
use Rattle.opl_trace.specs.SearchLaws.{clear_all, Defines, BestFound}
use Rattle.opl_trace.proofs.SweepLaws.{same_tests}
use Rattle.opl_trace.proofs.Posting.{closed_stable, posting_narrows, posted_is_single}
use Rattle.opl_trace.proofs.Products.{filter_flat, flat_alike, found_alike, join_both}
use Rattle.opl_trace.proofs.Better.{closed_tighter, tighter_self, tighter_join, best_of, best_tighter, improving-append, best-append, IsSame, betters, drop_worse}
use Rattle.opl_trace.proofs.Found.{sets, IsOne, found, failed_found, found_split, clear_posted, solved-append, leaf_found, one_from_single}

-- ---- lists

pub filter_both : {A : Type 0} (p q : A → Bool) (xs : List A) → filter q (filter p xs) ≡ filter (λ x. p x && q x) xs
filter_both p q [] = refl
filter_both p q (x ∷ xs) = elim (p x) as (λ b. filter q (cond b (x ∷ filter p xs) (filter p xs)) ≡ cond (b && q x) (x ∷ filter (λ y. p y && q y) xs) (filter (λ y. p y && q y) xs)) [
  | true ↦ rw (filter_both p q xs) refl
  | false ↦ filter_both p q xs
]

filter_first : {A : Type 0} (q : A → Bool) (xs ys : List A) (a : A) → filter q xs ≡ a ∷ ys → q a ≡ true
filter_first q [] ys a h = cc
filter_first q (x ∷ xs) ys a h = elim (q x) as (λ b. q x ≡ b → cond b (x ∷ filter q xs) (filter q xs) ≡ a ∷ ys → q a ≡ true) [
  | true ↦ λ e k. let s : x ≡ a = cc in subst (λ z. q z ≡ true) s e
  | false ↦ λ e k. filter_first q xs ys a k
] refl h

-- ---- the bound on an assignment

pub clear_better : (m : Bool) (t : Term) (i : ℤ) → clear t ≡ true → (clear_fact (better_than (record { is_most = m; term = t }) i) && true) ≡ true
clear_better true t i h = rw h refl
clear_better false t i h = rw h refl

most_better : (t : Term) (i : ℤ) (o : Option ℤ) → (is_true (lift (relates below) (Some i) o) && true) ≡ is_better (record { is_most = true; term = t }) o (Some i)
most_better t i None = refl
most_better t i (Some v) = and-true (int_lt i v)

least_better : (t : Term) (i : ℤ) (o : Option ℤ) → (is_true (lift (relates below) o (Some i)) && true) ≡ is_better (record { is_most = false; term = t }) o (Some i)
least_better t i None = refl
least_better t i (Some v) = and-true (int_lt v i)

pub holds_better : (m : Bool) (t : Term) (i : ℤ) (a : List ℤ) → (is_true (holds a (better_than (record { is_most = m; term = t }) i)) && true) ≡ is_better (record { is_most = m; term = t }) (value a t) (Some i)
holds_better true t i a = most_better t i (value a t)
holds_better false t i a = least_better t i (value a t)

defined_better : (g : Objective) (o : Option ℤ) → (v : ℤ) × (o ≡ Some v) → is_better g o None ≡ true
defined_better g o d = rw d.1 refl

pub bound_is : (g : Objective) (P : List Fact) (b : Option ℤ) (a : List ℤ) → Defines (Some g) P → satisfies (P ++ bound (Some g) b) a ≡ (satisfies P a && is_better g (value a g.term) b)
bound_is g P None a d =
    rw (append-nil P) (same_tests (satisfies P a) (satisfies P a && is_better g (value a g.term) None)
    (λ s. and_from (satisfies P a) (is_better g (value a g.term) None) s (defined_better g (value a g.term) (d a s)))
    (λ k. (and_parts (satisfies P a) (is_better g (value a g.term) None) k).0))
bound_is g P (Some i) a d =
    list_all-append (λ c. is_true (holds a c)) P (better_than g i ∷ []) ∙ ap (λ t. satisfies P a && t) (holds_better g.is_most g.term i a)

pub clear_bound : (g : Objective) (P : List Fact) (b : Option ℤ) → clear g.term ≡ true → clear_all P ≡ true → clear_all (P ++ bound (Some g) b) ≡ true
clear_bound g P None t h = rw (append-nil P) h
clear_bound g P (Some i) t h = list_all-append clear_fact P (better_than g i ∷ []) ∙ rw h (clear_better g.is_most g.term i t)

pub defines_more : (g : Objective) (P Q : List Fact) → Defines (Some g) P → Defines (Some g) (P ++ Q)
defines_more g P Q d a s =
    let t : (satisfies P a && satisfies Q a) ≡ true = sym (list_all-append (λ c. is_true (holds a c)) P Q) ∙ s in
    d a (and_parts (satisfies P a) (satisfies Q a) t).0

swap_tests : (p q b : Bool) → ((p && q) && b) ≡ ((p && b) && q)
swap_tests true true b = sym (and-true b)
swap_tests true false b = elim (b) as (λ c. false ≡ (c && false)) [ true ↦ refl | false ↦ refl ]
swap_tests false q b = refl

swap_last : (P B Q : List Fact) (a : List ℤ) → satisfies ((P ++ Q) ++ B) a ≡ satisfies ((P ++ B) ++ Q) a
swap_last P B Q a =
    list_all-append (λ c. is_true (holds a c)) (P ++ Q) B ∙ (ap (λ t. t && satisfies B a) (list_all-append (λ c. is_true (holds a c)) P Q)
    ∙ (swap_tests (satisfies P a) (satisfies Q a) (satisfies B a)
    ∙ sym (list_all-append (λ c. is_true (holds a c)) (P ++ B) Q ∙ ap (λ t. t && satisfies Q a) (list_all-append (λ c. is_true (holds a c)) P B))))

some_is : (F G : Family) → Some F ≡ Some G → F ≡ G
some_is F G e = cc

-- ---- outcomes

-- an outcome without a Cut has the better ones of these assignments, and their best value
abbrev pub SolvesBest : Objective → Option ℤ → List (List ℤ) → Out → Type 0
SolvesBest g b S o = o.is_cut ≡ false → (solved o.marks ≡ improving_from g b S) × (o.best ≡ best_of g b S)

pub solves_same : (g : Objective) (b : Option ℤ) (L M : List (List ℤ)) (o : Out) → IsSame g b L M → SolvesBest g b L o → SolvesBest g b M o
solves_same g b L M o s h c = let r = h c in (r.0 ∙ s.improves, r.1 ∙ s.best)

same_back : (g : Objective) (b : Option ℤ) (L M : List (List ℤ)) → IsSame g b L M → IsSame g b M L
same_back g b L M s = record { improves = sym s.improves; best = sym s.best }

pub after_best : (g : Objective) (b : Option ℤ) (o : Out) (f : Option ℤ → ℕ → Out) (S T : List (List ℤ)) → SolvesBest g b S o → ((n : ℕ) → SolvesBest g (best_of g b S) T (f (best_of g b S) n)) → SolvesBest g b (S ++ T) (after o f)
after_best g b o f S T h k =
    elim (o.is_cut) as (λ c. o.is_cut ≡ c → SolvesBest g b (S ++ T) (cond c o (behind o.marks (f o.best o.left)))) [
      | true ↦ λ e i. cc
      | false ↦ λ e i.
          let r = h e in
          let q = subst (λ d. SolvesBest g (best_of g b S) T (f d o.left)) (sym r.1) (k o.left) i in (
            solved-append o.marks (f o.best o.left).marks ∙ (join_both (solved o.marks) (improving_from g b S) (solved (f o.best o.left).marks) (improving_from g (best_of g b S) T) r.0 q.0 ∙ sym (improving-append g b S T)),
            q.1 ∙ sym (best-append g b S T),
          )
    ] refl

alternatives_best : (x : ℕ) (g : Objective) (b : Option ℤ) (P : List Fact) (vs : List ℤ) (k : ℤ → Rest) (T : ℤ → List (List ℤ)) → ((v : ℤ) → member v vs ≡ true → (c : Option ℤ) → Tighter g b c → (n : ℕ) → SolvesBest g c (T v) (k v P c n)) →
    (c : Option ℤ) → Tighter g b c → (n : ℕ) → SolvesBest g c (flat_map T vs) (alternatives (by_value x k vs) P c n)
alternatives_best x g b P [] k T h c l n i = (refl, refl)
alternatives_best x g b P (v ∷ vs) k T h c l zero i = cc
alternatives_best x g b P (v ∷ vs) k T h c l (suc n) i =
    after_best g c (marked (choice (Some (x, v))) (k v P c n)) (alternatives (by_value x k vs) P) (T v) (flat_map T vs) (h v (member_first v vs) c l n)
    (λ m. alternatives_best x g b P vs k T (λ w j. h w (member_later w v vs j)) (best_of g c (T v)) (tighter_join g b c (best_of g c (T v)) l (best_tighter g c (T v))) m) i

-- ---- the sets of a moment

module _ (g : Objective) (D : Family) where
  abbrev with_bound : List Fact → Option ℤ → List Fact
  with_bound P b = P ++ bound (Some g) b

  same_closed : (P : List Fact) (b c : Option ℤ) → closed (Some g) D P b ≡ sets D (with_bound P b) c
  unfolding closed is_dead
  same_closed P b c = ap (λ cs. closure (λ F. list_any (is_refuted F) cs) D) (sym (append-nil (with_bound P b)))

  found_bound : (P : List Fact) (b : Option ℤ) → Defines (Some g) P → found D (with_bound P b) ≡ betters g b (found D P)
  found_bound P b d =
      found_alike (satisfies (with_bound P b)) (λ a. satisfies P a && is_better g (value a g.term) b) D (λ a i. bound_is g P b a d)
      ∙ sym (filter_both (satisfies P) (λ a. is_better g (value a g.term) b) (product D))

  bound_same : (P : List Fact) (b : Option ℤ) → Defines (Some g) P → IsSame g b (found D (with_bound P b)) (found D P)
  bound_same P b d = subst (λ L. IsSame g b L (found D P)) (sym (found_bound P b d)) (drop_worse g b b (found D P) (tighter_self g b))

  within_best : (next : Family → Rest) (P : List Fact) (b : Option ℤ) (n : ℕ) → Defines (Some g) P → clear_all (with_bound P b) ≡ true →
      ((C : Family) → closed (Some g) D P b ≡ Some C → SolvesBest g b (found D (with_bound P b)) (next C P b n)) → SolvesBest g b (found D P) (within (Some g) (closed (Some g) D) next P b n)
  unfolding within
  within_best next P b n d h k =
      elim (closed (Some g) D P b) as (λ o. closed (Some g) D P b ≡ o → SolvesBest g b (found D P) (entered next o P b n)) [
        | None ↦ λ e. solves_same g b (found D (with_bound P b)) (found D P) (nothing P b n) (bound_same P b d)
            (subst (λ L. SolvesBest g b L (nothing P b n)) (sym (failed_found D (with_bound P b) None h (sym (same_closed P b None) ∙ e))) (λ i. (refl, refl)))
        | Some C ↦ λ e. solves_same g b (found D (with_bound P b)) (found D P) (next C P b n) (bound_same P b d) (k C e)
      ] refl

  -- the variables before x have one value each, now and with each better value
  abbrev AreOneBetter : List Fact → ℕ → Option ℤ → Type 0
  AreOneBetter P x b = (c : Option ℤ) → Tighter g b c → (C : Family) → closed (Some g) D P c ≡ Some C → (y : ℕ) → y < x → IsOne C y

  ones_further : (P : List Fact) (b : Option ℤ) (x : ℕ) (C : Family) → AreOneBetter P x b → closed (Some g) D P b ≡ Some C → IsOne C x → AreOneBetter P (suc x) b
  ones_further P b x C o e i c l C' e' y k = elim (cases_order y x) [
    | inl s ↦
        let q = closed_tighter g D P b c C' l e' in
        let same : q.family ≡ C = some_is q.family C (sym q.is ∙ e) in
        (i.0, λ w m. i.1 w (subst (λ z. has C z w ≡ true) s (subst (λ F. has F y w ≡ true) same (q.above.sub y w m))))
    | inr d ↦ elim d [ inl j ↦ o c l C' e' y j | inr j ↦ absurd (omega arith) ]
  ]

  ones_after : (P : List Fact) (x : ℕ) (v : ℤ) (b c : Option ℤ) → AreOneBetter P x b → Tighter g b c → AreOneBetter (P ++ is_value x v ∷ []) (suc x) c
  ones_after P x v b c o l c' l' C e y k = elim (cases_order y x) [
    | inl s ↦ (v, λ w m. posted_is_single (Some g) D P c' x v w C e (subst (λ z. has C z w ≡ true) s m))
    | inr d ↦ elim d [
      | inl j ↦
          let q = posting_narrows (Some g) D P (is_value x v ∷ []) c' C e in
          let i = o c' (tighter_join g b c c' l l') q.family q.is y j in
          (i.0, λ w m. i.1 w (q.above.sub y w m))
      | inr j ↦ absurd (omega arith)
    ]
  ]

  -- the solutions, by the values of x
  split_same : (C : Family) (P : List Fact) (b : Option ℤ) (x : ℕ) → ((y : ℕ) → IsRising (set_of D y)) → Defines (Some g) P → clear_all (with_bound P b) ≡ true → closed (Some g) D P b ≡ Some C → x < length D → ((y : ℕ) → y < x → IsOne C y) →
      IsSame g b (flat_map (λ v. found D (P ++ is_value x v ∷ [])) (set_of C x)) (found D (with_bound P b))
  split_same C P b x r d h e l o =
      let blocks : betters g b (flat_map (λ v. found D (P ++ is_value x v ∷ [])) (set_of C x)) ≡ found D (with_bound P b) =
      filter_flat (λ a. is_better g (value a g.term) b) (λ v. found D (P ++ is_value x v ∷ [])) (set_of C x)
      ∙ (flat_alike (λ v. betters g b (found D (P ++ is_value x v ∷ []))) (λ v. found D (with_bound P b ++ is_value x v ∷ [])) (set_of C x)
      (λ v m. sym (found_bound (P ++ is_value x v ∷ []) b (defines_more g P (is_value x v ∷ []) d))
      ∙ found_alike (satisfies (with_bound (P ++ is_value x v ∷ []) b)) (satisfies (with_bound P b ++ is_value x v ∷ [])) D (λ a i. swap_last P (bound (Some g) b) (is_value x v ∷ []) a))
      ∙ found_split D C (with_bound P b) None x r h (sym (same_closed P b None) ∙ e) l o) in
      same_back g b (found D (with_bound P b)) (flat_map (λ v. found D (P ++ is_value x v ∷ [])) (set_of C x))
      (subst (λ L. IsSame g b L (flat_map (λ v. found D (P ++ is_value x v ∷ [])) (set_of C x))) blocks (drop_worse g b b (flat_map (λ v. found D (P ++ is_value x v ∷ [])) (set_of C x)) (tighter_self g b)))

  leaf_best : (C : Family) (P : List Fact) (b : Option ℤ) (n : ℕ) → ((y : ℕ) → IsRising (set_of D y)) → Defines (Some g) P → clear_all (with_bound P b) ≡ true → closed (Some g) D P b ≡ Some C → ((y : ℕ) → y < length D → IsOne C y) →
      SolvesBest g b (found D (with_bound P b)) (record { marks = solution (values_of C) ∷ []; best = best_after (Some g) (values_of C) b; left = n; is_cut = false })
  leaf_best C P b n r d h e o i =
      let one = leaf_found D C (with_bound P b) None r h o (sym (same_closed P b None) ∙ e) in
      let better : is_better g (value (values_of C) g.term) b ≡ true = filter_first (λ a. is_better g (value a g.term) b) (found D P) [] (values_of C) (sym (found_bound P b d) ∙ sym one) in
      (sym (ap (improving_from g b) (sym one) ∙ rw better refl), sym (ap (best_of g b) (sym one) ∙ rw better refl))

  pub label_best : ((y : ℕ) → IsRising (set_of D y)) → clear g.term ≡ true → (m x : ℕ) → x + m ≡ length D → (P : List Fact) → clear_all P ≡ true → Defines (Some g) P → (b : Option ℤ) → AreOneBetter P x b → (n : ℕ) →
      SolvesBest g b (found D P) (label (Some g) (closed (Some g) D) (numbers_from x m) (whole_leaf (Some g) (closed (Some g) D)) P b n)
  label_best r t zero x l P h d b o n =
      within_best (λ C. whole_leaf (Some g) (closed (Some g) D)) P b n d (clear_bound g P b t h)
      (λ C e. solves_same g b (found D P) (found D (with_bound P b)) (whole_leaf (Some g) (closed (Some g) D) P b n) (same_back g b (found D (with_bound P b)) (found D P) (bound_same P b d))
      (within_best (λ C P b n. record { marks = solution (values_of C) ∷ []; best = best_after (Some g) (values_of C) b; left = n; is_cut = false }) P b n d (clear_bound g P b t h)
      (λ C' e'. leaf_best C' P b n r d (clear_bound g P b t h) e' (λ y k. o b (tighter_self g b) C' e' y (omega arith)))))
  label_best r t (suc m) x l P h d b o n =
      within_best
      (λ C. cond (is_single C x) (label (Some g) (closed (Some g) D) (numbers_from (suc x) m) (whole_leaf (Some g) (closed (Some g) D)))
      (alternatives (by_value x (λ v P. label (Some g) (closed (Some g) D) (numbers_from (suc x) m) (whole_leaf (Some g) (closed (Some g) D)) (P ++ is_value x v ∷ [])) (set_of C x))))
      P b n d (clear_bound g P b t h)
      (λ C e.
      let s = closed_stable (Some g) D P b C e in
      let length_is = s.within.same in
      elim (is_single C x) as (λ q. is_single C x ≡ q → SolvesBest g b (found D (with_bound P b)) (cond q (label (Some g) (closed (Some g) D) (numbers_from (suc x) m) (whole_leaf (Some g) (closed (Some g) D)))
      (alternatives (by_value x (λ v P. label (Some g) (closed (Some g) D) (numbers_from (suc x) m) (whole_leaf (Some g) (closed (Some g) D)) (P ++ is_value x v ∷ [])) (set_of C x))) P b n)) [
        | true ↦ λ q.
            solves_same g b (found D P) (found D (with_bound P b)) (label (Some g) (closed (Some g) D) (numbers_from (suc x) m) (whole_leaf (Some g) (closed (Some g) D)) P b n) (same_back g b (found D (with_bound P b)) (found D P) (bound_same P b d))
            (label_best r t m (suc x) (omega arith) P h d b (ones_further P b x C o e (one_from_single C x 0 q s.stable.full (omega (arith, length_is)))) n)
        | false ↦ λ q.
            solves_same g b (flat_map (λ v. found D (P ++ is_value x v ∷ [])) (set_of C x)) (found D (with_bound P b))
            (alternatives (by_value x (λ v P. label (Some g) (closed (Some g) D) (numbers_from (suc x) m) (whole_leaf (Some g) (closed (Some g) D)) (P ++ is_value x v ∷ [])) (set_of C x)) P b n)
            (split_same C P b x r d (clear_bound g P b t h) e (omega arith) (o b (tighter_self g b) C e))
            (alternatives_best x g b P (set_of C x) (λ v P. label (Some g) (closed (Some g) D) (numbers_from (suc x) m) (whole_leaf (Some g) (closed (Some g) D)) (P ++ is_value x v ∷ [])) (λ v. found D (P ++ is_value x v ∷ []))
            (λ v i c k n'. label_best r t m (suc x) (omega arith) (P ++ is_value x v ∷ []) (clear_posted P x v h) (defines_more g P (is_value x v ∷ []) d) c (ones_after P x v b c o k) n') b (tighter_self g b) n)
      ] refl)

pub best_found : BestFound
unfolding trace
best_found g D P n r h t d c = (label_best g D r t (length D) zero (omega arith) P h d None (λ b l C e y k. absurd (omega arith)) n c).0
