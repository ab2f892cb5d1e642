-- Default search without an objective finds all solutions, in their order.
use Rattle.std.proofs.Common.{◌≡◌, ◌∙◌, ℕ, zero, suc, ◌+◌, ◌<◌, Bool, true, false, cond, ◌&&◌, refl, List, [], ◌∷◌, ◌++◌, length, ℤ, inl, inr, ap, sym, subst, arith, append-nil}
use Rattle.std.specs.Prelude.{Option, Some, None}
use Rattle.std.specs.List.{list_any, filter, flat_map}
use Rattle.std.specs.Ordering.{int_eq}
use Rattle.std.proofs.lemmas.Int.{ints}
use Rattle.std.proofs.lemmas.Bool.{and_parts, and_from, cases_order, eqb-true}
use Rattle.std.proofs.lemmas.Bool.Decides.{Decides-int_eq}
use Rattle.std.proofs.lemmas.List.Folds.{list_all-append}
use Rattle.opl_domain.specs.Family.{member, IsRising, Family, set_of, has, only, Below, Full}
use Rattle.opl_domain.proofs.Members.{member_first, member_later, same_int}
use Rattle.opl_domain.proofs.Sets.{filter_rises, length-only}
use Rattle.std.proofs.Math.Bool.{and-true}
use Rattle.opl_expr.specs.Forms.{Fact}
use Rattle.opl_expr.specs.Holds.{holds, value_at}
use Rattle.opl_expr.specs.Solutions.{is_true, is_among}
use Rattle.opl_expr.specs.Laws.{singles, clear_fact}
use Rattle.opl_trace.specs.Closure.{families, is_stable, is_in_stable, restrict, closure}
use Rattle.opl_trace.specs.ClosureLaws.{IsBelowSome}
use Rattle.opl_trace.specs.Answers.{is_single, is_value}
use Rattle.opl_trace.specs.Objective.{best_after}
use Rattle.opl_trace.specs.Solutions.{product, satisfies}
use Rattle.opl_trace.specs.Run.{Mark, Out, Rest, marked, behind, after, by_value, alternatives, values_of, is_dead, closed, entered, within, whole_leaf, label}
use Rattle.opl_trace.specs.Run.Mark.{choice, leaf, solution, cut}
use Rattle.opl_trace.specs.Marks.{numbers_from, trace, solved}
use Rattle.opl_trace.specs.SearchLaws.{clear_all, AllFound}
use Rattle.opl_trace.proofs.Passing.{false_unless}
use Rattle.opl_trace.proofs.Families.{set_of-restrict, from_restrict, from_only}
use Rattle.opl_trace.proofs.SweepLaws.{restrict_twice}
use Rattle.opl_trace.proofs.Constraints.{solutions_stay, singles_hold}
use Rattle.opl_trace.proofs.Removals.{is_place, place_is, one_member}
use Rattle.opl_trace.proofs.Posting.{closed_stable, posting_narrows, posted_is_single}
use Rattle.opl_trace.proofs.Products.{filter_flat, flat_alike, none_found, found_alike, kept_found, split, keeps_value, only_restrict, join_both, among_below, kept_of, value_is, value_has}

-- the sets at a moment, without an objective
abbrev pub sets : Family → List Fact → Option ℤ → Option Family
sets D = closed None D

-- ---- the shape of the closure

-- it has some of the values of D, in their order
pub record IsPartOf (D C : Family) : Type 0 where
  pub keeps : ℕ → ℤ → Bool
  pub is_kept : C ≡ restrict keeps D

abbrev pub PartOrNone : Family → Option Family → Type 0
PartOrNone D None = Unit {0}
PartOrNone D (Some C) = IsPartOf D C

pub closure_part : (dead : Family → Bool) (D : Family) → PartOrNone D (closure dead D)
unfolding closure
closure_part dead D = elim (list_any (is_stable dead) (families D)) as (λ b. PartOrNone D (cond b (Some (restrict (is_in_stable dead D) D)) None)) [
  | true ↦ record { keeps = is_in_stable dead D; is_kept = refl }
  | false ↦ tt
]

pub sets_part : (D : Family) (P : List Fact) (b : Option ℤ) (C : Family) → sets D P b ≡ Some C → IsPartOf D C
unfolding closed
sets_part D P b C e = subst (λ o. PartOrNone D o) e (closure_part (is_dead None P b) D)

pub part_rises : (D C : Family) (x : ℕ) → IsPartOf D C → IsRising (set_of D x) → IsRising (set_of C x)
part_rises D C x p r = subst (λ F. IsRising (set_of F x)) (sym p.is_kept) (subst (λ vs. IsRising vs) (sym (set_of-restrict p.keeps D x)) (filter_rises (p.keeps x) (set_of D x) r))

pub single_from : (vs : List ℤ) (u : ℤ) → IsRising vs → member u vs ≡ true → ((w : ℤ) → member w vs ≡ true → w ≡ u) → vs ≡ u ∷ []
single_from [] u r m h = cc
single_from (v ∷ []) u r m h = let e = h v (member_first v []) in rw e refl
single_from (v ∷ w ∷ vs) u r m h =
    let e = h v (member_first v (w ∷ vs)) in
    let f = h w (member_later w v (w ∷ vs) (member_first w vs)) in
    absurd (omega (arith, ints, r.0 w (member_first w vs), e, f))

-- all values of variable x are one
abbrev pub IsOne : Family → ℕ → Type 0
IsOne C x = (u : ℤ) × ((w : ℤ) → has C x w ≡ true → w ≡ u)

pub one_set : (C : Family) (x : ℕ) → IsRising (set_of C x) → Full C → x < length C → IsOne C x → (u : ℤ) × (set_of C x ≡ u ∷ [])
one_set C x r f l o =
    let g = f x l in
    (o.0, single_from (set_of C x) o.0 r (subst (λ w. has C x w ≡ true) (o.1 g.0 g.1) g.1) o.1)

-- ---- solutions and the closure

pub clear_none : (P : List Fact) → clear_all P ≡ true → clear_all (P ++ []) ≡ true
clear_none P h = rw (append-nil P) h

pub satisfies_none : (P : List Fact) (a : List ℤ) → satisfies P a ≡ true → satisfies (P ++ []) a ≡ true
satisfies_none P a h = rw (append-nil P) h

pub stays_in : (D : Family) (P : List Fact) (b : Option ℤ) (a : List ℤ) → clear_all P ≡ true → is_among a D ≡ true → satisfies P a ≡ true → IsBelowSome (singles a) (sets D P b)
stays_in D P b a h i s = solutions_stay None D P b a (clear_none P h) (satisfies_none P a s) (among_below a D i)

-- what the constraints leave of all assignments
abbrev pub found : Family → List Fact → List (List ℤ)
found D P = filter (satisfies P) (product D)

pub failed_found : (D : Family) (P : List Fact) (b : Option ℤ) → clear_all P ≡ true → sets D P b ≡ None → found D P ≡ []
failed_found D P b h e = none_found (satisfies P) D (λ a i. false_unless (satisfies P a) (λ s. subst (λ o. IsBelowSome (singles a) o) e (stays_in D P b a h i s)))

pub in_closure : (D C : Family) (P : List Fact) (b : Option ℤ) (a : List ℤ) → clear_all P ≡ true → sets D P b ≡ Some C → is_among a D ≡ true → satisfies P a ≡ true → Below (singles a) C
in_closure D C P b a h e i s = subst (λ o. IsBelowSome (singles a) o) e (stays_in D P b a h i s)

pub found_in : (D C : Family) (P : List Fact) (b : Option ℤ) → clear_all P ≡ true → sets D P b ≡ Some C → filter (satisfies P) (product C) ≡ found D P
found_in D C P b h e =
    let p = sets_part D P b C e in
    subst (λ F. filter (satisfies P) (product F) ≡ found D P) (sym p.is_kept)
    (kept_found p.keeps (satisfies P) D (λ a i s. kept_of p.keeps a (λ y w m.
    (from_restrict p.keeps D y w (subst (λ F. has F y w ≡ true) p.is_kept ((in_closure D C P b a h e i s).sub y w m))).1)))

-- ---- one more constraint `x = v`

pub posted_true : (P : List Fact) (x : ℕ) (v : ℤ) (a : List ℤ) → satisfies (P ++ is_value x v ∷ []) a ≡ true → (satisfies P a ≡ true) × (value_at a x ≡ v)
posted_true P x v a s =
    let t : (satisfies P a && (int_eq (value_at a x) v && true)) ≡ true = sym (list_all-append (λ c. is_true (holds a c)) P (is_value x v ∷ [])) ∙ s in
    let r = and_parts (satisfies P a) (int_eq (value_at a x) v && true) t in
    (r.0, same_int (value_at a x) v (and_parts (int_eq (value_at a x) v) true r.1).0)

pub posted_is : (P : List Fact) (x : ℕ) (v : ℤ) (a : List ℤ) → value_at a x ≡ v → satisfies P a ≡ satisfies (P ++ is_value x v ∷ []) a
posted_is P x v a e =
    let i = (Decides-int_eq (value_at a x) v).1 e in
    let t : satisfies (P ++ is_value x v ∷ []) a ≡ (satisfies P a && (int_eq (value_at a x) v && true)) = list_all-append (λ c. is_true (holds a c)) P (is_value x v ∷ []) in
    let k : (satisfies P a && (int_eq (value_at a x) v && true)) ≡ satisfies P a = rw i (and-true (satisfies P a)) in
    sym (t ∙ k)

pub clear_posted : (P : List Fact) (x : ℕ) (v : ℤ) → clear_all P ≡ true → clear_all (P ++ is_value x v ∷ []) ≡ true
clear_posted P x v h = list_all-append clear_fact P (is_value x v ∷ []) ∙ rw h refl

pub only_value : (C : Family) (x : ℕ) (v : ℤ) (a : List ℤ) → x < length C → Below (singles a) (only C x v) → value_at a x ≡ v
only_value C x v a l b =
    let m = b.sub x (value_at a x) (value_has a x (omega (arith, b.same, length-only C x v))) in
    elim (from_only C x x v (value_at a x) m) [ inl e ↦ e.1 | inr n ↦ absurd (n.0 refl) ]

pub value_kept : (x : ℕ) (v : ℤ) (y : ℕ) (w : ℤ) (a : List ℤ) → has (singles a) y w ≡ true → value_at a x ≡ v → keeps_value x v y w ≡ true
value_kept x v y w a m e = elim (is_place y x) as (λ b. is_place y x ≡ b → cond b (int_eq w v) true ≡ true) [
  | true ↦ λ i. (Decides-int_eq w v).1 (sym (value_is a x w (subst (λ z. has (singles a) z w ≡ true) (place_is y x i) m)) ∙ e)
  | false ↦ λ i. refl
] refl

-- the solutions with the value v of x, for a value that x has
pub found_value : (D C : Family) (P : List Fact) (b : Option ℤ) (x : ℕ) (v : ℤ) → clear_all P ≡ true → sets D P b ≡ Some C → IsRising (set_of C x) → x < length C → has C x v ≡ true → filter (satisfies P) (product (only C x v)) ≡ found D (P ++ is_value x v ∷ [])
found_value D C P b x v h e r l m =
    let p = sets_part D P b C e in
    let shape : only C x v ≡ restrict (λ y w. p.keeps y w && keeps_value x v y w) D =
    only_restrict C x v r m ∙ (ap (restrict (keeps_value x v)) p.is_kept ∙ restrict_twice p.keeps (keeps_value x v) D) in
    found_alike (satisfies P) (satisfies (P ++ is_value x v ∷ [])) (only C x v) (λ a i. posted_is P x v a (only_value C x v a l (among_below a (only C x v) i)))
    ∙ subst (λ F. filter (satisfies (P ++ is_value x v ∷ [])) (product F) ≡ found D (P ++ is_value x v ∷ [])) (sym shape)
    (kept_found (λ y w. p.keeps y w && keeps_value x v y w) (satisfies (P ++ is_value x v ∷ [])) D (λ a i s.
    let t = posted_true P x v a s in
    kept_of (λ y w. p.keeps y w && keeps_value x v y w) a (λ y w k.
    and_from (p.keeps y w) (keeps_value x v y w)
    (from_restrict p.keeps D y w (subst (λ F. has F y w ≡ true) p.is_kept ((in_closure D C P b a h e i t.0).sub y w k))).1
    (value_kept x v y w a k t.1))))

-- the solutions, by the values of x, where the variables before it have one value each
pub found_split : (D C : Family) (P : List Fact) (b : Option ℤ) (x : ℕ) → ((y : ℕ) → IsRising (set_of D y)) → clear_all P ≡ true → sets D P b ≡ Some C → x < length D → ((y : ℕ) → y < x → IsOne C y) →
    flat_map (λ v. found D (P ++ is_value x v ∷ [])) (set_of C x) ≡ found D P
found_split D C P b x r h e l o =
    let s = closed_stable None D P b C e in
    let p = sets_part D P b C e in
    let length_is = s.within.same in
    sym (flat_alike (λ v. filter (satisfies P) (product (only C x v))) (λ v. found D (P ++ is_value x v ∷ [])) (set_of C x)
    (λ v m. found_value D C P b x v h e (part_rises D C x p (r x)) (omega (arith, length_is)) m))
    ∙ (sym (filter_flat (satisfies P) (λ v. product (only C x v)) (set_of C x))
    ∙ (ap (filter (satisfies P)) (sym (split C x (λ y k. one_set C y (part_rises D C y p (r y)) s.stable.full (omega (arith, length_is)) (o y k)) (omega (arith, length_is))))
    ∙ found_in D C P b h e))

-- ---- marks

pub solved-append : (ms ns : List Mark) → solved (ms ++ ns) ≡ solved ms ++ solved ns
solved-append [] ns = refl
solved-append (choice t ∷ ms) ns = solved-append ms ns
solved-append (leaf P ∷ ms) ns = solved-append ms ns
solved-append (solution a ∷ ms) ns = ap (λ as'. a ∷ as') (solved-append ms ns)
solved-append (cut ∷ ms) ns = solved-append ms ns

-- an outcome without a Cut has just these solutions
abbrev pub Solves : List (List ℤ) → Out → Type 0
Solves S o = o.is_cut ≡ false → solved o.marks ≡ S

pub after_solves : (o : Out) (f : Option ℤ → ℕ → Out) (S T : List (List ℤ)) → Solves S o → ((b : Option ℤ) (n : ℕ) → Solves T (f b n)) → Solves (S ++ T) (after o f)
after_solves o f S T h g =
    elim (o.is_cut) as (λ c. o.is_cut ≡ c → Solves (S ++ T) (cond c o (behind o.marks (f o.best o.left)))) [
      | true ↦ λ e k. cc
      | false ↦ λ e k. solved-append o.marks (f o.best o.left).marks ∙ join_both (solved o.marks) S (solved (f o.best o.left).marks) T (h e) (g o.best o.left k)
    ] refl

pub alternatives_solve : (x : ℕ) (P : List Fact) (vs : List ℤ) (k : ℤ → Rest) (T : ℤ → List (List ℤ)) → ((v : ℤ) → member v vs ≡ true → (b : Option ℤ) (n : ℕ) → Solves (T v) (k v P b n)) → (b : Option ℤ) (n : ℕ) → Solves (flat_map T vs) (alternatives (by_value x k vs) P b n)
alternatives_solve x P [] k T h b n c = refl
alternatives_solve x P (v ∷ vs) k T h b zero c = cc
alternatives_solve x P (v ∷ vs) k T h b (suc n) c =
    after_solves (marked (choice (Some (x, v))) (k v P b n)) (alternatives (by_value x k vs) P) (T v) (flat_map T vs) (h v (member_first v vs) b n)
    (alternatives_solve x P vs k T (λ w m. h w (member_later w v vs m))) c

pub within_solves : (D : Family) (next : Family → Rest) (P : List Fact) (b : Option ℤ) (n : ℕ) (S : List (List ℤ)) → (sets D P b ≡ None → S ≡ []) → ((C : Family) → sets D P b ≡ Some C → Solves S (next C P b n)) → Solves S (within None (sets D) next P b n)
unfolding within
within_solves D next P b n S h g =
    elim (sets D P b) as (λ o. sets D P b ≡ o → Solves S (entered next o P b n)) [
      | None ↦ λ e c. sym (h e)
      | Some C ↦ λ e. g C e
    ] refl

-- ---- one value for each variable

pub all_single : (C : Family) → ((y : ℕ) → y < length C → (u : ℤ) × (set_of C y ≡ u ∷ [])) → C ≡ singles (values_of C)
unfolding set_of
all_single [] h = refl
all_single (vs ∷ C) h =
    let r = h zero (omega arith) in
    let i = all_single C (λ y l. h (suc y) (omega arith)) in
    rw r.1 (ap (λ F. (r.0 ∷ []) ∷ F) i)

pub product_singles : (a : List ℤ) → product (singles a) ≡ a ∷ []
product_singles [] = refl
product_singles (v ∷ a) = rw (product_singles a) refl

pub filter_true : (q : List ℤ → Bool) (a : List ℤ) → q a ≡ true → filter q (a ∷ []) ≡ a ∷ []
filter_true q a e = rw e refl

-- the variables before x have one value each
abbrev pub AreOne : Family → List Fact → ℕ → Type 0
AreOne D P x = (b : Option ℤ) (C : Family) → sets D P b ≡ Some C → (y : ℕ) → y < x → IsOne C y

pub leaf_found : (D C : Family) (P : List Fact) (b : Option ℤ) → ((y : ℕ) → IsRising (set_of D y)) → clear_all P ≡ true → ((y : ℕ) → y < length D → IsOne C y) → sets D P b ≡ Some C → values_of C ∷ [] ≡ found D P
leaf_found D C P b r h o e =
    let s = closed_stable None D P b C e in
    let p = sets_part D P b C e in
    let length_is = s.within.same in
    let single : C ≡ singles (values_of C) = all_single C (λ y l. one_set C y (part_rises D C y p (r y)) s.stable.full l (o y (omega (arith, length_is)))) in
    let holds_all : satisfies P (values_of C) ≡ true = subst (λ Q. satisfies Q (values_of C) ≡ true) (append-nil P) (singles_hold None D P b (values_of C) (clear_none P h) (e ∙ ap (λ F. Some F) single)) in
    sym (filter_true (satisfies P) (values_of C) holds_all)
    ∙ (ap (filter (satisfies P)) (sym (ap product single ∙ product_singles (values_of C)))
    ∙ found_in D C P b h e)

pub same_sets : (D : Family) (P : List Fact) (b c : Option ℤ) → sets D P b ≡ sets D P c
unfolding closed is_dead
same_sets D P b c = refl

pub one_from_single : (C : Family) (x : ℕ) (l : ℕ) → is_single C x ≡ true → Full C → x < length C → IsOne C x
one_from_single C x l e f i = let g = f x i in (g.0, λ w m. one_member (set_of C x) g.0 w (eqb-true (length (set_of C x)) 1 e) g.1 m)

pub some_same : (F G : Family) → Some F ≡ Some G → F ≡ G
some_same F G e = cc

-- one more single variable
pub ones_more : (D C : Family) (P : List Fact) (b : Option ℤ) (x : ℕ) → AreOne D P x → sets D P b ≡ Some C → IsOne C x → AreOne D P (suc x)
ones_more D C P b x o e i c C' e' y l = elim (cases_order y x) [
  | inl s ↦ let same : C' ≡ C = some_same C' C (sym e' ∙ (same_sets D P c b ∙ e)) in subst (λ F. IsOne F y) (sym same) (subst (λ z. IsOne C z) (sym s) i)
  | inr d ↦ elim d [ inl k ↦ o c C' e' y k | inr k ↦ absurd (omega arith) ]
]

-- one more posted variable
pub ones_posted : (D : Family) (P : List Fact) (x : ℕ) (v : ℤ) → AreOne D P x → AreOne D (P ++ is_value x v ∷ []) (suc x)
ones_posted D P x v o c C e y l = elim (cases_order y x) [
  | inl s ↦ (v, λ w m. posted_is_single None D P c x v w C e (subst (λ z. has C z w ≡ true) s m))
  | inr d ↦ elim d [
    | inl k ↦
        let q = posting_narrows None D P (is_value x v ∷ []) c C e in
        let i = o c q.family q.is y k in
        (i.0, λ w m. i.1 w (q.above.sub y w m))
    | inr k ↦ absurd (omega arith)
  ]
]

-- ---- labelling

pub label_found : (D : Family) → ((y : ℕ) → IsRising (set_of D y)) → (m x : ℕ) → x + m ≡ length D → (P : List Fact) → clear_all P ≡ true → AreOne D P x → (b : Option ℤ) (n : ℕ) →
    Solves (found D P) (label None (sets D) (numbers_from x m) (whole_leaf None (sets D)) P b n)
label_found D r zero x l P h o b n =
    within_solves D (λ C. whole_leaf None (sets D)) P b n (found D P) (failed_found D P b h)
    (λ C e. within_solves D (λ C P b n. record { marks = solution (values_of C) ∷ []; best = best_after None (values_of C) b; left = n; is_cut = false }) P b n (found D P) (failed_found D P b h)
    (λ C' e' c. leaf_found D C' P b r h (λ y k. o b C' e' y (omega arith)) e'))
label_found D r (suc m) x l P h o b n =
    within_solves D
    (λ C. cond (is_single C x) (label None (sets D) (numbers_from (suc x) m) (whole_leaf None (sets D)))
    (alternatives (by_value x (λ v P. label None (sets D) (numbers_from (suc x) m) (whole_leaf None (sets D)) (P ++ is_value x v ∷ [])) (set_of C x))))
    P b n (found D P) (failed_found D P b h)
    (λ C e.
    let s = closed_stable None D P b C e in
    let length_is = s.within.same in
    elim (is_single C x) as (λ t. is_single C x ≡ t → Solves (found D P) (cond t (label None (sets D) (numbers_from (suc x) m) (whole_leaf None (sets D)))
    (alternatives (by_value x (λ v P. label None (sets D) (numbers_from (suc x) m) (whole_leaf None (sets D)) (P ++ is_value x v ∷ [])) (set_of C x))) P b n)) [
      | true ↦ λ t.
          label_found D r m (suc x) (omega arith) P h (ones_more D C P b x o e (one_from_single C x 0 t s.stable.full (omega (arith, length_is)))) b n
      | false ↦ λ t c.
          alternatives_solve x P (set_of C x) (λ v P. label None (sets D) (numbers_from (suc x) m) (whole_leaf None (sets D)) (P ++ is_value x v ∷ [])) (λ v. found D (P ++ is_value x v ∷ []))
          (λ v i b' n'. label_found D r m (suc x) (omega arith) (P ++ is_value x v ∷ []) (clear_posted P x v h) (ones_posted D P x v o) b' n') b n c
          ∙ found_split D C P b x r h e (omega arith) (o b C e)
    ] refl)

pub all_found : AllFound
unfolding trace
all_found D P n r h c = label_found D r (length D) zero (omega arith) P h (λ b C e y l. absurd (omega arith)) None n c
