-- Products of sets, filtered.
use Rattle.std.proofs.Common.{◌≡◌, ◌∙◌, ℕ, zero, suc, ◌<◌, Bool, true, false, cond, ◌&&◌, refl, List, [], ◌∷◌, ◌++◌, map, length, ℤ, inl, inr, ap, sym, subst, arith, append-nil}
use Rattle.std.specs.List.{filter, flat_map}
use Rattle.std.specs.Ordering.{int_eq}
use Rattle.std.proofs.lemmas.Int.{ints}
use Rattle.std.proofs.lemmas.Bool.{and_parts, and_from}
use Rattle.std.proofs.lemmas.Bool.Decides.{Decides-int_eq}
use Rattle.std.proofs.lemmas.List.Elements.{filter-append}
use Rattle.opl_domain.specs.Family.{member, IsRising, Family, set_of, has, only, Below}
use Rattle.opl_domain.proofs.Members.{member_cases, member_first, member_later}
use Rattle.opl_expr.specs.Laws.{singles}
use Rattle.opl_expr.specs.Holds.{value_at}
use Rattle.opl_expr.specs.Solutions.{is_among}
use Rattle.opl_trace.specs.Closure.{restrict}
use Rattle.opl_trace.specs.Solutions.{product}
use Rattle.opl_trace.proofs.Passing.{false_unless}
use Rattle.opl_trace.proofs.Families.{below_self, below_cons}
use Rattle.opl_trace.proofs.SweepLaws.{restrict_all, filter_all}
use Rattle.opl_trace.proofs.Removals.{is_place}

-- ---- lists made of lists

pub filter_flat : {X A : Type 0} (q : A → Bool) (f : X → List A) (xs : List X) → filter q (flat_map f xs) ≡ flat_map (λ x. filter q (f x)) xs
filter_flat q f [] = refl
filter_flat q f (x ∷ xs) = filter-append q (f x) (flat_map f xs) ∙ ap (λ ys. filter q (f x) ++ ys) (filter_flat q f xs)

filter_map_is : {X A : Type 0} (q : A → Bool) (f : X → A) (xs : List X) → filter q (map f xs) ≡ map f (filter (λ x. q (f x)) xs)
filter_map_is q f [] = refl
filter_map_is q f (x ∷ xs) = elim (q (f x)) as (λ b. cond b (f x ∷ filter q (map f xs)) (filter q (map f xs)) ≡ map f (cond b (x ∷ filter (λ y. q (f y)) xs) (filter (λ y. q (f y)) xs))) [
  | true ↦ ap (λ ys. f x ∷ ys) (filter_map_is q f xs)
  | false ↦ filter_map_is q f xs
]

map_append : {X A : Type 0} (f : X → A) (xs ys : List X) → map f (xs ++ ys) ≡ map f xs ++ map f ys
map_append f [] ys = refl
map_append f (x ∷ xs) ys = ap (λ zs. f x ∷ zs) (map_append f xs ys)

map_flat : {X A B : Type 0} (f : A → B) (g : X → List A) (xs : List X) → map f (flat_map g xs) ≡ flat_map (λ x. map f (g x)) xs
map_flat f g [] = refl
map_flat f g (x ∷ xs) = map_append f (g x) (flat_map g xs) ∙ ap (λ ys. map f (g x) ++ ys) (map_flat f g xs)

pub join_both : {A : Type 0} (xs xs' ys ys' : List A) → xs ≡ xs' → ys ≡ ys' → xs ++ ys ≡ xs' ++ ys'
join_both xs xs' ys ys' e f = rw (e, f) refl

pub flat_alike : {A : Type 0} (f g : ℤ → List A) (vs : List ℤ) → ((v : ℤ) → member v vs ≡ true → f v ≡ g v) → flat_map f vs ≡ flat_map g vs
flat_alike f g [] h = refl
flat_alike f g (v ∷ vs) h = join_both (f v) (g v) (flat_map f vs) (flat_map g vs) (h v (member_first v vs)) (flat_alike f g vs (λ w m. h w (member_later w v vs m)))

flat_none : {A : Type 0} (f : ℤ → List A) (vs : List ℤ) → ((v : ℤ) → member v vs ≡ true → f v ≡ []) → flat_map f vs ≡ []
flat_none f [] h = refl
flat_none f (v ∷ vs) h = join_both (f v) [] (flat_map f vs) [] (h v (member_first v vs)) (flat_none f vs (λ w m. h w (member_later w v vs m)))

-- the lists of the members that pass a test, where those of the others are empty
flat_kept : {A : Type 0} (p : ℤ → Bool) (f g : ℤ → List A) (vs : List ℤ) → ((v : ℤ) → member v vs ≡ true → p v ≡ true → f v ≡ g v) → ((v : ℤ) → member v vs ≡ true → p v ≡ false → g v ≡ []) → flat_map f (filter p vs) ≡ flat_map g vs
flat_kept p f g [] h k = refl
flat_kept p f g (v ∷ vs) h k =
    let i = flat_kept p f g vs (λ w m. h w (member_later w v vs m)) (λ w m. k w (member_later w v vs m)) in
    elim (p v) as (λ b. p v ≡ b → flat_map f (cond b (v ∷ filter p vs) (filter p vs)) ≡ g v ++ flat_map g vs) [
      | true ↦ λ e. join_both (f v) (g v) (flat_map f (filter p vs)) (flat_map g vs) (h v (member_first v vs) e) i
      | false ↦ λ e. i ∙ sym (join_both (g v) [] (flat_map g vs) (flat_map g vs) (k v (member_first v vs) e) refl)
    ] refl

-- ---- filtered products

heads : (q : List ℤ → Bool) (D : Family) (vs : List ℤ) → filter q (product (vs ∷ D)) ≡ flat_map (λ v. map (λ a. v ∷ a) (filter (λ a. q (v ∷ a)) (product D))) vs
heads q D vs =
    filter_flat q (λ v. map (λ a. v ∷ a) (product D)) vs
    ∙ flat_alike (λ v. filter q (map (λ a. v ∷ a) (product D))) (λ v. map (λ a. v ∷ a) (filter (λ a. q (v ∷ a)) (product D))) vs
    (λ v m. filter_map_is q (λ a. v ∷ a) (product D))

pub none_found : (q : List ℤ → Bool) (D : Family) → ((a : List ℤ) → is_among a D ≡ true → q a ≡ false) → filter q (product D) ≡ []
none_found q [] h = rw (h [] refl) refl
none_found q (vs ∷ D) h =
    heads q D vs
    ∙ flat_none (λ v. map (λ a. v ∷ a) (filter (λ a. q (v ∷ a)) (product D))) vs
    (λ v m. ap (map (λ a. v ∷ a)) (none_found (λ a. q (v ∷ a)) D (λ a i. h (v ∷ a) (and_from (member v vs) (is_among a D) m i))))

pub found_alike : (q r : List ℤ → Bool) (D : Family) → ((a : List ℤ) → is_among a D ≡ true → q a ≡ r a) → filter q (product D) ≡ filter r (product D)
found_alike q r [] h = rw (h [] refl) refl
found_alike q r (vs ∷ D) h =
    heads q D vs
    ∙ (flat_alike (λ v. map (λ a. v ∷ a) (filter (λ a. q (v ∷ a)) (product D))) (λ v. map (λ a. v ∷ a) (filter (λ a. r (v ∷ a)) (product D))) vs
    (λ v m. ap (map (λ a. v ∷ a)) (found_alike (λ a. q (v ∷ a)) (λ a. r (v ∷ a)) D (λ a i. h (v ∷ a) (and_from (member v vs) (is_among a D) m i))))
    ∙ sym (heads r D vs))

-- a test keeps each value of the assignment
abbrev pub all_kept : (ℕ → ℤ → Bool) → List ℤ → Bool
all_kept keeps [] = true
all_kept keeps (v ∷ a) = keeps zero v && all_kept (λ x. keeps (suc x)) a

-- restricted sets have what passes a test, where that is kept
pub kept_found : (keeps : ℕ → ℤ → Bool) (q : List ℤ → Bool) (D : Family) → ((a : List ℤ) → is_among a D ≡ true → q a ≡ true → all_kept keeps a ≡ true) → filter q (product (restrict keeps D)) ≡ filter q (product D)
kept_found keeps q [] h = refl
kept_found keeps q (vs ∷ D) h =
    let later : ℕ → ℤ → Bool = λ x. keeps (suc x) in
    heads q (restrict later D) (filter (keeps zero) vs)
    ∙ (flat_kept (keeps zero) (λ v. map (λ a. v ∷ a) (filter (λ a. q (v ∷ a)) (product (restrict (λ x. keeps (suc x)) D)))) (λ v. map (λ a. v ∷ a) (filter (λ a. q (v ∷ a)) (product D))) vs
    (λ v m e. ap (map (λ a. v ∷ a)) (kept_found (λ x. keeps (suc x)) (λ a. q (v ∷ a)) D
    (λ a i j. (and_parts (keeps zero v) (all_kept (λ x. keeps (suc x)) a) (h (v ∷ a) (and_from (member v vs) (is_among a D) m i) j)).1)))
    (λ v m e. ap (map (λ a. v ∷ a)) (none_found (λ a. q (v ∷ a)) D (λ a i. false_unless (q (v ∷ a)) (λ j.
    let k = (and_parts (keeps zero v) (all_kept (λ x. keeps (suc x)) a) (h (v ∷ a) (and_from (member v vs) (is_among a D) m i) j)).0 in cc))))
    ∙ sym (heads q D vs))

-- ---- split by the values of a variable, where those before it have one value

pub split : (F : Family) (x : ℕ) → ((y : ℕ) → y < x → (u : ℤ) × (set_of F y ≡ u ∷ [])) → x < length F → product F ≡ flat_map (λ v. product (only F x v)) (set_of F x)
unfolding set_of only
split [] x h l = absurd (omega arith)
split (vs ∷ F) zero h l = flat_alike (λ v. map (λ a. v ∷ a) (product F)) (λ v. map (λ a. v ∷ a) (product F) ++ []) vs (λ v m. sym (append-nil (map (λ a. v ∷ a) (product F))))
split (vs ∷ F) (suc x) h l =
    let r = h zero (omega arith) in
    let i = split F x (λ y k. h (suc y) (omega arith)) (omega arith) in
    rw r.1 (
    append-nil (map (λ a. r.0 ∷ a) (product F))
    ∙ (ap (map (λ a. r.0 ∷ a)) i
    ∙ (map_flat (λ a. r.0 ∷ a) (λ v. product (only F x v)) (set_of F x)
    ∙ flat_alike (λ v. map (λ a. r.0 ∷ a) (product (only F x v))) (λ v. map (λ a. r.0 ∷ a) (product (only F x v)) ++ []) (set_of F x) (λ v m. sym (append-nil (map (λ a. r.0 ∷ a) (product (only F x v))))))))

-- ---- one value

filter_no : (p : ℤ → Bool) (vs : List ℤ) → ((v : ℤ) → member v vs ≡ true → p v ≡ false) → filter p vs ≡ []
filter_no p [] h = refl
filter_no p (v ∷ vs) h = rw (h v (member_first v vs)) (filter_no p vs (λ w m. h w (member_later w v vs m)))

filter_one : (vs : List ℤ) (v : ℤ) → IsRising vs → member v vs ≡ true → filter (λ w. int_eq w v) vs ≡ v ∷ []
filter_one [] v r m = cc
filter_one (u ∷ vs) v r m =
    elim (int_eq u v) as (λ b. int_eq u v ≡ b → cond b (u ∷ filter (λ w. int_eq w v) vs) (filter (λ w. int_eq w v) vs) ≡ v ∷ []) [
      | true ↦ λ e.
          let s = (Decides-int_eq u v).0 e in
          rw (filter_no (λ w. int_eq w v) vs (λ w k. false_unless (int_eq w v) (λ i. let j = (Decides-int_eq w v).0 i in absurd (omega (arith, ints, r.0 w k, s, j)))), s) refl
      | false ↦ λ e. elim (member_cases v u vs m) [
        | inl i ↦ let j = (Decides-int_eq u v).1 (sym i) in cc
        | inr k ↦ filter_one vs v r.1 k
      ]
    ] refl

-- only the value v of variable x is kept
abbrev pub keeps_value : ℕ → ℤ → ℕ → ℤ → Bool
keeps_value x v y w = cond (is_place y x) (int_eq w v) true

pub only_restrict : (F : Family) (x : ℕ) (v : ℤ) → IsRising (set_of F x) → has F x v ≡ true → only F x v ≡ restrict (keeps_value x v) F
unfolding set_of only
only_restrict [] x v r m = cc
only_restrict (vs ∷ F) zero v r m = rw (filter_one vs v r m, restrict_all F) refl
only_restrict (vs ∷ F) (suc x) v r m = rw (filter_all vs) (ap (λ G. vs ∷ G) (only_restrict F x v r m))

-- ---- assignments as families

pub among_below : (a : List ℤ) (D : Family) → is_among a D ≡ true → Below (singles a) D
among_below [] [] h = below_self []
among_below [] (vs ∷ D) h = cc
among_below (v ∷ a) [] h = cc
among_below (v ∷ a) (vs ∷ D) h =
    let r = and_parts (member v vs) (is_among a D) h in
    below_cons (v ∷ []) vs (singles a) D (λ w m. elim (member_cases w v [] m) [ inl e ↦ subst (λ u. member u vs ≡ true) (sym e) r.0 | inr n ↦ cc ]) (among_below a D r.1)

pub kept_of : (keeps : ℕ → ℤ → Bool) (a : List ℤ) → ((y : ℕ) (w : ℤ) → has (singles a) y w ≡ true → keeps y w ≡ true) → all_kept keeps a ≡ true
unfolding set_of
kept_of keeps [] h = refl
kept_of keeps (v ∷ a) h = and_from (keeps zero v) (all_kept (λ x. keeps (suc x)) a) (h zero v (member_first v [])) (kept_of (λ x. keeps (suc x)) a (λ y w m. h (suc y) w m))

pub value_is : (a : List ℤ) (x : ℕ) (w : ℤ) → has (singles a) x w ≡ true → value_at a x ≡ w
unfolding set_of
value_is [] x w m = cc
value_is (v ∷ a) zero w m = elim (member_cases w v [] m) [ inl e ↦ sym e | inr n ↦ cc ]
value_is (v ∷ a) (suc x) w m = value_is a x w m

pub value_has : (a : List ℤ) (x : ℕ) → x < length (singles a) → has (singles a) x (value_at a x) ≡ true
unfolding set_of
value_has [] x l = absurd (omega arith)
value_has (v ∷ a) zero l = member_first v []
value_has (v ∷ a) (suc x) l = value_has a x (omega arith)
