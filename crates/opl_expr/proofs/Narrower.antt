-- Over a narrower family each range is narrower.
use Rattle.std.proofs.Common.{◌≡◌, ℕ, Bool, true, false, cond, ◌&&◌, refl, List, [], ◌∷◌, ◌++◌, map, length, ℤ, pos, ◌+ℤ◌, ◌*ℤ◌, neg_ℤ, ap, sym, ◌∙◌, subst, inl, inr}
use Rattle.std.specs.List.{flat_map}
use Rattle.std.specs.Prelude.{Option, Some, None}
use Rattle.opl_domain.specs.Span.{Span, IsInside, smaller, larger, point, is_point}
use Rattle.opl_domain.specs.Arithmetic.{span_add, span_neg, span_mul, span_min, span_max, span_hull, span_abs, span_div, span_rem}
use Rattle.opl_domain.specs.Family.{Family, Below, Full}
use Rattle.opl_domain.proofs.Numbers.{smaller_tells, larger_tells}
use Rattle.opl_expr.specs.declared.tables.Table.{Table}
use Rattle.opl_expr.specs.declared.tables.Cell.{Cell}
use Rattle.opl_expr.specs.declared.tables.Cell.TheVariants as cell
use Rattle.opl_expr.specs.Forms.{Relation, Term, Terms, Fact, Facts}
use Rattle.opl_expr.specs.Forms.Relation.{equal}
use Rattle.opl_expr.specs.Options.{lift1, bind1, lift, bind, lift_all, lift_more, lift_some, combined, joined}
use Rattle.opl_expr.specs.Range.{flip, same_truth, is_possible, span_scale, Linear, constant, minus, with_variables, range_of_linear, compare, compare_of, taken, chosen, masks, look_up, cell_range, pairwise, defined_range, differ_range, coef, pure, all_pure, ends, may_be, rest, linears, fact_range, fact_ranges}
use Rattle.opl_expr.specs.Laws.{Monotony}
use Rattle.opl_expr.proofs.Inside.{In, to_inside, of_inside, same_in, add_in, neg_in, flip_in, min_in, max_in, hull_in_hull, in_hull_right, in_hull_left, scale_in, mul_in, abs_in, div_in, rem_in, is_point_in}
use Rattle.opl_expr.proofs.Comparisons.{hull_in, variables_in, compare_in, same_truth_in}

-- ---- results that may be missing

lift1_in : (f : Span → Span) → ((a a' : Span) → In a a' → In (f a) (f a')) → (r r' : Option Span) → IsInside r r' → IsInside (lift1 f r) (lift1 f r')
lift1_in f h None r' i = tt
lift1_in f h (Some a) None i = i
lift1_in f h (Some a) (Some a') i = to_inside (f a) (f a') (h a a' (of_inside a a' i))

bind1_in : (f : Span → Option Span) → ((a a' : Span) → In a a' → IsInside (f a) (f a')) → (r r' : Option Span) → IsInside r r' → IsInside (bind1 f r) (bind1 f r')
bind1_in f h None r' i = tt
bind1_in f h (Some a) None i = absurd i
bind1_in f h (Some a) (Some a') i = h a a' (of_inside a a' i)

-- f keeps intervals within intervals
abbrev KeepsIn : (Span → Span → Span) → Type 0
KeepsIn f = (a a' b b' : Span) → In a a' → In b b' → In (f a b) (f a' b')

lift_in : (f : Span → Span → Span) → KeepsIn f → (r r' s s' : Option Span) → IsInside r r' → IsInside s s' → IsInside (lift f r s) (lift f r' s')
lift_in f h None r' s s' i j = tt
lift_in f h (Some a) r' None s' i j = tt
lift_in f h (Some a) None (Some b) s' i j = i
lift_in f h (Some a) (Some a') (Some b) None i j = j
lift_in f h (Some a) (Some a') (Some b) (Some b') i j = to_inside (f a b) (f a' b') (h a a' b b' (of_inside a a' i) (of_inside b b' j))

bind_in : (f : Span → Span → Option Span) → ((a a' b b' : Span) → In a a' → In b b' → IsInside (f a b) (f a' b')) → (r r' s s' : Option Span) → IsInside r r' → IsInside s s' → IsInside (bind f r s) (bind f r' s')
bind_in f h None r' s s' i j = tt
bind_in f h (Some a) r' None s' i j = tt
bind_in f h (Some a) None (Some b) s' i j = absurd i
bind_in f h (Some a) (Some a') (Some b) None i j = absurd j
bind_in f h (Some a) (Some a') (Some b) (Some b') i j = h a a' b b' (of_inside a a' i) (of_inside b b' j)

-- two lists of one length, each of whose pairs is related
abbrev pub Zip : {A B : Type 0} → (A → B → Type 0) → List A → List B → Type 0
Zip R [] [] = Unit {0}
Zip R [] (y ∷ ys) = ⊥
Zip R (x ∷ xs) [] = ⊥
Zip R (x ∷ xs) (y ∷ ys) = R x y × Zip R xs ys

zip_map : {A B C D : Type 0} (R : A → B → Type 0) (S : C → D → Type 0) (f : A → C) (g : B → D) → ((x : A) (y : B) → R x y → S (f x) (g y)) → (xs : List A) (ys : List B) → Zip R xs ys → Zip S (map f xs) (map g ys)
zip_map R S f g h [] [] z = tt
zip_map R S f g h [] (y ∷ ys) z = z
zip_map R S f g h (x ∷ xs) [] z = z
zip_map R S f g h (x ∷ xs) (y ∷ ys) z = (h x y z.0, zip_map R S f g h xs ys z.1)

all_in : (f : Span → Span → Span) → KeepsIn f → (e e' : Span) → In e e' → (rs rs' : List (Option Span)) → Zip IsInside rs rs' → IsInside (lift_all f e rs) (lift_all f e' rs')
all_in f h e e' i [] [] z = to_inside e e' i
all_in f h e e' i [] (r ∷ rs') z = absurd z
all_in f h e e' i (r ∷ rs) [] z = absurd z
all_in f h e e' i (r ∷ rs) (r' ∷ rs') z = lift_in f h r r' (lift_all f e rs) (lift_all f e' rs') z.0 (all_in f h e e' i rs rs' z.1)

more_in : (f : Span → Span → Span) → KeepsIn f → (r r' : Option Span) → IsInside r r' → (rs rs' : List (Option Span)) → Zip IsInside rs rs' → IsInside (lift_more f r rs) (lift_more f r' rs')
more_in f h r r' i [] [] z = i
more_in f h r r' i [] (s ∷ rs') z = absurd z
more_in f h r r' i (s ∷ rs) [] z = absurd z
more_in f h r r' i (s ∷ rs) (s' ∷ rs') z = lift_in f h r r' (lift_more f s rs) (lift_more f s' rs') i (more_in f h s s' z.0 rs rs' z.1)

some_in : (f : Span → Span → Span) → KeepsIn f → (rs rs' : List (Option Span)) → Zip IsInside rs rs' → IsInside (lift_some f rs) (lift_some f rs')
some_in f h [] [] z = tt
some_in f h [] (s ∷ rs') z = absurd z
some_in f h (s ∷ rs) [] z = absurd z
some_in f h (s ∷ rs) (s' ∷ rs') z = more_in f h s s' z.0 rs rs' z.1

-- ---- linear forms over two families

-- the two rests are one number
pub record OneNumber (r r' : Option Span) : Type 0 where
  pub number : ℤ
  pub first : r ≡ Some (point number)
  pub second : r' ≡ Some (point number)

pub record LinearIn (e e' : Linear) : Type 0 where
  pub coefficients : e.coef ≡ e'.coef
  pub purity : e.pure ≡ e'.pure
  pub inside : IsInside e.rest e'.rest
  pub number : e.pure ≡ true → OneNumber e.rest e'.rest

add_points : (a b : ℤ) → span_add (point a) (point b) ≡ point (a +ℤ b)
unfolding span_add
add_points a b = refl

neg_point : (a : ℤ) → span_neg (point a) ≡ point (neg_ℤ a)
unfolding span_neg
neg_point a = refl

smaller_same : (v : ℤ) → smaller v v ≡ v
smaller_same v = elim (smaller_tells v v) [ inl t ↦ t.0 | inr t ↦ t.0 ]

larger_same : (v : ℤ) → larger v v ≡ v
larger_same v = elim (larger_tells v v) [ inl t ↦ t.0 | inr t ↦ t.0 ]

pub scale_point : (k v : ℤ) → span_scale k (point v) ≡ point (k *ℤ v)
unfolding span_scale
scale_point k v = rw (smaller_same (k *ℤ v), larger_same (k *ℤ v)) refl

both_pure : (x y : Bool) → (x && y) ≡ true → (x ≡ true) × (y ≡ true)
both_pure true true e = (refl, refl)
both_pure true false e = cc
both_pure false y e = cc

minus_rest : (a a' b b' : Option Span) → OneNumber a a' → OneNumber b b' → OneNumber (lift span_add a (lift1 span_neg b)) (lift span_add a' (lift1 span_neg b'))
minus_rest a a' b b' p q = record {
  number = p.number +ℤ neg_ℤ q.number;
  first = rw (p.first, q.first, neg_point q.number, add_points p.number (neg_ℤ q.number)) refl;
  second = rw (p.second, q.second, neg_point q.number, add_points p.number (neg_ℤ q.number)) refl;
}

minus_in : (a a' b b' : Linear) → LinearIn a a' → LinearIn b b' → LinearIn (minus a b) (minus a' b')
minus_in a a' b b' p q = record {
  coefficients = ap (λ (c : ℕ → ℤ). λ x. c x +ℤ neg_ℤ (b.coef x)) p.coefficients ∙ ap (λ (c : ℕ → ℤ). λ x. a'.coef x +ℤ neg_ℤ (c x)) q.coefficients;
  purity = ap (λ t. t && b.pure) p.purity ∙ ap (λ t. a'.pure && t) q.purity;
  inside = lift_in span_add add_in a.rest a'.rest (lift1 span_neg b.rest) (lift1 span_neg b'.rest) p.inside (lift1_in span_neg neg_in b.rest b'.rest q.inside);
  number = λ e. let w = both_pure a.pure b.pure e in minus_rest a.rest a'.rest b.rest b'.rest (p.number w.0) (q.number w.1);
}

constant_in : (k : ℤ) → LinearIn (constant k) (constant k)
constant_in k = record { coefficients = refl; purity = refl; inside = to_inside (point k) (point k) (same_in k); number = λ e. record { number = k; first = refl; second = refl } }

-- a comparison by its parts
parts_in : (rel : Relation) (F G : Family) → Full F → Below F G → (c : ℕ → ℤ) (p : Bool) (r r' : Option Span) → IsInside r r' → (p ≡ true → OneNumber r r') → IsInside (lift1 (compare rel F c (length F) p) r) (lift1 (compare rel G c (length G) p) r')
parts_in rel F G f b c p None r' i x = tt
parts_in rel F G f b c p (Some r) None i x = i
parts_in rel F G f b c p (Some r) (Some r') i x =
    subst (λ n. IsInside (Some (compare rel F c (length F) p r)) (Some (compare rel G c n p r'))) b.same
    (to_inside (compare rel F c (length F) p r) (compare rel G c (length F) p r')
    (compare_in rel F G f b c p r r' (of_inside r r' i) (record { same = λ e. let o = x e in unwrapped o.first ∙ sym (unwrapped o.second); single = λ e. let o = x e in ends_same (unwrapped o.first) })))
  where
    unwrapped : {s : Span} {k : ℤ} → Some s ≡ Some (point k) → s ≡ point k
    unwrapped e = cc

    ends_same : {s : Span} {k : ℤ} → s ≡ point k → s.low ≡ s.high
    ends_same e = rw e refl

compare_of_in : (rel : Relation) (F G : Family) → Full F → Below F G → (d d' : Linear) → LinearIn d d' → IsInside (compare_of rel F d) (compare_of rel G d')
compare_of_in rel F G f b d d' l =
    subst (λ (c : ℕ → ℤ). IsInside (compare_of rel F d) (lift1 (compare rel G c (length G) d'.pure) d'.rest)) l.coefficients
    (subst (λ p. IsInside (compare_of rel F d) (lift1 (compare rel G d.coef (length G) p) d'.rest)) l.purity
    (parts_in rel F G f b d.coef d.pure d.rest d'.rest l.inside l.number))

range_of_linear_in : (F G : Family) → Full F → Below F G → (e e' : Linear) → LinearIn e e' → IsInside (range_of_linear F e) (range_of_linear G e')
range_of_linear_in F G f b e e' l =
    subst (λ (c : ℕ → ℤ). IsInside (range_of_linear F e) (lift1 (with_variables G c (length G)) e'.rest)) l.coefficients
    (subst (λ n. IsInside (range_of_linear F e) (lift1 (with_variables G e.coef n) e'.rest)) b.same
    (two e.rest e'.rest l.inside))
  where
    two : (r r' : Option Span) → IsInside r r' → IsInside (lift1 (with_variables F e.coef (length F)) r) (lift1 (with_variables G e.coef (length F)) r')
    two None r' i = tt
    two (Some r) None i = i
    two (Some r) (Some r') i = to_inside (with_variables F e.coef (length F) r) (with_variables G e.coef (length F) r') (variables_in F G f b e.coef (length F) r r' (of_inside r r' i))

-- ---- pairs

zip_append : {A B : Type 0} (R : A → B → Type 0) (xs us : List A) (ys vs : List B) → Zip R xs ys → Zip R us vs → Zip R (xs ++ us) (ys ++ vs)
zip_append R [] us [] vs z w = w
zip_append R [] us (y ∷ ys) vs z w = absurd z
zip_append R (x ∷ xs) us [] vs z w = absurd z
zip_append R (x ∷ xs) us (y ∷ ys) vs z w = (z.0, zip_append R xs us ys vs z.1 w)

-- what relates each one and each two relates all pairs
pub zip_pairs : {A B C D : Type 0} (R : A → B → Type 0) (S : C → D → Type 0) (one : A → C) (one' : B → D) (two : A → A → C) (two' : B → B → D)
    → ((a : A) (b : B) → R a b → S (one a) (one' b)) → ((a c : A) (b d : B) → R a b → R c d → S (two a c) (two' b d))
    → (xs : List A) (ys : List B) → Zip R xs ys → Zip S (pairwise one two xs) (pairwise one' two' ys)
zip_pairs R S one one' two two' h k [] [] z = tt
zip_pairs R S one one' two two' h k [] (y ∷ ys) z = z
zip_pairs R S one one' two two' h k (x ∷ xs) [] z = z
zip_pairs R S one one' two two' h k (x ∷ xs) (y ∷ ys) z = (
  h x y z.0,
  zip_append S (map (two x) xs) (pairwise one two xs) (map (two' y) ys) (pairwise one' two' ys)
      (zip_map R S (two x) (two' y) (λ c d r. k x c y d z.0 r) xs ys z.1)
      (zip_pairs R S one one' two two' h k xs ys z.1),
)

defined_in : (e e' : Linear) → LinearIn e e' → IsInside (defined_range e) (defined_range e')
defined_in e e' l = lift1_in (λ r. point (pos 1)) (λ a a' i. same_in (pos 1)) e.rest e'.rest l.inside

differ_in : (F G : Family) → Full F → Below F G → (d e d' e' : Linear) → LinearIn d d' → LinearIn e e' → IsInside (differ_range F d e) (differ_range G d' e')
differ_in F G f b d e d' e' l m =
    lift1_in flip flip_in (compare_of equal F (minus d e)) (compare_of equal G (minus d' e')) (compare_of_in equal F G f b (minus d e) (minus d' e') (minus_in d d' e e' l m))

-- ---- tables

pub possible_in : (r r' : Option Span) → IsInside r r' → is_possible r ≡ true → is_possible r' ≡ true
possible_in None r' i e = cc
possible_in (Some a) None i e = absurd i
possible_in (Some a) (Some a') i e = elim (is_point (pos 0) a') as (λ t. is_point (pos 0) a' ≡ t → cond t false true ≡ true) [
  | true ↦ λ k. let z = is_point_in (pos 0) a a' (of_inside a a' i) k in let w = subst (λ t. cond t false true ≡ true) z e in cc
  | false ↦ λ k. refl
] refl

abbrev Implies : Bool → Bool → Type 0
Implies b b' = b ≡ true → b' ≡ true

may_be_in : (F G : Family) → Full F → Below F G → (e e' : Linear) → LinearIn e e' → (i : ℤ) → Implies (may_be F e i) (may_be G e' i)
may_be_in F G f b e e' l i =
    possible_in (compare_of equal F (minus e (constant i))) (compare_of equal G (minus e' (constant i)))
    (compare_of_in equal F G f b (minus e (constant i)) (minus e' (constant i)) (minus_in e e' (constant i) (constant i) l (constant_in i)))

zip_same : {A B C : Type 0} (R : B → C → Type 0) (f : A → B) (g : A → C) → ((x : A) → R (f x) (g x)) → (xs : List A) → Zip R (map f xs) (map g xs)
zip_same R f g h [] = tt
zip_same R f g h (x ∷ xs) = (h x, zip_same R f g h xs)

masks_in : (F G : Family) → Full F → Below F G → (dims : List (List ℤ)) (es es' : List Linear) → Zip LinearIn es es' → Zip (Zip Implies) (masks (may_be F) dims es) (masks (may_be G) dims es')
masks_in F G f b [] es es' z = tt
masks_in F G f b (dim ∷ dims) [] [] z = tt
masks_in F G f b (dim ∷ dims) [] (e' ∷ es') z = absurd z
masks_in F G f b (dim ∷ dims) (e ∷ es) [] z = absurd z
masks_in F G f b (dim ∷ dims) (e ∷ es) (e' ∷ es') z = (zip_same Implies (may_be F e) (may_be G e') (may_be_in F G f b e e' z.0) dim, masks_in F G f b dims es es' z.1)

and_implies : (b b' c c' : Bool) → Implies b b' → Implies c c' → Implies (b && c) (b' && c')
and_implies true b' true c' p q e = rw (p refl, q refl) refl
and_implies true b' false c' p q e = cc
and_implies false b' c c' p q e = cc

row_in : (cs cs' : List Bool) → Zip Implies cs cs' → (bs bs' : List Bool) → Zip Implies bs bs' → Zip Implies (flat_map (λ b. map (λ c. b && c) cs) bs) (flat_map (λ b. map (λ c. b && c) cs') bs')
row_in cs cs' o [] [] w = tt
row_in cs cs' o [] (b' ∷ bs') w = absurd w
row_in cs cs' o (b ∷ bs) [] w = absurd w
row_in cs cs' o (b ∷ bs) (b' ∷ bs') w =
    zip_append Implies (map (λ c. b && c) cs) (flat_map (λ b. map (λ c. b && c) cs) bs) (map (λ c. b' && c) cs') (flat_map (λ b. map (λ c. b && c) cs') bs')
    (zip_map Implies Implies (λ c. b && c) (λ c. b' && c) (λ c c' i. and_implies b b' c c' w.0 i) cs cs' o) (row_in cs cs' o bs bs' w.1)

taken_in : (ms ms' : List (List Bool)) → Zip (Zip Implies) ms ms' → Zip Implies (taken ms) (taken ms')
taken_in [] [] z = (λ e. e, tt)
taken_in [] (m ∷ ms') z = absurd z
taken_in (m ∷ ms) [] z = absurd z
taken_in (m ∷ ms) (m' ∷ ms') z = row_in (taken ms) (taken ms') (taken_in ms ms' z.1) m m' z.0

cell_in : (F G : Family) → Full F → Below F G → (c : Cell) → In (cell_range F c) (cell_range G c)
cell_in F G f b (cell.Const k) = same_in k
cell_in F G f b (cell.Var x) = hull_in F G f b x

combined_in : (a a' : Span) (r r' : Option Span) → In a a' → IsInside r r' → In (combined span_hull a r) (combined span_hull a' r')
combined_in a a' None None p i = p
combined_in a a' None (Some b') p i = in_hull_left a a' b' p
combined_in a a' (Some b) None p i = absurd i
combined_in a a' (Some b) (Some b') p i = hull_in_hull a a' b b' p (of_inside b b' i)

combined_more : (a' : Span) (r r' : Option Span) → IsInside r r' → IsInside r (Some (combined span_hull a' r'))
combined_more a' None r' i = tt
combined_more a' (Some b) None i = absurd i
combined_more a' (Some b) (Some b') i = to_inside b (span_hull a' b') (in_hull_right b a' b' (of_inside b b' i))

chosen_in : (F G : Family) → Full F → Below F G → (bs bs' : List Bool) → Zip Implies bs bs' → (cells : List Cell) → IsInside (joined span_hull (map (cell_range F) (chosen bs cells))) (joined span_hull (map (cell_range G) (chosen bs' cells)))
chosen_in F G f b [] bs' z cells = tt
chosen_in F G f b (t ∷ bs) [] z cells = absurd z
chosen_in F G f b (t ∷ bs) (t' ∷ bs') z [] = tt
chosen_in F G f b (true ∷ bs) (true ∷ bs') z (c ∷ cells) =
    let more = chosen_in F G f b bs bs' z.1 cells in
    to_inside _ _ (combined_in (cell_range F c) (cell_range G c) (joined span_hull (map (cell_range F) (chosen bs cells))) (joined span_hull (map (cell_range G) (chosen bs' cells))) (cell_in F G f b c) more)
chosen_in F G f b (true ∷ bs) (false ∷ bs') z (c ∷ cells) = let e = z.0 refl in cc
chosen_in F G f b (false ∷ bs) (true ∷ bs') z (c ∷ cells) =
    combined_more (cell_range G c) (joined span_hull (map (cell_range F) (chosen bs cells))) (joined span_hull (map (cell_range G) (chosen bs' cells))) (chosen_in F G f b bs bs' z.1 cells)
chosen_in F G f b (false ∷ bs) (false ∷ bs') z (c ∷ cells) = chosen_in F G f b bs bs' z.1 cells

look_in : (F G : Family) → Full F → Below F G → (table : Option Table) (es es' : List Linear) → Zip LinearIn es es' → IsInside (look_up (may_be F) (cell_range F) span_hull table es) (look_up (may_be G) (cell_range G) span_hull table es')
look_in F G f b None es es' z = tt
look_in F G f b (Some t) es es' z = chosen_in F G f b (taken (masks (may_be F) t.dims es)) (taken (masks (may_be G) t.dims es')) (taken_in (masks (may_be F) t.dims es) (masks (may_be G) t.dims es') (masks_in F G f b t.dims es es' z)) t.cells

-- ---- the number that an expression without other parts has as its rest

abbrev mutual
  pub fixed_part : Term → ℤ
  fixed_part (Term.const k) = k
  fixed_part (Term.sum ts) = fixed_parts ts
  fixed_part (Term.neg t) = neg_ℤ (fixed_part t)
  fixed_part (Term.scale k t) = k *ℤ fixed_part t
  fixed_part t = pos 0

  pub fixed_parts : Terms → ℤ
  fixed_parts Terms.no_terms = pos 0
  fixed_parts (Terms.more_terms t ts) = fixed_part t +ℤ fixed_parts ts

mutual
  pub pure_is : (F : Family) (t : Term) → pure t ≡ true → rest F t ≡ Some (point (fixed_part t))
  pure_is F (Term.const k) e = refl
  pure_is F (Term.var y) e = refl
  pure_is F (Term.sum ts) e = all_pure_is F ts e
  pure_is F (Term.neg t) e = rw (pure_is F t e, neg_point (fixed_part t)) refl
  pure_is F (Term.scale k t) e = rw (pure_is F t e, scale_point k (fixed_part t)) refl
  pure_is F (Term.mul a b) e = cc
  pure_is F (Term.div a b) e = cc
  pure_is F (Term.rem a b) e = cc
  pure_is F (Term.abs a) e = cc
  pure_is F (Term.least ts) e = cc
  pure_is F (Term.greatest ts) e = cc
  pure_is F (Term.at table ts) e = cc
  pure_is F (Term.truth c) e = cc
  pure_is F (Term.asked ask x) e = cc

  pub all_pure_is : (F : Family) (ts : Terms) → all_pure ts ≡ true → lift_all span_add (point (pos 0)) (map (λ (e : Linear). e.rest) (linears F ts)) ≡ Some (point (fixed_parts ts))
  all_pure_is F Terms.no_terms e = refl
  all_pure_is F (Terms.more_terms t ts) e =
      let w = both_pure (pure t) (all_pure ts) e in
      rw (pure_is F t w.0, all_pure_is F ts w.1, add_points (fixed_part t) (fixed_parts ts)) refl

-- ---- all rows

ends_in : (F G : Family) → Full F → Below F G → (t : Term) (r r' : Option Span) → IsInside r r' → IsInside (ends F t r) (ends G t r')
ends_in F G f b t None r' i = tt
ends_in F G f b t (Some r) None i = i
ends_in F G f b t (Some r) (Some r') i =
    subst (λ n. IsInside (Some (with_variables F (coef t) (length F) r)) (Some (with_variables G (coef t) n r'))) b.same
    (to_inside (with_variables F (coef t) (length F) r) (with_variables G (coef t) (length F) r') (variables_in F G f b (coef t) (length F) r r' (of_inside r r' i)))

linear_in : (F G : Family) (t : Term) → IsInside (rest F t) (rest G t) → LinearIn (record { coef = coef t; pure = pure t; rest = rest F t }) (record { coef = coef t; pure = pure t; rest = rest G t })
linear_in F G t i = record { coefficients = refl; purity = refl; inside = i; number = λ e. record { number = fixed_part t; first = pure_is F t e; second = pure_is G t e } }

rests_in : (es es' : List Linear) → Zip LinearIn es es' → Zip IsInside (map (λ (e : Linear). e.rest) es) (map (λ (e : Linear). e.rest) es')
rests_in es es' z = zip_map LinearIn IsInside (λ (e : Linear). e.rest) (λ (e : Linear). e.rest) (λ e e' l. l.inside) es es' z

module _ (F G : Family) (f : Full F) (b : Below F G) where
  mutual
    pub rest_in : (t : Term) → IsInside (rest F t) (rest G t)
    rest_in (Term.const k) = to_inside (point k) (point k) (same_in k)
    rest_in (Term.var y) = to_inside (point (pos 0)) (point (pos 0)) (same_in (pos 0))
    rest_in (Term.sum ts) = all_in span_add add_in (point (pos 0)) (point (pos 0)) (same_in (pos 0)) _ _ (rests_in (linears F ts) (linears G ts) (linears_in ts))
    rest_in (Term.neg t) = lift1_in span_neg neg_in (rest F t) (rest G t) (rest_in t)
    rest_in (Term.scale k t) = lift1_in (span_scale k) (scale_in k) (rest F t) (rest G t) (rest_in t)
    rest_in (Term.mul s t) = lift_in span_mul mul_in (ends F s (rest F s)) (ends G s (rest G s)) (ends F t (rest F t)) (ends G t (rest G t)) (ends_in F G f b s (rest F s) (rest G s) (rest_in s)) (ends_in F G f b t (rest F t) (rest G t) (rest_in t))
    rest_in (Term.div s t) = bind_in span_div div_in (ends F s (rest F s)) (ends G s (rest G s)) (ends F t (rest F t)) (ends G t (rest G t)) (ends_in F G f b s (rest F s) (rest G s) (rest_in s)) (ends_in F G f b t (rest F t) (rest G t) (rest_in t))
    rest_in (Term.rem s t) = bind_in span_rem rem_in (ends F s (rest F s)) (ends G s (rest G s)) (ends F t (rest F t)) (ends G t (rest G t)) (ends_in F G f b s (rest F s) (rest G s) (rest_in s)) (ends_in F G f b t (rest F t) (rest G t) (rest_in t))
    rest_in (Term.abs t) = bind1_in span_abs abs_in (ends F t (rest F t)) (ends G t (rest G t)) (ends_in F G f b t (rest F t) (rest G t) (rest_in t))
    rest_in (Term.least ts) = some_in span_min min_in _ _ (zip_map LinearIn IsInside (range_of_linear F) (range_of_linear G) (range_of_linear_in F G f b) (linears F ts) (linears G ts) (linears_in ts))
    rest_in (Term.greatest ts) = some_in span_max max_in _ _ (zip_map LinearIn IsInside (range_of_linear F) (range_of_linear G) (range_of_linear_in F G f b) (linears F ts) (linears G ts) (linears_in ts))
    rest_in (Term.at table ts) = look_in F G f b table (linears F ts) (linears G ts) (linears_in ts)
    rest_in (Term.truth c) = fact_in c
    rest_in (Term.asked ask x) = tt

    pub linears_in : (ts : Terms) → Zip LinearIn (linears F ts) (linears G ts)
    linears_in Terms.no_terms = tt
    linears_in (Terms.more_terms t ts) = (linear_in F G t (rest_in t), linears_in ts)

    pub fact_in : (c : Fact) → IsInside (fact_range F c) (fact_range G c)
    fact_in (Fact.fixed true) = to_inside (point (pos 1)) (point (pos 1)) (same_in (pos 1))
    fact_in (Fact.fixed false) = to_inside (point (pos 0)) (point (pos 0)) (same_in (pos 0))
    fact_in (Fact.cmp rel s t) = compare_of_in rel F G f b _ _ (minus_in _ _ _ _ (linear_in F G s (rest_in s)) (linear_in F G t (rest_in t)))
    fact_in (Fact.and cs) = all_in span_min min_in (point (pos 1)) (point (pos 1)) (same_in (pos 1)) (fact_ranges F cs) (fact_ranges G cs) (facts_in cs)
    fact_in (Fact.or cs) = all_in span_max max_in (point (pos 0)) (point (pos 0)) (same_in (pos 0)) (fact_ranges F cs) (fact_ranges G cs) (facts_in cs)
    fact_in (Fact.iff c d) = lift_in same_truth same_truth_in (fact_range F c) (fact_range G c) (fact_range F d) (fact_range G d) (fact_in c) (fact_in d)
    fact_in (Fact.not c) = lift1_in flip flip_in (fact_range F c) (fact_range G c) (fact_in c)
    fact_in (Fact.different ts) =
        all_in span_min min_in (point (pos 1)) (point (pos 1)) (same_in (pos 1)) _ _
        (zip_pairs LinearIn IsInside defined_range defined_range (differ_range F) (differ_range G) defined_in (differ_in F G f b) (linears F ts) (linears G ts) (linears_in ts))
    fact_in (Fact.bound x) = tt

    pub facts_in : (cs : Facts) → Zip IsInside (fact_ranges F cs) (fact_ranges G cs)
    facts_in Facts.no_facts = tt
    facts_in (Facts.more_facts c cs) = (fact_in c, facts_in cs)

pub monotony : Monotony
monotony = record {
  terms = λ t F G f b. ends_in F G f b t (rest F t) (rest G t) (rest_in F G f b t);
  facts = λ c F G f b. fact_in F G f b c;
}
