-- Which cells of a table are taken, one after another.
use Rattle.std.proofs.Common.{◌≡◌, ℕ, zero, suc, ◌+◌, ◌-◌, ◌*◌, ◌/◌, ◌%◌, ◌≤◌, ◌<◌, Bool, true, false, ◌&&◌, refl, List, [], ◌∷◌, ◌++◌, map, length, get_or, drop, ℤ, pos, ap, sym, ◌∙◌, subst, arith}
use Rattle.std.specs.Prelude.{Option, Some, unsigned_abs}
use Rattle.std.specs.List.{flat_map, list_all}
use Rattle.opl_domain.specs.Span.{Span}
use Rattle.opl_domain.specs.Arithmetic.{span_hull}
use Rattle.opl_domain.specs.Family.{Family}
use Rattle.opl_expr.specs.declared.tables.Cell.{Cell}
use Rattle.opl_expr.specs.Options.{combined}
use Rattle.opl_expr.specs.Forms.{Term, terms_of}
use Rattle.opl_expr.specs.Range.{Linear, taken, chosen, masks, cell_range, may_be, linears, coef, pure, rest}
use Rattle.opl_expr.proofs.Bounds.{both_true}
use Rattle.std.proofs.Math.Nat.{mod-lt, div-lt_iff_lt-mul}
use Rattle.opl_expr.specs.Sound.{IsSmall, term_magnitude, greatest_abs, FitDimensions, keys, is_there}
use Rattle.opl_range.specs.Between.{joined_onto}
use Rattle.opl_expr.proofs.Parts.{drop_at, drop_none, one_less, any_default}
use Rattle.std.proofs.lemmas.Nat.{div-mul-add, div-add-mod'}

-- whether cell k is taken
abbrev pub bit : List (List Bool) → ℕ → Bool
bit ms k = get_or (taken ms) k false

abbrev pub rows : List Bool → List Bool → List Bool
rows T bs = flat_map (λ b. map (λ c. b && c) T) bs

length_append : {X : Type 0} (xs ys : List X) → length (xs ++ ys) ≡ length xs + length ys
length_append [] ys = omega arith
length_append (x ∷ xs) ys = omega (arith, length_append xs ys)

length_anded : (b : Bool) (T : List Bool) → length (map (λ c. b && c) T) ≡ length T
length_anded b [] = refl
length_anded b (t ∷ T) = ap suc (length_anded b T)

length_rows : (T bs : List Bool) → length (rows T bs) ≡ length bs * length T
length_rows T [] = omega arith
length_rows T (b ∷ bs) = omega (arith, length_append (map (λ c. b && c) T) (rows T bs), length_anded b T, length_rows T bs)

pub length_map : {X Y : Type 0} (f : X → Y) (xs : List X) → length (map f xs) ≡ length xs
length_map f [] = refl
length_map f (x ∷ xs) = ap suc (length_map f xs)

pub length_taken : {E : Type 0} (may : E → ℤ → Bool) (dims : List (List ℤ)) (es : List E) → length dims ≤ length es → length (taken (masks may dims es)) ≡ keys dims
length_taken may [] es h = refl
length_taken may (dim ∷ dims) [] h = absurd (omega (arith, h))
length_taken may (dim ∷ dims) (e ∷ es) h =
    length_rows (taken (masks may dims es)) (map (may e) dim) ∙ ap (λ n. n * length (taken (masks may dims es))) (length_map (may e) dim) ∙ ap (λ n. length dim * n) (length_taken may dims es (omega (arith, h)))

at_left : (xs ys : List Bool) (k : ℕ) → k < length xs → get_or (xs ++ ys) k false ≡ get_or xs k false
at_left [] ys k h = absurd (omega (arith, h))
at_left (x ∷ xs) ys zero h = refl
at_left (x ∷ xs) ys (suc k) h = at_left xs ys k (omega (arith, h))

at_right : (xs ys : List Bool) (k : ℕ) → get_or (xs ++ ys) (length xs + k) false ≡ get_or ys k false
at_right [] ys k = let e : 0 + k ≡ k = omega arith in rw e refl
at_right (x ∷ xs) ys k = let e : suc (length xs) + k ≡ suc (length xs + k) = omega arith in rw e (at_right xs ys k)

at_anded : (b : Bool) (T : List Bool) (q : ℕ) → get_or (map (λ c. b && c) T) q false ≡ (b && get_or T q false)
at_anded true [] q = refl
at_anded false [] q = refl
at_anded b (t ∷ T) zero = refl
at_anded b (t ∷ T) (suc q) = at_anded b T q

at_rows : (T bs : List Bool) (p q n : ℕ) → length T ≡ n → q < n → get_or (rows T bs) (p * n + q) false ≡ (get_or bs p false && get_or T q false)
at_rows T [] p q n e h = refl
at_rows T (b ∷ bs) zero q n e h =
    let i : 0 * n + q ≡ q = omega arith in
    rw i (at_left (map (λ c. b && c) T) (rows T bs) q (omega (arith, length_anded b T, e, h)) ∙ at_anded b T q)
at_rows T (b ∷ bs) (suc p) q n e h =
    let i : suc p * n + q ≡ length (map (λ c. b && c) T) + (p * n + q) = omega (arith, length_anded b T, e) in
    rw i (at_right (map (λ c. b && c) T) (rows T bs) (p * n + q) ∙ at_rows T bs p q n e h)

pub at_map : (f : ℤ → Bool) (xs : List ℤ) (p : ℕ) → p < length xs → get_or (map f xs) p false ≡ f (get_or xs p (pos 0))
at_map f [] p h = absurd (omega (arith, h))
at_map f (x ∷ xs) zero h = refl
at_map f (x ∷ xs) (suc p) h = at_map f xs p (omega (arith, h))

pub fit_length : {X : Type 0} (sets : List (ℤ × ℤ)) (f : X → Term) (dims : List (List ℤ)) (xs : List X) → FitDimensions sets dims (terms_of (map f xs)) → length xs ≡ length dims
fit_length sets f [] [] h = refl
fit_length sets f [] (x ∷ xs) h = absurd h
fit_length sets f (dim ∷ dims) [] h = absurd h
fit_length sets f (dim ∷ dims) (x ∷ xs) h = ap suc (fit_length sets f dims xs h.1)

length_linears : {X : Type 0} (F : Family) (f : X → Term) (xs : List X) → length (linears F (terms_of (map f xs))) ≡ length xs
length_linears F f [] = refl
length_linears F f (x ∷ xs) = ap suc (length_linears F f xs)

length_drop : {X : Type 0} (xs : List X) (k : ℕ) → length (drop k xs) ≡ length xs - k
length_drop xs zero = omega arith
length_drop [] (suc k) = omega arith
length_drop (x ∷ xs) (suc k) = omega (arith, length_drop xs k)

module _ {X : Type 0} (F : Family) (f : X → Term) (dims : List (List ℤ)) (parts : List X) where
  -- which cells the subscripts from place k on reach, in the block that is left
  abbrev pub marks : ℕ → List (List Bool)
  marks k = masks (may_be F) (drop k dims) (linears F (terms_of (map f (drop k parts))))

  -- a cell is at a place of the block that is left after k dimensions, whose places have reached it so far
  pub record IsReached (cell k size place : ℕ) : Type 0 where
    pub whole : size ≡ keys (drop k dims)
    pub below : place < size
    pub same : bit (marks 0) cell ≡ bit (marks k) place

  abbrev pub linear : X → Linear
  linear x = record { coef = coef (f x); pure = pure (f x); rest = rest F (f x) }

  pub reach_start : (cell n : ℕ) → n ≡ keys dims → cell < n → IsReached cell 0 n cell
  reach_start cell n e h = record { whole = e; below = h; same = refl }

  -- the sizes at one dimension
  pub record IsDivided (dim : List ℤ) (k size place : ℕ) : Type 0 where
    pub some : 0 < length dim
    pub size_some : 0 < size / length dim
    pub size_is : size / length dim ≡ keys (drop (k + 1) dims)
    pub index : place / (size / length dim) < length dim

  divided : (dim : List ℤ) (k size place m : ℕ) → size ≡ length dim * m → place < size → m ≡ keys (drop (k + 1) dims) → IsDivided dim k size place
  divided dim k size place m e h i =
      let n = some_factor (length dim) m place (subst (λ s. place < s) e h) in
      let q : size / length dim ≡ m = ap (λ s. s / length dim) (e ∙ swapped (length dim) m) ∙ div-mul-add m (length dim) 0 n.0 in
      record {
        some = n.0;
        size_some = subst (λ s. 0 < s) (sym q) n.1;
        size_is = q ∙ i;
        index = subst (λ s. place / s < length dim) (sym q) (quotient_below place m (length dim) n.1 (subst (λ s. place < s) e h));
      }
    where
      some_factor : (a b p : ℕ) → p < a * b → (0 < a) × (0 < b)
      some_factor zero b p h = absurd (omega (arith, h))
      some_factor (suc a) zero p h = absurd (omega (arith, h))
      some_factor (suc a) (suc b) p h = (omega arith, omega arith)

      swapped : (a b : ℕ) → a * b ≡ b * a + 0
      swapped a b = omega arith

      quotient_below : (p m n : ℕ) → 0 < m → p < n * m → p / m < n
      quotient_below p m n h g = (div-lt_iff_lt-mul {k = m} {x = p} {y = n} h).1 g

  pub reach_sizes : (cell k size place : ℕ) (dim d : List ℤ) → IsReached cell k size place → k < length dims → dim ≡ get_or dims k d → IsDivided dim k size place
  reach_sizes cell k size place dim d r h e =
      let w = drop_at dims k dim h (e ∙ any_default dims k d dim h) in
      divided dim k size place (keys (drop (k + 1) dims)) (r.whole ∙ ap keys w) r.below refl

  pub reach_bit : (cell k size place : ℕ) (dim d : List ℤ) (part : X) → IsReached cell k size place → length dims ≤ length parts → k < length dims → dim ≡ get_or dims k d → part ≡ get_or parts k part
      → bit (marks 0) cell ≡ (may_be F (linear part) (get_or dim (place / (size / length dim)) (pos 0)) && bit (marks (k + 1)) (place % (size / length dim)))
  reach_bit cell k size place dim d part r l h e i =
      let s = reach_sizes cell k size place dim d r h e in
      let w = drop_at dims k dim h (e ∙ any_default dims k d dim h) in
      let v = drop_at parts k part (omega (arith, l, h)) i in
      let m = size / length dim in
      let split : place ≡ place / m * m + place % m = sym (div-add-mod' place m) in
      let T = taken (marks (k + 1)) in
      let long : length T ≡ m =
      length_taken (may_be F) (drop (k + 1) dims) (linears F (terms_of (map f (drop (k + 1) parts)))) (omega (arith, l, length_linears F f (drop (k + 1) parts), length_drop parts (k + 1), length_drop dims (k + 1))) ∙ sym s.size_is in
      let first : bit (marks k) place ≡ get_or (rows T (map (may_be F (linear part)) dim)) place false = ap (λ D. bit (masks (may_be F) D (linears F (terms_of (map f (drop k parts))))) place) w ∙ ap (λ P. bit (masks (may_be F) (dim ∷ drop (k + 1) dims) (linears F (terms_of (map f P)))) place) v in
      r.same ∙ first ∙ ap (λ n. get_or (rows T (map (may_be F (linear part)) dim)) n false) split
      ∙ at_rows T (map (may_be F (linear part)) dim) (place / m) (place % m) m long (mod-lt place s.size_some)
      ∙ ap (λ b. b && get_or T (place % m) false) (at_map (may_be F (linear part)) dim (place / m) s.index)

  pub reach_next : (cell k size place : ℕ) (dim d : List ℤ) (part : X) (b : Bool) → IsReached cell k size place → length dims ≤ length parts → k < length dims → dim ≡ get_or dims k d → part ≡ get_or parts k part
      → b ≡ may_be F (linear part) (get_or dim (place / (size / length dim)) (pos 0)) → b ≡ true → IsReached cell (k + 1) (size / length dim) (place % (size / length dim))
  reach_next cell k size place dim d part b r l h e i m t =
      let s = reach_sizes cell k size place dim d r h e in
      record {
        whole = s.size_is;
        below = mod-lt place s.size_some;
        same = reach_bit cell k size place dim d part r l h e i ∙ ap (λ z. z && bit (marks (k + 1)) (place % (size / length dim))) (sym m ∙ t);
      }

  pub reach_missed : (cell k size place : ℕ) (dim d : List ℤ) (part : X) (b : Bool) → IsReached cell k size place → length dims ≤ length parts → k < length dims → dim ≡ get_or dims k d → part ≡ get_or parts k part
      → b ≡ may_be F (linear part) (get_or dim (place / (size / length dim)) (pos 0)) → b ≡ false → bit (marks 0) cell ≡ false
  reach_missed cell k size place dim d part b r l h e i m t =
      reach_bit cell k size place dim d part r l h e i ∙ ap (λ z. z && bit (marks (k + 1)) (place % (size / length dim))) (sym m ∙ t)

  pub reach_whole : (cell k size place : ℕ) → IsReached cell k size place → length dims ≤ k → bit (marks 0) cell ≡ true
  reach_whole cell k size place r h =
      let n : drop k dims ≡ [] = drop_past dims k h in
      let p : place ≡ 0 = let w = r.whole ∙ ap keys n in omega (arith, w, r.below) in
      r.same ∙ ap (λ D. bit (masks (may_be F) D (linears F (terms_of (map f (drop k parts))))) place) n ∙ ap (λ q. get_or (true ∷ []) q false) p
    where
      drop_past : {Y : Type 0} (ys : List Y) (k : ℕ) → length ys ≤ k → drop k ys ≡ []
      drop_past [] zero h = refl
      drop_past [] (suc k) h = refl
      drop_past (y ∷ ys) zero h = absurd (omega (arith, h))
      drop_past (y ∷ ys) (suc k) h = drop_past ys k (omega (arith, h))

-- ---- the cells of a row, from a place on

-- the hull of the cells from a place on that are taken, and of what was found before
abbrev pub hull_from : Family → List Bool → List Cell → Option Span → ℕ → Option Span
hull_from F bs cells o L = joined_onto span_hull (map (cell_range F) (chosen (drop L bs) (drop L cells))) o

before : {Y : Type 0} (ys : List Y) (L : ℕ) (y : Y) → 0 < L → L ≤ length ys → drop (L - 1) ys ≡ get_or ys (L - 1) y ∷ drop L ys
before ys L y p h = subst (λ k. drop (L - 1) ys ≡ get_or ys (L - 1) y ∷ drop k ys) (one_less L p) (drop_at ys (L - 1) (get_or ys (L - 1) y) (omega (arith, p, h)) (any_default ys (L - 1) y (get_or ys (L - 1) y) (omega (arith, p, h))))

pub hull_start : (F : Family) (bs : List Bool) (cells : List Cell) (o : Option Span) (n : ℕ) → length bs ≡ n → o ≡ hull_from F bs cells o n
hull_start F bs cells o n e = rw (sym e, drop_none bs) refl

module _ (F : Family) (may : ℤ → Bool) (dim : List ℤ) (cells : List Cell) (o : Option Span) (L : ℕ) (c : Cell) (found : Option Span) where
  pub hull_skips : (b : Bool) → length cells ≡ length dim → 0 < L → L ≤ length dim → b ≡ may (get_or dim (L - 1) (pos 0)) → b ≡ false → found ≡ hull_from F (map may dim) cells o L → found ≡ hull_from F (map may dim) cells o (L - 1)
  hull_skips b e p h t z i =
      let q : get_or (map may dim) (L - 1) false ≡ false = at_map may dim (L - 1) (omega (arith, p, h)) ∙ sym t ∙ z in
      rw (before (map may dim) L false p (omega (arith, h, length_map may dim)), before cells L c p (omega (arith, h, e)), q) i

  pub hull_takes : (b : Bool) (r u : Span) → length cells ≡ length dim → 0 < L → L ≤ length dim → b ≡ may (get_or dim (L - 1) (pos 0)) → b ≡ true → found ≡ hull_from F (map may dim) cells o L
      → u ≡ cell_range F (get_or cells (L - 1) c) → r ≡ combined span_hull u found → Some r ≡ hull_from F (map may dim) cells o (L - 1)
  hull_takes b r u e p h t z i j k =
      let q : get_or (map may dim) (L - 1) false ≡ true = at_map may dim (L - 1) (omega (arith, p, h)) ∙ sym t ∙ z in
      rw (before (map may dim) L false p (omega (arith, h, length_map may dim)), before cells L c p (omega (arith, h, e)), q)
      (ap Some (k ∙ ap (λ z. combined span_hull z found) j ∙ ap (combined span_hull (cell_range F (get_or cells (L - 1) c))) i))

pub cell_there : (n : ℕ) (cells : List Cell) (k : ℕ) (c : Cell) → k < length cells → list_all (is_there n) cells ≡ true → is_there n (get_or cells k c) ≡ true
cell_there n [] k c h e = absurd (omega (arith, h))
cell_there n (d ∷ cells) zero c h e = (both_true (is_there n d) (list_all (is_there n) cells) e).0
cell_there n (d ∷ cells) (suc k) c h e = cell_there n cells k c (omega (arith, h)) (both_true (is_there n d) (list_all (is_there n) cells) e).1

-- each index can be compared with its subscript
pub abs_at : (dim : List ℤ) (p : ℕ) → p < length dim → unsigned_abs (get_or dim p (pos 0)) ≤ greatest_abs dim
abs_at [] p h = absurd (omega (arith, h))
abs_at (v ∷ dim) zero h = omega arith
abs_at (v ∷ dim) (suc p) h = omega (arith, abs_at dim p (omega (arith, h)))

pub index_fits : {X : Type 0} (sets : List (ℤ × ℤ)) (f : X → Term) (dims : List (List ℤ)) (parts : List X) (k p : ℕ) (dim d : List ℤ) (part : X) → FitDimensions sets dims (terms_of (map f parts)) → k < length dims → dim ≡ get_or dims k d
    → part ≡ get_or parts k part → p < length dim → IsSmall (term_magnitude sets (f part) + unsigned_abs (get_or dim p (pos 0)))
index_fits sets f [] parts k p dim d part s h e i g = absurd (omega (arith, h))
index_fits sets f (x ∷ dims) [] k p dim d part s h e i g = absurd s
index_fits sets f (x ∷ dims) (y ∷ parts) zero p dim d part s h e i g =
    let a : unsigned_abs (get_or dim p (pos 0)) ≤ greatest_abs x = subst (λ z. unsigned_abs (get_or dim p (pos 0)) ≤ greatest_abs z) e (abs_at dim p g) in
    omega (arith, s.0, a, ap (λ z. term_magnitude sets (f z)) i)
index_fits sets f (x ∷ dims) (y ∷ parts) (suc k) p dim d part s h e i g = index_fits sets f dims parts k p dim d part s.1 (omega (arith, h)) e i g

pub fit_same : {X : Type 0} (sets : List (ℤ × ℤ)) (f : X → Term) (D d : List (List ℤ)) (P p : List X) → d ≡ D → p ≡ P → FitDimensions sets D (terms_of (map f P)) → FitDimensions sets d (terms_of (map f p))
fit_same sets f D d P p i j s = subst (λ z. FitDimensions sets z (terms_of (map f p))) (sym i) (subst (λ z. FitDimensions sets D (terms_of (map f z))) (sym j) s)
