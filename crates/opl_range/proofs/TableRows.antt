-- The cells of a table, row by row along its last dimension.
use Rattle.std.proofs.Common.{◌≡◌, ℕ, zero, suc, ◌+◌, ◌-◌, ◌*◌, ◌/◌, ◌≤◌, ◌<◌, Bool, true, false, ◌&&◌, refl, List, [], ◌∷◌, ◌++◌, map, length, get_or, drop, take, ℤ, ap, sym, ◌∙◌, subst, arith}
use Rattle.std.specs.Prelude.{Option, Some, None}
use Rattle.std.specs.Bool.{◌==◌}
use Rattle.std.specs.List.{list_all}
use Rattle.std.proofs.Math.Nat.{mul_assoc, mul-le-mul_right}
use Rattle.std.proofs.lemmas.Nat.{div-mul-add}
use Rattle.std.proofs.lemmas.Bool.Decides.{Decides-eqb}
use Rattle.opl_domain.specs.Span.{Span}
use Rattle.opl_domain.specs.Arithmetic.{span_hull}
use Rattle.opl_domain.specs.Family.{Family}
use Rattle.opl_expr.specs.declared.tables.Cell.{Cell}
use Rattle.opl_expr.specs.Options.{combined, joined}
use Rattle.opl_expr.specs.declared.forms.Expr.{Expr}
use Rattle.opl_expr.specs.Forms.{Term, terms_of}
use Rattle.opl_expr.specs.Range.{taken, chosen, masks, may_be, linears, cell_range}
use Rattle.opl_expr.specs.Sound.{IsSmall, FitDimensions, term_magnitude, greatest_abs, keys, is_there}
use Rattle.opl_expr.proofs.Bounds.{both_true}
use Rattle.opl_expr.proofs.Parts.{drop_at, drop_none, one_less, any_default}
use Rattle.opl_range.specs.Between.{linear_of, joined_onto}
use Rattle.opl_range.proofs.Tables.{rows, length_map, length_taken}

-- ---- lists

append_one : {X : Type 0} (xs ys zs : List X) → (xs ++ ys) ++ zs ≡ xs ++ (ys ++ zs)
append_one [] ys zs = refl
append_one (x ∷ xs) ys zs = ap (λ l. x ∷ l) (append_one xs ys zs)

map_append : {X Y : Type 0} (f : X → Y) (xs ys : List X) → map f (xs ++ ys) ≡ map f xs ++ map f ys
map_append f [] ys = refl
map_append f (x ∷ xs) ys = ap (λ l. f x ∷ l) (map_append f xs ys)

split_front : {X : Type 0} (xs : List X) (n : ℕ) → xs ≡ take n xs ++ drop n xs
split_front xs zero = refl
split_front [] (suc n) = refl
split_front (x ∷ xs) (suc n) = ap (λ l. x ∷ l) (split_front xs n)

drop_drop : {X : Type 0} (xs : List X) (k n : ℕ) → drop n (drop k xs) ≡ drop (k + n) xs
drop_drop xs zero n = let e : 0 + n ≡ n = omega arith in rw e refl
drop_drop [] (suc k) zero = let e : suc k + 0 ≡ suc (k + 0) = omega arith in rw e refl
drop_drop [] (suc k) (suc n) = let e : suc k + suc n ≡ suc (k + suc n) = omega arith in rw e refl
drop_drop (x ∷ xs) (suc k) n = let e : suc k + n ≡ suc (k + n) = omega arith in rw e (drop_drop xs k n)

two_parts : {X : Type 0} (xs : List X) (k n : ℕ) → drop k xs ≡ take n (drop k xs) ++ drop (k + n) xs
two_parts xs k n = split_front (drop k xs) n ∙ ap (λ ys. take n (drop k xs) ++ ys) (drop_drop xs k n)

pub length_slice : {X : Type 0} (xs : List X) (k n : ℕ) → k + n ≤ length xs → length (take n (drop k xs)) ≡ n
length_slice [] zero zero h = refl
length_slice [] zero (suc n) h = absurd (omega (arith, h))
length_slice [] (suc k) n h = absurd (omega (arith, h))
length_slice (x ∷ xs) zero zero h = refl
length_slice (x ∷ xs) zero (suc n) h = ap suc (length_slice xs zero n (omega (arith, h)))
length_slice (x ∷ xs) (suc k) n h = length_slice xs k n (omega (arith, h))

pub slice_there : (m : ℕ) (xs : List Cell) (k n : ℕ) → list_all (is_there m) xs ≡ true → list_all (is_there m) (take n (drop k xs)) ≡ true
slice_there m xs zero zero e = refl
slice_there m [] zero (suc n) e = refl
slice_there m (x ∷ xs) zero (suc n) e = let b = both_true (is_there m x) (list_all (is_there m) xs) e in rw (b.0, slice_there m xs zero n b.1) refl
slice_there m [] (suc k) zero e = refl
slice_there m [] (suc k) (suc n) e = refl
slice_there m (x ∷ xs) (suc k) n e = slice_there m xs k n (both_true (is_there m x) (list_all (is_there m) xs) e).1

pub length_take : {X : Type 0} (xs : List X) (n : ℕ) → n ≤ length xs → length (take n xs) ≡ n
length_take xs zero h = refl
length_take [] (suc n) h = absurd (omega (arith, h))
length_take (x ∷ xs) (suc n) h = ap suc (length_take xs n (omega (arith, h)))

pub at_take : {X : Type 0} (xs : List X) (n k : ℕ) (d : X) → k < n → get_or (take n xs) k d ≡ get_or xs k d
at_take xs zero k d h = absurd (omega (arith, h))
at_take [] (suc n) k d h = refl
at_take (x ∷ xs) (suc n) zero d h = refl
at_take (x ∷ xs) (suc n) (suc k) d h = at_take xs n k d (omega (arith, h))

-- ---- what the last subscript reaches, in the rows that the others reach

rows_one : (m : List Bool) → rows m (true ∷ []) ≡ m
rows_one [] = refl
rows_one (c ∷ m) = ap (λ l. c ∷ l) (rows_one m)

and_true : (b : Bool) → (b && true) ≡ b
and_true true = refl
and_true false = refl

rows_each : (m : List Bool) → rows (true ∷ []) m ≡ m
rows_each [] = refl
rows_each (b ∷ m) = rw (and_true b, rows_each m) refl

rows_append : (m xs ys : List Bool) → rows m (xs ++ ys) ≡ rows m xs ++ rows m ys
rows_append m [] ys = refl
rows_append m (x ∷ xs) ys = ap (λ l. map (λ c. x && c) m ++ l) (rows_append m xs ys) ∙ sym (append_one (map (λ c. x && c) m) (rows m xs) (rows m ys))

and_and : (a b : Bool) (m : List Bool) → map (λ c. a && c) (map (λ c. b && c) m) ≡ map (λ c. (a && b) && c) m
and_and true b m = same (map (λ c. b && c) m)
  where
    same : (m : List Bool) → map (λ c. true && c) m ≡ m
    same [] = refl
    same (c ∷ m) = ap (λ l. c ∷ l) (same m)
and_and false b [] = refl
and_and false b (c ∷ m) = ap (λ l. false ∷ l) (and_and false b m)

masked : (b : Bool) (m T : List Bool) → map (λ c. b && c) (rows m T) ≡ rows m (map (λ c. b && c) T)
masked b m [] = refl
masked b m (t ∷ T) = map_append (λ c. b && c) (map (λ c. t && c) m) (rows m T) ∙ rw (and_and b t m, masked b m T) refl

rows_rows : (m T i : List Bool) → rows (rows m T) i ≡ rows m (rows T i)
rows_rows m T [] = refl
rows_rows m T (b ∷ i) = rw (masked b m T, rows_rows m T i) (sym (rows_append m (map (λ c. b && c) T) (rows T i)))

taken_last : {E : Type 0} (may : E → ℤ → Bool) (dims : List (List ℤ)) (es : List E) (k : ℕ) (dim : List ℤ) (e : E) → suc k ≡ length dims → length es ≡ length dims → dim ≡ get_or dims k dim → e ≡ get_or es k e
    → taken (masks may dims es) ≡ rows (map (may e) dim) (taken (masks may (take k dims) es))
taken_last may [] es k dim e l h i j = absurd (omega (arith, l))
taken_last may (d ∷ dims) [] k dim e l h i j = absurd (omega (arith, h))
taken_last may (d ∷ []) (x ∷ []) zero dim e l h i j = rows_each (map (may x) d) ∙ sym (rows_one (map (may x) d)) ∙ ap (λ z. rows (map (may x) z) (true ∷ [])) (sym i) ∙ ap (λ z. rows (map (may z) dim) (true ∷ [])) (sym j)
taken_last may (d ∷ c ∷ dims) (x ∷ es) zero dim e l h i j = absurd (omega (arith, l))
taken_last may (d ∷ []) (x ∷ y ∷ es) zero dim e l h i j = absurd (omega (arith, h))
taken_last may (d ∷ dims) (x ∷ es) (suc k) dim e l h i j =
    ap (λ T. rows T (map (may x) d)) (taken_last may dims es k dim e (omega (arith, l)) (omega (arith, h)) i j) ∙ rows_rows (map (may e) dim) (taken (masks may (take k dims) es)) (map (may x) d)

keys_last : (dims : List (List ℤ)) (k : ℕ) (dim : List ℤ) → suc k ≡ length dims → dim ≡ get_or dims k dim → keys dims ≡ keys (take k dims) * length dim
keys_last [] k dim l i = absurd (omega (arith, l))
keys_last (d ∷ []) zero dim l i = let e : length dim ≡ length d = ap length i in omega (arith, e)
keys_last (d ∷ c ∷ dims) zero dim l i = absurd (omega (arith, l))
keys_last (d ∷ dims) (suc k) dim l i = ap (λ n. length d * n) (keys_last dims k dim (omega (arith, l)) i) ∙ sym (mul_assoc (length d) (keys (take k dims)) (length dim))

-- ---- the hull of the rows from one on

chosen_append : (xs ys : List Bool) (cs ds : List Cell) → length xs ≡ length cs → chosen (xs ++ ys) (cs ++ ds) ≡ chosen xs cs ++ chosen ys ds
chosen_append [] ys [] ds e = refl
chosen_append [] ys (c ∷ cs) ds e = absurd (omega (arith, e))
chosen_append (x ∷ xs) ys [] ds e = absurd (omega (arith, e))
chosen_append (true ∷ xs) ys (c ∷ cs) ds e = ap (λ l. c ∷ l) (chosen_append xs ys cs ds (omega (arith, e)))
chosen_append (false ∷ xs) ys (c ∷ cs) ds e = chosen_append xs ys cs ds (omega (arith, e))

joined_append : (f : Span → Span → Span) (xs ys : List Span) → joined f (xs ++ ys) ≡ joined_onto f xs (joined f ys)
joined_append f [] ys = refl
joined_append f (x ∷ xs) ys = ap (λ o. Some (combined f x o)) (joined_append f xs ys)

none_chosen : (m : List Bool) (cs : List Cell) → chosen (map (λ c. false && c) m) cs ≡ []
none_chosen [] cs = refl
none_chosen (b ∷ m) [] = refl
none_chosen (b ∷ m) (c ∷ cs) = none_chosen m cs

all_chosen : (m : List Bool) → map (λ c. true && c) m ≡ m
all_chosen [] = refl
all_chosen (c ∷ m) = ap (λ l. c ∷ l) (all_chosen m)

module _ (F : Family) (m T : List Bool) (cells : List Cell) (n : ℕ) where
  -- the hull of the cells that are taken, from a row on
  abbrev pub rows_from : ℕ → Option Span
  rows_from L = joined span_hull (map (cell_range F) (chosen (rows m (drop L T)) (drop (L * n) cells)))

  rows_start : (L : ℕ) → length T ≡ L → None ≡ rows_from L
  rows_start L e = rw (sym e, drop_none T) refl

  rows_whole : (L : ℕ) → L ≡ 0 → rows_from L ≡ joined span_hull (map (cell_range F) (chosen (rows m T) cells))
  rows_whole L e = let z : 0 * n ≡ 0 = omega arith in rw e (rw z refl)

  step : (L : ℕ) → 0 < L → L ≤ length T → L * n ≤ length cells → length m ≡ n
      → rows_from (L - 1) ≡ joined_onto span_hull (map (cell_range F) (chosen (map (λ c. get_or T (L - 1) false && c) m) (take n (drop ((L - 1) * n) cells)))) (rows_from L)
  step L p h w l =
      let t = get_or T (L - 1) false in
      let row = take n (drop ((L - 1) * n) cells) in
      let s : (L - 1) * n + n ≡ L * n = more L p in
      let long : length row ≡ n = length_slice cells ((L - 1) * n) n (omega (arith, s, w)) in
      let front : drop (L - 1) T ≡ t ∷ drop L T = subst (λ k. drop (L - 1) T ≡ t ∷ drop k T) (one_less L p) (drop_at T (L - 1) t (omega (arith, p, h)) (any_default T (L - 1) false t (omega (arith, p, h)))) in
      let back : drop ((L - 1) * n) cells ≡ row ++ drop (L * n) cells = subst (λ k. drop ((L - 1) * n) cells ≡ row ++ drop k cells) s (two_parts cells ((L - 1) * n) n) in
      ap (λ B. joined span_hull (map (cell_range F) (chosen (rows m B) (drop ((L - 1) * n) cells)))) front
      ∙ ap (λ C. joined span_hull (map (cell_range F) (chosen (map (λ c. t && c) m ++ rows m (drop L T)) C))) back
      ∙ ap (λ C. joined span_hull (map (cell_range F) C)) (chosen_append (map (λ c. t && c) m) (rows m (drop L T)) row (drop (L * n) cells) (length_map (λ c. t && c) m ∙ l ∙ sym long))
      ∙ ap (joined span_hull) (map_append (cell_range F) (chosen (map (λ c. t && c) m) row) (chosen (rows m (drop L T)) (drop (L * n) cells)))
      ∙ joined_append span_hull (map (cell_range F) (chosen (map (λ c. t && c) m) row)) (map (cell_range F) (chosen (rows m (drop L T)) (drop (L * n) cells)))
    where
      more : (L : ℕ) → 0 < L → (L - 1) * n + n ≡ L * n
      more zero p = absurd (omega (arith, p))
      more (suc L) p = let e : suc L - 1 ≡ L = omega arith in rw e (omega arith)

  row_skipped : (L : ℕ) (b : Bool) (found : Option Span) → 0 < L → L ≤ length T → L * n ≤ length cells → length m ≡ n → b ≡ get_or T (L - 1) false → b ≡ false → found ≡ rows_from L → found ≡ rows_from (L - 1)
  row_skipped L b found p h w l t z i =
      let q : get_or T (L - 1) false ≡ false = sym t ∙ z in
      let s = step L p h w l in
      i ∙ sym (s ∙ ap (λ x. joined_onto span_hull (map (cell_range F) (chosen (map (λ c. x && c) m) (take n (drop ((L - 1) * n) cells)))) (rows_from L)) q
      ∙ ap (λ C. joined_onto span_hull (map (cell_range F) C) (rows_from L)) (none_chosen m (take n (drop ((L - 1) * n) cells))))

  row_taken : (L : ℕ) (b : Bool) (found r : Option Span) (row : List Cell) → 0 < L → L ≤ length T → L * n ≤ length cells → length m ≡ n → b ≡ get_or T (L - 1) false → b ≡ true → found ≡ rows_from L → row ≡ take n (drop ((L - 1) * n) cells)
      → r ≡ joined_onto span_hull (map (cell_range F) (chosen m row)) found → r ≡ rows_from (L - 1)
  row_taken L b found r row p h w l t z i j k =
      let q : get_or T (L - 1) false ≡ true = sym t ∙ z in
      let s = step L p h w l in
      k ∙ ap (λ C. joined_onto span_hull (map (cell_range F) (chosen m C)) found) j ∙ ap (joined_onto span_hull (map (cell_range F) (chosen m (take n (drop ((L - 1) * n) cells))))) i
      ∙ sym (s ∙ ap (λ x. joined_onto span_hull (map (cell_range F) (chosen (map (λ c. x && c) m) (take n (drop ((L - 1) * n) cells)))) (rows_from L)) q
      ∙ ap (λ B. joined_onto span_hull (map (cell_range F) (chosen B (take n (drop ((L - 1) * n) cells)))) (rows_from L)) (all_chosen m))

-- ---- how many rows there are

some_index : (n m : ℕ) → 0 < n * m → 0 < m
some_index n zero h = absurd (omega (arith, h))
some_index n (suc m) h = omega arith

rows_are : (c n m : ℕ) → c ≡ n * m → 0 < c → c / m ≡ n
rows_are c n m e h =
    let p : 0 < m = some_index n m (subst (λ z. 0 < z) e h) in
    let s : c ≡ n * m + 0 = omega (arith, e) in
    ap (λ z. z / m) s ∙ div-mul-add n m 0 p

row_inside : (c n m k : ℕ) → c ≡ n * m → k ≤ n → k * m ≤ c
row_inside c n m k e h = omega (arith, e, mul-le-mul_right m h)

-- ---- a table whose last dimension is taken apart

pub no_cells : (F : Family) (bs : List Bool) (cells : List Cell) → length cells ≤ 0 → None ≡ joined span_hull (map (cell_range F) (chosen bs cells))
no_cells F [] cells h = refl
no_cells F (b ∷ bs) [] h = refl
no_cells F (b ∷ bs) (c ∷ cells) h = absurd (omega (arith, h))

pub one_cell : {E : Type 0} (F : Family) (may : E → ℤ → Bool) (dims : List (List ℤ)) (es : List E) (cells : List Cell) (c : Cell) (r : Span) → length dims ≤ 0 → length cells ≡ keys dims → r ≡ cell_range F (get_or cells 0 c)
    → Some r ≡ joined span_hull (map (cell_range F) (chosen (taken (masks may dims es)) cells))
one_cell F may [] es [] c r h e i = absurd (omega (arith, e))
one_cell F may [] es (d ∷ []) c r h e i = ap Some i
one_cell F may [] es (d ∷ b ∷ cells) c r h e i = absurd (omega (arith, e))
one_cell F may (dim ∷ dims) es cells c r h e i = absurd (omega (arith, h))

pub fit_at : {X : Type 0} (sets : List (ℤ × ℤ)) (f : X → Term) (dims : List (List ℤ)) (parts : List X) (k : ℕ) (dim d : List ℤ) (part : X) → FitDimensions sets dims (terms_of (map f parts)) → k < length dims → dim ≡ get_or dims k d → part ≡ get_or parts k part
    → IsSmall (term_magnitude sets (f part) + greatest_abs dim)
fit_at sets f [] parts k dim d part s h i j = absurd (omega (arith, h))
fit_at sets f (x ∷ dims) [] k dim d part s h i j = absurd s
fit_at sets f (x ∷ dims) (y ∷ parts) zero dim d part s h i j = omega (arith, s.0, ap greatest_abs i, ap (λ z. term_magnitude sets (f z)) j)
fit_at sets f (x ∷ dims) (y ∷ parts) (suc k) dim d part s h i j = fit_at sets f dims parts k dim d part s.1 (omega (arith, h)) i j

-- the last dimension of a table that has a cell, with its subscript
pub record IsSplit (dims : List (List ℤ)) (parts : List Expr) (cells : List Cell) (last : ℕ) (dim d : List ℤ) (part : Expr) : Type 0 where
  pub last_is : suc last ≡ length dims
  pub parts_are : length parts ≡ length dims
  pub dim_is : dim ≡ get_or dims last d
  pub part_is : part ≡ get_or parts last part
  pub whole : length cells ≡ keys dims
  pub some : 0 < length cells

module _ (dims : List (List ℤ)) (parts : List Expr) (cells : List Cell) (last : ℕ) (dim d : List ℤ) (part : Expr) (s : IsSplit dims parts cells last dim d part) where
  own_dim : dim ≡ get_or dims last dim
  own_dim = s.dim_is ∙ any_default dims last d dim (let e = s.last_is in omega (arith, e))

  split_keys : length cells ≡ keys (take last dims) * length dim
  split_keys = s.whole ∙ keys_last dims last dim s.last_is own_dim

  pub split_some : 0 < length dim
  split_some = some_index (keys (take last dims)) (length dim) (subst (λ z. 0 < z) split_keys s.some)

  pub split_count : length cells / length dim ≡ keys (take last dims)
  split_count = rows_are (length cells) (keys (take last dims)) (length dim) split_keys s.some

  -- a row lies within the cells
  split_row : (count L : ℕ) → count ≡ keys (take last dims) → L ≤ count → L * length dim ≤ length cells
  split_row count L e h = row_inside (length cells) (keys (take last dims)) (length dim) L split_keys (omega (arith, e, h))

  pub split_end : (count L : ℕ) → count ≡ keys (take last dims) → 0 < L → L ≤ count → (L - 1) * length dim + length dim ≤ length cells
  split_end count L e p h = let w = split_row count L e h in omega (arith, w, before_row L (length dim) p)
    where
      before_row : (L n : ℕ) → 0 < L → (L - 1) * n + n ≡ L * n
      before_row zero n p = absurd (omega (arith, p))
      before_row (suc L) n p = let e : suc L - 1 ≡ L = omega arith in rw e (omega arith)

  module _ (F : Family) (f : Expr → Term) where
    at_linears : (xs : List Expr) (k : ℕ) (x : Expr) → k < length xs → x ≡ get_or xs k x → linear_of F (f x) ≡ get_or (linears F (terms_of (map f xs))) k (linear_of F (f x))
    at_linears [] k x h e = absurd (omega (arith, h))
    at_linears (y ∷ xs) zero x h e = ap (λ z. linear_of F (f z)) e
    at_linears (y ∷ xs) (suc k) x h e = at_linears xs k x (omega (arith, h)) e

    linears_are : (xs : List Expr) → length (linears F (terms_of (map f xs))) ≡ length xs
    linears_are [] = refl
    linears_are (x ∷ xs) = ap suc (linears_are xs)

    -- whether the last subscript may have each index of its dimension
    abbrev pub last_mask : List Bool
    last_mask = map (may_be F (linear_of F (f part))) dim

    -- which rows the other subscripts may reach
    abbrev pub outer_rows : List Bool
    outer_rows = taken (masks (may_be F) (take last dims) (linears F (terms_of (map f parts))))

    split_mask : length last_mask ≡ length dim
    split_mask = length_map (may_be F (linear_of F (f part))) dim

    split_rows : length outer_rows ≡ keys (take last dims)
    split_rows = length_taken (may_be F) (take last dims) (linears F (terms_of (map f parts))) (let e = s.last_is in omega (arith, e, s.parts_are, linears_are parts, length_take dims last (omega (arith, e))))

    split_taken : taken (masks (may_be F) dims (linears F (terms_of (map f parts)))) ≡ rows last_mask outer_rows
    split_taken =
        taken_last (may_be F) dims (linears F (terms_of (map f parts))) last dim (linear_of F (f part)) s.last_is (linears_are parts ∙ s.parts_are) own_dim
        (at_linears parts last part (let e = s.last_is in omega (arith, e, s.parts_are)) s.part_is)

    pub split_start : (count : ℕ) → count ≡ keys (take last dims) → None ≡ rows_from F last_mask outer_rows cells (length dim) count
    split_start count e = rows_start F last_mask outer_rows cells (length dim) count (split_rows ∙ sym e)

    pub split_skipped : (count L : ℕ) (b : Bool) (found : Option Span) → count ≡ keys (take last dims) → 0 < L → L ≤ count → b ≡ get_or outer_rows (L - 1) false → b ≡ false → found ≡ rows_from F last_mask outer_rows cells (length dim) L
        → found ≡ rows_from F last_mask outer_rows cells (length dim) (L - 1)
    split_skipped count L b found e p h t z i =
        row_skipped F last_mask outer_rows cells (length dim) L b found p (omega (arith, h, e, split_rows)) (split_row count L e h) split_mask t z i

    pub split_joined : (count L : ℕ) (b : Bool) (found r : Option Span) (row : List Cell) → count ≡ keys (take last dims) → 0 < L → L ≤ count → b ≡ get_or outer_rows (L - 1) false → b ≡ true → found ≡ rows_from F last_mask outer_rows cells (length dim) L
        → row ≡ take (length dim) (drop ((L - 1) * length dim) cells) → r ≡ joined_onto span_hull (map (cell_range F) (chosen last_mask row)) found → r ≡ rows_from F last_mask outer_rows cells (length dim) (L - 1)
    split_joined count L b found r row e p h t z i j k =
        row_taken F last_mask outer_rows cells (length dim) L b found r row p (omega (arith, h, e, split_rows)) (split_row count L e h) split_mask t z i j k

    pub split_whole : (L : ℕ) (found : Option Span) → L ≡ 0 → found ≡ rows_from F last_mask outer_rows cells (length dim) L → found ≡ joined span_hull (map (cell_range F) (chosen (taken (masks (may_be F) dims (linears F (terms_of (map f parts))))) cells))
    split_whole L found e i =
        i ∙ rows_whole F last_mask outer_rows cells (length dim) L e ∙ ap (λ B. joined span_hull (map (cell_range F) (chosen B cells))) (sym split_taken)

-- ---- tests of lengths

pub empty_is : (n : ℕ) (b : Bool) → b ≡ (n == 0) → b ≡ true → n ≤ 0
empty_is n b e f = let z : n ≡ 0 = (Decides-eqb n 0).0 (sym e ∙ f) in omega (arith, z)

pub some_is : (n : ℕ) (b : Bool) → b ≡ (n == 0) → b ≡ false → 0 < n
some_is zero b e f = let g : true ≡ false = sym e ∙ f in cc
some_is (suc n) b e f = omega arith

pub plus_less : (x n : ℕ) → x + n - x ≡ n
plus_less x n = omega arith
