-- A table's value is the cell at the place of its subscripts.
use Rattle.std.proofs.Common.{◌≡◌, ℕ, zero, suc, ◌+◌, ◌*◌, ◌<◌, ℤ, pos, true, length, take, drop, slice_get, List, [], ◌∷◌, map, Option, None, Some, refl, sym, ap, subst, ◌∙◌, arith}
use Rattle.std.specs.Prelude.{slice_index_or}
use Rattle.std.specs.List.{All, list_all}
use Rattle.std.proofs.lemmas.Bool.{and_parts}
use Rattle.std.proofs.lemmas.List.{get_or-drop, get_or-take, length-drop, length-take-le}
use Rattle.opl_value.specs.Places.{joint}
use Rattle.opl_expr.specs.declared.tables.Cell.{Cell}
use Rattle.opl_expr.specs.declared.tables.Cell.TheVariants as cell
use Rattle.opl_expr.specs.Holds.{cell_value, place_in}
use Rattle.opl_expr.specs.Laws.{all_differ}
use Rattle.opl_expr.specs.Options.{bind1, lift, lift1}
use Rattle.opl_expr.specs.Sound.{keys}
use Rattle.opl_expr.proofs.Cells.{mul_block, place_below, reach_end, reach_missing, reach_none, reach_some, reached}
use Rattle.opl_form.proofs.Nodes.{whole}
use Rattle.opl_form.proofs.Nodes as nodes

-- the place of a key of numbers
abbrev pub ints_place : List (List ℤ) → List ℤ → Option ℕ
ints_place [] [] = Some 0
ints_place (d ∷ ds) (v ∷ vs) = joint (keys ds) (place_in v d) (ints_place ds vs)
ints_place ds vs = None

-- what stands in a list at this number
pub get-some : {A : Type 0} (xs : List A) (k : ℕ) (a : A) → slice_get xs k ≡ Some a → (k < length xs) × (slice_index_or xs k a ≡ a)
get-some [] k a h = absurd (cc)
get-some (x ∷ xs) zero a h = (omega arith, nodes.some-same x a h)
get-some (x ∷ xs) (suc k) a h = let p = get-some xs k a h in (omega (arith, p.0), p.1)

pub all-get : {A : Type 0} (P : A → Type 0) (xs : List A) (k : ℕ) (a : A) → All P xs → slice_get xs k ≡ Some a → P a
all-get P xs k a all h = let p = get-some xs k a h in subst P p.1 (all k a p.0)

pub get-map : {A B : Type 0} (f : A → B) (xs : List A) (k : ℕ) → slice_get (map f xs) k ≡ lift1 f (slice_get xs k)
get-map f [] k = refl
get-map f (x ∷ xs) zero = refl
get-map f (x ∷ xs) (suc k) = get-map f xs k

within-joint : (m n a b : ℕ) → a < m → b < n → a * n + b < m * n
within-joint m n a b h k = omega (arith, mul_block m n a h, k)

pub ints-below : (ds : List (List ℤ)) (vs : List ℤ) (p : ℕ) → ints_place ds vs ≡ Some p → p < keys ds
ints-below [] [] p h = let e : 0 ≡ p = nodes.some-same 0 p h in omega (arith, e)
ints-below [] (v ∷ vs) p h = absurd (cc)
ints-below (d ∷ ds) [] p h = absurd (cc)
ints-below (d ∷ ds) (v ∷ vs) p h = by (place_in v d) (ints_place ds vs) refl (λ b e. ints-below ds vs b e) h
  where
    by : (a b : Option ℕ) → place_in v d ≡ a → ((c : ℕ) → b ≡ Some c → c < keys ds) → joint (keys ds) a b ≡ Some p → p < length d * keys ds
    by None b e f g = absurd (cc)
    by (Some a) None e f g = absurd (cc)
    by (Some a) (Some b) e f g = subst (λ p. p < length d * keys ds) (nodes.some-same (a * keys ds + b) p g) (within-joint (length d) (keys ds) a b (place_below v d a (sym e)) (f b refl))

abbrev pub cell_at : List ℤ → List Cell → ℕ → ℤ
cell_at ns cells p = cell_value ns (slice_index_or cells p (cell.Const (pos 0)))

-- a cell of a block
block-cell : (cells : List Cell) (n m r : ℕ) → r < n → slice_index_or (take n (drop m cells)) r (cell.Const (pos 0)) ≡ slice_index_or cells (m + r) (cell.Const (pos 0))
block-cell cells n m r h = get_or-take n (drop m cells) r (cell.Const (pos 0)) h ∙ get_or-drop m cells r (cell.Const (pos 0))

block-length : (cells : List Cell) (m n p : ℕ) → length cells ≡ m * n → p < m → length (take n (drop (p * n) cells)) ≡ n
block-length cells m n p h k = length-take-le n (drop (p * n) cells) (omega (arith, mul_block m n p k, h, length-drop (p * n) cells))

none-one : (n : ℕ) → n ≡ 0 → n ≡ 1 → ⊥
none-one n h k = omega (arith, h, k)

more-one : (n : ℕ) → suc (suc n) ≡ 1 → ⊥
more-one n h = omega (arith, h)

length-zero : (n : ℕ) → suc n ≡ 0 → ⊥
length-zero n h = omega (arith, h)

zero-length : (n : ℕ) → 0 ≡ suc n → ⊥
zero-length n h = omega (arith, h)

suc-same : (m n : ℕ) → suc m ≡ suc n → m ≡ n
suc-same m n h = omega (arith, h)

pub reached-cell : (ns : List ℤ) (dims : List (List ℤ)) (os : List (Option ℤ)) (cells : List Cell) → length cells ≡ keys dims → list_all all_differ dims ≡ true → length os ≡ length dims →
    reached ns dims os cells ≡ bind1 (λ is. lift1 (cell_at ns cells) (ints_place dims is)) (whole os)
reached-cell ns [] [] [] l d e = absurd (none-one 0 refl l)
reached-cell ns [] [] (c ∷ []) l d e = sym (reach_end ns [] (c ∷ []) c refl refl)
reached-cell ns [] [] (c ∷ b ∷ cells) l d e = absurd (more-one (length cells) l)
reached-cell ns [] (o ∷ os) cells l d e = absurd (length-zero (length os) e)
reached-cell ns (dim ∷ dims) [] cells l d e = absurd (zero-length (length dims) e)
reached-cell ns (dim ∷ dims) (None ∷ os) cells l d e = sym (reach_missing ns dim dims os cells)
reached-cell ns (dim ∷ dims) (Some v ∷ os) cells l d e =
    let differ = and_parts (all_differ dim) (list_all all_differ dims) d in
    let m : length os ≡ length dims = suc-same (length os) (length dims) e in
    by (place_in v dim) refl differ.0 m
    (λ p h. reached-cell ns dims os (take (keys dims) (drop (p * keys dims) cells)) (block-length cells (length dim) (keys dims) p l (place_below v dim p (sym h))) differ.1 m)
  where
    outside : (o : Option (List ℤ)) → place_in v dim ≡ None → None ≡ bind1 (λ is. lift1 (cell_at ns cells) (ints_place (dim ∷ dims) is)) (lift (λ x xs. x ∷ xs) (Some v) o)
    outside None h = refl
    outside (Some is) h = ap (λ p. lift1 (cell_at ns cells) (joint (keys dims) p (ints_place dims is))) (sym h)

    inside : (p : ℕ) (o : Option (List ℤ)) → place_in v dim ≡ Some p →
        bind1 (λ is. lift1 (cell_at ns (take (keys dims) (drop (p * keys dims) cells))) (ints_place dims is)) o ≡ bind1 (λ is. lift1 (cell_at ns cells) (ints_place (dim ∷ dims) is)) (lift (λ x xs. x ∷ xs) (Some v) o)
    inside p None h = refl
    inside p (Some is) h = each (ints_place dims is) refl ∙ ap (λ p. lift1 (cell_at ns cells) (joint (keys dims) p (ints_place dims is))) (sym h)
      where
        each : (q : Option ℕ) → ints_place dims is ≡ q → lift1 (cell_at ns (take (keys dims) (drop (p * keys dims) cells))) q ≡ lift1 (cell_at ns cells) (joint (keys dims) (Some p) q)
        each None f = refl
        each (Some r) f = ap (λ c. Some (cell_value ns c)) (block-cell cells (keys dims) (p * keys dims) r (ints-below dims is r f))

    by : (o : Option ℕ) → place_in v dim ≡ o → all_differ dim ≡ true → length os ≡ length dims →
        ((p : ℕ) → place_in v dim ≡ Some p → reached ns dims os (take (keys dims) (drop (p * keys dims) cells)) ≡ bind1 (λ is. lift1 (cell_at ns (take (keys dims) (drop (p * keys dims) cells))) (ints_place dims is)) (whole os)) →
        reached ns (dim ∷ dims) (Some v ∷ os) cells ≡ bind1 (λ is. lift1 (cell_at ns cells) (ints_place (dim ∷ dims) is)) (lift (λ x xs. x ∷ xs) (Some v) (whole os))
    by None h differ m inner = sym (reach_none ns dim dims v os cells (sym h)) ∙ outside (whole os) h
    by (Some p) h differ m inner = sym (reach_some ns dim dims v os cells p differ m (sym h)) ∙ inner p h ∙ inside p (whole os) h
