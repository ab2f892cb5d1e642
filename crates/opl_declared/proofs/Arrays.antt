-- Numbers of variables and of arrays by the places of names.
use Rattle.std.proofs.Common.{◌≡◌, ℕ, zero, suc, ◌+◌, ℤ, Bool, true, false, cond, List, [], ◌∷◌, ◌++◌, length, map, Option, None, Some, refl, ap, sym, ◌∙◌, arith}
use Rattle.std.specs.Prelude.{bytes_eq, is_some}
use Rattle.std.specs.List.{slice_get}
use Rattle.std.specs.Option.{option_map}
use Rattle.opl_value.specs.declared.value.IndexSpace.{IndexSpace}
use Rattle.opl_value.specs.declared.value.Value.{Value}
use Rattle.opl_value.specs.declared.value.Value.TheVariants as made
use Rattle.opl_value.specs.declared.value.Dimension.TheOpen.{Value-F}
use Rattle.opl_value.specs.declared.value.Dimension.TheViews.{out-Value}
use Rattle.opl_eval.specs.Evaluation.{Item, latest_or}
use Rattle.opl_meaning.specs.declared.variable.VariableItem.{VariableItem}
use Rattle.opl_meaning.specs.Places.{latest, position}
use Rattle.opl_meaning.specs.Runs.{Text}
use Rattle.opl_draft.specs.Drafts.{Cells}
use Rattle.opl_draft.specs.Numbers.{Entry, Numbered, array_or, arrays_of, cells_layer, cells_or, data_cells, data_entries, entries, number_after, number_of, variable_cells, variable_entries, variable_named, variable_or, with_cells}
use Rattle.opl_declared.specs.Kept.{firsts_of}
use Rattle.opl_declared.specs.Lookups.{array_layer, both, cells_at, guarded, is_array, item_cells, names_array, names_value, numbered_at, or_cells}

-- ---- lists

pub append-one : {A : Type 0} (xs : List A) (y : A) (zs : List A) → xs ++ (y ∷ zs) ≡ (xs ++ y ∷ []) ++ zs
append-one [] y zs = refl
append-one (x ∷ xs) y zs = ap (λ l. x ∷ l) (append-one xs y zs)

at-length : {A : Type 0} (xs : List A) (y : A) (zs : List A) → slice_get (xs ++ y ∷ zs) (length xs) ≡ Some y
at-length [] y zs = refl
at-length (x ∷ xs) y zs = at-length xs y zs

length-last : {A : Type 0} (xs : List A) (y : A) → length (xs ++ y ∷ []) ≡ length xs + 1
length-last [] y = refl
length-last (x ∷ xs) y = ap suc (length-last xs y) ∙ next (length xs)
  where
    next : (n : ℕ) → suc (n + 1) ≡ suc n + 1
    next n = omega arith

-- ---- variables

chosen-variable : (b : Bool) (p : Option ℕ) (i : ℕ) (v : VariableItem) (n : ℕ) (items : List VariableItem) (firsts : List ℕ) → slice_get items i ≡ Some v → slice_get firsts i ≡ Some n →
    cond b (Some (record { item = v; first = n })) (numbered_at p items firsts) ≡ numbered_at (cond b (Some i) p) items firsts
chosen-variable true p i v n items firsts h k = λ j. both (sym h j) (sym k j)
chosen-variable false p i v n items firsts h k = refl

variable-along : (p : Option ℕ) (name : Text) (n : ℕ) (us : List VariableItem) (fs : List ℕ) (vs : List VariableItem) (items : List VariableItem) (firsts : List ℕ) →
    us ++ vs ≡ items → fs ++ firsts_of n vs ≡ firsts → length fs ≡ length us →
    variable_or (numbered_at p items firsts) name n vs ≡ numbered_at (latest p (length us) name (map (λ v. v.name) vs)) items firsts
variable-along p name n us fs [] items firsts h k l = refl
variable-along p name n us fs (v ∷ vs) items firsts h k l =
    ap (λ b. variable_or b name (n + length v.sets) vs)
    (chosen-variable (bytes_eq name v.name) p (length us) v n items firsts
    (ap (λ xs. slice_get xs (length us)) (sym h) ∙ at-length us v vs)
    (ap (slice_get firsts) (sym l) ∙ ap (λ xs. slice_get xs (length fs)) (sym k) ∙ at-length fs n (firsts_of (n + length v.sets) vs)))
    ∙ variable-along (cond (bytes_eq name v.name) (Some (length us)) p) name (n + length v.sets) (us ++ v ∷ []) (fs ++ n ∷ []) vs items firsts
    (sym (append-one us v vs) ∙ h) (sym (append-one fs n (firsts_of (n + length v.sets) vs)) ∙ k)
    (length-last fs n ∙ ap (λ m. m + 1) l ∙ sym (length-last us v))
    ∙ ap (λ m. numbered_at (latest (cond (bytes_eq name v.name) (Some (length us)) p) m name (map (λ v. v.name) vs)) items firsts) (length-last us v)

pub variable-placed : (name : Text) (items : List VariableItem) → variable_named name items ≡ numbered_at (position name (map (λ v. v.name) items)) items (firsts_of 0 items)
variable-placed name items = variable-along None name 0 [] [] items items (firsts_of 0 items) refl refl refl

-- ---- arrays

-- the elements of an entry have its name
abbrev HasName : Text → Option Cells → Type 0
HasName name None = Unit {0}
HasName name (Some a) = a.name ≡ name

abbrev AreNamed : List Entry → Type 0
AreNamed [] = Unit {0}
AreNamed (e ∷ es) = HasName e.name e.cells × AreNamed es

chosen-array : (b c : Bool) (i : ℕ) (p : Option ℕ) → cond b (Some i) (guarded c p) ≡ guarded (cond b true c) (cond b (Some i) p)
chosen-array true c i p = refl
chosen-array false c i p = refl

lost-array : (b c : Bool) (p : Option ℕ) → cond b None (guarded c p) ≡ guarded (cond b false c) p
lost-array true c p = refl
lost-array false c p = refl

some-cond : (b : Bool) (a : Option Cells) (c : Option Cells) → cond b (is_some a) (is_some c) ≡ is_some (cond b a c)
some-cond true a c = refl
some-cond false a c = refl

next-is : (k : ℕ) → suc k ≡ k + 1
next-is k = omega arith

is-next : (k : ℕ) → k + 1 ≡ suc k
is-next k = omega arith

-- one entry more in front
array-step : (p : Option ℕ) (k : ℕ) (name own : Text) (es : List Entry) (c o : Option Cells) → HasName own o →
    ((q : Option ℕ) (j : ℕ) (d : Option Cells) → array_or (guarded (is_some d) q) j name es ≡ guarded (is_some (cells_or d name es)) (latest q j name (map (λ a. a.name) (arrays_of es)))) →
    array_or (cond (bytes_eq name own) (number_of k o) (guarded (is_some c) p)) (number_after k o) name es
    ≡ guarded (is_some (cells_or (cond (bytes_eq name own) o c) name es)) (latest p k name (map (λ a. a.name) (with_cells o (arrays_of es))))
array-step p k name own es c None h others =
    ap (λ b. array_or b k name es) (lost-array (bytes_eq name own) (is_some c) p ∙ ap (λ b. guarded b p) (some-cond (bytes_eq name own) None c))
    ∙ others p k (cond (bytes_eq name own) None c)
array-step p k name own es c (Some a) h others =
    ap (λ b. array_or b (suc k) name es) (chosen-array (bytes_eq name own) (is_some c) k p ∙ ap (λ b. guarded b (cond (bytes_eq name own) (Some k) p)) (some-cond (bytes_eq name own) (Some a) c))
    ∙ others (cond (bytes_eq name own) (Some k) p) (suc k) (cond (bytes_eq name own) (Some a) c)
    ∙ (λ i. guarded (is_some (cells_or (cond (bytes_eq name own) (Some a) c) name es)) (latest (cond (bytes_eq name (sym h i)) (Some k) p) (next-is k i) name (map (λ a. a.name) (arrays_of es))))

array-along : (p : Option ℕ) (k : ℕ) (name : Text) (es : List Entry) (c : Option Cells) → AreNamed es →
    array_or (guarded (is_some c) p) k name es ≡ guarded (is_some (cells_or c name es)) (latest p k name (map (λ a. a.name) (arrays_of es)))
array-along p k name [] c named = refl
array-along p k name (e ∷ es) c named = array-step p k name e.name es c e.cells named.0 (λ q j d. array-along q j name es d named.1)

-- the elements are those of the array of the number
chosen-cells : (b : Bool) (p : Option ℕ) (i : ℕ) (a : Cells) (arrays : List Cells) → slice_get arrays i ≡ Some a → cond b (Some a) (cells_at p arrays) ≡ cells_at (cond b (Some i) p) arrays
chosen-cells true p i a arrays h = sym h
chosen-cells false p i a arrays h = refl

lost-cells : (b : Bool) (p : Option ℕ) (arrays : List Cells) → cond b None (cells_at p arrays) ≡ cells_at (cond b None p) arrays
lost-cells true p arrays = refl
lost-cells false p arrays = refl

-- one entry more in front
cells-step : (p : Option ℕ) (before : List Cells) (name own : Text) (es : List Entry) (arrays : List Cells) (o : Option Cells) → before ++ with_cells o (arrays_of es) ≡ arrays →
    ((q : Option ℕ) (prior : List Cells) → prior ++ arrays_of es ≡ arrays → cells_or (cells_at q arrays) name es ≡ cells_at (array_or q (length prior) name es) arrays) →
    cells_or (cond (bytes_eq name own) o (cells_at p arrays)) name es ≡ cells_at (array_or (cond (bytes_eq name own) (number_of (length before) o) p) (number_after (length before) o) name es) arrays
cells-step p before name own es arrays None k others = ap (λ c. cells_or c name es) (lost-cells (bytes_eq name own) p arrays) ∙ others (cond (bytes_eq name own) None p) before k
cells-step p before name own es arrays (Some a) k others =
    ap (λ c. cells_or c name es) (chosen-cells (bytes_eq name own) p (length before) a arrays (ap (λ xs. slice_get xs (length before)) (sym k) ∙ at-length before a (arrays_of es)))
    ∙ others (cond (bytes_eq name own) (Some (length before)) p) (before ++ a ∷ []) (sym (append-one before a (arrays_of es)) ∙ k)
    ∙ ap (λ n. cells_at (array_or (cond (bytes_eq name own) (Some (length before)) p) n name es) arrays) (length-last before a ∙ is-next (length before))

cells-along : (p : Option ℕ) (before : List Cells) (name : Text) (es : List Entry) (arrays : List Cells) → before ++ arrays_of es ≡ arrays →
    cells_or (cells_at p arrays) name es ≡ cells_at (array_or p (length before) name es) arrays
cells-along p before name [] arrays h = refl
cells-along p before name (e ∷ es) arrays h = cells-step p before name e.name es arrays e.cells h (λ q prior k. cells-along q prior name es arrays k)

pub cells-numbered : (name : Text) (es : List Entry) → cells_or None name es ≡ cells_at (array_or None 0 name es) (arrays_of es)
cells-numbered name es = cells-along None [] name es (arrays_of es) refl

-- ---- entries

data-name : (name : Text) {A : Type 0} (v : Value-F A Value IndexSpace) → HasName name (cells_layer name v)
data-name name (Value-F.Array space cells) = refl
data-name name (Value-F.Int n) = tt
data-name name (Value-F.Bool b) = tt
data-name name (Value-F.Enum d p) = tt
data-name name (Value-F.Record vs) = tt
data-name name (Value-F.Set vs) = tt
data-name name (Value-F.Range l h) = tt
data-name name (Value-F.Names ns) = tt

variable-name : (v : VariableItem) (n : ℕ) (space : Option IndexSpace) → HasName v.name (variable_cells v n space)
variable-name v n None = tt
variable-name v n (Some space) = refl

variables-named : (n : ℕ) (vs : List VariableItem) → AreNamed (variable_entries n vs)
variables-named n [] = tt
variables-named n (v ∷ vs) = (variable-name v n v.space, variables-named (n + length v.sets) vs)

entries-named : (items : List Item) (vs : List VariableItem) → AreNamed (entries items vs)
entries-named [] vs = variables-named 0 vs
entries-named (i ∷ items) vs = (data-name i.name (out-Value i.value), entries-named items vs)

cells-append : (c : Option Cells) (name : Text) (es ds : List Entry) → cells_or c name (es ++ ds) ≡ cells_or (cells_or c name es) name ds
cells-append c name [] ds = refl
cells-append c name (e ∷ es) ds = cells-append (cond (bytes_eq name e.name) e.cells c) name es ds

chosen-item : (b : Bool) (i : Item) (before : Option Item) → cond b (data_cells i.name i.value) (item_cells before) ≡ item_cells (cond b (Some i) before)
chosen-item true i before = refl
chosen-item false i before = refl

cells-data : (before : Option Item) (name : Text) (items : List Item) → cells_or (item_cells before) name (data_entries items) ≡ item_cells (latest_or before name items)
cells-data before name [] = refl
cells-data before name (i ∷ items) =
    ap (λ c. cells_or c name (data_entries items)) (chosen-item (bytes_eq name i.name) i before) ∙ cells-data (cond (bytes_eq name i.name) (Some i) before) name items

chosen-variables : (b : Bool) (v : VariableItem) (n : ℕ) (w : Option Numbered) (c : Option Cells) → cond b (variable_cells v n v.space) (or_cells w c) ≡ or_cells (cond b (Some (record { item = v; first = n })) w) c
chosen-variables true v n w c = refl
chosen-variables false v n w c = refl

cells-variables : (w : Option Numbered) (c : Option Cells) (name : Text) (n : ℕ) (vs : List VariableItem) → cells_or (or_cells w c) name (variable_entries n vs) ≡ or_cells (variable_or w name n vs) c
cells-variables w c name n [] = refl
cells-variables w c name n (v ∷ vs) =
    ap (λ d. cells_or d name (variable_entries (n + length v.sets) vs)) (chosen-variables (bytes_eq name v.name) v n w c)
    ∙ cells-variables (cond (bytes_eq name v.name) (Some (record { item = v; first = n })) w) c name (n + length v.sets) vs

cells-declared : (name : Text) (items : List Item) (vs : List VariableItem) → cells_or None name (entries items vs) ≡ or_cells (variable_named name vs) (item_cells (latest_or None name items))
cells-declared name items vs =
    cells-append None name (data_entries items) (variable_entries 0 vs)
    ∙ ap (λ c. cells_or c name (variable_entries 0 vs)) (cells-data None name items)
    ∙ cells-variables None (item_cells (latest_or None name items)) name 0 vs

-- whether there are elements
some-data : (name : Text) {A : Type 0} (v : Value-F A Value IndexSpace) → is_some (cells_layer name v) ≡ array_layer v
some-data name (Value-F.Array space cells) = refl
some-data name (Value-F.Int n) = refl
some-data name (Value-F.Bool b) = refl
some-data name (Value-F.Enum d p) = refl
some-data name (Value-F.Record vs) = refl
some-data name (Value-F.Set vs) = refl
some-data name (Value-F.Range l h) = refl
some-data name (Value-F.Names ns) = refl

some-variable : (v : VariableItem) (n : ℕ) (space : Option IndexSpace) → is_some (variable_cells v n space) ≡ is_some space
some-variable v n None = refl
some-variable v n (Some space) = refl

some-cells : (w : Option Numbered) (o : Option Item) (v : Option Value) → v ≡ option_map (λ i. i.value) o → is_some (or_cells w (item_cells o)) ≡ names_array w v
some-cells None None v h = ap names_value (sym h)
some-cells None (Some i) v h = some-data i.name (out-Value i.value) ∙ ap names_value (sym h)
some-cells (Some n) o v h = some-variable n.item n.first n.item.space

-- the number of an array by its name
pub array-placed : (name : Text) (items : List Item) (vs : List VariableItem) (v : Option Value) → v ≡ option_map (λ i. i.value) (latest_or None name items) →
    array_or None 0 name (entries items vs) ≡ guarded (names_array (variable_named name vs) v) (position name (map (λ a. a.name) (arrays_of (entries items vs))))
array-placed name items vs v h =
    array-along None 0 name (entries items vs) None (entries-named items vs)
    ∙ ap (λ b. guarded b (position name (map (λ a. a.name) (arrays_of (entries items vs))))) (ap is_some (cells-declared name items vs) ∙ some-cells (variable_named name vs) (latest_or None name items) v h)

-- ---- values

pub array-Int : (n : ℤ) → is_array (made.Int n) ≡ false
array-Int n = ap array_layer (made.outs-Int n)

pub array-Bool : (b : Bool) → is_array (made.Bool b) ≡ false
array-Bool b = ap array_layer (made.outs-Bool b)

pub array-Enum : (k p : ℕ) → is_array (made.Enum k p) ≡ false
array-Enum k p = ap array_layer (made.outs-Enum k p)

pub array-Record : (vs : List Value) → is_array (made.Record vs) ≡ false
array-Record vs = ap array_layer (made.outs-Record vs)

pub array-Set : (vs : List Value) → is_array (made.Set vs) ≡ false
array-Set vs = ap array_layer (made.outs-Set vs)

pub array-Range : (l h : ℤ) → is_array (made.Range l h) ≡ false
array-Range l h = ap array_layer (made.outs-Range l h)

pub array-Names : (ns : List (List ℕ)) → is_array (made.Names ns) ≡ false
array-Names ns = ap array_layer (made.outs-Names ns)

pub array-Array : (s : IndexSpace) (vs : List Value) → is_array (made.Array s vs) ≡ true
array-Array s vs = ap array_layer (made.outs-Array s vs)

pub ruleset arrays_of_variants = (array-Int, array-Bool, array-Enum, array-Record, array-Set, array-Range, array-Names, array-Array)
