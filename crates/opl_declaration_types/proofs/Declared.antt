-- Declarations, and the steps in which the program goes through them, come to the same.
use Rattle.std.proofs.Common.{arith, length, ◌≡◌, ℕ, Bool, true, false, cond, not, ◌||◌, List, [], ◌∷◌, ◌++◌, map, is_some, Option, None, Some, Ok, Err, refl, ap, sym, ◌∙◌, subst, append_assoc, append-nil}
use Rattle.std.specs.Str.{bytes_eq}
use Rattle.opl_tree.specs.declared.declaration.ActivityTree.{ActivityTree}
use Rattle.opl_tree.specs.declared.declaration.BoundsTree.{BoundsTree}
use Rattle.opl_tree.specs.declared.declaration.DataDeclTree.{DataDeclTree}
use Rattle.opl_tree.specs.declared.declaration.DeclTree.{DeclTree}
use Rattle.opl_tree.specs.declared.declaration.DeclTree.TheVariants as decls
use Rattle.opl_tree.specs.declared.declaration.DimTree.{DimTree}
use Rattle.opl_tree.specs.declared.declaration.DimsTree.{DimsTree}
use Rattle.opl_tree.specs.declared.declaration.DiscreteTree.{DiscreteTree}
use Rattle.opl_tree.specs.declared.declaration.EnumTree.{EnumTree}
use Rattle.opl_tree.specs.declared.declaration.FieldTree.{FieldTree}
use Rattle.opl_tree.specs.declared.declaration.InitialTree.{InitialTree}
use Rattle.opl_tree.specs.declared.declaration.InitialTree.TheVariants as initials
use Rattle.opl_tree.specs.declared.declaration.RangeTree.{RangeTree}
use Rattle.opl_tree.specs.declared.declaration.ScheduleEnd.{ScheduleEnd}
use Rattle.opl_tree.specs.declared.declaration.ScheduleEnd.TheVariants as ends
use Rattle.opl_tree.specs.declared.declaration.ScheduleTree.{ScheduleTree}
use Rattle.opl_tree.specs.declared.declaration.StructTree.{StructTree}
use Rattle.opl_tree.specs.declared.declaration.TypeTree.{TypeTree}
use Rattle.opl_tree.specs.declared.declaration.TypeTree.TheVariants as type_trees
use Rattle.opl_tree.specs.declared.declaration.TypeTree.TheFolds.{fold-roll-TypeTree}
use Rattle.opl_tree.specs.declared.declaration.UnaryTree.{UnaryTree}
use Rattle.opl_tree.specs.declared.declaration.VariableTree.{VariableTree}
use Rattle.opl_tree.specs.declared.expression.AddTree.{AddTree}
use Rattle.opl_tree.specs.declared.expression.CompareTree.TheViews.{out-KeyedTree}
use Rattle.opl_tree.specs.declared.expression.KeyedTree.{KeyedTree}
use Rattle.opl_tree.specs.declared.expression.NameTree.{NameTree}
use Rattle.opl_type_rules.specs.declared.fault.TypeFault.TheVariants.{Duplicate, Mismatch}
use Rattle.opl_type_rules.specs.declared.kind.Ty.{Ty}
use Rattle.opl_type_rules.specs.declared.names.Entry.{Entry}
use Rattle.opl_type_rules.specs.declared.names.Local.{Local}
use Rattle.opl_type_rules.specs.declared.names.Names.{Names}
use Rattle.opl_type_rules.specs.Types.{Sort, fits, is_set, sort, sorts_of}
use Rattle.opl_type_rules.specs.Types.Sort.{int, set, array, activity, unary, discrete, anything}
use Rattle.opl_type_rules.specs.Scope.{Checked, ◌>>=◌, ◌>>◌, and_then, unless, Text, Thing, Scope, Field, lookup, is_visible, declared, empty_scope, fresh, all_fresh, field_sort, field_sorts, fields, fits_in, with_values}
use Rattle.opl_type_rules.specs.Scope.Thing.{range, enum_type, enum_name, struct_type, value, variable, activities, resource}
use Rattle.opl_type_rules.specs.Forms.{Form, Forms, Pair, Pairs, form_add, form_keyed, form_set, pairs_of}
use Rattle.opl_type_rules.specs.Forms.Form.{number, named, bracket, negative, arithmetic, absolute, related, member, connected, aggregate, cardinality, all_different, subscripted, field, tuple, listed, described, cells, keyed_cells, question}
use Rattle.opl_type_rules.specs.Forms.Forms.{no_forms, more_forms}
use Rattle.opl_type_rules.specs.Forms.Pairs.{no_pairs, more_pairs}
use Rattle.opl_type_rules.specs.Expressions.{Opened, Node, Range, kinds, kinds_in, typed_set, typing, used, or_anything}
use Rattle.opl_type_rules.specs.Expressions.Need.{data_alone}
use Rattle.opl_expression_types.specs.Numbers.{maybe_number, number_kinds}
use Rattle.opl_declaration_types.specs.Declarations.{Dimensions, Shape, no_dimensions, dimensions, with_dimension, fresh_in, all_dims, cell_indices, cells_left, enum_names, with_names, enum_decl, field_list, struct_decl, initial, initial_cells, initial_kinds, initial_pairs, is_decidable, is_given, given, makes, named_type, bounds_kinds, shape, shaped, variable_type, written_type, data_decl, range_decl, variable_decl, activity_decl, unary_decl, discrete_decl, schedule_decl, decl, all_decls, next}
use Rattle.opl_type_rules.specs.Steps.{front, behind}
use Rattle.opl_declaration_types.specs.DeclarationSteps.{Seen, fresh_name, seen_more, see_each, nothing_seen, seen, cells_seen, is_any, front_number, front_bounds, front_initial, data_behind, range_behind, variable_behind, activity_behind, unary_behind, discrete_behind, schedule_behind, name_each, enum_steps, field_each, struct_steps, initial_by, plain_value, cells_behind, pair_behind, pairs_behind, decls_behind}
use Rattle.opl_expression_types.specs.Cells.{Held, held}
use Rattle.opl_type_rules.proofs.Forms.{form_keyed-is}
use Rattle.opl_type_rules.specs.Values.{scope_of, within, with_entries, with_locals, thing_of}

-- ---- one check behind another

under : {A B : Type 0} (c : Checked A) (f g : A → Checked B) → ((a : A) → f a ≡ g a) → and_then c f ≡ and_then c g
under (Ok a) f g h = h a
under (Err e) f g h = refl

front-none : (ks : List Sort) → Ok ks ≡ front ks (Ok [])
front-none ks = ap Ok (sym (append-nil ks))

front-then : (ks : List Sort) (c d : Checked (List Sort)) → front ks (and_then c (λ a. and_then d (λ b. Ok (a ++ b)))) ≡ and_then (front ks c) (λ k. front k d)
front-then ks (Err e) d = refl
front-then ks (Ok a) (Err e) = refl
front-then ks (Ok a) (Ok b) = ap Ok (sym (append_assoc ks a b))

-- types behind those of the dimensions
made-behind : (ks dims : List Sort) (sc : Scope) (name : NameTree) (thing : Thing) (c : Checked (List Sort)) →
    behind ks (and_then c (λ inner. makes sc name thing (dims ++ inner))) ≡ and_then (front (ks ++ dims) c) (λ more. makes sc name thing more)
made-behind ks dims sc name thing (Err e) = refl
made-behind ks dims sc name thing (Ok inner) = rw append_assoc refl

-- ---- written types

pub written_type-Int : (at : ℕ) (sc : Scope) → written_type (type_trees.Int at) sc ≡ Ok int
unfolding written_type
written_type-Int at sc = ap (λ t. written_type t sc) (sym (type_trees.rolls-Int at)) ∙ rw fold-roll-TypeTree refl

pub written_type-Named : (name : NameTree) (sc : Scope) → written_type (type_trees.Named name) sc ≡ named_type sc name
unfolding written_type
written_type-Named name sc = ap (λ t. written_type t sc) (sym (type_trees.rolls-Named name)) ∙ rw fold-roll-TypeTree refl

pub written_type-Set : (at : ℕ) (inner : TypeTree) (sc : Scope) → written_type (type_trees.Set at inner) sc ≡ and_then (written_type inner sc) (λ s. Ok (set s))
unfolding written_type
written_type-Set at inner sc = ap (λ t. written_type t sc) (sym (type_trees.rolls-Set at inner)) ∙ rw fold-roll-TypeTree refl

pub ruleset written = (written_type-Int, written_type-Named, written_type-Set)

-- ---- names

-- the same names are visible
abbrev Agree : Scope → Scope → Type 0
Agree a b = (name : Text) → is_visible (lookup a name) ≡ is_visible (lookup b name)

visible-cond : (b : Bool) (t u : Thing) (x y : Option Thing) → is_visible x ≡ is_visible y → is_visible (cond b (Some t) x) ≡ is_visible (cond b (Some u) y)
visible-cond true t u x y h = refl
visible-cond false t u x y h = h

agree-declared : (a b : Scope) (n : Text) (t u : Thing) → Agree a b → Agree (declared n t a) (declared n u b)
unfolding lookup declared
agree-declared a b n t u h name = visible-cond (bytes_eq name n) t u _ _ (h name)

fresh-agrees : (a b : Scope) (n : NameTree) → Agree a b → fresh a n ≡ fresh b n
unfolding fresh
fresh-agrees a b n h = ap (λ v. unless (not v) (Duplicate n.at)) (h n.text)

pub within-none : (n : Names) → within n [] ≡ scope_of n
unfolding within
within-none n = refl

pub within-no : (n : Names) (ls : List Local) → ls ≡ [] → within n ls ≡ scope_of n
within-no n ls h = ap (within n) h ∙ within-none n

with_locals-last : (ls : List Local) (l : Local) (sc : Scope) → with_locals (ls ++ l ∷ []) sc ≡ declared l.name (value (sort l.ty)) (with_locals ls sc)
with_locals-last [] l sc = refl
with_locals-last (x ∷ xs) l sc = with_locals-last xs l (declared x.name (value (sort x.ty)) sc)

pub within-last : (n : Names) (ls : List Local) (l : Local) → within n (ls ++ l ∷ []) ≡ declared l.name (value (sort l.ty)) (within n ls)
unfolding within
within-last n ls l = with_locals-last ls l (scope_of n)

pub is_any-last : (ls : List Local) (l : Local) → is_any (ls ++ l ∷ []) ≡ true
is_any-last [] l = refl
is_any-last (x ∷ xs) l = refl

pub sorts-last : (ts : List Ty) (t : Ty) → map sort (ts ++ t ∷ []) ≡ map sort ts ++ sort t ∷ []
sorts-last [] t = refl
sorts-last (x ∷ xs) t = ap (λ ss. sort x ∷ ss) (sorts-last xs t)

pub sorts-behind : (ts us : List Ty) → map sort (ts ++ us) ≡ map sort ts ++ map sort us
sorts-behind [] us = refl
sorts-behind (t ∷ ts) us = ap (λ ss. sort t ∷ ss) (sorts-behind ts us)

pub ruleset names_within = (within-none, within-no, sorts-behind)

declared-fields : (n : Text) (s : Sort) (sc : Scope) → field_sorts (declared n (value s) sc) ≡ field_sorts sc
unfolding field_sorts fields declared
declared-fields n s sc = refl

field_sorts-with : (ls : List Local) (sc : Scope) → field_sorts (with_locals ls sc) ≡ field_sorts sc
field_sorts-with [] sc = refl
field_sorts-with (l ∷ ls) sc = field_sorts-with ls (declared l.name (value (sort l.ty)) sc) ∙ declared-fields l.name (sort l.ty) sc

-- names of values bring no structs
field_sorts-within : (n : Names) (ls : List Local) → field_sorts (within n ls) ≡ field_sorts (scope_of n)
unfolding within
field_sorts-within n ls = field_sorts-with ls (scope_of n)

pub fits-within : (n : Names) (ls : List Local) (want have : Sort) → fits_in (scope_of n) want have ≡ fits_in (within n ls) want have
fits-within n ls want have = ap (λ f. fits f want have) (sym (field_sorts-within n ls))

pub ruleset dimensions_kept = (within-last, is_any-last, sorts-last, sorts-behind)

-- ---- dimensions

abbrev any_name : List NameTree → Bool
any_name [] = false
any_name (n ∷ ns) = true

abbrev extended : Seen → Dimensions → Seen
extended o d = record { indices = o.indices ++ d.indices; is_named = o.is_named || any_name d.names; inner = with_values d.names d.named o.inner; kinds = o.kinds ++ d.kinds }

same_seen : (a b : List Sort) (p q : Bool) (sc tc : Scope) (x y : List Sort) → a ≡ b → p ≡ q → sc ≡ tc → x ≡ y →
    ◌≡◌ {A = Seen} (record { indices = a; is_named = p; inner = sc; kinds = x }) (record { indices = b; is_named = q; inner = tc; kinds = y })
same_seen a b p q sc tc x y e f g h = cc

or-false : (b : Bool) → b ≡ (b || false)
or-false true = refl
or-false false = refl

or-true : (b : Bool) → true ≡ (b || true)
or-true true = refl
or-true false = refl

extended-none : (o : Seen) → o ≡ extended o no_dimensions
extended-none o = same_seen _ _ _ _ _ _ _ _ (sym (append-nil o.indices)) (or-false o.is_named) refl (sym (append-nil o.kinds))

extended-more : (name : Option NameTree) (s : Sort) (ks : List Sort) (o : Seen) (d : Dimensions) → extended (seen_more name s ks o) d ≡ extended o (with_dimension name s ks d)
extended-more None s ks o d = same_seen _ _ _ _ _ _ _ _ (append_assoc o.indices (s ∷ []) d.indices) refl refl (append_assoc o.kinds ks d.kinds)
extended-more (Some name) s ks o d = same_seen _ _ _ _ _ _ _ _ (append_assoc o.indices (s ∷ []) d.indices) (or-true o.is_named) refl (append_assoc o.kinds ks d.kinds)

extended-then : (name : Option NameTree) (s : Sort) (ks : List Sort) (o : Seen) (c : Checked Dimensions) →
    and_then c (λ d. Ok (extended (seen_more name s ks o) d)) ≡ and_then (and_then c (λ rest. Ok (with_dimension name s ks rest))) (λ d. Ok (extended o d))
extended-then name s ks o (Err e) = refl
extended-then name s ks o (Ok d) = ap Ok (extended-more name s ks o d)

-- one dimension with no name, and one with a name that is fresh or not, before others
see-plain : (sc taken : Scope) (o : Seen) (ds : List DimTree) (c : Checked Range) →
    ((m : Seen) → m.inner ≡ o.inner → see_each sc m ds ≡ and_then (dimensions sc taken ds) (λ d. Ok (extended m d))) →
    and_then (and_then c (λ over. Ok (seen_more None (or_anything over.element) (kinds_in over.nodes) o))) (λ m. see_each sc m ds)
    ≡ and_then (and_then c (λ over. and_then (dimensions sc taken ds) (λ rest. Ok (with_dimension None (or_anything over.element) (kinds_in over.nodes) rest)))) (λ d. Ok (extended o d))
see-plain sc taken o ds (Err e) ih = refl
see-plain sc taken o ds (Ok over) ih =
    ih (seen_more None (or_anything over.element) (kinds_in over.nodes) o) refl
    ∙ extended-then None (or_anything over.element) (kinds_in over.nodes) o (dimensions sc taken ds)

see-named : (sc taken : Scope) (name : NameTree) (o : Seen) (ds : List DimTree) (x : Checked (Unit {0})) (c : Checked Range) →
    ((s : Sort) (ks : List Sort) → see_each sc (seen_more (Some name) s ks o) ds ≡ and_then (dimensions sc (declared name.text (value anything) taken) ds) (λ d. Ok (extended (seen_more (Some name) s ks o) d))) →
    and_then (and_then x (λ u. and_then c (λ over. Ok (seen_more (Some name) (or_anything over.element) (kinds_in over.nodes) o)))) (λ m. see_each sc m ds)
    ≡ and_then (and_then (and_then x (λ u. Ok (declared name.text (value anything) taken))) (λ more. and_then c (λ over. and_then (dimensions sc more ds) (λ rest. Ok (with_dimension (Some name) (or_anything over.element) (kinds_in over.nodes) rest))))) (λ d. Ok (extended o d))
see-named sc taken name o ds (Err e) c ih = refl
see-named sc taken name o ds (Ok u) (Err e) ih = refl
see-named sc taken name o ds (Ok u) (Ok over) ih =
    ih (or_anything over.element) (kinds_in over.nodes)
    ∙ extended-then (Some name) (or_anything over.element) (kinds_in over.nodes) o (dimensions sc (declared name.text (value anything) taken) ds)

see-next : (sc taken : Scope) (name : Option NameTree) (o : Seen) (ds : List DimTree) (c : Checked Range) → Agree taken o.inner →
    ((more : Scope) (m : Seen) → Agree more m.inner → see_each sc m ds ≡ and_then (dimensions sc more ds) (λ d. Ok (extended m d))) →
    and_then (and_then (fresh_name o.inner name) (λ u. and_then c (λ over. Ok (seen_more name (or_anything over.element) (kinds_in over.nodes) o)))) (λ m. see_each sc m ds)
    ≡ and_then (and_then (fresh_in taken name) (λ more. and_then c (λ over. and_then (dimensions sc more ds) (λ rest. Ok (with_dimension name (or_anything over.element) (kinds_in over.nodes) rest))))) (λ d. Ok (extended o d))
see-next sc taken None o ds c h ih = see-plain sc taken o ds c (λ m e. ih taken m (subst (λ inner. Agree taken inner) (sym e) h))
see-next sc taken (Some name) o ds c h ih =
    ap (λ x. and_then (and_then x (λ u. and_then c (λ over. Ok (seen_more (Some name) (or_anything over.element) (kinds_in over.nodes) o)))) (λ m. see_each sc m ds)) (sym (fresh-agrees taken o.inner name h))
    ∙ see-named sc taken name o ds (fresh taken name) c (λ s ks. ih (declared name.text (value anything) taken) (seen_more (Some name) s ks o) (agree-declared taken o.inner name.text (value anything) (value s) h))

see-dimensions : (sc : Scope) (ds : List DimTree) (taken : Scope) (o : Seen) → Agree taken o.inner → see_each sc o ds ≡ and_then (dimensions sc taken ds) (λ d. Ok (extended o d))
see-dimensions sc [] taken o h = ap Ok (extended-none o)
see-dimensions sc (d ∷ ds) taken o h = see-next sc taken d.name o ds (typed_set data_alone is_set sc (form_set d.set)) h (see-dimensions sc ds)

abbrev seen_of : Shape → Seen
seen_of d = record { indices = d.dims.indices; is_named = any_name d.dims.names; inner = d.inner; kinds = d.dims.kinds }

shaped-seen : (sc : Scope) (c : Checked Dimensions) → and_then c (λ d. Ok (extended (nothing_seen sc) d)) ≡ and_then (and_then c (λ d. Ok (record { dims = d; inner = with_values d.names d.named sc }))) (λ d. Ok (seen_of d))
shaped-seen sc (Err e) = refl
shaped-seen sc (Ok d) = refl

seen-shape : (sc : Scope) (dims : Option DimsTree) → seen sc dims ≡ and_then (shape sc dims) (λ d. Ok (seen_of d))
seen-shape sc dims = see-dimensions sc (all_dims dims) sc (nothing_seen sc) (λ n. refl) ∙ shaped-seen sc (dimensions sc sc (all_dims dims))

cells-left : (names : List NameTree) (is : List Sort) → cells_left names is ≡ cells_seen (any_name names) is
cells-left [] is = refl
cells-left (n ∷ ns) is = refl

-- ---- items and arrays of such

pub shaped-single : (is : List Ty) (s : Sort) → is ≡ [] → shaped (map sort is) s ≡ s
shaped-single is s h = ap (λ js. shaped (map sort js) s) h

pub shaped-array : (is : List Ty) (s : Sort) (x : Ty) (xs : List Ty) → is ≡ x ∷ xs → shaped (map sort is) s ≡ array (sorts_of (map sort is)) s
shaped-array is s x xs h = ap (λ js. shaped (map sort js) s) h ∙ ap (λ js. array (sorts_of (map sort js)) s) (sym h)

pub ruleset shapes = (shaped-single, shaped-array)

-- ---- declarations with dimensions

initial-front : (ks : List Sort) (sc : Scope) (s : Sort) (is : List Sort) (t : InitialTree) → front ks (initial_kinds sc s is t) ≡ front_initial ks sc s is t
initial-front ks sc s is (initials.External at) = sym (front-none ks)
initial-front ks sc s is (initials.Written t) = refl

abbrev data_seen : List Sort → Scope → DataDeclTree → Checked Seen → Checked Opened
data_seen ks sc t y = do
  s ← written_type t.kind sc
  fresh sc t.name
  d ← y
  more ← front_initial (ks ++ d.kinds) d.inner s (cells_seen d.is_named d.indices) t.initial
  makes sc t.name (value (shaped d.indices s)) more

data-by : (ks : List Sort) (sc : Scope) (t : DataDeclTree) (c : Checked Sort) (x : Checked (Unit {0})) (y : Checked Shape) →
    behind ks (and_then c (λ s. and_then x (λ u. and_then y (λ d. and_then (initial_kinds d.inner s (cell_indices d.dims) t.initial) (λ kinds. makes sc t.name (value (shaped d.dims.indices s)) (d.dims.kinds ++ kinds))))))
    ≡ and_then c (λ s. and_then x (λ u. and_then (and_then y (λ d. Ok (seen_of d))) (λ d. and_then (front_initial (ks ++ d.kinds) d.inner s (cells_seen d.is_named d.indices) t.initial) (λ more. makes sc t.name (value (shaped d.indices s)) more))))
data-by ks sc t (Err e) x y = refl
data-by ks sc t (Ok s) (Err e) y = refl
data-by ks sc t (Ok s) (Ok u) (Err e) = refl
data-by ks sc t (Ok s) (Ok u) (Ok d) =
    made-behind ks d.dims.kinds sc t.name (value (shaped d.dims.indices s)) (initial_kinds d.inner s (cell_indices d.dims) t.initial)
    ∙ ap (λ c. and_then c (λ more. makes sc t.name (value (shaped d.dims.indices s)) more))
    (ap (λ is. front (ks ++ d.dims.kinds) (initial_kinds d.inner s is t.initial)) (cells-left d.dims.names d.dims.indices)
    ∙ initial-front (ks ++ d.dims.kinds) d.inner s (cells_seen (any_name d.dims.names) d.dims.indices) t.initial)

data-law : (ks : List Sort) (sc : Scope) (t : DataDeclTree) → behind ks (data_decl sc t) ≡ data_behind ks sc t
data-law ks sc t = data-by ks sc t (written_type t.kind sc) (fresh sc t.name) (shape sc t.dims) ∙ ap (data_seen ks sc t) (sym (seen-shape sc t.dims))

range-by : (ks : List Sort) (sc : Scope) (name : NameTree) (x : Checked (Unit {0})) (low high : Checked (List Sort)) →
    behind ks (and_then x (λ u. and_then low (λ l. and_then high (λ h. makes sc name range (l ++ h)))))
    ≡ and_then x (λ u. and_then (and_then (front ks low) (λ more. front more high)) (λ more. makes sc name range more))
range-by ks sc name (Err e) low high = refl
range-by ks sc name (Ok u) (Err e) high = refl
range-by ks sc name (Ok u) (Ok l) (Err e) = refl
range-by ks sc name (Ok u) (Ok l) (Ok h) = rw append_assoc refl

range-law : (ks : List Sort) (sc : Scope) (t : RangeTree) → behind ks (range_decl sc t) ≡ range_behind ks sc t
range-law ks sc t = range-by ks sc t.name (fresh sc t.name) (number_kinds sc t.low) (number_kinds sc t.high)

bounds-front : (ks : List Sort) (sc : Scope) (b : Option BoundsTree) → front ks (bounds_kinds sc b) ≡ front_bounds ks sc b
bounds-front ks sc None = sym (front-none ks)
bounds-front ks sc (Some b) = front-then ks (number_kinds sc b.low) (number_kinds sc b.high)

made-if-behind : (ks dims : List Sort) (sc : Scope) (name : NameTree) (thing : Thing) (c : Checked (List Sort)) (z : Checked (Unit {0})) →
    behind ks (and_then c (λ inner. and_then z (λ u. makes sc name thing (dims ++ inner)))) ≡ and_then (front (ks ++ dims) c) (λ more. and_then z (λ u. makes sc name thing more))
made-if-behind ks dims sc name thing (Err e) z = refl
made-if-behind ks dims sc name thing (Ok inner) (Err e) = refl
made-if-behind ks dims sc name thing (Ok inner) (Ok u) = rw append_assoc refl

abbrev variable_seen : List Sort → Scope → VariableTree → Checked Seen → Checked Opened
variable_seen ks sc t y = do
  s ← variable_type sc t.kind
  fresh sc t.name
  d ← y
  more ← front_bounds (ks ++ d.kinds) d.inner t.bounds
  unless (is_decidable t.kind t.bounds s) (Mismatch t.at)
  makes sc t.name (variable (shaped d.indices s)) more

variable-by : (ks : List Sort) (sc : Scope) (t : VariableTree) (c : Checked Sort) (x : Checked (Unit {0})) (y : Checked Shape) →
    behind ks (and_then c (λ s. and_then x (λ u. and_then y (λ d. and_then (bounds_kinds d.inner t.bounds) (λ kinds. and_then (unless (is_decidable t.kind t.bounds s) (Mismatch t.at)) (λ v. makes sc t.name (variable (shaped d.dims.indices s)) (d.dims.kinds ++ kinds)))))))
    ≡ and_then c (λ s. and_then x (λ u. and_then (and_then y (λ d. Ok (seen_of d))) (λ d. and_then (front_bounds (ks ++ d.kinds) d.inner t.bounds) (λ more. and_then (unless (is_decidable t.kind t.bounds s) (Mismatch t.at)) (λ v. makes sc t.name (variable (shaped d.indices s)) more)))))
variable-by ks sc t (Err e) x y = refl
variable-by ks sc t (Ok s) (Err e) y = refl
variable-by ks sc t (Ok s) (Ok u) (Err e) = refl
variable-by ks sc t (Ok s) (Ok u) (Ok d) =
    made-if-behind ks d.dims.kinds sc t.name (variable (shaped d.dims.indices s)) (bounds_kinds d.inner t.bounds) (unless (is_decidable t.kind t.bounds s) (Mismatch t.at))
    ∙ ap (λ c. and_then c (λ more. and_then (unless (is_decidable t.kind t.bounds s) (Mismatch t.at)) (λ v. makes sc t.name (variable (shaped d.dims.indices s)) more))) (bounds-front (ks ++ d.dims.kinds) d.inner t.bounds)

variable-law : (ks : List Sort) (sc : Scope) (t : VariableTree) → behind ks (variable_decl sc t) ≡ variable_behind ks sc t
variable-law ks sc t = variable-by ks sc t (variable_type sc t.kind) (fresh sc t.name) (shape sc t.dims) ∙ ap (variable_seen ks sc t) (sym (seen-shape sc t.dims))

number-front : (ks : List Sort) (sc : Scope) (t : Option AddTree) → front ks (maybe_number sc t) ≡ front_number ks sc t
number-front ks sc None = sym (front-none ks)
number-front ks sc (Some t) = refl

made-two-behind : (ks dims : List Sort) (sc : Scope) (name : NameTree) (thing : Thing) (c d : Checked (List Sort)) →
    behind ks (and_then c (λ a. and_then d (λ b. makes sc name thing (dims ++ (a ++ b))))) ≡ and_then (front (ks ++ dims) c) (λ k. and_then (front k d) (λ more. makes sc name thing more))
made-two-behind ks dims sc name thing (Err e) d = refl
made-two-behind ks dims sc name thing (Ok a) (Err e) = refl
made-two-behind ks dims sc name thing (Ok a) (Ok b) = simp append_assoc refl

abbrev activity_seen : List Sort → Scope → ActivityTree → Checked Seen → Checked Opened
activity_seen ks sc t y = do
  fresh sc t.name
  d ← y
  shortest ← front (ks ++ d.kinds) (number_kinds d.inner t.shortest)
  longest ← front_number shortest d.inner t.longest
  makes sc t.name (activities (shaped d.indices activity)) longest

activity-by : (ks : List Sort) (sc : Scope) (t : ActivityTree) (x : Checked (Unit {0})) (y : Checked Shape) →
    behind ks (and_then x (λ u. and_then y (λ d. and_then (number_kinds d.inner t.shortest) (λ a. and_then (maybe_number d.inner t.longest) (λ b. makes sc t.name (activities (shaped d.dims.indices activity)) (d.dims.kinds ++ (a ++ b)))))))
    ≡ and_then x (λ u. and_then (and_then y (λ d. Ok (seen_of d))) (λ d. and_then (front (ks ++ d.kinds) (number_kinds d.inner t.shortest)) (λ k. and_then (front_number k d.inner t.longest) (λ more. makes sc t.name (activities (shaped d.indices activity)) more))))
activity-by ks sc t (Err e) y = refl
activity-by ks sc t (Ok u) (Err e) = refl
activity-by ks sc t (Ok u) (Ok d) =
    made-two-behind ks d.dims.kinds sc t.name (activities (shaped d.dims.indices activity)) (number_kinds d.inner t.shortest) (maybe_number d.inner t.longest)
    ∙ under (front (ks ++ d.dims.kinds) (number_kinds d.inner t.shortest))
    (λ k. and_then (front k (maybe_number d.inner t.longest)) (λ more. makes sc t.name (activities (shaped d.dims.indices activity)) more))
    (λ k. and_then (front_number k d.inner t.longest) (λ more. makes sc t.name (activities (shaped d.dims.indices activity)) more))
    (λ k. ap (λ c. and_then c (λ more. makes sc t.name (activities (shaped d.dims.indices activity)) more)) (number-front k d.inner t.longest))

activity-law : (ks : List Sort) (sc : Scope) (t : ActivityTree) → behind ks (activity_decl sc t) ≡ activity_behind ks sc t
activity-law ks sc t = activity-by ks sc t (fresh sc t.name) (shape sc t.dims) ∙ ap (activity_seen ks sc t) (sym (seen-shape sc t.dims))

abbrev unary_seen : List Sort → Scope → UnaryTree → Checked Seen → Checked Opened
unary_seen ks sc t y = do
  fresh sc t.name
  d ← y
  makes sc t.name (resource (shaped d.indices unary)) (ks ++ d.kinds)

unary-by : (ks : List Sort) (sc : Scope) (t : UnaryTree) (x : Checked (Unit {0})) (y : Checked Shape) →
    behind ks (and_then x (λ u. and_then y (λ d. makes sc t.name (resource (shaped d.dims.indices unary)) d.dims.kinds)))
    ≡ and_then x (λ u. and_then (and_then y (λ d. Ok (seen_of d))) (λ d. makes sc t.name (resource (shaped d.indices unary)) (ks ++ d.kinds)))
unary-by ks sc t (Err e) y = refl
unary-by ks sc t (Ok u) (Err e) = refl
unary-by ks sc t (Ok u) (Ok d) = refl

unary-law : (ks : List Sort) (sc : Scope) (t : UnaryTree) → behind ks (unary_decl sc t) ≡ unary_behind ks sc t
unary-law ks sc t = unary-by ks sc t (fresh sc t.name) (shape sc t.dims) ∙ ap (unary_seen ks sc t) (sym (seen-shape sc t.dims))

abbrev discrete_seen : List Sort → Scope → DiscreteTree → Checked Seen → Checked Opened
discrete_seen ks sc t y = do
  fresh sc t.name
  d ← y
  more ← front (ks ++ d.kinds) (number_kinds d.inner t.capacity)
  makes sc t.name (resource (shaped d.indices discrete)) more

discrete-by : (ks : List Sort) (sc : Scope) (t : DiscreteTree) (x : Checked (Unit {0})) (y : Checked Shape) →
    behind ks (and_then x (λ u. and_then y (λ d. and_then (number_kinds d.inner t.capacity) (λ inner. makes sc t.name (resource (shaped d.dims.indices discrete)) (d.dims.kinds ++ inner)))))
    ≡ and_then x (λ u. and_then (and_then y (λ d. Ok (seen_of d))) (λ d. and_then (front (ks ++ d.kinds) (number_kinds d.inner t.capacity)) (λ more. makes sc t.name (resource (shaped d.indices discrete)) more)))
discrete-by ks sc t (Err e) y = refl
discrete-by ks sc t (Ok u) (Err e) = refl
discrete-by ks sc t (Ok u) (Ok d) = made-behind ks d.dims.kinds sc t.name (resource (shaped d.dims.indices discrete)) (number_kinds d.inner t.capacity)

discrete-law : (ks : List Sort) (sc : Scope) (t : DiscreteTree) → behind ks (discrete_decl sc t) ≡ discrete_behind ks sc t
discrete-law ks sc t = discrete-by ks sc t (fresh sc t.name) (shape sc t.dims) ∙ ap (discrete_seen ks sc t) (sym (seen-shape sc t.dims))

schedule-by : (ks : List Sort) (sc : Scope) (c : Checked (List Sort)) (z : Checked (Unit {0})) →
    behind ks (and_then c (λ inner. and_then z (λ u. Ok (record { scope = sc; kinds = inner })))) ≡ and_then (front ks c) (λ more. and_then z (λ u. Ok (record { scope = sc; kinds = more })))
schedule-by ks sc (Err e) z = refl
schedule-by ks sc (Ok inner) (Err e) = refl
schedule-by ks sc (Ok inner) (Ok u) = refl

schedule-law : (ks : List Sort) (sc : Scope) (t : ScheduleTree) → behind ks (schedule_decl sc t) ≡ schedule_behind ks sc t
schedule-law ks sc t = schedule-by ks (given t.end sc) (number_kinds sc t.value) (unless (not (is_given t.end sc)) (Duplicate t.at))

-- ---- enumerations

names-next : (k : ℕ) (a sc : Scope) (n : NameTree) (ns : List NameTree) (x : Checked (Unit {0})) →
    name_each k (declared n.text (enum_name k) sc) ns ≡ and_then (all_fresh (declared n.text (value anything) a) ns) (λ u. Ok (with_names k ns (declared n.text (enum_name k) sc))) →
    and_then (and_then x (λ u. Ok (declared n.text (enum_name k) sc))) (λ more. name_each k more ns)
    ≡ and_then (and_then x (λ u. all_fresh (declared n.text (value anything) a) ns)) (λ u. Ok (with_names k ns (declared n.text (enum_name k) sc)))
names-next k a sc n ns (Err e) ih = refl
names-next k a sc n ns (Ok u) ih = ih

names-each : (k : ℕ) (ns : List NameTree) (a sc : Scope) → Agree a sc → name_each k sc ns ≡ and_then (all_fresh a ns) (λ u. Ok (with_names k ns sc))
unfolding all_fresh
names-each k [] a sc h = refl
names-each k (n ∷ ns) a sc h =
    ap (λ x. and_then (and_then x (λ u. Ok (declared n.text (enum_name k) sc))) (λ more. name_each k more ns)) (sym (fresh-agrees a sc n h))
    ∙ names-next k a sc n ns (fresh a n) (names-each k ns (declared n.text (value anything) a) (declared n.text (enum_name k) sc) (agree-declared a sc n.text (value anything) (enum_name k) h))

enum-by : (ks : List Sort) (sc : Scope) (x y : Checked (Unit {0})) → behind ks (and_then (and_then x (λ u. y)) (λ u. Ok (record { scope = sc; kinds = [] }))) ≡ and_then (and_then x (λ u. and_then y (λ v. Ok sc))) (λ s. Ok (record { scope = s; kinds = ks ++ [] }))
enum-by ks sc (Err e) y = refl
enum-by ks sc (Ok u) (Err e) = refl
enum-by ks sc (Ok u) (Ok v) = refl

enum-law : (ks : List Sort) (k : ℕ) (sc : Scope) (t : EnumTree) → behind ks (enum_decl k sc t) ≡ and_then (enum_steps k sc t) (λ s. Ok (record { scope = s; kinds = ks }))
unfolding all_fresh
enum-law ks k sc t =
    enum-by ks (with_names k (enum_names t.names) (declared t.name.text (enum_type k) sc)) (fresh sc t.name) (all_fresh (declared t.name.text (value anything) sc) (enum_names t.names))
    ∙ ap (λ ls. and_then (and_then (fresh sc t.name) (λ u. and_then (all_fresh (declared t.name.text (value anything) sc) (enum_names t.names)) (λ v. Ok (with_names k (enum_names t.names) (declared t.name.text (enum_type k) sc))))) (λ s. Ok (record { scope = s; kinds = ls }))) (append-nil ks)
    ∙ ap (λ c. and_then (and_then (fresh sc t.name) (λ u. c)) (λ s. Ok (record { scope = s; kinds = ks })))
    (sym (names-each k (enum_names t.names) (declared t.name.text (value anything) sc) (declared t.name.text (enum_type k) sc) (agree-declared sc sc t.name.text (value anything) (enum_type k) (λ n. refl))))

-- ---- structs

some-cond : (a b : Bool) (s : Sort) (x y : Option Sort) → is_some x ≡ cond b true (is_some y) → is_some (cond a (Some s) x) ≡ cond b true (is_some (cond a (Some s) y))
some-cond true true s x y h = refl
some-cond true false s x y h = refl
some-cond false b s x y h = h

some-only : (b : Bool) (s : Sort) → is_some (cond b (Some s) None) ≡ cond b true false
some-only true s = refl
some-only false s = refl

field-last : (name : Text) (fs : List Field) (r : Field) → is_some (field_sort name (fs ++ r ∷ [])) ≡ cond (bytes_eq name r.name) true (is_some (field_sort name fs))
field-last name [] r = some-only (bytes_eq name r.name) r.sort
field-last name (f ∷ fs) r = some-cond (bytes_eq name f.name) (bytes_eq name r.name) f.sort _ _ (field-last name fs r)

-- the names of these fields are visible
abbrev Known : Scope → List Field → Type 0
Known sc fs = (name : Text) → is_visible (lookup sc name) ≡ is_some (field_sort name fs)

visible-known : (b : Bool) (t : Thing) (x : Option Thing) (y : Bool) → is_visible x ≡ y → is_visible (cond b (Some t) x) ≡ cond b true y
visible-known true t x y h = refl
visible-known false t x y h = h

known-more : (taken : Scope) (fs : List Field) (n : Text) (t : Thing) (s : Sort) → Known taken fs → Known (declared n t taken) (fs ++ record { name = n; sort = s } ∷ [])
unfolding lookup declared
known-more taken fs n t s h name = visible-known (bytes_eq name n) t _ _ (h name) ∙ sym (field-last name fs (record { name = n; sort = s }))

known-none : Known empty_scope []
unfolding lookup
known-none name = refl

fresh-known : (taken : Scope) (fs : List Field) (n : NameTree) → Known taken fs → unless (not (is_some (field_sort n.text fs))) (Duplicate n.at) ≡ fresh taken n
unfolding fresh
fresh-known taken fs n h = ap (λ v. unless (not v) (Duplicate n.at)) (sym (h n.text))

fields-then : (fs : List Field) (r : Field) (c : Checked (List Field)) → and_then c (λ more. Ok ((fs ++ r ∷ []) ++ more)) ≡ and_then (and_then c (λ rest. Ok (r ∷ rest))) (λ more. Ok (fs ++ more))
fields-then fs r (Err e) = refl
fields-then fs r (Ok more) = ap Ok (append_assoc fs (r ∷ []) more)

fields-next : (sc taken : Scope) (fs : List Field) (f : FieldTree) (others : List FieldTree) (c : Checked Sort) (x : Checked (Unit {0})) →
    ((s : Sort) → field_each sc (fs ++ record { name = f.name.text; sort = s } ∷ []) others ≡ and_then (field_list sc (declared f.name.text (value anything) taken) others) (λ more. Ok ((fs ++ record { name = f.name.text; sort = s } ∷ []) ++ more))) →
    and_then (and_then c (λ s. and_then x (λ u. Ok (fs ++ record { name = f.name.text; sort = s } ∷ [])))) (λ done. field_each sc done others)
    ≡ and_then (and_then c (λ s. and_then x (λ u. and_then (field_list sc (declared f.name.text (value anything) taken) others) (λ rest. Ok (record { name = f.name.text; sort = s } ∷ rest))))) (λ more. Ok (fs ++ more))
fields-next sc taken fs f others (Err e) x ih = refl
fields-next sc taken fs f others (Ok s) (Err e) ih = refl
fields-next sc taken fs f others (Ok s) (Ok u) ih = ih s ∙ fields-then fs (record { name = f.name.text; sort = s }) (field_list sc (declared f.name.text (value anything) taken) others)

fields-each : (sc : Scope) (others : List FieldTree) (taken : Scope) (fs : List Field) → Known taken fs → field_each sc fs others ≡ and_then (field_list sc taken others) (λ more. Ok (fs ++ more))
fields-each sc [] taken fs h = ap Ok (sym (append-nil fs))
fields-each sc (f ∷ others) taken fs h =
    ap (λ x. and_then (and_then (written_type f.kind sc) (λ s. and_then x (λ u. Ok (fs ++ record { name = f.name.text; sort = s } ∷ [])))) (λ done. field_each sc done others)) (fresh-known taken fs f.name h)
    ∙ fields-next sc taken fs f others (written_type f.kind sc) (fresh taken f.name)
    (λ s. fields-each sc others (declared f.name.text (value anything) taken) (fs ++ record { name = f.name.text; sort = s } ∷ []) (known-more taken fs f.name.text (value anything) s h))

struct-by : (ks : List Sort) (k : ℕ) (sc : Scope) (name : NameTree) (x : Checked (Unit {0})) (c : Checked (List Field)) →
    behind ks (and_then x (λ u. and_then c (λ fields. makes sc name (struct_type k fields) [])))
    ≡ and_then (and_then x (λ u. and_then (and_then c (λ more. Ok ([] ++ more))) (λ fields. Ok (declared name.text (struct_type k fields) sc)))) (λ s. Ok (record { scope = s; kinds = ks ++ [] }))
struct-by ks k sc name (Err e) c = refl
struct-by ks k sc name (Ok u) (Err e) = refl
struct-by ks k sc name (Ok u) (Ok fields) = refl

abbrev struct_seen : ℕ → Scope → NameTree → List Sort → Checked (List Field) → Checked Opened
struct_seen k sc name ks c = and_then (and_then (fresh sc name) (λ u. and_then c (λ fields. Ok (declared name.text (struct_type k fields) sc)))) (λ s. Ok (record { scope = s; kinds = ks }))

struct-law : (ks : List Sort) (k : ℕ) (sc : Scope) (t : StructTree) → behind ks (struct_decl k sc t) ≡ and_then (struct_steps k sc t) (λ s. Ok (record { scope = s; kinds = ks }))
struct-law ks k sc t =
    struct-by ks k sc t.name (fresh sc t.name) (field_list sc empty_scope (t.first ∷ t.rest))
    ∙ ap (struct_seen k sc t.name (ks ++ [])) (sym (fields-each sc (t.first ∷ t.rest) empty_scope [] known-none))
    ∙ ap (λ ls. struct_seen k sc t.name ls (field_each sc [] (t.first ∷ t.rest))) (append-nil ks)

-- ---- all kinds of declarations

pub decl-Data : (ks : List Sort) (k : ℕ) (sc : Scope) (t : DataDeclTree) → behind ks (decl k sc (decls.Data t)) ≡ data_behind ks sc t
unfolding decl
decl-Data ks k sc t = data-law ks sc t

pub decl-Range : (ks : List Sort) (k : ℕ) (sc : Scope) (t : RangeTree) → behind ks (decl k sc (decls.Range t)) ≡ range_behind ks sc t
unfolding decl
decl-Range ks k sc t = range-law ks sc t

pub decl-Enumeration : (ks : List Sort) (k : ℕ) (sc : Scope) (t : EnumTree) → behind ks (decl k sc (decls.Enumeration t)) ≡ and_then (enum_steps k sc t) (λ s. Ok (record { scope = s; kinds = ks }))
unfolding decl
decl-Enumeration ks k sc t = enum-law ks k sc t

pub decl-Structure : (ks : List Sort) (k : ℕ) (sc : Scope) (t : StructTree) → behind ks (decl k sc (decls.Structure t)) ≡ and_then (struct_steps k sc t) (λ s. Ok (record { scope = s; kinds = ks }))
unfolding decl
decl-Structure ks k sc t = struct-law ks k sc t

pub decl-Variable : (ks : List Sort) (k : ℕ) (sc : Scope) (t : VariableTree) → behind ks (decl k sc (decls.Variable t)) ≡ variable_behind ks sc t
unfolding decl
decl-Variable ks k sc t = variable-law ks sc t

pub decl-Activity : (ks : List Sort) (k : ℕ) (sc : Scope) (t : ActivityTree) → behind ks (decl k sc (decls.Activity t)) ≡ activity_behind ks sc t
unfolding decl
decl-Activity ks k sc t = activity-law ks sc t

pub decl-Unary : (ks : List Sort) (k : ℕ) (sc : Scope) (t : UnaryTree) → behind ks (decl k sc (decls.Unary t)) ≡ unary_behind ks sc t
unfolding decl
decl-Unary ks k sc t = unary-law ks sc t

pub decl-Discrete : (ks : List Sort) (k : ℕ) (sc : Scope) (t : DiscreteTree) → behind ks (decl k sc (decls.Discrete t)) ≡ discrete_behind ks sc t
unfolding decl
decl-Discrete ks k sc t = discrete-law ks sc t

pub decl-Schedule : (ks : List Sort) (k : ℕ) (sc : Scope) (t : ScheduleTree) → behind ks (decl k sc (decls.Schedule t)) ≡ schedule_behind ks sc t
unfolding decl
decl-Schedule ks k sc t = schedule-law ks sc t

pub ruleset declarations = (decl-Data, decl-Range, decl-Enumeration, decl-Structure, decl-Variable, decl-Activity, decl-Unary, decl-Discrete, decl-Schedule)

-- ---- the ends of the schedule

origin-kept : (es : List Entry) (sc : Scope) → (with_entries es sc).has_origin ≡ sc.has_origin
unfolding declared
origin-kept [] sc = refl
origin-kept (e ∷ es) sc = origin-kept es (declared e.name (thing_of e.thing) sc)

horizon-kept : (es : List Entry) (sc : Scope) → (with_entries es sc).has_horizon ≡ sc.has_horizon
unfolding declared
horizon-kept [] sc = refl
horizon-kept (e ∷ es) sc = horizon-kept es (declared e.name (thing_of e.thing) sc)

pub origin-seen : (n : Names) → (scope_of n).has_origin ≡ n.has_origin
unfolding scope_of
origin-seen n = origin-kept n.entries _

pub horizon-seen : (n : Names) → (scope_of n).has_horizon ≡ n.has_horizon
unfolding scope_of
horizon-seen n = horizon-kept n.entries _

origin-set : (es : List Entry) (sc : Scope) → with_entries es (record sc { has_origin = true }) ≡ record (with_entries es sc) { has_origin = true }
unfolding declared
origin-set [] sc = refl
origin-set (e ∷ es) sc = origin-set es (declared e.name (thing_of e.thing) sc)

horizon-set : (es : List Entry) (sc : Scope) → with_entries es (record sc { has_horizon = true }) ≡ record (with_entries es sc) { has_horizon = true }
unfolding declared
horizon-set [] sc = refl
horizon-set (e ∷ es) sc = horizon-set es (declared e.name (thing_of e.thing) sc)

same-scope : (es ds : List Entry) (a b c d e f : Bool) → es ≡ ds → a ≡ b → c ≡ d → e ≡ f →
    with_entries es (record { entries = []; is_search = a; has_origin = c; has_horizon = e }) ≡ with_entries ds (record { entries = []; is_search = b; has_origin = d; has_horizon = f })
same-scope es ds a b c d e f p q r s =
    ap (λ xs. with_entries xs (record { entries = []; is_search = a; has_origin = c; has_horizon = e })) p
    ∙ ap (λ x. with_entries ds (record { entries = []; is_search = x; has_origin = c; has_horizon = e })) q
    ∙ ap (λ x. with_entries ds (record { entries = []; is_search = b; has_origin = x; has_horizon = e })) r
    ∙ ap (λ x. with_entries ds (record { entries = []; is_search = b; has_origin = d; has_horizon = x })) s

-- the same names, with one end of the schedule given
pub origin-given : (n m : Names) (end : ScheduleEnd) → end ≡ ends.Origin → m.entries ≡ n.entries → m.is_search ≡ n.is_search → m.has_origin ≡ true → m.has_horizon ≡ n.has_horizon →
    scope_of m ≡ given end (scope_of n)
unfolding scope_of
origin-given n m end is p q r s =
    same-scope m.entries n.entries m.is_search n.is_search m.has_origin true m.has_horizon n.has_horizon p q r s
    ∙ origin-set n.entries (record { entries = []; is_search = n.is_search; has_origin = n.has_origin; has_horizon = n.has_horizon })
    ∙ ap (λ e. given e (scope_of n)) (sym is)

pub horizon-given : (n m : Names) (end : ScheduleEnd) → end ≡ ends.Horizon → m.entries ≡ n.entries → m.is_search ≡ n.is_search → m.has_origin ≡ n.has_origin → m.has_horizon ≡ true →
    scope_of m ≡ given end (scope_of n)
unfolding scope_of
horizon-given n m end is p q r s =
    same-scope m.entries n.entries m.is_search n.is_search m.has_origin n.has_origin m.has_horizon true p q r s
    ∙ horizon-set n.entries (record { entries = []; is_search = n.is_search; has_origin = n.has_origin; has_horizon = n.has_horizon })
    ∙ ap (λ e. given e (scope_of n)) (sym is)

pub ruleset ends_given = (origin-seen, horizon-seen)

-- ---- initial values

initial-held : (sc : Scope) (s i : Sort) (is : List Sort) (f : Form) → initial sc s (i ∷ is) f ≡ initial_by (held f) sc s i is f
unfolding initial initial_cells initial_pairs
initial-held sc s i is (number a) = refl
initial-held sc s i is (named a) = refl
initial-held sc s i is (bracket a b) = refl
initial-held sc s i is (negative a b) = refl
initial-held sc s i is (arithmetic a b) = refl
initial-held sc s i is (absolute a b) = refl
initial-held sc s i is (related a b c d) = refl
initial-held sc s i is (member a b c) = refl
initial-held sc s i is (connected a b) = refl
initial-held sc s i is (aggregate a b c) = refl
initial-held sc s i is (cardinality a b) = refl
initial-held sc s i is (all_different a b) = refl
initial-held sc s i is (subscripted a b c) = refl
initial-held sc s i is (field a b c) = refl
initial-held sc s i is (tuple a b) = refl
initial-held sc s i is (listed a b) = refl
initial-held sc s i is (described a b c) = refl
initial-held sc s i is (cells a b) = refl
initial-held sc s i is (keyed_cells a b) = refl
initial-held sc s i is (question a b c) = refl

initial-single : (sc : Scope) (s : Sort) (f : Form) → initial sc s [] f ≡ plain_value sc s [] f
unfolding initial initial_cells initial_pairs
initial-single sc s (number a) = refl
initial-single sc s (named a) = refl
initial-single sc s (bracket a b) = refl
initial-single sc s (negative a b) = refl
initial-single sc s (arithmetic a b) = refl
initial-single sc s (absolute a b) = refl
initial-single sc s (related a b c d) = refl
initial-single sc s (member a b c) = refl
initial-single sc s (connected a b) = refl
initial-single sc s (aggregate a b c) = refl
initial-single sc s (cardinality a b) = refl
initial-single sc s (all_different a b) = refl
initial-single sc s (subscripted a b c) = refl
initial-single sc s (field a b c) = refl
initial-single sc s (tuple a b) = refl
initial-single sc s (listed a b) = refl
initial-single sc s (described a b c) = refl
initial-single sc s (cells a b) = refl
initial-single sc s (keyed_cells a b) = refl
initial-single sc s (question a b c) = refl

pub single-behind : (ks : List Sort) (sc : Scope) (s : Sort) (is : List Ty) (f : Form) → length is ≡ 0 → front ks (initial sc s (map sort is) f) ≡ front ks (plain_value sc s (map sort is) f)
single-behind ks sc s [] f h = ap (front ks) (initial-single sc s f)
single-behind ks sc s (i ∷ is) f h = absurd (omega arith)

front-first : (ks : List Sort) (s : Sort) (c : Checked (List Sort)) → front ks (and_then c (λ inner. Ok (s ∷ inner))) ≡ front (ks ++ s ∷ []) c
front-first ks s (Err e) = refl
front-first ks s (Ok inner) = ap Ok (sym (append_assoc ks (s ∷ []) inner))

pub initial-other : (ks : List Sort) (sc : Scope) (s i : Sort) (is : List Sort) (f : Form) → held f ≡ Held.other → front ks (initial sc s (i ∷ is) f) ≡ front ks (plain_value sc s (i ∷ is) f)
initial-other ks sc s i is f h = ap (front ks) (initial-held sc s i is f ∙ ap (λ g. initial_by g sc s i is f) h)

cells-none : (ks : List Sort) (sc : Scope) (s : Sort) (is : List Sort) → front ks (initial_cells sc s is no_forms) ≡ Ok ks
unfolding initial initial_cells initial_pairs
cells-none ks sc s is = ap Ok (append-nil ks)

cells-next : (ks : List Sort) (sc : Scope) (s : Sort) (is : List Sort) (f : Form) (fs : Forms) →
    front ks (initial_cells sc s is (more_forms f fs)) ≡ and_then (front ks (initial sc s is f)) (λ more. front more (initial_cells sc s is fs))
unfolding initial initial_cells initial_pairs
cells-next ks sc s is f fs = front-then ks (initial sc s is f) (initial_cells sc s is fs)

pairs-none : (ks : List Sort) (sc : Scope) (s i : Sort) (is : List Sort) → front ks (initial_pairs sc s i is no_pairs) ≡ Ok ks
unfolding initial initial_cells initial_pairs
pairs-none ks sc s i is = ap Ok (append-nil ks)

front-three : (ks : List Sort) (c : Checked Node) (d e : Checked (List Sort)) →
    front ks (and_then c (λ n. and_then d (λ first. and_then e (λ rest. Ok (kinds n ++ (first ++ rest))))))
    ≡ and_then (front ks (and_then c (λ n. Ok (kinds n)))) (λ a. and_then (front a d) (λ b. front b e))
front-three ks (Err x) d e = refl
front-three ks (Ok n) (Err x) e = refl
front-three ks (Ok n) (Ok first) (Err x) = refl
front-three ks (Ok n) (Ok first) (Ok rest) = simp append_assoc refl

pairs-next : (ks : List Sort) (sc : Scope) (s i : Sort) (is : List Sort) (key cell : Form) (others : Pairs) →
    front ks (initial_pairs sc s i is (more_pairs key cell others))
    ≡ and_then (front ks (plain_value sc i [] key)) (λ a. and_then (front a (initial sc s is cell)) (λ b. front b (initial_pairs sc s i is others)))
unfolding initial initial_cells initial_pairs
pairs-next ks sc s i is key cell others = front-three ks (and_then (typing sc key) (used data_alone (fits_in sc i))) (initial sc s is cell) (initial_pairs sc s i is others)

cells-behind : (sc : Scope) (s : Sort) (is : List Sort) (fs : Forms) (ks : List Sort) → front ks (initial_cells sc s is fs) ≡ cells_behind ks sc s is fs
cells-behind sc s is no_forms ks = cells-none ks sc s is
cells-behind sc s is (more_forms f fs) ks =
    cells-next ks sc s is f fs
    ∙ under (front ks (initial sc s is f)) (λ more. front more (initial_cells sc s is fs)) (λ more. cells_behind more sc s is fs) (λ more. cells-behind sc s is fs more)

after : {A B C : Type 0} (c : Checked A) (f : A → Checked B) (g : B → Checked C) → and_then (and_then c f) g ≡ and_then c (λ a. and_then (f a) g)
after (Ok a) f g = refl
after (Err e) f g = refl

pairs-behind : (sc : Scope) (s i : Sort) (is : List Sort) (ps : List Pair) (ks : List Sort) → front ks (initial_pairs sc s i is (pairs_of ps)) ≡ pairs_behind ks sc s i is ps
pairs-behind sc s i is [] ks = pairs-none ks sc s i is
pairs-behind sc s i is (p ∷ ps) ks =
    pairs-next ks sc s i is p.key p.cell (pairs_of ps)
    ∙ sym (after (front ks (plain_value sc i [] p.key)) (λ a. front a (initial sc s is p.cell)) (λ b. front b (initial_pairs sc s i is (pairs_of ps))))
    ∙ under (pair_behind ks sc s i is p) (λ b. front b (initial_pairs sc s i is (pairs_of ps))) (λ b. pairs_behind b sc s i is ps) (λ b. pairs-behind sc s i is ps b)

pub initial-listed : (ks : List Sort) (sc : Scope) (s i : Sort) (is : List Sort) (f : Form) (fs : Forms) → held f ≡ Held.listed fs →
    front ks (initial sc s (i ∷ is) f) ≡ cells_behind (ks ++ shaped (i ∷ is) s ∷ []) sc s is fs
initial-listed ks sc s i is f fs h =
    ap (front ks) (initial-held sc s i is f ∙ ap (λ g. initial_by g sc s i is f) h) ∙ front-first ks (shaped (i ∷ is) s) (initial_cells sc s is fs)
    ∙ cells-behind sc s is fs (ks ++ shaped (i ∷ is) s ∷ [])

pub initial-keyed : (ks : List Sort) (sc : Scope) (s i : Sort) (is : List Sort) (f : Form) (ps : List Pair) → held f ≡ Held.keyed (pairs_of ps) →
    front ks (initial sc s (i ∷ is) f) ≡ pairs_behind (ks ++ shaped (i ∷ is) s ∷ []) sc s i is ps
initial-keyed ks sc s i is f ps h =
    ap (front ks) (initial-held sc s i is f ∙ ap (λ g. initial_by g sc s i is f) h) ∙ front-first ks (shaped (i ∷ is) s) (initial_pairs sc s i is (pairs_of ps))
    ∙ pairs-behind sc s i is ps (ks ++ shaped (i ∷ is) s ∷ [])

pub keyed-key : (t : KeyedTree) → (form_keyed t).key ≡ form_add (out-KeyedTree t).key
keyed-key t = ap (λ p. p.key) (form_keyed-is t)

pub keyed-cell : (t : KeyedTree) → (form_keyed t).cell ≡ form_add (out-KeyedTree t).value
keyed-cell t = ap (λ p. p.cell) (form_keyed-is t)

pub ruleset keyed_parts = (keyed-key, keyed-cell)

pub ruleset initial_values = (single-behind, initial-listed, initial-keyed, initial-other, sorts-last)

-- ---- all declarations

decls-last : (ks ls : List Sort) (c : Checked Opened) → behind ks (and_then c (λ rest. Ok (record { scope = rest.scope; kinds = ls ++ rest.kinds }))) ≡ behind (ks ++ ls) c
decls-last ks ls (Err e) = refl
decls-last ks ls (Ok o) = ap (λ ms. Ok (record { scope = o.scope; kinds = ms })) (sym (append_assoc ks ls o.kinds))

decls-next : (k : ℕ) (ks : List Sort) (c : Checked Opened) (all : Scope → Checked Opened) →
    behind ks (and_then c (λ first. and_then (all first.scope) (λ rest. Ok (record { scope = rest.scope; kinds = first.kinds ++ rest.kinds }))))
    ≡ and_then (behind ks c) (λ o. behind o.kinds (all o.scope))
decls-next k ks (Err e) all = refl
decls-next k ks (Ok o) all = decls-last ks o.kinds (all o.scope)

pub decls-behind : (ds : List DeclTree) (k : ℕ) (ks : List Sort) (sc : Scope) → behind ks (all_decls k sc ds) ≡ decls_behind k ks sc ds
decls-behind [] k ks sc = ap (λ ls. Ok (record { scope = sc; kinds = ls })) (append-nil ks)
decls-behind (d ∷ ds) k ks sc =
    decls-next k ks (decl k sc d) (λ more. all_decls (next k) more ds)
    ∙ under (behind ks (decl k sc d)) (λ o. behind o.kinds (all_decls (next k) o.scope ds)) (λ o. decls_behind (next k) o.kinds o.scope ds) (λ o. decls-behind ds (next k) o.kinds o.scope)

pub ruleset all_declarations = (decls-behind)
