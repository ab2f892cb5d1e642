-- Each declared array has as many cells as its index space has keys.
use Rattle.std.proofs.Common.{◌≡◌, ℕ, ◌+◌, ℤ, Bool, true, false, cond, not, List, [], ◌∷◌, ◌++◌, length, map, set, Option, None, Some, Ok, Err, refl, sym, ap, subst, ◌∙◌, arith, length-append}
use Rattle.std.specs.Prelude.{bytes_eq}
use Rattle.std.specs.List.{list_all}
use Rattle.std.proofs.lemmas.List.{length-set}
use Rattle.opl_tree.specs.declared.declaration.DataDeclTree.{DataDeclTree}
use Rattle.opl_tree.specs.declared.declaration.DeclTree.{DeclTree}
use Rattle.opl_tree.specs.declared.declaration.DeclTree.TheVariants as decls
use Rattle.opl_tree.specs.declared.declaration.DimTree.{DimTree}
use Rattle.opl_tree.specs.declared.declaration.DimsTree.{DimsTree}
use Rattle.opl_tree.specs.declared.declaration.EnumNamesTree.{EnumNamesTree}
use Rattle.opl_tree.specs.declared.declaration.EnumNamesTree.TheVariants as names
use Rattle.opl_tree.specs.declared.declaration.InitialTree.{InitialTree}
use Rattle.opl_tree.specs.declared.declaration.InitialTree.TheVariants as initials
use Rattle.opl_tree.specs.declared.expression.AddTree.{AddTree, out-AddTree}
use Rattle.opl_term.specs.Terms.{add_term}
use Rattle.opl_value.specs.declared.value.Value.{Value}
use Rattle.opl_value.specs.declared.value.Value.TheVariants as made
use Rattle.opl_value.specs.declared.value.Dimension.TheOpen.{Value-F}
use Rattle.opl_value.specs.declared.value.Dimension.TheViews.{out-Value}
use Rattle.opl_value.specs.declared.value.IndexSpace.{IndexSpace}
use Rattle.opl_value.specs.Places.{dimension_values, elements, lists, place_of, space_of}
use Rattle.opl_eval.specs.Evaluation.{Environment, Item, declared}
use Rattle.opl_given.specs.declared.assigned.Override.{Override}
use Rattle.opl_given.specs.declared.fault.BindFault.TheVariants as faults
use Rattle.opl_given.specs.declared.form.Form.{Form}
use Rattle.opl_given.specs.Arrays.{Axis, elements_in, values_of}
use Rattle.opl_given.specs.Assigned.{all_assigned, assigned, is_assigned, is_within, overridden, placed}
use Rattle.opl_bind.specs.Bind.{Data, alone, bound, external_value, initial_value, item_value, model_value, no_data, with_decl, with_decls, with_ends, with_known, with_listed, with_names, with_value, with_values, with_written}
use Rattle.opl_bind.specs.Dimensions.{axes_in, axis_in, dims_of, number_in}
use Rattle.opl_given.specs.Faults.{Bound, then}
use Rattle.opl_given.specs.Forms.{Known, form_of, number_of}
use Rattle.opl_given.specs.Given.{Given, GivenValue, all_given, given_to}
use Rattle.opl_given.specs.Items.{array_layer, array_over, array_value, given_array, is_array, lists_of}
use Rattle.opl_bind.specs.Laws.{AreFilled, ArraysAreFilled, IsFilled, filled_layer}
use Rattle.opl_given.specs.Names.{Text}
use Rattle.opl_bind.specs.Written.{written_cells, written_value}
use Rattle.opl_given.proofs.CellLaws.{cells_fill, passed, same_ok, went, went_first}
use Rattle.opl_given.proofs.Plain.{plain_single, IsPlain}
use Rattle.opl_given.proofs.Spaces.{dimensions-space_of}
use Rattle.opl_bind.proofs.WrittenLengths.{either, length-written_cells}

-- ---- values

filled-plain_layer : {A : Type 0} (x : Value-F A Value IndexSpace) → array_layer x ≡ false → filled_layer x
filled-plain_layer (Value-F.Int n) h = tt
filled-plain_layer (Value-F.Bool b) h = tt
filled-plain_layer (Value-F.Enum k p) h = tt
filled-plain_layer (Value-F.Record vs) h = tt
filled-plain_layer (Value-F.Set vs) h = tt
filled-plain_layer (Value-F.Range l u) h = tt
filled-plain_layer (Value-F.Names ns) h = tt
filled-plain_layer (Value-F.Array s vs) h = absurd (cc)

filled-plain : (v : Value) → is_array v ≡ false → IsFilled v
filled-plain v h = filled-plain_layer (out-Value v) h

values-along : (axes : List Axis) → map dimension_values (map (λ a. a.dimension) axes) ≡ map values_of axes
values-along [] = refl
values-along (a ∷ others) = ap (λ vs. dimension_values a.dimension ∷ vs) (values-along others)

lists-over : (axes : List Axis) → lists (space_of (map (λ a. a.dimension) axes)) ≡ map values_of axes
lists-over axes = ap (map dimension_values) (dimensions-space_of (map (λ a. a.dimension) axes)) ∙ values-along axes

filled-over : (axes : List Axis) (cells : List Value) → length cells ≡ elements (map values_of axes) → IsFilled (array_over axes cells)
filled-over axes cells h = subst filled_layer (sym (made.outs-Array (space_of (map (λ a. a.dimension) axes)) cells)) (h ∙ ap elements (sym (lists-over axes)))

-- ---- assignments keep the number of cells

length-assigned : (name : Text) (ls : List (List Value)) (cells more : List Value) (o : Override) → assigned name ls cells o ≡ Ok more → length more ≡ length cells
length-assigned name ls cells more o h = by (place_of ls (map made.Int o.index)) h
  where
    by : (p : Option ℕ) → placed name cells p o.value ≡ Ok more → length more ≡ length cells
    by (Some p) e = ap length (sym (same_ok (set cells p (made.Int o.value)) more e)) ∙ length-set cells p (made.Int o.value)
    by None e = absurd (cc)

length-all_assigned : (name : Text) (ls : List (List Value)) (cells more : List Value) (os : List Override) → all_assigned name ls cells os ≡ Ok more → length more ≡ length cells
length-all_assigned name ls cells more [] h = ap length (sym (same_ok cells more h))
length-all_assigned name ls cells more (o ∷ os) h =
    either (bytes_eq name o.name) (then (assigned name ls cells o) (λ m. all_assigned name ls m os)) (all_assigned name ls cells os) more
    (λ e.
    let w = went_first (assigned name ls cells o) (λ m. all_assigned name ls m os) more e in
    length-all_assigned name ls w.0 more os w.2 ∙ length-assigned name ls cells w.0 o w.1)
    (λ e. length-all_assigned name ls cells more os e) h

length-overridden : (name : Text) (form : Form) (ls : List (List Value)) (cells more : List Value) (os : List Override) → overridden name form ls cells os ≡ Ok more → length more ≡ length cells
unfolding overridden
length-overridden name form ls cells more os h =
    either (is_assigned name os) (then (all_assigned name ls cells os) (λ m. cond (list_all (is_within form) m) (Ok m) (Err (faults.Override name)))) (Ok cells) more
    (λ e.
    let w = went_first (all_assigned name ls cells os) (λ m. cond (list_all (is_within form) m) (Ok m) (Err (faults.Override name))) more e in
    let p = passed (list_all (is_within form) w.0) (Ok w.0) (faults.Override name) more w.2 in
    ap length (sym (same_ok w.0 more p.1)) ∙ length-all_assigned name ls cells w.0 os w.1)
    (λ e. ap length (sym (same_ok cells more e))) h

-- ---- items

length-axes_in : (env : Environment) (before : List Axis) (ts : List DimTree) (axes : List Axis) → axes_in env before ts ≡ Ok axes → length axes ≡ length before + length ts
length-axes_in env before [] axes h = ap length (sym (same_ok before axes h)) ∙ omega arith
length-axes_in env before (t ∷ ts) axes h =
    let w = went (axis_in env t) (λ axis. axes_in env (before ++ axis ∷ []) ts) axes h in
    length-axes_in env (before ++ w.0 ∷ []) ts axes w.1 ∙ omega (arith, length-append before (w.0 ∷ []))

filled-given : (known : Known) (form : Form) (name : Text) (os : List Override) (g : GivenValue) (axes : List Axis) (v : Value) → given_array known form name os g axes ≡ Ok v → IsFilled v
filled-given known form name os g axes v h =
    let w = went_first (elements_in known g.file _ axes form g.value) _ v h in
    let o = went_first (overridden name form (lists_of axes) w.0 os) (λ cells. Ok (array_over axes cells)) v w.2 in
    let l = length-overridden name form (lists_of axes) w.0 o.0 os o.1 ∙ cells_fill known g.file _ axes form g.value w.0 w.1 in
    subst IsFilled (same_ok (array_over axes o.0) v o.2) (filled-over axes o.0 l)

filled-array_value : (known : Known) (form : Form) (name : Text) (os : List Override) (axes : Bound (List Axis)) (g : Option GivenValue) (v : Value) → array_value known form name os axes g ≡ Ok v → IsFilled v
filled-array_value known form name os axes None v h = absurd (cc)
filled-array_value known form name os axes (Some g) v h =
    let w = went axes (given_array known form name os g) v h in
    filled-given known form name os g w.0 v w.1

filled-external : (given : Given) (os : List Override) (d : Data) (form : Form) (name : Text) (dims : Option DimsTree) (v : Value) → external_value given os d form name dims ≡ Ok v → IsFilled v
filled-external given os d form name None v h = filled-plain v (subst IsPlain h (plain_single d.known form name os (given_to given name)))
filled-external given os d form name (Some dims) v h = filled-array_value d.known form name os (axes_in d.environment [] (dims_of dims)) (given_to given name) v h

not_true : (b : Bool) → not b ≡ true → b ≡ false
not_true true h = absurd (cc)
not_true false h = refl

filled-model : (d : Data) (form : Form) (dims : Option DimsTree) (e : AddTree) (v : Value) → model_value d form dims e ≡ Ok v → IsFilled v
filled-model d form None e v h =
    let w = went (written_value d.known d.environment form (add_term e)) (alone (out-AddTree e).at) v h in
    let p = passed (not (is_array w.0)) (Ok w.0) _ v w.1 in
    subst IsFilled (same_ok w.0 v p.1) (filled-plain w.0 (not_true (is_array w.0) p.0))
filled-model d form (Some dims) e v h =
    let a = went_first (axes_in d.environment [] (dims_of dims)) _ v h in
    let w = went_first (written_cells d.known d.environment form (dims_of dims) a.0 (add_term e)) (λ cells. Ok (array_over a.0 cells)) v a.2 in
    let l : length (dims_of dims) ≡ length a.0 = sym (length-axes_in d.environment [] (dims_of dims) a.0 a.1 ∙ omega arith) in
    subst IsFilled (same_ok (array_over a.0 w.0) v w.2) (filled-over a.0 w.0 (length-written_cells d.known d.environment form (dims_of dims) a.0 (add_term e) w.0 l w.1))

filled-initial : (given : Given) (os : List Override) (d : Data) (form : Form) (t : DataDeclTree) (initial : InitialTree) (v : Value) → initial_value given os d form t initial ≡ Ok v → IsFilled v
filled-initial given os d form t (initials.External at) v h = filled-external given os d form t.name.text t.dims v h
filled-initial given os d form t (initials.Written e) v h = filled-model d form t.dims e v h

filled-item : (given : Given) (os : List Override) (t : DataDeclTree) (d : Data) (v : Value) → item_value given os t d ≡ Ok v → IsFilled v
unfolding item_value
filled-item given os t d v h = filled-initial given os d (form_of t.kind d.known) t t.initial v h

-- ---- declarations

more-filled : (items : List Item) (i : Item) → AreFilled items → IsFilled i.value → AreFilled (items ++ i ∷ [])
more-filled [] i h k = (k, tt)
more-filled (j ∷ items) i h k = (h.0, more-filled items i h.1 k)

abbrev FilledData : Data → Type 0
FilledData d = AreFilled d.environment.items

filled-value : (name : Text) (v : Value) (d : Data) → FilledData d → IsFilled v → FilledData (with_value name v d)
unfolding with_value
filled-value name v d h k = more-filled d.environment.items _ h k

filled-ends : (name : Text) (low high : ℤ) (d : Data) → FilledData d → FilledData (with_ends name low high d)
unfolding with_ends
filled-ends name low high d h = more-filled d.environment.items _ h (subst filled_layer (sym (made.outs-Range low high)) tt)

filled-names : (name : Text) (ns : List Text) (d : Data) → FilledData d → FilledData (with_names name ns d)
unfolding with_names
filled-names name ns d h = more-filled d.environment.items _ h (subst filled_layer (sym (made.outs-Names ns)) tt)

filled-values : (declaration position : ℕ) (ns : List Text) (env : Environment) → AreFilled env.items → AreFilled (with_values declaration position ns env).items
filled-values declaration position [] env h = h
filled-values declaration position (n ∷ ns) env h =
    filled-values declaration (position + 1) ns (declared n (made.Enum declaration position) 0 env)
    (more-filled env.items _ h (subst filled_layer (sym (made.outs-Enum declaration position)) tt))

filled-written : (declaration : ℕ) (written : EnumNamesTree) (ns : List Text) (env : Environment) → AreFilled env.items → AreFilled (with_written declaration written ns env).items
filled-written declaration (names.Listed at first rest) ns env h = filled-values declaration 0 ns env h
filled-written declaration (names.External at is_written) ns env h = h

filled-listed : (written : EnumNamesTree) (ns : List Text) (d : Data) → FilledData d → FilledData (with_listed written ns d)
unfolding with_listed
filled-listed written ns d h = filled-written (number_of d.known) written ns d.environment h

filled-known : (known : Known) (d : Data) → FilledData d → FilledData (with_known known d)
unfolding with_known
filled-known known d h = h

filled-decl : (given : Given) (os : List Override) (t : DeclTree) (d e : Data) → FilledData d → with_decl given os t d ≡ Ok e → FilledData e
filled-decl given os (decls.Data t) d e h k =
    let w = went_first (item_value given os t d) (λ v. Ok (with_value t.name.text v d)) e k in
    subst FilledData (same_ok (with_value t.name.text w.0 d) e w.2) (filled-value t.name.text w.0 d h (filled-item given os t d w.0 w.1))
filled-decl given os (decls.Range t) d e h k =
    let w = went (number_in d.environment t.low) _ e k in
    let u = went (number_in d.environment t.high) (λ high. Ok (with_ends t.name.text w.0 high d)) e w.1 in
    subst FilledData (same_ok (with_ends t.name.text w.0 u.0 d) e u.1) (filled-ends t.name.text w.0 u.0 d h)
filled-decl given os (decls.Enumeration t) d e h k =
    let w = went _ (λ ns. Ok (with_names t.name.text ns (with_listed t.names ns d))) e k in
    subst FilledData (same_ok (with_names t.name.text w.0 (with_listed t.names w.0 d)) e w.1) (filled-names t.name.text w.0 (with_listed t.names w.0 d) (filled-listed t.names w.0 d h))
filled-decl given os (decls.Structure t) d e h k = subst FilledData (same_ok _ e k) (filled-known _ d h)
filled-decl given os (decls.Variable t) d e h k = subst FilledData (same_ok _ e k) (filled-known _ d h)
filled-decl given os (decls.Activity t) d e h k = subst FilledData (same_ok _ e k) (filled-known _ d h)
filled-decl given os (decls.Unary t) d e h k = subst FilledData (same_ok _ e k) (filled-known _ d h)
filled-decl given os (decls.Discrete t) d e h k = subst FilledData (same_ok _ e k) (filled-known _ d h)
filled-decl given os (decls.Schedule t) d e h k = subst FilledData (same_ok _ e k) (filled-known _ d h)

filled-decls : (given : Given) (os : List Override) (ts : List DeclTree) (d e : Data) → FilledData d → with_decls given os ts d ≡ Ok e → FilledData e
filled-decls given os [] d e h k = subst FilledData (same_ok d e k) h
filled-decls given os (t ∷ ts) d e h k =
    let w = went_first (with_decl given os t d) (λ more. with_decls given os ts more) e k in
    filled-decls given os ts w.0 e (filled-decl given os t d w.0 h w.1) w.2

-- each declared array has as many cells as its index space has keys
pub arrays_filled : ArraysAreFilled
unfolding bound
arrays_filled position ts files os d h =
    let w = went (all_given ts files) (λ given. with_decls given os ts (no_data position)) d h in
    filled-decls w.0 os ts (no_data position) d tt w.1
