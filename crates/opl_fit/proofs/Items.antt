-- The values of declared items fit their types.
use Rattle.std.proofs.Common.{◌≡◌, ℕ, ◌+◌, ℤ, true, List, [], ◌∷◌, ◌++◌, length, map, Option, None, Some, Ok, refl, sym, ap, subst, ◌∙◌, append_assoc, append-nil, not, arith, length-append}
use Rattle.std.specs.List.{AllByRecursion, slice_get}
use Rattle.opl_tree.specs.declared.declaration.DataDeclTree.{DataDeclTree}
use Rattle.opl_tree.specs.declared.declaration.DeclTree.{DeclTree}
use Rattle.opl_tree.specs.declared.declaration.DeclTree.TheVariants as decls
use Rattle.opl_tree.specs.declared.declaration.DimTree.{DimTree}
use Rattle.opl_tree.specs.declared.declaration.DimsTree.{DimsTree}
use Rattle.opl_tree.specs.declared.expression.AddTree.{AddTree, out-AddTree}
use Rattle.opl_term.specs.Terms.{add_term}
use Rattle.opl_tree.specs.declared.declaration.EnumNamesTree.{EnumNamesTree}
use Rattle.opl_tree.specs.declared.declaration.EnumNamesTree.TheVariants as names
use Rattle.opl_tree.specs.declared.declaration.InitialTree.{InitialTree}
use Rattle.opl_tree.specs.declared.declaration.InitialTree.TheVariants as initials
use Rattle.opl_data.specs.declared.tree.DataValue.{DataValue}
use Rattle.opl_value.specs.declared.value.Value.{Value}
use Rattle.opl_value.specs.declared.value.Value.TheVariants as values
use Rattle.opl_eval.specs.Evaluation.{Environment, Item, declared}
use Rattle.opl_given.specs.declared.assigned.Override.{Override}
use Rattle.opl_given.specs.declared.fault.BindFault.{BindFault}
use Rattle.opl_given.specs.declared.form.Form.{Form}
use Rattle.opl_given.specs.Arrays.{Axis, elements_in, flat}
use Rattle.opl_given.specs.Assigned.{is_assigned, overridden}
use Rattle.opl_given.specs.Faults.{Bound, then}
use Rattle.opl_given.specs.Forms.{Known, form_of, number_of}
use Rattle.opl_given.specs.Given.{Given, GivenValue, all_given, given_to}
use Rattle.opl_given.specs.Items.{array_over, array_value, given_array, is_array, lists_of}
use Rattle.opl_given.specs.Names.{Text}
use Rattle.opl_given.specs.Values.{all_by_form, value_in}
use Rattle.opl_bind.specs.Bind.{Data, alone, bound, model_value, enumeration_names, external_value, initial_value, item_value, no_data, with_decl, with_decls, with_ends, with_known, with_listed, with_names, with_value, with_values, with_written}
use Rattle.opl_bind.specs.Dimensions.{axes_in, axis_in, dims_of, number_in}
use Rattle.opl_bind.specs.Written.{written_cells, written_value}
use Rattle.opl_bind.proofs.WrittenLengths.{length-written_cells}
use Rattle.opl_given.proofs.CellLaws.{cells_fill, passed, same_ok, went, went_first}
use Rattle.opl_fit.specs.Declared.{IsArrayOf, ItemIs, Stands}
use Rattle.opl_fit.specs.Fits.{Fits}
use Rattle.opl_fit.specs.Laws.{FitsByKind, GivenValuesFit, ItemFits, ItemFitsByKind, TakesNumbers, WrittenValuesFit}
use Rattle.opl_fit.proofs.Assigned.{fits-or-number, overridden-fits, single-fits}
use Rattle.opl_fit.proofs.Given.{all-fit, values-read}
use Rattle.opl_fit.proofs.OfKind.{kind-fits}
use Rattle.opl_fit.proofs.Written.{Within, cells-stay, value-stays}

-- ---- arrays

elements-fit : (known : Known) (file : ℕ) (wrong : BindFault) (axes : List Axis) (form : Form) (value : DataValue) (cells : List Value) → elements_in known file wrong axes form value ≡ Ok cells → AllByRecursion (Fits known form) cells
elements-fit known file wrong axes form value cells h =
    let w = went_first (flat known wrong axes (value ∷ [])) (λ parts. all_by_form [] (map (value_in known file) parts) form) cells h in
    let r = all-fit known [] (map (value_in known file) w.0) form cells (values-read known file w.0) w.2 in
    subst (AllByRecursion (Fits known form)) (sym r.1) r.2

array-fits : (known : Known) (form : Form) (name : Text) (os : List Override) (g : GivenValue) (axes : List Axis) (v : Value) → (is_assigned name os ≡ true → TakesNumbers form) →
    given_array known form name os g axes ≡ Ok v → IsArrayOf (Fits known form) axes v
array-fits known form name os g axes v takes h =
    let w = went_first (elements_in known g.file _ axes form g.value) _ v h in
    let o = went_first (overridden name form (lists_of axes) w.0 os) (λ cells. Ok (array_over axes cells)) v w.2 in
    let f = elements-fit known g.file _ axes form g.value w.0 w.1 in
    let k = overridden-fits known name form (lists_of axes) w.0 o.0 os takes (fits-or-number known form w.0 f) (λ e. f) o.1 in
    record { cells = o.0; is = sym (same_ok (array_over axes o.0) v o.2); filled = k.1 ∙ cells_fill known g.file _ axes form g.value w.0 w.1; each = k.0 }

array_value-fits : (known : Known) (form : Form) (name : Text) (os : List Override) (axes : Bound (List Axis)) (g : Option GivenValue) (v : Value) → (is_assigned name os ≡ true → TakesNumbers form) →
    array_value known form name os axes g ≡ Ok v → (sets : List Axis) × (axes ≡ Ok sets) × IsArrayOf (Fits known form) sets v
array_value-fits known form name os axes None v takes h = absurd (cc)
array_value-fits known form name os axes (Some g) v takes h =
    let w = went_first axes (given_array known form name os g) v h in
    (w.0, w.1, array-fits known form name os g w.0 v takes w.2)

pub external-fits : (given : Given) (os : List Override) (d : Data) (form : Form) (name : Text) (dims : Option DimsTree) (v : Value) → (is_assigned name os ≡ true → TakesNumbers form) →
    external_value given os d form name dims ≡ Ok v → ItemIs (Fits d.known form) d dims v
external-fits given os d form name None v takes h = single-fits d.known form name os (given_to given name) v takes h
external-fits given os d form name (Some dims) v takes h =
    array_value-fits d.known form name os (axes_in d.environment [] (dims_of dims)) (given_to given name) v takes h

initial-fits : (given : Given) (os : List Override) (d : Data) (form : Form) (t : DataDeclTree) (i : InitialTree) (at : ℕ) (v : Value) → i ≡ initials.External at → (is_assigned t.name.text os ≡ true → TakesNumbers form) →
    initial_value given os d form t i ≡ Ok v → ItemIs (Fits d.known form) d t.dims v
initial-fits given os d form t i at v e takes h = external-fits given os d form t.name.text t.dims v takes (ap (initial_value given os d form t) (sym e) ∙ h)

item-fits : (given : Given) (os : List Override) (t : DataDeclTree) (d : Data) (at : ℕ) (v : Value) → t.initial ≡ initials.External at → item_value given os t d ≡ Ok v → ItemFits os t d v
unfolding item_value
item-fits given os t d at v e h takes = initial-fits given os d (form_of t.kind d.known) t t.initial at v e takes h

-- ---- what is declared stays where it is

abbrev Goes : List Item → List Item → Type 0
Goes items more = (new : List Item) × (more ≡ items ++ new)

goes-same : (items : List Item) → Goes items items
goes-same items = ([], sym (append-nil items))

goes-on : (a b c : List Item) → Goes a b → Goes b c → Goes a c
goes-on a b c h k = (h.0 ++ k.0, k.1 ∙ ap (λ xs. xs ++ k.0) h.1 ∙ append_assoc a h.0 k.0)

abbrev GoesOn : Data → Data → Type 0
GoesOn d e = Goes d.environment.items e.environment.items

goes-value : (name : Text) (v : Value) (d : Data) → GoesOn d (with_value name v d)
unfolding with_value
goes-value name v d = (record { name = name; value = v; declaration = 0 } ∷ [], refl)

goes-ends : (name : Text) (low high : ℤ) (d : Data) → GoesOn d (with_ends name low high d)
unfolding with_ends
goes-ends name low high d = (record { name = name; value = values.Range low high; declaration = 0 } ∷ [], refl)

goes-names : (name : Text) (ns : List Text) (d : Data) → GoesOn d (with_names name ns d)
unfolding with_names
goes-names name ns d = (record { name = name; value = values.Names ns; declaration = number_of d.known } ∷ [], refl)

goes-values : (declaration position : ℕ) (ns : List Text) (env : Environment) → Goes env.items (with_values declaration position ns env).items
goes-values declaration position [] env = goes-same env.items
goes-values declaration position (n ∷ ns) env =
    let e = declared n (values.Enum declaration position) 0 env in
    goes-on env.items e.items (with_values declaration (position + 1) ns e).items
    (record { name = n; value = values.Enum declaration position; declaration = 0 } ∷ [], refl) (goes-values declaration (position + 1) ns e)

goes-written : (declaration : ℕ) (written : EnumNamesTree) (ns : List Text) (env : Environment) → Goes env.items (with_written declaration written ns env).items
goes-written declaration (names.Listed at first rest) ns env = goes-values declaration 0 ns env
goes-written declaration (names.External at is_written) ns env = goes-same env.items

goes-listed : (written : EnumNamesTree) (ns : List Text) (d : Data) → GoesOn d (with_listed written ns d)
unfolding with_listed
goes-listed written ns d = goes-written (number_of d.known) written ns d.environment

goes-known : (known : Known) (d : Data) → GoesOn d (with_known known d)
unfolding with_known
goes-known known d = goes-same d.environment.items

goes-decl : (given : Given) (os : List Override) (t : DeclTree) (d e : Data) → with_decl given os t d ≡ Ok e → GoesOn d e
goes-decl given os (decls.Data t) d e k =
    let w = went (item_value given os t d) (λ v. Ok (with_value t.name.text v d)) e k in
    subst (GoesOn d) (same_ok (with_value t.name.text w.0 d) e w.1) (goes-value t.name.text w.0 d)
goes-decl given os (decls.Range t) d e k =
    let w = went (number_in d.environment t.low) _ e k in
    let u = went (number_in d.environment t.high) (λ high. Ok (with_ends t.name.text w.0 high d)) e w.1 in
    subst (GoesOn d) (same_ok (with_ends t.name.text w.0 u.0 d) e u.1) (goes-ends t.name.text w.0 u.0 d)
goes-decl given os (decls.Enumeration t) d e k =
    let w = went (enumeration_names given t.name.text t.names) (λ ns. Ok (with_names t.name.text ns (with_listed t.names ns d))) e k in
    let l = with_listed t.names w.0 d in
    subst (GoesOn d) (same_ok (with_names t.name.text w.0 l) e w.1)
    (goes-on d.environment.items l.environment.items (with_names t.name.text w.0 l).environment.items (goes-listed t.names w.0 d) (goes-names t.name.text w.0 l))
goes-decl given os (decls.Structure t) d e k = subst (GoesOn d) (same_ok _ e k) (goes-known _ d)
goes-decl given os (decls.Variable t) d e k = subst (GoesOn d) (same_ok _ e k) (goes-known _ d)
goes-decl given os (decls.Activity t) d e k = subst (GoesOn d) (same_ok _ e k) (goes-known _ d)
goes-decl given os (decls.Unary t) d e k = subst (GoesOn d) (same_ok _ e k) (goes-known _ d)
goes-decl given os (decls.Discrete t) d e k = subst (GoesOn d) (same_ok _ e k) (goes-known _ d)
goes-decl given os (decls.Schedule t) d e k = subst (GoesOn d) (same_ok _ e k) (goes-known _ d)

goes-decls : (given : Given) (os : List Override) (ts : List DeclTree) (d e : Data) → with_decls given os ts d ≡ Ok e → GoesOn d e
goes-decls given os [] d e k = subst (GoesOn d) (same_ok d e k) (goes-same d.environment.items)
goes-decls given os (t ∷ ts) d e k =
    let w = went_first (with_decl given os t d) (λ more. with_decls given os ts more) e k in
    goes-on d.environment.items w.0.environment.items e.environment.items (goes-decl given os t d w.0 w.1) (goes-decls given os ts w.0 e w.2)

stands-at : (xs ys : List Item) (x : Item) → slice_get (xs ++ x ∷ ys) (length xs) ≡ Some x
stands-at [] ys x = refl
stands-at (y ∷ xs) ys x = stands-at xs ys x

-- ---- the declarations before an item

splits : (given : Given) (os : List Override) (before after : List DeclTree) (d e : Data) → with_decls given os (before ++ after) d ≡ Ok e →
    (m : Data) × (with_decls given os before d ≡ Ok m) × (with_decls given os after m ≡ Ok e)
splits given os [] after d e h = (d, refl, h)
splits given os (t ∷ ts) after d e h =
    let w = went_first (with_decl given os t d) (λ more. with_decls given os (ts ++ after) more) e h in
    let r = splits given os ts after w.0 e w.2 in
    (r.0, ap (λ b. then b (λ more. with_decls given os ts more)) w.1 ∙ r.1, r.2)

added : (name : Text) (v : Value) (d : Data) → (with_value name v d).environment.items ≡ d.environment.items ++ record { name = name; value = v; declaration = 0 } ∷ []
unfolding with_value
added name v d = refl

-- an item of whose value this holds, whatever it is
pub item-stands : (position : ℕ → ℕ) (given : Given) (os : List Override) (before after : List DeclTree) (t : DataDeclTree) (final : Data) (Is : Data → Value → Type 0) →
    ((d : Data) (v : Value) → item_value given os t d ≡ Ok v → Is d v) → with_decls given os (before ++ decls.Data t ∷ after) (no_data position) ≡ Ok final →
    Stands position given os before t final Is
item-stands position given os before after t final Is is h =
    let s = splits given os before (decls.Data t ∷ after) (no_data position) final h in
    let w = went_first (with_decl given os (decls.Data t) s.0) (λ more. with_decls given os after more) final s.2 in
    let v = went_first (item_value given os t s.0) (λ v. Ok (with_value t.name.text v s.0)) w.0 w.1 in
    let item : Item = record { name = t.name.text; value = v.0; declaration = 0 } in
    let g = goes-decls given os after w.0 final w.2 in
    let here : w.0.environment.items ≡ s.0.environment.items ++ item ∷ [] = ap (λ d. d.environment.items) (sym (same_ok (with_value t.name.text v.0 s.0) w.0 v.2)) ∙ added t.name.text v.0 s.0 in
    let all : final.environment.items ≡ s.0.environment.items ++ item ∷ g.0 = g.1 ∙ ap (λ xs. xs ++ g.0) here ∙ append_assoc s.0.environment.items (item ∷ []) g.0 in
    record {
      earlier = s.0;
      comes = s.1;
      value = v.0;
      stands = ap (λ xs. slice_get xs (length s.0.environment.items)) all ∙ stands-at s.0.environment.items g.0 item;
      is = is s.0 v.0 v.1;
    }

pub given_values_fit : GivenValuesFit
unfolding bound
given_values_fit position before after t at files os final e h =
    let w = went_first (all_given (before ++ decls.Data t ∷ after) files) (λ given. with_decls given os (before ++ decls.Data t ∷ after) (no_data position)) final h in
    (w.0, w.1, item-stands position w.0 os before after t final (ItemFits os t) (λ d v i. item-fits w.0 os t d at v e i) w.2)

-- ---- values that the model gives

pub length-axes_in : (env : Environment) (before : List Axis) (ts : List DimTree) (axes : List Axis) → axes_in env before ts ≡ Ok axes → length axes ≡ length before + length ts
length-axes_in env before [] axes h = ap length (sym (same_ok before axes h)) ∙ omega arith
length-axes_in env before (t ∷ ts) axes h =
    let w = went (axis_in env t) (λ axis. axes_in env (before ++ axis ∷ []) ts) axes h in
    length-axes_in env (before ++ w.0 ∷ []) ts axes w.1 ∙ omega (arith, length-append before (w.0 ∷ []))

all-kinds-fit : (known : Known) (form : Form) (vs : List Value) → AllByRecursion (Within known form) vs → AllByRecursion (FitsByKind known form) vs
all-kinds-fit known form [] h = tt
all-kinds-fit known form (v ∷ vs) h = ((λ k. kind-fits known form v k h.0), all-kinds-fit known form vs h.1)

model-fits : (d : Data) (form : Form) (dims : Option DimsTree) (e : AddTree) (v : Value) → model_value d form dims e ≡ Ok v → ItemIs (FitsByKind d.known form) d dims v
model-fits d form None e v h =
    let w = went_first (written_value d.known d.environment form (add_term e)) (alone (out-AddTree e).at) v h in
    let p = passed (not (is_array w.0)) (Ok w.0) _ v w.2 in
    subst (FitsByKind d.known form) (same_ok w.0 v p.1) (λ k. kind-fits d.known form w.0 k (value-stays d.known d.environment form (add_term e) w.0 w.1))
model-fits d form (Some dims) e v h =
    let a = went_first (axes_in d.environment [] (dims_of dims)) _ v h in
    let w = went_first (written_cells d.known d.environment form (dims_of dims) a.0 (add_term e)) (λ cells. Ok (array_over a.0 cells)) v a.2 in
    let l : length (dims_of dims) ≡ length a.0 = sym (length-axes_in d.environment [] (dims_of dims) a.0 a.1 ∙ omega arith) in (
      a.0,
      a.1,
      record {
        cells = w.0;
        is = sym (same_ok (array_over a.0 w.0) v w.2);
        filled = length-written_cells d.known d.environment form (dims_of dims) a.0 (add_term e) w.0 l w.1;
        each = all-kinds-fit d.known form w.0 (cells-stay d.known d.environment form (dims_of dims) a.0 (add_term e) w.0 w.1);
      },
    )

written-initial-fits : (given : Given) (os : List Override) (d : Data) (form : Form) (t : DataDeclTree) (i : InitialTree) (e : AddTree) (v : Value) → i ≡ initials.Written e →
    initial_value given os d form t i ≡ Ok v → ItemIs (FitsByKind d.known form) d t.dims v
written-initial-fits given os d form t i e v is h = model-fits d form t.dims e v (ap (initial_value given os d form t) (sym is) ∙ h)

written-item-fits : (given : Given) (os : List Override) (t : DataDeclTree) (d : Data) (e : AddTree) (v : Value) → t.initial ≡ initials.Written e → item_value given os t d ≡ Ok v → ItemFitsByKind t d v
unfolding item_value
written-item-fits given os t d e v is h = written-initial-fits given os d (form_of t.kind d.known) t t.initial e v is h

pub written_values_fit : WrittenValuesFit
unfolding bound
written_values_fit position before after t e files os final is h =
    let w = went_first (all_given (before ++ decls.Data t ∷ after) files) (λ given. with_decls given os (before ++ decls.Data t ∷ after) (no_data position)) final h in
    (w.0, w.1, item-stands position w.0 os before after t final (ItemFitsByKind t) (λ d v i. written-item-fits w.0 os t d e v is i) w.2)
