-- Want of memory is no fault of a model's data.
use Rattle.std.proofs.Common.{ℕ, not, List, [], ◌∷◌, Option, None, Some, Ok}
use Rattle.opl_tree.specs.declared.declaration.DataDeclTree.{DataDeclTree}
use Rattle.opl_tree.specs.declared.declaration.DeclTree.{DeclTree}
use Rattle.opl_tree.specs.declared.declaration.DeclTree.TheVariants as decls
use Rattle.opl_tree.specs.declared.declaration.DimsTree.{DimsTree}
use Rattle.opl_tree.specs.declared.declaration.EnumNamesTree.{EnumNamesTree}
use Rattle.opl_tree.specs.declared.declaration.EnumNamesTree.TheVariants as names
use Rattle.opl_tree.specs.declared.declaration.InitialTree.{InitialTree}
use Rattle.opl_tree.specs.declared.declaration.InitialTree.TheVariants as initials
use Rattle.opl_tree.specs.declared.declaration.RangeTree.{RangeTree}
use Rattle.opl_tree.specs.declared.expression.AddTree.{AddTree, out-AddTree}
use Rattle.opl_data.specs.declared.tree.DataTree.{DataTree}
use Rattle.opl_term.specs.Terms.{add_term}
use Rattle.opl_value.specs.declared.value.Value.{Value}
use Rattle.opl_given.specs.declared.assigned.Override.{Override}
use Rattle.opl_given.specs.declared.fault.BindFault.TheVariants.{Missing, Shape}
use Rattle.opl_given.specs.declared.form.Form.{Form}
use Rattle.opl_bind.specs.Bind.{Data, external_value, alone, model_value, initial_value, item_value, names_given, enumeration_names, with_value, with_ends, with_names, with_known, with_listed, range_declared, with_decl, with_decls, no_data, bound}
use Rattle.opl_bind.specs.Dimensions.{axes_in, dims_of, number_in}
use Rattle.opl_given.specs.Forms.{form_of, listed_names, with_declaration, with_struct}
use Rattle.opl_given.specs.Given.{Given, GivenValue, all_given, given_to}
use Rattle.opl_given.specs.Items.{array_over, is_array}
use Rattle.opl_bind.specs.Laws.{NeverMemory}
use Rattle.opl_given.specs.Names.{Text}
use Rattle.opl_bind.specs.Written.{written_cells, written_value}
use Rattle.opl_given.proofs.NoMemory.{Real, real_ok, real_err, real_never, real_never_evaluating, real_then, real_found, real_provided, real_all_given, real_given_names, real_single_value, real_array_value}
use Rattle.opl_bind.proofs.NoMemoryDimensions.{real_number_in, real_axes}
use Rattle.opl_bind.proofs.NoMemoryWritten.{real_written_value, real_written_cells}

real_external : (given : Given) (os : List Override) (d : Data) (form : Form) (name : Text) (dims : Option DimsTree) → Real (external_value given os d form name dims)
real_external given os d form name None = real_single_value d.known form name os (given_to given name)
real_external given os d form name (Some dims) = real_array_value d.known form name os (axes_in d.environment [] (dims_of dims)) (given_to given name) (real_axes d.environment [] (dims_of dims))

real_alone : (at : ℕ) (v : Value) → Real (alone at v)
real_alone at v = real_provided (not (is_array v)) (Shape 0 at) (Ok v) tt (real_ok v)

real_model_value : (d : Data) (form : Form) (dims : Option DimsTree) (e : AddTree) → Real (model_value d form dims e)
real_model_value d form None e = real_then (written_value d.known d.environment form (add_term e)) (alone (out-AddTree e).at) (real_written_value d.known d.environment form (add_term e)) (λ v. real_alone (out-AddTree e).at v)
real_model_value d form (Some dims) e =
    real_then (axes_in d.environment [] (dims_of dims)) _ (real_axes d.environment [] (dims_of dims))
    (λ axes. real_found (array_over axes) (written_cells d.known d.environment form (dims_of dims) axes (add_term e)) (real_written_cells d.known d.environment form (dims_of dims) axes (add_term e)))

real_initial : (given : Given) (os : List Override) (d : Data) (form : Form) (t : DataDeclTree) (initial : InitialTree) → Real (initial_value given os d form t initial)
real_initial given os d form t (initials.External at) = real_external given os d form t.name.text t.dims
real_initial given os d form t (initials.Written e) = real_model_value d form t.dims e

real_item : (given : Given) (os : List Override) (t : DataDeclTree) (d : Data) → Real (item_value given os t d)
unfolding item_value
real_item given os t d = real_initial given os d (form_of t.kind d.known) t t.initial

real_names_given : (name : Text) (g : Option GivenValue) → Real (names_given name g)
real_names_given name (Some g) = real_given_names g.file g.value
real_names_given name None = real_err (List Text) (Missing name) tt

real_enumeration : (given : Given) (name : Text) (t : EnumNamesTree) → Real (enumeration_names given name t)
real_enumeration given name (names.Listed at first rest) = real_ok (listed_names [] (first ∷ rest))
real_enumeration given name (names.External at is_written) = real_names_given name (given_to given name)

real_range : (t : RangeTree) (d : Data) → Real (range_declared t d)
real_range t d = real_then (number_in d.environment t.low) _ (real_number_in d.environment t.low) (λ low. real_then (number_in d.environment t.high) (λ high. Ok (with_ends t.name.text low high d)) (real_number_in d.environment t.high) (λ high. real_ok (with_ends t.name.text low high d)))

real_decl : (given : Given) (os : List Override) (t : DeclTree) (d : Data) → Real (with_decl given os t d)
real_decl given os (decls.Data t) d = real_then (item_value given os t d) (λ v. Ok (with_value t.name.text v d)) (real_item given os t d) (λ v. real_ok (with_value t.name.text v d))
real_decl given os (decls.Range t) d = real_range t d
real_decl given os (decls.Enumeration t) d = real_then (enumeration_names given t.name.text t.names) (λ ns. Ok (with_names t.name.text ns (with_listed t.names ns d))) (real_enumeration given t.name.text t.names) (λ ns. real_ok (with_names t.name.text ns (with_listed t.names ns d)))
real_decl given os (decls.Structure t) d = real_ok (with_known (with_struct t d.known) d)
real_decl given os t d = real_ok (with_known (with_declaration [] [] d.known) d)

real_decls : (given : Given) (os : List Override) (ts : List DeclTree) (d : Data) → Real (with_decls given os ts d)
real_decls given os [] d = real_ok d
real_decls given os (t ∷ ts) d = real_then (with_decl given os t d) (λ more. with_decls given os ts more) (real_decl given os t d) (λ more. real_decls given os ts more)

-- no data of a model are want of memory
pub real_bound : (position : ℕ → ℕ) (ts : List DeclTree) (files : List DataTree) (os : List Override) → Real (bound position ts files os)
unfolding bound
real_bound position ts files os = real_then (all_given ts files) _ (real_all_given ts files) (λ given. real_decls given os ts (no_data position))

pub never_memory : NeverMemory
never_memory position ts files os = (real_never (bound position ts files os) (real_bound position ts files os), real_never_evaluating (bound position ts files os) (real_bound position ts files os))
