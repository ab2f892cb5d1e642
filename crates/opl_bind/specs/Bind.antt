-- The data values of a model.
use Rattle.std.specs.Prelude.{ℕ, ◌+◌, ℤ, not, List, [], ◌∷◌, Option, Some, None, Ok, Err}
use Rattle.opl_tree.specs.declared.declaration.DataDeclTree.{DataDeclTree}
use Rattle.opl_tree.specs.declared.declaration.DeclTree.{DeclTree}
use Rattle.opl_tree.specs.declared.declaration.DeclTree.TheVariants as decls
use Rattle.opl_tree.specs.declared.declaration.DimsTree.{DimsTree}
use Rattle.opl_tree.specs.declared.declaration.EnumNamesTree.{EnumNamesTree}
use Rattle.opl_tree.specs.declared.declaration.EnumNamesTree.TheVariants as names
use Rattle.opl_tree.specs.declared.declaration.InitialTree.{InitialTree}
use Rattle.opl_tree.specs.declared.declaration.InitialTree.TheVariants as initials
use Rattle.opl_tree.specs.declared.declaration.RangeTree.{RangeTree}
use Rattle.opl_tree.specs.declared.expression.AddTree.{AddTree, out-AddTree}
use Rattle.opl_data.specs.declared.tree.DataTree.{DataTree}
use Rattle.opl_term.specs.Terms.{add_term}
use Rattle.opl_value.specs.declared.value.Value.{Value}
use Rattle.opl_value.specs.declared.value.Value.TheVariants as values
use Rattle.opl_eval.specs.Evaluation.{Environment, declared}
use Rattle.opl_given.specs.declared.assigned.Override.{Override}
use Rattle.opl_given.specs.declared.fault.BindFault.TheVariants.{Missing, Shape}
use Rattle.opl_given.specs.declared.form.Form.{Form}
use Rattle.opl_bind.specs.Dimensions.{axes_in, dims_of, number_in}
use Rattle.opl_given.specs.Enumerations.{given_names}
use Rattle.opl_given.specs.Faults.{Bound, then, found, provided}
use Rattle.opl_given.specs.Forms.{Known, form_of, listed_names, nothing_known, number_of, with_declaration, with_enumeration, with_range, with_struct}
use Rattle.opl_given.specs.Given.{Given, GivenValue, all_given, given_to}
use Rattle.opl_given.specs.Items.{array_over, array_value, is_array, single_value}
use Rattle.opl_given.specs.Names.{Text}
use Rattle.opl_bind.specs.Written.{written_cells, written_value}

-- what the declarations so far come to: what they say of types, and the declared names with their values
pub record Data : Type 0 where
  pub known : Known
  pub environment : Environment

-- the value of an item that a data file gives, or that is assigned
abbrev pub external_value : Given → List Override → Data → Form → Text → Option DimsTree → Bound Value
external_value given os d form name None = single_value d.known form name os (given_to given name)
external_value given os d form name (Some dims) =
    array_value d.known form name os (axes_in d.environment [] (dims_of dims)) (given_to given name)

-- no array; typing rules out that an item without dimensions is one
abbrev pub alone : ℕ → Value → Bound Value
alone at v = provided (not (is_array v)) (Shape 0 at) (Ok v)

-- the value of an item that is written in the model
abbrev pub model_value : Data → Form → Option DimsTree → AddTree → Bound Value
model_value d form None e = then (written_value d.known d.environment form (add_term e)) (alone (out-AddTree e).at)
model_value d form (Some dims) e =
    then (axes_in d.environment [] (dims_of dims)) (λ axes. found (array_over axes) (written_cells d.known d.environment form (dims_of dims) axes (add_term e)))

-- the value of an item by the form of its type
abbrev pub initial_value : Given → List Override → Data → Form → DataDeclTree → InitialTree → Bound Value
initial_value given os d form t (initials.External at) = external_value given os d form t.name.text t.dims
initial_value given os d form t (initials.Written e) = model_value d form t.dims e

unfoldable pub item_value : Given → List Override → DataDeclTree → Data → Bound Value
item_value given os t d = initial_value given os d (form_of t.kind d.known) t t.initial

-- the names of an enumeration
abbrev pub names_given : Text → Option GivenValue → Bound (List Text)
names_given name (Some g) = given_names g.file g.value
names_given name None = Err (Missing name)

abbrev pub enumeration_names : Given → Text → EnumNamesTree → Bound (List Text)
enumeration_names given name (names.Listed at first rest) = Ok (listed_names [] (first ∷ rest))
enumeration_names given name (names.External at is_written) = names_given name (given_to given name)

-- the declared name of an item with its value
unfoldable pub with_value : Text → Value → Data → Data
with_value name v d = record { known = with_declaration [] [] d.known; environment = declared name v 0 d.environment }

-- the name of a range with its ends
unfoldable pub with_ends : Text → ℤ → ℤ → Data → Data
with_ends name low high d = record { known = with_range name low high d.known; environment = declared name (values.Range low high) 0 d.environment }

-- names of an enumeration as names of the model, each with its value, from a position on
abbrev pub with_values : ℕ → ℕ → List Text → Environment → Environment
with_values declaration position [] env = env
with_values declaration position (n ∷ ns) env = with_values declaration (position + 1) ns (declared n (values.Enum declaration position) 0 env)

-- the names that the model lists are its names too; those of a data file are not
abbrev pub with_written : ℕ → EnumNamesTree → List Text → Environment → Environment
with_written declaration (names.Listed at first rest) ns env = with_values declaration 0 ns env
with_written declaration (names.External at is_written) ns env = env

unfoldable pub with_listed : EnumNamesTree → List Text → Data → Data
with_listed written ns d = record { known = d.known; environment = with_written (number_of d.known) written ns d.environment }

-- the name of an enumeration with its names, and the number of its declaration
unfoldable pub with_names : Text → List Text → Data → Data
with_names name ns d = record { known = with_enumeration name ns d.known; environment = declared name (values.Names ns) (number_of d.known) d.environment }

-- what says something of types alone
unfoldable pub with_known : Known → Data → Data
with_known known d = record { known = known; environment = d.environment }

-- the ends of a range, in order
abbrev pub range_declared : RangeTree → Data → Bound Data
range_declared t d = then (number_in d.environment t.low) (λ low. then (number_in d.environment t.high) (λ high. Ok (with_ends t.name.text low high d)))

-- what one more declaration comes to
abbrev pub with_decl : Given → List Override → DeclTree → Data → Bound Data
with_decl given os (decls.Data t) d = then (item_value given os t d) (λ v. Ok (with_value t.name.text v d))
with_decl given os (decls.Range t) d = range_declared t d
with_decl given os (decls.Enumeration t) d = then (enumeration_names given t.name.text t.names) (λ ns. Ok (with_names t.name.text ns (with_listed t.names ns d)))
with_decl given os (decls.Structure t) d = Ok (with_known (with_struct t d.known) d)
with_decl given os t d = Ok (with_known (with_declaration [] [] d.known) d)

-- what all declarations come to, behind those before
abbrev pub with_decls : Given → List Override → List DeclTree → Data → Bound Data
with_decls given os [] d = Ok d
with_decls given os (t ∷ ts) d = then (with_decl given os t d) (λ more. with_decls given os ts more)

-- before any declaration
abbrev pub no_data : (ℕ → ℕ) → Data
no_data position = record { known = nothing_known; environment = record { items = []; parameters = []; position = position } }

-- the data of a model: first the values that files give are looked at, then the declarations, each in order
unfoldable pub bound : (ℕ → ℕ) → List DeclTree → List DataTree → List Override → Bound Data
bound position ts files os = then (all_given ts files) (λ given. with_decls given os ts (no_data position))
