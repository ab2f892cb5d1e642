-- Where typing of a model first comes to an expression that is no data and stands where data is needed: one clause for each place of the table of places.
use Rattle.std.specs.Prelude.{◌⊎◌, ℕ, true, List, [], ◌∷◌, Option, Some, None}
use Rattle.opl_tree.specs.declared.declaration.BoundsTree.{BoundsTree}
use Rattle.opl_tree.specs.declared.declaration.DeclTree.{DeclTree}
use Rattle.opl_tree.specs.declared.declaration.DeclTree.TheVariants as decls
use Rattle.opl_tree.specs.declared.declaration.DimTree.{DimTree}
use Rattle.opl_tree.specs.declared.declaration.DimsTree.{DimsTree}
use Rattle.opl_tree.specs.declared.declaration.InitialTree.{InitialTree}
use Rattle.opl_tree.specs.declared.declaration.InitialTree.TheVariants as initials
use Rattle.opl_tree.specs.declared.expression.AddTree.{AddTree}
use Rattle.opl_tree.specs.declared.expression.SubscriptsTree.{SubscriptsTree}
use Rattle.opl_tree.specs.declared.instruction.InstrTree.{InstrTree}
use Rattle.opl_tree.specs.declared.instruction.InstrTree.TheVariants as instrs
use Rattle.opl_tree.specs.declared.model.ModelTree.{ModelTree}
use Rattle.opl_tree.specs.declared.search.SearchTree.{SearchTree}
use Rattle.opl_type_rules.specs.Types.{Sort, is_number, is_set}
use Rattle.opl_type_rules.specs.Scope.{Scope, and_then, empty_scope, fits_in, fresh, lookup}
use Rattle.opl_type_rules.specs.Forms.{Form, Forms, Pairs, form_add, form_expr, form_post, form_set, form_subscripts, forms_of}
use Rattle.opl_type_rules.specs.Forms.Form.{cells, keyed_cells}
use Rattle.opl_type_rules.specs.Forms.Forms.{no_forms, more_forms}
use Rattle.opl_type_rules.specs.Forms.Pairs.{no_pairs, more_pairs}
use Rattle.opl_type_rules.specs.Expressions.{open_params, part, typed_set, typing, used}
use Rattle.opl_type_rules.specs.Expressions.Need.{nothing, data_alone, data_or_questions}
use Rattle.opl_expression_types.specs.Numbers.{maybe_number, number_kinds}
use Rattle.opl_declaration_types.specs.Declarations.{Shape, all_decls, all_dims, cell_indices, decl, fresh_in, initial, next, shape, variable_type, written_type}
use Rattle.opl_item_types.specs.Items.{instr, known}
use Rattle.opl_not_data.specs.First.{After, InParams, InParts, InPlace, InSet}
use Rattle.opl_typed_model.specs.Parts.{IsTyped, Part, block_part, search_part}
use Rattle.opl_typed_model.specs.Parts.Part.{empty, condition, key, precedence, requirement, labelled, both, behind}

-- ---- numbers

-- an end of a range or of `in`, a duration, a capacity, a demand, `scheduleOrigin`, `scheduleHorizon`
abbrev pub InNumber : Scope → AddTree → ℕ → Type 0
InNumber sc t at = InPlace data_alone sc (form_add t) at

-- the same, where it may be missing
abbrev pub MayBeInNumber : Scope → Option AddTree → ℕ → Type 0
MayBeInNumber sc None at = ⊥
MayBeInNumber sc (Some t) at = InNumber sc t at

-- one number, and one behind it
abbrev pub InNumbers : Scope → AddTree → AddTree → ℕ → Type 0
InNumbers sc low high at = InNumber sc low at ⊎ After (number_kinds sc low) (λ ks. InNumber sc high at)

-- ---- dimensions

-- the set of each dimension; `taken` has the names of those before, too, which their names must not be
abbrev pub InDimensions : Scope → Scope → List DimTree → ℕ → Type 0
InDimensions sc taken [] at = ⊥
InDimensions sc taken (d ∷ ds) at =
    After (fresh_in taken d.name) (λ more. InSet data_alone sc (form_set d.set) at ⊎ After (typed_set data_alone is_set sc (form_set d.set)) (λ over. InDimensions sc more ds at))

-- dimensions, and what stands behind all of them
abbrev pub InDims : Scope → Option DimsTree → (Shape → Type 0) → ℕ → Type 0
InDims sc dims Behind at = InDimensions sc sc (all_dims dims) at ⊎ After (shape sc dims) Behind

-- ---- initial values

abbrev mutual
  -- cell by cell and key by key in `[..]` and `#[..]#`; every other value stands where data is needed
  pub InValue : Scope → Sort → List Sort → Form → ℕ → Type 0
  InValue sc s (i ∷ is) (cells p fs) at = InCells sc s is fs at
  InValue sc s (i ∷ is) (keyed_cells p ps) at = InKeyed sc s i is ps at
  InValue sc s is f at = InPlace data_alone sc f at

  pub InCells : Scope → Sort → List Sort → Forms → ℕ → Type 0
  InCells sc s is no_forms at = ⊥
  InCells sc s is (more_forms f fs) at = InValue sc s is f at ⊎ After (initial sc s is f) (λ ks. InCells sc s is fs at)

  pub InKeyed : Scope → Sort → Sort → List Sort → Pairs → ℕ → Type 0
  InKeyed sc s i is no_pairs at = ⊥
  InKeyed sc s i is (more_pairs index cell others) at =
      InPlace data_alone sc index at ⊎ After (and_then (typing sc index) (used data_alone (fits_in sc i))) (λ n. InValue sc s is cell at ⊎ After (initial sc s is cell) (λ ks. InKeyed sc s i is others at))

-- a value in the data files is not looked at
abbrev pub InInitial : Scope → Sort → List Sort → InitialTree → ℕ → Type 0
InInitial sc s is (initials.External p) at = ⊥
InInitial sc s is (initials.Written t) at = InValue sc s is (form_add t) at

-- ---- declarations

-- the ends of `in`
abbrev pub InBounds : Scope → Option BoundsTree → ℕ → Type 0
InBounds sc None at = ⊥
InBounds sc (Some b) at = InNumbers sc b.low b.high at

-- the shortest duration, and the longest
abbrev pub InDurations : Scope → AddTree → Option AddTree → ℕ → Type 0
InDurations sc shortest longest at = InNumber sc shortest at ⊎ After (number_kinds sc shortest) (λ ks. MayBeInNumber sc longest at)

-- a declaration: first it has a type, and a name that is new
abbrev pub InDecl : Scope → DeclTree → ℕ → Type 0
InDecl sc (decls.Data t) at = After (written_type t.kind sc) (λ s. After (fresh sc t.name) (λ u. InDims sc t.dims (λ d. InInitial d.inner s (cell_indices d.dims) t.initial at) at))
InDecl sc (decls.Range t) at = After (fresh sc t.name) (λ u. InNumbers sc t.low t.high at)
InDecl sc (decls.Enumeration t) at = ⊥
InDecl sc (decls.Structure t) at = ⊥
InDecl sc (decls.Variable t) at = After (variable_type sc t.kind) (λ s. After (fresh sc t.name) (λ u. InDims sc t.dims (λ d. InBounds d.inner t.bounds at) at))
InDecl sc (decls.Activity t) at = After (fresh sc t.name) (λ u. InDims sc t.dims (λ d. InDurations d.inner t.shortest t.longest at) at)
InDecl sc (decls.Unary t) at = After (fresh sc t.name) (λ u. InDims sc t.dims (λ d. ⊥) at)
InDecl sc (decls.Discrete t) at = After (fresh sc t.name) (λ u. InDims sc t.dims (λ d. InNumber d.inner t.capacity at) at)
InDecl sc (decls.Schedule t) at = InNumber sc t.value at

-- declarations from number k on, each in the scope of those before it
abbrev pub InDecls : ℕ → Scope → List DeclTree → ℕ → Type 0
InDecls k sc [] at = ⊥
InDecls k sc (d ∷ ds) at = InDecl sc d at ⊎ After (decl k sc d) (λ o. InDecls (next k) o.scope ds at)

-- ---- items and statements

-- the subscripts of a resource
abbrev pub InSubscripts : Scope → Option SubscriptsTree → ℕ → Type 0
InSubscripts sc None at = ⊥
InSubscripts sc (Some t) at = InParts sc (forms_of (form_subscripts t)) at

abbrev pub InPart : Scope → Part → ℕ → Type 0
InPart sc empty at = ⊥
-- a condition and the key of an order have the need of their places
InPart sc (condition need f) at = InPlace need sc f at
InPart sc (key f) at = InPlace data_or_questions sc f at
-- activities need be no data
InPart sc (precedence f g) at = InPlace nothing sc f at ⊎ After (and_then (typing sc f) part) (λ m. InPlace nothing sc g at)
-- an activity; a demand, which is data; a visible resource, and its subscripts
InPart sc (requirement t) at =
    InPlace nothing sc (form_post t.activity) at ⊎ After (and_then (typing sc (form_post t.activity)) part) (λ n.
    MayBeInNumber sc t.demand at ⊎ After (maybe_number sc t.demand) (λ ks. After (known t.resource (lookup sc t.resource.text)) (λ thing. InSubscripts sc t.subscripts at)))
InPart sc (labelled op f) at = InPlace nothing sc f at
-- one behind the other, where the first has types
InPart sc (both p q) at = InPart sc p at ⊎ (IsTyped sc p × InPart sc q at)
-- what stands behind parameters sees them
InPart sc (behind need params p) at = InParams need sc params at ⊎ After (open_params need sc params) (λ o. InPart o.scope p at)

-- ---- models

abbrev pub InInstr : Scope → InstrTree → ℕ → Type 0
InInstr sc (instrs.Solve p t) at = InPart sc (block_part t) at
InInstr sc (instrs.Optimize p optimum objective t) at =
    InPlace nothing sc (form_expr objective) at ⊎ After (and_then (typing sc (form_expr objective)) (used nothing is_number)) (λ n. InPart sc (block_part t) at)

-- questions are asked in the search section alone
abbrev pub InSearch : Scope → Option SearchTree → ℕ → Type 0
InSearch sc None at = ⊥
InSearch sc (Some t) at = InPart (record sc { is_search = true }) (search_part t.block) at

-- the declarations, then the instruction, then the search section
abbrev pub InModel : ModelTree → ℕ → Type 0
InModel t at =
    InDecls 0 empty_scope t.decls at ⊎ After (all_decls 0 empty_scope t.decls) (λ o. InInstr o.scope t.instr at ⊎ After (instr t.instr o.scope) (λ ks. InSearch o.scope t.search at))
