-- Laws of typing in words of its own: one list of types, one first fault, and one declaration for each name that is used.
use Rattle.std.specs.Prelude.{◌≡◌, ℕ, zero, suc, true, List, [], ◌∷◌, Option, Some, None, Ok, Err, IsOkAnd}
use Rattle.opl_tree.specs.declared.declaration.BoundsTree.{BoundsTree}
use Rattle.opl_tree.specs.declared.declaration.DeclTree.{DeclTree}
use Rattle.opl_tree.specs.declared.declaration.DeclTree.TheVariants as decls
use Rattle.opl_tree.specs.declared.declaration.DimTree.{DimTree}
use Rattle.opl_tree.specs.declared.declaration.DimsTree.{DimsTree}
use Rattle.opl_tree.specs.declared.declaration.FieldTree.{FieldTree}
use Rattle.opl_tree.specs.declared.declaration.InitialTree.{InitialTree}
use Rattle.opl_tree.specs.declared.declaration.InitialTree.TheVariants as initials
use Rattle.opl_tree.specs.declared.declaration.TypeTree.{TypeTree}
use Rattle.opl_tree.specs.declared.declaration.TypeTree.TheFolds.{fold-TypeTree}
use Rattle.opl_tree.specs.declared.declaration.TypeTree.TheOpen.{TypeTree-F}
use Rattle.opl_tree.specs.declared.declaration.VariableTypeTree.{VariableTypeTree}
use Rattle.opl_tree.specs.declared.declaration.VariableTypeTree.TheVariants as types
use Rattle.opl_tree.specs.declared.expression.AddTree.{AddTree}
use Rattle.opl_tree.specs.declared.expression.NameTree.{NameTree}
use Rattle.opl_tree.specs.declared.instruction.BlockTree.{BlockTree}
use Rattle.opl_tree.specs.declared.instruction.InstrTree.{InstrTree}
use Rattle.opl_tree.specs.declared.instruction.InstrTree.TheVariants as instrs
use Rattle.opl_tree.specs.declared.model.ModelTree.{ModelTree}
use Rattle.opl_tree.specs.declared.search.SearchTree.{SearchTree}
use Rattle.opl_type_rules.specs.declared.fault.TypeFault.{TypeFault}
use Rattle.opl_type_rules.specs.declared.fault.TypeFault.TheVariants.{OutOfMemory}
use Rattle.opl_type_rules.specs.Types.{Sort, is_set}
use Rattle.opl_type_rules.specs.Scope.{Scope, Entry, Text, empty_scope, sort_of, type_of}
use Rattle.opl_type_rules.specs.Forms.{Form, Forms, Pairs, SetForm, Groups, Params, form_expr, form_add, form_set}
use Rattle.opl_type_rules.specs.Forms.Form.{number, named, bracket, negative, arithmetic, absolute, related, member, connected, aggregate, cardinality, all_different, subscripted, field, tuple, listed, described, cells, keyed_cells, question}
use Rattle.opl_type_rules.specs.Forms.Forms.{no_forms, more_forms}
use Rattle.opl_type_rules.specs.Forms.Pairs.{no_pairs, more_pairs}
use Rattle.opl_type_rules.specs.Forms.SetForm.{whole, between}
use Rattle.opl_type_rules.specs.Forms.Groups.{no_groups, more_groups}
use Rattle.opl_type_rules.specs.Forms.Params.{all_of, those_of}
use Rattle.opl_type_rules.specs.Expressions.{Node, Need, Opened, or_anything, bind_patterns, typing, typed_set, open_groups, open_params}
use Rattle.opl_type_rules.specs.Expressions.Need.{data_alone}
use Rattle.opl_declaration_types.specs.Declarations.{Shape, shape, all_dims, decl, next, all_decls}
use Rattle.opl_model_types.specs.Models.{model}
use Rattle.opl_model_types.specs.Uses.{Uses, block_uses, search_uses}
use Rattle.opl_model_types.specs.Uses.Uses.{no_uses, expression, expressions, both, behind}

-- ---- one outcome

-- these are the types of the model's expressions, and this is its first fault
abbrev pub HasKinds : ModelTree → List Sort → Type 0
HasKinds t ks = model t ≡ Ok ks

abbrev pub HasFault : ModelTree → TypeFault → Type 0
HasFault t e = model t ≡ Err e

-- a model has types in one way at most
abbrev pub OneList : Type 0
OneList = (t : ModelTree) (ks ms : List Sort) → HasKinds t ks → HasKinds t ms → ks ≡ ms

-- a model with types has no fault
abbrev pub NoFault : Type 0
NoFault = (t : ModelTree) (ks : List Sort) (e : TypeFault) → HasKinds t ks → HasFault t e → ⊥

-- a model has one first fault at most
abbrev pub OneFault : Type 0
OneFault = (t : ModelTree) (d e : TypeFault) → HasFault t d → HasFault t e → d ≡ e

-- want of memory is no fault of a model
abbrev pub NeverMemory : Type 0
NeverMemory = (t : ModelTree) → model t ≡ Err OutOfMemory → ⊥

-- ---- one declaration for each name

-- what is declared at a place, the latest at 0
abbrev pub entry_at : List Entry → ℕ → Option Entry
entry_at [] k = None
entry_at (e ∷ es) zero = Some e
entry_at (e ∷ es) (suc k) = entry_at es k

-- no two visible declarations have one name
abbrev pub IsDeclaredOnce : Scope → Type 0
IsDeclaredOnce sc = (j k : ℕ) (d e : Entry) → entry_at sc.entries j ≡ Some d → entry_at sc.entries k ≡ Some e → d.name ≡ e.name → j ≡ k

-- the visible declaration of a name, which is the only one
pub record Declared (sc : Scope) (name : Text) : Type 0 where
  pub place : ℕ
  pub entry : Entry
  pub stands : entry_at sc.entries place ≡ Some entry
  pub has_name : entry.name ≡ name
  pub only : (k : ℕ) (other : Entry) → entry_at sc.entries k ≡ Some other → other.name ≡ name → k ≡ place

-- a name that typing accepts has exactly one visible declaration, and the type that this declaration gives
pub record IsUsed (sc : Scope) (name : NameTree) (n : Node) : Type 0 where
  pub declared : Declared sc name.text
  pub sort : n.sort ≡ sort_of declared.entry.thing

abbrev pub NamesAreDeclared : Type 0
NamesAreDeclared = (sc : Scope) (name : NameTree) (n : Node) → IsDeclaredOnce sc → typing sc (named name) ≡ Ok n → IsUsed sc name n

-- the declarations of a model declare each name once
abbrev pub DeclsDeclareOnce : Type 0
DeclsDeclareOnce = (ds : List DeclTree) (o : Opened) → all_decls 0 empty_scope ds ≡ Ok o → IsDeclaredOnce o.scope

-- so do the dimensions of an item, beside what is visible outside
abbrev pub DimsDeclareOnce : Type 0
DimsDeclareOnce = (sc : Scope) (dims : Option DimsTree) (s : Shape) → IsDeclaredOnce sc → shape sc dims ≡ Ok s → IsDeclaredOnce s.inner

-- and so do parameters
abbrev pub ParamsDeclareOnce : Type 0
ParamsDeclareOnce = (need : Need) (sc : Scope) (p : Params) (o : Opened) → IsDeclaredOnce sc → open_params need sc p ≡ Ok o → IsDeclaredOnce o.scope

-- ---- each name in an expression

-- each name that is used in an expression has exactly one visible declaration: a parameter where it is visible, else what is declared outside
abbrev mutual
  pub EachDeclared : Scope → Form → Type 0
  EachDeclared sc (number at) = Unit {0}
  EachDeclared sc (named name) = Declared sc name.text
  EachDeclared sc (bracket at f) = EachDeclared sc f
  EachDeclared sc (negative at f) = EachDeclared sc f
  EachDeclared sc (arithmetic at fs) = AllDeclared sc fs
  EachDeclared sc (absolute at f) = EachDeclared sc f
  EachDeclared sc (related at f relation g) = EachDeclared sc f × EachDeclared sc g
  EachDeclared sc (member at f over) = EachDeclared sc f × SetDeclared sc over
  EachDeclared sc (connected at fs) = AllDeclared sc fs
  EachDeclared sc (aggregate at p f) = ParamsDeclared sc p × IsOkAnd (open_params data_alone sc p) (λ o. EachDeclared o.scope f)
  EachDeclared sc (cardinality at f) = EachDeclared sc f
  EachDeclared sc (all_different at f) = EachDeclared sc f
  EachDeclared sc (subscripted at f es) = EachDeclared sc f × AllDeclared sc es
  EachDeclared sc (field at f name) = EachDeclared sc f
  EachDeclared sc (tuple at fs) = AllDeclared sc fs
  EachDeclared sc (listed at fs) = AllDeclared sc fs
  EachDeclared sc (described at f p) = ParamsDeclared sc p × IsOkAnd (open_params data_alone sc p) (λ o. EachDeclared o.scope f)
  EachDeclared sc (cells at fs) = AllDeclared sc fs
  EachDeclared sc (keyed_cells at ps) = PairsDeclared sc ps
  EachDeclared sc (question at op f) = EachDeclared sc f

  pub AllDeclared : Scope → Forms → Type 0
  AllDeclared sc no_forms = Unit {0}
  AllDeclared sc (more_forms f fs) = EachDeclared sc f × AllDeclared sc fs

  pub PairsDeclared : Scope → Pairs → Type 0
  PairsDeclared sc no_pairs = Unit {0}
  PairsDeclared sc (more_pairs key cell others) = EachDeclared sc key × EachDeclared sc cell × PairsDeclared sc others

  pub SetDeclared : Scope → SetForm → Type 0
  SetDeclared sc (whole f) = EachDeclared sc f
  SetDeclared sc (between low high) = EachDeclared sc low × EachDeclared sc high

  -- the sets of later groups see the parameters of those before
  pub GroupsDeclared : Scope → Groups → Type 0
  GroupsDeclared sc no_groups = Unit {0}
  GroupsDeclared sc (more_groups ps over others) =
      SetDeclared sc over × IsOkAnd (typed_set data_alone is_set sc over) (λ range. IsOkAnd (bind_patterns sc (or_anything range.element) ps) (λ inner. GroupsDeclared inner others))

  pub ParamsDeclared : Scope → Params → Type 0
  ParamsDeclared sc (all_of groups) = GroupsDeclared sc groups
  ParamsDeclared sc (those_of groups condition) = GroupsDeclared sc groups × IsOkAnd (open_groups sc groups) (λ o. EachDeclared o.scope condition)

-- an expression that typing accepts uses no other names
abbrev pub TypedIsDeclared : Type 0
TypedIsDeclared = (sc : Scope) (f : Form) (n : Node) → IsDeclaredOnce sc → typing sc f ≡ Ok n → EachDeclared sc f

-- ---- each name in a declaration

-- the name of a type has exactly one visible declaration, and this is the declaration of a type
pub record IsTypeName (sc : Scope) (name : NameTree) : Type 0 where
  pub declared : Declared sc name.text
  pub sort : Sort
  pub is_type : type_of (Some declared.entry.thing) ≡ Some sort

-- the name in a type that is written, if it has one
abbrev pub type_name_layer : TypeTree-F (Option NameTree) → Option NameTree
type_name_layer (TypeTree-F.Int at) = None
type_name_layer (TypeTree-F.Named name) = Some name
type_name_layer (TypeTree-F.Set at inner) = inner

unfoldable pub type_name : TypeTree → Option NameTree
type_name = fold-TypeTree (Option NameTree) type_name_layer

-- where a type is the name of one
abbrev pub TypeDeclared : Scope → Option NameTree → Type 0
TypeDeclared sc None = Unit {0}
TypeDeclared sc (Some name) = IsTypeName sc name

-- the same of the type of a variable
abbrev pub VariableTypeDeclared : Scope → VariableTypeTree → Type 0
VariableTypeDeclared sc (types.Int at) = Unit {0}
VariableTypeDeclared sc (types.Named name) = IsTypeName sc name

-- the types of the fields of a struct
abbrev pub FieldsDeclared : Scope → List FieldTree → Type 0
FieldsDeclared sc [] = Unit {0}
FieldsDeclared sc (f ∷ fs) = TypeDeclared sc (type_name f.kind) × FieldsDeclared sc fs

-- the sets of dimensions, which see none of the names of these
abbrev pub DimsDeclared : Scope → List DimTree → Type 0
DimsDeclared sc [] = Unit {0}
DimsDeclared sc (d ∷ ds) = SetDeclared sc (form_set d.set) × DimsDeclared sc ds

-- dimensions, and what stands behind all of them, which sees their names
abbrev pub BehindDims : Scope → Option DimsTree → (Scope → Type 0) → Type 0
BehindDims sc dims Rest = DimsDeclared sc (all_dims dims) × IsOkAnd (shape sc dims) (λ s. Rest s.inner)

-- the names in a number
abbrev pub NumberDeclared : Scope → AddTree → Type 0
NumberDeclared sc t = EachDeclared sc (form_add t)

-- in one that may be missing
abbrev pub MaybeDeclared : Scope → Option AddTree → Type 0
MaybeDeclared sc None = Unit {0}
MaybeDeclared sc (Some t) = NumberDeclared sc t

-- in the ends of `in`
abbrev pub BoundsDeclared : Scope → Option BoundsTree → Type 0
BoundsDeclared sc None = Unit {0}
BoundsDeclared sc (Some b) = NumberDeclared sc b.low × NumberDeclared sc b.high

-- in an initial value, cell by cell and key by key where it is an array
abbrev pub InitialDeclared : Scope → InitialTree → Type 0
InitialDeclared sc (initials.External at) = Unit {0}
InitialDeclared sc (initials.Written t) = EachDeclared sc (form_add t)

-- each name that is used in a declaration has exactly one visible declaration
abbrev pub DeclDeclared : Scope → DeclTree → Type 0
DeclDeclared sc (decls.Data t) = TypeDeclared sc (type_name t.kind) × BehindDims sc t.dims (λ inner. InitialDeclared inner t.initial)
DeclDeclared sc (decls.Range t) = NumberDeclared sc t.low × NumberDeclared sc t.high
DeclDeclared sc (decls.Enumeration t) = Unit {0}
DeclDeclared sc (decls.Structure t) = FieldsDeclared sc (t.first ∷ t.rest)
DeclDeclared sc (decls.Variable t) = VariableTypeDeclared sc t.kind × BehindDims sc t.dims (λ inner. BoundsDeclared inner t.bounds)
DeclDeclared sc (decls.Activity t) = BehindDims sc t.dims (λ inner. NumberDeclared inner t.shortest × MaybeDeclared inner t.longest)
DeclDeclared sc (decls.Unary t) = BehindDims sc t.dims (λ inner. Unit {0})
DeclDeclared sc (decls.Discrete t) = BehindDims sc t.dims (λ inner. NumberDeclared inner t.capacity)
DeclDeclared sc (decls.Schedule t) = NumberDeclared sc t.value

-- in declarations from number k on, each of which sees those before it
abbrev pub DeclsDeclared : ℕ → Scope → List DeclTree → Type 0
DeclsDeclared k sc [] = Unit {0}
DeclsDeclared k sc (d ∷ ds) = DeclDeclared sc d × IsOkAnd (decl k sc d) (λ o. DeclsDeclared (next k) o.scope ds)

-- ---- each name in a model

-- each name that is used has exactly one visible declaration; what stands behind parameters sees these, too
abbrev pub UsesDeclared : Scope → Uses → Type 0
UsesDeclared sc no_uses = Unit {0}
UsesDeclared sc (expression f) = EachDeclared sc f
UsesDeclared sc (expressions fs) = AllDeclared sc fs
UsesDeclared sc (both first second) = UsesDeclared sc first × UsesDeclared sc second
UsesDeclared sc (behind need p inner) = ParamsDeclared sc p × IsOkAnd (open_params need sc p) (λ o. UsesDeclared o.scope inner)

-- in the items of a block
abbrev pub BlockDeclared : Scope → BlockTree → Type 0
BlockDeclared sc t = UsesDeclared sc (block_uses t)

-- in the objective and the items
abbrev pub InstrDeclared : Scope → InstrTree → Type 0
InstrDeclared sc (instrs.Solve at t) = BlockDeclared sc t
InstrDeclared sc (instrs.Optimize at optimum objective t) = EachDeclared sc (form_expr objective) × BlockDeclared sc t

-- in the statements of the search section
abbrev pub SearchDeclared : Scope → Option SearchTree → Type 0
SearchDeclared sc None = Unit {0}
SearchDeclared sc (Some t) = UsesDeclared (record sc { is_search = true }) (search_uses t.block)

-- in a model, whose instruction and search section see all its declarations
abbrev pub ModelDeclared : ModelTree → Type 0
ModelDeclared t =
    DeclsDeclared 0 empty_scope t.decls × IsOkAnd (all_decls 0 empty_scope t.decls) (λ o. InstrDeclared o.scope t.instr × SearchDeclared o.scope t.search)

-- in a model with types, each name that is used has exactly one visible declaration
abbrev pub ModelIsDeclared : Type 0
ModelIsDeclared = (t : ModelTree) (ks : List Sort) → HasKinds t ks → ModelDeclared t
