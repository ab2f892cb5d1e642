-- A model has types exactly where its declarations, one behind the other, its instruction and its search section have.
use Rattle.std.specs.Prelude.{◌≡◌, ◌↔◌, ℕ, List, Option, Ok, Err}
use Rattle.opl_tree.specs.declared.declaration.DeclTree.{DeclTree}
use Rattle.opl_tree.specs.declared.instruction.InstrTree.{InstrTree}
use Rattle.opl_tree.specs.declared.model.ModelTree.{ModelTree}
use Rattle.opl_tree.specs.declared.search.SearchTree.{SearchTree}
use Rattle.opl_type_rules.specs.declared.fault.TypeFault.TheVariants.{NotData}
use Rattle.opl_type_rules.specs.Types.{Sort}
use Rattle.opl_type_rules.specs.Scope.{Scope, empty_scope}
use Rattle.opl_type_rules.specs.Expressions.{Opened}
use Rattle.opl_declaration_types.specs.Declarations.{decl}
use Rattle.opl_item_types.specs.Items.{instr, search}
use Rattle.opl_model_types.specs.Models.{model}
use Rattle.opl_typed_model.specs.Declares.{Declares, AllDeclare}
use Rattle.opl_typed_model.specs.First.{InModel}
use Rattle.opl_typed_model.specs.Parts.{IsInstr, IsSearch}

-- a model has types: the instruction and the search section stand behind all declarations
abbrev pub IsModel : ModelTree → Type 0
IsModel t = (inner : Scope) × AllDeclare 0 empty_scope t.decls inner × IsInstr inner t.instr × IsSearch inner t.search

-- what typing lets a declaration leave, the relation does; and the other way round
abbrev pub DeclsSound : Type 0
DeclsSound = (k : ℕ) (sc : Scope) (d : DeclTree) (o : Opened) → decl k sc d ≡ Ok o → Declares k sc d o.scope

abbrev pub DeclsComplete : Type 0
DeclsComplete = (k : ℕ) (sc : Scope) (d : DeclTree) (there : Scope) → Declares k sc d there → (o : Opened) × (decl k sc d ≡ Ok o) × (o.scope ≡ there)

-- typing finds the types of an instruction exactly where it has types
abbrev pub InstrSound : Type 0
InstrSound = (sc : Scope) (t : InstrTree) (ks : List Sort) → instr t sc ≡ Ok ks → IsInstr sc t

abbrev pub InstrComplete : Type 0
InstrComplete = (sc : Scope) (t : InstrTree) → IsInstr sc t → (ks : List Sort) × (instr t sc ≡ Ok ks)

-- and those of a search section
abbrev pub SearchSound : Type 0
SearchSound = (sc : Scope) (t : Option SearchTree) (ks : List Sort) → search t sc ≡ Ok ks → IsSearch sc t

abbrev pub SearchComplete : Type 0
SearchComplete = (sc : Scope) (t : Option SearchTree) → IsSearch sc t → (ks : List Sort) × (search t sc ≡ Ok ks)

-- and those of a model
abbrev pub ModelSound : Type 0
ModelSound = (t : ModelTree) (ks : List Sort) → model t ≡ Ok ks → IsModel t

abbrev pub ModelComplete : Type 0
ModelComplete = (t : ModelTree) → IsModel t → (ks : List Sort) × (model t ≡ Ok ks)

-- a model is refused as no data exactly at the first place where an expression begins that is no data and stands where data is needed, where no fault is found before it
abbrev pub NotDataIsFirstOfModels : Type 0
NotDataIsFirstOfModels = (t : ModelTree) (at : ℕ) → (model t ≡ Err (NotData at)) ↔ InModel t at
