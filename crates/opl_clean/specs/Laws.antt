-- Laws of typing on decision variables.
use Rattle.std.specs.Prelude.{◌≡◌, Bool, true, false, List, Ok}
use Rattle.opl_tree.specs.declared.declaration.DeclTree.{DeclTree}
use Rattle.opl_tree.specs.declared.instruction.InstrTree.{InstrTree}
use Rattle.opl_type_rules.specs.Types.{Sort}
use Rattle.opl_type_rules.specs.Scope.{Text, Scope, and_then, empty_scope}
use Rattle.opl_type_rules.specs.Forms.{Form, Params}
use Rattle.opl_type_rules.specs.Expressions.{Node, Opened, part, used, typing, open_params}
use Rattle.opl_type_rules.specs.Expressions.Need.{data_alone}
use Rattle.opl_declaration_types.specs.Declarations.{all_decls}
use Rattle.opl_item_types.specs.Items.{instr}
use Rattle.opl_clean.specs.Declared.{variable_names}
use Rattle.opl_clean.specs.Items.{is_data_instr}
use Rattle.opl_clean.specs.Mentions.{mentions, params_mention, KeepsVariables}

-- where a variable is named, typing knows it
abbrev pub VariablesDecide : Type 0
VariablesDecide = (names : List Text) (sc : Scope) (f : Form) (n : Node) → KeepsVariables names sc → and_then (typing sc f) part ≡ Ok n → mentions names f ≡ true → n.decides ≡ true

-- where data is needed, no variable is named
abbrev pub DataNamesNone : Type 0
DataNamesNone = (names : List Text) (sc : Scope) (f : Form) (takes : Sort → Bool) (n : Node) → KeepsVariables names sc → and_then (typing sc f) (used data_alone takes) ≡ Ok n → mentions names f ≡ false

-- nor in parameters, within which the variables are visible as outside
abbrev pub ParamsNameNone : Type 0
ParamsNameNone =
    (names : List Text) (sc : Scope) (p : Params) (o : Opened) → KeepsVariables names sc → open_params data_alone sc p ≡ Ok o → (params_mention names p ≡ false) × KeepsVariables names o.scope

-- where a model's items have types, no parameters of `forall` and no condition of `if` name a variable
abbrev pub ItemsNameNone : Type 0
ItemsNameNone = (names : List Text) (sc : Scope) (t : InstrTree) (ks : List Sort) → KeepsVariables names sc → instr t sc ≡ Ok ks → is_data_instr names t ≡ true

-- so it is in a model: its decision variables are those of its declarations
abbrev pub ModelNamesNone : Type 0
ModelNamesNone = (ds : List DeclTree) (t : InstrTree) (o : Opened) (ks : List Sort) → all_decls 0 empty_scope ds ≡ Ok o → instr t o.scope ≡ Ok ks → is_data_instr (variable_names ds) t ≡ true
