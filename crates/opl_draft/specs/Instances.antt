-- The conditions that items give, one after another in the order of the text: `forall` under each choice of its parameters, `if` by
-- whether its condition holds. Sets of parameters and conditions of items name no decision variable.
use Rattle.std.specs.Prelude.{ℕ, Bool, true, List, [], ◌∷◌, map, Option, Some, None}
use Rattle.std.specs.List.{flat_map}
use Rattle.opl_tree.specs.declared.instruction.BlockTree.{BlockTree}
use Rattle.opl_tree.specs.declared.instruction.InstrTree.{InstrTree}
use Rattle.opl_tree.specs.declared.instruction.InstrTree.TheVariants as instr
use Rattle.opl_tree.specs.declared.instruction.ItemTree.TheOpen.{ItemTree-F, ItemsTree-F, BlockTree-F}
use Rattle.opl_tree.specs.declared.instruction.ItemTree.TheFolds.{fold-BlockTree}
use Rattle.opl_term.specs.declared.term.ParamsTerm.{ParamsTerm}
use Rattle.opl_term.specs.declared.term.Term.{Term}
use Rattle.opl_term.specs.Terms.{expr_term, params_term}
use Rattle.opl_eval.specs.declared.fault.EvalFault.{EvalFault}
use Rattle.opl_eval.specs.Evaluation.{Environment, Group, Parameter, group_meaning, with_parameters}
use Rattle.opl_meaning.specs.declared.variable.VariableItem.{VariableItem}
use Rattle.opl_meaning.specs.Runs.{Names}
use Rattle.opl_meaning.specs.Uses.{place_of}
use Rattle.opl_draft.specs.Choices.{branched, under}
use Rattle.opl_draft.specs.Drafts.{Draft}
use Rattle.opl_draft.specs.Drafts.Draft.{broken}
use Rattle.opl_draft.specs.Unrolled.{is_clean, unrolled}

-- ---- instances

-- a condition, with the place of its item's first token and the parameters under which the item is met; or the fault of a set or a
-- condition of items, behind which no condition counts
pub data Instance : Type 0 where
  posted : ℕ → Term → List Parameter → Instance
  stopped : EvalFault → Instance

-- what items give where the visible names have these values
abbrev pub Instances : Type 0
Instances = Environment → List Instance

-- a condition
abbrev pub constraint : ℕ → Term → Instances
constraint at t env = posted at t env.parameters ∷ []

-- `forall (GROUPS : c) item`
abbrev pub for_all : List Group → Option Term → Instances → Instances
for_all groups condition inner = under stopped groups condition inner

-- `if c then items else items endif`
abbrev pub decided : Term → Instances → Instances → Instances
decided condition holds fails = branched stopped condition holds fails

-- nothing
abbrev pub nothing : Instances
nothing env = []

-- one after another
abbrev pub in_turn : List Instances → Instances
in_turn inner env = flat_map (λ i. i env) inner

-- ---- items

abbrev pub or_nothing : Option Instances → Instances
or_nothing None = nothing
or_nothing (Some inner) = inner

abbrev pub for_all_params : ParamsTerm → Instances → Instances
for_all_params params inner = for_all (map group_meaning params.groups) params.condition inner

-- an item; those of scheduling give no condition yet
abbrev pub item_layer : ItemTree-F Instances Instances Instances → Instances
item_layer (ItemTree-F.Block inner) = inner
item_layer (ItemTree-F.ForAll at params body) = for_all_params (params_term params) body
item_layer (ItemTree-F.If at condition holds fails) = decided (expr_term condition) holds (or_nothing fails)
item_layer (ItemTree-F.Precedes at first second) = nothing
item_layer (ItemTree-F.Requires t) = nothing
item_layer (ItemTree-F.Constraint t) = constraint (place_of (expr_term t)) (expr_term t)

abbrev pub items_layer : ItemsTree-F Instances Instances Instances → Instances
items_layer (ItemsTree-F.Empty at) = nothing
items_layer (ItemsTree-F.Several at first rest is_closed) = in_turn (first ∷ rest)

abbrev pub block_layer : BlockTree-F Instances Instances Instances → Instances
block_layer t = t.items

-- the instances of a block
unfoldable pub block_instances : BlockTree → Instances
block_instances = fold-BlockTree Instances Instances Instances item_layer items_layer block_layer

-- the instances of a model's instruction
abbrev pub instances : InstrTree → Instances
instances (instr.Solve at block) = block_instances block
instances (instr.Optimize at optimum objective block) = block_instances block

-- ---- their drafts

-- a condition unrolled, with the place of its item
pub record Condition : Type 0 where
  pub at : ℕ
  pub draft : Draft

module _ (items : List VariableItem) (names : Names) where
  -- the draft of an instance, where the declared names have these values; of a fault what comes to that fault
  abbrev pub condition_of : Environment → Instance → Condition
  condition_of env (posted at t ps) = record { at = at; draft = unrolled items names t (with_parameters ps env) }
  condition_of env (stopped fault) = record { at = 0; draft = broken fault }

  -- whether variables stand in a condition only where they may
  abbrev pub is_clean_instance : Instance → Bool
  is_clean_instance (posted at t ps) = is_clean items names t
  is_clean_instance (stopped fault) = true
