-- Drafts: expressions after unrolling. No parameters and no names are left, aggregates are written out over their elements, parts without
-- decision variables are values, and variables and arrays are numbers. No arithmetic is done yet.
use Rattle.std.specs.Prelude.{slice_get, ℕ, zero, suc, ℤ, pos, Bool, true, not, ◌||◌, slice_index_or, List, [], ◌∷◌, map, Option, Some, None, Ok, Err}
use Rattle.std.specs.List.{list_any, list_all}
use Rattle.opl_tree.specs.declared.expression.AggregateOp.{AggregateOp}
use Rattle.opl_tree.specs.declared.expression.Relation.{Relation}
use Rattle.opl_value.specs.declared.value.Value.{Value}
use Rattle.opl_value.specs.declared.value.Value.TheVariants as values
use Rattle.opl_value.specs.Places.{place_of}
use Rattle.opl_eval.specs.declared.fault.EvalFault.{EvalFault}
use Rattle.opl_eval.specs.declared.arithmetic.Operation.{Operation}
use Rattle.opl_eval.specs.declared.arithmetic.Operation.TheVariants as operations
use Rattle.opl_eval.specs.Arithmetic as arithmetic
use Rattle.opl_eval.specs.Arithmetic.{then, run}
use Rattle.opl_eval.specs.Compare.{number, relates, all_different}
use Rattle.opl_eval.specs.Evaluation as evaluation
use Rattle.opl_eval.specs.Evaluation.{Found, found, is_true, at_place, integer, truth}
use Rattle.opl_meaning.specs.declared.variable.Kind.{Kind}
use Rattle.opl_meaning.specs.Assigned.{value_of}

-- the elements of an array in index order: values, or so many decision variables of one kind from a number on
pub data Leaves : Type 0 where
  listed : List Value → Leaves
  numbered : Kind → ℕ → ℕ → Leaves

-- an array: its name, the index set of each dimension, and the elements
pub record Cells : Type 0 where
  pub name : List ℕ
  pub dims : List (List Value)
  pub leaves : Leaves

-- what a step of a chain does
pub data Sign : Type 0 where
  plus : Sign
  minus : Sign
  times : Sign
  quotient : Sign
  remainder : Sign

mutual
  -- an unrolled expression; each form begins with the place of its first token:
  -- a value; a fault where there would be one; the variable of this number and kind; `-a`; a chain of steps; `a = b` and the like;
  -- `a <=> b <=> ..`; `a => b`; `a \/ b \/ ..`; `a & b & ..`; `not a`; an aggregate over its elements; `abs(a)`;
  -- `alldifferent` of the elements of an array; the element of the array of this number with these subscripts
  pub data Draft : Type 0 where
    known : ℕ → Value → Draft
    broken : EvalFault → Draft
    variable : ℕ → ℕ → Kind → Draft
    negated : ℕ → Draft → Draft
    chain : ℕ → Draft → Steps → Draft
    related : ℕ → Relation → Draft → Draft → Draft
    equivalent : ℕ → Drafts → Draft
    implied : ℕ → Draft → Draft → Draft
    one_of : ℕ → Drafts → Draft
    all_of : ℕ → Drafts → Draft
    opposite : ℕ → Draft → Draft
    aggregate : ℕ → AggregateOp → Drafts → Draft
    absolute : ℕ → Draft → Draft
    different : ℕ → Option Cells → Draft
    element : ℕ → Option ℕ → Drafts → Draft

  pub data Drafts : Type 0 where
    no_drafts : Drafts
    more_drafts : Draft → Drafts → Drafts

  pub data Steps : Type 0 where
    no_steps : Steps
    more_steps : Sign → Draft → Steps → Steps

-- drafts behind one another
abbrev pub drafts_of : List Draft → Drafts
drafts_of [] = no_drafts
drafts_of (d ∷ ds) = more_drafts d (drafts_of ds)

-- a step with its right operand
pub record DraftStep : Type 0 where
  pub sign : Sign
  pub operand : Draft

abbrev pub steps_of : List DraftStep → Steps
steps_of [] = no_steps
steps_of (s ∷ ss) = more_steps s.sign s.operand (steps_of ss)

-- ---- what a draft comes to under an assignment

-- a step, once its operand is known
abbrev pub operation : Sign → ℤ → Operation
operation plus n = operations.Plus n
operation minus n = operations.Minus n
operation times n = operations.Times n
operation quotient n = operations.Quotient n
operation remainder n = operations.Remainder n

-- under an assignment, where arrays are numbered as in this list
module _ (arrays : List Cells) (ns : List ℤ) where
  -- the value of a variable, and of so many of them from one on
  abbrev pub variable_value : ℕ → Kind → Value
  variable_value x kind = value_of kind (slice_index_or ns x (pos 0))

  abbrev pub variable_values : Kind → ℕ → ℕ → List Value
  variable_values kind x zero = []
  variable_values kind x (suc n) = variable_value x kind ∷ variable_values kind (suc x) n

  -- the elements of an array
  abbrev pub leaf_values : Leaves → List Value
  leaf_values (listed vs) = vs
  leaf_values (numbered kind x n) = variable_values kind x n

  -- whether the elements of an array differ pairwise; what is no array has none
  abbrev pub are_different : Option Cells → Bool
  are_different None = true
  are_different (Some a) = all_different (leaf_values a.leaves)

  -- the element of an array with this key; what is no array has the element 0, which typing rules out
  abbrev pub chosen : ℕ → Option Cells → List Value → Found Value
  chosen at None key = Ok (values.Int (pos 0))
  chosen at (Some a) key = at_place at (leaf_values a.leaves) (place_of a.dims key)

  -- the array of this number
  abbrev pub array_at : Option ℕ → Option Cells
  array_at None = None
  array_at (Some k) = slice_get arrays k

  abbrev mutual
    -- what a draft comes to: a value, or its first fault
    pub draft_value : Draft → Found Value
    draft_value (known at v) = Ok v
    draft_value (broken fault) = Err fault
    draft_value (variable at x kind) = Ok (variable_value x kind)
    draft_value (negated at d) = then (draft_value d) (λ v. integer (arithmetic.negative at (number v)))
    draft_value (chain at d ss) = then (draft_value d) (λ v. then (step_values ss) (λ os. integer (run at (number v) os)))
    draft_value (related at r d e) = then (draft_value d) (λ v. then (draft_value e) (λ w. Ok (values.Bool (relates r v w))))
    draft_value (equivalent at ds) = truth (found evaluation.equivalent (draft_values ds))
    draft_value (implied at d e) = then (draft_value d) (λ v. then (draft_value e) (λ w. Ok (values.Bool (not (is_true v) || is_true w))))
    draft_value (one_of at ds) = truth (found (list_any is_true) (draft_values ds))
    draft_value (all_of at ds) = truth (found (list_all is_true) (draft_values ds))
    draft_value (opposite at d) = found (λ v. values.Bool (not (is_true v))) (draft_value d)
    draft_value (aggregate at op ds) = then (draft_values ds) (λ vs. integer (evaluation.aggregate op at (map number vs)))
    draft_value (absolute at d) = then (draft_value d) (λ v. integer (arithmetic.absolute at (number v)))
    draft_value (different at a) = Ok (values.Bool (are_different a))
    draft_value (element at a ds) = then (draft_values ds) (chosen at (array_at a))

    -- what drafts come to, one after another
    pub draft_values : Drafts → Found (List Value)
    draft_values no_drafts = Ok []
    draft_values (more_drafts d ds) = then (draft_value d) (λ x. found (λ xs. x ∷ xs) (draft_values ds))

    -- the operations of steps
    pub step_values : Steps → Found (List Operation)
    step_values no_steps = Ok []
    step_values (more_steps s d ss) = then (found (λ v. operation s (number v)) (draft_value d)) (λ x. found (λ xs. x ∷ xs) (step_values ss))
