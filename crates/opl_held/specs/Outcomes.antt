-- What parts come to under an assignment, and how outcomes are put together.
use Rattle.std.specs.Prelude.{Bool, List, [], ◌∷◌, Option, Some, None, Ok, Err}
use Rattle.std.specs.Option.{option_map}
use Rattle.opl_value.specs.declared.value.Value.{Value}
use Rattle.opl_eval.specs.declared.fault.EvalFault.{EvalFault}
use Rattle.opl_eval.specs.Evaluation.{Found, found, is_true}
pub use Rattle.opl_draft.specs.Settled.{pair_of}
use Rattle.opl_form.specs.Worth.{some_of}
use Rattle.opl_held.specs.declared.outcome.Outcome.{Outcome}
use Rattle.opl_held.specs.declared.outcome.Outcome.TheVariants.{Fixed, Live}

-- The outcome of an expression.
abbrev pub Worth : Type 0
Worth = Outcome Value

-- What it comes to, if it is defined.
abbrev pub value_of : {A : Type 0} → Outcome A → Option A
value_of (Fixed a) = Some a
value_of (Live o) = o

-- What it comes to where no variable is left in it.
abbrev pub data_of : {A : Type 0} → Outcome A → Option A
data_of (Fixed a) = Some a
data_of (Live o) = None

-- A function of what it comes to.
abbrev pub changed : {A B : Type 0} → (A → B) → Outcome A → Outcome B
changed f (Fixed a) = Fixed (f a)
changed f (Live o) = Live (option_map f o)

-- Two parts together: a variable that is left in one is left in both.
abbrev pub both : {A B : Type 0} → Outcome A → Outcome B → Outcome (A × B)
both (Fixed a) (Fixed b) = Fixed (a, b)
both a b = Live (pair_of (value_of a) (value_of b))

-- Several parts together.
abbrev pub each : {A : Type 0} → List (Outcome A) → Outcome (List A)
each [] = Fixed []
each (o ∷ os) = changed (λ p. p.0 ∷ p.1) (both o (each os))

-- A fault without variables is told; one by variables leaves the part undefined.
abbrev pub told : {A : Type 0} → Outcome (Found A) → Found (Outcome A)
told (Fixed r) = found (λ a. Fixed a) r
told (Live None) = Ok (Live None)
told (Live (Some r)) = Ok (Live (some_of r))

-- What is found, if it is no fault and defined.
abbrev pub value_in : {A : Type 0} → Found (Outcome A) → Option A
value_in (Ok o) = value_of o
value_in (Err fault) = None

-- The fault, if there is one.
abbrev pub fault_of : {A : Type 0} → Found A → Option EvalFault
fault_of (Ok a) = None
fault_of (Err fault) = Some fault

-- Whether an expression is true, if it is defined.
abbrev pub truth_of : Worth → Option Bool
truth_of o = option_map is_true (value_of o)
