-- What drafts come to under an assignment: inner parts before outer ones, and left ones before right ones.
use Rattle.std.specs.Prelude.{ℕ, zero, suc, ℤ, pos, Bool, true, false, cond, not, ◌||◌, ◌&&◌, List, [], ◌∷◌, map, Option, Some, None, Ok, Err}
use Rattle.std.specs.List.{list_any, list_all}
use Rattle.std.specs.Ordering.{int_eq}
use Rattle.opl_tree.specs.declared.expression.AggregateOp.{AggregateOp}
use Rattle.opl_tree.specs.declared.expression.AggregateOp.TheVariants.{Product}
use Rattle.opl_value.specs.declared.value.Value.TheVariants as values
use Rattle.opl_eval.specs.declared.fault.EvalFault.TheVariants.{DivByZero, OutOfIndex}
use Rattle.opl_eval.specs.Arithmetic.{absolute, applied, negative, then, times}
use Rattle.opl_eval.specs.Compare.{number, relates}
use Rattle.opl_eval.specs.Evaluation as evaluation
use Rattle.opl_eval.specs.Evaluation.{Found, found, integer, is_true}
use Rattle.opl_draft.specs.Drafts.{Cells, Draft, Drafts, Leaves, Sign, Steps, are_different, array_at, chosen, operation, variable_value}
use Rattle.opl_draft.specs.Drafts.Drafts.{no_drafts, more_drafts}
use Rattle.opl_draft.specs.Drafts.Leaves.{listed, numbered}
use Rattle.opl_draft.specs.Drafts.Sign.{plus, minus}
use Rattle.opl_draft.specs.Drafts.Steps.{no_steps, more_steps}
use Rattle.opl_draft.specs.Settled.{are_indices, divides}
use Rattle.opl_held.specs.declared.outcome.Outcome.{Outcome}
use Rattle.opl_held.specs.declared.outcome.Outcome.TheVariants.{Fixed, Live}
use Rattle.opl_held.specs.Outcomes.{Worth, both, changed, data_of, each, told, truth_of, value_of}

-- ---- chains

-- A sum so far: a number, or its first fault, which is told only when all operands are there.
abbrev pub Sum : Type 0
Sum = Outcome (Found ℤ)

-- A sum of one operand.
abbrev pub begun : Worth → Sum
begun o = changed (λ v. Ok (number v)) o

-- One operand more.
abbrev pub added : ℕ → Sign → Sum → Worth → Sum
added at sign s o = changed (λ p. then p.0 (λ n. applied at n (operation sign (number p.1)))) (both s o)

-- A divisor 0 without variables has no quotient, whatever is divided.
abbrev pub is_zero : Worth → Bool
is_zero (Fixed v) = int_eq (number v) (pos 0)
is_zero (Live o) = false

-- A product or a quotient is told at once; what comes of it begins the next sum.
abbrev pub factored : ℕ → Sign → Outcome ℤ → Worth → Found Sum
factored at sign a o =
    cond (divides sign && is_zero o) (Err (DivByZero at)) (found (changed (λ n. Ok n)) (told (changed (λ p. applied at p.0 (operation sign (number p.1))) (both a o))))

-- One step more.
abbrev pub stepped : ℕ → Sign → Sum → Worth → Found Sum
stepped at plus s o = Ok (added at plus s o)
stepped at minus s o = Ok (added at minus s o)
stepped at sign s o = then (told s) (λ a. factored at sign a o)

-- ---- aggregates

-- A product is told factor by factor.
abbrev pub product_from : ℕ → Outcome ℤ → List Worth → Found (Outcome ℤ)
product_from at a [] = Ok a
product_from at a (o ∷ os) = then (told (changed (λ p. times at p.0 (number p.1)) (both a o))) (λ b. product_from at b os)

-- An aggregate of its bodies; without any no variable is left in it.
abbrev pub aggregated : AggregateOp → ℕ → List Worth → Found Worth
aggregated Product at os = found (changed values.Int) (product_from at (Fixed (pos 1)) os)
aggregated op at os = told (changed (λ vs. integer (evaluation.aggregate op at (map number vs))) (each os))

-- ---- arrays

-- Whether the elements are variables, and there is one.
abbrev pub are_live : Leaves → Bool
are_live (listed vs) = false
are_live (numbered kind x zero) = false
are_live (numbered kind x (suc n)) = true

-- The same of an array; what is no array has none.
abbrev pub has_variables : Option Cells → Bool
has_variables None = false
has_variables (Some a) = are_live a.leaves

-- Subscripts without variables are indices.
abbrev pub fit : Option Cells → List Worth → Bool
fit None os = true
fit (Some a) os = are_indices a.dims (map data_of os)

-- What is drawn from an array of variables has one.
abbrev pub drawn : {A : Type 0} → Option Cells → Outcome A → Outcome A
drawn a o = cond (has_variables a) (Live (value_of o)) o

-- ---- drafts, where arrays are numbered as in this list, under an assignment

module _ (arrays : List Cells) (ns : List ℤ) where
  -- `a[b,..]`. A subscript without variables that is no index is a fault without variables.
  abbrev pub indexed : ℕ → Option Cells → List Worth → Found Worth
  indexed at a os = cond (fit a os) (found (drawn a) (told (changed (chosen arrays ns at a) (each os)))) (Err (OutOfIndex at))

  abbrev mutual
    -- What a draft comes to, or its first fault without variables.
    pub worth : Draft → Found Worth
    worth (Draft.known at v) = Ok (Fixed v)
    worth (Draft.broken fault) = Err fault
    worth (Draft.variable at x kind) = Ok (Live (Some (variable_value arrays ns x kind)))
    worth (Draft.negated at d) = then (worth d) (λ o. told (changed (λ v. integer (negative at (number v))) o))
    worth (Draft.chain at d ss) = then (worth d) (λ o. then (worth_steps at (begun o) ss) (λ s. found (changed values.Int) (told s)))
    worth (Draft.related at r d e) = then (worth d) (λ o. found (λ p. changed (λ p. values.Bool (relates r p.0 p.1)) (both o p)) (worth e))
    worth (Draft.equivalent at ds) = found (λ os. changed (λ vs. values.Bool (evaluation.equivalent vs)) (each os)) (worths ds)
    worth (Draft.implied at d e) = then (worth d) (λ o. found (λ p. changed (λ p. values.Bool (not (is_true p.0) || is_true p.1)) (both o p)) (worth e))
    worth (Draft.one_of at ds) = found (λ os. changed (λ vs. values.Bool (list_any is_true vs)) (each os)) (worths ds)
    worth (Draft.all_of at ds) = found (λ os. changed (λ vs. values.Bool (list_all is_true vs)) (each os)) (worths ds)
    worth (Draft.opposite at d) = found (changed (λ v. values.Bool (not (is_true v)))) (worth d)
    worth (Draft.aggregate at op ds) = then (worths ds) (aggregated op at)
    worth (Draft.absolute at d) = then (worth d) (λ o. told (changed (λ v. integer (absolute at (number v))) o))
    worth (Draft.different at a) = Ok (drawn a (Fixed (values.Bool (are_different arrays ns a))))
    worth (Draft.element at k ds) = then (worths ds) (indexed at (array_at arrays ns k))

    -- What drafts come to, one after another.
    pub worths : Drafts → Found (List Worth)
    worths no_drafts = Ok []
    worths (more_drafts d ds) = then (worth d) (λ o. found (λ os. o ∷ os) (worths ds))

    -- A sum behind the steps of a chain.
    pub worth_steps : ℕ → Sum → Steps → Found Sum
    worth_steps at s no_steps = Ok s
    worth_steps at s (more_steps sign d ss) = then (worth d) (λ o. then (stepped at sign s o) (λ t. worth_steps at t ss))

  -- Whether a condition is true, and nothing where it is undefined by variables; or its first fault without variables.
  abbrev pub comes_to : Draft → Found (Option Bool)
  comes_to d = found truth_of (worth d)
