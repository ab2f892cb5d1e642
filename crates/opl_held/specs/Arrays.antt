-- Arrays under an assignment, as the program looks at them.
use Rattle.std.specs.Prelude.{ℕ, ℤ, pos, Bool, true, false, cond, List, [], Option, Some, None, is_some, Ok, Err}
use Rattle.std.specs.List.{list_all}
use Rattle.opl_value.specs.declared.value.Value.{Value}
use Rattle.opl_value.specs.declared.value.Value.TheVariants as values
use Rattle.opl_value.specs.Places.{value_at}
use Rattle.opl_eval.specs.declared.fault.EvalFault.TheVariants.{OutOfIndex}
use Rattle.opl_eval.specs.Evaluation.{Found}
use Rattle.opl_draft.specs.Drafts.{Cells, Leaves, are_different, leaf_values}
use Rattle.opl_held.specs.declared.outcome.Outcome.TheVariants.{Fixed, Live}
use Rattle.opl_held.specs.Keys.{is_fixed}
use Rattle.opl_held.specs.Outcomes.{Worth, value_of}
use Rattle.opl_held.specs.Worth.{are_live, drawn}

-- Whether the elements of an array differ.
abbrev pub differing : List ℤ → Option Cells → Worth
differing ns a = drawn a (Fixed (values.Bool (are_different [] ns a)))

-- What is drawn from elements.
abbrev pub drawn_from : Leaves → Value → Worth
drawn_from l v = cond (are_live l) (Live (Some v)) (Fixed v)

-- The element at a place, where a variable is left in the subscripts or not.
abbrev pub placed : List ℤ → ℕ → Leaves → Bool → Option ℕ → Found Worth
placed ns at l true None = Err (OutOfIndex at)
placed ns at l true (Some p) = Ok (drawn_from l (value_at (leaf_values [] ns l) p))
placed ns at l false None = Ok (Live None)
placed ns at l false (Some p) = Ok (Live (Some (value_at (leaf_values [] ns l) p)))

-- A subscript is defined.
abbrev pub is_defined : Worth → Bool
is_defined o = is_some (value_of o)

-- An element of what is no array.
abbrev pub no_element : List Worth → Worth
no_element os = cond (list_all is_fixed os) (Fixed (values.Int (pos 0))) (cond (list_all is_defined os) (Live (Some (values.Int (pos 0)))) (Live None))
