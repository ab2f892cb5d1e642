-- Whether the elements of an array differ.
use Rattle.std.specs.Prelude.{ℕ, cond, Err}
use Rattle.opl_eval.specs.declared.fault.EvalFault.TheVariants.{OutOfIndex}
use Rattle.opl_draft.specs.Drafts.{Leaves}
use Rattle.opl_form.specs.Parts as parts
use Rattle.opl_form.specs.Parts.{Form}
use Rattle.opl_form.specs.Nodes.{Made, all_differ, are_alike}
use Rattle.opl_form.specs.Nodes.Fault.{eval}
use Rattle.opl_nodes.specs.declared.context.Context.{Context}
use Rattle.opl_nodes.specs.Contexts.{arrays, sets}

-- The elements of an array differ; variables that are not alike have no form.
abbrev pub leaves_differ : Context → ℕ → ℕ → Leaves → Made Form
leaves_differ c at n ls = cond (are_alike (sets c) ls) (all_differ (sets c) (arrays c) c.item at n (parts.leaves ls)) (Err (eval (OutOfIndex at)))
