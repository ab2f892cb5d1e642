-- Parts of sums, as the step of a chain answers them.
use Rattle.std.proofs.Common.{ℕ, Result, Ok, Err}
use Rattle.opl_form.specs.Nodes as nodes
use Rattle.opl_form.specs.Nodes.{Made}
use Rattle.opl_nodes.specs.declared.context.Context.{Context}
use Rattle.opl_nodes.specs.declared.fault.FormFault.{FormFault}
use Rattle.opl_nodes.specs.declared.parts.Parts.{Parts}
use Rattle.opl_numbers.specs.Numbers.{MakesParts}
use Rattle.opl_making.specs.Sites.{MakesSum}

pub of-parts : (c : Context) (n : ℕ) (m : Made nodes.Parts) (r : Result Parts FormFault) → MakesParts c n m r → MakesSum c n m r
of-parts c n m (Ok ps) h = record { sum = (h.first, h.others); is_made = h.is_made; are_forms = h.are_forms; before = h.before; are_parts = h.are_parts }
of-parts c n m (Err fault) h = h
