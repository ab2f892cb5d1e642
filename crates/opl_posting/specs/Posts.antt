-- What a function answers that makes the constraints of items.
use Rattle.std.specs.Prelude.{◌≡◌, List, Result, Ok, Err}
use Rattle.opl_expr.specs.declared.forms.Cons.{Cons}
use Rattle.opl_form.specs.Nodes.{Made}
use Rattle.opl_nodes.specs.declared.fault.FormFault.{FormFault}
use Rattle.opl_nodes.specs.Pieces.{Refuses}

-- The constraints that are made, or why there are none.
abbrev pub Posts : Made (List Cons) → Result (List Cons) FormFault → Type 0
Posts made (Ok cs) = made ≡ Ok cs
Posts made (Err fault) = Refuses made fault
