use Rattle.std.proofs.Common.{Ok, [], arith, ◌∷◌}
use Rattle.opl_type_rules.specs.Expressions.{made, part}
use Rattle.opl_type_rules.specs.Scope.{and_then}
use Rattle.opl_type_rules.specs.Types.{is_number}
use Rattle.opl_type_rules.specs.Types.Sort.{int}
use Rattle.opl_type_rules.specs.Values.{node_of}
use Rattle.opl_type_rules.proofs.Chains.{gives-fault, gives-next}
use Rattle.opl_expression_types.proofs.Found.{checked_of}
use Rattle.opl_expression_types.proofs.parts.signed.Goals as goal

pub returns-in_err-part : goal.returns-in_err-part
returns-in_err-part c =
    let h = gives-fault node_of node_of (and_then (checked_of c.args.found) part) (λ n. Ok (made c.args.at int (n ∷ []) (is_number n.sort))) c.in_err-part.field-0.0 c.in_err-part.ensures in
    grind (arith)

pub returns : goal.returns
returns c =
    gives-next node_of node_of (and_then (checked_of c.args.found) part) (λ n. Ok (made c.args.at int (n ∷ []) (is_number n.sort))) c.in_ok-part.part c.number_of.result c.in_ok-part.ensures c.number_of.ensures
