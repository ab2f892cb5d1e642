use Rattle.std.proofs.Common.{Ok, [], arith, map, ◌∷◌}
use Rattle.opl_type_rules.specs.Expressions.{part}
use Rattle.opl_type_rules.specs.Values.{node_of}
use Rattle.opl_type_rules.proofs.Chains.{gives-fault, gives-next}
use Rattle.opl_expression_types.proofs.parts.first_part.Goals as goal

pub returns-in_err-part : goal.returns-in_err-part
returns-in_err-part c =
    let h = gives-fault node_of (map node_of) (part (node_of c.args.first)) (λ n. Ok (n ∷ [])) c.in_err-part.field-0.0 c.in_err-part.ensures in
    grind (arith)

pub returns : goal.returns
returns c =
    gives-next node_of (map node_of) (part (node_of c.args.first)) (λ n. Ok (n ∷ [])) c.in_ok-part.part c.one.result c.in_ok-part.ensures c.one.ensures
