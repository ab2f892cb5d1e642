use Rattle.std.proofs.Common.{Ok, [], arith, map, ◌++◌, ◌∷◌}
use Rattle.opl_type_rules.specs.Expressions.{part}
use Rattle.opl_type_rules.specs.Scope.{and_then}
use Rattle.opl_type_rules.specs.Values.{node_of}
use Rattle.opl_type_rules.proofs.Chains.{gives-fault}
use Rattle.opl_expression_types.proofs.Found.{checked_of, part_pushed}
use Rattle.opl_expression_types.proofs.parts.add_part.Goals as goal

pub returns-in_err-part : goal.returns-in_err-part
returns-in_err-part c =
    let h = gives-fault node_of (λ (u : Unit {0}). map node_of c.args.parts.now) (and_then (checked_of c.args.found) part) (λ n. Ok (map node_of c.args.parts.now ++ (n ∷ []))) c.in_err-part.field-0.0 c.in_err-part.ensures in
    grind (arith)

pub returns : goal.returns
returns c =
    part_pushed (and_then (checked_of c.args.found) part) c.args.parts.now c.push.new.self c.in_ok-part.part c.in_ok-part.ensures c.in_ok-push.ensures.ok
