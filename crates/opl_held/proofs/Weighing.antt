-- The body of an aggregate weighs less than the aggregate.
use Rattle.std.proofs.Common.{◌≡◌, ◌+◌, ◌<◌, ℕ, List, map, Option, ap, ◌∙◌, arith}
use Rattle.std.specs.Option.{option_map}
use Rattle.opl_tree.specs.declared.expression.AggregateOp.{AggregateOp}
use Rattle.opl_term.specs.declared.term.GroupTerm.{GroupTerm}
use Rattle.opl_term.specs.declared.term.Term.{Term}
use Rattle.opl_term.specs.declared.term.Term.TheVariants as terms
use Rattle.opl_eval.specs.Weights.{group_weight, if_any, total, weight}
use Rattle.opl_eval.proofs.Weights.{weight-Aggregate}

pub aggregate-weighs : (t u v : Term) (at : ℕ) (op : AggregateOp) (gs : List GroupTerm) (c : Option Term) → t ≡ terms.Aggregate at op gs c u → v ≡ u → weight v + 12 < weight t + 3
aggregate-weighs t u v at op gs c h e =
    let whole : weight t ≡ total (map group_weight gs) + if_any (option_map weight c) + weight u + 20 = ap weight h ∙ weight-Aggregate at op gs c u in
    let body : weight v ≡ weight u = ap weight e in
    omega (arith, whole, body)
