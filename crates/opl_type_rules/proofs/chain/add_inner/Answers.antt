use Rattle.std.proofs.Common.{◌≡◌, ◌++◌, ◌∙◌, ap}
use Rattle.std.specs.List.{remove}
use Rattle.opl_type_rules.specs.Steps.{firsts, others}
use Rattle.opl_type_rules.proofs.Links.{first-of, others-of}
use Rattle.opl_type_rules.proofs.chain.add_inner.Goals as goal

pub returns : goal.returns
returns c = (
  c.in_ok-push.ensures.ok ∙ ap (λ xs. c.args.before.now ++ xs) (first-of c.args.inner c.remove.result c.if-is_empty.ensures.1 (cc (c.remove.ensures.value, c.into_vec-types.ensures))),
  cc (c.in_ok-append.ensures, c.from_vec.ensures, c.remove.ensures.items, c.into_vec-types.ensures, others-of c.args.inner c.if-is_empty.ensures.1),
)
