use Rattle.std.proofs.Common.{Ok, ap, sym, ◌∙◌}
use Rattle.opl_nodes.specs.Pieces.{forms}
use Rattle.opl_nodes.proofs.Pushes.{forms-push}
use Rattle.opl_making.proofs.parts.pushed.Goals as goal

pub returns : goal.returns
returns c k a p = record {
  are_forms = ap (λ gs. Ok gs) (sym (ap forms c.in_ok-push.ensures.items ∙ forms-push c.args.parts.items c.args.part));
  before = c.push.ensures.before;
  are_parts = c.in_ok-push.ensures.kept k a p;
}
