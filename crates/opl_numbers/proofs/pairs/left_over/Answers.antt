use Rattle.std.proofs.Common.{sym, ◌∙◌}
use Rattle.opl_nodes.specs.Pieces.{form}
use Rattle.opl_numbers.specs.Numbers.{number_of}
use Rattle.opl_numbers.proofs.Small.{remainder-small}
use Rattle.opl_numbers.proofs.pairs.left_over.Goals as goal

pub evaluated-requires : goal.evaluated-requires
evaluated-requires c n e = remainder-small c.args.at (number_of (form c.args.left)) (number_of (form c.args.right)) n (sym c.remainder_of-found.ensures ∙ e)
