use Rattle.std.proofs.Common.{sym, ◌∙◌}
use Rattle.opl_nodes.specs.Pieces.{form}
use Rattle.opl_numbers.specs.Numbers.{number_of}
use Rattle.opl_numbers.proofs.Small.{negative-small}
use Rattle.opl_numbers.proofs.singles.negated.Goals as goal

pub evaluated-requires : goal.evaluated-requires
evaluated-requires c n e = negative-small c.args.at (number_of (form c.args.part)) n (sym c.opposite-found.ensures ∙ e)
