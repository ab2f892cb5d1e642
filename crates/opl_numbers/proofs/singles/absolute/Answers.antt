use Rattle.std.proofs.Common.{sym, ◌∙◌}
use Rattle.opl_nodes.specs.Pieces.{form}
use Rattle.opl_numbers.specs.Numbers.{number_of}
use Rattle.opl_numbers.proofs.Small.{absolute-small}
use Rattle.opl_numbers.proofs.singles.absolute.Goals as goal

pub evaluated-requires : goal.evaluated-requires
evaluated-requires c n e = absolute-small c.args.at (number_of (form c.args.part)) n (sym c.unsigned-found.ensures ∙ e)
