use Rattle.std.proofs.Common.{◌≡◌, map, subst}
use Rattle.std.specs.Prelude.{IfOk}
use Rattle.opl_nodes.specs.Pieces.{forms}
use Rattle.opl_numbers.specs.Numbers.{number_of}
use Rattle.opl_numbers.proofs.Rows.{each-number}
use Rattle.opl_numbers.proofs.row.numbers_of.Goals as goal

pub returns : goal.returns
returns c =
    subst (λ ps. IfOk c.each_number.result (λ ns. ns.items ≡ map number_of (forms ps))) c.as_slice.ensures
    (each-number (λ ns. ns.items) c.as_slice.result.now c.each_number.result c.each_number.ensures)
