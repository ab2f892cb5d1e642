use Rattle.std.proofs.Common.{sym, ap, ◌∙◌, arith}
use Rattle.std.proofs.lemmas.Int.{ints}
use Rattle.opl_form.specs.Parts.{all_alike}
use Rattle.opl_elements.specs.Sorts.{sort}
use Rattle.opl_elements.proofs.Dimensional.{between-alike, between-none}
use Rattle.opl_elements.proofs.dimensions.are_numbers_of_sort.Goals as goal

pub returns-then-high-low : goal.returns-then-high-low
returns-then-high-low c = sym (ap (all_alike (sort c.args.sort)) (between-none c.args.low c.args.high (omega (arith, ints, c.if-high-low.true))))

pub returns : goal.returns
returns c = c.are_alike.ensures ∙ sym (between-alike (sort c.args.sort) c.args.low c.args.high (omega (arith, ints, c.if-high-low.false)))
