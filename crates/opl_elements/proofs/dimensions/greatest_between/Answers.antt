use Rattle.std.proofs.Common.{max, unsigned_abs, sym, ap, ◌∙◌, arith}
use Rattle.std.proofs.lemmas.Int.{ints, to_z-of_z}
use Rattle.std.specs.Int.{w128}
use Rattle.opl_expr.specs.Sound.{greatest_abs}
use Rattle.opl_form.specs.Parts.{indices_of}
use Rattle.opl_elements.proofs.Dimensional.{between-greatest, between-none}
use Rattle.opl_elements.proofs.dimensions.greatest_between.Goals as goal

pub returns-then-high-low-clause-size : goal.returns-then-high-low-clause-size
returns-then-high-low-clause-size c = sym (ap (λ d. greatest_abs (indices_of d)) (between-none c.args.low c.args.high (omega (arith, ints, c.if-high-low.true))))

pub returns-clause-size : goal.returns-clause-size
returns-clause-size c =
    c.larger.ensures
    ∙ (λ i. max ((c.unsigned_abs.ensures.value ∙ ap unsigned_abs (to_z-of_z w128 c.args.low c.ranges.low)) i) ((c.unsigned_abs-2.ensures.value ∙ ap unsigned_abs (to_z-of_z w128 c.args.high c.ranges.high)) i))
    ∙ sym (between-greatest c.args.low c.args.high (omega (arith, ints, c.if-high-low.false)))
