use Rattle.std.proofs.Common.{◌∙◌, sym, arith}
use Rattle.std.specs.Prelude.{FitsSigned}
use mir.Syntax.{w64}
use Rattle.std.proofs.lemmas.Int.{to_z-of_z}
use Rattle.opl_filter.proofs.Removals.{left_sets, left_below}
use Rattle.opl_closure.proofs.Values.{value_fails, value_keeps}
use Rattle.opl_closure.proofs.value.keep_value.Goals as goal

pub returns-then-not-has-clause-outcome : goal.returns-then-not-has-clause-outcome
returns-then-not-has-clause-outcome g c =
    let fits : FitsSigned w64 c.args.v = c.ranges.v in
    let e = rw (to_z-of_z w64 c.args.v fits) at c.has.ensures in
    value_fails (g.N.View.family c.args.n.now) c.args.x c.args.v c.requires (sym e ∙ c.if-not-has.true)

pub remove_above-requires-clause-sets : goal.remove_above-requires-clause-sets
remove_above-requires-clause-sets g c = left_sets _ _ _ c.vars-vars.ensures.sets c.remove_below.ensures.keeps.removals

pub remove_above-requires-clause-variable : goal.remove_above-requires-clause-variable
remove_above-requires-clause-variable g c =
    let b = left_below _ _ _ c.remove_below.ensures.keeps.removals in
    omega (arith, c.requires, b.same)

pub returns-clause-between : goal.returns-clause-between
returns-clause-between g c =
    let fits : FitsSigned w64 c.args.v = c.ranges.v in
    let a = rw (to_z-of_z w64 c.args.v fits) at c.remove_below.ensures.keeps in
    let b = rw (to_z-of_z w64 c.args.v fits) at c.remove_above.ensures.keeps in
    (value_keeps _ _ _ c.args.x c.args.v c.vars-vars.ensures.sets c.requires a b).0

pub returns-clause-outcome : goal.returns-clause-outcome
returns-clause-outcome g c =
    let fits : FitsSigned w64 c.args.v = c.ranges.v in
    let a = rw (to_z-of_z w64 c.args.v fits) at c.remove_below.ensures.keeps in
    let b = rw (to_z-of_z w64 c.args.v fits) at c.remove_above.ensures.keeps in
    (value_keeps _ _ _ c.args.x c.args.v c.vars-vars.ensures.sets c.requires a b).1
