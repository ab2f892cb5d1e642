use Rattle.std.proofs.Common.{rules}
use Rattle.std.specs.Prelude.{FitsSigned}
use mir.Syntax.{w64}
use Rattle.std.proofs.lemmas.Int.{to_z-of_z}
use Rattle.opl_closure.proofs.Values.{cuts_below}
use Rattle.opl_closure.proofs.value.remove_below.Goals as goal

pub cut-requires-clause-stays : goal.cut-requires-clause-stays
cut-requires-clause-stays g c =
    let lo : FitsSigned w64 c.min-least.result = search rules in
    let hi : FitsSigned w64 c.one_less-last.result = search rules in
    let fits : FitsSigned w64 c.args.v = c.ranges.v in
    let q = rw (to_z-of_z w64 c.args.v fits) at c.one_less-last.ensures in
    rw (to_z-of_z w64 c.min-least.result lo, to_z-of_z w64 c.one_less-last.result hi) (cuts_below (g.N.View.family c.args.n.now) c.args.x c.args.v c.min-least.result c.one_less-last.result c.requires.sets c.requires.variable c.requires.value c.min-least.ensures q).stays

pub returns-clause-keeps : goal.returns-clause-keeps
returns-clause-keeps g c =
    let lo : FitsSigned w64 c.min-least.result = search rules in
    let hi : FitsSigned w64 c.one_less-last.result = search rules in
    let fits : FitsSigned w64 c.args.v = c.ranges.v in
    let q = rw (to_z-of_z w64 c.args.v fits) at c.one_less-last.ensures in
    let e = rw (to_z-of_z w64 c.min-least.result lo, to_z-of_z w64 c.one_less-last.result hi) at c.cut.ensures.cut in
    rw e (cuts_below (g.N.View.family c.args.n.now) c.args.x c.args.v c.min-least.result c.one_less-last.result c.requires.sets c.requires.variable c.requires.value c.min-least.ensures q).keeps
