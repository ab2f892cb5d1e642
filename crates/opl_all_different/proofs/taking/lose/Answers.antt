use Rattle.std.proofs.Common.{sym, ◌∙◌}
use Rattle.std.specs.Prelude.{FitsSigned}
use mir.Syntax.{w64}
use Rattle.std.proofs.lemmas.Int.{to_z-of_z}
use Rattle.opl_trace.proofs.Removals.{other_stays}
use Rattle.opl_all_different.proofs.Takings.{loses_none, loses_one}
use Rattle.opl_all_different.proofs.taking.lose.Goals as goal

pub returns-then-size-eq1-clause-loses : goal.returns-then-size-eq1-clause-loses
returns-then-size-eq1-clause-loses g c = loses_none (g.N.View.family c.args.n.now) c.args.x c.args.value (sym c.size.ensures ∙ c.if-size-eq1.true) c.requires.value

pub cut-requires-clause-stays : goal.cut-requires-clause-stays
cut-requires-clause-stays g c =
    let fits : FitsSigned w64 c.args.value = c.ranges.value in
    rw (to_z-of_z w64 c.args.value fits) (other_stays _ _ _ c.requires.sets c.requires.there c.requires.value (λ e. c.if-size-eq1.false (c.size.ensures ∙ e)))

pub returns-clause-loses : goal.returns-clause-loses
returns-clause-loses g c =
    let fits : FitsSigned w64 c.args.value = c.ranges.value in
    let cut = rw (to_z-of_z w64 c.args.value fits) at c.cut.ensures.cut in
    loses_one (g.N.View.family c.args.n.now) _ c.args.x c.args.value c.requires.sets c.requires.there c.requires.value (λ e. c.if-size-eq1.false (c.size.ensures ∙ e)) cut
