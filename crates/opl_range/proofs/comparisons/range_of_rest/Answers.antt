use Rattle.std.proofs.Common.{refl, sym, ap, ◌∙◌, pos}
use Rattle.opl_expr.specs.declared.forms.Expr.TheVariants as E
use Rattle.opl_expr.specs.Range.{ends}
use Rattle.opl_range.specs.Between.{term_of}
use Rattle.opl_range.proofs.Compare.{with_zero, rest_less_zero, ends_are}
use Rattle.opl_range.proofs.comparisons.range_of_rest.Goals as goal

pub with_variables-requires-clause-sound : goal.with_variables-requires-clause-sound
with_variables-requires-clause-sound g c = with_zero c.args.core.now c.args.e.now (E.Const (pos 0)) c.requires.sound refl

pub with_variables-requires-clause-rest : goal.with_variables-requires-clause-rest
with_variables-requires-clause-rest g c =
    rest_less_zero (g.V.View.family c.args.view.now) c.args.core.now c.args.e.now (E.Const (pos 0)) c.in_ok-beside.beside (sym (c.in_ok-beside.was) ∙ c.requires.beside) refl

pub returns : goal.returns
returns g c =
    ends_are (g.V.View.family c.args.view.now) c.args.core.now c.args.e.now (E.Const (pos 0)) c.in_ok-beside.beside c.with_variables.result refl c.with_variables.ensures
    ∙ ap (ends (g.V.View.family c.args.view.now) (term_of c.args.core.now c.args.e.now)) (sym (c.in_ok-beside.was))
