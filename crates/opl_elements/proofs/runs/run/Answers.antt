use Rattle.std.proofs.Common.{◌≡◌, ◌+◌, ◌++◌, ◌∷◌, [], sym, ap, ◌∙◌, arith}
use Rattle.opl_expr.specs.declared.forms.Expr.TheVariants as E
use Rattle.opl_elements.specs.Runs as spec
use Rattle.opl_elements.proofs.Successive.{run-push}
use Rattle.opl_elements.proofs.runs.run.Goals as goal

pub loop-place-preserved : goal.loop-place-preserved
loop-place-preserved c =
    c.in_ok-push.ensures.ok ∙ ap (λ es. es ++ E.Var (c.args.first + c.loop-place.place) ∷ []) c.loop-place.invariant ∙ sym (run-push c.args.first c.loop-place.place)

pub returns : goal.returns
returns c =
    let end : c.loop-place.place ≡ c.args.count = omega (arith, c.loop-place-test.false, c.loop-place.auto.place-end) in
    c.loop-place.invariant ∙ ap (spec.run c.args.first) end
