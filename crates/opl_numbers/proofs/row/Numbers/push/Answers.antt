use Rattle.std.proofs.Common.{◌≡◌, ◌++◌, ◌∷◌, [], ap, ◌∙◌}
use Rattle.opl_numbers.specs.declared.row.Numbers.{Numbers}
use Rattle.opl_numbers.proofs.Rows.{numbers-push}
use Rattle.opl_numbers.proofs.row.Numbers.push.Goals as goal

pub returns : goal.returns
returns c k es h m =
    let old = c.args.self.now in
    let new : Numbers = record { exprs = c.push.new.self; total = c.saturating_add-self.result; greatest = c.larger-self.result; depth = c.deeper-self.result; nodes = c.in-Some.nodes } in
    let exprs : c.push.new.self ≡ old.exprs ++ c.args.number.expr ∷ [] = c.in_ok-push.ensures.ok ∙ ap (λ e. old.exprs ++ e ∷ []) c.into_inner.ensures in
    numbers-push k es old new c.args.number exprs c.saturating_add-self.ensures c.larger-self.ensures c.deeper-self.ensures c.in-Some.ensures.1 h m
