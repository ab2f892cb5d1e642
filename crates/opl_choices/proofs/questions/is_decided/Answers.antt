use Rattle.std.proofs.Common.{sym, ap, ◌∙◌, ◌||◌}
use Rattle.opl_choices.proofs.Asked.{decided_is}
use Rattle.opl_choices.proofs.questions.is_decided.Goals as goal

pub returns-then-never : goal.returns-then-never
returns-then-never g c =
    let b = c.is_some_point-always.result in
    c.if-never.true ∙ sym (ap (λ a. a || b) c.if-never.true)
    ∙ decided_is _ _ _ _ _ _ c.cons_range.ensures c.is_some_point-never.ensures c.cons_range-2.ensures c.is_some_point-always.ensures

pub returns-else-never : goal.returns-else-never
returns-else-never g c =
    let b = c.is_some_point-always.result in
    sym (ap (λ a. a || b) c.if-never.false)
    ∙ decided_is _ _ _ _ _ _ c.cons_range.ensures c.is_some_point-never.ensures c.cons_range-2.ensures c.is_some_point-always.ensures
