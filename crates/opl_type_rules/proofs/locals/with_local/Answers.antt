use Rattle.std.proofs.Common.{[], ap, sym, ◌∷◌, ◌++◌, ◌∙◌}
use Rattle.opl_type_rules.proofs.NamePlaces.{names-added}
use Rattle.opl_type_rules.proofs.locals.with_local.Goals as goal

pub invariant_of-result : goal.invariant_of-result
invariant_of-result c =
    c.in_ok-add.ensures
    ∙ ap (λ n. c.before-2.inside.index ++ n ∷ []) (sym c.in_ok-name.ensures)
    ∙ names-added c.before-2.inside.items c.push.new.self (record { name = c.in_ok-name.name; ty = c.args.ty }) c.before-2.inside.index c.before-2.invariant c.in_ok-push.ensures.ok
