use Rattle.std.proofs.Common.{[], ap, map, sym, ◌∷◌, ◌++◌, ◌∙◌}
use Rattle.opl_type_rules.specs.Scope.{field_sort}
use Rattle.opl_type_rules.specs.Values.{field_of}
use Rattle.opl_type_rules.proofs.FieldPlaces.{field-added}
use Rattle.opl_type_rules.proofs.fields.with_field.Goals as goal

pub invariant_of-result : goal.invariant_of-result
invariant_of-result c =
    field-added c.before-2.inside.items c.push.new.self (record { name = c.in_ok-name.name; ty = c.args.ty }) c.before-2.inside.index c.add.new.self c.before-2.invariant
    (ap (λ n. field_sort n (map field_of c.before-2.inside.items)) c.in_ok-name.ensures ∙ ap (λ fs. field_sort c.args.name.now (map field_of fs)) c.before-2.view_is ∙ c.requires)
    c.in_ok-push.ensures.ok
    (c.in_ok-add.ensures ∙ ap (λ n. c.before-2.inside.index ++ n ∷ []) (sym c.in_ok-name.ensures))
