use Rattle.std.proofs.Common.{Some, [], cond, ap, ◌∷◌, ◌++◌, ◌∙◌}
use Rattle.std.specs.HashMap.{get_by}
use Rattle.std.specs.Prelude.{bytes_eq}
use Rattle.opl_type_rules.proofs.NamePlaces.{places-kept}
use Rattle.opl_type_rules.proofs.index.with_last.Goals as goal

pub invariant_of-result : goal.invariant_of-result
invariant_of-result c = λ name.
    places-kept c.before-2.inside.places c.keep_place.new.places c.before-2.inside.names c.push.new.self c.args.name.now name (c.before-2.invariant name)
    (c.in_ok-keep_place.ensures name
    ∙ ap (λ k. cond (bytes_eq name k) (Some c.len-place.result) (get_by (λ q. bytes_eq name q.items) c.before-2.inside.places)) c.in_ok-from_slice.ensures.items
    ∙ ap (λ l. cond (bytes_eq name c.args.name.now) (Some l) (get_by (λ q. bytes_eq name q.items) c.before-2.inside.places)) c.len-place.ensures)
    (c.in_ok-push.ensures.ok ∙ ap (λ n. c.before-2.inside.names ++ n ∷ []) c.in_ok-from_slice-2.ensures)
