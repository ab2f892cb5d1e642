use Rattle.std.proofs.Common.{map, ap, ◌∙◌}
use Rattle.opl_type_rules.specs.Places.{thing_at, fields_at}
use Rattle.opl_type_rules.specs.Scope.{field_sort}
use Rattle.opl_type_rules.specs.Values.{field_of}
use Rattle.opl_type_rules.proofs.Places.{fields-placed}
use Rattle.opl_type_rules.proofs.names.Names.field.Goals as goal

pub returns : goal.returns
returns c =
    c.field_at.ensures
    ∙ ap (λ t. field_sort c.args.name.now (map field_of (fields_at c.args.number t))) (c.thing_at.ensures ∙ ap (thing_at c.place_of_struct-place.result) c.as_slice.ensures)
    ∙ ap (field_sort c.args.name.now) (fields-placed c.args.self.now c.args.number _ (c.place_of_struct-place.ensures ∙ c.args.self.now.are_numbered c.args.number))
