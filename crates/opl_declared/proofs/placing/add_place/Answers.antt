use Rattle.std.proofs.Common.{Some, cond, ap, ◌∙◌}
use Rattle.std.specs.HashMap.{get_by}
use Rattle.std.specs.Str.{bytes_eq}
use Rattle.std.proofs.lemmas.Map.Text.{hash_map_updates_str}
use Rattle.opl_meaning.proofs.Places.{bytes_eq-turn}
use Rattle.opl_declared.proofs.placing.add_place.Goals as goal

pub returns : goal.returns
returns c = λ other.
    hash_map_updates_str c.args.name.now c.args.places.now c.insert.new.self _ c.in_ok-insert.ensures.updates other
    ∙ ap (λ b. cond b (Some c.args.place) (get_by (λ k. bytes_eq other k.now) c.args.places.now)) (bytes_eq-turn c.args.name.now other)
