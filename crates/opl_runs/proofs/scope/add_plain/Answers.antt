use Rattle.std.proofs.Common.{Some, cond, ap, ◌∙◌}
use Rattle.std.specs.HashMap.{get_by}
use Rattle.std.specs.Str.{bytes_eq}
use Rattle.std.proofs.lemmas.Map.Text.{hash_map_updates_str}
use Rattle.opl_meaning.proofs.Places.{bytes_eq-turn}
use Rattle.opl_runs.proofs.scope.add_plain.Goals as goal

pub returns : goal.returns
returns c = λ other.
    hash_map_updates_str c.args.name.now c.args.plain.now c.insert.new.self _ c.in_ok-insert.ensures.updates other
    ∙ ap (λ b. cond b (Some c.args.is_plain) (get_by (λ k. bytes_eq other k.now) c.args.plain.now)) (bytes_eq-turn c.args.name.now other)
