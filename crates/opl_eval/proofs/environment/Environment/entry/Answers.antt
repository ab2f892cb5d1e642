use Rattle.std.proofs.Common.{ap, ◌∙◌}
use Rattle.opl_eval.specs.LatestPlaces.{entry_at}
use Rattle.opl_eval.proofs.Latest.{entry-placed}
use Rattle.opl_eval.proofs.environment.Environment.entry.Goals as goal

pub returns : goal.returns
returns c =
    c.entry_at.ensures ∙ ap (entry_at c.place_of.result) c.as_slice.ensures
    ∙ entry-placed c.args.self.now c.args.name.now _ (c.place_of.ensures ∙ c.args.self.now.are_placed c.args.name.now)
