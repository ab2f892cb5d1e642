use Rattle.std.proofs.Common.{ap, ◌∙◌}
use Rattle.std.proofs.lemmas.List.{nil_from_length}
use Rattle.opl_bind.specs.Keys.{keys_over, under}
use Rattle.opl_bind.proofs.Keys.{under-all}
use Rattle.opl_bind.proofs.key_walk.Walk.enter.Goals as goal

pub returns-in-None-clause-keys : goal.returns-in-None-clause-keys
returns-in-None-clause-keys c =
    ap (λ sets. under c.args.self.now.turns.items (keys_over sets)) (nil_from_length c.args.sets.now c.in-None.ensures.cases)
    ∙ under-all c.args.self.now.turns.items
