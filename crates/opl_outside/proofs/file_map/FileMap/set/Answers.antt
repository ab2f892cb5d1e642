use Rattle.opl_outside.proofs.HeldLemmas.{held_sets, sets_as}
use Rattle.opl_outside.proofs.file_map.FileMap.set.Goals as goal

pub returns-clause-ok : goal.returns-clause-ok
returns-clause-ok c =
    let sets = held_sets c.args.self.now (record { files = c.insert.new.self }) _ _ c.in_ok-insert.ensures.updates in
    sets_as _ _ _ _ _ _ sets c.in_ok-name.ensures.ok c.in_ok-bytes.ensures.items
