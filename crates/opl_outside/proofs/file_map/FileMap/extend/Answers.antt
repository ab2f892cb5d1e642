use Rattle.std.proofs.Common.{◌≡◌, Some, rules}
use Rattle.opl_outside.specs.Held.{held}
use Rattle.opl_outside.specs.Files.{Sets}
use Rattle.opl_outside.proofs.HeldLemmas.{held_sets, sets_longer, sets_kept}
use Rattle.opl_outside.proofs.file_map.FileMap.extend.Goals as goal

-- what is written through the borrow is the file's
file_sets : (c : goal.After-self-in-Some-1) → Sets (held c.args.self.now) (held (record { files = c.get_mut.follows.lender c.extend_from_slice.new.self })) c.args.name.now c.extend_from_slice.new.self.items
file_sets c = held_sets c.args.self.now (record { files = c.get_mut.follows.lender c.extend_from_slice.new.self }) _ _ ((c.get_mut.follows.holds c.extend_from_slice.new.self).3 (search rules))

-- the file that is borrowed
file_had : (c : goal.After-self-in-Some-1) → held c.args.self.now c.args.name.now ≡ Some c.in-Some.file.now.items
unfolding held
file_had c = search rules

pub returns-in-Some-clause-ok : goal.returns-in-Some-clause-ok
returns-in-Some-clause-ok c = sets_longer _ _ _ _ _ (file_sets c) (file_had c) c.extend_from_slice.result c.args.bytes.now c.extend_from_slice.ensures.items

pub returns-in-Some-clause-err : goal.returns-in-Some-clause-err
returns-in-Some-clause-err c = sets_kept _ _ _ _ _ (file_sets c) (file_had c) c.extend_from_slice.result c.args.bytes.now c.extend_from_slice.ensures.items
