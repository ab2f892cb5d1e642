use Rattle.opl_engine.proofs.Made.{base_made}
use Rattle.opl_engine.proofs.base.base_members.Goals as goal

pub returns : goal.returns
returns c =
    base_made c.args.core.now c.add_definedness.new.members c.place_notes.new.self c.wake_everybody.new.self c.requires.few c.in_ok-add_definedness.ensures c.in_ok-place_notes.ensures c.wake_everybody.ensures.variables c.wake_everybody.ensures.members c.wake_everybody.ensures.notes c.wake_everybody.ensures.woken
