use Rattle.opl_outside.proofs.Transfer.{wrote_more, wrote_rest, wrote_kept, puts_failed}
use Rattle.opl_outside.proofs.real.write_whole.Goals as goal

pub loop-rest-preserved : goal.loop-rest-preserved
loop-rest-preserved g c = wrote_rest _ _ _ _ _ c.in-Ok.taken c.loop-rest.invariant c.in-Ok.ensures.bytes

-- the writer took nothing
pub returns-in-Ok-eq0 : goal.returns-in-Ok-eq0
returns-in-Ok-eq0 g c = puts_failed _ _ _ _ (wrote_more _ _ _ _ _ c.in-Ok-eq0.field-0 c.loop-rest.invariant c.in-Ok-eq0.ensures.bytes)

-- the writer failed
pub returns-in-Err : goal.returns-in-Err
returns-in-Err g c = puts_failed _ _ _ _ (wrote_kept _ _ _ _ _ c.loop-rest.invariant c.in-Err.ensures.bytes)

-- its buffer could not be written out
pub returns-in-Err-flush : goal.returns-in-Err-flush
returns-in-Err-flush g c = puts_failed _ _ _ _ (wrote_kept _ _ _ _ _ c.loop-rest.invariant c.in-Err-flush.ensures.bytes)
