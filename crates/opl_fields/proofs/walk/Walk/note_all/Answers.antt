use Rattle.std.proofs.Common.{◌-◌, ◌∙◌, arith}
use Rattle.opl_fields.specs.Walk.{note}
use Rattle.opl_fields.proofs.Along.{all-noted, one-noted}
use Rattle.opl_fields.proofs.walk.Walk.note_all.Goals as goal

pub loop-name-preserved : goal.loop-name-preserved
loop-name-preserved c = record {
  left = omega (arith, c.loop-name.invariant.left, c.loop-name-test.true);
  noted = λ base s r h.
      one-noted c.args.decls.now base c.args.names.now c.loop-name.name-index c.loop-name.place (c.loop-name.place - 1) c.name-item.result s c.args.records.now c.loop-name.self c.note.new.self
      (omega (arith, c.loop-name.invariant.left, c.loop-name-test.true)) c.loop-name-test.true c.name-item.is r (c.loop-name.invariant.noted base s r h)
      (c.in_ok-note.ensures ∙ (λ j. note c.args.decls.now c.name-item.result.at (c.as_slice.ensures j) (c.record_at.ensures j) c.loop-name.self));
}

pub returns : goal.returns
returns c = λ base s r h. all-noted c.args.decls.now base c.args.names.now c.loop-name.name-index c.loop-name.place s c.loop-name.self c.loop-name-test.false c.loop-name.invariant.left (c.loop-name.invariant.noted base s r h)
