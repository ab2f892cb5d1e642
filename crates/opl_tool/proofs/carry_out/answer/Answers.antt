use Rattle.std.proofs.Common.{refl}
use Rattle.opl_words.specs.Requests.Asked.{help}
use Rattle.opl_tool.specs.Judged.{Answered}
use Rattle.opl_tool.proofs.EndsLemmas.{help-ended}
use Rattle.opl_tool.proofs.carry_out.answer.Goals as goal

pub returns-in-Generate-clause-ends : goal.returns-in-Generate-clause-ends
returns-in-Generate-clause-ends g c = rw c.in-Generate.is (c.summarize.ensures (g.F.Shelf.files c.args.shelf.now) (g.F.Shelf.read_faults c.args.shelf.now))

pub returns-in-Help-clause-ends : goal.returns-in-Help-clause-ends
returns-in-Help-clause-ends g c = rw c.in-Help.is (help-ended (λ files. Answered files help) (record {
  files = g.F.Shelf.files c.args.shelf.now;
  old = g.O.Sink.written c.args.out.now;
  new = g.O.Sink.written c.print_text.new.out;
  reads_before = g.F.Shelf.read_faults c.args.shelf.now;
  reads_now = g.F.Shelf.read_faults c.args.shelf.now;
  faults_before = g.O.Sink.faults c.args.out.now;
  faults_now = g.O.Sink.faults c.print_text.new.out;
}) (λ files. refl) refl _ (rw c.help_text.ensures at c.print_text.ensures.prints) c.print_text.ensures.answers)
