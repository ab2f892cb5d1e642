use Rattle.std.proofs.Common.{subst}
use Rattle.opl_grammar.specs.Input.{Input, Reads}
use Rattle.opl_data.specs.Grammar.{whole}
use Rattle.opl_data.proofs.reader.read_data.Goals as goal

pub returns : goal.returns
returns c = record {
  rest = c.whole.new.cursor;
  reads = subst (λ (i : Input). Reads (whole i) c.whole.result c.whole.new.cursor) c.new-cursor.ensures c.whole.ensures;
}
