use Rattle.std.proofs.Common.{subst}
use Rattle.opl_grammar.specs.Input.{Input, Reads}
use Rattle.opl_grammar.specs.Model.{whole}
use Rattle.opl_grammar_model.proofs.model.read_model.Goals as goal

pub returns : goal.returns
returns c = record {
  rest = c.whole.new.cursor;
  reads = subst (λ (i : Input). Reads (whole i) c.whole.result c.whole.new.cursor) c.new-cursor.ensures c.whole.ensures;
}
