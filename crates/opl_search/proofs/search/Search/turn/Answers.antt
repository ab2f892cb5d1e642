use Rattle.std.proofs.Common.{◌∙◌, ap, sym}
use Rattle.opl_search.specs.Pending.{answer_of}
use Rattle.opl_search.proofs.search.Search.turn.Goals as goal

pub returns-in-Done-clause-goes : goal.returns-in-Done-clause-goes
returns-in-Done-clause-goes g c = let e = sym (ap answer_of c.in-Done.is) ∙ c.requires.none in cc
