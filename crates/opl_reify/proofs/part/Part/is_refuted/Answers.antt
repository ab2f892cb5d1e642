use Rattle.opl_reify.specs.Parts.{fact_in}
use Rattle.opl_reify.proofs.part.Part.is_refuted.Goals as goal

pub is_refuted-requires-clause-made : goal.is_refuted-requires-clause-made
is_refuted-requires-clause-made g c = c.requires.part.filter.comparison.difference.made

pub returns : goal.returns
returns g c = c.is_refuted.ensures (fact_in c.args.core.now c.args.self.now) c.requires.part.filter
