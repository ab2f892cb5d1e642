use Rattle.opl_declared.specs.Kept.{names_in}
use Rattle.opl_meaning.proofs.Named.{described-is}
use Rattle.opl_declared.proofs.mention.+mentions.Goals as goal

pub is_mentioned-returns-in-Described : goal.is_mentioned-returns-in-Described
is_mentioned-returns-in-Described t c =
    described-is (names_in c.args.declared.now) c.args.term.now c.in-Described.field-0 c.in-Described.body c.get-in-Described.result.now
    c.in-Described.groups c.as_slice-in-Described.result.now c.in-Described.condition
    c.in_groups-by_groups.result c.in_condition-by_condition.result c.is_mentioned-in-Described.result c.one_of.result
    c.in-Described.is c.as_slice-in-Described.ensures c.get-in-Described.ensures
    c.in_groups-by_groups.ensures c.in_condition-by_condition.ensures c.is_mentioned-in-Described.ensures c.one_of.ensures
