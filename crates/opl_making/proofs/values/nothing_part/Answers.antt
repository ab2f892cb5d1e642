use Rattle.opl_making.proofs.values.nothing_part.Goals as goal

pub returns : goal.returns
returns c = c.value_node.ensures
