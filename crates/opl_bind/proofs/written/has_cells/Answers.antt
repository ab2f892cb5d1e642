use Rattle.std.proofs.Common.{arith}
use Rattle.opl_bind.proofs.WrittenLayers.{cells_had}
use Rattle.opl_bind.proofs.written.has_cells.Goals as goal

pub returns-in-Number : goal.returns-in-Number
returns-in-Number c = grind (arith, cells_had)

pub returns-in-Named : goal.returns-in-Named
returns-in-Named c = grind (arith, cells_had)

pub returns-in-Bracket : goal.returns-in-Bracket
returns-in-Bracket c = grind (arith, cells_had)

pub returns-in-Negative : goal.returns-in-Negative
returns-in-Negative c = grind (arith, cells_had)

pub returns-in-Chain : goal.returns-in-Chain
returns-in-Chain c = grind (arith, cells_had)

pub returns-in-Related : goal.returns-in-Related
returns-in-Related c = grind (arith, cells_had)

pub returns-in-Member : goal.returns-in-Member
returns-in-Member c = grind (arith, cells_had)

pub returns-in-Equivalent : goal.returns-in-Equivalent
returns-in-Equivalent c = grind (arith, cells_had)

pub returns-in-Implied : goal.returns-in-Implied
returns-in-Implied c = grind (arith, cells_had)

pub returns-in-Or : goal.returns-in-Or
returns-in-Or c = grind (arith, cells_had)

pub returns-in-And : goal.returns-in-And
returns-in-And c = grind (arith, cells_had)

pub returns-in-Not : goal.returns-in-Not
returns-in-Not c = grind (arith, cells_had)

pub returns-in-Aggregate : goal.returns-in-Aggregate
returns-in-Aggregate c = grind (arith, cells_had)

pub returns-in-Call : goal.returns-in-Call
returns-in-Call c = grind (arith, cells_had)

pub returns-in-AllDifferent : goal.returns-in-AllDifferent
returns-in-AllDifferent c = grind (arith, cells_had)

pub returns-in-Question : goal.returns-in-Question
returns-in-Question c = grind (arith, cells_had)

pub returns-in-Element : goal.returns-in-Element
returns-in-Element c = grind (arith, cells_had)

pub returns-in-Fields : goal.returns-in-Fields
returns-in-Fields c = grind (arith, cells_had)

pub returns-in-Record : goal.returns-in-Record
returns-in-Record c = grind (arith, cells_had)

pub returns-in-Listed : goal.returns-in-Listed
returns-in-Listed c = grind (arith, cells_had)

pub returns-in-Described : goal.returns-in-Described
returns-in-Described c = grind (arith, cells_had)

pub returns-in-Array : goal.returns-in-Array
returns-in-Array c = grind (arith, cells_had)

pub returns-in-KeyedArray : goal.returns-in-KeyedArray
returns-in-KeyedArray c = grind (arith, cells_had)
