use Rattle.std.proofs.Common.{arith}
use Rattle.opl_bind.proofs.WrittenLayers.{first_tokens}
use Rattle.opl_bind.proofs.fitted.first_token.Goals as goal

pub returns-in-Number : goal.returns-in-Number
returns-in-Number c = grind (arith, first_tokens)

pub returns-in-Named : goal.returns-in-Named
returns-in-Named c = grind (arith, first_tokens)

pub returns-in-Bracket : goal.returns-in-Bracket
returns-in-Bracket c = grind (arith, first_tokens)

pub returns-in-Negative : goal.returns-in-Negative
returns-in-Negative c = grind (arith, first_tokens)

pub returns-in-Chain : goal.returns-in-Chain
returns-in-Chain c = grind (arith, first_tokens)

pub returns-in-Related : goal.returns-in-Related
returns-in-Related c = grind (arith, first_tokens)

pub returns-in-Member : goal.returns-in-Member
returns-in-Member c = grind (arith, first_tokens)

pub returns-in-Equivalent : goal.returns-in-Equivalent
returns-in-Equivalent c = grind (arith, first_tokens)

pub returns-in-Implied : goal.returns-in-Implied
returns-in-Implied c = grind (arith, first_tokens)

pub returns-in-Or : goal.returns-in-Or
returns-in-Or c = grind (arith, first_tokens)

pub returns-in-And : goal.returns-in-And
returns-in-And c = grind (arith, first_tokens)

pub returns-in-Not : goal.returns-in-Not
returns-in-Not c = grind (arith, first_tokens)

pub returns-in-Aggregate : goal.returns-in-Aggregate
returns-in-Aggregate c = grind (arith, first_tokens)

pub returns-in-Call : goal.returns-in-Call
returns-in-Call c = grind (arith, first_tokens)

pub returns-in-AllDifferent : goal.returns-in-AllDifferent
returns-in-AllDifferent c = grind (arith, first_tokens)

pub returns-in-Question : goal.returns-in-Question
returns-in-Question c = grind (arith, first_tokens)

pub returns-in-Element : goal.returns-in-Element
returns-in-Element c = grind (arith, first_tokens)

pub returns-in-Fields : goal.returns-in-Fields
returns-in-Fields c = grind (arith, first_tokens)

pub returns-in-Record : goal.returns-in-Record
returns-in-Record c = grind (arith, first_tokens)

pub returns-in-Listed : goal.returns-in-Listed
returns-in-Listed c = grind (arith, first_tokens)

pub returns-in-Described : goal.returns-in-Described
returns-in-Described c = grind (arith, first_tokens)

pub returns-in-Array : goal.returns-in-Array
returns-in-Array c = grind (arith, first_tokens)

pub returns-in-KeyedArray : goal.returns-in-KeyedArray
returns-in-KeyedArray c = grind (arith, first_tokens)
