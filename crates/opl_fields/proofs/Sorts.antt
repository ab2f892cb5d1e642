-- The plain data of each type.
use Rattle.opl_type_rules.proofs.Sorts.{sort-Int, sort-Bool, sort-Enum, sort-Record, sort-Row, sort-Set, sort-EmptySet, sort-Array, sort-Act, sort-Unary, sort-Discrete, sort-Index, sort-Structure, sort-Any}

-- each of these
pub ruleset sorts = (sort-Int, sort-Bool, sort-Enum, sort-Record, sort-Row, sort-Set, sort-EmptySet, sort-Array, sort-Act, sort-Unary, sort-Discrete, sort-Index, sort-Structure, sort-Any)
