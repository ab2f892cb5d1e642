-- Sets, as lists of different values in order of first occurrence.
use Rattle.std.specs.Prelude.{List, [], ◌∷◌, ◌++◌, cond}
use Rattle.std.specs.List.{list_any}
use Rattle.opl_value.specs.declared.value.Value.{Value}
use Rattle.opl_value.specs.Order.{value_eq}

-- the values found, and behind them each of the others that does not stand before it
abbrev pub with_new : List Value → List Value → List Value
with_new found [] = found
with_new found (v ∷ vs) = with_new (cond (list_any (value_eq v) found) found (found ++ v ∷ [])) vs

-- the list without later copies
abbrev pub first_occurrences : List Value → List Value
first_occurrences vs = with_new [] vs
