-- The signs of steps, as the program has them.
use Rattle.opl_draft.specs.Drafts as drafts
use Rattle.opl_draft.specs.Drafts.Sign.{plus, minus, times, quotient, remainder}
use Rattle.opl_held.specs.declared.sign.Sign.{Sign}
use Rattle.opl_held.specs.declared.sign.Sign.TheVariants.{Plus, Minus, Times, Quotient, Remainder}

-- The sign of a step.
abbrev pub sign : Sign → drafts.Sign
sign Plus = plus
sign Minus = minus
sign Times = times
sign Quotient = quotient
sign Remainder = remainder
