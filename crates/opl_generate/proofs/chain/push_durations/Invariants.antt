use Rattle.std.proofs.Common.{◌≡◌, ◌-◌, ◌++◌}
use Rattle.opl_generate.specs.Texts.{durations, listed}
use Rattle.opl_generate.proofs.Listed.{drawn, still}
use Rattle.opl_generate.proofs.chain.push_durations.Given as goal

abbrev pub invariant-loop-number : goal.invariant-loop-number
invariant-loop-number l = l.text.items ++ still l.number (drawn (l.size - l.number) l.source) ≡ l.fn.text.items ++ listed (durations l.size l.seed)
