use Rattle.std.proofs.Common.{◌≡◌, drop}
use Rattle.opl_token.specs.Longest.{block_len}
use Rattle.opl_token.proofs.Comments.{block_from}
use Rattle.opl_token.proofs.scanner.block_len.Given as goal

abbrev pub invariant-loop-at : goal.invariant-loop-at
invariant-loop-at l = block_from l.at (drop l.at l.bytes) ≡ block_len l.bytes
