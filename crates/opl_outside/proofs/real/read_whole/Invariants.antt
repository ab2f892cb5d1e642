use Rattle.std.proofs.Common.{◌+◌, ◌-◌, vec_len}
use Rattle.std.specs.Io.KnownBytes.{Consumes}
use Rattle.opl_outside.specs.Files.{max_bytes}
use Rattle.opl_outside.proofs.real.read_whole.Given as goal

abbrev pub invariant-loop-file : goal.invariant-loop-file
invariant-loop-file g l = Consumes (g.F.Read.remaining l.initial.file) (g.F.Read.remaining l.file) l.bytes.items

abbrev pub decreases-loop-file : goal.decreases-loop-file
decreases-loop-file g l = max_bytes + 1 - vec_len l.bytes
