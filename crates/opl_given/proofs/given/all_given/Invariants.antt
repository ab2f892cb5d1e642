use Rattle.std.proofs.Common.{◌≡◌, ◌+◌, drop}
use Rattle.opl_given.specs.Given as spec
use Rattle.opl_given.specs.Readings.{given_of, texts_of}
use Rattle.opl_given.proofs.given.all_given.Given as goal

abbrev pub invariant-loop-file : goal.invariant-loop-file
invariant-loop-file l =
    spec.all_given l.ts l.files
    ≡ spec.give_files (texts_of l.awaiting) (l.number + 1) (given_of l.given) (drop l.file-index l.files)
