use Rattle.std.proofs.Common.{◌≡◌, ◌++◌, map, drop}
use Rattle.opl_given.specs.Readings.{texts_of}
use Rattle.opl_given.proofs.declare.copied_names.Given as goal

abbrev pub invariant-loop-text : goal.invariant-loop-text
invariant-loop-text l = texts_of l.names ≡ l.copies ++ map (λ t. t.now) (drop l.text-index l.names.texts)
