use Rattle.std.proofs.Common.{◌≡◌, map, drop}
use Rattle.opl_meaning.specs.Runs.{decl_unrun, first_of}
use Rattle.opl_runs.proofs.runs.decls.Given as goal

abbrev pub invariant-loop-part : goal.invariant-loop-part
invariant-loop-part l = first_of (map decl_unrun l.parts) ≡ first_of (map decl_unrun (drop l.part-index l.parts))
