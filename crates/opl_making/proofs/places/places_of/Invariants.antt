use Rattle.std.proofs.Common.{take}
use Rattle.opl_eval.specs.Evaluation.{Environment}
use Rattle.opl_declared.specs.Kept.{names_in}
use Rattle.opl_making.specs.Places.{AreAt, term_drafts}
use Rattle.opl_making.proofs.places.places_of.Given as goal

abbrev pub invariant-loop-term : goal.invariant-loop-term
invariant-loop-term l = (env : Environment) → AreAt (term_drafts l.declared.items.now (names_in l.declared) env (take l.term-index l.terms)) l.places.items
