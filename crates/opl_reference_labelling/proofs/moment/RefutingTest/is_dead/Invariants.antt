use Rattle.std.proofs.Common.{◌≡◌, false, take}
use Rattle.std.specs.List.{list_any}
use Rattle.opl_expr.specs.Range.{is_refuted}
use Rattle.opl_trace.specs.SoundCores.{facts_in}
use Rattle.opl_reference_labelling.proofs.moment.RefutingTest.is_dead.Given as goal

abbrev pub invariant-loop-c : goal.invariant-loop-c
invariant-loop-c g l = list_any (is_refuted (g.V.View.family l.view)) (facts_in l.self.core.now (take l.c-index l.self.members.now)) ≡ false
