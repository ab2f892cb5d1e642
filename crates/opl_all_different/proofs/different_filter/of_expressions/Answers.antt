use Rattle.std.proofs.Common.{subst, ◌∙◌}
use Rattle.opl_all_different.specs.Reading.{AreReadAs}
use Rattle.opl_all_different.proofs.Made.{made_for_parts}
use Rattle.opl_all_different.proofs.different_filter.of_expressions.Goals as goal

pub returns-in_ok-done-in-Some : goal.returns-in_ok-done-in-Some
returns-in_ok-done-in-Some c =
    made_for_parts c.args.core.now c.args.es.now (record { parts = c.in-Some.parts; done = c.in_ok-done-in-Some.done }) c.requires
    (subst (AreReadAs c.args.core.now c.args.es.now) c.in-Some.is c.in_ok-parts_of.ensures) (c.in_ok-done-in-Some.ensures ∙ c.len-in-Some.ensures)
