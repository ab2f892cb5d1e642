use Rattle.std.proofs.Common.{rules, ◌∙◌, refl, sym}
use Rattle.std.specs.Prelude.{FitsSigned}
use mir.Syntax.{w128}
use Rattle.std.proofs.lemmas.Int.{to_z-of_z}
use Rattle.opl_objective_filter.proofs.Bounds.{filter_made}
use Rattle.opl_objective_filter.proofs.objective_filter.ObjectiveFilter.new.Goals as goal

pub returns : goal.returns
returns c =
    let k : FitsSigned w128 c.constant_part.result = search rules in
    simp to_z-of_z (filter_made c.args.core.now c.args.goal.now
    (record { maximize = c.args.goal.now.maximize; parts = c.in_ok-parts.parts; opposites = c.in_ok-parts.opposites; constant = c.constant_part.result })
    c.requires (sym c.is_linear.ensures ∙ c.if-not-is_linear.false) refl c.in_ok-parts.ensures c.constant_part.ensures)
