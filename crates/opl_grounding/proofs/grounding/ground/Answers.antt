use Rattle.std.proofs.Common.{map, ap, ◌∙◌}
use Rattle.opl_eval.specs.Visible.{seen}
use Rattle.opl_nodes.specs.Contexts.{cells}
use Rattle.opl_show.specs.Readings.{names_of}
use Rattle.opl_ground.proofs.Ground.{forms-made}
use Rattle.opl_ground.specs.Names.{variable_names}
use Rattle.opl_grounding.specs.Grounds.{core_over}
use Rattle.opl_grounding.proofs.grounding.ground.Goals as goal

pub returns-in-Ok : goal.returns-in-Ok
returns-in-Ok c = (
  (c.in-Ok.forms.goal, c.in-Ok.forms.cons),
  forms-made c.args.tree.now (seen c.args.environment.now) c.args.variables.now c.in-Ok.forms.goal c.in-Ok.forms.cons c.in-Ok.ensures.goal c.in-Ok.ensures.cons,
  c.in_ok-core-in-Ok.ensures ∙ (λ i. core_over (variable_names (names_of c.args.enumerations.now) c.args.variables.now) (c.in_ok-sets.ensures i) ((ap (map cells) c.as_slice-in-Ok.ensures ∙ c.in_ok-arrays.ensures) i) c.in-Ok.forms.goal c.in-Ok.forms.cons),
)
