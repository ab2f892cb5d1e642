use Rattle.std.proofs.Common.{◌∙◌}
use Rattle.opl_meaning.proofs.VariableNames.{kind_named}
use Rattle.opl_meaning.proofs.ends.named_kind.Goals as goal

pub returns-in-Ok : goal.returns-in-Ok
returns-in-Ok c =
    c.value_kind.ensures
    ∙ kind_named c.args.environment.now c.args.name.now.at c.args.name.now.text c.in_ok-set.set c.in-Ok.value c.in-Ok.declaration c.in_ok-set.ensures c.in-Ok.ensures.value c.in-Ok.ensures.declaration
