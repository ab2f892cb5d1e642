use Rattle.std.proofs.Common.{Ok, Err}
use Rattle.opl_eval.specs.Visible.{seen}
use Rattle.opl_grounding.proofs.Posting.{aims-named, goal-refused}
use Rattle.opl_grounding.proofs.forms.declared_forms.Goals as goal

pub forms_behind-requires-clause-aim : goal.forms_behind-requires-clause-aim
forms_behind-requires-clause-aim c = aims-named c.args.tree.now (seen c.args.environment.now) c.args.declared.now (Ok c.in-Ok.aim) c.requires.names c.in-Ok.ensures

pub returns-in-Err : goal.returns-in-Err
returns-in-Err c =
    goal-refused c.args.tree.now (seen c.args.environment.now) c.args.declared.now c.in-Err.fault
    (aims-named c.args.tree.now (seen c.args.environment.now) c.args.declared.now (Err c.in-Err.fault) c.requires.names c.in-Err.ensures)
