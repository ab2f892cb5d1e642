use Rattle.std.proofs.Common.{Ok, Err}
use Rattle.opl_eval.specs.Visible.{seen}
use Rattle.opl_grounding.proofs.Posting.{behind-refused, posts-behind}
use Rattle.opl_grounding.proofs.forms.forms_behind.Goals as goal

pub returns-in-Ok : goal.returns-in-Ok
returns-in-Ok c = record {
  goal = c.requires.aim.goal;
  cons =
      posts-behind c.args.tree.now (seen c.args.environment.now) c.args.declared.now c.args.aim c.requires.aim c.args.sets.now c.args.arrays.now (Ok c.in-Ok.cons)
      c.requires.sets c.requires.numbered c.requires.names c.in-Ok.ensures;
}

pub returns-in-Err : goal.returns-in-Err
returns-in-Err c =
    behind-refused c.args.tree.now (seen c.args.environment.now) c.args.declared.now c.args.aim c.requires.aim c.in-Err.fault
    (posts-behind c.args.tree.now (seen c.args.environment.now) c.args.declared.now c.args.aim c.requires.aim c.args.sets.now c.args.arrays.now (Err c.in-Err.fault)
    c.requires.sets c.requires.numbered c.requires.names c.in-Err.ensures)
