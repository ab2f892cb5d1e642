use Rattle.opl_form.specs.Parts.{Form}
use Rattle.opl_making.specs.Sites.{draft, maker}
use Rattle.opl_making.proofs.Forms as by
use Rattle.opl_making.proofs.Next.{refused}
use Rattle.opl_posting.proofs.aiming.operand_form.Goals as goal

pub returns-in-Ok : goal.returns-in-Ok
returns-in-Ok c = by.operand-part c.args.site 0 c.args.at (draft c.args.site c.args.scope c.args.term.now) c.in-Ok.part c.operand.result c.requires.at c.in-Ok.ensures c.operand.ensures

pub returns-in-Err : goal.returns-in-Err
returns-in-Err c = refused Form Form (maker c.args.site 0 (draft c.args.site c.args.scope c.args.term.now)) _ c.in-Err.fault c.in-Err.ensures
