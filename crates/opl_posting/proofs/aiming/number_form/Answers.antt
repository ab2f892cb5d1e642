use Rattle.opl_form.specs.Made.{place}
use Rattle.opl_form.specs.Nodes.{next, number_part}
use Rattle.opl_form.specs.Parts.{Form}
use Rattle.opl_nodes.specs.Contexts.{arrays, sets}
use Rattle.opl_making.specs.Sites.{draft, operand_maker}
use Rattle.opl_making.proofs.Next.{makes-same, part-made, refused}
use Rattle.opl_optimum.specs.Goals.{number_of}
use Rattle.opl_posting.proofs.Objectives.{number-at}
use Rattle.opl_posting.proofs.aiming.number_form.Goals as goal

pub returns-in-Ok : goal.returns-in-Ok
returns-in-Ok c =
    let k = c.args.site.context.now in
    let d = draft c.args.site c.args.scope c.args.term.now in
    makes-same k (next (operand_maker c.args.site 0 d) (λ g. number_part (sets k) (arrays k) k.item c.args.at 0 g)) (number_of (sets k) (arrays k) k.item d) c.number_part.result
    (number-at (sets k) (arrays k) k.item c.args.at d c.requires.at)
    (part-made k (operand_maker c.args.site 0 d) (λ g. number_part (sets k) (arrays k) k.item c.args.at 0 g) c.in-Ok.part c.number_part.result c.in-Ok.ensures c.number_part.ensures)

pub returns-in-Err : goal.returns-in-Err
returns-in-Err c =
    let k = c.args.site.context.now in
    let d = draft c.args.site c.args.scope c.args.term.now in
    refused Form Form (operand_maker c.args.site 0 d) (λ g. number_part (sets k) (arrays k) k.item (place d) 0 g) c.in-Err.fault c.in-Err.ensures
