use Rattle.opl_form.specs.Made.{place}
use Rattle.opl_form.specs.Nodes.{next}
use Rattle.opl_form.specs.Parts.{Form}
use Rattle.opl_groups.specs.Visits.{sees}
use Rattle.opl_nodes.specs.Contexts.{arrays, sets}
use Rattle.opl_nodes.specs.Pieces.{form}
use Rattle.opl_making.specs.Sites.{draft}
use Rattle.opl_making.proofs.Next.{makes-same, part-made, refused}
use Rattle.opl_optimum.specs.Goals.{doubled, goal_form, number_of}
use Rattle.opl_posting.proofs.Objectives.{doubled-at, number_of-is}
use Rattle.opl_posting.proofs.aiming.goal_part.Goals as goal

pub returns-in-Ok : goal.returns-in-Ok
returns-in-Ok c =
    let k = c.args.site.context.now in
    let d = draft c.args.site c.args.scope c.args.term.now in
    let at = c.draft_place-at.result in
    makes-same k (next (number_of (sets k) (arrays k) k.item d) (λ g. doubled (sets k) (arrays k) k.item at g)) (goal_form (sets k) (arrays k) k.item d) c.doubled.result
    (doubled-at (sets k) (arrays k) k.item at d (c.draft_place-at.ensures (sees c.args.scope)))
    (part-made k (number_of (sets k) (arrays k) k.item d) (λ g. doubled (sets k) (arrays k) k.item at g) c.in-Ok.part c.doubled.result c.in-Ok.ensures
    (c.doubled.ensures k c.in-Ok.ensures.is_part (number_of-is (sets k) (arrays k) k.item d (form c.in-Ok.part) c.in-Ok.ensures.is_form)))

pub returns-in-Err : goal.returns-in-Err
returns-in-Err c =
    let k = c.args.site.context.now in
    let d = draft c.args.site c.args.scope c.args.term.now in
    refused Form Form (number_of (sets k) (arrays k) k.item d) (λ g. doubled (sets k) (arrays k) k.item (place d) g) c.in-Err.fault c.in-Err.ensures
