use Rattle.opl_expr.specs.Solutions.{declared}
use Rattle.opl_reify.proofs.Looking.{still_below}
use Rattle.opl_notes.proofs.Rightness.{knows_less, knows_on, tells_more, tells_on}
use Rattle.opl_count.specs.Costs.{is_over}
use Rattle.opl_count.specs.Places.{means_sum, means_both}
use Rattle.opl_count.proofs.Both.{first_fails, second_settles}
use Rattle.opl_count.proofs.filtering.settle_both.Goals as goal

pub returns-then-not-settle-clause-settles : goal.returns-then-not-settle-clause-settles
returns-then-not-settle-clause-settles g c = first_fails c.args.core.now c.args.first.now.costs c.args.second.now.costs (g.N.View.family c.args.n.now) (g.N.View.family c.settle.new.n) c.if-not-settle.ensures.settles

pub settle-requires-2-clause-declared : goal.settle-requires-2-clause-declared
settle-requires-2-clause-declared g c =
    still_below (is_over c.args.core.now c.args.first.now.costs) (g.N.View.family c.args.n.now) (g.N.View.family c.settle.new.n) (declared c.args.core.now) c.if-not-settle.ensures.settles.0 c.requires.declared

pub returns-clause-settles : goal.returns-clause-settles
returns-clause-settles g c =
    second_settles c.args.core.now c.args.first.now.costs c.args.second.now.costs (g.N.View.family c.args.n.now) (g.N.View.family c.settle.new.n) (g.N.View.family c.settle-2.new.n) c.settle-2.result c.if-not-settle.ensures.settles c.settle-2.ensures.settles

pub settle-requires-clause-knows : goal.settle-requires-clause-knows
settle-requires-clause-knows g c =
    knows_less (means_both c.args.core.now c.args.first.now c.args.second.now) (means_sum c.args.core.now c.args.first.now) c.args.notes.now.top (g.N.View.family c.args.n.now) (λ facts n m. m.0) c.requires.knows

pub returns-then-not-settle-clause-tells : goal.returns-then-not-settle-clause-tells
returns-then-not-settle-clause-tells g c =
    tells_more (means_sum c.args.core.now c.args.first.now) (means_both c.args.core.now c.args.first.now c.args.second.now) c.args.notes.now (g.N.View.family c.args.n.now) c.settle.new.notes (g.N.View.family c.settle.new.n) (λ facts n m. m.0) c.settle.ensures.tells

pub settle-requires-2-clause-knows : goal.settle-requires-2-clause-knows
settle-requires-2-clause-knows g c =
    let both = means_both c.args.core.now c.args.first.now c.args.second.now in
    let D = g.N.View.family c.args.n.now in
    let F = g.N.View.family c.settle.new.n in
    knows_less both (means_sum c.args.core.now c.args.second.now) c.settle.new.notes.top F (λ facts n m. m.1)
    (knows_on both c.args.notes.now D c.settle.new.notes F c.requires.knows (tells_more (means_sum c.args.core.now c.args.first.now) both c.args.notes.now D c.settle.new.notes F (λ facts n m. m.0) c.settle.ensures.tells))

pub returns-clause-tells : goal.returns-clause-tells
returns-clause-tells g c =
    let both = means_both c.args.core.now c.args.first.now c.args.second.now in
    let D = g.N.View.family c.args.n.now in
    let F = g.N.View.family c.settle.new.n in
    let G = g.N.View.family c.settle-2.new.n in
    tells_on both c.args.notes.now D c.settle.new.notes F c.settle-2.new.notes G
    (tells_more (means_sum c.args.core.now c.args.first.now) both c.args.notes.now D c.settle.new.notes F (λ facts n m. m.0) c.settle.ensures.tells)
    (tells_more (means_sum c.args.core.now c.args.second.now) both c.settle.new.notes F c.settle-2.new.notes G (λ facts n m. m.1) c.settle-2.ensures.tells)
