use Rattle.std.proofs.Common.{◌∙◌, sym}
use Rattle.opl_connective.specs.Trees.{tree}
use Rattle.opl_connective.proofs.Going.{first_sure_within, first_never_within, second_sure_within, second_never_within}
use Rattle.opl_connective.proofs.refuting.side_left.Goals as goal

pub returns-then-refuted : goal.returns-then-refuted
returns-then-refuted g c =
    first_sure_within c.args.core.now c.args.is_opposite (tree c.args.first.now) (tree c.args.second.now) c.requires.first c.requires.second (g.V.View.family c.args.view.now) (sym c.refuted.ensures ∙ c.if-refuted.true)

pub returns-then-refuted-2 : goal.returns-then-refuted-2
returns-then-refuted-2 g c =
    first_never_within c.args.core.now c.args.is_opposite (tree c.args.first.now) (tree c.args.second.now) c.requires.first c.requires.second (g.V.View.family c.args.view.now) (sym c.refuted-2.ensures ∙ c.if-refuted-2.true)

pub returns-then-refuted-3 : goal.returns-then-refuted-3
returns-then-refuted-3 g c =
    second_sure_within c.args.core.now c.args.is_opposite (tree c.args.first.now) (tree c.args.second.now) c.requires.first c.requires.second (g.V.View.family c.args.view.now) (sym c.refuted-3.ensures ∙ c.if-refuted-3.true)

pub returns-then-refuted-4 : goal.returns-then-refuted-4
returns-then-refuted-4 g c =
    second_never_within c.args.core.now c.args.is_opposite (tree c.args.first.now) (tree c.args.second.now) c.requires.first c.requires.second (g.V.View.family c.args.view.now) (sym c.refuted-4.ensures ∙ c.if-refuted-4.true)
