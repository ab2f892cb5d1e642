use Rattle.std.proofs.Common.{◌∙◌, ap, sym}
use Rattle.opl_expr.specs.Range.{range}
use Rattle.opl_range.specs.Between.{term_of}
use Rattle.opl_addends.specs.Addends.{plain}
use Rattle.opl_addends.proofs.Sizes.{small_addend}
use Rattle.opl_addends.proofs.ranges.addend_range.Goals as goal

pub neg-requires : goal.neg-requires
neg-requires g c =
    let core = c.args.core.now in
    let F = g.V.View.family c.args.view.now in
    small_addend core F (plain core c.args.addend.now) c.in_ok-found.found c.requires.within c.requires.sound (sym c.in_ok-found.was ∙ c.range.ensures ∙ ap (λ z. range F (term_of core z)) c.get.ensures)
