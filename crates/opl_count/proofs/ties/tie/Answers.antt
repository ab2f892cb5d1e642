use Rattle.std.proofs.Common.{ap, sym}
use Rattle.opl_count.specs.declared.sum.Literal.{Literal}
use Rattle.opl_count.proofs.Prices.{at_place}
use Rattle.opl_count.proofs.Tying.{alone_tie}
use Rattle.opl_count.proofs.ties.tie.Goals as goal

pub returns-then-is_alone : goal.returns-then-is_alone
returns-then-is_alone c =
    let l = c.index-literals-at.result in
    alone_tie c.args.literals.now c.args.at l _ (at_place c.args.literals.now c.args.at l c.requires.there c.index-literals-at.is) (ap (λ (z : Literal). z.weight) (sym c.index-literals-at.is)) c.if-is_alone.ensures
