use Rattle.std.proofs.Common.{nat_eq, codes, ap, sym, ◌∙◌}
use Rattle.std.specs.List.{starts_with}
use Rattle.opl_token.proofs.Comments.{block_later}
use Rattle.opl_token.proofs.Lists.{rest_of}
use Rattle.opl_token.proofs.scanner.block_len.Goals as goal

pub loop-at-preserved : goal.loop-at-preserved
loop-at-preserved c =
    let other = ap (λ t. starts_with nat_eq t (codes "*/")) (sym (rest_of c.loop-at.at c.args.bytes.now)) ∙ sym c.if-starts_with.ensures.value in
    sym (block_later c.loop-at.at c.args.bytes.now c.loop-at-test.true other) ∙ c.loop-at.invariant
