use Rattle.std.proofs.Common.{◌≡◌, nat_eq, length, ap, ◌∙◌, rules}
use Rattle.opl_value.specs.Sets.{first_occurrences}
use Rattle.opl_eval.proofs.Different.{all_different-count}
use Rattle.opl_eval.proofs.compare.are_different.Goals as goal

pub returns : goal.returns
returns c =
    let size : c.len.result ≡ length c.in_ok-set.set.items = search rules in
    let same : c.in_ok-set.set.items ≡ first_occurrences c.args.values.now = c.in_ok-set.ensures.values ∙ ap first_occurrences c.in_ok-copies.ensures in
    ap (λ n. nat_eq n (length c.args.values.now)) (size ∙ ap length same) ∙ all_different-count c.args.values.now
