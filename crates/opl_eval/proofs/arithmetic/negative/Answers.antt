use Rattle.std.proofs.Common.{◌≡◌, ◌∙◌, arith}
use Rattle.std.proofs.Common.{rules}
use Rattle.std.specs.Prelude.{neg_ℤ}
use Rattle.std.proofs.lemmas.Int.{ints}
use Rattle.opl_eval.specs.Arithmetic.{IsSmall, sized}
use Rattle.opl_eval.proofs.Sized.{sized-small}
use Rattle.opl_eval.proofs.arithmetic.negative.Goals as goal

pub returns-clause-small : goal.returns-clause-small
returns-clause-small c h =
    let value : c.sized.result ≡ sized c.args.at (neg_ℤ c.args.a) = search rules in
    let small : IsSmall (neg_ℤ c.args.a) = omega (arith, ints) in
    value ∙ sized-small c.args.at (neg_ℤ c.args.a) small
