use Rattle.std.proofs.Common.{◌≡◌, ◌∙◌, arith}
use Rattle.std.proofs.Common.{rules}
use Rattle.std.specs.Prelude.{pos, unsigned_abs}
use Rattle.std.proofs.lemmas.Int.{ints}
use Rattle.opl_eval.specs.Arithmetic.{IsSmall, sized}
use Rattle.opl_eval.proofs.Sized.{sized-small}
use Rattle.opl_eval.proofs.arithmetic.absolute.Goals as goal

pub returns-clause-small : goal.returns-clause-small
returns-clause-small c h =
    let value : c.sized.result ≡ sized c.args.at (pos (unsigned_abs c.args.a)) = search rules in
    let small : IsSmall (pos (unsigned_abs c.args.a)) = omega (arith, ints) in
    value ∙ sized-small c.args.at (pos (unsigned_abs c.args.a)) small
