use Rattle.std.proofs.Common.{rules, ◌≡◌, ◌∙◌, sym}
use Rattle.opl_value.specs.Order.{value_eq}
use Rattle.opl_value.specs.Total.{value_same}
use Rattle.opl_value.proofs.compare.ValuePartialEq.eq.Goals as goal

pub returns-clause-same : goal.returns-clause-same
returns-clause-same c =
    let value : c.eq.result ≡ value_eq c.args.self.now c.args.other.now = search rules in
    let same = value_same c.args.self.now c.args.other.now in
    (λ h. same.0 (sym value ∙ h), λ h. value ∙ same.1 h)
