use Rattle.std.proofs.Common.{◌≡◌, Option, ℕ, IfOk, subst, sym}
use Rattle.opl_making.specs.Sites.{items}
use Rattle.opl_making.proofs.ArrayNames.{number-hidden, number-seen}
use Rattle.opl_making.proofs.arrays.named_number.Goals as goal

pub returns-in-Some : goal.returns-in-Some
returns-in-Some c = sym (number-hidden (items c.args.site) c.args.name.now c.args.scope.environment.now c.args.scope.parameters.now c.in-Some.field-0.now (sym c.in-Some.ensures))

pub returns-in-None : goal.returns-in-None
returns-in-None c =
    subst (λ (k : Option ℕ). IfOk c.declared_number.result (λ n. n ≡ k))
    (sym (number-seen (items c.args.site) c.args.name.now c.args.scope.environment.now c.args.scope.parameters.now (sym c.in-None.ensures))) c.declared_number.ensures
