use Rattle.std.proofs.Common.{Ok, ap, sym, ◌++◌, ◌∙◌}
use Rattle.opl_type_rules.specs.Scope.{declared, ◌>>◌}
use Rattle.opl_type_rules.specs.Scope.Thing.{value}
use Rattle.opl_type_rules.specs.Types.{sort}
use Rattle.opl_type_rules.specs.Types.Sort.{anything}
use Rattle.opl_type_rules.specs.Values.{within}
use Rattle.opl_type_rules.proofs.Sorts.{sort-Any}
use Rattle.opl_expression_types.proofs.Patterns.{within-beside}
use Rattle.opl_expression_types.proofs.pattern.take_name.Goals as goal

pub returns : goal.returns
returns c =
    let sc = within c.args.model.now (c.args.locals.now ++ c.args.taken.now) in
    ap (λ x. x >> Ok (declared c.args.name.now.text (value anything) sc)) c.in_ok-fresh_beside.ensures
    ∙ ap (λ s. Ok s)
    (sym
    (ap (λ ts. within c.args.model.now (c.args.locals.now ++ ts)) c.in_ok-add_local.ensures
    ∙ within-beside c.args.model.now c.args.locals.now c.args.taken.now (record { name = c.as_slice.result.now; ty = c.in_ok-ty.ty })
    ∙ ap (λ n. declared n (value (sort c.in_ok-ty.ty)) sc) c.as_slice.ensures
    ∙ ap (λ s. declared c.args.name.now.text (value s) sc) (ap sort c.in_ok-ty.ensures ∙ sort-Any)))
