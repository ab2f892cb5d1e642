use Rattle.std.proofs.Common.{◌≡◌, ◌++◌, ◌∙◌, ap, sym, rules}
use Rattle.std.proofs.lemmas.List.{append-nil}
use Rattle.std.specs.List.{flat_map}
use Rattle.opl_type_rules.specs.Expressions.{pattern_names}
use Rattle.opl_type_rules.specs.Steps.{taken}
use Rattle.opl_type_rules.specs.Values.{within}
use Rattle.opl_expression_types.proofs.Patterns.{taken-more, taken-fails, fresh-all, fresh-not, fault-of}
use Rattle.opl_expression_types.proofs.pattern.all_fresh.Goals as goal

pub returns-in_err-take_pattern : goal.returns-in_err-take_pattern
returns-in_err-take_pattern c =
    let first = pattern_names c.args.first.now in
    let rest = flat_map pattern_names c.args.rest.now in
    let none : c.args.locals.now ≡ c.args.locals.now ++ c.new-taken.result = sym (ap (λ ts. c.args.locals.now ++ ts) c.new-taken.ensures ∙ append-nil c.args.locals.now) in
    fault-of {B = Unit {0}} (λ u. within c.args.model.now (c.args.locals.now ++ c.take_pattern.new.taken)) _ (taken (within c.args.model.now (c.args.locals.now ++ c.new-taken.result)) first) _ _ c.in_err-take_pattern.field-0.0
    (λ f h. fresh-not _ f _ (taken-fails _ f first rest (ap (λ ls. taken (within c.args.model.now ls) first) none ∙ h)))
    c.in_err-take_pattern.ensures (search rules)

pub returns-in_err-take_patterns : goal.returns-in_err-take_patterns
returns-in_err-take_patterns c =
    let first = pattern_names c.args.first.now in
    let rest = flat_map pattern_names c.args.rest.now in
    let none : c.args.locals.now ≡ c.args.locals.now ++ c.new-taken.result = sym (ap (λ ts. c.args.locals.now ++ ts) c.new-taken.ensures ∙ append-nil c.args.locals.now) in
    fault-of {B = Unit {0}} (λ u. within c.args.model.now (c.args.locals.now ++ c.take_patterns.new.taken)) _ (taken (within c.args.model.now (c.args.locals.now ++ c.take_pattern.new.taken)) rest) _ _ c.in_err-take_patterns.field-0.0
    (λ f h. fresh-not _ f _ (taken-more _ _ first rest (ap (λ ls. taken (within c.args.model.now ls) first) none ∙ c.in_ok-take_pattern.ensures) ∙ h))
    c.in_err-take_patterns.ensures (search rules)

pub returns : goal.returns
returns c =
    let first = pattern_names c.args.first.now in
    let rest = flat_map pattern_names c.args.rest.now in
    let none : c.args.locals.now ≡ c.args.locals.now ++ c.new-taken.result = sym (ap (λ ts. c.args.locals.now ++ ts) c.new-taken.ensures ∙ append-nil c.args.locals.now) in
    fresh-all _ _ _ (taken-more _ _ first rest (ap (λ ls. taken (within c.args.model.now ls) first) none ∙ c.in_ok-take_pattern.ensures) ∙ c.in_ok-take_patterns.ensures)
