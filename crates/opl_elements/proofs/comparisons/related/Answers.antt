use Rattle.std.proofs.Common.{Some, ap, sym, ◌∙◌}
use Rattle.std.specs.Option.{option_map}
use Rattle.opl_value.specs.Places.{value_at}
use Rattle.opl_eval.specs.Compare as compare
use Rattle.opl_elements.proofs.comparisons.related.Goals as goal

pub returns-in-Some : goal.returns-in-Some
returns-in-Some c =
    ap (λ b. Some b) c.relates.ensures ∙ sym (ap (option_map (λ vs. compare.relates c.args.relation (value_at vs 0) (value_at vs 1))) c.in-Some.ensures.some)

pub returns-in-None : goal.returns-in-None
returns-in-None c = sym (ap (option_map (λ vs. compare.relates c.args.relation (value_at vs 0) (value_at vs 1))) c.in-None.ensures.none)
