use Rattle.std.proofs.Common.{ap, map, sym, ◌∙◌}
use Rattle.std.specs.Prelude.{string_bytes}
use Rattle.std.specs.Option.{option_map}
use Rattle.opl_words.specs.Readings.{asked_of}
use Rattle.opl_tool.proofs.EndsLemmas.{asked-ended}
use Rattle.opl_tool.proofs.carry_out.carry_out.Goals as goal

pub returns-in-Ok-Some-clause-ends : goal.returns-in-Ok-Some-clause-ends
returns-in-Ok-Some-clause-ends g c = asked-ended (map (λ word. string_bytes word) c.args.words.now) (asked_of c.in-Ok-Some.asked) _ _ (sym (ap (option_map asked_of) c.in-Ok-Some.field-0-is) ∙ c.in-Ok-Some.ensures) c.answer.ensures.ends
