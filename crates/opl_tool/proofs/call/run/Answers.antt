use Rattle.std.proofs.Common.{map}
use Rattle.std.specs.Prelude.{string_bytes}
use Rattle.opl_tool.proofs.HeadlineLemmas.{done-exactly, finds-so, no-call-answers, refused-exactly, shows-nothing, shows-text, spent-exactly, tells-refusal, unsolved-exactly}
use Rattle.opl_tool.proofs.LineCases.{memory-line, read-line, spent-line, write-line}
use Rattle.opl_tool.proofs.call.run.Goals as goal

pub returns-clause-refused : goal.returns-clause-refused
returns-clause-refused g c = refused-exactly (map (λ word. string_bytes word) c.args.words.now) _ _ _ c.carry_out-ended.ensures.ends c.finish.ensures.answers

pub returns-clause-done : goal.returns-clause-done
returns-clause-done g c = done-exactly (map (λ word. string_bytes word) c.args.words.now) _ _ _ c.carry_out-ended.ensures.ends c.finish.ensures.answers

pub returns-clause-unsolved : goal.returns-clause-unsolved
returns-clause-unsolved g c = unsolved-exactly (map (λ word. string_bytes word) c.args.words.now) _ _ _ c.carry_out-ended.ensures.ends c.finish.ensures.answers

pub returns-clause-spent : goal.returns-clause-spent
returns-clause-spent g c = spent-exactly (map (λ word. string_bytes word) c.args.words.now) _ _ _ c.carry_out-ended.ensures.ends c.finish.ensures.answers

pub returns-clause-finds : goal.returns-clause-finds
returns-clause-finds g c = finds-so (map (λ word. string_bytes word) c.args.words.now) _ _ _ c.carry_out-ended.ensures.ends c.finish.ensures.answers

pub returns-clause-shown : goal.returns-clause-shown
returns-clause-shown g c = shows-text (map (λ word. string_bytes word) c.args.words.now) _ _ _ c.carry_out-ended.ensures.ends c.finish.ensures.answers

pub returns-clause-silent : goal.returns-clause-silent
returns-clause-silent g c = shows-nothing (map (λ word. string_bytes word) c.args.words.now) _ _ _ c.carry_out-ended.ensures.ends c.finish.ensures.answers

pub returns-clause-line : goal.returns-clause-line
returns-clause-line g c = tells-refusal (map (λ word. string_bytes word) c.args.words.now) _ _ _ c.carry_out-ended.ensures.ends c.finish.ensures.answers _ _ _ _ c.finish.ensures.told

pub returns-clause-outcome : goal.returns-clause-outcome
returns-clause-outcome g c = record {
  ended = c.carry_out-ended.result;
  ends = c.carry_out-ended.ensures.ends;
  no_call = c.carry_out-ended.ensures.no_call;
  answers = c.finish.ensures.answers;
  told = c.finish.ensures.told;
}

pub returns-clause-words : goal.returns-clause-words
returns-clause-words g c none = no-call-answers (map (λ word. string_bytes word) c.args.words.now) _ _ c.carry_out-ended.ensures.no_call c.finish.ensures.answers none

pub returns-clause-spent_line : goal.returns-clause-spent_line
returns-clause-spent_line g c e = spent-line (map (λ word. string_bytes word) c.args.words.now) _ _ _ _ _ _ c.finish.ensures.answers c.finish.ensures.told e

pub returns-clause-read_line : goal.returns-clause-read_line
returns-clause-read_line g c e = read-line (map (λ word. string_bytes word) c.args.words.now) _ _ _ _ _ _ c.finish.ensures.answers c.finish.ensures.told e

pub returns-clause-write_line : goal.returns-clause-write_line
returns-clause-write_line g c e = write-line (map (λ word. string_bytes word) c.args.words.now) _ _ _ _ _ _ c.finish.ensures.answers c.finish.ensures.told e

pub returns-clause-memory_line : goal.returns-clause-memory_line
returns-clause-memory_line g c e = memory-line (map (λ word. string_bytes word) c.args.words.now) _ _ _ _ _ _ c.finish.ensures.answers c.finish.ensures.told e
