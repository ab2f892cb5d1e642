use Rattle.opl_held.proofs.Answers.{comes_to_answer}
use Rattle.opl_held.proofs.laws.comes_to_answer.Goals as goal

pub returns : goal.returns
returns c = comes_to_answer
