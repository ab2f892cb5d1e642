use Rattle.opl_range.proofs.Answers.{each_answer_comes}
use Rattle.opl_range.proofs.laws.each_answer_comes.Goals as goal

pub returns : goal.returns
returns c = each_answer_comes
