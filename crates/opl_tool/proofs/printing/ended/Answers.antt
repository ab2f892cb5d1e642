use Rattle.opl_tool.proofs.PrintedLemmas.{ended-end, ended-limit, ended-spent, reaches}
use Rattle.opl_tool.proofs.printing.ended.Goals as goal

pub returns-in-Spent-clause-answers : goal.returns-in-Spent-clause-answers
returns-in-Spent-clause-answers c showing out same ended = ended-spent showing out c.args.shown.last c.in-Spent.is ended

pub returns-in-End-clause-answers : goal.returns-in-End-clause-answers
returns-in-End-clause-answers c showing out same ended = reaches _ _ _ c.ended_with.ensures (ended-end showing out c.args.shown.last c.args.shown.solutions c.in-End.is same ended)

pub returns-in-Limit-clause-answers : goal.returns-in-Limit-clause-answers
returns-in-Limit-clause-answers c showing out same ended = reaches _ _ _ c.ended_with-in-Limit.ensures (ended-limit showing out c.args.shown.last c.args.shown.solutions c.in-Limit.is same ended)
