-- Activities that run at a time.
use Rattle.std.specs.Prelude.{Bool, ℤ, pos}
use Rattle.opl_domain.specs.Family.{Family}
use Rattle.opl_expr.specs.declared.tables.Use.{Use}
use Rattle.opl_expr.specs.Forms.{Term, Fact, plus}
use Rattle.opl_expr.specs.Forms.Relation.{at_most, below}
use Rattle.opl_expr.specs.Forms.Facts.{no_facts, more_facts}
use Rattle.opl_expr.specs.Range.{fact_range}
use Rattle.opl_trace.specs.Answers.{is_some_point}

-- the activity of the use runs at time t: it has started, and it has not ended
abbrev pub runs : ℤ → Use → Fact
runs t u = Fact.and (more_facts (Fact.cmp at_most (Term.var u.start) (Term.const t)) (more_facts (Fact.cmp below (Term.const t) (plus (Term.var u.start) (Term.var u.duration))) no_facts))

-- so it is surely: the range of that is [1,1]
abbrev pub surely_runs : Family → ℤ → Use → Bool
surely_runs F t u = is_some_point (pos 1) (fact_range F (runs t u))
