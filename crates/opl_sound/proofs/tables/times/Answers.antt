use Rattle.std.proofs.Common.{◌*◌, sym, ◌∙◌, rules}
use Rattle.opl_sound.proofs.Counts.{zero_times, none_times, checked, some_count}
use Rattle.opl_sound.proofs.tables.times.Goals as goal

pub returns-then-n-eq0 : goal.returns-then-n-eq0
returns-then-n-eq0 c = λ k e. zero_times c.args.n k c.if-n-eq0.true

pub returns-in_err-found : goal.returns-in_err-found
returns-in_err-found c = λ k e. none_times c.args.n k c.from_residual.result c.if-n-eq0.false (sym e ∙ c.in_err-found.was) (search rules)

pub returns : goal.returns
returns c = λ k e. checked c.checked_mul.result (c.args.n * c.in_ok-found.field-0) c.checked_mul.ensures ∙ some_count c.args.n k c.in_ok-found.field-0 (sym c.in_ok-found.was ∙ e)
