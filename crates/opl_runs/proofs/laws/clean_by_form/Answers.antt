use Rattle.opl_runs.proofs.CleanTerms.{clean-is}
use Rattle.opl_runs.proofs.laws.clean_by_form.Goals as goal

pub returns : goal.returns
returns c = clean-is c.unrolled_by_form.ensures
