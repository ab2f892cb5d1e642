use Rattle.opl_faults.proofs.Made.{forms_never_memory}
use Rattle.opl_faults.proofs.laws.forms_never_memory.Goals as goal

pub returns : goal.returns
returns c = forms_never_memory c.unrolled_by_form.ensures c.step_by_form.ensures
