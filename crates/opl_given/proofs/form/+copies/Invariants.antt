use Rattle.std.proofs.Common.{◌≡◌, ◌++◌, drop}
use Rattle.opl_given.proofs.form.+copies.Given as goal

abbrev pub invariant-copy_forms-loop-form : goal.invariant-copy_forms-loop-form
invariant-copy_forms-loop-form l = l.forms ≡ l.copies ++ drop l.form-index l.forms
