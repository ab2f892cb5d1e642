use Rattle.std.proofs.Common.{refl}
use Rattle.std.proofs.lemmas.Result.{err_from_is_err_and}
use Rattle.opl_solve.specs.Texts.{count_from}
use Rattle.opl_solve.proofs.AloneLemmas.{alone-shown, alone-stopped, none-shown}
use Rattle.opl_solve.proofs.latest.show_alone.Goals as goal

pub returns-in_err-show-in-Some-clause-prints : goal.returns-in_err-show-in-Some-clause-prints
returns-in_err-show-in-Some-clause-prints g c objective e =
    let p = err_from_is_err_and c.from_residual.result c.from_residual.ensures.1 in
    rw (p.1, p.2, c.in-Some.is) (alone-stopped _ _ objective c.in-Some.values.items c.as_slice.result.now c.args.value _ _ _ _ (rw c.in-Some.is at e) c.as_slice.ensures.value c.in_err-show-in-Some.field-0.0 c.in_err-show-in-Some.ensures)

pub returns-in_ok-show-in-Some-clause-prints : goal.returns-in_ok-show-in-Some-clause-prints
returns-in_ok-show-in-Some-clause-prints g c objective e =
    rw c.in-Some.is (alone-shown _ _ objective c.in-Some.values.items c.as_slice.result.now c.args.value _ _ _ _ (rw c.in-Some.is at e) c.as_slice.ensures.value tt 1 c.in_ok-show-in-Some.ensures)

pub returns-in_ok-show-in-Some-clause-count : goal.returns-in_ok-show-in-Some-clause-count
unfolding count_from
returns-in_ok-show-in-Some-clause-count g c = rw c.in-Some.is refl

pub returns-in-None-clause-prints : goal.returns-in-None-clause-prints
returns-in-None-clause-prints g c objective e = rw c.in-None.is (none-shown _ _ objective 0 _ _)

pub returns-in-None-clause-count : goal.returns-in-None-clause-count
unfolding count_from
returns-in-None-clause-count g c = rw c.in-None.is refl
