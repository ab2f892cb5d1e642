use Rattle.std.proofs.lemmas.Result.{err_from_is_err_and}
use Rattle.opl_search.specs.Machines.{trace_of}
use Rattle.opl_trace.specs.Marks.{objective}
use Rattle.opl_solve.proofs.SolveLemmas.{search-both, search-first, search-second}
use Rattle.opl_solve.proofs.solutions.show_search.Goals as goal

pub returns-in_err-shown-clause-prints : goal.returns-in_err-shown-clause-prints
returns-in_err-shown-clause-prints g c =
    let p = err_from_is_err_and c.from_residual.result c.from_residual.ensures.1 in
    rw (p.1, p.2) (search-first (objective c.args.machine.now.core) _ _ c.args.showing (trace_of c.args.machine.now) _ _ _ _ c.in_err-shown.field-0.0 c.in_err-shown.ensures.prints)

pub returns-in_err-close-clause-prints : goal.returns-in_err-close-clause-prints
returns-in_err-close-clause-prints g c =
    let p = err_from_is_err_and c.from_residual-in_err-close.result c.from_residual-in_err-close.ensures.1 in
    rw (p.1, p.2) (search-second (objective c.args.machine.now.core) _ _ c.args.showing (trace_of c.args.machine.now) _ _ _ _ _ _ c.in_ok-shown.shown.solutions _ c.choices.result _ c.best.result c.in_ok-shown.shown.last
    c.in_ok-shown.ensures.shown.0 c.choices.ensures c.in_ok-shown.ensures.choices c.best.ensures c.in_ok-shown.ensures.best c.in_ok-shown.ensures.shown.1
    c.in_ok-shown.shown c.in_err-close.field-0.0 c.in_ok-shown.ensures.prints c.in_err-close.ensures)

pub returns-clause-prints : goal.returns-clause-prints
returns-clause-prints g c =
    search-both (objective c.args.machine.now.core) _ _ c.args.showing (trace_of c.args.machine.now) _ _ _ _ _ _ c.in_ok-shown.shown.solutions _ c.choices.result _ c.best.result c.in_ok-shown.shown.last
    c.in_ok-shown.ensures.shown.0 c.choices.ensures c.in_ok-shown.ensures.choices c.best.ensures c.in_ok-shown.ensures.best c.in_ok-shown.ensures.shown.1
    c.in_ok-shown.shown tt c.in_ok-shown.shown c.in_ok-shown.ensures.prints c.in_ok-close.ensures
