use Rattle.std.proofs.Common.{refl, ap, ◌∙◌}
use Rattle.std.proofs.lemmas.Result.{err_from_is_err_and}
use Rattle.opl_bind.specs.Readings.{data_of}
use Rattle.opl_show.specs.Readings.{names_of}
use Rattle.opl_prepare.proofs.Accepted.{environment-keyed}
use Rattle.opl_prepare.proofs.PreparingLemmas.{all-prepared, clean-stopped, core-stopped, variables-stopped}
use Rattle.opl_prepare.proofs.preparing.prepare.Goals as goal

pub returns-in_err-variables : goal.returns-in_err-variables
returns-in_err-variables c =
    let p = err_from_is_err_and c.from_residual-in_err-variables.result c.from_residual-in_err-variables.ensures.1 in
    rw (p.1, p.2) (variables-stopped c.args.front.now.typed.tree c.args.front.now.files c.as_slice.result.now c.as_slice.ensures c.in_ok-runs.ensures (data_of c.in_ok-data.data) c.in_ok-data.ensures _ c.in_err-variables.ensures)

pub returns-in_err-clean : goal.returns-in_err-clean
returns-in_err-clean c =
    let p = err_from_is_err_and c.from_residual-in_err-clean.result c.from_residual-in_err-clean.ensures.1 in
    rw (p.1, p.2) (clean-stopped c.args.front.now.typed.tree c.args.front.now.files c.as_slice.result.now c.as_slice.ensures c.in_ok-runs.ensures (data_of c.in_ok-data.data) c.in_ok-data.ensures
    c.in_ok-variables.variables c.in_ok-variables.ensures c.as_slice-2.result.now c.as_slice-2.ensures _ c.in_err-clean.ensures)

pub returns-in_err-core : goal.returns-in_err-core
returns-in_err-core c =
    let p = err_from_is_err_and c.from_residual-in_err-core.result c.from_residual-in_err-core.ensures.1 in
    rw (p.1, p.2) (core-stopped c.args.front.now.typed.tree c.args.front.now.files c.as_slice.result.now c.as_slice.ensures c.in_ok-runs.ensures (data_of c.in_ok-data.data) c.in_ok-data.ensures
    c.in_ok-variables.variables c.in_ok-variables.ensures c.as_slice-2.result.now c.as_slice-2.ensures c.in_ok-clean.ensures c.as_slice-4.result.now c.as_slice-4.ensures _ c.in_err-core.ensures)

pub returns : goal.returns
returns c =
    all-prepared c.args.front.now.typed.tree c.args.front.now.files c.as_slice.result.now c.as_slice.ensures c.in_ok-runs.ensures (data_of c.in_ok-data.data) c.in_ok-data.ensures
    c.in_ok-variables.variables c.in_ok-variables.ensures c.as_slice-2.result.now c.as_slice-2.ensures c.in_ok-clean.ensures c.as_slice-4.result.now c.as_slice-4.ensures c.search_finds_all.ensures c.search_begins.ensures c.values_mean.ensures (names_of c.as_slice-3.result.now) _ _
    (environment-keyed c.in_ok-data.data.environment) (ap names_of c.as_slice-3.ensures ∙ c.in_ok-enumerations.ensures) c.in_ok-core.ensures refl c.in_ok-enumerations.ensures refl
