use Rattle.std.proofs.Common.{Bor, List, ap, map, rules}
use Rattle.opl_term.specs.declared.term.Term.{Term}
use Rattle.opl_bind.specs.Cells.{fits}
use Rattle.opl_given.specs.Readings.{axis_of, known_of, lent}
use Rattle.opl_bind.specs.Scopes.{names_in}
use Rattle.opl_bind.proofs.Answering.{gives_same}
use Rattle.opl_bind.proofs.CellSlots.{listed-fault, listed-found}
use Rattle.opl_bind.proofs.opened.listed_cells.Goals as goal

pub returns-in_err-cells : goal.returns-in_err-cells
returns-in_err-cells c =
    let known = known_of c.args.types.now in
    let h = listed-fault known c.args.term.now c.args.form.now (map axis_of c.args.axes.now) (names_in c.args.scope) c.first_token-at.result (λ (cells : List (Bor Term)). fits known (lent cells)) c.in_err-cells.field-0.0 c.first_token-at.ensures c.in_err-cells.ensures in
    search rules

pub returns : goal.returns
returns c =
    let known = known_of c.args.types.now in
    gives_same (λ a. a) _ _ c.all_fitted.result
    (listed-found known c.args.term.now c.args.form.now (map axis_of c.args.axes.now) (names_in c.args.scope) c.first_token-at.result (lent c.in_ok-cells.cells) (lent c.as_slice.result.now)
    c.first_token-at.ensures c.in_ok-cells.ensures (ap lent c.as_slice.ensures))
    c.all_fitted.ensures
