use Rattle.std.proofs.Common.{◌∷◌, map}
use Rattle.opl_given.specs.Readings.{axis_of, known_of}
use Rattle.opl_bind.proofs.Answering.{gives_same}
use Rattle.opl_bind.proofs.WrittenScopes.{written_cells-is}
use Rattle.opl_bind.proofs.written.written_cells.Goals as goal

pub returns : goal.returns
returns c =
    gives_same (λ a. a) _ _ c.cells_by_form.result
    (written_cells-is (known_of c.args.types.now) c.args.environment.now c.args.form.now (c.args.first.now ∷ c.args.rest.now) (map axis_of c.args.axes.now) c.args.term.now)
    c.cells_by_form.ensures
