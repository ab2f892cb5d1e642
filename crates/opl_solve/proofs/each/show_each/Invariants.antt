use Rattle.opl_show.specs.Readings.{names_of}
use Rattle.opl_solve.proofs.Going.{Going}
use Rattle.opl_solve.proofs.each.show_each.Given as goal

abbrev pub invariant-loop-so_far : goal.invariant-loop-so_far
invariant-loop-so_far g l =
    Going (names_of l.enumerations) l.items l.limit l.fn.machine l.machine l.so_far l.shown (g.O.Sink.written l.fn.out) (g.O.Sink.written l.out) (g.O.Sink.faults l.fn.out) (g.O.Sink.faults l.out)
