use Rattle.std.proofs.Common.{◌≡◌, ◌-◌}
use Rattle.opl_grammar.specs.Rules.{steps, steps_from}
use Rattle.opl_level.proofs.below.Level.steps.Given as goal

abbrev pub invariant-loop-turn : goal.invariant-loop-turn
invariant-loop-turn g l = steps (g.B.Below.rules l.self.below) l.fn.cursor ≡ steps_from (g.B.Below.rules l.self.below) (l._turn-end - l._turn) l.found l.cursor
