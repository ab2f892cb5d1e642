use Rattle.std.proofs.Common.{◌≡◌, ◌-◌}
use Rattle.opl_grammar.specs.Input.{many, many_from}
use Rattle.opl_grammar.proofs.list.many.Given as goal

abbrev pub invariant-loop-turn : goal.invariant-loop-turn
invariant-loop-turn g l = many (g.P.Part.begins l.part) (g.P.Part.part l.part) l.fn.cursor ≡ many_from (g.P.Part.begins l.part) (g.P.Part.part l.part) (l._turn-end - l._turn) l.found l.cursor
