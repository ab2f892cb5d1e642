use Rattle.std.proofs.Common.{◌≡◌, ◌-◌}
use Rattle.opl_grammar.specs.Input.{behind, behind_from}
use Rattle.opl_grammar.proofs.list.behind.Given as goal

abbrev pub invariant-loop-turn : goal.invariant-loop-turn
invariant-loop-turn g l = behind l.sign (g.P.Part.begins l.part) (g.P.Part.part l.part) l.fn.cursor ≡ behind_from l.sign (g.P.Part.begins l.part) (g.P.Part.part l.part) (l._turn-end - l._turn) l.found l.cursor
