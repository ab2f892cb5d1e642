use Rattle.std.proofs.Common.{◌≡◌, ◌+◌, length, reverse, take}
use Rattle.opl_fields.specs.Walk.{Pass, State, along, several}
use Rattle.opl_fields.proofs.walk.Walk.note_all.Given as goal

-- the fields that are noted so far are those of a shorter chain
abbrev pub invariant-loop-name : goal.invariant-loop-name
invariant-loop-name l = record {
  left : l.place + l.name-index ≡ length l.names;
  noted : (base : Pass) (s : State) → l.records ≡ s.records → l.initial.self ≡ base (several (length l.names) s) → l.self ≡ along l.decls base (reverse (take l.name-index l.names)) (several l.place s);
}
