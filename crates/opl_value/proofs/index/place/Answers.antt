use Rattle.std.proofs.Common.{◌≡◌, true, sym, rules}
use Rattle.std.specs.List.{list_any}
use Rattle.opl_value.specs.Places.{lists, has_none}
use Rattle.opl_value.proofs.Joint.{place_of-empty}
use Rattle.opl_value.proofs.index.place.Goals as goal

pub returns-then-has_empty : goal.returns-then-has_empty
returns-then-has_empty c =
    let h : list_any has_none (lists c.args.space.now) ≡ true = search rules in
    sym (place_of-empty (lists c.args.space.now) c.args.key.now h)
