use Rattle.std.proofs.Common.{sym, subst}
use Rattle.opl_addends.specs.Addends.{plains}
use Rattle.opl_addends.specs.Apart.{AreNumbered}
use Rattle.opl_addends.specs.Making.{AllNamed}
use Rattle.opl_addends.proofs.Comparing.{found_can_add, found_numbered, none_made, sum_read, mentions_read, once_read}
use Rattle.opl_addends.proofs.addends_filter.sum_of.Goals as goal

pub mentions-requires : goal.mentions-requires
mentions-requires c = subst (AllNamed c.args.core.now) (sym c.as_slice.ensures) c.in_ok-addends.ensures.named

pub are_apart-requires-clause-sound : goal.are_apart-requires-clause-sound
are_apart-requires-clause-sound c =
    let m = mentions_read c.args.core.now c.in_ok-addends.addends c.as_slice.result.now c.in_ok-variables.variables c.as_slice-2.result.now c.in_ok-found.found c.as_slice.ensures c.as_slice-2.ensures c.in_ok-found.ensures in
    (found_can_add c.args.core.now c.args.op c.args.a.now c.args.b.now c.args.c.now c.in_ok-addends.addends c.in_ok-variables.variables c.in_ok-found.found c.requires.is c.requires.sound c.in_ok-addends.ensures c.in_ok-variables.ensures m).sound

pub are_apart-requires-clause-numbers : goal.are_apart-requires-clause-numbers
are_apart-requires-clause-numbers c =
    let m = mentions_read c.args.core.now c.in_ok-addends.addends c.as_slice.result.now c.in_ok-variables.variables c.as_slice-2.result.now c.in_ok-found.found c.as_slice.ensures c.as_slice-2.ensures c.in_ok-found.ensures in
    subst (AreNumbered c.args.core.now c.in_ok-addends.addends) (sym c.as_slice-3.ensures)
    (found_numbered c.args.core.now c.args.op c.args.a.now c.args.b.now c.args.c.now c.in_ok-addends.addends c.in_ok-variables.variables c.in_ok-found.found c.requires.is c.requires.sound c.in_ok-addends.ensures c.in_ok-variables.ensures m c.requires.few)

pub returns-then-not-are_apart : goal.returns-then-not-are_apart
returns-then-not-are_apart c =
    let m = mentions_read c.args.core.now c.in_ok-addends.addends c.as_slice.result.now c.in_ok-variables.variables c.as_slice-2.result.now c.in_ok-found.found c.as_slice.ensures c.as_slice-2.ensures c.in_ok-found.ensures in
    none_made c.args.core.now c.args.op c.args.a.now c.args.b.now c.args.c.now c.in_ok-addends.addends c.in_ok-variables.variables c.in_ok-found.found c.requires.is c.requires.sound c.in_ok-addends.ensures c.in_ok-variables.ensures m
    c.are_apart.result c.if-not-are_apart.true (once_read (plains c.args.core.now c.in_ok-addends.addends) c.in_ok-found.found c.as_slice-3.result.now c.are_apart.result c.as_slice-3.ensures c.are_apart.ensures)

pub returns : goal.returns
returns c =
    let m = mentions_read c.args.core.now c.in_ok-addends.addends c.as_slice.result.now c.in_ok-variables.variables c.as_slice-2.result.now c.in_ok-found.found c.as_slice.ensures c.as_slice-2.ensures c.in_ok-found.ensures in
    sum_read c.args.core.now c.args.op c.args.a.now c.args.b.now c.args.c.now c.in_ok-addends.addends c.in_ok-variables.variables c.in_ok-found.found c.requires.is c.requires.sound c.in_ok-addends.ensures c.in_ok-variables.ensures m c.requires.mixed
    c.are_apart.result c.if-not-are_apart.false (once_read (plains c.args.core.now c.in_ok-addends.addends) c.in_ok-found.found c.as_slice-3.result.now c.are_apart.result c.as_slice-3.ensures c.are_apart.ensures) c.demand.result c.demand.ensures
