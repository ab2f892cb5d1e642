use Rattle.std.proofs.Common.{refl}
use Rattle.opl_count.proofs.Prices.{part_at}
use Rattle.opl_count.proofs.Read.{read_at}
use Rattle.opl_count.proofs.Known.{right_at, written_at, refuted_at}
use Rattle.opl_count.proofs.noted.is_refuted_as_noted.Goals as goal

pub is_refuted-requires-clause-part : goal.is_refuted-requires-clause-part
is_refuted-requires-clause-part g c =
    let ls = c.args.literals.now in
    let l = c.index-literals-at.result in
    part_at c.args.core.now ls c.args.at l c.requires.parts (read_at ls ls c.args.at l refl c.requires.there c.index-literals-at.is)

pub is_refuted_at-requires-clause-part : goal.is_refuted_at-requires-clause-part
is_refuted_at-requires-clause-part g c =
    let ls = c.args.literals.now in
    let l = c.index-literals-at-in-Some.result in
    part_at c.args.core.now ls c.args.at l c.requires.parts (read_at ls ls c.args.at l refl c.requires.there c.index-literals-at-in-Some.is)

pub is_refuted_at-requires-clause-right : goal.is_refuted_at-requires-clause-right
is_refuted_at-requires-clause-right g c =
    let ls = c.args.literals.now in
    let l = c.index-literals-at-in-Some.result in
    right_at c.args.core.now ls c.args.first_place c.in-Some.first c.args.notes.now.top (g.V.View.family c.args.view.now) c.args.at l c.in-Some.is (read_at ls ls c.args.at l refl c.requires.there c.index-literals-at-in-Some.is) c.requires.there c.requires.knows

pub returns-in-None-clause-refuted : goal.returns-in-None-clause-refuted
returns-in-None-clause-refuted g c = λ m h.
    let ls = c.args.literals.now in
    let l = c.index-literals-at.result in
    refuted_at c.args.core.now ls (g.V.View.family c.args.view.now) c.args.at l m c.is_refuted.result (read_at ls ls c.args.at l refl c.requires.there c.index-literals-at.is) c.is_refuted.ensures h

pub returns-in-Some-clause-refuted : goal.returns-in-Some-clause-refuted
returns-in-Some-clause-refuted g c = λ m h.
    let ls = c.args.literals.now in
    let l = c.index-literals-at-in-Some.result in
    refuted_at c.args.core.now ls (g.V.View.family c.args.view.now) c.args.at l m c.is_refuted_at.result (read_at ls ls c.args.at l refl c.requires.there c.index-literals-at-in-Some.is) c.is_refuted_at.ensures.refuted h

pub returns-in-Some-clause-tells : goal.returns-in-Some-clause-tells
returns-in-Some-clause-tells g c =
    let ls = c.args.literals.now in
    let l = c.index-literals-at-in-Some.result in
    written_at c.args.core.now ls c.args.first_place c.in-Some.first c.args.notes.now c.is_refuted_at.new.notes (g.V.View.family c.args.view.now) c.args.at l c.is_refuted_at.result c.in-Some.is (read_at ls ls c.args.at l refl c.requires.there c.index-literals-at-in-Some.is) c.is_refuted_at.ensures.refuted c.is_refuted_at.ensures.writes
