use Rattle.std.proofs.Common.{◌∙◌, false, ap, subst, sym, arith}
use Rattle.std.specs.Prelude.{slice_get, slice_index_or}
use Rattle.opl_count.specs.declared.sum.Tie.{Tie}
use Rattle.opl_count.specs.Costs.{is_over, HaveParts}
use Rattle.opl_count.specs.Places.{means_sum}
use Rattle.opl_count.proofs.Prices.{some_there}
use Rattle.opl_count.proofs.Read.{read_tie, read_dear}
use Rattle.opl_count.proofs.Known.{knows_read, tells_read, tells_left, left_at}
use Rattle.opl_count.proofs.Settling.{none_forced, short_tie, refuted_one}
use Rattle.opl_count.proofs.forcing.force.Goals as goal

pub is_refuted_as_noted-requires-clause-parts : goal.is_refuted_as_noted-requires-clause-parts
is_refuted_as_noted-requires-clause-parts g c = subst (HaveParts c.args.core.now) (sym c.as_slice-literals.ensures) c.requires.made.made.parts

pub is_refuted_as_noted-requires-clause-knows : goal.is_refuted_as_noted-requires-clause-knows
is_refuted_as_noted-requires-clause-knows g c = knows_read c.args.core.now c.args.sum.now.costs.literals c.as_slice-literals.result.now c.args.sum.now.first_place c.args.notes.now.top (g.N.View.family c.args.n.now) c.as_slice-literals.ensures c.requires.knows

pub returns-then-is_refuted_as_noted-clause-tells : goal.returns-then-is_refuted_as_noted-clause-tells
returns-then-is_refuted_as_noted-clause-tells g c =
    tells_read c.args.core.now c.args.sum.now.costs.literals c.as_slice-literals.result.now c.args.sum.now.first_place c.args.notes.now c.is_refuted_as_noted.new.notes (g.N.View.family c.args.n.now) (g.N.View.family c.args.n.now) c.as_slice-literals.ensures c.is_refuted_as_noted.ensures.tells

pub returns-then-tie-slack-clause-forces : goal.returns-then-tie-slack-clause-forces
returns-then-tie-slack-clause-forces g c =
    let s = c.args.sum.now in
    let d : Tie = record { reach = 0; is_alone = false } in
    let h = read_tie s.ties c.as_slice-ties.result.now c.args.at d c.as_slice-ties.ensures (omega (arith, c.requires.there, c.requires.made.ties.same)) in
    none_forced c.args.core.now s (g.N.View.family c.args.n.now) c.args.at c.args.slack (short_tie c.args.core.now s (g.N.View.family c.args.n.now) c.args.at c.args.slack (slice_index_or c.as_slice-ties.result.now c.args.at d) h c.if-tie-slack.true)

pub returns-then-is_refuted_as_noted-clause-forces : goal.returns-then-is_refuted_as_noted-clause-forces
returns-then-is_refuted_as_noted-clause-forces g c =
    let s = c.args.sum.now in
    let t = some_there s.costs.literals c.args.at c.requires.there in
    let e = c.is_refuted_as_noted.ensures.refuted t.0 (ap (λ xs. slice_get xs c.args.at) c.as_slice-literals.ensures ∙ t.1) in
    none_forced c.args.core.now s (g.N.View.family c.args.n.now) c.args.at c.args.slack (refuted_one c.args.core.now s (g.N.View.family c.args.n.now) c.args.at c.args.slack t.0 t.1 (sym e ∙ c.if-is_refuted_as_noted.true))

pub force_alone-requires-clause-alone : goal.force_alone-requires-clause-alone
force_alone-requires-clause-alone g c =
    let s = c.args.sum.now in
    let d : Tie = record { reach = 0; is_alone = false } in
    let h = read_tie s.ties c.as_slice-ties.result.now c.args.at d c.as_slice-ties.ensures (omega (arith, c.requires.there, c.requires.made.ties.same)) in
    (c.requires.made.ties.each c.args.at (slice_index_or c.as_slice-ties.result.now c.args.at d) h).apart c.if-tie.true

pub force_alone-requires-clause-not_refuted : goal.force_alone-requires-clause-not_refuted
force_alone-requires-clause-not_refuted g c =
    let s = c.args.sum.now in
    λ l h. sym (c.is_refuted_as_noted.ensures.refuted l (ap (λ xs. slice_get xs c.args.at) c.as_slice-literals.ensures ∙ h)) ∙ c.if-is_refuted_as_noted.false

pub force_alone-requires-clause-dear : goal.force_alone-requires-clause-dear
force_alone-requires-clause-dear g c =
    let s = c.args.sum.now in
    let d : Tie = record { reach = 0; is_alone = false } in
    let h = read_tie s.ties c.as_slice-ties.result.now c.args.at d c.as_slice-ties.ensures (omega (arith, c.requires.there, c.requires.made.ties.same)) in
    read_dear c.args.core.now (g.N.View.family c.args.n.now) s c.args.at c.args.slack (slice_index_or c.as_slice-ties.result.now c.args.at d) c.requires.made h c.if-tie.true c.if-tie-slack.false c.requires.slack

pub returns-then-tie-clause-tells : goal.returns-then-tie-clause-tells
returns-then-tie-clause-tells g c =
    let core = c.args.core.now in
    let s = c.args.sum.now in
    let D = g.N.View.family c.args.n.now in
    let G = g.N.View.family c.force_alone.new.n in
    tells_left (means_sum core s) (is_over core s.costs) c.args.notes.now c.is_refuted_as_noted.new.notes D D G c.vars-vars.ensures.sets (left_at core s.costs D G c.args.at c.force_alone.result c.force_alone.ensures.settles)
    (tells_read core s.costs.literals c.as_slice-literals.result.now s.first_place c.args.notes.now c.is_refuted_as_noted.new.notes D D c.as_slice-literals.ensures c.is_refuted_as_noted.ensures.tells)

pub returns-clause-tells : goal.returns-clause-tells
returns-clause-tells g c =
    let core = c.args.core.now in
    let s = c.args.sum.now in
    let D = g.N.View.family c.args.n.now in
    let G = g.N.View.family c.force_by_values.new.n in
    tells_left (means_sum core s) (is_over core s.costs) c.args.notes.now c.is_refuted_as_noted.new.notes D D G c.vars-vars.ensures.sets (left_at core s.costs D G c.args.at c.force_by_values.result c.force_by_values.ensures.settles)
    (tells_read core s.costs.literals c.as_slice-literals.result.now s.first_place c.args.notes.now c.is_refuted_as_noted.new.notes D D c.as_slice-literals.ensures c.is_refuted_as_noted.ensures.tells)
