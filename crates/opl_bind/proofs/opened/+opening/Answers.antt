use Rattle.std.proofs.Common.{◌+◌, ◌∷◌, [], Bor, Global, List, Ok, Option, Vec, ap, arith, drop, length, map, rules, sym, ◌∙◌}
use Rattle.opl_term.specs.declared.term.Term.{Term}
use Rattle.std.proofs.lemmas.List.{nil_from_length}
use Rattle.std.specs.Prelude.{nat_eq}
use Rattle.opl_given.specs.declared.fault.BindFault.TheVariants.{Shape}
use Rattle.opl_given.specs.Arrays.{values_of}
use Rattle.opl_bind.specs.Cells.{fits, fits_at, terms_at}
use Rattle.opl_given.specs.Faults.{found, provided, then}
use Rattle.opl_given.specs.Readings.{axis_of, known_of, lent}
use Rattle.opl_bind.specs.Scopes.{names_in}
use Rattle.opl_bind.specs.Written as spec
use Rattle.opl_bind.proofs.Answering.{gives_same}
use Rattle.opl_bind.proofs.CellSlots.{free_slots-are, gives_mapped, keyed-found, laid-at, laid_cells-fault, laid_more, laid_place-fault}
use Rattle.opl_bind.proofs.WrittenLayers.{cells-KeyedArray, cells-none, no_cells}
use Rattle.opl_bind.proofs.opened.+opening.Goals as goal

pub cells_of-returns-in_ok-single-in-None : goal.cells_of-returns-in_ok-single-in-None
cells_of-returns-in_ok-single-in-None t c =
    let known = known_of c.args.opening.types.now in
    let wrong = Shape 0 c.args.opening.at in
    let env = names_in c.args.opening.scope in
    ap (λ axes. (spec.written known c.args.term.now).cells wrong (map axis_of axes) env) (nil_from_length c.args.axes.now c.in-None.ensures.cases)
    ∙ cells-none known c.args.term.now wrong env ∙ ap (λ ts. Ok (fits known ts)) (sym c.in_ok-single-in-None.ensures)

pub cells_over-returns-in-Number : goal.cells_over-returns-in-Number
cells_over-returns-in-Number t c = grind (arith, no_cells)

pub cells_over-returns-in-Named : goal.cells_over-returns-in-Named
cells_over-returns-in-Named t c = grind (arith, no_cells)

pub cells_over-returns-in-Bracket : goal.cells_over-returns-in-Bracket
cells_over-returns-in-Bracket t c = grind (arith, no_cells)

pub cells_over-returns-in-Negative : goal.cells_over-returns-in-Negative
cells_over-returns-in-Negative t c = grind (arith, no_cells)

pub cells_over-returns-in-Chain : goal.cells_over-returns-in-Chain
cells_over-returns-in-Chain t c = grind (arith, no_cells)

pub cells_over-returns-in-Related : goal.cells_over-returns-in-Related
cells_over-returns-in-Related t c = grind (arith, no_cells)

pub cells_over-returns-in-Member : goal.cells_over-returns-in-Member
cells_over-returns-in-Member t c = grind (arith, no_cells)

pub cells_over-returns-in-Equivalent : goal.cells_over-returns-in-Equivalent
cells_over-returns-in-Equivalent t c = grind (arith, no_cells)

pub cells_over-returns-in-Implied : goal.cells_over-returns-in-Implied
cells_over-returns-in-Implied t c = grind (arith, no_cells)

pub cells_over-returns-in-Or : goal.cells_over-returns-in-Or
cells_over-returns-in-Or t c = grind (arith, no_cells)

pub cells_over-returns-in-And : goal.cells_over-returns-in-And
cells_over-returns-in-And t c = grind (arith, no_cells)

pub cells_over-returns-in-Not : goal.cells_over-returns-in-Not
cells_over-returns-in-Not t c = grind (arith, no_cells)

pub cells_over-returns-in-Aggregate : goal.cells_over-returns-in-Aggregate
cells_over-returns-in-Aggregate t c = grind (arith, no_cells)

pub cells_over-returns-in-Call : goal.cells_over-returns-in-Call
cells_over-returns-in-Call t c = grind (arith, no_cells)

pub cells_over-returns-in-AllDifferent : goal.cells_over-returns-in-AllDifferent
cells_over-returns-in-AllDifferent t c = grind (arith, no_cells)

pub cells_over-returns-in-Question : goal.cells_over-returns-in-Question
cells_over-returns-in-Question t c = grind (arith, no_cells)

pub cells_over-returns-in-Element : goal.cells_over-returns-in-Element
cells_over-returns-in-Element t c = grind (arith, no_cells)

pub cells_over-returns-in-Fields : goal.cells_over-returns-in-Fields
cells_over-returns-in-Fields t c = grind (arith, no_cells)

pub cells_over-returns-in-Record : goal.cells_over-returns-in-Record
cells_over-returns-in-Record t c = grind (arith, no_cells)

pub cells_over-returns-in-Listed : goal.cells_over-returns-in-Listed
cells_over-returns-in-Listed t c = grind (arith, no_cells)

pub cells_over-returns-in-Described : goal.cells_over-returns-in-Described
cells_over-returns-in-Described t c = grind (arith, no_cells)

pub cells_over-returns-in-KeyedArray : goal.cells_over-returns-in-KeyedArray
cells_over-returns-in-KeyedArray t c =
    let known = known_of c.args.opening.types.now in
    let wrong = Shape 0 c.args.opening.at in
    let env = names_in c.args.opening.scope in
    let axis = axis_of c.args.axis.now in
    let axes = map axis_of c.args.axes.now in
    gives_same (λ cells. fits known (lent cells)) _ _ c.keyed.result
    (ap (λ u. (spec.written known u).cells wrong (axis ∷ axes) env) c.in-KeyedArray.is
    ∙ cells-KeyedArray known c.in-KeyedArray.field-0 c.in-KeyedArray.keys c.in-KeyedArray.cells wrong axis axes env
    ∙ ap (λ ks. provided (nat_eq (length ks) (length (values_of axis))) wrong (then (spec.laid wrong axis axes env (spec.free_slots (map (spec.written known) ks)) (map (spec.written known) ks) (map (spec.written known) c.in-KeyedArray.cells)) (spec.gathered wrong []))) (sym c.as_slice-in-KeyedArray.ensures)
    ∙ ap (λ cs. provided (nat_eq (length c.as_slice-in-KeyedArray.result.now) (length (values_of axis))) wrong (then (spec.laid wrong axis axes env (spec.free_slots (map (spec.written known) c.as_slice-in-KeyedArray.result.now)) (map (spec.written known) c.as_slice-in-KeyedArray.result.now) (map (spec.written known) cs)) (spec.gathered wrong []))) (sym c.as_slice-in-KeyedArray-2.ensures))
    c.keyed.ensures

pub keyed-returns : goal.keyed-returns
keyed-returns t c =
    let known = known_of c.args.opening.types.now in
    let wrong = Shape 0 c.args.opening.at in
    let env = names_in c.args.opening.scope in
    let axis = axis_of c.args.axis.now in
    let axes = map axis_of c.args.axes.now in
    let keys = map (spec.written known) c.args.keys.now in
    gives_same (λ cells. fits known (lent cells)) _ (found (fits known) (spec.gathered wrong [] (terms_at c.as_slice.result.now))) c.gathered.result
    (keyed-found known wrong axis (spec.laid wrong axis axes env (spec.free_slots keys) keys (map (spec.written known) c.args.cells.now)) c.args.keys.now (terms_at c.as_slice.result.now)
    (cc) (c.in_ok-slots.ensures ∙ ap (λ s. Ok (fits_at known (terms_at s))) (sym c.as_slice.ensures.value)))
    (gives_mapped (fits known) lent (spec.gathered wrong [] (terms_at c.as_slice.result.now)) c.gathered.result c.gathered.ensures)

pub laid-loop-key-init : goal.laid-loop-key-init
laid-loop-key-init t c =
    let known = known_of c.args.opening.types.now in
    let keys = map (spec.written known) c.args.keys.now in
    ap (λ s. spec.laid (Shape 0 c.args.opening.at) (axis_of c.args.axis.now) (map axis_of c.args.axes.now) (names_in c.args.opening.scope) s keys (map (spec.written known) c.args.cells.now))
    (sym (free_slots-are known c.args.keys.now) ∙ ap (fits_at known) (sym c.in_ok-slots.ensures))

pub laid-returns-in_err-place : goal.laid-returns-in_err-place
laid-returns-in_err-place t c =
    let known = known_of c.args.opening.types.now in
    let wrong = Shape 0 c.args.opening.at in
    let env = names_in c.args.opening.scope in
    let axis = axis_of c.args.axis.now in
    let axes = map axis_of c.args.axes.now in
    let ks = map (spec.written known) c.args.keys.now in
    let all = spec.laid wrong axis axes env (spec.free_slots ks) ks (map (spec.written known) c.args.cells.now) in
    let slots = terms_at c.as_slice.result.now in
    let behind = drop (c.loop-key.key-index + 1) c.args.keys.now in
    let so_far = laid-at known wrong axis axes env all (terms_at c.loop-key.slots.items) slots c.args.keys.now c.loop-key.left.now c.loop-key.key-index c.key-item.result c.in-Some.cell.now c.in-Some.others.now
    c.loop-key.invariant (ap terms_at c.as_slice.ensures.value) c.loop-key-test.true c.key-item.is c.in-Some.ensures.cases.0 in
    let h = laid_place-fault known wrong axis axes env all slots c.key-item.result c.in-Some.cell.now behind c.in-Some.others.now so_far
    (λ (found : Vec (Option (List (Bor Term))) Global). fits_at known (terms_at found.items)) c.in_err-place.field-0.0 c.in_err-place.ensures in
    search rules

pub laid-returns-in_err-more : goal.laid-returns-in_err-more
laid-returns-in_err-more t c =
    let known = known_of c.args.opening.types.now in
    let wrong = Shape 0 c.args.opening.at in
    let env = names_in c.args.opening.scope in
    let axis = axis_of c.args.axis.now in
    let axes = map axis_of c.args.axes.now in
    let ks = map (spec.written known) c.args.keys.now in
    let all = spec.laid wrong axis axes env (spec.free_slots ks) ks (map (spec.written known) c.args.cells.now) in
    let slots = terms_at c.as_slice.result.now in
    let behind = drop (c.loop-key.key-index + 1) c.args.keys.now in
    let so_far = laid-at known wrong axis axes env all (terms_at c.loop-key.slots.items) slots c.args.keys.now c.loop-key.left.now c.loop-key.key-index c.key-item.result c.in-Some.cell.now c.in-Some.others.now
    c.loop-key.invariant (ap terms_at c.as_slice.ensures.value) c.loop-key-test.true c.key-item.is c.in-Some.ensures.cases.0 in
    let h = laid_cells-fault known wrong axis axes env all slots c.key-item.result c.in-Some.cell.now behind c.in-Some.others.now so_far
    (λ (found : Vec (Option (List (Bor Term))) Global). fits_at known (terms_at found.items)) (λ (cells : List (Bor Term)). fits known (lent cells)) c.in_ok-place.place c.in_err-more.field-0.0 c.in_ok-place.ensures c.in_err-more.ensures in
    search rules

pub laid-loop-key-preserved : goal.laid-loop-key-preserved
laid-loop-key-preserved t c =
    let known = known_of c.args.opening.types.now in
    let wrong = Shape 0 c.args.opening.at in
    let env = names_in c.args.opening.scope in
    let axis = axis_of c.args.axis.now in
    let axes = map axis_of c.args.axes.now in
    let ks = map (spec.written known) c.args.keys.now in
    let all = spec.laid wrong axis axes env (spec.free_slots ks) ks (map (spec.written known) c.args.cells.now) in
    let slots = terms_at c.as_slice.result.now in
    let behind = drop (c.loop-key.key-index + 1) c.args.keys.now in
    let so_far = laid-at known wrong axis axes env all (terms_at c.loop-key.slots.items) slots c.args.keys.now c.loop-key.left.now c.loop-key.key-index c.key-item.result c.in-Some.cell.now c.in-Some.others.now
    c.loop-key.invariant (ap terms_at c.as_slice.ensures.value) c.loop-key-test.true c.key-item.is c.in-Some.ensures.cases.0 in
    laid_more known wrong axis axes env all slots c.key-item.result c.in-Some.cell.now behind c.in-Some.others.now so_far
    c.in_ok-place.place (lent c.in_ok-more.more) (terms_at c.with_slot-slots.result.items) c.in_ok-place.ensures c.in_ok-more.ensures
    (c.with_slot-slots.ensures ∙ ap (λ s. spec.with_slot s c.in_ok-place.place (lent c.in_ok-more.more)) (sym (ap terms_at c.as_slice.ensures.value)))
