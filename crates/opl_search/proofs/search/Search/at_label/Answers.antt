use Rattle.std.proofs.Common.{◌≡◌, ◌∙◌, ◌+◌, ◌<◌, ◌≤◌, ◌∷◌, true, false, ap, sym, subst, arith, refl, length, reverse, drop, slice_index_or}
use Rattle.opl_trace.specs.Answers.{is_single}
use Rattle.opl_steps.specs.Tasks.Task.{values}
use Rattle.opl_turns.specs.Covered.{Covers}
use Rattle.opl_turns.specs.Weights.{weight_at}
use Rattle.opl_turns.proofs.Covered.{covers_none}
use Rattle.opl_search.specs.Tails.{tail_of}
use Rattle.opl_search.specs.Pending.{places}
use Rattle.opl_search.proofs.Parts.{tail_label, drop_at, drop_full}
use Rattle.opl_search.proofs.Places.{goes_same, goes_from, labelled_all, labelled_single, labelled_values}
use Rattle.opl_search.proofs.Covers.{covers_left}
use Rattle.opl_search.proofs.search.Search.at_label.Goals as goal

pub returns-then-place-all-clause-goes : goal.returns-then-place-all-clause-goes
returns-then-place-all-clause-goes g c =
    let m = c.args.self.now in
    let s = g.S.Solver.state m.solver in
    let os = reverse m.opens.items in
    let xs = c.args.variables.value in
    let us = tail_of c.args.rest.value in
    let all = c.as_slice-all.ensures ∙ c.deref.ensures in
    let len : length xs ≤ c.args.place = rw all at c.if-place-all.true in
    let none = drop_full c.args.place xs len in
    let tail = c.in_ok-tail.ensures ∙ ap tail_of c.deref-then-place-all.ensures in
    goes_same m.left refl refl (labelled_all s os m.left c.requires.moment (drop c.args.place xs) us c.in_ok-tail.tail none tail) c.requires.opens
    (c.requires.moment, subst (Covers s.sets) (sym tail) (covers_none s.sets us (subst (λ ys. Covers s.sets (values ys ∷ us)) none c.requires.covers)))

pub returns-then-is_single-clause-goes : goal.returns-then-is_single-clause-goes
returns-then-is_single-clause-goes g c =
    let m = c.args.self.now in
    let s = g.S.Solver.state m.solver in
    let os = reverse m.opens.items in
    let xs = c.args.variables.value in
    let us = tail_of c.args.rest.value in
    let all = c.as_slice-all.ensures ∙ c.deref.ensures in
    let lt : c.args.place < length xs = rw all at c.if-place-all.false in
    let x = slice_index_or xs c.args.place 0 in
    let first = drop_at c.args.place xs lt in
    let asked = rw (all, g.met.S.Solver.sees m.solver) at c.is_single.ensures in
    let one : is_single s.sets x ≡ true = sym asked ∙ c.if-is_single.true in
    let tail = tail_label c.args.variables (c.args.place + 1) c.args.rest in
    goes_same m.left refl refl (labelled_single s os m.left c.requires.moment (drop c.args.place xs) (drop (c.args.place + 1) xs) x us _ first one tail) c.requires.opens
    (c.requires.moment, subst (Covers s.sets) (sym tail) (covers_left s.sets x (drop c.args.place xs) (drop (c.args.place + 1) xs) us first one c.requires.covers))

pub returns-then-is_single-clause-less : goal.returns-then-is_single-clause-less
returns-then-is_single-clause-less g c =
    let m = c.args.self.now in
    let s = g.S.Solver.state m.solver in
    let ps = places (reverse m.opens.items) s.levels in
    let xs = c.args.variables.value in
    let us = tail_of c.args.rest.value in
    let all = c.as_slice-all.ensures ∙ c.deref.ensures in
    let lt : c.args.place < length xs = rw all at c.if-place-all.false in
    let before = ap (λ ys. weight_at (values ys ∷ us) ps m.left) (drop_at c.args.place xs lt) in
    let behind = ap (λ ts. weight_at ts ps m.left) (tail_label c.args.variables (c.args.place + 1) c.args.rest) in
    λ e. omega (arith, before, behind)

pub returns-clause-goes : goal.returns-clause-goes
returns-clause-goes g c =
    let m = c.args.self.now in
    let s = g.S.Solver.state m.solver in
    let os = reverse m.opens.items in
    let xs = c.args.variables.value in
    let us = tail_of c.args.rest.value in
    let all = c.as_slice-all.ensures ∙ c.deref.ensures in
    let lt : c.args.place < length xs = rw all at c.if-place-all.false in
    let x = slice_index_or xs c.args.place 0 in
    let asked = rw (all, g.met.S.Solver.sees m.solver) at c.is_single.ensures in
    let one : is_single s.sets x ≡ false = sym asked ∙ c.if-is_single.false in
    let went = rw all at c.in_ok-turn.ensures.goes in
    goes_from (labelled_values s os m.left c.requires.moment (drop c.args.place xs) (drop (c.args.place + 1) xs) x us (drop_at c.args.place xs lt) one) went
