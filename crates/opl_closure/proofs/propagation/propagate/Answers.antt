use Rattle.std.proofs.Common.{◌∙◌, ◌<◌, get_or, false, refl, map, length, sym, ap, arith, length-set}
use Rattle.std.proofs.lemmas.List.{length-map}
use Rattle.opl_trace.proofs.Families.{below_join}
use Rattle.opl_filter.proofs.Removals.{left_sets, left_below}
use Rattle.opl_notes.proofs.Rightness.{knows_less, knows_on, tells_on, tells_more}
use Rattle.opl_closure.specs.Waits.{waits, watches}
use Rattle.opl_closure.specs.Members.{refutes_one, Each}
use Rattle.opl_closure.proofs.Closing.{closes_stable, closes_failed, kept_left}
use Rattle.opl_closure.proofs.Turns.{turn_ends, wait_next, wait_failed, left_next, member_fails, rounds_done, between_now, here_is, same_after, each_set, each_at, settled, same_test}
use Rattle.opl_closure.proofs.propagation.propagate.Goals as goal

pub returns-in-None-clause-between : goal.returns-in-None-clause-between
returns-in-None-clause-between g c =
    between_now (map (λ f. g.F.Propagator.constraint f c.args.core.now) c.args.filters.now) _ _ c.vars-vars.ensures.sets c.loop-i.invariant.left

pub returns-in-None-clause-outcome : goal.returns-in-None-clause-outcome
returns-in-None-clause-outcome g c =
    let ms = map (λ f. g.F.Propagator.constraint f c.args.core.now) c.args.filters.now in
    let f = left_sets (refutes_one ms) _ _ c.vars-vars.ensures.sets c.loop-i.invariant.left in
    rounds_done ms c.loop-i.waiting _ _ f c.loop-i.invariant.left c.loop-i.invariant.wait c.in-None.ensures.1

pub returns-in-None-clause-wait : goal.returns-in-None-clause-wait
returns-in-None-clause-wait g c =
    λ j a e q. c.loop-i.invariant.wait j a e (sym (ap (λ w. waits w j) c.in-None.ensures.0) ∙ q)

pub run-requires-clause-made : goal.run-requires-clause-made
run-requires-clause-made g c =
    let ms = map (λ f. g.F.Propagator.constraint f c.args.core.now) c.args.filters.now in
    let i = c.in-Some.i in
    let l : i < length c.loop-i.filters = omega (arith, c.in-Some.ensures.0, c.loop-i.invariant.waits, c.requires.many.0, c.loop-i.invariant.long) in
    let first = here_is (λ f. g.F.Propagator.constraint f c.args.core.now) c.loop-i.filters ms i c.index-filters-i.result c.loop-i.invariant.same l in
    each_at (λ j f. g.F.Propagator.is_made_with f c.args.core.now) c.loop-i.filters i c.index-filters-i.result c.loop-i.invariant.made l

pub run-requires-clause-knows : goal.run-requires-clause-knows
run-requires-clause-knows g c =
    let i = c.in-Some.i in
    let l : i < length c.loop-i.filters = omega (arith, c.in-Some.ensures.0, c.loop-i.invariant.waits, c.requires.many.0, c.loop-i.invariant.long) in
    knows_less (λ facts places. Each (λ i f. g.F.Propagator.means f c.args.core.now facts places) c.args.filters.now) (g.F.Propagator.means (get_or c.loop-i.filters i c.index-filters-i.result) c.args.core.now) c.loop-i.notes.top (g.N.View.family c.loop-i.n)
    (λ facts places h. each_at (λ j f. g.F.Propagator.means f c.args.core.now facts places) c.loop-i.filters i c.index-filters-i.result (c.loop-i.invariant.means facts places h) l)
    (knows_on (λ facts places. Each (λ i f. g.F.Propagator.means f c.args.core.now facts places) c.args.filters.now) c.args.notes.now (g.N.View.family c.args.n.now) c.loop-i.notes (g.N.View.family c.loop-i.n) c.requires.knows c.loop-i.invariant.tells)

pub run-requires-clause-declared : goal.run-requires-clause-declared
run-requires-clause-declared g c =
    let ms = map (λ f. g.F.Propagator.constraint f c.args.core.now) c.args.filters.now in
    below_join _ _ _ (left_below (refutes_one ms) _ _ c.loop-i.invariant.left) c.requires.declared

pub returns-in-Failed-clause-between : goal.returns-in-Failed-clause-between
returns-in-Failed-clause-between g c =
    let ms = map (λ f. g.F.Propagator.constraint f c.args.core.now) c.args.filters.now in
    let i = c.in-Some.i in
    let l : i < length c.loop-i.filters = omega (arith, c.in-Some.ensures.0, c.loop-i.invariant.waits, c.requires.many.0, c.loop-i.invariant.long) in
    let first = here_is (λ f. g.F.Propagator.constraint f c.args.core.now) c.loop-i.filters ms i c.index-filters-i.result c.loop-i.invariant.same l in
    let h = first in
    between_now ms _ _ c.vars-vars.ensures.sets (left_next ms _ _ _ _ i h c.loop-i.invariant.left c.run.ensures.between)

pub returns-in-Failed-clause-outcome : goal.returns-in-Failed-clause-outcome
returns-in-Failed-clause-outcome g c =
    let ms = map (λ f. g.F.Propagator.constraint f c.args.core.now) c.args.filters.now in
    let i = c.in-Some.i in
    let l : i < length c.loop-i.filters = omega (arith, c.in-Some.ensures.0, c.loop-i.invariant.waits, c.requires.many.0, c.loop-i.invariant.long) in
    let first = here_is (λ f. g.F.Propagator.constraint f c.args.core.now) c.loop-i.filters ms i c.index-filters-i.result c.loop-i.invariant.same l in
    let h = first in
    member_fails ms _ _ (g.N.View.family c.loop-i.n) i h c.loop-i.invariant.left c.in-Failed.ensures.outcome

pub returns-in-Failed-clause-same : goal.returns-in-Failed-clause-same
returns-in-Failed-clause-same g c =
    same_after (λ f. g.F.Propagator.constraint f c.args.core.now) c.loop-i.filters c.in-Some.i c.index-filters-i.result c.run.new.filter (c.run.ensures.constraint c.args.core.now) ∙ c.loop-i.invariant.same

pub returns-in-Failed-clause-woken_by : goal.returns-in-Failed-clause-woken_by
returns-in-Failed-clause-woken_by g c =
    same_after g.F.Propagator.woken_by c.loop-i.filters c.in-Some.i c.index-filters-i.result c.run.new.filter (same_test _ _ (λ x. c.run.ensures.woken_by x)) ∙ c.loop-i.invariant.woken_by

pub returns-in-Failed-clause-woken_by_ends : goal.returns-in-Failed-clause-woken_by_ends
returns-in-Failed-clause-woken_by_ends g c =
    same_after g.F.Propagator.woken_by_ends c.loop-i.filters c.in-Some.i c.index-filters-i.result c.run.new.filter (same_test _ _ (λ x. c.run.ensures.woken_by_ends x)) ∙ c.loop-i.invariant.woken_by_ends

pub returns-in-Failed-clause-kinds : goal.returns-in-Failed-clause-kinds
returns-in-Failed-clause-kinds g c =
    same_after g.F.Propagator.kind c.loop-i.filters c.in-Some.i c.index-filters-i.result c.run.new.filter c.run.ensures.kind ∙ c.loop-i.invariant.kinds

pub returns-in-Failed-clause-made : goal.returns-in-Failed-clause-made
returns-in-Failed-clause-made g c =
    let ms = map (λ f. g.F.Propagator.constraint f c.args.core.now) c.args.filters.now in
    let i = c.in-Some.i in
    let l : i < length c.loop-i.filters = omega (arith, c.in-Some.ensures.0, c.loop-i.invariant.waits, c.requires.many.0, c.loop-i.invariant.long) in
    let first = here_is (λ f. g.F.Propagator.constraint f c.args.core.now) c.loop-i.filters ms i c.index-filters-i.result c.loop-i.invariant.same l in
    each_set (λ j f. g.F.Propagator.is_made_with f c.args.core.now) c.loop-i.filters c.in-Some.i c.run.new.filter (c.run.ensures.core c.args.core.now (each_at (λ j f. g.F.Propagator.is_made_with f c.args.core.now) c.loop-i.filters c.in-Some.i c.index-filters-i.result c.loop-i.invariant.made l)) (λ j a n e. c.loop-i.invariant.made j a e)

pub returns-in-Failed-clause-tells : goal.returns-in-Failed-clause-tells
returns-in-Failed-clause-tells g c =
    let i = c.in-Some.i in
    let l : i < length c.loop-i.filters = omega (arith, c.in-Some.ensures.0, c.loop-i.invariant.waits, c.requires.many.0, c.loop-i.invariant.long) in
    tells_on (λ facts places. Each (λ i f. g.F.Propagator.means f c.args.core.now facts places) c.args.filters.now) c.args.notes.now (g.N.View.family c.args.n.now) c.loop-i.notes (g.N.View.family c.loop-i.n) c.run.new.notes (g.N.View.family c.run.new.n) c.loop-i.invariant.tells
    (tells_more (g.F.Propagator.means (get_or c.loop-i.filters c.in-Some.i c.index-filters-i.result) c.args.core.now) (λ facts places. Each (λ i f. g.F.Propagator.means f c.args.core.now facts places) c.args.filters.now) c.loop-i.notes (g.N.View.family c.loop-i.n) c.run.new.notes (g.N.View.family c.run.new.n)
    (λ facts places h. each_at (λ j f. g.F.Propagator.means f c.args.core.now facts places) c.loop-i.filters c.in-Some.i c.index-filters-i.result (c.loop-i.invariant.means facts places h) l) c.run.ensures.tells)

pub returns-in-Failed-clause-means : goal.returns-in-Failed-clause-means
returns-in-Failed-clause-means g c =
    let i = c.in-Some.i in
    let l : i < length c.loop-i.filters = omega (arith, c.in-Some.ensures.0, c.loop-i.invariant.waits, c.requires.many.0, c.loop-i.invariant.long) in
    λ facts places h. each_set (λ j f. g.F.Propagator.means f c.args.core.now facts places) c.loop-i.filters c.in-Some.i c.run.new.filter (c.run.ensures.means c.args.core.now facts places (each_at (λ j f. g.F.Propagator.means f c.args.core.now facts places) c.loop-i.filters c.in-Some.i c.index-filters-i.result (c.loop-i.invariant.means facts places h) l)) (λ j a n e. c.loop-i.invariant.means facts places h j a e)

pub returns-in-Failed-clause-wait : goal.returns-in-Failed-clause-wait
returns-in-Failed-clause-wait g c =
    let ms = map (λ f. g.F.Propagator.constraint f c.args.core.now) c.args.filters.now in
    let i = c.in-Some.i in
    let l : i < length c.loop-i.filters = omega (arith, c.in-Some.ensures.0, c.loop-i.invariant.waits, c.requires.many.0, c.loop-i.invariant.long) in
    let first = here_is (λ f. g.F.Propagator.constraint f c.args.core.now) c.loop-i.filters ms i c.index-filters-i.result c.loop-i.invariant.same l in
    let h = first in
    let sets = left_sets (refutes_one ms) _ _ c.vars-vars.ensures.sets (left_next ms _ _ _ _ i h c.loop-i.invariant.left c.run.ensures.between) in
    let long = c.run.ensures.wakes.same ∙ ap length c.in-Some.ensures.2 ∙ length-set c.loop-i.waiting i false in
    rw c.wake.ensures (wait_failed (length (g.N.View.family c.loop-i.n)) c.args.watchers.now c.args.end_watchers.now ms c.loop-i.waiting c.take.new.self c.run.new.waiting (g.N.View.family c.loop-i.n) (g.N.View.family c.run.new.n) i (c.loop-i.invariant.waits ∙ c.requires.many.0 ∙ sym (length-map c.args.filters.now (λ f. g.F.Propagator.constraint f c.args.core.now))) refl (settled (length (g.N.View.family c.loop-i.n)) c.args.watchers.now c.args.end_watchers.now c.args.filters.now (λ f. g.F.Propagator.constraint f c.args.core.now) g.F.Propagator.woken_by g.F.Propagator.woken_by_ends (λ f. g.F.Propagator.is_made_with f c.args.core.now) (λ f F G made wide. g.met.F.Propagator.rests f c.args.core.now F G made (wide ∙ (left_below (refutes_one ms) _ _ c.loop-i.invariant.left).same ∙ c.requires.declared.same)) c.requires.made c.requires.watched c.requires.watched_ends) sets.full (omega (arith, long, c.in-Some.ensures.0)) c.in-Some.ensures.2 c.loop-i.invariant.wait c.run.ensures.wakes)

pub returns-in-None-clause-closes : goal.returns-in-None-clause-closes
returns-in-None-clause-closes g c =
    let ms = map (λ f. g.F.Propagator.constraint f c.args.core.now) c.args.filters.now in
    let f = left_sets (refutes_one ms) _ _ c.vars-vars.ensures.sets c.loop-i.invariant.left in
    let s = rounds_done ms c.loop-i.waiting (g.N.View.family c.args.n.now) _ f c.loop-i.invariant.left c.loop-i.invariant.wait c.in-None.ensures.1 in
    λ D k. closes_stable ms D _ _ k c.loop-i.invariant.left s.is_stable.stable

pub returns-in-None-clause-kept : goal.returns-in-None-clause-kept
returns-in-None-clause-kept g c =
    λ D k. kept_left (map (λ f. g.F.Propagator.constraint f c.args.core.now) c.args.filters.now) D _ _ k c.loop-i.invariant.left

pub returns-in-Failed-clause-closes : goal.returns-in-Failed-clause-closes
returns-in-Failed-clause-closes g c =
    let ms = map (λ f. g.F.Propagator.constraint f c.args.core.now) c.args.filters.now in
    let i = c.in-Some.i in
    let l : i < length c.loop-i.filters = omega (arith, c.in-Some.ensures.0, c.loop-i.invariant.waits, c.requires.many.0, c.loop-i.invariant.long) in
    let first = here_is (λ f. g.F.Propagator.constraint f c.args.core.now) c.loop-i.filters ms i c.index-filters-i.result c.loop-i.invariant.same l in
    let h = first in
    λ D k. closes_failed ms D _ k (member_fails ms _ (g.N.View.family c.args.n.now) (g.N.View.family c.loop-i.n) i h c.loop-i.invariant.left c.in-Failed.ensures.outcome)

pub returns-in-Failed-clause-kept : goal.returns-in-Failed-clause-kept
returns-in-Failed-clause-kept g c =
    let ms = map (λ f. g.F.Propagator.constraint f c.args.core.now) c.args.filters.now in
    let i = c.in-Some.i in
    let l : i < length c.loop-i.filters = omega (arith, c.in-Some.ensures.0, c.loop-i.invariant.waits, c.requires.many.0, c.loop-i.invariant.long) in
    let first = here_is (λ f. g.F.Propagator.constraint f c.args.core.now) c.loop-i.filters ms i c.index-filters-i.result c.loop-i.invariant.same l in
    let h = first in
    λ D k. kept_left ms D _ _ k (left_next ms _ _ _ _ i h c.loop-i.invariant.left c.run.ensures.between)

pub loop-i-smaller : goal.loop-i-smaller
loop-i-smaller g c =
    rw c.done.ensures (turn_ends (g.N.View.family c.loop-i.n) (g.N.View.family c.run.new.n) c.loop-i.waiting c.take.new.self c.run.new.waiting c.in-Some.i (watches c.args.watchers.now) (watches c.args.end_watchers.now) c.in-Some.ensures.0 c.in-Some.ensures.1 c.in-Some.ensures.2 c.run.ensures.wakes)

pub loop-i-preserved : goal.loop-i-preserved
loop-i-preserved g c =
    let ms = map (λ f. g.F.Propagator.constraint f c.args.core.now) c.args.filters.now in
    let i = c.in-Some.i in
    let l : i < length c.loop-i.filters = omega (arith, c.in-Some.ensures.0, c.loop-i.invariant.waits, c.requires.many.0, c.loop-i.invariant.long) in
    let first = here_is (λ f. g.F.Propagator.constraint f c.args.core.now) c.loop-i.filters ms i c.index-filters-i.result c.loop-i.invariant.same l in
    let h = first in
    let left = left_next ms _ _ _ _ i h c.loop-i.invariant.left c.run.ensures.between in
    let sets = left_sets (refutes_one ms) _ _ c.vars-vars.ensures.sets left in
    record {
      left = left;
      same = same_after (λ f. g.F.Propagator.constraint f c.args.core.now) c.loop-i.filters c.in-Some.i c.index-filters-i.result c.run.new.filter (c.run.ensures.constraint c.args.core.now) ∙ c.loop-i.invariant.same;
      made = each_set (λ j f. g.F.Propagator.is_made_with f c.args.core.now) c.loop-i.filters c.in-Some.i c.run.new.filter (c.run.ensures.core c.args.core.now (each_at (λ j f. g.F.Propagator.is_made_with f c.args.core.now) c.loop-i.filters c.in-Some.i c.index-filters-i.result c.loop-i.invariant.made l)) (λ j a n e. c.loop-i.invariant.made j a e);
      tells = tells_on (λ facts places. Each (λ i f. g.F.Propagator.means f c.args.core.now facts places) c.args.filters.now) c.args.notes.now (g.N.View.family c.args.n.now) c.loop-i.notes (g.N.View.family c.loop-i.n) c.run.new.notes (g.N.View.family c.run.new.n) c.loop-i.invariant.tells
          (tells_more (g.F.Propagator.means (get_or c.loop-i.filters c.in-Some.i c.index-filters-i.result) c.args.core.now) (λ facts places. Each (λ i f. g.F.Propagator.means f c.args.core.now facts places) c.args.filters.now) c.loop-i.notes (g.N.View.family c.loop-i.n) c.run.new.notes (g.N.View.family c.run.new.n)
          (λ facts places h. each_at (λ j f. g.F.Propagator.means f c.args.core.now facts places) c.loop-i.filters c.in-Some.i c.index-filters-i.result (c.loop-i.invariant.means facts places h) l) c.run.ensures.tells);
      means = λ facts places h. each_set (λ j f. g.F.Propagator.means f c.args.core.now facts places) c.loop-i.filters c.in-Some.i c.run.new.filter (c.run.ensures.means c.args.core.now facts places (each_at (λ j f. g.F.Propagator.means f c.args.core.now facts places) c.loop-i.filters c.in-Some.i c.index-filters-i.result (c.loop-i.invariant.means facts places h) l)) (λ j a n e. c.loop-i.invariant.means facts places h j a e);
      woken_by = same_after g.F.Propagator.woken_by c.loop-i.filters c.in-Some.i c.index-filters-i.result c.run.new.filter (same_test _ _ (λ x. c.run.ensures.woken_by x)) ∙ c.loop-i.invariant.woken_by;
      woken_by_ends = same_after g.F.Propagator.woken_by_ends c.loop-i.filters c.in-Some.i c.index-filters-i.result c.run.new.filter (same_test _ _ (λ x. c.run.ensures.woken_by_ends x)) ∙ c.loop-i.invariant.woken_by_ends;
      kinds = same_after g.F.Propagator.kind c.loop-i.filters c.in-Some.i c.index-filters-i.result c.run.new.filter c.run.ensures.kind ∙ c.loop-i.invariant.kinds;
      long = length-set c.loop-i.filters i c.run.new.filter ∙ c.loop-i.invariant.long;
      waits = ap length c.done.ensures ∙ length-set c.run.new.waiting i false ∙ c.run.ensures.wakes.same ∙ ap length c.in-Some.ensures.2 ∙ length-set c.loop-i.waiting i false ∙ c.loop-i.invariant.waits;
      wait = rw c.done.ensures (wait_next (length (g.N.View.family c.loop-i.n)) c.args.watchers.now c.args.end_watchers.now ms _ c.loop-i.waiting c.take.new.self c.run.new.waiting (g.N.View.family c.loop-i.n) (g.N.View.family c.run.new.n) i (c.loop-i.invariant.waits ∙ c.requires.many.0 ∙ sym (length-map c.args.filters.now (λ f. g.F.Propagator.constraint f c.args.core.now))) refl (settled (length (g.N.View.family c.loop-i.n)) c.args.watchers.now c.args.end_watchers.now c.args.filters.now (λ f. g.F.Propagator.constraint f c.args.core.now) g.F.Propagator.woken_by g.F.Propagator.woken_by_ends (λ f. g.F.Propagator.is_made_with f c.args.core.now) (λ f F G made wide. g.met.F.Propagator.rests f c.args.core.now F G made (wide ∙ (left_below (refutes_one ms) _ _ c.loop-i.invariant.left).same ∙ c.requires.declared.same)) c.requires.made c.requires.watched c.requires.watched_ends) sets.full h c.in-Some.ensures.2 c.loop-i.invariant.wait c.run.ensures.wakes c.in-Stable.ensures.outcome.is_stable.stable);
      leads = g.met.N.Narrow.leads_on _ _ _ c.loop-i.invariant.leads c.run.ensures.leads_to;
    }
