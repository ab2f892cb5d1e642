use Rattle.std.proofs.Common.{◌≡◌, ◌<◌, ◌-◌, ◌+◌, [], take, drop, ap, sym, ◌∙◌, subst, arith, refl}
use Rattle.std.specs.Prelude.{Some}
use Rattle.std.proofs.lemmas.Result.{IfOk-weaker}
use Rattle.opl_trace.specs.Marks.{objective}
use Rattle.opl_trace.specs.Moments.{core_sets}
use Rattle.opl_trace.specs.Run.{alternatives, behind, choices, first_leaf}
use Rattle.opl_trace.specs.SoundCores.{facts_in, AreSound}
use Rattle.opl_steps.specs.Steps.Next.{finished, nothing, spent, go, choose, commit}
use Rattle.opl_steps.specs.Costs.{cost_tasks, cost_choice}
use Rattle.opl_steps.proofs.Failed.{failed_tasks}
use Rattle.opl_steps.proofs.Lessening.{tasks_less}
use Rattle.opl_reference_labelling.specs.Outcomes.{marks_in, outcome, IsSoundOut}
use Rattle.opl_reference_labelling.proofs.Labels.{IsUnderWay, begun, done_way, below_at}
use Rattle.opl_reference_search.specs.Made.{rests, once_then}
use Rattle.opl_reference_search.specs.Sound.{AreSoundTasks, AreSoundWays}
use Rattle.opl_reference_search.specs.Steps.{way_of, ways_in, next_of}
use Rattle.opl_choices.specs.Branches.{statement_in}
use Rattle.opl_reference_search.specs.Tasks.{end_in, doing, tasks_in}
use Rattle.opl_reference_search.proofs.Running.{is_next, run_of, run_as, finished_run, nothing_run, spent_run, drop_here, drop_full, way_sound, chosen_less, choice_less, leaf_sound, entered_run, turn_cut, turn_next, turn_sound, turn_fewer}
use Rattle.opl_reference_search.proofs.run.+running.Goals as goal

-- ---- alternatives

pub choose-loop-way-init : goal.choose-loop-way-init
choose-loop-way-init g t c =
    let core = c.args.search.now.core.now in
    let e = c.nothing-made.ensures in
    let l : c.nothing-made.result.left ≡ c.args.left = ap (λ o. o.left) e in
    (begun core (rests core c.args.end (ways_in core c.args.ways.now)) [] c.args.best c.args.left (outcome core c.nothing-made.result) c.requires.best e, omega (arith, l))

pub choose-run-requires : goal.choose-run-requires
choose-run-requires g t c κs within =
    let core = c.args.search.now.core.now in
    let ways = c.args.ways.now in
    let x = c.way-item.result in
    let some : 0 < c.loop-way.made.left = omega (arith, c.if-made-eq0.false) in
    let less = chosen_less (way_of core) ways c.loop-way.way-index x x c.args.left c.loop-way.made.left c.loop-way-test.true c.way-item.is some c.loop-way.invariant.1 in
    let e = ap (λ us. cost_tasks (tasks_in core us) (c.loop-way.made.left - 1)) c.as_slice.ensures in
    let sound = way_sound core (way_of core) ways c.loop-way.way-index x x c.loop-way-test.true c.way-item.is c.requires.ways in (
      omega (arith, less, e, c.decreases),
      (
        within,
        (
          c.requires.core,
          (
            subst (λ us. AreSoundTasks core.sets (tasks_in core us)) (sym c.as_slice.ensures) sound.tasks,
            (subst (λ cs. AreSound core (facts_in core cs)) (sym c.as_slice-in-loop-way.ensures) sound.posted, c.loop-way.invariant.0.sound.best),
          ),
        ),
      ),
    )

pub choose-returns-then-made : goal.choose-returns-then-made
choose-returns-then-made g t c =
    let core = c.args.search.now.core.now in
    let ways = c.args.ways.now in
    let end = c.args.end in
    let x = c.way-item.result in
    let o = outcome core c.loop-way.made in
    let p = outcome core c.in_ok-outcome.outcome in
    let q = outcome core c.in_ok-made.made in
    let rest = ways_in core (drop (c.loop-way.way-index + 1) ways) in
    let some : 0 < o.left = omega (arith, c.if-made-eq0.false) in
    let way = subst (λ ws. IsUnderWay core (rests core end (ways_in core ways)) (rests core end (ways_in core ws)) [] c.args.best c.args.left o) (drop_here c.loop-way.way-index ways x x c.loop-way-test.true c.way-item.is) c.loop-way.invariant.0 in
    let r = c.in_ok-outcome.ensures in
    let made = r.made.same ∙ ap (λ us. doing core end (tasks_in core us) (facts_in core c.as_slice-in-loop-way.result.now) o.best (o.left - 1)) c.as_slice.ensures
    ∙ ap (λ cs. doing core end (tasks_in core x.tasks) (facts_in core cs) o.best (o.left - 1)) c.as_slice-in-loop-way.ensures in
    let sound = subst (λ d. IsSoundOut core d) (sym r.made.same) r.made.sound in
    run_of core c.in_ok-made.made q _ c.args.left refl
    (turn_cut core end (ways_in core ways) (way_of core x) rest c.args.best c.args.left o p q way some c.loop-way.invariant.1 made c.in_ok-made.ensures c.if-made.true)
    (turn_sound core end (ways_in core ways) (way_of core x) rest c.args.best c.args.left o p q way some c.loop-way.invariant.1 made c.in_ok-made.ensures sound)
    (turn_fewer core end (ways_in core ways) (way_of core x) rest c.args.best c.args.left o p q way some c.loop-way.invariant.1 made c.in_ok-made.ensures r.fewer)

pub choose-loop-way-preserved : goal.choose-loop-way-preserved
choose-loop-way-preserved g t c =
    let core = c.args.search.now.core.now in
    let ways = c.args.ways.now in
    let end = c.args.end in
    let x = c.way-item.result in
    let o = outcome core c.loop-way.made in
    let p = outcome core c.in_ok-outcome.outcome in
    let q = outcome core c.in_ok-made.made in
    let rest = ways_in core (drop (c.loop-way.way-index + 1) ways) in
    let some : 0 < o.left = omega (arith, c.if-made-eq0.false) in
    let way = subst (λ ws. IsUnderWay core (rests core end (ways_in core ways)) (rests core end (ways_in core ws)) [] c.args.best c.args.left o) (drop_here c.loop-way.way-index ways x x c.loop-way-test.true c.way-item.is) c.loop-way.invariant.0 in
    let r = c.in_ok-outcome.ensures in
    let made = r.made.same ∙ ap (λ us. doing core end (tasks_in core us) (facts_in core c.as_slice-in-loop-way.result.now) o.best (o.left - 1)) c.as_slice.ensures
    ∙ ap (λ cs. doing core end (tasks_in core x.tasks) (facts_in core cs) o.best (o.left - 1)) c.as_slice-in-loop-way.ensures in
    let sound = subst (λ d. IsSoundOut core d) (sym r.made.same) r.made.sound in (
      turn_next core end (ways_in core ways) (way_of core x) rest c.args.best c.args.left o p q way some c.loop-way.invariant.1 made c.in_ok-made.ensures sound c.if-made.false,
      turn_fewer core end (ways_in core ways) (way_of core x) rest c.args.best c.args.left o p q way some c.loop-way.invariant.1 made c.in_ok-made.ensures r.fewer,
    )

pub choose-returns : goal.choose-returns
choose-returns g t c =
    let core = c.args.search.now.core.now in
    let ways = c.args.ways.now in
    let all = rests core c.args.end (ways_in core ways) in
    let o = outcome core c.loop-way.made in
    let way = subst (λ ws. IsUnderWay core all (rests core c.args.end (ways_in core ws)) [] c.args.best c.args.left o) (drop_full c.loop-way.way-index ways (omega (arith, c.loop-way-test.false))) c.loop-way.invariant.0 in
    run_of core c.loop-way.made o _ c.args.left refl (done_way core all [] c.args.best c.args.left o way) way.sound c.loop-way.invariant.1

-- ---- once

pub commit-run-requires-in-Some : goal.commit-run-requires-in-Some
commit-run-requires-in-Some g t c κs within =
    let core = c.args.search.now.core.now in
    let ts = tasks_in core c.args.others.now in
    let less = tasks_less c.saturating_sub-more.result c.args.left (omega (arith, c.saturating_sub-more.ensures)) ts in
    let leaf = ap (λ ms. first_leaf (marks_in core ms)) (sym c.as_slice-2.ensures) ∙ c.in-Some.ensures.1 in
    (omega (arith, less, c.decreases), (within, (c.requires.core, (c.requires.others, ((leaf_sound core c.in_ok-outcome.outcome _ c.args.left _ _ c.in_ok-outcome.ensures leaf).0, c.requires.best)))))

pub commit-returns : goal.commit-returns
commit-returns g t c =
    let core = c.args.search.now.core.now in
    let ts = tasks_in core c.args.others.now in
    let at = c.in-Some.at in
    let Q = facts_in core c.in-Some.entered.now in
    let leaf = subst (λ ms. first_leaf (marks_in core ms) ≡ Some (record { before = marks_in core (take at ms); posted = Q })) c.as_slice-2.ensures c.in-Some.ensures.1 in
    IfOk-weaker c.behind.result _ _ (λ o k. entered_run core c.args.end (statement_in core c.args.step.now) ts (facts_in core c.args.posted.now) c.args.best c.args.left
    c.in_ok-outcome.outcome c.in_ok-next-in-Some.next o (tasks_in core c.as_slice.result.now) (marks_in core (take at c.in_ok-outcome.outcome.marks)) Q c.saturating_sub-more.result
    (ap (tasks_in core) (c.as_slice.ensures ∙ c.in_ok-inner.ensures)) c.in_ok-outcome.ensures leaf
    (c.saturating_sub-more.ensures ∙ ap (λ k. c.args.left - k) (c.choices.ensures ∙ ap (λ ms. choices (marks_in core (take at ms))) c.as_slice-in-Some.ensures))
    c.in_ok-next-in-Some.ensures
    (k ∙ ap (λ ms. behind (marks_in core (take at ms)) (outcome core c.in_ok-next-in-Some.next)) c.as_slice-in-Some.ensures)) c.behind.ensures

-- ---- tasks

pub run-returns-in-None : goal.run-returns-in-None
run-returns-in-None g t c =
    let core = c.args.search.now.core.now in
    let P = facts_in core c.args.posted.now in
    nothing_run core _ _ c.args.best c.args.left c.requires.best c.nothing.ensures (failed_tasks (objective core) (core_sets core) P c.args.best c.args.left (sym c.in_ok-sets.ensures ∙ c.in-None.is) (end_in c.args.end) (tasks_in core c.args.tasks.now))

pub run-next_step-requires-clause-within : goal.run-next_step-requires-clause-within
run-next_step-requires-clause-within g t c =
    let core = c.args.search.now.core.now in
    below_at core (facts_in core c.args.posted.now) c.args.best c.in-Some.sets (sym c.in_ok-sets.ensures ∙ c.in-Some.is)

pub run-returns-in-Finished : goal.run-returns-in-Finished
run-returns-in-Finished g t c =
    let core = c.args.search.now.core.now in
    let P = facts_in core c.args.posted.now in
    let k = is_next core c.args.end (tasks_in core c.args.tasks.now) P c.args.best c.args.left c.in-Some.sets finished c.requires.core c.vars.ensures.sets c.requires.posted c.requires.tasks (sym c.in_ok-sets.ensures ∙ c.in-Some.is) (sym (ap (next_of core) c.in-Finished.is) ∙ c.in_ok-next_step.ensures) in
    IfOk-weaker c.finished.result _ _ (finished_run core c.args.end (tasks_in core c.args.tasks.now) P c.args.best c.args.left k.means) c.finished.ensures

pub run-returns-in-Nothing : goal.run-returns-in-Nothing
run-returns-in-Nothing g t c =
    let core = c.args.search.now.core.now in
    let P = facts_in core c.args.posted.now in
    let k = is_next core c.args.end (tasks_in core c.args.tasks.now) P c.args.best c.args.left c.in-Some.sets nothing c.requires.core c.vars.ensures.sets c.requires.posted c.requires.tasks (sym c.in_ok-sets.ensures ∙ c.in-Some.is) (sym (ap (next_of core) c.in-Nothing.is) ∙ c.in_ok-next_step.ensures) in
    nothing_run core _ _ c.args.best c.args.left c.requires.best c.nothing-in-Nothing.ensures k.means

pub run-returns-in-Spent : goal.run-returns-in-Spent
run-returns-in-Spent g t c =
    let core = c.args.search.now.core.now in
    let P = facts_in core c.args.posted.now in
    let k = is_next core c.args.end (tasks_in core c.args.tasks.now) P c.args.best c.args.left c.in-Some.sets spent c.requires.core c.vars.ensures.sets c.requires.posted c.requires.tasks (sym c.in_ok-sets.ensures ∙ c.in-Some.is) (sym (ap (next_of core) c.in-Spent.is) ∙ c.in_ok-next_step.ensures) in
    spent_run core c.with_cut.result c.nothing-in-Spent.result _ c.args.best c.args.left c.requires.best c.nothing-in-Spent.ensures c.with_cut.ensures k.means

pub run-run-requires : goal.run-run-requires
run-run-requires g t c κs within =
    let core = c.args.search.now.core.now in
    let P = facts_in core c.args.posted.now in
    let k = is_next core c.args.end (tasks_in core c.args.tasks.now) P c.args.best c.args.left c.in-Some.sets (go (way_of core c.in-Go.way)) c.requires.core c.vars.ensures.sets c.requires.posted c.requires.tasks (sym c.in_ok-sets.ensures ∙ c.in-Some.is) (sym (ap (next_of core) c.in-Go.is) ∙ c.in_ok-next_step.ensures) in
    let e = ap (λ us. cost_tasks (tasks_in core us) c.args.left) c.as_slice.ensures in
    let l = k.less in (
      omega (arith, l, e, c.decreases),
      (
        within,
        (
          c.requires.core,
          (
            subst (λ us. AreSoundTasks core.sets (tasks_in core us)) (sym c.as_slice.ensures) k.sound.tasks,
            (subst (λ cs. AreSound core (facts_in core cs)) (sym c.as_slice-in-Go.ensures) k.sound.posted, c.requires.best),
          ),
        ),
      ),
    )

pub run-returns-in-Go : goal.run-returns-in-Go
run-returns-in-Go g t c =
    let core = c.args.search.now.core.now in
    let P = facts_in core c.args.posted.now in
    let k = is_next core c.args.end (tasks_in core c.args.tasks.now) P c.args.best c.args.left c.in-Some.sets (go (way_of core c.in-Go.way)) c.requires.core c.vars.ensures.sets c.requires.posted c.requires.tasks (sym c.in_ok-sets.ensures ∙ c.in-Some.is) (sym (ap (next_of core) c.in-Go.is) ∙ c.in_ok-next_step.ensures) in
    IfOk-weaker c.run.result _ _ (λ o r. run_as core o _ _ c.args.left r
    (k.means ∙ ap (λ us. doing core c.args.end (tasks_in core us) (facts_in core c.in-Go.way.posted) c.args.best c.args.left) (sym c.as_slice.ensures)
    ∙ ap (λ cs. doing core c.args.end (tasks_in core c.as_slice.result.now) (facts_in core cs) c.args.best c.args.left) (sym c.as_slice-in-Go.ensures))) c.run.ensures

pub run-choose-requires : goal.run-choose-requires
run-choose-requires g t c κs within =
    let core = c.args.search.now.core.now in
    let P = facts_in core c.args.posted.now in
    let k = is_next core c.args.end (tasks_in core c.args.tasks.now) P c.args.best c.args.left c.in-Some.sets (choose (ways_in core c.in-Choose.ways)) c.requires.core c.vars.ensures.sets c.requires.posted c.requires.tasks (sym c.in_ok-sets.ensures ∙ c.in-Some.is) (sym (ap (next_of core) c.in-Choose.is) ∙ c.in_ok-next_step.ensures) in
    let e = ap (λ ws. cost_choice (ways_in core ws) c.args.left) c.as_slice-in-Choose.ensures in
    let l = choice_less (ways_in core c.in-Choose.ways) (tasks_in core c.args.tasks.now) c.args.left k.less in
    (omega (arith, l, e, c.decreases), (within, (c.requires.core, (subst (λ ws. AreSoundWays core (ways_in core ws)) (sym c.as_slice-in-Choose.ensures) k.sound, c.requires.best))))

pub run-returns-in-Choose : goal.run-returns-in-Choose
run-returns-in-Choose g t c =
    let core = c.args.search.now.core.now in
    let P = facts_in core c.args.posted.now in
    let k = is_next core c.args.end (tasks_in core c.args.tasks.now) P c.args.best c.args.left c.in-Some.sets (choose (ways_in core c.in-Choose.ways)) c.requires.core c.vars.ensures.sets c.requires.posted c.requires.tasks (sym c.in_ok-sets.ensures ∙ c.in-Some.is) (sym (ap (next_of core) c.in-Choose.is) ∙ c.in_ok-next_step.ensures) in
    IfOk-weaker c.choose.result _ _ (λ o r. run_as core o _ _ c.args.left r
    (k.means ∙ ap (λ ws. alternatives (rests core c.args.end (ways_in core ws)) [] c.args.best c.args.left) (sym c.as_slice-in-Choose.ensures))) c.choose.ensures

pub run-commit-requires : goal.run-commit-requires
run-commit-requires g t c κs within =
    let core = c.args.search.now.core.now in
    let P = facts_in core c.args.posted.now in
    let s = statement_in core c.in-Commit.step.now in
    let k = is_next core c.args.end (tasks_in core c.args.tasks.now) P c.args.best c.args.left c.in-Some.sets (commit s (tasks_in core c.in-Commit.others)) c.requires.core c.vars.ensures.sets c.requires.posted c.requires.tasks (sym c.in_ok-sets.ensures ∙ c.in-Some.is) (sym (ap (next_of core) c.in-Commit.is) ∙ c.in_ok-next_step.ensures) in
    let e = ap (λ us. cost_tasks (tasks_in core us) c.args.left) c.as_slice-in-Commit.ensures in
    let l = k.less.0 in
    let m = k.less.1 in (
      omega (arith, l, m, e, c.decreases),
      (within, (c.requires.core, (k.sound.0, (subst (λ us. AreSoundTasks core.sets (tasks_in core us)) (sym c.as_slice-in-Commit.ensures) k.sound.1, (c.requires.posted, c.requires.best))))),
    )

pub run-returns : goal.run-returns
run-returns g t c =
    let core = c.args.search.now.core.now in
    let P = facts_in core c.args.posted.now in
    let s = statement_in core c.in-Commit.step.now in
    let k = is_next core c.args.end (tasks_in core c.args.tasks.now) P c.args.best c.args.left c.in-Some.sets (commit s (tasks_in core c.in-Commit.others)) c.requires.core c.vars.ensures.sets c.requires.posted c.requires.tasks (sym c.in_ok-sets.ensures ∙ c.in-Some.is) (sym (ap (next_of core) c.in-Commit.is) ∙ c.in_ok-next_step.ensures) in
    IfOk-weaker c.commit.result _ _ (λ o r. run_as core o _ _ c.args.left r
    (k.means ∙ ap (λ us. once_then core c.args.end s (tasks_in core us) P c.args.best c.args.left) (sym c.as_slice-in-Commit.ensures))) c.commit.ensures
