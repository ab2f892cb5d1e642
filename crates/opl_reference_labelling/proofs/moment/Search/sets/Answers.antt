use Rattle.std.proofs.Common.{◌≡◌, false, map, sym, ap, ◌∙◌, subst}
use Rattle.std.specs.Prelude.{int_lt}
use Rattle.std.specs.List.{All, list_any}
use Rattle.opl_trace.specs.Between.{IsRangeOfValues, values_between}
use Rattle.opl_reference_labelling.proofs.MomentSets.{no_sets, all_ranges, members_sound, refuting_monotone, moment_is, below_declared}
use Rattle.opl_trace.specs.SoundCores.{facts_in, AreSound}
use Rattle.opl_reference_labelling.proofs.moment.Search.sets.Goals as goal

pub returns-then-has_empty : goal.returns-then-has_empty
returns-then-has_empty g c =
    no_sets _ _ _ (ap (list_any (λ p. int_lt p.1 p.0)) (sym c.as_slice.ensures) ∙ sym c.if-has_empty.ensures)

pub new-requires-clause-ranges : goal.new-requires-clause-ranges
new-requires-clause-ranges g c =
    let core = c.args.self.now.core.now in
    let some : list_any (λ p. int_lt p.1 p.0) core.sets ≡ false = ap (list_any (λ p. int_lt p.1 p.0)) (sym c.as_slice.ensures) ∙ sym c.if-has_empty.ensures in
    subst (λ ps. All IsRangeOfValues ps) (sym c.as_slice-2.ensures) (all_ranges core.sets some c.requires.core.sets)

pub closed-requires-clause-falls : goal.closed-requires-clause-falls
closed-requires-clause-falls g c = refuting_monotone (facts_in c.args.self.now.core.now c.as_slice-3.result.now)

pub closed-requires-clause-tests : goal.closed-requires-clause-tests
closed-requires-clause-tests g c F b =
    let core = c.args.self.now.core.now in
    let P = facts_in core c.args.posted.now in
    let sound = subst (λ Q. AreSound core Q) (sym c.in_ok-members.ensures) (members_sound core P c.args.best c.requires.core c.requires.posted c.requires.best) in (
      subst (λ ms. AreSound core (facts_in core ms)) (sym c.as_slice-3.ensures) sound,
      below_declared core F c.in_ok-sets.sets (c.in_ok-sets.ensures ∙ ap (map values_between) c.as_slice-2.ensures) b,
    )

pub returns : goal.returns
returns g c =
    let core = c.args.self.now.core.now in
    c.closed.ensures
    ∙ moment_is core (facts_in core c.args.posted.now) (facts_in core c.as_slice-3.result.now) c.args.best c.in_ok-sets.sets
    (ap (facts_in core) c.as_slice-3.ensures ∙ c.in_ok-members.ensures) (c.in_ok-sets.ensures ∙ ap (map values_between) c.as_slice-2.ensures)
