use Rattle.std.proofs.Common.{◌≡◌, suc, ◌-◌, ◌++◌, ◌∷◌, [], length, refl, ap, sym, ◌∙◌, subst, arith, rules}
use Rattle.std.specs.Prelude.{FitsSigned, int_lt, Some}
use Rattle.std.specs.List.{filter}
use Rattle.std.proofs.lemmas.Int.{to_z-of_z}
use Rattle.std.proofs.lemmas.List.Elements.{All-push}
use mir.Syntax.{w64}
use Rattle.opl_domain.specs.Family.{set_of}
use Rattle.opl_expr.specs.Sound.{IsSoundFact}
use Rattle.opl_trace.specs.Answers.{is_value}
use Rattle.opl_trace.specs.Run.{Alternative}
use Rattle.opl_trace.specs.SoundCores.{AreThere}
use Rattle.opl_reference_labelling.specs.Labelling.{labelling, values_then}
use Rattle.opl_trace.specs.SoundCores.{facts_in, AreSound}
use Rattle.opl_reference_labelling.specs.Outcomes.{outcome, IsSoundOut}
use Rattle.opl_choices.proofs.AnswersSound.{same_length}
use Rattle.opl_reference_labelling.proofs.Labels.{below_at, single_label, values_label, IsUnderWay, begun, spent_way, cut_way, next_way, sound_turn, made_of, nothing_made, made_as, value_sound}
use Rattle.opl_reference_labelling.proofs.Values.{from_on, from_least, above, rest_is, from_next, IsIn, next_in, shorter}
use Rattle.opl_reference_labelling.proofs.moment.Search.+labelling.Goals as goal

pub label-returns-in-None : goal.label-returns-in-None
label-returns-in-None g t c =
    let core = c.args.self.now.core.now in
    let P = facts_in core c.args.posted.now in
    nothing_made core _ _ P c.args.best c.args.left c.requires.best (sym c.in_ok-sets.ensures ∙ c.in-None.is) c.nothing.ensures

pub label-returns-then-is_single : goal.label-returns-then-is_single
label-returns-then-is_single g t c =
    let core = c.args.self.now.core.now in
    let P = facts_in core c.args.posted.now in
    let moment = sym c.in_ok-sets.ensures ∙ c.in-Some.is in
    let vars = c.in-Some-split_first.ensures.cases.0 in
    made_as core _ _ _ c.in_ok-outcome-in-Some-split_first.ensures
    (ap (λ ys. labelling core ys P c.args.best c.args.left) vars ∙ single_label core _ _ P c.args.best c.args.left c.in-Some.sets moment (sym c.if-is_single.ensures))

pub label-values-requires : goal.label-values-requires
label-values-requires g t c κs within =
    let core = c.args.self.now.core.now in
    let P = facts_in core c.args.posted.now in
    let moment = sym c.in_ok-sets.ensures ∙ c.in-Some.is in
    let vars = c.in-Some-split_first.ensures.cases.0 in
    let s = subst (λ ys. AreThere core.sets ys) vars c.requires.variables in
    (omega (arith, ap length vars, c.decreases), (within, (c.requires.core, (s.0, (s.1, (below_at core P c.args.best c.in-Some.sets moment, (c.requires.posted, c.requires.best)))))))

pub label-returns : goal.label-returns
label-returns g t c =
    let core = c.args.self.now.core.now in
    let P = facts_in core c.args.posted.now in
    let moment = sym c.in_ok-sets.ensures ∙ c.in-Some.is in
    let vars = c.in-Some-split_first.ensures.cases.0 in
    made_as core _ _ _ c.in_ok-outcome-in-Some-split_first-2.ensures
    (ap (λ ys. labelling core ys P c.args.best c.args.left) vars ∙ values_label core _ _ P c.args.best c.args.left c.in-Some.sets moment (sym c.if-is_single.ensures))

pub values-min-requires : goal.values-min-requires
values-min-requires g t c =
    omega (arith, c.requires.variable, same_length c.args.self.now.core.now c.args.sets.now c.vars.ensures.sets c.requires.within)

pub values-next-next-requires : goal.values-next-next-requires
values-next-next-requires g t c =
    omega (arith, c.requires.variable, same_length c.args.self.now.core.now c.args.sets.now c.vars.ensures.sets c.requires.within)

pub values-loop-next-init : goal.values-loop-next-init
values-loop-next-init g t c =
    let core = c.args.self.now.core.now in
    let P = facts_in core c.args.posted.now in
    let vs = set_of c.args.sets.now c.args.x in
    let all = values_then core c.args.x c.args.others.now vs in
    let o = outcome core c.nothing-made.result in
    let fits : FitsSigned w64 c.min.result = search rules in
    rw (to_z-of_z w64 c.min.result fits) (
      subst (λ ws. IsUnderWay core all (values_then core c.args.x c.args.others.now ws) P c.args.best c.args.left o) (from_least vs c.min.result c.min.ensures)
          (begun core all P c.args.best c.args.left o c.requires.best c.nothing-made.ensures),
      c.min.ensures.among,
    )

pub values-returns-then-made-eq0 : goal.values-returns-then-made-eq0
values-returns-then-made-eq0 g t c =
    let core = c.args.self.now.core.now in
    let P = facts_in core c.args.posted.now in
    let F = c.args.sets.now in
    let x = c.args.x in
    let xs = c.args.others.now in
    let v = c.in-Some.v in
    let vs = set_of F x in
    let all = values_then core x xs vs in
    let o = outcome core c.loop-next.made in
    let rising = c.vars.ensures.sets.rising x in
    let there = subst (λ w. IsIn vs w) c.in-Some.is c.loop-next.invariant.1 in
    let begin = subst (λ w. IsUnderWay core all (values_then core x xs (from_on w vs)) P c.args.best c.args.left o) c.in-Some.is c.loop-next.invariant.0 in
    let way = subst (λ ws. IsUnderWay core all (values_then core x xs ws) P c.args.best c.args.left o) (above vs v rising there) begin in
    made_of core c.with_cut.result _ _ (ap (outcome core) c.with_cut.ensures)
    (spent_way core all _ _ P c.args.best c.args.left o way c.if-made-eq0.true) (record { marks = way.sound.marks; best = way.sound.best })

pub values-label-requires : goal.values-label-requires
values-label-requires g t c κs within =
    let core = c.args.self.now.core.now in
    let P = facts_in core c.args.posted.now in
    let F = c.args.sets.now in
    let x = c.args.x in
    let xs = c.args.others.now in
    let v = c.in-Some.v in
    let vs = set_of F x in
    let all = values_then core x xs vs in
    let o = outcome core c.loop-next.made in
    let rising = c.vars.ensures.sets.rising x in
    let there = subst (λ w. IsIn vs w) c.in-Some.is c.loop-next.invariant.1 in
    let begin = subst (λ w. IsUnderWay core all (values_then core x xs (from_on w vs)) P c.args.best c.args.left o) c.in-Some.is c.loop-next.invariant.0 in
    let way = subst (λ ws. IsUnderWay core all (values_then core x xs ws) P c.args.best c.args.left o) (above vs v rising there) begin in
    let fits : FitsSigned w64 c.in-Some.v = search rules in
    let more = c.in_ok-more.ensures ∙ ap (λ w. P ++ is_value x w ∷ []) (to_z-of_z w64 c.in-Some.v fits) in
    let posted = All-push (IsSoundFact core.sets) P (is_value x v) c.requires.posted (value_sound core F c.requires.core c.vars.ensures.sets c.requires.within x v c.requires.variable there) in
    let sound = subst (λ ms. AreSound core (facts_in core ms)) (sym c.as_slice.ensures) (subst (λ Q. AreSound core Q) (sym more) posted) in
    (omega (arith, c.decreases), (within, (c.requires.core, (c.requires.others, (sound, way.sound.best)))))

pub values-returns-then-made : goal.values-returns-then-made
values-returns-then-made g t c =
    let core = c.args.self.now.core.now in
    let P = facts_in core c.args.posted.now in
    let F = c.args.sets.now in
    let x = c.args.x in
    let xs = c.args.others.now in
    let v = c.in-Some.v in
    let vs = set_of F x in
    let all = values_then core x xs vs in
    let o = outcome core c.loop-next.made in
    let rising = c.vars.ensures.sets.rising x in
    let there = subst (λ w. IsIn vs w) c.in-Some.is c.loop-next.invariant.1 in
    let begin = subst (λ w. IsUnderWay core all (values_then core x xs (from_on w vs)) P c.args.best c.args.left o) c.in-Some.is c.loop-next.invariant.0 in
    let way = subst (λ ws. IsUnderWay core all (values_then core x xs ws) P c.args.best c.args.left o) (above vs v rising there) begin in
    let fits : FitsSigned w64 c.in-Some.v = search rules in
    let more = c.in_ok-more.ensures ∙ ap (λ w. P ++ is_value x w ∷ []) (to_z-of_z w64 c.in-Some.v fits) in
    let chosen = rw (to_z-of_z w64 c.in-Some.v fits) at c.in_ok-made.ensures in
    let m = c.loop-next.made.left - 1 in
    let p = outcome core c.in_ok-outcome.outcome in
    let q = outcome core c.in_ok-made.made in
    let r : Alternative = record { label = Some (x, v); rest = λ Q. labelling core xs (Q ++ is_value x v ∷ []) } in
    let rest = values_then core x xs (filter (int_lt v) vs) in
    let left : o.left ≡ suc m = omega (arith, c.if-made-eq0.false) in
    let made = c.in_ok-outcome.ensures.same ∙ ap (λ Q. labelling core xs Q c.loop-next.made.best m) (ap (facts_in core) c.as_slice.ensures ∙ more) in
    let sound = subst (λ d. IsSoundOut core d) (sym c.in_ok-outcome.ensures.same) c.in_ok-outcome.ensures.sound in
    made_of core c.in_ok-made.made q _ refl (cut_way core all rest r P c.args.best c.args.left m o p q way left made chosen c.if-made.true)
    (sound_turn core r.label o p q way.sound sound chosen)

pub values-loop-next-smaller : goal.values-loop-next-smaller
values-loop-next-smaller g t c =
    let core = c.args.self.now.core.now in
    let P = facts_in core c.args.posted.now in
    let F = c.args.sets.now in
    let x = c.args.x in
    let xs = c.args.others.now in
    let v = c.in-Some.v in
    let vs = set_of F x in
    let all = values_then core x xs vs in
    let o = outcome core c.loop-next.made in
    let rising = c.vars.ensures.sets.rising x in
    let there = subst (λ w. IsIn vs w) c.in-Some.is c.loop-next.invariant.1 in
    let begin = subst (λ w. IsUnderWay core all (values_then core x xs (from_on w vs)) P c.args.best c.args.left o) c.in-Some.is c.loop-next.invariant.0 in
    let way = subst (λ ws. IsUnderWay core all (values_then core x xs ws) P c.args.best c.args.left o) (above vs v rising there) begin in
    let fits : FitsSigned w64 c.in-Some.v = search rules in
    let next = rw (to_z-of_z w64 c.in-Some.v fits) at c.next-next.ensures in
    shorter v _ _ (ap (λ w. from_on w vs) c.in-Some.is ∙ from_next vs v c.next-next.result rising there next)

pub values-loop-next-preserved : goal.values-loop-next-preserved
values-loop-next-preserved g t c =
    let core = c.args.self.now.core.now in
    let P = facts_in core c.args.posted.now in
    let F = c.args.sets.now in
    let x = c.args.x in
    let xs = c.args.others.now in
    let v = c.in-Some.v in
    let vs = set_of F x in
    let all = values_then core x xs vs in
    let o = outcome core c.loop-next.made in
    let rising = c.vars.ensures.sets.rising x in
    let there = subst (λ w. IsIn vs w) c.in-Some.is c.loop-next.invariant.1 in
    let begin = subst (λ w. IsUnderWay core all (values_then core x xs (from_on w vs)) P c.args.best c.args.left o) c.in-Some.is c.loop-next.invariant.0 in
    let way = subst (λ ws. IsUnderWay core all (values_then core x xs ws) P c.args.best c.args.left o) (above vs v rising there) begin in
    let fits : FitsSigned w64 c.in-Some.v = search rules in
    let more = c.in_ok-more.ensures ∙ ap (λ w. P ++ is_value x w ∷ []) (to_z-of_z w64 c.in-Some.v fits) in
    let chosen = rw (to_z-of_z w64 c.in-Some.v fits) at c.in_ok-made.ensures in
    let m = c.loop-next.made.left - 1 in
    let p = outcome core c.in_ok-outcome.outcome in
    let q = outcome core c.in_ok-made.made in
    let r : Alternative = record { label = Some (x, v); rest = λ Q. labelling core xs (Q ++ is_value x v ∷ []) } in
    let rest = values_then core x xs (filter (int_lt v) vs) in
    let left : o.left ≡ suc m = omega (arith, c.if-made-eq0.false) in
    let made = c.in_ok-outcome.ensures.same ∙ ap (λ Q. labelling core xs Q c.loop-next.made.best m) (ap (facts_in core) c.as_slice.ensures ∙ more) in
    let sound = subst (λ d. IsSoundOut core d) (sym c.in_ok-outcome.ensures.same) c.in_ok-outcome.ensures.sound in
    let next = rw (to_z-of_z w64 c.in-Some.v fits) at c.next-next.ensures in (
      subst (λ ws. IsUnderWay core all (values_then core x xs ws) P c.args.best c.args.left q) (rest_is vs v c.next-next.result next)
          (next_way core all rest r P c.args.best c.args.left m o p q way left made sound chosen c.if-made.false),
      next_in vs v c.next-next.result next,
    )
