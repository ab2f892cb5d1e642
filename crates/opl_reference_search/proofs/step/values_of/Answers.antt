use Rattle.std.proofs.Common.{◌++◌, ◌∷◌, [], ap, sym, ◌∙◌, subst, rules, append_assoc}
use Rattle.std.specs.Prelude.{FitsSigned, Some}
use Rattle.std.proofs.lemmas.Int.{to_z-of_z}
use mir.Syntax.{w64}
use Rattle.opl_domain.specs.Family.{set_of}
use Rattle.opl_reference_labelling.proofs.Values.{from_on, from_least, from_next, IsIn, next_in, shorter}
use Rattle.opl_reference_search.proofs.step.values_of.Goals as goal

pub loop-next-init : goal.loop-next-init
loop-next-init c =
    let vs = set_of c.args.sets.now c.args.x in
    let fits : FitsSigned w64 c.min.result = search rules in
    rw (to_z-of_z w64 c.min.result fits) (
      from_least vs c.min.result c.min.ensures ∙ ap (λ ws. ws ++ from_on (Some c.min.result) vs) (sym c.new-values.ensures),
      c.min.ensures.among,
    )

pub loop-next-smaller : goal.loop-next-smaller
loop-next-smaller c =
    let vs = set_of c.args.sets.now c.args.x in
    let v = c.in-Some.v in
    let rising = c.vars.ensures.sets.rising c.args.x in
    let there = subst (λ w. IsIn vs w) c.in-Some.is c.loop-next.invariant.1 in
    let fits : FitsSigned w64 v = search rules in
    let next = rw (to_z-of_z w64 v fits) at c.next-next.ensures in
    shorter v _ _ (ap (λ w. from_on w vs) c.in-Some.is ∙ from_next vs v c.next-next.result rising there next)

pub loop-next-preserved : goal.loop-next-preserved
loop-next-preserved c =
    let vs = set_of c.args.sets.now c.args.x in
    let v = c.in-Some.v in
    let rising = c.vars.ensures.sets.rising c.args.x in
    let there = subst (λ w. IsIn vs w) c.in-Some.is c.loop-next.invariant.1 in
    let fits : FitsSigned w64 v = search rules in
    let next = rw (to_z-of_z w64 v fits) at c.next-next.ensures in
    let pushed = c.in_ok-push.ensures.ok ∙ ap (λ w. c.loop-next.values ++ w ∷ []) (to_z-of_z w64 v fits) in (
      c.loop-next.invariant.0 ∙ ap (λ w. c.loop-next.values ++ from_on w vs) c.in-Some.is
          ∙ ap (λ ws. c.loop-next.values ++ ws) (from_next vs v c.next-next.result rising there next)
          ∙ sym (append_assoc c.loop-next.values (v ∷ []) (from_on c.next-next.result vs)) ∙ ap (λ ws. ws ++ from_on c.next-next.result vs) (sym pushed),
      next_in vs v c.next-next.result next,
    )
