use Rattle.std.proofs.Common.{◌≡◌, ◌∙◌, true, sym, subst}
use Rattle.std.specs.Prelude.{FitsSigned}
use mir.Syntax.{w64}
use Rattle.std.proofs.lemmas.Int.{to_z-of_z}
use Rattle.opl_trace.proofs.Removals.{other_stays}
use Rattle.opl_addends.proofs.values.try_value.Goals as goal

pub is_dead-requires : goal.is_dead-requires
is_dead-requires g c =
    let fits : FitsSigned w64 c.args.v = c.ranges.v in
    let e = rw (to_z-of_z w64 c.args.v fits) at c.new.ensures in
    subst (λ F. g.T.Test.can_test c.args.test.now F) (sym e) (c.requires.tests c.args.v c.requires.value)

pub cut-requires-clause-stays : goal.cut-requires-clause-stays
cut-requires-clause-stays g c =
    let fits : FitsSigned w64 c.args.v = c.ranges.v in
    rw (to_z-of_z w64 c.args.v fits) (other_stays _ _ _ c.requires.sets c.requires.variable c.requires.value (λ e. c.if-size-eq1.false (c.size.ensures ∙ e)))

pub returns-clause-tries : goal.returns-clause-tries
returns-clause-tries g c =
    let fits : FitsSigned w64 c.args.v = c.ranges.v in
    let e = rw (to_z-of_z w64 c.args.v fits) at c.new.ensures in
    let cut = rw (to_z-of_z w64 c.args.v fits) at c.cut.ensures.cut in (
      cut,
      record {
        dead_value = record {
          variable = c.requires.variable;
          value = c.requires.value;
          is_dead = subst (λ F. g.T.Test.dead c.args.test.now F ≡ true) e (sym c.is_dead.ensures ∙ c.if-not-is_dead.false);
        };
        stays = other_stays _ _ _ c.requires.sets c.requires.variable c.requires.value (λ i. c.if-size-eq1.false (c.size.ensures ∙ i));
      },
    )
