use Rattle.std.proofs.Common.{◌∙◌, ap, refl, arith, reverse}
use Rattle.opl_search.specs.declared.search.Open.{Open}
use Rattle.opl_search.proofs.machine.Machine.new.Goals as goal

pub invariant_of-result : goal.invariant_of-result
invariant_of-result g c =
    let e = c.new.ensures in (
      c.requires.way,
      omega (arith, e.left),
      record {
        state = ap g.S.Solver.state e.solver ∙ c.requires.begins;
        opens = ap (reverse {A = Open}) e.opens;
        left = e.left;
        found = refl;
      },
    )

pub returns : goal.returns
returns g c =
    let e = c.new.ensures in
    record {
      core_is = refl;
      way_is = refl;
      budget_is = refl;
      choices = omega (arith, e.left);
      solutions = refl;
      best = ap (λ s. (g.S.Solver.state s).best) e.solver ∙ ap (λ s. s.best) c.requires.begins;
      last = refl;
    }
