use Rattle.std.proofs.Common.{◌∙◌, ap, subst, arith, length, reverse}
use Rattle.opl_expr.specs.Options.{lift1}
use Rattle.opl_expr.specs.Solutions.{declared}
use Rattle.opl_search.specs.Advance.{seen}
use Rattle.opl_search.specs.Machines.{IsMachine}
use Rattle.opl_search.proofs.Along.{no_value, value_long}
use Rattle.opl_search.proofs.machine.Machine.value.Goals as goal

pub returns-in-None : goal.returns-in-None
returns-in-None g c =
    let i = c.self.inside in
    let held = subst (λ r. IsMachine i.core.value i.way i.budget i.solutions i.last (lift1 (λ s. seen (g.S.Solver.state s.solver) (reverse s.opens.items) s.left) r)) c.in-None.is c.self.invariant in
    absurd (no_value i.core.value i.way i.budget i.solutions i.last held (ap (λ m. m.last) c.self.view_is ∙ c.requires.last))

pub value-requires : goal.value-requires
value-requires g c =
    let i = c.self.inside in
    let held = subst (λ r. IsMachine i.core.value i.way i.budget i.solutions i.last (lift1 (λ s. seen (g.S.Solver.state s.solver) (reverse s.opens.items) s.left) r)) c.in-Some.is c.self.invariant in
    let long = value_long i.core.value i.way i.budget i.solutions i.last _ held (ap (λ m. m.last) c.self.view_is ∙ c.requires.last) in
    let same = ap (λ m. length (declared m.core)) c.self.view_is in
    let there = c.requires.variable in
    omega (arith, long, same, there)
