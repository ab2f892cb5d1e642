use Rattle.std.proofs.Common.{◌∙◌, ap, sym, subst, length, reverse}
use Rattle.opl_search.specs.Advance.{seen, start_of, CanStart}
use Rattle.opl_search.proofs.Start.{turn_starts, comes_starts}
use Rattle.opl_search.proofs.search.Search.first.Goals as goal

pub returns-then-begins-clause-turn : goal.returns-then-begins-clause-turn
returns-then-begins-clause-turn g c =
    let m = c.args.self.now in
    let s = g.S.Solver.state m.solver in
    turn_starts s c.in_ok-tail.tail c.vars.result (c.vars.ensures.count ∙ ap length (g.met.S.Solver.sees m.solver)) c.in_ok-tail.ensures

pub returns-then-begins-clause-comes : goal.returns-then-begins-clause-comes
returns-then-begins-clause-comes g c =
    let m = c.args.self.now in
    let s = g.S.Solver.state m.solver in
    let os = reverse m.opens.items in
    let can = subst (λ b. CanStart b (seen s os m.left)) c.if-begins.true c.requires in
    comes_starts s os m.left c.vars.result c.in_ok-tail.tail can.0 can.1 (c.vars.ensures.count ∙ ap length (g.met.S.Solver.sees m.solver)) c.in_ok-tail.ensures
    ∙ ap (λ b. start_of b (seen s os m.left)) (sym c.if-begins.true)

pub returns-clause-comes : goal.returns-clause-comes
returns-clause-comes g c =
    let m = c.args.self.now in
    ap (λ b. start_of b (seen (g.S.Solver.state m.solver) (reverse m.opens.items) m.left)) (sym c.if-begins.false)
