use Rattle.std.proofs.Common.{sym, arith, reverse}
use Rattle.opl_search.specs.Advance.{seen}
use Rattle.opl_search.proofs.Places.{goes_from}
use Rattle.opl_search.proofs.Start.{opens_start}
use Rattle.opl_search.proofs.search.Search.answer.Goals as goal

pub go_on-requires-clause-opens : goal.go_on-requires-clause-opens
go_on-requires-clause-opens g c =
    let m = c.args.self.now in
    opens_start c.args.begins (seen (g.S.Solver.state m.solver) (reverse m.opens.items) m.left) c.requires

pub returns-clause-advances : goal.returns-clause-advances
returns-clause-advances g c =
    let f = c.in_ok-first.ensures in
    let e = c.in_ok-step.ensures in
    record {
      goes = goes_from (sym f.comes) e.goes;
      leaves = omega (arith, e.leaves, f.leaves);
    }
