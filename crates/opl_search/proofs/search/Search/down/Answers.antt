use Rattle.std.proofs.Common.{◌∙◌, ap, sym, subst, length, reverse}
use Rattle.opl_search.specs.declared.search.Turn.TheVariants as at
use Rattle.opl_search.specs.Pending.{AreOpen, comes}
use Rattle.opl_search.proofs.Places.{goes_same, closes_failed}
use Rattle.opl_search.proofs.search.Search.down.Goals as goal

pub returns-in-Failed-clause-goes : goal.returns-in-Failed-clause-goes
returns-in-Failed-clause-goes g c =
    let m = c.args.self.now in
    let s = g.S.Solver.state m.solver in
    let os = reverse m.opens.items in
    let t = g.S.Solver.state c.close.new.self in
    let e = c.in-Failed.ensures in
    goes_same m.left (ap (λ u. u.core) e.others) (ap (λ u. u.best) e.others) (closes_failed s os m.left c.args.tail t.sets e.closed ∙ ap (λ u. comes u os m.left at.Back) (sym e.others))
    (subst (λ u. AreOpen os (length u.levels) u.levels) (sym e.others) c.requires.opens) tt
