use Rattle.std.proofs.Common.{rules, ◌∙◌, ap, sym, subst, length, reverse}
use Rattle.std.specs.Prelude.{FitsSigned}
use mir.Syntax.{w64}
use Rattle.std.proofs.lemmas.Int.{to_z-of_z}
use Rattle.opl_search.specs.declared.search.Open.{Open}
use Rattle.opl_search.specs.States.{opened}
use Rattle.opl_search.specs.Pending.{places, AreOpen}
use Rattle.opl_search.proofs.Places.{last_open, opens_opened, places_opened}
use Rattle.opl_search.proofs.search.Search.choose.Goals as goal

pub returns-clause-opens : goal.returns-clause-opens
returns-clause-opens g c =
    let m = c.args.self.now in
    let s = g.S.Solver.state m.solver in
    let h : FitsSigned w64 c.args.last = search rules in
    let o : Open = record { level = c.count_levels-level.result; variable = c.args.variable; last = c.args.last; variables = c.args.variables; place = c.args.place; rest = c.args.rest } in
    let last = last_open c.push.new.self.items m.opens.items o (rw (to_z-of_z w64 c.args.last h) at c.in_ok-push.ensures.items) in
    subst (λ t. AreOpen (reverse c.push.new.self.items) (length t.levels) t.levels) (sym c.in_ok-open_level.ensures)
    (subst (λ os. AreOpen os (length (opened s).levels) (opened s).levels) (sym last)
    (opens_opened s (reverse m.opens.items) c.requires.opens c.count_levels-level.result c.args.variable c.args.last c.args.variables c.args.place c.args.rest c.count_levels-level.ensures c.requires.covers))

pub returns-clause-places : goal.returns-clause-places
returns-clause-places g c =
    let m = c.args.self.now in
    let s = g.S.Solver.state m.solver in
    let h : FitsSigned w64 c.args.last = search rules in
    let o : Open = record { level = c.count_levels-level.result; variable = c.args.variable; last = c.args.last; variables = c.args.variables; place = c.args.place; rest = c.args.rest } in
    let last = last_open c.push.new.self.items m.opens.items o (rw (to_z-of_z w64 c.args.last h) at c.in_ok-push.ensures.items) in
    ap (λ t. places (reverse c.push.new.self.items) t.levels) c.in_ok-open_level.ensures
    ∙ ap (λ os. places os (opened s).levels) last
    ∙ places_opened s (reverse m.opens.items) c.requires.opens c.count_levels-level.result c.args.variable c.args.last c.args.variables c.args.place c.args.rest c.count_levels-level.ensures
