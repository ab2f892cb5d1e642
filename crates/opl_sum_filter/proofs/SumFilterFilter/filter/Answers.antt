use Rattle.std.proofs.Common.{◌≡◌, ◌≤ℤ◌, length, rules, arith, sym, subst}
use Rattle.std.specs.Prelude.{FitsSigned}
use mir.Syntax.{w64, w128}
use Rattle.std.proofs.lemmas.Int.{ints, to_z-of_z}
use Rattle.opl_sum_filter.specs.Sums.{AreAmong, total_most}
use Rattle.opl_sum_filter.proofs.Sums.{are_among, among_below, settled}
use Rattle.opl_sum_filter.proofs.SumFilterFilter.filter.Goals as goal

pub known_most-most-requires-clause-among : goal.known_most-most-requires-clause-among
known_most-most-requires-clause-among g c =
    let F = g.N.View.family c.args.n.now in
    let s = c.args.self.now in
    subst (AreAmong (length F)) (sym c.as_slice.ensures) (are_among c.args.core.now F s.variables s.limit (g.F.Filter.constraint s.inner c.args.core.now) c.requires.core.1 c.requires.sound c.requires.declared)

pub returns-then-most-self-clause-outcome : goal.returns-then-most-self-clause-outcome
returns-then-most-self-clause-outcome g c =
    let F = g.N.View.family c.args.n.now in
    let s = c.args.self.now in
    let limit : FitsSigned w64 s.limit = search rules in
    let wide : FitsSigned w128 s.limit = omega (arith, ints) in
    let within : c.known_most-most.result ≤ℤ s.limit = grind (arith, ints, to_z-of_z, c.if-most-self.true) in
    let same = subst (λ xs. c.known_most-most.result ≡ total_most F xs) c.as_slice.ensures c.known_most-most.ensures in
    settled F s.variables s.limit (g.F.Filter.constraint s.inner c.args.core.now) c.requires.core.1 c.vars-vars.ensures.sets (omega (arith, ints, within, same))

pub total_most-requires-clause-among : goal.total_most-requires-clause-among
total_most-requires-clause-among g c =
    let F = g.N.View.family c.args.n.now in
    let G = g.N.View.family c.filter-outcome.new.n in
    let s = c.args.self.now in
    let all = are_among c.args.core.now F s.variables s.limit (g.F.Filter.constraint s.inner c.args.core.now) c.requires.core.1 c.requires.sound c.requires.declared in
    subst (AreAmong (length G)) (sym c.as_slice-2.ensures) (among_below F G s.variables c.filter-outcome.ensures.between.below all)
