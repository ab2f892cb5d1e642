use Rattle.std.proofs.Common.{rules, ◌≡◌, ◌∙◌, ap, sym, subst, arith, refl, length, reverse}
use Rattle.std.specs.Prelude.{FitsSigned}
use mir.Syntax.{w64}
use Rattle.std.proofs.lemmas.Int.{to_z-of_z}
use Rattle.std.proofs.lemmas.List.{nil_from_length}
use Rattle.opl_turns.specs.Weights.{weight_back}
use Rattle.opl_search.specs.declared.search.Open.{Open}
use Rattle.opl_search.specs.declared.search.Turn.TheVariants as at
use Rattle.opl_search.specs.Pending.{places, AreOpen, comes}
use Rattle.opl_search.proofs.Places.{last_open, goes_same, goes_from, goes_since, gone_back, back_ends}
use Rattle.opl_search.proofs.search.Search.back.Goals as goal

pub returns-in-None-clause-goes : goal.returns-in-None-clause-goes
returns-in-None-clause-goes g c =
    let m = c.args.self.now in
    let s = g.S.Solver.state m.solver in
    let z : length m.opens.items ≡ 0 = search rules in
    let w : length c.pop.new.self.items ≡ 0 = search rules in
    let old = ap (reverse {A = Open}) (nil_from_length m.opens.items z) in
    let new = ap (reverse {A = Open}) (nil_from_length c.pop.new.self.items w) in
    goes_same m.left refl refl (back_ends s m.left (reverse m.opens.items) (reverse c.pop.new.self.items) old) (subst (λ os. AreOpen os (length s.levels) s.levels) (sym new) tt) tt

pub enter_values-requires-clause-opens : goal.enter_values-requires-clause-opens
enter_values-requires-clause-opens g c =
    let m = c.args.self.now in
    let s = g.S.Solver.state m.solver in
    let o = c.in-Some.open in
    let others = reverse c.pop.new.self.items in
    let last = last_open m.opens.items c.pop.new.self.items o c.in-Some.ensures.items in
    let held = subst (λ os. AreOpen os (length s.levels) s.levels) last c.requires.opens in
    (gone_back s o others m.left held (g.S.Solver.state c.go_back.new.self) c.go_back.ensures).opens

pub enter_values-requires-clause-covers : goal.enter_values-requires-clause-covers
enter_values-requires-clause-covers g c =
    let m = c.args.self.now in
    let s = g.S.Solver.state m.solver in
    let o = c.in-Some.open in
    let others = reverse c.pop.new.self.items in
    let last = last_open m.opens.items c.pop.new.self.items o c.in-Some.ensures.items in
    let held = subst (λ os. AreOpen os (length s.levels) s.levels) last c.requires.opens in
    (gone_back s o others m.left held (g.S.Solver.state c.go_back.new.self) c.go_back.ensures).covers

pub returns-in_ok-turn-in-Some-clause-goes : goal.returns-in_ok-turn-in-Some-clause-goes
returns-in_ok-turn-in-Some-clause-goes g c =
    let m = c.args.self.now in
    let s = g.S.Solver.state m.solver in
    let o = c.in-Some.open in
    let others = reverse c.pop.new.self.items in
    let last = last_open m.opens.items c.pop.new.self.items o c.in-Some.ensures.items in
    let held = subst (λ os. AreOpen os (length s.levels) s.levels) last c.requires.opens in
    let gone = gone_back s o others m.left held (g.S.Solver.state c.go_back.new.self) c.go_back.ensures in
    let h : FitsSigned w64 o.last = search rules in
    let went = rw (to_z-of_z w64 o.last h) at c.in_ok-turn-in-Some.ensures.goes in
    goes_from (ap (λ os. comes s os m.left at.Back) last ∙ gone.comes_to) (goes_since {s0 = s} {s1 = g.S.Solver.state c.go_back.new.self} gone.same gone.best went)

pub returns-in_ok-turn-in-Some-clause-less : goal.returns-in_ok-turn-in-Some-clause-less
returns-in_ok-turn-in-Some-clause-less g c =
    let m = c.args.self.now in
    let s = g.S.Solver.state m.solver in
    let o = c.in-Some.open in
    let others = reverse c.pop.new.self.items in
    let last = last_open m.opens.items c.pop.new.self.items o c.in-Some.ensures.items in
    let held = subst (λ os. AreOpen os (length s.levels) s.levels) last c.requires.opens in
    let gone = gone_back s o others m.left held (g.S.Solver.state c.go_back.new.self) c.go_back.ensures in
    λ e. let a = c.in_ok-turn-in-Some.ensures.less e in let b = gone.less in let w = ap (λ os. weight_back (places os s.levels) m.left) last in omega (arith, a, b, w)
