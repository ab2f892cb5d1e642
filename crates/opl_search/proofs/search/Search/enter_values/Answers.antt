use Rattle.std.proofs.Common.{rules, ◌≡◌, ◌∙◌, ◌∷◌, [], ap, sym, subst, arith, refl, length, reverse, drop}
use Rattle.std.specs.Prelude.{FitsSigned, Some}
use mir.Syntax.{w64}
use Rattle.std.proofs.lemmas.Int.{to_z-of_z}
use Rattle.opl_domain.specs.Family.{set_of}
use Rattle.opl_trace.specs.Answers.{is_value}
use Rattle.opl_steps.specs.Tasks.Task.{values}
use Rattle.opl_turns.proofs.Chosen.{chooses_taken}
use Rattle.opl_search.specs.Tails.{tail_of}
use Rattle.opl_search.specs.States.{opened, posting}
use Rattle.opl_search.specs.Pending.{above, left_values, places, AreOpen, IsNextValue}
use Rattle.opl_search.proofs.Parts.{tail_label}
use Rattle.opl_search.proofs.Values.{next_member}
use Rattle.opl_search.proofs.Places.{goes_same, enter_none, enter_spent, enter_taken}
use Rattle.opl_search.proofs.Covers.{turn_posted}
use Rattle.opl_search.proofs.search.Search.enter_values.Goals as goal

pub returns-in-None-clause-goes : goal.returns-in-None-clause-goes
returns-in-None-clause-goes g c =
    let m = c.args.self.now in
    let s = g.S.Solver.state m.solver in
    let os = reverse m.opens.items in
    let ts = values (drop c.args.place c.args.variables.value) ∷ tail_of c.args.rest.value in
    let e : left_values c.args.last (set_of s.sets c.args.variable) ≡ [] = subst (λ F. left_values c.args.last (set_of F c.args.variable) ≡ []) (g.met.S.Solver.sees m.solver) c.in-None.ensures in
    goes_same m.left refl refl (enter_none s os m.left c.args.variable c.args.last ts e) c.requires.opens tt

pub returns-then-self-eq0-clause-goes : goal.returns-then-self-eq0-clause-goes
returns-then-self-eq0-clause-goes g c =
    let m = c.args.self.now in
    let s = g.S.Solver.state m.solver in
    let os = reverse m.opens.items in
    let ts = values (drop c.args.place c.args.variables.value) ∷ tail_of c.args.rest.value in
    let v = c.in-Some.v in
    let vs = set_of s.sets c.args.variable in
    let e : left_values c.args.last vs ≡ v ∷ above v vs = subst (λ F. IsNextValue (set_of F c.args.variable) c.args.last (Some v)) (g.met.S.Solver.sees m.solver) c.in-Some.ensures in
    let z : m.left ≡ 0 = omega (arith, c.if-self-eq0.true) in
    goes_same m.left refl refl (enter_spent s os m.left c.args.variable c.args.last ts v (above v vs) e z) c.requires.opens tt

pub post_value-requires : goal.post_value-requires
post_value-requires g c =
    let m = c.args.self.now in
    let s = g.S.Solver.state m.solver in
    let v = c.in-Some.v in
    let vs = set_of s.sets c.args.variable in
    let h : FitsSigned w64 v = search rules in
    let e : left_values c.args.last vs ≡ v ∷ above v vs = subst (λ F. IsNextValue (set_of F c.args.variable) c.args.last (Some v)) (g.met.S.Solver.sees m.solver) c.in-Some.ensures in
    rw (to_z-of_z w64 v h, c.in_ok-choose-in-Some.ensures.state) (next_member vs c.args.last v (above v vs) e)

pub returns-in_ok-post_value-in-Some-clause-goes : goal.returns-in_ok-post_value-in-Some-clause-goes
returns-in_ok-post_value-in-Some-clause-goes g c =
    let m = c.args.self.now in
    let s = g.S.Solver.state m.solver in
    let os = reverse m.opens.items in
    let xs = drop c.args.place c.args.variables.value in
    let us = tail_of c.args.rest.value in
    let v = c.in-Some.v in
    let vs = set_of s.sets c.args.variable in
    let h : FitsSigned w64 v = search rules in
    let e : left_values c.args.last vs ≡ v ∷ above v vs = subst (λ F. IsNextValue (set_of F c.args.variable) c.args.last (Some v)) (g.met.S.Solver.sees m.solver) c.in-Some.ensures in
    let chosen = c.in_ok-choose-in-Some.ensures in
    let n = c.choose.new.self in
    let t = g.S.Solver.state c.post_value.new.self in
    let post = rw (to_z-of_z w64 v h) at c.in_ok-post_value-in-Some.ensures in
    let kept = rw (to_z-of_z w64 v h) at chosen.places in
    let whole : t ≡ posting (is_value c.args.variable v) (opened s) = post ∙ ap (posting (is_value c.args.variable v)) chosen.state in
    let one = c.in_ok-clone-in-Some in
    let two = c.in_ok-clone-in-Some-2 in
    let tail = tail_label one.field-0 c.args.place two.field-0
    ∙ ap (λ ys. values (drop c.args.place ys) ∷ tail_of two.field-0.value) one.ensures.cases
    ∙ ap (λ r. values xs ∷ tail_of r) two.ensures.cases in
    record {
      same = ap (λ u. u.core) whole;
      best = ap (λ u. u.best) whole;
      fewer = omega (arith, chosen.left);
      makes = chooses_taken (Some (c.args.variable, v)) m.left n.left chosen.left
          (enter_taken s os m.left c.args.variable c.args.last (values xs ∷ us) v n.left t (reverse n.opens.items) _ e chosen.left whole (ap (λ u. places (reverse n.opens.items) u.levels) post ∙ kept) tail);
      opens = subst (λ u. AreOpen (reverse n.opens.items) (length u.levels) u.levels) (sym post) chosen.opens;
      turn = turn_posted s t c.args.variable v xs us _ c.requires.covers whole tail;
    }
