use Rattle.std.proofs.Common.{refl, List, [], map, ap, reverse, subst, sym}
use Rattle.std.specs.Prelude.{None}
use Rattle.opl_engine.specs.Engines.{IsBase, IsEngine}
use Rattle.opl_engine.specs.Members.{fact_of}
use Rattle.opl_engine.specs.States.{Fits, seen, level_of}
use Rattle.opl_engine.specs.declared.opening.Opening.{Opening}
use Rattle.opl_engine.proofs.Changes.{begins, begins_fit, parts}
use Rattle.opl_engine.proofs.engine.Engine.new.Goals as goal

pub invariant_of-result : goal.invariant_of-result
invariant_of-result c = subst (IsEngine c.args.core.value None c.in_ok-members.members) (sym (ap (reverse {A = Opening}) c.new.ensures.items)) (begins c.args.core.value c.in_ok-members.members (subst (λ d. IsBase d c.in_ok-members.members) c.as_ref.ensures c.in_ok-members.ensures))

pub returns-clause-fits : goal.returns-clause-fits
returns-clause-fits c = λ F b.
    let none = sym (ap (reverse {A = Opening}) c.new.ensures.items) in
    subst (λ os. Fits (seen (parts c.args.core.value None c.in_ok-members.members os)) F []) none
    (begins_fit c.args.core.value c.in_ok-members.members F (subst (λ d. IsBase d c.in_ok-members.members) c.as_ref.ensures c.in_ok-members.ensures) b)

pub returns-clause-engine : goal.returns-clause-engine
returns-clause-engine c =
    let b = subst (λ d. IsBase d c.in_ok-members.members) c.as_ref.ensures c.in_ok-members.ensures in
    (refl, refl, b.grown.posted, ap (λ (os : List Opening). map (level_of (map (fact_of c.args.core.value) c.in_ok-members.members.members)) (reverse os)) c.new.ensures.items)
