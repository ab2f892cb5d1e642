use Rattle.std.proofs.Common.{◌≡◌, ℕ, map, reverse, ap, subst, sym}
use Rattle.opl_domain.specs.Family.{Family, Below}
use Rattle.opl_expr.specs.Solutions.{declared}
use Rattle.opl_trace.specs.Removals.{Kept}
use Rattle.opl_trace.proofs.Removals.{kept_self, kept_below}
use Rattle.opl_closure.specs.Members.{refutes_one, Each, WaitOrAreStable}
use Rattle.opl_expr.specs.Forms.{Fact}
use Rattle.opl_notes.specs.Noted.{Knows, Tells}
use Rattle.opl_engine.specs.Members.{fact_of, means_members, IsMember}
use Rattle.opl_closure.specs.Members as propagation
use Rattle.opl_engine.specs.States.{seen, Closes}
use Rattle.opl_engine.proofs.Changes.{wait_of, notes_of, within_of, kept_of, can_of, closes_of, works, worked_keep}
use Rattle.opl_engine.proofs.engine.Engine.close.Goals as goal

pub propagate-requires-clause-made : goal.propagate-requires-clause-made
propagate-requires-clause-made g c =
    let s = c.self.inside in
    subst (λ d. Each (λ i m. IsMember d m) s.members.members) (sym c.as_ref.ensures) c.self.invariant.made

pub propagate-requires-clause-declared : goal.propagate-requires-clause-declared
propagate-requires-clause-declared g c =
    let s = c.self.inside in
    let F = g.N.View.family c.args.store.now in
    subst (λ d. Below F (declared d)) (sym c.as_ref.ensures)
    (within_of s.core.value s.best s.members (reverse s.openings.items) (seen c.args.self.now) F c.requires.fits.0 (ap seen c.self.view_is) c.requires.fits.1)

pub propagate-requires-clause-wait : goal.propagate-requires-clause-wait
propagate-requires-clause-wait g c =
    let s = c.self.inside in
    let F = g.N.View.family c.args.store.now in
    subst (λ d. WaitOrAreStable (map (fact_of d) s.members.members) s.members.waits F) (sym c.as_ref.ensures)
    (wait_of s.core.value s.best s.members (reverse s.openings.items) (seen c.args.self.now) F c.requires.fits.0 c.self.invariant (ap seen c.self.view_is) c.requires.fits.1)

pub propagate-requires-clause-knows : goal.propagate-requires-clause-knows
propagate-requires-clause-knows g c =
    let s = c.self.inside in
    let F = g.N.View.family c.args.store.now in
    subst (λ d. Knows (means_members d s.members.members) s.members.notes.top F) (sym c.as_ref.ensures)
    (notes_of s.core.value s.best s.members (reverse s.openings.items) (seen c.args.self.now) F c.requires.fits.0 (ap seen c.self.view_is) c.requires.fits.1)

pub invariant_of-self : goal.invariant_of-self
invariant_of-self g c =
    let s = c.self.inside in
    let p = c.propagate.ensures in
    worked_keep s.core.value s.best s.members c.propagate.new.self (reverse s.openings.items) c.self.invariant
    (subst (λ d. map (fact_of d) c.propagate.new.self.members ≡ map (fact_of d) s.members.members) c.as_ref.ensures p.facts) p.kinds
    (subst (λ d. Each (λ i m. IsMember d m) c.propagate.new.self.members) c.as_ref.ensures p.made) p.variables p.tells.below

pub returns-clause-closed : goal.returns-clause-closed
returns-clause-closed g c =
    let s = c.self.inside in
    let os = reverse s.openings.items in
    let v = ap seen c.self.view_is in
    let F = g.N.View.family c.args.store.now in
    let G = g.N.View.family c.propagate.new.n in
    let k = kept_of s.core.value s.best s.members os (seen c.args.self.now) F c.self.invariant v c.vars-vars.ensures.sets c.requires.can in
    subst (Closes (seen c.args.self.now).core (seen c.args.self.now).posted (seen c.args.self.now).best G) (sym c.closed_as.ensures)
    (closes_of s.core.value s.best s.members os (seen c.args.self.now) G c.propagate.result c.self.invariant v
    ((subst (λ d. (D : Family) → Kept (refutes_one (map (fact_of d) s.members.members)) D F → propagation.Closes (refutes_one (map (fact_of d) s.members.members)) D G c.propagate.result) c.as_ref.ensures c.propagate.ensures.closes) (declared s.core.value) k))

pub returns-clause-can : goal.returns-clause-can
returns-clause-can g c =
    let s = c.self.inside in
    let os = reverse s.openings.items in
    let v = ap seen c.self.view_is in
    let F = g.N.View.family c.args.store.now in
    let G = g.N.View.family c.propagate.new.n in
    let k = kept_of s.core.value s.best s.members os (seen c.args.self.now) F c.self.invariant v c.vars-vars.ensures.sets c.requires.can in
    let a = can_of s.core.value s.best s.members os (seen c.args.self.now) G c.self.invariant v ((subst (λ d. (D : Family) → Kept (refutes_one (map (fact_of d) s.members.members)) D F → Kept (refutes_one (map (fact_of d) s.members.members)) D G) c.as_ref.ensures c.propagate.ensures.kept) (declared s.core.value) k) in
    a

pub returns-clause-below : goal.returns-clause-below
returns-clause-below g c =
    let s = c.self.inside in
    let F = g.N.View.family c.args.store.now in
    let G = g.N.View.family c.propagate.new.n in
    let tests = refutes_one (map (fact_of s.core.value) s.members.members) in
    let k = (subst (λ d. (D : Family) → Kept (refutes_one (map (fact_of d) s.members.members)) D F → Kept (refutes_one (map (fact_of d) s.members.members)) D G) c.as_ref.ensures c.propagate.ensures.kept) F (kept_self tests F) in
    kept_below tests F G k

pub returns-clause-same : goal.returns-clause-same
returns-clause-same g c =
    let s = c.self.inside in
    let os = reverse s.openings.items in
    let v = ap seen c.self.view_is in
    let F = g.N.View.family c.args.store.now in
    let G = g.N.View.family c.propagate.new.n in
    let k = kept_of s.core.value s.best s.members os (seen c.args.self.now) F c.self.invariant v c.vars-vars.ensures.sets c.requires.can in
    let a = can_of s.core.value s.best s.members os (seen c.args.self.now) G c.self.invariant v ((subst (λ d. (D : Family) → Kept (refutes_one (map (fact_of d) s.members.members)) D F → Kept (refutes_one (map (fact_of d) s.members.members)) D G) c.as_ref.ensures c.propagate.ensures.kept) (declared s.core.value) k) in
    let w = works s.core.value s.best s.members c.propagate.new.self os (seen c.args.self.now) F G c.self.invariant v
    (subst (λ d. map (fact_of d) c.propagate.new.self.members ≡ map (fact_of d) s.members.members) c.as_ref.ensures c.propagate.ensures.facts)
    (subst (λ d. WaitOrAreStable (map (fact_of d) s.members.members) c.propagate.new.self.waits G) c.as_ref.ensures c.propagate.ensures.wait)
    (subst (λ d. Tells (means_members d s.members.members) s.members.notes F c.propagate.new.self.notes G) c.as_ref.ensures c.propagate.ensures.tells)
    (subst (λ d. (fs : ℕ → Fact) (n : ℕ) → means_members d s.members.members fs n → means_members d c.propagate.new.self.members fs n) c.as_ref.ensures c.propagate.ensures.means) a in
    w.same

pub returns-clause-posted : goal.returns-clause-posted
returns-clause-posted g c =
    let s = c.self.inside in
    let os = reverse s.openings.items in
    let v = ap seen c.self.view_is in
    let F = g.N.View.family c.args.store.now in
    let G = g.N.View.family c.propagate.new.n in
    let k = kept_of s.core.value s.best s.members os (seen c.args.self.now) F c.self.invariant v c.vars-vars.ensures.sets c.requires.can in
    let a = can_of s.core.value s.best s.members os (seen c.args.self.now) G c.self.invariant v ((subst (λ d. (D : Family) → Kept (refutes_one (map (fact_of d) s.members.members)) D F → Kept (refutes_one (map (fact_of d) s.members.members)) D G) c.as_ref.ensures c.propagate.ensures.kept) (declared s.core.value) k) in
    let w = works s.core.value s.best s.members c.propagate.new.self os (seen c.args.self.now) F G c.self.invariant v
    (subst (λ d. map (fact_of d) c.propagate.new.self.members ≡ map (fact_of d) s.members.members) c.as_ref.ensures c.propagate.ensures.facts)
    (subst (λ d. WaitOrAreStable (map (fact_of d) s.members.members) c.propagate.new.self.waits G) c.as_ref.ensures c.propagate.ensures.wait)
    (subst (λ d. Tells (means_members d s.members.members) s.members.notes F c.propagate.new.self.notes G) c.as_ref.ensures c.propagate.ensures.tells)
    (subst (λ d. (fs : ℕ → Fact) (n : ℕ) → means_members d s.members.members fs n → means_members d c.propagate.new.self.members fs n) c.as_ref.ensures c.propagate.ensures.means) a in
    w.posted

pub returns-clause-fits : goal.returns-clause-fits
returns-clause-fits g c =
    let s = c.self.inside in
    let os = reverse s.openings.items in
    let v = ap seen c.self.view_is in
    let F = g.N.View.family c.args.store.now in
    let G = g.N.View.family c.propagate.new.n in
    let k = kept_of s.core.value s.best s.members os (seen c.args.self.now) F c.self.invariant v c.vars-vars.ensures.sets c.requires.can in
    let a = can_of s.core.value s.best s.members os (seen c.args.self.now) G c.self.invariant v ((subst (λ d. (D : Family) → Kept (refutes_one (map (fact_of d) s.members.members)) D F → Kept (refutes_one (map (fact_of d) s.members.members)) D G) c.as_ref.ensures c.propagate.ensures.kept) (declared s.core.value) k) in
    let w = works s.core.value s.best s.members c.propagate.new.self os (seen c.args.self.now) F G c.self.invariant v
    (subst (λ d. map (fact_of d) c.propagate.new.self.members ≡ map (fact_of d) s.members.members) c.as_ref.ensures c.propagate.ensures.facts)
    (subst (λ d. WaitOrAreStable (map (fact_of d) s.members.members) c.propagate.new.self.waits G) c.as_ref.ensures c.propagate.ensures.wait)
    (subst (λ d. Tells (means_members d s.members.members) s.members.notes F c.propagate.new.self.notes G) c.as_ref.ensures c.propagate.ensures.tells)
    (subst (λ d. (fs : ℕ → Fact) (n : ℕ) → means_members d s.members.members fs n → means_members d c.propagate.new.self.members fs n) c.as_ref.ensures c.propagate.ensures.means) a in
    w.fits
