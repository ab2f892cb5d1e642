use Rattle.std.proofs.Common.{◌≡◌, ◌∙◌, List, Bool, length, map, ap, subst, sym}
use Rattle.opl_domain.specs.Family.{Family}
use Rattle.opl_trace.specs.Removals.{Kept}
use Rattle.opl_closure.specs.Members.{refutes_one, WaitOrAreStable, Closes}
use Rattle.opl_engine.specs.declared.member.Member.{Member}
use Rattle.opl_engine.specs.Crowds.{Crowd}
use Rattle.opl_trail.specs.Levels.{Levels}
use Rattle.opl_notes.specs.Noted.{Knows, Tells}
use Rattle.opl_engine.specs.Members.{fact_of, means_members}
use Rattle.opl_engine.proofs.Lists.{length_map, written_back}
use Rattle.opl_engine.proofs.members.Members.propagate.Goals as goal

pub propagate-requires-clause-knows : goal.propagate-requires-clause-knows
propagate-requires-clause-knows g c =
    let core = c.args.core.now in
    let F = g.N.View.family c.args.n.now in
    let e : c.as_mut_slice.result.now ≡ c.args.self.now.members = c.as_mut_slice.ensures.value ∙ ap (λ (k : Crowd). k.members) c.self.view_is in
    let w : c.self.inside.notes ≡ c.args.self.now.notes = ap (λ (k : Crowd). k.notes) c.self.view_is in
    subst (λ (ms : List Member). Knows (means_members core ms) c.self.inside.notes.top F) (sym e)
    (subst (λ (ns : Levels). Knows (means_members core c.args.self.now.members) ns.top F) (sym w) c.requires.knows)

pub returns-clause-tells : goal.returns-clause-tells
returns-clause-tells g c =
    let core = c.args.core.now in
    let F = g.N.View.family c.args.n.now in
    let G = g.N.View.family c.propagate.new.n in
    let e : c.as_mut_slice.result.now ≡ c.args.self.now.members = c.as_mut_slice.ensures.value ∙ ap (λ (k : Crowd). k.members) c.self.view_is in
    let w : c.self.inside.notes ≡ c.args.self.now.notes = ap (λ (k : Crowd). k.notes) c.self.view_is in
    subst (λ (ns : Levels). Tells (means_members core c.args.self.now.members) ns F c.propagate.new.notes G) w
    (subst (λ (ms : List Member). Tells (means_members core ms) c.self.inside.notes F c.propagate.new.notes G) e c.propagate.ensures.tells)

pub returns-clause-means : goal.returns-clause-means
returns-clause-means g c =
    let core = c.args.core.now in
    let e : c.as_mut_slice.result.now ≡ c.args.self.now.members = c.as_mut_slice.ensures.value ∙ ap (λ (k : Crowd). k.members) c.self.view_is in
    let xs = c.self.inside.members.items in
    let ks = c.propagate.new.filters in
    let n : c.self.inside.members.len ≡ length ks = c.self.inside.members.ok.0 ∙ sym (ap length c.as_mut_slice.ensures.value) ∙ sym (length_map (fact_of core) c.as_mut_slice.result.now) ∙ sym (ap length c.propagate.ensures.same) ∙ length_map (fact_of core) ks in
    λ fs k h. subst (λ (ms : List Member). means_members core ms fs k) (sym (written_back ks xs c.self.inside.members.len n)) (c.propagate.ensures.means fs k (subst (λ (ms : List Member). means_members core ms fs k) (sym e) h))

pub propagate-requires-clause-wait : goal.propagate-requires-clause-wait
propagate-requires-clause-wait g c =
    let core = c.args.core.now in
    let F = g.N.View.family c.args.n.now in
    let e : c.as_mut_slice.result.now ≡ c.args.self.now.members = c.as_mut_slice.ensures.value ∙ ap (λ (k : Crowd). k.members) c.self.view_is in
    let w : c.self.inside.waiting ≡ c.args.self.now.waits = ap (λ (k : Crowd). k.waits) c.self.view_is in
    subst (λ (ms : List Member). WaitOrAreStable (map (fact_of core) ms) c.self.inside.waiting F) (sym e)
    (subst (λ (ws : List Bool). WaitOrAreStable (map (fact_of core) c.args.self.now.members) ws F) (sym w) c.requires.wait)

pub returns-clause-closes : goal.returns-clause-closes
returns-clause-closes g c =
    let core = c.args.core.now in
    let F = g.N.View.family c.args.n.now in
    let G = g.N.View.family c.propagate.new.n in
    let e : c.as_mut_slice.result.now ≡ c.args.self.now.members = c.as_mut_slice.ensures.value ∙ ap (λ (k : Crowd). k.members) c.self.view_is in
    subst (λ (ms : List Member). (D : Family) → Kept (refutes_one (map (fact_of core) ms)) D F → Closes (refutes_one (map (fact_of core) ms)) D G c.propagate.result) e c.propagate.ensures.closes

pub returns-clause-wait : goal.returns-clause-wait
returns-clause-wait g c =
    let core = c.args.core.now in
    let G = g.N.View.family c.propagate.new.n in
    let e : c.as_mut_slice.result.now ≡ c.args.self.now.members = c.as_mut_slice.ensures.value ∙ ap (λ (k : Crowd). k.members) c.self.view_is in
    subst (λ (ms : List Member). WaitOrAreStable (map (fact_of core) ms) c.propagate.new.waiting G) e c.propagate.ensures.wait
