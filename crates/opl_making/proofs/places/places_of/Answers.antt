use Rattle.std.proofs.Common.{List, [], ℕ, ◌+◌, ap, subst, sym, take}
use Rattle.std.proofs.lemmas.List.{take_all}
use Rattle.opl_draft.specs.Unrolled.{unrolled}
use Rattle.opl_term.specs.declared.term.Term.{Term}
use Rattle.opl_declared.specs.Kept.{names_in}
use Rattle.opl_making.specs.Places.{AreAt, term_drafts}
use Rattle.opl_making.proofs.DraftPlaces.{at-more}
use Rattle.opl_making.proofs.places.places_of.Goals as goal

pub loop-term-init : goal.loop-term-init
loop-term-init c env = subst (λ (ats : List ℕ). AreAt [] ats) (sym c.new-places.ensures.items) tt

pub loop-term-preserved : goal.loop-term-preserved
loop-term-preserved c env =
    subst (λ (ats : List ℕ). AreAt (term_drafts c.args.declared.now.items.now (names_in c.args.declared.now) env (take (c.loop-term.term-index + 1) c.args.terms.now)) ats) (sym c.in_ok-push.ensures.ok)
    (at-more (λ t. unrolled c.args.declared.now.items.now (names_in c.args.declared.now) t env) c.args.terms.now c.loop-term.term-index c.term-item.result c.loop-term.places.items c.draft_place.result
    c.loop-term-test.true c.term-item.is (c.loop-term.invariant env) (c.draft_place.ensures env))

pub returns : goal.returns
returns c env =
    subst (λ (ts : List Term). AreAt (term_drafts c.args.declared.now.items.now (names_in c.args.declared.now) env ts) c.loop-term.places.items)
    (take_all c.loop-term.term-index c.args.terms.now c.loop-term-test.false) (c.loop-term.invariant env)
