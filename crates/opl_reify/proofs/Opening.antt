-- Which parts are open, as they are read one after another.
use Rattle.std.proofs.Common.{◌≡◌, ◌∙◌, ◌≢◌, ℕ, zero, suc, ◌+◌, ◌<◌, ◌≤◌, Bool, true, false, refl, List, [], ◌∷◌, length, get_or, ap, sym, subst, arith, inl, inr}
use Rattle.std.specs.Prelude.{slice_get, Some}
use Rattle.std.proofs.lemmas.Bool.{cases_eq}
use Rattle.std.proofs.lemmas.Bool.Decides.{leb_tells}
use Rattle.std.proofs.lemmas.Option.{slice_get-get_or}
use Rattle.opl_domain.specs.Family.{Family, Below}
use Rattle.opl_expr.specs.declared.model.Core.{Core}
use Rattle.opl_expr.specs.declared.forms.Cons.{Cons}
use Rattle.opl_expr.specs.Solutions.{declared}
use Rattle.opl_filter.specs.Filtering.{refutes}
use Rattle.opl_filter.specs.Rounds.{AreThere}
use Rattle.opl_filter.proofs.Mentioned.{variables_there}
use Rattle.opl_linear_filter.specs.LinearForms.{IsMade, IsFilterOf}
use Rattle.opl_reify.specs.declared.part.Part.{Part}
use Rattle.opl_reify.specs.Parts.{IsPart, fact_in, AreParts, any_of, IsRefutedAt, IsNextOpen}
use Rattle.opl_reify.proofs.Parts.{any_refuted, each_refuted, one_open, part_at, the_one}

-- ---- a part as it is read

pub at_place : (ps : List Part) (k : ℕ) (p : Part) → k < length ps → p ≡ get_or ps k p → slice_get ps k ≡ Some p
at_place ps k p l e = slice_get-get_or ps k p l ∙ ap (λ q. Some q) (sym e)

constraint_is : (ps : List Part) (k : ℕ) (p : Part) (c : Cons) → p ≡ get_or ps k p → c ≡ (get_or ps k p).constraint → c ≡ p.constraint
constraint_is ps k p c e i = i ∙ ap (λ (q : Part). q.constraint) (sym e)

pub part_read : (core : Core) (ps : List Part) (k : ℕ) (p : Part) → AreParts core ps → k < length ps → p ≡ get_or ps k p → IsPart core p
part_read core ps k p a l e = part_at core ps k p a (at_place ps k p l e)

pub told : (core : Core) (F : Family) (ps : List Part) (k : ℕ) (p : Part) (r b : Bool) → k < length ps → p ≡ get_or ps k p → r ≡ refutes (fact_in core p) F → r ≡ b
    → (q : Part) → slice_get ps k ≡ Some q → refutes (fact_in core q) F ≡ b
told core F ps k p r b l e h j q s = subst (λ z. refutes (fact_in core z) F ≡ b) (the_one p q (sym (at_place ps k p l e) ∙ s)) (sym h ∙ j)

pub variables_read : (ps : List Part) (k : ℕ) (p : Part) (xs : List ℕ) → p ≡ get_or ps k p → xs ≡ (get_or ps k p).variables → xs ≡ p.variables
variables_read ps k p xs e i = i ∙ ap (λ (q : Part). q.variables) (sym e)

pub read_there : (core : Core) (F : Family) (ps : List Part) (k : ℕ) (p : Part) (xs : List ℕ) → AreParts core ps → k < length ps → p ≡ get_or ps k p → xs ≡ (get_or ps k p).variables → Below F (declared core) → AreThere xs F
read_there core F ps k p xs a l e i b =
    let m = part_at core ps k p a (at_place ps k p l e) in
    subst (λ ys. AreThere ys F) (sym (variables_read ps k p xs e i)) (variables_there core (fact_in core p) p.variables F m.sound b m.named)

pub read_filter : (core : Core) (ps : List Part) (k : ℕ) (p : Part) → AreParts core ps → k < length ps → p ≡ get_or ps k p → IsFilterOf core (fact_in core p) (get_or ps k p).filter
read_filter core ps k p a l e = subst (λ (q : Part). IsFilterOf core (fact_in core p) q.filter) e (part_at core ps k p a (at_place ps k p l e)).filter

pub read_made : (core : Core) (ps : List Part) (k : ℕ) (p : Part) → AreParts core ps → k < length ps → p ≡ get_or ps k p → IsMade core (get_or ps k p).filter
read_made core ps k p a l e = (read_filter core ps k p a l e).comparison.difference.made

-- ---- one after another

within : (ps : List Part) (i : ℕ) (p : Part) → slice_get ps i ≡ Some p → i < length ps
within [] i p h = cc
within (q ∷ ps) zero p h = omega arith
within (q ∷ ps) (suc i) p h = let r = within ps i p h in omega (arith, r)

pub open_first : (core : Core) (F : Family) (ps : List Part) (k : ℕ) (i : ℕ) → k ≤ i → i < k → IsRefutedAt core F ps i
open_first core F ps k i l h = absurd (omega (arith, l, h))

pub open_next : (core : Core) (F : Family) (ps : List Part) (from k : ℕ) → ((i : ℕ) → from ≤ i → i < k → IsRefutedAt core F ps i) → IsRefutedAt core F ps k → (i : ℕ) → from ≤ i → i < k + 1 → IsRefutedAt core F ps i
open_next core F ps from k h r i l m = elim (cases_eq i k) [
  | inl e ↦ subst (λ j. IsRefutedAt core F ps j) (sym e) r
  | inr n ↦ h i l (omega (arith, m, n))
]

pub open_none : (core : Core) (F : Family) (ps : List Part) (from k : ℕ) → ((i : ℕ) → from ≤ i → i < k → IsRefutedAt core F ps i) → length ps ≤ k → (i : ℕ) → from ≤ i → IsRefutedAt core F ps i
open_none core F ps from k h e i l p s = let w = within ps i p s in h i l (omega (arith, w, e)) p s

-- ---- what a look for open parts tells

some_there : (ps : List Part) (k : ℕ) → k < length ps → (p : Part) × (slice_get ps k ≡ Some p)
some_there [] k l = absurd (omega arith)
some_there (p ∷ ps) zero l = (p, refl)
some_there (p ∷ ps) (suc k) l = some_there ps k (omega arith)

pub dead_none : (core : Core) (F : Family) (ps : List Part) → AreParts core ps → ((i : ℕ) → 0 ≤ i → IsRefutedAt core F ps i) → true ≡ refutes (any_of core ps) F
dead_none core F ps a h = sym (any_refuted core F ps a ∙ each_refuted core F ps (λ i. h i (omega arith)))

pub dead_some : (core : Core) (F : Family) (ps : List Part) (k : ℕ) → AreParts core ps → IsNextOpen core F ps 0 k → false ≡ refutes (any_of core ps) F
dead_some core F ps k a n =
    let p = some_there ps k n.is_open.there in
    sym (any_refuted core F ps a ∙ one_open core F ps k p.0 p.1 (n.is_open.not_refuted p.0 p.1))

pub others_refuted : (core : Core) (F : Family) (ps : List Part) (k : ℕ) → IsNextOpen core F ps 0 k → ((i : ℕ) → k + 1 ≤ i → IsRefutedAt core F ps i) → (i : ℕ) → i ≢ k → IsRefutedAt core F ps i
others_refuted core F ps k n h i d = elim (leb_tells k i) [
  | inl l ↦ h i (omega (arith, l.1, d))
  | inr g ↦ n.before i (omega arith) g.1
]
