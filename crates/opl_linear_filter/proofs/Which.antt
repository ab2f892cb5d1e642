-- Which constraints are comparisons, as the code sees them, and for which a filter is made.
use Rattle.std.proofs.Common.{◌≡◌, ◌∙◌, ℕ, Bool, true, false, ◌&&◌, refl, List, ℤ, ap, sym, subst}
use Rattle.std.specs.Prelude.{Option, Some, None}
use Rattle.opl_expr.specs.declared.model.Core.{Core}
use Rattle.opl_expr.specs.declared.forms.Op.{Op}
use Rattle.opl_expr.specs.declared.forms.Op.TheVariants.{Eq, Ne, Lt, Le, Gt, Ge}
use Rattle.opl_expr.specs.declared.forms.Expr.{Expr}
use Rattle.opl_expr.specs.declared.forms.Cons.{Cons}
use Rattle.opl_expr.specs.declared.forms.Cons.TheVariants as C
use Rattle.opl_expr.specs.declared.forms.Cons.TheOpen.{Expr-F, Cons-F}
use Rattle.opl_expr.specs.declared.forms.Cons.TheFolds.{fold-Cons, fold-roll-Cons, map-Cons, fold-Expr}
use Rattle.opl_expr.specs.declared.forms.Cons.TheViews.{roll-Cons}
use Rattle.opl_expr.specs.Forms.{Term, Fact, fact, compared}
use Rattle.opl_expr.specs.Range.{pure}
use Rattle.opl_expr.proofs.Plain.{fact_Cmp}
use Rattle.opl_range.specs.Between.{term_of}
use Rattle.opl_linear_filter.specs.declared.linear_filter.LinearFilter.{LinearFilter}
use Rattle.opl_linear_filter.specs.LinearForms.{IsFilterOf, IsFilterIfAny, IsMadeForSides, IsThereFor}

abbrev pub comparison_layer : Cons-F Bool Bool → Bool
comparison_layer (Cons-F.Cmp op a b) = true
comparison_layer _ = false

abbrev pub expression_layer : Expr-F Bool Bool → Bool
expression_layer e = false

unfoldable pub is_comparison : Cons → Bool
is_comparison = fold-Cons Bool Bool comparison_layer expression_layer

layer : (d : Cons-F Cons Expr) → is_comparison (roll-Cons d) ≡ comparison_layer (map-Cons Cons Expr Bool Bool is_comparison (fold-Expr Bool Bool comparison_layer expression_layer) d)
unfolding is_comparison
layer d = fold-roll-Cons Bool Bool comparison_layer expression_layer d

pub other_Fixed : (b : Bool) → is_comparison (C.Fixed b) ≡ false
other_Fixed b = ap is_comparison (sym (C.rolls-Fixed b)) ∙ layer (Cons-F.Fixed b)

is_Cmp : (op : Op) (a b : Expr) → is_comparison (C.Cmp op a b) ≡ true
is_Cmp op a b = ap is_comparison (sym (C.rolls-Cmp op a b)) ∙ layer (Cons-F.Cmp op a b)

pub other_And : (cs : List Cons) → is_comparison (C.And cs) ≡ false
other_And cs = ap is_comparison (sym (C.rolls-And cs)) ∙ layer (Cons-F.And cs)

pub other_Or : (cs : List Cons) → is_comparison (C.Or cs) ≡ false
other_Or cs = ap is_comparison (sym (C.rolls-Or cs)) ∙ layer (Cons-F.Or cs)

pub other_Imp : (a b : Cons) → is_comparison (C.Imp a b) ≡ false
other_Imp a b = ap is_comparison (sym (C.rolls-Imp a b)) ∙ layer (Cons-F.Imp a b)

pub other_Iff : (a b : Cons) → is_comparison (C.Iff a b) ≡ false
other_Iff a b = ap is_comparison (sym (C.rolls-Iff a b)) ∙ layer (Cons-F.Iff a b)

pub other_Not : (a : Cons) → is_comparison (C.Not a) ≡ false
other_Not a = ap is_comparison (sym (C.rolls-Not a)) ∙ layer (Cons-F.Not a)

pub other_AllDifferent : (es : List Expr) → is_comparison (C.AllDifferent es) ≡ false
other_AllDifferent es = ap is_comparison (sym (C.rolls-AllDifferent es)) ∙ layer (Cons-F.AllDifferent es)

pub other_Capacity : (r : ℕ) (t : ℤ) → is_comparison (C.Capacity r t) ≡ false
other_Capacity r t = ap is_comparison (sym (C.rolls-Capacity r t)) ∙ layer (Cons-F.Capacity r t)

pub other_Bound : (x : ℕ) → is_comparison (C.Bound x) ≡ false
other_Bound x = ap is_comparison (sym (C.rolls-Bound x)) ∙ layer (Cons-F.Bound x)

pub none_made : (core : Core) (c d : Cons) → c ≡ d → is_comparison d ≡ false → IsThereFor core c None
none_made core c d e h = λ m. let t = sym h ∙ ap is_comparison (sym e ∙ m.is) ∙ is_Cmp m.op m.left m.right in cc

-- ---- whether the sides of a comparison are linear is told by its plain data

abbrev are_pure : Fact → Bool
are_pure (Fact.cmp rel s t) = pure s && pure t
are_pure (Fact.not c) = are_pure c
are_pure _ = false

both : (a b : Bool) → (a && b) ≡ true → (a ≡ true) × (b ≡ true)
both true true h = (refl, refl)
both true false h = cc
both false b h = cc

and_of : (a b : Bool) → a ≡ true → b ≡ true → (a && b) ≡ true
and_of a b h k = rw (h, k) refl

from_pure : (op : Op) (s t : Term) → are_pure (compared op s t) ≡ true → (pure s ≡ true) × (pure t ≡ true)
from_pure Eq s t h = both (pure s) (pure t) h
from_pure Ne s t h = both (pure s) (pure t) h
from_pure Lt s t h = both (pure s) (pure t) h
from_pure Le s t h = both (pure s) (pure t) h
from_pure Gt s t h = let r = both (pure t) (pure s) h in (r.1, r.0)
from_pure Ge s t h = let r = both (pure t) (pure s) h in (r.1, r.0)

to_pure : (op : Op) (s t : Term) → pure s ≡ true → pure t ≡ true → are_pure (compared op s t) ≡ true
to_pure Eq s t h k = and_of (pure s) (pure t) h k
to_pure Ne s t h k = and_of (pure s) (pure t) h k
to_pure Lt s t h k = and_of (pure s) (pure t) h k
to_pure Le s t h k = and_of (pure s) (pure t) h k
to_pure Gt s t h k = and_of (pure t) (pure s) k h
to_pure Ge s t h k = and_of (pure t) (pure s) k h

fact_as : (core : Core) (c : Cons) (op : Op) (a b : Expr) → c ≡ C.Cmp op a b → fact core.tables core.resources c ≡ compared op (term_of core a) (term_of core b)
fact_as core c op a b e = ap (fact core.tables core.resources) e ∙ fact_Cmp core.tables core.resources op a b

filter_as : (core : Core) (c : Cons) (op : Op) (a b : Expr) (o : Option LinearFilter) → c ≡ C.Cmp op a b → IsMadeForSides core op (term_of core a) (term_of core b) o → IsFilterIfAny core (fact core.tables core.resources c) o
filter_as core c op a b None e h = tt
filter_as core c op a b (Some f) e h = subst (λ d. IsFilterOf core d f) (sym (fact_as core c op a b e)) h.0

there_as : (core : Core) (c : Cons) (op : Op) (a b : Expr) (o : Option LinearFilter) → c ≡ C.Cmp op a b → IsMadeForSides core op (term_of core a) (term_of core b) o → IsThereFor core c o
there_as core c op a b None e h = λ m.
    let f = sym (fact_as core c op a b e) ∙ fact_as core c m.op m.left m.right m.is in
    let p = from_pure op (term_of core a) (term_of core b) (ap are_pure f ∙ to_pure m.op (term_of core m.left) (term_of core m.right) m.first m.second) in
    h p.0 p.1
there_as core c op a b (Some f) e h = record { op = op; left = a; right = b; is = e; first = h.1; second = h.2 }

sides_as : (core : Core) (op : Op) (a b p q : Expr) → p ≡ a → q ≡ b → (o : Option LinearFilter) → IsMadeForSides core op (term_of core p) (term_of core q) o → IsMadeForSides core op (term_of core a) (term_of core b) o
sides_as core op a b p q i j o h = subst (λ z. IsMadeForSides core op (term_of core z) (term_of core b) o) i (subst (λ z. IsMadeForSides core op (term_of core p) (term_of core z) o) j h)

pub filter_for : (core : Core) (c : Cons) (op : Op) (a b p q : Expr) → c ≡ C.Cmp op a b → p ≡ a → q ≡ b → (o : Option LinearFilter) → IsMadeForSides core op (term_of core p) (term_of core q) o → IsFilterIfAny core (fact core.tables core.resources c) o
filter_for core c op a b p q e i j o h = filter_as core c op a b o e (sides_as core op a b p q i j o h)

pub there_for : (core : Core) (c : Cons) (op : Op) (a b p q : Expr) → c ≡ C.Cmp op a b → p ≡ a → q ≡ b → (o : Option LinearFilter) → IsMadeForSides core op (term_of core p) (term_of core q) o → IsThereFor core c o
there_for core c op a b p q e i j o h = there_as core c op a b o e (sides_as core op a b p q i j o h)
