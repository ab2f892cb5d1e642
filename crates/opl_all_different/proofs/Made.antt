-- The filter of `alldifferent`: for which constraints it is made, and that it filters them.
use Rattle.std.proofs.Common.{◌≡◌, ◌∙◌, ℕ, Bool, true, false, refl, List, [], map, length, ℤ, ap, sym, subst}
use Rattle.std.specs.Prelude.{Option, Some, None}
use Rattle.opl_domain.specs.Family.{Family, IsFamily, Below}
use Rattle.opl_expr.specs.declared.model.Core.{Core}
use Rattle.opl_expr.specs.declared.forms.Op.{Op}
use Rattle.opl_expr.specs.declared.forms.Expr.{Expr}
use Rattle.opl_expr.specs.declared.forms.Cons.{Cons}
use Rattle.opl_expr.specs.declared.forms.Cons.TheVariants as C
use Rattle.opl_expr.specs.declared.forms.Cons.TheOpen.{Cons-F}
use Rattle.opl_expr.specs.declared.forms.Cons.TheViews.{out-Cons, out-roll-Cons}
use Rattle.opl_expr.specs.Forms.{Fact, fact, terms_of}
use Rattle.opl_expr.specs.Solutions.{declared}
use Rattle.opl_expr.specs.Sound.{IsSoundFact}
use Rattle.opl_expr.proofs.Plain.{fact_AllDifferent}
use Rattle.opl_range.specs.Between.{term_of}
use Rattle.opl_filter.specs.declared.outcome.Outcome.{Outcome}
use Rattle.opl_filter.specs.Filtering.{refutes, IsBetween, Filters}
use Rattle.opl_linear.proofs.Carrying.{SaysTheSame, between_carried, outcome_carried}
use Rattle.opl_linear_filter.proofs.Weights.{below_length}
use Rattle.opl_all_different.specs.declared.part.Part.{Part}
use Rattle.opl_all_different.specs.declared.different_filter.DifferentFilter.{DifferentFilter}
use Rattle.opl_all_different.specs.Parts.{clashes, AreSeparate, ArePartsOf, AreFitting}
use Rattle.opl_all_different.specs.Reading.{AreSingleVariables, HaveParts}
use Rattle.opl_all_different.specs.DifferentForms.{IsMade, IsFilterOf, IsMadeForParts, IsThereFor, IsFilterIfAny}
use Rattle.opl_all_different.proofs.Fits.{own_fits, pairs_fit, family_fits}
use Rattle.opl_all_different.proofs.Readings.{all_single}
use Rattle.opl_all_different.proofs.Differing.{different_by_parts}

-- ---- which constraints are `alldifferent`

abbrev pub is_different_layer : Cons-F Cons Expr → Bool
is_different_layer (Cons-F.AllDifferent es) = true
is_different_layer _ = false

abbrev pub is_different : Cons → Bool
is_different c = is_different_layer (out-Cons c)

abbrev expressions_layer : Cons-F Cons Expr → List Expr
expressions_layer (Cons-F.AllDifferent es) = es
expressions_layer _ = []

open_AllDifferent : (es : List Expr) → out-Cons (C.AllDifferent es) ≡ Cons-F.AllDifferent es
open_AllDifferent es = ap out-Cons (sym (C.rolls-AllDifferent es)) ∙ out-roll-Cons (Cons-F.AllDifferent es)

same_expressions : (es ds : List Expr) → C.AllDifferent es ≡ C.AllDifferent ds → es ≡ ds
same_expressions es ds e = ap expressions_layer (sym (open_AllDifferent es) ∙ ap out-Cons e ∙ open_AllDifferent ds)

pub other_Fixed : (b : Bool) → is_different (C.Fixed b) ≡ false
other_Fixed b = ap is_different_layer (ap out-Cons (sym (C.rolls-Fixed b)) ∙ out-roll-Cons (Cons-F.Fixed b))

pub other_Cmp : (op : Op) (a b : Expr) → is_different (C.Cmp op a b) ≡ false
other_Cmp op a b = ap is_different_layer (ap out-Cons (sym (C.rolls-Cmp op a b)) ∙ out-roll-Cons (Cons-F.Cmp op a b))

pub other_And : (cs : List Cons) → is_different (C.And cs) ≡ false
other_And cs = ap is_different_layer (ap out-Cons (sym (C.rolls-And cs)) ∙ out-roll-Cons (Cons-F.And cs))

pub other_Or : (cs : List Cons) → is_different (C.Or cs) ≡ false
other_Or cs = ap is_different_layer (ap out-Cons (sym (C.rolls-Or cs)) ∙ out-roll-Cons (Cons-F.Or cs))

pub other_Imp : (a b : Cons) → is_different (C.Imp a b) ≡ false
other_Imp a b = ap is_different_layer (ap out-Cons (sym (C.rolls-Imp a b)) ∙ out-roll-Cons (Cons-F.Imp a b))

pub other_Iff : (a b : Cons) → is_different (C.Iff a b) ≡ false
other_Iff a b = ap is_different_layer (ap out-Cons (sym (C.rolls-Iff a b)) ∙ out-roll-Cons (Cons-F.Iff a b))

pub other_Not : (a : Cons) → is_different (C.Not a) ≡ false
other_Not a = ap is_different_layer (ap out-Cons (sym (C.rolls-Not a)) ∙ out-roll-Cons (Cons-F.Not a))

pub other_Capacity : (r : ℕ) (t : ℤ) → is_different (C.Capacity r t) ≡ false
other_Capacity r t = ap is_different_layer (ap out-Cons (sym (C.rolls-Capacity r t)) ∙ out-roll-Cons (Cons-F.Capacity r t))

pub other_Bound : (x : ℕ) → is_different (C.Bound x) ≡ false
other_Bound x = ap is_different_layer (ap out-Cons (sym (C.rolls-Bound x)) ∙ out-roll-Cons (Cons-F.Bound x))

pub none_made : (core : Core) (c d : Cons) → c ≡ d → is_different d ≡ false → IsThereFor core c None
none_made core c d e h = λ m. let t = sym h ∙ ap is_different (sym e ∙ m.is) ∙ ap is_different_layer (open_AllDifferent m.expressions) in cc

-- ---- what is made

pub made_for_parts : (core : Core) (es : List Expr) (f : DifferentFilter) → IsSoundFact core.sets (Fact.different (terms_of (map (term_of core) es))) → HaveParts core es f.parts → length f.done.items ≡ length f.parts → IsMadeForParts core es (Some f)
made_for_parts core es f s h l = (
  record {
    terms = terms_of (map (term_of core) es);
    is = refl;
    parts = h.parts;
    made = record {
      separate = h.separate;
      own = own_fits core (terms_of (map (term_of core) es)) f.parts h.parts s.0;
      pairs = pairs_fit core (terms_of (map (term_of core) es)) f.parts h.parts s.0;
      marks = l;
    };
  },
  all_single core es f.parts h,
)

fact_as : (core : Core) (c : Cons) (es : List Expr) → c ≡ C.AllDifferent es → fact core.tables core.resources c ≡ Fact.different (terms_of (map (term_of core) es))
fact_as core c es e = ap (fact core.tables core.resources) e ∙ fact_AllDifferent core.tables core.resources es

pub sound_as : (core : Core) (c : Cons) (es ds : List Expr) → c ≡ C.AllDifferent es → ds ≡ es → IsSoundFact core.sets (fact core.tables core.resources c) → IsSoundFact core.sets (Fact.different (terms_of (map (term_of core) ds)))
sound_as core c es ds e i s = subst (λ xs. IsSoundFact core.sets (Fact.different (terms_of (map (term_of core) xs)))) (sym i) (subst (IsSoundFact core.sets) (fact_as core c es e) s)

pub filter_for : (core : Core) (c : Cons) (es ds : List Expr) → c ≡ C.AllDifferent es → ds ≡ es → (o : Option DifferentFilter) → IsMadeForParts core ds o → IsFilterIfAny core (fact core.tables core.resources c) o
filter_for core c es ds e i None h = tt
filter_for core c es ds e i (Some f) h = subst (λ d. IsFilterOf core d f) (sym (fact_as core c es e ∙ ap (λ xs. Fact.different (terms_of (map (term_of core) xs))) (sym i))) h.0

pub there_for : (core : Core) (c : Cons) (es ds : List Expr) → c ≡ C.AllDifferent es → ds ≡ es → (o : Option DifferentFilter) → IsMadeForParts core ds o → IsThereFor core c o
there_for core c es ds e i None h = λ m. h (subst (AreSingleVariables core) (same_expressions m.expressions es (sym m.is ∙ e) ∙ sym i) m.single)
there_for core c es ds e i (Some f) h = record { expressions = ds; is = e ∙ ap C.AllDifferent (sym i); single = h.1 }

-- ---- what filters the parts filters the constraint

pub separate_here : (core : Core) (F : Family) (ps : List Part) → Below F (declared core) → AreSeparate (length core.sets) ps → AreSeparate (length F) ps
separate_here core F ps b s = subst (λ n. AreSeparate n ps) (sym (below_length core F b)) s

pub fitting_here : (core : Core) (F : Family) (f : DifferentFilter) → Below F (declared core) → IsMade core f → AreFitting F f.parts
fitting_here core F f b m = family_fits core F f.parts b m.own m.pairs

module _ (core : Core) (c : Fact) (f : DifferentFilter) (is : IsFilterOf core c f) (D F : Family) (o : Outcome) (sets : IsFamily D) (b : Below D (declared core)) where
  same : SaysTheSame (length D) (clashes f.parts) (refutes c)
  same G w e =
      let n = e ∙ below_length core D b in
      sym (ap (λ y. refutes y G) is.is ∙ different_by_parts is.terms f.parts G w (subst (λ m. ArePartsOf m is.terms f.parts) (sym n) is.parts) (subst (λ m. AreSeparate m f.parts) (sym n) is.made.separate))

  pub filters_between : IsBetween (clashes f.parts) D F → IsBetween (refutes c) D F
  filters_between i = between_carried (length D) (clashes f.parts) (refutes c) same D F sets refl i

  pub filters_outcome : Filters (clashes f.parts) D F o → Filters (refutes c) D F o
  filters_outcome g = outcome_carried (length D) (clashes f.parts) (refutes c) same D F o refl g
