-- A filter of its own is made with the core of its constraint.
use Rattle.std.proofs.Common.{◌≡◌, ◌∙◌, ℕ, ap, subst, sym}
use Rattle.std.specs.Prelude.{Option, Some, None}
use Rattle.opl_expr.specs.declared.model.Core.{Core}
use Rattle.opl_expr.specs.declared.forms.Cons.{Cons}
use Rattle.opl_expr.specs.Forms.{Fact}
use Rattle.opl_linear_filter.specs.declared.linear_filter.LinearFilter.{LinearFilter}
use Rattle.opl_linear_filter.specs.LinearForms.{ComparesLinear, IsFilterOf, IsThereFor as IsComparisonThere}
use Rattle.opl_all_different.specs.declared.different_filter.DifferentFilter.{DifferentFilter}
use Rattle.opl_all_different.specs.DifferentForms.{SeparatesVariables, IsFilterOf as IsDifferenceFor, IsThereFor as IsDifferenceThere}
use Rattle.opl_reify.specs.declared.reify_filter.ReifyFilter.{ReifyFilter}
use Rattle.opl_reify.specs.Disjunctions.{IsDisjunction, IsDisjunctionFor, IsThereFor as IsDisjunctionThere}
use Rattle.opl_connective.specs.declared.connective_filter.ConnectiveFilter.{ConnectiveFilter}
use Rattle.opl_connective.specs.Connectives.{IsConnectiveFor}
use Rattle.opl_connective.specs.Kinds.{Connects, IsThereFor as IsConnectiveThere}
use Rattle.opl_count.specs.declared.count_filter.CountFilter.{CountFilter}
use Rattle.opl_count.specs.CountFilters.{IsCountFor, ComparesCounts, IsThereFor as IsCountThere}
use Rattle.opl_addends.specs.declared.addends_filter.AddendsFilter.{AddendsFilter}
use Rattle.opl_addends.specs.AddendsFilters.{IsAddendsFor, ComparesAddends, IsThereFor as IsAddendsThere}
use Rattle.opl_engine.specs.declared.own_filter.OwnFilter.{OwnFilter}
use Rattle.opl_engine.specs.declared.own_filter.OwnFilter.TheVariants as own
use Rattle.opl_engine.specs.OwnFilters.{IsMadeWith, IsOwnFilter, IsOwnFilterIfAny, KeepsConstraints, means_own, means_if_any, IsThereForAddends, IsThereForCounts, IsThereForConnectives, IsThereForDisjunctions, IsThereForDifferences, IsThereForKinds, sees_ends, sees_ends_if_any}

pub made_with : (core : Core) (c : Fact) (f : OwnFilter) → IsOwnFilter core c f → IsMadeWith core f
made_with core c (own.Linear f) i = i.comparison.difference.made
made_with core c (own.Different f) i = i.made
made_with core c (own.Reify f) i = i.made
made_with core c (own.Connective f) i = i.made
made_with core c (own.Count f) i = i.made
made_with core c (own.Addends f) i = i.sum

-- the filter that there is
pub own_is : (core : Core) (c : Fact) (form : Option OwnFilter) (f : OwnFilter) → IsOwnFilterIfAny core c form → form ≡ Some f → IsOwnFilter core c f
own_is core c form f i e = subst (IsOwnFilterIfAny core c) e i

-- it stays the filter of the same constraints
pub keeps : (form : Option OwnFilter) (old new : OwnFilter) → form ≡ Some old → ((core : Core) (c : Fact) → IsOwnFilter core c old → IsOwnFilter core c new) → ((core : Core) (facts : ℕ → Fact) (n : ℕ) → means_own core old facts n → means_own core new facts n) → sees_ends new ≡ sees_ends old → KeepsConstraints form (Some new)
keeps form old new e k m s = record { constraint = λ core c i. k core c (own_is core c form old i e); means = λ core facts n i. m core facts n (subst (λ o. means_if_any core o facts n) e i); ends = s ∙ sym (ap sees_ends_if_any e) }

pub linear_is : (core : Core) (c : Fact) (s : OwnFilter) (f : LinearFilter) → s ≡ own.Linear f → IsOwnFilter core c s → IsFilterOf core c f
linear_is core c s f e i = subst (IsOwnFilter core c) e i

pub different_is : (core : Core) (c : Fact) (s : OwnFilter) (f : DifferentFilter) → s ≡ own.Different f → IsOwnFilter core c s → IsDifferenceFor core c f
different_is core c s f e i = subst (IsOwnFilter core c) e i

pub reify_is : (core : Core) (c : Fact) (s : OwnFilter) (f : ReifyFilter) → s ≡ own.Reify f → IsOwnFilter core c s → IsDisjunctionFor core c f
reify_is core c s f e i = subst (IsOwnFilter core c) e i

pub connective_is : (core : Core) (c : Fact) (s : OwnFilter) (f : ConnectiveFilter) → s ≡ own.Connective f → IsOwnFilter core c s → IsConnectiveFor core c f
connective_is core c s f e i = subst (IsOwnFilter core c) e i

pub count_is : (core : Core) (c : Fact) (s : OwnFilter) (f : CountFilter) → s ≡ own.Count f → IsOwnFilter core c s → IsCountFor core c f
count_is core c s f e i = subst (IsOwnFilter core c) e i

pub addends_is : (core : Core) (c : Fact) (s : OwnFilter) (f : AddendsFilter) → s ≡ own.Addends f → IsOwnFilter core c s → IsAddendsFor core c f
addends_is core c s f e i = subst (IsOwnFilter core c) e i

-- ---- where a filter of one kind is

pub linear_kind : (core : Core) (c : Cons) (x : Option LinearFilter) (f : LinearFilter) → IsComparisonThere core c x → x ≡ Some f → ComparesLinear core c
linear_kind core c x f t e = subst (IsComparisonThere core c) e t

pub different_kind : (core : Core) (c : Cons) (x : Option DifferentFilter) (f : DifferentFilter) → IsDifferenceThere core c x → x ≡ Some f → SeparatesVariables core c
different_kind core c x f t e = subst (IsDifferenceThere core c) e t

pub reify_kind : (core : Core) (c : Cons) (x : Option ReifyFilter) (f : ReifyFilter) → IsDisjunctionThere core c x → x ≡ Some f → IsDisjunction core c
reify_kind core c x f t e = subst (IsDisjunctionThere core c) e t

pub connective_kind : (core : Core) (c : Cons) (x : Option ConnectiveFilter) (f : ConnectiveFilter) → IsConnectiveThere core c x → x ≡ Some f → Connects core c
connective_kind core c x f t e = subst (IsConnectiveThere core c) e t

pub count_kind : (core : Core) (c : Cons) (x : Option CountFilter) (f : CountFilter) → IsCountThere core c x → x ≡ Some f → ComparesCounts core c
count_kind core c x f t e = subst (IsCountThere core c) e t

pub addends_kind : (core : Core) (c : Cons) (x : Option AddendsFilter) (f : AddendsFilter) → IsAddendsThere core c x → x ≡ Some f → ComparesAddends core c
addends_kind core c x f t e = subst (IsAddendsThere core c) e t

-- ---- where there is none

pub none_of : (core : Core) (c : Cons) (x : Option AddendsFilter) → IsAddendsThere core c x → x ≡ None → ComparesAddends core c → ⊥
none_of core c x t e = subst (IsAddendsThere core c) e t

pub none_of_counts : (core : Core) (c : Cons) (x : Option CountFilter) → IsCountThere core c x → x ≡ None → (o : Option OwnFilter) → IsThereForAddends core c o → IsThereForCounts core c o
none_of_counts core c x t e None h = (subst (IsCountThere core c) e t, h)
none_of_counts core c x t e (Some f) h = h

pub none_of_two : (core : Core) (c : Cons) (x : Option ConnectiveFilter) → IsConnectiveThere core c x → x ≡ None → (o : Option OwnFilter) → IsThereForCounts core c o → IsThereForConnectives core c o
none_of_two core c x t e None h = (subst (IsConnectiveThere core c) e t, h.0, h.1)
none_of_two core c x t e (Some f) h = h

pub none_of_three : (core : Core) (c : Cons) (x : Option ReifyFilter) → IsDisjunctionThere core c x → x ≡ None → (o : Option OwnFilter) → IsThereForConnectives core c o → IsThereForDisjunctions core c o
none_of_three core c x t e None h = (subst (IsDisjunctionThere core c) e t, h.0, h.1, h.2)
none_of_three core c x t e (Some f) h = h

pub none_of_four : (core : Core) (c : Cons) (x : Option DifferentFilter) → IsDifferenceThere core c x → x ≡ None → (o : Option OwnFilter) → IsThereForDisjunctions core c o → IsThereForDifferences core c o
none_of_four core c x t e None h = (subst (IsDifferenceThere core c) e t, h.0, h.1, h.2, h.3)
none_of_four core c x t e (Some f) h = h

pub none_of_all : (core : Core) (c : Cons) (x : Option LinearFilter) → IsComparisonThere core c x → x ≡ None → (o : Option OwnFilter) → IsThereForDifferences core c o → IsThereForKinds core c o
none_of_all core c x t e None h = (subst (IsComparisonThere core c) e t, h.0, h.1, h.2, h.3, h.4)
none_of_all core c x t e (Some f) h = h
