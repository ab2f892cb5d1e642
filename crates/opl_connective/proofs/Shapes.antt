-- Which constraints connectives build, as the code sees them.
use Rattle.std.proofs.Common.{◌≡◌, ◌∙◌, ℕ, zero, suc, Bool, List, ℤ, ap, sym, subst}
use Rattle.opl_expr.specs.declared.model.Core.{Core}
use Rattle.opl_expr.specs.declared.forms.Op.{Op}
use Rattle.opl_expr.specs.declared.forms.Expr.{Expr}
use Rattle.opl_expr.specs.declared.forms.Cons.{Cons}
use Rattle.opl_expr.specs.declared.forms.Cons.TheVariants as C
use Rattle.opl_expr.specs.declared.forms.Cons.TheOpen.{Cons-F}
use Rattle.opl_expr.specs.declared.forms.Cons.TheViews.{roll-Cons, out-Cons, out-roll-Cons}
use Rattle.opl_linear_filter.specs.LinearForms.{ComparesLinear}
use Rattle.opl_reify.specs.Literals.{IsLiteral}
use Rattle.opl_connective.specs.Kinds.{Connects, AllConnect}

-- the kinds of constraints that matter here
pub data Kind : Type 0 where
  compares : Kind
  opposes : Kind
  conjoins : Kind
  disjoins : Kind
  implies : Kind
  equates : Kind
  other : Kind

abbrev kind_layer : Cons-F Cons Expr → Kind
kind_layer (Cons-F.Cmp op a b) = compares
kind_layer (Cons-F.Not a) = opposes
kind_layer (Cons-F.And cs) = conjoins
kind_layer (Cons-F.Or cs) = disjoins
kind_layer (Cons-F.Imp a b) = implies
kind_layer (Cons-F.Iff a b) = equates
kind_layer _ = other

pub kind_of : Cons → Kind
kind_of c = kind_layer (out-Cons c)

kind_rolled : (d : Cons-F Cons Expr) → kind_of (roll-Cons d) ≡ kind_layer d
unfolding kind_of
kind_rolled d = ap kind_layer (out-roll-Cons d)

pub kind_Fixed : (b : Bool) → kind_of (C.Fixed b) ≡ other
kind_Fixed b = ap kind_of (sym (C.rolls-Fixed b)) ∙ kind_rolled (Cons-F.Fixed b)

pub kind_Cmp : (op : Op) (a b : Expr) → kind_of (C.Cmp op a b) ≡ compares
kind_Cmp op a b = ap kind_of (sym (C.rolls-Cmp op a b)) ∙ kind_rolled (Cons-F.Cmp op a b)

pub kind_And : (cs : List Cons) → kind_of (C.And cs) ≡ conjoins
kind_And cs = ap kind_of (sym (C.rolls-And cs)) ∙ kind_rolled (Cons-F.And cs)

pub kind_Or : (cs : List Cons) → kind_of (C.Or cs) ≡ disjoins
kind_Or cs = ap kind_of (sym (C.rolls-Or cs)) ∙ kind_rolled (Cons-F.Or cs)

pub kind_Imp : (a b : Cons) → kind_of (C.Imp a b) ≡ implies
kind_Imp a b = ap kind_of (sym (C.rolls-Imp a b)) ∙ kind_rolled (Cons-F.Imp a b)

pub kind_Iff : (a b : Cons) → kind_of (C.Iff a b) ≡ equates
kind_Iff a b = ap kind_of (sym (C.rolls-Iff a b)) ∙ kind_rolled (Cons-F.Iff a b)

pub kind_Not : (a : Cons) → kind_of (C.Not a) ≡ opposes
kind_Not a = ap kind_of (sym (C.rolls-Not a)) ∙ kind_rolled (Cons-F.Not a)

pub kind_AllDifferent : (es : List Expr) → kind_of (C.AllDifferent es) ≡ other
kind_AllDifferent es = ap kind_of (sym (C.rolls-AllDifferent es)) ∙ kind_rolled (Cons-F.AllDifferent es)

pub kind_Capacity : (r : ℕ) (t : ℤ) → kind_of (C.Capacity r t) ≡ other
kind_Capacity r t = ap kind_of (sym (C.rolls-Capacity r t)) ∙ kind_rolled (Cons-F.Capacity r t)

pub kind_Bound : (x : ℕ) → kind_of (C.Bound x) ≡ other
kind_Bound x = ap kind_of (sym (C.rolls-Bound x)) ∙ kind_rolled (Cons-F.Bound x)

-- ---- equal constraints have equal parts

out_Not : (a : Cons) → out-Cons (C.Not a) ≡ Cons-F.Not a
out_Not a = ap out-Cons (sym (C.rolls-Not a)) ∙ out-roll-Cons (Cons-F.Not a)

out_And : (cs : List Cons) → out-Cons (C.And cs) ≡ Cons-F.And cs
out_And cs = ap out-Cons (sym (C.rolls-And cs)) ∙ out-roll-Cons (Cons-F.And cs)

out_Or : (cs : List Cons) → out-Cons (C.Or cs) ≡ Cons-F.Or cs
out_Or cs = ap out-Cons (sym (C.rolls-Or cs)) ∙ out-roll-Cons (Cons-F.Or cs)

out_Imp : (a b : Cons) → out-Cons (C.Imp a b) ≡ Cons-F.Imp a b
out_Imp a b = ap out-Cons (sym (C.rolls-Imp a b)) ∙ out-roll-Cons (Cons-F.Imp a b)

out_Iff : (a b : Cons) → out-Cons (C.Iff a b) ≡ Cons-F.Iff a b
out_Iff a b = ap out-Cons (sym (C.rolls-Iff a b)) ∙ out-roll-Cons (Cons-F.Iff a b)

same_negated : (a b : Cons) → C.Not a ≡ C.Not b → a ≡ b
same_negated a b e = let h : Cons-F.Not a ≡ Cons-F.Not b = sym (out_Not a) ∙ ap out-Cons e ∙ out_Not b in cc

same_and : (cs ds : List Cons) → C.And cs ≡ C.And ds → cs ≡ ds
same_and cs ds e = let h : Cons-F.And cs ≡ Cons-F.And ds = sym (out_And cs) ∙ ap out-Cons e ∙ out_And ds in cc

same_or : (cs ds : List Cons) → C.Or cs ≡ C.Or ds → cs ≡ ds
same_or cs ds e = let h : Cons-F.Or cs ≡ Cons-F.Or ds = sym (out_Or cs) ∙ ap out-Cons e ∙ out_Or ds in cc

same_implied : (a b x y : Cons) → C.Imp a b ≡ C.Imp x y → (a ≡ x) × (b ≡ y)
same_implied a b x y e = let h : Cons-F.Imp a b ≡ Cons-F.Imp x y = sym (out_Imp a b) ∙ ap out-Cons e ∙ out_Imp x y in (cc, cc)

same_equated : (a b x y : Cons) → C.Iff a b ≡ C.Iff x y → (a ≡ x) × (b ≡ y)
same_equated a b x y e = let h : Cons-F.Iff a b ≡ Cons-F.Iff x y = sym (out_Iff a b) ∙ ap out-Cons e ∙ out_Iff x y in (cc, cc)

-- ---- what connectives build, kind by kind

abbrev By : Core → Cons → Kind → Type 0
By core c compares = ComparesLinear core c
By core c opposes = (a : Cons) × (c ≡ C.Not a) × Connects core a
By core c conjoins = (cs : List Cons) × (c ≡ C.And cs) × AllConnect core cs
By core c disjoins = (cs : List Cons) × (c ≡ C.Or cs) × AllConnect core cs
By core c implies = (a : Cons) × (b : Cons) × (c ≡ C.Imp a b) × Connects core a × Connects core b
By core c equates = (a : Cons) × (b : Cons) × (c ≡ C.Iff a b) × Connects core a × Connects core b
By core c other = ⊥

by_kind : (core : Core) (c : Cons) (k : Kind) → kind_of c ≡ k → Connects core c → By core c k
by_kind core c k e (Connects.comparison d m) = subst (By core c) (sym (ap kind_of m.is ∙ kind_Cmp m.op m.left m.right) ∙ e) m
by_kind core c k e (Connects.opposite d a h i) = subst (By core c) (sym (ap kind_of h ∙ kind_Not a) ∙ e) (a, h, i)
by_kind core c k e (Connects.conjunction d cs h i) = subst (By core c) (sym (ap kind_of h ∙ kind_And cs) ∙ e) (cs, h, i)
by_kind core c k e (Connects.disjunction d cs h i) = subst (By core c) (sym (ap kind_of h ∙ kind_Or cs) ∙ e) (cs, h, i)
by_kind core c k e (Connects.implication d a b h i j) = subst (By core c) (sym (ap kind_of h ∙ kind_Imp a b) ∙ e) (a, b, h, i, j)
by_kind core c k e (Connects.equivalence d a b h i j) = subst (By core c) (sym (ap kind_of h ∙ kind_Iff a b) ∙ e) (a, b, h, i, j)

pub none_connects : (core : Core) (c d : Cons) → c ≡ d → kind_of d ≡ other → Connects core c → ⊥
none_connects core c d e k i = by_kind core c other (ap kind_of e ∙ k) i

pub only_comparison : (core : Core) (c : Cons) (op : Op) (a b : Expr) → c ≡ C.Cmp op a b → Connects core c → ComparesLinear core c
only_comparison core c op a b e i = by_kind core c compares (ap kind_of e ∙ kind_Cmp op a b) i

pub only_opposite : (core : Core) (c a : Cons) → c ≡ C.Not a → Connects core c → Connects core a
only_opposite core c a e i =
    let m = by_kind core c opposes (ap kind_of e ∙ kind_Not a) i in
    subst (Connects core) (sym (same_negated a m.0 (sym e ∙ m.1))) m.2

pub only_conjunction : (core : Core) (c : Cons) (cs : List Cons) → c ≡ C.And cs → Connects core c → AllConnect core cs
only_conjunction core c cs e i =
    let m = by_kind core c conjoins (ap kind_of e ∙ kind_And cs) i in
    subst (AllConnect core) (sym (same_and cs m.0 (sym e ∙ m.1))) m.2

pub only_disjunction : (core : Core) (c : Cons) (cs : List Cons) → c ≡ C.Or cs → Connects core c → AllConnect core cs
only_disjunction core c cs e i =
    let m = by_kind core c disjoins (ap kind_of e ∙ kind_Or cs) i in
    subst (AllConnect core) (sym (same_or cs m.0 (sym e ∙ m.1))) m.2

pub only_implication : (core : Core) (c a b : Cons) → c ≡ C.Imp a b → Connects core c → Connects core a × Connects core b
only_implication core c a b e i =
    let m = by_kind core c implies (ap kind_of e ∙ kind_Imp a b) i in
    let s = same_implied a b m.0 m.1 (sym e ∙ m.2) in
    (subst (Connects core) (sym s.0) m.3, subst (Connects core) (sym s.1) m.4)

pub only_equivalence : (core : Core) (c a b : Cons) → c ≡ C.Iff a b → Connects core c → Connects core a × Connects core b
only_equivalence core c a b e i =
    let m = by_kind core c equates (ap kind_of e ∙ kind_Iff a b) i in
    let s = same_equated a b m.0 m.1 (sym e ∙ m.2) in
    (subst (Connects core) (sym s.0) m.3, subst (Connects core) (sym s.1) m.4)

-- under any number of opposites, a comparison is so too
pub literal_connects : (core : Core) (c : Cons) (n : ℕ) → IsLiteral core n c → Connects core c
literal_connects core c zero m = Connects.comparison c m
literal_connects core c (suc n) l = Connects.opposite c l.0 l.1 (literal_connects core l.0 n l.2)
