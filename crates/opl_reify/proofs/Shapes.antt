-- Which constraints are literals and disjunctions, as the code sees them.
use Rattle.std.proofs.Common.{◌≡◌, ◌∙◌, ℕ, zero, suc, ◌≤◌, Bool, List, [], ◌∷◌, ℤ, ap, sym, subst, arith}
use Rattle.opl_expr.specs.declared.model.Core.{Core}
use Rattle.opl_expr.specs.declared.forms.Op.{Op}
use Rattle.opl_expr.specs.declared.forms.Expr.{Expr}
use Rattle.opl_expr.specs.declared.forms.Cons.{Cons}
use Rattle.opl_expr.specs.declared.forms.Cons.TheVariants as C
use Rattle.opl_expr.specs.declared.forms.Cons.TheOpen.{Cons-F}
use Rattle.opl_expr.specs.declared.forms.Cons.TheViews.{roll-Cons, out-Cons, out-roll-Cons}
use Rattle.opl_reify.specs.Literals.{IsLiteral, AreLiterals}
use Rattle.opl_reify.specs.Disjunctions.{IsDisjunction}

-- a number for each kind of constraint that matters here
abbrev kind_layer : Cons-F Cons Expr → ℕ
kind_layer (Cons-F.Cmp op a b) = 0
kind_layer (Cons-F.Not a) = 1
kind_layer (Cons-F.Or cs) = 2
kind_layer (Cons-F.Imp a b) = 3
kind_layer _ = 4

pub kind_of : Cons → ℕ
kind_of c = kind_layer (out-Cons c)

kind_rolled : (d : Cons-F Cons Expr) → kind_of (roll-Cons d) ≡ kind_layer d
unfolding kind_of
kind_rolled d = ap kind_layer (out-roll-Cons d)

pub kind_Fixed : (b : Bool) → kind_of (C.Fixed b) ≡ 4
kind_Fixed b = ap kind_of (sym (C.rolls-Fixed b)) ∙ kind_rolled (Cons-F.Fixed b)

pub kind_Cmp : (op : Op) (a b : Expr) → kind_of (C.Cmp op a b) ≡ 0
kind_Cmp op a b = ap kind_of (sym (C.rolls-Cmp op a b)) ∙ kind_rolled (Cons-F.Cmp op a b)

pub kind_And : (cs : List Cons) → kind_of (C.And cs) ≡ 4
kind_And cs = ap kind_of (sym (C.rolls-And cs)) ∙ kind_rolled (Cons-F.And cs)

pub kind_Or : (cs : List Cons) → kind_of (C.Or cs) ≡ 2
kind_Or cs = ap kind_of (sym (C.rolls-Or cs)) ∙ kind_rolled (Cons-F.Or cs)

pub kind_Imp : (a b : Cons) → kind_of (C.Imp a b) ≡ 3
kind_Imp a b = ap kind_of (sym (C.rolls-Imp a b)) ∙ kind_rolled (Cons-F.Imp a b)

pub kind_Iff : (a b : Cons) → kind_of (C.Iff a b) ≡ 4
kind_Iff a b = ap kind_of (sym (C.rolls-Iff a b)) ∙ kind_rolled (Cons-F.Iff a b)

pub kind_Not : (a : Cons) → kind_of (C.Not a) ≡ 1
kind_Not a = ap kind_of (sym (C.rolls-Not a)) ∙ kind_rolled (Cons-F.Not a)

pub kind_AllDifferent : (es : List Expr) → kind_of (C.AllDifferent es) ≡ 4
kind_AllDifferent es = ap kind_of (sym (C.rolls-AllDifferent es)) ∙ kind_rolled (Cons-F.AllDifferent es)

pub kind_Capacity : (r : ℕ) (t : ℤ) → kind_of (C.Capacity r t) ≡ 4
kind_Capacity r t = ap kind_of (sym (C.rolls-Capacity r t)) ∙ kind_rolled (Cons-F.Capacity r t)

pub kind_Bound : (x : ℕ) → kind_of (C.Bound x) ≡ 4
kind_Bound x = ap kind_of (sym (C.rolls-Bound x)) ∙ kind_rolled (Cons-F.Bound x)

-- ---- equal constraints have equal parts

out_Cmp : (op : Op) (a b : Expr) → out-Cons (C.Cmp op a b) ≡ Cons-F.Cmp op a b
out_Cmp op a b = ap out-Cons (sym (C.rolls-Cmp op a b)) ∙ out-roll-Cons (Cons-F.Cmp op a b)

out_Not : (a : Cons) → out-Cons (C.Not a) ≡ Cons-F.Not a
out_Not a = ap out-Cons (sym (C.rolls-Not a)) ∙ out-roll-Cons (Cons-F.Not a)

out_Or : (cs : List Cons) → out-Cons (C.Or cs) ≡ Cons-F.Or cs
out_Or cs = ap out-Cons (sym (C.rolls-Or cs)) ∙ out-roll-Cons (Cons-F.Or cs)

out_Imp : (a b : Cons) → out-Cons (C.Imp a b) ≡ Cons-F.Imp a b
out_Imp a b = ap out-Cons (sym (C.rolls-Imp a b)) ∙ out-roll-Cons (Cons-F.Imp a b)

pub same_sides : (op o : Op) (a b x y : Expr) → C.Cmp op a b ≡ C.Cmp o x y → (a ≡ x) × (b ≡ y)
same_sides op o a b x y e = let h : Cons-F.Cmp op a b ≡ Cons-F.Cmp o x y = sym (out_Cmp op a b) ∙ ap out-Cons e ∙ out_Cmp o x y in (cc, cc)

same_negated : (a b : Cons) → C.Not a ≡ C.Not b → a ≡ b
same_negated a b e = let h : Cons-F.Not a ≡ Cons-F.Not b = sym (out_Not a) ∙ ap out-Cons e ∙ out_Not b in cc

same_parts : (cs ds : List Cons) → C.Or cs ≡ C.Or ds → cs ≡ ds
same_parts cs ds e = let h : Cons-F.Or cs ≡ Cons-F.Or ds = sym (out_Or cs) ∙ ap out-Cons e ∙ out_Or ds in cc

same_implied : (a b x y : Cons) → C.Imp a b ≡ C.Imp x y → (a ≡ x) × (b ≡ y)
same_implied a b x y e = let h : Cons-F.Imp a b ≡ Cons-F.Imp x y = sym (out_Imp a b) ∙ ap out-Cons e ∙ out_Imp x y in (cc, cc)

-- ---- literals

kinds_apart : (c : Cons) (k m : ℕ) → kind_of c ≡ k → kind_of c ≡ m → k ≡ m
kinds_apart c k m e h = sym e ∙ h

pub no_literal : (core : Core) (c d : Cons) → c ≡ d → 2 ≤ kind_of d → (n : ℕ) → IsLiteral core n c → ⊥
no_literal core c d e k zero m = let h = ap kind_of (sym e ∙ m.is) ∙ kind_Cmp m.op m.left m.right in absurd (omega (arith, k, h))
no_literal core c d e k (suc n) l = let h = ap kind_of (sym e ∙ l.1) ∙ kind_Not l.0 in absurd (omega (arith, k, h))

pub no_opposite : (core : Core) (c a p : Cons) → c ≡ C.Not a → p ≡ a → ((n : ℕ) → IsLiteral core n p → ⊥) → (n : ℕ) → IsLiteral core n c → ⊥
no_opposite core c a p e i h zero m = let k = sym (kind_Not a) ∙ ap kind_of (sym e ∙ m.is) ∙ kind_Cmp m.op m.left m.right in absurd (omega (arith, k))
no_opposite core c a p e i h (suc n) l = h n (subst (IsLiteral core n) (sym (same_negated a l.0 (sym e ∙ l.1)) ∙ sym i) l.2)

pub an_opposite : (core : Core) (c a p : Cons) → c ≡ C.Not a → p ≡ a → (n : ℕ) → IsLiteral core n p → (m : ℕ) × IsLiteral core m c
an_opposite core c a p e i n l = (suc n, (p, e ∙ ap C.Not (sym i), l))

-- ---- disjunctions

pub no_disjunction : (core : Core) (c d : Cons) (k : ℕ) → c ≡ d → kind_of d ≡ k → (k ≡ 2 → ⊥) → (k ≡ 3 → ⊥) → IsDisjunction core c → ⊥
no_disjunction core c d k e h i j (IsDisjunction.disjunction cs m l) = i (sym h ∙ ap kind_of (sym e ∙ m) ∙ kind_Or cs)
no_disjunction core c d k e h i j (IsDisjunction.implication a b n m f l r) = j (sym h ∙ ap kind_of (sym e ∙ f) ∙ kind_Imp a b)

pub other_parts : (core : Core) (c : Cons) (ds cs : List Cons) → c ≡ C.Or ds → cs ≡ ds → (AreLiterals core cs → ⊥) → IsDisjunction core c → ⊥
other_parts core c ds cs e i h (IsDisjunction.disjunction bs m l) = h (subst (AreLiterals core) (sym (same_parts ds bs (sym e ∙ m)) ∙ sym i) l)
other_parts core c ds cs e i h (IsDisjunction.implication a b n m f l r) = let k = sym (kind_Or ds) ∙ ap kind_of (sym e ∙ f) ∙ kind_Imp a b in absurd (omega (arith, k))

pub other_sides : (core : Core) (c a b p q : Cons) → c ≡ C.Imp a b → p ≡ a → q ≡ b → (AreLiterals core (p ∷ q ∷ []) → ⊥) → IsDisjunction core c → ⊥
other_sides core c a b p q e i j h (IsDisjunction.disjunction bs m l) = let k = sym (kind_Imp a b) ∙ ap kind_of (sym e ∙ m) ∙ kind_Or bs in absurd (omega (arith, k))
other_sides core c a b p q e i j h (IsDisjunction.implication x y n m f l r) =
    let s = same_implied a b x y (sym e ∙ f) in
    h ((n, subst (IsLiteral core n) (sym s.0 ∙ sym i) l), ((m, subst (IsLiteral core m) (sym s.1 ∙ sym j) r), tt))

pub a_disjunction : (core : Core) (c : Cons) (ds cs : List Cons) → c ≡ C.Or ds → cs ≡ ds → AreLiterals core cs → IsDisjunction core c
a_disjunction core c ds cs e i l = IsDisjunction.disjunction cs (e ∙ ap C.Or (sym i)) l

pub an_implication : (core : Core) (c a b p q : Cons) → c ≡ C.Imp a b → p ≡ a → q ≡ b → AreLiterals core (p ∷ q ∷ []) → IsDisjunction core c
an_implication core c a b p q e i j l = IsDisjunction.implication p q l.0.0 l.1.0.0 (e ∙ ap (λ z. C.Imp z b) (sym i) ∙ ap (C.Imp p) (sym j)) l.0.1 l.1.0.1
