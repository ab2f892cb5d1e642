-- Which expressions count, as the code sees them.
use Rattle.std.proofs.Common.{◌≡◌, ◌∙◌, ◌≢◌, ◌⊎◌, ℕ, ◌≤◌, List, ℤ, ap, sym, subst, arith, inl, inr}
use Rattle.std.specs.Prelude.{slice_get, Some, None}
use Rattle.opl_expr.specs.declared.model.Core.{Core}
use Rattle.opl_expr.specs.declared.forms.Ask.{Ask}
use Rattle.opl_expr.specs.declared.forms.Expr.{Expr}
use Rattle.opl_expr.specs.declared.forms.Expr.TheVariants as E
use Rattle.opl_expr.specs.declared.forms.Cons.{Cons}
use Rattle.opl_expr.specs.declared.forms.Cons.TheOpen.{Expr-F}
use Rattle.opl_expr.specs.declared.forms.Cons.TheViews.{roll-Expr, out-Expr, out-roll-Expr}
use Rattle.opl_expr.specs.Forms.{constant_value}
use Rattle.opl_range.specs.Between.{term_of}
use Rattle.opl_reify.specs.Literals.{IsLiteral}
use Rattle.opl_count.specs.CountingSums.{IsTruth, IsMultiple, Counts}

-- a number for each kind of expression that matters here
abbrev kind_layer : Expr-F Cons Expr → ℕ
kind_layer (Expr-F.Const k) = 0
kind_layer (Expr-F.Truth c) = 1
kind_layer (Expr-F.Mul a b) = 2
kind_layer (Expr-F.Neg a) = 3
kind_layer (Expr-F.Sum es) = 4
kind_layer _ = 5

pub kind_of : Expr → ℕ
kind_of e = kind_layer (out-Expr e)

kind_rolled : (d : Expr-F Cons Expr) → kind_of (roll-Expr d) ≡ kind_layer d
unfolding kind_of
kind_rolled d = ap kind_layer (out-roll-Expr d)

pub kind_Const : (k : ℤ) → kind_of (E.Const k) ≡ 0
kind_Const k = ap kind_of (sym (E.rolls-Const k)) ∙ kind_rolled (Expr-F.Const k)

pub kind_Truth : (c : Cons) → kind_of (E.Truth c) ≡ 1
kind_Truth c = ap kind_of (sym (E.rolls-Truth c)) ∙ kind_rolled (Expr-F.Truth c)

pub kind_Mul : (a b : Expr) → kind_of (E.Mul a b) ≡ 2
kind_Mul a b = ap kind_of (sym (E.rolls-Mul a b)) ∙ kind_rolled (Expr-F.Mul a b)

pub kind_Neg : (a : Expr) → kind_of (E.Neg a) ≡ 3
kind_Neg a = ap kind_of (sym (E.rolls-Neg a)) ∙ kind_rolled (Expr-F.Neg a)

pub kind_Sum : (es : List Expr) → kind_of (E.Sum es) ≡ 4
kind_Sum es = ap kind_of (sym (E.rolls-Sum es)) ∙ kind_rolled (Expr-F.Sum es)

pub kind_Var : (x : ℕ) → kind_of (E.Var x) ≡ 5
kind_Var x = ap kind_of (sym (E.rolls-Var x)) ∙ kind_rolled (Expr-F.Var x)

pub kind_Div : (a b : Expr) → kind_of (E.Div a b) ≡ 5
kind_Div a b = ap kind_of (sym (E.rolls-Div a b)) ∙ kind_rolled (Expr-F.Div a b)

pub kind_Rem : (a b : Expr) → kind_of (E.Rem a b) ≡ 5
kind_Rem a b = ap kind_of (sym (E.rolls-Rem a b)) ∙ kind_rolled (Expr-F.Rem a b)

pub kind_Abs : (a : Expr) → kind_of (E.Abs a) ≡ 5
kind_Abs a = ap kind_of (sym (E.rolls-Abs a)) ∙ kind_rolled (Expr-F.Abs a)

pub kind_Min : (es : List Expr) → kind_of (E.Min es) ≡ 5
kind_Min es = ap kind_of (sym (E.rolls-Min es)) ∙ kind_rolled (Expr-F.Min es)

pub kind_Max : (es : List Expr) → kind_of (E.Max es) ≡ 5
kind_Max es = ap kind_of (sym (E.rolls-Max es)) ∙ kind_rolled (Expr-F.Max es)

pub kind_At : (t : ℕ) (es : List Expr) → kind_of (E.At t es) ≡ 5
kind_At t es = ap kind_of (sym (E.rolls-At t es)) ∙ kind_rolled (Expr-F.At t es)

pub kind_Ask : (ask : Ask) (x : ℕ) → kind_of (E.Ask ask x) ≡ 5
kind_Ask ask x = ap kind_of (sym (E.rolls-Ask ask x)) ∙ kind_rolled (Expr-F.Ask ask x)

-- ---- equal expressions have equal parts

out_Truth : (c : Cons) → out-Expr (E.Truth c) ≡ Expr-F.Truth c
out_Truth c = ap out-Expr (sym (E.rolls-Truth c)) ∙ out-roll-Expr (Expr-F.Truth c)

out_Mul : (a b : Expr) → out-Expr (E.Mul a b) ≡ Expr-F.Mul a b
out_Mul a b = ap out-Expr (sym (E.rolls-Mul a b)) ∙ out-roll-Expr (Expr-F.Mul a b)

out_Neg : (a : Expr) → out-Expr (E.Neg a) ≡ Expr-F.Neg a
out_Neg a = ap out-Expr (sym (E.rolls-Neg a)) ∙ out-roll-Expr (Expr-F.Neg a)

out_Sum : (es : List Expr) → out-Expr (E.Sum es) ≡ Expr-F.Sum es
out_Sum es = ap out-Expr (sym (E.rolls-Sum es)) ∙ out-roll-Expr (Expr-F.Sum es)

same_truth : (c d : Cons) → E.Truth c ≡ E.Truth d → c ≡ d
same_truth c d e = let h : Expr-F.Truth c ≡ Expr-F.Truth d = sym (out_Truth c) ∙ ap out-Expr e ∙ out_Truth d in cc

same_factors : (a b x y : Expr) → E.Mul a b ≡ E.Mul x y → (a ≡ x) × (b ≡ y)
same_factors a b x y e = let h : Expr-F.Mul a b ≡ Expr-F.Mul x y = sym (out_Mul a b) ∙ ap out-Expr e ∙ out_Mul x y in (cc, cc)

same_negated : (a b : Expr) → E.Neg a ≡ E.Neg b → a ≡ b
same_negated a b e = let h : Expr-F.Neg a ≡ Expr-F.Neg b = sym (out_Neg a) ∙ ap out-Expr e ∙ out_Neg b in cc

same_parts : (ds es : List Expr) → E.Sum ds ≡ E.Sum es → ds ≡ es
same_parts ds es e = let h : Expr-F.Sum ds ≡ Expr-F.Sum es = sym (out_Sum ds) ∙ ap out-Expr e ∙ out_Sum es in cc

-- ---- truths

pub no_truth : (core : Core) (e d : Expr) (k : ℕ) → e ≡ d → kind_of d ≡ k → k ≢ 1 → IsTruth core e → ⊥
no_truth core e d k i h n t = n (sym h ∙ ap kind_of (sym i ∙ t.is) ∙ kind_Truth t.constraint)

pub a_truth : (core : Core) (e : Expr) (c d : Cons) → e ≡ E.Truth c → d ≡ c → (n : ℕ) × IsLiteral core n d → IsTruth core e
a_truth core e c d i j l = record { constraint = d; negations = l.0; is = i ∙ ap E.Truth (sym j); literal = l.1 }

pub other_truth : (core : Core) (e : Expr) (c d : Cons) → e ≡ E.Truth c → d ≡ c → ((n : ℕ) → IsLiteral core n d → ⊥) → IsTruth core e → ⊥
other_truth core e c d i j h t = h t.negations (subst (IsLiteral core t.negations) (sym (same_truth c t.constraint (sym i ∙ t.is)) ∙ sym j) t.literal)

-- ---- what counts

-- an expression of another kind counts nothing
pub none_counts : (core : Core) (e d : Expr) (k : ℕ) → e ≡ d → kind_of d ≡ k → 5 ≤ k → Counts core e → ⊥
none_counts core e d k i h l (Counts.number f n j) = let s = sym h ∙ ap kind_of (sym i ∙ j) ∙ kind_Const n in absurd (omega (arith, l, s))
none_counts core e d k i h l (Counts.one f t) = let s = sym h ∙ ap kind_of (sym i ∙ t.is) ∙ kind_Truth t.constraint in absurd (omega (arith, l, s))
none_counts core e d k i h l (Counts.multiple f a b j m) = let s = sym h ∙ ap kind_of (sym i ∙ j) ∙ kind_Mul a b in absurd (omega (arith, l, s))
none_counts core e d k i h l (Counts.multiple_by f a b j n m) = let s = sym h ∙ ap kind_of (sym i ∙ j) ∙ kind_Mul a b in absurd (omega (arith, l, s))
none_counts core e d k i h l (Counts.opposite f a j c) = let s = sym h ∙ ap kind_of (sym i ∙ j) ∙ kind_Neg a in absurd (omega (arith, l, s))
none_counts core e d k i h l (Counts.total f es j c) = let s = sym h ∙ ap kind_of (sym i ∙ j) ∙ kind_Sum es in absurd (omega (arith, l, s))

pub only_truth : (core : Core) (e : Expr) (d : Cons) → e ≡ E.Truth d → Counts core e → IsTruth core e
only_truth core e d i (Counts.number f n j) = let s = sym (kind_Truth d) ∙ ap kind_of (sym i ∙ j) ∙ kind_Const n in absurd (omega (arith, s))
only_truth core e d i (Counts.one f t) = t
only_truth core e d i (Counts.multiple f x y j m) = let s = sym (kind_Truth d) ∙ ap kind_of (sym i ∙ j) ∙ kind_Mul x y in absurd (omega (arith, s))
only_truth core e d i (Counts.multiple_by f x y j n m) = let s = sym (kind_Truth d) ∙ ap kind_of (sym i ∙ j) ∙ kind_Mul x y in absurd (omega (arith, s))
only_truth core e d i (Counts.opposite f x j c) = let s = sym (kind_Truth d) ∙ ap kind_of (sym i ∙ j) ∙ kind_Neg x in absurd (omega (arith, s))
only_truth core e d i (Counts.total f xs j c) = let s = sym (kind_Truth d) ∙ ap kind_of (sym i ∙ j) ∙ kind_Sum xs in absurd (omega (arith, s))

pub only_opposite : (core : Core) (e : Expr) (a : Expr) → e ≡ E.Neg a → Counts core e → Counts core a
only_opposite core e a i (Counts.number f n j) = let s = sym (kind_Neg a) ∙ ap kind_of (sym i ∙ j) ∙ kind_Const n in absurd (omega (arith, s))
only_opposite core e a i (Counts.one f t) = let s = sym (kind_Neg a) ∙ ap kind_of (sym i ∙ t.is) ∙ kind_Truth t.constraint in absurd (omega (arith, s))
only_opposite core e a i (Counts.multiple f x y j m) = let s = sym (kind_Neg a) ∙ ap kind_of (sym i ∙ j) ∙ kind_Mul x y in absurd (omega (arith, s))
only_opposite core e a i (Counts.multiple_by f x y j n m) = let s = sym (kind_Neg a) ∙ ap kind_of (sym i ∙ j) ∙ kind_Mul x y in absurd (omega (arith, s))
only_opposite core e a i (Counts.opposite f x j c) = subst (Counts core) (sym (same_negated a x (sym i ∙ j))) c
only_opposite core e a i (Counts.total f xs j c) = let s = sym (kind_Neg a) ∙ ap kind_of (sym i ∙ j) ∙ kind_Sum xs in absurd (omega (arith, s))

pub only_total : (core : Core) (e : Expr) (es : List Expr) → e ≡ E.Sum es → Counts core e → (i : ℕ) (x : Expr) → slice_get es i ≡ Some x → Counts core x
only_total core e es i (Counts.number f n j) = let s = sym (kind_Sum es) ∙ ap kind_of (sym i ∙ j) ∙ kind_Const n in absurd (omega (arith, s))
only_total core e es i (Counts.one f t) = let s = sym (kind_Sum es) ∙ ap kind_of (sym i ∙ t.is) ∙ kind_Truth t.constraint in absurd (omega (arith, s))
only_total core e es i (Counts.multiple f x y j m) = let s = sym (kind_Sum es) ∙ ap kind_of (sym i ∙ j) ∙ kind_Mul x y in absurd (omega (arith, s))
only_total core e es i (Counts.multiple_by f x y j n m) = let s = sym (kind_Sum es) ∙ ap kind_of (sym i ∙ j) ∙ kind_Mul x y in absurd (omega (arith, s))
only_total core e es i (Counts.opposite f x j c) = let s = sym (kind_Sum es) ∙ ap kind_of (sym i ∙ j) ∙ kind_Neg x in absurd (omega (arith, s))
only_total core e es i (Counts.total f xs j c) = subst (λ ys. (k : ℕ) (x : Expr) → slice_get ys k ≡ Some x → Counts core x) (sym (same_parts es xs (sym i ∙ j))) c

pub only_multiple : (core : Core) (e : Expr) (a b : Expr) → e ≡ E.Mul a b → Counts core e → IsMultiple core a b ⊎ ((constant_value (term_of core a) ≡ None) × IsMultiple core b a)
only_multiple core e a b i (Counts.number f n j) = let s = sym (kind_Mul a b) ∙ ap kind_of (sym i ∙ j) ∙ kind_Const n in absurd (omega (arith, s))
only_multiple core e a b i (Counts.one f t) = let s = sym (kind_Mul a b) ∙ ap kind_of (sym i ∙ t.is) ∙ kind_Truth t.constraint in absurd (omega (arith, s))
only_multiple core e a b i (Counts.multiple f x y j m) = let s = same_factors a b x y (sym i ∙ j) in inl (subst (λ z. IsMultiple core z b) (sym s.0) (subst (λ z. IsMultiple core x z) (sym s.1) m))
only_multiple core e a b i (Counts.multiple_by f x y j n m) = let s = same_factors a b x y (sym i ∙ j) in inr (ap (λ z. constant_value (term_of core z)) s.0 ∙ n, subst (λ z. IsMultiple core z a) (sym s.1) (subst (λ z. IsMultiple core y z) (sym s.0) m))
only_multiple core e a b i (Counts.opposite f x j c) = let s = sym (kind_Mul a b) ∙ ap kind_of (sym i ∙ j) ∙ kind_Neg x in absurd (omega (arith, s))
only_multiple core e a b i (Counts.total f xs j c) = let s = sym (kind_Mul a b) ∙ ap kind_of (sym i ∙ j) ∙ kind_Sum xs in absurd (omega (arith, s))
