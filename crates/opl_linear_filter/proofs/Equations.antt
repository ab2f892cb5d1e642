-- Short forms as equations, and what a family refutes of them.
use Rattle.std.proofs.Common.{◌≡◌, ◌∙◌, ℕ, Bool, true, false, cond, ◌||◌, refl, List, [], ◌∷◌, length, ℤ, pos, ◌*ℤ◌, neg_ℤ, ap, sym, arith}
use Rattle.std.specs.Prelude.{nat_eq}
use Rattle.std.proofs.Math.Path.{fun_ext}
use Rattle.std.proofs.lemmas.Int.{ints}
use Rattle.opl_domain.specs.Family.{Family, Full}
use Rattle.opl_expr.specs.declared.model.Core.{Core}
use Rattle.opl_expr.specs.declared.forms.Op.{Op}
use Rattle.opl_expr.specs.declared.forms.Op.TheVariants.{Eq, Ne, Lt, Le, Gt, Ge}
use Rattle.opl_expr.specs.Forms.{Term, compared}
use Rattle.opl_expr.specs.Range.{coefs, pure, all_pure, is_one_or_two, has_zero}
use Rattle.opl_filter.specs.Filtering.{refutes}
use Rattle.opl_filter.specs.Mentions.{mentions, terms_mention}
use Rattle.opl_linear.specs.declared.kind.Kind.TheVariants as kinds
use Rattle.opl_linear.specs.Linear.{factor_in, names, NamesOnce, AreAmong, AreFactors}
use Rattle.opl_linear.specs.Forms.{constant_parts, kind_of}
use Rattle.opl_linear.specs.Laws.{factors_of, constant_of}
use Rattle.opl_linear.proofs.Carrying.{equal_by_values}
use Rattle.opl_linear_filter.specs.Parts.{is_short}
use Rattle.opl_linear_filter.specs.ShortForms.{scaled, equation, is_never_zero}
use Rattle.opl_linear_filter.proofs.Counts.{short_is}

-- only an equality is to be 0
pub only_equal : (op : Op) → kind_of op ≡ kinds.Zero → op ≡ Eq
only_equal Eq h = refl
only_equal Ne h = cc
only_equal Lt h = cc
only_equal Le h = cc
only_equal Gt h = cc
only_equal Ge h = cc

scaled_one : (b : Bool) (k : ℤ) → k *ℤ cond b (pos 1) (pos 0) ≡ cond b k (pos 0)
scaled_one true k = grind (arith, ints)
scaled_one false k = grind (arith, ints)

scaled_coefs : (ps : List (ℕ × ℤ)) (x : ℕ) → coefs (scaled ps) x ≡ factor_in ps x
scaled_coefs [] x = refl
scaled_coefs (p ∷ ps) x = let a = scaled_one (nat_eq x p.0) p.1 in let b = scaled_coefs ps x in omega (arith, ints, a, b)

pub scaled_pure : (ps : List (ℕ × ℤ)) → all_pure (scaled ps) ≡ true
scaled_pure [] = refl
scaled_pure (p ∷ ps) = scaled_pure ps

scaled_constants : (ps : List (ℕ × ℤ)) → constant_parts (scaled ps) ≡ pos 0
scaled_constants [] = refl
scaled_constants (p ∷ ps) = let a : p.1 *ℤ pos 0 ≡ pos 0 = grind (arith, ints) in let b = scaled_constants ps in omega (arith, ints, a, b)

scaled_mentions : (ps : List (ℕ × ℤ)) (x : ℕ) → terms_mention (scaled ps) x ≡ names ps x
scaled_mentions [] x = refl
scaled_mentions (p ∷ ps) x = ap (λ b. nat_eq x p.0 || b) (scaled_mentions ps x)

or_none : (b : Bool) → (b || false) ≡ b
or_none true = refl
or_none false = refl

pub equation_factors : (ps : List (ℕ × ℤ)) (k : ℤ) (x : ℕ) → factor_in ps x ≡ factors_of (Term.sum (scaled ps)) (Term.const (neg_ℤ k)) x
equation_factors ps k x = let a = scaled_coefs ps x in omega (arith, ints, a)

pub equation_constant : (ps : List (ℕ × ℤ)) (k : ℤ) → k ≡ constant_of (Term.sum (scaled ps)) (Term.const (neg_ℤ k))
equation_constant ps k = let a = scaled_constants ps in omega (arith, ints, a)

-- a short equality is refuted where its form is never 0
pub equality_is : (a b : Term) (ps : List (ℕ × ℤ)) (k : ℤ) (F : Family) → Full F → pure a ≡ true → pure b ≡ true → ((x : ℕ) → factor_in ps x ≡ factors_of a b x) → k ≡ constant_of a b
    → is_one_or_two (factors_of a b) (length F) ≡ true → refutes (compared Eq a b) F ≡ is_never_zero ps k F
equality_is a b ps k F f p q e j s =
    equal_by_values a b F f p q s ∙ ap (λ c. cond (has_zero F c (constant_of a b) (length F)) false true) (sym (fun_ext e)) ∙ ap (λ z. cond (has_zero F (factor_in ps) z (length F)) false true) (sym j)

pub equation_is : (core : Core) (ps : List (ℕ × ℤ)) (k : ℤ) (F : Family) → Full F → length F ≡ length core.sets → is_short ps ≡ true → NamesOnce ps → AreAmong (length core.sets) ps → AreFactors ps
    → refutes (equation ps k) F ≡ is_never_zero ps k F
equation_is core ps k F f l s o a r =
    let t = Term.sum (scaled ps) in
    let u = Term.const (neg_ℤ k) in
    equality_is t u ps k F f (scaled_pure ps) refl (equation_factors ps k) (equation_constant ps k)
    (ap (is_one_or_two (factors_of t u)) l ∙ short_is (factors_of t u) ps (length core.sets) (equation_factors ps k) o a r ∙ s)

pub equation_mentions : (ps : List (ℕ × ℤ)) (k : ℤ) (x : ℕ) → names ps x ≡ mentions (equation ps k) x
equation_mentions ps k x = sym (or_none (terms_mention (scaled ps) x) ∙ scaled_mentions ps x)
