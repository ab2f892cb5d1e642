-- What a family refutes of a comparison whose form is decided by the ends of its sets.
use Rattle.std.proofs.Common.{◌≡◌, ◌∙◌, ℕ, zero, suc, ◌<◌, Bool, true, false, not, refl, length, ℤ, pos, ◌+ℤ◌, neg_ℤ, ap, sym, arith}
use Rattle.std.specs.Prelude.{int_lt}
use Rattle.opl_domain.specs.Span.{point, is_point}
use Rattle.opl_domain.specs.Arithmetic.{span_add}
use Rattle.opl_domain.specs.Family.{Family, Full, hull}
use Rattle.opl_expr.specs.Forms.{compared}
use Rattle.opl_expr.specs.Range.{span_scale, weighted, with_variables}
use Rattle.opl_filter.specs.Filtering.{refutes}
use Rattle.opl_linear.specs.declared.kind.Kind.{Kind}
use Rattle.opl_linear.specs.declared.kind.Kind.TheVariants as kinds
use Rattle.opl_linear.specs.Linear.{least_weighted, is_above, is_zero}
use Rattle.opl_linear.specs.Forms.{kind_of, left_of, right_of, rejects}
use Rattle.opl_linear.specs.Laws.{factors_of, constant_of}
use Rattle.opl_linear.proofs.Carrying.{comparisons_by_forms}
use Rattle.opl_linear_filter.specs.declared.linear_filter.LinearFilter.{LinearFilter}
use Rattle.opl_linear_filter.specs.Parts.{is_short}
use Rattle.opl_linear_filter.specs.Ends.{by_values, sees_ends, EndsDecide}
use Rattle.opl_linear_filter.proofs.Comparing.{long_as}

-- the first n sets of two families have the same ends
abbrev pub HaveSameEnds : Family → Family → ℕ → Type 0
HaveSameEnds F G n = (x : ℕ) → x < n → hull F x ≡ hull G x

weighted_same : (F G : Family) (c : ℕ → ℤ) (n : ℕ) → HaveSameEnds F G n → weighted F c n ≡ weighted G c n
weighted_same F G c zero h = refl
weighted_same F G c (suc n) h =
    ap (λ a. span_add a (span_scale (c n) (hull F n))) (weighted_same F G c n (λ x l. h x (omega (arith, l)))) ∙ ap (λ a. span_add (weighted G c n) (span_scale (c n) a)) (h n (omega arith))

above_same : (F G : Family) (c : ℕ → ℤ) (k : ℤ) (n : ℕ) → length F ≡ n → length G ≡ n → HaveSameEnds F G n → is_above c k F ≡ is_above c k G
unfolding is_above least_weighted
above_same F G c k n f g h =
    ap (λ m. int_lt (pos 0) (k +ℤ (weighted F c m).low)) f ∙ ap (λ a. int_lt (pos 0) (k +ℤ a.low)) (weighted_same F G c n h) ∙ ap (λ m. int_lt (pos 0) (k +ℤ (weighted G c m).low)) (sym g)

zero_same : (F G : Family) (c : ℕ → ℤ) (k : ℤ) (n : ℕ) → length F ≡ n → length G ≡ n → HaveSameEnds F G n → is_zero c k F ≡ is_zero c k G
unfolding is_zero with_variables
zero_same F G c k n f g h =
    ap (λ m. is_point (pos 0) (span_add (point k) (weighted F c m))) f ∙ ap (λ a. is_point (pos 0) (span_add (point k) a)) (weighted_same F G c n h) ∙ ap (λ m. is_point (pos 0) (span_add (point k) (weighted G c m))) (sym g)

pub rejects_same : (kind : Kind) (F G : Family) (c : ℕ → ℤ) (k : ℤ) (n : ℕ) → length F ≡ n → length G ≡ n → HaveSameEnds F G n → rejects kind c k F ≡ rejects kind c k G
rejects_same kinds.AtMost F G c k n f g h = above_same F G c k n f g h
rejects_same kinds.Below F G c k n f g h = above_same F G c (k +ℤ pos 1) n f g h
rejects_same kinds.Zero F G c k n f g h = let a = above_same F G c k n f g h in let b = above_same F G (λ x. neg_ℤ (c x)) (neg_ℤ k) n f g h in rw (a, b) refl
rejects_same kinds.Different F G c k n f g h = zero_same F G c k n f g h

not_false : (b : Bool) → not b ≡ true → b ≡ false
not_false true h = cc
not_false false h = refl

-- a form that the ends decide is not short, where it is to be 0
long : (f : LinearFilter) → sees_ends f ≡ true → f.kind ≡ kinds.Zero → is_short f.parts ≡ false
long f h e = sym (ap (λ k. by_values k (is_short f.parts)) e) ∙ not_false (by_values f.kind (is_short f.parts)) h

pub ends_decide : EndsDecide
ends_decide core c f is h F G u v a b s =
    let m = is.comparison in
    let d = m.difference in
    let by_form : (H : Family) → Full H → length H ≡ length core.sets → refutes (compared is.op is.left is.right) H ≡ rejects (kind_of is.op) (factors_of (left_of is.op is.left is.right) (right_of is.op is.left is.right)) (constant_of (left_of is.op is.left is.right) (right_of is.op is.left is.right)) H =
    λ H w l. comparisons_by_forms is.op is.left is.right H w m.first m.second (λ e. long_as core c f is (length H) l e (long f h (d.kind ∙ ap kind_of e))) in
    ap (λ z. refutes z F) is.is
    ∙ by_form F u a
    ∙ rejects_same (kind_of is.op) F G (factors_of (left_of is.op is.left is.right) (right_of is.op is.left is.right)) (constant_of (left_of is.op is.left is.right) (right_of is.op is.left is.right)) (length core.sets) a b s
    ∙ sym (ap (λ z. refutes z G) is.is ∙ by_form G v b)
