-- With another set for a variable, only addends that mention it can have another range.
use Rattle.std.proofs.Common.{◌≡◌, ◌∙◌, ℕ, Bool, true, false, cond, not, ◌||◌, refl, List, [], ◌∷◌, ℤ, ap, sym}
use Rattle.opl_domain.specs.Arithmetic.{span_add}
use Rattle.opl_domain.specs.Family.{Family, Full, only}
use Rattle.opl_expr.specs.Forms.{Term, Fact}
use Rattle.opl_expr.specs.Forms.Relation.{at_most}
use Rattle.opl_expr.specs.Options.{lift, lift1}
use Rattle.opl_expr.specs.Range.{range}
use Rattle.opl_filter.specs.Fresh.{DifferAt}
use Rattle.opl_filter.specs.Mentions.{term_mentions}
use Rattle.opl_filter.proofs.Unmentioned.{differ_only, others_dont_matter}
use Rattle.opl_addends.specs.declared.sum.Demand.{Demand}
use Rattle.opl_addends.specs.Addends.{signed_span, addend_range, total, mentioning, others}
use Rattle.opl_addends.specs.Demands.{is_refuted_if, is_sum_refuted}
use Rattle.opl_addends.specs.Laws.{SumsSplit, OthersStay}
use Rattle.opl_addends.proofs.Intervals.{lift_again, lift_past, lift_nothing_behind}
use Rattle.opl_addends.proofs.Reading.{same_range}

or_nothing : (b : Bool) → b ≡ false → (b || false) ≡ false
or_nothing true h = h
or_nothing false h = refl

range_stays : (F G : Family) (x : ℕ) (t : Term) → DifferAt x F G → term_mentions t x ≡ false → range F t ≡ range G t
range_stays F G x t d h = same_range F G t (λ k. others_dont_matter (Fact.cmp at_most t (Term.const k)) F G x d (or_nothing (term_mentions t x) h))

-- ---- the two parts of a sum

pub sums_split : SumsSplit
unfolding span_add
sums_split F x [] = refl
sums_split F x (a ∷ ss) = elim (term_mentions a.1 x) as (λ b. lift span_add (addend_range F a) (total F ss)
    ≡ lift span_add (total F (cond (not b) (a ∷ others x ss) (others x ss))) (total F (cond b (a ∷ mentioning x ss) (mentioning x ss)))) [
      | true ↦ ap (lift span_add (addend_range F a)) (sums_split F x ss) ∙ lift_past (addend_range F a) (total F (others x ss)) (total F (mentioning x ss))
      | false ↦ ap (lift span_add (addend_range F a)) (sums_split F x ss) ∙ sym (lift_again (addend_range F a) (total F (others x ss)) (total F (mentioning x ss)))
    ]

pub others_stay : OthersStay
others_stay F G x [] d = refl
others_stay F G x (a ∷ ss) d = elim (term_mentions a.1 x) as (λ b. term_mentions a.1 x ≡ b → total F (cond (not b) (a ∷ others x ss) (others x ss)) ≡ total G (cond (not b) (a ∷ others x ss) (others x ss))) [
  | true ↦ λ e. others_stay F G x ss d
  | false ↦ λ e.
      ap (λ r. lift span_add (lift1 (signed_span a.0) r) (total F (others x ss))) (range_stays F G x a.1 d e)
      ∙ ap (lift span_add (addend_range G a)) (others_stay F G x ss d)
] refl

-- where x has one value alone
pub others_only : (F : Family) (x : ℕ) (v : ℤ) (ss : List (Bool × Term)) → Full F → total (only F x v) (others x ss) ≡ total F (others x ss)
others_only F x v ss f = others_stay (only F x v) F x ss (differ_only F x v f)

-- a variable that no addend mentions
pub unmentioned : (d : Demand) (F : Family) (x : ℕ) (v : ℤ) (ss : List (Bool × Term)) → Full F → mentioning x ss ≡ [] → is_sum_refuted d ss (only F x v) ≡ is_sum_refuted d ss F
unmentioned d F x v ss f e = ap (is_refuted_if d) (whole (only F x v) ∙ others_only F x v ss f ∙ sym (whole F))
  where
    whole : (G : Family) → total G ss ≡ total G (others x ss)
    whole G = sums_split G x ss ∙ ap (λ ts. lift span_add (total G (others x ss)) (total G ts)) e ∙ lift_nothing_behind (total G (others x ss))
