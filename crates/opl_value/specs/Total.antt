-- The order of values is total, and tells different values apart.
use Rattle.std.proofs.Common.{◌≡◌, ◌⊎◌, inl, inr, true, refl, sym, ap, ◌∙◌, subst}
use Rattle.std.specs.Cmp.{IsTotalOrder, IsEquivalence, IsPartialEquivalence, IsPartialOrder, Equal-is, partial_equiv_from_equiv, po}
use Rattle.std.specs.Ordering.{ordering_then, ordering_reverse, as_partial_cmp}
use Rattle.std.specs.declared.cmp.Ordering.{Ordering}
use Rattle.std.specs.declared.cmp.Ordering.TheVariants.{Less, Equal, Greater}
use Rattle.std.proofs.lemmas.Cmp.{int_cmp_total, int_ranked, on_total, eq_by_cmp_equiv, tied_itself}
use Rattle.opl_value.specs.Hashed.{value_writes}
use Rattle.opl_value.specs.Laws.{EqualIsSame}
use Rattle.opl_value.specs.declared.value.Value.{Value}
use Rattle.opl_value.specs.Order.{Tree, number, empty, more, tree_cmp, value_tree, value_cmp, value_eq}
use Rattle.opl_value.specs.Rebuilt.{value_of, value_back}

-- where the first of two answers decides, or the second
both_equal : (a b : Ordering) → ordering_then a b ≡ Equal → (a ≡ Equal) × (b ≡ Equal)
both_equal Less b e = absurd (cc)
both_equal Equal b e = (refl, e)
both_equal Greater b e = absurd (cc)

one_less : (a b : Ordering) → ordering_then a b ≡ Less → (a ≡ Less) ⊎ ((a ≡ Equal) × (b ≡ Less))
one_less Less b e = inl refl
one_less Equal b e = inr (refl, e)
one_less Greater b e = absurd (cc)

reverse_then : (a b : Ordering) → ordering_reverse (ordering_then a b) ≡ ordering_then (ordering_reverse a) (ordering_reverse b)
reverse_then Less b = refl
reverse_then Equal b = refl
reverse_then Greater b = refl

-- nested lists of which neither comes first are the same
pub tied : (s t : Tree) → tree_cmp s t ≡ Equal → s ≡ t
tied (number m) (number n) e = ap number (int_ranked m n Equal (sym e))
tied (number m) empty e = absurd (cc)
tied (number m) (more t ts) e = absurd (cc)
tied empty (number n) e = absurd (cc)
tied empty empty e = refl
tied empty (more t ts) e = absurd (cc)
tied (more s ss) (number n) e = absurd (cc)
tied (more s ss) empty e = absurd (cc)
tied (more s ss) (more t ts) e =
    let both = both_equal (tree_cmp s t) (tree_cmp ss ts) e in
    let first = tied s t both.0 in
    let others = tied ss ts both.1 in
    λ i. more (first i) (others i)

turned : (s t : Tree) → tree_cmp s t ≡ ordering_reverse (tree_cmp t s)
turned (number m) (number n) = int_cmp_total.antisymm m n
turned (number m) empty = refl
turned (number m) (more t ts) = refl
turned empty (number n) = refl
turned empty empty = refl
turned empty (more t ts) = refl
turned (more s ss) (number n) = refl
turned (more s ss) empty = refl
turned (more s ss) (more t ts) =
    (λ i. ordering_then (turned s t i) (turned ss ts i)) ∙ sym (reverse_then (tree_cmp t s) (tree_cmp ts ss))

-- a first member comes before, or it is the same and the others come before
abbrev Before : Tree → Tree → Tree → Tree → Type 0
Before s ss t ts = (tree_cmp s t ≡ Less) ⊎ ((tree_cmp s t ≡ Equal) × (tree_cmp ss ts ≡ Less))

through : (s ss t ts u us : Tree) → (tree_cmp s t ≡ Less → tree_cmp t u ≡ Less → tree_cmp s u ≡ Less)
    → (tree_cmp ss ts ≡ Less → tree_cmp ts us ≡ Less → tree_cmp ss us ≡ Less)
    → Before s ss t ts → Before t ts u us → ordering_then (tree_cmp s u) (tree_cmp ss us) ≡ Less
through s ss t ts u us first others (inl p) (inl q) = ap (λ o. ordering_then o (tree_cmp ss us)) (first p q)
through s ss t ts u us first others (inl p) (inr q) =
    ap (λ o. ordering_then o (tree_cmp ss us)) (subst (λ x. tree_cmp s x ≡ Less) (tied t u q.0) p)
through s ss t ts u us first others (inr p) (inl q) =
    ap (λ o. ordering_then o (tree_cmp ss us)) (subst (λ x. tree_cmp x u ≡ Less) (sym (tied s t p.0)) q)
through s ss t ts u us first others (inr p) (inr q) =
    let same = subst (λ x. tree_cmp x u ≡ Equal) (sym (tied s t p.0)) q.0 in
    let after = others p.1 q.1 in
    λ i. ordering_then (same i) (after i)

carried : (s t u : Tree) → tree_cmp s t ≡ Less → tree_cmp t u ≡ Less → tree_cmp s u ≡ Less
carried (number m) (number n) (number k) p q = int_cmp_total.trans m n k p q
carried (number m) (number n) empty p q = refl
carried (number m) (number n) (more u us) p q = refl
carried (number m) empty (number k) p q = absurd (cc)
carried (number m) empty empty p q = absurd (cc)
carried (number m) empty (more u us) p q = refl
carried (number m) (more t ts) (number k) p q = absurd (cc)
carried (number m) (more t ts) empty p q = absurd (cc)
carried (number m) (more t ts) (more u us) p q = refl
carried empty (number n) u p q = absurd (cc)
carried empty empty u p q = absurd (cc)
carried empty (more t ts) (number k) p q = absurd (cc)
carried empty (more t ts) empty p q = absurd (cc)
carried empty (more t ts) (more u us) p q = refl
carried (more s ss) (number n) u p q = absurd (cc)
carried (more s ss) empty u p q = absurd (cc)
carried (more s ss) (more t ts) (number k) p q = absurd (cc)
carried (more s ss) (more t ts) empty p q = absurd (cc)
carried (more s ss) (more t ts) (more u us) p q =
    through s ss t ts u us (carried s t u) (carried ss ts us)
    (one_less (tree_cmp s t) (tree_cmp ss ts) p) (one_less (tree_cmp t u) (tree_cmp ts us) q)

-- the order of nested lists is total
pub tree_total : IsTotalOrder tree_cmp
tree_total = record { antisymm = turned; trans = carried; congr = λ s t u e. ap (λ x. tree_cmp x u) (tied s t e) }

-- so is that of values
pub value_total : IsTotalOrder value_cmp
value_total = on_total value_tree tree_total

-- values of which neither comes first are the same
pub value_tied : (a b : Value) → value_cmp a b ≡ Equal → a ≡ b
value_tied a b e = sym (value_back a) ∙ ap value_of (tied (value_tree a) (value_tree b) e) ∙ value_back b

-- `==` holds of equal values alone
pub value_same : EqualIsSame
value_same a b = (λ e. value_tied a b ((Equal-is (value_cmp a b)).0 e), λ e. (Equal-is (value_cmp a b)).1 (subst (λ x. value_cmp a x ≡ Equal) e (tied_itself value_total a)))

-- ---- the laws of the comparisons, as their traits ask for them

pub value_equivalence : IsEquivalence value_eq
value_equivalence = eq_by_cmp_equiv value_total

pub value_partial_equivalence : IsPartialEquivalence value_eq
value_partial_equivalence = partial_equiv_from_equiv value_equivalence

pub value_partial_order : IsPartialOrder value_eq (as_partial_cmp value_cmp)
value_partial_order = po value_total (λ a b. refl)

-- equal values are hashed alike
pub value_alike : (a b : Value) → value_eq a b ≡ true → value_writes a ≡ value_writes b
value_alike a b e = ap value_writes ((value_same a b).0 e)
