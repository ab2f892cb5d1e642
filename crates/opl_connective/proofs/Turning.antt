-- What a round over a node tells, as the node is read form by form.
use Rattle.std.proofs.Common.{◌≡◌, ◌∙◌, ◌≢◌, ℕ, ◌+◌, ◌≤◌, Bool, true, false, not, List, map, ap, sym, subst, arith, inl, inr}
use Rattle.std.proofs.lemmas.Bool.Decides.{leb_tells}
use Rattle.opl_domain.specs.Family.{Family, IsFamily}
use Rattle.opl_expr.specs.declared.model.Core.{Core}
use Rattle.opl_filter.specs.Filtering.{refutes}
use Rattle.opl_reify.specs.declared.part.Part.{Part}
use Rattle.opl_reify.specs.Parts.{fact_in}
use Rattle.opl_reify.proofs.Carrying.{SaysTheSameWithin}
use Rattle.opl_connective.specs.declared.node.Node.{Node}
use Rattle.opl_connective.specs.declared.node.Node.TheVariants as N
use Rattle.opl_connective.specs.Trees.{Tree, trees_of, tree, is_refuted, some_refuted, all_refuted, iff_refuted}
use Rattle.opl_connective.specs.Nodes.{IsTree, TellsAt, IsFirst}
use Rattle.opl_connective.specs.Rounds.{Goes}
use Rattle.opl_connective.proofs.Plain.{tree_Literal, tree_Not, tree_And, tree_Or, tree_Iff}
use Rattle.opl_connective.proofs.Going.{goes_carried, not_same, opposite_same, and_within, and_opposite_within, or_within, or_opposite_within}
use Rattle.opl_connective.proofs.Reading.{and_parts, or_parts}

goes_by : (d e : Family → Bool) (D F : Family) (r : Bool) → d ≡ e → Goes d D F r → Goes e D F r
goes_by d e D F r h g = subst (λ (z : Family → Bool). Goes z D F r) h g

module _ (core : Core) (D F : Family) (r : Bool) (n : Node) (o : Bool) where
  pub opposite_goes : (p q : Part) → n ≡ N.Literal p q → IsTree core (tree n) → o ≡ true → Goes (refutes (fact_in core q)) D F r → Goes (is_refuted core o (tree n)) D F r
  opposite_goes p q e i h g =
      let t = ap tree e ∙ tree_Literal p q in
      goes_by (refutes (fact_in core q)) (is_refuted core o (tree n)) D F r
      (opposite_same core p q (subst (IsTree core) t i) ∙ ap (λ b. is_refuted core b (Tree.literal p q)) (sym h) ∙ ap (is_refuted core o) (sym t)) g

  pub part_goes : (p q : Part) → n ≡ N.Literal p q → o ≡ false → Goes (refutes (fact_in core p)) D F r → Goes (is_refuted core o (tree n)) D F r
  part_goes p q e h g =
      let t = ap tree e ∙ tree_Literal p q in
      goes_by (refutes (fact_in core p)) (is_refuted core o (tree n)) D F r (ap (λ b. is_refuted core b (Tree.literal p q)) (sym h) ∙ ap (is_refuted core o) (sym t)) g

  pub not_goes : (a m : Node) → n ≡ N.Not a → m ≡ a → Goes (is_refuted core (not o) (tree m)) D F r → Goes (is_refuted core o (tree n)) D F r
  not_goes a m e h g =
      goes_by (is_refuted core (not o) (tree m)) (is_refuted core o (tree n)) D F r
      (ap (λ z. is_refuted core (not o) (tree z)) h ∙ not_same core o (tree a) ∙ ap (is_refuted core o) (sym (ap tree e ∙ tree_Not a))) g

  module _ (i : IsTree core (tree n)) (f : IsFamily D) (xs : List ℕ) (ns ms : List Node) where
    and_tree : n ≡ N.And xs ns → ms ≡ ns → Tree.and xs (trees_of (map tree ms)) ≡ tree n
    and_tree e h = sym (ap tree e ∙ tree_And xs ns ∙ ap (λ zs. Tree.and xs (trees_of (map tree zs))) (sym h))

    or_tree : n ≡ N.Or xs ns → ms ≡ ns → Tree.or xs (trees_of (map tree ms)) ≡ tree n
    or_tree e h = sym (ap tree e ∙ tree_Or xs ns ∙ ap (λ zs. Tree.or xs (trees_of (map tree zs))) (sym h))

    pub and_opposite_goes : n ≡ N.And xs ns → ms ≡ ns → o ≡ true → Goes (all_refuted core true (map tree ms)) D F r → Goes (is_refuted core o (tree n)) D F r
    and_opposite_goes e h k g =
        let ts = map tree ms in
        goes_by (is_refuted core true (Tree.and xs (trees_of ts))) (is_refuted core o (tree n)) D F r (ap (λ b. is_refuted core b (Tree.and xs (trees_of ts))) (sym k) ∙ ap (is_refuted core o) (and_tree e h))
        (goes_carried (all_refuted core true ts) (is_refuted core true (Tree.and xs (trees_of ts))) D F r f (and_opposite_within core xs ts (and_parts core n xs ns ms e h i) D) g)

    pub and_goes : n ≡ N.And xs ns → ms ≡ ns → o ≡ false → Goes (some_refuted core false (map tree ms)) D F r → Goes (is_refuted core o (tree n)) D F r
    and_goes e h k g =
        let ts = map tree ms in
        goes_by (is_refuted core false (Tree.and xs (trees_of ts))) (is_refuted core o (tree n)) D F r (ap (λ b. is_refuted core b (Tree.and xs (trees_of ts))) (sym k) ∙ ap (is_refuted core o) (and_tree e h))
        (goes_carried (some_refuted core false ts) (is_refuted core false (Tree.and xs (trees_of ts))) D F r f (and_within core xs ts (and_parts core n xs ns ms e h i) D) g)

    pub or_opposite_goes : n ≡ N.Or xs ns → ms ≡ ns → o ≡ true → Goes (some_refuted core true (map tree ms)) D F r → Goes (is_refuted core o (tree n)) D F r
    or_opposite_goes e h k g =
        let ts = map tree ms in
        goes_by (is_refuted core true (Tree.or xs (trees_of ts))) (is_refuted core o (tree n)) D F r (ap (λ b. is_refuted core b (Tree.or xs (trees_of ts))) (sym k) ∙ ap (is_refuted core o) (or_tree e h))
        (goes_carried (some_refuted core true ts) (is_refuted core true (Tree.or xs (trees_of ts))) D F r f (or_opposite_within core xs ts (or_parts core n xs ns ms e h i) D) g)

    pub or_goes : n ≡ N.Or xs ns → ms ≡ ns → o ≡ false → Goes (all_refuted core false (map tree ms)) D F r → Goes (is_refuted core o (tree n)) D F r
    or_goes e h k g =
        let ts = map tree ms in
        goes_by (is_refuted core false (Tree.or xs (trees_of ts))) (is_refuted core o (tree n)) D F r (ap (λ b. is_refuted core b (Tree.or xs (trees_of ts))) (sym k) ∙ ap (is_refuted core o) (or_tree e h))
        (goes_carried (all_refuted core false ts) (is_refuted core false (Tree.or xs (trees_of ts))) D F r f (or_within core xs ts (or_parts core n xs ns ms e h i) D) g)

  module _ (xs : List ℕ) (a b l m : Node) (e : n ≡ N.Iff xs a b) (h : l ≡ a) (k : m ≡ b) where
    iff_tree : iff_refuted core o (tree l) (tree m) ≡ is_refuted core o (tree n)
    iff_tree = ap (λ z. iff_refuted core o (tree z) (tree m)) h ∙ ap (λ z. iff_refuted core o (tree a) (tree z)) k ∙ ap (is_refuted core o) (sym (ap tree e ∙ tree_Iff xs a b))

    pub iff_goes : Goes (iff_refuted core o (tree l) (tree m)) D F r → Goes (is_refuted core o (tree n)) D F r
    iff_goes g = goes_by (iff_refuted core o (tree l) (tree m)) (is_refuted core o (tree n)) D F r iff_tree g

    pub first_goes : (s : Bool) → IsFamily D → SaysTheSameWithin D (is_refuted core s (tree l)) (iff_refuted core o (tree l) (tree m)) → Goes (is_refuted core s (tree l)) D F r → Goes (is_refuted core o (tree n)) D F r
    first_goes s f same g = iff_goes (goes_carried (is_refuted core s (tree l)) (iff_refuted core o (tree l) (tree m)) D F r f same g)

    pub second_goes : (s : Bool) → IsFamily D → SaysTheSameWithin D (is_refuted core s (tree m)) (iff_refuted core o (tree l) (tree m)) → Goes (is_refuted core s (tree m)) D F r → Goes (is_refuted core o (tree n)) D F r
    second_goes s f same g = iff_goes (goes_carried (is_refuted core s (tree m)) (iff_refuted core o (tree l) (tree m)) D F r f same g)

-- ---- one that alone is open

pub others_told : (core : Core) (F : Family) (o : Bool) (ts : List Tree) (k : ℕ) → IsFirst core F o ts false 0 k → ((i : ℕ) → k + 1 ≤ i → TellsAt core F o ts true i) → (i : ℕ) → i ≢ k → TellsAt core F o ts true i
others_told core F o ts k n h i d = elim (leb_tells k i) [
  | inl l ↦ h i (omega (arith, l.1, d))
  | inr g ↦ n.before i (omega arith) g.1
]
