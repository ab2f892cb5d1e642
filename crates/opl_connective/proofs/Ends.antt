-- What a family refutes of trees that are decided by the ends of its sets.
use Rattle.std.proofs.Common.{◌≡◌, ◌∙◌, ℕ, ◌<◌, Bool, true, false, ◌&&◌, cond, refl, List, [], ◌∷◌, length, ap, sym, subst}
use Rattle.opl_domain.specs.Family.{Family, Full, hull}
use Rattle.opl_expr.specs.declared.model.Core.{Core}
use Rattle.opl_expr.specs.Forms.{Fact}
use Rattle.opl_expr.specs.Range.{is_possible}
use Rattle.opl_filter.specs.Filtering.{refutes}
use Rattle.opl_linear_filter.proofs.Ends as linear
use Rattle.opl_reify.specs.Parts.{fact_in}
use Rattle.opl_connective.specs.Trees.{Tree, Trees, trees_of, tree, all_hold, is_refuted, some_refuted, all_refuted, iff_refuted}
use Rattle.opl_connective.specs.Trees.Trees.{no_trees, more_trees}
use Rattle.opl_connective.specs.Nodes.{IsTree, AreTrees}
use Rattle.opl_connective.specs.Ends.{tree_sees_ends, trees_see_ends, EndsDecide}
use Rattle.opl_connective.proofs.Refuted.{and_refuted, and_certain, or_refuted, or_certain, iff_told}
use Rattle.opl_connective.proofs.Going.{not_same, opposite_same}

both : (a b : Bool) → (a && b) ≡ true → (a ≡ true) × (b ≡ true)
both true b h = (refl, h)
both false b h = cc

list_of : Trees → List Tree
list_of no_trees = []
list_of (more_trees t ts) = t ∷ list_of ts

list_is : (ts : Trees) → trees_of (list_of ts) ≡ ts
unfolding list_of
list_is no_trees = refl
list_is (more_trees t ts) = ap (more_trees t) (list_is ts)

module _ (core : Core) (F : Family) (f : Full F) (ts : Trees) (a : AreTrees core ts) where
  and_list : refutes (Fact.and (all_hold core ts)) F ≡ some_refuted core false (list_of ts) F
  and_list = subst (λ us. AreTrees core us → refutes (Fact.and (all_hold core us)) F ≡ some_refuted core false (list_of ts) F) (list_is ts) (and_refuted core F f (list_of ts)) a

  and_not_list : refutes (Fact.not (Fact.and (all_hold core ts))) F ≡ all_refuted core true (list_of ts) F
  and_not_list = subst (λ us. AreTrees core us → refutes (Fact.not (Fact.and (all_hold core us))) F ≡ all_refuted core true (list_of ts) F) (list_is ts) (and_certain core F f (list_of ts)) a

  or_list : refutes (Fact.or (all_hold core ts)) F ≡ all_refuted core false (list_of ts) F
  or_list = subst (λ us. AreTrees core us → refutes (Fact.or (all_hold core us)) F ≡ all_refuted core false (list_of ts) F) (list_is ts) (or_refuted core F f (list_of ts)) a

  or_not_list : refutes (Fact.not (Fact.or (all_hold core ts))) F ≡ some_refuted core true (list_of ts) F
  or_not_list = subst (λ us. AreTrees core us → refutes (Fact.not (Fact.or (all_hold core us))) F ≡ some_refuted core true (list_of ts) F) (list_is ts) (or_certain core F f (list_of ts)) a

record AreAlike (core : Core) (o : Bool) (ts : List Tree) (F G : Family) : Type 0 where
  some : some_refuted core o ts F ≡ some_refuted core o ts G
  each : all_refuted core o ts F ≡ all_refuted core o ts G

module _ (core : Core) (F G : Family) (f : Full F) (g : Full G) (a : length F ≡ length core.sets) (b : length G ≡ length core.sets) (h : (x : ℕ) → x < length core.sets → hull F x ≡ hull G x) where
  at_function : (d e : Family → Bool) → d ≡ e → d F ≡ d G → e F ≡ e G
  at_function d e p q = subst (λ (z : Family → Bool). z F ≡ z G) p q

  iff_alike : (o : Bool) (s t : Tree) → IsTree core s → IsTree core t → is_refuted core false s F ≡ is_refuted core false s G → is_refuted core true s F ≡ is_refuted core true s G → is_refuted core false t F ≡ is_refuted core false t G → is_refuted core true t F ≡ is_refuted core true t G
      → iff_refuted core o s t F ≡ iff_refuted core o s t G
  iff_alike true s t i j p q u w = iff_told core F f true s t i j ∙ rw (p, q, u, w) refl ∙ sym (iff_told core G g true s t i j)
  iff_alike false s t i j p q u w = iff_told core F f false s t i j ∙ rw (p, q, u, w) refl ∙ sym (iff_told core G g false s t i j)

  mutual
    unfolding list_of

    tree_alike : (o : Bool) (t : Tree) → IsTree core t → tree_sees_ends o t ≡ true → is_refuted core o t F ≡ is_refuted core o t G
    tree_alike false (Tree.literal p q) i e = linear.ends_decide core (fact_in core p) p.filter i.0.filter e F G f g a b h
    tree_alike true (Tree.literal p q) i e = at_function (refutes (fact_in core q)) (is_refuted core true (Tree.literal p q)) (opposite_same core p q i) (linear.ends_decide core (fact_in core q) q.filter i.1.part.filter e F G f g a b h)
    tree_alike false (Tree.not t) i e = at_function (is_refuted core true t) (is_refuted core false (Tree.not t)) (not_same core false t) (tree_alike true t i e)
    tree_alike true (Tree.not t) i e = at_function (is_refuted core false t) (is_refuted core true (Tree.not t)) (not_same core true t) (tree_alike false t i e)
    tree_alike false (Tree.and xs ts) i e = and_list core F f ts i.1 ∙ (trees_alike false ts i.1 e).some ∙ sym (and_list core G g ts i.1)
    tree_alike true (Tree.and xs ts) i e = and_not_list core F f ts i.1 ∙ (trees_alike true ts i.1 e).each ∙ sym (and_not_list core G g ts i.1)
    tree_alike false (Tree.or xs ts) i e = or_list core F f ts i.1 ∙ (trees_alike false ts i.1 e).each ∙ sym (or_list core G g ts i.1)
    tree_alike true (Tree.or xs ts) i e = or_not_list core F f ts i.1 ∙ (trees_alike true ts i.1 e).some ∙ sym (or_not_list core G g ts i.1)
    tree_alike o (Tree.iff xs s t) i e =
        let p = both (tree_sees_ends false s) (tree_sees_ends true s && (tree_sees_ends false t && tree_sees_ends true t)) e in
        let q = both (tree_sees_ends true s) (tree_sees_ends false t && tree_sees_ends true t) p.1 in
        let u = both (tree_sees_ends false t) (tree_sees_ends true t) q.1 in
        iff_alike o s t i.1 i.2 (tree_alike false s i.1 p.0) (tree_alike true s i.1 q.0) (tree_alike false t i.2 u.0) (tree_alike true t i.2 u.1)

    trees_alike : (o : Bool) (ts : Trees) → AreTrees core ts → trees_see_ends o ts ≡ true → AreAlike core o (list_of ts) F G
    trees_alike o no_trees i e = record { some = refl; each = refl }
    trees_alike o (more_trees t ts) i e =
        let p = both (tree_sees_ends o t) (trees_see_ends o ts) e in
        let k = tree_alike o t i.0 p.0 in
        let l = trees_alike o ts i.1 p.1 in
        record { some = rw (k, l.some) refl; each = rw (k, l.each) refl }

pub ends_decide : EndsDecide
ends_decide core c n i e F G u v a b h =
    ap (λ r. cond (is_possible r) false true) (i.same F) ∙ tree_alike core F G u v a b h false (tree n.node) i.made e ∙ sym (ap (λ r. cond (is_possible r) false true) (i.same G))
