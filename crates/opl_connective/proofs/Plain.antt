-- The trees of nodes, form by form.
use Rattle.std.proofs.Common.{◌≡◌, ◌∙◌, ℕ, refl, List, map, ap, sym}
use Rattle.opl_reify.specs.declared.part.Part.{Part}
use Rattle.opl_connective.specs.declared.node.Node.{Node}
use Rattle.opl_connective.specs.declared.node.Node.TheVariants as N
use Rattle.opl_connective.specs.declared.node.Node.TheFolds.{fold-roll-Node}
use Rattle.opl_connective.specs.Trees.{Tree, trees_of, tree}

pub tree_Literal : (p q : Part) → tree (N.Literal p q) ≡ Tree.literal p q
unfolding tree
tree_Literal p q = ap tree (sym (N.rolls-Literal p q)) ∙ rw fold-roll-Node refl

pub tree_Not : (n : Node) → tree (N.Not n) ≡ Tree.not (tree n)
unfolding tree
tree_Not n = ap tree (sym (N.rolls-Not n)) ∙ rw fold-roll-Node refl

pub tree_And : (xs : List ℕ) (ns : List Node) → tree (N.And xs ns) ≡ Tree.and xs (trees_of (map tree ns))
unfolding tree
tree_And xs ns = ap tree (sym (N.rolls-And xs ns)) ∙ rw fold-roll-Node refl

pub tree_Or : (xs : List ℕ) (ns : List Node) → tree (N.Or xs ns) ≡ Tree.or xs (trees_of (map tree ns))
unfolding tree
tree_Or xs ns = ap tree (sym (N.rolls-Or xs ns)) ∙ rw fold-roll-Node refl

pub tree_Iff : (xs : List ℕ) (m n : Node) → tree (N.Iff xs m n) ≡ Tree.iff xs (tree m) (tree n)
unfolding tree
tree_Iff xs m n = ap tree (sym (N.rolls-Iff xs m n)) ∙ rw fold-roll-Node refl
