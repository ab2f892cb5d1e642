-- Connectives inside one another as plain data, on which it is defined what they say and what a family refutes of them.
use Rattle.std.specs.Prelude.{ℕ, Bool, true, false, ◌&&◌, ◌||◌, List, [], ◌∷◌}
use Rattle.opl_domain.specs.Family.{Family}
use Rattle.opl_expr.specs.declared.model.Core.{Core}
use Rattle.opl_expr.specs.Forms.{Fact, Facts}
use Rattle.opl_filter.specs.Filtering.{refutes}
use Rattle.opl_reify.specs.declared.part.Part.{Part}
use Rattle.opl_reify.specs.Parts.{signed, fact_in}
use Rattle.opl_connective.specs.declared.node.Node.{Node}
use Rattle.opl_connective.specs.declared.node.Node.TheOpen.{Node-F}
use Rattle.opl_connective.specs.declared.node.Node.TheFolds.{fold-Node}

mutual
  -- a comparison with its opposite; what joins others has its variables
  pub data Tree : Type 0 where
    literal : Part → Part → Tree
    not : Tree → Tree
    and : List ℕ → Trees → Tree
    or : List ℕ → Trees → Tree
    iff : List ℕ → Tree → Tree → Tree

  pub data Trees : Type 0 where
    no_trees : Trees
    more_trees : Tree → Trees → Trees

abbrev pub trees_of : List Tree → Trees
trees_of [] = no_trees
trees_of (t ∷ ts) = more_trees t (trees_of ts)

-- one layer of a node, its parts being plain data already
abbrev pub layer : Node-F Tree → Tree
layer (Node-F.Literal p q) = literal p q
layer (Node-F.Not t) = not t
layer (Node-F.And xs ts) = and xs (trees_of ts)
layer (Node-F.Or xs ts) = or xs (trees_of ts)
layer (Node-F.Iff xs s t) = iff xs s t

-- the plain data of a node
unfoldable pub tree : Node → Tree
tree = fold-Node Tree layer

module _ (core : Core) where
  abbrev mutual
    -- what a tree says
    pub holds : Tree → Fact
    holds (literal p q) = fact_in core p
    holds (not t) = Fact.not (holds t)
    holds (and xs ts) = Fact.and (all_hold ts)
    holds (or xs ts) = Fact.or (all_hold ts)
    holds (iff xs s t) = Fact.iff (holds s) (holds t)

    pub all_hold : Trees → Facts
    all_hold no_trees = Facts.no_facts
    all_hold (more_trees t ts) = Facts.more_facts (holds t) (all_hold ts)

-- whether a family refutes a tree, or its opposite
abbrev pub is_refuted : Core → Bool → Tree → Family → Bool
is_refuted core opposite t = refutes (signed opposite (holds core t))

-- whether it refutes some of the trees, or each of them
abbrev pub some_refuted : Core → Bool → List Tree → Family → Bool
some_refuted core opposite [] F = false
some_refuted core opposite (t ∷ ts) F = is_refuted core opposite t F || some_refuted core opposite ts F

abbrev pub all_refuted : Core → Bool → List Tree → Family → Bool
all_refuted core opposite [] F = true
all_refuted core opposite (t ∷ ts) F = is_refuted core opposite t F && all_refuted core opposite ts F

-- whether it refutes that two trees are alike, or that they differ
abbrev pub iff_refuted : Core → Bool → Tree → Tree → Family → Bool
iff_refuted core opposite s t = refutes (signed opposite (Fact.iff (holds core s) (holds core t)))

-- the variables of a tree
abbrev pub names : Tree → List ℕ
names (literal p q) = p.variables
names (not t) = names t
names (and xs ts) = xs
names (or xs ts) = xs
names (iff xs s t) = xs
