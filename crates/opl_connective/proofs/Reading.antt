-- What is known of a node as it is read, form by form.
use Rattle.std.proofs.Common.{◌≡◌, ◌∙◌, ℕ, zero, suc, ◌+◌, ◌<◌, ◌≤◌, Bool, true, false, not, refl, List, [], ◌∷◌, length, get_or, map, ap, sym, subst, arith, inl, inr}
use Rattle.std.specs.Prelude.{slice_get, Some, None}
use mathlib.Core.Bool.{beq}
use Rattle.std.proofs.lemmas.Bool.{cases_eq}
use Rattle.opl_domain.specs.Family.{Family, Below, Full}
use Rattle.opl_expr.specs.declared.model.Core.{Core}
use Rattle.opl_expr.specs.Forms.{Fact}
use Rattle.opl_expr.specs.Solutions.{declared}
use Rattle.opl_filter.specs.Filtering.{refutes}
use Rattle.opl_filter.specs.Rounds.{AreThere}
use Rattle.opl_reify.specs.declared.part.Part.{Part}
use Rattle.opl_reify.specs.Parts.{fact_in, IsPart, IsPartOf}
use Rattle.opl_connective.specs.declared.node.Node.{Node}
use Rattle.opl_connective.specs.declared.node.Node.TheVariants as N
use Rattle.opl_connective.specs.Trees.{Tree, trees_of, tree, names, is_refuted, some_refuted, all_refuted, iff_refuted}
use Rattle.opl_connective.specs.Nodes.{IsTree, AreNodes, TellsAt, First, IsOpenAt}
use Rattle.opl_connective.specs.Rounds.{SparesOthers}
use Rattle.opl_connective.proofs.Plain.{tree_Literal, tree_Not, tree_And, tree_Or, tree_Iff}
use Rattle.opl_connective.proofs.Refuted.{and_refuted, and_certain, or_refuted, or_certain, iff_first_sure, iff_first_never, iff_first_open}
use Rattle.opl_connective.proofs.Places.{tree_at, each_refuted, one_open, one_refuted, none_refuted, names_there}
use Rattle.opl_connective.proofs.Going.{not_same, opposite_same, open_spares}

-- ---- the parts of a node

pub literal_parts : (core : Core) (n : Node) (p q : Part) → n ≡ N.Literal p q → IsTree core (tree n) → IsPart core p × IsPartOf core (Fact.not (fact_in core p)) q
literal_parts core n p q e i = subst (IsTree core) (ap tree e ∙ tree_Literal p q) i

pub not_part : (core : Core) (n a m : Node) → n ≡ N.Not a → m ≡ a → IsTree core (tree n) → IsTree core (tree m)
not_part core n a m e h i = subst (IsTree core) (ap tree e ∙ tree_Not a ∙ ap (λ z. Tree.not (tree z)) (sym h)) i

pub and_parts : (core : Core) (n : Node) (xs : List ℕ) (ns ms : List Node) → n ≡ N.And xs ns → ms ≡ ns → IsTree core (tree n) → AreNodes core ms
and_parts core n xs ns ms e h i = let t = subst (IsTree core) (ap tree e ∙ tree_And xs ns) i in subst (AreNodes core) (sym h) t.1

pub or_parts : (core : Core) (n : Node) (xs : List ℕ) (ns ms : List Node) → n ≡ N.Or xs ns → ms ≡ ns → IsTree core (tree n) → AreNodes core ms
or_parts core n xs ns ms e h i = let t = subst (IsTree core) (ap tree e ∙ tree_Or xs ns) i in subst (AreNodes core) (sym h) t.1

pub iff_first : (core : Core) (n : Node) (xs : List ℕ) (a b m : Node) → n ≡ N.Iff xs a b → m ≡ a → IsTree core (tree n) → IsTree core (tree m)
iff_first core n xs a b m e h i = let t = subst (IsTree core) (ap tree e ∙ tree_Iff xs a b) i in subst (λ z. IsTree core (tree z)) (sym h) t.1

pub iff_second : (core : Core) (n : Node) (xs : List ℕ) (a b m : Node) → n ≡ N.Iff xs a b → m ≡ b → IsTree core (tree n) → IsTree core (tree m)
iff_second core n xs a b m e h i = let t = subst (IsTree core) (ap tree e ∙ tree_Iff xs a b) i in subst (λ z. IsTree core (tree z)) (sym h) t.2

-- ---- nodes by places

map_there : (ns : List Node) → length (map tree ns) ≡ length ns
map_there [] = refl
map_there (n ∷ ns) = ap suc (map_there ns)

pub tree_there : (ns : List Node) (i : ℕ) → i < length ns → i < length (map tree ns)
tree_there ns i l = omega (arith, l, map_there ns)

pub tree_slice : (ns : List Node) (i : ℕ) (n : Node) → i < length ns → n ≡ get_or ns i n → slice_get (map tree ns) i ≡ Some (tree n)
tree_slice [] i n l e = absurd (omega arith)
tree_slice (m ∷ ns) zero n l e = ap (λ z. Some (tree z)) (sym e)
tree_slice (m ∷ ns) (suc i) n l e = tree_slice ns i n (omega arith) e

pub node_at : (core : Core) (ns : List Node) (i : ℕ) (n : Node) → i < length ns → n ≡ get_or ns i n → AreNodes core ns → IsTree core (tree n)
node_at core ns i n l e a = tree_at core (map tree ns) i (tree n) a (tree_slice ns i n l e)

the_same : (a b : Tree) → Some a ≡ Some b → a ≡ b
the_same a b h = cc

module _ (core : Core) (F : Family) (o : Bool) (ns : List Node) where
  pub told_at : (i : ℕ) (n : Node) (r b : Bool) → i < length ns → n ≡ get_or ns i n → r ≡ is_refuted core o (tree n) F → r ≡ b → TellsAt core F o (map tree ns) b i
  told_at i n r b l e h k t g = subst (λ z. is_refuted core o z F ≡ b) (the_same (tree n) t (sym (tree_slice ns i n l e) ∙ g)) (sym h ∙ k)

  pub told_first : (told : Bool) (k i : ℕ) → k ≤ i → i < k → TellsAt core F o (map tree ns) told i
  told_first told k i l h = absurd (omega (arith, l, h))

  pub told_next : (told : Bool) (from k : ℕ) → ((i : ℕ) → from ≤ i → i < k → TellsAt core F o (map tree ns) told i) → TellsAt core F o (map tree ns) told k → (i : ℕ) → from ≤ i → i < k + 1 → TellsAt core F o (map tree ns) told i
  told_next told from k h r i l m = elim (cases_eq i k) [
    | inl e ↦ subst (TellsAt core F o (map tree ns) told) (sym e) r
    | inr n ↦ h i l (omega (arith, m, n))
  ]

  within : (ts : List Tree) (i : ℕ) (t : Tree) → slice_get ts i ≡ Some t → i < length ts
  within [] i t h = cc
  within (u ∷ ts) zero t h = omega arith
  within (u ∷ ts) (suc i) t h = let r = within ts i t h in omega (arith, r)

  pub told_none : (told : Bool) (from k : ℕ) → ((i : ℕ) → from ≤ i → i < k → TellsAt core F o (map tree ns) told i) → length ns ≤ k → (i : ℕ) → from ≤ i → TellsAt core F o (map tree ns) told i
  told_none told from k h e i l t g = let w = within (map tree ns) i t g in h i l (omega (arith, w, e, map_there ns)) t g

pub same_told : (r b : Bool) → beq r b ≡ true → r ≡ b
same_told true true e = refl
same_told true false e = sym e
same_told false true e = e
same_told false false e = refl

pub other_told : (r b : Bool) → beq r b ≡ false → r ≡ not b
other_told true true e = e
other_told true false e = refl
other_told false true e = refl
other_told false false e = sym e

some_there : (ts : List Tree) (k : ℕ) → k < length ts → (t : Tree) × (slice_get ts k ≡ Some t)
some_there [] k l = absurd (omega arith)
some_there (t ∷ ts) zero l = (t, refl)
some_there (t ∷ ts) (suc k) l = some_there ts k (omega arith)

-- ---- what the first place tells of all

module _ (core : Core) (F : Family) (o : Bool) (ts : List Tree) where
  pub all_none : First core F o ts false 0 None → all_refuted core o ts F ≡ true
  all_none h = each_refuted core F o ts (λ i. h i (omega arith))

  pub all_some : (k : ℕ) → First core F o ts false 0 (Some k) → all_refuted core o ts F ≡ false
  all_some k h = let t = some_there ts k h.there in one_open core F o ts k t.0 t.1 (h.is t.0 t.1)

  pub some_none : First core F o ts true 0 None → some_refuted core o ts F ≡ false
  some_none h = none_refuted core F o ts (λ i. h i (omega arith))

  pub some_some : (k : ℕ) → First core F o ts true 0 (Some k) → some_refuted core o ts F ≡ true
  some_some k h = let t = some_there ts k h.there in one_refuted core F o ts k t.0 t.1 (h.is t.0 t.1)

-- ---- what is told of a node

module _ (core : Core) (F : Family) (n : Node) (i : IsTree core (tree n)) where
  pub opposite_told : (p q : Part) (o r : Bool) → n ≡ N.Literal p q → o ≡ true → r ≡ refutes (fact_in core q) F → r ≡ is_refuted core o (tree n) F
  opposite_told p q o r e h k =
      let t = ap tree e ∙ tree_Literal p q in
      k ∙ ap (λ (d : Family → Bool). d F) (opposite_same core p q (subst (IsTree core) t i)) ∙ ap (λ b. is_refuted core b (Tree.literal p q) F) (sym h) ∙ ap (λ z. is_refuted core o z F) (sym t)

  pub part_told : (p q : Part) (o r : Bool) → n ≡ N.Literal p q → o ≡ false → r ≡ refutes (fact_in core p) F → r ≡ is_refuted core o (tree n) F
  part_told p q o r e h k = k ∙ ap (λ b. is_refuted core b (Tree.literal p q) F) (sym h) ∙ ap (λ z. is_refuted core o z F) (sym (ap tree e ∙ tree_Literal p q))

  pub not_told : (a m : Node) (o r : Bool) → n ≡ N.Not a → m ≡ a → r ≡ is_refuted core (not o) (tree m) F → r ≡ is_refuted core o (tree n) F
  not_told a m o r e h k =
      k ∙ ap (λ z. is_refuted core (not o) (tree z) F) h ∙ ap (λ (d : Family → Bool). d F) (not_same core o (tree a)) ∙ ap (λ z. is_refuted core o z F) (sym (ap tree e ∙ tree_Not a))

  module _ (f : Full F) (xs : List ℕ) (ns ms : List Node) where
    and_tree : n ≡ N.And xs ns → ms ≡ ns → tree n ≡ Tree.and xs (trees_of (map tree ms))
    and_tree e h = ap tree e ∙ tree_And xs ns ∙ ap (λ zs. Tree.and xs (trees_of (map tree zs))) (sym h)

    or_tree : n ≡ N.Or xs ns → ms ≡ ns → tree n ≡ Tree.or xs (trees_of (map tree ms))
    or_tree e h = ap tree e ∙ tree_Or xs ns ∙ ap (λ zs. Tree.or xs (trees_of (map tree zs))) (sym h)

    pub and_none : (o : Bool) → n ≡ N.And xs ns → ms ≡ ns → First core F o (map tree ms) (not o) 0 None → o ≡ is_refuted core o (tree n) F
    and_none true e h k = sym (ap (λ z. is_refuted core true z F) (and_tree e h) ∙ and_certain core F f (map tree ms) (and_parts core n xs ns ms e h i) ∙ all_none core F true (map tree ms) k)
    and_none false e h k = sym (ap (λ z. is_refuted core false z F) (and_tree e h) ∙ and_refuted core F f (map tree ms) (and_parts core n xs ns ms e h i) ∙ some_none core F false (map tree ms) k)

    pub and_some : (o : Bool) (at : ℕ) → n ≡ N.And xs ns → ms ≡ ns → First core F o (map tree ms) (not o) 0 (Some at) → not o ≡ is_refuted core o (tree n) F
    and_some true at e h k = sym (ap (λ z. is_refuted core true z F) (and_tree e h) ∙ and_certain core F f (map tree ms) (and_parts core n xs ns ms e h i) ∙ all_some core F true (map tree ms) at k)
    and_some false at e h k = sym (ap (λ z. is_refuted core false z F) (and_tree e h) ∙ and_refuted core F f (map tree ms) (and_parts core n xs ns ms e h i) ∙ some_some core F false (map tree ms) at k)

    pub or_none : (o : Bool) → n ≡ N.Or xs ns → ms ≡ ns → First core F o (map tree ms) o 0 None → not o ≡ is_refuted core o (tree n) F
    or_none true e h k = sym (ap (λ z. is_refuted core true z F) (or_tree e h) ∙ or_certain core F f (map tree ms) (or_parts core n xs ns ms e h i) ∙ some_none core F true (map tree ms) k)
    or_none false e h k = sym (ap (λ z. is_refuted core false z F) (or_tree e h) ∙ or_refuted core F f (map tree ms) (or_parts core n xs ns ms e h i) ∙ all_none core F false (map tree ms) k)

    pub or_some : (o : Bool) (at : ℕ) → n ≡ N.Or xs ns → ms ≡ ns → First core F o (map tree ms) o 0 (Some at) → o ≡ is_refuted core o (tree n) F
    or_some true at e h k = sym (ap (λ z. is_refuted core true z F) (or_tree e h) ∙ or_certain core F f (map tree ms) (or_parts core n xs ns ms e h i) ∙ some_some core F true (map tree ms) at k)
    or_some false at e h k = sym (ap (λ z. is_refuted core false z F) (or_tree e h) ∙ or_refuted core F f (map tree ms) (or_parts core n xs ns ms e h i) ∙ all_some core F false (map tree ms) at k)

  module _ (f : Full F) (o : Bool) (xs : List ℕ) (a b l : Node) (e : n ≡ N.Iff xs a b) (h : l ≡ a) where
    iff_tree : (r : Node) → r ≡ b → is_refuted core o (tree n) F ≡ iff_refuted core o (tree l) (tree r) F
    iff_tree r k = ap (λ z. is_refuted core o z F) (ap tree e ∙ tree_Iff xs a b) ∙ ap (λ z. iff_refuted core o (tree z) (tree b) F) (sym h) ∙ ap (λ z. iff_refuted core o (tree l) (tree z) F) (sym k)

    pub iff_told_sure : (r : Node) (s u : Bool) → r ≡ b → s ≡ is_refuted core true (tree l) F → s ≡ true → u ≡ is_refuted core o (tree r) F → u ≡ is_refuted core o (tree n) F
    iff_told_sure r s u k p q w = w ∙ sym (iff_tree r k ∙ iff_first_sure core F f o (tree l) (tree r) (iff_first core n xs a b l e h i) (iff_second core n xs a b r e k i) (sym p ∙ q))

    pub iff_told_never : (r : Node) (s u : Bool) → r ≡ b → s ≡ is_refuted core false (tree l) F → s ≡ true → u ≡ is_refuted core (not o) (tree r) F → u ≡ is_refuted core o (tree n) F
    iff_told_never r s u k p q w = w ∙ sym (iff_tree r k ∙ iff_first_never core F f o (tree l) (tree r) (iff_first core n xs a b l e h i) (iff_second core n xs a b r e k i) (sym p ∙ q))

    pub iff_told_open : (m : Node) (s t : Bool) → m ≡ a → s ≡ is_refuted core true (tree l) F → s ≡ false → t ≡ is_refuted core false (tree m) F → t ≡ false → false ≡ is_refuted core o (tree n) F
    iff_told_open m s t g p q u w =
        sym (iff_tree b refl ∙ iff_first_open core F f o (tree l) (tree b) (iff_first core n xs a b l e h i) (iff_second core n xs a b b e refl i) (sym p ∙ q) (ap (λ z. is_refuted core false (tree z) F) (h ∙ sym g) ∙ sym u ∙ w))

-- ---- the variables of a node as they are read

pub listed_there : (core : Core) (n : Node) (xs : List ℕ) (F : Family) → xs ≡ names (tree n) → IsTree core (tree n) → Below F (declared core) → AreThere xs F
listed_there core n xs F e i b = subst (λ ys. AreThere ys F) (sym e) (names_there core (tree n) F i b)

pub names_at : (core : Core) (ns : List Node) (k : ℕ) (n : Node) (xs : List ℕ) (F : Family) → k < length ns → n ≡ get_or ns k n → xs ≡ names (tree n) → AreNodes core ns → Below F (declared core) → AreThere xs F
names_at core ns k n xs F l e h a b = listed_there core n xs F h (node_at core ns k n l e a) b

pub open_at : (core : Core) (o : Bool) (ns : List Node) (k : ℕ) (n : Node) (F : Family) → n ≡ get_or ns k n → IsOpenAt core F o ns k → all_refuted core o (map tree ns) F ≡ false
open_at core o ns k n F e p = one_open core F o (map tree ns) k (tree n) (tree_slice ns k n p.there e) (p.is (tree n) (tree_slice ns k n p.there e))

pub spares_at : (core : Core) (o : Bool) (ns : List Node) (k : ℕ) (n : Node) (xs : List ℕ) (F : Family) → Full F → n ≡ get_or ns k n → xs ≡ names (tree n) → AreNodes core ns → IsOpenAt core F o ns k → SparesOthers (all_refuted core o (map tree ns)) xs F
spares_at core o ns k n xs F f e h a p =
    let s = tree_slice ns k n p.there e in
    subst (λ ys. SparesOthers (all_refuted core o (map tree ns)) ys F) (sym h) (open_spares core o (map tree ns) a F k (tree n) f (node_at core ns k n p.there e a) s (p.is (tree n) s))

pub spares_as : (dead : Family → Bool) (n : Node) (xs : List ℕ) (F : Family) → xs ≡ names (tree n) → SparesOthers dead (names (tree n)) F → SparesOthers dead xs F
spares_as dead n xs F e s = subst (λ ys. SparesOthers dead ys F) (sym e) s

pub there_back : (ns : List Node) (i : ℕ) → i < length (map tree ns) → i < length ns
there_back ns i l = omega (arith, l, map_there ns)

pub all_there : (ns : List Node) (k : ℕ) → length ns ≤ k → length (map tree ns) ≤ k
all_there ns k l = omega (arith, l, map_there ns)
