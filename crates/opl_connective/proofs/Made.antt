-- The nodes that are made for constraints.
use Rattle.std.proofs.Common.{◌≡◌, ◌∙◌, ℕ, zero, suc, ◌+◌, ◌<◌, ◌≤◌, true, false, cond, refl, List, [], ◌∷◌, ◌++◌, map, length, get_or, take, ap, sym, subst, arith}
use Rattle.std.specs.Prelude.{Option, Some, None, slice_get}
use Rattle.std.proofs.Math.Path.{fun_ext}
use Rattle.opl_domain.specs.Arithmetic.{span_min, span_max}
use Rattle.opl_domain.specs.Family.{Family}
use Rattle.opl_expr.specs.declared.model.Core.{Core}
use Rattle.opl_expr.specs.declared.forms.Op.{Op}
use Rattle.opl_expr.specs.declared.forms.Expr.{Expr}
use Rattle.opl_expr.specs.declared.forms.Cons.{Cons}
use Rattle.opl_expr.specs.declared.forms.Cons.TheVariants as C
use Rattle.opl_expr.specs.Forms.{Fact, fact, facts_of}
use Rattle.opl_expr.specs.Options.{lift, lift1}
use Rattle.opl_expr.specs.Range.{flip, same_truth, is_possible, fact_range}
use Rattle.opl_expr.specs.Sound.{IsSoundFact, AreSoundFacts}
use Rattle.opl_expr.proofs.Plain.{fact_And, fact_Or, fact_Imp, fact_Iff, fact_Not}
use Rattle.opl_filter.specs.Filtering.{refutes}
use Rattle.opl_filter.specs.Mentions.{AreVariables}
use Rattle.opl_reify.specs.declared.part.Part.{Part}
use Rattle.opl_reify.specs.Parts.{IsPartOf, IsPartIfAny}
use Rattle.opl_connective.specs.declared.connective_filter.ConnectiveFilter.{ConnectiveFilter}
use Rattle.opl_connective.specs.declared.node.Node.{Node}
use Rattle.opl_connective.specs.declared.node.Node.TheVariants as N
use Rattle.opl_connective.specs.Trees.{Tree, trees_of, tree, holds, all_hold, is_refuted}
use Rattle.opl_connective.specs.Nodes.{IsTree, AreTrees}
use Rattle.opl_connective.specs.Connectives.{IsNodeOf, IsNodeIfAny, AreNodesOf, AreNodesIfAny, IsConnectiveFor}
use Rattle.opl_connective.specs.Kinds.{Connects, AllConnect, IsThereFor, AreThereFor, IsLiteralThere}
use Rattle.opl_connective.proofs.Plain.{tree_Literal, tree_Not, tree_And, tree_Or, tree_Iff}
use Rattle.opl_connective.proofs.Places.{named_of, named_as}
use Rattle.opl_connective.proofs.Shapes.{only_comparison, only_opposite, only_conjunction, only_disjunction, only_implication, only_equivalence, literal_connects}

-- ---- nodes

node_as : (core : Core) (c : Fact) (n : Node) (t : Tree) → tree n ≡ t → IsTree core t → ((F : Family) → fact_range F c ≡ fact_range F (holds core t)) → IsNodeOf core c n
node_as core c n t e i s = record { made = subst (IsTree core) (sym e) i; same = λ F. s F ∙ ap (λ u. fact_range F (holds core u)) (sym e) }

literal_node : (core : Core) (c : Fact) (p q : Part) → IsPartOf core c p → IsPartOf core (Fact.not c) q → IsNodeOf core c (N.Literal p q)
literal_node core c p q i j =
    node_as core c (N.Literal p q) (Tree.literal p q) (tree_Literal p q) (i.part, record { part = j.part; same = λ F. ap (lift1 flip) (sym (i.same F)) ∙ j.same F }) i.same

not_node : (core : Core) (c : Fact) (n : Node) → IsNodeOf core c n → IsNodeOf core (Fact.not c) (N.Not n)
not_node core c n i = node_as core (Fact.not c) (N.Not n) (Tree.not (tree n)) (tree_Not n) i.made (λ F. ap (lift1 flip) (i.same F))

trees_are : (core : Core) (cs : List Fact) (ns : List Node) → AreNodesOf core cs ns → AreTrees core (trees_of (map tree ns))
trees_are core [] [] a = tt
trees_are core [] (n ∷ ns) a = absurd a
trees_are core (c ∷ cs) [] a = absurd a
trees_are core (c ∷ cs) (n ∷ ns) a = (a.0.made, trees_are core cs ns a.1)

and_ranges : (core : Core) (F : Family) (cs : List Fact) (ns : List Node) → AreNodesOf core cs ns → fact_range F (Fact.and (facts_of cs)) ≡ fact_range F (Fact.and (all_hold core (trees_of (map tree ns))))
and_ranges core F [] [] a = refl
and_ranges core F [] (n ∷ ns) a = absurd a
and_ranges core F (c ∷ cs) [] a = absurd a
and_ranges core F (c ∷ cs) (n ∷ ns) a = ap (λ r. lift span_min r (fact_range F (Fact.and (facts_of cs)))) (a.0.same F) ∙ ap (lift span_min (fact_range F (holds core (tree n)))) (and_ranges core F cs ns a.1)

or_ranges : (core : Core) (F : Family) (cs : List Fact) (ns : List Node) → AreNodesOf core cs ns → fact_range F (Fact.or (facts_of cs)) ≡ fact_range F (Fact.or (all_hold core (trees_of (map tree ns))))
or_ranges core F [] [] a = refl
or_ranges core F [] (n ∷ ns) a = absurd a
or_ranges core F (c ∷ cs) [] a = absurd a
or_ranges core F (c ∷ cs) (n ∷ ns) a = ap (λ r. lift span_max r (fact_range F (Fact.or (facts_of cs)))) (a.0.same F) ∙ ap (lift span_max (fact_range F (holds core (tree n)))) (or_ranges core F cs ns a.1)

and_node : (core : Core) (cs : List Fact) (xs : List ℕ) (ns : List Node) → IsSoundFact core.sets (Fact.and (facts_of cs)) → AreVariables xs (Fact.and (facts_of cs)) → AreNodesOf core cs ns → IsNodeOf core (Fact.and (facts_of cs)) (N.And xs ns)
and_node core cs xs ns s v a =
    let c = Fact.and (facts_of cs) in
    let d = Fact.and (all_hold core (trees_of (map tree ns))) in
    node_as core c (N.And xs ns) (Tree.and xs (trees_of (map tree ns))) (tree_And xs ns) (named_as core c d xs (λ F. and_ranges core F cs ns a) (named_of core c xs s v), trees_are core cs ns a) (λ F. and_ranges core F cs ns a)

or_node : (core : Core) (cs : List Fact) (xs : List ℕ) (ns : List Node) → IsSoundFact core.sets (Fact.or (facts_of cs)) → AreVariables xs (Fact.or (facts_of cs)) → AreNodesOf core cs ns → IsNodeOf core (Fact.or (facts_of cs)) (N.Or xs ns)
or_node core cs xs ns s v a =
    let c = Fact.or (facts_of cs) in
    let d = Fact.or (all_hold core (trees_of (map tree ns))) in
    node_as core c (N.Or xs ns) (Tree.or xs (trees_of (map tree ns))) (tree_Or xs ns) (named_as core c d xs (λ F. or_ranges core F cs ns a) (named_of core c xs s v), trees_are core cs ns a) (λ F. or_ranges core F cs ns a)

imp_node : (core : Core) (c d : Fact) (xs : List ℕ) (m n : Node) → IsSoundFact core.sets (Fact.or (facts_of (Fact.not c ∷ d ∷ []))) → AreVariables xs (Fact.or (facts_of (Fact.not c ∷ d ∷ []))) → IsNodeOf core c m → IsNodeOf core d n
    → IsNodeOf core (Fact.or (facts_of (Fact.not c ∷ d ∷ []))) (N.Or xs (N.Not m ∷ n ∷ []))
imp_node core c d xs m n s v i j = or_node core (Fact.not c ∷ d ∷ []) xs (N.Not m ∷ n ∷ []) s v (not_node core c m i, (j, tt))

iff_node : (core : Core) (c d : Fact) (xs : List ℕ) (m n : Node) → IsSoundFact core.sets (Fact.iff c d) → AreVariables xs (Fact.iff c d) → IsNodeOf core c m → IsNodeOf core d n → IsNodeOf core (Fact.iff c d) (N.Iff xs m n)
iff_node core c d xs m n s v i j =
    let e = Fact.iff (holds core (tree m)) (holds core (tree n)) in
    let same : (F : Family) → fact_range F (Fact.iff c d) ≡ fact_range F e = λ F. ap (λ r. lift same_truth r (fact_range F d)) (i.same F) ∙ ap (lift same_truth (fact_range F (holds core (tree m)))) (j.same F) in
    node_as core (Fact.iff c d) (N.Iff xs m n) (Tree.iff xs (tree m) (tree n)) (tree_Iff xs m n) (named_as core (Fact.iff c d) e xs same (named_of core (Fact.iff c d) xs s v), i.made, j.made) same

-- ---- constraints as they are read

and_is : (core : Core) (c : Cons) (ds cs : List Cons) → c ≡ C.And ds → cs ≡ ds → fact core.tables core.resources c ≡ Fact.and (facts_of (map (fact core.tables core.resources) cs))
and_is core c ds cs e i = ap (fact core.tables core.resources) (e ∙ ap C.And (sym i)) ∙ fact_And core.tables core.resources cs

or_is : (core : Core) (c : Cons) (ds cs : List Cons) → c ≡ C.Or ds → cs ≡ ds → fact core.tables core.resources c ≡ Fact.or (facts_of (map (fact core.tables core.resources) cs))
or_is core c ds cs e i = ap (fact core.tables core.resources) (e ∙ ap C.Or (sym i)) ∙ fact_Or core.tables core.resources cs

imp_is : (core : Core) (c a b p q : Cons) → c ≡ C.Imp a b → p ≡ a → q ≡ b → fact core.tables core.resources c ≡ Fact.or (facts_of (Fact.not (fact core.tables core.resources p) ∷ fact core.tables core.resources q ∷ []))
imp_is core c a b p q e i j = ap (fact core.tables core.resources) (e ∙ ap (λ z. C.Imp z b) (sym i) ∙ ap (C.Imp p) (sym j)) ∙ fact_Imp core.tables core.resources p q

iff_is : (core : Core) (c a b p q : Cons) → c ≡ C.Iff a b → p ≡ a → q ≡ b → fact core.tables core.resources c ≡ Fact.iff (fact core.tables core.resources p) (fact core.tables core.resources q)
iff_is core c a b p q e i j = ap (fact core.tables core.resources) (e ∙ ap (λ z. C.Iff z b) (sym i) ∙ ap (C.Iff p) (sym j)) ∙ fact_Iff core.tables core.resources p q

not_is : (core : Core) (c a p : Cons) → c ≡ C.Not a → p ≡ a → fact core.tables core.resources c ≡ Fact.not (fact core.tables core.resources p)
not_is core c a p e i = ap (fact core.tables core.resources) (e ∙ ap C.Not (sym i)) ∙ fact_Not core.tables core.resources p

pub and_sound : (core : Core) (c : Cons) (ds cs : List Cons) → c ≡ C.And ds → cs ≡ ds → IsSoundFact core.sets (fact core.tables core.resources c) → AreSoundFacts core.sets (facts_of (map (fact core.tables core.resources) cs))
and_sound core c ds cs e i s = subst (IsSoundFact core.sets) (and_is core c ds cs e i) s

pub or_sound : (core : Core) (c : Cons) (ds cs : List Cons) → c ≡ C.Or ds → cs ≡ ds → IsSoundFact core.sets (fact core.tables core.resources c) → AreSoundFacts core.sets (facts_of (map (fact core.tables core.resources) cs))
or_sound core c ds cs e i s = subst (IsSoundFact core.sets) (or_is core c ds cs e i) s

pub imp_sound : (core : Core) (c a b p q : Cons) → c ≡ C.Imp a b → p ≡ a → q ≡ b → IsSoundFact core.sets (fact core.tables core.resources c) → IsSoundFact core.sets (fact core.tables core.resources p) × IsSoundFact core.sets (fact core.tables core.resources q)
imp_sound core c a b p q e i j s = let t = subst (IsSoundFact core.sets) (imp_is core c a b p q e i j) s in (t.0, t.1.0)

pub iff_sound : (core : Core) (c a b p q : Cons) → c ≡ C.Iff a b → p ≡ a → q ≡ b → IsSoundFact core.sets (fact core.tables core.resources c) → IsSoundFact core.sets (fact core.tables core.resources p) × IsSoundFact core.sets (fact core.tables core.resources q)
iff_sound core c a b p q e i j s = subst (IsSoundFact core.sets) (iff_is core c a b p q e i j) s

pub not_sound : (core : Core) (c a p : Cons) → c ≡ C.Not a → p ≡ a → IsSoundFact core.sets (fact core.tables core.resources c) → IsSoundFact core.sets (fact core.tables core.resources p)
not_sound core c a p e i s = subst (IsSoundFact core.sets) (not_is core c a p e i) s

module _ (core : Core) (c : Cons) (s : IsSoundFact core.sets (fact core.tables core.resources c)) (n : Node) where
  pub literal_made : (p q : Part) (x : Option Part) → IsPartOf core (fact core.tables core.resources c) p → IsPartIfAny core (Fact.not (fact core.tables core.resources c)) x → x ≡ Some q → n ≡ N.Literal p q
      → IsNodeOf core (fact core.tables core.resources c) n
  literal_made p q x i y e k = subst (IsNodeOf core (fact core.tables core.resources c)) (sym k) (literal_node core (fact core.tables core.resources c) p q i (subst (IsPartIfAny core (Fact.not (fact core.tables core.resources c))) e y))

  module _ (xs : List ℕ) (v : AreVariables xs (fact core.tables core.resources c)) where
    -- so it is, if it is so of what the constraint is
    made_as : (d : Fact) (m : Node) → fact core.tables core.resources c ≡ d → (IsSoundFact core.sets d → AreVariables xs d → IsNodeOf core d m) → n ≡ m → IsNodeOf core (fact core.tables core.resources c) n
    made_as d m e f k = subst (IsNodeOf core (fact core.tables core.resources c)) (sym k) (subst (λ z. IsNodeOf core z m) (sym e) (f (subst (IsSoundFact core.sets) e s) (subst (AreVariables xs) e v)))

    pub and_made : (ds cs : List Cons) (ns : List Node) (x : Option (List Node)) → c ≡ C.And ds → cs ≡ ds → AreNodesIfAny core (map (fact core.tables core.resources) cs) x → x ≡ Some ns → n ≡ N.And xs ns
        → IsNodeOf core (fact core.tables core.resources c) n
    and_made ds cs ns x e i a j k =
        let fs = map (fact core.tables core.resources) cs in
        made_as (Fact.and (facts_of fs)) (N.And xs ns) (and_is core c ds cs e i) (λ t w. and_node core fs xs ns t w (subst (AreNodesIfAny core fs) j a)) k

    pub or_made : (ds cs : List Cons) (ns : List Node) (x : Option (List Node)) → c ≡ C.Or ds → cs ≡ ds → AreNodesIfAny core (map (fact core.tables core.resources) cs) x → x ≡ Some ns → n ≡ N.Or xs ns
        → IsNodeOf core (fact core.tables core.resources c) n
    or_made ds cs ns x e i a j k =
        let fs = map (fact core.tables core.resources) cs in
        made_as (Fact.or (facts_of fs)) (N.Or xs ns) (or_is core c ds cs e i) (λ t w. or_node core fs xs ns t w (subst (AreNodesIfAny core fs) j a)) k

    pub imp_made : (a b p q : Cons) (l r : Node) (x y : Option Node) → c ≡ C.Imp a b → p ≡ a → q ≡ b → IsNodeIfAny core (fact core.tables core.resources p) x → x ≡ Some l → IsNodeIfAny core (fact core.tables core.resources q) y → y ≡ Some r
        → n ≡ N.Or xs (N.Not l ∷ r ∷ []) → IsNodeOf core (fact core.tables core.resources c) n
    imp_made a b p q l r x y e i j h u w v k =
        let f = fact core.tables core.resources p in
        let g = fact core.tables core.resources q in
        made_as (Fact.or (facts_of (Fact.not f ∷ g ∷ []))) (N.Or xs (N.Not l ∷ r ∷ [])) (imp_is core c a b p q e i j) (λ t s. imp_node core f g xs l r t s (subst (IsNodeIfAny core f) u h) (subst (IsNodeIfAny core g) v w)) k

    pub iff_made : (a b p q : Cons) (l r : Node) (x y : Option Node) → c ≡ C.Iff a b → p ≡ a → q ≡ b → IsNodeIfAny core (fact core.tables core.resources p) x → x ≡ Some l → IsNodeIfAny core (fact core.tables core.resources q) y → y ≡ Some r
        → n ≡ N.Iff xs l r → IsNodeOf core (fact core.tables core.resources c) n
    iff_made a b p q l r x y e i j h u w v k =
        let f = fact core.tables core.resources p in
        let g = fact core.tables core.resources q in
        made_as (Fact.iff f g) (N.Iff xs l r) (iff_is core c a b p q e i j) (λ t s. iff_node core f g xs l r t s (subst (IsNodeIfAny core f) u h) (subst (IsNodeIfAny core g) v w)) k

  pub not_made : (a p : Cons) (m : Node) (x : Option Node) → c ≡ C.Not a → p ≡ a → IsNodeIfAny core (fact core.tables core.resources p) x → x ≡ Some m → n ≡ N.Not m → IsNodeOf core (fact core.tables core.resources c) n
  not_made a p m x e i h j k =
      subst (IsNodeOf core (fact core.tables core.resources c)) (sym k) (subst (λ z. IsNodeOf core z (N.Not m)) (sym (not_is core c a p e i)) (not_node core (fact core.tables core.resources p) m (subst (IsNodeIfAny core (fact core.tables core.resources p)) j h)))

-- ---- kinds

pub leaf_there : (core : Core) (c : Cons) (op : Op) (a b : Expr) → c ≡ C.Cmp op a b → (x : Option Node) → IsLiteralThere core c x → IsThereFor core c x
leaf_there core c op a b e None h = λ i. h zero (only_comparison core c op a b e i)
leaf_there core c op a b e (Some n) h = literal_connects core c h.0 h.1

pub not_there : (core : Core) (c a p : Cons) → c ≡ C.Not a → p ≡ a → (x : Option Node) → IsThereFor core p x → x ≡ None → Connects core c → ⊥
not_there core c a p e i x h j k = let g : IsThereFor {A = Node} core p None = subst (IsThereFor core p) j h in g (subst (Connects core) (sym i) (only_opposite core c a e k))

pub not_connects : (core : Core) (c a p : Cons) → c ≡ C.Not a → p ≡ a → (x : Option Node) (m : Node) → IsThereFor core p x → x ≡ Some m → Connects core c
not_connects core c a p e i x m h j = Connects.opposite c p (e ∙ ap C.Not (sym i)) (subst (IsThereFor core p) j h)

pub and_there : (core : Core) (c : Cons) (ds cs : List Cons) → c ≡ C.And ds → cs ≡ ds → (x : Option (List Node)) → AreThereFor core cs x → x ≡ None → Connects core c → ⊥
and_there core c ds cs e i x h j k = let g : AreThereFor {A = List Node} core cs None = subst (AreThereFor core cs) j h in g (subst (AllConnect core) (sym i) (only_conjunction core c ds e k))

pub and_connects : (core : Core) (c : Cons) (ds cs : List Cons) → c ≡ C.And ds → cs ≡ ds → (x : Option (List Node)) (ns : List Node) → AreThereFor core cs x → x ≡ Some ns → Connects core c
and_connects core c ds cs e i x ns h j = Connects.conjunction c cs (e ∙ ap C.And (sym i)) (subst (AreThereFor core cs) j h)

pub or_there : (core : Core) (c : Cons) (ds cs : List Cons) → c ≡ C.Or ds → cs ≡ ds → (x : Option (List Node)) → AreThereFor core cs x → x ≡ None → Connects core c → ⊥
or_there core c ds cs e i x h j k = let g : AreThereFor {A = List Node} core cs None = subst (AreThereFor core cs) j h in g (subst (AllConnect core) (sym i) (only_disjunction core c ds e k))

pub or_connects : (core : Core) (c : Cons) (ds cs : List Cons) → c ≡ C.Or ds → cs ≡ ds → (x : Option (List Node)) (ns : List Node) → AreThereFor core cs x → x ≡ Some ns → Connects core c
or_connects core c ds cs e i x ns h j = Connects.disjunction c cs (e ∙ ap C.Or (sym i)) (subst (AreThereFor core cs) j h)

pub imp_none_first : (core : Core) (c a b p : Cons) → c ≡ C.Imp a b → p ≡ a → (x : Option Node) → IsThereFor core p x → x ≡ None → Connects core c → ⊥
imp_none_first core c a b p e i x h j k = let g : IsThereFor {A = Node} core p None = subst (IsThereFor core p) j h in g (subst (Connects core) (sym i) (only_implication core c a b e k).0)

pub imp_none_second : (core : Core) (c a b q : Cons) → c ≡ C.Imp a b → q ≡ b → (x : Option Node) → IsThereFor core q x → x ≡ None → Connects core c → ⊥
imp_none_second core c a b q e i x h j k = let g : IsThereFor {A = Node} core q None = subst (IsThereFor core q) j h in g (subst (Connects core) (sym i) (only_implication core c a b e k).1)

pub imp_connects : (core : Core) (c a b p q : Cons) → c ≡ C.Imp a b → p ≡ a → q ≡ b → (x y : Option Node) (l r : Node) → IsThereFor core p x → x ≡ Some l → IsThereFor core q y → y ≡ Some r → Connects core c
imp_connects core c a b p q e i j x y l r h u w v = Connects.implication c p q (e ∙ ap (λ z. C.Imp z b) (sym i) ∙ ap (C.Imp p) (sym j)) (subst (IsThereFor core p) u h) (subst (IsThereFor core q) v w)

pub iff_none_first : (core : Core) (c a b p : Cons) → c ≡ C.Iff a b → p ≡ a → (x : Option Node) → IsThereFor core p x → x ≡ None → Connects core c → ⊥
iff_none_first core c a b p e i x h j k = let g : IsThereFor {A = Node} core p None = subst (IsThereFor core p) j h in g (subst (Connects core) (sym i) (only_equivalence core c a b e k).0)

pub iff_none_second : (core : Core) (c a b q : Cons) → c ≡ C.Iff a b → q ≡ b → (x : Option Node) → IsThereFor core q x → x ≡ None → Connects core c → ⊥
iff_none_second core c a b q e i x h j k = let g : IsThereFor {A = Node} core q None = subst (IsThereFor core q) j h in g (subst (Connects core) (sym i) (only_equivalence core c a b e k).1)

pub iff_connects : (core : Core) (c a b p q : Cons) → c ≡ C.Iff a b → p ≡ a → q ≡ b → (x y : Option Node) (l r : Node) → IsThereFor core p x → x ≡ Some l → IsThereFor core q y → y ≡ Some r → Connects core c
iff_connects core c a b p q e i j x y l r h u w v = Connects.equivalence c p q (e ∙ ap (λ z. C.Iff z b) (sym i) ∙ ap (C.Iff p) (sym j)) (subst (IsThereFor core p) u h) (subst (IsThereFor core q) v w)

-- ---- one after another

more_nodes : (core : Core) (cs : List Fact) (ns : List Node) (c : Fact) (n : Node) → AreNodesOf core cs ns → IsNodeOf core c n → AreNodesOf core (cs ++ c ∷ []) (ns ++ n ∷ [])
more_nodes core [] [] c n a i = (i, tt)
more_nodes core [] (m ∷ ns) c n a i = absurd a
more_nodes core (d ∷ cs) [] c n a i = absurd a
more_nodes core (d ∷ cs) (m ∷ ns) c n a i = (a.0, more_nodes core cs ns c n a.1 i)

map_more : {A B : Type 0} (f : A → B) (xs : List A) (x : A) → map f (xs ++ x ∷ []) ≡ map f xs ++ f x ∷ []
map_more f [] x = refl
map_more f (y ∷ xs) x = ap (λ ys. f y ∷ ys) (map_more f xs x)

take_more : {A : Type 0} (xs : List A) (i : ℕ) (x : A) → i < length xs → x ≡ get_or xs i x → take (i + 1) xs ≡ take i xs ++ x ∷ []
take_more xs i x l e = let m : i + 1 ≡ suc i = omega arith in ap (λ n. take n xs) m ∙ next xs i x l e
  where
    next : {A : Type 0} (xs : List A) (i : ℕ) (x : A) → i < length xs → x ≡ get_or xs i x → take (suc i) xs ≡ take i xs ++ x ∷ []
    next [] i x l e = absurd (omega arith)
    next (y ∷ xs) zero x l e = ap (λ z. z ∷ []) (sym e)
    next (y ∷ xs) (suc i) x l e = ap (λ ys. y ∷ ys) (next xs i x (omega arith) e)

take_all : {A : Type 0} (xs : List A) (n : ℕ) → length xs ≤ n → take n xs ≡ xs
take_all [] zero h = refl
take_all [] (suc n) h = refl
take_all (x ∷ xs) zero h = absurd (omega arith)
take_all (x ∷ xs) (suc n) h = ap (λ ys. x ∷ ys) (take_all xs n (omega arith))

take_none : {A : Type 0} (xs : List A) → [] ≡ take 0 xs
take_none [] = refl
take_none (x ∷ xs) = refl

none_connect : (core : Core) → AllConnect core []
none_connect core i c h = cc

more_connect : (core : Core) (cs : List Cons) (c : Cons) → AllConnect core cs → Connects core c → AllConnect core (cs ++ c ∷ [])
more_connect core [] c a k zero d h = subst (Connects core) (the_one c d h) k
  where
    the_one : (a b : Cons) → Some a ≡ Some b → a ≡ b
    the_one a b h = cc
more_connect core [] c a k (suc i) d h = cc
more_connect core (b ∷ cs) c a k zero d h = a zero d h
more_connect core (b ∷ cs) c a k (suc i) d h = more_connect core cs c (λ j e g. a (suc j) e g) k i d h

-- the first n constraints have their nodes
pub record AreFirstNodes (core : Core) (cs : List Cons) (n : ℕ) (ns : List Node) : Type 0 where
  pub nodes : AreNodesOf core (map (fact core.tables core.resources) (take n cs)) ns
  pub connect : AllConnect core (take n cs)

pub first_nodes : (core : Core) (cs : List Cons) (ns : List Node) → ns ≡ [] → AreFirstNodes core cs 0 ns
first_nodes core cs ns e = record {
  nodes = subst (λ ms. AreNodesOf core (map (fact core.tables core.resources) (take 0 cs)) ms) (sym e) (subst (λ ds. AreNodesOf core (map (fact core.tables core.resources) ds) []) (take_none cs) tt);
  connect = subst (AllConnect core) (take_none cs) (none_connect core);
}

pub next_nodes : (core : Core) (cs : List Cons) (i : ℕ) (c : Cons) (ns ms : List Node) (n m : Node) (x : Option Node) → i < length cs → c ≡ get_or cs i c → AreFirstNodes core cs i ns → IsNodeIfAny core (fact core.tables core.resources c) x → IsThereFor core c x
    → x ≡ Some n → m ≡ n → ms ≡ ns ++ m ∷ [] → AreFirstNodes core cs (i + 1) ms
next_nodes core cs i c ns ms n m x l e a h k g j w =
    let t = take_more cs i c l e in
    let f = fact core.tables core.resources in
    let o = subst (IsNodeOf core (f c)) (sym j) (subst (IsNodeIfAny core (f c)) g h) in
    record {
      nodes = subst (λ ds. AreNodesOf core (map f ds) ms) (sym t) (subst (λ ds. AreNodesOf core ds ms) (sym (map_more f (take i cs) c)) (subst (λ rs. AreNodesOf core (map f (take i cs) ++ f c ∷ []) rs) (sym w) (more_nodes core (map f (take i cs)) ns (f c) m a.nodes o)));
      connect = subst (AllConnect core) (sym t) (more_connect core (take i cs) c a.connect (subst (IsThereFor core c) g k));
    }

slice_at : (cs : List Cons) (i : ℕ) (c : Cons) → i < length cs → c ≡ get_or cs i c → slice_get cs i ≡ Some c
slice_at [] i c l e = absurd (omega arith)
slice_at (d ∷ cs) zero c l e = ap Some (sym e)
slice_at (d ∷ cs) (suc i) c l e = slice_at cs i c (omega arith) e

pub no_nodes : (core : Core) (cs : List Cons) (i : ℕ) (c : Cons) (x : Option Node) → i < length cs → c ≡ get_or cs i c → IsThereFor core c x → x ≡ None → AllConnect core cs → ⊥
no_nodes core cs i c x l e h g a = let k : Connects core c → ⊥ = subst (IsThereFor core c) g h in k (a i c (slice_at cs i c l e))

pub all_nodes : (core : Core) (cs : List Cons) (n : ℕ) (ns : List Node) → length cs ≤ n → AreFirstNodes core cs n ns → AreNodesOf core (map (fact core.tables core.resources) cs) ns × AllConnect core cs
all_nodes core cs n ns h a =
    let t = take_all cs n h in
    (subst (λ ds. AreNodesOf core (map (fact core.tables core.resources) ds) ns) t a.nodes, subst (AllConnect core) t a.connect)

pub sound_at : (core : Core) (cs : List Cons) (i : ℕ) (c : Cons) → i < length cs → c ≡ get_or cs i c → AreSoundFacts core.sets (facts_of (map (fact core.tables core.resources) cs)) → IsSoundFact core.sets (fact core.tables core.resources c)
sound_at core [] i c l e s = absurd (omega arith)
sound_at core (d ∷ cs) zero c l e s = subst (λ z. IsSoundFact core.sets (fact core.tables core.resources z)) (sym e) s.0
sound_at core (d ∷ cs) (suc i) c l e s = sound_at core cs i c (omega arith) e s.1

-- ---- filtering

-- what holds of the tree of the node holds of the constraint
pub tests_read : (core : Core) (c : Fact) (f : ConnectiveFilter) (n : Node) → IsConnectiveFor core c f → n ≡ f.node → is_refuted core false (tree n) ≡ refutes c
tests_read core c f n i e = ap (λ m. is_refuted core false (tree m)) e ∙ fun_ext (λ F. ap (λ r. cond (is_possible r) false true) (sym (i.same F)))
