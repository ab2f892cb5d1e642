-- What a family refutes of trees, where none of its sets is empty.
use Rattle.std.proofs.Common.{◌≡◌, ◌∙◌, Bool, true, false, ◌&&◌, ◌||◌, cond, not, refl, List, [], ◌∷◌, length, ap, sym}
use Rattle.std.specs.Prelude.{Some}
use Rattle.opl_domain.specs.Span.{Span, point}
use Rattle.opl_domain.specs.Family.{Family, Full}
use Rattle.opl_expr.specs.declared.model.Core.{Core}
use Rattle.opl_expr.specs.declared.forms.Op.{Op}
use Rattle.opl_expr.specs.declared.forms.Op.TheVariants.{Eq, Ne, Lt, Le, Gt, Ge}
use Rattle.opl_expr.specs.Forms.{Term, Fact, compared}
use Rattle.opl_expr.specs.Forms.Relation.{equal, at_most, below}
use Rattle.opl_expr.specs.Options.{lift1}
use Rattle.opl_expr.specs.Range.{flip, compare, pure, fact_range}
use Rattle.opl_filter.specs.Filtering.{refutes}
use Rattle.opl_linear.proofs.Normal.{difference, difference_fixed, normal_range}
use Rattle.opl_reify.specs.declared.part.Part.{Part}
use Rattle.opl_reify.specs.Parts.{fact_in, IsPart}
use Rattle.opl_connective.specs.Trees.{Tree, Trees, trees_of, holds, all_hold, is_refuted, some_refuted, all_refuted, iff_refuted}
use Rattle.opl_connective.specs.Trees.Trees.{no_trees, more_trees}
use Rattle.opl_connective.specs.Nodes.{IsTree, AreTrees}
use Rattle.opl_connective.proofs.Truths.{Truth, truth_of, never_is, surely_is, not_truth, true_truth, false_truth, and_truth, or_truth, iff_truth}

-- ---- a tree is never undefined

compared_range : (F : Family) (op : Op) (a b : Term) → pure a ≡ true → pure b ≡ true → (r : Span) × (fact_range F (compared op a b) ≡ Some r)
compared_range F Eq a b p q = (compare equal F (difference a b) (length F) true (point (difference_fixed a b)), normal_range F equal a b p q)
compared_range F Ne a b p q = (flip (compare equal F (difference a b) (length F) true (point (difference_fixed a b))), ap (lift1 flip) (normal_range F equal a b p q))
compared_range F Lt a b p q = (compare below F (difference a b) (length F) true (point (difference_fixed a b)), normal_range F below a b p q)
compared_range F Le a b p q = (compare at_most F (difference a b) (length F) true (point (difference_fixed a b)), normal_range F at_most a b p q)
compared_range F Gt a b p q = (compare below F (difference b a) (length F) true (point (difference_fixed b a)), normal_range F below b a q p)
compared_range F Ge a b p q = (compare at_most F (difference b a) (length F) true (point (difference_fixed b a)), normal_range F at_most b a q p)

two : (f : Bool → Bool → Bool) (a b c d : Bool) → a ≡ c → b ≡ d → f a b ≡ f c d
two f a b c d p q = rw (p, q) refl

module _ (core : Core) (F : Family) (full : Full F) where
  part_truth : (p : Part) → IsPart core p → Truth F (fact_in core p)
  part_truth p i =
      let f = i.filter in
      let r = compared_range F f.op f.left f.right f.comparison.first f.comparison.second in
      truth_of F (fact_in core p) r.0 full (ap (fact_range F) f.is ∙ r.1)

  mutual
    pub tree_truth : (t : Tree) → IsTree core t → Truth F (holds core t)
    tree_truth (Tree.literal p q) i = part_truth p i.0
    tree_truth (Tree.not t) i = let w = tree_truth t i in record { surely = w.never; never = w.surely; has = not_truth F (holds core t) w.surely w.never w.has }
    tree_truth (Tree.and xs ts) i = all_truth ts i.1
    tree_truth (Tree.or xs ts) i = some_truth ts i.1
    tree_truth (Tree.iff xs s t) i =
        let w = tree_truth s i.1 in
        let u = tree_truth t i.2 in
        record {
          surely = (w.surely && u.surely) || (w.never && u.never);
          never = (w.surely && u.never) || (w.never && u.surely);
          has = iff_truth F (holds core s) (holds core t) w.surely w.never u.surely u.never w.has u.has;
        }

    all_truth : (ts : Trees) → AreTrees core ts → Truth F (Fact.and (all_hold core ts))
    all_truth no_trees i = record { surely = true; never = false; has = true_truth F }
    all_truth (more_trees t ts) i =
        let w = tree_truth t i.0 in
        let u = all_truth ts i.1 in
        record { surely = w.surely && u.surely; never = w.never || u.never; has = and_truth F (holds core t) (all_hold core ts) w.surely w.never u.surely u.never w.has u.has }

    some_truth : (ts : Trees) → AreTrees core ts → Truth F (Fact.or (all_hold core ts))
    some_truth no_trees i = record { surely = false; never = true; has = false_truth F }
    some_truth (more_trees t ts) i =
        let w = tree_truth t i.0 in
        let u = some_truth ts i.1 in
        record { surely = w.surely || u.surely; never = w.never && u.never; has = or_truth F (holds core t) (all_hold core ts) w.surely w.never u.surely u.never w.has u.has }

  -- ---- trees one after another

  never : (c : Fact) (t : Truth F c) → refutes c F ≡ t.never
  never c t = never_is F c t.surely t.never t.has

  surely : (c : Fact) (t : Truth F c) → refutes (Fact.not c) F ≡ t.surely
  surely c t = surely_is F c t.surely t.never t.has

  pub and_refuted : (ts : List Tree) → AreTrees core (trees_of ts) → refutes (Fact.and (all_hold core (trees_of ts))) F ≡ some_refuted core false ts F
  unfolding all_truth
  and_refuted [] a = refl
  and_refuted (t ∷ ts) a =
      let w = tree_truth t a.0 in
      let u = all_truth (trees_of ts) a.1 in
      never (Fact.and (all_hold core (trees_of (t ∷ ts)))) (all_truth (trees_of (t ∷ ts)) a)
      ∙ two (λ x y. x || y) w.never u.never (is_refuted core false t F) (some_refuted core false ts F) (sym (never (holds core t) w)) (sym (never (Fact.and (all_hold core (trees_of ts))) u) ∙ and_refuted ts a.1)

  pub and_certain : (ts : List Tree) → AreTrees core (trees_of ts) → refutes (Fact.not (Fact.and (all_hold core (trees_of ts)))) F ≡ all_refuted core true ts F
  unfolding all_truth
  and_certain [] a = surely (Fact.and (all_hold core no_trees)) (all_truth no_trees a)
  and_certain (t ∷ ts) a =
      let w = tree_truth t a.0 in
      let u = all_truth (trees_of ts) a.1 in
      surely (Fact.and (all_hold core (trees_of (t ∷ ts)))) (all_truth (trees_of (t ∷ ts)) a)
      ∙ two (λ x y. x && y) w.surely u.surely (is_refuted core true t F) (all_refuted core true ts F) (sym (surely (holds core t) w)) (sym (surely (Fact.and (all_hold core (trees_of ts))) u) ∙ and_certain ts a.1)

  pub or_refuted : (ts : List Tree) → AreTrees core (trees_of ts) → refutes (Fact.or (all_hold core (trees_of ts))) F ≡ all_refuted core false ts F
  unfolding some_truth
  or_refuted [] a = refl
  or_refuted (t ∷ ts) a =
      let w = tree_truth t a.0 in
      let u = some_truth (trees_of ts) a.1 in
      never (Fact.or (all_hold core (trees_of (t ∷ ts)))) (some_truth (trees_of (t ∷ ts)) a)
      ∙ two (λ x y. x && y) w.never u.never (is_refuted core false t F) (all_refuted core false ts F) (sym (never (holds core t) w)) (sym (never (Fact.or (all_hold core (trees_of ts))) u) ∙ or_refuted ts a.1)

  pub or_certain : (ts : List Tree) → AreTrees core (trees_of ts) → refutes (Fact.not (Fact.or (all_hold core (trees_of ts)))) F ≡ some_refuted core true ts F
  unfolding some_truth
  or_certain [] a = surely (Fact.or (all_hold core no_trees)) (some_truth no_trees a)
  or_certain (t ∷ ts) a =
      let w = tree_truth t a.0 in
      let u = some_truth (trees_of ts) a.1 in
      surely (Fact.or (all_hold core (trees_of (t ∷ ts)))) (some_truth (trees_of (t ∷ ts)) a)
      ∙ two (λ x y. x || y) w.surely u.surely (is_refuted core true t F) (some_refuted core true ts F) (sym (surely (holds core t) w)) (sym (surely (Fact.or (all_hold core (trees_of ts))) u) ∙ or_certain ts a.1)

  -- ---- two trees that are to be alike

  -- of one that is decided it is known which side of the other matters
  iff_by : (o : Bool) (s t : Tree) (w : Truth F (holds core s)) (u : Truth F (holds core t)) → iff_refuted core o s t F ≡ ((w.surely && cond o u.surely u.never) || (w.never && cond o u.never u.surely))
  iff_by false s t w u = never_is F (Fact.iff (holds core s) (holds core t)) _ _ (iff_truth F (holds core s) (holds core t) w.surely w.never u.surely u.never w.has u.has)
  iff_by true s t w u = surely_is F (Fact.iff (holds core s) (holds core t)) _ _ (iff_truth F (holds core s) (holds core t) w.surely w.never u.surely u.never w.has u.has)

  told_by : (o : Bool) (t : Tree) (u : Truth F (holds core t)) → is_refuted core o t F ≡ cond o u.surely u.never
  told_by true t u = surely (holds core t) u
  told_by false t u = never (holds core t) u

  opposite_by : (o : Bool) (t : Tree) (u : Truth F (holds core t)) → is_refuted core (not o) t F ≡ cond o u.never u.surely
  opposite_by true t u = never (holds core t) u
  opposite_by false t u = surely (holds core t) u

  -- the first side surely holds
  first_sure : (s n x y : Bool) → (s && n) ≡ false → s ≡ true → ((s && x) || (n && y)) ≡ x
  first_sure true true x y p e = cc
  first_sure true false true y p e = refl
  first_sure true false false y p e = refl
  first_sure false n x y p e = cc

  first_never : (s n x y : Bool) → (s && n) ≡ false → n ≡ true → ((s && x) || (n && y)) ≡ y
  first_never true true x y p e = cc
  first_never true false x y p e = cc
  first_never false true x y p e = refl
  first_never false false x y p e = cc

  first_open : (s n x y : Bool) → s ≡ false → n ≡ false → ((s && x) || (n && y)) ≡ false
  first_open true n x y e h = cc
  first_open false true x y e h = cc
  first_open false false x y e h = refl

  second_sure : (o s n u m : Bool) → (u && m) ≡ false → u ≡ true → ((s && cond o u m) || (n && cond o m u)) ≡ cond o s n
  second_sure o s n true true p e = cc
  second_sure true true n true false p e = refl
  second_sure true false true true false p e = refl
  second_sure true false false true false p e = refl
  second_sure false true true true false p e = refl
  second_sure false true false true false p e = refl
  second_sure false false true true false p e = refl
  second_sure false false false true false p e = refl
  second_sure o s n false m p e = cc

  second_never : (o s n u m : Bool) → (u && m) ≡ false → m ≡ true → ((s && cond o u m) || (n && cond o m u)) ≡ cond o n s
  second_never o s n true true p e = cc
  second_never o s n true false p e = cc
  second_never true true true false true p e = refl
  second_never true true false false true p e = refl
  second_never true false true false true p e = refl
  second_never true false false false true p e = refl
  second_never false true n false true p e = refl
  second_never false false true false true p e = refl
  second_never false false false false true p e = refl
  second_never o s n false false p e = cc

  second_open : (o s n u m : Bool) → u ≡ false → m ≡ false → ((s && cond o u m) || (n && cond o m u)) ≡ false
  second_open o s n true m e h = cc
  second_open o s n false true e h = cc
  second_open true true true false false e h = refl
  second_open true true false false false e h = refl
  second_open true false true false false e h = refl
  second_open true false false false false e h = refl
  second_open false true true false false e h = refl
  second_open false true false false false e h = refl
  second_open false false true false false e h = refl
  second_open false false false false false e h = refl

  module _ (o : Bool) (s t : Tree) (i : IsTree core s) (j : IsTree core t) where
    pub iff_told : iff_refuted core o s t F ≡ ((is_refuted core true s F && is_refuted core o t F) || (is_refuted core false s F && is_refuted core (not o) t F))
    iff_told =
        let w = tree_truth s i in
        let u = tree_truth t j in
        iff_by o s t w u
        ∙ two (λ x y. x || y) (w.surely && cond o u.surely u.never) (w.never && cond o u.never u.surely) (is_refuted core true s F && is_refuted core o t F) (is_refuted core false s F && is_refuted core (not o) t F)
        (two (λ x y. x && y) w.surely (cond o u.surely u.never) (is_refuted core true s F) (is_refuted core o t F) (sym (surely (holds core s) w)) (sym (told_by o t u)))
        (two (λ x y. x && y) w.never (cond o u.never u.surely) (is_refuted core false s F) (is_refuted core (not o) t F) (sym (never (holds core s) w)) (sym (opposite_by o t u)))

    pub iff_first_sure : is_refuted core true s F ≡ true → iff_refuted core o s t F ≡ is_refuted core o t F
    iff_first_sure h =
        let w = tree_truth s i in
        let u = tree_truth t j in
        iff_by o s t w u ∙ first_sure w.surely w.never (cond o u.surely u.never) (cond o u.never u.surely) w.has.apart (sym (surely (holds core s) w) ∙ h) ∙ sym (told_by o t u)

    pub iff_first_never : is_refuted core false s F ≡ true → iff_refuted core o s t F ≡ is_refuted core (not o) t F
    iff_first_never h =
        let w = tree_truth s i in
        let u = tree_truth t j in
        iff_by o s t w u ∙ first_never w.surely w.never (cond o u.surely u.never) (cond o u.never u.surely) w.has.apart (sym (never (holds core s) w) ∙ h) ∙ sym (opposite_by o t u)

    pub iff_first_open : is_refuted core true s F ≡ false → is_refuted core false s F ≡ false → iff_refuted core o s t F ≡ false
    iff_first_open h k =
        let w = tree_truth s i in
        let u = tree_truth t j in
        iff_by o s t w u ∙ first_open w.surely w.never (cond o u.surely u.never) (cond o u.never u.surely) (sym (surely (holds core s) w) ∙ h) (sym (never (holds core s) w) ∙ k)

    pub iff_second_sure : is_refuted core true t F ≡ true → iff_refuted core o s t F ≡ is_refuted core o s F
    iff_second_sure h =
        let w = tree_truth s i in
        let u = tree_truth t j in
        iff_by o s t w u ∙ second_sure o w.surely w.never u.surely u.never u.has.apart (sym (surely (holds core t) u) ∙ h) ∙ sym (told_by o s w)

    pub iff_second_never : is_refuted core false t F ≡ true → iff_refuted core o s t F ≡ is_refuted core (not o) s F
    iff_second_never h =
        let w = tree_truth s i in
        let u = tree_truth t j in
        iff_by o s t w u ∙ second_never o w.surely w.never u.surely u.never u.has.apart (sym (never (holds core t) u) ∙ h) ∙ sym (opposite_by o s w)

    pub iff_second_open : is_refuted core true t F ≡ false → is_refuted core false t F ≡ false → iff_refuted core o s t F ≡ false
    iff_second_open h k =
        let w = tree_truth s i in
        let u = tree_truth t j in
        iff_by o s t w u ∙ second_open o w.surely w.never u.surely u.never (sym (surely (holds core t) u) ∙ h) (sym (never (holds core t) u) ∙ k)
