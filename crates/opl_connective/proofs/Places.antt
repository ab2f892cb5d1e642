-- Trees by their places, and their variables.
use Rattle.std.proofs.Common.{◌≡◌, ◌∙◌, ◌≢◌, ℕ, zero, suc, Bool, true, false, cond, ◌&&◌, ◌||◌, refl, List, [], ◌∷◌, ℤ, ap, sym, subst, arith, inl, inr}
use Rattle.std.specs.Prelude.{slice_get, Some}
use Rattle.std.proofs.lemmas.Bool.{or_cases}
use Rattle.opl_domain.specs.Family.{Family, Below, Full, only}
use Rattle.opl_expr.specs.declared.model.Core.{Core}
use Rattle.opl_expr.specs.Forms.{Fact}
use Rattle.opl_expr.specs.Options.{lift1}
use Rattle.opl_expr.specs.Range.{flip, is_possible, fact_range}
use Rattle.opl_expr.specs.Solutions.{declared}
use Rattle.opl_expr.specs.Sound.{IsSoundFact}
use Rattle.opl_trace.specs.Stable.{IsMonotone}
use Rattle.opl_trace.proofs.Families.{below_self}
use Rattle.opl_filter.specs.Mentions.{AreVariables, lists}
use Rattle.opl_filter.specs.Rounds.{AreThere}
use Rattle.opl_filter.proofs.Mentioned.{variables_there}
use Rattle.opl_filter.proofs.Refuting.{refutes_falls}
use Rattle.opl_filter.proofs.Unmentioned.{others_dont_matter, differ_only}
use Rattle.opl_linear_filter.proofs.Weights.{below_length}
use Rattle.opl_reify.specs.Parts.{signed, fact_in}
use Rattle.opl_reify.proofs.Parts.{the_one}
use Rattle.opl_connective.specs.Trees.{Tree, trees_of, holds, names, is_refuted, some_refuted, all_refuted}
use Rattle.opl_connective.specs.Nodes.{AreNamed, IsTree, AreTrees, TellsAt}

-- ---- by places

pub tree_at : (core : Core) (ts : List Tree) (i : ℕ) (t : Tree) → AreTrees core (trees_of ts) → slice_get ts i ≡ Some t → IsTree core t
tree_at core [] i t a h = cc
tree_at core (s ∷ ts) zero t a h = subst (IsTree core) (the_one s t h) a.0
tree_at core (s ∷ ts) (suc i) t a h = tree_at core ts i t a.1 h

and_false : (b : Bool) → (b && false) ≡ false
and_false true = refl
and_false false = refl

and_true : (b : Bool) → (b && true) ≡ b
and_true true = refl
and_true false = refl

or_true : (b : Bool) → (b || true) ≡ true
or_true true = refl
or_true false = refl

module _ (core : Core) (F : Family) (o : Bool) where
  pub each_refuted : (ts : List Tree) → ((i : ℕ) → TellsAt core F o ts true i) → all_refuted core o ts F ≡ true
  each_refuted [] h = refl
  each_refuted (t ∷ ts) h = rw (h zero t refl) (each_refuted ts (λ i. h (suc i)))

  pub one_open : (ts : List Tree) (i : ℕ) (t : Tree) → slice_get ts i ≡ Some t → is_refuted core o t F ≡ false → all_refuted core o ts F ≡ false
  one_open [] i t h e = cc
  one_open (s ∷ ts) zero t h e = ap (λ z. is_refuted core o z F && all_refuted core o ts F) (the_one s t h) ∙ ap (λ b. b && all_refuted core o ts F) e
  one_open (s ∷ ts) (suc i) t h e = ap (λ b. is_refuted core o s F && b) (one_open ts i t h e) ∙ and_false (is_refuted core o s F)

  pub one_left : (ts : List Tree) (i : ℕ) (t : Tree) → slice_get ts i ≡ Some t → ((j : ℕ) → j ≢ i → TellsAt core F o ts true j) → all_refuted core o ts F ≡ is_refuted core o t F
  one_left [] i t h e = cc
  one_left (s ∷ ts) zero t h e =
      ap (λ z. is_refuted core o z F && all_refuted core o ts F) (the_one s t h) ∙ ap (λ b. is_refuted core o t F && b) (each_refuted ts (λ j. e (suc j) (λ k. omega (arith, k)))) ∙ and_true (is_refuted core o t F)
  one_left (s ∷ ts) (suc i) t h e = ap (λ b. b && all_refuted core o ts F) (e zero (λ k. omega (arith, k)) s refl) ∙ one_left ts i t h (λ j n. e (suc j) (λ k. n (omega (arith, k))))

  pub one_refuted : (ts : List Tree) (i : ℕ) (t : Tree) → slice_get ts i ≡ Some t → is_refuted core o t F ≡ true → some_refuted core o ts F ≡ true
  one_refuted [] i t h e = cc
  one_refuted (s ∷ ts) zero t h e = ap (λ z. is_refuted core o z F || some_refuted core o ts F) (the_one s t h) ∙ ap (λ b. b || some_refuted core o ts F) e
  one_refuted (s ∷ ts) (suc i) t h e = ap (λ b. is_refuted core o s F || b) (one_refuted ts i t h e) ∙ or_true (is_refuted core o s F)

  pub none_refuted : (ts : List Tree) → ((i : ℕ) → TellsAt core F o ts false i) → some_refuted core o ts F ≡ false
  none_refuted [] h = refl
  none_refuted (t ∷ ts) h = rw (h zero t refl) (none_refuted ts (λ i. h (suc i)))

-- ---- narrower families refute more

both : (a b : Bool) → (a && b) ≡ true → (a ≡ true) × (b ≡ true)
both true b h = (refl, h)
both false b h = cc

pub all_falls : (core : Core) (o : Bool) (ts : List Tree) → IsMonotone (all_refuted core o ts)
all_falls core o ts = record { falls = falls ts }
  where
    falls : (ts : List Tree) (F G : Family) → Full F → Below F G → all_refuted core o ts G ≡ true → all_refuted core o ts F ≡ true
    falls [] F G f b h = refl
    falls (t ∷ ts) F G f b h =
        let p = both (is_refuted core o t G) (all_refuted core o ts G) h in
        rw ((refutes_falls (signed o (holds core t))).falls F G f b p.0) (falls ts F G f b p.1)

pub some_falls : (core : Core) (o : Bool) (ts : List Tree) → IsMonotone (some_refuted core o ts)
some_falls core o ts = record { falls = falls ts }
  where
    falls : (ts : List Tree) (F G : Family) → Full F → Below F G → some_refuted core o ts G ≡ true → some_refuted core o ts F ≡ true
    falls [] F G f b h = cc
    falls (t ∷ ts) F G f b h = elim (or_cases (is_refuted core o t G) (some_refuted core o ts G) h) [
      | inl e ↦ ap (λ c. c || some_refuted core o ts F) ((refutes_falls (signed o (holds core t))).falls F G f b e)
      | inr e ↦ ap (λ c. is_refuted core o t F || c) (falls ts F G f b e) ∙ or_true (is_refuted core o t F)
    ]

pub tells_below : (core : Core) (F G : Family) (o : Bool) (ts : List Tree) (i : ℕ) → Full F → Below F G → TellsAt core G o ts true i → TellsAt core F o ts true i
tells_below core F G o ts i f b h t e = (refutes_falls (signed o (holds core t))).falls F G f b (h t e)

-- ---- the variables of a tree

pub named_of : (core : Core) (c : Fact) (xs : List ℕ) → IsSoundFact core.sets c → AreVariables xs c → AreNamed core xs c
named_of core c xs s a = record {
  there = λ x h. omega (arith, variables_there core c xs (declared core) s (below_self (declared core)) a x h, below_length core (declared core) (below_self (declared core)));
  others = λ F x v f h. others_dont_matter c (only F x v) F x (differ_only F x v f) (sym (a x) ∙ h);
}

pub named_as : (core : Core) (c d : Fact) (xs : List ℕ) → ((F : Family) → fact_range F c ≡ fact_range F d) → AreNamed core xs c → AreNamed core xs d
named_as core c d xs e n = record { there = n.there; others = λ F x v f h. sym (e (only F x v)) ∙ n.others F x v f h ∙ e F }

not_named : (core : Core) (c : Fact) (xs : List ℕ) → AreNamed core xs c → AreNamed core xs (Fact.not c)
not_named core c xs n = record { there = n.there; others = λ F x v f h. ap (lift1 flip) (n.others F x v f h) }

tree_named : (core : Core) (t : Tree) → IsTree core t → AreNamed core (names t) (holds core t)
tree_named core (Tree.literal p q) i = named_of core (fact_in core p) p.variables i.0.sound i.0.named
tree_named core (Tree.not t) i = not_named core (holds core t) (names t) (tree_named core t i)
tree_named core (Tree.and xs ts) i = i.0
tree_named core (Tree.or xs ts) i = i.0
tree_named core (Tree.iff xs s t) i = i.0

pub names_there : (core : Core) (t : Tree) (F : Family) → IsTree core t → Below F (declared core) → AreThere (names t) F
names_there core t F i b x h = omega (arith, (tree_named core t i).there x h, below_length core F b)

-- a tree says the same whatever value a variable has that it doesn't name
pub unnamed_same : (core : Core) (o : Bool) (t : Tree) (F : Family) (x : ℕ) (v : ℤ) → IsTree core t → Full F → lists (names t) x ≡ false → is_refuted core o t (only F x v) ≡ is_refuted core o t F
unnamed_same core true t F x v i f h = ap (λ r. cond (is_possible (lift1 flip r)) false true) ((tree_named core t i).others F x v f h)
unnamed_same core false t F x v i f h = ap (λ r. cond (is_possible r) false true) ((tree_named core t i).others F x v f h)
