-- Whether ends decide a node, as it is read form by form.
use Rattle.std.proofs.Common.{◌≡◌, ◌∙◌, ℕ, zero, suc, ◌-◌, ◌<◌, ◌≤◌, Bool, true, false, cond, not, ◌&&◌, refl, List, [], ◌∷◌, length, get_or, map, ap, sym, arith}
use Rattle.opl_reify.specs.declared.part.Part.{Part}
use Rattle.opl_reify.specs.Ends.{part_sees_ends}
use Rattle.opl_connective.specs.declared.node.Node.{Node}
use Rattle.opl_connective.specs.declared.node.Node.TheVariants as N
use Rattle.opl_connective.specs.Trees.{trees_of, tree}
use Rattle.opl_connective.specs.Ends.{tree_sees_ends, trees_see_ends}
use Rattle.opl_connective.proofs.Plain.{tree_Literal, tree_Not, tree_And, tree_Or, tree_Iff}

module _ (n : Node) (o : Bool) where
  pub opposite_sees : (p q : Part) (r : Bool) → n ≡ N.Literal p q → o ≡ true → r ≡ part_sees_ends q → r ≡ tree_sees_ends o (tree n)
  opposite_sees p q r e h k = k ∙ ap (λ b. cond b (part_sees_ends q) (part_sees_ends p)) (sym h) ∙ ap (tree_sees_ends o) (sym (ap tree e ∙ tree_Literal p q))

  pub part_sees : (p q : Part) (r : Bool) → n ≡ N.Literal p q → o ≡ false → r ≡ part_sees_ends p → r ≡ tree_sees_ends o (tree n)
  part_sees p q r e h k = k ∙ ap (λ b. cond b (part_sees_ends q) (part_sees_ends p)) (sym h) ∙ ap (tree_sees_ends o) (sym (ap tree e ∙ tree_Literal p q))

  pub not_sees : (a m : Node) (r : Bool) → n ≡ N.Not a → m ≡ a → r ≡ tree_sees_ends (not o) (tree m) → r ≡ tree_sees_ends o (tree n)
  not_sees a m r e h k = k ∙ ap (λ z. tree_sees_ends (not o) (tree z)) h ∙ ap (tree_sees_ends o) (sym (ap tree e ∙ tree_Not a))

  pub and_sees : (xs : List ℕ) (ns ms : List Node) (r : Bool) → n ≡ N.And xs ns → ms ≡ ns → r ≡ trees_see_ends o (trees_of (map tree ms)) → r ≡ tree_sees_ends o (tree n)
  and_sees xs ns ms r e h k = k ∙ ap (λ zs. trees_see_ends o (trees_of (map tree zs))) h ∙ ap (tree_sees_ends o) (sym (ap tree e ∙ tree_And xs ns))

  pub or_sees : (xs : List ℕ) (ns ms : List Node) (r : Bool) → n ≡ N.Or xs ns → ms ≡ ns → r ≡ trees_see_ends o (trees_of (map tree ms)) → r ≡ tree_sees_ends o (tree n)
  or_sees xs ns ms r e h k = k ∙ ap (λ zs. trees_see_ends o (trees_of (map tree zs))) h ∙ ap (tree_sees_ends o) (sym (ap tree e ∙ tree_Or xs ns))

  module _ (xs : List ℕ) (a b : Node) (e : n ≡ N.Iff xs a b) where
    -- whether ends decide both signs of both sides
    abbrev seen : Bool → Node → Bool
    seen i m = tree_sees_ends i (tree m)

    iff_sees : tree_sees_ends o (tree n) ≡ (tree_sees_ends false (tree a) && (tree_sees_ends true (tree a) && (tree_sees_ends false (tree b) && tree_sees_ends true (tree b))))
    iff_sees = ap (tree_sees_ends o) (ap tree e ∙ tree_Iff xs a b)

    as_read : (i : Bool) (l m : Node) (p c : Bool) → l ≡ m → p ≡ tree_sees_ends i (tree l) → p ≡ c → tree_sees_ends i (tree m) ≡ c
    as_read i l m p c h k f = sym (k ∙ ap (λ z. tree_sees_ends i (tree z)) h) ∙ f

    first_no : (p q r s : Bool) → p ≡ false → (p && (q && (r && s))) ≡ false
    first_no true q r s h = cc
    first_no false q r s h = refl

    second_no : (p q r s : Bool) → q ≡ false → (p && (q && (r && s))) ≡ false
    second_no true true r s h = cc
    second_no true false r s h = refl
    second_no false q r s h = refl

    third_no : (p q r s : Bool) → r ≡ false → (p && (q && (r && s))) ≡ false
    third_no true true true s h = cc
    third_no true true false s h = refl
    third_no true false r s h = refl
    third_no false q r s h = refl

    all_but_last : (p q r s : Bool) → p ≡ true → q ≡ true → r ≡ true → (p && (q && (r && s))) ≡ s
    all_but_last true true true s f g h = refl
    all_but_last true true false s f g h = cc
    all_but_last true false r s f g h = cc
    all_but_last false q r s f g h = cc

    pub first_unseen : (l : Node) (p : Bool) → l ≡ a → p ≡ tree_sees_ends false (tree l) → p ≡ false → false ≡ tree_sees_ends o (tree n)
    first_unseen l p h k f = sym (iff_sees ∙ first_no (seen false a) (seen true a) (seen false b) (seen true b) (as_read false l a p false h k f))

    pub second_unseen : (l : Node) (p : Bool) → l ≡ a → p ≡ tree_sees_ends true (tree l) → p ≡ false → false ≡ tree_sees_ends o (tree n)
    second_unseen l p h k f = sym (iff_sees ∙ second_no (seen false a) (seen true a) (seen false b) (seen true b) (as_read true l a p false h k f))

    pub third_unseen : (l : Node) (p : Bool) → l ≡ b → p ≡ tree_sees_ends false (tree l) → p ≡ false → false ≡ tree_sees_ends o (tree n)
    third_unseen l p h k f = sym (iff_sees ∙ third_no (seen false a) (seen true a) (seen false b) (seen true b) (as_read false l b p false h k f))

    pub last_seen : (l m t u : Node) (p q r s : Bool) → l ≡ a → p ≡ tree_sees_ends false (tree l) → p ≡ true → m ≡ a → q ≡ tree_sees_ends true (tree m) → q ≡ true → t ≡ b → r ≡ tree_sees_ends false (tree t) → r ≡ true
        → u ≡ b → s ≡ tree_sees_ends true (tree u) → s ≡ tree_sees_ends o (tree n)
    last_seen l m t u p q r s h1 k1 f1 h2 k2 f2 h3 k3 f3 h4 k4 =
        k4 ∙ ap (λ z. tree_sees_ends true (tree z)) h4 ∙ sym (iff_sees ∙ all_but_last (seen false a) (seen true a) (seen false b) (seen true b) (as_read false l a p true h1 k1 f1) (as_read true m a q true h2 k2 f2) (as_read false t b r true h3 k3 f3))

pub one_unseen : (o : Bool) (ns : List Node) (k : ℕ) (n : Node) (r : Bool) → 0 < k → k ≤ length ns → n ≡ get_or ns (k - 1) n → r ≡ tree_sees_ends o (tree n) → r ≡ false → false ≡ trees_see_ends o (trees_of (map tree ns))
one_unseen o ns k n r p l e h f = sym (at ns (k - 1) (omega (arith, p, l)) e)
  where
    and_false : (b : Bool) → (b && false) ≡ false
    and_false true = refl
    and_false false = refl

    at : (ns : List Node) (i : ℕ) → i < length ns → n ≡ get_or ns i n → trees_see_ends o (trees_of (map tree ns)) ≡ false
    at [] i l e = absurd (omega arith)
    at (m ∷ ns) zero l e = ap (λ b. b && trees_see_ends o (trees_of (map tree ns))) (ap (λ z. tree_sees_ends o (tree z)) (sym e) ∙ sym h ∙ f)
    at (m ∷ ns) (suc i) l e = ap (λ b. tree_sees_ends o (tree m) && b) (at ns i (omega arith) e) ∙ and_false (tree_sees_ends o (tree m))
