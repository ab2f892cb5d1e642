-- Expressions that are just a post.
use Rattle.std.proofs.Common.{◌≡◌, ℕ, List, [], ◌∷◌, ◌++◌, map, Option, Some, None, refl, sym, ap, ◌∙◌, subst, append-nil}
use Rattle.std.specs.Option.{option_map}
use Rattle.opl_token.specs.declared.sign.Sign.TheVariants as signs
use Rattle.opl_tree.specs.declared.expression.ExprTree.{ExprTree}
use Rattle.opl_tree.specs.declared.expression.ImpTree.{ImpTree}
use Rattle.opl_tree.specs.declared.expression.OrTree.{OrTree}
use Rattle.opl_tree.specs.declared.expression.AndTree.{AndTree}
use Rattle.opl_tree.specs.declared.expression.NegTree.{NegTree}
use Rattle.opl_tree.specs.declared.expression.CompareTree.{CompareTree}
use Rattle.opl_tree.specs.declared.expression.AddTree.{AddTree}
use Rattle.opl_tree.specs.declared.expression.AddStep.{AddStep}
use Rattle.opl_tree.specs.declared.expression.MulTree.{MulTree}
use Rattle.opl_tree.specs.declared.expression.MulStep.{MulStep}
use Rattle.opl_tree.specs.declared.expression.LastStep.{LastStep}
use Rattle.opl_tree.specs.declared.expression.SignTree.{SignTree}
use Rattle.opl_tree.specs.declared.expression.PostTree.{PostTree}
use Rattle.opl_tree.specs.declared.expression.CompareTree.TheVariants as compares
use Rattle.opl_tree.specs.declared.expression.MulTree.TheVariants as muls
use Rattle.opl_tree.specs.declared.expression.NegTree.TheVariants as negs
use Rattle.opl_tree.specs.declared.expression.SignTree.TheVariants as factors
use Rattle.opl_tree.specs.declared.expression.CompareTree.TheViews.{out-AddTree, roll-AddTree, out-roll-AddTree, out-AndTree, roll-AndTree, out-roll-AndTree, out-ExprTree, roll-ExprTree, out-roll-ExprTree, out-ImpTree, roll-ImpTree, out-roll-ImpTree, out-OrTree, roll-OrTree, out-roll-OrTree, out-CompareTree, roll-CompareTree, roll-out-CompareTree, out-roll-CompareTree, out-MulTree, roll-MulTree, roll-out-MulTree, out-roll-MulTree, out-NegTree, roll-NegTree, roll-out-NegTree, out-roll-NegTree, out-SignTree, roll-SignTree, roll-out-SignTree}
use Rattle.opl_tree.specs.declared.expression.CompareTree.TheOpen.{CompareTree-F, MulTree-F, NegTree-F, SignTree-F}
use Rattle.opl_tree.specs.Marks.{Mark, joined, marks_expr, marks_imp, marks_or, marks_and, marks_neg, marks_compare, marks_add, marks_add_step, marks_mul, marks_sign, marks_post}
use Rattle.opl_tree.specs.Marks as mk
use Rattle.opl_tree.proofs.Marks.{marks_compare-Single, marks_mul-Product, marks_neg-Compare, marks_sign-Postfix, marks_add-of, marks_add-is, marks_and-of, marks_and-is, marks_expr-of, marks_expr-is, marks_imp-of, marks_imp-is, marks_or-of, marks_or-is}
use Rattle.opl_grammar.specs.Input.{place as place_at}
use Rattle.opl_grammar.specs.Just.{alone, without, OneCompare, OneMul, OneNeg, OneSign, post_at_sign, post_of_sign, post_at_mul, post_of_mul, post_of_add, post_at_compare, post_of_compare, post_at_neg, post_of_neg, post_of_and, post_of_or, post_of_imp, post_of}
use Rattle.opl_reader_laws.proofs.Looked.{Narrows}
use Rattle.opl_parse.proofs.Shapes.{expr_shape}
use Rattle.opl_parse.proofs.Sums.{post_of_postfix}
use Rattle.opl_reader_laws.proofs.Places.{places, Within, within_place}
use Rattle.opl_reader_laws.proofs.Takes.{Takes}
use Rattle.opl_tree.specs.Marks.{Mark}
use Rattle.opl_grammar.specs.Just.{OneSign, OneMul, OneCompare, OneNeg}

none_some : {A : Type 0} {a : A} → ◌≡◌ {A = Option A} None (Some a) → ⊥
none_some h = cc

some_same : {A : Type 0} {a b : A} → ◌≡◌ {A = Option A} (Some a) (Some b) → a ≡ b
some_same h = cc

-- ---- factors and products

sign_narrow : (t : SignTree) (p : PostTree) → post_of_sign t ≡ Some p → Within (marks_sign t) (marks_post p)
unfolding post_of_sign
sign_narrow t p = subst (λ x. post_at_sign (out-SignTree t) ≡ Some p → Within (marks_sign x) (marks_post p)) (roll-out-SignTree t) (by_layer (out-SignTree t)) where
  by_layer : (x : OneSign) → post_at_sign x ≡ Some p → Within (marks_sign (roll-SignTree x)) (marks_post p)
  by_layer (SignTree-F.Postfix u) h =
      let e = some_same h in
      subst (λ x. Within (marks_sign x) (marks_post p)) (sym (factors.rolls-Postfix u)) (record { at = []; is = marks_sign-Postfix u ∙ ap marks_post e })
  by_layer (SignTree-F.Negative at u) h = absurd (none_some h)

pub mul_narrow : (t : MulTree) (p : PostTree) → post_of_mul t ≡ Some p → Within (marks_mul t) (marks_post p)
unfolding post_of_mul
mul_narrow t p = subst (λ x. post_at_mul (out-MulTree t) ≡ Some p → Within (marks_mul x) (marks_post p)) (roll-out-MulTree t) (by_layer (out-MulTree t)) where
  by_product : (at : ℕ) (u : SignTree) (xs : List MulStep) (l : Option LastStep) → alone xs (without l (post_of_sign u)) ≡ Some p → Within (marks_mul (muls.Product at u xs l)) (marks_post p)
  by_product at u [] None h =
      let c = sign_narrow u p h in
      let ms : marks_mul (muls.Product at u [] None) ≡ mk.place at ∷ marks_sign u = marks_mul-Product at u [] None ∙ ap (λ ms. mk.place at ∷ ms) (append-nil (marks_sign u)) in
      subst (λ ms. Within ms (marks_post p)) (sym ms) (within_place at c)
  by_product at u [] (Some x) h = absurd (none_some h)
  by_product at u (x ∷ xs) l h = absurd (none_some h)

  by_layer : (x : OneMul) → post_at_mul x ≡ Some p → Within (marks_mul (roll-MulTree x)) (marks_post p)
  by_layer (MulTree-F.Product at u xs l) h = subst (λ x. Within (marks_mul x) (marks_post p)) (sym (muls.rolls-Product at u xs l)) (by_product at u xs l h)
  by_layer (MulTree-F.Opened u) h = absurd (none_some h)

abbrev pub wide_mul : ℕ → PostTree → MulTree
wide_mul at p = muls.Product at (factors.Postfix p) [] None

pub mul_back : (at : ℕ) (p : PostTree) → post_of_mul (wide_mul at p) ≡ Some p
unfolding post_of_mul
mul_back at p = ap post_of_mul (sym (muls.rolls-Product at (factors.Postfix p) [] None)) ∙ (ap post_at_mul (out-roll-MulTree (MulTree-F.Product at (factors.Postfix p) [] None)) ∙ post_of_postfix p)

pub wide_mul_is : (at : ℕ) (p : PostTree) → marks_mul (wide_mul at p) ≡ mk.place at ∷ marks_post p
wide_mul_is at p = marks_mul-Product at (factors.Postfix p) [] None ∙ ap (λ ms. mk.place at ∷ ms) (append-nil (marks_sign (factors.Postfix p)) ∙ marks_sign-Postfix p)

-- ---- sums, comparisons and what joins them

pub add_narrow : (t : AddTree) (p : PostTree) → post_of_add t ≡ Some p → Within (marks_add t) (marks_post p)
unfolding post_of_add
add_narrow t p h = by_rest (out-AddTree t).rest refl h where
  by_rest : (ts : List AddStep) → (out-AddTree t).rest ≡ ts → alone ts (post_of_mul (out-AddTree t).first) ≡ Some p → Within (marks_add t) (marks_post p)
  by_rest [] e k =
      let c = mul_narrow (out-AddTree t).first p k in
      let ms : marks_add t ≡ mk.place (out-AddTree t).at ∷ marks_mul (out-AddTree t).first = marks_add-is t ∙ (ap (λ ts. mk.place (out-AddTree t).at ∷ (marks_mul (out-AddTree t).first ++ mk.joined (map marks_add_step ts))) e ∙ ap (λ ms. mk.place (out-AddTree t).at ∷ ms) (append-nil (marks_mul (out-AddTree t).first))) in
      subst (λ ms. Within ms (marks_post p)) (sym ms) (within_place (out-AddTree t).at c)
  by_rest (x ∷ ts) e k = absurd (none_some k)

abbrev pub wide_add : ℕ → PostTree → AddTree
wide_add at p = roll-AddTree (record { at = at; first = wide_mul at p; rest = [] })

pub add_back : (at : ℕ) (p : PostTree) → post_of_add (wide_add at p) ≡ Some p
unfolding post_of_add
add_back at p = ap (λ v. alone v.rest (post_of_mul v.first)) (out-roll-AddTree (record { at = at; first = wide_mul at p; rest = [] })) ∙ mul_back at p

pub wide_add_is : (at : ℕ) (p : PostTree) → marks_add (wide_add at p) ≡ mk.place at ∷ marks_mul (wide_mul at p)
wide_add_is at p = marks_add-of at (wide_mul at p) [] ∙ ap (λ ms. mk.place at ∷ ms) (append-nil (marks_mul (wide_mul at p)))

pub compare_narrow : (t : CompareTree) (p : PostTree) → post_of_compare t ≡ Some p → Within (marks_compare t) (marks_post p)
unfolding post_of_compare
compare_narrow t p = subst (λ x. post_at_compare (out-CompareTree t) ≡ Some p → Within (marks_compare x) (marks_post p)) (roll-out-CompareTree t) (by_layer (out-CompareTree t)) where
  by_layer : (x : OneCompare) → post_at_compare x ≡ Some p → Within (marks_compare (roll-CompareTree x)) (marks_post p)
  by_layer (CompareTree-F.Single at u) h =
      let c = add_narrow u p h in
      subst (λ x. Within (marks_compare x) (marks_post p)) (sym (compares.rolls-Single at u)) (subst (λ ms. Within ms (marks_post p)) (sym (marks_compare-Single at u)) (within_place at c))
  by_layer (CompareTree-F.Related at u op v) h = absurd (none_some h)
  by_layer (CompareTree-F.Member at u v) h = absurd (none_some h)

abbrev pub wide_compare : ℕ → PostTree → CompareTree
wide_compare at p = compares.Single at (wide_add at p)

pub compare_back : (at : ℕ) (p : PostTree) → post_of_compare (wide_compare at p) ≡ Some p
unfolding post_of_compare
compare_back at p = ap post_of_compare (sym (compares.rolls-Single at (wide_add at p))) ∙ (ap post_at_compare (out-roll-CompareTree (CompareTree-F.Single at (wide_add at p))) ∙ add_back at p)

pub wide_compare_is : (at : ℕ) (p : PostTree) → marks_compare (wide_compare at p) ≡ mk.place at ∷ marks_add (wide_add at p)
wide_compare_is at p = marks_compare-Single at (wide_add at p)

pub neg_narrow : (t : NegTree) (p : PostTree) → post_of_neg t ≡ Some p → Within (marks_neg t) (marks_post p)
unfolding post_of_neg
neg_narrow t p = subst (λ x. post_at_neg (out-NegTree t) ≡ Some p → Within (marks_neg x) (marks_post p)) (roll-out-NegTree t) (by_layer (out-NegTree t)) where
  by_layer : (x : OneNeg) → post_at_neg x ≡ Some p → Within (marks_neg (roll-NegTree x)) (marks_post p)
  by_layer (NegTree-F.Compare u) h =
      let c = compare_narrow u p h in
      subst (λ x. Within (marks_neg x) (marks_post p)) (sym (negs.rolls-Compare u)) (subst (λ ms. Within ms (marks_post p)) (sym (marks_neg-Compare u)) c)
  by_layer (NegTree-F.Not at u) h = absurd (none_some h)

abbrev pub wide_neg : ℕ → PostTree → NegTree
wide_neg at p = negs.Compare (wide_compare at p)

pub neg_back : (at : ℕ) (p : PostTree) → post_of_neg (wide_neg at p) ≡ Some p
unfolding post_of_neg
neg_back at p = ap post_of_neg (sym (negs.rolls-Compare (wide_compare at p))) ∙ (ap post_at_neg (out-roll-NegTree (NegTree-F.Compare (wide_compare at p))) ∙ compare_back at p)

pub and_narrow : (t : AndTree) (p : PostTree) → post_of_and t ≡ Some p → Within (marks_and t) (marks_post p)
unfolding post_of_and
and_narrow t p h = by_rest (out-AndTree t).rest refl h where
  by_rest : (ts : List NegTree) → (out-AndTree t).rest ≡ ts → alone ts (post_of_neg (out-AndTree t).first) ≡ Some p → Within (marks_and t) (marks_post p)
  by_rest [] e k =
      let c = neg_narrow (out-AndTree t).first p k in
      let ms : marks_and t ≡ mk.place (out-AndTree t).at ∷ marks_neg (out-AndTree t).first = marks_and-is t ∙ (ap (λ ts. mk.place (out-AndTree t).at ∷ (marks_neg (out-AndTree t).first ++ mk.behind signs.And (map marks_neg ts))) e ∙ ap (λ ms. mk.place (out-AndTree t).at ∷ ms) (append-nil (marks_neg (out-AndTree t).first))) in
      subst (λ ms. Within ms (marks_post p)) (sym ms) (within_place (out-AndTree t).at c)
  by_rest (x ∷ ts) e k = absurd (none_some k)

abbrev pub wide_and : ℕ → PostTree → AndTree
wide_and at p = roll-AndTree (record { at = at; first = wide_neg at p; rest = [] })

pub and_back : (at : ℕ) (p : PostTree) → post_of_and (wide_and at p) ≡ Some p
unfolding post_of_and
and_back at p = ap (λ v. alone v.rest (post_of_neg v.first)) (out-roll-AndTree (record { at = at; first = wide_neg at p; rest = [] })) ∙ neg_back at p

pub wide_and_is : (at : ℕ) (p : PostTree) → marks_and (wide_and at p) ≡ mk.place at ∷ marks_neg (wide_neg at p)
wide_and_is at p = marks_and-of at (wide_neg at p) [] ∙ ap (λ ms. mk.place at ∷ ms) (append-nil (marks_neg (wide_neg at p)))

pub or_narrow : (t : OrTree) (p : PostTree) → post_of_or t ≡ Some p → Within (marks_or t) (marks_post p)
unfolding post_of_or
or_narrow t p h = by_rest (out-OrTree t).rest refl h where
  by_rest : (ts : List AndTree) → (out-OrTree t).rest ≡ ts → alone ts (post_of_and (out-OrTree t).first) ≡ Some p → Within (marks_or t) (marks_post p)
  by_rest [] e k =
      let c = and_narrow (out-OrTree t).first p k in
      let ms : marks_or t ≡ mk.place (out-OrTree t).at ∷ marks_and (out-OrTree t).first = marks_or-is t ∙ (ap (λ ts. mk.place (out-OrTree t).at ∷ (marks_and (out-OrTree t).first ++ mk.behind signs.Or (map marks_and ts))) e ∙ ap (λ ms. mk.place (out-OrTree t).at ∷ ms) (append-nil (marks_and (out-OrTree t).first))) in
      subst (λ ms. Within ms (marks_post p)) (sym ms) (within_place (out-OrTree t).at c)
  by_rest (x ∷ ts) e k = absurd (none_some k)

abbrev pub wide_or : ℕ → PostTree → OrTree
wide_or at p = roll-OrTree (record { at = at; first = wide_and at p; rest = [] })

pub or_back : (at : ℕ) (p : PostTree) → post_of_or (wide_or at p) ≡ Some p
unfolding post_of_or
or_back at p = ap (λ v. alone v.rest (post_of_and v.first)) (out-roll-OrTree (record { at = at; first = wide_and at p; rest = [] })) ∙ and_back at p

pub wide_or_is : (at : ℕ) (p : PostTree) → marks_or (wide_or at p) ≡ mk.place at ∷ marks_and (wide_and at p)
wide_or_is at p = marks_or-of at (wide_and at p) [] ∙ ap (λ ms. mk.place at ∷ ms) (append-nil (marks_and (wide_and at p)))

pub imp_narrow : (t : ImpTree) (p : PostTree) → post_of_imp t ≡ Some p → Within (marks_imp t) (marks_post p)
unfolding post_of_imp
imp_narrow t p h = by_conclusion (out-ImpTree t).conclusion refl h where
  by_conclusion : (o : Option ImpTree) → (out-ImpTree t).conclusion ≡ o → without o (post_of_or (out-ImpTree t).premise) ≡ Some p → Within (marks_imp t) (marks_post p)
  by_conclusion None e k =
      let c = or_narrow (out-ImpTree t).premise p k in
      let ms : marks_imp t ≡ mk.place (out-ImpTree t).at ∷ marks_or (out-ImpTree t).premise = marks_imp-is t ∙ (ap (λ o. mk.place (out-ImpTree t).at ∷ (marks_or (out-ImpTree t).premise ++ mk.after_level (mk.sign signs.Implies) (option_map marks_imp o))) e ∙ ap (λ ms. mk.place (out-ImpTree t).at ∷ ms) (append-nil (marks_or (out-ImpTree t).premise))) in
      subst (λ ms. Within ms (marks_post p)) (sym ms) (within_place (out-ImpTree t).at c)
  by_conclusion (Some x) e k = absurd (none_some k)

abbrev pub wide_imp : ℕ → PostTree → ImpTree
wide_imp at p = roll-ImpTree (record { at = at; premise = wide_or at p; conclusion = None })

pub imp_back : (at : ℕ) (p : PostTree) → post_of_imp (wide_imp at p) ≡ Some p
unfolding post_of_imp
imp_back at p = ap (λ v. without v.conclusion (post_of_or v.premise)) (out-roll-ImpTree (record { at = at; premise = wide_or at p; conclusion = None })) ∙ or_back at p

pub wide_imp_is : (at : ℕ) (p : PostTree) → marks_imp (wide_imp at p) ≡ mk.place at ∷ marks_or (wide_or at p)
wide_imp_is at p = marks_imp-of at (wide_or at p) None ∙ ap (λ ms. mk.place at ∷ ms) (append-nil (marks_or (wide_or at p)))

pub expr_narrow : (t : ExprTree) (p : PostTree) → post_of t ≡ Some p → Within (marks_expr t) (marks_post p)
unfolding post_of
expr_narrow t p h = by_rest (out-ExprTree t).rest refl h where
  by_rest : (ts : List ImpTree) → (out-ExprTree t).rest ≡ ts → alone ts (post_of_imp (out-ExprTree t).first) ≡ Some p → Within (marks_expr t) (marks_post p)
  by_rest [] e k =
      let c = imp_narrow (out-ExprTree t).first p k in
      let ms : marks_expr t ≡ mk.place (out-ExprTree t).at ∷ marks_imp (out-ExprTree t).first = marks_expr-is t ∙ (ap (λ ts. mk.place (out-ExprTree t).at ∷ (marks_imp (out-ExprTree t).first ++ mk.behind signs.Equivalent (map marks_imp ts))) e ∙ ap (λ ms. mk.place (out-ExprTree t).at ∷ ms) (append-nil (marks_imp (out-ExprTree t).first))) in
      subst (λ ms. Within ms (marks_post p)) (sym ms) (within_place (out-ExprTree t).at c)
  by_rest (x ∷ ts) e k = absurd (none_some k)

abbrev pub wide_expr : ℕ → PostTree → ExprTree
wide_expr at p = roll-ExprTree (record { at = at; first = wide_imp at p; rest = [] })

pub expr_back : (at : ℕ) (p : PostTree) → post_of (wide_expr at p) ≡ Some p
unfolding post_of
expr_back at p = ap (λ v. alone v.rest (post_of_imp v.first)) (out-roll-ExprTree (record { at = at; first = wide_imp at p; rest = [] })) ∙ imp_back at p

pub wide_expr_is : (at : ℕ) (p : PostTree) → marks_expr (wide_expr at p) ≡ mk.place at ∷ marks_imp (wide_imp at p)
wide_expr_is at p = marks_expr-of at (wide_imp at p) [] ∙ ap (λ ms. mk.place at ∷ ms) (append-nil (marks_imp (wide_imp at p)))

-- the expression that a post is
pub wide_post_is : (at : ℕ) (p : PostTree) → marks_expr (wide_expr at p) ≡ places (at ∷ at ∷ at ∷ at ∷ at ∷ at ∷ at ∷ []) (marks_post p)
wide_post_is at p = wide_expr_is at p ∙ ap (λ ms. mk.place at ∷ ms) (wide_imp_is at p ∙ ap (λ ms. mk.place at ∷ ms) (wide_or_is at p ∙ ap (λ ms. mk.place at ∷ ms) (wide_and_is at p ∙ ap (λ ms. mk.place at ∷ ms)
    (marks_neg-Compare (wide_compare at p) ∙ (wide_compare_is at p ∙ ap (λ ms. mk.place at ∷ ms) (wide_add_is at p ∙ ap (λ ms. mk.place at ∷ ms) (wide_mul_is at p)))))))

-- an expression that is just a post
pub post_narrows : Narrows expr_shape post_of marks_post
post_narrows = record {
  known = λ a b h. h;
  within = expr_narrow;
  wide = wide_expr;
  back = expr_back;
  there = λ i c j h. subst (λ ms. Takes ms i j) (sym (wide_post_is (place_at i) c)) (refl, (refl, (refl, (refl, (refl, (refl, (refl, h)))))));
  fits = λ a. tt;
}
