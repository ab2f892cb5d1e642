-- What each kind of expression names, and what it writes.
use Rattle.std.proofs.Common.{◌≡◌, ℕ, List, [], ◌∷◌, map, Option, None, Some, inl, refl, sym, subst}
use Rattle.opl_token.specs.declared.sign.Sign.TheVariants as signs
use Rattle.opl_tree.specs.declared.declaration.DeclTree.{DeclTree}
use Rattle.opl_tree.specs.declared.expression.CompareTree.{CompareTree}
use Rattle.opl_tree.specs.declared.expression.MulTree.{MulTree}
use Rattle.opl_tree.specs.declared.expression.NegTree.{NegTree}
use Rattle.opl_tree.specs.declared.expression.OpenTree.{OpenTree}
use Rattle.opl_tree.specs.declared.expression.PrimTree.{PrimTree}
use Rattle.opl_tree.specs.declared.expression.SignTree.{SignTree}
use Rattle.opl_tree.specs.declared.expression.SuffixTree.{SuffixTree}
use Rattle.opl_tree.specs.declared.expression.AddStep.{AddStep}
use Rattle.opl_tree.specs.declared.expression.AddTree.{AddTree}
use Rattle.opl_tree.specs.declared.expression.AndTree.{AndTree}
use Rattle.opl_tree.specs.declared.expression.ExprTree.{ExprTree}
use Rattle.opl_tree.specs.declared.expression.GroupStep.{GroupStep}
use Rattle.opl_tree.specs.declared.expression.GroupTree.{GroupTree}
use Rattle.opl_tree.specs.declared.expression.ImpTree.{ImpTree}
use Rattle.opl_tree.specs.declared.expression.KeyedTree.{KeyedTree}
use Rattle.opl_tree.specs.declared.expression.LastStep.{LastStep}
use Rattle.opl_tree.specs.declared.expression.MulStep.{MulStep}
use Rattle.opl_tree.specs.declared.expression.OrTree.{OrTree}
use Rattle.opl_tree.specs.declared.expression.ParamsTree.{ParamsTree}
use Rattle.opl_tree.specs.declared.expression.PostTree.{PostTree}
use Rattle.opl_tree.specs.declared.expression.SetTree.{SetTree}
use Rattle.opl_tree.specs.declared.expression.SubscriptsTree.{SubscriptsTree}
use Rattle.opl_tree.specs.declared.expression.CompareTree.TheOpen.{CompareTree-F, MulTree-F, NegTree-F, OpenTree-F, PrimTree-F, SignTree-F, SuffixTree-F, AddStep-F, AddTree-F, AndTree-F, ExprTree-F, GroupStep-F, GroupTree-F, ImpTree-F, KeyedTree-F, LastStep-F, MulStep-F, OrTree-F, ParamsTree-F, PostTree-F, SetTree-F, SubscriptsTree-F}
use Rattle.opl_tree.specs.declared.expression.CompareTree.TheViews.{roll-CompareTree, roll-MulTree, roll-NegTree, roll-OpenTree, roll-PrimTree, roll-SignTree, roll-SuffixTree, roll-AddStep, roll-AddTree, roll-AndTree, roll-ExprTree, roll-GroupStep, roll-GroupTree, roll-ImpTree, roll-KeyedTree, roll-LastStep, roll-MulStep, roll-OrTree, roll-ParamsTree, roll-PostTree, roll-SetTree, roll-SubscriptsTree}
use Rattle.opl_tree.specs.declared.expression.CompareTree.TheFolds.{map-CompareTree, map-MulTree, map-NegTree, map-OpenTree, map-PrimTree, map-SignTree, map-SuffixTree, map-AddStep, map-AddTree, map-AndTree, map-ExprTree, map-GroupStep, map-GroupTree, map-ImpTree, map-KeyedTree, map-LastStep, map-MulStep, map-OrTree, map-ParamsTree, map-PostTree, map-SetTree, map-SubscriptsTree, ind-ExprTree, ind-AddTree, ind-PostTree, ind-SetTree, ind-ParamsTree, ind-SubscriptsTree}
use Rattle.opl_tree.specs.declared.keyword.Keyword.TheVariants as keywords
use Rattle.opl_tree.specs.Marks.{Marks, sign, token, word, behind, joined, optional, marks_pattern, marks_compare, marks_mul, marks_neg, marks_open, marks_prim, marks_sign, marks_suffix, marks_add_step, marks_add, marks_and, marks_expr, marks_group_step, marks_group, marks_imp, marks_keyed, marks_last_step, marks_mul_step, marks_or, marks_params, marks_post, marks_set, marks_subscripts, compare_marks, mul_marks, neg_marks, open_marks, prim_marks, sign_marks, suffix_marks, add_step_marks, add_marks, and_marks, expr_marks, group_step_marks, group_marks, imp_marks, keyed_marks, last_step_marks, mul_step_marks, or_marks, params_marks, post_marks, set_marks, subscripts_marks}
use Rattle.opl_type_rules.specs.Expressions.{open_groups, open_params}
use Rattle.opl_type_rules.specs.Expressions.Need.{data_alone}
use Rattle.opl_type_rules.specs.Forms.{groups_of, form_compare, form_mul, form_neg, form_open, form_prim, form_sign, form_suffix, form_add_step, form_add, form_and, form_expr, form_group_step, form_group, form_imp, form_keyed, form_last_step, form_mul_step, form_or, form_params, form_post, form_set, form_subscripts, compare_layer, mul_layer, neg_layer, open_layer, prim_layer, sign_layer, suffix_layer, add_step_layer, add_layer, and_layer, expr_layer, group_step_layer, group_layer, imp_layer, keyed_layer, last_step_layer, mul_step_layer, or_layer, params_layer, post_layer, set_layer, subscripts_layer}
use Rattle.opl_fields.specs.Typed.{form_fields, groups_fields, pairs_fields, params_fields, parts_fields, scope_behind, set_fields}
use Rattle.opl_read_fields.proofs.Layers.{Layer, Mapping, OfTrees, forms_in, marks_in, form_compare-roll, marks_compare-roll, form_mul-roll, marks_mul-roll, form_neg-roll, marks_neg-roll, form_open-roll, marks_open-roll, form_prim-roll, marks_prim-roll, form_sign-roll, marks_sign-roll, form_suffix-roll, marks_suffix-roll, form_add_step-roll, marks_add_step-roll, form_add-roll, marks_add-roll, form_and-roll, marks_and-roll, form_expr-roll, marks_expr-roll, form_group_step-roll, marks_group_step-roll, form_group-roll, marks_group-roll, form_imp-roll, marks_imp-roll, form_keyed-roll, marks_keyed-roll, form_last_step-roll, marks_last_step-roll, form_mul_step-roll, marks_mul_step-roll, form_or-roll, marks_or-roll, form_params-roll, marks_params-roll, form_post-roll, marks_post-roll, form_set-roll, marks_set-roll, form_subscripts-roll, marks_subscripts-roll}
use Rattle.opl_read_fields.proofs.Parts.{OfForm, OfForms, OfGroup, OfPair, OfParams, OfSet, OfSuffix, alone, before_marks, behind_mark, behind_marks, both, each_known, elsewhere, forms_behind, forms_joined, forms_several, forms_then, group_then, groups_joined, in_level, none, of_arithmetic, of_call, of_connected, of_suffixes, pairs_several, regrouped}

module _ (ds : List DeclTree) where
  -- ---- trees of which this is known

  abbrev Known_compare : Type 0
  Known_compare = (t : CompareTree) × OfForm ds (form_compare t) (marks_compare t)

  abbrev Known_mul : Type 0
  Known_mul = (t : MulTree) × OfForm ds (form_mul t) (marks_mul t)

  abbrev Known_neg : Type 0
  Known_neg = (t : NegTree) × OfForm ds (form_neg t) (marks_neg t)

  abbrev Known_open : Type 0
  Known_open = (t : OpenTree) × OfForm ds (form_open t) (marks_open t)

  abbrev Known_prim : Type 0
  Known_prim = (t : PrimTree) × OfForm ds (form_prim t) (marks_prim t)

  abbrev Known_sign : Type 0
  Known_sign = (t : SignTree) × OfForm ds (form_sign t) (marks_sign t)

  abbrev Known_suffix : Type 0
  Known_suffix = (t : SuffixTree) × OfSuffix ds (form_suffix t) (marks_suffix t)

  abbrev Known_add_step : Type 0
  Known_add_step = (t : AddStep) × OfForm ds (form_add_step t) (marks_add_step t)

  abbrev Known_add : Type 0
  Known_add = (t : AddTree) × OfForm ds (form_add t) (marks_add t)

  abbrev Known_and : Type 0
  Known_and = (t : AndTree) × OfForm ds (form_and t) (marks_and t)

  abbrev Known_expr : Type 0
  Known_expr = (t : ExprTree) × OfForm ds (form_expr t) (marks_expr t)

  abbrev Known_group_step : Type 0
  Known_group_step = (t : GroupStep) × OfGroup ds (form_group_step t) (marks_group_step t)

  abbrev Known_group : Type 0
  Known_group = (t : GroupTree) × OfGroup ds (form_group t) (marks_group t)

  abbrev Known_imp : Type 0
  Known_imp = (t : ImpTree) × OfForm ds (form_imp t) (marks_imp t)

  abbrev Known_keyed : Type 0
  Known_keyed = (t : KeyedTree) × OfPair ds (form_keyed t) (marks_keyed t)

  abbrev Known_last_step : Type 0
  Known_last_step = (t : LastStep) × OfForm ds (form_last_step t) (marks_last_step t)

  abbrev Known_mul_step : Type 0
  Known_mul_step = (t : MulStep) × OfForm ds (form_mul_step t) (marks_mul_step t)

  abbrev Known_or : Type 0
  Known_or = (t : OrTree) × OfForm ds (form_or t) (marks_or t)

  abbrev Known_params : Type 0
  Known_params = (t : ParamsTree) × OfParams ds (form_params t) (marks_params t)

  abbrev Known_post : Type 0
  Known_post = (t : PostTree) × OfForm ds (form_post t) (marks_post t)

  abbrev Known_set : Type 0
  Known_set = (t : SetTree) × OfSet ds (form_set t) (marks_set t)

  abbrev Known_subscripts : Type 0
  Known_subscripts = (t : SubscriptsTree) × OfForms ds (form_subscripts t) (marks_subscripts t)

  -- one layer over such trees, and the trees alone
  abbrev OfKnown : Layer → Type 0
  OfKnown F = F Known_compare Known_mul Known_neg Known_open Known_prim Known_sign Known_suffix Known_add_step Known_add Known_and Known_expr Known_group_step Known_group Known_imp Known_keyed Known_last_step Known_mul_step Known_or Known_params Known_post Known_set Known_subscripts

  abbrev trees_in : (F : Layer) → Mapping F → OfKnown F → OfTrees F
  trees_in F m = m Known_compare Known_mul Known_neg Known_open Known_prim Known_sign Known_suffix Known_add_step Known_add Known_and Known_expr Known_group_step Known_group Known_imp Known_keyed Known_last_step Known_mul_step Known_or Known_params Known_post Known_set Known_subscripts CompareTree MulTree NegTree OpenTree PrimTree SignTree SuffixTree AddStep AddTree AndTree ExprTree GroupStep GroupTree ImpTree KeyedTree LastStep MulStep OrTree ParamsTree PostTree SetTree SubscriptsTree (λ e. e.0) (λ e. e.0) (λ e. e.0) (λ e. e.0) (λ e. e.0) (λ e. e.0) (λ e. e.0) (λ e. e.0) (λ e. e.0) (λ e. e.0) (λ e. e.0) (λ e. e.0) (λ e. e.0) (λ e. e.0) (λ e. e.0) (λ e. e.0) (λ e. e.0) (λ e. e.0) (λ e. e.0) (λ e. e.0) (λ e. e.0) (λ e. e.0)

  -- ---- one layer of each

  known_expr : (y : OfKnown ExprTree-F) → OfForm ds (expr_layer (forms_in ExprTree-F map-ExprTree (trees_in ExprTree-F map-ExprTree y))) (expr_marks (marks_in ExprTree-F map-ExprTree (trees_in ExprTree-F map-ExprTree y)))
  unfolding form_fields parts_fields pairs_fields set_fields groups_fields params_fields
  known_expr y = behind_mark _ (of_connected ds y.at (form_imp y.first.0) _ y.first.1 (forms_behind ds signs.Equivalent _ _ (each_known (OfForm ds) form_imp marks_imp y.rest)))

  when_imp : (at : ℕ) (premise : Known_or) (conclusion : Option Known_imp) → let y : OfKnown ImpTree-F = record { at = at; premise = premise; conclusion = conclusion } in OfForm ds (imp_layer (forms_in ImpTree-F map-ImpTree (trees_in ImpTree-F map-ImpTree y))) (imp_marks (marks_in ImpTree-F map-ImpTree (trees_in ImpTree-F map-ImpTree y)))
  unfolding form_fields parts_fields pairs_fields set_fields groups_fields params_fields
  when_imp at p None = behind_mark _ (before_marks [] p.1)
  when_imp at p (Some c) = behind_mark _ (both p.1 (in_level _ (alone c.1)))

  known_imp : (y : OfKnown ImpTree-F) → OfForm ds (imp_layer (forms_in ImpTree-F map-ImpTree (trees_in ImpTree-F map-ImpTree y))) (imp_marks (marks_in ImpTree-F map-ImpTree (trees_in ImpTree-F map-ImpTree y)))
  unfolding form_fields parts_fields pairs_fields set_fields groups_fields params_fields
  known_imp y = when_imp y.at y.premise y.conclusion

  known_or : (y : OfKnown OrTree-F) → OfForm ds (or_layer (forms_in OrTree-F map-OrTree (trees_in OrTree-F map-OrTree y))) (or_marks (marks_in OrTree-F map-OrTree (trees_in OrTree-F map-OrTree y)))
  unfolding form_fields parts_fields pairs_fields set_fields groups_fields params_fields
  known_or y = behind_mark _ (of_connected ds y.at (form_and y.first.0) _ y.first.1 (forms_behind ds signs.Or _ _ (each_known (OfForm ds) form_and marks_and y.rest)))

  known_and : (y : OfKnown AndTree-F) → OfForm ds (and_layer (forms_in AndTree-F map-AndTree (trees_in AndTree-F map-AndTree y))) (and_marks (marks_in AndTree-F map-AndTree (trees_in AndTree-F map-AndTree y)))
  unfolding form_fields parts_fields pairs_fields set_fields groups_fields params_fields
  known_and y = behind_mark _ (of_connected ds y.at (form_neg y.first.0) _ y.first.1 (forms_behind ds signs.And _ _ (each_known (OfForm ds) form_neg marks_neg y.rest)))

  known_neg : (y : OfKnown NegTree-F) → OfForm ds (neg_layer (forms_in NegTree-F map-NegTree (trees_in NegTree-F map-NegTree y))) (neg_marks (marks_in NegTree-F map-NegTree (trees_in NegTree-F map-NegTree y)))
  unfolding form_fields parts_fields pairs_fields set_fields groups_fields params_fields
  known_neg (NegTree-F.Not at e) = behind_mark _ (in_level _ (alone e.1))
  known_neg (NegTree-F.Compare e) = e.1

  known_compare : (y : OfKnown CompareTree-F) → OfForm ds (compare_layer (forms_in CompareTree-F map-CompareTree (trees_in CompareTree-F map-CompareTree y))) (compare_marks (marks_in CompareTree-F map-CompareTree (trees_in CompareTree-F map-CompareTree y)))
  unfolding form_fields parts_fields pairs_fields set_fields groups_fields params_fields
  known_compare (CompareTree-F.Single at e) = behind_mark _ e.1
  known_compare (CompareTree-F.Related at e relation f) = behind_mark _ (both e.1 (behind_mark _ f.1))
  known_compare (CompareTree-F.Member at e s) = behind_mark _ (both e.1 (behind_mark _ s.1))

  known_add : (y : OfKnown AddTree-F) → OfForm ds (add_layer (forms_in AddTree-F map-AddTree (trees_in AddTree-F map-AddTree y))) (add_marks (marks_in AddTree-F map-AddTree (trees_in AddTree-F map-AddTree y)))
  unfolding form_fields parts_fields pairs_fields set_fields groups_fields params_fields
  known_add y = behind_mark _ (of_arithmetic ds y.at (form_mul y.first.0) _ y.first.1 (forms_joined ds _ _ (each_known (OfForm ds) form_add_step marks_add_step y.rest)))

  known_add_step : (y : OfKnown AddStep-F) → OfForm ds (add_step_layer (forms_in AddStep-F map-AddStep (trees_in AddStep-F map-AddStep y))) (add_step_marks (marks_in AddStep-F map-AddStep (trees_in AddStep-F map-AddStep y)))
  unfolding form_fields parts_fields pairs_fields set_fields groups_fields params_fields
  known_add_step y = behind_mark _ y.term.1

  known_mul : (y : OfKnown MulTree-F) → OfForm ds (mul_layer (forms_in MulTree-F map-MulTree (trees_in MulTree-F map-MulTree y))) (mul_marks (marks_in MulTree-F map-MulTree (trees_in MulTree-F map-MulTree y)))
  unfolding form_fields parts_fields pairs_fields set_fields groups_fields params_fields
  known_mul (MulTree-F.Opened e) = e.1
  known_mul (MulTree-F.Product at e steps None) = behind_mark _ (of_arithmetic ds at (form_sign e.0) _ e.1 (forms_then ds (map form_mul_step (map (λ e. e.0) steps)) [] (forms_joined ds _ _ (each_known (OfForm ds) form_mul_step marks_mul_step steps)) none))
  known_mul (MulTree-F.Product at e steps (Some last)) = behind_mark _ (of_arithmetic ds at (form_sign e.0) _ e.1 (forms_then ds (map form_mul_step (map (λ e. e.0) steps)) (form_last_step last.0 ∷ []) (forms_joined ds _ _ (each_known (OfForm ds) form_mul_step marks_mul_step steps)) (alone last.1)))

  known_mul_step : (y : OfKnown MulStep-F) → OfForm ds (mul_step_layer (forms_in MulStep-F map-MulStep (trees_in MulStep-F map-MulStep y))) (mul_step_marks (marks_in MulStep-F map-MulStep (trees_in MulStep-F map-MulStep y)))
  unfolding form_fields parts_fields pairs_fields set_fields groups_fields params_fields
  known_mul_step y = behind_mark _ y.factor.1

  known_last_step : (y : OfKnown LastStep-F) → OfForm ds (last_step_layer (forms_in LastStep-F map-LastStep (trees_in LastStep-F map-LastStep y))) (last_step_marks (marks_in LastStep-F map-LastStep (trees_in LastStep-F map-LastStep y)))
  unfolding form_fields parts_fields pairs_fields set_fields groups_fields params_fields
  known_last_step y = behind_mark _ y.factor.1

  known_open : (y : OfKnown OpenTree-F) → OfForm ds (open_layer (forms_in OpenTree-F map-OpenTree (trees_in OpenTree-F map-OpenTree y))) (open_marks (marks_in OpenTree-F map-OpenTree (trees_in OpenTree-F map-OpenTree y)))
  unfolding form_fields parts_fields pairs_fields set_fields groups_fields params_fields
  known_open (OpenTree-F.NegativeOpen at e) = behind_mark _ (in_level _ e.1)
  known_open (OpenTree-F.Aggregate at op p e) = behind_mark _ (in_level _ (both (in_level _ p.1) (behind_mark _ (elsewhere (λ sc. scope_behind sc (open_params data_alone sc (form_params p.0))) e.1))))

  known_sign : (y : OfKnown SignTree-F) → OfForm ds (sign_layer (forms_in SignTree-F map-SignTree (trees_in SignTree-F map-SignTree y))) (sign_marks (marks_in SignTree-F map-SignTree (trees_in SignTree-F map-SignTree y)))
  unfolding form_fields parts_fields pairs_fields set_fields groups_fields params_fields
  known_sign (SignTree-F.Negative at e) = behind_mark _ (in_level _ e.1)
  known_sign (SignTree-F.Postfix e) = e.1

  known_post : (y : OfKnown PostTree-F) → OfForm ds (post_layer (forms_in PostTree-F map-PostTree (trees_in PostTree-F map-PostTree y))) (post_marks (marks_in PostTree-F map-PostTree (trees_in PostTree-F map-PostTree y)))
  unfolding form_fields parts_fields pairs_fields set_fields groups_fields params_fields
  known_post y = behind_mark _ (of_suffixes ds y.at (form_prim y.prim.0) _ _ _ y.prim.1 (each_known (OfSuffix ds) form_suffix marks_suffix y.suffixes))

  known_suffix : (y : OfKnown SuffixTree-F) → OfSuffix ds (suffix_layer (forms_in SuffixTree-F map-SuffixTree (trees_in SuffixTree-F map-SuffixTree y))) (suffix_marks (marks_in SuffixTree-F map-SuffixTree (trees_in SuffixTree-F map-SuffixTree y)))
  unfolding form_fields parts_fields pairs_fields set_fields groups_fields params_fields
  known_suffix (SuffixTree-F.Subscripts e) = e.1
  known_suffix (SuffixTree-F.Field at name) = record { among = inl (refl, tt) }

  known_subscripts : (y : OfKnown SubscriptsTree-F) → OfForms ds (subscripts_layer (forms_in SubscriptsTree-F map-SubscriptsTree (trees_in SubscriptsTree-F map-SubscriptsTree y))) (subscripts_marks (marks_in SubscriptsTree-F map-SubscriptsTree (trees_in SubscriptsTree-F map-SubscriptsTree y)))
  unfolding form_fields parts_fields pairs_fields set_fields groups_fields params_fields
  known_subscripts y = behind_mark _ (before_marks _ (in_level _ (both y.first.1 (forms_behind ds signs.Comma _ _ (each_known (OfForm ds) form_add marks_add y.rest)))))

  known_prim : (y : OfKnown PrimTree-F) → OfForm ds (prim_layer (forms_in PrimTree-F map-PrimTree (trees_in PrimTree-F map-PrimTree y))) (prim_marks (marks_in PrimTree-F map-PrimTree (trees_in PrimTree-F map-PrimTree y)))
  unfolding form_fields parts_fields pairs_fields set_fields groups_fields params_fields
  known_prim (PrimTree-F.Number at n) = none
  known_prim (PrimTree-F.Named name) = none
  known_prim (PrimTree-F.Bracket at e) = behind_mark _ (before_marks _ (in_level _ e.1))
  known_prim (PrimTree-F.Record at e es) = behind_mark _ (before_marks _ (in_level _ (both e.1 (forms_behind ds signs.Comma _ _ (each_known (OfForm ds) form_add marks_add es)))))
  known_prim (PrimTree-F.Listed at es) = behind_mark _ (before_marks _ (in_level _ (forms_several ds signs.Comma _ _ (each_known (OfForm ds) form_add marks_add es))))
  known_prim (PrimTree-F.Described at e p) = behind_mark _ (before_marks _ (in_level _ (both (elsewhere (λ sc. scope_behind sc (open_params data_alone sc (form_params p.0))) e.1) (behind_mark _ p.1))))
  known_prim (PrimTree-F.Array at es) = behind_mark _ (before_marks _ (in_level _ (forms_several ds signs.Comma _ _ (each_known (OfForm ds) form_add marks_add es))))
  known_prim (PrimTree-F.KeyedArray at es) = behind_mark _ (before_marks _ (in_level _ (pairs_several ds signs.Comma _ _ (each_known (OfPair ds) form_keyed marks_keyed es))))
  known_prim (PrimTree-F.Call at op e) = behind_mark _ (behind_mark _ (before_marks _ (in_level _ (of_call ds op at (form_expr e.0) e.1))))
  known_prim (PrimTree-F.AllDifferent at e) = behind_mark _ (behind_mark _ (before_marks _ (in_level _ e.1)))
  known_prim (PrimTree-F.Question at op e) = behind_mark _ (behind_mark _ (before_marks _ (in_level _ e.1)))

  known_keyed : (y : OfKnown KeyedTree-F) → OfPair ds (keyed_layer (forms_in KeyedTree-F map-KeyedTree (trees_in KeyedTree-F map-KeyedTree y))) (keyed_marks (marks_in KeyedTree-F map-KeyedTree (trees_in KeyedTree-F map-KeyedTree y)))
  unfolding form_fields parts_fields pairs_fields set_fields groups_fields params_fields
  known_keyed y = both y.key.1 (behind_mark _ y.value.1)

  when_set : (at : ℕ) (low : Known_add) (high : Option Known_add) → let y : OfKnown SetTree-F = record { at = at; low = low; high = high } in OfSet ds (set_layer (forms_in SetTree-F map-SetTree (trees_in SetTree-F map-SetTree y))) (set_marks (marks_in SetTree-F map-SetTree (trees_in SetTree-F map-SetTree y)))
  unfolding form_fields parts_fields pairs_fields set_fields groups_fields params_fields
  when_set at low None = behind_mark _ (before_marks [] low.1)
  when_set at low (Some high) = behind_mark _ (both low.1 (behind_mark _ high.1))

  known_set : (y : OfKnown SetTree-F) → OfSet ds (set_layer (forms_in SetTree-F map-SetTree (trees_in SetTree-F map-SetTree y))) (set_marks (marks_in SetTree-F map-SetTree (trees_in SetTree-F map-SetTree y)))
  unfolding form_fields parts_fields pairs_fields set_fields groups_fields params_fields
  known_set y = when_set y.at y.low y.high

  known_group : (y : OfKnown GroupTree-F) → OfGroup ds (group_layer (forms_in GroupTree-F map-GroupTree (trees_in GroupTree-F map-GroupTree y))) (group_marks (marks_in GroupTree-F map-GroupTree (trees_in GroupTree-F map-GroupTree y)))
  unfolding form_fields parts_fields pairs_fields set_fields groups_fields params_fields
  known_group y = behind_mark _ (behind_marks (optional (word keywords.Ordered) y.is_ordered) (behind_marks (marks_pattern y.first) (behind_marks (behind signs.Comma (map marks_pattern y.rest)) (behind_mark (token (word keywords.In)) y.set.1))))

  known_group_step : (y : OfKnown GroupStep-F) → OfGroup ds (group_step_layer (forms_in GroupStep-F map-GroupStep (trees_in GroupStep-F map-GroupStep y))) (group_step_marks (marks_in GroupStep-F map-GroupStep (trees_in GroupStep-F map-GroupStep y)))
  unfolding form_fields parts_fields pairs_fields set_fields groups_fields params_fields
  known_group_step y = behind_mark _ y.group.1

  when_params : (at : ℕ) (first : Known_group) (rest : List Known_group_step) (condition : Option Known_expr) → let y : OfKnown ParamsTree-F = record { at = at; first = first; rest = rest; condition = condition } in OfParams ds (params_layer (forms_in ParamsTree-F map-ParamsTree (trees_in ParamsTree-F map-ParamsTree y))) (params_marks (marks_in ParamsTree-F map-ParamsTree (trees_in ParamsTree-F map-ParamsTree y)))
  unfolding form_fields parts_fields pairs_fields set_fields groups_fields params_fields
  when_params at g gs None = behind_mark _ (regrouped (marks_group g.0) (joined (map marks_group_step (map (λ e. e.0) gs))) [] (before_marks [] (group_then ds (form_group g.0) (map form_group_step (map (λ e. e.0) gs)) g.1 (groups_joined ds _ _ (each_known (OfGroup ds) form_group_step marks_group_step gs)))))
  when_params at g gs (Some c) = behind_mark _ (regrouped (marks_group g.0) (joined (map marks_group_step (map (λ e. e.0) gs))) (token (sign signs.Colon) ∷ marks_expr c.0) (both (group_then ds (form_group g.0) (map form_group_step (map (λ e. e.0) gs)) g.1 (groups_joined ds _ _ (each_known (OfGroup ds) form_group_step marks_group_step gs))) (behind_mark _ (elsewhere (λ sc. scope_behind sc (open_groups sc (groups_of (form_group g.0 ∷ map form_group_step (map (λ e. e.0) gs))))) c.1))))

  known_params : (y : OfKnown ParamsTree-F) → OfParams ds (params_layer (forms_in ParamsTree-F map-ParamsTree (trees_in ParamsTree-F map-ParamsTree y))) (params_marks (marks_in ParamsTree-F map-ParamsTree (trees_in ParamsTree-F map-ParamsTree y)))
  unfolding form_fields parts_fields pairs_fields set_fields groups_fields params_fields
  known_params y = when_params y.at y.first y.rest y.condition

  -- ---- each tree

  -- a tree of which this is known of the parts of its one layer
  by_layer : {X Y : Type 0} (P : Y → Marks → Type 0) (layer : X → Y) (marks : X → Marks) (f : Y) (ms : Marks) (x y : X) → f ≡ layer x → ms ≡ marks x → y ≡ x → P (layer y) (marks y) → P f ms
  by_layer P layer marks f ms x y p q is h = subst (λ u. P u ms) (sym p) (subst (λ u. P (layer x) u) (sym q) (subst (λ z. P (layer z) (marks z)) is h))

  step_compare : (x : OfTrees CompareTree-F) (y : OfKnown CompareTree-F) → trees_in CompareTree-F map-CompareTree y ≡ x → OfForm ds (form_compare (roll-CompareTree x)) (marks_compare (roll-CompareTree x))
  step_compare x y is = by_layer (OfForm ds) (λ z. compare_layer (forms_in CompareTree-F map-CompareTree z)) (λ z. compare_marks (marks_in CompareTree-F map-CompareTree z)) _ _ x _ (form_compare-roll x) (marks_compare-roll x) is (known_compare y)

  step_mul : (x : OfTrees MulTree-F) (y : OfKnown MulTree-F) → trees_in MulTree-F map-MulTree y ≡ x → OfForm ds (form_mul (roll-MulTree x)) (marks_mul (roll-MulTree x))
  step_mul x y is = by_layer (OfForm ds) (λ z. mul_layer (forms_in MulTree-F map-MulTree z)) (λ z. mul_marks (marks_in MulTree-F map-MulTree z)) _ _ x _ (form_mul-roll x) (marks_mul-roll x) is (known_mul y)

  step_neg : (x : OfTrees NegTree-F) (y : OfKnown NegTree-F) → trees_in NegTree-F map-NegTree y ≡ x → OfForm ds (form_neg (roll-NegTree x)) (marks_neg (roll-NegTree x))
  step_neg x y is = by_layer (OfForm ds) (λ z. neg_layer (forms_in NegTree-F map-NegTree z)) (λ z. neg_marks (marks_in NegTree-F map-NegTree z)) _ _ x _ (form_neg-roll x) (marks_neg-roll x) is (known_neg y)

  step_open : (x : OfTrees OpenTree-F) (y : OfKnown OpenTree-F) → trees_in OpenTree-F map-OpenTree y ≡ x → OfForm ds (form_open (roll-OpenTree x)) (marks_open (roll-OpenTree x))
  step_open x y is = by_layer (OfForm ds) (λ z. open_layer (forms_in OpenTree-F map-OpenTree z)) (λ z. open_marks (marks_in OpenTree-F map-OpenTree z)) _ _ x _ (form_open-roll x) (marks_open-roll x) is (known_open y)

  step_prim : (x : OfTrees PrimTree-F) (y : OfKnown PrimTree-F) → trees_in PrimTree-F map-PrimTree y ≡ x → OfForm ds (form_prim (roll-PrimTree x)) (marks_prim (roll-PrimTree x))
  step_prim x y is = by_layer (OfForm ds) (λ z. prim_layer (forms_in PrimTree-F map-PrimTree z)) (λ z. prim_marks (marks_in PrimTree-F map-PrimTree z)) _ _ x _ (form_prim-roll x) (marks_prim-roll x) is (known_prim y)

  step_sign : (x : OfTrees SignTree-F) (y : OfKnown SignTree-F) → trees_in SignTree-F map-SignTree y ≡ x → OfForm ds (form_sign (roll-SignTree x)) (marks_sign (roll-SignTree x))
  step_sign x y is = by_layer (OfForm ds) (λ z. sign_layer (forms_in SignTree-F map-SignTree z)) (λ z. sign_marks (marks_in SignTree-F map-SignTree z)) _ _ x _ (form_sign-roll x) (marks_sign-roll x) is (known_sign y)

  step_suffix : (x : OfTrees SuffixTree-F) (y : OfKnown SuffixTree-F) → trees_in SuffixTree-F map-SuffixTree y ≡ x → OfSuffix ds (form_suffix (roll-SuffixTree x)) (marks_suffix (roll-SuffixTree x))
  step_suffix x y is = by_layer (OfSuffix ds) (λ z. suffix_layer (forms_in SuffixTree-F map-SuffixTree z)) (λ z. suffix_marks (marks_in SuffixTree-F map-SuffixTree z)) _ _ x _ (form_suffix-roll x) (marks_suffix-roll x) is (known_suffix y)

  step_add_step : (x : OfTrees AddStep-F) (y : OfKnown AddStep-F) → trees_in AddStep-F map-AddStep y ≡ x → OfForm ds (form_add_step (roll-AddStep x)) (marks_add_step (roll-AddStep x))
  step_add_step x y is = by_layer (OfForm ds) (λ z. add_step_layer (forms_in AddStep-F map-AddStep z)) (λ z. add_step_marks (marks_in AddStep-F map-AddStep z)) _ _ x _ (form_add_step-roll x) (marks_add_step-roll x) is (known_add_step y)

  step_add : (x : OfTrees AddTree-F) (y : OfKnown AddTree-F) → trees_in AddTree-F map-AddTree y ≡ x → OfForm ds (form_add (roll-AddTree x)) (marks_add (roll-AddTree x))
  step_add x y is = by_layer (OfForm ds) (λ z. add_layer (forms_in AddTree-F map-AddTree z)) (λ z. add_marks (marks_in AddTree-F map-AddTree z)) _ _ x _ (form_add-roll x) (marks_add-roll x) is (known_add y)

  step_and : (x : OfTrees AndTree-F) (y : OfKnown AndTree-F) → trees_in AndTree-F map-AndTree y ≡ x → OfForm ds (form_and (roll-AndTree x)) (marks_and (roll-AndTree x))
  step_and x y is = by_layer (OfForm ds) (λ z. and_layer (forms_in AndTree-F map-AndTree z)) (λ z. and_marks (marks_in AndTree-F map-AndTree z)) _ _ x _ (form_and-roll x) (marks_and-roll x) is (known_and y)

  step_expr : (x : OfTrees ExprTree-F) (y : OfKnown ExprTree-F) → trees_in ExprTree-F map-ExprTree y ≡ x → OfForm ds (form_expr (roll-ExprTree x)) (marks_expr (roll-ExprTree x))
  step_expr x y is = by_layer (OfForm ds) (λ z. expr_layer (forms_in ExprTree-F map-ExprTree z)) (λ z. expr_marks (marks_in ExprTree-F map-ExprTree z)) _ _ x _ (form_expr-roll x) (marks_expr-roll x) is (known_expr y)

  step_group_step : (x : OfTrees GroupStep-F) (y : OfKnown GroupStep-F) → trees_in GroupStep-F map-GroupStep y ≡ x → OfGroup ds (form_group_step (roll-GroupStep x)) (marks_group_step (roll-GroupStep x))
  step_group_step x y is = by_layer (OfGroup ds) (λ z. group_step_layer (forms_in GroupStep-F map-GroupStep z)) (λ z. group_step_marks (marks_in GroupStep-F map-GroupStep z)) _ _ x _ (form_group_step-roll x) (marks_group_step-roll x) is (known_group_step y)

  step_group : (x : OfTrees GroupTree-F) (y : OfKnown GroupTree-F) → trees_in GroupTree-F map-GroupTree y ≡ x → OfGroup ds (form_group (roll-GroupTree x)) (marks_group (roll-GroupTree x))
  step_group x y is = by_layer (OfGroup ds) (λ z. group_layer (forms_in GroupTree-F map-GroupTree z)) (λ z. group_marks (marks_in GroupTree-F map-GroupTree z)) _ _ x _ (form_group-roll x) (marks_group-roll x) is (known_group y)

  step_imp : (x : OfTrees ImpTree-F) (y : OfKnown ImpTree-F) → trees_in ImpTree-F map-ImpTree y ≡ x → OfForm ds (form_imp (roll-ImpTree x)) (marks_imp (roll-ImpTree x))
  step_imp x y is = by_layer (OfForm ds) (λ z. imp_layer (forms_in ImpTree-F map-ImpTree z)) (λ z. imp_marks (marks_in ImpTree-F map-ImpTree z)) _ _ x _ (form_imp-roll x) (marks_imp-roll x) is (known_imp y)

  step_keyed : (x : OfTrees KeyedTree-F) (y : OfKnown KeyedTree-F) → trees_in KeyedTree-F map-KeyedTree y ≡ x → OfPair ds (form_keyed (roll-KeyedTree x)) (marks_keyed (roll-KeyedTree x))
  step_keyed x y is = by_layer (OfPair ds) (λ z. keyed_layer (forms_in KeyedTree-F map-KeyedTree z)) (λ z. keyed_marks (marks_in KeyedTree-F map-KeyedTree z)) _ _ x _ (form_keyed-roll x) (marks_keyed-roll x) is (known_keyed y)

  step_last_step : (x : OfTrees LastStep-F) (y : OfKnown LastStep-F) → trees_in LastStep-F map-LastStep y ≡ x → OfForm ds (form_last_step (roll-LastStep x)) (marks_last_step (roll-LastStep x))
  step_last_step x y is = by_layer (OfForm ds) (λ z. last_step_layer (forms_in LastStep-F map-LastStep z)) (λ z. last_step_marks (marks_in LastStep-F map-LastStep z)) _ _ x _ (form_last_step-roll x) (marks_last_step-roll x) is (known_last_step y)

  step_mul_step : (x : OfTrees MulStep-F) (y : OfKnown MulStep-F) → trees_in MulStep-F map-MulStep y ≡ x → OfForm ds (form_mul_step (roll-MulStep x)) (marks_mul_step (roll-MulStep x))
  step_mul_step x y is = by_layer (OfForm ds) (λ z. mul_step_layer (forms_in MulStep-F map-MulStep z)) (λ z. mul_step_marks (marks_in MulStep-F map-MulStep z)) _ _ x _ (form_mul_step-roll x) (marks_mul_step-roll x) is (known_mul_step y)

  step_or : (x : OfTrees OrTree-F) (y : OfKnown OrTree-F) → trees_in OrTree-F map-OrTree y ≡ x → OfForm ds (form_or (roll-OrTree x)) (marks_or (roll-OrTree x))
  step_or x y is = by_layer (OfForm ds) (λ z. or_layer (forms_in OrTree-F map-OrTree z)) (λ z. or_marks (marks_in OrTree-F map-OrTree z)) _ _ x _ (form_or-roll x) (marks_or-roll x) is (known_or y)

  step_params : (x : OfTrees ParamsTree-F) (y : OfKnown ParamsTree-F) → trees_in ParamsTree-F map-ParamsTree y ≡ x → OfParams ds (form_params (roll-ParamsTree x)) (marks_params (roll-ParamsTree x))
  step_params x y is = by_layer (OfParams ds) (λ z. params_layer (forms_in ParamsTree-F map-ParamsTree z)) (λ z. params_marks (marks_in ParamsTree-F map-ParamsTree z)) _ _ x _ (form_params-roll x) (marks_params-roll x) is (known_params y)

  step_post : (x : OfTrees PostTree-F) (y : OfKnown PostTree-F) → trees_in PostTree-F map-PostTree y ≡ x → OfForm ds (form_post (roll-PostTree x)) (marks_post (roll-PostTree x))
  step_post x y is = by_layer (OfForm ds) (λ z. post_layer (forms_in PostTree-F map-PostTree z)) (λ z. post_marks (marks_in PostTree-F map-PostTree z)) _ _ x _ (form_post-roll x) (marks_post-roll x) is (known_post y)

  step_set : (x : OfTrees SetTree-F) (y : OfKnown SetTree-F) → trees_in SetTree-F map-SetTree y ≡ x → OfSet ds (form_set (roll-SetTree x)) (marks_set (roll-SetTree x))
  step_set x y is = by_layer (OfSet ds) (λ z. set_layer (forms_in SetTree-F map-SetTree z)) (λ z. set_marks (marks_in SetTree-F map-SetTree z)) _ _ x _ (form_set-roll x) (marks_set-roll x) is (known_set y)

  step_subscripts : (x : OfTrees SubscriptsTree-F) (y : OfKnown SubscriptsTree-F) → trees_in SubscriptsTree-F map-SubscriptsTree y ≡ x → OfForms ds (form_subscripts (roll-SubscriptsTree x)) (marks_subscripts (roll-SubscriptsTree x))
  step_subscripts x y is = by_layer (OfForms ds) (λ z. subscripts_layer (forms_in SubscriptsTree-F map-SubscriptsTree z)) (λ z. subscripts_marks (marks_in SubscriptsTree-F map-SubscriptsTree z)) _ _ x _ (form_subscripts-roll x) (marks_subscripts-roll x) is (known_subscripts y)

  pub told_expr : (t : ExprTree) → OfForm ds (form_expr t) (marks_expr t)
  told_expr = ind-ExprTree (λ t. OfForm ds (form_compare t) (marks_compare t)) (λ t. OfForm ds (form_mul t) (marks_mul t)) (λ t. OfForm ds (form_neg t) (marks_neg t)) (λ t. OfForm ds (form_open t) (marks_open t)) (λ t. OfForm ds (form_prim t) (marks_prim t)) (λ t. OfForm ds (form_sign t) (marks_sign t)) (λ t. OfSuffix ds (form_suffix t) (marks_suffix t)) (λ t. OfForm ds (form_add_step t) (marks_add_step t)) (λ t. OfForm ds (form_add t) (marks_add t)) (λ t. OfForm ds (form_and t) (marks_and t)) (λ t. OfForm ds (form_expr t) (marks_expr t)) (λ t. OfGroup ds (form_group_step t) (marks_group_step t)) (λ t. OfGroup ds (form_group t) (marks_group t)) (λ t. OfForm ds (form_imp t) (marks_imp t)) (λ t. OfPair ds (form_keyed t) (marks_keyed t)) (λ t. OfForm ds (form_last_step t) (marks_last_step t)) (λ t. OfForm ds (form_mul_step t) (marks_mul_step t)) (λ t. OfForm ds (form_or t) (marks_or t)) (λ t. OfParams ds (form_params t) (marks_params t)) (λ t. OfForm ds (form_post t) (marks_post t)) (λ t. OfSet ds (form_set t) (marks_set t)) (λ t. OfForms ds (form_subscripts t) (marks_subscripts t)) step_compare step_mul step_neg step_open step_prim step_sign step_suffix step_add_step step_add step_and step_expr step_group_step step_group step_imp step_keyed step_last_step step_mul_step step_or step_params step_post step_set step_subscripts

  pub told_add : (t : AddTree) → OfForm ds (form_add t) (marks_add t)
  told_add = ind-AddTree (λ t. OfForm ds (form_compare t) (marks_compare t)) (λ t. OfForm ds (form_mul t) (marks_mul t)) (λ t. OfForm ds (form_neg t) (marks_neg t)) (λ t. OfForm ds (form_open t) (marks_open t)) (λ t. OfForm ds (form_prim t) (marks_prim t)) (λ t. OfForm ds (form_sign t) (marks_sign t)) (λ t. OfSuffix ds (form_suffix t) (marks_suffix t)) (λ t. OfForm ds (form_add_step t) (marks_add_step t)) (λ t. OfForm ds (form_add t) (marks_add t)) (λ t. OfForm ds (form_and t) (marks_and t)) (λ t. OfForm ds (form_expr t) (marks_expr t)) (λ t. OfGroup ds (form_group_step t) (marks_group_step t)) (λ t. OfGroup ds (form_group t) (marks_group t)) (λ t. OfForm ds (form_imp t) (marks_imp t)) (λ t. OfPair ds (form_keyed t) (marks_keyed t)) (λ t. OfForm ds (form_last_step t) (marks_last_step t)) (λ t. OfForm ds (form_mul_step t) (marks_mul_step t)) (λ t. OfForm ds (form_or t) (marks_or t)) (λ t. OfParams ds (form_params t) (marks_params t)) (λ t. OfForm ds (form_post t) (marks_post t)) (λ t. OfSet ds (form_set t) (marks_set t)) (λ t. OfForms ds (form_subscripts t) (marks_subscripts t)) step_compare step_mul step_neg step_open step_prim step_sign step_suffix step_add_step step_add step_and step_expr step_group_step step_group step_imp step_keyed step_last_step step_mul_step step_or step_params step_post step_set step_subscripts

  pub told_post : (t : PostTree) → OfForm ds (form_post t) (marks_post t)
  told_post = ind-PostTree (λ t. OfForm ds (form_compare t) (marks_compare t)) (λ t. OfForm ds (form_mul t) (marks_mul t)) (λ t. OfForm ds (form_neg t) (marks_neg t)) (λ t. OfForm ds (form_open t) (marks_open t)) (λ t. OfForm ds (form_prim t) (marks_prim t)) (λ t. OfForm ds (form_sign t) (marks_sign t)) (λ t. OfSuffix ds (form_suffix t) (marks_suffix t)) (λ t. OfForm ds (form_add_step t) (marks_add_step t)) (λ t. OfForm ds (form_add t) (marks_add t)) (λ t. OfForm ds (form_and t) (marks_and t)) (λ t. OfForm ds (form_expr t) (marks_expr t)) (λ t. OfGroup ds (form_group_step t) (marks_group_step t)) (λ t. OfGroup ds (form_group t) (marks_group t)) (λ t. OfForm ds (form_imp t) (marks_imp t)) (λ t. OfPair ds (form_keyed t) (marks_keyed t)) (λ t. OfForm ds (form_last_step t) (marks_last_step t)) (λ t. OfForm ds (form_mul_step t) (marks_mul_step t)) (λ t. OfForm ds (form_or t) (marks_or t)) (λ t. OfParams ds (form_params t) (marks_params t)) (λ t. OfForm ds (form_post t) (marks_post t)) (λ t. OfSet ds (form_set t) (marks_set t)) (λ t. OfForms ds (form_subscripts t) (marks_subscripts t)) step_compare step_mul step_neg step_open step_prim step_sign step_suffix step_add_step step_add step_and step_expr step_group_step step_group step_imp step_keyed step_last_step step_mul_step step_or step_params step_post step_set step_subscripts

  pub told_set : (t : SetTree) → OfSet ds (form_set t) (marks_set t)
  told_set = ind-SetTree (λ t. OfForm ds (form_compare t) (marks_compare t)) (λ t. OfForm ds (form_mul t) (marks_mul t)) (λ t. OfForm ds (form_neg t) (marks_neg t)) (λ t. OfForm ds (form_open t) (marks_open t)) (λ t. OfForm ds (form_prim t) (marks_prim t)) (λ t. OfForm ds (form_sign t) (marks_sign t)) (λ t. OfSuffix ds (form_suffix t) (marks_suffix t)) (λ t. OfForm ds (form_add_step t) (marks_add_step t)) (λ t. OfForm ds (form_add t) (marks_add t)) (λ t. OfForm ds (form_and t) (marks_and t)) (λ t. OfForm ds (form_expr t) (marks_expr t)) (λ t. OfGroup ds (form_group_step t) (marks_group_step t)) (λ t. OfGroup ds (form_group t) (marks_group t)) (λ t. OfForm ds (form_imp t) (marks_imp t)) (λ t. OfPair ds (form_keyed t) (marks_keyed t)) (λ t. OfForm ds (form_last_step t) (marks_last_step t)) (λ t. OfForm ds (form_mul_step t) (marks_mul_step t)) (λ t. OfForm ds (form_or t) (marks_or t)) (λ t. OfParams ds (form_params t) (marks_params t)) (λ t. OfForm ds (form_post t) (marks_post t)) (λ t. OfSet ds (form_set t) (marks_set t)) (λ t. OfForms ds (form_subscripts t) (marks_subscripts t)) step_compare step_mul step_neg step_open step_prim step_sign step_suffix step_add_step step_add step_and step_expr step_group_step step_group step_imp step_keyed step_last_step step_mul_step step_or step_params step_post step_set step_subscripts

  pub told_params : (t : ParamsTree) → OfParams ds (form_params t) (marks_params t)
  told_params = ind-ParamsTree (λ t. OfForm ds (form_compare t) (marks_compare t)) (λ t. OfForm ds (form_mul t) (marks_mul t)) (λ t. OfForm ds (form_neg t) (marks_neg t)) (λ t. OfForm ds (form_open t) (marks_open t)) (λ t. OfForm ds (form_prim t) (marks_prim t)) (λ t. OfForm ds (form_sign t) (marks_sign t)) (λ t. OfSuffix ds (form_suffix t) (marks_suffix t)) (λ t. OfForm ds (form_add_step t) (marks_add_step t)) (λ t. OfForm ds (form_add t) (marks_add t)) (λ t. OfForm ds (form_and t) (marks_and t)) (λ t. OfForm ds (form_expr t) (marks_expr t)) (λ t. OfGroup ds (form_group_step t) (marks_group_step t)) (λ t. OfGroup ds (form_group t) (marks_group t)) (λ t. OfForm ds (form_imp t) (marks_imp t)) (λ t. OfPair ds (form_keyed t) (marks_keyed t)) (λ t. OfForm ds (form_last_step t) (marks_last_step t)) (λ t. OfForm ds (form_mul_step t) (marks_mul_step t)) (λ t. OfForm ds (form_or t) (marks_or t)) (λ t. OfParams ds (form_params t) (marks_params t)) (λ t. OfForm ds (form_post t) (marks_post t)) (λ t. OfSet ds (form_set t) (marks_set t)) (λ t. OfForms ds (form_subscripts t) (marks_subscripts t)) step_compare step_mul step_neg step_open step_prim step_sign step_suffix step_add_step step_add step_and step_expr step_group_step step_group step_imp step_keyed step_last_step step_mul_step step_or step_params step_post step_set step_subscripts

  pub told_subscripts : (t : SubscriptsTree) → OfForms ds (form_subscripts t) (marks_subscripts t)
  told_subscripts = ind-SubscriptsTree (λ t. OfForm ds (form_compare t) (marks_compare t)) (λ t. OfForm ds (form_mul t) (marks_mul t)) (λ t. OfForm ds (form_neg t) (marks_neg t)) (λ t. OfForm ds (form_open t) (marks_open t)) (λ t. OfForm ds (form_prim t) (marks_prim t)) (λ t. OfForm ds (form_sign t) (marks_sign t)) (λ t. OfSuffix ds (form_suffix t) (marks_suffix t)) (λ t. OfForm ds (form_add_step t) (marks_add_step t)) (λ t. OfForm ds (form_add t) (marks_add t)) (λ t. OfForm ds (form_and t) (marks_and t)) (λ t. OfForm ds (form_expr t) (marks_expr t)) (λ t. OfGroup ds (form_group_step t) (marks_group_step t)) (λ t. OfGroup ds (form_group t) (marks_group t)) (λ t. OfForm ds (form_imp t) (marks_imp t)) (λ t. OfPair ds (form_keyed t) (marks_keyed t)) (λ t. OfForm ds (form_last_step t) (marks_last_step t)) (λ t. OfForm ds (form_mul_step t) (marks_mul_step t)) (λ t. OfForm ds (form_or t) (marks_or t)) (λ t. OfParams ds (form_params t) (marks_params t)) (λ t. OfForm ds (form_post t) (marks_post t)) (λ t. OfSet ds (form_set t) (marks_set t)) (λ t. OfForms ds (form_subscripts t) (marks_subscripts t)) step_compare step_mul step_neg step_open step_prim step_sign step_suffix step_add_step step_add step_and step_expr step_group_step step_group step_imp step_keyed step_last_step step_mul_step step_or step_params step_post step_set step_subscripts
