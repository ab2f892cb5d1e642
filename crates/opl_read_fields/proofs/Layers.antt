-- One layer of each kind of expression: its form and its marks, by those of its parts.
use Rattle.std.proofs.Common.{◌≡◌, List}
use Rattle.opl_tree.specs.declared.expression.CompareTree.{CompareTree}
use Rattle.opl_tree.specs.declared.expression.MulTree.{MulTree}
use Rattle.opl_tree.specs.declared.expression.NegTree.{NegTree}
use Rattle.opl_tree.specs.declared.expression.OpenTree.{OpenTree}
use Rattle.opl_tree.specs.declared.expression.PrimTree.{PrimTree}
use Rattle.opl_tree.specs.declared.expression.SignTree.{SignTree}
use Rattle.opl_tree.specs.declared.expression.SuffixTree.{SuffixTree}
use Rattle.opl_tree.specs.declared.expression.AddStep.{AddStep}
use Rattle.opl_tree.specs.declared.expression.AddTree.{AddTree}
use Rattle.opl_tree.specs.declared.expression.AndTree.{AndTree}
use Rattle.opl_tree.specs.declared.expression.ExprTree.{ExprTree}
use Rattle.opl_tree.specs.declared.expression.GroupStep.{GroupStep}
use Rattle.opl_tree.specs.declared.expression.GroupTree.{GroupTree}
use Rattle.opl_tree.specs.declared.expression.ImpTree.{ImpTree}
use Rattle.opl_tree.specs.declared.expression.KeyedTree.{KeyedTree}
use Rattle.opl_tree.specs.declared.expression.LastStep.{LastStep}
use Rattle.opl_tree.specs.declared.expression.MulStep.{MulStep}
use Rattle.opl_tree.specs.declared.expression.OrTree.{OrTree}
use Rattle.opl_tree.specs.declared.expression.ParamsTree.{ParamsTree}
use Rattle.opl_tree.specs.declared.expression.PostTree.{PostTree}
use Rattle.opl_tree.specs.declared.expression.SetTree.{SetTree}
use Rattle.opl_tree.specs.declared.expression.SubscriptsTree.{SubscriptsTree}
use Rattle.opl_tree.specs.declared.expression.CompareTree.TheOpen.{CompareTree-F, MulTree-F, NegTree-F, OpenTree-F, PrimTree-F, SignTree-F, SuffixTree-F, AddStep-F, AddTree-F, AndTree-F, ExprTree-F, GroupStep-F, GroupTree-F, ImpTree-F, KeyedTree-F, LastStep-F, MulStep-F, OrTree-F, ParamsTree-F, PostTree-F, SetTree-F, SubscriptsTree-F}
use Rattle.opl_tree.specs.declared.expression.CompareTree.TheViews.{roll-CompareTree, roll-MulTree, roll-NegTree, roll-OpenTree, roll-PrimTree, roll-SignTree, roll-SuffixTree, roll-AddStep, roll-AddTree, roll-AndTree, roll-ExprTree, roll-GroupStep, roll-GroupTree, roll-ImpTree, roll-KeyedTree, roll-LastStep, roll-MulStep, roll-OrTree, roll-ParamsTree, roll-PostTree, roll-SetTree, roll-SubscriptsTree}
use Rattle.opl_tree.specs.declared.expression.CompareTree.TheFolds.{map-CompareTree, map-MulTree, map-NegTree, map-OpenTree, map-PrimTree, map-SignTree, map-SuffixTree, map-AddStep, map-AddTree, map-AndTree, map-ExprTree, map-GroupStep, map-GroupTree, map-ImpTree, map-KeyedTree, map-LastStep, map-MulStep, map-OrTree, map-ParamsTree, map-PostTree, map-SetTree, map-SubscriptsTree, fold-roll-CompareTree, fold-roll-MulTree, fold-roll-NegTree, fold-roll-OpenTree, fold-roll-PrimTree, fold-roll-SignTree, fold-roll-SuffixTree, fold-roll-AddStep, fold-roll-AddTree, fold-roll-AndTree, fold-roll-ExprTree, fold-roll-GroupStep, fold-roll-GroupTree, fold-roll-ImpTree, fold-roll-KeyedTree, fold-roll-LastStep, fold-roll-MulStep, fold-roll-OrTree, fold-roll-ParamsTree, fold-roll-PostTree, fold-roll-SetTree, fold-roll-SubscriptsTree}
use Rattle.opl_tree.specs.Marks.{Marks, marks_compare, marks_mul, marks_neg, marks_open, marks_prim, marks_sign, marks_suffix, marks_add_step, marks_add, marks_and, marks_expr, marks_group_step, marks_group, marks_imp, marks_keyed, marks_last_step, marks_mul_step, marks_or, marks_params, marks_post, marks_set, marks_subscripts, compare_marks, mul_marks, neg_marks, open_marks, prim_marks, sign_marks, suffix_marks, add_step_marks, add_marks, and_marks, expr_marks, group_step_marks, group_marks, imp_marks, keyed_marks, last_step_marks, mul_step_marks, or_marks, params_marks, post_marks, set_marks, subscripts_marks}
use Rattle.opl_type_rules.specs.Forms.{Form, Group, Pair, Params, SetForm, Suffix, form_compare, form_mul, form_neg, form_open, form_prim, form_sign, form_suffix, form_add_step, form_add, form_and, form_expr, form_group_step, form_group, form_imp, form_keyed, form_last_step, form_mul_step, form_or, form_params, form_post, form_set, form_subscripts, compare_layer, mul_layer, neg_layer, open_layer, prim_layer, sign_layer, suffix_layer, add_step_layer, add_layer, and_layer, expr_layer, group_step_layer, group_layer, imp_layer, keyed_layer, last_step_layer, mul_step_layer, or_layer, params_layer, post_layer, set_layer, subscripts_layer}

-- one layer, by the types of its parts
abbrev pub Layer : Type 1
Layer = (A1 A2 A3 A4 A5 A6 A7 A8 A9 A10 A11 A12 A13 A14 A15 A16 A17 A18 A19 A20 A21 A22 : Type 0) → Type 0

-- what is made of a layer, when something is made of each of its parts
abbrev pub Mapping : Layer → Type 1
Mapping F = (A1 A2 A3 A4 A5 A6 A7 A8 A9 A10 A11 A12 A13 A14 A15 A16 A17 A18 A19 A20 A21 A22 B1 B2 B3 B4 B5 B6 B7 B8 B9 B10 B11 B12 B13 B14 B15 B16 B17 B18 B19 B20 B21 B22 : Type 0) → (A1 → B1) → (A2 → B2) → (A3 → B3) → (A4 → B4) → (A5 → B5) → (A6 → B6) → (A7 → B7) → (A8 → B8) → (A9 → B9) → (A10 → B10) → (A11 → B11) → (A12 → B12) → (A13 → B13) → (A14 → B14) → (A15 → B15) → (A16 → B16) → (A17 → B17) → (A18 → B18) → (A19 → B19) → (A20 → B20) → (A21 → B21) → (A22 → B22) → F A1 A2 A3 A4 A5 A6 A7 A8 A9 A10 A11 A12 A13 A14 A15 A16 A17 A18 A19 A20 A21 A22 → F B1 B2 B3 B4 B5 B6 B7 B8 B9 B10 B11 B12 B13 B14 B15 B16 B17 B18 B19 B20 B21 B22

abbrev pub OfTrees : Layer → Type 0
OfTrees F = F CompareTree MulTree NegTree OpenTree PrimTree SignTree SuffixTree AddStep AddTree AndTree ExprTree GroupStep GroupTree ImpTree KeyedTree LastStep MulStep OrTree ParamsTree PostTree SetTree SubscriptsTree

-- with the forms of the parts
abbrev pub forms_in : (F : Layer) → Mapping F → OfTrees F → F Form Form Form Form Form Form Suffix Form Form Form Form Group Group Form Pair Form Form Form Params Form SetForm (List Form)
forms_in F m = m CompareTree MulTree NegTree OpenTree PrimTree SignTree SuffixTree AddStep AddTree AndTree ExprTree GroupStep GroupTree ImpTree KeyedTree LastStep MulStep OrTree ParamsTree PostTree SetTree SubscriptsTree Form Form Form Form Form Form Suffix Form Form Form Form Group Group Form Pair Form Form Form Params Form SetForm (List Form) form_compare form_mul form_neg form_open form_prim form_sign form_suffix form_add_step form_add form_and form_expr form_group_step form_group form_imp form_keyed form_last_step form_mul_step form_or form_params form_post form_set form_subscripts

-- with their marks
abbrev pub marks_in : (F : Layer) → Mapping F → OfTrees F → F Marks Marks Marks Marks Marks Marks Marks Marks Marks Marks Marks Marks Marks Marks Marks Marks Marks Marks Marks Marks Marks Marks
marks_in F m = m CompareTree MulTree NegTree OpenTree PrimTree SignTree SuffixTree AddStep AddTree AndTree ExprTree GroupStep GroupTree ImpTree KeyedTree LastStep MulStep OrTree ParamsTree PostTree SetTree SubscriptsTree Marks Marks Marks Marks Marks Marks Marks Marks Marks Marks Marks Marks Marks Marks Marks Marks Marks Marks Marks Marks Marks Marks marks_compare marks_mul marks_neg marks_open marks_prim marks_sign marks_suffix marks_add_step marks_add marks_and marks_expr marks_group_step marks_group marks_imp marks_keyed marks_last_step marks_mul_step marks_or marks_params marks_post marks_set marks_subscripts

pub form_compare-roll : (x : OfTrees CompareTree-F) → form_compare (roll-CompareTree x) ≡ compare_layer (forms_in CompareTree-F map-CompareTree x)
unfolding form_compare form_mul form_neg form_open form_prim form_sign form_suffix form_add_step form_add form_and form_expr form_group_step form_group form_imp form_keyed form_last_step form_mul_step form_or form_params form_post form_set form_subscripts
form_compare-roll x = fold-roll-CompareTree Form Form Form Form Form Form Suffix Form Form Form Form Group Group Form Pair Form Form Form Params Form SetForm (List Form) compare_layer mul_layer neg_layer open_layer prim_layer sign_layer suffix_layer add_step_layer add_layer and_layer expr_layer group_step_layer group_layer imp_layer keyed_layer last_step_layer mul_step_layer or_layer params_layer post_layer set_layer subscripts_layer x

pub form_mul-roll : (x : OfTrees MulTree-F) → form_mul (roll-MulTree x) ≡ mul_layer (forms_in MulTree-F map-MulTree x)
unfolding form_compare form_mul form_neg form_open form_prim form_sign form_suffix form_add_step form_add form_and form_expr form_group_step form_group form_imp form_keyed form_last_step form_mul_step form_or form_params form_post form_set form_subscripts
form_mul-roll x = fold-roll-MulTree Form Form Form Form Form Form Suffix Form Form Form Form Group Group Form Pair Form Form Form Params Form SetForm (List Form) compare_layer mul_layer neg_layer open_layer prim_layer sign_layer suffix_layer add_step_layer add_layer and_layer expr_layer group_step_layer group_layer imp_layer keyed_layer last_step_layer mul_step_layer or_layer params_layer post_layer set_layer subscripts_layer x

pub form_neg-roll : (x : OfTrees NegTree-F) → form_neg (roll-NegTree x) ≡ neg_layer (forms_in NegTree-F map-NegTree x)
unfolding form_compare form_mul form_neg form_open form_prim form_sign form_suffix form_add_step form_add form_and form_expr form_group_step form_group form_imp form_keyed form_last_step form_mul_step form_or form_params form_post form_set form_subscripts
form_neg-roll x = fold-roll-NegTree Form Form Form Form Form Form Suffix Form Form Form Form Group Group Form Pair Form Form Form Params Form SetForm (List Form) compare_layer mul_layer neg_layer open_layer prim_layer sign_layer suffix_layer add_step_layer add_layer and_layer expr_layer group_step_layer group_layer imp_layer keyed_layer last_step_layer mul_step_layer or_layer params_layer post_layer set_layer subscripts_layer x

pub form_open-roll : (x : OfTrees OpenTree-F) → form_open (roll-OpenTree x) ≡ open_layer (forms_in OpenTree-F map-OpenTree x)
unfolding form_compare form_mul form_neg form_open form_prim form_sign form_suffix form_add_step form_add form_and form_expr form_group_step form_group form_imp form_keyed form_last_step form_mul_step form_or form_params form_post form_set form_subscripts
form_open-roll x = fold-roll-OpenTree Form Form Form Form Form Form Suffix Form Form Form Form Group Group Form Pair Form Form Form Params Form SetForm (List Form) compare_layer mul_layer neg_layer open_layer prim_layer sign_layer suffix_layer add_step_layer add_layer and_layer expr_layer group_step_layer group_layer imp_layer keyed_layer last_step_layer mul_step_layer or_layer params_layer post_layer set_layer subscripts_layer x

pub form_prim-roll : (x : OfTrees PrimTree-F) → form_prim (roll-PrimTree x) ≡ prim_layer (forms_in PrimTree-F map-PrimTree x)
unfolding form_compare form_mul form_neg form_open form_prim form_sign form_suffix form_add_step form_add form_and form_expr form_group_step form_group form_imp form_keyed form_last_step form_mul_step form_or form_params form_post form_set form_subscripts
form_prim-roll x = fold-roll-PrimTree Form Form Form Form Form Form Suffix Form Form Form Form Group Group Form Pair Form Form Form Params Form SetForm (List Form) compare_layer mul_layer neg_layer open_layer prim_layer sign_layer suffix_layer add_step_layer add_layer and_layer expr_layer group_step_layer group_layer imp_layer keyed_layer last_step_layer mul_step_layer or_layer params_layer post_layer set_layer subscripts_layer x

pub form_sign-roll : (x : OfTrees SignTree-F) → form_sign (roll-SignTree x) ≡ sign_layer (forms_in SignTree-F map-SignTree x)
unfolding form_compare form_mul form_neg form_open form_prim form_sign form_suffix form_add_step form_add form_and form_expr form_group_step form_group form_imp form_keyed form_last_step form_mul_step form_or form_params form_post form_set form_subscripts
form_sign-roll x = fold-roll-SignTree Form Form Form Form Form Form Suffix Form Form Form Form Group Group Form Pair Form Form Form Params Form SetForm (List Form) compare_layer mul_layer neg_layer open_layer prim_layer sign_layer suffix_layer add_step_layer add_layer and_layer expr_layer group_step_layer group_layer imp_layer keyed_layer last_step_layer mul_step_layer or_layer params_layer post_layer set_layer subscripts_layer x

pub form_suffix-roll : (x : OfTrees SuffixTree-F) → form_suffix (roll-SuffixTree x) ≡ suffix_layer (forms_in SuffixTree-F map-SuffixTree x)
unfolding form_compare form_mul form_neg form_open form_prim form_sign form_suffix form_add_step form_add form_and form_expr form_group_step form_group form_imp form_keyed form_last_step form_mul_step form_or form_params form_post form_set form_subscripts
form_suffix-roll x = fold-roll-SuffixTree Form Form Form Form Form Form Suffix Form Form Form Form Group Group Form Pair Form Form Form Params Form SetForm (List Form) compare_layer mul_layer neg_layer open_layer prim_layer sign_layer suffix_layer add_step_layer add_layer and_layer expr_layer group_step_layer group_layer imp_layer keyed_layer last_step_layer mul_step_layer or_layer params_layer post_layer set_layer subscripts_layer x

pub form_add_step-roll : (x : OfTrees AddStep-F) → form_add_step (roll-AddStep x) ≡ add_step_layer (forms_in AddStep-F map-AddStep x)
unfolding form_compare form_mul form_neg form_open form_prim form_sign form_suffix form_add_step form_add form_and form_expr form_group_step form_group form_imp form_keyed form_last_step form_mul_step form_or form_params form_post form_set form_subscripts
form_add_step-roll x = fold-roll-AddStep Form Form Form Form Form Form Suffix Form Form Form Form Group Group Form Pair Form Form Form Params Form SetForm (List Form) compare_layer mul_layer neg_layer open_layer prim_layer sign_layer suffix_layer add_step_layer add_layer and_layer expr_layer group_step_layer group_layer imp_layer keyed_layer last_step_layer mul_step_layer or_layer params_layer post_layer set_layer subscripts_layer x

pub form_add-roll : (x : OfTrees AddTree-F) → form_add (roll-AddTree x) ≡ add_layer (forms_in AddTree-F map-AddTree x)
unfolding form_compare form_mul form_neg form_open form_prim form_sign form_suffix form_add_step form_add form_and form_expr form_group_step form_group form_imp form_keyed form_last_step form_mul_step form_or form_params form_post form_set form_subscripts
form_add-roll x = fold-roll-AddTree Form Form Form Form Form Form Suffix Form Form Form Form Group Group Form Pair Form Form Form Params Form SetForm (List Form) compare_layer mul_layer neg_layer open_layer prim_layer sign_layer suffix_layer add_step_layer add_layer and_layer expr_layer group_step_layer group_layer imp_layer keyed_layer last_step_layer mul_step_layer or_layer params_layer post_layer set_layer subscripts_layer x

pub form_and-roll : (x : OfTrees AndTree-F) → form_and (roll-AndTree x) ≡ and_layer (forms_in AndTree-F map-AndTree x)
unfolding form_compare form_mul form_neg form_open form_prim form_sign form_suffix form_add_step form_add form_and form_expr form_group_step form_group form_imp form_keyed form_last_step form_mul_step form_or form_params form_post form_set form_subscripts
form_and-roll x = fold-roll-AndTree Form Form Form Form Form Form Suffix Form Form Form Form Group Group Form Pair Form Form Form Params Form SetForm (List Form) compare_layer mul_layer neg_layer open_layer prim_layer sign_layer suffix_layer add_step_layer add_layer and_layer expr_layer group_step_layer group_layer imp_layer keyed_layer last_step_layer mul_step_layer or_layer params_layer post_layer set_layer subscripts_layer x

pub form_expr-roll : (x : OfTrees ExprTree-F) → form_expr (roll-ExprTree x) ≡ expr_layer (forms_in ExprTree-F map-ExprTree x)
unfolding form_compare form_mul form_neg form_open form_prim form_sign form_suffix form_add_step form_add form_and form_expr form_group_step form_group form_imp form_keyed form_last_step form_mul_step form_or form_params form_post form_set form_subscripts
form_expr-roll x = fold-roll-ExprTree Form Form Form Form Form Form Suffix Form Form Form Form Group Group Form Pair Form Form Form Params Form SetForm (List Form) compare_layer mul_layer neg_layer open_layer prim_layer sign_layer suffix_layer add_step_layer add_layer and_layer expr_layer group_step_layer group_layer imp_layer keyed_layer last_step_layer mul_step_layer or_layer params_layer post_layer set_layer subscripts_layer x

pub form_group_step-roll : (x : OfTrees GroupStep-F) → form_group_step (roll-GroupStep x) ≡ group_step_layer (forms_in GroupStep-F map-GroupStep x)
unfolding form_compare form_mul form_neg form_open form_prim form_sign form_suffix form_add_step form_add form_and form_expr form_group_step form_group form_imp form_keyed form_last_step form_mul_step form_or form_params form_post form_set form_subscripts
form_group_step-roll x = fold-roll-GroupStep Form Form Form Form Form Form Suffix Form Form Form Form Group Group Form Pair Form Form Form Params Form SetForm (List Form) compare_layer mul_layer neg_layer open_layer prim_layer sign_layer suffix_layer add_step_layer add_layer and_layer expr_layer group_step_layer group_layer imp_layer keyed_layer last_step_layer mul_step_layer or_layer params_layer post_layer set_layer subscripts_layer x

pub form_group-roll : (x : OfTrees GroupTree-F) → form_group (roll-GroupTree x) ≡ group_layer (forms_in GroupTree-F map-GroupTree x)
unfolding form_compare form_mul form_neg form_open form_prim form_sign form_suffix form_add_step form_add form_and form_expr form_group_step form_group form_imp form_keyed form_last_step form_mul_step form_or form_params form_post form_set form_subscripts
form_group-roll x = fold-roll-GroupTree Form Form Form Form Form Form Suffix Form Form Form Form Group Group Form Pair Form Form Form Params Form SetForm (List Form) compare_layer mul_layer neg_layer open_layer prim_layer sign_layer suffix_layer add_step_layer add_layer and_layer expr_layer group_step_layer group_layer imp_layer keyed_layer last_step_layer mul_step_layer or_layer params_layer post_layer set_layer subscripts_layer x

pub form_imp-roll : (x : OfTrees ImpTree-F) → form_imp (roll-ImpTree x) ≡ imp_layer (forms_in ImpTree-F map-ImpTree x)
unfolding form_compare form_mul form_neg form_open form_prim form_sign form_suffix form_add_step form_add form_and form_expr form_group_step form_group form_imp form_keyed form_last_step form_mul_step form_or form_params form_post form_set form_subscripts
form_imp-roll x = fold-roll-ImpTree Form Form Form Form Form Form Suffix Form Form Form Form Group Group Form Pair Form Form Form Params Form SetForm (List Form) compare_layer mul_layer neg_layer open_layer prim_layer sign_layer suffix_layer add_step_layer add_layer and_layer expr_layer group_step_layer group_layer imp_layer keyed_layer last_step_layer mul_step_layer or_layer params_layer post_layer set_layer subscripts_layer x

pub form_keyed-roll : (x : OfTrees KeyedTree-F) → form_keyed (roll-KeyedTree x) ≡ keyed_layer (forms_in KeyedTree-F map-KeyedTree x)
unfolding form_compare form_mul form_neg form_open form_prim form_sign form_suffix form_add_step form_add form_and form_expr form_group_step form_group form_imp form_keyed form_last_step form_mul_step form_or form_params form_post form_set form_subscripts
form_keyed-roll x = fold-roll-KeyedTree Form Form Form Form Form Form Suffix Form Form Form Form Group Group Form Pair Form Form Form Params Form SetForm (List Form) compare_layer mul_layer neg_layer open_layer prim_layer sign_layer suffix_layer add_step_layer add_layer and_layer expr_layer group_step_layer group_layer imp_layer keyed_layer last_step_layer mul_step_layer or_layer params_layer post_layer set_layer subscripts_layer x

pub form_last_step-roll : (x : OfTrees LastStep-F) → form_last_step (roll-LastStep x) ≡ last_step_layer (forms_in LastStep-F map-LastStep x)
unfolding form_compare form_mul form_neg form_open form_prim form_sign form_suffix form_add_step form_add form_and form_expr form_group_step form_group form_imp form_keyed form_last_step form_mul_step form_or form_params form_post form_set form_subscripts
form_last_step-roll x = fold-roll-LastStep Form Form Form Form Form Form Suffix Form Form Form Form Group Group Form Pair Form Form Form Params Form SetForm (List Form) compare_layer mul_layer neg_layer open_layer prim_layer sign_layer suffix_layer add_step_layer add_layer and_layer expr_layer group_step_layer group_layer imp_layer keyed_layer last_step_layer mul_step_layer or_layer params_layer post_layer set_layer subscripts_layer x

pub form_mul_step-roll : (x : OfTrees MulStep-F) → form_mul_step (roll-MulStep x) ≡ mul_step_layer (forms_in MulStep-F map-MulStep x)
unfolding form_compare form_mul form_neg form_open form_prim form_sign form_suffix form_add_step form_add form_and form_expr form_group_step form_group form_imp form_keyed form_last_step form_mul_step form_or form_params form_post form_set form_subscripts
form_mul_step-roll x = fold-roll-MulStep Form Form Form Form Form Form Suffix Form Form Form Form Group Group Form Pair Form Form Form Params Form SetForm (List Form) compare_layer mul_layer neg_layer open_layer prim_layer sign_layer suffix_layer add_step_layer add_layer and_layer expr_layer group_step_layer group_layer imp_layer keyed_layer last_step_layer mul_step_layer or_layer params_layer post_layer set_layer subscripts_layer x

pub form_or-roll : (x : OfTrees OrTree-F) → form_or (roll-OrTree x) ≡ or_layer (forms_in OrTree-F map-OrTree x)
unfolding form_compare form_mul form_neg form_open form_prim form_sign form_suffix form_add_step form_add form_and form_expr form_group_step form_group form_imp form_keyed form_last_step form_mul_step form_or form_params form_post form_set form_subscripts
form_or-roll x = fold-roll-OrTree Form Form Form Form Form Form Suffix Form Form Form Form Group Group Form Pair Form Form Form Params Form SetForm (List Form) compare_layer mul_layer neg_layer open_layer prim_layer sign_layer suffix_layer add_step_layer add_layer and_layer expr_layer group_step_layer group_layer imp_layer keyed_layer last_step_layer mul_step_layer or_layer params_layer post_layer set_layer subscripts_layer x

pub form_params-roll : (x : OfTrees ParamsTree-F) → form_params (roll-ParamsTree x) ≡ params_layer (forms_in ParamsTree-F map-ParamsTree x)
unfolding form_compare form_mul form_neg form_open form_prim form_sign form_suffix form_add_step form_add form_and form_expr form_group_step form_group form_imp form_keyed form_last_step form_mul_step form_or form_params form_post form_set form_subscripts
form_params-roll x = fold-roll-ParamsTree Form Form Form Form Form Form Suffix Form Form Form Form Group Group Form Pair Form Form Form Params Form SetForm (List Form) compare_layer mul_layer neg_layer open_layer prim_layer sign_layer suffix_layer add_step_layer add_layer and_layer expr_layer group_step_layer group_layer imp_layer keyed_layer last_step_layer mul_step_layer or_layer params_layer post_layer set_layer subscripts_layer x

pub form_post-roll : (x : OfTrees PostTree-F) → form_post (roll-PostTree x) ≡ post_layer (forms_in PostTree-F map-PostTree x)
unfolding form_compare form_mul form_neg form_open form_prim form_sign form_suffix form_add_step form_add form_and form_expr form_group_step form_group form_imp form_keyed form_last_step form_mul_step form_or form_params form_post form_set form_subscripts
form_post-roll x = fold-roll-PostTree Form Form Form Form Form Form Suffix Form Form Form Form Group Group Form Pair Form Form Form Params Form SetForm (List Form) compare_layer mul_layer neg_layer open_layer prim_layer sign_layer suffix_layer add_step_layer add_layer and_layer expr_layer group_step_layer group_layer imp_layer keyed_layer last_step_layer mul_step_layer or_layer params_layer post_layer set_layer subscripts_layer x

pub form_set-roll : (x : OfTrees SetTree-F) → form_set (roll-SetTree x) ≡ set_layer (forms_in SetTree-F map-SetTree x)
unfolding form_compare form_mul form_neg form_open form_prim form_sign form_suffix form_add_step form_add form_and form_expr form_group_step form_group form_imp form_keyed form_last_step form_mul_step form_or form_params form_post form_set form_subscripts
form_set-roll x = fold-roll-SetTree Form Form Form Form Form Form Suffix Form Form Form Form Group Group Form Pair Form Form Form Params Form SetForm (List Form) compare_layer mul_layer neg_layer open_layer prim_layer sign_layer suffix_layer add_step_layer add_layer and_layer expr_layer group_step_layer group_layer imp_layer keyed_layer last_step_layer mul_step_layer or_layer params_layer post_layer set_layer subscripts_layer x

pub form_subscripts-roll : (x : OfTrees SubscriptsTree-F) → form_subscripts (roll-SubscriptsTree x) ≡ subscripts_layer (forms_in SubscriptsTree-F map-SubscriptsTree x)
unfolding form_compare form_mul form_neg form_open form_prim form_sign form_suffix form_add_step form_add form_and form_expr form_group_step form_group form_imp form_keyed form_last_step form_mul_step form_or form_params form_post form_set form_subscripts
form_subscripts-roll x = fold-roll-SubscriptsTree Form Form Form Form Form Form Suffix Form Form Form Form Group Group Form Pair Form Form Form Params Form SetForm (List Form) compare_layer mul_layer neg_layer open_layer prim_layer sign_layer suffix_layer add_step_layer add_layer and_layer expr_layer group_step_layer group_layer imp_layer keyed_layer last_step_layer mul_step_layer or_layer params_layer post_layer set_layer subscripts_layer x

pub marks_compare-roll : (x : OfTrees CompareTree-F) → marks_compare (roll-CompareTree x) ≡ compare_marks (marks_in CompareTree-F map-CompareTree x)
unfolding marks_compare marks_mul marks_neg marks_open marks_prim marks_sign marks_suffix marks_add_step marks_add marks_and marks_expr marks_group_step marks_group marks_imp marks_keyed marks_last_step marks_mul_step marks_or marks_params marks_post marks_set marks_subscripts
marks_compare-roll x = fold-roll-CompareTree Marks Marks Marks Marks Marks Marks Marks Marks Marks Marks Marks Marks Marks Marks Marks Marks Marks Marks Marks Marks Marks Marks compare_marks mul_marks neg_marks open_marks prim_marks sign_marks suffix_marks add_step_marks add_marks and_marks expr_marks group_step_marks group_marks imp_marks keyed_marks last_step_marks mul_step_marks or_marks params_marks post_marks set_marks subscripts_marks x

pub marks_mul-roll : (x : OfTrees MulTree-F) → marks_mul (roll-MulTree x) ≡ mul_marks (marks_in MulTree-F map-MulTree x)
unfolding marks_compare marks_mul marks_neg marks_open marks_prim marks_sign marks_suffix marks_add_step marks_add marks_and marks_expr marks_group_step marks_group marks_imp marks_keyed marks_last_step marks_mul_step marks_or marks_params marks_post marks_set marks_subscripts
marks_mul-roll x = fold-roll-MulTree Marks Marks Marks Marks Marks Marks Marks Marks Marks Marks Marks Marks Marks Marks Marks Marks Marks Marks Marks Marks Marks Marks compare_marks mul_marks neg_marks open_marks prim_marks sign_marks suffix_marks add_step_marks add_marks and_marks expr_marks group_step_marks group_marks imp_marks keyed_marks last_step_marks mul_step_marks or_marks params_marks post_marks set_marks subscripts_marks x

pub marks_neg-roll : (x : OfTrees NegTree-F) → marks_neg (roll-NegTree x) ≡ neg_marks (marks_in NegTree-F map-NegTree x)
unfolding marks_compare marks_mul marks_neg marks_open marks_prim marks_sign marks_suffix marks_add_step marks_add marks_and marks_expr marks_group_step marks_group marks_imp marks_keyed marks_last_step marks_mul_step marks_or marks_params marks_post marks_set marks_subscripts
marks_neg-roll x = fold-roll-NegTree Marks Marks Marks Marks Marks Marks Marks Marks Marks Marks Marks Marks Marks Marks Marks Marks Marks Marks Marks Marks Marks Marks compare_marks mul_marks neg_marks open_marks prim_marks sign_marks suffix_marks add_step_marks add_marks and_marks expr_marks group_step_marks group_marks imp_marks keyed_marks last_step_marks mul_step_marks or_marks params_marks post_marks set_marks subscripts_marks x

pub marks_open-roll : (x : OfTrees OpenTree-F) → marks_open (roll-OpenTree x) ≡ open_marks (marks_in OpenTree-F map-OpenTree x)
unfolding marks_compare marks_mul marks_neg marks_open marks_prim marks_sign marks_suffix marks_add_step marks_add marks_and marks_expr marks_group_step marks_group marks_imp marks_keyed marks_last_step marks_mul_step marks_or marks_params marks_post marks_set marks_subscripts
marks_open-roll x = fold-roll-OpenTree Marks Marks Marks Marks Marks Marks Marks Marks Marks Marks Marks Marks Marks Marks Marks Marks Marks Marks Marks Marks Marks Marks compare_marks mul_marks neg_marks open_marks prim_marks sign_marks suffix_marks add_step_marks add_marks and_marks expr_marks group_step_marks group_marks imp_marks keyed_marks last_step_marks mul_step_marks or_marks params_marks post_marks set_marks subscripts_marks x

pub marks_prim-roll : (x : OfTrees PrimTree-F) → marks_prim (roll-PrimTree x) ≡ prim_marks (marks_in PrimTree-F map-PrimTree x)
unfolding marks_compare marks_mul marks_neg marks_open marks_prim marks_sign marks_suffix marks_add_step marks_add marks_and marks_expr marks_group_step marks_group marks_imp marks_keyed marks_last_step marks_mul_step marks_or marks_params marks_post marks_set marks_subscripts
marks_prim-roll x = fold-roll-PrimTree Marks Marks Marks Marks Marks Marks Marks Marks Marks Marks Marks Marks Marks Marks Marks Marks Marks Marks Marks Marks Marks Marks compare_marks mul_marks neg_marks open_marks prim_marks sign_marks suffix_marks add_step_marks add_marks and_marks expr_marks group_step_marks group_marks imp_marks keyed_marks last_step_marks mul_step_marks or_marks params_marks post_marks set_marks subscripts_marks x

pub marks_sign-roll : (x : OfTrees SignTree-F) → marks_sign (roll-SignTree x) ≡ sign_marks (marks_in SignTree-F map-SignTree x)
unfolding marks_compare marks_mul marks_neg marks_open marks_prim marks_sign marks_suffix marks_add_step marks_add marks_and marks_expr marks_group_step marks_group marks_imp marks_keyed marks_last_step marks_mul_step marks_or marks_params marks_post marks_set marks_subscripts
marks_sign-roll x = fold-roll-SignTree Marks Marks Marks Marks Marks Marks Marks Marks Marks Marks Marks Marks Marks Marks Marks Marks Marks Marks Marks Marks Marks Marks compare_marks mul_marks neg_marks open_marks prim_marks sign_marks suffix_marks add_step_marks add_marks and_marks expr_marks group_step_marks group_marks imp_marks keyed_marks last_step_marks mul_step_marks or_marks params_marks post_marks set_marks subscripts_marks x

pub marks_suffix-roll : (x : OfTrees SuffixTree-F) → marks_suffix (roll-SuffixTree x) ≡ suffix_marks (marks_in SuffixTree-F map-SuffixTree x)
unfolding marks_compare marks_mul marks_neg marks_open marks_prim marks_sign marks_suffix marks_add_step marks_add marks_and marks_expr marks_group_step marks_group marks_imp marks_keyed marks_last_step marks_mul_step marks_or marks_params marks_post marks_set marks_subscripts
marks_suffix-roll x = fold-roll-SuffixTree Marks Marks Marks Marks Marks Marks Marks Marks Marks Marks Marks Marks Marks Marks Marks Marks Marks Marks Marks Marks Marks Marks compare_marks mul_marks neg_marks open_marks prim_marks sign_marks suffix_marks add_step_marks add_marks and_marks expr_marks group_step_marks group_marks imp_marks keyed_marks last_step_marks mul_step_marks or_marks params_marks post_marks set_marks subscripts_marks x

pub marks_add_step-roll : (x : OfTrees AddStep-F) → marks_add_step (roll-AddStep x) ≡ add_step_marks (marks_in AddStep-F map-AddStep x)
unfolding marks_compare marks_mul marks_neg marks_open marks_prim marks_sign marks_suffix marks_add_step marks_add marks_and marks_expr marks_group_step marks_group marks_imp marks_keyed marks_last_step marks_mul_step marks_or marks_params marks_post marks_set marks_subscripts
marks_add_step-roll x = fold-roll-AddStep Marks Marks Marks Marks Marks Marks Marks Marks Marks Marks Marks Marks Marks Marks Marks Marks Marks Marks Marks Marks Marks Marks compare_marks mul_marks neg_marks open_marks prim_marks sign_marks suffix_marks add_step_marks add_marks and_marks expr_marks group_step_marks group_marks imp_marks keyed_marks last_step_marks mul_step_marks or_marks params_marks post_marks set_marks subscripts_marks x

pub marks_add-roll : (x : OfTrees AddTree-F) → marks_add (roll-AddTree x) ≡ add_marks (marks_in AddTree-F map-AddTree x)
unfolding marks_compare marks_mul marks_neg marks_open marks_prim marks_sign marks_suffix marks_add_step marks_add marks_and marks_expr marks_group_step marks_group marks_imp marks_keyed marks_last_step marks_mul_step marks_or marks_params marks_post marks_set marks_subscripts
marks_add-roll x = fold-roll-AddTree Marks Marks Marks Marks Marks Marks Marks Marks Marks Marks Marks Marks Marks Marks Marks Marks Marks Marks Marks Marks Marks Marks compare_marks mul_marks neg_marks open_marks prim_marks sign_marks suffix_marks add_step_marks add_marks and_marks expr_marks group_step_marks group_marks imp_marks keyed_marks last_step_marks mul_step_marks or_marks params_marks post_marks set_marks subscripts_marks x

pub marks_and-roll : (x : OfTrees AndTree-F) → marks_and (roll-AndTree x) ≡ and_marks (marks_in AndTree-F map-AndTree x)
unfolding marks_compare marks_mul marks_neg marks_open marks_prim marks_sign marks_suffix marks_add_step marks_add marks_and marks_expr marks_group_step marks_group marks_imp marks_keyed marks_last_step marks_mul_step marks_or marks_params marks_post marks_set marks_subscripts
marks_and-roll x = fold-roll-AndTree Marks Marks Marks Marks Marks Marks Marks Marks Marks Marks Marks Marks Marks Marks Marks Marks Marks Marks Marks Marks Marks Marks compare_marks mul_marks neg_marks open_marks prim_marks sign_marks suffix_marks add_step_marks add_marks and_marks expr_marks group_step_marks group_marks imp_marks keyed_marks last_step_marks mul_step_marks or_marks params_marks post_marks set_marks subscripts_marks x

pub marks_expr-roll : (x : OfTrees ExprTree-F) → marks_expr (roll-ExprTree x) ≡ expr_marks (marks_in ExprTree-F map-ExprTree x)
unfolding marks_compare marks_mul marks_neg marks_open marks_prim marks_sign marks_suffix marks_add_step marks_add marks_and marks_expr marks_group_step marks_group marks_imp marks_keyed marks_last_step marks_mul_step marks_or marks_params marks_post marks_set marks_subscripts
marks_expr-roll x = fold-roll-ExprTree Marks Marks Marks Marks Marks Marks Marks Marks Marks Marks Marks Marks Marks Marks Marks Marks Marks Marks Marks Marks Marks Marks compare_marks mul_marks neg_marks open_marks prim_marks sign_marks suffix_marks add_step_marks add_marks and_marks expr_marks group_step_marks group_marks imp_marks keyed_marks last_step_marks mul_step_marks or_marks params_marks post_marks set_marks subscripts_marks x

pub marks_group_step-roll : (x : OfTrees GroupStep-F) → marks_group_step (roll-GroupStep x) ≡ group_step_marks (marks_in GroupStep-F map-GroupStep x)
unfolding marks_compare marks_mul marks_neg marks_open marks_prim marks_sign marks_suffix marks_add_step marks_add marks_and marks_expr marks_group_step marks_group marks_imp marks_keyed marks_last_step marks_mul_step marks_or marks_params marks_post marks_set marks_subscripts
marks_group_step-roll x = fold-roll-GroupStep Marks Marks Marks Marks Marks Marks Marks Marks Marks Marks Marks Marks Marks Marks Marks Marks Marks Marks Marks Marks Marks Marks compare_marks mul_marks neg_marks open_marks prim_marks sign_marks suffix_marks add_step_marks add_marks and_marks expr_marks group_step_marks group_marks imp_marks keyed_marks last_step_marks mul_step_marks or_marks params_marks post_marks set_marks subscripts_marks x

pub marks_group-roll : (x : OfTrees GroupTree-F) → marks_group (roll-GroupTree x) ≡ group_marks (marks_in GroupTree-F map-GroupTree x)
unfolding marks_compare marks_mul marks_neg marks_open marks_prim marks_sign marks_suffix marks_add_step marks_add marks_and marks_expr marks_group_step marks_group marks_imp marks_keyed marks_last_step marks_mul_step marks_or marks_params marks_post marks_set marks_subscripts
marks_group-roll x = fold-roll-GroupTree Marks Marks Marks Marks Marks Marks Marks Marks Marks Marks Marks Marks Marks Marks Marks Marks Marks Marks Marks Marks Marks Marks compare_marks mul_marks neg_marks open_marks prim_marks sign_marks suffix_marks add_step_marks add_marks and_marks expr_marks group_step_marks group_marks imp_marks keyed_marks last_step_marks mul_step_marks or_marks params_marks post_marks set_marks subscripts_marks x

pub marks_imp-roll : (x : OfTrees ImpTree-F) → marks_imp (roll-ImpTree x) ≡ imp_marks (marks_in ImpTree-F map-ImpTree x)
unfolding marks_compare marks_mul marks_neg marks_open marks_prim marks_sign marks_suffix marks_add_step marks_add marks_and marks_expr marks_group_step marks_group marks_imp marks_keyed marks_last_step marks_mul_step marks_or marks_params marks_post marks_set marks_subscripts
marks_imp-roll x = fold-roll-ImpTree Marks Marks Marks Marks Marks Marks Marks Marks Marks Marks Marks Marks Marks Marks Marks Marks Marks Marks Marks Marks Marks Marks compare_marks mul_marks neg_marks open_marks prim_marks sign_marks suffix_marks add_step_marks add_marks and_marks expr_marks group_step_marks group_marks imp_marks keyed_marks last_step_marks mul_step_marks or_marks params_marks post_marks set_marks subscripts_marks x

pub marks_keyed-roll : (x : OfTrees KeyedTree-F) → marks_keyed (roll-KeyedTree x) ≡ keyed_marks (marks_in KeyedTree-F map-KeyedTree x)
unfolding marks_compare marks_mul marks_neg marks_open marks_prim marks_sign marks_suffix marks_add_step marks_add marks_and marks_expr marks_group_step marks_group marks_imp marks_keyed marks_last_step marks_mul_step marks_or marks_params marks_post marks_set marks_subscripts
marks_keyed-roll x = fold-roll-KeyedTree Marks Marks Marks Marks Marks Marks Marks Marks Marks Marks Marks Marks Marks Marks Marks Marks Marks Marks Marks Marks Marks Marks compare_marks mul_marks neg_marks open_marks prim_marks sign_marks suffix_marks add_step_marks add_marks and_marks expr_marks group_step_marks group_marks imp_marks keyed_marks last_step_marks mul_step_marks or_marks params_marks post_marks set_marks subscripts_marks x

pub marks_last_step-roll : (x : OfTrees LastStep-F) → marks_last_step (roll-LastStep x) ≡ last_step_marks (marks_in LastStep-F map-LastStep x)
unfolding marks_compare marks_mul marks_neg marks_open marks_prim marks_sign marks_suffix marks_add_step marks_add marks_and marks_expr marks_group_step marks_group marks_imp marks_keyed marks_last_step marks_mul_step marks_or marks_params marks_post marks_set marks_subscripts
marks_last_step-roll x = fold-roll-LastStep Marks Marks Marks Marks Marks Marks Marks Marks Marks Marks Marks Marks Marks Marks Marks Marks Marks Marks Marks Marks Marks Marks compare_marks mul_marks neg_marks open_marks prim_marks sign_marks suffix_marks add_step_marks add_marks and_marks expr_marks group_step_marks group_marks imp_marks keyed_marks last_step_marks mul_step_marks or_marks params_marks post_marks set_marks subscripts_marks x

pub marks_mul_step-roll : (x : OfTrees MulStep-F) → marks_mul_step (roll-MulStep x) ≡ mul_step_marks (marks_in MulStep-F map-MulStep x)
unfolding marks_compare marks_mul marks_neg marks_open marks_prim marks_sign marks_suffix marks_add_step marks_add marks_and marks_expr marks_group_step marks_group marks_imp marks_keyed marks_last_step marks_mul_step marks_or marks_params marks_post marks_set marks_subscripts
marks_mul_step-roll x = fold-roll-MulStep Marks Marks Marks Marks Marks Marks Marks Marks Marks Marks Marks Marks Marks Marks Marks Marks Marks Marks Marks Marks Marks Marks compare_marks mul_marks neg_marks open_marks prim_marks sign_marks suffix_marks add_step_marks add_marks and_marks expr_marks group_step_marks group_marks imp_marks keyed_marks last_step_marks mul_step_marks or_marks params_marks post_marks set_marks subscripts_marks x

pub marks_or-roll : (x : OfTrees OrTree-F) → marks_or (roll-OrTree x) ≡ or_marks (marks_in OrTree-F map-OrTree x)
unfolding marks_compare marks_mul marks_neg marks_open marks_prim marks_sign marks_suffix marks_add_step marks_add marks_and marks_expr marks_group_step marks_group marks_imp marks_keyed marks_last_step marks_mul_step marks_or marks_params marks_post marks_set marks_subscripts
marks_or-roll x = fold-roll-OrTree Marks Marks Marks Marks Marks Marks Marks Marks Marks Marks Marks Marks Marks Marks Marks Marks Marks Marks Marks Marks Marks Marks compare_marks mul_marks neg_marks open_marks prim_marks sign_marks suffix_marks add_step_marks add_marks and_marks expr_marks group_step_marks group_marks imp_marks keyed_marks last_step_marks mul_step_marks or_marks params_marks post_marks set_marks subscripts_marks x

pub marks_params-roll : (x : OfTrees ParamsTree-F) → marks_params (roll-ParamsTree x) ≡ params_marks (marks_in ParamsTree-F map-ParamsTree x)
unfolding marks_compare marks_mul marks_neg marks_open marks_prim marks_sign marks_suffix marks_add_step marks_add marks_and marks_expr marks_group_step marks_group marks_imp marks_keyed marks_last_step marks_mul_step marks_or marks_params marks_post marks_set marks_subscripts
marks_params-roll x = fold-roll-ParamsTree Marks Marks Marks Marks Marks Marks Marks Marks Marks Marks Marks Marks Marks Marks Marks Marks Marks Marks Marks Marks Marks Marks compare_marks mul_marks neg_marks open_marks prim_marks sign_marks suffix_marks add_step_marks add_marks and_marks expr_marks group_step_marks group_marks imp_marks keyed_marks last_step_marks mul_step_marks or_marks params_marks post_marks set_marks subscripts_marks x

pub marks_post-roll : (x : OfTrees PostTree-F) → marks_post (roll-PostTree x) ≡ post_marks (marks_in PostTree-F map-PostTree x)
unfolding marks_compare marks_mul marks_neg marks_open marks_prim marks_sign marks_suffix marks_add_step marks_add marks_and marks_expr marks_group_step marks_group marks_imp marks_keyed marks_last_step marks_mul_step marks_or marks_params marks_post marks_set marks_subscripts
marks_post-roll x = fold-roll-PostTree Marks Marks Marks Marks Marks Marks Marks Marks Marks Marks Marks Marks Marks Marks Marks Marks Marks Marks Marks Marks Marks Marks compare_marks mul_marks neg_marks open_marks prim_marks sign_marks suffix_marks add_step_marks add_marks and_marks expr_marks group_step_marks group_marks imp_marks keyed_marks last_step_marks mul_step_marks or_marks params_marks post_marks set_marks subscripts_marks x

pub marks_set-roll : (x : OfTrees SetTree-F) → marks_set (roll-SetTree x) ≡ set_marks (marks_in SetTree-F map-SetTree x)
unfolding marks_compare marks_mul marks_neg marks_open marks_prim marks_sign marks_suffix marks_add_step marks_add marks_and marks_expr marks_group_step marks_group marks_imp marks_keyed marks_last_step marks_mul_step marks_or marks_params marks_post marks_set marks_subscripts
marks_set-roll x = fold-roll-SetTree Marks Marks Marks Marks Marks Marks Marks Marks Marks Marks Marks Marks Marks Marks Marks Marks Marks Marks Marks Marks Marks Marks compare_marks mul_marks neg_marks open_marks prim_marks sign_marks suffix_marks add_step_marks add_marks and_marks expr_marks group_step_marks group_marks imp_marks keyed_marks last_step_marks mul_step_marks or_marks params_marks post_marks set_marks subscripts_marks x

pub marks_subscripts-roll : (x : OfTrees SubscriptsTree-F) → marks_subscripts (roll-SubscriptsTree x) ≡ subscripts_marks (marks_in SubscriptsTree-F map-SubscriptsTree x)
unfolding marks_compare marks_mul marks_neg marks_open marks_prim marks_sign marks_suffix marks_add_step marks_add marks_and marks_expr marks_group_step marks_group marks_imp marks_keyed marks_last_step marks_mul_step marks_or marks_params marks_post marks_set marks_subscripts
marks_subscripts-roll x = fold-roll-SubscriptsTree Marks Marks Marks Marks Marks Marks Marks Marks Marks Marks Marks Marks Marks Marks Marks Marks Marks Marks Marks Marks Marks Marks compare_marks mul_marks neg_marks open_marks prim_marks sign_marks suffix_marks add_step_marks add_marks and_marks expr_marks group_step_marks group_marks imp_marks keyed_marks last_step_marks mul_step_marks or_marks params_marks post_marks set_marks subscripts_marks x
