-- The term of each tree says what its form says.
use Rattle.std.proofs.Common.{◌≡◌, ◌⊎◌, inl, inr, ℕ, Bool, List, [], ◌∷◌, ◌++◌, map, Option, None, Some, refl, ap, sym, subst, ◌∙◌}
use Rattle.std.specs.Option.{option_map}
use Rattle.opl_tree.specs.declared.expression.CompareTree.{CompareTree}
use Rattle.opl_tree.specs.declared.expression.MulTree.{MulTree}
use Rattle.opl_tree.specs.declared.expression.NegTree.{NegTree}
use Rattle.opl_tree.specs.declared.expression.OpenTree.{OpenTree}
use Rattle.opl_tree.specs.declared.expression.PrimTree.{PrimTree}
use Rattle.opl_tree.specs.declared.expression.SignTree.{SignTree}
use Rattle.opl_tree.specs.declared.expression.SuffixTree.{SuffixTree}
use Rattle.opl_tree.specs.declared.expression.AddStep.{AddStep}
use Rattle.opl_tree.specs.declared.expression.AddTree.{AddTree}
use Rattle.opl_tree.specs.declared.expression.AndTree.{AndTree}
use Rattle.opl_tree.specs.declared.expression.ExprTree.{ExprTree}
use Rattle.opl_tree.specs.declared.expression.GroupStep.{GroupStep}
use Rattle.opl_tree.specs.declared.expression.GroupTree.{GroupTree}
use Rattle.opl_tree.specs.declared.expression.ImpTree.{ImpTree}
use Rattle.opl_tree.specs.declared.expression.KeyedTree.{KeyedTree}
use Rattle.opl_tree.specs.declared.expression.LastStep.{LastStep}
use Rattle.opl_tree.specs.declared.expression.MulStep.{MulStep}
use Rattle.opl_tree.specs.declared.expression.OrTree.{OrTree}
use Rattle.opl_tree.specs.declared.expression.ParamsTree.{ParamsTree}
use Rattle.opl_tree.specs.declared.expression.PostTree.{PostTree}
use Rattle.opl_tree.specs.declared.expression.SetTree.{SetTree}
use Rattle.opl_tree.specs.declared.expression.SubscriptsTree.{SubscriptsTree}
use Rattle.opl_tree.specs.declared.expression.CallOp.{CallOp}
use Rattle.opl_tree.specs.declared.expression.CallOp.TheVariants as calls
use Rattle.opl_tree.specs.declared.expression.NameTree.{NameTree}
use Rattle.opl_tree.specs.declared.expression.NegTree.TheVariants as negs
use Rattle.opl_tree.specs.declared.expression.CompareTree.TheVariants as compares
use Rattle.opl_tree.specs.declared.expression.MulTree.TheVariants as muls
use Rattle.opl_tree.specs.declared.expression.OpenTree.TheVariants as opens
use Rattle.opl_tree.specs.declared.expression.SignTree.TheVariants as signs
use Rattle.opl_tree.specs.declared.expression.SuffixTree.TheVariants as suffixes
use Rattle.opl_tree.specs.declared.expression.PrimTree.TheVariants as prims
use Rattle.opl_tree.specs.declared.expression.CompareTree.TheOpen.{CompareTree-F, MulTree-F, NegTree-F, OpenTree-F, PrimTree-F, SignTree-F, SuffixTree-F, AddTree-F, AndTree-F, ExprTree-F, GroupStep-F, GroupTree-F, ImpTree-F, KeyedTree-F, OrTree-F, ParamsTree-F, PostTree-F, SetTree-F}
use Rattle.opl_tree.specs.declared.expression.CompareTree.TheViews.{roll-CompareTree, roll-MulTree, roll-NegTree, roll-OpenTree, roll-PrimTree, roll-SignTree, roll-SuffixTree, roll-AddTree, roll-AndTree, roll-ExprTree, roll-GroupStep, roll-GroupTree, roll-ImpTree, roll-KeyedTree, roll-OrTree, roll-ParamsTree, roll-PostTree, roll-SetTree, out-SetTree, out-SuffixTree, out-roll-GroupStep, out-roll-GroupTree, out-roll-KeyedTree, out-roll-ParamsTree, out-roll-SetTree, roll-out-SuffixTree, out-roll-ExprTree, out-roll-ImpTree, out-roll-OrTree, out-roll-AndTree, out-roll-AddTree, out-roll-PostTree}
use Rattle.opl_tree.specs.declared.expression.CompareTree.TheFolds.{map-CompareTree, map-MulTree, map-NegTree, map-OpenTree, map-PrimTree, map-SignTree, map-AddTree, map-AndTree, map-ExprTree, map-GroupStep, map-GroupTree, map-ImpTree, map-KeyedTree, map-OrTree, map-ParamsTree, map-PostTree, map-SetTree, ind-AddTree}
use Rattle.opl_term.specs.declared.term.FieldName.{FieldName}
use Rattle.opl_term.specs.declared.term.GroupTerm.{GroupTerm}
use Rattle.opl_term.specs.declared.term.SetTerm.{SetTerm}
use Rattle.opl_term.specs.declared.term.Step.{Step}
use Rattle.opl_term.specs.declared.term.Term.{Term}
use Rattle.opl_term.specs.declared.term.Term.TheVariants as terms
use Rattle.opl_term.specs.Terms as says
use Rattle.opl_term.specs.Terms.{text_of, compare_term, mul_term, neg_term, open_term, prim_term, sign_term, add_term, and_term, expr_term, imp_term, or_term, post_term, suffix_of, add_step_of, mul_step_of, last_step_of, subscripts_terms, group_step_term, group_term, keyed_pair, params_term, pattern_of, set_term}
use Rattle.opl_term.proofs.Layers as term_is
use Rattle.opl_type_rules.specs.Forms as forms
use Rattle.opl_type_rules.specs.Forms.{Form, Forms, forms_of, form_compare, form_mul, form_neg, form_open, form_prim, form_sign, form_add, form_and, form_expr, form_imp, form_or, form_post, form_suffix, form_add_step, form_mul_step, form_last_step, form_subscripts, form_group, form_group_step, form_keyed, form_params, form_set}
use Rattle.opl_type_rules.specs.Forms.Form.{number, named, bracket, negative, arithmetic, related, member, connected, aggregate, all_different, subscripted, field, tuple, listed, described, cells, keyed_cells, question}
use Rattle.opl_type_rules.proofs.Forms as form_is
use Rattle.opl_typed_values.proofs.Outside.{GivesBool, bool-AllDifferent, bool-And, bool-Equivalent, bool-Implied, bool-Member, bool-Not, bool-Or, bool-Related, int-Aggregate, int-Call, int-Chain, int-Negative, int-Number, whole_layer}
use Rattle.opl_typed_values.proofs.Said.{AllSay, GroupsSay, PairsSay, ParamsSay, Says, SetSays}

-- the same of one group of parameters
abbrev GroupSays : forms.Group → GroupTerm → Type 0
GroupSays f g = (is_ordered : Bool) × (s : SetTerm) × (g ≡ says.group_of is_ordered (map pattern_of f.patterns) s) × SetSays f.over s

-- and of what stands behind a key
abbrev PairSays : forms.Pair → says.Pair → Type 0
PairSays f p = Says f.cell p.cell

-- nothing has to be known of these trees
abbrev Any : {X : Type 0} → X → Type 0
Any x = Unit {0}

abbrev In : Type 0 → Type 0
In X = (x : X) × Any x

abbrev In_keyed : Type 0
In_keyed = (t : KeyedTree) × PairSays (form_keyed t) (keyed_pair t)

abbrev In_group : Type 0
In_group = (t : GroupTree) × GroupSays (form_group t) (group_term t)

abbrev In_group_step : Type 0
In_group_step = (t : GroupStep) × GroupSays (form_group_step t) (group_step_term t)

abbrev In_params : Type 0
In_params = (t : ParamsTree) × ParamsSay (form_params t) (params_term t).groups

abbrev In_set : Type 0
In_set = (t : SetTree) × SetSays (form_set t) (set_term t)

abbrev In_compare : Type 0
In_compare = (t : CompareTree) × Says (form_compare t) (compare_term t)

abbrev In_mul : Type 0
In_mul = (t : MulTree) × Says (form_mul t) (mul_term t)

abbrev In_neg : Type 0
In_neg = (t : NegTree) × Says (form_neg t) (neg_term t)

abbrev In_open : Type 0
In_open = (t : OpenTree) × Says (form_open t) (open_term t)

abbrev In_prim : Type 0
In_prim = (t : PrimTree) × Says (form_prim t) (prim_term t)

abbrev In_sign : Type 0
In_sign = (t : SignTree) × Says (form_sign t) (sign_term t)

abbrev In_add : Type 0
In_add = (t : AddTree) × Says (form_add t) (add_term t)

abbrev In_and : Type 0
In_and = (t : AndTree) × Says (form_and t) (and_term t)

abbrev In_expr : Type 0
In_expr = (t : ExprTree) × Says (form_expr t) (expr_term t)

abbrev In_imp : Type 0
In_imp = (t : ImpTree) × Says (form_imp t) (imp_term t)

abbrev In_or : Type 0
In_or = (t : OrTree) × Says (form_or t) (or_term t)

abbrev In_post : Type 0
In_post = (t : PostTree) × Says (form_post t) (post_term t)

abbrev inner_compare : CompareTree-F In_compare In_mul In_neg In_open In_prim In_sign (In SuffixTree) (In AddStep) In_add In_and In_expr In_group_step In_group In_imp In_keyed (In LastStep) (In MulStep) In_or In_params In_post In_set (In SubscriptsTree) → CompareTree-F CompareTree MulTree NegTree OpenTree PrimTree SignTree SuffixTree AddStep AddTree AndTree ExprTree GroupStep GroupTree ImpTree KeyedTree LastStep MulStep OrTree ParamsTree PostTree SetTree SubscriptsTree
inner_compare = map-CompareTree In_compare In_mul In_neg In_open In_prim In_sign (In SuffixTree) (In AddStep) In_add In_and In_expr In_group_step In_group In_imp In_keyed (In LastStep) (In MulStep) In_or In_params In_post In_set (In SubscriptsTree) CompareTree MulTree NegTree OpenTree PrimTree SignTree SuffixTree AddStep AddTree AndTree ExprTree GroupStep GroupTree ImpTree KeyedTree LastStep MulStep OrTree ParamsTree PostTree SetTree SubscriptsTree (λ e. e.0) (λ e. e.0) (λ e. e.0) (λ e. e.0) (λ e. e.0) (λ e. e.0) (λ e. e.0) (λ e. e.0) (λ e. e.0) (λ e. e.0) (λ e. e.0) (λ e. e.0) (λ e. e.0) (λ e. e.0) (λ e. e.0) (λ e. e.0) (λ e. e.0) (λ e. e.0) (λ e. e.0) (λ e. e.0) (λ e. e.0) (λ e. e.0)

abbrev inner_mul : MulTree-F In_compare In_mul In_neg In_open In_prim In_sign (In SuffixTree) (In AddStep) In_add In_and In_expr In_group_step In_group In_imp In_keyed (In LastStep) (In MulStep) In_or In_params In_post In_set (In SubscriptsTree) → MulTree-F CompareTree MulTree NegTree OpenTree PrimTree SignTree SuffixTree AddStep AddTree AndTree ExprTree GroupStep GroupTree ImpTree KeyedTree LastStep MulStep OrTree ParamsTree PostTree SetTree SubscriptsTree
inner_mul = map-MulTree In_compare In_mul In_neg In_open In_prim In_sign (In SuffixTree) (In AddStep) In_add In_and In_expr In_group_step In_group In_imp In_keyed (In LastStep) (In MulStep) In_or In_params In_post In_set (In SubscriptsTree) CompareTree MulTree NegTree OpenTree PrimTree SignTree SuffixTree AddStep AddTree AndTree ExprTree GroupStep GroupTree ImpTree KeyedTree LastStep MulStep OrTree ParamsTree PostTree SetTree SubscriptsTree (λ e. e.0) (λ e. e.0) (λ e. e.0) (λ e. e.0) (λ e. e.0) (λ e. e.0) (λ e. e.0) (λ e. e.0) (λ e. e.0) (λ e. e.0) (λ e. e.0) (λ e. e.0) (λ e. e.0) (λ e. e.0) (λ e. e.0) (λ e. e.0) (λ e. e.0) (λ e. e.0) (λ e. e.0) (λ e. e.0) (λ e. e.0) (λ e. e.0)

abbrev inner_neg : NegTree-F In_compare In_mul In_neg In_open In_prim In_sign (In SuffixTree) (In AddStep) In_add In_and In_expr In_group_step In_group In_imp In_keyed (In LastStep) (In MulStep) In_or In_params In_post In_set (In SubscriptsTree) → NegTree-F CompareTree MulTree NegTree OpenTree PrimTree SignTree SuffixTree AddStep AddTree AndTree ExprTree GroupStep GroupTree ImpTree KeyedTree LastStep MulStep OrTree ParamsTree PostTree SetTree SubscriptsTree
inner_neg = map-NegTree In_compare In_mul In_neg In_open In_prim In_sign (In SuffixTree) (In AddStep) In_add In_and In_expr In_group_step In_group In_imp In_keyed (In LastStep) (In MulStep) In_or In_params In_post In_set (In SubscriptsTree) CompareTree MulTree NegTree OpenTree PrimTree SignTree SuffixTree AddStep AddTree AndTree ExprTree GroupStep GroupTree ImpTree KeyedTree LastStep MulStep OrTree ParamsTree PostTree SetTree SubscriptsTree (λ e. e.0) (λ e. e.0) (λ e. e.0) (λ e. e.0) (λ e. e.0) (λ e. e.0) (λ e. e.0) (λ e. e.0) (λ e. e.0) (λ e. e.0) (λ e. e.0) (λ e. e.0) (λ e. e.0) (λ e. e.0) (λ e. e.0) (λ e. e.0) (λ e. e.0) (λ e. e.0) (λ e. e.0) (λ e. e.0) (λ e. e.0) (λ e. e.0)

abbrev inner_open : OpenTree-F In_compare In_mul In_neg In_open In_prim In_sign (In SuffixTree) (In AddStep) In_add In_and In_expr In_group_step In_group In_imp In_keyed (In LastStep) (In MulStep) In_or In_params In_post In_set (In SubscriptsTree) → OpenTree-F CompareTree MulTree NegTree OpenTree PrimTree SignTree SuffixTree AddStep AddTree AndTree ExprTree GroupStep GroupTree ImpTree KeyedTree LastStep MulStep OrTree ParamsTree PostTree SetTree SubscriptsTree
inner_open = map-OpenTree In_compare In_mul In_neg In_open In_prim In_sign (In SuffixTree) (In AddStep) In_add In_and In_expr In_group_step In_group In_imp In_keyed (In LastStep) (In MulStep) In_or In_params In_post In_set (In SubscriptsTree) CompareTree MulTree NegTree OpenTree PrimTree SignTree SuffixTree AddStep AddTree AndTree ExprTree GroupStep GroupTree ImpTree KeyedTree LastStep MulStep OrTree ParamsTree PostTree SetTree SubscriptsTree (λ e. e.0) (λ e. e.0) (λ e. e.0) (λ e. e.0) (λ e. e.0) (λ e. e.0) (λ e. e.0) (λ e. e.0) (λ e. e.0) (λ e. e.0) (λ e. e.0) (λ e. e.0) (λ e. e.0) (λ e. e.0) (λ e. e.0) (λ e. e.0) (λ e. e.0) (λ e. e.0) (λ e. e.0) (λ e. e.0) (λ e. e.0) (λ e. e.0)

abbrev inner_prim : PrimTree-F In_compare In_mul In_neg In_open In_prim In_sign (In SuffixTree) (In AddStep) In_add In_and In_expr In_group_step In_group In_imp In_keyed (In LastStep) (In MulStep) In_or In_params In_post In_set (In SubscriptsTree) → PrimTree-F CompareTree MulTree NegTree OpenTree PrimTree SignTree SuffixTree AddStep AddTree AndTree ExprTree GroupStep GroupTree ImpTree KeyedTree LastStep MulStep OrTree ParamsTree PostTree SetTree SubscriptsTree
inner_prim = map-PrimTree In_compare In_mul In_neg In_open In_prim In_sign (In SuffixTree) (In AddStep) In_add In_and In_expr In_group_step In_group In_imp In_keyed (In LastStep) (In MulStep) In_or In_params In_post In_set (In SubscriptsTree) CompareTree MulTree NegTree OpenTree PrimTree SignTree SuffixTree AddStep AddTree AndTree ExprTree GroupStep GroupTree ImpTree KeyedTree LastStep MulStep OrTree ParamsTree PostTree SetTree SubscriptsTree (λ e. e.0) (λ e. e.0) (λ e. e.0) (λ e. e.0) (λ e. e.0) (λ e. e.0) (λ e. e.0) (λ e. e.0) (λ e. e.0) (λ e. e.0) (λ e. e.0) (λ e. e.0) (λ e. e.0) (λ e. e.0) (λ e. e.0) (λ e. e.0) (λ e. e.0) (λ e. e.0) (λ e. e.0) (λ e. e.0) (λ e. e.0) (λ e. e.0)

abbrev inner_sign : SignTree-F In_compare In_mul In_neg In_open In_prim In_sign (In SuffixTree) (In AddStep) In_add In_and In_expr In_group_step In_group In_imp In_keyed (In LastStep) (In MulStep) In_or In_params In_post In_set (In SubscriptsTree) → SignTree-F CompareTree MulTree NegTree OpenTree PrimTree SignTree SuffixTree AddStep AddTree AndTree ExprTree GroupStep GroupTree ImpTree KeyedTree LastStep MulStep OrTree ParamsTree PostTree SetTree SubscriptsTree
inner_sign = map-SignTree In_compare In_mul In_neg In_open In_prim In_sign (In SuffixTree) (In AddStep) In_add In_and In_expr In_group_step In_group In_imp In_keyed (In LastStep) (In MulStep) In_or In_params In_post In_set (In SubscriptsTree) CompareTree MulTree NegTree OpenTree PrimTree SignTree SuffixTree AddStep AddTree AndTree ExprTree GroupStep GroupTree ImpTree KeyedTree LastStep MulStep OrTree ParamsTree PostTree SetTree SubscriptsTree (λ e. e.0) (λ e. e.0) (λ e. e.0) (λ e. e.0) (λ e. e.0) (λ e. e.0) (λ e. e.0) (λ e. e.0) (λ e. e.0) (λ e. e.0) (λ e. e.0) (λ e. e.0) (λ e. e.0) (λ e. e.0) (λ e. e.0) (λ e. e.0) (λ e. e.0) (λ e. e.0) (λ e. e.0) (λ e. e.0) (λ e. e.0) (λ e. e.0)

abbrev inner_add : AddTree-F In_compare In_mul In_neg In_open In_prim In_sign (In SuffixTree) (In AddStep) In_add In_and In_expr In_group_step In_group In_imp In_keyed (In LastStep) (In MulStep) In_or In_params In_post In_set (In SubscriptsTree) → AddTree-F CompareTree MulTree NegTree OpenTree PrimTree SignTree SuffixTree AddStep AddTree AndTree ExprTree GroupStep GroupTree ImpTree KeyedTree LastStep MulStep OrTree ParamsTree PostTree SetTree SubscriptsTree
inner_add = map-AddTree In_compare In_mul In_neg In_open In_prim In_sign (In SuffixTree) (In AddStep) In_add In_and In_expr In_group_step In_group In_imp In_keyed (In LastStep) (In MulStep) In_or In_params In_post In_set (In SubscriptsTree) CompareTree MulTree NegTree OpenTree PrimTree SignTree SuffixTree AddStep AddTree AndTree ExprTree GroupStep GroupTree ImpTree KeyedTree LastStep MulStep OrTree ParamsTree PostTree SetTree SubscriptsTree (λ e. e.0) (λ e. e.0) (λ e. e.0) (λ e. e.0) (λ e. e.0) (λ e. e.0) (λ e. e.0) (λ e. e.0) (λ e. e.0) (λ e. e.0) (λ e. e.0) (λ e. e.0) (λ e. e.0) (λ e. e.0) (λ e. e.0) (λ e. e.0) (λ e. e.0) (λ e. e.0) (λ e. e.0) (λ e. e.0) (λ e. e.0) (λ e. e.0)

abbrev inner_and : AndTree-F In_compare In_mul In_neg In_open In_prim In_sign (In SuffixTree) (In AddStep) In_add In_and In_expr In_group_step In_group In_imp In_keyed (In LastStep) (In MulStep) In_or In_params In_post In_set (In SubscriptsTree) → AndTree-F CompareTree MulTree NegTree OpenTree PrimTree SignTree SuffixTree AddStep AddTree AndTree ExprTree GroupStep GroupTree ImpTree KeyedTree LastStep MulStep OrTree ParamsTree PostTree SetTree SubscriptsTree
inner_and = map-AndTree In_compare In_mul In_neg In_open In_prim In_sign (In SuffixTree) (In AddStep) In_add In_and In_expr In_group_step In_group In_imp In_keyed (In LastStep) (In MulStep) In_or In_params In_post In_set (In SubscriptsTree) CompareTree MulTree NegTree OpenTree PrimTree SignTree SuffixTree AddStep AddTree AndTree ExprTree GroupStep GroupTree ImpTree KeyedTree LastStep MulStep OrTree ParamsTree PostTree SetTree SubscriptsTree (λ e. e.0) (λ e. e.0) (λ e. e.0) (λ e. e.0) (λ e. e.0) (λ e. e.0) (λ e. e.0) (λ e. e.0) (λ e. e.0) (λ e. e.0) (λ e. e.0) (λ e. e.0) (λ e. e.0) (λ e. e.0) (λ e. e.0) (λ e. e.0) (λ e. e.0) (λ e. e.0) (λ e. e.0) (λ e. e.0) (λ e. e.0) (λ e. e.0)

abbrev inner_expr : ExprTree-F In_compare In_mul In_neg In_open In_prim In_sign (In SuffixTree) (In AddStep) In_add In_and In_expr In_group_step In_group In_imp In_keyed (In LastStep) (In MulStep) In_or In_params In_post In_set (In SubscriptsTree) → ExprTree-F CompareTree MulTree NegTree OpenTree PrimTree SignTree SuffixTree AddStep AddTree AndTree ExprTree GroupStep GroupTree ImpTree KeyedTree LastStep MulStep OrTree ParamsTree PostTree SetTree SubscriptsTree
inner_expr = map-ExprTree In_compare In_mul In_neg In_open In_prim In_sign (In SuffixTree) (In AddStep) In_add In_and In_expr In_group_step In_group In_imp In_keyed (In LastStep) (In MulStep) In_or In_params In_post In_set (In SubscriptsTree) CompareTree MulTree NegTree OpenTree PrimTree SignTree SuffixTree AddStep AddTree AndTree ExprTree GroupStep GroupTree ImpTree KeyedTree LastStep MulStep OrTree ParamsTree PostTree SetTree SubscriptsTree (λ e. e.0) (λ e. e.0) (λ e. e.0) (λ e. e.0) (λ e. e.0) (λ e. e.0) (λ e. e.0) (λ e. e.0) (λ e. e.0) (λ e. e.0) (λ e. e.0) (λ e. e.0) (λ e. e.0) (λ e. e.0) (λ e. e.0) (λ e. e.0) (λ e. e.0) (λ e. e.0) (λ e. e.0) (λ e. e.0) (λ e. e.0) (λ e. e.0)

abbrev inner_imp : ImpTree-F In_compare In_mul In_neg In_open In_prim In_sign (In SuffixTree) (In AddStep) In_add In_and In_expr In_group_step In_group In_imp In_keyed (In LastStep) (In MulStep) In_or In_params In_post In_set (In SubscriptsTree) → ImpTree-F CompareTree MulTree NegTree OpenTree PrimTree SignTree SuffixTree AddStep AddTree AndTree ExprTree GroupStep GroupTree ImpTree KeyedTree LastStep MulStep OrTree ParamsTree PostTree SetTree SubscriptsTree
inner_imp = map-ImpTree In_compare In_mul In_neg In_open In_prim In_sign (In SuffixTree) (In AddStep) In_add In_and In_expr In_group_step In_group In_imp In_keyed (In LastStep) (In MulStep) In_or In_params In_post In_set (In SubscriptsTree) CompareTree MulTree NegTree OpenTree PrimTree SignTree SuffixTree AddStep AddTree AndTree ExprTree GroupStep GroupTree ImpTree KeyedTree LastStep MulStep OrTree ParamsTree PostTree SetTree SubscriptsTree (λ e. e.0) (λ e. e.0) (λ e. e.0) (λ e. e.0) (λ e. e.0) (λ e. e.0) (λ e. e.0) (λ e. e.0) (λ e. e.0) (λ e. e.0) (λ e. e.0) (λ e. e.0) (λ e. e.0) (λ e. e.0) (λ e. e.0) (λ e. e.0) (λ e. e.0) (λ e. e.0) (λ e. e.0) (λ e. e.0) (λ e. e.0) (λ e. e.0)

abbrev inner_or : OrTree-F In_compare In_mul In_neg In_open In_prim In_sign (In SuffixTree) (In AddStep) In_add In_and In_expr In_group_step In_group In_imp In_keyed (In LastStep) (In MulStep) In_or In_params In_post In_set (In SubscriptsTree) → OrTree-F CompareTree MulTree NegTree OpenTree PrimTree SignTree SuffixTree AddStep AddTree AndTree ExprTree GroupStep GroupTree ImpTree KeyedTree LastStep MulStep OrTree ParamsTree PostTree SetTree SubscriptsTree
inner_or = map-OrTree In_compare In_mul In_neg In_open In_prim In_sign (In SuffixTree) (In AddStep) In_add In_and In_expr In_group_step In_group In_imp In_keyed (In LastStep) (In MulStep) In_or In_params In_post In_set (In SubscriptsTree) CompareTree MulTree NegTree OpenTree PrimTree SignTree SuffixTree AddStep AddTree AndTree ExprTree GroupStep GroupTree ImpTree KeyedTree LastStep MulStep OrTree ParamsTree PostTree SetTree SubscriptsTree (λ e. e.0) (λ e. e.0) (λ e. e.0) (λ e. e.0) (λ e. e.0) (λ e. e.0) (λ e. e.0) (λ e. e.0) (λ e. e.0) (λ e. e.0) (λ e. e.0) (λ e. e.0) (λ e. e.0) (λ e. e.0) (λ e. e.0) (λ e. e.0) (λ e. e.0) (λ e. e.0) (λ e. e.0) (λ e. e.0) (λ e. e.0) (λ e. e.0)

abbrev inner_post : PostTree-F In_compare In_mul In_neg In_open In_prim In_sign (In SuffixTree) (In AddStep) In_add In_and In_expr In_group_step In_group In_imp In_keyed (In LastStep) (In MulStep) In_or In_params In_post In_set (In SubscriptsTree) → PostTree-F CompareTree MulTree NegTree OpenTree PrimTree SignTree SuffixTree AddStep AddTree AndTree ExprTree GroupStep GroupTree ImpTree KeyedTree LastStep MulStep OrTree ParamsTree PostTree SetTree SubscriptsTree
inner_post = map-PostTree In_compare In_mul In_neg In_open In_prim In_sign (In SuffixTree) (In AddStep) In_add In_and In_expr In_group_step In_group In_imp In_keyed (In LastStep) (In MulStep) In_or In_params In_post In_set (In SubscriptsTree) CompareTree MulTree NegTree OpenTree PrimTree SignTree SuffixTree AddStep AddTree AndTree ExprTree GroupStep GroupTree ImpTree KeyedTree LastStep MulStep OrTree ParamsTree PostTree SetTree SubscriptsTree (λ e. e.0) (λ e. e.0) (λ e. e.0) (λ e. e.0) (λ e. e.0) (λ e. e.0) (λ e. e.0) (λ e. e.0) (λ e. e.0) (λ e. e.0) (λ e. e.0) (λ e. e.0) (λ e. e.0) (λ e. e.0) (λ e. e.0) (λ e. e.0) (λ e. e.0) (λ e. e.0) (λ e. e.0) (λ e. e.0) (λ e. e.0) (λ e. e.0)

abbrev inner_set : SetTree-F In_compare In_mul In_neg In_open In_prim In_sign (In SuffixTree) (In AddStep) In_add In_and In_expr In_group_step In_group In_imp In_keyed (In LastStep) (In MulStep) In_or In_params In_post In_set (In SubscriptsTree) → SetTree-F CompareTree MulTree NegTree OpenTree PrimTree SignTree SuffixTree AddStep AddTree AndTree ExprTree GroupStep GroupTree ImpTree KeyedTree LastStep MulStep OrTree ParamsTree PostTree SetTree SubscriptsTree
inner_set = map-SetTree In_compare In_mul In_neg In_open In_prim In_sign (In SuffixTree) (In AddStep) In_add In_and In_expr In_group_step In_group In_imp In_keyed (In LastStep) (In MulStep) In_or In_params In_post In_set (In SubscriptsTree) CompareTree MulTree NegTree OpenTree PrimTree SignTree SuffixTree AddStep AddTree AndTree ExprTree GroupStep GroupTree ImpTree KeyedTree LastStep MulStep OrTree ParamsTree PostTree SetTree SubscriptsTree (λ e. e.0) (λ e. e.0) (λ e. e.0) (λ e. e.0) (λ e. e.0) (λ e. e.0) (λ e. e.0) (λ e. e.0) (λ e. e.0) (λ e. e.0) (λ e. e.0) (λ e. e.0) (λ e. e.0) (λ e. e.0) (λ e. e.0) (λ e. e.0) (λ e. e.0) (λ e. e.0) (λ e. e.0) (λ e. e.0) (λ e. e.0) (λ e. e.0)

abbrev inner_group : GroupTree-F In_compare In_mul In_neg In_open In_prim In_sign (In SuffixTree) (In AddStep) In_add In_and In_expr In_group_step In_group In_imp In_keyed (In LastStep) (In MulStep) In_or In_params In_post In_set (In SubscriptsTree) → GroupTree-F CompareTree MulTree NegTree OpenTree PrimTree SignTree SuffixTree AddStep AddTree AndTree ExprTree GroupStep GroupTree ImpTree KeyedTree LastStep MulStep OrTree ParamsTree PostTree SetTree SubscriptsTree
inner_group = map-GroupTree In_compare In_mul In_neg In_open In_prim In_sign (In SuffixTree) (In AddStep) In_add In_and In_expr In_group_step In_group In_imp In_keyed (In LastStep) (In MulStep) In_or In_params In_post In_set (In SubscriptsTree) CompareTree MulTree NegTree OpenTree PrimTree SignTree SuffixTree AddStep AddTree AndTree ExprTree GroupStep GroupTree ImpTree KeyedTree LastStep MulStep OrTree ParamsTree PostTree SetTree SubscriptsTree (λ e. e.0) (λ e. e.0) (λ e. e.0) (λ e. e.0) (λ e. e.0) (λ e. e.0) (λ e. e.0) (λ e. e.0) (λ e. e.0) (λ e. e.0) (λ e. e.0) (λ e. e.0) (λ e. e.0) (λ e. e.0) (λ e. e.0) (λ e. e.0) (λ e. e.0) (λ e. e.0) (λ e. e.0) (λ e. e.0) (λ e. e.0) (λ e. e.0)

abbrev inner_group_step : GroupStep-F In_compare In_mul In_neg In_open In_prim In_sign (In SuffixTree) (In AddStep) In_add In_and In_expr In_group_step In_group In_imp In_keyed (In LastStep) (In MulStep) In_or In_params In_post In_set (In SubscriptsTree) → GroupStep-F CompareTree MulTree NegTree OpenTree PrimTree SignTree SuffixTree AddStep AddTree AndTree ExprTree GroupStep GroupTree ImpTree KeyedTree LastStep MulStep OrTree ParamsTree PostTree SetTree SubscriptsTree
inner_group_step = map-GroupStep In_compare In_mul In_neg In_open In_prim In_sign (In SuffixTree) (In AddStep) In_add In_and In_expr In_group_step In_group In_imp In_keyed (In LastStep) (In MulStep) In_or In_params In_post In_set (In SubscriptsTree) CompareTree MulTree NegTree OpenTree PrimTree SignTree SuffixTree AddStep AddTree AndTree ExprTree GroupStep GroupTree ImpTree KeyedTree LastStep MulStep OrTree ParamsTree PostTree SetTree SubscriptsTree (λ e. e.0) (λ e. e.0) (λ e. e.0) (λ e. e.0) (λ e. e.0) (λ e. e.0) (λ e. e.0) (λ e. e.0) (λ e. e.0) (λ e. e.0) (λ e. e.0) (λ e. e.0) (λ e. e.0) (λ e. e.0) (λ e. e.0) (λ e. e.0) (λ e. e.0) (λ e. e.0) (λ e. e.0) (λ e. e.0) (λ e. e.0) (λ e. e.0)

abbrev inner_params : ParamsTree-F In_compare In_mul In_neg In_open In_prim In_sign (In SuffixTree) (In AddStep) In_add In_and In_expr In_group_step In_group In_imp In_keyed (In LastStep) (In MulStep) In_or In_params In_post In_set (In SubscriptsTree) → ParamsTree-F CompareTree MulTree NegTree OpenTree PrimTree SignTree SuffixTree AddStep AddTree AndTree ExprTree GroupStep GroupTree ImpTree KeyedTree LastStep MulStep OrTree ParamsTree PostTree SetTree SubscriptsTree
inner_params = map-ParamsTree In_compare In_mul In_neg In_open In_prim In_sign (In SuffixTree) (In AddStep) In_add In_and In_expr In_group_step In_group In_imp In_keyed (In LastStep) (In MulStep) In_or In_params In_post In_set (In SubscriptsTree) CompareTree MulTree NegTree OpenTree PrimTree SignTree SuffixTree AddStep AddTree AndTree ExprTree GroupStep GroupTree ImpTree KeyedTree LastStep MulStep OrTree ParamsTree PostTree SetTree SubscriptsTree (λ e. e.0) (λ e. e.0) (λ e. e.0) (λ e. e.0) (λ e. e.0) (λ e. e.0) (λ e. e.0) (λ e. e.0) (λ e. e.0) (λ e. e.0) (λ e. e.0) (λ e. e.0) (λ e. e.0) (λ e. e.0) (λ e. e.0) (λ e. e.0) (λ e. e.0) (λ e. e.0) (λ e. e.0) (λ e. e.0) (λ e. e.0) (λ e. e.0)

abbrev inner_keyed : KeyedTree-F In_compare In_mul In_neg In_open In_prim In_sign (In SuffixTree) (In AddStep) In_add In_and In_expr In_group_step In_group In_imp In_keyed (In LastStep) (In MulStep) In_or In_params In_post In_set (In SubscriptsTree) → KeyedTree-F CompareTree MulTree NegTree OpenTree PrimTree SignTree SuffixTree AddStep AddTree AndTree ExprTree GroupStep GroupTree ImpTree KeyedTree LastStep MulStep OrTree ParamsTree PostTree SetTree SubscriptsTree
inner_keyed = map-KeyedTree In_compare In_mul In_neg In_open In_prim In_sign (In SuffixTree) (In AddStep) In_add In_and In_expr In_group_step In_group In_imp In_keyed (In LastStep) (In MulStep) In_or In_params In_post In_set (In SubscriptsTree) CompareTree MulTree NegTree OpenTree PrimTree SignTree SuffixTree AddStep AddTree AndTree ExprTree GroupStep GroupTree ImpTree KeyedTree LastStep MulStep OrTree ParamsTree PostTree SetTree SubscriptsTree (λ e. e.0) (λ e. e.0) (λ e. e.0) (λ e. e.0) (λ e. e.0) (λ e. e.0) (λ e. e.0) (λ e. e.0) (λ e. e.0) (λ e. e.0) (λ e. e.0) (λ e. e.0) (λ e. e.0) (λ e. e.0) (λ e. e.0) (λ e. e.0) (λ e. e.0) (λ e. e.0) (λ e. e.0) (λ e. e.0) (λ e. e.0) (λ e. e.0)

-- ---- lists and chains

by-both : (f g : Form) (t u : Term) → f ≡ g → t ≡ u → Says g u → Says f t
by-both f g t u p q s = subst (λ (h : Form). Says h t) (sym p) (subst (Says g) (sym q) s)

-- one operand stands for itself, several make a number
chain-says : {A : Type 0} (at p : ℕ) (f : Form) (t : Term) (g : A → Form) (h : A → Step) (ss : List A) → Says f t → Says (forms.chain (arithmetic at) f (map g ss)) (says.chain p t (map h ss))
chain-says at p f t g h [] s = s
chain-says at p f t g h (x ∷ xs) s = int-Chain p t (h x ∷ map h xs)

-- or a truth value
connected-says : {A : Type 0} (make : ℕ → List Term → Term) (at p : ℕ) (f : Form) (t : Term) (g : A → Form) (h : A → Term) (ss : List A) → ((q : ℕ) (ts : List Term) → GivesBool (make q ts)) → Says f t →
    Says (forms.chain (connected at) f (map g ss)) (says.connected make p t (map h ss))
connected-says make at p f t g h [] gives s = s
connected-says make at p f t g h (x ∷ xs) gives s = gives p (t ∷ h x ∷ map h xs)

product-says : (at : ℕ) (f : Form) (t : Term) (steps : List MulStep) (last : Option LastStep) → Says f t →
    Says (forms.chain (arithmetic at) f (map form_mul_step steps ++ forms.or_none (option_map form_last_step last))) (says.chain at t (map mul_step_of steps ++ says.or_none (option_map last_step_of last)))
product-says at f t [] None s = s
product-says at f t [] (Some l) s = int-Chain at t _
product-says at f t (x ∷ xs) last s = int-Chain at t _

all-say : (es : List In_add) → AllSay (forms_of (map form_add (map (λ e. e.0) es))) (map add_term (map (λ e. e.0) es))
all-say [] = tt
all-say (e ∷ es) = (e.1, all-say es)

pairs-say : (es : List In_keyed) → PairsSay (forms.pairs_of (map form_keyed (map (λ e. e.0) es))) (map (λ p. p.cell) (map keyed_pair (map (λ e. e.0) es)))
pairs-say [] = tt
pairs-say (e ∷ es) = (e.1, pairs-say es)

-- ---- suffixes

abbrev IsSuffix : SuffixTree → Type 0
IsSuffix t = ((inner : SubscriptsTree) × (t ≡ suffixes.Subscripts inner)) ⊎ ((at : ℕ) × (name : NameTree) × (t ≡ suffixes.Field at name))

suffix-layer : (x : SuffixTree-F CompareTree MulTree NegTree OpenTree PrimTree SignTree SuffixTree AddStep AddTree AndTree ExprTree GroupStep GroupTree ImpTree KeyedTree LastStep MulStep OrTree ParamsTree PostTree SetTree SubscriptsTree) → IsSuffix (roll-SuffixTree x)
suffix-layer (SuffixTree-F.Subscripts inner) = inl (inner, suffixes.rolls-Subscripts inner)
suffix-layer (SuffixTree-F.Field at name) = inr (at, name, suffixes.rolls-Field at name)

is-suffix : (t : SuffixTree) → IsSuffix t
is-suffix t = subst IsSuffix (roll-out-SuffixTree t) (suffix-layer (out-SuffixTree t))

suffix-says : (at p : ℕ) (f : Form) (t : Term) (fields : List FieldName) (x : SuffixTree) (xs : List SuffixTree) → Says f (says.with_fields p t fields) →
    ((g : Form) (u : Term) (gs : List FieldName) → Says g (says.with_fields p u gs) → Says (forms.with_suffixes at g (map form_suffix xs)) (says.with_suffixes p u gs (map suffix_of xs))) → IsSuffix x →
    Says (forms.with_suffixes at f (map form_suffix (x ∷ xs))) (says.with_suffixes p t fields (map suffix_of (x ∷ xs)))
suffix-says at p f t fields x xs s more (inl (inner, e)) =
    by-both (forms.with_suffixes at f (map form_suffix (x ∷ xs))) (forms.with_suffixes at (subscripted at f (forms_of (form_subscripts inner))) (map form_suffix xs)) (says.with_suffixes p t fields (map suffix_of (x ∷ xs)))
    (says.with_suffixes p (terms.Element p (says.with_fields p t fields) (subscripts_terms inner)) [] (map suffix_of xs))
    (ap (λ r. forms.with_suffixes at f (r ∷ map form_suffix xs)) (ap form_suffix e ∙ form_is.form_suffix-Subscripts inner)) (ap (λ r. says.with_suffixes p t fields (r ∷ map suffix_of xs)) (ap suffix_of e ∙ term_is.suffix_of-Subscripts inner))
    (more (subscripted at f (forms_of (form_subscripts inner))) (terms.Element p (says.with_fields p t fields) (subscripts_terms inner)) [] (p, says.with_fields p t fields, subscripts_terms inner, refl, s))
suffix-says at p f t fields x xs s more (inr (q, name, e)) =
    by-both (forms.with_suffixes at f (map form_suffix (x ∷ xs))) (forms.with_suffixes at (field at f name) (map form_suffix xs)) (says.with_suffixes p t fields (map suffix_of (x ∷ xs)))
    (says.with_suffixes p t (fields ++ says.field_name name ∷ []) (map suffix_of xs))
    (ap (λ r. forms.with_suffixes at f (r ∷ map form_suffix xs)) (ap form_suffix e ∙ form_is.form_suffix-Field q name)) (ap (λ r. says.with_suffixes p t fields (r ∷ map suffix_of xs)) (ap suffix_of e ∙ term_is.suffix_of-Field q name))
    (more (field at f name) t (fields ++ says.field_name name ∷ []) (p, t, fields, refl, s))

suffixes-say : (at p : ℕ) (f : Form) (t : Term) (fields : List FieldName) (ss : List SuffixTree) → Says f (says.with_fields p t fields) → Says (forms.with_suffixes at f (map form_suffix ss)) (says.with_suffixes p t fields (map suffix_of ss))
suffixes-say at p f t fields [] s = s
suffixes-say at p f t fields (x ∷ xs) s = suffix-says at p f t fields x xs s (λ g u gs h. suffixes-say at p g u gs xs h) (is-suffix x)

-- ---- one layer of each tree

case_expr : (y : ExprTree-F In_compare In_mul In_neg In_open In_prim In_sign (In SuffixTree) (In AddStep) In_add In_and In_expr In_group_step In_group In_imp In_keyed (In LastStep) (In MulStep) In_or In_params In_post In_set (In SubscriptsTree)) → Says (form_expr (roll-ExprTree (inner_expr y))) (expr_term (roll-ExprTree (inner_expr y)))
case_expr y =
    let F : ExprTree-F CompareTree MulTree NegTree OpenTree PrimTree SignTree SuffixTree AddStep AddTree AndTree ExprTree GroupStep GroupTree ImpTree KeyedTree LastStep MulStep OrTree ParamsTree PostTree SetTree SubscriptsTree → Form = λ z. forms.chain (connected z.at) (form_imp z.first) (map form_imp z.rest) in
    let G : ExprTree-F CompareTree MulTree NegTree OpenTree PrimTree SignTree SuffixTree AddStep AddTree AndTree ExprTree GroupStep GroupTree ImpTree KeyedTree LastStep MulStep OrTree ParamsTree PostTree SetTree SubscriptsTree → Term = λ z. says.connected terms.Equivalent z.at (imp_term z.first) (map imp_term z.rest) in
    by-both (form_expr (roll-ExprTree (inner_expr y))) (F (inner_expr y)) (expr_term (roll-ExprTree (inner_expr y))) (G (inner_expr y)) (form_is.form_expr-is (roll-ExprTree (inner_expr y)) ∙ ap F (out-roll-ExprTree (inner_expr y)))
    (term_is.expr_term-is (roll-ExprTree (inner_expr y)) ∙ ap G (out-roll-ExprTree (inner_expr y))) (connected-says terms.Equivalent y.at y.at (form_imp y.first.0) (imp_term y.first.0) form_imp imp_term (map (λ e. e.0) y.rest) bool-Equivalent y.first.1)

implied-says : (at p : ℕ) (f : Form) (t : Term) (o : Option ImpTree) → Says f t → Says (forms.implied at f (option_map form_imp o)) (says.implied p t (option_map imp_term o))
implied-says at p f t None s = s
implied-says at p f t (Some i) s = bool-Implied p t (imp_term i)

case_imp : (y : ImpTree-F In_compare In_mul In_neg In_open In_prim In_sign (In SuffixTree) (In AddStep) In_add In_and In_expr In_group_step In_group In_imp In_keyed (In LastStep) (In MulStep) In_or In_params In_post In_set (In SubscriptsTree)) → Says (form_imp (roll-ImpTree (inner_imp y))) (imp_term (roll-ImpTree (inner_imp y)))
case_imp y =
    let F : ImpTree-F CompareTree MulTree NegTree OpenTree PrimTree SignTree SuffixTree AddStep AddTree AndTree ExprTree GroupStep GroupTree ImpTree KeyedTree LastStep MulStep OrTree ParamsTree PostTree SetTree SubscriptsTree → Form = λ z. forms.implied z.at (form_or z.premise) (option_map form_imp z.conclusion) in
    let G : ImpTree-F CompareTree MulTree NegTree OpenTree PrimTree SignTree SuffixTree AddStep AddTree AndTree ExprTree GroupStep GroupTree ImpTree KeyedTree LastStep MulStep OrTree ParamsTree PostTree SetTree SubscriptsTree → Term = λ z. says.implied z.at (or_term z.premise) (option_map imp_term z.conclusion) in
    by-both (form_imp (roll-ImpTree (inner_imp y))) (F (inner_imp y)) (imp_term (roll-ImpTree (inner_imp y))) (G (inner_imp y)) (form_is.form_imp-is (roll-ImpTree (inner_imp y)) ∙ ap F (out-roll-ImpTree (inner_imp y)))
    (term_is.imp_term-is (roll-ImpTree (inner_imp y)) ∙ ap G (out-roll-ImpTree (inner_imp y))) (implied-says y.at y.at (form_or y.premise.0) (or_term y.premise.0) _ y.premise.1)

case_or : (y : OrTree-F In_compare In_mul In_neg In_open In_prim In_sign (In SuffixTree) (In AddStep) In_add In_and In_expr In_group_step In_group In_imp In_keyed (In LastStep) (In MulStep) In_or In_params In_post In_set (In SubscriptsTree)) → Says (form_or (roll-OrTree (inner_or y))) (or_term (roll-OrTree (inner_or y)))
case_or y =
    let F : OrTree-F CompareTree MulTree NegTree OpenTree PrimTree SignTree SuffixTree AddStep AddTree AndTree ExprTree GroupStep GroupTree ImpTree KeyedTree LastStep MulStep OrTree ParamsTree PostTree SetTree SubscriptsTree → Form = λ z. forms.chain (connected z.at) (form_and z.first) (map form_and z.rest) in
    let G : OrTree-F CompareTree MulTree NegTree OpenTree PrimTree SignTree SuffixTree AddStep AddTree AndTree ExprTree GroupStep GroupTree ImpTree KeyedTree LastStep MulStep OrTree ParamsTree PostTree SetTree SubscriptsTree → Term = λ z. says.connected terms.Or z.at (and_term z.first) (map and_term z.rest) in
    by-both (form_or (roll-OrTree (inner_or y))) (F (inner_or y)) (or_term (roll-OrTree (inner_or y))) (G (inner_or y)) (form_is.form_or-is (roll-OrTree (inner_or y)) ∙ ap F (out-roll-OrTree (inner_or y)))
    (term_is.or_term-is (roll-OrTree (inner_or y)) ∙ ap G (out-roll-OrTree (inner_or y))) (connected-says terms.Or y.at y.at (form_and y.first.0) (and_term y.first.0) form_and and_term (map (λ e. e.0) y.rest) bool-Or y.first.1)

case_and : (y : AndTree-F In_compare In_mul In_neg In_open In_prim In_sign (In SuffixTree) (In AddStep) In_add In_and In_expr In_group_step In_group In_imp In_keyed (In LastStep) (In MulStep) In_or In_params In_post In_set (In SubscriptsTree)) → Says (form_and (roll-AndTree (inner_and y))) (and_term (roll-AndTree (inner_and y)))
case_and y =
    let F : AndTree-F CompareTree MulTree NegTree OpenTree PrimTree SignTree SuffixTree AddStep AddTree AndTree ExprTree GroupStep GroupTree ImpTree KeyedTree LastStep MulStep OrTree ParamsTree PostTree SetTree SubscriptsTree → Form = λ z. forms.chain (connected z.at) (form_neg z.first) (map form_neg z.rest) in
    let G : AndTree-F CompareTree MulTree NegTree OpenTree PrimTree SignTree SuffixTree AddStep AddTree AndTree ExprTree GroupStep GroupTree ImpTree KeyedTree LastStep MulStep OrTree ParamsTree PostTree SetTree SubscriptsTree → Term = λ z. says.connected terms.And z.at (neg_term z.first) (map neg_term z.rest) in
    by-both (form_and (roll-AndTree (inner_and y))) (F (inner_and y)) (and_term (roll-AndTree (inner_and y))) (G (inner_and y)) (form_is.form_and-is (roll-AndTree (inner_and y)) ∙ ap F (out-roll-AndTree (inner_and y)))
    (term_is.and_term-is (roll-AndTree (inner_and y)) ∙ ap G (out-roll-AndTree (inner_and y))) (connected-says terms.And y.at y.at (form_neg y.first.0) (neg_term y.first.0) form_neg neg_term (map (λ e. e.0) y.rest) bool-And y.first.1)

case_add : (y : AddTree-F In_compare In_mul In_neg In_open In_prim In_sign (In SuffixTree) (In AddStep) In_add In_and In_expr In_group_step In_group In_imp In_keyed (In LastStep) (In MulStep) In_or In_params In_post In_set (In SubscriptsTree)) → Says (form_add (roll-AddTree (inner_add y))) (add_term (roll-AddTree (inner_add y)))
case_add y =
    let F : AddTree-F CompareTree MulTree NegTree OpenTree PrimTree SignTree SuffixTree AddStep AddTree AndTree ExprTree GroupStep GroupTree ImpTree KeyedTree LastStep MulStep OrTree ParamsTree PostTree SetTree SubscriptsTree → Form = λ z. forms.chain (arithmetic z.at) (form_mul z.first) (map form_add_step z.rest) in
    let G : AddTree-F CompareTree MulTree NegTree OpenTree PrimTree SignTree SuffixTree AddStep AddTree AndTree ExprTree GroupStep GroupTree ImpTree KeyedTree LastStep MulStep OrTree ParamsTree PostTree SetTree SubscriptsTree → Term = λ z. says.chain z.at (mul_term z.first) (map add_step_of z.rest) in
    by-both (form_add (roll-AddTree (inner_add y))) (F (inner_add y)) (add_term (roll-AddTree (inner_add y))) (G (inner_add y)) (form_is.form_add-is (roll-AddTree (inner_add y)) ∙ ap F (out-roll-AddTree (inner_add y)))
    (term_is.add_term-is (roll-AddTree (inner_add y)) ∙ ap G (out-roll-AddTree (inner_add y))) (chain-says y.at y.at (form_mul y.first.0) (mul_term y.first.0) form_add_step add_step_of (map (λ e. e.0) y.rest) y.first.1)

case_post : (y : PostTree-F In_compare In_mul In_neg In_open In_prim In_sign (In SuffixTree) (In AddStep) In_add In_and In_expr In_group_step In_group In_imp In_keyed (In LastStep) (In MulStep) In_or In_params In_post In_set (In SubscriptsTree)) → Says (form_post (roll-PostTree (inner_post y))) (post_term (roll-PostTree (inner_post y)))
case_post y =
    let F : PostTree-F CompareTree MulTree NegTree OpenTree PrimTree SignTree SuffixTree AddStep AddTree AndTree ExprTree GroupStep GroupTree ImpTree KeyedTree LastStep MulStep OrTree ParamsTree PostTree SetTree SubscriptsTree → Form = λ z. forms.with_suffixes z.at (form_prim z.prim) (map form_suffix z.suffixes) in
    let G : PostTree-F CompareTree MulTree NegTree OpenTree PrimTree SignTree SuffixTree AddStep AddTree AndTree ExprTree GroupStep GroupTree ImpTree KeyedTree LastStep MulStep OrTree ParamsTree PostTree SetTree SubscriptsTree → Term = λ z. says.with_suffixes z.at (prim_term z.prim) [] (map suffix_of z.suffixes) in
    by-both (form_post (roll-PostTree (inner_post y))) (F (inner_post y)) (post_term (roll-PostTree (inner_post y))) (G (inner_post y)) (form_is.form_post-is (roll-PostTree (inner_post y)) ∙ ap F (out-roll-PostTree (inner_post y)))
    (term_is.post_term-is (roll-PostTree (inner_post y)) ∙ ap G (out-roll-PostTree (inner_post y))) (suffixes-say y.at y.at (form_prim y.prim.0) (prim_term y.prim.0) [] (map (λ e. e.0) y.suffixes) y.prim.1)

case_neg : (y : NegTree-F In_compare In_mul In_neg In_open In_prim In_sign (In SuffixTree) (In AddStep) In_add In_and In_expr In_group_step In_group In_imp In_keyed (In LastStep) (In MulStep) In_or In_params In_post In_set (In SubscriptsTree)) → Says (form_neg (roll-NegTree (inner_neg y))) (neg_term (roll-NegTree (inner_neg y)))
case_neg (NegTree-F.Not at e) =
    subst (λ (t : NegTree). Says (form_neg t) (neg_term t)) (sym (negs.rolls-Not at e.0))
    (by-both (form_neg (negs.Not at e.0)) _ (neg_term (negs.Not at e.0)) _ (form_is.form_neg-Not at e.0) (term_is.neg_term-Not at e.0) (bool-Not at (neg_term e.0)))
case_neg (NegTree-F.Compare e) =
    subst (λ (t : NegTree). Says (form_neg t) (neg_term t)) (sym (negs.rolls-Compare e.0))
    (by-both (form_neg (negs.Compare e.0)) _ (neg_term (negs.Compare e.0)) _ (form_is.form_neg-Compare e.0) (term_is.neg_term-Compare e.0) (e.1))

case_compare : (y : CompareTree-F In_compare In_mul In_neg In_open In_prim In_sign (In SuffixTree) (In AddStep) In_add In_and In_expr In_group_step In_group In_imp In_keyed (In LastStep) (In MulStep) In_or In_params In_post In_set (In SubscriptsTree)) → Says (form_compare (roll-CompareTree (inner_compare y))) (compare_term (roll-CompareTree (inner_compare y)))
case_compare (CompareTree-F.Single at e) =
    subst (λ (t : CompareTree). Says (form_compare t) (compare_term t)) (sym (compares.rolls-Single at e.0))
    (by-both (form_compare (compares.Single at e.0)) _ (compare_term (compares.Single at e.0)) _ (form_is.form_compare-Single at e.0) (term_is.compare_term-Single at e.0) (e.1))
case_compare (CompareTree-F.Related at e relation d) =
    subst (λ (t : CompareTree). Says (form_compare t) (compare_term t)) (sym (compares.rolls-Related at e.0 relation d.0))
    (by-both (form_compare (compares.Related at e.0 relation d.0)) _ (compare_term (compares.Related at e.0 relation d.0)) _ (form_is.form_compare-Related at e.0 relation d.0) (term_is.compare_term-Related at e.0 relation d.0) (bool-Related at (add_term e.0) relation (add_term d.0)))
case_compare (CompareTree-F.Member at e d) =
    subst (λ (t : CompareTree). Says (form_compare t) (compare_term t)) (sym (compares.rolls-Member at e.0 d.0))
    (by-both (form_compare (compares.Member at e.0 d.0)) _ (compare_term (compares.Member at e.0 d.0)) _ (form_is.form_compare-Member at e.0 d.0) (term_is.compare_term-Member at e.0 d.0) (bool-Member at (add_term e.0) _))

case_mul : (y : MulTree-F In_compare In_mul In_neg In_open In_prim In_sign (In SuffixTree) (In AddStep) In_add In_and In_expr In_group_step In_group In_imp In_keyed (In LastStep) (In MulStep) In_or In_params In_post In_set (In SubscriptsTree)) → Says (form_mul (roll-MulTree (inner_mul y))) (mul_term (roll-MulTree (inner_mul y)))
case_mul (MulTree-F.Opened e) =
    subst (λ (t : MulTree). Says (form_mul t) (mul_term t)) (sym (muls.rolls-Opened e.0))
    (by-both (form_mul (muls.Opened e.0)) _ (mul_term (muls.Opened e.0)) _ (form_is.form_mul-Opened e.0) (term_is.mul_term-Opened e.0) (e.1))
case_mul (MulTree-F.Product at e steps None) =
    subst (λ (t : MulTree). Says (form_mul t) (mul_term t)) (sym (muls.rolls-Product at e.0 (map (λ e. e.0) steps) None))
    (by-both (form_mul (muls.Product at e.0 (map (λ e. e.0) steps) None)) _ (mul_term (muls.Product at e.0 (map (λ e. e.0) steps) None)) _ (form_is.form_mul-Product at e.0 (map (λ e. e.0) steps) None) (term_is.mul_term-Product at e.0 (map (λ e. e.0) steps) None) (product-says at (form_sign e.0) (sign_term e.0) (map (λ e. e.0) steps) None e.1))
case_mul (MulTree-F.Product at e steps (Some d)) =
    subst (λ (t : MulTree). Says (form_mul t) (mul_term t)) (sym (muls.rolls-Product at e.0 (map (λ e. e.0) steps) (Some d.0)))
    (by-both (form_mul (muls.Product at e.0 (map (λ e. e.0) steps) (Some d.0))) _ (mul_term (muls.Product at e.0 (map (λ e. e.0) steps) (Some d.0))) _ (form_is.form_mul-Product at e.0 (map (λ e. e.0) steps) (Some d.0)) (term_is.mul_term-Product at e.0 (map (λ e. e.0) steps) (Some d.0)) (product-says at (form_sign e.0) (sign_term e.0) (map (λ e. e.0) steps) (Some d.0) e.1))

case_open : (y : OpenTree-F In_compare In_mul In_neg In_open In_prim In_sign (In SuffixTree) (In AddStep) In_add In_and In_expr In_group_step In_group In_imp In_keyed (In LastStep) (In MulStep) In_or In_params In_post In_set (In SubscriptsTree)) → Says (form_open (roll-OpenTree (inner_open y))) (open_term (roll-OpenTree (inner_open y)))
case_open (OpenTree-F.NegativeOpen at e) =
    subst (λ (t : OpenTree). Says (form_open t) (open_term t)) (sym (opens.rolls-NegativeOpen at e.0))
    (by-both (form_open (opens.NegativeOpen at e.0)) _ (open_term (opens.NegativeOpen at e.0)) _ (form_is.form_open-NegativeOpen at e.0) (term_is.open_term-NegativeOpen at e.0) (int-Negative at (open_term e.0)))
case_open (OpenTree-F.Aggregate at op params e) =
    subst (λ (t : OpenTree). Says (form_open t) (open_term t)) (sym (opens.rolls-Aggregate at op params.0 e.0))
    (by-both (form_open (opens.Aggregate at op params.0 e.0)) _ (open_term (opens.Aggregate at op params.0 e.0)) _ (form_is.form_open-Aggregate at op params.0 e.0) (term_is.open_term-Aggregate at op params.0 e.0) (int-Aggregate at op _ _ (mul_term e.0)))

case_sign : (y : SignTree-F In_compare In_mul In_neg In_open In_prim In_sign (In SuffixTree) (In AddStep) In_add In_and In_expr In_group_step In_group In_imp In_keyed (In LastStep) (In MulStep) In_or In_params In_post In_set (In SubscriptsTree)) → Says (form_sign (roll-SignTree (inner_sign y))) (sign_term (roll-SignTree (inner_sign y)))
case_sign (SignTree-F.Negative at e) =
    subst (λ (t : SignTree). Says (form_sign t) (sign_term t)) (sym (signs.rolls-Negative at e.0))
    (by-both (form_sign (signs.Negative at e.0)) _ (sign_term (signs.Negative at e.0)) _ (form_is.form_sign-Negative at e.0) (term_is.sign_term-Negative at e.0) (int-Negative at (sign_term e.0)))
case_sign (SignTree-F.Postfix e) =
    subst (λ (t : SignTree). Says (form_sign t) (sign_term t)) (sym (signs.rolls-Postfix e.0))
    (by-both (form_sign (signs.Postfix e.0)) _ (sign_term (signs.Postfix e.0)) _ (form_is.form_sign-Postfix e.0) (term_is.sign_term-Postfix e.0) (e.1))

text-is : (name : NameTree) → text_of name ≡ name.text
unfolding text_of
text-is name = refl

call-says : (op : CallOp) (at p : ℕ) (f : Form) (t : Term) → Says (forms.call op at f) (terms.Call p op t)
call-says calls.Absolute at p f t = int-Call p calls.Absolute t
call-says calls.Cardinality at p f t = int-Call p calls.Cardinality t

case_prim : (y : PrimTree-F In_compare In_mul In_neg In_open In_prim In_sign (In SuffixTree) (In AddStep) In_add In_and In_expr In_group_step In_group In_imp In_keyed (In LastStep) (In MulStep) In_or In_params In_post In_set (In SubscriptsTree)) → Says (form_prim (roll-PrimTree (inner_prim y))) (prim_term (roll-PrimTree (inner_prim y)))
case_prim (PrimTree-F.Number at n) =
    subst (λ (t : PrimTree). Says (form_prim t) (prim_term t)) (sym (prims.rolls-Number at n))
    (by-both (form_prim (prims.Number at n)) _ (prim_term (prims.Number at n)) _ (form_is.form_prim-Number at n) (term_is.prim_term-Number at n) (int-Number at n))
case_prim (PrimTree-F.Named name) =
    subst (λ (t : PrimTree). Says (form_prim t) (prim_term t)) (sym (prims.rolls-Named name))
    (by-both (form_prim (prims.Named name)) _ (prim_term (prims.Named name)) _ (form_is.form_prim-Named name) (term_is.prim_term-Named name) (ap (terms.Named name.at) (text-is name)))
case_prim (PrimTree-F.Bracket at e) =
    subst (λ (t : PrimTree). Says (form_prim t) (prim_term t)) (sym (prims.rolls-Bracket at e.0))
    (by-both (form_prim (prims.Bracket at e.0)) _ (prim_term (prims.Bracket at e.0)) _ (form_is.form_prim-Bracket at e.0) (term_is.prim_term-Bracket at e.0) ((at, expr_term e.0, refl, e.1)))
case_prim (PrimTree-F.Record at e es) =
    subst (λ (t : PrimTree). Says (form_prim t) (prim_term t)) (sym (prims.rolls-Record at e.0 (map (λ e. e.0) es)))
    (by-both (form_prim (prims.Record at e.0 (map (λ e. e.0) es))) _ (prim_term (prims.Record at e.0 (map (λ e. e.0) es))) _ (form_is.form_prim-Record at e.0 (map (λ e. e.0) es)) (term_is.prim_term-Record at e.0 (map (λ e. e.0) es)) ((at, add_term e.0 ∷ map add_term (map (λ e. e.0) es), refl, (e.1, all-say es))))
case_prim (PrimTree-F.Listed at es) =
    subst (λ (t : PrimTree). Says (form_prim t) (prim_term t)) (sym (prims.rolls-Listed at (map (λ e. e.0) es)))
    (by-both (form_prim (prims.Listed at (map (λ e. e.0) es))) _ (prim_term (prims.Listed at (map (λ e. e.0) es))) _ (form_is.form_prim-Listed at (map (λ e. e.0) es)) (term_is.prim_term-Listed at (map (λ e. e.0) es)) ((at, map add_term (map (λ e. e.0) es), refl, all-say es)))
case_prim (PrimTree-F.Described at e d) =
    subst (λ (t : PrimTree). Says (form_prim t) (prim_term t)) (sym (prims.rolls-Described at e.0 d.0))
    (by-both (form_prim (prims.Described at e.0 d.0)) _ (prim_term (prims.Described at e.0 d.0)) _ (form_is.form_prim-Described at e.0 d.0) (term_is.prim_term-Described at e.0 d.0) (at, add_term e.0, (params_term d.0).groups, (params_term d.0).condition, refl, e.1, d.1))
case_prim (PrimTree-F.Array at es) =
    subst (λ (t : PrimTree). Says (form_prim t) (prim_term t)) (sym (prims.rolls-Array at (map (λ e. e.0) es)))
    (by-both (form_prim (prims.Array at (map (λ e. e.0) es))) _ (prim_term (prims.Array at (map (λ e. e.0) es))) _ (form_is.form_prim-Array at (map (λ e. e.0) es)) (term_is.prim_term-Array at (map (λ e. e.0) es)) (at, map add_term (map (λ e. e.0) es), refl, all-say es))
case_prim (PrimTree-F.KeyedArray at es) =
    subst (λ (t : PrimTree). Says (form_prim t) (prim_term t)) (sym (prims.rolls-KeyedArray at (map (λ e. e.0) es)))
    (by-both (form_prim (prims.KeyedArray at (map (λ e. e.0) es))) _ (prim_term (prims.KeyedArray at (map (λ e. e.0) es))) _ (form_is.form_prim-KeyedArray at (map (λ e. e.0) es)) (term_is.prim_term-KeyedArray at (map (λ e. e.0) es)) (at, map (λ p. p.key) (map keyed_pair (map (λ e. e.0) es)), map (λ p. p.cell) (map keyed_pair (map (λ e. e.0) es)), refl, pairs-say es))
case_prim (PrimTree-F.Call at op e) =
    subst (λ (t : PrimTree). Says (form_prim t) (prim_term t)) (sym (prims.rolls-Call at op e.0))
    (by-both (form_prim (prims.Call at op e.0)) _ (prim_term (prims.Call at op e.0)) _ (form_is.form_prim-Call at op e.0) (term_is.prim_term-Call at op e.0) (call-says op at at (form_expr e.0) (expr_term e.0)))
case_prim (PrimTree-F.AllDifferent at e) =
    subst (λ (t : PrimTree). Says (form_prim t) (prim_term t)) (sym (prims.rolls-AllDifferent at e.0))
    (by-both (form_prim (prims.AllDifferent at e.0)) _ (prim_term (prims.AllDifferent at e.0)) _ (form_is.form_prim-AllDifferent at e.0) (term_is.prim_term-AllDifferent at e.0) (bool-AllDifferent at (add_term e.0)))
case_prim (PrimTree-F.Question at op e) =
    subst (λ (t : PrimTree). Says (form_prim t) (prim_term t)) (sym (prims.rolls-Question at op e.0))
    (by-both (form_prim (prims.Question at op e.0)) _ (prim_term (prims.Question at op e.0)) _ (form_is.form_prim-Question at op e.0) (term_is.prim_term-Question at op e.0) (ap whole_layer (terms.outs-Question at op (post_term e.0))))

-- ---- sets and parameters

said-set : (low : AddTree) (o : Option AddTree) → Says (form_add low) (add_term low) → SetSays (forms.set_form (form_add low) (option_map form_add o)) (says.set_of (add_term low) (option_map add_term o))
said-set low None s = (add_term low, refl, s)
said-set low (Some t) s = (add_term low, add_term t, refl)

set-both : (f g : forms.SetForm) (t u : SetTerm) → f ≡ g → t ≡ u → SetSays g u → SetSays f t
set-both f g t u p q s = subst (λ (h : forms.SetForm). SetSays h t) (sym p) (subst (SetSays g) (sym q) s)

group-both : (f g : forms.Group) (t u : GroupTerm) → f ≡ g → t ≡ u → GroupSays g u → GroupSays f t
group-both f g t u p q s = subst (λ (h : forms.Group). GroupSays h t) (sym p) (subst (GroupSays g) (sym q) s)

case_set : (y : SetTree-F In_compare In_mul In_neg In_open In_prim In_sign (In SuffixTree) (In AddStep) In_add In_and In_expr In_group_step In_group In_imp In_keyed (In LastStep) (In MulStep) In_or In_params In_post In_set (In SubscriptsTree)) → SetSays (form_set (roll-SetTree (inner_set y))) (set_term (roll-SetTree (inner_set y)))
case_set y =
    let F : SetTree-F CompareTree MulTree NegTree OpenTree PrimTree SignTree SuffixTree AddStep AddTree AndTree ExprTree GroupStep GroupTree ImpTree KeyedTree LastStep MulStep OrTree ParamsTree PostTree SetTree SubscriptsTree → forms.SetForm = λ z. forms.set_form (form_add z.low) (option_map form_add z.high) in
    let G : SetTree-F CompareTree MulTree NegTree OpenTree PrimTree SignTree SuffixTree AddStep AddTree AndTree ExprTree GroupStep GroupTree ImpTree KeyedTree LastStep MulStep OrTree ParamsTree PostTree SetTree SubscriptsTree → SetTerm = λ z. says.set_of (add_term z.low) (option_map add_term z.high) in
    set-both (form_set (roll-SetTree (inner_set y))) (F (inner_set y)) (set_term (roll-SetTree (inner_set y))) (G (inner_set y)) (form_is.form_set-is (roll-SetTree (inner_set y)) ∙ ap F (out-roll-SetTree (inner_set y)))
    (term_is.set_term-is (roll-SetTree (inner_set y)) ∙ ap G (out-roll-SetTree (inner_set y))) (said-set y.low.0 (inner_set y).high y.low.1)

case_group : (y : GroupTree-F In_compare In_mul In_neg In_open In_prim In_sign (In SuffixTree) (In AddStep) In_add In_and In_expr In_group_step In_group In_imp In_keyed (In LastStep) (In MulStep) In_or In_params In_post In_set (In SubscriptsTree)) → GroupSays (form_group (roll-GroupTree (inner_group y))) (group_term (roll-GroupTree (inner_group y)))
case_group y =
    let F : GroupTree-F CompareTree MulTree NegTree OpenTree PrimTree SignTree SuffixTree AddStep AddTree AndTree ExprTree GroupStep GroupTree ImpTree KeyedTree LastStep MulStep OrTree ParamsTree PostTree SetTree SubscriptsTree → forms.Group = λ z. record { patterns = z.first ∷ z.rest; over = form_set z.set } in
    let G : GroupTree-F CompareTree MulTree NegTree OpenTree PrimTree SignTree SuffixTree AddStep AddTree AndTree ExprTree GroupStep GroupTree ImpTree KeyedTree LastStep MulStep OrTree ParamsTree PostTree SetTree SubscriptsTree → GroupTerm = λ z. says.group_of z.is_ordered (map pattern_of (z.first ∷ z.rest)) (set_term z.set) in
    group-both (form_group (roll-GroupTree (inner_group y))) (F (inner_group y)) (group_term (roll-GroupTree (inner_group y))) (G (inner_group y)) (form_is.form_group-is (roll-GroupTree (inner_group y)) ∙ ap F (out-roll-GroupTree (inner_group y)))
    (term_is.group_term-is (roll-GroupTree (inner_group y)) ∙ ap G (out-roll-GroupTree (inner_group y))) (y.is_ordered, set_term y.set.0, refl, y.set.1)

case_group_step : (y : GroupStep-F In_compare In_mul In_neg In_open In_prim In_sign (In SuffixTree) (In AddStep) In_add In_and In_expr In_group_step In_group In_imp In_keyed (In LastStep) (In MulStep) In_or In_params In_post In_set (In SubscriptsTree)) → GroupSays (form_group_step (roll-GroupStep (inner_group_step y))) (group_step_term (roll-GroupStep (inner_group_step y)))
case_group_step y =
    let F : GroupStep-F CompareTree MulTree NegTree OpenTree PrimTree SignTree SuffixTree AddStep AddTree AndTree ExprTree GroupStep GroupTree ImpTree KeyedTree LastStep MulStep OrTree ParamsTree PostTree SetTree SubscriptsTree → forms.Group = λ z. form_group z.group in
    let G : GroupStep-F CompareTree MulTree NegTree OpenTree PrimTree SignTree SuffixTree AddStep AddTree AndTree ExprTree GroupStep GroupTree ImpTree KeyedTree LastStep MulStep OrTree ParamsTree PostTree SetTree SubscriptsTree → GroupTerm = λ z. group_term z.group in
    group-both (form_group_step (roll-GroupStep (inner_group_step y))) (F (inner_group_step y)) (group_step_term (roll-GroupStep (inner_group_step y))) (G (inner_group_step y)) (form_is.form_group_step-is (roll-GroupStep (inner_group_step y)) ∙ ap F (out-roll-GroupStep (inner_group_step y)))
    (term_is.group_step_term-is (roll-GroupStep (inner_group_step y)) ∙ ap G (out-roll-GroupStep (inner_group_step y))) y.group.1

steps-say : (ss : List In_group_step) → GroupsSay (forms.groups_of (map form_group_step (map (λ e. e.0) ss))) (map group_step_term (map (λ e. e.0) ss))
steps-say [] = tt
steps-say (e ∷ es) = (e.1.0, e.1.1, e.1.2, e.1.3, steps-say es)

params-say : (groups : forms.Groups) (gs : List GroupTerm) (c : Option Form) → GroupsSay groups gs → ParamsSay (forms.params_form groups c) gs
params-say outer gs None s = s
params-say outer gs (Some c) s = s

params-both : (f g : forms.Params) (t u : List GroupTerm) → f ≡ g → t ≡ u → ParamsSay g u → ParamsSay f t
params-both f g t u p q s = subst (λ (h : forms.Params). ParamsSay h t) (sym p) (subst (ParamsSay g) (sym q) s)

case_params : (y : ParamsTree-F In_compare In_mul In_neg In_open In_prim In_sign (In SuffixTree) (In AddStep) In_add In_and In_expr In_group_step In_group In_imp In_keyed (In LastStep) (In MulStep) In_or In_params In_post In_set (In SubscriptsTree)) → ParamsSay (form_params (roll-ParamsTree (inner_params y))) (params_term (roll-ParamsTree (inner_params y))).groups
case_params y =
    let F : ParamsTree-F CompareTree MulTree NegTree OpenTree PrimTree SignTree SuffixTree AddStep AddTree AndTree ExprTree GroupStep GroupTree ImpTree KeyedTree LastStep MulStep OrTree ParamsTree PostTree SetTree SubscriptsTree → forms.Params = λ z. forms.params_form (forms.groups_of (form_group z.first ∷ map form_group_step z.rest)) (option_map form_expr z.condition) in
    let G : ParamsTree-F CompareTree MulTree NegTree OpenTree PrimTree SignTree SuffixTree AddStep AddTree AndTree ExprTree GroupStep GroupTree ImpTree KeyedTree LastStep MulStep OrTree ParamsTree PostTree SetTree SubscriptsTree → List GroupTerm = λ z. group_term z.first ∷ map group_step_term z.rest in
    params-both (form_params (roll-ParamsTree (inner_params y))) (F (inner_params y)) (params_term (roll-ParamsTree (inner_params y))).groups (G (inner_params y)) (form_is.form_params-is (roll-ParamsTree (inner_params y)) ∙ ap F (out-roll-ParamsTree (inner_params y)))
    (ap (λ p. p.groups) (term_is.params_term-is (roll-ParamsTree (inner_params y))) ∙ ap G (out-roll-ParamsTree (inner_params y)))
    (params-say (forms.groups_of (form_group y.first.0 ∷ map form_group_step (map (λ e. e.0) y.rest))) (group_term y.first.0 ∷ map group_step_term (map (λ e. e.0) y.rest)) (option_map form_expr (inner_params y).condition)
    (y.first.1.0, y.first.1.1, y.first.1.2, y.first.1.3, steps-say y.rest))

pair-both : (f g : forms.Pair) (t u : says.Pair) → f ≡ g → t ≡ u → PairSays g u → PairSays f t
pair-both f g t u p q s = subst (λ (h : forms.Pair). PairSays h t) (sym p) (subst (PairSays g) (sym q) s)

case_keyed : (y : KeyedTree-F In_compare In_mul In_neg In_open In_prim In_sign (In SuffixTree) (In AddStep) In_add In_and In_expr In_group_step In_group In_imp In_keyed (In LastStep) (In MulStep) In_or In_params In_post In_set (In SubscriptsTree)) → PairSays (form_keyed (roll-KeyedTree (inner_keyed y))) (keyed_pair (roll-KeyedTree (inner_keyed y)))
case_keyed y =
    let F : KeyedTree-F CompareTree MulTree NegTree OpenTree PrimTree SignTree SuffixTree AddStep AddTree AndTree ExprTree GroupStep GroupTree ImpTree KeyedTree LastStep MulStep OrTree ParamsTree PostTree SetTree SubscriptsTree → forms.Pair = λ z. record { key = form_add z.key; cell = form_add z.value } in
    let G : KeyedTree-F CompareTree MulTree NegTree OpenTree PrimTree SignTree SuffixTree AddStep AddTree AndTree ExprTree GroupStep GroupTree ImpTree KeyedTree LastStep MulStep OrTree ParamsTree PostTree SetTree SubscriptsTree → says.Pair = λ z. record { key = add_term z.key; cell = add_term z.value } in
    pair-both (form_keyed (roll-KeyedTree (inner_keyed y))) (F (inner_keyed y)) (keyed_pair (roll-KeyedTree (inner_keyed y))) (G (inner_keyed y)) (form_is.form_keyed-is (roll-KeyedTree (inner_keyed y)) ∙ ap F (out-roll-KeyedTree (inner_keyed y)))
    (term_is.keyed_pair-is (roll-KeyedTree (inner_keyed y)) ∙ ap G (out-roll-KeyedTree (inner_keyed y))) y.value.1

-- ---- every tree

pub add-says : (t : AddTree) → Says (form_add t) (add_term t)
add-says = ind-AddTree (λ t. Says (form_compare t) (compare_term t)) (λ t. Says (form_mul t) (mul_term t)) (λ t. Says (form_neg t) (neg_term t)) (λ t. Says (form_open t) (open_term t)) (λ t. Says (form_prim t) (prim_term t)) (λ t. Says (form_sign t) (sign_term t)) Any Any (λ t. Says (form_add t) (add_term t)) (λ t. Says (form_and t) (and_term t)) (λ t. Says (form_expr t) (expr_term t)) (λ t. GroupSays (form_group_step t) (group_step_term t)) (λ t. GroupSays (form_group t) (group_term t)) (λ t. Says (form_imp t) (imp_term t)) (λ t. PairSays (form_keyed t) (keyed_pair t)) Any Any (λ t. Says (form_or t) (or_term t)) (λ t. ParamsSay (form_params t) (params_term t).groups) (λ t. Says (form_post t) (post_term t)) (λ t. SetSays (form_set t) (set_term t)) Any
    (λ x y is. subst (λ z. Says (form_compare (roll-CompareTree z)) (compare_term (roll-CompareTree z))) is (case_compare y))
    (λ x y is. subst (λ z. Says (form_mul (roll-MulTree z)) (mul_term (roll-MulTree z))) is (case_mul y))
    (λ x y is. subst (λ z. Says (form_neg (roll-NegTree z)) (neg_term (roll-NegTree z))) is (case_neg y))
    (λ x y is. subst (λ z. Says (form_open (roll-OpenTree z)) (open_term (roll-OpenTree z))) is (case_open y))
    (λ x y is. subst (λ z. Says (form_prim (roll-PrimTree z)) (prim_term (roll-PrimTree z))) is (case_prim y))
    (λ x y is. subst (λ z. Says (form_sign (roll-SignTree z)) (sign_term (roll-SignTree z))) is (case_sign y))
    (λ x y is. tt)
    (λ x y is. tt)
    (λ x y is. subst (λ z. Says (form_add (roll-AddTree z)) (add_term (roll-AddTree z))) is (case_add y))
    (λ x y is. subst (λ z. Says (form_and (roll-AndTree z)) (and_term (roll-AndTree z))) is (case_and y))
    (λ x y is. subst (λ z. Says (form_expr (roll-ExprTree z)) (expr_term (roll-ExprTree z))) is (case_expr y))
    (λ x y is. subst (λ z. GroupSays (form_group_step (roll-GroupStep z)) (group_step_term (roll-GroupStep z))) is (case_group_step y))
    (λ x y is. subst (λ z. GroupSays (form_group (roll-GroupTree z)) (group_term (roll-GroupTree z))) is (case_group y))
    (λ x y is. subst (λ z. Says (form_imp (roll-ImpTree z)) (imp_term (roll-ImpTree z))) is (case_imp y))
    (λ x y is. subst (λ z. PairSays (form_keyed (roll-KeyedTree z)) (keyed_pair (roll-KeyedTree z))) is (case_keyed y))
    (λ x y is. tt)
    (λ x y is. tt)
    (λ x y is. subst (λ z. Says (form_or (roll-OrTree z)) (or_term (roll-OrTree z))) is (case_or y))
    (λ x y is. subst (λ z. ParamsSay (form_params (roll-ParamsTree z)) (params_term (roll-ParamsTree z)).groups) is (case_params y))
    (λ x y is. subst (λ z. Says (form_post (roll-PostTree z)) (post_term (roll-PostTree z))) is (case_post y))
    (λ x y is. subst (λ z. SetSays (form_set (roll-SetTree z)) (set_term (roll-SetTree z))) is (case_set y))
    (λ x y is. tt)

-- and every set
pub set-says : (t : SetTree) → SetSays (form_set t) (set_term t)
set-says t =
    set-both (form_set t) (forms.set_form (form_add (out-SetTree t).low) (option_map form_add (out-SetTree t).high)) (set_term t) (says.set_of (add_term (out-SetTree t).low) (option_map add_term (out-SetTree t).high)) (form_is.form_set-is t) (term_is.set_term-is t)
    (said-set (out-SetTree t).low (out-SetTree t).high (add-says (out-SetTree t).low))
