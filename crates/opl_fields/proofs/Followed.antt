-- The walk over the term of each tree takes what typing lists for the form of that tree, and finds what typing tells.
use Rattle.std.proofs.Common.{◌≡◌, ℕ, List, [], ◌∷◌, ◌++◌, map, Option, None, Some, refl, ap, sym, subst, ◌∙◌, Bool, true, false}
use Rattle.std.specs.Option.{option_map}
use Rattle.opl_tree.specs.declared.declaration.DeclTree.{DeclTree}
use Rattle.opl_tree.specs.declared.expression.CompareTree.{CompareTree}
use Rattle.opl_tree.specs.declared.expression.MulTree.{MulTree}
use Rattle.opl_tree.specs.declared.expression.NegTree.{NegTree}
use Rattle.opl_tree.specs.declared.expression.OpenTree.{OpenTree}
use Rattle.opl_tree.specs.declared.expression.PrimTree.{PrimTree}
use Rattle.opl_tree.specs.declared.expression.SignTree.{SignTree}
use Rattle.opl_tree.specs.declared.expression.SuffixTree.{SuffixTree}
use Rattle.opl_tree.specs.declared.expression.AddStep.{AddStep}
use Rattle.opl_tree.specs.declared.expression.AddTree.{AddTree}
use Rattle.opl_tree.specs.declared.expression.AndTree.{AndTree}
use Rattle.opl_tree.specs.declared.expression.ExprTree.{ExprTree}
use Rattle.opl_tree.specs.declared.expression.GroupStep.{GroupStep}
use Rattle.opl_tree.specs.declared.expression.GroupTree.{GroupTree}
use Rattle.opl_tree.specs.declared.expression.ImpTree.{ImpTree}
use Rattle.opl_tree.specs.declared.expression.KeyedTree.{KeyedTree}
use Rattle.opl_tree.specs.declared.expression.LastStep.{LastStep}
use Rattle.opl_tree.specs.declared.expression.MulStep.{MulStep}
use Rattle.opl_tree.specs.declared.expression.OrTree.{OrTree}
use Rattle.opl_tree.specs.declared.expression.ParamsTree.{ParamsTree}
use Rattle.opl_tree.specs.declared.expression.PostTree.{PostTree}
use Rattle.opl_tree.specs.declared.expression.SetTree.{SetTree}
use Rattle.opl_tree.specs.declared.expression.SubscriptsTree.{SubscriptsTree}
use Rattle.opl_tree.specs.declared.expression.NameTree.{NameTree}
use Rattle.opl_tree.specs.declared.expression.NegTree.TheVariants as negs
use Rattle.opl_tree.specs.declared.expression.CompareTree.TheVariants as compares
use Rattle.opl_tree.specs.declared.expression.MulTree.TheVariants as muls
use Rattle.opl_tree.specs.declared.expression.OpenTree.TheVariants as opens
use Rattle.opl_tree.specs.declared.expression.SignTree.TheVariants as signs
use Rattle.opl_tree.specs.declared.expression.SuffixTree.TheVariants as suffixes
use Rattle.opl_tree.specs.declared.expression.PrimTree.TheVariants as prims
use Rattle.opl_tree.specs.declared.expression.CompareTree.TheOpen.{CompareTree-F, MulTree-F, NegTree-F, OpenTree-F, PrimTree-F, SignTree-F, SuffixTree-F, AddStep-F, AddTree-F, AndTree-F, ExprTree-F, GroupStep-F, GroupTree-F, ImpTree-F, KeyedTree-F, LastStep-F, MulStep-F, OrTree-F, ParamsTree-F, PostTree-F, SetTree-F, SubscriptsTree-F}
use Rattle.opl_tree.specs.declared.expression.CompareTree.TheViews.{roll-CompareTree, roll-MulTree, roll-NegTree, roll-OpenTree, roll-PrimTree, roll-SignTree, roll-SuffixTree, roll-AddStep, roll-AddTree, roll-AndTree, roll-ExprTree, roll-GroupStep, roll-GroupTree, roll-ImpTree, roll-KeyedTree, roll-LastStep, roll-MulStep, roll-OrTree, roll-ParamsTree, roll-PostTree, roll-SetTree, roll-SubscriptsTree, out-roll-AddStep, out-roll-AddTree, out-roll-AndTree, out-roll-ExprTree, out-roll-GroupStep, out-roll-GroupTree, out-roll-ImpTree, out-roll-KeyedTree, out-roll-LastStep, out-roll-MulStep, out-roll-OrTree, out-roll-ParamsTree, out-roll-PostTree, out-roll-SetTree, out-roll-SubscriptsTree}
use Rattle.opl_tree.specs.declared.expression.CompareTree.TheFolds.{map-CompareTree, map-MulTree, map-NegTree, map-OpenTree, map-PrimTree, map-SignTree, map-SuffixTree, map-AddStep, map-AddTree, map-AndTree, map-ExprTree, map-GroupStep, map-GroupTree, map-ImpTree, map-KeyedTree, map-LastStep, map-MulStep, map-OrTree, map-ParamsTree, map-PostTree, map-SetTree, map-SubscriptsTree, ind-AddTree, ind-ExprTree, ind-KeyedTree, ind-MulTree, ind-OpenTree, ind-ParamsTree, ind-PostTree, ind-PrimTree, ind-SetTree, ind-SignTree, ind-SubscriptsTree}
use Rattle.opl_term.specs.declared.term.FieldName.{FieldName}
use Rattle.opl_term.specs.declared.term.GroupTerm.{GroupTerm}
use Rattle.opl_term.specs.declared.term.ParamsTerm.{ParamsTerm}
use Rattle.opl_term.specs.declared.term.Pattern.{Pattern}
use Rattle.opl_term.specs.declared.term.Step.{Step}
use Rattle.opl_term.specs.declared.term.SetTerm.{SetTerm}
use Rattle.opl_term.specs.declared.term.Term.{Term}
use Rattle.opl_term.specs.declared.term.Term.TheVariants as terms
use Rattle.opl_term.specs.Terms.{compare_term, mul_term, neg_term, open_term, prim_term, sign_term, suffix_of, add_step_of, add_term, and_term, expr_term, group_step_term, group_term, imp_term, keyed_pair, last_step_of, mul_step_of, or_term, params_term, post_term, set_term, subscripts_terms, text_of, pattern_of}
use Rattle.opl_term.specs.Terms as says
use Rattle.opl_type_rules.specs.Forms.{Form, Group, Params, SetForm, forms_of, groups_of, pairs_of, form_compare, form_mul, form_neg, form_open, form_prim, form_sign, form_suffix, form_add_step, form_add, form_and, form_expr, form_group_step, form_group, form_imp, form_keyed, form_last_step, form_mul_step, form_or, form_params, form_post, form_set, form_subscripts}
use Rattle.opl_type_rules.specs.Forms as forms
use Rattle.opl_type_rules.specs.Forms.Form.{connected, arithmetic}
use Rattle.opl_type_rules.specs.Forms.Suffix.{subscripts, field_of}
use Rattle.opl_type_rules.specs.Expressions.{kinds, kinds_in}
use Rattle.opl_fields.specs.Typed.{form_fields, set_fields}
use Rattle.opl_term.proofs.Layers as term_is
use Rattle.opl_type_rules.proofs.Forms as form_is
use Rattle.opl_fields.specs.Walk.{State, Pass, one, each, if_written, walk, walk_step, walk_set, walk_group}
use Rattle.opl_fields.proofs.Walks.{walk-Chain, walk-Equivalent, walk-Implied, walk-Or, walk-And, walk-Not, walk-Number, walk_step-Plus, walk_step-Minus, walk_step-Times, walk_step-Quotient, walk_step-Remainder, walk_group-Unordered, walk_group-Ordered}
use Rattle.opl_tree.specs.declared.expression.AddOp.{AddOp}
use Rattle.opl_tree.specs.declared.expression.AddOp.TheVariants as add_ops
use Rattle.opl_tree.specs.declared.expression.MulOp.{MulOp}
use Rattle.opl_tree.specs.declared.expression.MulOp.TheVariants as mul_ops
use Rattle.opl_fields.proofs.Taken.{takes-by, Follows, FollowEach, FollowsSet, FollowGroups, FollowsParams, FollowsPair, FollowPairs, set-Whole, set-Between, params-all, params-those, follows-Number, follows-Named, follows-Bracket, follows-Negative, follows-Call, follows-AllDifferent, follows-Question, follows-Related, follows-Member, follows-Arithmetic, follows-Connected, follows-Record, follows-Listed, follows-Array, follows-KeyedArray, follows-Aggregate, follows-Described, follows-Element, follows-Field}

-- the same by equal walks
by-walk : (ds : List DeclTree) (f : Form) (g h : Pass) → ((s : State) → g s ≡ h s) → Follows ds f h → Follows ds f g
by-walk ds f g h e p sc n is = takes-by g h (kinds n) (form_fields ds sc f) e (p sc n is)

-- the same form and the same term
pub by-both : (ds : List DeclTree) (f f' : Form) (t t' : Term) → f ≡ f' → t ≡ t' → Follows ds f' (walk ds t') → Follows ds f (walk ds t)
by-both ds f f' t t' e h p = subst (λ f. Follows ds f (walk ds t)) (sym e) (subst (λ t. Follows ds f' (walk ds t)) (sym h) p)

-- an expression with fields that a suffix stands behind, once more as an expression with fields: more suffixes behind are behind that, and the walk
-- follows its form
pub record Behind (ds : List DeclTree) (s : SuffixTree) (at : ℕ) (f : Form) (t : Term) (names : List FieldName) : Type 0 where
  pub base : Term
  pub fields : List FieldName
  pub goes_on : (ss : List SuffixTree) → says.with_suffixes at t names (suffix_of s ∷ map suffix_of ss) ≡ says.with_suffixes at base fields (map suffix_of ss)
  pub follows : Follows ds (forms.with_suffix at f (form_suffix s)) (walk ds (says.with_fields at base fields))

-- what stands behind a primary
abbrev pub FollowsSuffix : List DeclTree → SuffixTree → Type 0
FollowsSuffix ds s = (at : ℕ) (f : Form) (t : Term) (names : List FieldName) → Follows ds f (walk ds (says.with_fields at t names)) → Behind ds s at f t names

follows-suffixes : (ds : List DeclTree) (at : ℕ) (f : Form) (t : Term) (names : List FieldName) (es : List ((s : SuffixTree) × FollowsSuffix ds s)) → Follows ds f (walk ds (says.with_fields at t names)) →
    Follows ds (forms.with_suffixes at f (map form_suffix (map (λ e. e.0) es))) (walk ds (says.with_suffixes at t names (map suffix_of (map (λ e. e.0) es))))
follows-suffixes ds at f t names [] p = p
follows-suffixes ds at f t names (e ∷ es) p =
    let b : Behind ds e.0 at f t names = e.1 at f t names p in
    subst (λ u. Follows ds (forms.with_suffixes at (forms.with_suffix at f (form_suffix e.0)) (map form_suffix (map (λ e. e.0) es))) (walk ds u)) (sym (b.goes_on (map (λ e. e.0) es)))
    (follows-suffixes ds at (forms.with_suffix at f (form_suffix e.0)) b.base b.fields es b.follows)

-- ---- lists of parts of which something is known

each-follows : {T : Type 0} (ds : List DeclTree) (f : T → Form) (g : T → Pass) (es : List ((t : T) × Follows ds (f t) (g t))) → FollowEach ds (map f (map (λ e. e.0) es)) (map g (map (λ e. e.0) es))
each-follows ds f g [] = tt
each-follows ds f g (e ∷ es) = (e.1, each-follows ds f g es)

terms-follow : {T : Type 0} (ds : List DeclTree) (f : T → Form) (g : T → Term) (es : List ((t : T) × Follows ds (f t) (walk ds (g t)))) → FollowEach ds (map f (map (λ e. e.0) es)) (map (walk ds) (map g (map (λ e. e.0) es)))
terms-follow ds f g [] = tt
terms-follow ds f g (e ∷ es) = (e.1, terms-follow ds f g es)

steps-follow : {T : Type 0} (ds : List DeclTree) (f : T → Form) (g : T → Step) (es : List ((t : T) × Follows ds (f t) (walk_step ds (g t)))) → FollowEach ds (map f (map (λ e. e.0) es)) (map (walk_step ds) (map g (map (λ e. e.0) es)))
steps-follow ds f g [] = tt
steps-follow ds f g (e ∷ es) = (e.1, steps-follow ds f g es)

groups-follow : {T : Type 0} (ds : List DeclTree) (f : T → Group) (g : T → GroupTerm) (es : List ((t : T) × FollowsSet ds (f t).over (walk_group ds (g t)))) → FollowGroups ds (map f (map (λ e. e.0) es)) (map (walk_group ds) (map g (map (λ e. e.0) es)))
groups-follow ds f g [] = tt
groups-follow ds f g (e ∷ es) = (e.1, groups-follow ds f g es)

pairs-follow : {T : Type 0} (ds : List DeclTree) (f : T → forms.Pair) (g : T → says.Pair) (es : List ((t : T) × FollowsPair ds (f t).key (f t).cell (walk ds (g t).key) (walk ds (g t).cell))) →
    FollowPairs ds (map f (map (λ e. e.0) es)) (map (walk ds) (map (λ p. p.key) (map g (map (λ e. e.0) es)))) (map (walk ds) (map (λ p. p.cell) (map g (map (λ e. e.0) es))))
pairs-follow ds f g [] = tt
pairs-follow ds f g (e ∷ es) = (e.1, pairs-follow ds f g es)

-- ---- chains

follows-chain : (ds : List DeclTree) (at : ℕ) (f : Form) (fs : List Form) (t : Term) (ss : List Step) → Follows ds f (walk ds t) → FollowEach ds fs (map (walk_step ds) ss) → Follows ds (forms.chain (arithmetic at) f fs) (walk ds (says.chain at t ss))
follows-chain ds at f [] t [] p q = p
follows-chain ds at f [] t (u ∷ us) p q = absurd q
follows-chain ds at f (g ∷ gs) t [] p q = absurd q
follows-chain ds at f (g ∷ gs) t (u ∷ us) p q = follows-Arithmetic ds at (f ∷ g ∷ gs) (terms.Chain at t (u ∷ us)) (walk ds t ∷ map (walk_step ds) (u ∷ us)) (walk-Chain ds at t (u ∷ us)) (p, q)

follows-connected : (ds : List DeclTree) (make : ℕ → List Term → Term) → ((at : ℕ) (ts : List Term) (s : State) → walk ds (make at ts) s ≡ each (map (walk ds) ts) (one s)) →
    (at : ℕ) (f : Form) (fs : List Form) (t : Term) (ts : List Term) → Follows ds f (walk ds t) → FollowEach ds fs (map (walk ds) ts) → Follows ds (forms.chain (connected at) f fs) (walk ds (says.connected make at t ts))
follows-connected ds make e at f [] t [] p q = p
follows-connected ds make e at f [] t (u ∷ us) p q = absurd q
follows-connected ds make e at f (g ∷ gs) t [] p q = absurd q
follows-connected ds make e at f (g ∷ gs) t (u ∷ us) p q = follows-Connected ds at (f ∷ g ∷ gs) (make at (t ∷ u ∷ us)) (map (walk ds) (t ∷ u ∷ us)) (e at (t ∷ u ∷ us)) (p, q)

follows-add_step : (ds : List DeclTree) (op : AddOp) (f : Form) (t : Term) → Follows ds f (walk ds t) → Follows ds f (walk_step ds (says.add_step op t))
follows-add_step ds add_ops.Plus f t p = by-walk ds f _ _ (walk_step-Plus ds t) p
follows-add_step ds add_ops.Minus f t p = by-walk ds f _ _ (walk_step-Minus ds t) p

follows-mul_step : (ds : List DeclTree) (op : MulOp) (f : Form) (t : Term) → Follows ds f (walk ds t) → Follows ds f (walk_step ds (says.mul_step op t))
follows-mul_step ds mul_ops.Times f t p = by-walk ds f _ _ (walk_step-Times ds t) p
follows-mul_step ds mul_ops.Quotient f t p = by-walk ds f _ _ (walk_step-Quotient ds t) p
follows-mul_step ds mul_ops.Remainder f t p = by-walk ds f _ _ (walk_step-Remainder ds t) p

follows-group : (ds : List DeclTree) (is_ordered : Bool) (over : SetForm) (ps : List Pattern) (u : SetTerm) → FollowsSet ds over (walk_set ds u) → FollowsSet ds over (walk_group ds (says.group_of is_ordered ps u))
follows-group ds true over ps u p need takes sc range h = takes-by (walk_group ds (says.group_of true ps u)) (walk_set ds u) (kinds_in range.nodes) (set_fields ds sc over) (walk_group-Ordered ds ps u) (p need takes sc range h)
follows-group ds false over ps u p need takes sc range h = takes-by (walk_group ds (says.group_of false ps u)) (walk_set ds u) (kinds_in range.nodes) (set_fields ds sc over) (walk_group-Unordered ds ps u) (p need takes sc range h)

-- ---- trees of which something is known

abbrev In_compare : List DeclTree → Type 0
In_compare ds = (t : CompareTree) × Follows ds (form_compare t) (walk ds (compare_term t))

abbrev In_mul : List DeclTree → Type 0
In_mul ds = (t : MulTree) × Follows ds (form_mul t) (walk ds (mul_term t))

abbrev In_neg : List DeclTree → Type 0
In_neg ds = (t : NegTree) × Follows ds (form_neg t) (walk ds (neg_term t))

abbrev In_open : List DeclTree → Type 0
In_open ds = (t : OpenTree) × Follows ds (form_open t) (walk ds (open_term t))

abbrev In_prim : List DeclTree → Type 0
In_prim ds = (t : PrimTree) × Follows ds (form_prim t) (walk ds (prim_term t))

abbrev In_sign : List DeclTree → Type 0
In_sign ds = (t : SignTree) × Follows ds (form_sign t) (walk ds (sign_term t))

abbrev In_suffix : List DeclTree → Type 0
In_suffix ds = (t : SuffixTree) × FollowsSuffix ds t

abbrev In_add_step : List DeclTree → Type 0
In_add_step ds = (t : AddStep) × Follows ds (form_add_step t) (walk_step ds (add_step_of t))

abbrev In_add : List DeclTree → Type 0
In_add ds = (t : AddTree) × Follows ds (form_add t) (walk ds (add_term t))

abbrev In_and : List DeclTree → Type 0
In_and ds = (t : AndTree) × Follows ds (form_and t) (walk ds (and_term t))

abbrev In_expr : List DeclTree → Type 0
In_expr ds = (t : ExprTree) × Follows ds (form_expr t) (walk ds (expr_term t))

abbrev In_group_step : List DeclTree → Type 0
In_group_step ds = (t : GroupStep) × FollowsSet ds (form_group_step t).over (walk_group ds (group_step_term t))

abbrev In_group : List DeclTree → Type 0
In_group ds = (t : GroupTree) × FollowsSet ds (form_group t).over (walk_group ds (group_term t))

abbrev In_imp : List DeclTree → Type 0
In_imp ds = (t : ImpTree) × Follows ds (form_imp t) (walk ds (imp_term t))

abbrev In_keyed : List DeclTree → Type 0
In_keyed ds = (t : KeyedTree) × FollowsPair ds (form_keyed t).key (form_keyed t).cell (walk ds (keyed_pair t).key) (walk ds (keyed_pair t).cell)

abbrev In_last_step : List DeclTree → Type 0
In_last_step ds = (t : LastStep) × Follows ds (form_last_step t) (walk_step ds (last_step_of t))

abbrev In_mul_step : List DeclTree → Type 0
In_mul_step ds = (t : MulStep) × Follows ds (form_mul_step t) (walk_step ds (mul_step_of t))

abbrev In_or : List DeclTree → Type 0
In_or ds = (t : OrTree) × Follows ds (form_or t) (walk ds (or_term t))

abbrev In_params : List DeclTree → Type 0
In_params ds = (t : ParamsTree) × FollowsParams ds (form_params t) (λ s. if_written (option_map (walk ds) (params_term t).condition) (each (map (walk_group ds) (params_term t).groups) s))

abbrev In_post : List DeclTree → Type 0
In_post ds = (t : PostTree) × Follows ds (form_post t) (walk ds (post_term t))

abbrev In_set : List DeclTree → Type 0
In_set ds = (t : SetTree) × FollowsSet ds (form_set t) (walk_set ds (set_term t))

abbrev In_subscripts : List DeclTree → Type 0
In_subscripts ds = (t : SubscriptsTree) × FollowEach ds (form_subscripts t) (map (walk ds) (subscripts_terms t))

abbrev inner_compare : (ds : List DeclTree) → CompareTree-F (In_compare ds) (In_mul ds) (In_neg ds) (In_open ds) (In_prim ds) (In_sign ds) (In_suffix ds) (In_add_step ds) (In_add ds) (In_and ds) (In_expr ds) (In_group_step ds) (In_group ds) (In_imp ds) (In_keyed ds) (In_last_step ds) (In_mul_step ds) (In_or ds) (In_params ds) (In_post ds) (In_set ds) (In_subscripts ds) → CompareTree-F CompareTree MulTree NegTree OpenTree PrimTree SignTree SuffixTree AddStep AddTree AndTree ExprTree GroupStep GroupTree ImpTree KeyedTree LastStep MulStep OrTree ParamsTree PostTree SetTree SubscriptsTree
inner_compare ds = map-CompareTree (In_compare ds) (In_mul ds) (In_neg ds) (In_open ds) (In_prim ds) (In_sign ds) (In_suffix ds) (In_add_step ds) (In_add ds) (In_and ds) (In_expr ds) (In_group_step ds) (In_group ds) (In_imp ds) (In_keyed ds) (In_last_step ds) (In_mul_step ds) (In_or ds) (In_params ds) (In_post ds) (In_set ds) (In_subscripts ds) CompareTree MulTree NegTree OpenTree PrimTree SignTree SuffixTree AddStep AddTree AndTree ExprTree GroupStep GroupTree ImpTree KeyedTree LastStep MulStep OrTree ParamsTree PostTree SetTree SubscriptsTree (λ e. e.0) (λ e. e.0) (λ e. e.0) (λ e. e.0) (λ e. e.0) (λ e. e.0) (λ e. e.0) (λ e. e.0) (λ e. e.0) (λ e. e.0) (λ e. e.0) (λ e. e.0) (λ e. e.0) (λ e. e.0) (λ e. e.0) (λ e. e.0) (λ e. e.0) (λ e. e.0) (λ e. e.0) (λ e. e.0) (λ e. e.0) (λ e. e.0)

abbrev inner_mul : (ds : List DeclTree) → MulTree-F (In_compare ds) (In_mul ds) (In_neg ds) (In_open ds) (In_prim ds) (In_sign ds) (In_suffix ds) (In_add_step ds) (In_add ds) (In_and ds) (In_expr ds) (In_group_step ds) (In_group ds) (In_imp ds) (In_keyed ds) (In_last_step ds) (In_mul_step ds) (In_or ds) (In_params ds) (In_post ds) (In_set ds) (In_subscripts ds) → MulTree-F CompareTree MulTree NegTree OpenTree PrimTree SignTree SuffixTree AddStep AddTree AndTree ExprTree GroupStep GroupTree ImpTree KeyedTree LastStep MulStep OrTree ParamsTree PostTree SetTree SubscriptsTree
inner_mul ds = map-MulTree (In_compare ds) (In_mul ds) (In_neg ds) (In_open ds) (In_prim ds) (In_sign ds) (In_suffix ds) (In_add_step ds) (In_add ds) (In_and ds) (In_expr ds) (In_group_step ds) (In_group ds) (In_imp ds) (In_keyed ds) (In_last_step ds) (In_mul_step ds) (In_or ds) (In_params ds) (In_post ds) (In_set ds) (In_subscripts ds) CompareTree MulTree NegTree OpenTree PrimTree SignTree SuffixTree AddStep AddTree AndTree ExprTree GroupStep GroupTree ImpTree KeyedTree LastStep MulStep OrTree ParamsTree PostTree SetTree SubscriptsTree (λ e. e.0) (λ e. e.0) (λ e. e.0) (λ e. e.0) (λ e. e.0) (λ e. e.0) (λ e. e.0) (λ e. e.0) (λ e. e.0) (λ e. e.0) (λ e. e.0) (λ e. e.0) (λ e. e.0) (λ e. e.0) (λ e. e.0) (λ e. e.0) (λ e. e.0) (λ e. e.0) (λ e. e.0) (λ e. e.0) (λ e. e.0) (λ e. e.0)

abbrev inner_neg : (ds : List DeclTree) → NegTree-F (In_compare ds) (In_mul ds) (In_neg ds) (In_open ds) (In_prim ds) (In_sign ds) (In_suffix ds) (In_add_step ds) (In_add ds) (In_and ds) (In_expr ds) (In_group_step ds) (In_group ds) (In_imp ds) (In_keyed ds) (In_last_step ds) (In_mul_step ds) (In_or ds) (In_params ds) (In_post ds) (In_set ds) (In_subscripts ds) → NegTree-F CompareTree MulTree NegTree OpenTree PrimTree SignTree SuffixTree AddStep AddTree AndTree ExprTree GroupStep GroupTree ImpTree KeyedTree LastStep MulStep OrTree ParamsTree PostTree SetTree SubscriptsTree
inner_neg ds = map-NegTree (In_compare ds) (In_mul ds) (In_neg ds) (In_open ds) (In_prim ds) (In_sign ds) (In_suffix ds) (In_add_step ds) (In_add ds) (In_and ds) (In_expr ds) (In_group_step ds) (In_group ds) (In_imp ds) (In_keyed ds) (In_last_step ds) (In_mul_step ds) (In_or ds) (In_params ds) (In_post ds) (In_set ds) (In_subscripts ds) CompareTree MulTree NegTree OpenTree PrimTree SignTree SuffixTree AddStep AddTree AndTree ExprTree GroupStep GroupTree ImpTree KeyedTree LastStep MulStep OrTree ParamsTree PostTree SetTree SubscriptsTree (λ e. e.0) (λ e. e.0) (λ e. e.0) (λ e. e.0) (λ e. e.0) (λ e. e.0) (λ e. e.0) (λ e. e.0) (λ e. e.0) (λ e. e.0) (λ e. e.0) (λ e. e.0) (λ e. e.0) (λ e. e.0) (λ e. e.0) (λ e. e.0) (λ e. e.0) (λ e. e.0) (λ e. e.0) (λ e. e.0) (λ e. e.0) (λ e. e.0)

abbrev inner_open : (ds : List DeclTree) → OpenTree-F (In_compare ds) (In_mul ds) (In_neg ds) (In_open ds) (In_prim ds) (In_sign ds) (In_suffix ds) (In_add_step ds) (In_add ds) (In_and ds) (In_expr ds) (In_group_step ds) (In_group ds) (In_imp ds) (In_keyed ds) (In_last_step ds) (In_mul_step ds) (In_or ds) (In_params ds) (In_post ds) (In_set ds) (In_subscripts ds) → OpenTree-F CompareTree MulTree NegTree OpenTree PrimTree SignTree SuffixTree AddStep AddTree AndTree ExprTree GroupStep GroupTree ImpTree KeyedTree LastStep MulStep OrTree ParamsTree PostTree SetTree SubscriptsTree
inner_open ds = map-OpenTree (In_compare ds) (In_mul ds) (In_neg ds) (In_open ds) (In_prim ds) (In_sign ds) (In_suffix ds) (In_add_step ds) (In_add ds) (In_and ds) (In_expr ds) (In_group_step ds) (In_group ds) (In_imp ds) (In_keyed ds) (In_last_step ds) (In_mul_step ds) (In_or ds) (In_params ds) (In_post ds) (In_set ds) (In_subscripts ds) CompareTree MulTree NegTree OpenTree PrimTree SignTree SuffixTree AddStep AddTree AndTree ExprTree GroupStep GroupTree ImpTree KeyedTree LastStep MulStep OrTree ParamsTree PostTree SetTree SubscriptsTree (λ e. e.0) (λ e. e.0) (λ e. e.0) (λ e. e.0) (λ e. e.0) (λ e. e.0) (λ e. e.0) (λ e. e.0) (λ e. e.0) (λ e. e.0) (λ e. e.0) (λ e. e.0) (λ e. e.0) (λ e. e.0) (λ e. e.0) (λ e. e.0) (λ e. e.0) (λ e. e.0) (λ e. e.0) (λ e. e.0) (λ e. e.0) (λ e. e.0)

abbrev inner_prim : (ds : List DeclTree) → PrimTree-F (In_compare ds) (In_mul ds) (In_neg ds) (In_open ds) (In_prim ds) (In_sign ds) (In_suffix ds) (In_add_step ds) (In_add ds) (In_and ds) (In_expr ds) (In_group_step ds) (In_group ds) (In_imp ds) (In_keyed ds) (In_last_step ds) (In_mul_step ds) (In_or ds) (In_params ds) (In_post ds) (In_set ds) (In_subscripts ds) → PrimTree-F CompareTree MulTree NegTree OpenTree PrimTree SignTree SuffixTree AddStep AddTree AndTree ExprTree GroupStep GroupTree ImpTree KeyedTree LastStep MulStep OrTree ParamsTree PostTree SetTree SubscriptsTree
inner_prim ds = map-PrimTree (In_compare ds) (In_mul ds) (In_neg ds) (In_open ds) (In_prim ds) (In_sign ds) (In_suffix ds) (In_add_step ds) (In_add ds) (In_and ds) (In_expr ds) (In_group_step ds) (In_group ds) (In_imp ds) (In_keyed ds) (In_last_step ds) (In_mul_step ds) (In_or ds) (In_params ds) (In_post ds) (In_set ds) (In_subscripts ds) CompareTree MulTree NegTree OpenTree PrimTree SignTree SuffixTree AddStep AddTree AndTree ExprTree GroupStep GroupTree ImpTree KeyedTree LastStep MulStep OrTree ParamsTree PostTree SetTree SubscriptsTree (λ e. e.0) (λ e. e.0) (λ e. e.0) (λ e. e.0) (λ e. e.0) (λ e. e.0) (λ e. e.0) (λ e. e.0) (λ e. e.0) (λ e. e.0) (λ e. e.0) (λ e. e.0) (λ e. e.0) (λ e. e.0) (λ e. e.0) (λ e. e.0) (λ e. e.0) (λ e. e.0) (λ e. e.0) (λ e. e.0) (λ e. e.0) (λ e. e.0)

abbrev inner_sign : (ds : List DeclTree) → SignTree-F (In_compare ds) (In_mul ds) (In_neg ds) (In_open ds) (In_prim ds) (In_sign ds) (In_suffix ds) (In_add_step ds) (In_add ds) (In_and ds) (In_expr ds) (In_group_step ds) (In_group ds) (In_imp ds) (In_keyed ds) (In_last_step ds) (In_mul_step ds) (In_or ds) (In_params ds) (In_post ds) (In_set ds) (In_subscripts ds) → SignTree-F CompareTree MulTree NegTree OpenTree PrimTree SignTree SuffixTree AddStep AddTree AndTree ExprTree GroupStep GroupTree ImpTree KeyedTree LastStep MulStep OrTree ParamsTree PostTree SetTree SubscriptsTree
inner_sign ds = map-SignTree (In_compare ds) (In_mul ds) (In_neg ds) (In_open ds) (In_prim ds) (In_sign ds) (In_suffix ds) (In_add_step ds) (In_add ds) (In_and ds) (In_expr ds) (In_group_step ds) (In_group ds) (In_imp ds) (In_keyed ds) (In_last_step ds) (In_mul_step ds) (In_or ds) (In_params ds) (In_post ds) (In_set ds) (In_subscripts ds) CompareTree MulTree NegTree OpenTree PrimTree SignTree SuffixTree AddStep AddTree AndTree ExprTree GroupStep GroupTree ImpTree KeyedTree LastStep MulStep OrTree ParamsTree PostTree SetTree SubscriptsTree (λ e. e.0) (λ e. e.0) (λ e. e.0) (λ e. e.0) (λ e. e.0) (λ e. e.0) (λ e. e.0) (λ e. e.0) (λ e. e.0) (λ e. e.0) (λ e. e.0) (λ e. e.0) (λ e. e.0) (λ e. e.0) (λ e. e.0) (λ e. e.0) (λ e. e.0) (λ e. e.0) (λ e. e.0) (λ e. e.0) (λ e. e.0) (λ e. e.0)

abbrev inner_suffix : (ds : List DeclTree) → SuffixTree-F (In_compare ds) (In_mul ds) (In_neg ds) (In_open ds) (In_prim ds) (In_sign ds) (In_suffix ds) (In_add_step ds) (In_add ds) (In_and ds) (In_expr ds) (In_group_step ds) (In_group ds) (In_imp ds) (In_keyed ds) (In_last_step ds) (In_mul_step ds) (In_or ds) (In_params ds) (In_post ds) (In_set ds) (In_subscripts ds) → SuffixTree-F CompareTree MulTree NegTree OpenTree PrimTree SignTree SuffixTree AddStep AddTree AndTree ExprTree GroupStep GroupTree ImpTree KeyedTree LastStep MulStep OrTree ParamsTree PostTree SetTree SubscriptsTree
inner_suffix ds = map-SuffixTree (In_compare ds) (In_mul ds) (In_neg ds) (In_open ds) (In_prim ds) (In_sign ds) (In_suffix ds) (In_add_step ds) (In_add ds) (In_and ds) (In_expr ds) (In_group_step ds) (In_group ds) (In_imp ds) (In_keyed ds) (In_last_step ds) (In_mul_step ds) (In_or ds) (In_params ds) (In_post ds) (In_set ds) (In_subscripts ds) CompareTree MulTree NegTree OpenTree PrimTree SignTree SuffixTree AddStep AddTree AndTree ExprTree GroupStep GroupTree ImpTree KeyedTree LastStep MulStep OrTree ParamsTree PostTree SetTree SubscriptsTree (λ e. e.0) (λ e. e.0) (λ e. e.0) (λ e. e.0) (λ e. e.0) (λ e. e.0) (λ e. e.0) (λ e. e.0) (λ e. e.0) (λ e. e.0) (λ e. e.0) (λ e. e.0) (λ e. e.0) (λ e. e.0) (λ e. e.0) (λ e. e.0) (λ e. e.0) (λ e. e.0) (λ e. e.0) (λ e. e.0) (λ e. e.0) (λ e. e.0)

abbrev inner_add_step : (ds : List DeclTree) → AddStep-F (In_compare ds) (In_mul ds) (In_neg ds) (In_open ds) (In_prim ds) (In_sign ds) (In_suffix ds) (In_add_step ds) (In_add ds) (In_and ds) (In_expr ds) (In_group_step ds) (In_group ds) (In_imp ds) (In_keyed ds) (In_last_step ds) (In_mul_step ds) (In_or ds) (In_params ds) (In_post ds) (In_set ds) (In_subscripts ds) → AddStep-F CompareTree MulTree NegTree OpenTree PrimTree SignTree SuffixTree AddStep AddTree AndTree ExprTree GroupStep GroupTree ImpTree KeyedTree LastStep MulStep OrTree ParamsTree PostTree SetTree SubscriptsTree
inner_add_step ds = map-AddStep (In_compare ds) (In_mul ds) (In_neg ds) (In_open ds) (In_prim ds) (In_sign ds) (In_suffix ds) (In_add_step ds) (In_add ds) (In_and ds) (In_expr ds) (In_group_step ds) (In_group ds) (In_imp ds) (In_keyed ds) (In_last_step ds) (In_mul_step ds) (In_or ds) (In_params ds) (In_post ds) (In_set ds) (In_subscripts ds) CompareTree MulTree NegTree OpenTree PrimTree SignTree SuffixTree AddStep AddTree AndTree ExprTree GroupStep GroupTree ImpTree KeyedTree LastStep MulStep OrTree ParamsTree PostTree SetTree SubscriptsTree (λ e. e.0) (λ e. e.0) (λ e. e.0) (λ e. e.0) (λ e. e.0) (λ e. e.0) (λ e. e.0) (λ e. e.0) (λ e. e.0) (λ e. e.0) (λ e. e.0) (λ e. e.0) (λ e. e.0) (λ e. e.0) (λ e. e.0) (λ e. e.0) (λ e. e.0) (λ e. e.0) (λ e. e.0) (λ e. e.0) (λ e. e.0) (λ e. e.0)

abbrev inner_add : (ds : List DeclTree) → AddTree-F (In_compare ds) (In_mul ds) (In_neg ds) (In_open ds) (In_prim ds) (In_sign ds) (In_suffix ds) (In_add_step ds) (In_add ds) (In_and ds) (In_expr ds) (In_group_step ds) (In_group ds) (In_imp ds) (In_keyed ds) (In_last_step ds) (In_mul_step ds) (In_or ds) (In_params ds) (In_post ds) (In_set ds) (In_subscripts ds) → AddTree-F CompareTree MulTree NegTree OpenTree PrimTree SignTree SuffixTree AddStep AddTree AndTree ExprTree GroupStep GroupTree ImpTree KeyedTree LastStep MulStep OrTree ParamsTree PostTree SetTree SubscriptsTree
inner_add ds = map-AddTree (In_compare ds) (In_mul ds) (In_neg ds) (In_open ds) (In_prim ds) (In_sign ds) (In_suffix ds) (In_add_step ds) (In_add ds) (In_and ds) (In_expr ds) (In_group_step ds) (In_group ds) (In_imp ds) (In_keyed ds) (In_last_step ds) (In_mul_step ds) (In_or ds) (In_params ds) (In_post ds) (In_set ds) (In_subscripts ds) CompareTree MulTree NegTree OpenTree PrimTree SignTree SuffixTree AddStep AddTree AndTree ExprTree GroupStep GroupTree ImpTree KeyedTree LastStep MulStep OrTree ParamsTree PostTree SetTree SubscriptsTree (λ e. e.0) (λ e. e.0) (λ e. e.0) (λ e. e.0) (λ e. e.0) (λ e. e.0) (λ e. e.0) (λ e. e.0) (λ e. e.0) (λ e. e.0) (λ e. e.0) (λ e. e.0) (λ e. e.0) (λ e. e.0) (λ e. e.0) (λ e. e.0) (λ e. e.0) (λ e. e.0) (λ e. e.0) (λ e. e.0) (λ e. e.0) (λ e. e.0)

abbrev inner_and : (ds : List DeclTree) → AndTree-F (In_compare ds) (In_mul ds) (In_neg ds) (In_open ds) (In_prim ds) (In_sign ds) (In_suffix ds) (In_add_step ds) (In_add ds) (In_and ds) (In_expr ds) (In_group_step ds) (In_group ds) (In_imp ds) (In_keyed ds) (In_last_step ds) (In_mul_step ds) (In_or ds) (In_params ds) (In_post ds) (In_set ds) (In_subscripts ds) → AndTree-F CompareTree MulTree NegTree OpenTree PrimTree SignTree SuffixTree AddStep AddTree AndTree ExprTree GroupStep GroupTree ImpTree KeyedTree LastStep MulStep OrTree ParamsTree PostTree SetTree SubscriptsTree
inner_and ds = map-AndTree (In_compare ds) (In_mul ds) (In_neg ds) (In_open ds) (In_prim ds) (In_sign ds) (In_suffix ds) (In_add_step ds) (In_add ds) (In_and ds) (In_expr ds) (In_group_step ds) (In_group ds) (In_imp ds) (In_keyed ds) (In_last_step ds) (In_mul_step ds) (In_or ds) (In_params ds) (In_post ds) (In_set ds) (In_subscripts ds) CompareTree MulTree NegTree OpenTree PrimTree SignTree SuffixTree AddStep AddTree AndTree ExprTree GroupStep GroupTree ImpTree KeyedTree LastStep MulStep OrTree ParamsTree PostTree SetTree SubscriptsTree (λ e. e.0) (λ e. e.0) (λ e. e.0) (λ e. e.0) (λ e. e.0) (λ e. e.0) (λ e. e.0) (λ e. e.0) (λ e. e.0) (λ e. e.0) (λ e. e.0) (λ e. e.0) (λ e. e.0) (λ e. e.0) (λ e. e.0) (λ e. e.0) (λ e. e.0) (λ e. e.0) (λ e. e.0) (λ e. e.0) (λ e. e.0) (λ e. e.0)

abbrev inner_expr : (ds : List DeclTree) → ExprTree-F (In_compare ds) (In_mul ds) (In_neg ds) (In_open ds) (In_prim ds) (In_sign ds) (In_suffix ds) (In_add_step ds) (In_add ds) (In_and ds) (In_expr ds) (In_group_step ds) (In_group ds) (In_imp ds) (In_keyed ds) (In_last_step ds) (In_mul_step ds) (In_or ds) (In_params ds) (In_post ds) (In_set ds) (In_subscripts ds) → ExprTree-F CompareTree MulTree NegTree OpenTree PrimTree SignTree SuffixTree AddStep AddTree AndTree ExprTree GroupStep GroupTree ImpTree KeyedTree LastStep MulStep OrTree ParamsTree PostTree SetTree SubscriptsTree
inner_expr ds = map-ExprTree (In_compare ds) (In_mul ds) (In_neg ds) (In_open ds) (In_prim ds) (In_sign ds) (In_suffix ds) (In_add_step ds) (In_add ds) (In_and ds) (In_expr ds) (In_group_step ds) (In_group ds) (In_imp ds) (In_keyed ds) (In_last_step ds) (In_mul_step ds) (In_or ds) (In_params ds) (In_post ds) (In_set ds) (In_subscripts ds) CompareTree MulTree NegTree OpenTree PrimTree SignTree SuffixTree AddStep AddTree AndTree ExprTree GroupStep GroupTree ImpTree KeyedTree LastStep MulStep OrTree ParamsTree PostTree SetTree SubscriptsTree (λ e. e.0) (λ e. e.0) (λ e. e.0) (λ e. e.0) (λ e. e.0) (λ e. e.0) (λ e. e.0) (λ e. e.0) (λ e. e.0) (λ e. e.0) (λ e. e.0) (λ e. e.0) (λ e. e.0) (λ e. e.0) (λ e. e.0) (λ e. e.0) (λ e. e.0) (λ e. e.0) (λ e. e.0) (λ e. e.0) (λ e. e.0) (λ e. e.0)

abbrev inner_group_step : (ds : List DeclTree) → GroupStep-F (In_compare ds) (In_mul ds) (In_neg ds) (In_open ds) (In_prim ds) (In_sign ds) (In_suffix ds) (In_add_step ds) (In_add ds) (In_and ds) (In_expr ds) (In_group_step ds) (In_group ds) (In_imp ds) (In_keyed ds) (In_last_step ds) (In_mul_step ds) (In_or ds) (In_params ds) (In_post ds) (In_set ds) (In_subscripts ds) → GroupStep-F CompareTree MulTree NegTree OpenTree PrimTree SignTree SuffixTree AddStep AddTree AndTree ExprTree GroupStep GroupTree ImpTree KeyedTree LastStep MulStep OrTree ParamsTree PostTree SetTree SubscriptsTree
inner_group_step ds = map-GroupStep (In_compare ds) (In_mul ds) (In_neg ds) (In_open ds) (In_prim ds) (In_sign ds) (In_suffix ds) (In_add_step ds) (In_add ds) (In_and ds) (In_expr ds) (In_group_step ds) (In_group ds) (In_imp ds) (In_keyed ds) (In_last_step ds) (In_mul_step ds) (In_or ds) (In_params ds) (In_post ds) (In_set ds) (In_subscripts ds) CompareTree MulTree NegTree OpenTree PrimTree SignTree SuffixTree AddStep AddTree AndTree ExprTree GroupStep GroupTree ImpTree KeyedTree LastStep MulStep OrTree ParamsTree PostTree SetTree SubscriptsTree (λ e. e.0) (λ e. e.0) (λ e. e.0) (λ e. e.0) (λ e. e.0) (λ e. e.0) (λ e. e.0) (λ e. e.0) (λ e. e.0) (λ e. e.0) (λ e. e.0) (λ e. e.0) (λ e. e.0) (λ e. e.0) (λ e. e.0) (λ e. e.0) (λ e. e.0) (λ e. e.0) (λ e. e.0) (λ e. e.0) (λ e. e.0) (λ e. e.0)

abbrev inner_group : (ds : List DeclTree) → GroupTree-F (In_compare ds) (In_mul ds) (In_neg ds) (In_open ds) (In_prim ds) (In_sign ds) (In_suffix ds) (In_add_step ds) (In_add ds) (In_and ds) (In_expr ds) (In_group_step ds) (In_group ds) (In_imp ds) (In_keyed ds) (In_last_step ds) (In_mul_step ds) (In_or ds) (In_params ds) (In_post ds) (In_set ds) (In_subscripts ds) → GroupTree-F CompareTree MulTree NegTree OpenTree PrimTree SignTree SuffixTree AddStep AddTree AndTree ExprTree GroupStep GroupTree ImpTree KeyedTree LastStep MulStep OrTree ParamsTree PostTree SetTree SubscriptsTree
inner_group ds = map-GroupTree (In_compare ds) (In_mul ds) (In_neg ds) (In_open ds) (In_prim ds) (In_sign ds) (In_suffix ds) (In_add_step ds) (In_add ds) (In_and ds) (In_expr ds) (In_group_step ds) (In_group ds) (In_imp ds) (In_keyed ds) (In_last_step ds) (In_mul_step ds) (In_or ds) (In_params ds) (In_post ds) (In_set ds) (In_subscripts ds) CompareTree MulTree NegTree OpenTree PrimTree SignTree SuffixTree AddStep AddTree AndTree ExprTree GroupStep GroupTree ImpTree KeyedTree LastStep MulStep OrTree ParamsTree PostTree SetTree SubscriptsTree (λ e. e.0) (λ e. e.0) (λ e. e.0) (λ e. e.0) (λ e. e.0) (λ e. e.0) (λ e. e.0) (λ e. e.0) (λ e. e.0) (λ e. e.0) (λ e. e.0) (λ e. e.0) (λ e. e.0) (λ e. e.0) (λ e. e.0) (λ e. e.0) (λ e. e.0) (λ e. e.0) (λ e. e.0) (λ e. e.0) (λ e. e.0) (λ e. e.0)

abbrev inner_imp : (ds : List DeclTree) → ImpTree-F (In_compare ds) (In_mul ds) (In_neg ds) (In_open ds) (In_prim ds) (In_sign ds) (In_suffix ds) (In_add_step ds) (In_add ds) (In_and ds) (In_expr ds) (In_group_step ds) (In_group ds) (In_imp ds) (In_keyed ds) (In_last_step ds) (In_mul_step ds) (In_or ds) (In_params ds) (In_post ds) (In_set ds) (In_subscripts ds) → ImpTree-F CompareTree MulTree NegTree OpenTree PrimTree SignTree SuffixTree AddStep AddTree AndTree ExprTree GroupStep GroupTree ImpTree KeyedTree LastStep MulStep OrTree ParamsTree PostTree SetTree SubscriptsTree
inner_imp ds = map-ImpTree (In_compare ds) (In_mul ds) (In_neg ds) (In_open ds) (In_prim ds) (In_sign ds) (In_suffix ds) (In_add_step ds) (In_add ds) (In_and ds) (In_expr ds) (In_group_step ds) (In_group ds) (In_imp ds) (In_keyed ds) (In_last_step ds) (In_mul_step ds) (In_or ds) (In_params ds) (In_post ds) (In_set ds) (In_subscripts ds) CompareTree MulTree NegTree OpenTree PrimTree SignTree SuffixTree AddStep AddTree AndTree ExprTree GroupStep GroupTree ImpTree KeyedTree LastStep MulStep OrTree ParamsTree PostTree SetTree SubscriptsTree (λ e. e.0) (λ e. e.0) (λ e. e.0) (λ e. e.0) (λ e. e.0) (λ e. e.0) (λ e. e.0) (λ e. e.0) (λ e. e.0) (λ e. e.0) (λ e. e.0) (λ e. e.0) (λ e. e.0) (λ e. e.0) (λ e. e.0) (λ e. e.0) (λ e. e.0) (λ e. e.0) (λ e. e.0) (λ e. e.0) (λ e. e.0) (λ e. e.0)

abbrev inner_keyed : (ds : List DeclTree) → KeyedTree-F (In_compare ds) (In_mul ds) (In_neg ds) (In_open ds) (In_prim ds) (In_sign ds) (In_suffix ds) (In_add_step ds) (In_add ds) (In_and ds) (In_expr ds) (In_group_step ds) (In_group ds) (In_imp ds) (In_keyed ds) (In_last_step ds) (In_mul_step ds) (In_or ds) (In_params ds) (In_post ds) (In_set ds) (In_subscripts ds) → KeyedTree-F CompareTree MulTree NegTree OpenTree PrimTree SignTree SuffixTree AddStep AddTree AndTree ExprTree GroupStep GroupTree ImpTree KeyedTree LastStep MulStep OrTree ParamsTree PostTree SetTree SubscriptsTree
inner_keyed ds = map-KeyedTree (In_compare ds) (In_mul ds) (In_neg ds) (In_open ds) (In_prim ds) (In_sign ds) (In_suffix ds) (In_add_step ds) (In_add ds) (In_and ds) (In_expr ds) (In_group_step ds) (In_group ds) (In_imp ds) (In_keyed ds) (In_last_step ds) (In_mul_step ds) (In_or ds) (In_params ds) (In_post ds) (In_set ds) (In_subscripts ds) CompareTree MulTree NegTree OpenTree PrimTree SignTree SuffixTree AddStep AddTree AndTree ExprTree GroupStep GroupTree ImpTree KeyedTree LastStep MulStep OrTree ParamsTree PostTree SetTree SubscriptsTree (λ e. e.0) (λ e. e.0) (λ e. e.0) (λ e. e.0) (λ e. e.0) (λ e. e.0) (λ e. e.0) (λ e. e.0) (λ e. e.0) (λ e. e.0) (λ e. e.0) (λ e. e.0) (λ e. e.0) (λ e. e.0) (λ e. e.0) (λ e. e.0) (λ e. e.0) (λ e. e.0) (λ e. e.0) (λ e. e.0) (λ e. e.0) (λ e. e.0)

abbrev inner_last_step : (ds : List DeclTree) → LastStep-F (In_compare ds) (In_mul ds) (In_neg ds) (In_open ds) (In_prim ds) (In_sign ds) (In_suffix ds) (In_add_step ds) (In_add ds) (In_and ds) (In_expr ds) (In_group_step ds) (In_group ds) (In_imp ds) (In_keyed ds) (In_last_step ds) (In_mul_step ds) (In_or ds) (In_params ds) (In_post ds) (In_set ds) (In_subscripts ds) → LastStep-F CompareTree MulTree NegTree OpenTree PrimTree SignTree SuffixTree AddStep AddTree AndTree ExprTree GroupStep GroupTree ImpTree KeyedTree LastStep MulStep OrTree ParamsTree PostTree SetTree SubscriptsTree
inner_last_step ds = map-LastStep (In_compare ds) (In_mul ds) (In_neg ds) (In_open ds) (In_prim ds) (In_sign ds) (In_suffix ds) (In_add_step ds) (In_add ds) (In_and ds) (In_expr ds) (In_group_step ds) (In_group ds) (In_imp ds) (In_keyed ds) (In_last_step ds) (In_mul_step ds) (In_or ds) (In_params ds) (In_post ds) (In_set ds) (In_subscripts ds) CompareTree MulTree NegTree OpenTree PrimTree SignTree SuffixTree AddStep AddTree AndTree ExprTree GroupStep GroupTree ImpTree KeyedTree LastStep MulStep OrTree ParamsTree PostTree SetTree SubscriptsTree (λ e. e.0) (λ e. e.0) (λ e. e.0) (λ e. e.0) (λ e. e.0) (λ e. e.0) (λ e. e.0) (λ e. e.0) (λ e. e.0) (λ e. e.0) (λ e. e.0) (λ e. e.0) (λ e. e.0) (λ e. e.0) (λ e. e.0) (λ e. e.0) (λ e. e.0) (λ e. e.0) (λ e. e.0) (λ e. e.0) (λ e. e.0) (λ e. e.0)

abbrev inner_mul_step : (ds : List DeclTree) → MulStep-F (In_compare ds) (In_mul ds) (In_neg ds) (In_open ds) (In_prim ds) (In_sign ds) (In_suffix ds) (In_add_step ds) (In_add ds) (In_and ds) (In_expr ds) (In_group_step ds) (In_group ds) (In_imp ds) (In_keyed ds) (In_last_step ds) (In_mul_step ds) (In_or ds) (In_params ds) (In_post ds) (In_set ds) (In_subscripts ds) → MulStep-F CompareTree MulTree NegTree OpenTree PrimTree SignTree SuffixTree AddStep AddTree AndTree ExprTree GroupStep GroupTree ImpTree KeyedTree LastStep MulStep OrTree ParamsTree PostTree SetTree SubscriptsTree
inner_mul_step ds = map-MulStep (In_compare ds) (In_mul ds) (In_neg ds) (In_open ds) (In_prim ds) (In_sign ds) (In_suffix ds) (In_add_step ds) (In_add ds) (In_and ds) (In_expr ds) (In_group_step ds) (In_group ds) (In_imp ds) (In_keyed ds) (In_last_step ds) (In_mul_step ds) (In_or ds) (In_params ds) (In_post ds) (In_set ds) (In_subscripts ds) CompareTree MulTree NegTree OpenTree PrimTree SignTree SuffixTree AddStep AddTree AndTree ExprTree GroupStep GroupTree ImpTree KeyedTree LastStep MulStep OrTree ParamsTree PostTree SetTree SubscriptsTree (λ e. e.0) (λ e. e.0) (λ e. e.0) (λ e. e.0) (λ e. e.0) (λ e. e.0) (λ e. e.0) (λ e. e.0) (λ e. e.0) (λ e. e.0) (λ e. e.0) (λ e. e.0) (λ e. e.0) (λ e. e.0) (λ e. e.0) (λ e. e.0) (λ e. e.0) (λ e. e.0) (λ e. e.0) (λ e. e.0) (λ e. e.0) (λ e. e.0)

abbrev inner_or : (ds : List DeclTree) → OrTree-F (In_compare ds) (In_mul ds) (In_neg ds) (In_open ds) (In_prim ds) (In_sign ds) (In_suffix ds) (In_add_step ds) (In_add ds) (In_and ds) (In_expr ds) (In_group_step ds) (In_group ds) (In_imp ds) (In_keyed ds) (In_last_step ds) (In_mul_step ds) (In_or ds) (In_params ds) (In_post ds) (In_set ds) (In_subscripts ds) → OrTree-F CompareTree MulTree NegTree OpenTree PrimTree SignTree SuffixTree AddStep AddTree AndTree ExprTree GroupStep GroupTree ImpTree KeyedTree LastStep MulStep OrTree ParamsTree PostTree SetTree SubscriptsTree
inner_or ds = map-OrTree (In_compare ds) (In_mul ds) (In_neg ds) (In_open ds) (In_prim ds) (In_sign ds) (In_suffix ds) (In_add_step ds) (In_add ds) (In_and ds) (In_expr ds) (In_group_step ds) (In_group ds) (In_imp ds) (In_keyed ds) (In_last_step ds) (In_mul_step ds) (In_or ds) (In_params ds) (In_post ds) (In_set ds) (In_subscripts ds) CompareTree MulTree NegTree OpenTree PrimTree SignTree SuffixTree AddStep AddTree AndTree ExprTree GroupStep GroupTree ImpTree KeyedTree LastStep MulStep OrTree ParamsTree PostTree SetTree SubscriptsTree (λ e. e.0) (λ e. e.0) (λ e. e.0) (λ e. e.0) (λ e. e.0) (λ e. e.0) (λ e. e.0) (λ e. e.0) (λ e. e.0) (λ e. e.0) (λ e. e.0) (λ e. e.0) (λ e. e.0) (λ e. e.0) (λ e. e.0) (λ e. e.0) (λ e. e.0) (λ e. e.0) (λ e. e.0) (λ e. e.0) (λ e. e.0) (λ e. e.0)

abbrev inner_params : (ds : List DeclTree) → ParamsTree-F (In_compare ds) (In_mul ds) (In_neg ds) (In_open ds) (In_prim ds) (In_sign ds) (In_suffix ds) (In_add_step ds) (In_add ds) (In_and ds) (In_expr ds) (In_group_step ds) (In_group ds) (In_imp ds) (In_keyed ds) (In_last_step ds) (In_mul_step ds) (In_or ds) (In_params ds) (In_post ds) (In_set ds) (In_subscripts ds) → ParamsTree-F CompareTree MulTree NegTree OpenTree PrimTree SignTree SuffixTree AddStep AddTree AndTree ExprTree GroupStep GroupTree ImpTree KeyedTree LastStep MulStep OrTree ParamsTree PostTree SetTree SubscriptsTree
inner_params ds = map-ParamsTree (In_compare ds) (In_mul ds) (In_neg ds) (In_open ds) (In_prim ds) (In_sign ds) (In_suffix ds) (In_add_step ds) (In_add ds) (In_and ds) (In_expr ds) (In_group_step ds) (In_group ds) (In_imp ds) (In_keyed ds) (In_last_step ds) (In_mul_step ds) (In_or ds) (In_params ds) (In_post ds) (In_set ds) (In_subscripts ds) CompareTree MulTree NegTree OpenTree PrimTree SignTree SuffixTree AddStep AddTree AndTree ExprTree GroupStep GroupTree ImpTree KeyedTree LastStep MulStep OrTree ParamsTree PostTree SetTree SubscriptsTree (λ e. e.0) (λ e. e.0) (λ e. e.0) (λ e. e.0) (λ e. e.0) (λ e. e.0) (λ e. e.0) (λ e. e.0) (λ e. e.0) (λ e. e.0) (λ e. e.0) (λ e. e.0) (λ e. e.0) (λ e. e.0) (λ e. e.0) (λ e. e.0) (λ e. e.0) (λ e. e.0) (λ e. e.0) (λ e. e.0) (λ e. e.0) (λ e. e.0)

abbrev inner_post : (ds : List DeclTree) → PostTree-F (In_compare ds) (In_mul ds) (In_neg ds) (In_open ds) (In_prim ds) (In_sign ds) (In_suffix ds) (In_add_step ds) (In_add ds) (In_and ds) (In_expr ds) (In_group_step ds) (In_group ds) (In_imp ds) (In_keyed ds) (In_last_step ds) (In_mul_step ds) (In_or ds) (In_params ds) (In_post ds) (In_set ds) (In_subscripts ds) → PostTree-F CompareTree MulTree NegTree OpenTree PrimTree SignTree SuffixTree AddStep AddTree AndTree ExprTree GroupStep GroupTree ImpTree KeyedTree LastStep MulStep OrTree ParamsTree PostTree SetTree SubscriptsTree
inner_post ds = map-PostTree (In_compare ds) (In_mul ds) (In_neg ds) (In_open ds) (In_prim ds) (In_sign ds) (In_suffix ds) (In_add_step ds) (In_add ds) (In_and ds) (In_expr ds) (In_group_step ds) (In_group ds) (In_imp ds) (In_keyed ds) (In_last_step ds) (In_mul_step ds) (In_or ds) (In_params ds) (In_post ds) (In_set ds) (In_subscripts ds) CompareTree MulTree NegTree OpenTree PrimTree SignTree SuffixTree AddStep AddTree AndTree ExprTree GroupStep GroupTree ImpTree KeyedTree LastStep MulStep OrTree ParamsTree PostTree SetTree SubscriptsTree (λ e. e.0) (λ e. e.0) (λ e. e.0) (λ e. e.0) (λ e. e.0) (λ e. e.0) (λ e. e.0) (λ e. e.0) (λ e. e.0) (λ e. e.0) (λ e. e.0) (λ e. e.0) (λ e. e.0) (λ e. e.0) (λ e. e.0) (λ e. e.0) (λ e. e.0) (λ e. e.0) (λ e. e.0) (λ e. e.0) (λ e. e.0) (λ e. e.0)

abbrev inner_set : (ds : List DeclTree) → SetTree-F (In_compare ds) (In_mul ds) (In_neg ds) (In_open ds) (In_prim ds) (In_sign ds) (In_suffix ds) (In_add_step ds) (In_add ds) (In_and ds) (In_expr ds) (In_group_step ds) (In_group ds) (In_imp ds) (In_keyed ds) (In_last_step ds) (In_mul_step ds) (In_or ds) (In_params ds) (In_post ds) (In_set ds) (In_subscripts ds) → SetTree-F CompareTree MulTree NegTree OpenTree PrimTree SignTree SuffixTree AddStep AddTree AndTree ExprTree GroupStep GroupTree ImpTree KeyedTree LastStep MulStep OrTree ParamsTree PostTree SetTree SubscriptsTree
inner_set ds = map-SetTree (In_compare ds) (In_mul ds) (In_neg ds) (In_open ds) (In_prim ds) (In_sign ds) (In_suffix ds) (In_add_step ds) (In_add ds) (In_and ds) (In_expr ds) (In_group_step ds) (In_group ds) (In_imp ds) (In_keyed ds) (In_last_step ds) (In_mul_step ds) (In_or ds) (In_params ds) (In_post ds) (In_set ds) (In_subscripts ds) CompareTree MulTree NegTree OpenTree PrimTree SignTree SuffixTree AddStep AddTree AndTree ExprTree GroupStep GroupTree ImpTree KeyedTree LastStep MulStep OrTree ParamsTree PostTree SetTree SubscriptsTree (λ e. e.0) (λ e. e.0) (λ e. e.0) (λ e. e.0) (λ e. e.0) (λ e. e.0) (λ e. e.0) (λ e. e.0) (λ e. e.0) (λ e. e.0) (λ e. e.0) (λ e. e.0) (λ e. e.0) (λ e. e.0) (λ e. e.0) (λ e. e.0) (λ e. e.0) (λ e. e.0) (λ e. e.0) (λ e. e.0) (λ e. e.0) (λ e. e.0)

abbrev inner_subscripts : (ds : List DeclTree) → SubscriptsTree-F (In_compare ds) (In_mul ds) (In_neg ds) (In_open ds) (In_prim ds) (In_sign ds) (In_suffix ds) (In_add_step ds) (In_add ds) (In_and ds) (In_expr ds) (In_group_step ds) (In_group ds) (In_imp ds) (In_keyed ds) (In_last_step ds) (In_mul_step ds) (In_or ds) (In_params ds) (In_post ds) (In_set ds) (In_subscripts ds) → SubscriptsTree-F CompareTree MulTree NegTree OpenTree PrimTree SignTree SuffixTree AddStep AddTree AndTree ExprTree GroupStep GroupTree ImpTree KeyedTree LastStep MulStep OrTree ParamsTree PostTree SetTree SubscriptsTree
inner_subscripts ds = map-SubscriptsTree (In_compare ds) (In_mul ds) (In_neg ds) (In_open ds) (In_prim ds) (In_sign ds) (In_suffix ds) (In_add_step ds) (In_add ds) (In_and ds) (In_expr ds) (In_group_step ds) (In_group ds) (In_imp ds) (In_keyed ds) (In_last_step ds) (In_mul_step ds) (In_or ds) (In_params ds) (In_post ds) (In_set ds) (In_subscripts ds) CompareTree MulTree NegTree OpenTree PrimTree SignTree SuffixTree AddStep AddTree AndTree ExprTree GroupStep GroupTree ImpTree KeyedTree LastStep MulStep OrTree ParamsTree PostTree SetTree SubscriptsTree (λ e. e.0) (λ e. e.0) (λ e. e.0) (λ e. e.0) (λ e. e.0) (λ e. e.0) (λ e. e.0) (λ e. e.0) (λ e. e.0) (λ e. e.0) (λ e. e.0) (λ e. e.0) (λ e. e.0) (λ e. e.0) (λ e. e.0) (λ e. e.0) (λ e. e.0) (λ e. e.0) (λ e. e.0) (λ e. e.0) (λ e. e.0) (λ e. e.0)

case_expr : (ds : List DeclTree) (y : ExprTree-F (In_compare ds) (In_mul ds) (In_neg ds) (In_open ds) (In_prim ds) (In_sign ds) (In_suffix ds) (In_add_step ds) (In_add ds) (In_and ds) (In_expr ds) (In_group_step ds) (In_group ds) (In_imp ds) (In_keyed ds) (In_last_step ds) (In_mul_step ds) (In_or ds) (In_params ds) (In_post ds) (In_set ds) (In_subscripts ds)) → Follows ds (form_expr (roll-ExprTree (inner_expr ds y))) (walk ds (expr_term (roll-ExprTree (inner_expr ds y))))
case_expr ds y =
    let F : ExprTree-F CompareTree MulTree NegTree OpenTree PrimTree SignTree SuffixTree AddStep AddTree AndTree ExprTree GroupStep GroupTree ImpTree KeyedTree LastStep MulStep OrTree ParamsTree PostTree SetTree SubscriptsTree → Form = λ z. forms.chain (connected z.at) (form_imp z.first) (map form_imp z.rest) in
    let G : ExprTree-F CompareTree MulTree NegTree OpenTree PrimTree SignTree SuffixTree AddStep AddTree AndTree ExprTree GroupStep GroupTree ImpTree KeyedTree LastStep MulStep OrTree ParamsTree PostTree SetTree SubscriptsTree → Term = λ z. says.connected terms.Equivalent z.at (imp_term z.first) (map imp_term z.rest) in
    by-both ds (form_expr (roll-ExprTree (inner_expr ds y))) (F (inner_expr ds y)) (expr_term (roll-ExprTree (inner_expr ds y))) (G (inner_expr ds y)) (form_is.form_expr-is (roll-ExprTree (inner_expr ds y)) ∙ ap F (out-roll-ExprTree (inner_expr ds y))) (term_is.expr_term-is (roll-ExprTree (inner_expr ds y)) ∙ ap G (out-roll-ExprTree (inner_expr ds y)))
    (follows-connected ds terms.Equivalent (walk-Equivalent ds) y.at (form_imp y.first.0) _ (imp_term y.first.0) _ y.first.1 (terms-follow ds form_imp imp_term y.rest))

case_or : (ds : List DeclTree) (y : OrTree-F (In_compare ds) (In_mul ds) (In_neg ds) (In_open ds) (In_prim ds) (In_sign ds) (In_suffix ds) (In_add_step ds) (In_add ds) (In_and ds) (In_expr ds) (In_group_step ds) (In_group ds) (In_imp ds) (In_keyed ds) (In_last_step ds) (In_mul_step ds) (In_or ds) (In_params ds) (In_post ds) (In_set ds) (In_subscripts ds)) → Follows ds (form_or (roll-OrTree (inner_or ds y))) (walk ds (or_term (roll-OrTree (inner_or ds y))))
case_or ds y =
    let F : OrTree-F CompareTree MulTree NegTree OpenTree PrimTree SignTree SuffixTree AddStep AddTree AndTree ExprTree GroupStep GroupTree ImpTree KeyedTree LastStep MulStep OrTree ParamsTree PostTree SetTree SubscriptsTree → Form = λ z. forms.chain (connected z.at) (form_and z.first) (map form_and z.rest) in
    let G : OrTree-F CompareTree MulTree NegTree OpenTree PrimTree SignTree SuffixTree AddStep AddTree AndTree ExprTree GroupStep GroupTree ImpTree KeyedTree LastStep MulStep OrTree ParamsTree PostTree SetTree SubscriptsTree → Term = λ z. says.connected terms.Or z.at (and_term z.first) (map and_term z.rest) in
    by-both ds (form_or (roll-OrTree (inner_or ds y))) (F (inner_or ds y)) (or_term (roll-OrTree (inner_or ds y))) (G (inner_or ds y)) (form_is.form_or-is (roll-OrTree (inner_or ds y)) ∙ ap F (out-roll-OrTree (inner_or ds y))) (term_is.or_term-is (roll-OrTree (inner_or ds y)) ∙ ap G (out-roll-OrTree (inner_or ds y)))
    (follows-connected ds terms.Or (walk-Or ds) y.at (form_and y.first.0) _ (and_term y.first.0) _ y.first.1 (terms-follow ds form_and and_term y.rest))

case_and : (ds : List DeclTree) (y : AndTree-F (In_compare ds) (In_mul ds) (In_neg ds) (In_open ds) (In_prim ds) (In_sign ds) (In_suffix ds) (In_add_step ds) (In_add ds) (In_and ds) (In_expr ds) (In_group_step ds) (In_group ds) (In_imp ds) (In_keyed ds) (In_last_step ds) (In_mul_step ds) (In_or ds) (In_params ds) (In_post ds) (In_set ds) (In_subscripts ds)) → Follows ds (form_and (roll-AndTree (inner_and ds y))) (walk ds (and_term (roll-AndTree (inner_and ds y))))
case_and ds y =
    let F : AndTree-F CompareTree MulTree NegTree OpenTree PrimTree SignTree SuffixTree AddStep AddTree AndTree ExprTree GroupStep GroupTree ImpTree KeyedTree LastStep MulStep OrTree ParamsTree PostTree SetTree SubscriptsTree → Form = λ z. forms.chain (connected z.at) (form_neg z.first) (map form_neg z.rest) in
    let G : AndTree-F CompareTree MulTree NegTree OpenTree PrimTree SignTree SuffixTree AddStep AddTree AndTree ExprTree GroupStep GroupTree ImpTree KeyedTree LastStep MulStep OrTree ParamsTree PostTree SetTree SubscriptsTree → Term = λ z. says.connected terms.And z.at (neg_term z.first) (map neg_term z.rest) in
    by-both ds (form_and (roll-AndTree (inner_and ds y))) (F (inner_and ds y)) (and_term (roll-AndTree (inner_and ds y))) (G (inner_and ds y)) (form_is.form_and-is (roll-AndTree (inner_and ds y)) ∙ ap F (out-roll-AndTree (inner_and ds y))) (term_is.and_term-is (roll-AndTree (inner_and ds y)) ∙ ap G (out-roll-AndTree (inner_and ds y)))
    (follows-connected ds terms.And (walk-And ds) y.at (form_neg y.first.0) _ (neg_term y.first.0) _ y.first.1 (terms-follow ds form_neg neg_term y.rest))

case_add : (ds : List DeclTree) (y : AddTree-F (In_compare ds) (In_mul ds) (In_neg ds) (In_open ds) (In_prim ds) (In_sign ds) (In_suffix ds) (In_add_step ds) (In_add ds) (In_and ds) (In_expr ds) (In_group_step ds) (In_group ds) (In_imp ds) (In_keyed ds) (In_last_step ds) (In_mul_step ds) (In_or ds) (In_params ds) (In_post ds) (In_set ds) (In_subscripts ds)) → Follows ds (form_add (roll-AddTree (inner_add ds y))) (walk ds (add_term (roll-AddTree (inner_add ds y))))
case_add ds y =
    let F : AddTree-F CompareTree MulTree NegTree OpenTree PrimTree SignTree SuffixTree AddStep AddTree AndTree ExprTree GroupStep GroupTree ImpTree KeyedTree LastStep MulStep OrTree ParamsTree PostTree SetTree SubscriptsTree → Form = λ z. forms.chain (arithmetic z.at) (form_mul z.first) (map form_add_step z.rest) in
    let G : AddTree-F CompareTree MulTree NegTree OpenTree PrimTree SignTree SuffixTree AddStep AddTree AndTree ExprTree GroupStep GroupTree ImpTree KeyedTree LastStep MulStep OrTree ParamsTree PostTree SetTree SubscriptsTree → Term = λ z. says.chain z.at (mul_term z.first) (map add_step_of z.rest) in
    by-both ds (form_add (roll-AddTree (inner_add ds y))) (F (inner_add ds y)) (add_term (roll-AddTree (inner_add ds y))) (G (inner_add ds y)) (form_is.form_add-is (roll-AddTree (inner_add ds y)) ∙ ap F (out-roll-AddTree (inner_add ds y))) (term_is.add_term-is (roll-AddTree (inner_add ds y)) ∙ ap G (out-roll-AddTree (inner_add ds y)))
    (follows-chain ds y.at (form_mul y.first.0) _ (mul_term y.first.0) _ y.first.1 (steps-follow ds form_add_step add_step_of y.rest))

case_post : (ds : List DeclTree) (y : PostTree-F (In_compare ds) (In_mul ds) (In_neg ds) (In_open ds) (In_prim ds) (In_sign ds) (In_suffix ds) (In_add_step ds) (In_add ds) (In_and ds) (In_expr ds) (In_group_step ds) (In_group ds) (In_imp ds) (In_keyed ds) (In_last_step ds) (In_mul_step ds) (In_or ds) (In_params ds) (In_post ds) (In_set ds) (In_subscripts ds)) → Follows ds (form_post (roll-PostTree (inner_post ds y))) (walk ds (post_term (roll-PostTree (inner_post ds y))))
case_post ds y =
    let F : PostTree-F CompareTree MulTree NegTree OpenTree PrimTree SignTree SuffixTree AddStep AddTree AndTree ExprTree GroupStep GroupTree ImpTree KeyedTree LastStep MulStep OrTree ParamsTree PostTree SetTree SubscriptsTree → Form = λ z. forms.with_suffixes z.at (form_prim z.prim) (map form_suffix z.suffixes) in
    let G : PostTree-F CompareTree MulTree NegTree OpenTree PrimTree SignTree SuffixTree AddStep AddTree AndTree ExprTree GroupStep GroupTree ImpTree KeyedTree LastStep MulStep OrTree ParamsTree PostTree SetTree SubscriptsTree → Term = λ z. says.with_suffixes z.at (prim_term z.prim) [] (map suffix_of z.suffixes) in
    by-both ds (form_post (roll-PostTree (inner_post ds y))) (F (inner_post ds y)) (post_term (roll-PostTree (inner_post ds y))) (G (inner_post ds y)) (form_is.form_post-is (roll-PostTree (inner_post ds y)) ∙ ap F (out-roll-PostTree (inner_post ds y))) (term_is.post_term-is (roll-PostTree (inner_post ds y)) ∙ ap G (out-roll-PostTree (inner_post ds y)))
    (follows-suffixes ds y.at (form_prim y.prim.0) (prim_term y.prim.0) [] y.suffixes y.prim.1)

implied-follows : (ds : List DeclTree) (at : ℕ) (f : Form) (t : Term) → Follows ds f (walk ds t) → (c : Option (In_imp ds)) → Follows ds (forms.implied at f (option_map form_imp (option_map (λ e. e.0) c))) (walk ds (says.implied at t (option_map imp_term (option_map (λ e. e.0) c))))
implied-follows ds at f t p None = p
implied-follows ds at f t p (Some e) = follows-Connected ds at (f ∷ form_imp e.0 ∷ []) (terms.Implied at t (imp_term e.0)) (walk ds t ∷ walk ds (imp_term e.0) ∷ []) (walk-Implied ds at t (imp_term e.0)) (p, (e.1, tt))

at_imp : (ds : List DeclTree) (y_at : ℕ) (y_premise : In_or ds) (y_conclusion : Option (In_imp ds)) → let y : ImpTree-F (In_compare ds) (In_mul ds) (In_neg ds) (In_open ds) (In_prim ds) (In_sign ds) (In_suffix ds) (In_add_step ds) (In_add ds) (In_and ds) (In_expr ds) (In_group_step ds) (In_group ds) (In_imp ds) (In_keyed ds) (In_last_step ds) (In_mul_step ds) (In_or ds) (In_params ds) (In_post ds) (In_set ds) (In_subscripts ds) = record { at = y_at; premise = y_premise; conclusion = y_conclusion } in Follows ds (form_imp (roll-ImpTree (inner_imp ds y))) (walk ds (imp_term (roll-ImpTree (inner_imp ds y))))
at_imp ds y_at y_premise None =
    let y : ImpTree-F (In_compare ds) (In_mul ds) (In_neg ds) (In_open ds) (In_prim ds) (In_sign ds) (In_suffix ds) (In_add_step ds) (In_add ds) (In_and ds) (In_expr ds) (In_group_step ds) (In_group ds) (In_imp ds) (In_keyed ds) (In_last_step ds) (In_mul_step ds) (In_or ds) (In_params ds) (In_post ds) (In_set ds) (In_subscripts ds) = record { at = y_at; premise = y_premise; conclusion = None } in
    let F : ImpTree-F CompareTree MulTree NegTree OpenTree PrimTree SignTree SuffixTree AddStep AddTree AndTree ExprTree GroupStep GroupTree ImpTree KeyedTree LastStep MulStep OrTree ParamsTree PostTree SetTree SubscriptsTree → Form = λ z. forms.implied z.at (form_or z.premise) (option_map form_imp z.conclusion) in
    let G : ImpTree-F CompareTree MulTree NegTree OpenTree PrimTree SignTree SuffixTree AddStep AddTree AndTree ExprTree GroupStep GroupTree ImpTree KeyedTree LastStep MulStep OrTree ParamsTree PostTree SetTree SubscriptsTree → Term = λ z. says.implied z.at (or_term z.premise) (option_map imp_term z.conclusion) in
    subst (λ f. Follows ds f (walk ds (imp_term (roll-ImpTree (inner_imp ds y))))) (sym (form_is.form_imp-is (roll-ImpTree (inner_imp ds y)) ∙ ap F (out-roll-ImpTree (inner_imp ds y))))
    (subst (λ u. Follows ds (F (inner_imp ds y)) (walk ds (u))) (sym (term_is.imp_term-is (roll-ImpTree (inner_imp ds y)) ∙ ap G (out-roll-ImpTree (inner_imp ds y))))
    (implied-follows ds y_at (form_or y_premise.0) (or_term y_premise.0) y_premise.1 None))
at_imp ds y_at y_premise (Some c) =
    let y : ImpTree-F (In_compare ds) (In_mul ds) (In_neg ds) (In_open ds) (In_prim ds) (In_sign ds) (In_suffix ds) (In_add_step ds) (In_add ds) (In_and ds) (In_expr ds) (In_group_step ds) (In_group ds) (In_imp ds) (In_keyed ds) (In_last_step ds) (In_mul_step ds) (In_or ds) (In_params ds) (In_post ds) (In_set ds) (In_subscripts ds) = record { at = y_at; premise = y_premise; conclusion = (Some c) } in
    let F : ImpTree-F CompareTree MulTree NegTree OpenTree PrimTree SignTree SuffixTree AddStep AddTree AndTree ExprTree GroupStep GroupTree ImpTree KeyedTree LastStep MulStep OrTree ParamsTree PostTree SetTree SubscriptsTree → Form = λ z. forms.implied z.at (form_or z.premise) (option_map form_imp z.conclusion) in
    let G : ImpTree-F CompareTree MulTree NegTree OpenTree PrimTree SignTree SuffixTree AddStep AddTree AndTree ExprTree GroupStep GroupTree ImpTree KeyedTree LastStep MulStep OrTree ParamsTree PostTree SetTree SubscriptsTree → Term = λ z. says.implied z.at (or_term z.premise) (option_map imp_term z.conclusion) in
    subst (λ f. Follows ds f (walk ds (imp_term (roll-ImpTree (inner_imp ds y))))) (sym (form_is.form_imp-is (roll-ImpTree (inner_imp ds y)) ∙ ap F (out-roll-ImpTree (inner_imp ds y))))
    (subst (λ u. Follows ds (F (inner_imp ds y)) (walk ds (u))) (sym (term_is.imp_term-is (roll-ImpTree (inner_imp ds y)) ∙ ap G (out-roll-ImpTree (inner_imp ds y))))
    (implied-follows ds y_at (form_or y_premise.0) (or_term y_premise.0) y_premise.1 (Some c)))

case_imp : (ds : List DeclTree) (y : ImpTree-F (In_compare ds) (In_mul ds) (In_neg ds) (In_open ds) (In_prim ds) (In_sign ds) (In_suffix ds) (In_add_step ds) (In_add ds) (In_and ds) (In_expr ds) (In_group_step ds) (In_group ds) (In_imp ds) (In_keyed ds) (In_last_step ds) (In_mul_step ds) (In_or ds) (In_params ds) (In_post ds) (In_set ds) (In_subscripts ds)) → Follows ds (form_imp (roll-ImpTree (inner_imp ds y))) (walk ds (imp_term (roll-ImpTree (inner_imp ds y))))
case_imp ds y = at_imp ds y.at y.premise y.conclusion

case_add_step : (ds : List DeclTree) (y : AddStep-F (In_compare ds) (In_mul ds) (In_neg ds) (In_open ds) (In_prim ds) (In_sign ds) (In_suffix ds) (In_add_step ds) (In_add ds) (In_and ds) (In_expr ds) (In_group_step ds) (In_group ds) (In_imp ds) (In_keyed ds) (In_last_step ds) (In_mul_step ds) (In_or ds) (In_params ds) (In_post ds) (In_set ds) (In_subscripts ds)) → Follows ds (form_add_step (roll-AddStep (inner_add_step ds y))) (walk_step ds (add_step_of (roll-AddStep (inner_add_step ds y))))
case_add_step ds y =
    let F : AddStep-F CompareTree MulTree NegTree OpenTree PrimTree SignTree SuffixTree AddStep AddTree AndTree ExprTree GroupStep GroupTree ImpTree KeyedTree LastStep MulStep OrTree ParamsTree PostTree SetTree SubscriptsTree → Form = λ z. form_mul z.term in
    let G : AddStep-F CompareTree MulTree NegTree OpenTree PrimTree SignTree SuffixTree AddStep AddTree AndTree ExprTree GroupStep GroupTree ImpTree KeyedTree LastStep MulStep OrTree ParamsTree PostTree SetTree SubscriptsTree → Step = λ z. says.add_step z.op (mul_term z.term) in
    subst (λ f. Follows ds f (walk_step ds (add_step_of (roll-AddStep (inner_add_step ds y))))) (sym (form_is.form_add_step-is (roll-AddStep (inner_add_step ds y)) ∙ ap F (out-roll-AddStep (inner_add_step ds y))))
    (subst (λ u. Follows ds (form_mul y.term.0) (walk_step ds u)) (sym (term_is.add_step_of-is (roll-AddStep (inner_add_step ds y)) ∙ ap G (out-roll-AddStep (inner_add_step ds y)))) (follows-add_step ds y.op (form_mul y.term.0) (mul_term y.term.0) y.term.1))

case_mul_step : (ds : List DeclTree) (y : MulStep-F (In_compare ds) (In_mul ds) (In_neg ds) (In_open ds) (In_prim ds) (In_sign ds) (In_suffix ds) (In_add_step ds) (In_add ds) (In_and ds) (In_expr ds) (In_group_step ds) (In_group ds) (In_imp ds) (In_keyed ds) (In_last_step ds) (In_mul_step ds) (In_or ds) (In_params ds) (In_post ds) (In_set ds) (In_subscripts ds)) → Follows ds (form_mul_step (roll-MulStep (inner_mul_step ds y))) (walk_step ds (mul_step_of (roll-MulStep (inner_mul_step ds y))))
case_mul_step ds y =
    let F : MulStep-F CompareTree MulTree NegTree OpenTree PrimTree SignTree SuffixTree AddStep AddTree AndTree ExprTree GroupStep GroupTree ImpTree KeyedTree LastStep MulStep OrTree ParamsTree PostTree SetTree SubscriptsTree → Form = λ z. form_sign z.factor in
    let G : MulStep-F CompareTree MulTree NegTree OpenTree PrimTree SignTree SuffixTree AddStep AddTree AndTree ExprTree GroupStep GroupTree ImpTree KeyedTree LastStep MulStep OrTree ParamsTree PostTree SetTree SubscriptsTree → Step = λ z. says.mul_step z.op (sign_term z.factor) in
    subst (λ f. Follows ds f (walk_step ds (mul_step_of (roll-MulStep (inner_mul_step ds y))))) (sym (form_is.form_mul_step-is (roll-MulStep (inner_mul_step ds y)) ∙ ap F (out-roll-MulStep (inner_mul_step ds y))))
    (subst (λ u. Follows ds (form_sign y.factor.0) (walk_step ds u)) (sym (term_is.mul_step_of-is (roll-MulStep (inner_mul_step ds y)) ∙ ap G (out-roll-MulStep (inner_mul_step ds y)))) (follows-mul_step ds y.op (form_sign y.factor.0) (sign_term y.factor.0) y.factor.1))

case_last_step : (ds : List DeclTree) (y : LastStep-F (In_compare ds) (In_mul ds) (In_neg ds) (In_open ds) (In_prim ds) (In_sign ds) (In_suffix ds) (In_add_step ds) (In_add ds) (In_and ds) (In_expr ds) (In_group_step ds) (In_group ds) (In_imp ds) (In_keyed ds) (In_last_step ds) (In_mul_step ds) (In_or ds) (In_params ds) (In_post ds) (In_set ds) (In_subscripts ds)) → Follows ds (form_last_step (roll-LastStep (inner_last_step ds y))) (walk_step ds (last_step_of (roll-LastStep (inner_last_step ds y))))
case_last_step ds y =
    let F : LastStep-F CompareTree MulTree NegTree OpenTree PrimTree SignTree SuffixTree AddStep AddTree AndTree ExprTree GroupStep GroupTree ImpTree KeyedTree LastStep MulStep OrTree ParamsTree PostTree SetTree SubscriptsTree → Form = λ z. form_open z.factor in
    let G : LastStep-F CompareTree MulTree NegTree OpenTree PrimTree SignTree SuffixTree AddStep AddTree AndTree ExprTree GroupStep GroupTree ImpTree KeyedTree LastStep MulStep OrTree ParamsTree PostTree SetTree SubscriptsTree → Step = λ z. says.mul_step z.op (open_term z.factor) in
    subst (λ f. Follows ds f (walk_step ds (last_step_of (roll-LastStep (inner_last_step ds y))))) (sym (form_is.form_last_step-is (roll-LastStep (inner_last_step ds y)) ∙ ap F (out-roll-LastStep (inner_last_step ds y))))
    (subst (λ u. Follows ds (form_open y.factor.0) (walk_step ds u)) (sym (term_is.last_step_of-is (roll-LastStep (inner_last_step ds y)) ∙ ap G (out-roll-LastStep (inner_last_step ds y)))) (follows-mul_step ds y.op (form_open y.factor.0) (open_term y.factor.0) y.factor.1))

case_keyed : (ds : List DeclTree) (y : KeyedTree-F (In_compare ds) (In_mul ds) (In_neg ds) (In_open ds) (In_prim ds) (In_sign ds) (In_suffix ds) (In_add_step ds) (In_add ds) (In_and ds) (In_expr ds) (In_group_step ds) (In_group ds) (In_imp ds) (In_keyed ds) (In_last_step ds) (In_mul_step ds) (In_or ds) (In_params ds) (In_post ds) (In_set ds) (In_subscripts ds)) → FollowsPair ds (form_keyed (roll-KeyedTree (inner_keyed ds y))).key (form_keyed (roll-KeyedTree (inner_keyed ds y))).cell (walk ds (keyed_pair (roll-KeyedTree (inner_keyed ds y))).key) (walk ds (keyed_pair (roll-KeyedTree (inner_keyed ds y))).cell)
case_keyed ds y =
    let F : KeyedTree-F CompareTree MulTree NegTree OpenTree PrimTree SignTree SuffixTree AddStep AddTree AndTree ExprTree GroupStep GroupTree ImpTree KeyedTree LastStep MulStep OrTree ParamsTree PostTree SetTree SubscriptsTree → forms.Pair = λ z. record { key = form_add z.key; cell = form_add z.value } in
    let G : KeyedTree-F CompareTree MulTree NegTree OpenTree PrimTree SignTree SuffixTree AddStep AddTree AndTree ExprTree GroupStep GroupTree ImpTree KeyedTree LastStep MulStep OrTree ParamsTree PostTree SetTree SubscriptsTree → says.Pair = λ z. record { key = add_term z.key; cell = add_term z.value } in
    subst (λ f. FollowsPair ds f.key f.cell (walk ds (keyed_pair (roll-KeyedTree (inner_keyed ds y))).key) (walk ds (keyed_pair (roll-KeyedTree (inner_keyed ds y))).cell)) (sym (form_is.form_keyed-is (roll-KeyedTree (inner_keyed ds y)) ∙ ap F (out-roll-KeyedTree (inner_keyed ds y))))
    (subst (λ u. FollowsPair ds (form_add y.key.0) (form_add y.value.0) (walk ds u.key) (walk ds u.cell)) (sym (term_is.keyed_pair-is (roll-KeyedTree (inner_keyed ds y)) ∙ ap G (out-roll-KeyedTree (inner_keyed ds y)))) (record { key_follows = y.key.1; cell_follows = y.value.1 }))

set-follows : (ds : List DeclTree) (f : Form) (t : Term) → Follows ds f (walk ds t) → (c : Option (In_add ds)) → FollowsSet ds (forms.set_form f (option_map form_add (option_map (λ e. e.0) c))) (walk_set ds (says.set_of t (option_map add_term (option_map (λ e. e.0) c))))
set-follows ds f t p None = set-Whole ds f t p
set-follows ds f t p (Some e) = set-Between ds f (form_add e.0) t (add_term e.0) p e.1

at_set : (ds : List DeclTree) (y_at : ℕ) (y_low : In_add ds) (y_high : Option (In_add ds)) → let y : SetTree-F (In_compare ds) (In_mul ds) (In_neg ds) (In_open ds) (In_prim ds) (In_sign ds) (In_suffix ds) (In_add_step ds) (In_add ds) (In_and ds) (In_expr ds) (In_group_step ds) (In_group ds) (In_imp ds) (In_keyed ds) (In_last_step ds) (In_mul_step ds) (In_or ds) (In_params ds) (In_post ds) (In_set ds) (In_subscripts ds) = record { at = y_at; low = y_low; high = y_high } in FollowsSet ds (form_set (roll-SetTree (inner_set ds y))) (walk_set ds (set_term (roll-SetTree (inner_set ds y))))
at_set ds y_at y_low None =
    let y : SetTree-F (In_compare ds) (In_mul ds) (In_neg ds) (In_open ds) (In_prim ds) (In_sign ds) (In_suffix ds) (In_add_step ds) (In_add ds) (In_and ds) (In_expr ds) (In_group_step ds) (In_group ds) (In_imp ds) (In_keyed ds) (In_last_step ds) (In_mul_step ds) (In_or ds) (In_params ds) (In_post ds) (In_set ds) (In_subscripts ds) = record { at = y_at; low = y_low; high = None } in
    let F : SetTree-F CompareTree MulTree NegTree OpenTree PrimTree SignTree SuffixTree AddStep AddTree AndTree ExprTree GroupStep GroupTree ImpTree KeyedTree LastStep MulStep OrTree ParamsTree PostTree SetTree SubscriptsTree → SetForm = λ z. forms.set_form (form_add z.low) (option_map form_add z.high) in
    let G : SetTree-F CompareTree MulTree NegTree OpenTree PrimTree SignTree SuffixTree AddStep AddTree AndTree ExprTree GroupStep GroupTree ImpTree KeyedTree LastStep MulStep OrTree ParamsTree PostTree SetTree SubscriptsTree → SetTerm = λ z. says.set_of (add_term z.low) (option_map add_term z.high) in
    subst (λ f. FollowsSet ds f (walk_set ds (set_term (roll-SetTree (inner_set ds y))))) (sym (form_is.form_set-is (roll-SetTree (inner_set ds y)) ∙ ap F (out-roll-SetTree (inner_set ds y))))
    (subst (λ u. FollowsSet ds (F (inner_set ds y)) (walk_set ds (u))) (sym (term_is.set_term-is (roll-SetTree (inner_set ds y)) ∙ ap G (out-roll-SetTree (inner_set ds y))))
    (set-follows ds (form_add y_low.0) (add_term y_low.0) y_low.1 None))
at_set ds y_at y_low (Some c) =
    let y : SetTree-F (In_compare ds) (In_mul ds) (In_neg ds) (In_open ds) (In_prim ds) (In_sign ds) (In_suffix ds) (In_add_step ds) (In_add ds) (In_and ds) (In_expr ds) (In_group_step ds) (In_group ds) (In_imp ds) (In_keyed ds) (In_last_step ds) (In_mul_step ds) (In_or ds) (In_params ds) (In_post ds) (In_set ds) (In_subscripts ds) = record { at = y_at; low = y_low; high = (Some c) } in
    let F : SetTree-F CompareTree MulTree NegTree OpenTree PrimTree SignTree SuffixTree AddStep AddTree AndTree ExprTree GroupStep GroupTree ImpTree KeyedTree LastStep MulStep OrTree ParamsTree PostTree SetTree SubscriptsTree → SetForm = λ z. forms.set_form (form_add z.low) (option_map form_add z.high) in
    let G : SetTree-F CompareTree MulTree NegTree OpenTree PrimTree SignTree SuffixTree AddStep AddTree AndTree ExprTree GroupStep GroupTree ImpTree KeyedTree LastStep MulStep OrTree ParamsTree PostTree SetTree SubscriptsTree → SetTerm = λ z. says.set_of (add_term z.low) (option_map add_term z.high) in
    subst (λ f. FollowsSet ds f (walk_set ds (set_term (roll-SetTree (inner_set ds y))))) (sym (form_is.form_set-is (roll-SetTree (inner_set ds y)) ∙ ap F (out-roll-SetTree (inner_set ds y))))
    (subst (λ u. FollowsSet ds (F (inner_set ds y)) (walk_set ds (u))) (sym (term_is.set_term-is (roll-SetTree (inner_set ds y)) ∙ ap G (out-roll-SetTree (inner_set ds y))))
    (set-follows ds (form_add y_low.0) (add_term y_low.0) y_low.1 (Some c)))

case_set : (ds : List DeclTree) (y : SetTree-F (In_compare ds) (In_mul ds) (In_neg ds) (In_open ds) (In_prim ds) (In_sign ds) (In_suffix ds) (In_add_step ds) (In_add ds) (In_and ds) (In_expr ds) (In_group_step ds) (In_group ds) (In_imp ds) (In_keyed ds) (In_last_step ds) (In_mul_step ds) (In_or ds) (In_params ds) (In_post ds) (In_set ds) (In_subscripts ds)) → FollowsSet ds (form_set (roll-SetTree (inner_set ds y))) (walk_set ds (set_term (roll-SetTree (inner_set ds y))))
case_set ds y = at_set ds y.at y.low y.high

case_group : (ds : List DeclTree) (y : GroupTree-F (In_compare ds) (In_mul ds) (In_neg ds) (In_open ds) (In_prim ds) (In_sign ds) (In_suffix ds) (In_add_step ds) (In_add ds) (In_and ds) (In_expr ds) (In_group_step ds) (In_group ds) (In_imp ds) (In_keyed ds) (In_last_step ds) (In_mul_step ds) (In_or ds) (In_params ds) (In_post ds) (In_set ds) (In_subscripts ds)) → FollowsSet ds (form_group (roll-GroupTree (inner_group ds y))).over (walk_group ds (group_term (roll-GroupTree (inner_group ds y))))
case_group ds y =
    let F : GroupTree-F CompareTree MulTree NegTree OpenTree PrimTree SignTree SuffixTree AddStep AddTree AndTree ExprTree GroupStep GroupTree ImpTree KeyedTree LastStep MulStep OrTree ParamsTree PostTree SetTree SubscriptsTree → Group = λ z. record { patterns = z.first ∷ z.rest; over = form_set z.set } in
    let G : GroupTree-F CompareTree MulTree NegTree OpenTree PrimTree SignTree SuffixTree AddStep AddTree AndTree ExprTree GroupStep GroupTree ImpTree KeyedTree LastStep MulStep OrTree ParamsTree PostTree SetTree SubscriptsTree → GroupTerm = λ z. says.group_of z.is_ordered (map pattern_of (z.first ∷ z.rest)) (set_term z.set) in
    subst (λ f. FollowsSet ds f.over (walk_group ds (group_term (roll-GroupTree (inner_group ds y))))) (sym (form_is.form_group-is (roll-GroupTree (inner_group ds y)) ∙ ap F (out-roll-GroupTree (inner_group ds y))))
    (subst (λ u. FollowsSet ds (form_set y.set.0) (walk_group ds u)) (sym (term_is.group_term-is (roll-GroupTree (inner_group ds y)) ∙ ap G (out-roll-GroupTree (inner_group ds y)))) (follows-group ds y.is_ordered (form_set y.set.0) (map pattern_of (y.first ∷ y.rest)) (set_term y.set.0) y.set.1))

case_group_step : (ds : List DeclTree) (y : GroupStep-F (In_compare ds) (In_mul ds) (In_neg ds) (In_open ds) (In_prim ds) (In_sign ds) (In_suffix ds) (In_add_step ds) (In_add ds) (In_and ds) (In_expr ds) (In_group_step ds) (In_group ds) (In_imp ds) (In_keyed ds) (In_last_step ds) (In_mul_step ds) (In_or ds) (In_params ds) (In_post ds) (In_set ds) (In_subscripts ds)) → FollowsSet ds (form_group_step (roll-GroupStep (inner_group_step ds y))).over (walk_group ds (group_step_term (roll-GroupStep (inner_group_step ds y))))
case_group_step ds y =
    let F : GroupStep-F CompareTree MulTree NegTree OpenTree PrimTree SignTree SuffixTree AddStep AddTree AndTree ExprTree GroupStep GroupTree ImpTree KeyedTree LastStep MulStep OrTree ParamsTree PostTree SetTree SubscriptsTree → Group = λ z. form_group z.group in
    let G : GroupStep-F CompareTree MulTree NegTree OpenTree PrimTree SignTree SuffixTree AddStep AddTree AndTree ExprTree GroupStep GroupTree ImpTree KeyedTree LastStep MulStep OrTree ParamsTree PostTree SetTree SubscriptsTree → GroupTerm = λ z. group_term z.group in
    subst (λ f. FollowsSet ds f.over (walk_group ds (group_step_term (roll-GroupStep (inner_group_step ds y))))) (sym (form_is.form_group_step-is (roll-GroupStep (inner_group_step ds y)) ∙ ap F (out-roll-GroupStep (inner_group_step ds y))))
    (subst (λ u. FollowsSet ds (form_group y.group.0).over (walk_group ds u)) (sym (term_is.group_step_term-is (roll-GroupStep (inner_group_step ds y)) ∙ ap G (out-roll-GroupStep (inner_group_step ds y)))) y.group.1)

params-follow : (ds : List DeclTree) (gs : List Group) (ws : List GroupTerm) → FollowGroups ds gs (map (walk_group ds) ws) → (c : Option (In_expr ds)) →
    FollowsParams ds (forms.params_form (groups_of gs) (option_map form_expr (option_map (λ e. e.0) c))) (λ s. if_written (option_map (walk ds) (option_map expr_term (option_map (λ e. e.0) c))) (each (map (walk_group ds) ws) s))
params-follow ds gs ws p None = params-all ds gs (map (walk_group ds) ws) p
params-follow ds gs ws p (Some e) = params-those ds gs (map (walk_group ds) ws) (form_expr e.0) (walk ds (expr_term e.0)) p e.1

at_params : (ds : List DeclTree) (y_at : ℕ) (y_first : In_group ds) (y_rest : List (In_group_step ds)) (y_condition : Option (In_expr ds)) → let y : ParamsTree-F (In_compare ds) (In_mul ds) (In_neg ds) (In_open ds) (In_prim ds) (In_sign ds) (In_suffix ds) (In_add_step ds) (In_add ds) (In_and ds) (In_expr ds) (In_group_step ds) (In_group ds) (In_imp ds) (In_keyed ds) (In_last_step ds) (In_mul_step ds) (In_or ds) (In_params ds) (In_post ds) (In_set ds) (In_subscripts ds) = record { at = y_at; first = y_first; rest = y_rest; condition = y_condition } in FollowsParams ds (form_params (roll-ParamsTree (inner_params ds y))) (λ s. if_written (option_map (walk ds) (params_term (roll-ParamsTree (inner_params ds y))).condition) (each (map (walk_group ds) (params_term (roll-ParamsTree (inner_params ds y))).groups) s))
at_params ds y_at y_first y_rest None =
    let y : ParamsTree-F (In_compare ds) (In_mul ds) (In_neg ds) (In_open ds) (In_prim ds) (In_sign ds) (In_suffix ds) (In_add_step ds) (In_add ds) (In_and ds) (In_expr ds) (In_group_step ds) (In_group ds) (In_imp ds) (In_keyed ds) (In_last_step ds) (In_mul_step ds) (In_or ds) (In_params ds) (In_post ds) (In_set ds) (In_subscripts ds) = record { at = y_at; first = y_first; rest = y_rest; condition = None } in
    let F : ParamsTree-F CompareTree MulTree NegTree OpenTree PrimTree SignTree SuffixTree AddStep AddTree AndTree ExprTree GroupStep GroupTree ImpTree KeyedTree LastStep MulStep OrTree ParamsTree PostTree SetTree SubscriptsTree → Params = λ z. forms.params_form (groups_of (form_group z.first ∷ map form_group_step z.rest)) (option_map form_expr z.condition) in
    let G : ParamsTree-F CompareTree MulTree NegTree OpenTree PrimTree SignTree SuffixTree AddStep AddTree AndTree ExprTree GroupStep GroupTree ImpTree KeyedTree LastStep MulStep OrTree ParamsTree PostTree SetTree SubscriptsTree → ParamsTerm = λ z. record { groups = group_term z.first ∷ map group_step_term z.rest; condition = option_map expr_term z.condition } in
    subst (λ f. FollowsParams ds f (λ s. if_written (option_map (walk ds) (params_term (roll-ParamsTree (inner_params ds y))).condition) (each (map (walk_group ds) (params_term (roll-ParamsTree (inner_params ds y))).groups) s))) (sym (form_is.form_params-is (roll-ParamsTree (inner_params ds y)) ∙ ap F (out-roll-ParamsTree (inner_params ds y))))
    (subst (λ u. FollowsParams ds (F (inner_params ds y)) (λ s. if_written (option_map (walk ds) (u).condition) (each (map (walk_group ds) (u).groups) s))) (sym (term_is.params_term-is (roll-ParamsTree (inner_params ds y)) ∙ ap G (out-roll-ParamsTree (inner_params ds y))))
    (params-follow ds (form_group y_first.0 ∷ map form_group_step (map (λ e. e.0) y_rest)) (group_term y_first.0 ∷ map group_step_term (map (λ e. e.0) y_rest)) (y_first.1, groups-follow ds form_group_step group_step_term y_rest) None))
at_params ds y_at y_first y_rest (Some c) =
    let y : ParamsTree-F (In_compare ds) (In_mul ds) (In_neg ds) (In_open ds) (In_prim ds) (In_sign ds) (In_suffix ds) (In_add_step ds) (In_add ds) (In_and ds) (In_expr ds) (In_group_step ds) (In_group ds) (In_imp ds) (In_keyed ds) (In_last_step ds) (In_mul_step ds) (In_or ds) (In_params ds) (In_post ds) (In_set ds) (In_subscripts ds) = record { at = y_at; first = y_first; rest = y_rest; condition = (Some c) } in
    let F : ParamsTree-F CompareTree MulTree NegTree OpenTree PrimTree SignTree SuffixTree AddStep AddTree AndTree ExprTree GroupStep GroupTree ImpTree KeyedTree LastStep MulStep OrTree ParamsTree PostTree SetTree SubscriptsTree → Params = λ z. forms.params_form (groups_of (form_group z.first ∷ map form_group_step z.rest)) (option_map form_expr z.condition) in
    let G : ParamsTree-F CompareTree MulTree NegTree OpenTree PrimTree SignTree SuffixTree AddStep AddTree AndTree ExprTree GroupStep GroupTree ImpTree KeyedTree LastStep MulStep OrTree ParamsTree PostTree SetTree SubscriptsTree → ParamsTerm = λ z. record { groups = group_term z.first ∷ map group_step_term z.rest; condition = option_map expr_term z.condition } in
    subst (λ f. FollowsParams ds f (λ s. if_written (option_map (walk ds) (params_term (roll-ParamsTree (inner_params ds y))).condition) (each (map (walk_group ds) (params_term (roll-ParamsTree (inner_params ds y))).groups) s))) (sym (form_is.form_params-is (roll-ParamsTree (inner_params ds y)) ∙ ap F (out-roll-ParamsTree (inner_params ds y))))
    (subst (λ u. FollowsParams ds (F (inner_params ds y)) (λ s. if_written (option_map (walk ds) (u).condition) (each (map (walk_group ds) (u).groups) s))) (sym (term_is.params_term-is (roll-ParamsTree (inner_params ds y)) ∙ ap G (out-roll-ParamsTree (inner_params ds y))))
    (params-follow ds (form_group y_first.0 ∷ map form_group_step (map (λ e. e.0) y_rest)) (group_term y_first.0 ∷ map group_step_term (map (λ e. e.0) y_rest)) (y_first.1, groups-follow ds form_group_step group_step_term y_rest) (Some c)))

case_params : (ds : List DeclTree) (y : ParamsTree-F (In_compare ds) (In_mul ds) (In_neg ds) (In_open ds) (In_prim ds) (In_sign ds) (In_suffix ds) (In_add_step ds) (In_add ds) (In_and ds) (In_expr ds) (In_group_step ds) (In_group ds) (In_imp ds) (In_keyed ds) (In_last_step ds) (In_mul_step ds) (In_or ds) (In_params ds) (In_post ds) (In_set ds) (In_subscripts ds)) → FollowsParams ds (form_params (roll-ParamsTree (inner_params ds y))) (λ s. if_written (option_map (walk ds) (params_term (roll-ParamsTree (inner_params ds y))).condition) (each (map (walk_group ds) (params_term (roll-ParamsTree (inner_params ds y))).groups) s))
case_params ds y = at_params ds y.at y.first y.rest y.condition

case_subscripts : (ds : List DeclTree) (y : SubscriptsTree-F (In_compare ds) (In_mul ds) (In_neg ds) (In_open ds) (In_prim ds) (In_sign ds) (In_suffix ds) (In_add_step ds) (In_add ds) (In_and ds) (In_expr ds) (In_group_step ds) (In_group ds) (In_imp ds) (In_keyed ds) (In_last_step ds) (In_mul_step ds) (In_or ds) (In_params ds) (In_post ds) (In_set ds) (In_subscripts ds)) → FollowEach ds (form_subscripts (roll-SubscriptsTree (inner_subscripts ds y))) (map (walk ds) (subscripts_terms (roll-SubscriptsTree (inner_subscripts ds y))))
case_subscripts ds y =
    let F : SubscriptsTree-F CompareTree MulTree NegTree OpenTree PrimTree SignTree SuffixTree AddStep AddTree AndTree ExprTree GroupStep GroupTree ImpTree KeyedTree LastStep MulStep OrTree ParamsTree PostTree SetTree SubscriptsTree → List Form = λ z. form_add z.first ∷ map form_add z.rest in
    let G : SubscriptsTree-F CompareTree MulTree NegTree OpenTree PrimTree SignTree SuffixTree AddStep AddTree AndTree ExprTree GroupStep GroupTree ImpTree KeyedTree LastStep MulStep OrTree ParamsTree PostTree SetTree SubscriptsTree → List Term = λ z. add_term z.first ∷ map add_term z.rest in
    subst (λ f. FollowEach ds f (map (walk ds) (subscripts_terms (roll-SubscriptsTree (inner_subscripts ds y))))) (sym (form_is.form_subscripts-is (roll-SubscriptsTree (inner_subscripts ds y)) ∙ ap F (out-roll-SubscriptsTree (inner_subscripts ds y))))
    (subst (λ u. FollowEach ds (F (inner_subscripts ds y)) (map (walk ds) u)) (sym (term_is.subscripts_terms-is (roll-SubscriptsTree (inner_subscripts ds y)) ∙ ap G (out-roll-SubscriptsTree (inner_subscripts ds y)))) (y.first.1, terms-follow ds form_add add_term y.rest))

case_neg : (ds : List DeclTree) (y : NegTree-F (In_compare ds) (In_mul ds) (In_neg ds) (In_open ds) (In_prim ds) (In_sign ds) (In_suffix ds) (In_add_step ds) (In_add ds) (In_and ds) (In_expr ds) (In_group_step ds) (In_group ds) (In_imp ds) (In_keyed ds) (In_last_step ds) (In_mul_step ds) (In_or ds) (In_params ds) (In_post ds) (In_set ds) (In_subscripts ds)) → Follows ds (form_neg (roll-NegTree (inner_neg ds y))) (walk ds (neg_term (roll-NegTree (inner_neg ds y))))
case_neg ds (NegTree-F.Not at e) = subst (λ t. Follows ds (form_neg t) (walk ds (neg_term t))) (sym (negs.rolls-Not at e.0)) (by-both ds (form_neg (negs.Not at e.0)) _ (neg_term (negs.Not at e.0)) _ (form_is.form_neg-Not at e.0) (term_is.neg_term-Not at e.0) (follows-Connected ds at (form_neg e.0 ∷ []) (terms.Not at (neg_term e.0)) (walk ds (neg_term e.0) ∷ []) (walk-Not ds at (neg_term e.0)) (e.1, tt)))
case_neg ds (NegTree-F.Compare e) = subst (λ t. Follows ds (form_neg t) (walk ds (neg_term t))) (sym (negs.rolls-Compare e.0)) (by-both ds (form_neg (negs.Compare e.0)) _ (neg_term (negs.Compare e.0)) _ (form_is.form_neg-Compare e.0) (term_is.neg_term-Compare e.0) (e.1))

case_compare : (ds : List DeclTree) (y : CompareTree-F (In_compare ds) (In_mul ds) (In_neg ds) (In_open ds) (In_prim ds) (In_sign ds) (In_suffix ds) (In_add_step ds) (In_add ds) (In_and ds) (In_expr ds) (In_group_step ds) (In_group ds) (In_imp ds) (In_keyed ds) (In_last_step ds) (In_mul_step ds) (In_or ds) (In_params ds) (In_post ds) (In_set ds) (In_subscripts ds)) → Follows ds (form_compare (roll-CompareTree (inner_compare ds y))) (walk ds (compare_term (roll-CompareTree (inner_compare ds y))))
case_compare ds (CompareTree-F.Single at e) = subst (λ t. Follows ds (form_compare t) (walk ds (compare_term t))) (sym (compares.rolls-Single at e.0)) (by-both ds (form_compare (compares.Single at e.0)) _ (compare_term (compares.Single at e.0)) _ (form_is.form_compare-Single at e.0) (term_is.compare_term-Single at e.0) (e.1))
case_compare ds (CompareTree-F.Related at e relation d) = subst (λ t. Follows ds (form_compare t) (walk ds (compare_term t))) (sym (compares.rolls-Related at e.0 relation d.0)) (by-both ds (form_compare (compares.Related at e.0 relation d.0)) _ (compare_term (compares.Related at e.0 relation d.0)) _ (form_is.form_compare-Related at e.0 relation d.0) (term_is.compare_term-Related at e.0 relation d.0) (follows-Related ds at (form_add e.0) (form_add d.0) relation (add_term e.0) (add_term d.0) e.1 d.1))
case_compare ds (CompareTree-F.Member at e d) = subst (λ t. Follows ds (form_compare t) (walk ds (compare_term t))) (sym (compares.rolls-Member at e.0 d.0)) (by-both ds (form_compare (compares.Member at e.0 d.0)) _ (compare_term (compares.Member at e.0 d.0)) _ (form_is.form_compare-Member at e.0 d.0) (term_is.compare_term-Member at e.0 d.0) (follows-Member ds at (form_add e.0) (form_set d.0) (add_term e.0) (set_term d.0) e.1 d.1))

last-follows : (ds : List DeclTree) (steps : List (In_mul_step ds)) (last : Option (In_last_step ds)) →
    FollowEach ds (map form_mul_step (map (λ e. e.0) steps) ++ forms.or_none (option_map form_last_step (option_map (λ e. e.0) last))) (map (walk_step ds) (map mul_step_of (map (λ e. e.0) steps) ++ says.or_none (option_map last_step_of (option_map (λ e. e.0) last))))
last-follows ds [] None = tt
last-follows ds [] (Some e) = (e.1, tt)
last-follows ds (e ∷ es) last = (e.1, last-follows ds es last)

case_mul : (ds : List DeclTree) (y : MulTree-F (In_compare ds) (In_mul ds) (In_neg ds) (In_open ds) (In_prim ds) (In_sign ds) (In_suffix ds) (In_add_step ds) (In_add ds) (In_and ds) (In_expr ds) (In_group_step ds) (In_group ds) (In_imp ds) (In_keyed ds) (In_last_step ds) (In_mul_step ds) (In_or ds) (In_params ds) (In_post ds) (In_set ds) (In_subscripts ds)) → Follows ds (form_mul (roll-MulTree (inner_mul ds y))) (walk ds (mul_term (roll-MulTree (inner_mul ds y))))
case_mul ds (MulTree-F.Opened e) = subst (λ t. Follows ds (form_mul t) (walk ds (mul_term t))) (sym (muls.rolls-Opened e.0)) (by-both ds (form_mul (muls.Opened e.0)) _ (mul_term (muls.Opened e.0)) _ (form_is.form_mul-Opened e.0) (term_is.mul_term-Opened e.0) (e.1))
case_mul ds (MulTree-F.Product at e steps None) = subst (λ t. Follows ds (form_mul t) (walk ds (mul_term t))) (sym (muls.rolls-Product at e.0 (map (λ e. e.0) steps) None)) (by-both ds (form_mul (muls.Product at e.0 (map (λ e. e.0) steps) None)) _ (mul_term (muls.Product at e.0 (map (λ e. e.0) steps) None)) _ (form_is.form_mul-Product at e.0 (map (λ e. e.0) steps) None) (term_is.mul_term-Product at e.0 (map (λ e. e.0) steps) None) (follows-chain ds at (form_sign e.0) _ (sign_term e.0) _ e.1 (last-follows ds steps None)))
case_mul ds (MulTree-F.Product at e steps (Some d)) = subst (λ t. Follows ds (form_mul t) (walk ds (mul_term t))) (sym (muls.rolls-Product at e.0 (map (λ e. e.0) steps) (Some d.0))) (by-both ds (form_mul (muls.Product at e.0 (map (λ e. e.0) steps) (Some d.0))) _ (mul_term (muls.Product at e.0 (map (λ e. e.0) steps) (Some d.0))) _ (form_is.form_mul-Product at e.0 (map (λ e. e.0) steps) (Some d.0)) (term_is.mul_term-Product at e.0 (map (λ e. e.0) steps) (Some d.0)) (follows-chain ds at (form_sign e.0) _ (sign_term e.0) _ e.1 (last-follows ds steps (Some d))))

case_open : (ds : List DeclTree) (y : OpenTree-F (In_compare ds) (In_mul ds) (In_neg ds) (In_open ds) (In_prim ds) (In_sign ds) (In_suffix ds) (In_add_step ds) (In_add ds) (In_and ds) (In_expr ds) (In_group_step ds) (In_group ds) (In_imp ds) (In_keyed ds) (In_last_step ds) (In_mul_step ds) (In_or ds) (In_params ds) (In_post ds) (In_set ds) (In_subscripts ds)) → Follows ds (form_open (roll-OpenTree (inner_open ds y))) (walk ds (open_term (roll-OpenTree (inner_open ds y))))
case_open ds (OpenTree-F.NegativeOpen at e) = subst (λ t. Follows ds (form_open t) (walk ds (open_term t))) (sym (opens.rolls-NegativeOpen at e.0)) (by-both ds (form_open (opens.NegativeOpen at e.0)) _ (open_term (opens.NegativeOpen at e.0)) _ (form_is.form_open-NegativeOpen at e.0) (term_is.open_term-NegativeOpen at e.0) (follows-Negative ds at (form_open e.0) (open_term e.0) e.1))
case_open ds (OpenTree-F.Aggregate at op e d) = subst (λ t. Follows ds (form_open t) (walk ds (open_term t))) (sym (opens.rolls-Aggregate at op e.0 d.0)) (by-both ds (form_open (opens.Aggregate at op e.0 d.0)) _ (open_term (opens.Aggregate at op e.0 d.0)) _ (form_is.form_open-Aggregate at op e.0 d.0) (term_is.open_term-Aggregate at op e.0 d.0) (follows-Aggregate ds at op (form_params e.0) (form_mul d.0) (params_term e.0).groups (params_term e.0).condition (mul_term d.0) e.1 d.1))

case_sign : (ds : List DeclTree) (y : SignTree-F (In_compare ds) (In_mul ds) (In_neg ds) (In_open ds) (In_prim ds) (In_sign ds) (In_suffix ds) (In_add_step ds) (In_add ds) (In_and ds) (In_expr ds) (In_group_step ds) (In_group ds) (In_imp ds) (In_keyed ds) (In_last_step ds) (In_mul_step ds) (In_or ds) (In_params ds) (In_post ds) (In_set ds) (In_subscripts ds)) → Follows ds (form_sign (roll-SignTree (inner_sign ds y))) (walk ds (sign_term (roll-SignTree (inner_sign ds y))))
case_sign ds (SignTree-F.Negative at e) = subst (λ t. Follows ds (form_sign t) (walk ds (sign_term t))) (sym (signs.rolls-Negative at e.0)) (by-both ds (form_sign (signs.Negative at e.0)) _ (sign_term (signs.Negative at e.0)) _ (form_is.form_sign-Negative at e.0) (term_is.sign_term-Negative at e.0) (follows-Negative ds at (form_sign e.0) (sign_term e.0) e.1))
case_sign ds (SignTree-F.Postfix e) = subst (λ t. Follows ds (form_sign t) (walk ds (sign_term t))) (sym (signs.rolls-Postfix e.0)) (by-both ds (form_sign (signs.Postfix e.0)) _ (sign_term (signs.Postfix e.0)) _ (form_is.form_sign-Postfix e.0) (term_is.sign_term-Postfix e.0) (e.1))

text-is : (name : NameTree) → text_of name ≡ name.text
unfolding text_of
text-is name = refl

case_suffix : (ds : List DeclTree) (y : SuffixTree-F (In_compare ds) (In_mul ds) (In_neg ds) (In_open ds) (In_prim ds) (In_sign ds) (In_suffix ds) (In_add_step ds) (In_add ds) (In_and ds) (In_expr ds) (In_group_step ds) (In_group ds) (In_imp ds) (In_keyed ds) (In_last_step ds) (In_mul_step ds) (In_or ds) (In_params ds) (In_post ds) (In_set ds) (In_subscripts ds)) → FollowsSuffix ds (roll-SuffixTree (inner_suffix ds y))
case_suffix ds (SuffixTree-F.Subscripts e) = subst (λ t. FollowsSuffix ds t) (sym (suffixes.rolls-Subscripts e.0)) (λ at f u names p. record {
  base = terms.Element at (says.with_fields at u names) (subscripts_terms e.0);
  fields = [];
  goes_on = λ ss. ap (λ x. says.with_suffixes at u names (x ∷ map suffix_of ss)) (term_is.suffix_of-Subscripts e.0);
  follows = by-both ds _ (forms.with_suffix at f (subscripts (form_subscripts e.0))) (terms.Element at (says.with_fields at u names) (subscripts_terms e.0)) _ (ap (forms.with_suffix at f) (form_is.form_suffix-Subscripts e.0)) refl (follows-Element ds at f (form_subscripts e.0) (says.with_fields at u names) (subscripts_terms e.0) p e.1);
})
case_suffix ds (SuffixTree-F.Field place name) = subst (λ t. FollowsSuffix ds t) (sym (suffixes.rolls-Field place name)) (λ at f u names p. record {
  base = u;
  fields = names ++ says.field_name name ∷ [];
  goes_on = λ ss. ap (λ x. says.with_suffixes at u names (x ∷ map suffix_of ss)) (term_is.suffix_of-Field place name);
  follows = by-both ds _ (forms.with_suffix at f (field_of name)) (says.with_fields at u (names ++ says.field_name name ∷ [])) (says.with_fields at u (names ++ record { at = name.at; text = name.text } ∷ [])) (ap (forms.with_suffix at f) (form_is.form_suffix-Field place name)) (ap (λ l. says.with_fields at u (names ++ record { at = name.at; text = l } ∷ [])) (text-is name)) (follows-Field ds at f name u names p);
})

case_prim : (ds : List DeclTree) (y : PrimTree-F (In_compare ds) (In_mul ds) (In_neg ds) (In_open ds) (In_prim ds) (In_sign ds) (In_suffix ds) (In_add_step ds) (In_add ds) (In_and ds) (In_expr ds) (In_group_step ds) (In_group ds) (In_imp ds) (In_keyed ds) (In_last_step ds) (In_mul_step ds) (In_or ds) (In_params ds) (In_post ds) (In_set ds) (In_subscripts ds)) → Follows ds (form_prim (roll-PrimTree (inner_prim ds y))) (walk ds (prim_term (roll-PrimTree (inner_prim ds y))))
case_prim ds (PrimTree-F.Number at n) = subst (λ t. Follows ds (form_prim t) (walk ds (prim_term t))) (sym (prims.rolls-Number at n)) (by-both ds (form_prim (prims.Number at n)) _ (prim_term (prims.Number at n)) _ (form_is.form_prim-Number at n) (term_is.prim_term-Number at n) (follows-Number ds at (terms.Number at n) (walk-Number ds at n)))
case_prim ds (PrimTree-F.Named name) = subst (λ t. Follows ds (form_prim t) (walk ds (prim_term t))) (sym (prims.rolls-Named name)) (by-both ds (form_prim (prims.Named name)) _ (prim_term (prims.Named name)) _ (form_is.form_prim-Named name) (term_is.prim_term-Named name) (follows-Named ds name name.at (text_of name)))
case_prim ds (PrimTree-F.Bracket at e) = subst (λ t. Follows ds (form_prim t) (walk ds (prim_term t))) (sym (prims.rolls-Bracket at e.0)) (by-both ds (form_prim (prims.Bracket at e.0)) _ (prim_term (prims.Bracket at e.0)) _ (form_is.form_prim-Bracket at e.0) (term_is.prim_term-Bracket at e.0) (follows-Bracket ds at (form_expr e.0) (expr_term e.0) e.1))
case_prim ds (PrimTree-F.Record at e es) = subst (λ t. Follows ds (form_prim t) (walk ds (prim_term t))) (sym (prims.rolls-Record at e.0 (map (λ e. e.0) es))) (by-both ds (form_prim (prims.Record at e.0 (map (λ e. e.0) es))) _ (prim_term (prims.Record at e.0 (map (λ e. e.0) es))) _ (form_is.form_prim-Record at e.0 (map (λ e. e.0) es)) (term_is.prim_term-Record at e.0 (map (λ e. e.0) es)) (follows-Record ds at (form_add e.0 ∷ map form_add (map (λ e. e.0) es)) (add_term e.0 ∷ map add_term (map (λ e. e.0) es)) (e.1, terms-follow ds form_add add_term es)))
case_prim ds (PrimTree-F.Listed at es) = subst (λ t. Follows ds (form_prim t) (walk ds (prim_term t))) (sym (prims.rolls-Listed at (map (λ e. e.0) es))) (by-both ds (form_prim (prims.Listed at (map (λ e. e.0) es))) _ (prim_term (prims.Listed at (map (λ e. e.0) es))) _ (form_is.form_prim-Listed at (map (λ e. e.0) es)) (term_is.prim_term-Listed at (map (λ e. e.0) es)) (follows-Listed ds at _ (map add_term (map (λ e. e.0) es)) (terms-follow ds form_add add_term es)))
case_prim ds (PrimTree-F.Described at e d) = subst (λ t. Follows ds (form_prim t) (walk ds (prim_term t))) (sym (prims.rolls-Described at e.0 d.0)) (by-both ds (form_prim (prims.Described at e.0 d.0)) _ (prim_term (prims.Described at e.0 d.0)) _ (form_is.form_prim-Described at e.0 d.0) (term_is.prim_term-Described at e.0 d.0) (follows-Described ds at (form_add e.0) (form_params d.0) (add_term e.0) (params_term d.0).groups (params_term d.0).condition e.1 d.1))
case_prim ds (PrimTree-F.Array at es) = subst (λ t. Follows ds (form_prim t) (walk ds (prim_term t))) (sym (prims.rolls-Array at (map (λ e. e.0) es))) (by-both ds (form_prim (prims.Array at (map (λ e. e.0) es))) _ (prim_term (prims.Array at (map (λ e. e.0) es))) _ (form_is.form_prim-Array at (map (λ e. e.0) es)) (term_is.prim_term-Array at (map (λ e. e.0) es)) (follows-Array ds at _ (map add_term (map (λ e. e.0) es)) (terms-follow ds form_add add_term es)))
case_prim ds (PrimTree-F.KeyedArray at es) = subst (λ t. Follows ds (form_prim t) (walk ds (prim_term t))) (sym (prims.rolls-KeyedArray at (map (λ e. e.0) es))) (by-both ds (form_prim (prims.KeyedArray at (map (λ e. e.0) es))) _ (prim_term (prims.KeyedArray at (map (λ e. e.0) es))) _ (form_is.form_prim-KeyedArray at (map (λ e. e.0) es)) (term_is.prim_term-KeyedArray at (map (λ e. e.0) es)) (follows-KeyedArray ds at (map form_keyed (map (λ e. e.0) es)) _ _ (pairs-follow ds form_keyed keyed_pair es)))
case_prim ds (PrimTree-F.Call at op e) = subst (λ t. Follows ds (form_prim t) (walk ds (prim_term t))) (sym (prims.rolls-Call at op e.0)) (by-both ds (form_prim (prims.Call at op e.0)) _ (prim_term (prims.Call at op e.0)) _ (form_is.form_prim-Call at op e.0) (term_is.prim_term-Call at op e.0) (follows-Call ds op at (form_expr e.0) (expr_term e.0) e.1))
case_prim ds (PrimTree-F.AllDifferent at e) = subst (λ t. Follows ds (form_prim t) (walk ds (prim_term t))) (sym (prims.rolls-AllDifferent at e.0)) (by-both ds (form_prim (prims.AllDifferent at e.0)) _ (prim_term (prims.AllDifferent at e.0)) _ (form_is.form_prim-AllDifferent at e.0) (term_is.prim_term-AllDifferent at e.0) (follows-AllDifferent ds at (form_add e.0) (add_term e.0) e.1))
case_prim ds (PrimTree-F.Question at op e) = subst (λ t. Follows ds (form_prim t) (walk ds (prim_term t))) (sym (prims.rolls-Question at op e.0)) (by-both ds (form_prim (prims.Question at op e.0)) _ (prim_term (prims.Question at op e.0)) _ (form_is.form_prim-Question at op e.0) (term_is.prim_term-Question at op e.0) (follows-Question ds at op (form_post e.0) (post_term e.0) e.1))

-- ---- each tree

pub follows-expr : (ds : List DeclTree) (t : ExprTree) → Follows ds (form_expr t) (walk ds (expr_term t))
follows-expr ds = ind-ExprTree (λ t. Follows ds (form_compare t) (walk ds (compare_term t))) (λ t. Follows ds (form_mul t) (walk ds (mul_term t))) (λ t. Follows ds (form_neg t) (walk ds (neg_term t))) (λ t. Follows ds (form_open t) (walk ds (open_term t))) (λ t. Follows ds (form_prim t) (walk ds (prim_term t))) (λ t. Follows ds (form_sign t) (walk ds (sign_term t))) (λ t. FollowsSuffix ds t) (λ t. Follows ds (form_add_step t) (walk_step ds (add_step_of t))) (λ t. Follows ds (form_add t) (walk ds (add_term t))) (λ t. Follows ds (form_and t) (walk ds (and_term t))) (λ t. Follows ds (form_expr t) (walk ds (expr_term t))) (λ t. FollowsSet ds (form_group_step t).over (walk_group ds (group_step_term t))) (λ t. FollowsSet ds (form_group t).over (walk_group ds (group_term t))) (λ t. Follows ds (form_imp t) (walk ds (imp_term t))) (λ t. FollowsPair ds (form_keyed t).key (form_keyed t).cell (walk ds (keyed_pair t).key) (walk ds (keyed_pair t).cell)) (λ t. Follows ds (form_last_step t) (walk_step ds (last_step_of t))) (λ t. Follows ds (form_mul_step t) (walk_step ds (mul_step_of t))) (λ t. Follows ds (form_or t) (walk ds (or_term t))) (λ t. FollowsParams ds (form_params t) (λ s. if_written (option_map (walk ds) (params_term t).condition) (each (map (walk_group ds) (params_term t).groups) s))) (λ t. Follows ds (form_post t) (walk ds (post_term t))) (λ t. FollowsSet ds (form_set t) (walk_set ds (set_term t))) (λ t. FollowEach ds (form_subscripts t) (map (walk ds) (subscripts_terms t)))
    (λ x y is. subst (λ z. Follows ds (form_compare (roll-CompareTree z)) (walk ds (compare_term (roll-CompareTree z)))) is (case_compare ds y))
    (λ x y is. subst (λ z. Follows ds (form_mul (roll-MulTree z)) (walk ds (mul_term (roll-MulTree z)))) is (case_mul ds y))
    (λ x y is. subst (λ z. Follows ds (form_neg (roll-NegTree z)) (walk ds (neg_term (roll-NegTree z)))) is (case_neg ds y))
    (λ x y is. subst (λ z. Follows ds (form_open (roll-OpenTree z)) (walk ds (open_term (roll-OpenTree z)))) is (case_open ds y))
    (λ x y is. subst (λ z. Follows ds (form_prim (roll-PrimTree z)) (walk ds (prim_term (roll-PrimTree z)))) is (case_prim ds y))
    (λ x y is. subst (λ z. Follows ds (form_sign (roll-SignTree z)) (walk ds (sign_term (roll-SignTree z)))) is (case_sign ds y))
    (λ x y is. subst (λ z. FollowsSuffix ds (roll-SuffixTree z)) is (case_suffix ds y))
    (λ x y is. subst (λ z. Follows ds (form_add_step (roll-AddStep z)) (walk_step ds (add_step_of (roll-AddStep z)))) is (case_add_step ds y))
    (λ x y is. subst (λ z. Follows ds (form_add (roll-AddTree z)) (walk ds (add_term (roll-AddTree z)))) is (case_add ds y))
    (λ x y is. subst (λ z. Follows ds (form_and (roll-AndTree z)) (walk ds (and_term (roll-AndTree z)))) is (case_and ds y))
    (λ x y is. subst (λ z. Follows ds (form_expr (roll-ExprTree z)) (walk ds (expr_term (roll-ExprTree z)))) is (case_expr ds y))
    (λ x y is. subst (λ z. FollowsSet ds (form_group_step (roll-GroupStep z)).over (walk_group ds (group_step_term (roll-GroupStep z)))) is (case_group_step ds y))
    (λ x y is. subst (λ z. FollowsSet ds (form_group (roll-GroupTree z)).over (walk_group ds (group_term (roll-GroupTree z)))) is (case_group ds y))
    (λ x y is. subst (λ z. Follows ds (form_imp (roll-ImpTree z)) (walk ds (imp_term (roll-ImpTree z)))) is (case_imp ds y))
    (λ x y is. subst (λ z. FollowsPair ds (form_keyed (roll-KeyedTree z)).key (form_keyed (roll-KeyedTree z)).cell (walk ds (keyed_pair (roll-KeyedTree z)).key) (walk ds (keyed_pair (roll-KeyedTree z)).cell)) is (case_keyed ds y))
    (λ x y is. subst (λ z. Follows ds (form_last_step (roll-LastStep z)) (walk_step ds (last_step_of (roll-LastStep z)))) is (case_last_step ds y))
    (λ x y is. subst (λ z. Follows ds (form_mul_step (roll-MulStep z)) (walk_step ds (mul_step_of (roll-MulStep z)))) is (case_mul_step ds y))
    (λ x y is. subst (λ z. Follows ds (form_or (roll-OrTree z)) (walk ds (or_term (roll-OrTree z)))) is (case_or ds y))
    (λ x y is. subst (λ z. FollowsParams ds (form_params (roll-ParamsTree z)) (λ s. if_written (option_map (walk ds) (params_term (roll-ParamsTree z)).condition) (each (map (walk_group ds) (params_term (roll-ParamsTree z)).groups) s))) is (case_params ds y))
    (λ x y is. subst (λ z. Follows ds (form_post (roll-PostTree z)) (walk ds (post_term (roll-PostTree z)))) is (case_post ds y))
    (λ x y is. subst (λ z. FollowsSet ds (form_set (roll-SetTree z)) (walk_set ds (set_term (roll-SetTree z)))) is (case_set ds y))
    (λ x y is. subst (λ z. FollowEach ds (form_subscripts (roll-SubscriptsTree z)) (map (walk ds) (subscripts_terms (roll-SubscriptsTree z)))) is (case_subscripts ds y))

pub follows-add : (ds : List DeclTree) (t : AddTree) → Follows ds (form_add t) (walk ds (add_term t))
follows-add ds = ind-AddTree (λ t. Follows ds (form_compare t) (walk ds (compare_term t))) (λ t. Follows ds (form_mul t) (walk ds (mul_term t))) (λ t. Follows ds (form_neg t) (walk ds (neg_term t))) (λ t. Follows ds (form_open t) (walk ds (open_term t))) (λ t. Follows ds (form_prim t) (walk ds (prim_term t))) (λ t. Follows ds (form_sign t) (walk ds (sign_term t))) (λ t. FollowsSuffix ds t) (λ t. Follows ds (form_add_step t) (walk_step ds (add_step_of t))) (λ t. Follows ds (form_add t) (walk ds (add_term t))) (λ t. Follows ds (form_and t) (walk ds (and_term t))) (λ t. Follows ds (form_expr t) (walk ds (expr_term t))) (λ t. FollowsSet ds (form_group_step t).over (walk_group ds (group_step_term t))) (λ t. FollowsSet ds (form_group t).over (walk_group ds (group_term t))) (λ t. Follows ds (form_imp t) (walk ds (imp_term t))) (λ t. FollowsPair ds (form_keyed t).key (form_keyed t).cell (walk ds (keyed_pair t).key) (walk ds (keyed_pair t).cell)) (λ t. Follows ds (form_last_step t) (walk_step ds (last_step_of t))) (λ t. Follows ds (form_mul_step t) (walk_step ds (mul_step_of t))) (λ t. Follows ds (form_or t) (walk ds (or_term t))) (λ t. FollowsParams ds (form_params t) (λ s. if_written (option_map (walk ds) (params_term t).condition) (each (map (walk_group ds) (params_term t).groups) s))) (λ t. Follows ds (form_post t) (walk ds (post_term t))) (λ t. FollowsSet ds (form_set t) (walk_set ds (set_term t))) (λ t. FollowEach ds (form_subscripts t) (map (walk ds) (subscripts_terms t)))
    (λ x y is. subst (λ z. Follows ds (form_compare (roll-CompareTree z)) (walk ds (compare_term (roll-CompareTree z)))) is (case_compare ds y))
    (λ x y is. subst (λ z. Follows ds (form_mul (roll-MulTree z)) (walk ds (mul_term (roll-MulTree z)))) is (case_mul ds y))
    (λ x y is. subst (λ z. Follows ds (form_neg (roll-NegTree z)) (walk ds (neg_term (roll-NegTree z)))) is (case_neg ds y))
    (λ x y is. subst (λ z. Follows ds (form_open (roll-OpenTree z)) (walk ds (open_term (roll-OpenTree z)))) is (case_open ds y))
    (λ x y is. subst (λ z. Follows ds (form_prim (roll-PrimTree z)) (walk ds (prim_term (roll-PrimTree z)))) is (case_prim ds y))
    (λ x y is. subst (λ z. Follows ds (form_sign (roll-SignTree z)) (walk ds (sign_term (roll-SignTree z)))) is (case_sign ds y))
    (λ x y is. subst (λ z. FollowsSuffix ds (roll-SuffixTree z)) is (case_suffix ds y))
    (λ x y is. subst (λ z. Follows ds (form_add_step (roll-AddStep z)) (walk_step ds (add_step_of (roll-AddStep z)))) is (case_add_step ds y))
    (λ x y is. subst (λ z. Follows ds (form_add (roll-AddTree z)) (walk ds (add_term (roll-AddTree z)))) is (case_add ds y))
    (λ x y is. subst (λ z. Follows ds (form_and (roll-AndTree z)) (walk ds (and_term (roll-AndTree z)))) is (case_and ds y))
    (λ x y is. subst (λ z. Follows ds (form_expr (roll-ExprTree z)) (walk ds (expr_term (roll-ExprTree z)))) is (case_expr ds y))
    (λ x y is. subst (λ z. FollowsSet ds (form_group_step (roll-GroupStep z)).over (walk_group ds (group_step_term (roll-GroupStep z)))) is (case_group_step ds y))
    (λ x y is. subst (λ z. FollowsSet ds (form_group (roll-GroupTree z)).over (walk_group ds (group_term (roll-GroupTree z)))) is (case_group ds y))
    (λ x y is. subst (λ z. Follows ds (form_imp (roll-ImpTree z)) (walk ds (imp_term (roll-ImpTree z)))) is (case_imp ds y))
    (λ x y is. subst (λ z. FollowsPair ds (form_keyed (roll-KeyedTree z)).key (form_keyed (roll-KeyedTree z)).cell (walk ds (keyed_pair (roll-KeyedTree z)).key) (walk ds (keyed_pair (roll-KeyedTree z)).cell)) is (case_keyed ds y))
    (λ x y is. subst (λ z. Follows ds (form_last_step (roll-LastStep z)) (walk_step ds (last_step_of (roll-LastStep z)))) is (case_last_step ds y))
    (λ x y is. subst (λ z. Follows ds (form_mul_step (roll-MulStep z)) (walk_step ds (mul_step_of (roll-MulStep z)))) is (case_mul_step ds y))
    (λ x y is. subst (λ z. Follows ds (form_or (roll-OrTree z)) (walk ds (or_term (roll-OrTree z)))) is (case_or ds y))
    (λ x y is. subst (λ z. FollowsParams ds (form_params (roll-ParamsTree z)) (λ s. if_written (option_map (walk ds) (params_term (roll-ParamsTree z)).condition) (each (map (walk_group ds) (params_term (roll-ParamsTree z)).groups) s))) is (case_params ds y))
    (λ x y is. subst (λ z. Follows ds (form_post (roll-PostTree z)) (walk ds (post_term (roll-PostTree z)))) is (case_post ds y))
    (λ x y is. subst (λ z. FollowsSet ds (form_set (roll-SetTree z)) (walk_set ds (set_term (roll-SetTree z)))) is (case_set ds y))
    (λ x y is. subst (λ z. FollowEach ds (form_subscripts (roll-SubscriptsTree z)) (map (walk ds) (subscripts_terms (roll-SubscriptsTree z)))) is (case_subscripts ds y))

pub follows-post : (ds : List DeclTree) (t : PostTree) → Follows ds (form_post t) (walk ds (post_term t))
follows-post ds = ind-PostTree (λ t. Follows ds (form_compare t) (walk ds (compare_term t))) (λ t. Follows ds (form_mul t) (walk ds (mul_term t))) (λ t. Follows ds (form_neg t) (walk ds (neg_term t))) (λ t. Follows ds (form_open t) (walk ds (open_term t))) (λ t. Follows ds (form_prim t) (walk ds (prim_term t))) (λ t. Follows ds (form_sign t) (walk ds (sign_term t))) (λ t. FollowsSuffix ds t) (λ t. Follows ds (form_add_step t) (walk_step ds (add_step_of t))) (λ t. Follows ds (form_add t) (walk ds (add_term t))) (λ t. Follows ds (form_and t) (walk ds (and_term t))) (λ t. Follows ds (form_expr t) (walk ds (expr_term t))) (λ t. FollowsSet ds (form_group_step t).over (walk_group ds (group_step_term t))) (λ t. FollowsSet ds (form_group t).over (walk_group ds (group_term t))) (λ t. Follows ds (form_imp t) (walk ds (imp_term t))) (λ t. FollowsPair ds (form_keyed t).key (form_keyed t).cell (walk ds (keyed_pair t).key) (walk ds (keyed_pair t).cell)) (λ t. Follows ds (form_last_step t) (walk_step ds (last_step_of t))) (λ t. Follows ds (form_mul_step t) (walk_step ds (mul_step_of t))) (λ t. Follows ds (form_or t) (walk ds (or_term t))) (λ t. FollowsParams ds (form_params t) (λ s. if_written (option_map (walk ds) (params_term t).condition) (each (map (walk_group ds) (params_term t).groups) s))) (λ t. Follows ds (form_post t) (walk ds (post_term t))) (λ t. FollowsSet ds (form_set t) (walk_set ds (set_term t))) (λ t. FollowEach ds (form_subscripts t) (map (walk ds) (subscripts_terms t)))
    (λ x y is. subst (λ z. Follows ds (form_compare (roll-CompareTree z)) (walk ds (compare_term (roll-CompareTree z)))) is (case_compare ds y))
    (λ x y is. subst (λ z. Follows ds (form_mul (roll-MulTree z)) (walk ds (mul_term (roll-MulTree z)))) is (case_mul ds y))
    (λ x y is. subst (λ z. Follows ds (form_neg (roll-NegTree z)) (walk ds (neg_term (roll-NegTree z)))) is (case_neg ds y))
    (λ x y is. subst (λ z. Follows ds (form_open (roll-OpenTree z)) (walk ds (open_term (roll-OpenTree z)))) is (case_open ds y))
    (λ x y is. subst (λ z. Follows ds (form_prim (roll-PrimTree z)) (walk ds (prim_term (roll-PrimTree z)))) is (case_prim ds y))
    (λ x y is. subst (λ z. Follows ds (form_sign (roll-SignTree z)) (walk ds (sign_term (roll-SignTree z)))) is (case_sign ds y))
    (λ x y is. subst (λ z. FollowsSuffix ds (roll-SuffixTree z)) is (case_suffix ds y))
    (λ x y is. subst (λ z. Follows ds (form_add_step (roll-AddStep z)) (walk_step ds (add_step_of (roll-AddStep z)))) is (case_add_step ds y))
    (λ x y is. subst (λ z. Follows ds (form_add (roll-AddTree z)) (walk ds (add_term (roll-AddTree z)))) is (case_add ds y))
    (λ x y is. subst (λ z. Follows ds (form_and (roll-AndTree z)) (walk ds (and_term (roll-AndTree z)))) is (case_and ds y))
    (λ x y is. subst (λ z. Follows ds (form_expr (roll-ExprTree z)) (walk ds (expr_term (roll-ExprTree z)))) is (case_expr ds y))
    (λ x y is. subst (λ z. FollowsSet ds (form_group_step (roll-GroupStep z)).over (walk_group ds (group_step_term (roll-GroupStep z)))) is (case_group_step ds y))
    (λ x y is. subst (λ z. FollowsSet ds (form_group (roll-GroupTree z)).over (walk_group ds (group_term (roll-GroupTree z)))) is (case_group ds y))
    (λ x y is. subst (λ z. Follows ds (form_imp (roll-ImpTree z)) (walk ds (imp_term (roll-ImpTree z)))) is (case_imp ds y))
    (λ x y is. subst (λ z. FollowsPair ds (form_keyed (roll-KeyedTree z)).key (form_keyed (roll-KeyedTree z)).cell (walk ds (keyed_pair (roll-KeyedTree z)).key) (walk ds (keyed_pair (roll-KeyedTree z)).cell)) is (case_keyed ds y))
    (λ x y is. subst (λ z. Follows ds (form_last_step (roll-LastStep z)) (walk_step ds (last_step_of (roll-LastStep z)))) is (case_last_step ds y))
    (λ x y is. subst (λ z. Follows ds (form_mul_step (roll-MulStep z)) (walk_step ds (mul_step_of (roll-MulStep z)))) is (case_mul_step ds y))
    (λ x y is. subst (λ z. Follows ds (form_or (roll-OrTree z)) (walk ds (or_term (roll-OrTree z)))) is (case_or ds y))
    (λ x y is. subst (λ z. FollowsParams ds (form_params (roll-ParamsTree z)) (λ s. if_written (option_map (walk ds) (params_term (roll-ParamsTree z)).condition) (each (map (walk_group ds) (params_term (roll-ParamsTree z)).groups) s))) is (case_params ds y))
    (λ x y is. subst (λ z. Follows ds (form_post (roll-PostTree z)) (walk ds (post_term (roll-PostTree z)))) is (case_post ds y))
    (λ x y is. subst (λ z. FollowsSet ds (form_set (roll-SetTree z)) (walk_set ds (set_term (roll-SetTree z)))) is (case_set ds y))
    (λ x y is. subst (λ z. FollowEach ds (form_subscripts (roll-SubscriptsTree z)) (map (walk ds) (subscripts_terms (roll-SubscriptsTree z)))) is (case_subscripts ds y))

pub follows-set : (ds : List DeclTree) (t : SetTree) → FollowsSet ds (form_set t) (walk_set ds (set_term t))
follows-set ds = ind-SetTree (λ t. Follows ds (form_compare t) (walk ds (compare_term t))) (λ t. Follows ds (form_mul t) (walk ds (mul_term t))) (λ t. Follows ds (form_neg t) (walk ds (neg_term t))) (λ t. Follows ds (form_open t) (walk ds (open_term t))) (λ t. Follows ds (form_prim t) (walk ds (prim_term t))) (λ t. Follows ds (form_sign t) (walk ds (sign_term t))) (λ t. FollowsSuffix ds t) (λ t. Follows ds (form_add_step t) (walk_step ds (add_step_of t))) (λ t. Follows ds (form_add t) (walk ds (add_term t))) (λ t. Follows ds (form_and t) (walk ds (and_term t))) (λ t. Follows ds (form_expr t) (walk ds (expr_term t))) (λ t. FollowsSet ds (form_group_step t).over (walk_group ds (group_step_term t))) (λ t. FollowsSet ds (form_group t).over (walk_group ds (group_term t))) (λ t. Follows ds (form_imp t) (walk ds (imp_term t))) (λ t. FollowsPair ds (form_keyed t).key (form_keyed t).cell (walk ds (keyed_pair t).key) (walk ds (keyed_pair t).cell)) (λ t. Follows ds (form_last_step t) (walk_step ds (last_step_of t))) (λ t. Follows ds (form_mul_step t) (walk_step ds (mul_step_of t))) (λ t. Follows ds (form_or t) (walk ds (or_term t))) (λ t. FollowsParams ds (form_params t) (λ s. if_written (option_map (walk ds) (params_term t).condition) (each (map (walk_group ds) (params_term t).groups) s))) (λ t. Follows ds (form_post t) (walk ds (post_term t))) (λ t. FollowsSet ds (form_set t) (walk_set ds (set_term t))) (λ t. FollowEach ds (form_subscripts t) (map (walk ds) (subscripts_terms t)))
    (λ x y is. subst (λ z. Follows ds (form_compare (roll-CompareTree z)) (walk ds (compare_term (roll-CompareTree z)))) is (case_compare ds y))
    (λ x y is. subst (λ z. Follows ds (form_mul (roll-MulTree z)) (walk ds (mul_term (roll-MulTree z)))) is (case_mul ds y))
    (λ x y is. subst (λ z. Follows ds (form_neg (roll-NegTree z)) (walk ds (neg_term (roll-NegTree z)))) is (case_neg ds y))
    (λ x y is. subst (λ z. Follows ds (form_open (roll-OpenTree z)) (walk ds (open_term (roll-OpenTree z)))) is (case_open ds y))
    (λ x y is. subst (λ z. Follows ds (form_prim (roll-PrimTree z)) (walk ds (prim_term (roll-PrimTree z)))) is (case_prim ds y))
    (λ x y is. subst (λ z. Follows ds (form_sign (roll-SignTree z)) (walk ds (sign_term (roll-SignTree z)))) is (case_sign ds y))
    (λ x y is. subst (λ z. FollowsSuffix ds (roll-SuffixTree z)) is (case_suffix ds y))
    (λ x y is. subst (λ z. Follows ds (form_add_step (roll-AddStep z)) (walk_step ds (add_step_of (roll-AddStep z)))) is (case_add_step ds y))
    (λ x y is. subst (λ z. Follows ds (form_add (roll-AddTree z)) (walk ds (add_term (roll-AddTree z)))) is (case_add ds y))
    (λ x y is. subst (λ z. Follows ds (form_and (roll-AndTree z)) (walk ds (and_term (roll-AndTree z)))) is (case_and ds y))
    (λ x y is. subst (λ z. Follows ds (form_expr (roll-ExprTree z)) (walk ds (expr_term (roll-ExprTree z)))) is (case_expr ds y))
    (λ x y is. subst (λ z. FollowsSet ds (form_group_step (roll-GroupStep z)).over (walk_group ds (group_step_term (roll-GroupStep z)))) is (case_group_step ds y))
    (λ x y is. subst (λ z. FollowsSet ds (form_group (roll-GroupTree z)).over (walk_group ds (group_term (roll-GroupTree z)))) is (case_group ds y))
    (λ x y is. subst (λ z. Follows ds (form_imp (roll-ImpTree z)) (walk ds (imp_term (roll-ImpTree z)))) is (case_imp ds y))
    (λ x y is. subst (λ z. FollowsPair ds (form_keyed (roll-KeyedTree z)).key (form_keyed (roll-KeyedTree z)).cell (walk ds (keyed_pair (roll-KeyedTree z)).key) (walk ds (keyed_pair (roll-KeyedTree z)).cell)) is (case_keyed ds y))
    (λ x y is. subst (λ z. Follows ds (form_last_step (roll-LastStep z)) (walk_step ds (last_step_of (roll-LastStep z)))) is (case_last_step ds y))
    (λ x y is. subst (λ z. Follows ds (form_mul_step (roll-MulStep z)) (walk_step ds (mul_step_of (roll-MulStep z)))) is (case_mul_step ds y))
    (λ x y is. subst (λ z. Follows ds (form_or (roll-OrTree z)) (walk ds (or_term (roll-OrTree z)))) is (case_or ds y))
    (λ x y is. subst (λ z. FollowsParams ds (form_params (roll-ParamsTree z)) (λ s. if_written (option_map (walk ds) (params_term (roll-ParamsTree z)).condition) (each (map (walk_group ds) (params_term (roll-ParamsTree z)).groups) s))) is (case_params ds y))
    (λ x y is. subst (λ z. Follows ds (form_post (roll-PostTree z)) (walk ds (post_term (roll-PostTree z)))) is (case_post ds y))
    (λ x y is. subst (λ z. FollowsSet ds (form_set (roll-SetTree z)) (walk_set ds (set_term (roll-SetTree z)))) is (case_set ds y))
    (λ x y is. subst (λ z. FollowEach ds (form_subscripts (roll-SubscriptsTree z)) (map (walk ds) (subscripts_terms (roll-SubscriptsTree z)))) is (case_subscripts ds y))

pub follows-params : (ds : List DeclTree) (t : ParamsTree) → FollowsParams ds (form_params t) (λ s. if_written (option_map (walk ds) (params_term t).condition) (each (map (walk_group ds) (params_term t).groups) s))
follows-params ds = ind-ParamsTree (λ t. Follows ds (form_compare t) (walk ds (compare_term t))) (λ t. Follows ds (form_mul t) (walk ds (mul_term t))) (λ t. Follows ds (form_neg t) (walk ds (neg_term t))) (λ t. Follows ds (form_open t) (walk ds (open_term t))) (λ t. Follows ds (form_prim t) (walk ds (prim_term t))) (λ t. Follows ds (form_sign t) (walk ds (sign_term t))) (λ t. FollowsSuffix ds t) (λ t. Follows ds (form_add_step t) (walk_step ds (add_step_of t))) (λ t. Follows ds (form_add t) (walk ds (add_term t))) (λ t. Follows ds (form_and t) (walk ds (and_term t))) (λ t. Follows ds (form_expr t) (walk ds (expr_term t))) (λ t. FollowsSet ds (form_group_step t).over (walk_group ds (group_step_term t))) (λ t. FollowsSet ds (form_group t).over (walk_group ds (group_term t))) (λ t. Follows ds (form_imp t) (walk ds (imp_term t))) (λ t. FollowsPair ds (form_keyed t).key (form_keyed t).cell (walk ds (keyed_pair t).key) (walk ds (keyed_pair t).cell)) (λ t. Follows ds (form_last_step t) (walk_step ds (last_step_of t))) (λ t. Follows ds (form_mul_step t) (walk_step ds (mul_step_of t))) (λ t. Follows ds (form_or t) (walk ds (or_term t))) (λ t. FollowsParams ds (form_params t) (λ s. if_written (option_map (walk ds) (params_term t).condition) (each (map (walk_group ds) (params_term t).groups) s))) (λ t. Follows ds (form_post t) (walk ds (post_term t))) (λ t. FollowsSet ds (form_set t) (walk_set ds (set_term t))) (λ t. FollowEach ds (form_subscripts t) (map (walk ds) (subscripts_terms t)))
    (λ x y is. subst (λ z. Follows ds (form_compare (roll-CompareTree z)) (walk ds (compare_term (roll-CompareTree z)))) is (case_compare ds y))
    (λ x y is. subst (λ z. Follows ds (form_mul (roll-MulTree z)) (walk ds (mul_term (roll-MulTree z)))) is (case_mul ds y))
    (λ x y is. subst (λ z. Follows ds (form_neg (roll-NegTree z)) (walk ds (neg_term (roll-NegTree z)))) is (case_neg ds y))
    (λ x y is. subst (λ z. Follows ds (form_open (roll-OpenTree z)) (walk ds (open_term (roll-OpenTree z)))) is (case_open ds y))
    (λ x y is. subst (λ z. Follows ds (form_prim (roll-PrimTree z)) (walk ds (prim_term (roll-PrimTree z)))) is (case_prim ds y))
    (λ x y is. subst (λ z. Follows ds (form_sign (roll-SignTree z)) (walk ds (sign_term (roll-SignTree z)))) is (case_sign ds y))
    (λ x y is. subst (λ z. FollowsSuffix ds (roll-SuffixTree z)) is (case_suffix ds y))
    (λ x y is. subst (λ z. Follows ds (form_add_step (roll-AddStep z)) (walk_step ds (add_step_of (roll-AddStep z)))) is (case_add_step ds y))
    (λ x y is. subst (λ z. Follows ds (form_add (roll-AddTree z)) (walk ds (add_term (roll-AddTree z)))) is (case_add ds y))
    (λ x y is. subst (λ z. Follows ds (form_and (roll-AndTree z)) (walk ds (and_term (roll-AndTree z)))) is (case_and ds y))
    (λ x y is. subst (λ z. Follows ds (form_expr (roll-ExprTree z)) (walk ds (expr_term (roll-ExprTree z)))) is (case_expr ds y))
    (λ x y is. subst (λ z. FollowsSet ds (form_group_step (roll-GroupStep z)).over (walk_group ds (group_step_term (roll-GroupStep z)))) is (case_group_step ds y))
    (λ x y is. subst (λ z. FollowsSet ds (form_group (roll-GroupTree z)).over (walk_group ds (group_term (roll-GroupTree z)))) is (case_group ds y))
    (λ x y is. subst (λ z. Follows ds (form_imp (roll-ImpTree z)) (walk ds (imp_term (roll-ImpTree z)))) is (case_imp ds y))
    (λ x y is. subst (λ z. FollowsPair ds (form_keyed (roll-KeyedTree z)).key (form_keyed (roll-KeyedTree z)).cell (walk ds (keyed_pair (roll-KeyedTree z)).key) (walk ds (keyed_pair (roll-KeyedTree z)).cell)) is (case_keyed ds y))
    (λ x y is. subst (λ z. Follows ds (form_last_step (roll-LastStep z)) (walk_step ds (last_step_of (roll-LastStep z)))) is (case_last_step ds y))
    (λ x y is. subst (λ z. Follows ds (form_mul_step (roll-MulStep z)) (walk_step ds (mul_step_of (roll-MulStep z)))) is (case_mul_step ds y))
    (λ x y is. subst (λ z. Follows ds (form_or (roll-OrTree z)) (walk ds (or_term (roll-OrTree z)))) is (case_or ds y))
    (λ x y is. subst (λ z. FollowsParams ds (form_params (roll-ParamsTree z)) (λ s. if_written (option_map (walk ds) (params_term (roll-ParamsTree z)).condition) (each (map (walk_group ds) (params_term (roll-ParamsTree z)).groups) s))) is (case_params ds y))
    (λ x y is. subst (λ z. Follows ds (form_post (roll-PostTree z)) (walk ds (post_term (roll-PostTree z)))) is (case_post ds y))
    (λ x y is. subst (λ z. FollowsSet ds (form_set (roll-SetTree z)) (walk_set ds (set_term (roll-SetTree z)))) is (case_set ds y))
    (λ x y is. subst (λ z. FollowEach ds (form_subscripts (roll-SubscriptsTree z)) (map (walk ds) (subscripts_terms (roll-SubscriptsTree z)))) is (case_subscripts ds y))

pub follows-subscripts : (ds : List DeclTree) (t : SubscriptsTree) → FollowEach ds (form_subscripts t) (map (walk ds) (subscripts_terms t))
follows-subscripts ds = ind-SubscriptsTree (λ t. Follows ds (form_compare t) (walk ds (compare_term t))) (λ t. Follows ds (form_mul t) (walk ds (mul_term t))) (λ t. Follows ds (form_neg t) (walk ds (neg_term t))) (λ t. Follows ds (form_open t) (walk ds (open_term t))) (λ t. Follows ds (form_prim t) (walk ds (prim_term t))) (λ t. Follows ds (form_sign t) (walk ds (sign_term t))) (λ t. FollowsSuffix ds t) (λ t. Follows ds (form_add_step t) (walk_step ds (add_step_of t))) (λ t. Follows ds (form_add t) (walk ds (add_term t))) (λ t. Follows ds (form_and t) (walk ds (and_term t))) (λ t. Follows ds (form_expr t) (walk ds (expr_term t))) (λ t. FollowsSet ds (form_group_step t).over (walk_group ds (group_step_term t))) (λ t. FollowsSet ds (form_group t).over (walk_group ds (group_term t))) (λ t. Follows ds (form_imp t) (walk ds (imp_term t))) (λ t. FollowsPair ds (form_keyed t).key (form_keyed t).cell (walk ds (keyed_pair t).key) (walk ds (keyed_pair t).cell)) (λ t. Follows ds (form_last_step t) (walk_step ds (last_step_of t))) (λ t. Follows ds (form_mul_step t) (walk_step ds (mul_step_of t))) (λ t. Follows ds (form_or t) (walk ds (or_term t))) (λ t. FollowsParams ds (form_params t) (λ s. if_written (option_map (walk ds) (params_term t).condition) (each (map (walk_group ds) (params_term t).groups) s))) (λ t. Follows ds (form_post t) (walk ds (post_term t))) (λ t. FollowsSet ds (form_set t) (walk_set ds (set_term t))) (λ t. FollowEach ds (form_subscripts t) (map (walk ds) (subscripts_terms t)))
    (λ x y is. subst (λ z. Follows ds (form_compare (roll-CompareTree z)) (walk ds (compare_term (roll-CompareTree z)))) is (case_compare ds y))
    (λ x y is. subst (λ z. Follows ds (form_mul (roll-MulTree z)) (walk ds (mul_term (roll-MulTree z)))) is (case_mul ds y))
    (λ x y is. subst (λ z. Follows ds (form_neg (roll-NegTree z)) (walk ds (neg_term (roll-NegTree z)))) is (case_neg ds y))
    (λ x y is. subst (λ z. Follows ds (form_open (roll-OpenTree z)) (walk ds (open_term (roll-OpenTree z)))) is (case_open ds y))
    (λ x y is. subst (λ z. Follows ds (form_prim (roll-PrimTree z)) (walk ds (prim_term (roll-PrimTree z)))) is (case_prim ds y))
    (λ x y is. subst (λ z. Follows ds (form_sign (roll-SignTree z)) (walk ds (sign_term (roll-SignTree z)))) is (case_sign ds y))
    (λ x y is. subst (λ z. FollowsSuffix ds (roll-SuffixTree z)) is (case_suffix ds y))
    (λ x y is. subst (λ z. Follows ds (form_add_step (roll-AddStep z)) (walk_step ds (add_step_of (roll-AddStep z)))) is (case_add_step ds y))
    (λ x y is. subst (λ z. Follows ds (form_add (roll-AddTree z)) (walk ds (add_term (roll-AddTree z)))) is (case_add ds y))
    (λ x y is. subst (λ z. Follows ds (form_and (roll-AndTree z)) (walk ds (and_term (roll-AndTree z)))) is (case_and ds y))
    (λ x y is. subst (λ z. Follows ds (form_expr (roll-ExprTree z)) (walk ds (expr_term (roll-ExprTree z)))) is (case_expr ds y))
    (λ x y is. subst (λ z. FollowsSet ds (form_group_step (roll-GroupStep z)).over (walk_group ds (group_step_term (roll-GroupStep z)))) is (case_group_step ds y))
    (λ x y is. subst (λ z. FollowsSet ds (form_group (roll-GroupTree z)).over (walk_group ds (group_term (roll-GroupTree z)))) is (case_group ds y))
    (λ x y is. subst (λ z. Follows ds (form_imp (roll-ImpTree z)) (walk ds (imp_term (roll-ImpTree z)))) is (case_imp ds y))
    (λ x y is. subst (λ z. FollowsPair ds (form_keyed (roll-KeyedTree z)).key (form_keyed (roll-KeyedTree z)).cell (walk ds (keyed_pair (roll-KeyedTree z)).key) (walk ds (keyed_pair (roll-KeyedTree z)).cell)) is (case_keyed ds y))
    (λ x y is. subst (λ z. Follows ds (form_last_step (roll-LastStep z)) (walk_step ds (last_step_of (roll-LastStep z)))) is (case_last_step ds y))
    (λ x y is. subst (λ z. Follows ds (form_mul_step (roll-MulStep z)) (walk_step ds (mul_step_of (roll-MulStep z)))) is (case_mul_step ds y))
    (λ x y is. subst (λ z. Follows ds (form_or (roll-OrTree z)) (walk ds (or_term (roll-OrTree z)))) is (case_or ds y))
    (λ x y is. subst (λ z. FollowsParams ds (form_params (roll-ParamsTree z)) (λ s. if_written (option_map (walk ds) (params_term (roll-ParamsTree z)).condition) (each (map (walk_group ds) (params_term (roll-ParamsTree z)).groups) s))) is (case_params ds y))
    (λ x y is. subst (λ z. Follows ds (form_post (roll-PostTree z)) (walk ds (post_term (roll-PostTree z)))) is (case_post ds y))
    (λ x y is. subst (λ z. FollowsSet ds (form_set (roll-SetTree z)) (walk_set ds (set_term (roll-SetTree z)))) is (case_set ds y))
    (λ x y is. subst (λ z. FollowEach ds (form_subscripts (roll-SubscriptsTree z)) (map (walk ds) (subscripts_terms (roll-SubscriptsTree z)))) is (case_subscripts ds y))

pub follows-mul : (ds : List DeclTree) (t : MulTree) → Follows ds (form_mul t) (walk ds (mul_term t))
follows-mul ds = ind-MulTree (λ t. Follows ds (form_compare t) (walk ds (compare_term t))) (λ t. Follows ds (form_mul t) (walk ds (mul_term t))) (λ t. Follows ds (form_neg t) (walk ds (neg_term t))) (λ t. Follows ds (form_open t) (walk ds (open_term t))) (λ t. Follows ds (form_prim t) (walk ds (prim_term t))) (λ t. Follows ds (form_sign t) (walk ds (sign_term t))) (λ t. FollowsSuffix ds t) (λ t. Follows ds (form_add_step t) (walk_step ds (add_step_of t))) (λ t. Follows ds (form_add t) (walk ds (add_term t))) (λ t. Follows ds (form_and t) (walk ds (and_term t))) (λ t. Follows ds (form_expr t) (walk ds (expr_term t))) (λ t. FollowsSet ds (form_group_step t).over (walk_group ds (group_step_term t))) (λ t. FollowsSet ds (form_group t).over (walk_group ds (group_term t))) (λ t. Follows ds (form_imp t) (walk ds (imp_term t))) (λ t. FollowsPair ds (form_keyed t).key (form_keyed t).cell (walk ds (keyed_pair t).key) (walk ds (keyed_pair t).cell)) (λ t. Follows ds (form_last_step t) (walk_step ds (last_step_of t))) (λ t. Follows ds (form_mul_step t) (walk_step ds (mul_step_of t))) (λ t. Follows ds (form_or t) (walk ds (or_term t))) (λ t. FollowsParams ds (form_params t) (λ s. if_written (option_map (walk ds) (params_term t).condition) (each (map (walk_group ds) (params_term t).groups) s))) (λ t. Follows ds (form_post t) (walk ds (post_term t))) (λ t. FollowsSet ds (form_set t) (walk_set ds (set_term t))) (λ t. FollowEach ds (form_subscripts t) (map (walk ds) (subscripts_terms t)))
    (λ x y is. subst (λ z. Follows ds (form_compare (roll-CompareTree z)) (walk ds (compare_term (roll-CompareTree z)))) is (case_compare ds y))
    (λ x y is. subst (λ z. Follows ds (form_mul (roll-MulTree z)) (walk ds (mul_term (roll-MulTree z)))) is (case_mul ds y))
    (λ x y is. subst (λ z. Follows ds (form_neg (roll-NegTree z)) (walk ds (neg_term (roll-NegTree z)))) is (case_neg ds y))
    (λ x y is. subst (λ z. Follows ds (form_open (roll-OpenTree z)) (walk ds (open_term (roll-OpenTree z)))) is (case_open ds y))
    (λ x y is. subst (λ z. Follows ds (form_prim (roll-PrimTree z)) (walk ds (prim_term (roll-PrimTree z)))) is (case_prim ds y))
    (λ x y is. subst (λ z. Follows ds (form_sign (roll-SignTree z)) (walk ds (sign_term (roll-SignTree z)))) is (case_sign ds y))
    (λ x y is. subst (λ z. FollowsSuffix ds (roll-SuffixTree z)) is (case_suffix ds y))
    (λ x y is. subst (λ z. Follows ds (form_add_step (roll-AddStep z)) (walk_step ds (add_step_of (roll-AddStep z)))) is (case_add_step ds y))
    (λ x y is. subst (λ z. Follows ds (form_add (roll-AddTree z)) (walk ds (add_term (roll-AddTree z)))) is (case_add ds y))
    (λ x y is. subst (λ z. Follows ds (form_and (roll-AndTree z)) (walk ds (and_term (roll-AndTree z)))) is (case_and ds y))
    (λ x y is. subst (λ z. Follows ds (form_expr (roll-ExprTree z)) (walk ds (expr_term (roll-ExprTree z)))) is (case_expr ds y))
    (λ x y is. subst (λ z. FollowsSet ds (form_group_step (roll-GroupStep z)).over (walk_group ds (group_step_term (roll-GroupStep z)))) is (case_group_step ds y))
    (λ x y is. subst (λ z. FollowsSet ds (form_group (roll-GroupTree z)).over (walk_group ds (group_term (roll-GroupTree z)))) is (case_group ds y))
    (λ x y is. subst (λ z. Follows ds (form_imp (roll-ImpTree z)) (walk ds (imp_term (roll-ImpTree z)))) is (case_imp ds y))
    (λ x y is. subst (λ z. FollowsPair ds (form_keyed (roll-KeyedTree z)).key (form_keyed (roll-KeyedTree z)).cell (walk ds (keyed_pair (roll-KeyedTree z)).key) (walk ds (keyed_pair (roll-KeyedTree z)).cell)) is (case_keyed ds y))
    (λ x y is. subst (λ z. Follows ds (form_last_step (roll-LastStep z)) (walk_step ds (last_step_of (roll-LastStep z)))) is (case_last_step ds y))
    (λ x y is. subst (λ z. Follows ds (form_mul_step (roll-MulStep z)) (walk_step ds (mul_step_of (roll-MulStep z)))) is (case_mul_step ds y))
    (λ x y is. subst (λ z. Follows ds (form_or (roll-OrTree z)) (walk ds (or_term (roll-OrTree z)))) is (case_or ds y))
    (λ x y is. subst (λ z. FollowsParams ds (form_params (roll-ParamsTree z)) (λ s. if_written (option_map (walk ds) (params_term (roll-ParamsTree z)).condition) (each (map (walk_group ds) (params_term (roll-ParamsTree z)).groups) s))) is (case_params ds y))
    (λ x y is. subst (λ z. Follows ds (form_post (roll-PostTree z)) (walk ds (post_term (roll-PostTree z)))) is (case_post ds y))
    (λ x y is. subst (λ z. FollowsSet ds (form_set (roll-SetTree z)) (walk_set ds (set_term (roll-SetTree z)))) is (case_set ds y))
    (λ x y is. subst (λ z. FollowEach ds (form_subscripts (roll-SubscriptsTree z)) (map (walk ds) (subscripts_terms (roll-SubscriptsTree z)))) is (case_subscripts ds y))

pub follows-open : (ds : List DeclTree) (t : OpenTree) → Follows ds (form_open t) (walk ds (open_term t))
follows-open ds = ind-OpenTree (λ t. Follows ds (form_compare t) (walk ds (compare_term t))) (λ t. Follows ds (form_mul t) (walk ds (mul_term t))) (λ t. Follows ds (form_neg t) (walk ds (neg_term t))) (λ t. Follows ds (form_open t) (walk ds (open_term t))) (λ t. Follows ds (form_prim t) (walk ds (prim_term t))) (λ t. Follows ds (form_sign t) (walk ds (sign_term t))) (λ t. FollowsSuffix ds t) (λ t. Follows ds (form_add_step t) (walk_step ds (add_step_of t))) (λ t. Follows ds (form_add t) (walk ds (add_term t))) (λ t. Follows ds (form_and t) (walk ds (and_term t))) (λ t. Follows ds (form_expr t) (walk ds (expr_term t))) (λ t. FollowsSet ds (form_group_step t).over (walk_group ds (group_step_term t))) (λ t. FollowsSet ds (form_group t).over (walk_group ds (group_term t))) (λ t. Follows ds (form_imp t) (walk ds (imp_term t))) (λ t. FollowsPair ds (form_keyed t).key (form_keyed t).cell (walk ds (keyed_pair t).key) (walk ds (keyed_pair t).cell)) (λ t. Follows ds (form_last_step t) (walk_step ds (last_step_of t))) (λ t. Follows ds (form_mul_step t) (walk_step ds (mul_step_of t))) (λ t. Follows ds (form_or t) (walk ds (or_term t))) (λ t. FollowsParams ds (form_params t) (λ s. if_written (option_map (walk ds) (params_term t).condition) (each (map (walk_group ds) (params_term t).groups) s))) (λ t. Follows ds (form_post t) (walk ds (post_term t))) (λ t. FollowsSet ds (form_set t) (walk_set ds (set_term t))) (λ t. FollowEach ds (form_subscripts t) (map (walk ds) (subscripts_terms t)))
    (λ x y is. subst (λ z. Follows ds (form_compare (roll-CompareTree z)) (walk ds (compare_term (roll-CompareTree z)))) is (case_compare ds y))
    (λ x y is. subst (λ z. Follows ds (form_mul (roll-MulTree z)) (walk ds (mul_term (roll-MulTree z)))) is (case_mul ds y))
    (λ x y is. subst (λ z. Follows ds (form_neg (roll-NegTree z)) (walk ds (neg_term (roll-NegTree z)))) is (case_neg ds y))
    (λ x y is. subst (λ z. Follows ds (form_open (roll-OpenTree z)) (walk ds (open_term (roll-OpenTree z)))) is (case_open ds y))
    (λ x y is. subst (λ z. Follows ds (form_prim (roll-PrimTree z)) (walk ds (prim_term (roll-PrimTree z)))) is (case_prim ds y))
    (λ x y is. subst (λ z. Follows ds (form_sign (roll-SignTree z)) (walk ds (sign_term (roll-SignTree z)))) is (case_sign ds y))
    (λ x y is. subst (λ z. FollowsSuffix ds (roll-SuffixTree z)) is (case_suffix ds y))
    (λ x y is. subst (λ z. Follows ds (form_add_step (roll-AddStep z)) (walk_step ds (add_step_of (roll-AddStep z)))) is (case_add_step ds y))
    (λ x y is. subst (λ z. Follows ds (form_add (roll-AddTree z)) (walk ds (add_term (roll-AddTree z)))) is (case_add ds y))
    (λ x y is. subst (λ z. Follows ds (form_and (roll-AndTree z)) (walk ds (and_term (roll-AndTree z)))) is (case_and ds y))
    (λ x y is. subst (λ z. Follows ds (form_expr (roll-ExprTree z)) (walk ds (expr_term (roll-ExprTree z)))) is (case_expr ds y))
    (λ x y is. subst (λ z. FollowsSet ds (form_group_step (roll-GroupStep z)).over (walk_group ds (group_step_term (roll-GroupStep z)))) is (case_group_step ds y))
    (λ x y is. subst (λ z. FollowsSet ds (form_group (roll-GroupTree z)).over (walk_group ds (group_term (roll-GroupTree z)))) is (case_group ds y))
    (λ x y is. subst (λ z. Follows ds (form_imp (roll-ImpTree z)) (walk ds (imp_term (roll-ImpTree z)))) is (case_imp ds y))
    (λ x y is. subst (λ z. FollowsPair ds (form_keyed (roll-KeyedTree z)).key (form_keyed (roll-KeyedTree z)).cell (walk ds (keyed_pair (roll-KeyedTree z)).key) (walk ds (keyed_pair (roll-KeyedTree z)).cell)) is (case_keyed ds y))
    (λ x y is. subst (λ z. Follows ds (form_last_step (roll-LastStep z)) (walk_step ds (last_step_of (roll-LastStep z)))) is (case_last_step ds y))
    (λ x y is. subst (λ z. Follows ds (form_mul_step (roll-MulStep z)) (walk_step ds (mul_step_of (roll-MulStep z)))) is (case_mul_step ds y))
    (λ x y is. subst (λ z. Follows ds (form_or (roll-OrTree z)) (walk ds (or_term (roll-OrTree z)))) is (case_or ds y))
    (λ x y is. subst (λ z. FollowsParams ds (form_params (roll-ParamsTree z)) (λ s. if_written (option_map (walk ds) (params_term (roll-ParamsTree z)).condition) (each (map (walk_group ds) (params_term (roll-ParamsTree z)).groups) s))) is (case_params ds y))
    (λ x y is. subst (λ z. Follows ds (form_post (roll-PostTree z)) (walk ds (post_term (roll-PostTree z)))) is (case_post ds y))
    (λ x y is. subst (λ z. FollowsSet ds (form_set (roll-SetTree z)) (walk_set ds (set_term (roll-SetTree z)))) is (case_set ds y))
    (λ x y is. subst (λ z. FollowEach ds (form_subscripts (roll-SubscriptsTree z)) (map (walk ds) (subscripts_terms (roll-SubscriptsTree z)))) is (case_subscripts ds y))

pub follows-sign : (ds : List DeclTree) (t : SignTree) → Follows ds (form_sign t) (walk ds (sign_term t))
follows-sign ds = ind-SignTree (λ t. Follows ds (form_compare t) (walk ds (compare_term t))) (λ t. Follows ds (form_mul t) (walk ds (mul_term t))) (λ t. Follows ds (form_neg t) (walk ds (neg_term t))) (λ t. Follows ds (form_open t) (walk ds (open_term t))) (λ t. Follows ds (form_prim t) (walk ds (prim_term t))) (λ t. Follows ds (form_sign t) (walk ds (sign_term t))) (λ t. FollowsSuffix ds t) (λ t. Follows ds (form_add_step t) (walk_step ds (add_step_of t))) (λ t. Follows ds (form_add t) (walk ds (add_term t))) (λ t. Follows ds (form_and t) (walk ds (and_term t))) (λ t. Follows ds (form_expr t) (walk ds (expr_term t))) (λ t. FollowsSet ds (form_group_step t).over (walk_group ds (group_step_term t))) (λ t. FollowsSet ds (form_group t).over (walk_group ds (group_term t))) (λ t. Follows ds (form_imp t) (walk ds (imp_term t))) (λ t. FollowsPair ds (form_keyed t).key (form_keyed t).cell (walk ds (keyed_pair t).key) (walk ds (keyed_pair t).cell)) (λ t. Follows ds (form_last_step t) (walk_step ds (last_step_of t))) (λ t. Follows ds (form_mul_step t) (walk_step ds (mul_step_of t))) (λ t. Follows ds (form_or t) (walk ds (or_term t))) (λ t. FollowsParams ds (form_params t) (λ s. if_written (option_map (walk ds) (params_term t).condition) (each (map (walk_group ds) (params_term t).groups) s))) (λ t. Follows ds (form_post t) (walk ds (post_term t))) (λ t. FollowsSet ds (form_set t) (walk_set ds (set_term t))) (λ t. FollowEach ds (form_subscripts t) (map (walk ds) (subscripts_terms t)))
    (λ x y is. subst (λ z. Follows ds (form_compare (roll-CompareTree z)) (walk ds (compare_term (roll-CompareTree z)))) is (case_compare ds y))
    (λ x y is. subst (λ z. Follows ds (form_mul (roll-MulTree z)) (walk ds (mul_term (roll-MulTree z)))) is (case_mul ds y))
    (λ x y is. subst (λ z. Follows ds (form_neg (roll-NegTree z)) (walk ds (neg_term (roll-NegTree z)))) is (case_neg ds y))
    (λ x y is. subst (λ z. Follows ds (form_open (roll-OpenTree z)) (walk ds (open_term (roll-OpenTree z)))) is (case_open ds y))
    (λ x y is. subst (λ z. Follows ds (form_prim (roll-PrimTree z)) (walk ds (prim_term (roll-PrimTree z)))) is (case_prim ds y))
    (λ x y is. subst (λ z. Follows ds (form_sign (roll-SignTree z)) (walk ds (sign_term (roll-SignTree z)))) is (case_sign ds y))
    (λ x y is. subst (λ z. FollowsSuffix ds (roll-SuffixTree z)) is (case_suffix ds y))
    (λ x y is. subst (λ z. Follows ds (form_add_step (roll-AddStep z)) (walk_step ds (add_step_of (roll-AddStep z)))) is (case_add_step ds y))
    (λ x y is. subst (λ z. Follows ds (form_add (roll-AddTree z)) (walk ds (add_term (roll-AddTree z)))) is (case_add ds y))
    (λ x y is. subst (λ z. Follows ds (form_and (roll-AndTree z)) (walk ds (and_term (roll-AndTree z)))) is (case_and ds y))
    (λ x y is. subst (λ z. Follows ds (form_expr (roll-ExprTree z)) (walk ds (expr_term (roll-ExprTree z)))) is (case_expr ds y))
    (λ x y is. subst (λ z. FollowsSet ds (form_group_step (roll-GroupStep z)).over (walk_group ds (group_step_term (roll-GroupStep z)))) is (case_group_step ds y))
    (λ x y is. subst (λ z. FollowsSet ds (form_group (roll-GroupTree z)).over (walk_group ds (group_term (roll-GroupTree z)))) is (case_group ds y))
    (λ x y is. subst (λ z. Follows ds (form_imp (roll-ImpTree z)) (walk ds (imp_term (roll-ImpTree z)))) is (case_imp ds y))
    (λ x y is. subst (λ z. FollowsPair ds (form_keyed (roll-KeyedTree z)).key (form_keyed (roll-KeyedTree z)).cell (walk ds (keyed_pair (roll-KeyedTree z)).key) (walk ds (keyed_pair (roll-KeyedTree z)).cell)) is (case_keyed ds y))
    (λ x y is. subst (λ z. Follows ds (form_last_step (roll-LastStep z)) (walk_step ds (last_step_of (roll-LastStep z)))) is (case_last_step ds y))
    (λ x y is. subst (λ z. Follows ds (form_mul_step (roll-MulStep z)) (walk_step ds (mul_step_of (roll-MulStep z)))) is (case_mul_step ds y))
    (λ x y is. subst (λ z. Follows ds (form_or (roll-OrTree z)) (walk ds (or_term (roll-OrTree z)))) is (case_or ds y))
    (λ x y is. subst (λ z. FollowsParams ds (form_params (roll-ParamsTree z)) (λ s. if_written (option_map (walk ds) (params_term (roll-ParamsTree z)).condition) (each (map (walk_group ds) (params_term (roll-ParamsTree z)).groups) s))) is (case_params ds y))
    (λ x y is. subst (λ z. Follows ds (form_post (roll-PostTree z)) (walk ds (post_term (roll-PostTree z)))) is (case_post ds y))
    (λ x y is. subst (λ z. FollowsSet ds (form_set (roll-SetTree z)) (walk_set ds (set_term (roll-SetTree z)))) is (case_set ds y))
    (λ x y is. subst (λ z. FollowEach ds (form_subscripts (roll-SubscriptsTree z)) (map (walk ds) (subscripts_terms (roll-SubscriptsTree z)))) is (case_subscripts ds y))

pub follows-prim : (ds : List DeclTree) (t : PrimTree) → Follows ds (form_prim t) (walk ds (prim_term t))
follows-prim ds = ind-PrimTree (λ t. Follows ds (form_compare t) (walk ds (compare_term t))) (λ t. Follows ds (form_mul t) (walk ds (mul_term t))) (λ t. Follows ds (form_neg t) (walk ds (neg_term t))) (λ t. Follows ds (form_open t) (walk ds (open_term t))) (λ t. Follows ds (form_prim t) (walk ds (prim_term t))) (λ t. Follows ds (form_sign t) (walk ds (sign_term t))) (λ t. FollowsSuffix ds t) (λ t. Follows ds (form_add_step t) (walk_step ds (add_step_of t))) (λ t. Follows ds (form_add t) (walk ds (add_term t))) (λ t. Follows ds (form_and t) (walk ds (and_term t))) (λ t. Follows ds (form_expr t) (walk ds (expr_term t))) (λ t. FollowsSet ds (form_group_step t).over (walk_group ds (group_step_term t))) (λ t. FollowsSet ds (form_group t).over (walk_group ds (group_term t))) (λ t. Follows ds (form_imp t) (walk ds (imp_term t))) (λ t. FollowsPair ds (form_keyed t).key (form_keyed t).cell (walk ds (keyed_pair t).key) (walk ds (keyed_pair t).cell)) (λ t. Follows ds (form_last_step t) (walk_step ds (last_step_of t))) (λ t. Follows ds (form_mul_step t) (walk_step ds (mul_step_of t))) (λ t. Follows ds (form_or t) (walk ds (or_term t))) (λ t. FollowsParams ds (form_params t) (λ s. if_written (option_map (walk ds) (params_term t).condition) (each (map (walk_group ds) (params_term t).groups) s))) (λ t. Follows ds (form_post t) (walk ds (post_term t))) (λ t. FollowsSet ds (form_set t) (walk_set ds (set_term t))) (λ t. FollowEach ds (form_subscripts t) (map (walk ds) (subscripts_terms t)))
    (λ x y is. subst (λ z. Follows ds (form_compare (roll-CompareTree z)) (walk ds (compare_term (roll-CompareTree z)))) is (case_compare ds y))
    (λ x y is. subst (λ z. Follows ds (form_mul (roll-MulTree z)) (walk ds (mul_term (roll-MulTree z)))) is (case_mul ds y))
    (λ x y is. subst (λ z. Follows ds (form_neg (roll-NegTree z)) (walk ds (neg_term (roll-NegTree z)))) is (case_neg ds y))
    (λ x y is. subst (λ z. Follows ds (form_open (roll-OpenTree z)) (walk ds (open_term (roll-OpenTree z)))) is (case_open ds y))
    (λ x y is. subst (λ z. Follows ds (form_prim (roll-PrimTree z)) (walk ds (prim_term (roll-PrimTree z)))) is (case_prim ds y))
    (λ x y is. subst (λ z. Follows ds (form_sign (roll-SignTree z)) (walk ds (sign_term (roll-SignTree z)))) is (case_sign ds y))
    (λ x y is. subst (λ z. FollowsSuffix ds (roll-SuffixTree z)) is (case_suffix ds y))
    (λ x y is. subst (λ z. Follows ds (form_add_step (roll-AddStep z)) (walk_step ds (add_step_of (roll-AddStep z)))) is (case_add_step ds y))
    (λ x y is. subst (λ z. Follows ds (form_add (roll-AddTree z)) (walk ds (add_term (roll-AddTree z)))) is (case_add ds y))
    (λ x y is. subst (λ z. Follows ds (form_and (roll-AndTree z)) (walk ds (and_term (roll-AndTree z)))) is (case_and ds y))
    (λ x y is. subst (λ z. Follows ds (form_expr (roll-ExprTree z)) (walk ds (expr_term (roll-ExprTree z)))) is (case_expr ds y))
    (λ x y is. subst (λ z. FollowsSet ds (form_group_step (roll-GroupStep z)).over (walk_group ds (group_step_term (roll-GroupStep z)))) is (case_group_step ds y))
    (λ x y is. subst (λ z. FollowsSet ds (form_group (roll-GroupTree z)).over (walk_group ds (group_term (roll-GroupTree z)))) is (case_group ds y))
    (λ x y is. subst (λ z. Follows ds (form_imp (roll-ImpTree z)) (walk ds (imp_term (roll-ImpTree z)))) is (case_imp ds y))
    (λ x y is. subst (λ z. FollowsPair ds (form_keyed (roll-KeyedTree z)).key (form_keyed (roll-KeyedTree z)).cell (walk ds (keyed_pair (roll-KeyedTree z)).key) (walk ds (keyed_pair (roll-KeyedTree z)).cell)) is (case_keyed ds y))
    (λ x y is. subst (λ z. Follows ds (form_last_step (roll-LastStep z)) (walk_step ds (last_step_of (roll-LastStep z)))) is (case_last_step ds y))
    (λ x y is. subst (λ z. Follows ds (form_mul_step (roll-MulStep z)) (walk_step ds (mul_step_of (roll-MulStep z)))) is (case_mul_step ds y))
    (λ x y is. subst (λ z. Follows ds (form_or (roll-OrTree z)) (walk ds (or_term (roll-OrTree z)))) is (case_or ds y))
    (λ x y is. subst (λ z. FollowsParams ds (form_params (roll-ParamsTree z)) (λ s. if_written (option_map (walk ds) (params_term (roll-ParamsTree z)).condition) (each (map (walk_group ds) (params_term (roll-ParamsTree z)).groups) s))) is (case_params ds y))
    (λ x y is. subst (λ z. Follows ds (form_post (roll-PostTree z)) (walk ds (post_term (roll-PostTree z)))) is (case_post ds y))
    (λ x y is. subst (λ z. FollowsSet ds (form_set (roll-SetTree z)) (walk_set ds (set_term (roll-SetTree z)))) is (case_set ds y))
    (λ x y is. subst (λ z. FollowEach ds (form_subscripts (roll-SubscriptsTree z)) (map (walk ds) (subscripts_terms (roll-SubscriptsTree z)))) is (case_subscripts ds y))

pub follows-keyed : (ds : List DeclTree) (t : KeyedTree) → FollowsPair ds (form_keyed t).key (form_keyed t).cell (walk ds (keyed_pair t).key) (walk ds (keyed_pair t).cell)
follows-keyed ds = ind-KeyedTree (λ t. Follows ds (form_compare t) (walk ds (compare_term t))) (λ t. Follows ds (form_mul t) (walk ds (mul_term t))) (λ t. Follows ds (form_neg t) (walk ds (neg_term t))) (λ t. Follows ds (form_open t) (walk ds (open_term t))) (λ t. Follows ds (form_prim t) (walk ds (prim_term t))) (λ t. Follows ds (form_sign t) (walk ds (sign_term t))) (λ t. FollowsSuffix ds t) (λ t. Follows ds (form_add_step t) (walk_step ds (add_step_of t))) (λ t. Follows ds (form_add t) (walk ds (add_term t))) (λ t. Follows ds (form_and t) (walk ds (and_term t))) (λ t. Follows ds (form_expr t) (walk ds (expr_term t))) (λ t. FollowsSet ds (form_group_step t).over (walk_group ds (group_step_term t))) (λ t. FollowsSet ds (form_group t).over (walk_group ds (group_term t))) (λ t. Follows ds (form_imp t) (walk ds (imp_term t))) (λ t. FollowsPair ds (form_keyed t).key (form_keyed t).cell (walk ds (keyed_pair t).key) (walk ds (keyed_pair t).cell)) (λ t. Follows ds (form_last_step t) (walk_step ds (last_step_of t))) (λ t. Follows ds (form_mul_step t) (walk_step ds (mul_step_of t))) (λ t. Follows ds (form_or t) (walk ds (or_term t))) (λ t. FollowsParams ds (form_params t) (λ s. if_written (option_map (walk ds) (params_term t).condition) (each (map (walk_group ds) (params_term t).groups) s))) (λ t. Follows ds (form_post t) (walk ds (post_term t))) (λ t. FollowsSet ds (form_set t) (walk_set ds (set_term t))) (λ t. FollowEach ds (form_subscripts t) (map (walk ds) (subscripts_terms t)))
    (λ x y is. subst (λ z. Follows ds (form_compare (roll-CompareTree z)) (walk ds (compare_term (roll-CompareTree z)))) is (case_compare ds y))
    (λ x y is. subst (λ z. Follows ds (form_mul (roll-MulTree z)) (walk ds (mul_term (roll-MulTree z)))) is (case_mul ds y))
    (λ x y is. subst (λ z. Follows ds (form_neg (roll-NegTree z)) (walk ds (neg_term (roll-NegTree z)))) is (case_neg ds y))
    (λ x y is. subst (λ z. Follows ds (form_open (roll-OpenTree z)) (walk ds (open_term (roll-OpenTree z)))) is (case_open ds y))
    (λ x y is. subst (λ z. Follows ds (form_prim (roll-PrimTree z)) (walk ds (prim_term (roll-PrimTree z)))) is (case_prim ds y))
    (λ x y is. subst (λ z. Follows ds (form_sign (roll-SignTree z)) (walk ds (sign_term (roll-SignTree z)))) is (case_sign ds y))
    (λ x y is. subst (λ z. FollowsSuffix ds (roll-SuffixTree z)) is (case_suffix ds y))
    (λ x y is. subst (λ z. Follows ds (form_add_step (roll-AddStep z)) (walk_step ds (add_step_of (roll-AddStep z)))) is (case_add_step ds y))
    (λ x y is. subst (λ z. Follows ds (form_add (roll-AddTree z)) (walk ds (add_term (roll-AddTree z)))) is (case_add ds y))
    (λ x y is. subst (λ z. Follows ds (form_and (roll-AndTree z)) (walk ds (and_term (roll-AndTree z)))) is (case_and ds y))
    (λ x y is. subst (λ z. Follows ds (form_expr (roll-ExprTree z)) (walk ds (expr_term (roll-ExprTree z)))) is (case_expr ds y))
    (λ x y is. subst (λ z. FollowsSet ds (form_group_step (roll-GroupStep z)).over (walk_group ds (group_step_term (roll-GroupStep z)))) is (case_group_step ds y))
    (λ x y is. subst (λ z. FollowsSet ds (form_group (roll-GroupTree z)).over (walk_group ds (group_term (roll-GroupTree z)))) is (case_group ds y))
    (λ x y is. subst (λ z. Follows ds (form_imp (roll-ImpTree z)) (walk ds (imp_term (roll-ImpTree z)))) is (case_imp ds y))
    (λ x y is. subst (λ z. FollowsPair ds (form_keyed (roll-KeyedTree z)).key (form_keyed (roll-KeyedTree z)).cell (walk ds (keyed_pair (roll-KeyedTree z)).key) (walk ds (keyed_pair (roll-KeyedTree z)).cell)) is (case_keyed ds y))
    (λ x y is. subst (λ z. Follows ds (form_last_step (roll-LastStep z)) (walk_step ds (last_step_of (roll-LastStep z)))) is (case_last_step ds y))
    (λ x y is. subst (λ z. Follows ds (form_mul_step (roll-MulStep z)) (walk_step ds (mul_step_of (roll-MulStep z)))) is (case_mul_step ds y))
    (λ x y is. subst (λ z. Follows ds (form_or (roll-OrTree z)) (walk ds (or_term (roll-OrTree z)))) is (case_or ds y))
    (λ x y is. subst (λ z. FollowsParams ds (form_params (roll-ParamsTree z)) (λ s. if_written (option_map (walk ds) (params_term (roll-ParamsTree z)).condition) (each (map (walk_group ds) (params_term (roll-ParamsTree z)).groups) s))) is (case_params ds y))
    (λ x y is. subst (λ z. Follows ds (form_post (roll-PostTree z)) (walk ds (post_term (roll-PostTree z)))) is (case_post ds y))
    (λ x y is. subst (λ z. FollowsSet ds (form_set (roll-SetTree z)) (walk_set ds (set_term (roll-SetTree z)))) is (case_set ds y))
    (λ x y is. subst (λ z. FollowEach ds (form_subscripts (roll-SubscriptsTree z)) (map (walk ds) (subscripts_terms (roll-SubscriptsTree z)))) is (case_subscripts ds y))
