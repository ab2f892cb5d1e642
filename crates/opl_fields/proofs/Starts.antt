-- The walk over an initial value takes what typing lists for it, the cells of arrays among it.
use Rattle.std.proofs.Common.{◌≡◌, ℕ, Bool, true, false, List, [], ◌∷◌, ◌++◌, map, Option, None, Some, Ok, refl, ap, sym, subst, ◌∙◌}
use Rattle.std.specs.Option.{option_map}
use Rattle.opl_tree.specs.declared.declaration.InitialTree.{InitialTree}
use Rattle.opl_tree.specs.declared.declaration.InitialTree.TheVariants as initials
use Rattle.opl_tree.specs.declared.declaration.DeclTree.{DeclTree}
use Rattle.opl_tree.specs.declared.expression.CompareTree.{CompareTree}
use Rattle.opl_tree.specs.declared.expression.MulTree.{MulTree}
use Rattle.opl_tree.specs.declared.expression.NegTree.{NegTree}
use Rattle.opl_tree.specs.declared.expression.OpenTree.{OpenTree}
use Rattle.opl_tree.specs.declared.expression.PrimTree.{PrimTree}
use Rattle.opl_tree.specs.declared.expression.SignTree.{SignTree}
use Rattle.opl_tree.specs.declared.expression.SuffixTree.{SuffixTree}
use Rattle.opl_tree.specs.declared.expression.AddStep.{AddStep}
use Rattle.opl_tree.specs.declared.expression.AddTree.{AddTree}
use Rattle.opl_tree.specs.declared.expression.AndTree.{AndTree}
use Rattle.opl_tree.specs.declared.expression.ExprTree.{ExprTree}
use Rattle.opl_tree.specs.declared.expression.GroupStep.{GroupStep}
use Rattle.opl_tree.specs.declared.expression.GroupTree.{GroupTree}
use Rattle.opl_tree.specs.declared.expression.ImpTree.{ImpTree}
use Rattle.opl_tree.specs.declared.expression.KeyedTree.{KeyedTree}
use Rattle.opl_tree.specs.declared.expression.LastStep.{LastStep}
use Rattle.opl_tree.specs.declared.expression.MulStep.{MulStep}
use Rattle.opl_tree.specs.declared.expression.OrTree.{OrTree}
use Rattle.opl_tree.specs.declared.expression.ParamsTree.{ParamsTree}
use Rattle.opl_tree.specs.declared.expression.PostTree.{PostTree}
use Rattle.opl_tree.specs.declared.expression.SetTree.{SetTree}
use Rattle.opl_tree.specs.declared.expression.SubscriptsTree.{SubscriptsTree}
use Rattle.opl_tree.specs.declared.expression.CallOp.{CallOp}
use Rattle.opl_tree.specs.declared.expression.CallOp.TheVariants as calls
use Rattle.opl_tree.specs.declared.expression.MulTree.TheVariants as muls
use Rattle.opl_tree.specs.declared.expression.OpenTree.TheVariants as opens
use Rattle.opl_tree.specs.declared.expression.SignTree.TheVariants as signs
use Rattle.opl_tree.specs.declared.expression.PrimTree.TheVariants as prims
use Rattle.opl_tree.specs.declared.expression.CompareTree.TheOpen.{MulTree-F, OpenTree-F, PrimTree-F, SignTree-F, AddTree-F, KeyedTree-F, PostTree-F}
use Rattle.opl_tree.specs.declared.expression.CompareTree.TheViews.{roll-AddTree, roll-MulTree, roll-OpenTree, roll-SignTree, roll-PostTree, roll-PrimTree, roll-KeyedTree, out-roll-AddTree, out-roll-PostTree, out-roll-KeyedTree}
use Rattle.opl_tree.specs.declared.expression.CompareTree.TheFolds.{map-AddTree, map-MulTree, map-OpenTree, map-SignTree, map-PostTree, map-PrimTree, map-KeyedTree, ind-AddTree}
use Rattle.opl_term.specs.declared.term.Term.{Term}
use Rattle.opl_term.specs.declared.term.Term.TheVariants as terms
use Rattle.opl_term.specs.Terms.{add_term, mul_term, open_term, sign_term, post_term, prim_term, keyed_pair, add_step_of, mul_step_of, last_step_of, suffix_of}
use Rattle.opl_term.specs.Terms as says
use Rattle.opl_type_rules.specs.Types.{Sort}
use Rattle.opl_type_rules.specs.Scope.{Scope, and_then, fits_in}
use Rattle.opl_type_rules.specs.Forms.{Form, forms_of, pairs_of, call, form_add, form_mul, form_open, form_sign, form_post, form_prim, form_keyed, form_add_step, form_mul_step, form_last_step, form_suffix}
use Rattle.opl_type_rules.specs.Forms as forms
use Rattle.opl_type_rules.specs.Forms.Form.{number, named, bracket, negative, arithmetic, aggregate, all_different, tuple, listed, described, cells, keyed_cells, question}
use Rattle.opl_type_rules.specs.Forms.Suffix.{subscripts, field_of}
use Rattle.opl_type_rules.specs.Expressions.{kinds, used, typing}
use Rattle.opl_type_rules.specs.Expressions.Need.{data_alone}
use Rattle.opl_model_types.specs.Declarations.{shaped, initial, initial_cells, initial_pairs, initial_kinds}
use Rattle.opl_term.proofs.Layers as term_is
use Rattle.opl_type_rules.proofs.Forms as form_is
use Rattle.opl_fields.specs.declared.place.FieldPlace.{FieldPlace}
use Rattle.opl_fields.specs.Walk.{Pass, one, each, in_turn, walk}
use Rattle.opl_fields.specs.Trees.{walk_initial}
use Rattle.opl_fields.specs.Typed.{form_fields, parts_fields, pairs_fields}
use Rattle.opl_fields.specs.Whole.{in_initial}
use Rattle.opl_fields.proofs.Walks.{walk-Array, walk-KeyedArray}
use Rattle.opl_fields.proofs.Taken.{Takes, Follows, takes-none, takes-both, takes-by, went, same}
use Rattle.opl_fields.proofs.Followed.{by-both, follows-add, follows-mul, follows-open, follows-sign, follows-post, follows-prim, follows-keyed}
use Rattle.opl_fields.proofs.Asked.{takes-one, takes-typed}

-- whatever initial value the form is, the walk takes what typing lists, and finds the fields of the form
abbrev pub Starts : List DeclTree → Form → Pass → Type 0
Starts ds f g = (sc : Scope) (s : Sort) (is : List Sort) (ks : List Sort) → initial sc s is f ≡ Ok ks → Takes g ks (form_fields ds sc f)

-- ---- values that are typed like other expressions

abbrev is_array : Form → Bool
is_array (cells at fs) = true
is_array (keyed_cells at ps) = true
is_array f = false

plain : (f : Form) → is_array f ≡ false → (sc : Scope) (s : Sort) (is : List Sort) → initial sc s is f ≡ and_then (and_then (typing sc f) (used data_alone (fits_in sc (shaped is s)))) (λ n. Ok (kinds n))
unfolding initial
plain (cells at fs) h sc s is = absurd (cc)
plain (keyed_cells at ps) h sc s is = absurd (cc)
plain f h sc s [] = refl
plain f h sc s (i ∷ is) = refl

-- where an array is asked for none, it is typed, too
alone : (f : Form) (sc : Scope) (s : Sort) → initial sc s [] f ≡ and_then (and_then (typing sc f) (used data_alone (fits_in sc (shaped [] s)))) (λ n. Ok (kinds n))
unfolding initial
alone f sc s = refl

typed-starts : (ds : List DeclTree) (f : Form) (g : Pass) → Follows ds f g → is_array f ≡ false → Starts ds f g
typed-starts ds f g p h sc s is ks e = takes-typed ds f g p sc data_alone (fits_in sc (shaped is s)) ks (sym (plain f h sc s is) ∙ e)

-- the same by an equal form
starts-when : (ds : List DeclTree) (f f' : Form) (g : Pass) → f ≡ f' → is_array f' ≡ false → Follows ds f g → Starts ds f g
starts-when ds f f' g e h p = typed-starts ds f g p (ap is_array e ∙ h)

starts-by : (ds : List DeclTree) (f f' : Form) (t t' : Term) → f ≡ f' → t ≡ t' → Starts ds f' (walk ds t') → Starts ds f (walk ds t)
starts-by ds f f' t t' e h p = subst (λ f. Starts ds f (walk ds t)) (sym e) (subst (λ t. Starts ds f' (walk ds t)) (sym h) p)

suffix-plain : (at : ℕ) (f : Form) (s : forms.Suffix) → is_array (forms.with_suffix at f s) ≡ false
suffix-plain at f (subscripts es) = refl
suffix-plain at f (field_of name) = refl

suffixes-plain : (at : ℕ) (f : Form) (ss : List forms.Suffix) → is_array f ≡ false → is_array (forms.with_suffixes at f ss) ≡ false
suffixes-plain at f [] h = h
suffixes-plain at f (s ∷ ss) h = suffixes-plain at (forms.with_suffix at f s) ss (suffix-plain at f s)

call-plain : (op : CallOp) (at : ℕ) (f : Form) → is_array (call op at f) ≡ false
call-plain calls.Absolute at f = refl
call-plain calls.Cardinality at f = refl

-- ---- trees of which something is known

abbrev In_compare : List DeclTree → Type 0
In_compare ds = (t : CompareTree) × Unit {0}

abbrev In_mul : List DeclTree → Type 0
In_mul ds = (t : MulTree) × Starts ds (form_mul t) (walk ds (mul_term t))

abbrev In_neg : List DeclTree → Type 0
In_neg ds = (t : NegTree) × Unit {0}

abbrev In_open : List DeclTree → Type 0
In_open ds = (t : OpenTree) × Starts ds (form_open t) (walk ds (open_term t))

abbrev In_prim : List DeclTree → Type 0
In_prim ds = (t : PrimTree) × Starts ds (form_prim t) (walk ds (prim_term t))

abbrev In_sign : List DeclTree → Type 0
In_sign ds = (t : SignTree) × Starts ds (form_sign t) (walk ds (sign_term t))

abbrev In_suffix : List DeclTree → Type 0
In_suffix ds = (t : SuffixTree) × Unit {0}

abbrev In_add_step : List DeclTree → Type 0
In_add_step ds = (t : AddStep) × Unit {0}

abbrev In_add : List DeclTree → Type 0
In_add ds = (t : AddTree) × Starts ds (form_add t) (walk ds (add_term t))

abbrev In_and : List DeclTree → Type 0
In_and ds = (t : AndTree) × Unit {0}

abbrev In_expr : List DeclTree → Type 0
In_expr ds = (t : ExprTree) × Unit {0}

abbrev In_group_step : List DeclTree → Type 0
In_group_step ds = (t : GroupStep) × Unit {0}

abbrev In_group : List DeclTree → Type 0
In_group ds = (t : GroupTree) × Unit {0}

abbrev In_imp : List DeclTree → Type 0
In_imp ds = (t : ImpTree) × Unit {0}

abbrev In_keyed : List DeclTree → Type 0
In_keyed ds = (t : KeyedTree) × Starts ds (form_keyed t).cell (walk ds (keyed_pair t).cell)

abbrev In_last_step : List DeclTree → Type 0
In_last_step ds = (t : LastStep) × Unit {0}

abbrev In_mul_step : List DeclTree → Type 0
In_mul_step ds = (t : MulStep) × Unit {0}

abbrev In_or : List DeclTree → Type 0
In_or ds = (t : OrTree) × Unit {0}

abbrev In_params : List DeclTree → Type 0
In_params ds = (t : ParamsTree) × Unit {0}

abbrev In_post : List DeclTree → Type 0
In_post ds = (t : PostTree) × Starts ds (form_post t) (walk ds (post_term t))

abbrev In_set : List DeclTree → Type 0
In_set ds = (t : SetTree) × Unit {0}

abbrev In_subscripts : List DeclTree → Type 0
In_subscripts ds = (t : SubscriptsTree) × Unit {0}

abbrev inner_add : (ds : List DeclTree) → AddTree-F (In_compare ds) (In_mul ds) (In_neg ds) (In_open ds) (In_prim ds) (In_sign ds) (In_suffix ds) (In_add_step ds) (In_add ds) (In_and ds) (In_expr ds) (In_group_step ds) (In_group ds) (In_imp ds) (In_keyed ds) (In_last_step ds) (In_mul_step ds) (In_or ds) (In_params ds) (In_post ds) (In_set ds) (In_subscripts ds) → AddTree-F CompareTree MulTree NegTree OpenTree PrimTree SignTree SuffixTree AddStep AddTree AndTree ExprTree GroupStep GroupTree ImpTree KeyedTree LastStep MulStep OrTree ParamsTree PostTree SetTree SubscriptsTree
inner_add ds = map-AddTree (In_compare ds) (In_mul ds) (In_neg ds) (In_open ds) (In_prim ds) (In_sign ds) (In_suffix ds) (In_add_step ds) (In_add ds) (In_and ds) (In_expr ds) (In_group_step ds) (In_group ds) (In_imp ds) (In_keyed ds) (In_last_step ds) (In_mul_step ds) (In_or ds) (In_params ds) (In_post ds) (In_set ds) (In_subscripts ds) CompareTree MulTree NegTree OpenTree PrimTree SignTree SuffixTree AddStep AddTree AndTree ExprTree GroupStep GroupTree ImpTree KeyedTree LastStep MulStep OrTree ParamsTree PostTree SetTree SubscriptsTree (λ e. e.0) (λ e. e.0) (λ e. e.0) (λ e. e.0) (λ e. e.0) (λ e. e.0) (λ e. e.0) (λ e. e.0) (λ e. e.0) (λ e. e.0) (λ e. e.0) (λ e. e.0) (λ e. e.0) (λ e. e.0) (λ e. e.0) (λ e. e.0) (λ e. e.0) (λ e. e.0) (λ e. e.0) (λ e. e.0) (λ e. e.0) (λ e. e.0)

abbrev inner_mul : (ds : List DeclTree) → MulTree-F (In_compare ds) (In_mul ds) (In_neg ds) (In_open ds) (In_prim ds) (In_sign ds) (In_suffix ds) (In_add_step ds) (In_add ds) (In_and ds) (In_expr ds) (In_group_step ds) (In_group ds) (In_imp ds) (In_keyed ds) (In_last_step ds) (In_mul_step ds) (In_or ds) (In_params ds) (In_post ds) (In_set ds) (In_subscripts ds) → MulTree-F CompareTree MulTree NegTree OpenTree PrimTree SignTree SuffixTree AddStep AddTree AndTree ExprTree GroupStep GroupTree ImpTree KeyedTree LastStep MulStep OrTree ParamsTree PostTree SetTree SubscriptsTree
inner_mul ds = map-MulTree (In_compare ds) (In_mul ds) (In_neg ds) (In_open ds) (In_prim ds) (In_sign ds) (In_suffix ds) (In_add_step ds) (In_add ds) (In_and ds) (In_expr ds) (In_group_step ds) (In_group ds) (In_imp ds) (In_keyed ds) (In_last_step ds) (In_mul_step ds) (In_or ds) (In_params ds) (In_post ds) (In_set ds) (In_subscripts ds) CompareTree MulTree NegTree OpenTree PrimTree SignTree SuffixTree AddStep AddTree AndTree ExprTree GroupStep GroupTree ImpTree KeyedTree LastStep MulStep OrTree ParamsTree PostTree SetTree SubscriptsTree (λ e. e.0) (λ e. e.0) (λ e. e.0) (λ e. e.0) (λ e. e.0) (λ e. e.0) (λ e. e.0) (λ e. e.0) (λ e. e.0) (λ e. e.0) (λ e. e.0) (λ e. e.0) (λ e. e.0) (λ e. e.0) (λ e. e.0) (λ e. e.0) (λ e. e.0) (λ e. e.0) (λ e. e.0) (λ e. e.0) (λ e. e.0) (λ e. e.0)

abbrev inner_open : (ds : List DeclTree) → OpenTree-F (In_compare ds) (In_mul ds) (In_neg ds) (In_open ds) (In_prim ds) (In_sign ds) (In_suffix ds) (In_add_step ds) (In_add ds) (In_and ds) (In_expr ds) (In_group_step ds) (In_group ds) (In_imp ds) (In_keyed ds) (In_last_step ds) (In_mul_step ds) (In_or ds) (In_params ds) (In_post ds) (In_set ds) (In_subscripts ds) → OpenTree-F CompareTree MulTree NegTree OpenTree PrimTree SignTree SuffixTree AddStep AddTree AndTree ExprTree GroupStep GroupTree ImpTree KeyedTree LastStep MulStep OrTree ParamsTree PostTree SetTree SubscriptsTree
inner_open ds = map-OpenTree (In_compare ds) (In_mul ds) (In_neg ds) (In_open ds) (In_prim ds) (In_sign ds) (In_suffix ds) (In_add_step ds) (In_add ds) (In_and ds) (In_expr ds) (In_group_step ds) (In_group ds) (In_imp ds) (In_keyed ds) (In_last_step ds) (In_mul_step ds) (In_or ds) (In_params ds) (In_post ds) (In_set ds) (In_subscripts ds) CompareTree MulTree NegTree OpenTree PrimTree SignTree SuffixTree AddStep AddTree AndTree ExprTree GroupStep GroupTree ImpTree KeyedTree LastStep MulStep OrTree ParamsTree PostTree SetTree SubscriptsTree (λ e. e.0) (λ e. e.0) (λ e. e.0) (λ e. e.0) (λ e. e.0) (λ e. e.0) (λ e. e.0) (λ e. e.0) (λ e. e.0) (λ e. e.0) (λ e. e.0) (λ e. e.0) (λ e. e.0) (λ e. e.0) (λ e. e.0) (λ e. e.0) (λ e. e.0) (λ e. e.0) (λ e. e.0) (λ e. e.0) (λ e. e.0) (λ e. e.0)

abbrev inner_sign : (ds : List DeclTree) → SignTree-F (In_compare ds) (In_mul ds) (In_neg ds) (In_open ds) (In_prim ds) (In_sign ds) (In_suffix ds) (In_add_step ds) (In_add ds) (In_and ds) (In_expr ds) (In_group_step ds) (In_group ds) (In_imp ds) (In_keyed ds) (In_last_step ds) (In_mul_step ds) (In_or ds) (In_params ds) (In_post ds) (In_set ds) (In_subscripts ds) → SignTree-F CompareTree MulTree NegTree OpenTree PrimTree SignTree SuffixTree AddStep AddTree AndTree ExprTree GroupStep GroupTree ImpTree KeyedTree LastStep MulStep OrTree ParamsTree PostTree SetTree SubscriptsTree
inner_sign ds = map-SignTree (In_compare ds) (In_mul ds) (In_neg ds) (In_open ds) (In_prim ds) (In_sign ds) (In_suffix ds) (In_add_step ds) (In_add ds) (In_and ds) (In_expr ds) (In_group_step ds) (In_group ds) (In_imp ds) (In_keyed ds) (In_last_step ds) (In_mul_step ds) (In_or ds) (In_params ds) (In_post ds) (In_set ds) (In_subscripts ds) CompareTree MulTree NegTree OpenTree PrimTree SignTree SuffixTree AddStep AddTree AndTree ExprTree GroupStep GroupTree ImpTree KeyedTree LastStep MulStep OrTree ParamsTree PostTree SetTree SubscriptsTree (λ e. e.0) (λ e. e.0) (λ e. e.0) (λ e. e.0) (λ e. e.0) (λ e. e.0) (λ e. e.0) (λ e. e.0) (λ e. e.0) (λ e. e.0) (λ e. e.0) (λ e. e.0) (λ e. e.0) (λ e. e.0) (λ e. e.0) (λ e. e.0) (λ e. e.0) (λ e. e.0) (λ e. e.0) (λ e. e.0) (λ e. e.0) (λ e. e.0)

abbrev inner_post : (ds : List DeclTree) → PostTree-F (In_compare ds) (In_mul ds) (In_neg ds) (In_open ds) (In_prim ds) (In_sign ds) (In_suffix ds) (In_add_step ds) (In_add ds) (In_and ds) (In_expr ds) (In_group_step ds) (In_group ds) (In_imp ds) (In_keyed ds) (In_last_step ds) (In_mul_step ds) (In_or ds) (In_params ds) (In_post ds) (In_set ds) (In_subscripts ds) → PostTree-F CompareTree MulTree NegTree OpenTree PrimTree SignTree SuffixTree AddStep AddTree AndTree ExprTree GroupStep GroupTree ImpTree KeyedTree LastStep MulStep OrTree ParamsTree PostTree SetTree SubscriptsTree
inner_post ds = map-PostTree (In_compare ds) (In_mul ds) (In_neg ds) (In_open ds) (In_prim ds) (In_sign ds) (In_suffix ds) (In_add_step ds) (In_add ds) (In_and ds) (In_expr ds) (In_group_step ds) (In_group ds) (In_imp ds) (In_keyed ds) (In_last_step ds) (In_mul_step ds) (In_or ds) (In_params ds) (In_post ds) (In_set ds) (In_subscripts ds) CompareTree MulTree NegTree OpenTree PrimTree SignTree SuffixTree AddStep AddTree AndTree ExprTree GroupStep GroupTree ImpTree KeyedTree LastStep MulStep OrTree ParamsTree PostTree SetTree SubscriptsTree (λ e. e.0) (λ e. e.0) (λ e. e.0) (λ e. e.0) (λ e. e.0) (λ e. e.0) (λ e. e.0) (λ e. e.0) (λ e. e.0) (λ e. e.0) (λ e. e.0) (λ e. e.0) (λ e. e.0) (λ e. e.0) (λ e. e.0) (λ e. e.0) (λ e. e.0) (λ e. e.0) (λ e. e.0) (λ e. e.0) (λ e. e.0) (λ e. e.0)

abbrev inner_prim : (ds : List DeclTree) → PrimTree-F (In_compare ds) (In_mul ds) (In_neg ds) (In_open ds) (In_prim ds) (In_sign ds) (In_suffix ds) (In_add_step ds) (In_add ds) (In_and ds) (In_expr ds) (In_group_step ds) (In_group ds) (In_imp ds) (In_keyed ds) (In_last_step ds) (In_mul_step ds) (In_or ds) (In_params ds) (In_post ds) (In_set ds) (In_subscripts ds) → PrimTree-F CompareTree MulTree NegTree OpenTree PrimTree SignTree SuffixTree AddStep AddTree AndTree ExprTree GroupStep GroupTree ImpTree KeyedTree LastStep MulStep OrTree ParamsTree PostTree SetTree SubscriptsTree
inner_prim ds = map-PrimTree (In_compare ds) (In_mul ds) (In_neg ds) (In_open ds) (In_prim ds) (In_sign ds) (In_suffix ds) (In_add_step ds) (In_add ds) (In_and ds) (In_expr ds) (In_group_step ds) (In_group ds) (In_imp ds) (In_keyed ds) (In_last_step ds) (In_mul_step ds) (In_or ds) (In_params ds) (In_post ds) (In_set ds) (In_subscripts ds) CompareTree MulTree NegTree OpenTree PrimTree SignTree SuffixTree AddStep AddTree AndTree ExprTree GroupStep GroupTree ImpTree KeyedTree LastStep MulStep OrTree ParamsTree PostTree SetTree SubscriptsTree (λ e. e.0) (λ e. e.0) (λ e. e.0) (λ e. e.0) (λ e. e.0) (λ e. e.0) (λ e. e.0) (λ e. e.0) (λ e. e.0) (λ e. e.0) (λ e. e.0) (λ e. e.0) (λ e. e.0) (λ e. e.0) (λ e. e.0) (λ e. e.0) (λ e. e.0) (λ e. e.0) (λ e. e.0) (λ e. e.0) (λ e. e.0) (λ e. e.0)

abbrev inner_keyed : (ds : List DeclTree) → KeyedTree-F (In_compare ds) (In_mul ds) (In_neg ds) (In_open ds) (In_prim ds) (In_sign ds) (In_suffix ds) (In_add_step ds) (In_add ds) (In_and ds) (In_expr ds) (In_group_step ds) (In_group ds) (In_imp ds) (In_keyed ds) (In_last_step ds) (In_mul_step ds) (In_or ds) (In_params ds) (In_post ds) (In_set ds) (In_subscripts ds) → KeyedTree-F CompareTree MulTree NegTree OpenTree PrimTree SignTree SuffixTree AddStep AddTree AndTree ExprTree GroupStep GroupTree ImpTree KeyedTree LastStep MulStep OrTree ParamsTree PostTree SetTree SubscriptsTree
inner_keyed ds = map-KeyedTree (In_compare ds) (In_mul ds) (In_neg ds) (In_open ds) (In_prim ds) (In_sign ds) (In_suffix ds) (In_add_step ds) (In_add ds) (In_and ds) (In_expr ds) (In_group_step ds) (In_group ds) (In_imp ds) (In_keyed ds) (In_last_step ds) (In_mul_step ds) (In_or ds) (In_params ds) (In_post ds) (In_set ds) (In_subscripts ds) CompareTree MulTree NegTree OpenTree PrimTree SignTree SuffixTree AddStep AddTree AndTree ExprTree GroupStep GroupTree ImpTree KeyedTree LastStep MulStep OrTree ParamsTree PostTree SetTree SubscriptsTree (λ e. e.0) (λ e. e.0) (λ e. e.0) (λ e. e.0) (λ e. e.0) (λ e. e.0) (λ e. e.0) (λ e. e.0) (λ e. e.0) (λ e. e.0) (λ e. e.0) (λ e. e.0) (λ e. e.0) (λ e. e.0) (λ e. e.0) (λ e. e.0) (λ e. e.0) (λ e. e.0) (λ e. e.0) (λ e. e.0) (λ e. e.0) (λ e. e.0)

-- ---- cells

cells-start : (ds : List DeclTree) (es : List (In_add ds)) (sc : Scope) (s : Sort) (is ks : List Sort) → initial_cells sc s is (forms_of (map form_add (map (λ e. e.0) es))) ≡ Ok ks →
    Takes (each (map (walk ds) (map add_term (map (λ e. e.0) es)))) ks (parts_fields ds sc (forms_of (map form_add (map (λ e. e.0) es))))
unfolding initial initial_cells parts_fields
cells-start ds [] sc s is ks h = subst (λ ks. Takes (each []) ks []) (same [] ks h) takes-none
cells-start ds (e ∷ es) sc s is ks h =
    let w = went (initial sc s is (form_add e.0)) _ ks h in
    let x = went (initial_cells sc s is (forms_of (map form_add (map (λ e. e.0) es)))) _ ks w.2 in
    let g : Pass = each (map (walk ds) (map add_term (map (λ e. e.0) es))) in
    let b : List FieldPlace = parts_fields ds sc (forms_of (map form_add (map (λ e. e.0) es))) in
    subst (λ ks. Takes (λ st. g (walk ds (add_term e.0) st)) ks (form_fields ds sc (form_add e.0) ++ b)) (same _ ks x.2)
    (takes-both (walk ds (add_term e.0)) g w.0 x.0 (form_fields ds sc (form_add e.0)) b (e.1 sc s is w.0 w.1) (cells-start ds es sc s is x.0 x.1))

pairs-start : (ds : List DeclTree) (es : List (In_keyed ds)) (sc : Scope) (s i : Sort) (is ks : List Sort) → initial_pairs sc s i is (pairs_of (map form_keyed (map (λ e. e.0) es))) ≡ Ok ks →
    Takes (in_turn (map (walk ds) (map (λ p. p.key) (map keyed_pair (map (λ e. e.0) es)))) (map (walk ds) (map (λ p. p.cell) (map keyed_pair (map (λ e. e.0) es))))) ks (pairs_fields ds sc (pairs_of (map form_keyed (map (λ e. e.0) es))))
unfolding initial initial_pairs pairs_fields
pairs-start ds [] sc s i is ks h = subst (λ ks. Takes (in_turn [] []) ks []) (same [] ks h) takes-none
pairs-start ds (e ∷ es) sc s i is ks h =
    let w = went (and_then (typing sc (form_keyed e.0).key) (used data_alone (fits_in sc i))) _ ks h in
    let x = went (initial sc s is (form_keyed e.0).cell) _ ks w.2 in
    let y = went (initial_pairs sc s i is (pairs_of (map form_keyed (map (λ e. e.0) es)))) _ ks x.2 in
    let k : Pass = walk ds (keyed_pair e.0).key in
    let c : Pass = walk ds (keyed_pair e.0).cell in
    let g : Pass = in_turn (map (walk ds) (map (λ p. p.key) (map keyed_pair (map (λ e. e.0) es)))) (map (walk ds) (map (λ p. p.cell) (map keyed_pair (map (λ e. e.0) es)))) in
    let a : List FieldPlace = form_fields ds sc (form_keyed e.0).key in
    let b : List FieldPlace = form_fields ds sc (form_keyed e.0).cell in
    let d : List FieldPlace = pairs_fields ds sc (pairs_of (map form_keyed (map (λ e. e.0) es))) in
    subst (λ ks. Takes (λ st. g (c (k st))) ks (a ++ (b ++ d))) (same _ ks y.2)
    (takes-both k (λ st. g (c st)) (kinds w.0) (x.0 ++ y.0) a (b ++ d)
    (takes-typed ds (form_keyed e.0).key k (follows-keyed ds e.0).key_follows sc data_alone (fits_in sc i) (kinds w.0) (ap (λ d. and_then d (λ n. Ok (kinds n))) w.1))
    (takes-both c g x.0 y.0 b d (e.1 sc s is x.0 x.1) (pairs-start ds es sc s i is y.0 y.1)))

starts-Array : (ds : List DeclTree) (at : ℕ) (es : List (In_add ds)) → Follows ds (cells at (forms_of (map form_add (map (λ e. e.0) es)))) (walk ds (terms.Array at (map add_term (map (λ e. e.0) es)))) →
    Starts ds (cells at (forms_of (map form_add (map (λ e. e.0) es)))) (walk ds (terms.Array at (map add_term (map (λ e. e.0) es))))
unfolding initial form_fields
starts-Array ds at es p sc s [] ks h = takes-typed ds (cells at (forms_of (map form_add (map (λ e. e.0) es)))) (walk ds (terms.Array at (map add_term (map (λ e. e.0) es)))) p sc data_alone (fits_in sc (shaped [] s)) ks (sym (alone _ sc s) ∙ h)
starts-Array ds at es p sc s (i ∷ is) ks h =
    let w = went (initial_cells sc s is (forms_of (map form_add (map (λ e. e.0) es)))) _ ks h in
    let g : Pass = each (map (walk ds) (map add_term (map (λ e. e.0) es))) in
    let a : List FieldPlace = parts_fields ds sc (forms_of (map form_add (map (λ e. e.0) es))) in
    subst (λ ks. Takes (walk ds (terms.Array at (map add_term (map (λ e. e.0) es)))) ks a) (same _ ks w.2)
    (takes-by (walk ds (terms.Array at (map add_term (map (λ e. e.0) es)))) (λ st. g (one st)) (shaped (i ∷ is) s ∷ w.0) a (walk-Array ds at (map add_term (map (λ e. e.0) es)))
    (takes-one g (shaped (i ∷ is) s) w.0 a (cells-start ds es sc s is w.0 w.1)))

abbrev keys_of : (ds : List DeclTree) → List (In_keyed ds) → List Term
keys_of ds es = map (λ p. p.key) (map keyed_pair (map (λ e. e.0) es))

abbrev cells_of : (ds : List DeclTree) → List (In_keyed ds) → List Term
cells_of ds es = map (λ p. p.cell) (map keyed_pair (map (λ e. e.0) es))

starts-KeyedArray : (ds : List DeclTree) (at : ℕ) (es : List (In_keyed ds)) → Follows ds (keyed_cells at (pairs_of (map form_keyed (map (λ e. e.0) es)))) (walk ds (terms.KeyedArray at (keys_of ds es) (cells_of ds es))) →
    Starts ds (keyed_cells at (pairs_of (map form_keyed (map (λ e. e.0) es)))) (walk ds (terms.KeyedArray at (keys_of ds es) (cells_of ds es)))
unfolding initial form_fields
starts-KeyedArray ds at es p sc s [] ks h = takes-typed ds (keyed_cells at (pairs_of (map form_keyed (map (λ e. e.0) es)))) (walk ds (terms.KeyedArray at (keys_of ds es) (cells_of ds es))) p sc data_alone (fits_in sc (shaped [] s)) ks (sym (alone _ sc s) ∙ h)
starts-KeyedArray ds at es p sc s (i ∷ is) ks h =
    let w = went (initial_pairs sc s i is (pairs_of (map form_keyed (map (λ e. e.0) es)))) _ ks h in
    let g : Pass = in_turn (map (walk ds) (keys_of ds es)) (map (walk ds) (cells_of ds es)) in
    let a : List FieldPlace = pairs_fields ds sc (pairs_of (map form_keyed (map (λ e. e.0) es))) in
    subst (λ ks. Takes (walk ds (terms.KeyedArray at (keys_of ds es) (cells_of ds es))) ks a) (same _ ks w.2)
    (takes-by (walk ds (terms.KeyedArray at (keys_of ds es) (cells_of ds es))) (λ st. g (one st)) (shaped (i ∷ is) s ∷ w.0) a (walk-KeyedArray ds at (keys_of ds es) (cells_of ds es))
    (takes-one g (shaped (i ∷ is) s) w.0 a (pairs-start ds es sc s i is w.0 w.1)))

-- ---- chains and what stands behind a primary

starts-sum : (ds : List DeclTree) (at : ℕ) (f : Form) (t : Term) → Starts ds f (walk ds t) → (rest : List AddStep) →
    Follows ds (forms.chain (arithmetic at) f (map form_add_step rest)) (walk ds (says.chain at t (map add_step_of rest))) →
    Starts ds (forms.chain (arithmetic at) f (map form_add_step rest)) (walk ds (says.chain at t (map add_step_of rest)))
starts-sum ds at f t p [] q = p
starts-sum ds at f t p (s ∷ ss) q = typed-starts ds (forms.chain (arithmetic at) f (map form_add_step (s ∷ ss))) (walk ds (says.chain at t (map add_step_of (s ∷ ss)))) q refl

starts-product : (ds : List DeclTree) (at : ℕ) (f : Form) (t : Term) → Starts ds f (walk ds t) → (steps : List MulStep) (last : Option LastStep) →
    Follows ds (forms.chain (arithmetic at) f (map form_mul_step steps ++ forms.or_none (option_map form_last_step last))) (walk ds (says.chain at t (map mul_step_of steps ++ says.or_none (option_map last_step_of last)))) →
    Starts ds (forms.chain (arithmetic at) f (map form_mul_step steps ++ forms.or_none (option_map form_last_step last))) (walk ds (says.chain at t (map mul_step_of steps ++ says.or_none (option_map last_step_of last))))
starts-product ds at f t p [] None q = p
starts-product ds at f t p [] (Some l) q = typed-starts ds (forms.chain (arithmetic at) f (forms.or_none (option_map form_last_step (Some l)))) (walk ds (says.chain at t (says.or_none (option_map last_step_of (Some l))))) q refl
starts-product ds at f t p (s ∷ ss) last q = typed-starts ds (forms.chain (arithmetic at) f (map form_mul_step (s ∷ ss) ++ forms.or_none (option_map form_last_step last))) (walk ds (says.chain at t (map mul_step_of (s ∷ ss) ++ says.or_none (option_map last_step_of last)))) q refl

starts-suffixes : (ds : List DeclTree) (at : ℕ) (f : Form) (t : Term) → Starts ds f (walk ds t) → (ss : List SuffixTree) →
    Follows ds (forms.with_suffixes at f (map form_suffix ss)) (walk ds (says.with_suffixes at t [] (map suffix_of ss))) →
    Starts ds (forms.with_suffixes at f (map form_suffix ss)) (walk ds (says.with_suffixes at t [] (map suffix_of ss)))
starts-suffixes ds at f t p [] q = p
starts-suffixes ds at f t p (s ∷ ss) q =
    typed-starts ds (forms.with_suffixes at f (map form_suffix (s ∷ ss))) (walk ds (says.with_suffixes at t [] (map suffix_of (s ∷ ss)))) q (suffixes-plain at (forms.with_suffix at f (form_suffix s)) (map form_suffix ss) (suffix-plain at f (form_suffix s)))

-- ---- each tree

case_add : (ds : List DeclTree) (y : AddTree-F (In_compare ds) (In_mul ds) (In_neg ds) (In_open ds) (In_prim ds) (In_sign ds) (In_suffix ds) (In_add_step ds) (In_add ds) (In_and ds) (In_expr ds) (In_group_step ds) (In_group ds) (In_imp ds) (In_keyed ds) (In_last_step ds) (In_mul_step ds) (In_or ds) (In_params ds) (In_post ds) (In_set ds) (In_subscripts ds)) → Starts ds (form_add (roll-AddTree (inner_add ds y))) (walk ds (add_term (roll-AddTree (inner_add ds y))))
case_add ds y =
    let F : AddTree-F CompareTree MulTree NegTree OpenTree PrimTree SignTree SuffixTree AddStep AddTree AndTree ExprTree GroupStep GroupTree ImpTree KeyedTree LastStep MulStep OrTree ParamsTree PostTree SetTree SubscriptsTree → Form = λ z. forms.chain (arithmetic z.at) (form_mul z.first) (map form_add_step z.rest) in
    let G : AddTree-F CompareTree MulTree NegTree OpenTree PrimTree SignTree SuffixTree AddStep AddTree AndTree ExprTree GroupStep GroupTree ImpTree KeyedTree LastStep MulStep OrTree ParamsTree PostTree SetTree SubscriptsTree → Term = λ z. says.chain z.at (mul_term z.first) (map add_step_of z.rest) in
    let e : form_add (roll-AddTree (inner_add ds y)) ≡ F (inner_add ds y) = form_is.form_add-is (roll-AddTree (inner_add ds y)) ∙ ap F (out-roll-AddTree (inner_add ds y)) in
    let h : add_term (roll-AddTree (inner_add ds y)) ≡ G (inner_add ds y) = term_is.add_term-is (roll-AddTree (inner_add ds y)) ∙ ap G (out-roll-AddTree (inner_add ds y)) in
    starts-by ds (form_add (roll-AddTree (inner_add ds y))) (F (inner_add ds y)) (add_term (roll-AddTree (inner_add ds y))) (G (inner_add ds y)) e h
    (starts-sum ds y.at (form_mul y.first.0) (mul_term y.first.0) y.first.1 (map (λ e. e.0) y.rest) (by-both ds (F (inner_add ds y)) (form_add (roll-AddTree (inner_add ds y))) (G (inner_add ds y)) (add_term (roll-AddTree (inner_add ds y))) (sym e) (sym h) (follows-add ds (roll-AddTree (inner_add ds y)))))

case_post : (ds : List DeclTree) (y : PostTree-F (In_compare ds) (In_mul ds) (In_neg ds) (In_open ds) (In_prim ds) (In_sign ds) (In_suffix ds) (In_add_step ds) (In_add ds) (In_and ds) (In_expr ds) (In_group_step ds) (In_group ds) (In_imp ds) (In_keyed ds) (In_last_step ds) (In_mul_step ds) (In_or ds) (In_params ds) (In_post ds) (In_set ds) (In_subscripts ds)) → Starts ds (form_post (roll-PostTree (inner_post ds y))) (walk ds (post_term (roll-PostTree (inner_post ds y))))
case_post ds y =
    let F : PostTree-F CompareTree MulTree NegTree OpenTree PrimTree SignTree SuffixTree AddStep AddTree AndTree ExprTree GroupStep GroupTree ImpTree KeyedTree LastStep MulStep OrTree ParamsTree PostTree SetTree SubscriptsTree → Form = λ z. forms.with_suffixes z.at (form_prim z.prim) (map form_suffix z.suffixes) in
    let G : PostTree-F CompareTree MulTree NegTree OpenTree PrimTree SignTree SuffixTree AddStep AddTree AndTree ExprTree GroupStep GroupTree ImpTree KeyedTree LastStep MulStep OrTree ParamsTree PostTree SetTree SubscriptsTree → Term = λ z. says.with_suffixes z.at (prim_term z.prim) [] (map suffix_of z.suffixes) in
    let e : form_post (roll-PostTree (inner_post ds y)) ≡ F (inner_post ds y) = form_is.form_post-is (roll-PostTree (inner_post ds y)) ∙ ap F (out-roll-PostTree (inner_post ds y)) in
    let h : post_term (roll-PostTree (inner_post ds y)) ≡ G (inner_post ds y) = term_is.post_term-is (roll-PostTree (inner_post ds y)) ∙ ap G (out-roll-PostTree (inner_post ds y)) in
    starts-by ds (form_post (roll-PostTree (inner_post ds y))) (F (inner_post ds y)) (post_term (roll-PostTree (inner_post ds y))) (G (inner_post ds y)) e h
    (starts-suffixes ds y.at (form_prim y.prim.0) (prim_term y.prim.0) y.prim.1 (map (λ e. e.0) y.suffixes) (by-both ds (F (inner_post ds y)) (form_post (roll-PostTree (inner_post ds y))) (G (inner_post ds y)) (post_term (roll-PostTree (inner_post ds y))) (sym e) (sym h) (follows-post ds (roll-PostTree (inner_post ds y)))))

case_keyed : (ds : List DeclTree) (y : KeyedTree-F (In_compare ds) (In_mul ds) (In_neg ds) (In_open ds) (In_prim ds) (In_sign ds) (In_suffix ds) (In_add_step ds) (In_add ds) (In_and ds) (In_expr ds) (In_group_step ds) (In_group ds) (In_imp ds) (In_keyed ds) (In_last_step ds) (In_mul_step ds) (In_or ds) (In_params ds) (In_post ds) (In_set ds) (In_subscripts ds)) → Starts ds (form_keyed (roll-KeyedTree (inner_keyed ds y))).cell (walk ds (keyed_pair (roll-KeyedTree (inner_keyed ds y))).cell)
case_keyed ds y =
    let F : KeyedTree-F CompareTree MulTree NegTree OpenTree PrimTree SignTree SuffixTree AddStep AddTree AndTree ExprTree GroupStep GroupTree ImpTree KeyedTree LastStep MulStep OrTree ParamsTree PostTree SetTree SubscriptsTree → Form = λ z. form_add z.value in
    let G : KeyedTree-F CompareTree MulTree NegTree OpenTree PrimTree SignTree SuffixTree AddStep AddTree AndTree ExprTree GroupStep GroupTree ImpTree KeyedTree LastStep MulStep OrTree ParamsTree PostTree SetTree SubscriptsTree → Term = λ z. add_term z.value in
    starts-by ds (form_keyed (roll-KeyedTree (inner_keyed ds y))).cell (F (inner_keyed ds y)) (keyed_pair (roll-KeyedTree (inner_keyed ds y))).cell (G (inner_keyed ds y)) (ap (λ p. p.cell) (form_is.form_keyed-is (roll-KeyedTree (inner_keyed ds y))) ∙ ap F (out-roll-KeyedTree (inner_keyed ds y))) (ap (λ p. p.cell) (term_is.keyed_pair-is (roll-KeyedTree (inner_keyed ds y))) ∙ ap G (out-roll-KeyedTree (inner_keyed ds y)))
    y.value.1

case_open : (ds : List DeclTree) (y : OpenTree-F (In_compare ds) (In_mul ds) (In_neg ds) (In_open ds) (In_prim ds) (In_sign ds) (In_suffix ds) (In_add_step ds) (In_add ds) (In_and ds) (In_expr ds) (In_group_step ds) (In_group ds) (In_imp ds) (In_keyed ds) (In_last_step ds) (In_mul_step ds) (In_or ds) (In_params ds) (In_post ds) (In_set ds) (In_subscripts ds)) → Starts ds (form_open (roll-OpenTree (inner_open ds y))) (walk ds (open_term (roll-OpenTree (inner_open ds y))))
case_open ds (OpenTree-F.NegativeOpen at e) = subst (λ t. Starts ds (form_open t) (walk ds (open_term t))) (sym (opens.rolls-NegativeOpen at e.0)) (starts-when ds (form_open (opens.NegativeOpen at e.0)) _ (walk ds (open_term (opens.NegativeOpen at e.0))) (form_is.form_open-NegativeOpen at e.0) refl (follows-open ds (opens.NegativeOpen at e.0)))
case_open ds (OpenTree-F.Aggregate at op e d) = subst (λ t. Starts ds (form_open t) (walk ds (open_term t))) (sym (opens.rolls-Aggregate at op e.0 d.0)) (starts-when ds (form_open (opens.Aggregate at op e.0 d.0)) _ (walk ds (open_term (opens.Aggregate at op e.0 d.0))) (form_is.form_open-Aggregate at op e.0 d.0) refl (follows-open ds (opens.Aggregate at op e.0 d.0)))

case_sign : (ds : List DeclTree) (y : SignTree-F (In_compare ds) (In_mul ds) (In_neg ds) (In_open ds) (In_prim ds) (In_sign ds) (In_suffix ds) (In_add_step ds) (In_add ds) (In_and ds) (In_expr ds) (In_group_step ds) (In_group ds) (In_imp ds) (In_keyed ds) (In_last_step ds) (In_mul_step ds) (In_or ds) (In_params ds) (In_post ds) (In_set ds) (In_subscripts ds)) → Starts ds (form_sign (roll-SignTree (inner_sign ds y))) (walk ds (sign_term (roll-SignTree (inner_sign ds y))))
case_sign ds (SignTree-F.Negative at e) = subst (λ t. Starts ds (form_sign t) (walk ds (sign_term t))) (sym (signs.rolls-Negative at e.0)) (starts-when ds (form_sign (signs.Negative at e.0)) _ (walk ds (sign_term (signs.Negative at e.0))) (form_is.form_sign-Negative at e.0) refl (follows-sign ds (signs.Negative at e.0)))
case_sign ds (SignTree-F.Postfix e) = subst (λ t. Starts ds (form_sign t) (walk ds (sign_term t))) (sym (signs.rolls-Postfix e.0)) (starts-by ds (form_sign (signs.Postfix e.0)) _ (sign_term (signs.Postfix e.0)) _ (form_is.form_sign-Postfix e.0) (term_is.sign_term-Postfix e.0) (e.1))

case_mul : (ds : List DeclTree) (y : MulTree-F (In_compare ds) (In_mul ds) (In_neg ds) (In_open ds) (In_prim ds) (In_sign ds) (In_suffix ds) (In_add_step ds) (In_add ds) (In_and ds) (In_expr ds) (In_group_step ds) (In_group ds) (In_imp ds) (In_keyed ds) (In_last_step ds) (In_mul_step ds) (In_or ds) (In_params ds) (In_post ds) (In_set ds) (In_subscripts ds)) → Starts ds (form_mul (roll-MulTree (inner_mul ds y))) (walk ds (mul_term (roll-MulTree (inner_mul ds y))))
case_mul ds (MulTree-F.Opened e) = subst (λ t. Starts ds (form_mul t) (walk ds (mul_term t))) (sym (muls.rolls-Opened e.0)) (starts-by ds (form_mul (muls.Opened e.0)) _ (mul_term (muls.Opened e.0)) _ (form_is.form_mul-Opened e.0) (term_is.mul_term-Opened e.0) (e.1))
case_mul ds (MulTree-F.Product at e steps None) = subst (λ t. Starts ds (form_mul t) (walk ds (mul_term t))) (sym (muls.rolls-Product at e.0 (map (λ e. e.0) steps) None)) (starts-by ds (form_mul (muls.Product at e.0 (map (λ e. e.0) steps) None)) _ (mul_term (muls.Product at e.0 (map (λ e. e.0) steps) None)) _ (form_is.form_mul-Product at e.0 (map (λ e. e.0) steps) None) (term_is.mul_term-Product at e.0 (map (λ e. e.0) steps) None) (starts-product ds at (form_sign e.0) (sign_term e.0) e.1 (map (λ e. e.0) steps) None (by-both ds _ (form_mul (muls.Product at e.0 (map (λ e. e.0) steps) None)) _ (mul_term (muls.Product at e.0 (map (λ e. e.0) steps) None)) (sym (form_is.form_mul-Product at e.0 (map (λ e. e.0) steps) None)) (sym (term_is.mul_term-Product at e.0 (map (λ e. e.0) steps) None)) (follows-mul ds (muls.Product at e.0 (map (λ e. e.0) steps) None)))))
case_mul ds (MulTree-F.Product at e steps (Some d)) = subst (λ t. Starts ds (form_mul t) (walk ds (mul_term t))) (sym (muls.rolls-Product at e.0 (map (λ e. e.0) steps) (Some d.0))) (starts-by ds (form_mul (muls.Product at e.0 (map (λ e. e.0) steps) (Some d.0))) _ (mul_term (muls.Product at e.0 (map (λ e. e.0) steps) (Some d.0))) _ (form_is.form_mul-Product at e.0 (map (λ e. e.0) steps) (Some d.0)) (term_is.mul_term-Product at e.0 (map (λ e. e.0) steps) (Some d.0)) (starts-product ds at (form_sign e.0) (sign_term e.0) e.1 (map (λ e. e.0) steps) (Some d.0) (by-both ds _ (form_mul (muls.Product at e.0 (map (λ e. e.0) steps) (Some d.0))) _ (mul_term (muls.Product at e.0 (map (λ e. e.0) steps) (Some d.0))) (sym (form_is.form_mul-Product at e.0 (map (λ e. e.0) steps) (Some d.0))) (sym (term_is.mul_term-Product at e.0 (map (λ e. e.0) steps) (Some d.0))) (follows-mul ds (muls.Product at e.0 (map (λ e. e.0) steps) (Some d.0))))))

case_prim : (ds : List DeclTree) (y : PrimTree-F (In_compare ds) (In_mul ds) (In_neg ds) (In_open ds) (In_prim ds) (In_sign ds) (In_suffix ds) (In_add_step ds) (In_add ds) (In_and ds) (In_expr ds) (In_group_step ds) (In_group ds) (In_imp ds) (In_keyed ds) (In_last_step ds) (In_mul_step ds) (In_or ds) (In_params ds) (In_post ds) (In_set ds) (In_subscripts ds)) → Starts ds (form_prim (roll-PrimTree (inner_prim ds y))) (walk ds (prim_term (roll-PrimTree (inner_prim ds y))))
case_prim ds (PrimTree-F.Number at n) = subst (λ t. Starts ds (form_prim t) (walk ds (prim_term t))) (sym (prims.rolls-Number at n)) (starts-when ds (form_prim (prims.Number at n)) _ (walk ds (prim_term (prims.Number at n))) (form_is.form_prim-Number at n) refl (follows-prim ds (prims.Number at n)))
case_prim ds (PrimTree-F.Named name) = subst (λ t. Starts ds (form_prim t) (walk ds (prim_term t))) (sym (prims.rolls-Named name)) (starts-when ds (form_prim (prims.Named name)) _ (walk ds (prim_term (prims.Named name))) (form_is.form_prim-Named name) refl (follows-prim ds (prims.Named name)))
case_prim ds (PrimTree-F.Bracket at e) = subst (λ t. Starts ds (form_prim t) (walk ds (prim_term t))) (sym (prims.rolls-Bracket at e.0)) (starts-when ds (form_prim (prims.Bracket at e.0)) _ (walk ds (prim_term (prims.Bracket at e.0))) (form_is.form_prim-Bracket at e.0) refl (follows-prim ds (prims.Bracket at e.0)))
case_prim ds (PrimTree-F.Record at e es) = subst (λ t. Starts ds (form_prim t) (walk ds (prim_term t))) (sym (prims.rolls-Record at e.0 (map (λ e. e.0) es))) (starts-when ds (form_prim (prims.Record at e.0 (map (λ e. e.0) es))) _ (walk ds (prim_term (prims.Record at e.0 (map (λ e. e.0) es)))) (form_is.form_prim-Record at e.0 (map (λ e. e.0) es)) refl (follows-prim ds (prims.Record at e.0 (map (λ e. e.0) es))))
case_prim ds (PrimTree-F.Listed at es) = subst (λ t. Starts ds (form_prim t) (walk ds (prim_term t))) (sym (prims.rolls-Listed at (map (λ e. e.0) es))) (starts-when ds (form_prim (prims.Listed at (map (λ e. e.0) es))) _ (walk ds (prim_term (prims.Listed at (map (λ e. e.0) es)))) (form_is.form_prim-Listed at (map (λ e. e.0) es)) refl (follows-prim ds (prims.Listed at (map (λ e. e.0) es))))
case_prim ds (PrimTree-F.Described at e d) = subst (λ t. Starts ds (form_prim t) (walk ds (prim_term t))) (sym (prims.rolls-Described at e.0 d.0)) (starts-when ds (form_prim (prims.Described at e.0 d.0)) _ (walk ds (prim_term (prims.Described at e.0 d.0))) (form_is.form_prim-Described at e.0 d.0) refl (follows-prim ds (prims.Described at e.0 d.0)))
case_prim ds (PrimTree-F.Array at es) = subst (λ t. Starts ds (form_prim t) (walk ds (prim_term t))) (sym (prims.rolls-Array at (map (λ e. e.0) es))) (starts-by ds (form_prim (prims.Array at (map (λ e. e.0) es))) _ (prim_term (prims.Array at (map (λ e. e.0) es))) _ (form_is.form_prim-Array at (map (λ e. e.0) es)) (term_is.prim_term-Array at (map (λ e. e.0) es)) (starts-Array ds at es (by-both ds _ (form_prim (prims.Array at (map (λ e. e.0) es))) _ (prim_term (prims.Array at (map (λ e. e.0) es))) (sym (form_is.form_prim-Array at (map (λ e. e.0) es))) (sym (term_is.prim_term-Array at (map (λ e. e.0) es))) (follows-prim ds (prims.Array at (map (λ e. e.0) es))))))
case_prim ds (PrimTree-F.KeyedArray at es) = subst (λ t. Starts ds (form_prim t) (walk ds (prim_term t))) (sym (prims.rolls-KeyedArray at (map (λ e. e.0) es))) (starts-by ds (form_prim (prims.KeyedArray at (map (λ e. e.0) es))) _ (prim_term (prims.KeyedArray at (map (λ e. e.0) es))) _ (form_is.form_prim-KeyedArray at (map (λ e. e.0) es)) (term_is.prim_term-KeyedArray at (map (λ e. e.0) es)) (starts-KeyedArray ds at es (by-both ds _ (form_prim (prims.KeyedArray at (map (λ e. e.0) es))) _ (prim_term (prims.KeyedArray at (map (λ e. e.0) es))) (sym (form_is.form_prim-KeyedArray at (map (λ e. e.0) es))) (sym (term_is.prim_term-KeyedArray at (map (λ e. e.0) es))) (follows-prim ds (prims.KeyedArray at (map (λ e. e.0) es))))))
case_prim ds (PrimTree-F.Call at op e) = subst (λ t. Starts ds (form_prim t) (walk ds (prim_term t))) (sym (prims.rolls-Call at op e.0)) (starts-when ds (form_prim (prims.Call at op e.0)) _ (walk ds (prim_term (prims.Call at op e.0))) (form_is.form_prim-Call at op e.0) (call-plain op at _) (follows-prim ds (prims.Call at op e.0)))
case_prim ds (PrimTree-F.AllDifferent at e) = subst (λ t. Starts ds (form_prim t) (walk ds (prim_term t))) (sym (prims.rolls-AllDifferent at e.0)) (starts-when ds (form_prim (prims.AllDifferent at e.0)) _ (walk ds (prim_term (prims.AllDifferent at e.0))) (form_is.form_prim-AllDifferent at e.0) refl (follows-prim ds (prims.AllDifferent at e.0)))
case_prim ds (PrimTree-F.Question at op e) = subst (λ t. Starts ds (form_prim t) (walk ds (prim_term t))) (sym (prims.rolls-Question at op e.0)) (starts-when ds (form_prim (prims.Question at op e.0)) _ (walk ds (prim_term (prims.Question at op e.0))) (form_is.form_prim-Question at op e.0) refl (follows-prim ds (prims.Question at op e.0)))

pub starts-add : (ds : List DeclTree) (t : AddTree) → Starts ds (form_add t) (walk ds (add_term t))
starts-add ds = ind-AddTree (λ t. Unit {0}) (λ t. Starts ds (form_mul t) (walk ds (mul_term t))) (λ t. Unit {0}) (λ t. Starts ds (form_open t) (walk ds (open_term t))) (λ t. Starts ds (form_prim t) (walk ds (prim_term t))) (λ t. Starts ds (form_sign t) (walk ds (sign_term t))) (λ t. Unit {0}) (λ t. Unit {0}) (λ t. Starts ds (form_add t) (walk ds (add_term t))) (λ t. Unit {0}) (λ t. Unit {0}) (λ t. Unit {0}) (λ t. Unit {0}) (λ t. Unit {0}) (λ t. Starts ds (form_keyed t).cell (walk ds (keyed_pair t).cell)) (λ t. Unit {0}) (λ t. Unit {0}) (λ t. Unit {0}) (λ t. Unit {0}) (λ t. Starts ds (form_post t) (walk ds (post_term t))) (λ t. Unit {0}) (λ t. Unit {0})
    (λ x y is. tt)
    (λ x y is. subst (λ z. Starts ds (form_mul (roll-MulTree z)) (walk ds (mul_term (roll-MulTree z)))) is (case_mul ds y))
    (λ x y is. tt)
    (λ x y is. subst (λ z. Starts ds (form_open (roll-OpenTree z)) (walk ds (open_term (roll-OpenTree z)))) is (case_open ds y))
    (λ x y is. subst (λ z. Starts ds (form_prim (roll-PrimTree z)) (walk ds (prim_term (roll-PrimTree z)))) is (case_prim ds y))
    (λ x y is. subst (λ z. Starts ds (form_sign (roll-SignTree z)) (walk ds (sign_term (roll-SignTree z)))) is (case_sign ds y))
    (λ x y is. tt)
    (λ x y is. tt)
    (λ x y is. subst (λ z. Starts ds (form_add (roll-AddTree z)) (walk ds (add_term (roll-AddTree z)))) is (case_add ds y))
    (λ x y is. tt)
    (λ x y is. tt)
    (λ x y is. tt)
    (λ x y is. tt)
    (λ x y is. tt)
    (λ x y is. subst (λ z. Starts ds (form_keyed (roll-KeyedTree z)).cell (walk ds (keyed_pair (roll-KeyedTree z)).cell)) is (case_keyed ds y))
    (λ x y is. tt)
    (λ x y is. tt)
    (λ x y is. tt)
    (λ x y is. tt)
    (λ x y is. subst (λ z. Starts ds (form_post (roll-PostTree z)) (walk ds (post_term (roll-PostTree z)))) is (case_post ds y))
    (λ x y is. tt)
    (λ x y is. tt)

pub starts-initial : (ds : List DeclTree) (t : InitialTree) (sc : Scope) (s : Sort) (is ks : List Sort) → initial_kinds sc s is t ≡ Ok ks → Takes (walk_initial ds t) ks (in_initial ds t sc)
starts-initial ds (initials.External at) sc s is ks h = subst (λ ks. Takes (λ st. st) ks []) (same [] ks h) takes-none
starts-initial ds (initials.Written t) sc s is ks h = starts-add ds t sc s is ks h
