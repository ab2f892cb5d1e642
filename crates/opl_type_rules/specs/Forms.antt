-- Expressions as plain data, one form for each row of the table of types. A chain of one operand is that operand.
use Rattle.std.specs.Prelude.{ℕ, List, [], ◌∷◌, ◌++◌, Option, Some, None}
use Rattle.opl_tree.specs.declared.expression.CallOp.{CallOp}
use Rattle.opl_tree.specs.declared.expression.CallOp.TheVariants as calls
use Rattle.opl_tree.specs.declared.expression.NameTree.{NameTree}
use Rattle.opl_tree.specs.declared.expression.PatternTree.{PatternTree}
use Rattle.opl_tree.specs.declared.expression.QuestionOp.{QuestionOp}
use Rattle.opl_tree.specs.declared.expression.Relation.{Relation}
use Rattle.opl_tree.specs.declared.expression.CompareTree.{CompareTree}
use Rattle.opl_tree.specs.declared.expression.MulTree.{MulTree}
use Rattle.opl_tree.specs.declared.expression.NegTree.{NegTree}
use Rattle.opl_tree.specs.declared.expression.OpenTree.{OpenTree}
use Rattle.opl_tree.specs.declared.expression.PrimTree.{PrimTree}
use Rattle.opl_tree.specs.declared.expression.SignTree.{SignTree}
use Rattle.opl_tree.specs.declared.expression.SuffixTree.{SuffixTree}
use Rattle.opl_tree.specs.declared.expression.AddStep.{AddStep}
use Rattle.opl_tree.specs.declared.expression.AddTree.{AddTree}
use Rattle.opl_tree.specs.declared.expression.AndTree.{AndTree}
use Rattle.opl_tree.specs.declared.expression.ExprTree.{ExprTree}
use Rattle.opl_tree.specs.declared.expression.GroupStep.{GroupStep}
use Rattle.opl_tree.specs.declared.expression.GroupTree.{GroupTree}
use Rattle.opl_tree.specs.declared.expression.ImpTree.{ImpTree}
use Rattle.opl_tree.specs.declared.expression.KeyedTree.{KeyedTree}
use Rattle.opl_tree.specs.declared.expression.LastStep.{LastStep}
use Rattle.opl_tree.specs.declared.expression.MulStep.{MulStep}
use Rattle.opl_tree.specs.declared.expression.OrTree.{OrTree}
use Rattle.opl_tree.specs.declared.expression.ParamsTree.{ParamsTree}
use Rattle.opl_tree.specs.declared.expression.PostTree.{PostTree}
use Rattle.opl_tree.specs.declared.expression.SetTree.{SetTree}
use Rattle.opl_tree.specs.declared.expression.SubscriptsTree.{SubscriptsTree}
use Rattle.opl_tree.specs.declared.expression.CompareTree.TheOpen.{CompareTree-F, MulTree-F, NegTree-F, OpenTree-F, PrimTree-F, SignTree-F, SuffixTree-F, AddStep-F, AddTree-F, AndTree-F, ExprTree-F, GroupStep-F, GroupTree-F, ImpTree-F, KeyedTree-F, LastStep-F, MulStep-F, OrTree-F, ParamsTree-F, PostTree-F, SetTree-F, SubscriptsTree-F}
use Rattle.opl_tree.specs.declared.expression.CompareTree.TheFolds.{fold-CompareTree, fold-MulTree, fold-NegTree, fold-OpenTree, fold-PrimTree, fold-SignTree, fold-SuffixTree, fold-AddStep, fold-AddTree, fold-AndTree, fold-ExprTree, fold-GroupStep, fold-GroupTree, fold-ImpTree, fold-KeyedTree, fold-LastStep, fold-MulStep, fold-OrTree, fold-ParamsTree, fold-PostTree, fold-SetTree, fold-SubscriptsTree}

-- ---- the forms, each with the place of its first token

mutual
  pub data Form : Type 0 where
    number : ℕ → Form
    named : NameTree → Form
    bracket : ℕ → Form → Form
    -- `- a`, and a chain of `+` and `-`, or of `*`, `div` and `mod`
    negative : ℕ → Form → Form
    arithmetic : ℕ → Forms → Form
    absolute : ℕ → Form → Form
    related : ℕ → Form → Relation → Form → Form
    member : ℕ → Form → SetForm → Form
    -- a chain of `&`, `\/` or `<=>`, or `a => b`, or `not a`
    connected : ℕ → Forms → Form
    -- `sum`, `prod`, `min` or `max`
    aggregate : ℕ → Params → Form → Form
    cardinality : ℕ → Form → Form
    all_different : ℕ → Form → Form
    -- `a[e,..]` and `a.f`
    subscripted : ℕ → Form → Forms → Form
    field : ℕ → Form → NameTree → Form
    -- `<e,..>`, `{e,..}`, `{e | p}`, `[e,..]` and `#[e:e,..]#`
    tuple : ℕ → Forms → Form
    listed : ℕ → Forms → Form
    described : ℕ → Form → Params → Form
    cells : ℕ → Forms → Form
    keyed_cells : ℕ → Pairs → Form
    question : ℕ → QuestionOp → Form → Form

  pub data Forms : Type 0 where
    no_forms : Forms
    more_forms : Form → Forms → Forms

  pub data Pairs : Type 0 where
    no_pairs : Pairs
    more_pairs : Form → Form → Pairs → Pairs

  -- `S` and `a..b`
  pub data SetForm : Type 0 where
    whole : Form → SetForm
    between : Form → Form → SetForm

  pub data Groups : Type 0 where
    no_groups : Groups
    more_groups : List PatternTree → SetForm → Groups → Groups

  -- groups of parameters without and with a condition
  pub data Params : Type 0 where
    all_of : Groups → Params
    those_of : Groups → Form → Params

abbrev pub forms_of : List Form → Forms
forms_of [] = no_forms
forms_of (f ∷ fs) = more_forms f (forms_of fs)

-- a key and its value
pub record Pair : Type 0 where
  pub key : Form
  pub cell : Form

abbrev pub pairs_of : List Pair → Pairs
pairs_of [] = no_pairs
pairs_of (p ∷ ps) = more_pairs p.key p.cell (pairs_of ps)

pub record Group : Type 0 where
  pub patterns : List PatternTree
  pub over : SetForm

abbrev pub groups_of : List Group → Groups
groups_of [] = no_groups
groups_of (g ∷ gs) = more_groups g.patterns g.over (groups_of gs)

-- subscripts, or a field
pub data Suffix : Type 0 where
  subscripts : List Form → Suffix
  field_of : NameTree → Suffix

-- ---- from trees to forms

-- one operand stands for itself
abbrev pub chain : (Forms → Form) → Form → List Form → Form
chain make f [] = f
chain make f (g ∷ gs) = make (forms_of (f ∷ g ∷ gs))

-- two operands
abbrev pub pair : Form → Form → Forms
pair a b = forms_of (a ∷ b ∷ [])

-- an expression with a suffix behind it, and with several, the first innermost
abbrev pub with_suffix : ℕ → Form → Suffix → Form
with_suffix at f (subscripts es) = subscripted at f (forms_of es)
with_suffix at f (field_of name) = field at f name

abbrev pub with_suffixes : ℕ → Form → List Suffix → Form
with_suffixes at f [] = f
with_suffixes at f (s ∷ ss) = with_suffixes at (with_suffix at f s) ss

abbrev pub or_none : Option Form → List Form
or_none None = []
or_none (Some f) = f ∷ []

abbrev pub call : CallOp → ℕ → Form → Form
call calls.Absolute at f = absolute at f
call calls.Cardinality at f = cardinality at f

abbrev pub implied : ℕ → Form → Option Form → Form
implied at f None = f
implied at f (Some g) = connected at (pair f g)

abbrev pub set_form : Form → Option Form → SetForm
set_form low None = whole low
set_form low (Some high) = between low high

abbrev pub params_form : Groups → Option Form → Params
params_form groups None = all_of groups
params_form groups (Some condition) = those_of groups condition

-- one layer of each kind of expression, its parts being forms already
abbrev pub expr_layer : ExprTree-F Form Form Form Form Form Form Suffix Form Form Form Form Group Group Form Pair Form Form Form Params Form SetForm (List Form) → Form
expr_layer t = chain (connected t.at) t.first t.rest

abbrev pub imp_layer : ImpTree-F Form Form Form Form Form Form Suffix Form Form Form Form Group Group Form Pair Form Form Form Params Form SetForm (List Form) → Form
imp_layer t = implied t.at t.premise t.conclusion

abbrev pub or_layer : OrTree-F Form Form Form Form Form Form Suffix Form Form Form Form Group Group Form Pair Form Form Form Params Form SetForm (List Form) → Form
or_layer t = chain (connected t.at) t.first t.rest

abbrev pub and_layer : AndTree-F Form Form Form Form Form Form Suffix Form Form Form Form Group Group Form Pair Form Form Form Params Form SetForm (List Form) → Form
and_layer t = chain (connected t.at) t.first t.rest

abbrev pub neg_layer : NegTree-F Form Form Form Form Form Form Suffix Form Form Form Form Group Group Form Pair Form Form Form Params Form SetForm (List Form) → Form
neg_layer (NegTree-F.Not at inner) = connected at (forms_of (inner ∷ []))
neg_layer (NegTree-F.Compare inner) = inner

abbrev pub compare_layer : CompareTree-F Form Form Form Form Form Form Suffix Form Form Form Form Group Group Form Pair Form Form Form Params Form SetForm (List Form) → Form
compare_layer (CompareTree-F.Single at only) = only
compare_layer (CompareTree-F.Related at left relation right) = related at left relation right
compare_layer (CompareTree-F.Member at element set) = member at element set

abbrev pub add_layer : AddTree-F Form Form Form Form Form Form Suffix Form Form Form Form Group Group Form Pair Form Form Form Params Form SetForm (List Form) → Form
add_layer t = chain (arithmetic t.at) t.first t.rest

abbrev pub add_step_layer : AddStep-F Form Form Form Form Form Form Suffix Form Form Form Form Group Group Form Pair Form Form Form Params Form SetForm (List Form) → Form
add_step_layer t = t.term

abbrev pub mul_layer : MulTree-F Form Form Form Form Form Form Suffix Form Form Form Form Group Group Form Pair Form Form Form Params Form SetForm (List Form) → Form
mul_layer (MulTree-F.Opened inner) = inner
mul_layer (MulTree-F.Product at first steps last) = chain (arithmetic at) first (steps ++ or_none last)

abbrev pub mul_step_layer : MulStep-F Form Form Form Form Form Form Suffix Form Form Form Form Group Group Form Pair Form Form Form Params Form SetForm (List Form) → Form
mul_step_layer t = t.factor

abbrev pub last_step_layer : LastStep-F Form Form Form Form Form Form Suffix Form Form Form Form Group Group Form Pair Form Form Form Params Form SetForm (List Form) → Form
last_step_layer t = t.factor

abbrev pub open_layer : OpenTree-F Form Form Form Form Form Form Suffix Form Form Form Form Group Group Form Pair Form Form Form Params Form SetForm (List Form) → Form
open_layer (OpenTree-F.NegativeOpen at inner) = negative at inner
open_layer (OpenTree-F.Aggregate at op params body) = aggregate at params body

abbrev pub sign_layer : SignTree-F Form Form Form Form Form Form Suffix Form Form Form Form Group Group Form Pair Form Form Form Params Form SetForm (List Form) → Form
sign_layer (SignTree-F.Negative at inner) = negative at inner
sign_layer (SignTree-F.Postfix inner) = inner

abbrev pub post_layer : PostTree-F Form Form Form Form Form Form Suffix Form Form Form Form Group Group Form Pair Form Form Form Params Form SetForm (List Form) → Form
post_layer t = with_suffixes t.at t.prim t.suffixes

abbrev pub suffix_layer : SuffixTree-F Form Form Form Form Form Form Suffix Form Form Form Form Group Group Form Pair Form Form Form Params Form SetForm (List Form) → Suffix
suffix_layer (SuffixTree-F.Subscripts inner) = subscripts inner
suffix_layer (SuffixTree-F.Field at name) = field_of name

abbrev pub subscripts_layer : SubscriptsTree-F Form Form Form Form Form Form Suffix Form Form Form Form Group Group Form Pair Form Form Form Params Form SetForm (List Form) → List Form
subscripts_layer t = t.first ∷ t.rest

abbrev pub prim_layer : PrimTree-F Form Form Form Form Form Form Suffix Form Form Form Form Group Group Form Pair Form Form Form Params Form SetForm (List Form) → Form
prim_layer (PrimTree-F.Number at n) = number at
prim_layer (PrimTree-F.Named name) = named name
prim_layer (PrimTree-F.Bracket at inner) = bracket at inner
prim_layer (PrimTree-F.Record at first rest) = tuple at (forms_of (first ∷ rest))
prim_layer (PrimTree-F.Listed at elements) = listed at (forms_of elements)
prim_layer (PrimTree-F.Described at element params) = described at element params
prim_layer (PrimTree-F.Array at elements) = cells at (forms_of elements)
prim_layer (PrimTree-F.KeyedArray at elements) = keyed_cells at (pairs_of elements)
prim_layer (PrimTree-F.Call at op argument) = call op at argument
prim_layer (PrimTree-F.AllDifferent at argument) = all_different at argument
prim_layer (PrimTree-F.Question at op argument) = question at op argument

abbrev pub keyed_layer : KeyedTree-F Form Form Form Form Form Form Suffix Form Form Form Form Group Group Form Pair Form Form Form Params Form SetForm (List Form) → Pair
keyed_layer t = record { key = t.key; cell = t.value }

abbrev pub set_layer : SetTree-F Form Form Form Form Form Form Suffix Form Form Form Form Group Group Form Pair Form Form Form Params Form SetForm (List Form) → SetForm
set_layer t = set_form t.low t.high

abbrev pub group_layer : GroupTree-F Form Form Form Form Form Form Suffix Form Form Form Form Group Group Form Pair Form Form Form Params Form SetForm (List Form) → Group
group_layer t = record { patterns = t.first ∷ t.rest; over = t.set }

abbrev pub group_step_layer : GroupStep-F Form Form Form Form Form Form Suffix Form Form Form Form Group Group Form Pair Form Form Form Params Form SetForm (List Form) → Group
group_step_layer t = t.group

abbrev pub params_layer : ParamsTree-F Form Form Form Form Form Form Suffix Form Form Form Form Group Group Form Pair Form Form Form Params Form SetForm (List Form) → Params
params_layer t = params_form (groups_of (t.first ∷ t.rest)) t.condition

-- the form of each kind of expression
unfoldable pub form_expr : ExprTree → Form
form_expr = fold-ExprTree Form Form Form Form Form Form Suffix Form Form Form Form Group Group Form Pair Form Form Form Params Form SetForm (List Form) compare_layer mul_layer neg_layer open_layer prim_layer sign_layer suffix_layer add_step_layer add_layer and_layer expr_layer group_step_layer group_layer imp_layer keyed_layer last_step_layer mul_step_layer or_layer params_layer post_layer set_layer subscripts_layer

unfoldable pub form_imp : ImpTree → Form
form_imp = fold-ImpTree Form Form Form Form Form Form Suffix Form Form Form Form Group Group Form Pair Form Form Form Params Form SetForm (List Form) compare_layer mul_layer neg_layer open_layer prim_layer sign_layer suffix_layer add_step_layer add_layer and_layer expr_layer group_step_layer group_layer imp_layer keyed_layer last_step_layer mul_step_layer or_layer params_layer post_layer set_layer subscripts_layer

unfoldable pub form_or : OrTree → Form
form_or = fold-OrTree Form Form Form Form Form Form Suffix Form Form Form Form Group Group Form Pair Form Form Form Params Form SetForm (List Form) compare_layer mul_layer neg_layer open_layer prim_layer sign_layer suffix_layer add_step_layer add_layer and_layer expr_layer group_step_layer group_layer imp_layer keyed_layer last_step_layer mul_step_layer or_layer params_layer post_layer set_layer subscripts_layer

unfoldable pub form_and : AndTree → Form
form_and = fold-AndTree Form Form Form Form Form Form Suffix Form Form Form Form Group Group Form Pair Form Form Form Params Form SetForm (List Form) compare_layer mul_layer neg_layer open_layer prim_layer sign_layer suffix_layer add_step_layer add_layer and_layer expr_layer group_step_layer group_layer imp_layer keyed_layer last_step_layer mul_step_layer or_layer params_layer post_layer set_layer subscripts_layer

unfoldable pub form_neg : NegTree → Form
form_neg = fold-NegTree Form Form Form Form Form Form Suffix Form Form Form Form Group Group Form Pair Form Form Form Params Form SetForm (List Form) compare_layer mul_layer neg_layer open_layer prim_layer sign_layer suffix_layer add_step_layer add_layer and_layer expr_layer group_step_layer group_layer imp_layer keyed_layer last_step_layer mul_step_layer or_layer params_layer post_layer set_layer subscripts_layer

unfoldable pub form_compare : CompareTree → Form
form_compare = fold-CompareTree Form Form Form Form Form Form Suffix Form Form Form Form Group Group Form Pair Form Form Form Params Form SetForm (List Form) compare_layer mul_layer neg_layer open_layer prim_layer sign_layer suffix_layer add_step_layer add_layer and_layer expr_layer group_step_layer group_layer imp_layer keyed_layer last_step_layer mul_step_layer or_layer params_layer post_layer set_layer subscripts_layer

unfoldable pub form_add : AddTree → Form
form_add = fold-AddTree Form Form Form Form Form Form Suffix Form Form Form Form Group Group Form Pair Form Form Form Params Form SetForm (List Form) compare_layer mul_layer neg_layer open_layer prim_layer sign_layer suffix_layer add_step_layer add_layer and_layer expr_layer group_step_layer group_layer imp_layer keyed_layer last_step_layer mul_step_layer or_layer params_layer post_layer set_layer subscripts_layer

unfoldable pub form_add_step : AddStep → Form
form_add_step = fold-AddStep Form Form Form Form Form Form Suffix Form Form Form Form Group Group Form Pair Form Form Form Params Form SetForm (List Form) compare_layer mul_layer neg_layer open_layer prim_layer sign_layer suffix_layer add_step_layer add_layer and_layer expr_layer group_step_layer group_layer imp_layer keyed_layer last_step_layer mul_step_layer or_layer params_layer post_layer set_layer subscripts_layer

unfoldable pub form_mul : MulTree → Form
form_mul = fold-MulTree Form Form Form Form Form Form Suffix Form Form Form Form Group Group Form Pair Form Form Form Params Form SetForm (List Form) compare_layer mul_layer neg_layer open_layer prim_layer sign_layer suffix_layer add_step_layer add_layer and_layer expr_layer group_step_layer group_layer imp_layer keyed_layer last_step_layer mul_step_layer or_layer params_layer post_layer set_layer subscripts_layer

unfoldable pub form_mul_step : MulStep → Form
form_mul_step = fold-MulStep Form Form Form Form Form Form Suffix Form Form Form Form Group Group Form Pair Form Form Form Params Form SetForm (List Form) compare_layer mul_layer neg_layer open_layer prim_layer sign_layer suffix_layer add_step_layer add_layer and_layer expr_layer group_step_layer group_layer imp_layer keyed_layer last_step_layer mul_step_layer or_layer params_layer post_layer set_layer subscripts_layer

unfoldable pub form_last_step : LastStep → Form
form_last_step = fold-LastStep Form Form Form Form Form Form Suffix Form Form Form Form Group Group Form Pair Form Form Form Params Form SetForm (List Form) compare_layer mul_layer neg_layer open_layer prim_layer sign_layer suffix_layer add_step_layer add_layer and_layer expr_layer group_step_layer group_layer imp_layer keyed_layer last_step_layer mul_step_layer or_layer params_layer post_layer set_layer subscripts_layer

unfoldable pub form_open : OpenTree → Form
form_open = fold-OpenTree Form Form Form Form Form Form Suffix Form Form Form Form Group Group Form Pair Form Form Form Params Form SetForm (List Form) compare_layer mul_layer neg_layer open_layer prim_layer sign_layer suffix_layer add_step_layer add_layer and_layer expr_layer group_step_layer group_layer imp_layer keyed_layer last_step_layer mul_step_layer or_layer params_layer post_layer set_layer subscripts_layer

unfoldable pub form_sign : SignTree → Form
form_sign = fold-SignTree Form Form Form Form Form Form Suffix Form Form Form Form Group Group Form Pair Form Form Form Params Form SetForm (List Form) compare_layer mul_layer neg_layer open_layer prim_layer sign_layer suffix_layer add_step_layer add_layer and_layer expr_layer group_step_layer group_layer imp_layer keyed_layer last_step_layer mul_step_layer or_layer params_layer post_layer set_layer subscripts_layer

unfoldable pub form_post : PostTree → Form
form_post = fold-PostTree Form Form Form Form Form Form Suffix Form Form Form Form Group Group Form Pair Form Form Form Params Form SetForm (List Form) compare_layer mul_layer neg_layer open_layer prim_layer sign_layer suffix_layer add_step_layer add_layer and_layer expr_layer group_step_layer group_layer imp_layer keyed_layer last_step_layer mul_step_layer or_layer params_layer post_layer set_layer subscripts_layer

unfoldable pub form_suffix : SuffixTree → Suffix
form_suffix = fold-SuffixTree Form Form Form Form Form Form Suffix Form Form Form Form Group Group Form Pair Form Form Form Params Form SetForm (List Form) compare_layer mul_layer neg_layer open_layer prim_layer sign_layer suffix_layer add_step_layer add_layer and_layer expr_layer group_step_layer group_layer imp_layer keyed_layer last_step_layer mul_step_layer or_layer params_layer post_layer set_layer subscripts_layer

unfoldable pub form_subscripts : SubscriptsTree → List Form
form_subscripts = fold-SubscriptsTree Form Form Form Form Form Form Suffix Form Form Form Form Group Group Form Pair Form Form Form Params Form SetForm (List Form) compare_layer mul_layer neg_layer open_layer prim_layer sign_layer suffix_layer add_step_layer add_layer and_layer expr_layer group_step_layer group_layer imp_layer keyed_layer last_step_layer mul_step_layer or_layer params_layer post_layer set_layer subscripts_layer

unfoldable pub form_prim : PrimTree → Form
form_prim = fold-PrimTree Form Form Form Form Form Form Suffix Form Form Form Form Group Group Form Pair Form Form Form Params Form SetForm (List Form) compare_layer mul_layer neg_layer open_layer prim_layer sign_layer suffix_layer add_step_layer add_layer and_layer expr_layer group_step_layer group_layer imp_layer keyed_layer last_step_layer mul_step_layer or_layer params_layer post_layer set_layer subscripts_layer

unfoldable pub form_keyed : KeyedTree → Pair
form_keyed = fold-KeyedTree Form Form Form Form Form Form Suffix Form Form Form Form Group Group Form Pair Form Form Form Params Form SetForm (List Form) compare_layer mul_layer neg_layer open_layer prim_layer sign_layer suffix_layer add_step_layer add_layer and_layer expr_layer group_step_layer group_layer imp_layer keyed_layer last_step_layer mul_step_layer or_layer params_layer post_layer set_layer subscripts_layer

unfoldable pub form_set : SetTree → SetForm
form_set = fold-SetTree Form Form Form Form Form Form Suffix Form Form Form Form Group Group Form Pair Form Form Form Params Form SetForm (List Form) compare_layer mul_layer neg_layer open_layer prim_layer sign_layer suffix_layer add_step_layer add_layer and_layer expr_layer group_step_layer group_layer imp_layer keyed_layer last_step_layer mul_step_layer or_layer params_layer post_layer set_layer subscripts_layer

unfoldable pub form_group : GroupTree → Group
form_group = fold-GroupTree Form Form Form Form Form Form Suffix Form Form Form Form Group Group Form Pair Form Form Form Params Form SetForm (List Form) compare_layer mul_layer neg_layer open_layer prim_layer sign_layer suffix_layer add_step_layer add_layer and_layer expr_layer group_step_layer group_layer imp_layer keyed_layer last_step_layer mul_step_layer or_layer params_layer post_layer set_layer subscripts_layer

unfoldable pub form_group_step : GroupStep → Group
form_group_step = fold-GroupStep Form Form Form Form Form Form Suffix Form Form Form Form Group Group Form Pair Form Form Form Params Form SetForm (List Form) compare_layer mul_layer neg_layer open_layer prim_layer sign_layer suffix_layer add_step_layer add_layer and_layer expr_layer group_step_layer group_layer imp_layer keyed_layer last_step_layer mul_step_layer or_layer params_layer post_layer set_layer subscripts_layer

unfoldable pub form_params : ParamsTree → Params
form_params = fold-ParamsTree Form Form Form Form Form Form Suffix Form Form Form Form Group Group Form Pair Form Form Form Params Form SetForm (List Form) compare_layer mul_layer neg_layer open_layer prim_layer sign_layer suffix_layer add_step_layer add_layer and_layer expr_layer group_step_layer group_layer imp_layer keyed_layer last_step_layer mul_step_layer or_layer params_layer post_layer set_layer subscripts_layer
