-- The shape of each phrase of expressions, and of what stands in brackets.
use Rattle.std.proofs.Common.{◌≡◌, ℕ, Bool, true, false, ◌⊎◌, List, [], ◌∷◌, ◌++◌, map, Option, Some, None}
use Rattle.std.specs.Prelude.{◌||◌, is_some}
use Rattle.opl_token.specs.declared.sign.Sign.{Sign}
use Rattle.opl_token.specs.declared.sign.Sign.TheVariants as signs
use Rattle.opl_token.specs.declared.token.Kind.{Kind}
use Rattle.opl_tree.specs.declared.declaration.TypeTree.{TypeTree}
use Rattle.opl_tree.specs.declared.declaration.DimTree.{DimTree}
use Rattle.opl_tree.specs.declared.declaration.FieldTree.{FieldTree}
use Rattle.opl_tree.specs.declared.expression.NameTree.{NameTree}
use Rattle.opl_tree.specs.declared.expression.ExprTree.{ExprTree}
use Rattle.opl_tree.specs.declared.expression.ImpTree.{ImpTree}
use Rattle.opl_tree.specs.declared.expression.OrTree.{OrTree}
use Rattle.opl_tree.specs.declared.expression.AndTree.{AndTree}
use Rattle.opl_tree.specs.declared.expression.NegTree.{NegTree}
use Rattle.opl_tree.specs.declared.expression.CompareTree.{CompareTree}
use Rattle.opl_tree.specs.declared.expression.AddTree.{AddTree}
use Rattle.opl_tree.specs.declared.expression.MulTree.{MulTree}
use Rattle.opl_tree.specs.declared.expression.PostTree.{PostTree}
use Rattle.opl_tree.specs.declared.expression.SuffixTree.{SuffixTree}
use Rattle.opl_tree.specs.declared.expression.SubscriptsTree.{SubscriptsTree}
use Rattle.opl_tree.specs.declared.expression.PrimTree.{PrimTree}
use Rattle.opl_tree.specs.declared.expression.KeyedTree.{KeyedTree}
use Rattle.opl_tree.specs.declared.expression.SetTree.{SetTree}
use Rattle.opl_tree.specs.declared.expression.ParamsTree.{ParamsTree}
use Rattle.opl_tree.specs.declared.expression.GroupTree.{GroupTree}
use Rattle.opl_tree.specs.declared.expression.PatternTree.{PatternTree}
use Rattle.opl_tree.specs.declared.keyword.Keyword.{Keyword}
use Rattle.opl_tree.specs.declared.search.OrderedParamsTree.{OrderedParamsTree}
use Rattle.opl_tree.specs.declared.keyword.Keyword.TheVariants as words
use Rattle.opl_grammar.specs.declared.parts.Operand.{Operand}
use Rattle.opl_grammar.specs.declared.parts.Operand.TheVariants as operands
use Rattle.opl_grammar.specs.declared.parts.Braced.{Braced}
use Rattle.opl_grammar.specs.declared.parts.Braced.TheVariants as braces
use Rattle.opl_tree.specs.Marks.{Mark, marks_name, marks_pattern, marks_expr, marks_imp, marks_or, marks_and, marks_neg, marks_compare, marks_add, marks_mul, marks_open, marks_sign, marks_post, marks_suffix, marks_subscripts, marks_prim, marks_keyed, marks_set, marks_params, marks_group, marks_type, marks_dim, marks_field, marks_ordered_params}
use Rattle.opl_tree.specs.Marks as mk
use Rattle.opl_grammar.specs.Input.{look, is_sign, is_word, is_name}
use Rattle.opl_grammar.specs.Tables.{is_separator, sign_starts, word_starts_expr, starts_add, starts_suffix, starts_type}
use Rattle.opl_grammar.specs.Just.{post_of_sign, post_of_mul, post_of_add, post_of_compare, post_of_neg, post_of_and, post_of_or, post_of_imp, post_of, name_of_prim, name_of_post, name_of}
use Rattle.opl_grammar.specs.Rules.{Rules}
use Rattle.opl_parse.proofs.Follow.{Ends}
use Rattle.opl_reader_laws.proofs.Forms.{maybe_shape, stricter, tagged, plain}
use Rattle.opl_reader_laws.proofs.Led.{led_shape, each_shape}
use Rattle.opl_reader_laws.proofs.Opened.{Entry}
use Rattle.opl_reader_laws.proofs.Many.{many_shape}
use Rattle.opl_reader_laws.proofs.Phrases.{Shape, Any, pair_shape}
use Rattle.opl_reader_laws.proofs.Tokens.{sign_first}
use Rattle.opl_grammar.specs.Tables as tables
use Rattle.opl_tree.specs.Marks.{Mark}

-- ---- what is known of a value by its tokens: whether it is just a post, and whether that is just a name

abbrev pub post_kind : Option PostTree → Option Bool
post_kind None = None
post_kind (Some t) = Some (is_some (name_of_post t))

-- of an operand: nothing is said of an open one
abbrev pub operand_kind : Operand → Option (Option Bool)
operand_kind (operands.Open t) = None
operand_kind (operands.Sign t) = Some (post_kind (post_of_sign t))

-- ---- first tokens

abbrev pub prim_sign : Sign → Bool
prim_sign signs.OpenParenthesis = true
prim_sign signs.Less = true
prim_sign signs.OpenBrace = true
prim_sign signs.OpenBracket = true
prim_sign signs.OpenAssociation = true
prim_sign s = false

abbrev pub prim_word : Keyword → Bool
prim_word words.Abs = true
prim_word words.AllDifferent = true
prim_word words.Bound = true
prim_word words.Card = true
prim_word words.DMax = true
prim_word words.DMin = true
prim_word words.DSize = true
prim_word w = false

abbrev pub starts_prim : Option Kind → Bool
starts_prim k = tables.begins prim_sign prim_word (look k)

abbrev pub starts_expr : Option Kind → Bool
starts_expr k = tables.begins sign_starts word_starts_expr (look k)

-- begins with a token that passes the test
abbrev pub First : (Option Kind → Bool) → (Option Kind → Type 0) → Option Kind → Type 0
First test F k = test k ≡ true

-- ---- expressions

abbrev pub name_shape : Shape NameTree
name_shape = plain marks_name Any (First is_name)

abbrev pub prim_shape : Shape PrimTree
prim_shape = tagged marks_prim (λ t. is_some (name_of_prim t)) Any (First starts_prim)

abbrev pub post_shape : Shape PostTree
post_shape = tagged marks_post (λ t. is_some (name_of_post t)) (Ends 1) (First starts_prim)

-- (POST)
abbrev pub asked_shape : Shape PostTree
asked_shape = plain (λ t. mk.nested (mk.sign signs.OpenParenthesis) (marks_post t) ++ mk.token (mk.sign signs.CloseParenthesis) ∷ []) Any (First (is_sign signs.OpenParenthesis))

abbrev pub suffix_shape : Shape SuffixTree
suffix_shape = plain marks_suffix Any (First starts_suffix)

abbrev pub subscripts_shape : Shape SubscriptsTree
subscripts_shape = plain marks_subscripts Any (First (is_sign signs.OpenBracket))

-- the tokens of an operand
abbrev pub marks_operand : Operand → List Mark
marks_operand (operands.Open t) = marks_open t
marks_operand (operands.Sign t) = marks_sign t

-- an open operand ends with a product, any other with a post
abbrev pub operand_ends : Option (Option Bool) → Option Kind → Type 0
operand_ends None = Ends 2
operand_ends (Some b) = Ends 1

abbrev pub operand_shape : Shape Operand
operand_shape = record {
  marks = marks_operand;
  Tag = Option (Option Bool);
  tag = operand_kind;
  fits = λ t. Unit {0};
  ends = operand_ends;
  closes = Ends 2;
  begins = First starts_add;
}

abbrev pub mul_shape : Shape MulTree
mul_shape = tagged marks_mul (λ t. post_kind (post_of_mul t)) (Ends 2) (First starts_add)

abbrev pub add_shape : Shape AddTree
add_shape = tagged marks_add (λ t. post_kind (post_of_add t)) (Ends 3) (First starts_add)

abbrev pub set_shape : Shape SetTree
set_shape = tagged marks_set (λ t. is_some (name_of t)) (Ends 4) (First starts_add)

abbrev pub compare_shape : Shape CompareTree
compare_shape = tagged marks_compare (λ t. is_some (post_of_compare t)) (Ends 5) (First starts_add)

abbrev pub neg_shape : Shape NegTree
neg_shape = tagged marks_neg (λ t. is_some (post_of_neg t)) (Ends 5) (First starts_expr)

abbrev pub and_shape : Shape AndTree
and_shape = tagged marks_and (λ t. is_some (post_of_and t)) (Ends 6) (First starts_expr)

abbrev pub or_shape : Shape OrTree
or_shape = tagged marks_or (λ t. is_some (post_of_or t)) (Ends 7) (First starts_expr)

abbrev pub imp_shape : Shape ImpTree
imp_shape = tagged marks_imp (λ t. is_some (post_of_imp t)) (Ends 8) (First starts_expr)

abbrev pub expr_shape : Shape ExprTree
expr_shape = tagged marks_expr (λ t. is_some (post_of t)) (Ends 9) (First starts_expr)

-- ---- parameters

abbrev pub starts_pattern : Option Kind → Bool
starts_pattern k = is_sign signs.Less k || is_name k

abbrev pub starts_group : Option Kind → Bool
starts_group k = is_word words.Ordered k || starts_pattern k

abbrev pub pattern_shape : Shape PatternTree
pattern_shape = plain marks_pattern Any (First starts_pattern)

abbrev pub group_shape : Shape GroupTree
group_shape = plain marks_group (Ends 4) (First starts_group)

-- neither a group nor a condition goes on
abbrev pub EndsParams : Option Kind → Type 0
EndsParams k = Ends 9 k × ((is_separator k ≡ false) × (is_sign signs.Colon k ≡ false))

abbrev pub params_shape : Shape ParamsTree
params_shape = plain marks_params EndsParams (First starts_group)

abbrev pub ordered_shape : Shape OrderedParamsTree
ordered_shape = plain marks_ordered_params (λ k. EndsParams k × (is_word words.Ordered k ≡ false)) (First starts_group)

-- ---- what stands in brackets

abbrev pub adds_shape : Shape (AddTree × List AddTree)
adds_shape = pair_shape add_shape (each_shape signs.Comma add_shape)

-- several, or none
abbrev pub EndsList : Option Kind → Type 0
EndsList k = (Ends 3 k × (is_sign signs.Comma k ≡ false)) × (starts_add k ≡ false)

abbrev pub begins_list : (Option Kind → Type 0) → Option Kind → Type 0
begins_list F k = (starts_add k ≡ true) ⊎ F k

abbrev pub listed_shape : Shape (List AddTree)
listed_shape = plain (λ xs. mk.several signs.Comma (map marks_add xs)) EndsList begins_list

abbrev pub keyed_part_shape : Shape KeyedTree
keyed_part_shape = plain marks_keyed (Ends 3) (First starts_add)

abbrev pub keyed_shape : Shape (List KeyedTree)
keyed_shape = plain (λ xs. mk.several signs.Comma (map marks_keyed xs)) EndsList begins_list

abbrev pub marks_braced : Braced → List Mark
marks_braced (braces.Listed xs) = mk.several signs.Comma (map marks_add xs)
marks_braced (braces.Described t params) = marks_add t ++ mk.token (mk.sign signs.Bar) ∷ marks_params params

abbrev pub EndsBraced : Option Kind → Type 0
EndsBraced k = (EndsParams k × (is_sign signs.Comma k ≡ false)) × ((starts_add k ≡ false) × (is_sign signs.Bar k ≡ false))

abbrev pub braced_shape : Shape Braced
braced_shape = plain marks_braced EndsBraced begins_list

abbrev pub upper_shape : Shape AddTree
upper_shape = led_shape (mk.sign signs.Range) (sign_first signs.Range) add_shape

abbrev pub optional_upper : Shape (Option AddTree)
optional_upper = stricter (Ends 3) (maybe_shape (is_sign signs.Range) upper_shape)

abbrev pub ends_shape : Shape (AddTree × Option AddTree)
ends_shape = pair_shape add_shape optional_upper

abbrev pub names_shape : Shape (NameTree × List NameTree)
names_shape = pair_shape name_shape (each_shape signs.Comma name_shape)

-- (PARAMS) and what it stands before
abbrev pub marks_chosen : ParamsTree → List Mark
marks_chosen t = mk.nested (mk.sign signs.OpenParenthesis) (marks_params t) ++ mk.token (mk.sign signs.CloseParenthesis) ∷ []

abbrev pub chosen_shape : Shape ParamsTree
chosen_shape = plain marks_chosen Any (First (is_sign signs.OpenParenthesis))

abbrev pub aggregated_shape : Shape (ParamsTree × MulTree)
aggregated_shape = pair_shape chosen_shape mul_shape

-- ---- types and dimensions

abbrev pub type_shape : Shape TypeTree
type_shape = plain marks_type Any (First starts_type)

abbrev pub field_shape : Shape FieldTree
field_shape = plain marks_field Any (First starts_type)

abbrev pub fields_shape : Shape (FieldTree × List FieldTree)
fields_shape = pair_shape field_shape (many_shape starts_type field_shape)

abbrev pub dim_shape : Shape DimTree
dim_shape = plain marks_dim (Ends 5) (First starts_add)

abbrev pub dims_shape : Shape (DimTree × List DimTree)
dims_shape = pair_shape dim_shape (each_shape signs.Comma dim_shape)

-- ---- the laws of all that stands behind an opening token

pub record RulesLaw (n : ℕ) (r s : Rules) : Type 1 where
  pub expr : Entry n r.expr s.expr expr_shape
  pub add : Entry n r.add s.add add_shape
  pub post : Entry n r.post s.post post_shape
  pub params : Entry n r.params s.params params_shape
  pub ordered : Entry n r.ordered s.ordered ordered_shape
  pub ends : Entry n r.ends s.ends ends_shape
  pub imp : Entry n r.imp s.imp imp_shape
  pub neg : Entry n r.neg s.neg neg_shape
  pub operand : Entry n r.operand s.operand operand_shape
  pub aggregate : Entry n r.aggregate s.aggregate aggregated_shape
  pub adds : Entry n r.adds s.adds adds_shape
  pub listed : Entry n r.listed s.listed listed_shape
  pub keyed : Entry n r.keyed s.keyed keyed_shape
  pub braced : Entry n r.braced s.braced braced_shape
  pub names : Entry n r.names s.names names_shape
  pub type_tree : Entry n r.type_tree s.type_tree type_shape
  pub fields : Entry n r.fields s.fields fields_shape
  pub dims : Entry n r.dims s.dims dims_shape
