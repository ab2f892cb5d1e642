-- The rules of expressions, of the sets and of the parameters in them, and of all else that stands in brackets.
use Rattle.std.specs.Prelude.{ℕ, zero, suc, Bool, true, false, List, [], ◌∷◌, ◌++◌, Option, Some, None, Ok, if◌then◌else◌}
use Rattle.opl_token.specs.declared.sign.Sign.TheVariants as signs
use Rattle.opl_token.specs.declared.token.Kind.{Kind}
use Rattle.opl_tree.specs.declared.keyword.Keyword.TheVariants as words
use Rattle.opl_tree.specs.declared.declaration.DimTree.{DimTree}
use Rattle.opl_tree.specs.declared.declaration.FieldTree.{FieldTree}
use Rattle.opl_tree.specs.declared.declaration.TypeTree.{TypeTree}
use Rattle.opl_tree.specs.declared.declaration.TypeTree.TheVariants as types
use Rattle.opl_tree.specs.declared.expression.AddStep.{AddStep, roll-AddStep}
use Rattle.opl_tree.specs.declared.expression.AddTree.{AddTree, roll-AddTree, out-AddTree}
use Rattle.opl_tree.specs.declared.expression.AndTree.{AndTree, roll-AndTree}
use Rattle.opl_tree.specs.declared.expression.CompareTree.{CompareTree}
use Rattle.opl_tree.specs.declared.expression.CompareTree.TheVariants as compares
use Rattle.opl_tree.specs.declared.expression.ExprTree.{ExprTree, roll-ExprTree}
use Rattle.opl_tree.specs.declared.expression.GroupStep.{GroupStep, roll-GroupStep}
use Rattle.opl_tree.specs.declared.expression.GroupTree.{GroupTree, roll-GroupTree}
use Rattle.opl_tree.specs.declared.expression.ImpTree.{ImpTree, roll-ImpTree}
use Rattle.opl_tree.specs.declared.expression.KeyedTree.{KeyedTree, roll-KeyedTree}
use Rattle.opl_tree.specs.declared.expression.LastStep.{LastStep, roll-LastStep}
use Rattle.opl_tree.specs.declared.expression.MulOp.{MulOp}
use Rattle.opl_tree.specs.declared.expression.MulStep.{MulStep, roll-MulStep}
use Rattle.opl_tree.specs.declared.expression.MulTree.{MulTree}
use Rattle.opl_tree.specs.declared.expression.MulTree.TheVariants as muls
use Rattle.opl_tree.specs.declared.expression.NameTree.{NameTree}
use Rattle.opl_tree.specs.declared.expression.NegTree.{NegTree}
use Rattle.opl_tree.specs.declared.expression.NegTree.TheVariants as negs
use Rattle.opl_tree.specs.declared.expression.OpenTree.TheVariants as opens
use Rattle.opl_tree.specs.declared.expression.OrTree.{OrTree, roll-OrTree}
use Rattle.opl_tree.specs.declared.expression.ParamsTree.{ParamsTree, roll-ParamsTree}
use Rattle.opl_tree.specs.declared.expression.PatternTree.{PatternTree}
use Rattle.opl_tree.specs.declared.expression.PatternTree.TheVariants as patterns
use Rattle.opl_tree.specs.declared.expression.PostTree.{PostTree, roll-PostTree}
use Rattle.opl_tree.specs.declared.expression.PrimTree.{PrimTree}
use Rattle.opl_tree.specs.declared.expression.PrimTree.TheVariants as prims
use Rattle.opl_tree.specs.declared.expression.SetTree.{SetTree, roll-SetTree}
use Rattle.opl_tree.specs.declared.expression.SignTree.TheVariants as factors
use Rattle.opl_tree.specs.declared.expression.SubscriptsTree.{SubscriptsTree, roll-SubscriptsTree}
use Rattle.opl_tree.specs.declared.expression.SuffixTree.{SuffixTree}
use Rattle.opl_tree.specs.declared.expression.SuffixTree.TheVariants as suffixes
use Rattle.opl_tree.specs.declared.search.OrderTree.{OrderTree}
use Rattle.opl_tree.specs.declared.search.OrderedParamsTree.{OrderedParamsTree}
use Rattle.opl_grammar.specs.declared.parts.Braced.{Braced}
use Rattle.opl_grammar.specs.declared.parts.Braced.TheVariants as braces
use Rattle.opl_grammar.specs.declared.parts.Operand.{Operand}
use Rattle.opl_grammar.specs.declared.parts.Operand.TheVariants as operands
use Rattle.opl_grammar.specs.Input.{Parser, kind, left, ◌>>=◌, ◌>>◌, ◌<$>◌, pure, refuse, refuse_level, here, one, sign, word, either, maybe, flag, many, after_each, is_sign, is_word, is_name, is_number, name_in, any_in, number_in}
use Rattle.opl_grammar.specs.Just.{name_of}
use Rattle.opl_grammar.specs.Tables.{relation_in, add_op_in, mul_op_in, aggregate_in, call_in, question_in, separator_in, direction_in, is_relation, is_add_op, is_mul_op, is_aggregate, is_call, is_separator, starts_add, starts_suffix, starts_type}

-- The phrases that stand behind a token that opens a level, which has the place that they take.
pub record Rules : Type 0 where
  -- behind `(`
  pub expr : ℕ → Parser ExprTree
  pub add : ℕ → Parser AddTree
  pub post : ℕ → Parser PostTree
  pub params : ℕ → Parser ParamsTree
  pub ordered : ℕ → Parser OrderedParamsTree
  pub ends : ℕ → Parser (AddTree × Option AddTree)
  -- behind `=>`, `not` and a sign
  pub imp : ℕ → Parser ImpTree
  pub neg : ℕ → Parser NegTree
  pub operand : ℕ → Parser Operand
  -- behind the word of an aggregate
  pub aggregate : ℕ → Parser (ParamsTree × MulTree)
  -- behind the `[` of subscripts and the `<` of a record
  pub adds : ℕ → Parser (AddTree × List AddTree)
  -- behind the `[` of an array, `#[`, and the `{` of a set
  pub listed : ℕ → Parser (List AddTree)
  pub keyed : ℕ → Parser (List KeyedTree)
  pub braced : ℕ → Parser Braced
  -- behind the `<` of a pattern and the `{` of an enumeration
  pub names : ℕ → Parser (NameTree × List NameTree)
  -- behind the `{` of a type and the `{` of a structure
  pub type_tree : ℕ → Parser TypeTree
  pub fields : ℕ → Parser (FieldTree × List FieldTree)
  -- behind the `[` of dimensions
  pub dims : ℕ → Parser (DimTree × List DimTree)

-- NAME
unfoldable pub name : Parser NameTree
name = do
  at ← here
  text ← one name_in
  pure (record { at = at; text = text })

-- any word, behind a dot
unfoldable pub field_name : Parser NameTree
field_name = do
  at ← here
  text ← one any_in
  pure (record { at = at; text = text })

-- NAME, NAME, ..
unfoldable pub names : Parser (NameTree × List NameTree)
names = do
  first ← name
  rest ← after_each signs.Comma name
  pure (first, rest)

-- the set with these braces at this place
abbrev pub set_prim_at : ℕ → Braced → PrimTree
set_prim_at at (braces.Listed parts) = prims.Listed at parts
set_prim_at at (braces.Described part params) = prims.Described at part params

-- a sign before an operand, whichever it is
abbrev pub negative : ℕ → Operand → Operand
negative at (operands.Open t) = operands.Open (opens.NegativeOpen at t)
negative at (operands.Sign t) = operands.Sign (factors.Negative at t)

-- Each rule, with those that stand one level deeper.
module _ (below : Rules) where
  -- ---- what an expression begins with

  -- NUMBER
  unfoldable pub number : Parser PrimTree
  number = do
    at ← here
    n ← one number_in
    pure (prims.Number at n)

  -- (EXPR)
  unfoldable pub bracket : Parser PrimTree
  bracket = do
    at ← here
    sign signs.OpenParenthesis
    t ← below.expr at
    sign signs.CloseParenthesis
    pure (prims.Bracket at t)

  -- <ADD, ADD, ..>
  unfoldable pub record_prim : Parser PrimTree
  record_prim = do
    at ← here
    sign signs.Less
    parts ← below.adds at
    sign signs.Greater
    pure (prims.Record at parts.0 parts.1)

  -- {ADD, ADD, ..} and {ADD | PARAMS}
  unfoldable pub braces_prim : Parser PrimTree
  braces_prim = do
    at ← here
    sign signs.OpenBrace
    inside ← below.braced at
    sign signs.CloseBrace
    pure (set_prim_at at inside)

  -- [ADD, ADD, ..]
  unfoldable pub array : Parser PrimTree
  array = do
    at ← here
    sign signs.OpenBracket
    parts ← below.listed at
    sign signs.CloseBracket
    pure (prims.Array at parts)

  -- #[ADD:ADD, ADD:ADD, ..]#
  unfoldable pub keyed_array : Parser PrimTree
  keyed_array = do
    at ← here
    sign signs.OpenAssociation
    parts ← below.keyed at
    sign signs.CloseAssociation
    pure (prims.KeyedArray at parts)

  -- alldifferent (ADD): the level is that of the bracket
  unfoldable pub all_different : Parser PrimTree
  all_different = do
    at ← here
    word words.AllDifferent
    opener ← here
    sign signs.OpenParenthesis
    t ← below.add opener
    sign signs.CloseParenthesis
    pure (prims.AllDifferent at t)

  -- WORD (EXPR)
  unfoldable pub call : Parser PrimTree
  call = do
    at ← here
    op ← one call_in
    opener ← here
    sign signs.OpenParenthesis
    t ← below.expr opener
    sign signs.CloseParenthesis
    pure (prims.Call at op t)

  -- (POST)
  unfoldable pub asked : Parser PostTree
  asked = do
    at ← here
    sign signs.OpenParenthesis
    t ← below.post at
    sign signs.CloseParenthesis
    pure t

  -- WORD (POST)
  unfoldable pub question : Parser PrimTree
  question = do
    at ← here
    op ← one question_in
    t ← asked
    pure (prims.Question at op t)

  -- what begins with a word of the language
  unfoldable pub word_prim : Parser PrimTree
  word_prim = either (is_word words.AllDifferent) all_different (either is_call call question)

  -- what begins with a sign, or with a word of the language
  unfoldable pub sign_prim : Parser PrimTree
  sign_prim =
      either (is_sign signs.OpenParenthesis) bracket
      (either (is_sign signs.Less) record_prim
      (either (is_sign signs.OpenBrace) braces_prim
      (either (is_sign signs.OpenBracket) array
      (either (is_sign signs.OpenAssociation) keyed_array
      word_prim))))

  -- what an expression begins with
  unfoldable pub prim : Parser PrimTree
  prim = either is_name (prims.Named <$> name) (either is_number number sign_prim)

  -- ---- what is written behind it

  -- [ADD, ADD, ..]
  unfoldable pub subscripts : Parser SubscriptsTree
  subscripts = do
    at ← here
    sign signs.OpenBracket
    parts ← below.adds at
    sign signs.CloseBracket
    pure (roll-SubscriptsTree (record { at = at; first = parts.0; rest = parts.1 }))

  -- .NAME
  unfoldable pub field_suffix : Parser SuffixTree
  field_suffix = do
    at ← here
    sign signs.Dot
    t ← field_name
    pure (suffixes.Field at t)

  -- subscripts or a field
  unfoldable pub suffix : Parser SuffixTree
  suffix = either (is_sign signs.OpenBracket) (suffixes.Subscripts <$> subscripts) field_suffix

  -- PRIM SUFFIX SUFFIX ..
  unfoldable pub post : Parser PostTree
  post = do
    at ← here
    t ← prim
    rest ← many starts_suffix suffix
    pure (roll-PostTree (record { at = at; prim = t; suffixes = rest }))

  -- ---- products and sums

  -- - OPERAND
  unfoldable pub negated : Parser Operand
  negated = do
    at ← here
    sign signs.Minus
    t ← below.operand at
    pure (negative at t)

  -- WORD (PARAMS) MUL
  unfoldable pub aggregate : Parser Operand
  aggregate = do
    at ← here
    op ← one aggregate_in
    body ← below.aggregate at
    pure (operands.Open (opens.Aggregate at op body.0 body.1))

  -- an aggregate or a factor, with signs before it
  unfoldable pub operand : Parser Operand
  operand =
      either (is_sign signs.Minus) negated
      (either is_aggregate aggregate
      ((λ t. operands.Sign (factors.Postfix t)) <$> post))

  -- behind an operator: an aggregate ends the product, and behind a factor more may come
  abbrev pub after_factor : (List MulStep → Parser (List MulStep × Option LastStep)) → List MulStep → MulOp → Operand → Parser (List MulStep × Option LastStep)
  after_factor more found op (operands.Open t) = pure (found, Some (roll-LastStep (record { op = op; factor = t })))
  after_factor more found op (operands.Sign t) = more (found ++ roll-MulStep (record { op = op; factor = t }) ∷ [])

  -- the steps of a product behind those found, as long as an operator comes
  unfoldable pub steps_from : ℕ → List MulStep → Parser (List MulStep × Option LastStep)
  steps_from zero found = refuse
  steps_from (suc n) found = λ i.
      if is_mul_op (kind i)
      then (one mul_op_in >>= (λ op. operand >>= after_factor (steps_from n) found op)) i
      else Ok ((found, None), i)

  -- the steps of a product
  unfoldable pub steps : Parser (List MulStep × Option LastStep)
  steps = λ i. steps_from (suc (left i)) [] i

  -- what a product that begins with this operand at this place is
  abbrev pub mul_of : ℕ → Operand → Parser MulTree
  mul_of at (operands.Open t) = pure (muls.Opened t)
  mul_of at (operands.Sign t) = (λ more. muls.Product at t more.0 more.1) <$> steps

  -- OPERAND, or FACTOR * FACTOR div .. OPERAND
  unfoldable pub mul : Parser MulTree
  mul = do
    at ← here
    first ← operand
    mul_of at first

  -- + MUL or - MUL
  unfoldable pub add_step : Parser AddStep
  add_step = do
    op ← one add_op_in
    t ← mul
    pure (roll-AddStep (record { op = op; term = t }))

  -- MUL + MUL - ..
  unfoldable pub add : Parser AddTree
  add = do
    at ← here
    first ← mul
    rest ← many is_add_op add_step
    pure (roll-AddTree (record { at = at; first = first; rest = rest }))

  -- ADD, ADD, ..
  unfoldable pub adds : Parser (AddTree × List AddTree)
  adds = do
    first ← add
    rest ← after_each signs.Comma add
    pure (first, rest)

  -- .. ADD
  unfoldable pub upper : Parser AddTree
  upper = sign signs.Range >> add

  -- ADD or ADD .. ADD
  unfoldable pub set : Parser SetTree
  set = do
    at ← here
    low ← add
    high ← maybe (is_sign signs.Range) upper
    pure (roll-SetTree (record { at = at; low = low; high = high }))

  -- ---- truth

  -- RELATION ADD
  unfoldable pub related : ℕ → AddTree → Parser CompareTree
  related at left = do
    relation ← one relation_in
    right ← add
    pure (compares.Related at left relation right)

  -- in SET
  unfoldable pub member : ℕ → AddTree → Parser CompareTree
  member at left = do
    word words.In
    t ← set
    pure (compares.Member at left t)

  -- what a comparison that begins with this sum at this place is
  unfoldable pub compare_of : ℕ → AddTree → Parser CompareTree
  compare_of at left =
      either is_relation (related at left)
      (either (is_word words.In) (member at left)
      (pure (compares.Single at left)))

  -- ADD, ADD RELATION ADD or ADD in SET
  unfoldable pub compare : Parser CompareTree
  compare = do
    at ← here
    left ← add
    compare_of at left

  -- not NEG
  unfoldable pub negation : Parser NegTree
  negation = do
    at ← here
    word words.Not
    t ← below.neg at
    pure (negs.Not at t)

  -- not NEG, or a comparison
  unfoldable pub neg : Parser NegTree
  neg = either (is_word words.Not) negation (negs.Compare <$> compare)

  -- NEG & NEG & ..
  unfoldable pub and : Parser AndTree
  and = do
    at ← here
    first ← neg
    rest ← after_each signs.And neg
    pure (roll-AndTree (record { at = at; first = first; rest = rest }))

  -- AND \/ AND \/ ..
  unfoldable pub or : Parser OrTree
  or = do
    at ← here
    first ← and
    rest ← after_each signs.Or and
    pure (roll-OrTree (record { at = at; first = first; rest = rest }))

  -- => IMP
  unfoldable pub conclusion : Parser ImpTree
  conclusion = do
    at ← here
    sign signs.Implies
    below.imp at

  -- OR or OR => IMP
  unfoldable pub imp : Parser ImpTree
  imp = do
    at ← here
    premise ← or
    t ← maybe (is_sign signs.Implies) conclusion
    pure (roll-ImpTree (record { at = at; premise = premise; conclusion = t }))

  -- IMP <=> IMP <=> ..
  unfoldable pub expr : Parser ExprTree
  expr = do
    at ← here
    first ← imp
    rest ← after_each signs.Equivalent imp
    pure (roll-ExprTree (record { at = at; first = first; rest = rest }))

  -- ---- parameters

  -- <NAME, NAME, ..>
  unfoldable pub record_pattern : Parser PatternTree
  record_pattern = do
    at ← here
    sign signs.Less
    parts ← below.names at
    sign signs.Greater
    pure (patterns.Record at parts.0 parts.1)

  -- NAME or <NAME, NAME, ..>
  unfoldable pub pattern : Parser PatternTree
  pattern = either (is_sign signs.Less) record_pattern (patterns.Single <$> name)

  -- PATTERN, PATTERN, .. in SET, with or without `ordered` before it
  unfoldable pub group : Parser GroupTree
  group = do
    at ← here
    is_ordered ← flag (is_word words.Ordered) (word words.Ordered)
    first ← pattern
    rest ← after_each signs.Comma pattern
    word words.In
    t ← set
    pure (roll-GroupTree (record { at = at; is_ordered = is_ordered; first = first; rest = rest; set = t }))

  -- , GROUP or & GROUP
  unfoldable pub group_step : Parser GroupStep
  group_step = do
    separator ← one separator_in
    t ← group
    pure (roll-GroupStep (record { separator = separator; group = t }))

  -- : EXPR
  unfoldable pub condition : Parser ExprTree
  condition = sign signs.Colon >> expr

  -- GROUP, GROUP & .., with or without : EXPR
  unfoldable pub params : Parser ParamsTree
  params = do
    at ← here
    first ← group
    rest ← many is_separator group_step
    t ← maybe (is_sign signs.Colon) condition
    pure (roll-ParamsTree (record { at = at; first = first; rest = rest; condition = t }))

  -- (PARAMS)
  unfoldable pub chosen : Parser ParamsTree
  chosen = do
    at ← here
    sign signs.OpenParenthesis
    t ← below.params at
    sign signs.CloseParenthesis
    pure t

  -- ordered by increasing ADD or ordered by decreasing ADD
  unfoldable pub order : Parser OrderTree
  order = do
    at ← here
    word words.Ordered
    word words.By
    is_increasing ← one direction_in
    key ← add
    pure (record { at = at; is_increasing = is_increasing; key = key })

  -- PARAMS or PARAMS ORDER
  unfoldable pub ordered_params : Parser OrderedParamsTree
  ordered_params = do
    at ← here
    t ← params
    o ← maybe (is_word words.Ordered) order
    pure (record { at = at; params = t; order = o })

  -- ---- what stands in brackets

  -- (PARAMS) MUL
  unfoldable pub aggregated : Parser (ParamsTree × MulTree)
  aggregated = do
    t ← chosen
    body ← mul
    pure (t, body)

  -- ADD, ADD, .. or nothing
  unfoldable pub listed : Parser (List AddTree)
  listed = either starts_add ((λ parts. parts.0 ∷ parts.1) <$> adds) (pure [])

  -- | PARAMS
  unfoldable pub described : AddTree → Parser Braced
  described first = do
    sign signs.Bar
    t ← params
    pure (braces.Described first t)

  -- , ADD, ..
  unfoldable pub listed_behind : AddTree → Parser Braced
  listed_behind first = do
    rest ← after_each signs.Comma add
    pure (braces.Listed (first ∷ rest))

  -- ADD, ADD, .. or ADD | PARAMS
  unfoldable pub braced_parts : Parser Braced
  braced_parts = do
    first ← add
    either (is_sign signs.Bar) (described first) (listed_behind first)

  -- what stands in the braces of a set
  unfoldable pub braced : Parser Braced
  braced = either starts_add braced_parts (pure (braces.Listed []))

  -- ADD:ADD
  unfoldable pub keyed_part : Parser KeyedTree
  keyed_part = do
    key ← add
    sign signs.Colon
    value ← add
    pure (roll-KeyedTree (record { key = key; value = value }))

  -- ADD:ADD, ADD:ADD, ..
  unfoldable pub keyed_parts : Parser (List KeyedTree)
  keyed_parts = do
    first ← keyed_part
    rest ← after_each signs.Comma keyed_part
    pure (first ∷ rest)

  -- ADD:ADD, ADD:ADD, .. or nothing
  unfoldable pub keyed : Parser (List KeyedTree)
  keyed = either starts_add keyed_parts (pure [])

  -- ADD or ADD .. ADD, as two ends
  unfoldable pub ends : Parser (AddTree × Option AddTree)
  ends = do
    low ← add
    high ← maybe (is_sign signs.Range) upper
    pure (low, high)

  -- int
  unfoldable pub int_type : Parser TypeTree
  int_type = do
    at ← here
    word words.Int
    pure (types.Int at)

  -- {TYPE}
  unfoldable pub set_type : Parser TypeTree
  set_type = do
    at ← here
    sign signs.OpenBrace
    t ← below.type_tree at
    sign signs.CloseBrace
    pure (types.Set at t)

  -- int, {TYPE} or NAME
  unfoldable pub type_tree : Parser TypeTree
  type_tree = either (is_word words.Int) int_type (either (is_sign signs.OpenBrace) set_type (types.Named <$> name))

  -- TYPE NAME;
  unfoldable pub field : Parser FieldTree
  field = do
    at ← here
    kind ← type_tree
    t ← name
    sign signs.Semicolon
    pure (record { at = at; kind = kind; name = t })

  -- FIELD FIELD ..
  unfoldable pub fields : Parser (FieldTree × List FieldTree)
  fields = do
    first ← field
    rest ← many starts_type field
    pure (first, rest)

  -- in SET, where what stands before is just a name
  abbrev pub dim_named : ℕ → Option NameTree → Parser DimTree
  dim_named at (Some t) = word words.In >> ((λ s. record { at = at; name = Some t; set = s }) <$> set)
  dim_named at None = refuse

  -- what a dimension that begins with this set at this place is
  unfoldable pub dim_of : ℕ → SetTree → Parser DimTree
  dim_of at t = either (is_word words.In) (dim_named at (name_of t)) (pure (record { at = at; name = None; set = t }))

  -- SET or NAME in SET
  unfoldable pub dim : Parser DimTree
  dim = do
    at ← here
    t ← set
    dim_of at t

  -- DIM, DIM, ..
  unfoldable pub dims : Parser (DimTree × List DimTree)
  dims = do
    first ← dim
    rest ← after_each signs.Comma dim
    pure (first, rest)

  -- ---- one level more

  -- what is read behind an opening token, over what is one level deeper
  unfoldable pub level : Rules
  level = record {
    expr = λ at. expr;
    add = λ at. add;
    post = λ at. post;
    params = λ at. params;
    ordered = λ at. ordered_params;
    ends = λ at. ends;
    imp = λ at. imp;
    neg = λ at. neg;
    operand = λ at. operand;
    aggregate = λ at. aggregated;
    adds = λ at. adds;
    listed = λ at. listed;
    keyed = λ at. keyed;
    braced = λ at. braced;
    names = λ at. names;
    type_tree = λ at. type_tree;
    fields = λ at. fields;
    dims = λ at. dims;
  }

-- no level is left
abbrev pub no_level : Rules
no_level = record {
  expr = refuse_level;
  add = refuse_level;
  post = refuse_level;
  params = refuse_level;
  ordered = refuse_level;
  ends = refuse_level;
  imp = refuse_level;
  neg = refuse_level;
  operand = refuse_level;
  aggregate = refuse_level;
  adds = refuse_level;
  listed = refuse_level;
  keyed = refuse_level;
  braced = refuse_level;
  names = refuse_level;
  type_tree = refuse_level;
  fields = refuse_level;
  dims = refuse_level;
}

-- what is read behind an opening token, where so many levels may be opened
unfoldable pub rules : ℕ → Rules
rules zero = no_level
rules (suc n) = level (rules n)
