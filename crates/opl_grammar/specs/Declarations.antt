-- The rules of declarations.
use Rattle.std.specs.Prelude.{Option, Some, None}
use Rattle.opl_token.specs.declared.sign.Sign.TheVariants as signs
use Rattle.opl_tree.specs.declared.keyword.Keyword.TheVariants as words
use Rattle.opl_tree.specs.declared.declaration.ActivityTree.{ActivityTree}
use Rattle.opl_tree.specs.declared.declaration.BoundsTree.{BoundsTree}
use Rattle.opl_tree.specs.declared.declaration.DataDeclTree.{DataDeclTree}
use Rattle.opl_tree.specs.declared.declaration.DeclTree.{DeclTree}
use Rattle.opl_tree.specs.declared.declaration.DeclTree.TheVariants as decls
use Rattle.opl_tree.specs.declared.declaration.DimsTree.{DimsTree}
use Rattle.opl_tree.specs.declared.declaration.DiscreteTree.{DiscreteTree}
use Rattle.opl_tree.specs.declared.declaration.EnumNamesTree.{EnumNamesTree}
use Rattle.opl_tree.specs.declared.declaration.EnumNamesTree.TheVariants as enum_names
use Rattle.opl_tree.specs.declared.declaration.EnumTree.{EnumTree}
use Rattle.opl_tree.specs.declared.declaration.InitialTree.{InitialTree}
use Rattle.opl_tree.specs.declared.declaration.InitialTree.TheVariants as initials
use Rattle.opl_tree.specs.declared.declaration.RangeTree.{RangeTree}
use Rattle.opl_tree.specs.declared.declaration.ScheduleTree.{ScheduleTree}
use Rattle.opl_tree.specs.declared.declaration.StructTree.{StructTree}
use Rattle.opl_tree.specs.declared.declaration.UnaryTree.{UnaryTree}
use Rattle.opl_tree.specs.declared.declaration.VariableTree.{VariableTree}
use Rattle.opl_tree.specs.declared.declaration.VariableTypeTree.{VariableTypeTree}
use Rattle.opl_tree.specs.declared.declaration.VariableTypeTree.TheVariants as variable_types
use Rattle.opl_grammar.specs.Input.{Parser, ◌>>=◌, ◌>>◌, ◌<$>◌, pure, here, one, sign, word, either, maybe, flag, is_sign, is_word}
use Rattle.opl_grammar.specs.Rules.{Rules, name, add, upper, type_tree}
use Rattle.opl_grammar.specs.Tables.{schedule_end_in, starts_type}

module _ (below : Rules) where
  -- [DIM, DIM, ..]
  unfoldable pub dims_tree : Parser DimsTree
  dims_tree = do
    at ← here
    sign signs.OpenBracket
    parts ← below.dims at
    sign signs.CloseBracket
    pure (record { at = at; first = parts.0; rest = parts.1 })

  -- [DIM, DIM, ..] or nothing
  unfoldable pub optional_dims : Parser (Option DimsTree)
  optional_dims = maybe (is_sign signs.OpenBracket) dims_tree

  -- `...`
  unfoldable pub external : Parser InitialTree
  external = do
    at ← here
    sign signs.Ellipsis
    pure (initials.External at)

  -- `...` or ADD
  unfoldable pub initial : Parser InitialTree
  initial = either (is_sign signs.Ellipsis) external (initials.Written <$> add below)

  -- TYPE NAME [DIMS] = INITIAL;
  unfoldable pub data_decl : Parser DataDeclTree
  data_decl = do
    at ← here
    kind ← type_tree below
    t ← name
    dims ← optional_dims
    sign signs.Equal
    value ← initial
    sign signs.Semicolon
    pure (record { at = at; kind = kind; name = t; dims = dims; initial = value })

  -- range NAME ADD .. ADD;
  unfoldable pub range_decl : Parser RangeTree
  range_decl = do
    at ← here
    word words.Range
    t ← name
    low ← add below
    high ← upper below
    sign signs.Semicolon
    pure (record { at = at; name = t; low = low; high = high })

  -- {NAME, NAME, ..}
  unfoldable pub listed_names : Parser EnumNamesTree
  listed_names = do
    at ← here
    sign signs.OpenBrace
    parts ← below.names at
    sign signs.CloseBrace
    pure (enum_names.Listed at parts.0 parts.1)

  -- `...` with or without `=` before it
  unfoldable pub external_names : Parser EnumNamesTree
  external_names = do
    at ← here
    has_equal ← flag (is_sign signs.Equal) (sign signs.Equal)
    sign signs.Ellipsis
    pure (enum_names.External at has_equal)

  -- enum NAME NAMES;
  unfoldable pub enum_decl : Parser EnumTree
  enum_decl = do
    at ← here
    word words.Enum
    t ← name
    names ← either (is_sign signs.OpenBrace) listed_names external_names
    sign signs.Semicolon
    pure (record { at = at; name = t; names = names })

  -- struct NAME {FIELD FIELD ..};
  unfoldable pub struct_decl : Parser StructTree
  struct_decl = do
    at ← here
    word words.Struct
    t ← name
    opener ← here
    sign signs.OpenBrace
    parts ← below.fields opener
    sign signs.CloseBrace
    sign signs.Semicolon
    pure (record { at = at; name = t; first = parts.0; rest = parts.1 })

  -- int
  unfoldable pub int_variable : Parser VariableTypeTree
  int_variable = do
    at ← here
    word words.Int
    pure (variable_types.Int at)

  -- int or NAME
  unfoldable pub variable_type : Parser VariableTypeTree
  variable_type = either (is_word words.Int) int_variable (variable_types.Named <$> name)

  -- in ADD .. ADD
  unfoldable pub bounds : Parser BoundsTree
  bounds = do
    at ← here
    word words.In
    low ← add below
    high ← upper below
    pure (record { at = at; low = low; high = high })

  -- var TYPE NAME [DIMS] [BOUNDS];
  unfoldable pub variable_decl : Parser VariableTree
  variable_decl = do
    at ← here
    word words.Var
    kind ← variable_type
    t ← name
    dims ← optional_dims
    within ← maybe (is_word words.In) bounds
    sign signs.Semicolon
    pure (record { at = at; kind = kind; name = t; dims = dims; bounds = within })

  -- Activity NAME [DIMS] (ADD); or Activity NAME [DIMS] (ADD .. ADD);
  unfoldable pub activity_decl : Parser ActivityTree
  activity_decl = do
    at ← here
    word words.Activity
    t ← name
    dims ← optional_dims
    opener ← here
    sign signs.OpenParenthesis
    ends ← below.ends opener
    sign signs.CloseParenthesis
    sign signs.Semicolon
    pure (record { at = at; name = t; dims = dims; shortest = ends.0; longest = ends.1 })

  -- UnaryResource NAME [DIMS];
  unfoldable pub unary_decl : Parser UnaryTree
  unary_decl = do
    at ← here
    word words.UnaryResource
    t ← name
    dims ← optional_dims
    sign signs.Semicolon
    pure (record { at = at; name = t; dims = dims })

  -- DiscreteResource NAME [DIMS] (ADD);
  unfoldable pub discrete_decl : Parser DiscreteTree
  discrete_decl = do
    at ← here
    word words.DiscreteResource
    t ← name
    dims ← optional_dims
    opener ← here
    sign signs.OpenParenthesis
    capacity ← below.add opener
    sign signs.CloseParenthesis
    sign signs.Semicolon
    pure (record { at = at; name = t; dims = dims; capacity = capacity })

  -- scheduleOrigin = ADD; or scheduleHorizon = ADD;
  unfoldable pub schedule_decl : Parser ScheduleTree
  schedule_decl = do
    at ← here
    which ← one schedule_end_in
    sign signs.Equal
    value ← add below
    sign signs.Semicolon
    pure (record { at = at; end = which; value = value })

  -- a declaration of something that is solved for, or of an end of the schedule
  unfoldable pub scheduled_decl : Parser DeclTree
  scheduled_decl =
      either (is_word words.Activity) (decls.Activity <$> activity_decl)
      (either (is_word words.UnaryResource) (decls.Unary <$> unary_decl)
      (either (is_word words.DiscreteResource) (decls.Discrete <$> discrete_decl)
      (decls.Schedule <$> schedule_decl)))

  -- a declaration that begins with a word of the language other than `int`
  unfoldable pub word_decl : Parser DeclTree
  word_decl =
      either (is_word words.Range) (decls.Range <$> range_decl)
      (either (is_word words.Enum) (decls.Enumeration <$> enum_decl)
      (either (is_word words.Struct) (decls.Structure <$> struct_decl)
      (either (is_word words.Var) (decls.Variable <$> variable_decl)
      scheduled_decl)))

  -- a declaration
  unfoldable pub decl : Parser DeclTree
  decl = either starts_type (decls.Data <$> data_decl) word_decl
