-- Where an expression mentions what is no data: decision variables and activities, and questions.
use Rattle.std.specs.Prelude.{Bool, true, false, ◌||◌, Option, Some, None}
use Rattle.opl_type_rules.specs.Scope.{Text, Scope, Thing, lookup, is_decided}
use Rattle.opl_type_rules.specs.Forms.{Form, Forms, Pairs, SetForm, Groups, Params}
use Rattle.opl_type_rules.specs.Forms.Form.{number, named, bracket, negative, arithmetic, absolute, related, member, connected, aggregate, cardinality, all_different, subscripted, field, tuple, listed, described, cells, keyed_cells, question}
use Rattle.opl_type_rules.specs.Forms.Forms.{no_forms, more_forms}
use Rattle.opl_type_rules.specs.Forms.Pairs.{no_pairs, more_pairs}
use Rattle.opl_type_rules.specs.Forms.SetForm.{whole, between}
use Rattle.opl_type_rules.specs.Forms.Groups.{no_groups, more_groups}
use Rattle.opl_type_rules.specs.Forms.Params.{all_of, those_of}

-- whether a name stands for a decision variable or an activity, or for an array of such
abbrev pub thing_decided : Option Thing → Bool
thing_decided (Some thing) = is_decided thing
thing_decided None = false

unfoldable pub decided : Scope → Text → Bool
decided sc name = thing_decided (lookup sc name)

module _ (is_decided_name : Text → Bool) where
  abbrev mutual
    -- whether such a name stands in an expression, other than in a question
    pub decides : Form → Bool
    decides (number at) = false
    decides (named name) = is_decided_name name.text
    decides (bracket at f) = decides f
    decides (negative at f) = decides f
    decides (arithmetic at fs) = some_decides fs
    decides (absolute at f) = decides f
    decides (related at f relation g) = decides f || decides g
    decides (member at f over) = decides f || set_decides over
    decides (connected at fs) = some_decides fs
    decides (aggregate at p f) = params_decides p || decides f
    decides (cardinality at f) = decides f
    decides (all_different at f) = decides f
    decides (subscripted at f es) = decides f || some_decides es
    decides (field at f name) = decides f
    decides (tuple at fs) = some_decides fs
    decides (listed at fs) = some_decides fs
    decides (described at f p) = decides f || params_decides p
    decides (cells at fs) = some_decides fs
    decides (keyed_cells at ps) = pairs_decides ps
    decides (question at op f) = false

    pub some_decides : Forms → Bool
    some_decides no_forms = false
    some_decides (more_forms f fs) = decides f || some_decides fs

    pub pairs_decides : Pairs → Bool
    pairs_decides no_pairs = false
    pairs_decides (more_pairs key cell others) = decides key || (decides cell || pairs_decides others)

    pub set_decides : SetForm → Bool
    set_decides (whole f) = decides f
    set_decides (between low high) = decides low || decides high

    pub groups_decides : Groups → Bool
    groups_decides no_groups = false
    groups_decides (more_groups ps over others) = set_decides over || groups_decides others

    pub params_decides : Params → Bool
    params_decides (all_of groups) = groups_decides groups
    params_decides (those_of groups condition) = groups_decides groups || decides condition

abbrev mutual
  -- whether a question stands in an expression
  pub asks : Form → Bool
  asks (number at) = false
  asks (named name) = false
  asks (bracket at f) = asks f
  asks (negative at f) = asks f
  asks (arithmetic at fs) = some_asks fs
  asks (absolute at f) = asks f
  asks (related at f relation g) = asks f || asks g
  asks (member at f over) = asks f || set_asks over
  asks (connected at fs) = some_asks fs
  asks (aggregate at p f) = params_asks p || asks f
  asks (cardinality at f) = asks f
  asks (all_different at f) = asks f
  asks (subscripted at f es) = asks f || some_asks es
  asks (field at f name) = asks f
  asks (tuple at fs) = some_asks fs
  asks (listed at fs) = some_asks fs
  asks (described at f p) = asks f || params_asks p
  asks (cells at fs) = some_asks fs
  asks (keyed_cells at ps) = pairs_asks ps
  asks (question at op f) = true

  pub some_asks : Forms → Bool
  some_asks no_forms = false
  some_asks (more_forms f fs) = asks f || some_asks fs

  pub pairs_asks : Pairs → Bool
  pairs_asks no_pairs = false
  pairs_asks (more_pairs key cell others) = asks key || (asks cell || pairs_asks others)

  pub set_asks : SetForm → Bool
  set_asks (whole f) = asks f
  set_asks (between low high) = asks low || asks high

  pub groups_asks : Groups → Bool
  groups_asks no_groups = false
  groups_asks (more_groups ps over others) = set_asks over || groups_asks others

  pub params_asks : Params → Bool
  params_asks (all_of groups) = groups_asks groups
  params_asks (those_of groups condition) = groups_asks groups || asks condition

-- an expression mentions what is no data, as these names stand
abbrev pub uses : (Text → Bool) → Form → Bool
uses is_decided_name f = decides is_decided_name f || asks f
