-- Where decision variables are named in expressions as plain data.
use Rattle.std.specs.Prelude.{◌≡◌, Bool, true, false, ◌||◌, bytes_eq, List, Option, Some, None}
use Rattle.std.specs.List.{list_any}
use Rattle.opl_type_rules.specs.Types.{Sort}
use Rattle.opl_type_rules.specs.Scope.{Text, Scope, Thing, lookup}
use Rattle.opl_type_rules.specs.Scope.Thing.{variable}
use Rattle.opl_type_rules.specs.Forms.{Form, Forms, Pairs, SetForm, Groups, Params}
use Rattle.opl_type_rules.specs.Forms.Form.{number, named, bracket, negative, arithmetic, absolute, related, member, connected, aggregate, cardinality, all_different, subscripted, field, tuple, listed, described, cells, keyed_cells, question}
use Rattle.opl_type_rules.specs.Forms.Forms.{no_forms, more_forms}
use Rattle.opl_type_rules.specs.Forms.Pairs.{no_pairs, more_pairs}
use Rattle.opl_type_rules.specs.Forms.SetForm.{whole, between}
use Rattle.opl_type_rules.specs.Forms.Groups.{no_groups, more_groups}
use Rattle.opl_type_rules.specs.Forms.Params.{all_of, those_of}

-- whether a name is one of these
abbrev pub is_among : List Text → Text → Bool
is_among names name = list_any (bytes_eq name) names

module _ (names : List Text) where
  abbrev mutual
    -- whether one of these names stands in an expression
    pub mentions : Form → Bool
    mentions (number at) = false
    mentions (named name) = is_among names name.text
    mentions (bracket at f) = mentions f
    mentions (negative at f) = mentions f
    mentions (arithmetic at fs) = some_mention fs
    mentions (absolute at f) = mentions f
    mentions (related at f relation g) = mentions f || mentions g
    mentions (member at f over) = mentions f || set_mentions over
    mentions (connected at fs) = some_mention fs
    mentions (aggregate at p f) = params_mention p || mentions f
    mentions (cardinality at f) = mentions f
    mentions (all_different at f) = mentions f
    mentions (subscripted at f es) = mentions f || some_mention es
    mentions (field at f name) = mentions f
    mentions (tuple at fs) = some_mention fs
    mentions (listed at fs) = some_mention fs
    mentions (described at f p) = mentions f || params_mention p
    mentions (cells at fs) = some_mention fs
    mentions (keyed_cells at ps) = pairs_mention ps
    mentions (question at op f) = mentions f

    pub some_mention : Forms → Bool
    some_mention no_forms = false
    some_mention (more_forms f fs) = mentions f || some_mention fs

    pub pairs_mention : Pairs → Bool
    pairs_mention no_pairs = false
    pairs_mention (more_pairs key cell others) = mentions key || (mentions cell || pairs_mention others)

    pub set_mentions : SetForm → Bool
    set_mentions (whole f) = mentions f
    set_mentions (between low high) = mentions low || mentions high

    pub groups_mention : Groups → Bool
    groups_mention no_groups = false
    groups_mention (more_groups ps over others) = set_mentions over || groups_mention others

    pub params_mention : Params → Bool
    params_mention (all_of groups) = groups_mention groups
    params_mention (those_of groups condition) = groups_mention groups || mentions condition

  -- these names are visible as decision variables, outside a search section
  pub record KeepsVariables (sc : Scope) : Type 0 where
    pub no_search : sc.is_search ≡ false
    pub visible : (name : Text) → is_among names name ≡ true → (s : Sort) × (lookup sc name ≡ Some (variable s))
