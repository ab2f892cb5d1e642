-- The expressions that stand in an expression, and their first tokens.
use Rattle.std.specs.Prelude.{◌≡◌, ℕ, Bool, true, List, [], ◌∷◌, ◌++◌, Some}
use Rattle.std.specs.List.{slice_get}
use Rattle.opl_type_rules.specs.Scope.{Text}
use Rattle.opl_type_rules.specs.Forms.{Form, Forms, Pairs, SetForm, Groups, Params}
use Rattle.opl_type_rules.specs.Forms.Form.{number, named, bracket, negative, arithmetic, absolute, related, member, connected, aggregate, cardinality, all_different, subscripted, field, tuple, listed, described, cells, keyed_cells, question}
use Rattle.opl_type_rules.specs.Forms.Forms.{no_forms, more_forms}
use Rattle.opl_type_rules.specs.Forms.Pairs.{no_pairs, more_pairs}
use Rattle.opl_type_rules.specs.Forms.SetForm.{whole, between}
use Rattle.opl_type_rules.specs.Forms.Groups.{no_groups, more_groups}
use Rattle.opl_type_rules.specs.Forms.Params.{all_of, those_of}
use Rattle.opl_not_data.specs.Mentions.{uses}

abbrev pub list_of : Forms → List Form
list_of no_forms = []
list_of (more_forms f fs) = f ∷ list_of fs

abbrev pub list_of_pairs : Pairs → List Form
list_of_pairs no_pairs = []
list_of_pairs (more_pairs key cell others) = key ∷ cell ∷ list_of_pairs others

abbrev pub list_of_set : SetForm → List Form
list_of_set (whole f) = f ∷ []
list_of_set (between low high) = low ∷ high ∷ []

abbrev pub list_of_groups : Groups → List Form
list_of_groups no_groups = []
list_of_groups (more_groups ps over others) = list_of_set over ++ list_of_groups others

abbrev pub list_of_params : Params → List Form
list_of_params (all_of groups) = list_of_groups groups
list_of_params (those_of groups condition) = condition ∷ list_of_groups groups

-- the expressions that an expression is made of
abbrev pub parts : Form → List Form
parts (number at) = []
parts (named name) = []
parts (bracket at f) = f ∷ []
parts (negative at f) = f ∷ []
parts (arithmetic at fs) = list_of fs
parts (absolute at f) = f ∷ []
parts (related at f relation g) = f ∷ g ∷ []
parts (member at f over) = f ∷ list_of_set over
parts (connected at fs) = list_of fs
parts (aggregate at p f) = f ∷ list_of_params p
parts (cardinality at f) = f ∷ []
parts (all_different at f) = f ∷ []
parts (subscripted at f es) = f ∷ list_of es
parts (field at f name) = f ∷ []
parts (tuple at fs) = list_of fs
parts (listed at fs) = list_of fs
parts (described at f p) = f ∷ list_of_params p
parts (cells at fs) = list_of fs
parts (keyed_cells at ps) = list_of_pairs ps
parts (question at op f) = f ∷ []

-- an expression stands in another: it is that one, or stands in one of its parts
pub data StandsIn (g : Form) : Form → Type 0 where
  itself : StandsIn g g
  deeper : (f h : Form) (i : ℕ) → slice_get (parts f) i ≡ Some h → StandsIn g h → StandsIn g f

-- the place of an expression's first token
abbrev pub first_token : Form → ℕ
first_token (number at) = at
first_token (named name) = name.at
first_token (bracket at f) = at
first_token (negative at f) = at
first_token (arithmetic at fs) = at
first_token (absolute at f) = at
first_token (related at f relation g) = at
first_token (member at f over) = at
first_token (connected at fs) = at
first_token (aggregate at p f) = at
first_token (cardinality at f) = at
first_token (all_different at f) = at
first_token (subscripted at f es) = at
first_token (field at f name) = at
first_token (tuple at fs) = at
first_token (listed at fs) = at
first_token (described at f p) = at
first_token (cells at fs) = at
first_token (keyed_cells at ps) = at
first_token (question at op f) = at

-- at this place begins an expression in f that mentions what is no data
pub record IsMentionedAt (d : Text → Bool) (f : Form) (at : ℕ) : Type 0 where
  pub expression : Form
  pub stands : StandsIn expression f
  pub begins : first_token expression ≡ at
  pub mentions : uses d expression ≡ true
