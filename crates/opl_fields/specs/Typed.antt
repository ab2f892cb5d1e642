-- The positions of the fields that an expression names, by the rules of typing alone: each base is typed where it stands.
use Rattle.std.specs.Prelude.{ℕ, List, [], ◌∷◌, ◌++◌, Option, Some, None, Ok, Err}
use Rattle.opl_tree.specs.declared.declaration.DeclTree.{DeclTree}
use Rattle.opl_tree.specs.declared.expression.NameTree.{NameTree}
use Rattle.opl_tree.specs.declared.expression.PatternTree.{PatternTree}
use Rattle.opl_type_rules.specs.Types.{is_set}
use Rattle.opl_type_rules.specs.Scope.{Checked, Scope}
use Rattle.opl_type_rules.specs.Forms.{Form, Forms, Pairs, SetForm, Groups, Params}
use Rattle.opl_type_rules.specs.Forms.Form.{number, named, bracket, negative, arithmetic, absolute, related, member, connected, aggregate, cardinality, all_different, subscripted, field, tuple, listed, described, cells, keyed_cells, question}
use Rattle.opl_type_rules.specs.Forms.Forms.{no_forms, more_forms}
use Rattle.opl_type_rules.specs.Forms.Pairs.{no_pairs, more_pairs}
use Rattle.opl_type_rules.specs.Forms.SetForm.{whole, between}
use Rattle.opl_type_rules.specs.Forms.Groups.{no_groups, more_groups}
use Rattle.opl_type_rules.specs.Forms.Params.{all_of, those_of}
use Rattle.opl_type_rules.specs.Expressions.{Node, Range, Opened, bind_patterns, or_anything, typing, typed_set, open_groups, open_params}
use Rattle.opl_type_rules.specs.Expressions.Need.{data_alone}
use Rattle.opl_fields.specs.declared.place.FieldPlace.{FieldPlace}
use Rattle.opl_fields.specs.Structs.{position}
use Rattle.opl_fields.specs.Fields.{record_of}

-- a field, where the struct has it
abbrev pub placed : ℕ → Option ℕ → List FieldPlace
placed place None = []
placed place (Some p) = record { place = place; position = p } ∷ []

-- a field of a record of that struct
abbrev pub field_of_record : List DeclTree → NameTree → Option ℕ → List FieldPlace
field_of_record ds name None = []
field_of_record ds name (Some k) = placed name.at (position ds k name.text)

-- a field of what typing finds
abbrev pub field_of : List DeclTree → NameTree → Checked Node → List FieldPlace
field_of ds name (Ok n) = field_of_record ds name (record_of n.sort)
field_of ds name (Err e) = []

-- the scope behind parameters, where they have no fault
abbrev pub scope_behind : Scope → Checked Opened → Scope
scope_behind sc (Ok opened) = opened.scope
scope_behind sc (Err e) = sc

abbrev pub scope_or : Scope → Checked Scope → Scope
scope_or sc (Ok inner) = inner
scope_or sc (Err e) = sc

-- the scope behind one group of parameters, where its set has no fault
abbrev pub scope_bound : Scope → List PatternTree → Checked Range → Scope
scope_bound sc ps (Ok range) = scope_or sc (bind_patterns sc (or_anything range.element) ps)
scope_bound sc ps (Err e) = sc

unfoldable mutual
  -- in the order of the text
  pub form_fields : List DeclTree → Scope → Form → List FieldPlace
  form_fields ds sc (number at) = []
  form_fields ds sc (named name) = []
  form_fields ds sc (bracket at f) = form_fields ds sc f
  form_fields ds sc (negative at f) = form_fields ds sc f
  form_fields ds sc (arithmetic at fs) = parts_fields ds sc fs
  form_fields ds sc (absolute at f) = form_fields ds sc f
  form_fields ds sc (related at f relation g) = form_fields ds sc f ++ form_fields ds sc g
  form_fields ds sc (member at f over) = form_fields ds sc f ++ set_fields ds sc over
  form_fields ds sc (connected at fs) = parts_fields ds sc fs
  form_fields ds sc (aggregate at p f) = params_fields ds sc p ++ form_fields ds (scope_behind sc (open_params data_alone sc p)) f
  form_fields ds sc (cardinality at f) = form_fields ds sc f
  form_fields ds sc (all_different at f) = form_fields ds sc f
  form_fields ds sc (subscripted at f es) = form_fields ds sc f ++ parts_fields ds sc es
  form_fields ds sc (field at f name) = form_fields ds sc f ++ field_of ds name (typing sc f)
  form_fields ds sc (tuple at fs) = parts_fields ds sc fs
  form_fields ds sc (listed at fs) = parts_fields ds sc fs
  form_fields ds sc (described at f p) = form_fields ds (scope_behind sc (open_params data_alone sc p)) f ++ params_fields ds sc p
  form_fields ds sc (cells at fs) = parts_fields ds sc fs
  form_fields ds sc (keyed_cells at ps) = pairs_fields ds sc ps
  form_fields ds sc (question at op f) = form_fields ds sc f

  pub parts_fields : List DeclTree → Scope → Forms → List FieldPlace
  parts_fields ds sc no_forms = []
  parts_fields ds sc (more_forms f fs) = form_fields ds sc f ++ parts_fields ds sc fs

  pub pairs_fields : List DeclTree → Scope → Pairs → List FieldPlace
  pairs_fields ds sc no_pairs = []
  pairs_fields ds sc (more_pairs key cell others) = form_fields ds sc key ++ (form_fields ds sc cell ++ pairs_fields ds sc others)

  pub set_fields : List DeclTree → Scope → SetForm → List FieldPlace
  set_fields ds sc (whole f) = form_fields ds sc f
  set_fields ds sc (between low high) = form_fields ds sc low ++ form_fields ds sc high

  -- the names of a group are visible in the sets of those behind it
  pub groups_fields : List DeclTree → Scope → Groups → List FieldPlace
  groups_fields ds sc no_groups = []
  groups_fields ds sc (more_groups ps over others) = set_fields ds sc over ++ groups_fields ds (scope_bound sc ps (typed_set data_alone is_set sc over)) others

  pub params_fields : List DeclTree → Scope → Params → List FieldPlace
  params_fields ds sc (all_of groups) = groups_fields ds sc groups
  params_fields ds sc (those_of groups condition) = groups_fields ds sc groups ++ form_fields ds (scope_behind sc (open_groups sc groups)) condition
