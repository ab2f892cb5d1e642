-- The types of expressions: one rule for each form, and the first fault, inner expressions before outer ones.
use Rattle.std.specs.Prelude.{ℕ, Bool, true, false, ◌&&◌, ◌||◌, not, List, [], ◌∷◌, ◌++◌, map, codes, length, nat_eq, Option, Some, None, is_some, Ok, Err}
use Rattle.std.specs.List.{list_any, list_all, flat_map}
use Rattle.std.specs.Str.{bytes_eq}
use Rattle.opl_tree.specs.declared.expression.NameTree.{NameTree}
use Rattle.opl_tree.specs.declared.expression.PatternTree.{PatternTree}
use Rattle.opl_tree.specs.declared.expression.PatternTree.TheVariants as patterns
use Rattle.opl_tree.specs.declared.expression.QuestionOp.{QuestionOp}
use Rattle.opl_tree.specs.declared.expression.QuestionOp.TheVariants as questions
use Rattle.opl_tree.specs.declared.expression.Relation.{Relation}
use Rattle.opl_tree.specs.declared.expression.Relation.TheVariants as relations
use Rattle.opl_type_rules.specs.declared.fault.TypeFault.TheVariants.{Unknown, Mismatch, NotData}
use Rattle.opl_type_rules.specs.Types.{Sort, Sorts, sorts_of, sort_list, is_number, is_truth, is_anything, is_single, is_storable, is_set, is_chosen, is_array_of_single, are_names, elements}
use Rattle.opl_type_rules.specs.Types.Sort.{int, bool, structure, row, set, empty_set, array, activity, anything}
use Rattle.opl_type_rules.specs.Types.Sorts.{no_sorts, more_sorts}
use Rattle.opl_type_rules.specs.Scope.{Checked, ◌>>=◌, ◌>>◌, unless, Text, Thing, Scope, lookup, declared, all_fresh, with_values, fields, field_sort, fits_in, joined_in, parts_in, fit_one_struct, sort_of, is_decided, is_variable}
use Rattle.opl_type_rules.specs.Scope.Thing.{value}
use Rattle.opl_type_rules.specs.Forms.{Form, Forms, Pairs, SetForm, Groups, Params}
use Rattle.opl_type_rules.specs.Forms.Form.{number, named, bracket, negative, arithmetic, absolute, related, member, connected, aggregate, cardinality, all_different, subscripted, field, tuple, listed, described, cells, keyed_cells, question}
use Rattle.opl_type_rules.specs.Forms.Forms.{no_forms, more_forms}
use Rattle.opl_type_rules.specs.Forms.Pairs.{no_pairs, more_pairs}
use Rattle.opl_type_rules.specs.Forms.SetForm.{whole, between}
use Rattle.opl_type_rules.specs.Forms.Groups.{no_groups, more_groups}
use Rattle.opl_type_rules.specs.Forms.Params.{all_of, those_of}

-- ---- what is known of an expression

pub record Node : Type 0 where
  -- its first token, and its type
  pub place : ℕ
  pub sort : Sort
  -- it names a decision variable or an activity, other than in a question; it has a question
  pub decides : Bool
  pub asks : Bool
  -- it is one decision variable; it is the name of a variable, an activity, or an array of such
  pub is_one : Bool
  pub is_whole : Bool
  -- its own rule: it takes data alone; its parts have the types that it takes
  pub takes_data : Bool
  pub is_right : Bool
  -- the types of the expressions in it, each before those of the expressions inside it, in the order of the text
  pub inner : List Sort

-- its type, and then those of the expressions in it
abbrev pub kinds : Node → List Sort
kinds n = n.sort ∷ n.inner

-- it names no decision variable, no activity and no question
abbrev pub is_data : Node → Bool
is_data n = not n.decides && not n.asks

-- an expression with these parts; of `inner` are the types of the expressions in it
abbrev pub node : ℕ → Sort → List Node → Bool → List Sort → Node
node at s parts is_right inner =
    record { place = at; sort = s; decides = list_any (λ n. n.decides) parts; asks = list_any (λ n. n.asks) parts; is_one = false; is_whole = false; takes_data = false; is_right = is_right; inner = inner }

abbrev pub kinds_in : List Node → List Sort
kinds_in = flat_map kinds

-- the parts stand one behind the other
abbrev pub made : ℕ → Sort → List Node → Bool → Node
made at s parts is_right = node at s parts is_right (kinds_in parts)

-- one that takes data alone
abbrev pub of_data : Node → Node
of_data n = record n { takes_data = true }

-- ---- an expression in its place

-- what a place asks of the expression that stands there
pub data Need : Type 0 where
  nothing : Need
  data_alone : Need
  data_or_questions : Need

abbrev pub is_met : Need → Node → Bool
is_met nothing n = true
is_met data_alone n = is_data n
is_met data_or_questions n = not n.decides

-- an expression that meets the need of its place, its own rule, and has a type that its place takes
unfoldable pub settled : Need → Bool → Node → Checked Node
settled need is_taken n = do
  unless (is_met need n && (not n.takes_data || is_data n)) (NotData n.place)
  unless (n.is_right && is_taken) (Mismatch n.place)
  Ok n

abbrev pub used : Need → (Sort → Bool) → Node → Checked Node
used need takes n = settled need (takes n.sort) n

abbrev pub any_type : Sort → Bool
any_type s = true

-- a part of an expression: the types of the parts are looked at by the expression itself
abbrev pub part : Node → Checked Node
part = used nothing any_type

-- an end of a range, a duration and the like
abbrev pub data_number : Node → Checked Node
data_number = used data_alone is_number

-- ---- the rules that look at the types of parts

-- names stand for what they were declared as
abbrev pub name_node : NameTree → Option Thing → Checked Node
name_node name None = Err (Unknown name.at)
name_node name (Some thing) =
    Ok (record { place = name.at; sort = sort_of thing; decides = is_decided thing; asks = false; is_one = is_variable thing && is_single (sort_of thing); is_whole = is_decided thing; takes_data = false; is_right = true; inner = [] })

-- a bracket is what stands in it
abbrev pub bracketed : ℕ → Node → Node
bracketed at n = record n { place = at; inner = kinds n }

abbrev pub all_sorts : (Sort → Bool) → List Node → Bool
all_sorts test = list_all (λ n. test n.sort)

-- two numbers or two names of one enumeration
abbrev pub are_ordered : Sort → Sort → Bool
are_ordered a b = (is_number a && is_number b) || (is_anything a || (is_anything b || are_names a b))

-- besides, records that fit one struct may be equal
abbrev pub are_related : Scope → Relation → Sort → Sort → Bool
are_related sc relations.Equal a b = are_ordered a b || fit_one_struct sc a b
are_related sc relations.NotEqual a b = are_ordered a b || fit_one_struct sc a b
are_related sc relation a b = are_ordered a b

-- the set's elements and the value are of one type
abbrev pub is_member : Scope → Option Sort → Sort → Bool
is_member sc None a = false
is_member sc (Some element) a = is_storable a && is_some (joined_in sc element a)

-- as many subscripts as dimensions, each of the type of its index
abbrev pub subscripts_fit : Scope → Sorts → List Node → Bool
subscripts_fit sc no_sorts [] = true
subscripts_fit sc (more_sorts want wants) (n ∷ ns) = fits_in sc want n.sort && subscripts_fit sc wants ns
subscripts_fit sc wants ns = false

-- where a subscript isn't data, the subscripts and the element are numbers or names of enumerations
abbrev pub may_be_decided : List Node → Sort → Bool
may_be_decided subscripts element = list_all is_data subscripts || (all_sorts is_chosen subscripts && is_single element)

-- an element of an array
abbrev pub element_node : Scope → ℕ → Node → List Node → Sort → Node
element_node sc at base subscripts (array indices element) =
    record (made at element (base ∷ subscripts) (subscripts_fit sc indices subscripts && may_be_decided subscripts element)) { is_one = base.decides && (is_single element && list_all is_data subscripts) }
element_node sc at base subscripts s = made at anything (base ∷ subscripts) (is_anything s)

abbrev pub is_start_or_duration : Text → Bool
is_start_or_duration name = bytes_eq name (codes "start") || bytes_eq name (codes "duration")

abbrev pub is_time : Text → Bool
is_time name = is_start_or_duration name || bytes_eq name (codes "end")

abbrev pub known_field : ℕ → Node → NameTree → Option Sort → Checked Node
known_field at base name None = Err (Unknown name.at)
known_field at base name (Some s) = Ok (made at s (base ∷ []) true)

-- a field of a record, or a time of an activity
abbrev pub field_node : Scope → ℕ → Node → NameTree → Sort → Checked Node
field_node sc at base name activity = do
  unless (is_time name.text) (Unknown name.at)
  Ok (record (made at int (base ∷ []) true) { is_one = is_start_or_duration name.text })
field_node sc at base name (structure k) = known_field at base name (field_sort name.text (fields sc k))
field_node sc at base name s = Ok (made at anything (base ∷ []) (is_anything s))

-- the one type of the elements of a set, if they have one, where those before are of type s
abbrev pub element_type : Scope → Option Sort → List Node → Option Sort
element_type sc s [] = s
element_type sc None (n ∷ ns) = None
element_type sc (Some s) (n ∷ ns) = element_type sc (joined_in sc s n.sort) ns

abbrev pub set_type : List Node → Option Sort → Sort
set_type [] s = empty_set
set_type (n ∷ ns) (Some s) = set s
set_type (n ∷ ns) None = empty_set

-- a question on one variable
abbrev pub question_type : QuestionOp → Sort
question_type questions.Bound = bool
question_type op = int

abbrev pub question_node : Scope → ℕ → QuestionOp → Node → Node
question_node sc at op n =
    record (made at (question_type op) (n ∷ []) (sc.is_search && n.is_one)) { decides = false; asks = true }

-- ---- parameters

-- what parameters make visible, with the types of the expressions in them
pub record Opened : Type 0 where
  pub scope : Scope
  pub kinds : List Sort

-- a set: the expressions that it is written with, and the type of its elements if it is one
pub record Range : Type 0 where
  pub nodes : List Node
  pub element : Option Sort

abbrev pub or_anything : Option Sort → Sort
or_anything None = anything
or_anything (Some s) = s

-- the names of a pattern, and of several
abbrev pub pattern_names : PatternTree → List NameTree
pattern_names (patterns.Single name) = name ∷ []
pattern_names (patterns.Record at first rest) = first ∷ rest

-- the names of a pattern are those of the parts of a record
abbrev pub bind_parts : Scope → ℕ → List NameTree → Option Sorts → Checked Scope
bind_parts sc at names None = Err (Mismatch at)
bind_parts sc at names (Some ss) = do
  unless (nat_eq (length names) (length (sort_list ss))) (Mismatch at)
  Ok (with_values names (sort_list ss) sc)

-- what ranges over `{}` has as many parts as are asked for
abbrev pub bind_record : Scope → ℕ → List NameTree → Sort → Checked Scope
bind_record sc at names anything = Ok (with_values names (map (λ n. anything) names) sc)
bind_record sc at names s = bind_parts sc at names (parts_in sc s)

abbrev pub bind_pattern : Scope → Sort → PatternTree → Checked Scope
bind_pattern sc s (patterns.Single name) = Ok (declared name.text (value s) sc)
bind_pattern sc s (patterns.Record at first rest) = bind_record sc at (first ∷ rest) s

abbrev pub bind_patterns : Scope → Sort → List PatternTree → Checked Scope
bind_patterns sc s [] = Ok sc
bind_patterns sc s (p ∷ ps) = bind_pattern sc s p >>= (λ inner. bind_patterns inner s ps)

-- the names of parameters as what may be anything, where a fault stands in the parameters
abbrev pub names_in : Groups → List NameTree
names_in no_groups = []
names_in (more_groups ps over others) = flat_map pattern_names ps ++ names_in others

abbrev pub names_of_params : Params → List NameTree
names_of_params (all_of groups) = names_in groups
names_of_params (those_of groups condition) = names_in groups

abbrev pub scope_within : Scope → Params → Checked Opened → Scope
scope_within sc p (Ok opened) = opened.scope
scope_within sc p (Err e) = with_values (names_of_params p) (map (λ n. anything) (names_of_params p)) sc

-- ---- the rules, one for each form

unfoldable mutual
  pub typing : Scope → Form → Checked Node
  typing sc (number at) = Ok (made at int [] true)
  typing sc (named name) = name_node name (lookup sc name.text)
  typing sc (bracket at f) = do
    n ← typing sc f >>= part
    Ok (bracketed at n)
  typing sc (negative at f) = do
    n ← typing sc f >>= part
    Ok (made at int (n ∷ []) (is_number n.sort))
  typing sc (arithmetic at fs) = do
    ns ← typed_parts sc fs
    Ok (made at int ns (all_sorts is_number ns))
  typing sc (absolute at f) = do
    n ← typing sc f >>= part
    Ok (made at int (n ∷ []) (is_number n.sort))
  typing sc (related at f relation g) = do
    m ← typing sc f >>= part
    n ← typing sc g >>= part
    Ok (made at bool (m ∷ n ∷ []) (are_related sc relation m.sort n.sort))
  typing sc (member at f over) = do
    n ← typing sc f >>= part
    range ← typed_set nothing any_type sc over
    Ok (of_data (made at bool (n ∷ range.nodes) (is_member sc range.element n.sort)))
  typing sc (connected at fs) = do
    ns ← typed_parts sc fs
    Ok (made at bool ns (all_sorts is_truth ns))
  typing sc (aggregate at p f) = do
    opened ← open_params data_alone sc p
    n ← typing opened.scope f >>= part
    Ok (node at int (n ∷ []) (is_number n.sort) (opened.kinds ++ kinds n))
  typing sc (cardinality at f) = do
    n ← typing sc f >>= part
    Ok (made at int (n ∷ []) (is_set n.sort))
  typing sc (all_different at f) = do
    n ← typing sc f >>= part
    Ok (made at bool (n ∷ []) (is_array_of_single n.sort))
  typing sc (subscripted at f es) = do
    base ← typing sc f >>= part
    ns ← typed_parts sc es
    Ok (element_node sc at base ns base.sort)
  typing sc (field at f name) = do
    base ← typing sc f >>= part
    field_node sc at base name base.sort
  typing sc (tuple at fs) = do
    ns ← typed_parts sc fs
    Ok (of_data (made at (row (sorts_of (map (λ n. n.sort) ns))) ns (all_sorts is_storable ns)))
  typing sc (listed at fs) = do
    ns ← typed_parts sc fs
    Ok (of_data (made at (set_type ns (element_type sc (Some anything) ns)) ns (all_sorts is_storable ns && is_some (element_type sc (Some anything) ns))))
  typing sc (described at f p) = do
    n ← typing (scope_within sc p (open_params data_alone sc p)) f >>= part
    opened ← open_params data_alone sc p
    Ok (of_data (node at (set n.sort) (n ∷ []) (is_storable n.sort) (kinds n ++ opened.kinds)))
  -- the cells of an array stand only as the initial value of one
  typing sc (cells at fs) = do
    ns ← typed_parts sc fs
    Ok (made at anything ns false)
  typing sc (keyed_cells at ps) = do
    ns ← typed_pairs sc ps
    Ok (made at anything ns false)
  typing sc (question at op f) = do
    n ← typing sc f >>= part
    Ok (question_node sc at op n)

  pub typed_parts : Scope → Forms → Checked (List Node)
  typed_parts sc no_forms = Ok []
  typed_parts sc (more_forms f fs) = do
    n ← typing sc f >>= part
    ns ← typed_parts sc fs
    Ok (n ∷ ns)

  pub typed_pairs : Scope → Pairs → Checked (List Node)
  typed_pairs sc no_pairs = Ok []
  typed_pairs sc (more_pairs key cell others) = do
    m ← typing sc key >>= part
    n ← typing sc cell >>= part
    ns ← typed_pairs sc others
    Ok (m ∷ n ∷ ns)

  -- a range's ends are data; what stands for another set meets the need of its place
  pub typed_set : Need → (Sort → Bool) → Scope → SetForm → Checked Range
  typed_set need takes sc (whole f) = do
    n ← typing sc f >>= used need takes
    Ok (record { nodes = n ∷ []; element = elements n.sort })
  typed_set need takes sc (between low high) = do
    m ← typing sc low >>= data_number
    n ← typing sc high >>= data_number
    Ok (record { nodes = m ∷ n ∷ []; element = Some int })

  pub open_groups : Scope → Groups → Checked Opened
  open_groups sc no_groups = Ok (record { scope = sc; kinds = [] })
  open_groups sc (more_groups ps over others) = do
    all_fresh sc (flat_map pattern_names ps)
    range ← typed_set data_alone is_set sc over
    inner ← bind_patterns sc (or_anything range.element) ps
    opened ← open_groups inner others
    Ok (record { scope = opened.scope; kinds = kinds_in range.nodes ++ opened.kinds })

  -- parameters, whose condition meets the need
  pub open_params : Need → Scope → Params → Checked Opened
  open_params need sc (all_of groups) = open_groups sc groups
  open_params need sc (those_of groups condition) = do
    opened ← open_groups sc groups
    n ← typing opened.scope condition >>= used need is_truth
    Ok (record { scope = opened.scope; kinds = opened.kinds ++ kinds n })
