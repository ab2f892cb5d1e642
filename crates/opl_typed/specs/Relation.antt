-- Which types expressions have: a relation with one clause for each row of the table of types, in its order. No clause speaks of faults, and none of an order.
use Rattle.std.specs.Prelude.{◌≡◌, ℕ, Bool, true, false, ◌&&◌, not, ◌⊎◌, List, [], ◌∷◌, map, length, replicate, Some, None, is_some}
use Rattle.std.specs.List.{list_any, list_all, flat_map}
use Rattle.std.specs.Str.{bytes_eq}
use Rattle.opl_tree.specs.declared.expression.NameTree.{NameTree}
use Rattle.opl_tree.specs.declared.expression.PatternTree.{PatternTree}
use Rattle.opl_tree.specs.declared.expression.PatternTree.TheVariants as patterns
use Rattle.opl_tree.specs.declared.expression.Relation.{Relation}
use Rattle.opl_tree.specs.declared.expression.Relation.TheVariants as relations
use Rattle.opl_type_rules.specs.Types.{Sort, Sorts, sorts_of, is_number, is_truth, is_single, is_storable, is_set, is_chosen, is_array_of_single, elements}
use Rattle.opl_type_rules.specs.Types.Sort.{int, bool, enumeration, structure, row, set, empty_set, array, activity, anything}
use Rattle.opl_type_rules.specs.Types.Sorts.{no_sorts, more_sorts}
use Rattle.opl_type_rules.specs.Scope.{Text, Thing, Scope, lookup, declared, with_values, fields, field_sort, fits_in, joined_in, parts_in, fit_one_struct, sort_of, is_decided, is_variable}
use Rattle.opl_type_rules.specs.Scope.Thing.{value}
use Rattle.opl_type_rules.specs.Forms.{Form, Forms, SetForm, Groups, Params}
use Rattle.opl_type_rules.specs.Forms.Form.{number, named, bracket, negative, arithmetic, absolute, related, member, connected, aggregate, cardinality, all_different, subscripted, field, tuple, listed, described, cells, keyed_cells, question}
use Rattle.opl_type_rules.specs.Forms.Forms.{no_forms, more_forms}
use Rattle.opl_type_rules.specs.Forms.SetForm.{whole, between}
use Rattle.opl_type_rules.specs.Forms.Groups.{no_groups, more_groups}
use Rattle.opl_type_rules.specs.Forms.Params.{all_of, those_of}
use Rattle.opl_type_rules.specs.Expressions.{Node, Need, is_start_or_duration, is_time, question_type, pattern_names}
use Rattle.opl_type_rules.specs.Expressions.Need.{nothing, data_alone, data_or_questions}

-- ---- what an expression is

-- its type; whether it names a decision variable or an activity, other than in a question, and whether it has a question; whether it is one decision
-- variable, and whether it is the bare name of a variable, an activity or an array of such
pub record Typed : Type 0 where
  pub sort : Sort
  pub decides : Bool
  pub asks : Bool
  pub is_one : Bool
  pub is_whole : Bool

-- of a type, and made of these parts
abbrev pub composed : Sort → List Typed → Typed
composed s parts = record { sort = s; decides = list_any (λ a. a.decides) parts; asks = list_any (λ a. a.asks) parts; is_one = false; is_whole = false }

-- of a type, and data
abbrev pub data_of : Sort → Typed
data_of s = composed s []

-- what a name was declared as
abbrev pub named_as : Thing → Typed
named_as thing = record { sort = sort_of thing; decides = is_decided thing; asks = false; is_one = is_variable thing && is_single (sort_of thing); is_whole = is_decided thing }

-- whether it names no decision variable, no activity and no question
abbrev pub is_data : Typed → Bool
is_data a = not a.decides && not a.asks

abbrev pub IsData : Typed → Type 0
IsData a = is_data a ≡ true

-- its type is such
abbrev pub Is : (Sort → Bool) → Typed → Type 0
Is test a = test a.sort ≡ true

-- all of them are such
abbrev pub Each : (Typed → Type 0) → List Typed → Type 0
Each P [] = Unit {0}
Each P (a ∷ rest) = P a × Each P rest

-- it meets the need of its place
abbrev pub Meets : Need → Typed → Type 0
Meets nothing a = Unit {0}
Meets data_alone a = IsData a
Meets data_or_questions a = a.decides ≡ false

-- ---- comparisons

-- two numbers, or two names of one enumeration; what ranges over `{}` is compared with anything
pub data AreOrdered (a b : Sort) : Type 0 where
  two_numbers : is_number a ≡ true → is_number b ≡ true → AreOrdered a b
  two_names : (k : ℕ) → a ≡ enumeration k → b ≡ enumeration k → AreOrdered a b
  first_is_none : a ≡ anything → AreOrdered a b
  second_is_none : b ≡ anything → AreOrdered a b

-- besides, for `=` and `<>`, two records that fit one visible struct
abbrev pub AreRelated : Scope → Relation → Sort → Sort → Type 0
AreRelated sc relations.Equal a b = AreOrdered a b ⊎ (fit_one_struct sc a b ≡ true)
AreRelated sc relations.NotEqual a b = AreOrdered a b ⊎ (fit_one_struct sc a b ≡ true)
AreRelated sc relation a b = AreOrdered a b

-- ---- elements and fields

-- one subscript for each dimension, of its type
abbrev pub SubscriptsFit : Scope → Sorts → List Typed → Type 0
SubscriptsFit sc no_sorts [] = Unit {0}
SubscriptsFit sc (more_sorts want wants) (a ∷ rest) = (fits_in sc want a.sort ≡ true) × SubscriptsFit sc wants rest
SubscriptsFit sc wants rest = ⊥

-- subscripts are data; or they and the element are numbers or names of enumerations
abbrev pub MayChoose : List Typed → Sort → Type 0
MayChoose subscripts element = Each IsData subscripts ⊎ (Each (Is is_chosen) subscripts × (is_single element ≡ true))

-- an element of an array; of what ranges over `{}`, anything
abbrev pub IsElement : Scope → Typed → List Typed → Sort → Typed → Type 0
IsElement sc base subscripts (array indices element) t =
    SubscriptsFit sc indices subscripts × MayChoose subscripts element × (t ≡ record (composed element (base ∷ subscripts)) { is_one = base.decides && (is_single element && list_all is_data subscripts) })
IsElement sc base subscripts anything t = t ≡ composed anything (base ∷ subscripts)
IsElement sc base subscripts s t = ⊥

-- a time of an activity, of which the start and the duration are decision variables; a field of a record
abbrev pub IsField : Scope → Typed → NameTree → Sort → Typed → Type 0
IsField sc base name activity t = (is_time name.text ≡ true) × (t ≡ record (composed int (base ∷ [])) { is_one = is_start_or_duration name.text })
IsField sc base name (structure k) t = (s : Sort) × (field_sort name.text (fields sc k) ≡ Some s) × (t ≡ composed s (base ∷ []))
IsField sc base name anything t = t ≡ composed anything (base ∷ [])
IsField sc base name s t = ⊥

-- ---- sets

-- the one type of elements, where those before are of the first type
abbrev pub AreOne : Scope → Sort → List Typed → Sort → Type 0
AreOne sc before [] s = s ≡ before
AreOne sc before (a ∷ rest) s = (both : Sort) × (joined_in sc before a.sort ≡ Some both) × AreOne sc both rest s

-- a set of these elements, whose one type is `s`
abbrev pub set_of : List Typed → Sort → Sort
set_of [] s = empty_set
set_of (a ∷ rest) s = set s

-- ---- parameters

-- the name is none of these
abbrev pub IsNone : Text → List NameTree → Type 0
IsNone text [] = Unit {0}
IsNone text (name ∷ names) = (bytes_eq name.text text ≡ false) × IsNone text names

-- names of which none is visible, and which differ
abbrev pub AreNew : Scope → List NameTree → Type 0
AreNew sc [] = Unit {0}
AreNew sc (name ∷ names) = (lookup sc name.text ≡ None) × IsNone name.text names × AreNew sc names

-- the types of as many parts as a record has; what ranges over `{}` has as many as are asked for
abbrev pub HasParts : Scope → Sort → ℕ → List Sort → Type 0
HasParts sc anything k parts = parts ≡ replicate k anything
HasParts sc s k parts = (length parts ≡ k) × (parts_in sc s ≡ Some (sorts_of parts))

-- a name stands for an element, and a pattern's names for the parts of one
abbrev pub Names : Scope → Sort → PatternTree → Scope → Type 0
Names sc s (patterns.Single name) inner = inner ≡ declared name.text (value s) sc
Names sc s (patterns.Record at first rest) inner = (parts : List Sort) × HasParts sc s (length (first ∷ rest)) parts × (inner ≡ with_values (first ∷ rest) parts sc)

abbrev pub AllName : Scope → Sort → List PatternTree → Scope → Type 0
AllName sc s [] inner = inner ≡ sc
AllName sc s (p ∷ ps) inner = (behind : Scope) × Names sc s p behind × AllName behind s ps inner

-- ---- the relation

abbrev mutual
  pub HasType : Scope → Form → Typed → Type 0
  -- a number
  HasType sc (number at) t = t ≡ data_of int
  -- a name is what it was declared as
  HasType sc (named name) t = (thing : Thing) × (lookup sc name.text ≡ Some thing) × (t ≡ named_as thing)
  -- a bracket is what stands in it
  HasType sc (bracket at f) t = HasType sc f t
  -- `-`, `+`, `*`, `div`, `mod`, `abs`: of numbers, a number
  HasType sc (negative at f) t = (a : Typed) × HasType sc f a × Is is_number a × (t ≡ composed int (a ∷ []))
  HasType sc (arithmetic at fs) t = (parts : List Typed) × HaveTypes sc fs parts × Each (Is is_number) parts × (t ≡ composed int parts)
  HasType sc (absolute at f) t = (a : Typed) × HasType sc f a × Is is_number a × (t ≡ composed int (a ∷ []))
  -- `<`, `<=`, `>`, `>=`, `=`, `<>`: of two that may be compared so, a truth value
  HasType sc (related at f relation g) t =
      (a : Typed) × (b : Typed) × HasType sc f a × HasType sc g b × AreRelated sc relation a.sort b.sort × (t ≡ composed bool (a ∷ b ∷ []))
  -- `e in S`: of data, where the elements of `S` and `e` have one type, a truth value
  HasType sc (member at f over) t =
      (a : Typed) × (s : Sort) × HasType sc f a × IsSetOf sc over s × IsData a × Is is_storable a × (is_some (joined_in sc s a.sort) ≡ true) × (t ≡ data_of bool)
  -- `&`, `\/`, `=>`, `<=>`, `not`: of truth values, a truth value
  HasType sc (connected at fs) t = (parts : List Typed) × HaveTypes sc fs parts × Each (Is is_truth) parts × (t ≡ composed bool parts)
  -- `sum`, `prod`, `min`, `max`: of a number as body, a number
  HasType sc (aggregate at p f) t = (inner : Scope) × (a : Typed) × Opens data_alone sc p inner × HasType inner f a × Is is_number a × (t ≡ composed int (a ∷ []))
  -- `card`: of a set, or the name of a range or an enumeration, a number
  HasType sc (cardinality at f) t = (a : Typed) × HasType sc f a × Is is_set a × (t ≡ composed int (a ∷ []))
  -- `alldifferent`: of an array of numbers or of names of an enumeration, a truth value
  HasType sc (all_different at f) t = (a : Typed) × HasType sc f a × Is is_array_of_single a × (t ≡ composed bool (a ∷ []))
  -- `a[e,..]`: of an array, the element
  HasType sc (subscripted at f es) t = (base : Typed) × (parts : List Typed) × HasType sc f base × HaveTypes sc es parts × IsElement sc base parts base.sort t
  -- `e.f`: of a record, the field; of an activity, a time
  HasType sc (field at f name) t = (base : Typed) × HasType sc f base × IsField sc base name base.sort t
  -- `<e,..>`: of data, no arrays, a record
  HasType sc (tuple at fs) t =
      (parts : List Typed) × HaveTypes sc fs parts × Each IsData parts × Each (Is is_storable) parts × (t ≡ data_of (row (sorts_of (map (λ a. a.sort) parts))))
  -- `{e,..}`: of data of one type, no arrays, a set
  HasType sc (listed at fs) t =
      (parts : List Typed) × (s : Sort) × HaveTypes sc fs parts × Each IsData parts × Each (Is is_storable) parts × AreOne sc anything parts s × (t ≡ data_of (set_of parts s))
  -- `{e | p}`: the same
  HasType sc (described at f p) t =
      (inner : Scope) × (a : Typed) × Opens data_alone sc p inner × HasType inner f a × IsData a × Is is_storable a × (t ≡ data_of (set a.sort))
  -- `[..]`, `#[..]#`: only as initial value, which is no expression
  HasType sc (cells at fs) t = ⊥
  HasType sc (keyed_cells at ps) t = ⊥
  -- `dsize`, `dmin`, `dmax`, `bound`: of one variable, in the search section, a number; `bound` a truth value
  HasType sc (question at op f) t = (a : Typed) × HasType sc f a × (sc.is_search ≡ true) × (a.is_one ≡ true) × (t ≡ record (data_of (question_type op)) { asks = true })

  -- expressions one beside the other
  pub HaveTypes : Scope → Forms → List Typed → Type 0
  HaveTypes sc no_forms parts = parts ≡ []
  HaveTypes sc (more_forms f fs) parts = (a : Typed) × (rest : List Typed) × HasType sc f a × HaveTypes sc fs rest × (parts ≡ a ∷ rest)

  -- a set of parameters or behind `in`, with the type of its elements: data; a set, `a..b` of numbers, the name of a range or an enumeration
  pub IsSetOf : Scope → SetForm → Sort → Type 0
  IsSetOf sc (whole f) s = (a : Typed) × HasType sc f a × IsData a × (elements a.sort ≡ Some s)
  IsSetOf sc (between low high) s = (a : Typed) × (b : Typed) × HasType sc low a × HasType sc high b × IsData a × IsData b × Is is_number a × Is is_number b × (s ≡ int)

  -- groups of parameters, and the scope that they open: their names are new, and visible in the groups behind
  pub GroupsOpen : Scope → Groups → Scope → Type 0
  GroupsOpen sc no_groups inner = inner ≡ sc
  GroupsOpen sc (more_groups ps over others) inner =
      (s : Sort) × (behind : Scope) × AreNew sc (flat_map pattern_names ps) × IsSetOf sc over s × AllName sc s ps behind × GroupsOpen behind others inner

  -- the same with a condition, which is a truth value and meets the need
  pub Opens : Need → Scope → Params → Scope → Type 0
  Opens need sc (all_of groups) inner = GroupsOpen sc groups inner
  Opens need sc (those_of groups condition) inner = (a : Typed) × GroupsOpen sc groups inner × HasType inner condition a × Meets need a × Is is_truth a

-- ---- what typing finds

-- what is known of an expression, less its place and the types inside it
abbrev pub typed_of : Node → Typed
typed_of n = record { sort = n.sort; decides = n.decides; asks = n.asks; is_one = n.is_one; is_whole = n.is_whole }
