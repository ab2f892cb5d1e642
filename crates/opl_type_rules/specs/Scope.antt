-- What the names of a model stand for, where they are visible, and the first fault.
use Rattle.std.specs.Prelude.{ℕ, Bool, true, false, cond, ◌&&◌, not, List, [], ◌∷◌, map, nat_eq, Option, Some, None, Result, Ok, Err}
use Rattle.std.specs.List.{list_any}
use Rattle.std.specs.Str.{bytes_eq}
use Rattle.opl_tree.specs.declared.expression.NameTree.{NameTree}
use Rattle.opl_type_rules.specs.declared.fault.TypeFault.{TypeFault}
use Rattle.opl_type_rules.specs.declared.fault.TypeFault.TheVariants.{Duplicate}
use Rattle.opl_type_rules.specs.Types.{Sort, Sorts, sorts_of, parts, fits, joined}
use Rattle.opl_type_rules.specs.Types.Sort.{int, enumeration, structure, index, struct_name, anything}

-- ---- the first fault

-- what is found, or the first fault
abbrev pub Checked : Type 0 → Type 0
Checked A = Result A TypeFault

abbrev pub and_then : {A B : Type 0} → Checked A → (A → Checked B) → Checked B
and_then (Ok a) f = f a
and_then (Err e) f = Err e

-- the second is looked at where the first has no fault
infixl 10 ◌>>=◌
abbrev pub ◌>>=◌ : {A B : Type 0} → Checked A → (A → Checked B) → Checked B
c >>= f = and_then c f

infixl 10 ◌>>◌
abbrev pub ◌>>◌ : {A B : Type 0} → Checked A → Checked B → Checked B
c >> d = and_then c (λ _. d)

-- the fault, unless the test is passed
abbrev pub unless : Bool → TypeFault → Checked (Unit {0})
unless true e = Ok tt
unless false e = Err e

-- ---- names

abbrev pub Text : Type 0
Text = List ℕ

-- a field of a struct
pub record Field : Type 0 where
  pub name : Text
  pub sort : Sort

-- what a name stands for
pub data Thing : Type 0 where
  -- a named range
  range : Thing
  -- an enumeration and one of its names, by the number of its declaration
  enum_type : ℕ → Thing
  enum_name : ℕ → Thing
  -- a struct, by the number of its declaration, with its fields
  struct_type : ℕ → List Field → Thing
  -- a data item, a parameter, or the name of a dimension
  value : Sort → Thing
  -- decision variables and activities, alone or as arrays
  variable : Sort → Thing
  activities : Sort → Thing
  -- a resource or an array of resources
  resource : Sort → Thing

pub record Entry : Type 0 where
  pub name : Text
  pub thing : Thing

-- the visible names, the latest first; whether the search section is being read; whether the ends of the schedule have been given
pub record Scope : Type 0 where
  pub entries : List Entry
  pub is_search : Bool
  pub has_origin : Bool
  pub has_horizon : Bool

-- the scope of a model's beginning
abbrev pub empty_scope : Scope
empty_scope = record { entries = []; is_search = false; has_origin = false; has_horizon = false }

-- what a name stands for among these
abbrev pub found : Text → List Entry → Option Thing
found name [] = None
found name (e ∷ es) = cond (bytes_eq name e.name) (Some e.thing) (found name es)

unfoldable pub lookup : Scope → Text → Option Thing
lookup sc name = found name sc.entries

-- one more visible name
unfoldable pub declared : Text → Thing → Scope → Scope
declared name thing sc = record { entries = record { name = name; thing = thing } ∷ sc.entries; is_search = sc.is_search; has_origin = sc.has_origin; has_horizon = sc.has_horizon }

abbrev pub is_visible : Option Thing → Bool
is_visible (Some thing) = true
is_visible None = false

-- a name that is declared may not be visible already
unfoldable pub fresh : Scope → NameTree → Checked (Unit {0})
fresh sc name = unless (not (is_visible (lookup sc name.text))) (Duplicate name.at)

-- names that are declared together differ too
unfoldable pub all_fresh : Scope → List NameTree → Checked (Unit {0})
all_fresh sc [] = Ok tt
all_fresh sc (n ∷ ns) = fresh sc n >> all_fresh (declared n.text (value anything) sc) ns

-- names of values of these types
abbrev pub with_values : List NameTree → List Sort → Scope → Scope
with_values [] ss sc = sc
with_values (n ∷ ns) [] sc = sc
with_values (n ∷ ns) (s ∷ ss) sc = with_values ns ss (declared n.text (value s) sc)

-- ---- structs

abbrev pub fields_or : List Field → ℕ → Thing → List Field
fields_or others k (struct_type l fields) = cond (nat_eq k l) fields others
fields_or others k thing = others

-- the fields of the struct with that declaration
abbrev pub fields_among : ℕ → List Entry → List Field
fields_among k [] = []
fields_among k (e ∷ es) = fields_or (fields_among k es) k e.thing

unfoldable pub fields : Scope → ℕ → List Field
fields sc k = fields_among k sc.entries

-- the type of a field, if it is there
abbrev pub field_sort : Text → List Field → Option Sort
field_sort name [] = None
field_sort name (f ∷ fs) = cond (bytes_eq name f.name) (Some f.sort) (field_sort name fs)

-- the types of a struct's fields
unfoldable pub field_sorts : Scope → ℕ → Sorts
field_sorts sc k = sorts_of (map (λ f. f.sort) (fields sc k))

-- a value of the second type may stand where the first is declared
abbrev pub fits_in : Scope → Sort → Sort → Bool
fits_in sc = fits (field_sorts sc)

-- the one type of two elements of a set
abbrev pub joined_in : Scope → Sort → Sort → Option Sort
joined_in sc = joined (field_sorts sc)

-- the types of a record's parts
abbrev pub parts_in : Scope → Sort → Option Sorts
parts_in sc = parts (field_sorts sc)

abbrev pub is_for : Scope → Sort → Sort → Thing → Bool
is_for sc a b (struct_type k fs) = fits_in sc (structure k) a && fits_in sc (structure k) b
is_for sc a b thing = false

-- the name is that of a struct which both types fit
abbrev pub is_struct_of : Scope → Sort → Sort → Entry → Bool
is_struct_of sc a b e = is_for sc a b e.thing

-- two records fit one struct that is visible
unfoldable pub fit_one_struct : Scope → Sort → Sort → Bool
fit_one_struct sc a b = list_any (is_struct_of sc a b) sc.entries

-- ---- what a name is

-- as an expression
abbrev pub sort_of : Thing → Sort
sort_of range = index int
sort_of (enum_type k) = index (enumeration k)
sort_of (enum_name k) = enumeration k
sort_of (struct_type k fs) = struct_name
sort_of (value s) = s
sort_of (variable s) = s
sort_of (activities s) = s
sort_of (resource s) = s

-- as a type
abbrev pub type_of : Option Thing → Option Sort
type_of (Some range) = Some int
type_of (Some (enum_type k)) = Some (enumeration k)
type_of (Some (struct_type k fs)) = Some (structure k)
type_of thing = None

-- a decision variable or an activity, or arrays of such
abbrev pub is_decided : Thing → Bool
is_decided (variable s) = true
is_decided (activities s) = true
is_decided thing = false

abbrev pub is_variable : Thing → Bool
is_variable (variable s) = true
is_variable thing = false
