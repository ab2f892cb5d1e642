-- The types of expressions xs plain data, and which of them fit together.
use Rattle.std.specs.Prelude.{ℕ, Bool, true, false, cond, ◌&&◌, ◌||◌, List, [], ◌∷◌, nat_eq, Option, Some, None, is_some}
use Rattle.std.specs.Option.{option_map}
use Rattle.opl_type_rules.specs.declared.kind.Ty.{Ty}
use Rattle.opl_type_rules.specs.declared.kind.Ty.TheOpen.{Ty-F}
use Rattle.opl_type_rules.specs.declared.kind.Ty.TheFolds.{fold-Ty}

mutual
  -- what an expression is: a number, a truth value, a name of the enumeration or a record of the struct with that declaration;
  -- a record xs it is written; a set, and `{}`; an array, by the types of its indices and of its elements; an activity, a unary
  -- and a discrete resource; the name of a range or an enumeration; the name of a struct; and what ranges over `{}`
  pub data Sort : Type 0 where
    int : Sort
    bool : Sort
    enumeration : ℕ → Sort
    structure : ℕ → Sort
    row : Sorts → Sort
    set : Sort → Sort
    empty_set : Sort
    array : Sorts → Sort → Sort
    activity : Sort
    unary : Sort
    discrete : Sort
    index : Sort → Sort
    struct_name : Sort
    anything : Sort

  pub data Sorts : Type 0 where
    no_sorts : Sorts
    more_sorts : Sort → Sorts → Sorts

abbrev pub sorts_of : List Sort → Sorts
sorts_of [] = no_sorts
sorts_of (s ∷ ss) = more_sorts s (sorts_of ss)

abbrev pub sort_list : Sorts → List Sort
sort_list no_sorts = []
sort_list (more_sorts s ss) = s ∷ sort_list ss

-- one layer of a type, its parts being plain data already
abbrev pub sort_layer : Ty-F Sort → Sort
sort_layer Ty-F.Int = int
sort_layer Ty-F.Bool = bool
sort_layer (Ty-F.Enum k) = enumeration k
sort_layer (Ty-F.Record k) = structure k
sort_layer (Ty-F.Row parts) = row (sorts_of parts)
sort_layer (Ty-F.Set element) = set element
sort_layer Ty-F.EmptySet = empty_set
sort_layer (Ty-F.Array indices element) = array (sorts_of indices) element
sort_layer Ty-F.Act = activity
sort_layer Ty-F.Unary = unary
sort_layer Ty-F.Discrete = discrete
sort_layer (Ty-F.Index element) = index element
sort_layer Ty-F.Structure = struct_name
sort_layer Ty-F.Any = anything

-- the plain data of a type
unfoldable pub sort : Ty → Sort
sort = fold-Ty Sort sort_layer

-- ---- what a type is

-- a number or a truth value, which counts 1 where it holds and 0 where not
abbrev pub is_number : Sort → Bool
is_number int = true
is_number bool = true
is_number anything = true
is_number s = false

abbrev pub is_truth : Sort → Bool
is_truth bool = true
is_truth anything = true
is_truth s = false

abbrev pub is_activity : Sort → Bool
is_activity activity = true
is_activity s = false

abbrev pub is_unary : Sort → Bool
is_unary unary = true
is_unary s = false

abbrev pub is_discrete : Sort → Bool
is_discrete discrete = true
is_discrete s = false

abbrev pub is_anything : Sort → Bool
is_anything anything = true
is_anything s = false

-- what a decision variable may be: a number or a name of an enumeration
abbrev pub is_single : Sort → Bool
is_single int = true
is_single (enumeration k) = true
is_single s = false

-- what the parts of a record and the elements of a set may be
abbrev pub is_storable : Sort → Bool
is_storable int = true
is_storable bool = true
is_storable (enumeration k) = true
is_storable (structure k) = true
is_storable (row parts) = true
is_storable (set element) = true
is_storable empty_set = true
is_storable anything = true
is_storable s = false

-- the elements of what stands for a set
abbrev pub elements : Sort → Option Sort
elements (index element) = Some element
elements (set element) = Some element
elements empty_set = Some anything
elements anything = Some anything
elements s = None

-- what stands for a set
abbrev pub is_set : Sort → Bool
is_set s = is_some (elements s)

-- a number or a name of an enumeration, which a decision variable may choose
abbrev pub is_chosen : Sort → Bool
is_chosen s = is_single s || is_anything s

-- an array of numbers or of names of an enumeration
abbrev pub is_array_of_single : Sort → Bool
is_array_of_single (array indices element) = is_single element
is_array_of_single s = is_anything s

-- two names of one enumeration
abbrev pub are_names : Sort → Sort → Bool
are_names (enumeration k) (enumeration l) = nat_eq k l
are_names a b = false

-- ---- which types of values are the same

abbrev mutual
  pub same : Sort → Sort → Bool
  same int int = true
  same bool bool = true
  same (enumeration k) (enumeration l) = nat_eq k l
  same (structure k) (structure l) = nat_eq k l
  same (row parts) (row others) = all_same parts others
  same (set a) (set b) = same a b
  same empty_set empty_set = true
  same (array indices a) (array others b) = all_same indices others && same a b
  same anything anything = true
  same a b = false

  pub all_same : Sorts → Sorts → Bool
  all_same no_sorts no_sorts = true
  all_same (more_sorts a xs) (more_sorts b ys) = same a b && all_same xs ys
  all_same xs ys = false

-- the type of the elements of a set that is declared
abbrev pub set_element : Sort → Option Sort
set_element (set element) = Some element
set_element s = None

abbrev pub if_some : (Sort → Bool) → Option Sort → Bool
if_some test None = false
if_some test (Some s) = test s

-- the parts of a row
abbrev pub row_parts : Sort → Option Sorts
row_parts (row inner) = Some inner
row_parts s = None

-- what the function gives, else the other
abbrev pub pick : {A : Type 0} → (A → Option Sort) → Option Sort → Option A → Option Sort
pick f other None = other
pick f other (Some a) = f a

-- a row's first part and its others
abbrev pub both : Option Sort → Option Sorts → Option Sorts
both (Some s) (Some ss) = Some (more_sorts s ss)
both a b = None

-- ---- which types fit, where `fields` tells the types of each struct's fields

module _ (fields : ℕ → Sorts) where
  -- the parts of a record
  abbrev pub parts : Sort → Option Sorts
  parts (structure k) = Some (fields k)
  parts (row inner) = Some inner
  parts s = None

  abbrev mutual
    -- a value of the second type may stand where the first is declared
    pub fits : Sort → Sort → Bool
    fits want anything = true
    fits want (row inner) = is_anything want || fits_parts (parts want) inner
    fits want (set have) = is_anything want || if_some (λ w. fits w have) (set_element want)
    fits want empty_set = is_anything want || (is_some (set_element want) || same want empty_set)
    fits want have = is_anything want || same want have

    pub fits_parts : Option Sorts → Sorts → Bool
    fits_parts (Some no_sorts) no_sorts = true
    fits_parts (Some (more_sorts want wants)) (more_sorts have haves) = fits want have && fits_parts (Some wants) haves
    fits_parts wants haves = false

  -- the one of two types that values of the other fit
  abbrev pub one_of : Sort → Sort → Option Sort
  one_of a b = cond (fits a b) (Some a) (cond (fits b a) (Some b) None)

  abbrev mutual
    -- the one type of two elements of a set; of rows and of sets, part by part
    pub joined : Sort → Sort → Option Sort
    joined anything b = Some b
    joined (row xs) b = pick (λ ys. option_map row (all_joined xs ys)) (one_of (row xs) b) (row_parts b)
    joined (set x) b = pick (λ y. option_map set (joined x y)) (one_of (set x) b) (set_element b)
    joined a b = one_of a b

    pub all_joined : Sorts → Sorts → Option Sorts
    all_joined no_sorts no_sorts = Some no_sorts
    all_joined (more_sorts x xs) (more_sorts y ys) = both (joined x y) (all_joined xs ys)
    all_joined xs ys = None
