-- A model has its types in one way at most: two types, two faults and what is found of a model are equal in one way at most.
use Rattle.std.specs.Prelude.{◌≡◌, ℕ, List, Ok, Err}
use mathlib.Core.Path.{refl, sym, ap, ◌∙◌}
use mathlib.Core.Logic.{◌⊎◌, inl, inr}
use mathlib.Core.HLevel.{collapsible→set}
use mathlib.Core.List.{is_set as List-set}
use mathlib.Core.Sum.{⊎_set}
use native.Mathlib.Nat.{ℕ_set}
use Rattle.opl_type_rules.specs.declared.fault.TypeFault.{TypeFault}
use Rattle.opl_type_rules.specs.declared.fault.TypeFault.TheVariants.{Unknown, Duplicate, Mismatch, NotData, OutOfMemory}
use Rattle.opl_type_rules.specs.Types.{Sort, Sorts}
use Rattle.opl_type_rules.specs.Types.Sort.{int, bool, enumeration, structure, row, set, empty_set, array, activity, unary, discrete, index, struct_name, anything}
use Rattle.opl_type_rules.specs.Types.Sorts.{no_sorts, more_sorts}
use Rattle.opl_type_rules.specs.Scope.{Checked}

-- what maps into a set and back is a set
retract_set : {A B : Type 0} (to : A → B) (from : B → A) → ((x : A) → from (to x) ≡ x) → IsSet B → IsSet A
retract_set to from back known = collapsible→set (λ x y p. sym (back x) ∙ ap from (ap to p) ∙ back y)
    (λ x y p q. ap (λ z. sym (back x) ∙ ap from z ∙ back y) (known (to x) (to y) (ap to p) (ap to q)))

-- a copy of the types and of their lists in one
data Copy : Type 0 where
  c_int c_bool c_empty c_activity c_unary c_discrete c_struct c_anything c_none : Copy
  c_enumeration : ℕ → Copy
  c_structure : ℕ → Copy
  c_row : Copy → Copy
  c_set : Copy → Copy
  c_array : Copy → Copy → Copy
  c_index : Copy → Copy
  c_more : Copy → Copy → Copy
  deriving IsSet as Copy-set

abbrev mutual
  copy : Sort → Copy
  copy int = c_int
  copy bool = c_bool
  copy (enumeration k) = c_enumeration k
  copy (structure k) = c_structure k
  copy (row parts) = c_row (copies parts)
  copy (set element) = c_set (copy element)
  copy empty_set = c_empty
  copy (array indices element) = c_array (copies indices) (copy element)
  copy activity = c_activity
  copy unary = c_unary
  copy discrete = c_discrete
  copy (index element) = c_index (copy element)
  copy struct_name = c_struct
  copy anything = c_anything

  copies : Sorts → Copy
  copies no_sorts = c_none
  copies (more_sorts s ss) = c_more (copy s) (copies ss)

abbrev mutual
  sort_back : Copy → Sort
  sort_back c_int = int
  sort_back c_bool = bool
  sort_back (c_enumeration k) = enumeration k
  sort_back (c_structure k) = structure k
  sort_back (c_row parts) = row (sorts_back parts)
  sort_back (c_set element) = set (sort_back element)
  sort_back c_empty = empty_set
  sort_back (c_array indices element) = array (sorts_back indices) (sort_back element)
  sort_back c_activity = activity
  sort_back c_unary = unary
  sort_back c_discrete = discrete
  sort_back (c_index element) = index (sort_back element)
  sort_back c_struct = struct_name
  sort_back other = anything

  sorts_back : Copy → Sorts
  sorts_back (c_more s ss) = more_sorts (sort_back s) (sorts_back ss)
  sorts_back other = no_sorts

mutual
  same_sort : (s : Sort) → sort_back (copy s) ≡ s
  same_sort int = refl
  same_sort bool = refl
  same_sort (enumeration k) = refl
  same_sort (structure k) = refl
  same_sort (row parts) = ap row (same_sorts parts)
  same_sort (set element) = ap set (same_sort element)
  same_sort empty_set = refl
  same_sort (array indices element) = ap (λ is. array is (sort_back (copy element))) (same_sorts indices) ∙ ap (array indices) (same_sort element)
  same_sort activity = refl
  same_sort unary = refl
  same_sort discrete = refl
  same_sort (index element) = ap index (same_sort element)
  same_sort struct_name = refl
  same_sort anything = refl

  same_sorts : (ss : Sorts) → sorts_back (copies ss) ≡ ss
  same_sorts no_sorts = refl
  same_sorts (more_sorts s ss) = ap (λ t. more_sorts t (sorts_back (copies ss))) (same_sort s) ∙ ap (more_sorts s) (same_sorts ss)

pub Sort-set : IsSet Sort
Sort-set = retract_set copy sort_back same_sort (Copy-set ℕ_set)

-- a copy of the faults
data Copied : Type 0 where
  f_memory : Copied
  f_unknown f_duplicate f_mismatch f_not_data : ℕ → Copied
  deriving IsSet as Copied-set

abbrev copied : TypeFault → Copied
copied (Unknown at) = f_unknown at
copied (Duplicate at) = f_duplicate at
copied (Mismatch at) = f_mismatch at
copied (NotData at) = f_not_data at
copied OutOfMemory = f_memory

abbrev fault_back : Copied → TypeFault
fault_back (f_unknown at) = Unknown at
fault_back (f_duplicate at) = Duplicate at
fault_back (f_mismatch at) = Mismatch at
fault_back (f_not_data at) = NotData at
fault_back f_memory = OutOfMemory

same_fault : (e : TypeFault) → fault_back (copied e) ≡ e
same_fault (Unknown at) = refl
same_fault (Duplicate at) = refl
same_fault (Mismatch at) = refl
same_fault (NotData at) = refl
same_fault OutOfMemory = refl

pub TypeFault-set : IsSet TypeFault
TypeFault-set = retract_set copied fault_back same_fault (Copied-set ℕ_set)

abbrev sum : Checked (List Sort) → List Sort ⊎ TypeFault
sum (Ok ks) = inl ks
sum (Err e) = inr e

abbrev checked : List Sort ⊎ TypeFault → Checked (List Sort)
checked (inl ks) = Ok ks
checked (inr e) = Err e

same_checked : (c : Checked (List Sort)) → checked (sum c) ≡ c
same_checked (Ok ks) = refl
same_checked (Err e) = refl

-- what is found of a model is equal to something in one way at most
pub Checked-set : IsSet (Checked (List Sort))
Checked-set = retract_set sum checked same_checked (⊎_set (List-set Sort-set) TypeFault-set)
