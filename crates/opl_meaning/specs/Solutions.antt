-- The assignments of the declared sets, in lexicographic order, and the decision variables by name.
use Rattle.std.specs.Prelude.{ℕ, zero, suc, ◌+◌, ℤ, pos, ◌+ℤ◌, ◌-ℤ◌, int_lt, unsigned_abs, Bool, false, if◌then◌else◌, List, [], ◌∷◌, ◌++◌, length, map, Option, Some, None, Ok, Err}
use Rattle.std.specs.List.{flat_map}
use Rattle.opl_value.specs.declared.value.IndexSpace.{IndexSpace}
use Rattle.opl_value.specs.declared.value.Value.{Value}
use Rattle.opl_eval.specs.Evaluation.{Found, is_true}
use Rattle.opl_meaning.specs.declared.variable.DeclaredSet.{DeclaredSet}
use Rattle.opl_meaning.specs.declared.variable.VariableItem.{VariableItem}
use Rattle.opl_meaning.specs.Formulas.{Plain, Scope}

-- ---- declared sets

-- `size` whole numbers, the first of them `low`
unfoldable pub whole_numbers : ℤ → ℕ → List ℤ
whole_numbers low zero = []
whole_numbers low (suc size) = low ∷ whole_numbers (low +ℤ pos 1) size

-- how many whole numbers there are from `low` to `high`
abbrev pub size_between : ℤ → ℤ → ℕ
size_between low high = if int_lt high low then 0 else unsigned_abs (high -ℤ low) + 1

-- the whole numbers from the low end to the high end
abbrev pub numbers_of : DeclaredSet → List ℤ
numbers_of set = whole_numbers set.low (size_between set.low set.high)

-- the declared sets of all variables, in the order of their numbers
abbrev pub declared_sets : List VariableItem → List (List ℤ)
declared_sets items = map numbers_of (flat_map (λ v. v.sets) items)

-- all lists that take one value of each set, in lexicographic order; without sets the one empty list
unfoldable pub product : List (List ℤ) → List (List ℤ)
product [] = [] ∷ []
product (set ∷ sets) = flat_map (λ v. map (λ vs. v ∷ vs) (product sets)) set

-- what comes to no value does not hold
abbrev pub truth : Found Value → Bool
truth (Ok v) = is_true v
truth (Err fault) = false

-- ---- the decision variables by name

-- a variable as a plain one, where it has no index space
abbrev pub plain_where : ℕ → VariableItem → Option IndexSpace → List Plain
plain_where number v None = record { name = v.name; number = number; kind = v.kind } ∷ []
plain_where number v (Some space) = []

abbrev pub plain_of : ℕ → VariableItem → List Plain
plain_of number v = plain_where number v v.space

-- the names of these variables, of which the first has this number, behind those before
abbrev pub scope_from : ℕ → Scope → List VariableItem → Scope
scope_from number before [] = before
scope_from number before (v ∷ vs) =
    scope_from (number + length v.sets) (record { all = before.all ++ v.name ∷ []; plain = before.plain ++ plain_of number v }) vs

abbrev pub scope_of : List VariableItem → Scope
scope_of items = scope_from 0 (record { all = []; plain = [] }) items
