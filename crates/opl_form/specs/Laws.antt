-- Laws of forms.
use Rattle.std.specs.Prelude.{◌≡◌, ℕ, ◌+◌, ◌≤◌, ℤ, unsigned_abs, Bool, true, filter, List, map, Some, Ok}
use Rattle.std.specs.List.{All, flat_map, list_all}
use Rattle.opl_domain.specs.Family.{Family}
use Rattle.opl_domain.specs.Span.{values}
use Rattle.opl_meaning.specs.declared.variable.VariableItem.{VariableItem}
use Rattle.opl_meaning.specs.Runs.{Names}
use Rattle.opl_meaning.specs.Solutions.{declared_sets, product}
use Rattle.opl_draft.specs.Drafts.{Cells, Draft, draft_value}
use Rattle.opl_draft.specs.Instances.{Condition, condition_of, is_clean_instance}
use Rattle.opl_draft.specs.Laws.{AreDeclared, arrays as arrays_in, is_met}
use Rattle.opl_draft.specs.Solutions.{Model, solutions}
use Rattle.opl_expr.specs.declared.forms.Cons.{Cons}
use Rattle.opl_expr.specs.Forms.{Term}
use Rattle.opl_expr.specs.Holds.{value}
use Rattle.opl_expr.specs.Solutions.{is_among, is_true}
use Rattle.opl_expr.specs.Sound.{IsSoundFact, IsSoundTable, IsSoundTerm, term_magnitude}
use Rattle.opl_form.specs.Parts.{Form, as_condition, as_number, ranked, table_of}
use Rattle.opl_form.specs.Measures.{depth_of, nodes_of, part_depth, part_nodes, total}
use Rattle.opl_form.specs.Made.{made}
use Rattle.opl_form.specs.Forms.{forms}
use Rattle.opl_form.specs.Worth.{Worth, hold, plain, plain_fact, some_of}

-- Declared sets by their ends, each as the list of its values.
abbrev pub families : List (ℤ × ℤ) → Family
families sets = map (λ ends. values (record { low = ends.0; high = ends.1 })) sets

-- An assignment has one value of each declared set.
abbrev pub IsAssignment : List (ℤ × ℤ) → List ℤ → Type 0
IsAssignment sets ns = is_among ns (families sets) ≡ true

-- Each array has one cell for each key, the indices of a dimension differ, and its variables are declared.
abbrev pub AreSoundArrays : List (ℤ × ℤ) → List Cells → Type 0
AreSoundArrays sets arrays = All (λ a. IsSoundTable sets (Some (table_of a))) arrays

-- No value of an expression is greater than its magnitude.
abbrev pub ValuesAreSmall : Type 0
ValuesAreSmall = (sets : List (ℤ × ℤ)) (ns : List ℤ) (t : Term) (v : ℤ) → IsAssignment sets ns → value ns t ≡ Some v → unsigned_abs v ≤ term_magnitude sets t

-- A form is worth what its draft comes to, under each assignment of the declared sets: the same value, or none where the draft has a fault.
abbrev pub MadeIsWorth : Type 0
MadeIsWorth = (sets : List (ℤ × ℤ)) (arrays : List Cells) (item n : ℕ) (d : Draft) (g : Form) → AreSoundArrays sets arrays → made sets arrays item n d ≡ Ok g →
    (ns : List ℤ) → IsAssignment sets ns → Worth arrays ns (some_of (draft_value arrays ns d)) g

-- A form behind n nodes is sound as a number, by its ranks and as a condition, at most 2048 deep, and there are at most 4194304 nodes with it.
pub record IsSoundForm (sets : List (ℤ × ℤ)) (arrays : List Cells) (n : ℕ) (g : Form) : Type 0 where
  pub as_number : IsSoundTerm sets (plain arrays (as_number g))
  pub ranked : IsSoundTerm sets (plain arrays (ranked g))
  pub as_condition : IsSoundFact sets (plain_fact arrays (as_condition g))
  pub depth : part_depth g ≤ 2048
  pub nodes : n + part_nodes g ≤ 4194304

-- Each form that is made is sound, and within the limits.
abbrev pub MadeIsSound : Type 0
MadeIsSound = (sets : List (ℤ × ℤ)) (arrays : List Cells) (item n : ℕ) (d : Draft) (g : Form) → AreSoundArrays sets arrays → made sets arrays item n d ≡ Ok g → IsSoundForm sets arrays n g

-- Whether a constraint holds under an assignment; it does not where it is undefined.
abbrev pub is_held : List Cells → List ℤ → Cons → Bool
is_held arrays ns c = is_true (hold arrays ns c)

-- Conditions are all met under an assignment exactly where their constraints all hold.
abbrev pub FormsMean : Type 0
FormsMean = (sets : List (ℤ × ℤ)) (arrays : List Cells) (n : ℕ) (conditions : List Condition) (cs : List Cons) → AreSoundArrays sets arrays → forms sets arrays n conditions ≡ Ok cs →
    (ns : List ℤ) → IsAssignment sets ns → list_all (is_met arrays ns) conditions ≡ list_all (is_held arrays ns) cs

-- Constraints are sound, and within the limits one by one and together.
pub record AreSoundConstraints (sets : List (ℤ × ℤ)) (arrays : List Cells) (n : ℕ) (cs : List Cons) : Type 0 where
  pub facts : All (λ c. IsSoundFact sets (plain_fact arrays c)) cs
  pub depth : All (λ c. depth_of c ≤ 2048) cs
  pub nodes : n + total (map nodes_of cs) ≤ 4194304

-- The constraints of conditions are sound, and within the limits.
abbrev pub FormsAreSound : Type 0
FormsAreSound = (sets : List (ℤ × ℤ)) (arrays : List Cells) (n : ℕ) (conditions : List Condition) (cs : List Cons) → AreSoundArrays sets arrays → n ≤ 4194304 → forms sets arrays n conditions ≡ Ok cs →
    AreSoundConstraints sets arrays n cs

-- The ends of the declared sets of all variables, in the order of their numbers.
abbrev pub declared_ends : List VariableItem → List (ℤ × ℤ)
declared_ends items = map (λ set. (set.low, set.high)) (flat_map (λ v. v.sets) items)

-- The solutions of a model whose conditions have constraints are the assignments of the declared sets, in lexicographic order, on which all constraints hold.
abbrev pub SolutionsMean : Type 0
SolutionsMean = (m : Model) (names : Names) (cs : List Cons) → AreDeclared m.variables names → list_all (is_clean_instance m.variables names) m.conditions ≡ true →
    AreSoundArrays (declared_ends m.variables) (arrays_in m.environment m.variables) →
    forms (declared_ends m.variables) (arrays_in m.environment m.variables) 0 (map (condition_of m.variables names m.environment) m.conditions) ≡ Ok cs →
    solutions m ≡ filter (λ ns. list_all (is_held (arrays_in m.environment m.variables) ns) cs) (product (declared_sets m.variables))
