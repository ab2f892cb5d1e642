-- Laws of what conditions come to under an assignment.
use Rattle.std.specs.Prelude.{◌≡◌, ◌≢◌, ◌↔◌, ℕ, ℤ, Bool, true, List, [], Option, Some, None, Ok, Err}
use Rattle.opl_draft.specs.Drafts.{Cells, Draft, draft_value}
use Rattle.opl_eval.specs.declared.fault.EvalFault.{EvalFault}
use Rattle.opl_eval.specs.declared.fault.EvalFault.TheVariants.{OutOfIndex}
use Rattle.opl_eval.specs.Evaluation.{Found, found, is_true}
use Rattle.opl_value.specs.declared.value.Value.{Value}
use Rattle.opl_draft.specs.Instances.{Condition}
use Rattle.opl_draft.specs.Laws.{is_met}
use Rattle.opl_form.specs.Forms.{form}
use Rattle.opl_form.specs.Laws.{AreSoundArrays, IsAssignment}
use Rattle.opl_form.specs.Made.{made}
use Rattle.opl_form.specs.Nodes.Fault.{eval}
use Rattle.opl_form.specs.Parts.{Form, as_condition}
use Rattle.opl_form.specs.Parts.Form.{known}
use Rattle.opl_form.specs.Worth.{hold, some_of}
use Rattle.opl_held.specs.Outcomes.{data_of, fault_of, value_in}
use Rattle.opl_held.specs.Worth.{comes_to, worth}

-- A draft is worth what it comes to by evaluation, and undefined, or a fault without variables, where evaluation finds a fault.
abbrev pub WorthMeans : Type 0
WorthMeans = (arrays : List Cells) (ns : List ℤ) (d : Draft) → value_in (worth arrays ns d) ≡ some_of (draft_value arrays ns d)

-- No assignment changes whether a variable is left in a draft, what it comes to where none is, and its first fault without variables.
abbrev pub DataStays : Type 0
DataStays = (arrays : List Cells) (ns ms : List ℤ) (d : Draft) → found data_of (worth arrays ns d) ≡ found data_of (worth arrays ms d)

-- The first fault of a draft without variables, which no assignment changes.
abbrev pub data_fault : List Cells → Draft → Option EvalFault
data_fault arrays d = fault_of (worth arrays [] d)

-- What is answered of a condition: a fault without variables, else whether it is true, and nothing where evaluation finds a fault.
abbrev pub answer : Option EvalFault → Found Value → Found (Option Bool)
answer (Some fault) r = Err fault
answer None (Ok v) = Ok (Some (is_true v))
answer None (Err fault) = Ok None

-- A condition comes to its first fault without variables, and else to what evaluation finds.
abbrev pub ComesToAnswer : Type 0
ComesToAnswer = (arrays : List Cells) (ns : List ℤ) (d : Draft) → comes_to arrays ns d ≡ answer (data_fault arrays d) (draft_value arrays ns d)

-- A condition is met under an assignment exactly where it comes to true.
abbrev pub MetIsTrue : Type 0
MetIsTrue = (arrays : List Cells) (ns : List ℤ) (c : Condition) → (is_met arrays ns c ≡ true) ↔ (comes_to arrays ns c.draft ≡ Ok (Some true))

-- The value of a ground form in which no variable is left.
abbrev pub known_in : Form → Option Value
known_in (known v) = Some v
known_in g = None

-- Where a ground form is made, there is no fault without variables, and a variable is left in both the draft and the form, or the same value is.
abbrev pub MadeIsFound : Type 0
MadeIsFound = (sets : List (ℤ × ℤ)) (arrays : List Cells) (item n : ℕ) (d : Draft) (g : Form) → AreSoundArrays sets arrays → made sets arrays item n d ≡ Ok g →
    (ns : List ℤ) → found data_of (worth arrays ns d) ≡ Ok (known_in g)

-- Where the constraint of a condition is made, the condition comes to whether that holds, under each assignment of the declared sets.
abbrev pub ComesToConstraint : Type 0
ComesToConstraint = (sets : List (ℤ × ℤ)) (arrays : List Cells) (n : ℕ) (c : Condition) (g : Form) → AreSoundArrays sets arrays → form sets arrays n c ≡ Ok g →
    (ns : List ℤ) → IsAssignment sets ns → comes_to arrays ns c.draft ≡ Ok (hold arrays ns (as_condition g))

-- Where no ground form is made because of a fault of data, that is the first fault without variables. `OutOfIndex` is left out, since a form has it
-- also at variables, arrays and subscripts that typing rules out.
abbrev pub RefusedIsFault : Type 0
RefusedIsFault = (sets : List (ℤ × ℤ)) (arrays : List Cells) (item n : ℕ) (d : Draft) (fault : EvalFault) → AreSoundArrays sets arrays → ((at : ℕ) → fault ≢ OutOfIndex at) →
    made sets arrays item n d ≡ Err (eval fault) → (ns : List ℤ) → worth arrays ns d ≡ Err fault
