-- Parts with their measures, and what a function that makes one answers.
use Rattle.std.specs.Prelude.{◌≡◌, ◌<◌, ◌≤◌, ◌^◌, ◌+◌, ℕ, min, is_some, List, map, Option, Some, None, Result, Ok, Err}
use Rattle.std.specs.List.{All}
use Rattle.opl_value.specs.declared.value.Value.{Value}
use Rattle.opl_eval.specs.declared.fault.EvalFault.{EvalFault}
use Rattle.opl_eval.specs.declared.fault.EvalFault.TheVariants as faults
use Rattle.opl_expr.specs.declared.forms.Expr.{Expr}
use Rattle.opl_form.specs.Parts as parts
use Rattle.opl_form.specs.Parts.{all_known, ranked}
use Rattle.opl_form.specs.Parts.Form.{known, number, name, condition, truth}
use Rattle.opl_form.specs.Measures.{all_nodes, depth, part_depth, part_nodes}
use Rattle.opl_form.specs.Nodes as nodes
use Rattle.opl_form.specs.Nodes.{Made, size}
use Rattle.opl_form.specs.Nodes.Fault.{eval, large, deep, many}
use Rattle.opl_nodes.specs.declared.context.Context.{Context}
use Rattle.opl_nodes.specs.declared.fault.FormFault.{FormFault}
use Rattle.opl_nodes.specs.declared.fault.FormFault.TheVariants.{Eval, TooLarge, Depth, Nodes, OutOfMemory}
use Rattle.opl_nodes.specs.declared.part.Form.{Form}
use Rattle.opl_nodes.specs.declared.part.Form.TheVariants.{Known, Number, Name, Condition, Truth}
use Rattle.opl_nodes.specs.declared.part.Part.{Part}
use Rattle.opl_nodes.specs.declared.parts.Parts.{Parts}
use Rattle.opl_nodes.specs.Contexts.{arrays, sets}

-- ---- parts

abbrev pub form_of : Form → parts.Form
form_of (Known v) = known v
form_of (Number e) = number e
form_of (Name d e) = name d e
form_of (Condition c) = condition c
form_of (Truth c) = truth c

-- The form of a part.
abbrev pub form : Part → parts.Form
form p = form_of p.form

-- The value of a part in which no variable is left.
abbrev pub value_of : parts.Form → Option Value
value_of (known v) = Some v
value_of g = None

-- The magnitude of an expression.
unfoldable pub magnitude : Context → Expr → ℕ
magnitude c e = size (sets c) (arrays c) e

-- The measures of a part are right, and within their limits.
pub record IsPart (c : Context) (p : Part) : Type 0 where
  pub size : p.size ≡ magnitude c (ranked (form p))
  pub depth : p.depth ≡ part_depth (form p)
  pub nodes : p.nodes ≡ part_nodes (form p)
  pub is_small : p.size < 2 ^ 127
  pub is_shallow : p.depth ≤ 2048
  pub are_few : p.nodes ≤ 4194304

-- The forms of parts.
abbrev pub forms : List Part → List parts.Form
forms ps = map form ps

-- What is kept of parts is right: the nodes with those before them, whether a variable is left in none of them, and the measures of each.
pub record AreParts (c : Context) (ps : Parts) : Type 0 where
  pub next : ps.next ≡ ps.before + all_nodes (forms ps.items)
  pub are_known : ps.are_known ≡ is_some (all_known (forms ps.items))
  pub each : All (IsPart c) ps.items

-- ---- answers

-- Two magnitudes are the same as far as they are below 2^127.
abbrev pub IsCapped : ℕ → ℕ → Type 0
IsCapped m n = min m (2 ^ 127) ≡ min n (2 ^ 127)

-- A form is refused with this fault. Want of memory alone can come at any time.
abbrev pub Refuses : {A : Type 0} → Made A → FormFault → Type 0
Refuses made OutOfMemory = Unit {0}
Refuses made (Eval fault) = made ≡ Err (eval fault)
Refuses made (TooLarge at) = made ≡ Err (large at)
Refuses made (Depth at) = made ≡ Err (deep at)
Refuses made (Nodes at) = made ≡ Err (many at)

-- A part is what is made, and its measures are right.
pub record IsMade (c : Context) (made : Made parts.Form) (p : Part) : Type 0 where
  pub is_form : made ≡ Ok (form p)
  pub is_part : IsPart c p

-- A function answers the part that is made, or why there is none.
abbrev pub Makes : Context → Made parts.Form → Result Part FormFault → Type 0
Makes c made (Ok p) = IsMade c made p
Makes c made (Err fault) = Refuses made fault

-- A form so deep, with so many nodes behind those before, passes its tests, or is refused.
pub record IsCounted (n deep more k : ℕ) : Type 0 where
  pub found : k ≡ more
  pub is_shallow : deep ≤ 2048
  pub fit : n + more ≤ 4194304

abbrev pub Counts : ℕ → ℕ → ℕ → ℕ → Result ℕ FormFault → Type 0
Counts item n depth more (Ok found) = IsCounted n depth more found
Counts item n depth more (Err fault) = (g : parts.Form) → Refuses (nodes.counted item n depth more g) fault

-- A form with all its tests.
abbrev pub tested : Context → ℕ → ℕ → parts.Form → Made parts.Form
tested c at n g = nodes.sized at (magnitude c (ranked g)) (nodes.counted c.item n (part_depth g) (part_nodes g) g)

-- A fault of data as a fault of forms.
abbrev pub told : EvalFault → FormFault
told faults.OutOfMemory = OutOfMemory
told fault = Eval fault
