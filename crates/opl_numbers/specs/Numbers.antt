-- Parts as numbers with their measures, alone and one behind another.
use Rattle.std.specs.Prelude.{◌≡◌, ◌<◌, ◌≤◌, ◌^◌, ℕ, ℤ, pos, unsigned_abs, is_some, Bool, true, false, List, [], ◌∷◌, map, Result, Ok, Err}
use Rattle.opl_eval.specs.Compare as compare
use Rattle.opl_draft.specs.Drafts.{Sign}
use Rattle.opl_expr.specs.declared.forms.Expr.{Expr}
use Rattle.opl_expr.specs.declared.forms.Expr.TheVariants as E
use Rattle.opl_expr.specs.Forms.{constant_value, term}
use Rattle.opl_form.specs.Measures as measures
use Rattle.opl_form.specs.Nodes as nodes
use Rattle.opl_form.specs.Nodes.{Made, by_sign, chained, next}
use Rattle.opl_form.specs.Parts.{Form, tables}
use Rattle.opl_form.specs.Parts.Form.{known, number}
use Rattle.opl_nodes.specs.declared.context.Context.{Context}
use Rattle.opl_nodes.specs.declared.fault.FormFault.{FormFault}
use Rattle.opl_nodes.specs.declared.part.Part.{Part}
use Rattle.opl_nodes.specs.declared.parts.Parts.{Parts}
use Rattle.opl_nodes.specs.Contexts.{arrays, sets}
use Rattle.opl_nodes.specs.Pieces.{AreParts, IsCapped, Refuses, form, forms, magnitude}
use Rattle.opl_numbers.specs.declared.measured.Number.{Number}
use Rattle.opl_numbers.specs.declared.row.Numbers.{Numbers}

-- ---- one number

-- The number that a part without variables counts as, and 0 for any other.
abbrev pub number_of : Form → ℤ
number_of (known v) = compare.number v
number_of g = pos 0

-- The same of a part, kept shut.
unfoldable pub number_at : Part → ℤ
number_at p = number_of (form p)

-- A part is a number with variables.
abbrev pub is_number : Form → Bool
is_number (number e) = true
is_number g = false

-- An expression with these measures.
abbrev pub measured : Expr → ℕ → ℕ → ℕ → Number
measured e size depth nodes = record { expr = e; size = size; depth = depth; nodes = nodes }

-- A number of the data.
abbrev pub constant : ℤ → Number
constant n = measured (E.Const n) (unsigned_abs n) 1 1

-- The measures of a number are right. It is at most a node deeper than a part, and has at most two nodes more.
pub record IsNumber (c : Context) (n : Number) : Type 0 where
  pub size : n.size ≡ magnitude c n.expr
  pub depth : n.depth ≡ measures.depth n.expr
  pub nodes : n.nodes ≡ measures.nodes n.expr
  pub is_small : n.size < 2 ^ 127
  pub is_shallow : n.depth ≤ 2049
  pub are_few : n.nodes ≤ 4194306

-- An expression is a number that is written down.
abbrev pub is_constant : Context → Expr → Bool
is_constant c e = is_some (constant_value (term (tables (arrays c)) [] e))

-- ---- numbers one behind another

-- These are the expressions, and their measures together are right.
pub record AreNumbers (c : Context) (es : List Expr) (ns : Numbers) : Type 0 where
  pub exprs : ns.exprs ≡ es
  pub total : IsCapped ns.total (measures.total (map (magnitude c) es))
  pub greatest : ns.greatest ≡ measures.greatest (map (magnitude c) es)
  pub depth : ns.depth ≡ measures.greatest (map measures.depth es)
  pub nodes : ns.nodes ≡ measures.total (map measures.nodes es)
  pub is_shallow : ns.depth ≤ 2049

-- ---- answers

-- Parts behind n nodes are what is made: a first one and others.
pub record AreMade (c : Context) (n : ℕ) (made : Made nodes.Parts) (qs : Parts) : Type 0 where
  pub first : Form
  pub others : List Form
  pub is_made : made ≡ Ok (first, others)
  pub are_forms : forms qs.items ≡ first ∷ others
  pub before : qs.before ≡ n
  pub are_parts : AreParts c qs

-- A function answers the parts that are made, or why there are none.
abbrev pub MakesParts : Context → ℕ → Made nodes.Parts → Result Parts FormFault → Type 0
MakesParts c n made (Ok qs) = AreMade c n made qs
MakesParts c n made (Err fault) = Refuses made fault

-- A first part, and a step that is no sum.
abbrev pub factored : Context → Sign → ℕ → ℕ → Form → Form → Made nodes.Parts
factored c sign at n g h = next (by_sign (sets c) (arrays c) c.item sign at n g h) (λ k. Ok (k, []))

-- The whole of a chain so far, and a step that is no sum.
abbrev pub turned : Context → Sign → ℕ → ℕ → nodes.Parts → Form → Made nodes.Parts
turned c sign at n ps g = next (chained (sets c) (arrays c) c.item at n ps.0 ps.1) (λ a. factored c sign at n a g)
