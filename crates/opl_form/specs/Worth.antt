-- What forms are worth under an assignment.
use Rattle.std.specs.Prelude.{◌≡◌, ℤ, pos, Bool, List, [], Option, Some, None, Ok, Err}
use Rattle.opl_value.specs.declared.value.Value.{Value}
use Rattle.opl_value.specs.declared.value.Value.TheVariants as values
use Rattle.opl_eval.specs.Evaluation.{Found}
use Rattle.opl_meaning.specs.Assigned.{position_of}
use Rattle.opl_draft.specs.Drafts.{Cells}
use Rattle.opl_expr.specs.declared.forms.Cons.{Cons}
use Rattle.opl_expr.specs.declared.forms.Expr.{Expr}
use Rattle.opl_expr.specs.Forms.{Fact, Term, fact, term}
use Rattle.opl_expr.specs.Holds.{holds, value}
use Rattle.opl_expr.specs.Options.{lift1}
use Rattle.opl_form.specs.Parts.{Form, tables}
use Rattle.opl_form.specs.Parts.Form.{known, number, name, condition, truth}

-- What is found, if there is no fault.
abbrev pub some_of : {A : Type 0} → Found A → Option A
some_of (Ok a) = Some a
some_of (Err fault) = None

module _ (arrays : List Cells) where
  -- An expression and a constraint as plain data, over the tables of these arrays.
  abbrev pub plain : Expr → Term
  plain e = term (tables arrays) [] e

  abbrev pub plain_fact : Cons → Fact
  plain_fact c = fact (tables arrays) [] c

  module _ (ns : List ℤ) where
    -- The value of an expression under an assignment, and whether a constraint holds; missing where they are undefined.
    abbrev pub val : Expr → Option ℤ
    val e = value ns (plain e)

    abbrev pub hold : Cons → Option Bool
    hold c = holds ns (plain_fact c)

    -- A form is worth this value: where it is missing, so is that of the form. A name is worth that of its position.
    abbrev pub Worth : Option Value → Form → Type 0
    Worth r (known v) = r ≡ Some v
    Worth r (number e) = r ≡ lift1 values.Int (val e)
    Worth r (name d e) = (r ≡ lift1 (λ n. values.Enum d (position_of n)) (val e)) × ((n : ℤ) → val e ≡ Some n → n ≡ pos (position_of n))
    Worth r (condition c) = r ≡ lift1 values.Bool (hold c)
    Worth r (truth c) = r ≡ lift1 values.Bool (hold c)
