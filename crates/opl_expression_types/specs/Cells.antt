-- Expressions that are the cells of an array and nothing else.
use Rattle.std.specs.Prelude.{List, [], ◌∷◌, map, Option, Some, None}
use Rattle.opl_expression_types.specs.declared.plain.Cells as found
use Rattle.opl_type_rules.specs.Forms.{Form, Forms, Pairs, forms_of, pairs_of, form_add, form_keyed}
use Rattle.opl_type_rules.specs.Forms.Form.{cells, keyed_cells}

-- what an expression is: the cells of an array, or something else
pub data Held : Type 0 where
  listed : Forms → Held
  keyed : Pairs → Held
  other : Held

abbrev pub held : Form → Held
held (cells at fs) = listed fs
held (keyed_cells at ps) = keyed ps
held f = other

-- what an operand is with others behind it, or with none
abbrev pub alone : {A : Type 0} → Form → List A → Held
alone f [] = held f
alone f (x ∷ xs) = other

abbrev pub alone_or : {A B : Type 0} → Form → List A → Option B → Held
alone_or f [] None = held f
alone_or f [] (Some b) = other
alone_or f (x ∷ xs) last = other

abbrev pub held_in : found.Cells → Held
held_in (found.TheVariants.Listed ts) = listed (forms_of (map form_add ts.now))
held_in (found.TheVariants.Keyed ts) = keyed (pairs_of (map form_keyed ts.now))
held_in found.TheVariants.Other = other
