-- The positions of the fields that an expression names. Typing lists the types of a model's expressions in preorder; a walk over the
-- expressions takes them from that list, one for each expression, and so finds the type of what stands before `.f`.
--
-- The terms of an expression and the forms that typing looks at are the same in number and order: a chain of one operand is that
-- operand in both, and a bracket is a node of its own in both; a chain of several is one node whatever its signs, and so are
-- `a => b`, `not a`, `abs(a)`, `card(S)` and each question. `S` and `a..b` are no nodes: there the one or two expressions take
-- theirs. A pattern takes none. The types stand in the order of the text: those of parameters before those of an aggregate's body,
-- those of the element of `{e | p}` before those of p, and those of a key before those of its cell.
use Rattle.std.specs.Prelude.{ℕ, List, [], ◌∷◌, ◌++◌, drop, reverse, Option, Some, None}
use Rattle.opl_tree.specs.declared.declaration.DeclTree.{DeclTree}
use Rattle.opl_term.specs.declared.term.FieldName.{FieldName}
use Rattle.opl_term.specs.declared.term.GroupTerm.{GroupTerm}
use Rattle.opl_term.specs.declared.term.SetTerm.{SetTerm}
use Rattle.opl_term.specs.declared.term.Step.{Step}
use Rattle.opl_term.specs.declared.term.Term.{Term}
use Rattle.opl_term.specs.declared.term.GroupTerm.TheOpen.{GroupTerm-F, SetTerm-F, Step-F, Term-F}
use Rattle.opl_term.specs.declared.term.GroupTerm.TheFolds.{fold-GroupTerm, fold-SetTerm, fold-Step, fold-Term}
use Rattle.opl_fields.specs.declared.place.FieldPlace.{FieldPlace}
use Rattle.opl_fields.specs.Structs.{position}

-- the fields found so far, and of the expressions to come, in preorder, the number of the struct of each that is a record
pub record State : Type 0 where
  pub found : List FieldPlace
  pub records : List (Option ℕ)

-- what going through a part of a model does to what is known
abbrev pub Pass : Type 0
Pass = State → State

-- before the first expression
abbrev pub before : List (Option ℕ) → State
before rs = record { found = []; records = rs }

-- the struct of the expression that comes next
abbrev pub next : List (Option ℕ) → Option ℕ
next [] = None
next (r ∷ rs) = r

abbrev pub later : List (Option ℕ) → List (Option ℕ)
later [] = []
later (r ∷ rs) = rs

-- an expression takes its own type
abbrev pub one : Pass
one s = record { found = s.found; records = later s.records }

-- so many expressions take theirs
abbrev pub several : ℕ → Pass
several n s = record { found = s.found; records = drop n s.records }

-- one after the other
abbrev pub each : List Pass → Pass
each [] s = s
each (w ∷ ws) s = each ws (w s)

abbrev pub if_written : Option Pass → Pass
if_written None s = s
if_written (Some w) s = w s

-- each key before its cell
abbrev pub in_turn : List Pass → List Pass → Pass
in_turn (k ∷ ks) (c ∷ cs) s = in_turn ks cs (c (k s))
in_turn ks cs s = s

-- one more field, by the place of its name, where it is one of the struct's
abbrev pub noted : ℕ → Option ℕ → Pass
noted place None s = s
noted place (Some p) s = record { found = s.found ++ record { place = place; position = p } ∷ []; records = s.records }

-- what is no record has no such field: an activity's times are none
abbrev pub note : List DeclTree → ℕ → List ℕ → Option ℕ → Pass
note ds place name None s = s
note ds place name (Some k) s = noted place (position ds k name) s

-- an expression with a chain of fields behind it, the last field first: of `a.f.g` the type of the whole comes first, then that of
-- `a.f`, then those of `a`; a field is noted behind those before it
abbrev pub along : List DeclTree → Pass → List FieldName → Pass
along ds base [] s = base s
along ds base (f ∷ fs) s = note ds f.at f.text (next (later s.records)) (along ds base fs (one s))

-- ---- one layer of each kind of term

abbrev pub step_layer : Step-F Pass Pass Pass Pass → Pass
step_layer (Step-F.Plus t) s = t s
step_layer (Step-F.Minus t) s = t s
step_layer (Step-F.Times t) s = t s
step_layer (Step-F.Quotient t) s = t s
step_layer (Step-F.Remainder t) s = t s

abbrev pub set_layer : SetTerm-F Pass Pass Pass Pass → Pass
set_layer (SetTerm-F.Whole t) s = t s
set_layer (SetTerm-F.Between low high) s = high (low s)

abbrev pub group_layer : GroupTerm-F Pass Pass Pass Pass → Pass
group_layer (GroupTerm-F.Unordered patterns over) s = over s
group_layer (GroupTerm-F.Ordered patterns over) s = over s

abbrev pub term_layer : List DeclTree → Term-F Pass Pass Pass Pass → Pass
term_layer ds (Term-F.Number at n) s = one s
term_layer ds (Term-F.Named at name) s = one s
term_layer ds (Term-F.Bracket at t) s = t (one s)
term_layer ds (Term-F.Negative at t) s = t (one s)
term_layer ds (Term-F.Chain at first steps) s = each steps (first (one s))
term_layer ds (Term-F.Related at left relation right) s = right (left (one s))
term_layer ds (Term-F.Member at t over) s = over (t (one s))
term_layer ds (Term-F.Equivalent at ts) s = each ts (one s)
term_layer ds (Term-F.Implied at premise conclusion) s = conclusion (premise (one s))
term_layer ds (Term-F.Or at ts) s = each ts (one s)
term_layer ds (Term-F.And at ts) s = each ts (one s)
term_layer ds (Term-F.Not at t) s = t (one s)
-- `sum (GROUPS : c) a` and the like
term_layer ds (Term-F.Aggregate at op groups condition body) s = body (if_written condition (each groups (one s)))
term_layer ds (Term-F.Call at op t) s = t (one s)
term_layer ds (Term-F.AllDifferent at t) s = t (one s)
term_layer ds (Term-F.Question at op t) s = t (one s)
term_layer ds (Term-F.Element at base subscripts) s = each subscripts (base (one s))
term_layer ds (Term-F.Fields at base names) s = along ds base (reverse names) s
term_layer ds (Term-F.Record at ts) s = each ts (one s)
term_layer ds (Term-F.Listed at ts) s = each ts (one s)
-- `{a | GROUPS : c}`
term_layer ds (Term-F.Described at t groups condition) s = if_written condition (each groups (t (one s)))
term_layer ds (Term-F.Array at ts) s = each ts (one s)
term_layer ds (Term-F.KeyedArray at keys cells) s = in_turn keys cells (one s)

-- ---- the walk over each kind of term

unfoldable pub walk : List DeclTree → Term → Pass
walk ds = fold-Term Pass Pass Pass Pass group_layer set_layer step_layer (term_layer ds)

unfoldable pub walk_step : List DeclTree → Step → Pass
walk_step ds = fold-Step Pass Pass Pass Pass group_layer set_layer step_layer (term_layer ds)

unfoldable pub walk_set : List DeclTree → SetTerm → Pass
walk_set ds = fold-SetTerm Pass Pass Pass Pass group_layer set_layer step_layer (term_layer ds)

unfoldable pub walk_group : List DeclTree → GroupTerm → Pass
walk_group ds = fold-GroupTerm Pass Pass Pass Pass group_layer set_layer step_layer (term_layer ds)
