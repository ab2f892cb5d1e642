-- Expressions whose fields were told by hand.
use Rattle.std.proofs.Common.{◌≡◌, ℕ, List, [], ◌∷◌, None, Some}
use Rattle.std.specs.Prelude.{codes}
use Rattle.opl_tree.specs.declared.declaration.DeclTree.{DeclTree}
use Rattle.opl_tree.specs.declared.declaration.DeclTree.TheVariants as decls
use Rattle.opl_tree.specs.declared.declaration.FieldTree.{FieldTree}
use Rattle.opl_tree.specs.declared.declaration.TypeTree.TheVariants as types
use Rattle.opl_tree.specs.declared.expression.AggregateOp.TheVariants.{Sum}
use Rattle.opl_term.specs.declared.term.FieldName.{FieldName}
use Rattle.opl_term.specs.declared.term.GroupTerm.TheVariants.{Unordered}
use Rattle.opl_term.specs.declared.term.Pattern.TheVariants.{Single}
use Rattle.opl_term.specs.declared.term.SetTerm.TheVariants.{Whole}
use Rattle.opl_term.specs.declared.term.Step.TheVariants.{Times}
use Rattle.opl_term.specs.declared.term.Term.{Term}
use Rattle.opl_term.specs.declared.term.Term.TheVariants as terms
use Rattle.opl_fields.specs.Structs.{position, field_names}
use Rattle.opl_fields.specs.Walk.{before, walk}
use Rattle.opl_fields.specs.Laws.{known}
use Rattle.opl_fields.proofs.Walks.{walk-Named, walk-Chain, walk-Aggregate, walk-Element, walk-Fields, walk-Record, walk-Described, walk_step-Times, walk_set-Whole, walk_group-Unordered}

abbrev int_field : List ℕ → FieldTree
int_field name = record { at = 0; kind = types.Int 0; name = record { at = 0; text = name } }

-- `struct P {int t; int f;};` is the declaration with number 0, `struct Q {int b; int c;};` that with number 1
abbrev ds : List DeclTree
ds = decls.Structure (record { at = 0; name = record { at = 0; text = codes "P" }; first = int_field (codes "t"); rest = int_field (codes "f") ∷ [] })
    ∷ decls.Structure (record { at = 0; name = record { at = 0; text = codes "Q" }; first = int_field (codes "b"); rest = int_field (codes "c") ∷ [] })
    ∷ []

abbrev e : ℕ → Term
e at = terms.Named at (codes "e")

abbrev field : ℕ → List ℕ → FieldName
field at text = record { at = at; text = text }

-- sum (e in A) c[e] * e.f, where e is a record of P, A is a set and c an array
sum_of_products : walk ds (terms.Aggregate 0 Sum (Unordered (Single (codes "e") ∷ []) (Whole (terms.Named 10 (codes "A"))) ∷ []) None
    (terms.Chain 13 (terms.Element 13 (terms.Named 13 (codes "c")) (e 15 ∷ [])) (Times (terms.Fields 20 (e 20) (field 22 (codes "f") ∷ [])) ∷ [])))
    (before (None ∷ None ∷ None ∷ None ∷ None ∷ Some 0 ∷ None ∷ Some 0 ∷ []))
    ≡ known (record { place = 22; position = 1 } ∷ []) []
unfolding position field_names
sum_of_products = simp (walk-Aggregate, walk_group-Unordered, walk_set-Whole, walk-Named, walk-Chain, walk-Element, walk_step-Times, walk-Fields)

-- {<e.t, e.f> | e in A}: both fields of the element, before the set
parts_of_records : walk ds (terms.Described 0 (terms.Record 1 (terms.Fields 2 (e 2) (field 4 (codes "t") ∷ []) ∷ terms.Fields 7 (e 7) (field 9 (codes "f") ∷ []) ∷ [])) (Unordered (Single (codes "e") ∷ []) (Whole (terms.Named 19 (codes "A"))) ∷ []) None)
    (before (None ∷ None ∷ None ∷ Some 0 ∷ None ∷ Some 0 ∷ None ∷ []))
    ≡ known (record { place = 4; position = 0 } ∷ record { place = 9; position = 1 } ∷ []) []
unfolding position field_names
parts_of_records = simp (walk-Described, walk-Record, walk_group-Unordered, walk_set-Whole, walk-Named, walk-Fields)

-- e.t.c, where e is a record of P and e.t one of Q: the inner field comes first; no type is left over
one_behind_the_other : walk ds (terms.Fields 0 (e 0) (field 2 (codes "t") ∷ field 4 (codes "c") ∷ [])) (before (None ∷ Some 1 ∷ Some 0 ∷ []))
    ≡ known (record { place = 2; position = 0 } ∷ record { place = 4; position = 1 } ∷ []) []
unfolding position field_names
one_behind_the_other = simp (walk-Fields, walk-Named)

-- a.end, where a is an activity: no field of a struct
no_record : walk ds (terms.Fields 0 (terms.Named 0 (codes "a")) (field 2 (codes "end") ∷ [])) (before (None ∷ None ∷ [])) ≡ known [] []
no_record = simp (walk-Fields, walk-Named)
