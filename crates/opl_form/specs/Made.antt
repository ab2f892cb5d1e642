-- Ground forms of whole drafts. Parts are made from the left, each after the nodes of those before it, so that the first fault is the one that is told.
use Rattle.std.specs.Prelude.{ℕ, ◌+◌, ℤ, nat_lt, slice_get, true, cond, List, [], ◌∷◌, length, Option, Some, None, Ok, Err}
use Rattle.opl_value.specs.declared.value.Value.TheVariants as values
use Rattle.opl_eval.specs.declared.fault.EvalFault.TheVariants.{OutOfIndex}
use Rattle.opl_draft.specs.Drafts.{Cells, Draft, Drafts, Steps}
use Rattle.opl_draft.specs.Drafts.Drafts.{no_drafts, more_drafts}
use Rattle.opl_draft.specs.Drafts.Steps.{no_steps, more_steps}
use Rattle.opl_expr.specs.declared.forms.Expr.TheVariants as E
use Rattle.opl_form.specs.Parts.{Form}
use Rattle.opl_form.specs.Measures.{part_nodes}
use Rattle.opl_form.specs.Nodes.{Made, Parts, absolute, aggregated, all_hold, as_operand, chained, compared, different, element_node, implied, indexed, known_node, negated, next, one_holds, opposite, parts_nodes, same, stepped, truth_part, value_node, variable_sort}
use Rattle.opl_form.specs.Nodes.Fault.{eval}

-- The place of a draft; a fault has its own.
abbrev pub place : Draft → ℕ
place (Draft.known at v) = at
place (Draft.broken fault) = 0
place (Draft.variable at x kind) = at
place (Draft.negated at d) = at
place (Draft.chain at d ss) = at
place (Draft.related at r d e) = at
place (Draft.equivalent at ds) = at
place (Draft.implied at d e) = at
place (Draft.one_of at ds) = at
place (Draft.all_of at ds) = at
place (Draft.opposite at d) = at
place (Draft.aggregate at op ds) = at
place (Draft.absolute at d) = at
place (Draft.different at a) = at
place (Draft.element at k ds) = at

-- The places of drafts.
abbrev pub places : Drafts → List ℕ
places no_drafts = []
places (more_drafts d ds) = place d ∷ places ds

-- The array of this number.
abbrev pub array_of : List Cells → Option ℕ → Option Cells
array_of arrays None = None
array_of arrays (Some k) = slice_get arrays k

module _ (sets : List (ℤ × ℤ)) (arrays : List Cells) (item : ℕ) where
  abbrev mutual
    -- The form of a draft, where n nodes were made before.
    pub made : ℕ → Draft → Made Form
    made n (Draft.known at v) = value_node item at n v
    made n (Draft.broken fault) = Err (eval fault)
    made n (Draft.variable at x kind) = cond (nat_lt x (length sets)) (element_node sets arrays item (variable_sort sets kind x) at n (E.Var x)) (Err (eval (OutOfIndex at)))
    made n (Draft.negated at d) = next (as_operand item (place d) n (made n d)) (λ g. negated sets arrays item at n g)
    made n (Draft.chain at d ss) = next (as_operand item (place d) n (made n d)) (λ g. next (made_steps at n (g, []) ss) (λ ps. chained sets arrays item at n ps.0 ps.1))
    made n (Draft.related at r d e) = next (as_operand item (place d) n (made n d)) (λ g. next (as_operand item (place e) (n + part_nodes g) (made (n + part_nodes g) e)) (λ h. compared sets arrays item at n r g h))
    made n (Draft.equivalent at ds) = made_first n ds
    made n (Draft.implied at d e) = next (made n d) (λ g. next (made (n + part_nodes g) e) (λ h. implied item n g h))
    made n (Draft.one_of at ds) = next (made_all n ds) (λ gs. one_holds item n gs)
    made n (Draft.all_of at ds) = next (made_all n ds) (λ gs. all_hold item n gs)
    made n (Draft.opposite at d) = next (made n d) (λ g. opposite item n g)
    made n (Draft.aggregate at op ds) = next (made_operands n ds) (λ gs. aggregated sets arrays item op at n gs)
    made n (Draft.absolute at d) = next (as_operand item (place d) n (made n d)) (λ g. absolute sets arrays item at n g)
    made n (Draft.different at a) = different sets arrays item at n a
    made n (Draft.element at k ds) = next (made_all n ds) (λ gs. indexed sets arrays item at n k (array_of arrays k) (places ds) gs)

    -- The forms of drafts, one after another.
    pub made_all : ℕ → Drafts → Made (List Form)
    made_all n no_drafts = Ok []
    made_all n (more_drafts d ds) = next (made n d) (λ g. next (made_all (n + part_nodes g) ds) (λ gs. Ok (g ∷ gs)))

    -- The same in arithmetic places.
    pub made_operands : ℕ → Drafts → Made (List Form)
    made_operands n no_drafts = Ok []
    made_operands n (more_drafts d ds) = next (as_operand item (place d) n (made n d)) (λ g. next (made_operands (n + part_nodes g) ds) (λ gs. Ok (g ∷ gs)))

    -- The parts of the last sum of a chain.
    pub made_steps : ℕ → ℕ → Parts → Steps → Made Parts
    made_steps at n ps no_steps = Ok ps
    made_steps at n ps (more_steps sign d ss) = next (as_operand item (place d) (n + parts_nodes ps) (made (n + parts_nodes ps) d)) (λ g. next (stepped sets arrays item sign at (place d) n ps g) (λ qs. made_steps at n qs ss))

    -- `a <=> b <=> ..`: whether the first is as the second, whether what comes of that is as the third, and so on.
    pub made_first : ℕ → Drafts → Made Form
    made_first n no_drafts = known_node item n (values.Bool true)
    made_first n (more_drafts d ds) = next (made n d) (λ g. next (truth_part item n g) (λ h. made_same n h ds))

    pub made_same : ℕ → Form → Drafts → Made Form
    made_same n g no_drafts = Ok g
    made_same n g (more_drafts d ds) = next (made (n + part_nodes g) d) (λ h. next (same item n g h) (λ k. made_same n k ds))
