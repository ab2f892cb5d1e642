-- What variables are worth, one alone and among the elements of an array.
use Rattle.std.proofs.Common.{◌≡◌, ℕ, zero, suc, ◌+◌, ◌<◌, ◌≤◌, ℤ, pos, Bool, true, false, cond, unsigned_abs, List, [], Some, Ok, refl, sym, ap, subst, ◌∙◌, arith}
use Rattle.std.specs.Prelude.{slice_index_or}
use Rattle.std.proofs.lemmas.Bool.{and_parts}
use Rattle.opl_value.specs.declared.value.Value.TheVariants as values
use Rattle.opl_value.specs.declared.value.Dimension.TheViews.{out-Value}
use Rattle.opl_value.specs.Places.{value_at}
use Rattle.opl_eval.specs.Compare.{rank}
use Rattle.opl_meaning.specs.Assigned.{position_of, value_of}
use Rattle.opl_meaning.specs.declared.variable.Kind.{Kind}
use Rattle.opl_meaning.specs.declared.variable.Kind.TheVariants.{Number, Enumeration}
use Rattle.opl_draft.specs.Drafts.{Cells, variable_values}
use Rattle.opl_expr.specs.declared.forms.Expr.TheVariants as E
use Rattle.opl_expr.specs.declared.tables.Cell.TheVariants as cell
use Rattle.opl_expr.specs.Forms.{Term}
use Rattle.opl_expr.specs.Holds.{value, cell_value}
use Rattle.opl_expr.specs.Options.{lift1}
use Rattle.opl_expr.specs.Sound.{term_magnitude}
use Rattle.opl_expr.proofs.Plain.{term_Var}
use Rattle.opl_form.specs.Parts.{Form, Sort, alike, key_layer, number_cells, tables}
use Rattle.opl_form.specs.Parts.Form.{name}
use Rattle.opl_form.specs.Parts.Sort.{whole, named, other}
use Rattle.opl_form.specs.Measures as measures
use Rattle.opl_form.specs.Nodes as making
use Rattle.opl_form.specs.Nodes.{element_node, has_positions, size, variable_sort, variable_sorts}
use Rattle.opl_form.specs.Worth.{Worth, val}
use Rattle.opl_form.proofs.Nodes.{counted-made, number-node, sized-made}
use Rattle.opl_form.proofs.Nodes as nodes
use Rattle.opl_form.proofs.Values.{alike-same}
use Rattle.opl_form.proofs.Views.{rank-Enum, rank-Int}

-- nothing is like what is no number and no name
pub unlike-other : (s : Sort) → alike s other ≡ true → ⊥
unlike-other whole h = cc
unlike-other (named d) h = cc
unlike-other other h = cc

module _ (sets : List (ℤ × ℤ)) (arrays : List Cells) (item : ℕ) (ns : List ℤ)
    (value-small : (t : Term) (v : ℤ) → value ns t ≡ Some v → unsigned_abs v ≤ term_magnitude sets t)
    (fair : (x : ℕ) → has_positions (slice_index_or sets x (pos 0, pos 0)) ≡ true → slice_index_or ns x (pos 0) ≡ pos (position_of (slice_index_or ns x (pos 0))))
  where
    pub val-Var : (x : ℕ) → val arrays ns (E.Var x) ≡ Some (slice_index_or ns x (pos 0))
    val-Var x = ap (value ns) (term_Var (tables arrays) [] x)

    pub variable-worth : (at n x : ℕ) (kind : Kind) (g : Form) → element_node sets arrays item (variable_sort sets kind x) at n (E.Var x) ≡ Ok g → Worth arrays ns (Some (value_of kind (slice_index_or ns x (pos 0)))) g
    variable-worth at n x Number g e =
        let p = number-node sets arrays item at n (E.Var x) g e in
        subst (Worth arrays ns (Some (values.Int (slice_index_or ns x (pos 0))))) p.0 (ap (lift1 values.Int) (sym (val-Var x)))
    variable-worth at n x (Enumeration d) g e = by (has_positions (slice_index_or sets x (pos 0, pos 0))) refl e
      where
        by : (b : Bool) → has_positions (slice_index_or sets x (pos 0, pos 0)) ≡ b → element_node sets arrays item (cond b (named d) other) at n (E.Var x) ≡ Ok g → Worth arrays ns (Some (values.Enum d (position_of (slice_index_or ns x (pos 0))))) g
        by true t h =
            let p = sized-made at (size sets arrays (E.Var x)) (making.counted item n (measures.depth (E.Var x)) (measures.nodes (E.Var x)) (name d (E.Var x))) g h in
            subst (Worth arrays ns (Some (values.Enum d (position_of (slice_index_or ns x (pos 0)))))) (counted-made item n (measures.depth (E.Var x)) (measures.nodes (E.Var x)) (name d (E.Var x)) g p.1) (
              ap (lift1 (λ n. values.Enum d (position_of n))) (sym (val-Var x)),
              λ m f. let same : slice_index_or ns x (pos 0) ≡ m = nodes.some-same (slice_index_or ns x (pos 0)) m (sym (val-Var x) ∙ f) in subst (λ m. m ≡ pos (position_of m)) same (fair x t),
            )
        by false t h = absurd (cc)

    -- a variable of this sort has the rank that its cell has
    pub variable-rank : (x : ℕ) (kind : Kind) (s : Sort) → alike s (variable_sort sets kind x) ≡ true →
        (slice_index_or ns x (pos 0) ≡ rank (value_of kind (slice_index_or ns x (pos 0)))) × (key_layer (out-Value (value_of kind (slice_index_or ns x (pos 0)))) ≡ s)
    variable-rank x Number s h = (sym (rank-Int (slice_index_or ns x (pos 0))), ap key_layer (values.outs-Int (slice_index_or ns x (pos 0))) ∙ sym (alike-same s whole h))
    variable-rank x (Enumeration d) s h = by (has_positions (slice_index_or sets x (pos 0, pos 0))) refl h
      where
        by : (b : Bool) → has_positions (slice_index_or sets x (pos 0, pos 0)) ≡ b → alike s (cond b (named d) other) ≡ true →
            (slice_index_or ns x (pos 0) ≡ rank (values.Enum d (position_of (slice_index_or ns x (pos 0))))) × (key_layer (out-Value (values.Enum d (position_of (slice_index_or ns x (pos 0))))) ≡ s)
        by true t h = (fair x t ∙ sym (rank-Enum d (position_of (slice_index_or ns x (pos 0)))), ap key_layer (values.outs-Enum d (position_of (slice_index_or ns x (pos 0)))) ∙ sym (alike-same s (named d) h))
        by false t h = absurd (unlike-other s h)

    -- the same at a place among variables that are alike
    pub variables-rank : (kind : Kind) (x n p : ℕ) (s : Sort) → p < n → variable_sorts sets s kind x n ≡ true →
        (cell_value ns (slice_index_or (number_cells kind x n) p (cell.Const (pos 0))) ≡ rank (value_at (variable_values arrays ns kind x n) p)) × (key_layer (out-Value (value_at (variable_values arrays ns kind x n) p)) ≡ s)
    variables-rank kind x zero p s l h = absurd (omega (arith, l))
    variables-rank kind x (suc n) zero s l h = variable-rank x kind s (and_parts (alike s (variable_sort sets kind x)) (variable_sorts sets s kind (suc x) n) h).0
    variables-rank kind x (suc n) (suc p) s l h = variables-rank kind (suc x) n p s (omega (arith, l)) (and_parts (alike s (variable_sort sets kind x)) (variable_sorts sets s kind (suc x) n) h).1

    -- the variable at a place
    pub variable-at : (kind : Kind) (x n p : ℕ) → p < n → value_at (variable_values arrays ns kind x n) p ≡ value_of kind (slice_index_or ns (x + p) (pos 0))
    variable-at kind x zero p l = absurd (omega (arith, l))
    variable-at kind x (suc n) zero l = ap (λ y. value_of kind (slice_index_or ns y (pos 0))) (plus-zero x)
      where
        plus-zero : (x : ℕ) → x ≡ x + 0
        plus-zero x = omega arith
    variable-at kind x (suc n) (suc p) l = variable-at kind (suc x) n p (omega (arith, l)) ∙ ap (λ y. value_of kind (slice_index_or ns y (pos 0))) (plus-suc x p)
      where
        plus-suc : (x p : ℕ) → suc x + p ≡ x + suc p
        plus-suc x p = omega arith
