-- Initial values of the model, worked out by hand.
use Rattle.std.proofs.Common.{◌≡◌, ℕ, ℤ, pos, [], ◌∷◌, Ok, Err, refl}
use Rattle.opl_term.specs.declared.term.Term.{Term}
use Rattle.opl_term.specs.declared.term.Term.TheVariants as terms
use Rattle.opl_value.specs.declared.value.Value.TheVariants as values
use Rattle.opl_value.specs.declared.value.Dimension.TheVariants as dimensions
use Rattle.opl_value.proofs.Places.{values-Whole}
use Rattle.opl_eval.specs.Evaluation.{Environment}
use Rattle.opl_eval.proofs.Meanings.{meaning-Number}
use Rattle.opl_given.specs.declared.fault.BindFault.TheVariants.{Shape, Outside}
use Rattle.opl_given.specs.declared.form.Form.TheVariants as forms
use Rattle.opl_given.specs.Arrays.{Axis}
use Rattle.opl_given.specs.Forms.{nothing_known}
use Rattle.opl_bind.specs.Written.{listed_cells, written}
use Rattle.opl_given.proofs.Insides.{insides}
use Rattle.opl_given.proofs.Layers.{forms_say}
use Rattle.opl_bind.proofs.WrittenLayers.{cells-Array, first_tokens, fit-Listed, fit-Number, fit-Record, written-at}

abbrev number : ℕ → ℤ → Term
number at n = terms.Number at n

-- two elements
abbrev pair : Axis
pair = record { dimension = dimensions.Whole (pos 1) (pos 2); form = forms.Int }

-- 9 is outside 1..5, and the fault stands at the 9: in `{1,9}`
in_a_set : (env : Environment) → (written nothing_known (terms.Listed 10 (number 11 (pos 1) ∷ number 13 (pos 9) ∷ []))).fit (forms.Set (forms.Range (pos 1) (pos 5))) env ≡ Err (Outside 0 13)
in_a_set env = simp (fit-Listed, fit-Number, first_tokens, meaning-Number, forms_say, insides, forms.outs-Range, values.outs-Int) refl

-- and in `{<1>,<9>}`
in_a_record : (env : Environment) → (written nothing_known (terms.Listed 10 (terms.Record 11 (number 12 (pos 1) ∷ []) ∷ terms.Record 15 (number 16 (pos 9) ∷ []) ∷ []))).fit (forms.Set (forms.Record (forms.Range (pos 1) (pos 5) ∷ []))) env ≡ Err (Outside 0 16)
in_a_record env = simp (fit-Listed, fit-Record, fit-Number, first_tokens, meaning-Number, forms_say, insides, forms.outs-Range, values.outs-Int) refl

-- 5 is in it
at_the_end : (env : Environment) → (written nothing_known (number 3 (pos 5))).fit (forms.Range (pos 1) (pos 5)) env ≡ Ok (values.Int (pos 5))
at_the_end env = simp (fit-Number, first_tokens, meaning-Number, insides, forms.outs-Range, values.outs-Int) refl

-- `[1,2,3]` over two elements: the fault stands at the `[`
one_too_many : (env : Environment) → listed_cells (written nothing_known (terms.Array 10 (number 11 (pos 1) ∷ number 13 (pos 2) ∷ number 15 (pos 3) ∷ []))) forms.Int (pair ∷ []) env ≡ Err (Shape 0 10)
one_too_many env = simp (written-at, cells-Array, first_tokens, values-Whole) refl
