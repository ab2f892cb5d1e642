-- Which values are within the ends of a form.
use Rattle.std.proofs.Common.{◌≡◌, ℕ, ℤ, Bool, true, ◌&&◌, List, refl, ap, ◌∙◌}
use Rattle.std.specs.Prelude.{int_le}
use Rattle.opl_value.specs.declared.value.Value.{Value}
use Rattle.opl_value.specs.declared.value.IndexSpace.{IndexSpace}
use Rattle.opl_value.specs.declared.value.Value.TheVariants as values
use Rattle.opl_value.specs.declared.value.Dimension.TheViews.{out-Value}
use Rattle.opl_given.specs.declared.form.Form.{Form}
use Rattle.opl_given.specs.declared.form.Form.TheOpen.{Form-F}
use Rattle.opl_given.specs.declared.form.Form.TheVariants as forms
use Rattle.opl_given.specs.Assigned.{within_layer, is_within}

pub within-Nothing : (v : Value) → is_within forms.Nothing v ≡ true
within-Nothing v = ap (λ f. within_layer f (out-Value v)) forms.outs-Nothing ∙ refl

pub within-Int : (v : Value) → is_within forms.Int v ≡ true
within-Int v = ap (λ f. within_layer f (out-Value v)) forms.outs-Int ∙ refl

pub within-Enumeration : (declaration : ℕ) (v : Value) → is_within (forms.Enumeration declaration) v ≡ true
within-Enumeration declaration v = ap (λ f. within_layer f (out-Value v)) (forms.outs-Enumeration declaration) ∙ refl

pub within-Struct : (declaration : ℕ) (v : Value) → is_within (forms.Struct declaration) v ≡ true
within-Struct declaration v = ap (λ f. within_layer f (out-Value v)) (forms.outs-Struct declaration) ∙ refl

pub within-Record : (parts : List Form) (v : Value) → is_within (forms.Record parts) v ≡ true
within-Record parts v = ap (λ f. within_layer f (out-Value v)) (forms.outs-Record parts) ∙ refl

pub within-Set : (element : Form) (v : Value) → is_within (forms.Set element) v ≡ true
within-Set element v = ap (λ f. within_layer f (out-Value v)) (forms.outs-Set element) ∙ refl

pub within-Range-Int : (low high : ℤ) (n : ℤ) → is_within (forms.Range low high) (values.Int n) ≡ int_le low n && int_le n high
within-Range-Int low high n = ap (λ f. within_layer f (out-Value (values.Int n))) (forms.outs-Range low high) ∙ ap (within_layer {A = Form} (Form-F.Range low high)) (values.outs-Int n)

pub within-Range-Bool : (low high : ℤ) (b : Bool) → is_within (forms.Range low high) (values.Bool b) ≡ true
within-Range-Bool low high b = ap (λ f. within_layer f (out-Value (values.Bool b))) (forms.outs-Range low high) ∙ ap (within_layer {A = Form} (Form-F.Range low high)) (values.outs-Bool b)

pub within-Range-Enum : (low high : ℤ) (d : ℕ) (p : ℕ) → is_within (forms.Range low high) (values.Enum d p) ≡ true
within-Range-Enum low high d p = ap (λ f. within_layer f (out-Value (values.Enum d p))) (forms.outs-Range low high) ∙ ap (within_layer {A = Form} (Form-F.Range low high)) (values.outs-Enum d p)

pub within-Range-Record : (low high : ℤ) (vs : List Value) → is_within (forms.Range low high) (values.Record vs) ≡ true
within-Range-Record low high vs = ap (λ f. within_layer f (out-Value (values.Record vs))) (forms.outs-Range low high) ∙ ap (within_layer {A = Form} (Form-F.Range low high)) (values.outs-Record vs)

pub within-Range-Set : (low high : ℤ) (vs : List Value) → is_within (forms.Range low high) (values.Set vs) ≡ true
within-Range-Set low high vs = ap (λ f. within_layer f (out-Value (values.Set vs))) (forms.outs-Range low high) ∙ ap (within_layer {A = Form} (Form-F.Range low high)) (values.outs-Set vs)

pub within-Range-Range : (low high : ℤ) (l : ℤ) (h : ℤ) → is_within (forms.Range low high) (values.Range l h) ≡ true
within-Range-Range low high l h = ap (λ f. within_layer f (out-Value (values.Range l h))) (forms.outs-Range low high) ∙ ap (within_layer {A = Form} (Form-F.Range low high)) (values.outs-Range l h)

pub within-Range-Names : (low high : ℤ) (ns : List (List ℕ)) → is_within (forms.Range low high) (values.Names ns) ≡ true
within-Range-Names low high ns = ap (λ f. within_layer f (out-Value (values.Names ns))) (forms.outs-Range low high) ∙ ap (within_layer {A = Form} (Form-F.Range low high)) (values.outs-Names ns)

pub within-Range-Array : (low high : ℤ) (space : IndexSpace) (vs : List Value) → is_within (forms.Range low high) (values.Array space vs) ≡ true
within-Range-Array low high space vs = ap (λ f. within_layer f (out-Value (values.Array space vs))) (forms.outs-Range low high) ∙ ap (within_layer {A = Form} (Form-F.Range low high)) (values.outs-Array space vs)

pub ruleset numbers = (within-Nothing, within-Int, within-Enumeration, within-Struct, within-Record, within-Set, within-Range-Int, within-Range-Bool, within-Range-Enum, within-Range-Record, within-Range-Set, within-Range-Range, within-Range-Names, within-Range-Array)
