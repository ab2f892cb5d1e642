-- What values tell of the form of their like.
use Rattle.std.proofs.Common.{◌≡◌, ℕ, ℤ, Bool, List, [], map, refl, sym, ap, ◌∙◌}
use Rattle.opl_value.specs.declared.value.Value.{Value}
use Rattle.opl_value.specs.declared.value.Value.TheVariants as values
use Rattle.opl_value.specs.declared.value.IndexSpace.{IndexSpace}
use Rattle.opl_value.specs.declared.value.Dimension.TheFolds.{fold-roll-Value}
use Rattle.opl_given.specs.declared.form.Form.{Form}
use Rattle.opl_given.specs.declared.form.Form.TheVariants as forms
use Rattle.opl_given.specs.Axes.{parts_layer, parts_known, element_layer, element_known, parts_learnt, elements_learnt, learnt, axis_layer, axis_of_set, listed, named, between, no_elements}

pub parts_known-Nothing : parts_known forms.Nothing ≡ []
unfolding parts_known
parts_known-Nothing = ap parts_layer forms.outs-Nothing

pub parts_known-Int : parts_known forms.Int ≡ []
unfolding parts_known
parts_known-Int = ap parts_layer forms.outs-Int

pub parts_known-Range : (low : ℤ) (high : ℤ) → parts_known (forms.Range low high) ≡ []
unfolding parts_known
parts_known-Range low high = ap parts_layer (forms.outs-Range low high)

pub parts_known-Enumeration : (declaration : ℕ) → parts_known (forms.Enumeration declaration) ≡ []
unfolding parts_known
parts_known-Enumeration declaration = ap parts_layer (forms.outs-Enumeration declaration)

pub parts_known-Struct : (declaration : ℕ) → parts_known (forms.Struct declaration) ≡ []
unfolding parts_known
parts_known-Struct declaration = ap parts_layer (forms.outs-Struct declaration)

pub parts_known-Record : (parts : List Form) → parts_known (forms.Record parts) ≡ parts
unfolding parts_known
parts_known-Record parts = ap parts_layer (forms.outs-Record parts)

pub parts_known-Set : (element : Form) → parts_known (forms.Set element) ≡ []
unfolding parts_known
parts_known-Set element = ap parts_layer (forms.outs-Set element)

pub element_known-Nothing : element_known forms.Nothing ≡ forms.Nothing
unfolding element_known
element_known-Nothing = ap element_layer forms.outs-Nothing

pub element_known-Int : element_known forms.Int ≡ forms.Nothing
unfolding element_known
element_known-Int = ap element_layer forms.outs-Int

pub element_known-Range : (low : ℤ) (high : ℤ) → element_known (forms.Range low high) ≡ forms.Nothing
unfolding element_known
element_known-Range low high = ap element_layer (forms.outs-Range low high)

pub element_known-Enumeration : (declaration : ℕ) → element_known (forms.Enumeration declaration) ≡ forms.Nothing
unfolding element_known
element_known-Enumeration declaration = ap element_layer (forms.outs-Enumeration declaration)

pub element_known-Struct : (declaration : ℕ) → element_known (forms.Struct declaration) ≡ forms.Nothing
unfolding element_known
element_known-Struct declaration = ap element_layer (forms.outs-Struct declaration)

pub element_known-Record : (parts : List Form) → element_known (forms.Record parts) ≡ forms.Nothing
unfolding element_known
element_known-Record parts = ap element_layer (forms.outs-Record parts)

pub element_known-Set : (element : Form) → element_known (forms.Set element) ≡ element
unfolding element_known
element_known-Set element = ap element_layer (forms.outs-Set element)

pub learnt-Int : (n : ℤ) (form : Form) → learnt (values.Int n) form ≡ forms.Int
unfolding learnt
learnt-Int n form = ap (λ v. learnt v form) (sym (values.rolls-Int n)) ∙ rw fold-roll-Value refl

pub learnt-Bool : (b : Bool) (form : Form) → learnt (values.Bool b) form ≡ form
unfolding learnt
learnt-Bool b form = ap (λ v. learnt v form) (sym (values.rolls-Bool b)) ∙ rw fold-roll-Value refl

pub learnt-Enum : (d : ℕ) (p : ℕ) (form : Form) → learnt (values.Enum d p) form ≡ forms.Enumeration d
unfolding learnt
learnt-Enum d p form = ap (λ v. learnt v form) (sym (values.rolls-Enum d p)) ∙ rw fold-roll-Value refl

pub learnt-Record : (vs : List Value) (form : Form) → learnt (values.Record vs) form ≡ forms.Record (parts_learnt [] (map learnt vs) (parts_known form))
unfolding learnt
learnt-Record vs form = ap (λ v. learnt v form) (sym (values.rolls-Record vs)) ∙ rw fold-roll-Value refl

pub learnt-Set : (vs : List Value) (form : Form) → learnt (values.Set vs) form ≡ forms.Set (elements_learnt (map learnt vs) (element_known form))
unfolding learnt
learnt-Set vs form = ap (λ v. learnt v form) (sym (values.rolls-Set vs)) ∙ rw fold-roll-Value refl

pub learnt-Range : (l : ℤ) (h : ℤ) (form : Form) → learnt (values.Range l h) form ≡ form
unfolding learnt
learnt-Range l h form = ap (λ v. learnt v form) (sym (values.rolls-Range l h)) ∙ rw fold-roll-Value refl

pub learnt-Names : (ns : List (List ℕ)) (form : Form) → learnt (values.Names ns) form ≡ form
unfolding learnt
learnt-Names ns form = ap (λ v. learnt v form) (sym (values.rolls-Names ns)) ∙ rw fold-roll-Value refl

pub learnt-Array : (space : IndexSpace) (vs : List Value) (form : Form) → learnt (values.Array space vs) form ≡ form
unfolding learnt
learnt-Array space vs form = ap (λ v. learnt v form) (sym (values.rolls-Array space vs)) ∙ rw fold-roll-Value refl

pub axis_of_set-Int : (declaration : ℕ) (n : ℤ) → axis_of_set declaration (values.Int n) ≡ no_elements
unfolding axis_of_set
axis_of_set-Int declaration n = ap (axis_layer declaration) (values.outs-Int n)

pub axis_of_set-Bool : (declaration : ℕ) (b : Bool) → axis_of_set declaration (values.Bool b) ≡ no_elements
unfolding axis_of_set
axis_of_set-Bool declaration b = ap (axis_layer declaration) (values.outs-Bool b)

pub axis_of_set-Enum : (declaration : ℕ) (d : ℕ) (p : ℕ) → axis_of_set declaration (values.Enum d p) ≡ no_elements
unfolding axis_of_set
axis_of_set-Enum declaration d p = ap (axis_layer declaration) (values.outs-Enum d p)

pub axis_of_set-Record : (declaration : ℕ) (vs : List Value) → axis_of_set declaration (values.Record vs) ≡ no_elements
unfolding axis_of_set
axis_of_set-Record declaration vs = ap (axis_layer declaration) (values.outs-Record vs)

pub axis_of_set-Set : (declaration : ℕ) (vs : List Value) → axis_of_set declaration (values.Set vs) ≡ listed vs
unfolding axis_of_set
axis_of_set-Set declaration vs = ap (axis_layer declaration) (values.outs-Set vs)

pub axis_of_set-Range : (declaration : ℕ) (l : ℤ) (h : ℤ) → axis_of_set declaration (values.Range l h) ≡ between l h
unfolding axis_of_set
axis_of_set-Range declaration l h = ap (axis_layer declaration) (values.outs-Range l h)

pub axis_of_set-Names : (declaration : ℕ) (ns : List (List ℕ)) → axis_of_set declaration (values.Names ns) ≡ named declaration ns
unfolding axis_of_set
axis_of_set-Names declaration ns = ap (axis_layer declaration) (values.outs-Names ns)

pub axis_of_set-Array : (declaration : ℕ) (space : IndexSpace) (vs : List Value) → axis_of_set declaration (values.Array space vs) ≡ no_elements
unfolding axis_of_set
axis_of_set-Array declaration space vs = ap (axis_layer declaration) (values.outs-Array space vs)

pub ruleset views = (parts_known-Nothing, parts_known-Int, parts_known-Range, parts_known-Enumeration, parts_known-Struct, parts_known-Record, parts_known-Set, element_known-Nothing, element_known-Int, element_known-Range, element_known-Enumeration, element_known-Struct, element_known-Record, element_known-Set)

pub ruleset values_tell = (learnt-Int, learnt-Bool, learnt-Enum, learnt-Record, learnt-Set, learnt-Range, learnt-Names, learnt-Array)

pub ruleset sets = (axis_of_set-Int, axis_of_set-Bool, axis_of_set-Enum, axis_of_set-Record, axis_of_set-Set, axis_of_set-Range, axis_of_set-Names, axis_of_set-Array)
