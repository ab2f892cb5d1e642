-- Whether values of each variant are inside.
use Rattle.std.proofs.Common.{◌≡◌, ℕ, ℤ, Bool, true, List, map, refl, sym, ap, ◌∙◌}
use Rattle.opl_value.specs.declared.value.Value.{Value}
use Rattle.opl_value.specs.declared.value.Value.TheVariants as values
use Rattle.opl_value.specs.declared.value.IndexSpace.{IndexSpace}
use Rattle.opl_value.specs.declared.value.Dimension.TheFolds.{fold-roll-Value}
use Rattle.opl_given.specs.declared.form.Form.{Form}
use Rattle.opl_given.specs.Assigned.{is_within}
use Rattle.opl_given.specs.Forms.{Known}
use Rattle.opl_given.specs.Inside.{elements_inside, is_inside, parts_inside}
use Rattle.opl_given.specs.Values.{element_of, parts_of}

pub is_inside-Int : (known : Known) (n : ℤ) (form : Form) → is_inside known (values.Int n) form ≡ is_within form (values.Int n)
unfolding is_inside
is_inside-Int known n form = ap (λ v. is_inside known v form) (sym (values.rolls-Int n)) ∙ rw fold-roll-Value refl

pub is_inside-Bool : (known : Known) (b : Bool) (form : Form) → is_inside known (values.Bool b) form ≡ true
unfolding is_inside
is_inside-Bool known b form = ap (λ v. is_inside known v form) (sym (values.rolls-Bool b)) ∙ rw fold-roll-Value refl

pub is_inside-Enum : (known : Known) (d : ℕ) (p : ℕ) (form : Form) → is_inside known (values.Enum d p) form ≡ true
unfolding is_inside
is_inside-Enum known d p form = ap (λ v. is_inside known v form) (sym (values.rolls-Enum d p)) ∙ rw fold-roll-Value refl

pub is_inside-Record : (known : Known) (vs : List Value) (form : Form) → is_inside known (values.Record vs) form ≡ parts_inside (map (is_inside known) vs) (parts_of known form)
unfolding is_inside
is_inside-Record known vs form = ap (λ v. is_inside known v form) (sym (values.rolls-Record vs)) ∙ rw fold-roll-Value refl

pub is_inside-Set : (known : Known) (vs : List Value) (form : Form) → is_inside known (values.Set vs) form ≡ elements_inside (map (is_inside known) vs) (element_of form)
unfolding is_inside
is_inside-Set known vs form = ap (λ v. is_inside known v form) (sym (values.rolls-Set vs)) ∙ rw fold-roll-Value refl

pub is_inside-Range : (known : Known) (l : ℤ) (h : ℤ) (form : Form) → is_inside known (values.Range l h) form ≡ true
unfolding is_inside
is_inside-Range known l h form = ap (λ v. is_inside known v form) (sym (values.rolls-Range l h)) ∙ rw fold-roll-Value refl

pub is_inside-Names : (known : Known) (ns : List (List ℕ)) (form : Form) → is_inside known (values.Names ns) form ≡ true
unfolding is_inside
is_inside-Names known ns form = ap (λ v. is_inside known v form) (sym (values.rolls-Names ns)) ∙ rw fold-roll-Value refl

pub is_inside-Array : (known : Known) (space : IndexSpace) (vs : List Value) (form : Form) → is_inside known (values.Array space vs) form ≡ true
unfolding is_inside
is_inside-Array known space vs form = ap (λ v. is_inside known v form) (sym (values.rolls-Array space vs)) ∙ rw fold-roll-Value refl

pub ruleset insides = (is_inside-Int, is_inside-Bool, is_inside-Enum, is_inside-Record, is_inside-Set, is_inside-Range, is_inside-Names, is_inside-Array)
