-- How many cells an array has.
use Rattle.std.proofs.Common.{◌≡◌, ℕ, suc, ◌+◌, ◌*◌, Bool, true, false, cond, List, [], ◌∷◌, ◌++◌, length, map, set, Option, None, Some, Ok, Err, refl, sym, ap, ◌∙◌, arith, length-append}
use Rattle.std.specs.Prelude.{nat_eq}
use Rattle.std.specs.List.{slice_get}
use Rattle.std.proofs.Math.Nat.{add-mul, mul_assoc}
use Rattle.std.proofs.lemmas.List.{length-map, length-set}
use Rattle.std.proofs.lemmas.Bool.Decides.{nat_tests}
use Rattle.opl_data.specs.declared.tree.DataPair.{DataPair}
use Rattle.opl_data.specs.declared.tree.DataValue.{DataValue}
use Rattle.opl_data.specs.declared.tree.DataValue.TheOpen.{DataValue-F}
use Rattle.opl_data.specs.declared.tree.DataValue.TheViews.{out-DataValue, out-DataPair}
use Rattle.opl_value.specs.declared.value.Value.{Value}
use Rattle.opl_value.specs.Places.{elements}
use Rattle.opl_given.specs.declared.fault.BindFault.{BindFault}
use Rattle.opl_given.specs.declared.form.Form.{Form}
use Rattle.opl_given.specs.Arrays.{Axis, values_of, is_free, put, lay, filled, free, listed, keyed, key_place, cells_layer, cells_of, opened, flat}
use Rattle.opl_given.specs.Faults.{Bound, then}
use Rattle.opl_given.specs.Forms.{Known}
use Rattle.opl_given.specs.Laws.{CellsFillTheSpace}
use Rattle.opl_given.specs.Values.{value_in, all_by_form}

-- where two steps find something, the first does
pub went : {A B : Type 0} (b : Bound A) (f : A → Bound B) (y : B) → then b f ≡ Ok y → (a : A) × (f a ≡ Ok y)
went (Ok a) f y h = (a, h)
went (Err e) f y h = absurd (cc)

pub went_first : {A B : Type 0} (b : Bound A) (f : A → Bound B) (y : B) → then b f ≡ Ok y → (a : A) × (b ≡ Ok a) × (f a ≡ Ok y)
went_first (Ok a) f y h = (a, refl, h)
went_first (Err e) f y h = absurd (cc)

pub same_ok : {A : Type 0} (a b : A) → (let x : Bound A = Ok a in x) ≡ Ok b → a ≡ b
same_ok a b h = cc

-- a test that lets go on
pub passed : {A : Type 0} (b : Bool) (x : Bound A) (e : BindFault) (y : A) → cond b x (Err e) ≡ Ok y → (b ≡ true) × (x ≡ Ok y)
passed true x e y h = (refl, h)
passed false x e y h = absurd (cc)

pub same_number : (m n : ℕ) → nat_eq m n ≡ true → m ≡ n
same_number m n h = grind (arith, nat_tests, h)

-- one value for each cell
pub length-all_by_form : (before vs : List Value) (es : List (Form → Bound Value)) (form : Form) → all_by_form before es form ≡ Ok vs → length vs ≡ length before + length es
length-all_by_form before vs [] form h = ap length (sym (same_ok before vs h)) ∙ omega arith
length-all_by_form before vs (e ∷ es) form h =
    let w = went (e form) (λ v. all_by_form (before ++ v ∷ []) es form) vs h in
    length-all_by_form (before ++ w.0 ∷ []) vs es form w.1 ∙ omega (arith, length-append before (w.0 ∷ []))

length-put : {C : Type 0} (wrong : BindFault) (slots more : List (Option C)) (p : Option ℕ) (c : C) → put wrong slots p c ≡ Ok more → length more ≡ length slots
length-put wrong slots more None c h = absurd (cc)
length-put wrong slots more (Some p) c h =
    let w = passed (is_free (slice_get slots p)) (Ok (set slots p (Some c))) wrong more h in
    ap length (sym (same_ok (set slots p (Some c)) more w.1)) ∙ length-set slots p (Some c)

length-lay : (known : Known) (wrong : BindFault) (axis : Axis) (slots more : List (Option DataValue)) (ps : List DataPair) → lay known wrong axis slots ps ≡ Ok more → length more ≡ length slots
length-lay known wrong axis slots more [] h = ap length (sym (same_ok slots more h))
length-lay known wrong axis slots more (p ∷ ps) h =
    let w = went_first (put wrong slots (key_place known axis (out-DataPair p).key) (out-DataPair p).value) (λ laid. lay known wrong axis laid ps) more h in
    length-lay known wrong axis w.0 more ps w.2 ∙ length-put wrong slots w.0 (key_place known axis (out-DataPair p).key) (out-DataPair p).value w.1

pub length-filled : {C : Type 0} (wrong : BindFault) (before cells : List C) (slots : List (Option C)) → filled wrong before slots ≡ Ok cells → length cells ≡ length before + length slots
length-filled wrong before cells [] h = ap length (sym (same_ok before cells h)) ∙ omega arith
length-filled wrong before cells (Some c ∷ slots) h = length-filled wrong (before ++ c ∷ []) cells slots h ∙ omega (arith, length-append before (c ∷ []))
length-filled wrong before cells (None ∷ slots) h = absurd (cc)

length-listed : (wrong : BindFault) (axis : Axis) (parts cells : List DataValue) → listed wrong axis parts ≡ Ok cells → length cells ≡ length (values_of axis)
length-listed wrong axis parts cells h =
    let w = passed (nat_eq (length parts) (length (values_of axis))) (Ok parts) wrong cells h in
    ap length (sym (same_ok parts cells w.1)) ∙ same_number (length parts) (length (values_of axis)) w.0

length-free : (pairs : List DataPair) → length (free {C = DataValue} pairs) ≡ length pairs
length-free [] = refl
length-free (p ∷ ps) = ap suc (length-free ps)

length-keyed : (known : Known) (wrong : BindFault) (axis : Axis) (pairs : List DataPair) (cells : List DataValue) → keyed known wrong axis pairs ≡ Ok cells → length cells ≡ length (values_of axis)
length-keyed known wrong axis pairs cells h =
    let w = passed (nat_eq (length pairs) (length (values_of axis))) (then (lay known wrong axis (free pairs) pairs) (filled wrong [])) wrong cells h in
    let s = went_first (lay known wrong axis (free pairs) pairs) (filled wrong []) cells w.1 in
    let a = length-filled wrong [] cells s.0 s.2 in
    let b = length-lay known wrong axis (free pairs) s.0 pairs s.1 in
    let l = length-free pairs in
    let n = same_number (length pairs) (length (values_of axis)) w.0 in
    omega arith

length-cells_layer : (known : Known) (wrong : BindFault) (axis : Axis) (v : DataValue-F DataValue DataPair) (cells : List DataValue) → cells_layer known wrong axis v ≡ Ok cells → length cells ≡ length (values_of axis)
length-cells_layer known wrong axis (DataValue-F.Number at b n) cells h = absurd (cc)
length-cells_layer known wrong axis (DataValue-F.Named name) cells h = absurd (cc)
length-cells_layer known wrong axis (DataValue-F.Record at head rest) cells h = absurd (cc)
length-cells_layer known wrong axis (DataValue-F.Set at elements) cells h = absurd (cc)
length-cells_layer known wrong axis (DataValue-F.Array at parts) cells h = length-listed wrong axis parts cells h
length-cells_layer known wrong axis (DataValue-F.KeyedArray at pairs) cells h = length-keyed known wrong axis pairs cells h

length-cells_of : (known : Known) (wrong : BindFault) (axis : Axis) (v : DataValue) (cells : List DataValue) → cells_of known wrong axis v ≡ Ok cells → length cells ≡ length (values_of axis)
unfolding cells_of
length-cells_of known wrong axis v cells h = length-cells_layer known wrong axis (out-DataValue v) cells h

-- as many cells for each of the values
length-opened : (known : Known) (wrong : BindFault) (axis : Axis) (before values cells : List DataValue) → opened known wrong axis before values ≡ Ok cells → length cells ≡ length before + length values * length (values_of axis)
length-opened known wrong axis before [] cells h = ap length (sym (same_ok before cells h)) ∙ omega arith
length-opened known wrong axis before (v ∷ vs) cells h =
    let w = went_first (cells_of known wrong axis v) (λ more. opened known wrong axis (before ++ more) vs) cells h in
    let a = length-opened known wrong axis (before ++ w.0) vs cells w.2 in
    let b = length-append before w.0 in
    let d = length-cells_of known wrong axis v w.0 w.1 in
    let e = add-mul 1 (length vs) (length (values_of axis)) in
    omega (arith, a, b, d, e)

length-flat : (known : Known) (wrong : BindFault) (axes : List Axis) (values cells : List DataValue) → flat known wrong axes values ≡ Ok cells → length cells ≡ length values * elements (map values_of axes)
length-flat known wrong [] values cells h = ap length (sym (same_ok values cells h)) ∙ omega arith
length-flat known wrong (a ∷ others) values cells h =
    let w = went_first (opened known wrong a [] values) (flat known wrong others) cells h in
    let n = length-flat known wrong others w.0 cells w.2 in
    let m : length w.0 ≡ length values * length (values_of a) = length-opened known wrong a [] values w.0 w.1 ∙ omega arith in
    n ∙ ap (λ k. k * elements (map values_of others)) m ∙ mul_assoc (length values) (length (values_of a)) (elements (map values_of others))

-- an array that is given has as many cells as its index space has keys
pub cells_fill : CellsFillTheSpace
cells_fill known file wrong axes form value cells h =
    let w = went_first (flat known wrong axes (value ∷ [])) (λ parts. all_by_form [] (map (value_in known file) parts) form) cells h in
    let a = length-all_by_form [] cells (map (value_in known file) w.0) form w.2 in
    let b = length-map w.0 (value_in known file) in
    let d = length-flat known wrong axes (value ∷ []) w.0 w.1 in
    omega (arith, a, b, d)
