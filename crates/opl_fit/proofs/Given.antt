-- Values of data files have the forms by which they are read.
use Rattle.std.proofs.Common.{◌≡◌, ◌<◌, ◌≤◌, ◌≤ℤ◌, ℕ, ◌+◌, ℤ, Bool, true, false, ◌&&◌, cond, List, [], ◌∷◌, ◌++◌, length, map, Option, None, Some, IfOk, Result, Ok, Err, refl, sym, ap, subst, ◌∙◌, arith, append_assoc, append-nil}
use Rattle.std.specs.Prelude.{bytes_eq, int_le, nat_eq}
use Rattle.std.specs.List.{AllByRecursion, list_any}
use Rattle.std.proofs.lemmas.Int.{ints}
use Rattle.opl_tree.specs.declared.expression.NameTree.{NameTree}
use Rattle.opl_data.specs.declared.tree.DataPair.{DataPair}
use Rattle.opl_data.specs.declared.tree.DataValue.{DataValue}
use Rattle.opl_data.specs.declared.tree.DataValue.TheOpen.{DataValue-F}
use Rattle.opl_data.specs.declared.tree.DataValue.TheViews.{roll-DataValue}
use Rattle.opl_data.specs.declared.tree.DataValue.TheFolds.{fold-roll-DataValue, fold-DataPair, ind-DataValue, map-DataValue}
use Rattle.opl_value.specs.declared.value.Value.{Value}
use Rattle.opl_value.specs.declared.value.Value.TheVariants as values
use Rattle.opl_value.specs.Order.{value_eq}
use Rattle.opl_value.specs.Sets.{first_occurrences, with_new}
use Rattle.opl_value.proofs.Sets.{sets_differ}
use Rattle.opl_given.specs.declared.fault.BindFault.TheVariants as faults
use Rattle.opl_given.specs.declared.form.Form.{Form}
use Rattle.opl_given.specs.declared.form.Form.TheOpen.{Form-F}
use Rattle.opl_given.specs.declared.form.Form.TheVariants as forms
use Rattle.opl_given.specs.declared.form.Form.TheViews.{out-Form, roll-Form, roll-out-Form}
use Rattle.opl_given.specs.Faults.{Bound}
use Rattle.opl_given.specs.Forms.{Known, fields_of, names_of}
use Rattle.opl_given.specs.Names.{Text, latest, position}
use Rattle.opl_given.specs.Values.{Split, all_by_form, each_by_form, element_layer, element_of, name_at, name_in, name_layer, number_in, number_layer, parts_layer, parts_of, record_in, set_in, set_of, signed, split, value_in, value_layer}
use Rattle.opl_given.proofs.CellLaws.{passed, same_number, same_ok, went_first}
use Rattle.opl_fit.specs.Fits.{Fits, EachFits, AllFit, whole, within, name, struct, row, set, no_part, one_part, no_element, one_element}

-- ---- numbers

pub and_left : (a b : Bool) → (a && b) ≡ true → a ≡ true
and_left true b h = refl
and_left false b h = h

pub and_right : (a b : Bool) → (a && b) ≡ true → b ≡ true
and_right true b h = h
and_right false b h = absurd (cc)

pub at_most : (a b : ℤ) → int_le a b ≡ true → a ≤ℤ b
at_most a b h = grind (arith, ints)

pub fits-Int : (known : Known) (n : ℤ) → Fits known (roll-Form Form-F.Int) (values.Int n)
fits-Int known n = subst (λ f. Fits known f (values.Int n)) (sym forms.rolls-Int) (whole n)

pub fits-Range : (known : Known) (low high n : ℤ) → int_le low n && int_le n high ≡ true → Fits known (roll-Form (Form-F.Range low high)) (values.Int n)
fits-Range known low high n h =
    subst (λ f. Fits known f (values.Int n)) (sym (forms.rolls-Range low high))
    (within low high n (at_most low n (and_left (int_le low n) (int_le n high) h)) (at_most n high (and_right (int_le low n) (int_le n high) h)))

number-rolled : (known : Known) (file at : ℕ) (n : ℤ) (x : Form-F Form) (v : Value) → number_layer file at n x ≡ Ok v → Fits known (roll-Form x) v
number-rolled known file at n Form-F.Nothing v h = absurd (cc)
number-rolled known file at n Form-F.Int v h = subst (Fits known (roll-Form Form-F.Int)) (same_ok (values.Int n) v h) (fits-Int known n)
number-rolled known file at n (Form-F.Range low high) v h =
    let p = passed (int_le low n && int_le n high) (Ok (values.Int n)) (faults.Outside file at) v h in
    subst (Fits known (roll-Form (Form-F.Range low high))) (same_ok (values.Int n) v p.1) (fits-Range known low high n p.0)
number-rolled known file at n (Form-F.Enumeration k) v h = absurd (cc)
number-rolled known file at n (Form-F.Struct k) v h = absurd (cc)
number-rolled known file at n (Form-F.Record fs) v h = absurd (cc)
number-rolled known file at n (Form-F.Set f) v h = absurd (cc)

number-reads : (known : Known) (file at : ℕ) (n : ℤ) (form : Form) (v : Value) → number_in file at n form ≡ Ok v → Fits known form v
unfolding number_in
number-reads known file at n form v h = subst (λ f. Fits known f v) (roll-out-Form form) (number-rolled known file at n (out-Form form) v h)

-- ---- names

latest-within : (before : Option ℕ) (i : ℕ) (text : Text) (ns : List Text) (top p : ℕ) → ((q : ℕ) → before ≡ Some q → q < top) → i + length ns ≤ top → latest before i text ns ≡ Some p → p < top
latest-within before i text [] top p below l h = below p h
latest-within before i text (n ∷ ns) top p below l h = latest-within (cond (bytes_eq text n) (Some i) before) (i + 1) text ns top p (by (bytes_eq text n)) (omega arith) h
  where
    by : (b : Bool) (q : ℕ) → cond b (Some i) before ≡ Some q → q < top
    by true q e = let same : i ≡ q = cc in omega (arith, same, l)
    by false q e = below q e

position-within : (text : Text) (ns : List Text) (p : ℕ) → position text ns ≡ Some p → p < length ns
position-within text ns p h = latest-within None 0 text ns (length ns) p (λ q e. absurd (cc)) (omega arith) h

name-place : (known : Known) (file at k : ℕ) (text : Text) (o : Option ℕ) (v : Value) → position text (names_of known k) ≡ o → name_at file at k o ≡ Ok v → Fits known (roll-Form (Form-F.Enumeration k)) v
name-place known file at k text None v e h = absurd (cc)
name-place known file at k text (Some p) v e h =
    subst (Fits known (roll-Form (Form-F.Enumeration k))) (same_ok (values.Enum k p) v h)
    (subst (λ f. Fits known f (values.Enum k p)) (sym (forms.rolls-Enumeration k)) (name k p (position-within text (names_of known k) p e)))

name-rolled : (known : Known) (file : ℕ) (t : NameTree) (x : Form-F Form) (v : Value) → name_layer known file t x ≡ Ok v → Fits known (roll-Form x) v
name-rolled known file t Form-F.Nothing v h = absurd (cc)
name-rolled known file t Form-F.Int v h = absurd (cc)
name-rolled known file t (Form-F.Range low high) v h = absurd (cc)
name-rolled known file t (Form-F.Enumeration k) v h = name-place known file t.at k t.text (position t.text (names_of known k)) v refl h
name-rolled known file t (Form-F.Struct k) v h = absurd (cc)
name-rolled known file t (Form-F.Record fs) v h = absurd (cc)
name-rolled known file t (Form-F.Set f) v h = absurd (cc)

name-reads : (known : Known) (file : ℕ) (t : NameTree) (form : Form) (v : Value) → name_in known file t form ≡ Ok v → Fits known form v
unfolding name_in
name-reads known file t form v h = subst (λ f. Fits known f v) (roll-out-Form form) (name-rolled known file t (out-Form form) v h)

-- ---- records

some_same : {A : Type 0} (a b : A) → (let x : Option A = Some a in x) ≡ Some b → a ≡ b
some_same a b h = cc

record-rolled : (known : Known) (x : Form-F Form) (fs : List Form) (vs : List Value) → parts_layer known x ≡ Some fs → EachFits known fs vs → Fits known (roll-Form x) (values.Record vs)
record-rolled known Form-F.Nothing fs vs h k = absurd (cc)
record-rolled known Form-F.Int fs vs h k = absurd (cc)
record-rolled known (Form-F.Range low high) fs vs h k = absurd (cc)
record-rolled known (Form-F.Enumeration d) fs vs h k = absurd (cc)
record-rolled known (Form-F.Struct d) fs vs h k =
    subst (λ f. Fits known f (values.Record vs)) (sym (forms.rolls-Struct d)) (struct d vs (subst (λ gs. EachFits known gs vs) (sym (some_same (fields_of known d) fs h)) k))
record-rolled known (Form-F.Record gs) fs vs h k =
    subst (λ f. Fits known f (values.Record vs)) (sym (forms.rolls-Record gs)) (row gs vs (subst (λ hs. EachFits known hs vs) (sym (some_same gs fs h)) k))
record-rolled known (Form-F.Set f) fs vs h k = absurd (cc)

pub record-fits : (known : Known) (form : Form) (fs : List Form) (vs : List Value) → parts_of known form ≡ Some fs → EachFits known fs vs → Fits known form (values.Record vs)
unfolding parts_of
record-fits known form fs vs h k = subst (λ f. Fits known f (values.Record vs)) (roll-out-Form form) (record-rolled known (out-Form form) fs vs h k)

-- what a value is read as has the form by which it is read
abbrev pub Reads : Known → (Form → Bound Value) → Type 0
Reads known p = (form : Form) (v : Value) → p form ≡ Ok v → Fits known form v

each-fits : (known : Known) (before : List Value) (ps : List (Form → Bound Value)) (fs : List Form) (vs : List Value) → AllByRecursion (Reads known) ps → length ps ≡ length fs →
    each_by_form before ps fs ≡ Ok vs → (rest : List Value) × (vs ≡ before ++ rest) × EachFits known fs rest
each-fits known before [] [] vs reads l h = ([], sym (same_ok before vs h) ∙ sym (append-nil before), no_part)
each-fits known before [] (f ∷ fs) vs reads l h = absurd (omega arith)
each-fits known before (p ∷ ps) [] vs reads l h = absurd (omega arith)
each-fits known before (p ∷ ps) (f ∷ fs) vs reads l h =
    let w = went_first (p f) (λ v. each_by_form (before ++ v ∷ []) ps fs) vs h in
    let r = each-fits known (before ++ w.0 ∷ []) ps fs vs reads.1 (omega arith) w.2 in
    (w.0 ∷ r.0, r.1 ∙ append_assoc before (w.0 ∷ []) r.0, one_part f w.0 fs r.0 (reads.0 f w.0 w.1) r.2)

split-parts : (file at count : ℕ) (o : Option (List Form)) (s : Split) → split file at count o ≡ Ok s → (o ≡ Some (s.first ∷ s.others)) × (count ≡ length s.others)
split-parts file at count None s h = absurd (cc)
split-parts file at count (Some []) s h = absurd (cc)
split-parts file at count (Some (f ∷ fs)) s h =
    let p = passed (nat_eq count (length fs)) (Ok (record { first = f; others = fs })) (faults.Shape file at) s h in
    let e = same_ok (record { first = f; others = fs }) s p.1 in
    (ap (λ r. Some (r.first ∷ r.others)) e, same_number count (length fs) p.0 ∙ ap (λ r. length r.others) e)

record-reads : (known : Known) (file at : ℕ) (head : Form → Bound Value) (rest : List (Form → Bound Value)) (form : Form) (v : Value) → Reads known head → AllByRecursion (Reads known) rest →
    record_in (split file at (length rest) (parts_of known form)) head rest ≡ Ok v → Fits known form v
record-reads known file at head rest form v reads all h =
    let w = went_first (split file at (length rest) (parts_of known form)) _ v h in
    let s = split-parts file at (length rest) (parts_of known form) w.0 w.1 in
    let u = went_first (head w.0.first) _ v w.2 in
    let e = went_first (each_by_form (u.0 ∷ []) rest w.0.others) (λ vs. Ok (values.Record vs)) v u.2 in
    let r = each-fits known (u.0 ∷ []) rest w.0.others e.0 all s.1 e.1 in
    subst (Fits known form) (same_ok (values.Record e.0) v e.2)
    (subst (λ vs. Fits known form (values.Record vs)) (sym r.1)
    (record-fits known form (w.0.first ∷ w.0.others) (u.0 ∷ r.0) s.0 (one_part w.0.first u.0 w.0.others r.0 (reads w.0.first u.0 u.1) r.2)))

-- ---- sets

set-rolled : (known : Known) (x : Form-F Form) (f : Form) (vs : List Value) → element_layer x ≡ Some f → AllFit known f (first_occurrences vs) → Fits known (roll-Form x) (set_of vs)
set-rolled known Form-F.Nothing f vs h k = absurd (cc)
set-rolled known Form-F.Int f vs h k = absurd (cc)
set-rolled known (Form-F.Range low high) f vs h k = absurd (cc)
set-rolled known (Form-F.Enumeration d) f vs h k = absurd (cc)
set-rolled known (Form-F.Struct d) f vs h k = absurd (cc)
set-rolled known (Form-F.Record gs) f vs h k = absurd (cc)
set-rolled known (Form-F.Set g) f vs h k =
    subst (λ e. Fits known e (set_of vs)) (sym (forms.rolls-Set g))
    (set g (first_occurrences vs) (subst (λ e. AllFit known e (first_occurrences vs)) (sym (some_same g f h)) k) (sets_differ vs))

all-family : (known : Known) (f : Form) (vs : List Value) → AllByRecursion (Fits known f) vs → AllFit known f vs
all-family known f [] h = no_element f
all-family known f (v ∷ vs) h = one_element f v vs h.0 (all-family known f vs h.1)

pub all-pushed : (P : Value → Type 0) (vs : List Value) (v : Value) → AllByRecursion P vs → P v → AllByRecursion P (vs ++ v ∷ [])
all-pushed P [] v h k = (k, tt)
all-pushed P (w ∷ vs) v h k = (h.0, all-pushed P vs v h.1 k)

pub all-new : (P : Value → Type 0) (found vs : List Value) → AllByRecursion P found → AllByRecursion P vs → AllByRecursion P (with_new found vs)
all-new P found [] f h = f
all-new P found (v ∷ vs) f h = all-new P (cond (list_any (value_eq v) found) found (found ++ v ∷ [])) vs (by (list_any (value_eq v) found)) h.1
  where
    by : (b : Bool) → AllByRecursion P (cond b found (found ++ v ∷ []))
    by true = f
    by false = all-pushed P found v f h.0

-- a set of values of one form
pub set-fits : (known : Known) (form f : Form) (vs : List Value) → element_of form ≡ Some f → AllByRecursion (Fits known f) vs → Fits known form (set_of vs)
unfolding element_of
set-fits known form f vs h k =
    subst (λ e. Fits known e (set_of vs)) (roll-out-Form form)
    (set-rolled known (out-Form form) f vs h (all-family known f (first_occurrences vs) (all-new (Fits known f) [] vs tt k)))

pub all-fit : (known : Known) (before : List Value) (es : List (Form → Bound Value)) (form : Form) (vs : List Value) → AllByRecursion (Reads known) es → all_by_form before es form ≡ Ok vs →
    (rest : List Value) × (vs ≡ before ++ rest) × AllByRecursion (Fits known form) rest
all-fit known before [] form vs reads h = ([], sym (same_ok before vs h) ∙ sym (append-nil before), tt)
all-fit known before (e ∷ es) form vs reads h =
    let w = went_first (e form) (λ v. all_by_form (before ++ v ∷ []) es form) vs h in
    let r = all-fit known (before ++ w.0 ∷ []) es form vs reads.1 w.2 in
    (w.0 ∷ r.0, r.1 ∙ append_assoc before (w.0 ∷ []) r.0, (reads.0 form w.0 w.1, r.2))

set-reads : (known : Known) (file at : ℕ) (es : List (Form → Bound Value)) (o : Option Form) (form : Form) (v : Value) → AllByRecursion (Reads known) es → element_of form ≡ o →
    set_in file at es o ≡ Ok v → Fits known form v
set-reads known file at es None form v reads e h = absurd (cc)
set-reads known file at es (Some f) form v reads e h =
    let w = went_first (all_by_form [] es f) (λ vs. Ok (set_of vs)) v h in
    let r = all-fit known [] es f w.0 reads w.1 in
    subst (Fits known form) (same_ok (set_of w.0) v w.2) (set-fits known form f w.0 e (subst (AllByRecursion (Fits known f)) (sym r.1) r.2))

-- ---- every value of a data file

abbrev InValue : Known → ℕ → Type 0
InValue known file = (v : DataValue) × Reads known (value_in known file v)

abbrev InPair : Type 0
InPair = DataPair × Unit {0}

abbrev value_inner : (known : Known) (file : ℕ) → DataValue-F (InValue known file) InPair → DataValue-F DataValue DataPair
value_inner known file = map-DataValue (InValue known file) InPair DataValue DataPair (λ e. e.0) (λ e. e.0)

-- one layer
abbrev value_here : Known → ℕ → DataValue-F DataValue DataPair → Form → Bound Value
value_here known file x = value_layer known file (map-DataValue DataValue DataPair (Form → Bound Value) ℕ (value_in known file) (fold-DataPair (Form → Bound Value) ℕ (value_layer known file) (λ pair. pair.at)) x)

value-roll : (known : Known) (file : ℕ) (x : DataValue-F DataValue DataPair) → value_in known file (roll-DataValue x) ≡ value_here known file x
unfolding value_in
value-roll known file x = fold-roll-DataValue (Form → Bound Value) ℕ (value_layer known file) (λ pair. pair.at) x

inner-reads : (known : Known) (file : ℕ) (es : List (InValue known file)) → AllByRecursion (Reads known) (map (value_in known file) (map (λ e. e.0) es))
inner-reads known file [] = tt
inner-reads known file (e ∷ es) = (e.1, inner-reads known file es)

layer-reads : (known : Known) (file : ℕ) (y : DataValue-F (InValue known file) InPair) → Reads known (value_here known file (value_inner known file y))
layer-reads known file (DataValue-F.Number at is_negative n) form v h = number-reads known file at (signed is_negative n) form v h
layer-reads known file (DataValue-F.Named t) form v h = name-reads known file t form v h
layer-reads known file (DataValue-F.Record at head rest) form v h =
    record-reads known file at (value_in known file head.0) (map (value_in known file) (map (λ e. e.0) rest)) form v head.1 (inner-reads known file rest) h
layer-reads known file (DataValue-F.Set at elements) form v h =
    set-reads known file at (map (value_in known file) (map (λ e. e.0) elements)) (element_of form) form v (inner-reads known file elements) refl h
layer-reads known file (DataValue-F.Array at elements) form v h = absurd (cc)
layer-reads known file (DataValue-F.KeyedArray at pairs) form v h = absurd (cc)

pub value-reads : (known : Known) (file : ℕ) (v : DataValue) → Reads known (value_in known file v)
value-reads known file = ind-DataValue (λ v. Reads known (value_in known file v)) (λ p. Unit {0})
    (λ x y is. subst (Reads known) (sym (value-roll known file x)) (subst (λ z. Reads known (value_here known file z)) is (layer-reads known file y)))
    (λ x y is. tt)

pub values-read : (known : Known) (file : ℕ) (vs : List DataValue) → AllByRecursion (Reads known) (map (value_in known file) vs)
values-read known file [] = tt
values-read known file (v ∷ vs) = (value-reads known file v, values-read known file vs)

element-Set : (f : Form) → element_of (forms.Set f) ≡ Some f
unfolding element_of
element-Set f = ap element_layer (forms.outs-Set f)

-- the set of values of one form, as it is made
pub made-fits : (known : Known) (f : Form) (vs : List Value) (v : Value) → v ≡ set_of vs → AllByRecursion (Fits known f) vs → Fits known (forms.Set f) v
made-fits known f vs v e h = subst (Fits known (forms.Set f)) (sym e) (set-fits known (forms.Set f) f vs (element-Set f) h)

pub set-made : {E : Type 0} (r : Result Value E) (es : List Value) → IfOk r (λ s. s ≡ set_of es) → IfOk r (λ s. (known : Known) (f : Form) → AllByRecursion (Fits known f) es → Fits known (forms.Set f) s)
set-made (Ok s) es h = λ known f all. made-fits known f es s h all
set-made (Err e) es h = tt
