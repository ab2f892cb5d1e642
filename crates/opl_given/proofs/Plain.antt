-- The values of items without dimensions are no arrays.
use Rattle.std.proofs.Common.{◌≡◌, ℕ, zero, suc, ℤ, pos, Bool, true, false, cond, ◌&&◌, List, [], ◌∷◌, length, map, set, Option, None, Some, Result, Ok, Err, refl, sym, ap, subst}
use Rattle.std.specs.Prelude.{IfOk, bytes_eq, int_le}
use Rattle.std.specs.List.{list_all}
use Rattle.opl_tree.specs.declared.expression.NameTree.{NameTree}
use Rattle.opl_data.specs.declared.tree.DataPair.{DataPair}
use Rattle.opl_data.specs.declared.tree.DataValue.{DataValue}
use Rattle.opl_data.specs.declared.tree.DataValue.TheOpen.{DataValue-F}
use Rattle.opl_data.specs.declared.tree.DataValue.TheViews.{out-DataValue, roll-DataValue, roll-out-DataValue}
use Rattle.opl_data.specs.declared.tree.DataValue.TheFolds.{fold-roll-DataValue}
use Rattle.opl_value.specs.declared.value.Value.{Value}
use Rattle.opl_value.specs.declared.value.Value.TheVariants as made
use Rattle.opl_value.specs.declared.value.IndexSpace.{IndexSpace}
use Rattle.opl_value.specs.declared.value.Dimension.TheOpen.{Value-F}
use Rattle.opl_value.specs.declared.value.Dimension.TheViews.{out-Value}
use Rattle.opl_value.specs.Places.{place_of, value_at}
use Rattle.opl_value.specs.Sets.{first_occurrences}
use Rattle.opl_eval.specs.ArrayKeys.{IsKeyed, keyed_layer}
use Rattle.opl_given.specs.declared.assigned.Override.{Override}
use Rattle.opl_given.specs.declared.fault.BindFault.{BindFault}
use Rattle.opl_given.specs.declared.form.Form.{Form}
use Rattle.opl_given.specs.declared.form.Form.TheOpen.{Form-F}
use Rattle.opl_given.specs.declared.form.Form.TheViews.{out-Form}
use Rattle.opl_given.specs.Assigned.{all_assigned, assigned, is_assigned, is_within, overridden, placed}
use Rattle.opl_given.specs.Faults.{Binds, Bound, then}
use Rattle.opl_given.specs.Forms.{Known, names_of}
use Rattle.opl_given.specs.Given.{GivenValue}
use Rattle.opl_given.specs.Items.{array_layer, given_or_assigned, is_array, single_value}
use Rattle.opl_given.specs.Names.{Text, position}
use Rattle.opl_given.specs.Values.{Split, all_by_form, each_by_form, element_of, name_at, name_in, name_layer, number_in, number_layer, parts_of, record_in, set_in, signed, split, value_in, value_layer}

-- ---- which values are arrays

pub array-Int : (n : ℤ) → is_array (made.Int n) ≡ false
array-Int n = ap array_layer (made.outs-Int n)

pub array-Bool : (b : Bool) → is_array (made.Bool b) ≡ false
array-Bool b = ap array_layer (made.outs-Bool b)

pub array-Enum : (k p : ℕ) → is_array (made.Enum k p) ≡ false
array-Enum k p = ap array_layer (made.outs-Enum k p)

pub array-Record : (vs : List Value) → is_array (made.Record vs) ≡ false
array-Record vs = ap array_layer (made.outs-Record vs)

pub array-Set : (vs : List Value) → is_array (made.Set vs) ≡ false
array-Set vs = ap array_layer (made.outs-Set vs)

pub array-Range : (l h : ℤ) → is_array (made.Range l h) ≡ false
array-Range l h = ap array_layer (made.outs-Range l h)

pub array-Names : (ns : List (List ℕ)) → is_array (made.Names ns) ≡ false
array-Names ns = ap array_layer (made.outs-Names ns)

pub array-Array : (s : IndexSpace) (vs : List Value) → is_array (made.Array s vs) ≡ true
array-Array s vs = ap array_layer (made.outs-Array s vs)

pub ruleset arrays = (array-Int, array-Bool, array-Enum, array-Record, array-Set, array-Range, array-Names, array-Array)

-- in what is no array there are no keys to find
layer_keyed : {A : Type 0} (x : Value-F A Value IndexSpace) → array_layer x ≡ false → keyed_layer x
layer_keyed (Value-F.Int n) h = tt
layer_keyed (Value-F.Bool b) h = tt
layer_keyed (Value-F.Enum k p) h = tt
layer_keyed (Value-F.Record vs) h = tt
layer_keyed (Value-F.Set vs) h = tt
layer_keyed (Value-F.Range l h) e = tt
layer_keyed (Value-F.Names ns) h = tt
layer_keyed (Value-F.Array s vs) h = absurd (cc)

pub plain_keyed : (v : Value) → is_array v ≡ false → IsKeyed v
plain_keyed v h = layer_keyed (out-Value v) h

-- ---- what is found is no array

abbrev pub IsPlain : Bound Value → Type 0
IsPlain (Ok v) = is_array v ≡ false
IsPlain (Err e) = Unit {0}

plain_cond : (b : Bool) (x y : Bound Value) → IsPlain x → IsPlain y → IsPlain (cond b x y)
plain_cond true x y h k = h
plain_cond false x y h k = k

plain_then : {A : Type 0} (b : Bound A) (f : A → Bound Value) → ((a : A) → IsPlain (f a)) → IsPlain (then b f)
plain_then (Ok a) f h = h a
plain_then (Err e) f h = tt

plain_number : (file at : ℕ) (n : ℤ) (f : Form-F Form) → IsPlain (number_layer file at n f)
plain_number file at n Form-F.Nothing = tt
plain_number file at n Form-F.Int = array-Int n
plain_number file at n (Form-F.Range low high) = plain_cond (int_le low n && int_le n high) (Ok (made.Int n)) (Err _) (array-Int n) tt
plain_number file at n (Form-F.Enumeration k) = tt
plain_number file at n (Form-F.Struct k) = tt
plain_number file at n (Form-F.Record fs) = tt
plain_number file at n (Form-F.Set f) = tt

plain_number_in : (file at : ℕ) (n : ℤ) (form : Form) → IsPlain (number_in file at n form)
unfolding number_in
plain_number_in file at n form = plain_number file at n (out-Form form)

plain_name : (known : Known) (file : ℕ) (name : NameTree) (f : Form-F Form) → IsPlain (name_layer known file name f)
plain_name known file name Form-F.Nothing = tt
plain_name known file name Form-F.Int = tt
plain_name known file name (Form-F.Range low high) = tt
plain_name known file name (Form-F.Enumeration k) = at_place (position name.text (names_of known k))
  where
    at_place : (p : Option ℕ) → IsPlain (name_at file name.at k p)
    at_place (Some p) = array-Enum k p
    at_place None = tt
plain_name known file name (Form-F.Struct k) = tt
plain_name known file name (Form-F.Record fs) = tt
plain_name known file name (Form-F.Set f) = tt

plain_name_in : (known : Known) (file : ℕ) (name : NameTree) (form : Form) → IsPlain (name_in known file name form)
unfolding name_in
plain_name_in known file name form = plain_name known file name (out-Form form)

plain_record : (fs : Bound Split) (head : Form → Bound Value) (rest : List (Form → Bound Value)) → IsPlain (record_in fs head rest)
plain_record fs head rest = plain_then fs _ (λ f. plain_then (head f.first) _ (λ v. plain_then (each_by_form (v ∷ []) rest f.others) _ array-Record))

plain_set : (file at : ℕ) (elements : List (Form → Bound Value)) (f : Option Form) → IsPlain (set_in file at elements f)
plain_set file at elements (Some f) = plain_then (all_by_form [] elements f) _ (λ vs. array-Set (first_occurrences vs))
plain_set file at elements None = tt

plain_layer : (known : Known) (file : ℕ) (x : DataValue-F (Form → Bound Value) ℕ) (form : Form) → IsPlain (value_layer known file x form)
plain_layer known file (DataValue-F.Number at b n) form = plain_number_in file at (signed b n) form
plain_layer known file (DataValue-F.Named name) form = plain_name_in known file name form
plain_layer known file (DataValue-F.Record at head rest) form = plain_record (split file at (length rest) (parts_of known form)) head rest
plain_layer known file (DataValue-F.Set at elements) form = plain_set file at elements (element_of form)
plain_layer known file (DataValue-F.Array at elements) form = tt
plain_layer known file (DataValue-F.KeyedArray at pairs) form = tt

plain_rolled : (known : Known) (file : ℕ) (x : DataValue-F DataValue DataPair) (form : Form) → IsPlain (value_in known file (roll-DataValue x) form)
unfolding value_in
plain_rolled known file x form =
    subst (λ f. IsPlain (f form)) (sym (fold-roll-DataValue (Form → Bound Value) ℕ (value_layer known file) (λ pair. pair.at) x)) (plain_layer known file _ form)

-- a value of a data file
pub plain_value : (known : Known) (file : ℕ) (v : DataValue) (form : Form) → IsPlain (value_in known file v form)
plain_value known file v form = subst (λ w. IsPlain (value_in known file w form)) (roll-out-DataValue v) (plain_rolled known file (out-DataValue v) form)

plain_given : (known : Known) (form : Form) (name : Text) (os : List Override) (g : Option GivenValue) → IsPlain (given_or_assigned known form name os g)
plain_given known form name os (Some g) = plain_value known g.file g.value form
plain_given known form name os None = plain_cond (is_assigned name os) (Ok (made.Int (pos 0))) (Err _) (array-Int (pos 0)) tt

-- ---- assignments put numbers into cells

abbrev ArePlain : List Value → Type 0
ArePlain [] = Unit {0}
ArePlain (v ∷ vs) = (is_array v ≡ false) × ArePlain vs

abbrev FoundPlain : Bound (List Value) → Type 0
FoundPlain (Ok vs) = ArePlain vs
FoundPlain (Err e) = Unit {0}

found_then : {A : Type 0} (b : Bound A) (f : A → Bound (List Value)) → ((a : A) → b ≡ Ok a → FoundPlain (f a)) → FoundPlain (then b f)
found_then (Ok a) f h = h a refl
found_then (Err e) f h = tt

found_cond : (b : Bool) (x y : Bound (List Value)) → FoundPlain x → FoundPlain y → FoundPlain (cond b x y)
found_cond true x y h k = h
found_cond false x y h k = k

plain_at : (vs : List Value) → ArePlain vs → is_array (value_at vs 0) ≡ false
plain_at [] h = array-Int (pos 0)
plain_at (v ∷ vs) h = h.0

plain-set : (vs : List Value) (p : ℕ) (n : ℤ) → ArePlain vs → ArePlain (set vs p (made.Int n))
plain-set [] p n h = tt
plain-set (v ∷ vs) zero n h = (array-Int n, h.1)
plain-set (v ∷ vs) (suc p) n h = (h.0, plain-set vs p n h.1)

plain_placed : (name : Text) (cells : List Value) (p : Option ℕ) (n : ℤ) → ArePlain cells → FoundPlain (placed name cells p n)
plain_placed name cells (Some p) n h = plain-set cells p n h
plain_placed name cells None n h = tt

plain_of : (b : Bound (List Value)) (vs : List Value) → FoundPlain b → b ≡ Ok vs → ArePlain vs
plain_of b vs h e = subst FoundPlain e h

plain_assigned : (name : Text) (lists : List (List Value)) (cells : List Value) (os : List Override) → ArePlain cells → FoundPlain (all_assigned name lists cells os)
plain_assigned name lists cells [] h = h
plain_assigned name lists cells (o ∷ os) h =
    found_cond (bytes_eq name o.name) _ _
    (found_then (assigned name lists cells o) (λ more. all_assigned name lists more os)
    (λ more e. plain_assigned name lists more os (plain_of (assigned name lists cells o) more (plain_placed name cells (place_of lists (map made.Int o.index)) o.value h) e)))
    (plain_assigned name lists cells os h)

plain_overridden : (name : Text) (form : Form) (lists : List (List Value)) (cells : List Value) (os : List Override) → ArePlain cells → FoundPlain (overridden name form lists cells os)
unfolding overridden
plain_overridden name form lists cells os h =
    found_cond (is_assigned name os) _ _
    (found_then (all_assigned name lists cells os) _
    (λ more e. found_cond (list_all (is_within form) more) (Ok more) (Err _) (plain_of (all_assigned name lists cells os) more (plain_assigned name lists cells os h) e) tt))
    h

-- the value of an item
pub plain_single : (known : Known) (form : Form) (name : Text) (os : List Override) (g : Option GivenValue) → IsPlain (single_value known form name os g)
plain_single known form name os g = after (given_or_assigned known form name os g) (plain_given known form name os g)
  where
    chosen : (b : Bound (List Value)) → FoundPlain b → IsPlain (then b (λ cells. Ok (value_at cells 0)))
    chosen (Ok cells) h = plain_at cells h
    chosen (Err e) h = tt

    after : (b : Bound Value) → IsPlain b → IsPlain (then b (λ v. then (overridden name form [] (v ∷ []) os) (λ cells. Ok (value_at cells 0))))
    after (Ok v) h = chosen (overridden name form [] (v ∷ []) os) (plain_overridden name form [] (v ∷ []) os (h, tt))
    after (Err e) h = tt

-- so its keys can be found
pub keyed_single : (known : Known) (form : Form) (name : Text) (os : List Override) (g : Option GivenValue) (v : Value) → single_value known form name os g ≡ Ok v → IsKeyed v
keyed_single known form name os g v e = plain_keyed v (subst IsPlain e (plain_single known form name os g))

pub keyed_result : (known : Known) (form : Form) (name : Text) (os : List Override) (g : Option GivenValue) (r : Result Value BindFault) → Binds (single_value known form name os g) r → IfOk r IsKeyed
keyed_result known form name os g (Ok v) h = keyed_single known form name os g v h
keyed_result known form name os g (Err e) h = tt

pub ruleset plain = (keyed_single, plain_keyed)
