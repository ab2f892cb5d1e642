-- The cell at a key's place is what the array says for the key.
use Rattle.std.proofs.Common.{◌≡◌, ℕ, zero, suc, ◌+◌, ◌*◌, true, List, [], ◌∷◌, ◌++◌, length, map, set, Option, None, Some, Ok, refl, sym, ap, subst, ◌∙◌, arith, append_assoc, append-nil}
use Rattle.std.specs.Prelude.{nat_eq}
use Rattle.std.specs.List.{slice_get}
use Rattle.std.proofs.Math.Nat.{add-mul, mul_assoc}
use Rattle.opl_data.specs.declared.tree.DataPair.{DataPair}
use Rattle.opl_data.specs.declared.tree.DataValue.{DataValue}
use Rattle.opl_data.specs.declared.tree.DataValue.TheOpen.{DataValue-F}
use Rattle.opl_data.specs.declared.tree.DataValue.TheViews.{out-DataValue, out-DataPair}
use Rattle.opl_value.specs.declared.value.Value.{Value}
use Rattle.opl_value.specs.Places.{elements, joint, place_in, place_of}
use Rattle.opl_given.specs.declared.fault.BindFault.{BindFault}
use Rattle.opl_given.specs.declared.form.Form.{Form}
use Rattle.opl_given.specs.Arrays.{Axis, cells_layer, cells_of, filled, flat, free, is_free, key_place, keyed, lay, listed, opened, place_of_value, put, values_of}
use Rattle.opl_given.specs.Faults.{then}
use Rattle.opl_given.specs.Forms.{Known}
use Rattle.opl_given.specs.Values.{all_by_form, value_in}
use Rattle.opl_given.proofs.CellLaws.{length-filled, passed, same_number, same_ok, went_first}
use Rattle.opl_fit.specs.Keys.{HasPair, HasPart, Says, part_layer}
use Rattle.opl_fit.specs.Laws.{CellsStandByTheirKeys}

-- ---- lists

pub some_same : {A : Type 0} (a b : A) → (let x : Option A = Some a in x) ≡ Some b → a ≡ b
some_same a b h = cc

pub get-left : {A : Type 0} (xs ys : List A) (k : ℕ) (x : A) → slice_get xs k ≡ Some x → slice_get (xs ++ ys) k ≡ Some x
get-left [] ys k x h = absurd (cc)
get-left (y ∷ xs) ys zero x h = h
get-left (y ∷ xs) ys (suc k) x h = get-left xs ys k x h

pub get-right : {A : Type 0} (xs ys : List A) (k j : ℕ) → j ≡ length xs + k → slice_get (xs ++ ys) j ≡ slice_get ys k
get-right [] ys k j e = let s : j ≡ k = omega (arith, e) in ap (slice_get ys) s
get-right (x ∷ xs) ys k zero e = absurd (omega (arith, e))
get-right (x ∷ xs) ys k (suc j) e = get-right xs ys k j (omega (arith, e))

pub set-same : {A : Type 0} (xs : List A) (p : ℕ) (x y : A) → slice_get xs p ≡ Some y → slice_get (set xs p x) p ≡ Some x
set-same [] p x y h = absurd (cc)
set-same (z ∷ xs) zero x y h = refl
set-same (z ∷ xs) (suc p) x y h = set-same xs p x y h

pub set-other : {A : Type 0} (xs : List A) (p q : ℕ) (x : A) → (p ≡ q → ⊥) → slice_get (set xs p x) q ≡ slice_get xs q
set-other [] p q x n = refl
set-other (z ∷ xs) zero zero x n = absurd (n refl)
set-other (z ∷ xs) zero (suc q) x n = refl
set-other (z ∷ xs) (suc p) zero x n = refl
set-other (z ∷ xs) (suc p) (suc q) x n = set-other xs p q x (λ e. n (ap suc e))

pub length-set : {A : Type 0} (xs : List A) (p : ℕ) (x : A) → length (set xs p x) ≡ length xs
length-set [] p x = refl
length-set (z ∷ xs) zero x = refl
length-set (z ∷ xs) (suc p) x = ap suc (length-set xs p x)

-- ---- the cells of one dimension

-- what lies at places stays there
abbrev pub Stay : {C : Type 0} → List (Option C) → List (Option C) → Type 0
Stay {C} slots more = (q : ℕ) (d : C) → slice_get slots q ≡ Some (Some d) → slice_get more q ≡ Some (Some d)

pub free-slot : {C : Type 0} (o : Option (Option C)) → is_free o ≡ true → o ≡ Some None
free-slot None h = absurd (cc)
free-slot (Some None) h = refl
free-slot (Some (Some c)) h = absurd (cc)

pub apart : {C : Type 0} (d : C) → (let x : Option (Option C) = Some None in x) ≡ Some (Some d) → ⊥
apart d h = let e : None ≡ Some d = some_same None (Some d) h in absurd (cc)

put-places : {C : Type 0} (wrong : BindFault) (slots more : List (Option C)) (o : Option ℕ) (c : C) → put wrong slots o c ≡ Ok more →
    (p : ℕ) × (o ≡ Some p) × (slice_get more p ≡ Some (Some c)) × Stay slots more × (length more ≡ length slots)
put-places wrong slots more None c h = absurd (cc)
put-places wrong slots more (Some p) c h =
    let w = passed (is_free (slice_get slots p)) (Ok (set slots p (Some c))) wrong more h in
    let f = free-slot (slice_get slots p) w.0 in
    let e = same_ok (set slots p (Some c)) more w.1 in (
      p,
      refl,
      ap (λ ss. slice_get ss p) (sym e) ∙ set-same slots p (Some c) None f,
      (λ q d g. ap (λ ss. slice_get ss q) (sym e) ∙ set-other slots p q (Some c) (λ s. apart d (sym f ∙ ap (slice_get slots) s ∙ g)) ∙ g),
      ap length (sym e) ∙ length-set slots p (Some c),
    )

record IsLaid (known : Known) (axis : Axis) (more : List (Option DataValue)) (pair : DataPair) : Type 0 where
  place : ℕ
  place_is : key_place known axis (out-DataPair pair).key ≡ Some place
  stands : slice_get more place ≡ Some (Some (out-DataPair pair).value)

pairs-laid : (known : Known) (axis : Axis) (more : List (Option DataValue)) (p : DataPair) (ps : List DataPair) → IsLaid known axis more p → ((i : ℕ) (pair : DataPair) → slice_get ps i ≡ Some pair → IsLaid known axis more pair) →
    (i : ℕ) (pair : DataPair) → slice_get (p ∷ ps) i ≡ Some pair → IsLaid known axis more pair
pairs-laid known axis more p ps first later zero pair g = subst (IsLaid known axis more) (some_same p pair g) first
pairs-laid known axis more p ps first later (suc i) pair g = later i pair g

lay-places : (known : Known) (wrong : BindFault) (axis : Axis) (slots more : List (Option DataValue)) (ps : List DataPair) → lay known wrong axis slots ps ≡ Ok more →
    Stay slots more × ((i : ℕ) (pair : DataPair) → slice_get ps i ≡ Some pair → IsLaid known axis more pair) × (length more ≡ length slots)
lay-places known wrong axis slots more [] h =
    let e = same_ok slots more h in
    ((λ q d g. ap (λ ss. slice_get ss q) (sym e) ∙ g), (λ i pair g. absurd (cc)), ap length (sym e))
lay-places known wrong axis slots more (p ∷ ps) h =
    let w = went_first (put wrong slots (key_place known axis (out-DataPair p).key) (out-DataPair p).value) (λ laid. lay known wrong axis laid ps) more h in
    let u = put-places wrong slots w.0 (key_place known axis (out-DataPair p).key) (out-DataPair p).value w.1 in
    let r = lay-places known wrong axis w.0 more ps w.2 in (
      (λ q d g. r.0 q d (u.3 q d g)),
      pairs-laid known axis more p ps (record { place = u.0; place_is = u.1; stands = r.0 u.0 (out-DataPair p).value u.2 }) r.1,
      r.2 ∙ u.4,
    )

first-stands : {C : Type 0} (c : C) (slots : List (Option C)) (rest : List C) → ((q : ℕ) (d : C) → slice_get slots q ≡ Some (Some d) → slice_get rest q ≡ Some d) →
    (q : ℕ) (d : C) → slice_get (Some c ∷ slots) q ≡ Some (Some d) → slice_get (c ∷ rest) q ≡ Some d
first-stands c slots rest k zero d g = some_same (Some c) (Some d) g
first-stands c slots rest k (suc q) d g = k q d g

filled-stands : {C : Type 0} (wrong : BindFault) (before cells : List C) (slots : List (Option C)) → filled wrong before slots ≡ Ok cells →
    (rest : List C) × (cells ≡ before ++ rest) × ((q : ℕ) (d : C) → slice_get slots q ≡ Some (Some d) → slice_get rest q ≡ Some d)
filled-stands wrong before cells [] h = ([], sym (same_ok before cells h) ∙ sym (append-nil before), (λ q d g. absurd (cc)))
filled-stands wrong before cells (Some c ∷ slots) h =
    let r = filled-stands wrong (before ++ c ∷ []) cells slots h in
    (c ∷ r.0, r.1 ∙ append_assoc before (c ∷ []) r.0, first-stands c slots r.0 r.2)
filled-stands wrong before cells (None ∷ slots) h = absurd (cc)

length-free : (pairs : List DataPair) → length (free {C = DataValue} pairs) ≡ length pairs
length-free [] = refl
length-free (p ∷ ps) = ap suc (length-free ps)

keyed-part : (known : Known) (wrong : BindFault) (axis : Axis) (pairs : List DataPair) (cells : List DataValue) → keyed known wrong axis pairs ≡ Ok cells →
    ((v : Value) (part : DataValue) → HasPair known axis pairs v part → HasPart axis cells v part) × (length cells ≡ length (values_of axis))
keyed-part known wrong axis pairs cells h =
    let w = passed (nat_eq (length pairs) (length (values_of axis))) (then (lay known wrong axis (free pairs) pairs) (filled wrong [])) wrong cells h in
    let s = went_first (lay known wrong axis (free pairs) pairs) (filled wrong []) cells w.1 in
    let l = lay-places known wrong axis (free pairs) s.0 pairs s.1 in
    let f = filled-stands wrong [] cells s.0 s.2 in
    let a = length-filled wrong [] cells s.0 s.2 in
    let n = same_number (length pairs) (length (values_of axis)) w.0 in
    let m = length-free pairs in
    let k = l.2 in (
      (λ v part p.
          let i = l.1 p.number p.pair p.stands in
          record {
            place = i.place;
            place_is = sym (ap (place_of_value (values_of axis)) p.key_is) ∙ i.place_is;
            stands = ap (λ cs. slice_get cs i.place) f.1 ∙ f.2 i.place (out-DataPair p.pair).value i.stands ∙ ap Some p.value_is;
          }),
      omega (arith, a, n, m, k),
    )

listed-part : (wrong : BindFault) (axis : Axis) (parts cells : List DataValue) → listed wrong axis parts ≡ Ok cells → (parts ≡ cells) × (length cells ≡ length (values_of axis))
listed-part wrong axis parts cells h =
    let w = passed (nat_eq (length parts) (length (values_of axis))) (Ok parts) wrong cells h in
    let e = same_ok parts cells w.1 in
    (e, ap length (sym e) ∙ same_number (length parts) (length (values_of axis)) w.0)

layer-part : (known : Known) (wrong : BindFault) (axis : Axis) (x : DataValue-F DataValue DataPair) (cells : List DataValue) → cells_layer known wrong axis x ≡ Ok cells →
    ((v : Value) (part : DataValue) → part_layer known axis x v part → HasPart axis cells v part) × (length cells ≡ length (values_of axis))
layer-part known wrong axis (DataValue-F.Number at b n) cells h = absurd (cc)
layer-part known wrong axis (DataValue-F.Named name) cells h = absurd (cc)
layer-part known wrong axis (DataValue-F.Record at head rest) cells h = absurd (cc)
layer-part known wrong axis (DataValue-F.Set at elements) cells h = absurd (cc)
layer-part known wrong axis (DataValue-F.Array at parts) cells h =
    let l = listed-part wrong axis parts cells h in
    ((λ v part p. subst (λ ps. HasPart axis ps v part) l.0 p), l.1)
layer-part known wrong axis (DataValue-F.KeyedArray at pairs) cells h = keyed-part known wrong axis pairs cells h

cells-part : (known : Known) (wrong : BindFault) (axis : Axis) (value : DataValue) (cells : List DataValue) → cells_of known wrong axis value ≡ Ok cells →
    ((v : Value) (part : DataValue) → part_layer known axis (out-DataValue value) v part → HasPart axis cells v part) × (length cells ≡ length (values_of axis))
unfolding cells_of
cells-part known wrong axis value cells h = layer-part known wrong axis (out-DataValue value) cells h

-- ---- dimension after dimension

pub index-first : (n p : ℕ) → 0 * n + p ≡ p
index-first n p = omega arith

pub index-later : (i n p m : ℕ) → m ≡ n → suc i * n + p ≡ m + (i * n + p)
index-later i n p m e = omega (arith, add-mul 1 i n, e)

pub index-inner : (i l p n q : ℕ) → i * (l * n) + (p * n + q) ≡ (i * l + p) * n + q
index-inner i l p n q = omega (arith, add-mul (i * l) p n, mul_assoc i l n)

-- a part of the i-th of the values
record PartAt (axis : Axis) (cells : List DataValue) (i : ℕ) (v : Value) (part : DataValue) : Type 0 where
  place : ℕ
  place_is : place_in v (values_of axis) ≡ Some place
  stands : slice_get cells (i * length (values_of axis) + place) ≡ Some part

abbrev PartsStand : Known → Axis → List DataValue → List DataValue → Type 0
PartsStand known axis values cells = (i : ℕ) (value : DataValue) (v : Value) (part : DataValue) → slice_get values i ≡ Some value → part_layer known axis (out-DataValue value) v part → PartAt axis cells i v part

more-parts : (known : Known) (axis : Axis) (w : DataValue) (ws cells rest : List DataValue) → ((v : Value) (part : DataValue) → part_layer known axis (out-DataValue w) v part → HasPart axis cells v part) →
    length cells ≡ length (values_of axis) → PartsStand known axis ws rest → PartsStand known axis (w ∷ ws) (cells ++ rest)
more-parts known axis w ws cells rest first l later zero value v part g p =
    let h = first v part (subst (λ x. part_layer known axis (out-DataValue x) v part) (sym (some_same w value g)) p) in
    record { place = h.place; place_is = h.place_is; stands = ap (slice_get (cells ++ rest)) (index-first (length (values_of axis)) h.place) ∙ get-left cells rest h.place part h.stands }
more-parts known axis w ws cells rest first l later (suc i) value v part g p =
    let h = later i value v part g p in
    let n = length (values_of axis) in
    record { place = h.place; place_is = h.place_is; stands = get-right cells rest (i * n + h.place) (suc i * n + h.place) (index-later i n h.place (length cells) l) ∙ h.stands }

opened-stands : (known : Known) (wrong : BindFault) (axis : Axis) (before values cells : List DataValue) → opened known wrong axis before values ≡ Ok cells →
    (rest : List DataValue) × (cells ≡ before ++ rest) × PartsStand known axis values rest
opened-stands known wrong axis before [] cells h = ([], sym (same_ok before cells h) ∙ sym (append-nil before), (λ i value v part g p. absurd (cc)))
opened-stands known wrong axis before (w ∷ ws) cells h =
    let u = went_first (cells_of known wrong axis w) (λ more. opened known wrong axis (before ++ more) ws) cells h in
    let p = cells-part known wrong axis w u.0 u.1 in
    let r = opened-stands known wrong axis (before ++ u.0) ws cells u.2 in
    (u.0 ++ r.0, r.1 ∙ append_assoc before u.0 r.0, more-parts known axis w ws u.0 r.0 p.0 p.1 r.2)

-- a cell for the i-th of the values
record CellAt (axes : List Axis) (cells : List DataValue) (i : ℕ) (key : List Value) (cell : DataValue) : Type 0 where
  place : ℕ
  place_is : place_of (map values_of axes) key ≡ Some place
  stands : slice_get cells (i * elements (map values_of axes) + place) ≡ Some cell

pub index-itself : (i : ℕ) → i * 1 + 0 ≡ i
index-itself i = omega arith

flat-stands : (known : Known) (wrong : BindFault) (axes : List Axis) (values cells : List DataValue) (i : ℕ) (value : DataValue) (key : List Value) (cell : DataValue) →
    flat known wrong axes values ≡ Ok cells → slice_get values i ≡ Some value → Says known axes value key cell → CellAt axes cells i key cell
flat-stands known wrong [] values cells i value [] cell h g s =
    record { place = 0; place_is = refl; stands = ap (slice_get cells) (index-itself i) ∙ ap (λ vs. slice_get vs i) (sym (same_ok values cells h)) ∙ g ∙ ap Some s }
flat-stands known wrong [] values cells i value (k ∷ key) cell h g s = absurd s
flat-stands known wrong (a ∷ others) values cells i value [] cell h g s = absurd s
flat-stands known wrong (a ∷ others) values cells i value (k ∷ key) cell h g s =
    let w = went_first (opened known wrong a [] values) (flat known wrong others) cells h in
    let o = opened-stands known wrong a [] values w.0 w.1 in
    let p = o.2 i value k s.0 g s.1 in
    let l = length (values_of a) in
    let n = elements (map values_of others) in
    let r = flat-stands known wrong others w.0 cells (i * l + p.place) s.0 key cell w.2 (ap (λ xs. slice_get xs (i * l + p.place)) o.1 ∙ p.stands) s.2 in
    record {
      place = p.place * n + r.place;
      place_is = λ j. joint n (p.place_is j) (r.place_is j);
      stands = ap (slice_get cells) (index-inner i l p.place n r.place) ∙ r.stands;
    }

-- ---- the values of cells

abbrev ReadAt : Known → ℕ → Form → List Value → ℕ → DataValue → Type 0
ReadAt known file form vs p c = (v : Value) × (slice_get vs p ≡ Some v) × (value_in known file c form ≡ Ok v)

more-read : (known : Known) (file : ℕ) (form : Form) (c : DataValue) (cs : List DataValue) (v : Value) (vs : List Value) → value_in known file c form ≡ Ok v → ((p : ℕ) (d : DataValue) → slice_get cs p ≡ Some d → ReadAt known file form vs p d) →
    (p : ℕ) (d : DataValue) → slice_get (c ∷ cs) p ≡ Some d → ReadAt known file form (v ∷ vs) p d
more-read known file form c cs v vs h k zero d g = (v, refl, ap (λ x. value_in known file x form) (sym (some_same c d g)) ∙ h)
more-read known file form c cs v vs h k (suc p) d g = k p d g

all-read : (known : Known) (file : ℕ) (form : Form) (before vs : List Value) (cs : List DataValue) → all_by_form before (map (value_in known file) cs) form ≡ Ok vs →
    (rest : List Value) × (vs ≡ before ++ rest) × ((p : ℕ) (d : DataValue) → slice_get cs p ≡ Some d → ReadAt known file form rest p d)
all-read known file form before vs [] h = ([], sym (same_ok before vs h) ∙ sym (append-nil before), (λ p d g. absurd (cc)))
all-read known file form before vs (c ∷ cs) h =
    let w = went_first (value_in known file c form) (λ v. all_by_form (before ++ v ∷ []) (map (value_in known file) cs) form) vs h in
    let r = all-read known file form (before ++ w.0 ∷ []) vs cs w.2 in
    (w.0 ∷ r.0, r.1 ∙ append_assoc before (w.0 ∷ []) r.0, more-read known file form c cs w.0 r.0 w.1 r.2)

pub index-whole : (n p : ℕ) → p ≡ 0 * n + p
index-whole n p = omega arith

pub cells_stand_by_their_keys : CellsStandByTheirKeys
cells_stand_by_their_keys known file wrong axes form value cells key cell h s =
    let w = went_first (flat known wrong axes (value ∷ [])) (λ parts. all_by_form [] (map (value_in known file) parts) form) cells h in
    let c = flat-stands known wrong axes (value ∷ []) w.0 0 value key cell w.1 refl s in
    let r = all-read known file form [] cells w.0 w.2 in
    let v = r.2 c.place cell (ap (slice_get w.0) (index-whole (elements (map values_of axes)) c.place) ∙ c.stands) in
    (c.place, v.0, c.place_is, ap (λ vs. slice_get vs c.place) r.1 ∙ v.1, v.2)
