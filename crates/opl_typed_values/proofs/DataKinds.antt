-- Which types data has, by its form: what is an array, or the name of a range or an enumeration, is a name; no data is an activity, and none is of no type.
use Rattle.std.proofs.Common.{◌≡◌, ◌&&◌, ◌||◌, not, ℕ, Bool, true, false, cond, List, [], ◌∷◌, map, Some, refl, sym, ap, ◌∙◌}
use Rattle.std.specs.Prelude.{bytes_eq}
use Rattle.opl_tree.specs.declared.expression.NameTree.{NameTree}
use Rattle.opl_type_rules.specs.Types.{Sort, Sorts, is_storable, sorts_of}
use Rattle.opl_type_rules.specs.Types.Sort.{int, enumeration, structure, set, array, activity, unary, discrete, index, anything}
use Rattle.opl_type_rules.specs.Scope.{Field, Scope, Text, field_sort, field_sorts, fields, sort_of}
use Rattle.opl_type_rules.specs.Forms.{Form}
use Rattle.opl_type_rules.specs.Forms.Form.{number, named, bracket, negative, arithmetic, absolute, related, member, connected, aggregate, cardinality, all_different, subscripted, field, tuple, listed, described, cells, keyed_cells, question}
use Rattle.opl_typed.specs.Relation.{Typed, HasType, IsData, IsElement, IsField, is_data, set_of}
use Rattle.opl_eval.specs.Evaluation.{Environment}
use Rattle.opl_typed_values.specs.OfSort.{are_plain, is_element, is_of_data, is_plain}
use Rattle.opl_typed_values.specs.Visible.{AreOfTheirSorts}
use Rattle.opl_typed_values.proofs.Fitting.{and_both, none-anything, some_same}

-- a name, in brackets or not
abbrev pub is_name : Form → Bool
is_name (named name) = true
is_name (bracket at f) = is_name f
is_name f = false

-- what may have a value, and resources
abbrev pub is_made : Sort → Bool
is_made unary = true
is_made discrete = true
is_made s = is_storable s

-- ---- truths

not_true : (a : Bool) → not a ≡ true → a ≡ false
not_true true h = absurd (cc)
not_true false h = refl

part_data : (d x k y : Bool) → (not (d || x) && not (k || y)) ≡ true → (not d && not k) ≡ true
part_data true x k y h = absurd (cc)
part_data false true k y h = absurd (cc)
part_data false false true y h = absurd (cc)
part_data false false false y h = refl

-- what is data names no decision variable
pub data-decides : (a : Typed) → IsData a → a.decides ≡ false
data-decides a h = not_true a.decides (and_both (not a.decides) (not a.asks) h).0

-- ---- types of elements and fields

element-of-data : (s : Sort) → is_element s ≡ true → is_of_data s ≡ true
element-of-data activity h = absurd (cc)
element-of-data (array is s) h = absurd (cc)
element-of-data s h = refl

element-made : (s : Sort) → is_element s ≡ true → is_made s ≡ true
element-made unary h = refl
element-made discrete h = refl
element-made int h = refl
element-made (enumeration k) h = refl
element-made (structure k) h = refl
element-made (set s) h = refl
element-made s h = absurd (cc)

pub plain-made : (s : Sort) → is_plain s ≡ true → is_made s ≡ true
plain-made int h = refl
plain-made (enumeration k) h = refl
plain-made (structure k) h = refl
plain-made (set s) h = refl
plain-made s h = absurd (cc)

plain-of-data : (s : Sort) → is_plain s ≡ true → is_of_data s ≡ true
plain-of-data activity h = absurd (cc)
plain-of-data (array is s) h = absurd (cc)
plain-of-data s h = refl

plain-something : (s : Sort) → is_plain s ≡ true → s ≡ anything → ⊥
plain-something anything h e = absurd (cc)
plain-something s h e = absurd (cc)

-- the type of a field is that of one of the fields
pub field-plain : (name : Text) (fs : List Field) (s : Sort) → are_plain (sorts_of (map (λ (f : Field). f.sort) fs)) ≡ true → field_sort name fs ≡ Some s → is_plain s ≡ true
field-plain name [] s h e = absurd (cc)
field-plain name (f ∷ fs) s h e = by (bytes_eq name f.name) e (λ k d. field-plain name fs s k d)
  where
    b : (is_plain f.sort ≡ true) × (are_plain (sorts_of (map (λ (f : Field). f.sort) fs)) ≡ true)
    b = and_both (is_plain f.sort) (are_plain (sorts_of (map (λ (f : Field). f.sort) fs))) h

    by : (c : Bool) → cond c (Some f.sort) (field_sort name fs) ≡ Some s → (are_plain (sorts_of (map (λ (f : Field). f.sort) fs)) ≡ true → field_sort name fs ≡ Some s → is_plain s ≡ true) → is_plain s ≡ true
    by true d more = ap is_plain (sym (some_same f.sort s d)) ∙ b.0
    by false d more = more b.1 d

pub fields-same : (sc : Scope) (k : ℕ) → field_sorts sc k ≡ sorts_of (map (λ (f : Field). f.sort) (fields sc k))
unfolding field_sorts
fields-same sc k = refl

-- ---- expressions

set-made : (parts : List Typed) (s : Sort) → is_made (set_of parts s) ≡ true
set-made [] s = refl
set-made (a ∷ parts) s = refl

set-something : (parts : List Typed) (s : Sort) → set_of parts s ≡ anything → ⊥
set-something [] s e = absurd (cc)
set-something (a ∷ parts) s e = absurd (cc)

module _ (names : ℕ → ℕ) (sc : Scope) (env : Environment) (visible : AreOfTheirSorts names sc env) where
  named-of-data : (name : NameTree) (a : Typed) → HasType sc (named name) a → IsData a → is_of_data a.sort ≡ true
  named-of-data name a h given =
      ap (λ (x : Typed). is_of_data x.sort) h.2 ∙ visible.kinds name.text h.0 h.1 (sym (ap (λ (b : Typed). b.decides) h.2) ∙ data-decides a given)

  -- data is made of data
  pub element-base : (base : Typed) (parts : List Typed) (s : Sort) (a : Typed) → IsElement sc base parts s a → IsData a → IsData base
  element-base base parts (array indices element) a e given = part_data base.decides _ base.asks _ (sym (ap is_data e.2) ∙ given)
  element-base base parts anything a e given = part_data base.decides _ base.asks _ (sym (ap is_data e) ∙ given)
  element-base base parts s a e given = absurd e

  pub field-base : (base : Typed) (name : NameTree) (s : Sort) (a : Typed) → IsField sc base name s a → IsData a → IsData base
  field-base base name activity a e given = part_data base.decides _ base.asks _ (sym (ap is_data e.1) ∙ given)
  field-base base name (structure k) a e given = part_data base.decides _ base.asks _ (sym (ap is_data e.2) ∙ given)
  field-base base name anything a e given = part_data base.decides _ base.asks _ (sym (ap is_data e) ∙ given)
  field-base base name s a e given = absurd e

  field-type : (name : NameTree) (k : ℕ) (s : Sort) → field_sort name.text (fields sc k) ≡ Some s → is_plain s ≡ true
  field-type name k s e = field-plain name.text (fields sc k) s (sym (ap are_plain (fields-same sc k)) ∙ visible.structs k) e

  element-is-made : (base : Typed) (parts : List Typed) (s : Sort) (a : Typed) → IsElement sc base parts s a → is_of_data s ≡ true → is_made a.sort ≡ true
  element-is-made base parts (array indices element) a e d = ap (λ (x : Typed). is_made x.sort) e.2 ∙ element-made element d
  element-is-made base parts anything a e d = ap (λ (x : Typed). is_made x.sort) e
  element-is-made base parts s a e d = absurd e

  field-is-made : (base : Typed) (name : NameTree) (s : Sort) (a : Typed) → IsField sc base name s a → is_made a.sort ≡ true
  field-is-made base name activity a e = ap (λ (x : Typed). is_made x.sort) e.1
  field-is-made base name (structure k) a e = ap (λ (x : Typed). is_made x.sort) e.2 ∙ plain-made e.0 (field-type name k e.0 e.1)
  field-is-made base name anything a e = ap (λ (x : Typed). is_made x.sort) e
  field-is-made base name s a e = absurd e

  made-of-data : (s : Sort) → is_made s ≡ true → is_of_data s ≡ true
  made-of-data activity h = absurd (cc)
  made-of-data (array is s) h = absurd (cc)
  made-of-data s h = refl

  made-so : (f : Form) (a : Typed) → is_made a.sort ≡ true → (is_of_data a.sort ≡ true) × (is_name f ≡ false → is_made a.sort ≡ true)
  made-so f a m = (made-of-data a.sort m, λ n. m)

  -- no data is an activity, and what is no name is no array and stands for no set as a name does
  kinds : (f : Form) (a : Typed) → HasType sc f a → IsData a → (is_of_data a.sort ≡ true) × (is_name f ≡ false → is_made a.sort ≡ true)
  kinds (named name) a h given = (named-of-data name a h given, λ n. absurd (cc))
  kinds (bracket at f) a h given = kinds f a h given
  kinds (subscripted at f es) a h given = made-so (subscripted at f es) a (element-is-made h.0 h.1 h.0.sort a h.4 (kinds f h.0 h.2 (element-base h.0 h.1 h.0.sort a h.4 given)).0)
  kinds (number at) a h given = made-so (number at) a (ap (λ (x : Typed). is_made x.sort) h)
  kinds (negative at f) a h given = made-so (negative at f) a (ap (λ (x : Typed). is_made x.sort) h.3)
  kinds (arithmetic at fs) a h given = made-so (arithmetic at fs) a (ap (λ (x : Typed). is_made x.sort) h.3)
  kinds (absolute at f) a h given = made-so (absolute at f) a (ap (λ (x : Typed). is_made x.sort) h.3)
  kinds (related at f relation g) a h given = made-so (related at f relation g) a (ap (λ (x : Typed). is_made x.sort) h.5)
  kinds (member at f over) a h given = made-so (member at f over) a (ap (λ (x : Typed). is_made x.sort) h.7)
  kinds (connected at fs) a h given = made-so (connected at fs) a (ap (λ (x : Typed). is_made x.sort) h.3)
  kinds (aggregate at p f) a h given = made-so (aggregate at p f) a (ap (λ (x : Typed). is_made x.sort) h.5)
  kinds (cardinality at f) a h given = made-so (cardinality at f) a (ap (λ (x : Typed). is_made x.sort) h.3)
  kinds (all_different at f) a h given = made-so (all_different at f) a (ap (λ (x : Typed). is_made x.sort) h.3)
  kinds (tuple at fs) a h given = made-so (tuple at fs) a (ap (λ (x : Typed). is_made x.sort) h.4)
  kinds (described at f p) a h given = made-so (described at f p) a (ap (λ (x : Typed). is_made x.sort) h.6)
  kinds (listed at fs) a h given = made-so (listed at fs) a (ap (λ (x : Typed). is_made x.sort) h.6 ∙ set-made h.0 h.1)
  kinds (field at f name) a h given = made-so (field at f name) a (field-is-made h.0 name h.0.sort a h.2)
  kinds (cells at fs) a h given = absurd h
  kinds (keyed_cells at ps) a h given = absurd h
  kinds (question at op f) a h given = absurd (let k : is_data a ≡ false = ap is_data h.4 in cc)

  pub of-data : (f : Form) (a : Typed) → HasType sc f a → IsData a → is_of_data a.sort ≡ true
  of-data f a h given = (kinds f a h given).0

  made : (f : Form) (a : Typed) → HasType sc f a → IsData a → is_name f ≡ false → is_made a.sort ≡ true
  made f a h given = (kinds f a h given).1

  -- data is of some type
  element-some : (base : Typed) (parts : List Typed) (s : Sort) (a : Typed) → IsElement sc base parts s a → is_of_data s ≡ true → (s ≡ anything → ⊥) → a.sort ≡ anything → ⊥
  element-some base parts (array indices element) a e d k c = absurd (let x : is_element anything ≡ true = ap is_element (sym c ∙ ap (λ (x : Typed). x.sort) e.2) ∙ d in cc)
  element-some base parts anything a e d k c = k refl
  element-some base parts s a e d k c = absurd e

  field-some : (base : Typed) (name : NameTree) (s : Sort) (a : Typed) → IsField sc base name s a → (s ≡ anything → ⊥) → a.sort ≡ anything → ⊥
  field-some base name activity a e k c = absurd (let x = sym (ap (λ (x : Typed). x.sort) e.1) ∙ c in cc)
  field-some base name (structure j) a e k c = plain-something e.0 (field-type name j e.0 e.1) (sym (ap (λ (x : Typed). x.sort) e.2) ∙ c)
  field-some base name anything a e k c = k refl
  field-some base name s a e k c = absurd e

  pub some-type : (f : Form) (a : Typed) → HasType sc f a → IsData a → a.sort ≡ anything → ⊥
  some-type (number at) a h given e = absurd (let k = sym (ap (λ (x : Typed). x.sort) h) ∙ e in cc)
  some-type (negative at f) a h given e = absurd (let k = sym (ap (λ (x : Typed). x.sort) h.3) ∙ e in cc)
  some-type (arithmetic at fs) a h given e = absurd (let k = sym (ap (λ (x : Typed). x.sort) h.3) ∙ e in cc)
  some-type (absolute at f) a h given e = absurd (let k = sym (ap (λ (x : Typed). x.sort) h.3) ∙ e in cc)
  some-type (related at f relation g) a h given e = absurd (let k = sym (ap (λ (x : Typed). x.sort) h.5) ∙ e in cc)
  some-type (member at f over) a h given e = absurd (let k = sym (ap (λ (x : Typed). x.sort) h.7) ∙ e in cc)
  some-type (connected at fs) a h given e = absurd (let k = sym (ap (λ (x : Typed). x.sort) h.3) ∙ e in cc)
  some-type (aggregate at p f) a h given e = absurd (let k = sym (ap (λ (x : Typed). x.sort) h.5) ∙ e in cc)
  some-type (cardinality at f) a h given e = absurd (let k = sym (ap (λ (x : Typed). x.sort) h.3) ∙ e in cc)
  some-type (all_different at f) a h given e = absurd (let k = sym (ap (λ (x : Typed). x.sort) h.3) ∙ e in cc)
  some-type (tuple at fs) a h given e = absurd (let k = sym (ap (λ (x : Typed). x.sort) h.4) ∙ e in cc)
  some-type (described at f p) a h given e = absurd (let k = sym (ap (λ (x : Typed). x.sort) h.6) ∙ e in cc)
  some-type (named name) a h given e =
      let k = sym (ap (λ (x : Typed). x.sort) h.2) ∙ e in
      none-anything (field_sorts sc) names (sort_of h.0) _ (visible.values name.text h.0 h.1 (sym (ap (λ (b : Typed). b.decides) h.2) ∙ data-decides a given) (ap is_storable k)) k
  some-type (bracket at f) a h given e = some-type f a h given e
  some-type (listed at fs) a h given e = set-something h.0 h.1 (sym (ap (λ (x : Typed). x.sort) h.6) ∙ e)
  some-type (subscripted at f es) a h given e =
      let d = element-base h.0 h.1 h.0.sort a h.4 given in
      element-some h.0 h.1 h.0.sort a h.4 (of-data f h.0 h.2 d) (λ k. some-type f h.0 h.2 d k) e
  some-type (field at f name) a h given e = let d = field-base h.0 name h.0.sort a h.2 given in field-some h.0 name h.0.sort a h.2 (λ k. some-type f h.0 h.1 d k) e
  some-type (cells at fs) a h given e = absurd h
  some-type (keyed_cells at ps) a h given e = absurd h
  some-type (question at op f) a h given e = absurd (let k : is_data a ≡ false = ap is_data h.4 in cc)

  -- so an array and what a name stands for are names
  pub array-name : (f : Form) (a : Typed) (indices : Sorts) (s : Sort) → HasType sc f a → IsData a → a.sort ≡ array indices s → is_name f ≡ true
  array-name f a indices s h given e = by (is_name f) refl
    where
      by : (b : Bool) → is_name f ≡ b → b ≡ true
      by true k = refl
      by false k = absurd (let m = sym (ap is_made e) ∙ made f a h given k in cc)

  pub index-name : (f : Form) (a : Typed) (s : Sort) → HasType sc f a → IsData a → a.sort ≡ index s → is_name f ≡ true
  index-name f a s h given e = by (is_name f) refl
    where
      by : (b : Bool) → is_name f ≡ b → b ≡ true
      by true k = refl
      by false k = absurd (let m = sym (ap is_made e) ∙ made f a h given k in cc)

  -- and no data is an activity
  pub no-activity : (f : Form) (a : Typed) → HasType sc f a → IsData a → a.sort ≡ activity → ⊥
  no-activity f a h given e = absurd (let m = sym (ap is_of_data e) ∙ of-data f a h given in cc)
