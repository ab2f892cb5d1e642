-- An expression with what stands behind it, and the types of the expressions in it.
use Rattle.std.proofs.Common.{◌≡◌, ℕ, Bool, true, false, List, [], ◌∷◌, ◌++◌, map, Option, None, Some, Result, Ok, Err, refl, ap, sym, ◌∙◌}
use Rattle.std.proofs.lemmas.List.{append-nil, append_assoc, map-append, reverse-append}
use Rattle.std.specs.List.{remove}
use Rattle.std.proofs.lemmas.Bool.{false≢true}
use Rattle.std.specs.Prelude.{IsTrue, not, reverse, slice_index_or, ◌&&◌, ◌||◌}
use Rattle.opl_tree.specs.declared.expression.NameTree.{NameTree}
use Rattle.opl_type_rules.specs.declared.fault.TypeFault.{TypeFault}
use Rattle.opl_type_rules.specs.declared.fault.TypeFault.TheVariants.{Unknown, Mismatch, NotData, Duplicate, OutOfMemory}
use Rattle.opl_type_rules.specs.declared.kind.Ty.{Ty}
use Rattle.opl_type_rules.specs.Types.{Sort, sort}
use Rattle.opl_type_rules.specs.Types.Sort.{int, bool, enumeration, structure, row, set, empty_set, array, activity, unary, discrete, index, struct_name, anything}
use Rattle.opl_type_rules.specs.Forms.{Suffix, forms_of}
use Rattle.opl_type_rules.specs.Forms.Suffix.{subscripts, field_of}
use Rattle.opl_type_rules.specs.Scope.{Scope, Checked, ◌>>=◌, ◌>>◌, and_then, unless, field_sort, fields}
use Rattle.opl_type_rules.specs.Expressions.{Node, part, settled, is_met, is_data, is_time, is_start_or_duration, made, element_node, field_node, known_field, typed_parts}
use Rattle.opl_type_rules.specs.Expressions.Need.{nothing}
use Rattle.opl_type_rules.specs.Steps.{suffix_node, with_inner, firsts, others, grown}
use Rattle.opl_type_rules.specs.Values.{Gives}
use Rattle.opl_type_rules.proofs.Chains.{after, alike-after}

-- ---- lists

map-reverse : {A B : Type 0} (f : A → B) (xs : List A) → map f (reverse xs) ≡ reverse (map f xs)
map-reverse f [] = refl
map-reverse f (x ∷ xs) =
    ap (map f) (reverse-append (x ∷ []) xs)
    ∙ map-append f (reverse xs) (x ∷ [])
    ∙ ap (λ ys. ys ++ f x ∷ []) (map-reverse f xs)
    ∙ sym (reverse-append (f x ∷ []) (map f xs))

pub turned-sorts : (before behind new : List Ty) → new ≡ reverse before ++ behind → map sort new ≡ reverse (map sort before) ++ map sort behind
turned-sorts before behind new h =
    ap (map sort) h ∙ map-append sort (reverse before) behind ∙ ap (λ ys. ys ++ map sort behind) (map-reverse sort before)

turned-more : (before behind : List Ty) (x : Ty) (xs : List Ty) →
    reverse (map sort (before ++ x ∷ [])) ++ map sort (behind ++ xs) ≡ sort x ∷ (reverse (map sort before) ++ map sort behind) ++ map sort xs
turned-more before behind x xs =
    ap (λ ys. reverse ys ++ map sort (behind ++ xs)) (map-append sort before (x ∷ []))
    ∙ ap (λ ys. ys ++ map sort (behind ++ xs)) (reverse-append (map sort before) (sort x ∷ []))
    ∙ ap (λ ys. sort x ∷ reverse (map sort before) ++ ys) (map-append sort behind xs)
    ∙ ap (λ ys. sort x ∷ ys) (sym (append_assoc (reverse (map sort before)) (map sort behind) (map sort xs)))

pub turned-grown : (before behind new more inner : List Ty) → new ≡ before ++ firsts inner → more ≡ behind ++ others inner →
    reverse (map sort new) ++ map sort more ≡ firsts (map sort inner) ++ (reverse (map sort before) ++ map sort behind) ++ others (map sort inner)
turned-grown before behind new more [] h g =
    ap (λ ys. reverse (map sort ys) ++ map sort more) (h ∙ append-nil before)
    ∙ ap (λ ys. reverse (map sort before) ++ map sort ys) (g ∙ append-nil behind)
    ∙ sym (append-nil (reverse (map sort before) ++ map sort behind))
turned-grown before behind new more (x ∷ xs) h g =
    ap (λ ys. reverse (map sort ys) ++ map sort more) h
    ∙ ap (λ ys. reverse (map sort (before ++ x ∷ [])) ++ map sort ys) g
    ∙ turned-more before behind x xs

-- a list that is not empty
pub first-of : (xs : List Ty) (x : Ty) → (xs ≡ [] → IsTrue false) → x ≡ slice_index_or xs 0 x → x ∷ [] ≡ firsts xs
first-of [] x some e = absurd (false≢true (some refl))
first-of (y ∷ ys) x some e = ap (λ z. z ∷ []) e

pub others-of : (xs : List Ty) → (xs ≡ [] → IsTrue false) → remove xs 0 ≡ others xs
others-of [] some = absurd (false≢true (some refl))
others-of (y ∷ ys) some = refl

-- ---- one link more

unless-inner : (b c : Bool) (e f : TypeFault) (ks : List Sort) (n : Node) →
    (unless b e >> (unless c f >> Ok (with_inner ks n))) ≡ and_then (unless b e >> (unless c f >> Ok n)) (λ m. Ok (with_inner ks m))
unless-inner true true e f ks n = refl
unless-inner true false e f ks n = refl
unless-inner false c e f ks n = refl

part-inner : (ks : List Sort) (n : Node) → part (with_inner ks n) ≡ and_then (part n) (λ m. Ok (with_inner ks m))
unfolding settled
part-inner ks n = unless-inner (is_met nothing n && (not n.takes_data || is_data n)) (n.is_right && true) (NotData n.place) (Mismatch n.place) ks n

time-inner : (b c : Bool) (e : TypeFault) (at : ℕ) (ks : List Sort) (n : Node) →
    (unless b e >> Ok (record (made at int (with_inner ks n ∷ []) true) { is_one = c }))
    ≡ and_then (unless b e >> Ok (record (made at int (with_inner [] n ∷ []) true) { is_one = c })) (λ m. Ok (grown ks m))
time-inner true c e at ks n = refl
time-inner false c e at ks n = refl

known-inner : (at : ℕ) (ks : List Sort) (n : Node) (name : NameTree) (o : Option Sort) →
    known_field at (with_inner ks n) name o ≡ and_then (known_field at (with_inner [] n) name o) (λ m. Ok (grown ks m))
known-inner at ks n name None = refl
known-inner at ks n name (Some s) = refl

field-inner : (sc : Scope) (at : ℕ) (ks : List Sort) (n : Node) (name : NameTree) (s : Sort) →
    field_node sc at (with_inner ks n) name s ≡ and_then (field_node sc at (with_inner [] n) name s) (λ m. Ok (grown ks m))
field-inner sc at ks n name activity = time-inner (is_time name.text) (is_start_or_duration name.text) (Unknown name.at) at ks n
field-inner sc at ks n name (structure k) = known-inner at ks n name (field_sort name.text (fields sc k))
field-inner sc at ks n name int = refl
field-inner sc at ks n name bool = refl
field-inner sc at ks n name (enumeration k) = refl
field-inner sc at ks n name (row ss) = refl
field-inner sc at ks n name (set s) = refl
field-inner sc at ks n name empty_set = refl
field-inner sc at ks n name (array ss s) = refl
field-inner sc at ks n name unary = refl
field-inner sc at ks n name discrete = refl
field-inner sc at ks n name (index s) = refl
field-inner sc at ks n name struct_name = refl
field-inner sc at ks n name anything = refl

element-inner : (sc : Scope) (at : ℕ) (ks : List Sort) (n : Node) (ms : List Node) (s : Sort) →
    element_node sc at (with_inner ks n) ms s ≡ grown ks (element_node sc at (with_inner [] n) ms s)
element-inner sc at ks n ms (array ss s) = refl
element-inner sc at ks n ms activity = refl
element-inner sc at ks n ms (structure k) = refl
element-inner sc at ks n ms int = refl
element-inner sc at ks n ms bool = refl
element-inner sc at ks n ms (enumeration k) = refl
element-inner sc at ks n ms (row ss) = refl
element-inner sc at ks n ms (set s) = refl
element-inner sc at ks n ms empty_set = refl
element-inner sc at ks n ms unary = refl
element-inner sc at ks n ms discrete = refl
element-inner sc at ks n ms (index s) = refl
element-inner sc at ks n ms struct_name = refl
element-inner sc at ks n ms anything = refl

parts-inner : (c : Checked (List Node)) (f g : List Node → Node) (h : Node → Node) → ((ms : List Node) → f ms ≡ h (g ms)) →
    and_then c (λ ms. Ok (f ms)) ≡ and_then (and_then c (λ ms. Ok (g ms))) (λ m. Ok (h m))
parts-inner (Ok ms) f g h e = ap (λ m. Ok m) (e ms)
parts-inner (Err t) f g h e = refl

suffix-inner : (sc : Scope) (at : ℕ) (ks : List Sort) (n : Node) (s : Suffix) →
    suffix_node sc at (with_inner ks n) s ≡ and_then (suffix_node sc at (with_inner [] n) s) (λ m. Ok (grown ks m))
suffix-inner sc at ks n (subscripts es) =
    parts-inner (typed_parts sc (forms_of es)) (λ ms. element_node sc at (with_inner ks n) ms n.sort) (λ ms. element_node sc at (with_inner [] n) ms n.sort) (grown ks)
    (λ ms. element-inner sc at ks n ms n.sort)
suffix-inner sc at ks n (field_of name) = field-inner sc at ks n name n.sort

base-inner : (sc : Scope) (at : ℕ) (ks : List Sort) (s : Suffix) (c : Checked Node) →
    and_then (and_then c (λ m. Ok (with_inner ks m))) (λ b. suffix_node sc at b s)
    ≡ and_then (and_then (and_then c (λ m. Ok (with_inner [] m))) (λ b. suffix_node sc at b s)) (λ m. Ok (grown ks m))
base-inner sc at ks s (Ok n) = suffix-inner sc at ks n s
base-inner sc at ks s (Err e) = refl

-- what stands behind an expression does not ask for the types of the expressions in it
pub link-inner : (sc : Scope) (at : ℕ) (ks : List Sort) (n : Node) (s : Suffix) →
    and_then (part (with_inner ks n)) (λ b. suffix_node sc at b s)
    ≡ and_then (and_then (part (with_inner [] n)) (λ b. suffix_node sc at b s)) (λ m. Ok (grown ks m))
link-inner sc at ks n s =
    ap (λ c. and_then c (λ b. suffix_node sc at b s)) (part-inner ks n)
    ∙ base-inner sc at ks s (part n)
    ∙ ap (λ c. and_then (and_then c (λ b. suffix_node sc at b s)) (λ m. Ok (grown ks m))) (sym (part-inner [] n))

-- a fault is the same, whatever would have been read
pub gives-other : {A B D : Type 0} (r : B → A) (q : D → A) (c : Checked A) (e : TypeFault) → Gives r c (Err e) → Gives q c (Err e)
gives-other r q c (Unknown at) h = h
gives-other r q c (Duplicate at) h = h
gives-other r q c (Mismatch at) h = h
gives-other r q c (NotData at) h = h
gives-other r q c OutOfMemory h = tt
