-- What the variants of values hold.
use Rattle.std.proofs.Common.{◌≡◌, ◌+◌, ◌<◌, ℕ, ℤ, pos, subst, suc, Bor, IfNone, List, [], ◌∷◌, drop, get_or, length, Option, None, Some, refl, ap, sym, ◌∙◌}
use Rattle.std.proofs.lemmas.List.{at_drop_more}
use Rattle.opl_term.specs.declared.term.FieldName.{FieldName}
use Rattle.opl_value.specs.declared.value.Value.{Value}
use Rattle.opl_value.specs.declared.value.Value.TheVariants as made
use Rattle.opl_value.specs.declared.value.IndexSpace.{IndexSpace}
use Rattle.std.specs.Prelude.{Bool, true, false, Ok}
use Rattle.opl_value.specs.Places.{numbers_between}
use Rattle.opl_value.specs.declared.value.Dimension.TheViews.{out-Value}
use Rattle.opl_value.specs.Places.{lists, place_of, value_at}
use Rattle.opl_eval.specs.ArrayKeys.{HasPlaces, IsKeyed, keyed_layer}
use Rattle.opl_eval.specs.Compare.{all_different}
use Rattle.opl_eval.specs.Evaluation.{at_place, different_layer, element_layer, elements, elements_layer, is_true, names_from, part_at, part_of, parts, parts_layer, truth_layer}
use Rattle.opl_eval.specs.Visible.{names_on}

pub names_from-on : (d p : ℕ) (ns : List (List ℕ)) → names_from d p ns ≡ names_on d p (length ns)
names_from-on d p [] = refl
names_from-on d p (n ∷ ns) = ap (λ vs. made.Enum d p ∷ vs) (names_from-on d (suc p) ns)

pub elements-Int : (d : ℕ) (n : ℤ) → elements d (made.Int n) ≡ []
elements-Int d n = ap (elements_layer d) (made.outs-Int n)

pub elements-Bool : (d : ℕ) (b : Bool) → elements d (made.Bool b) ≡ []
elements-Bool d b = ap (elements_layer d) (made.outs-Bool b)

pub elements-Enum : (d k p : ℕ) → elements d (made.Enum k p) ≡ []
elements-Enum d k p = ap (elements_layer d) (made.outs-Enum k p)

pub elements-Record : (d : ℕ) (vs : List Value) → elements d (made.Record vs) ≡ []
elements-Record d vs = ap (elements_layer d) (made.outs-Record vs)

pub elements-Set : (d : ℕ) (vs : List Value) → elements d (made.Set vs) ≡ vs
elements-Set d vs = ap (elements_layer d) (made.outs-Set vs)

pub elements-Range : (d : ℕ) (l h : ℤ) → elements d (made.Range l h) ≡ numbers_between l h
elements-Range d l h = ap (elements_layer d) (made.outs-Range l h)

pub elements-Names : (d : ℕ) (ns : List (List ℕ)) → elements d (made.Names ns) ≡ names_on d 0 (length ns)
elements-Names d ns = ap (elements_layer d) (made.outs-Names ns) ∙ names_from-on d 0 ns

pub elements-Array : (d : ℕ) (s : IndexSpace) (vs : List Value) → elements d (made.Array s vs) ≡ []
elements-Array d s vs = ap (elements_layer d) (made.outs-Array s vs)

pub ruleset elements_of_variants = (elements-Int, elements-Bool, elements-Enum, elements-Record, elements-Set, elements-Range, elements-Names, elements-Array)

pub parts-Int : (n : ℤ) → parts (made.Int n) ≡ []
parts-Int n = ap parts_layer (made.outs-Int n)

pub parts-Bool : (b : Bool) → parts (made.Bool b) ≡ []
parts-Bool b = ap parts_layer (made.outs-Bool b)

pub parts-Enum : (k p : ℕ) → parts (made.Enum k p) ≡ []
parts-Enum k p = ap parts_layer (made.outs-Enum k p)

pub parts-Record : (vs : List Value) → parts (made.Record vs) ≡ vs
parts-Record vs = ap parts_layer (made.outs-Record vs)

pub parts-Set : (vs : List Value) → parts (made.Set vs) ≡ []
parts-Set vs = ap parts_layer (made.outs-Set vs)

pub parts-Range : (l h : ℤ) → parts (made.Range l h) ≡ []
parts-Range l h = ap parts_layer (made.outs-Range l h)

pub parts-Names : (ns : List (List ℕ)) → parts (made.Names ns) ≡ []
parts-Names ns = ap parts_layer (made.outs-Names ns)

pub parts-Array : (s : IndexSpace) (vs : List Value) → parts (made.Array s vs) ≡ []
parts-Array s vs = ap parts_layer (made.outs-Array s vs)

pub ruleset parts_of_variants = (parts-Int, parts-Bool, parts-Enum, parts-Record, parts-Set, parts-Range, parts-Names, parts-Array)

part_of-none : (position : ℕ → ℕ) (name : FieldName) → part_of position (made.Int (pos 0)) name ≡ made.Int (pos 0)
part_of-none position name = ap (λ vs. value_at vs (position name.at)) (parts-Int (pos 0))

-- what is no record has no part of a part either
part_at-none : (position : ℕ → ℕ) (names : List FieldName) → part_at position (made.Int (pos 0)) names ≡ made.Int (pos 0)
part_at-none position [] = refl
part_at-none position (n ∷ ns) = ap (λ v. part_at position v ns) (part_of-none position n) ∙ part_at-none position ns

-- no part has that field, so that nothing behind it is there
pub part-missing : (o : Option (Bor Value)) (position : ℕ → ℕ) (names : List FieldName) (i : ℕ) (part whole : Value) (name : FieldName) →
    IfNone o (part_of position part name ≡ made.Int (pos 0)) → o ≡ None → i < length names → name ≡ get_or names i name →
    part_at position part (drop i names) ≡ part_at position whole names → made.Int (pos 0) ≡ part_at position whole names
part-missing (Some p) position names i part whole name h n l e k = cc
part-missing None position names i part whole name h n l e k =
    sym (part_at-none position (drop (i + 1) names))
    ∙ ap (λ v. part_at position v (drop (i + 1) names)) (sym h)
    ∙ ap (λ f. part_at position part (f ∷ drop (i + 1) names)) e
    ∙ sym (at_drop_more (part_at position part) names i name l)
    ∙ k

pub is_true-Int : (n : ℤ) → is_true (made.Int n) ≡ false
is_true-Int n = ap truth_layer (made.outs-Int n)

pub is_true-Bool : (b : Bool) → is_true (made.Bool b) ≡ b
is_true-Bool b = ap truth_layer (made.outs-Bool b)

pub is_true-Enum : (k p : ℕ) → is_true (made.Enum k p) ≡ false
is_true-Enum k p = ap truth_layer (made.outs-Enum k p)

pub is_true-Record : (vs : List Value) → is_true (made.Record vs) ≡ false
is_true-Record vs = ap truth_layer (made.outs-Record vs)

pub is_true-Set : (vs : List Value) → is_true (made.Set vs) ≡ false
is_true-Set vs = ap truth_layer (made.outs-Set vs)

pub is_true-Range : (l h : ℤ) → is_true (made.Range l h) ≡ false
is_true-Range l h = ap truth_layer (made.outs-Range l h)

pub is_true-Names : (ns : List (List ℕ)) → is_true (made.Names ns) ≡ false
is_true-Names ns = ap truth_layer (made.outs-Names ns)

pub is_true-Array : (s : IndexSpace) (vs : List Value) → is_true (made.Array s vs) ≡ false
is_true-Array s vs = ap truth_layer (made.outs-Array s vs)

pub ruleset truths_of_variants = (is_true-Int, is_true-Bool, is_true-Enum, is_true-Record, is_true-Set, is_true-Range, is_true-Names, is_true-Array)

pub different-Int : (n : ℤ) → different_layer (out-Value (made.Int n)) ≡ true
different-Int n = ap different_layer (made.outs-Int n)

pub different-Bool : (b : Bool) → different_layer (out-Value (made.Bool b)) ≡ true
different-Bool b = ap different_layer (made.outs-Bool b)

pub different-Enum : (k p : ℕ) → different_layer (out-Value (made.Enum k p)) ≡ true
different-Enum k p = ap different_layer (made.outs-Enum k p)

pub different-Record : (vs : List Value) → different_layer (out-Value (made.Record vs)) ≡ true
different-Record vs = ap different_layer (made.outs-Record vs)

pub different-Set : (vs : List Value) → different_layer (out-Value (made.Set vs)) ≡ true
different-Set vs = ap different_layer (made.outs-Set vs)

pub different-Range : (l h : ℤ) → different_layer (out-Value (made.Range l h)) ≡ true
different-Range l h = ap different_layer (made.outs-Range l h)

pub different-Names : (ns : List (List ℕ)) → different_layer (out-Value (made.Names ns)) ≡ true
different-Names ns = ap different_layer (made.outs-Names ns)

pub different-Array : (s : IndexSpace) (vs : List Value) → different_layer (out-Value (made.Array s vs)) ≡ all_different vs
different-Array s vs = ap different_layer (made.outs-Array s vs)

pub ruleset different_of_variants = (different-Int, different-Bool, different-Enum, different-Record, different-Set, different-Range, different-Names, different-Array)

pub element-Int : (at : ℕ) (key : List Value) (n : ℤ) → element_layer at key (out-Value (made.Int n)) ≡ Ok (made.Int (pos 0))
element-Int at key n = ap (element_layer at key) (made.outs-Int n)

pub element-Bool : (at : ℕ) (key : List Value) (b : Bool) → element_layer at key (out-Value (made.Bool b)) ≡ Ok (made.Int (pos 0))
element-Bool at key b = ap (element_layer at key) (made.outs-Bool b)

pub element-Enum : (at : ℕ) (key : List Value) (k p : ℕ) → element_layer at key (out-Value (made.Enum k p)) ≡ Ok (made.Int (pos 0))
element-Enum at key k p = ap (element_layer at key) (made.outs-Enum k p)

pub element-Record : (at : ℕ) (key : List Value) (vs : List Value) → element_layer at key (out-Value (made.Record vs)) ≡ Ok (made.Int (pos 0))
element-Record at key vs = ap (element_layer at key) (made.outs-Record vs)

pub element-Set : (at : ℕ) (key : List Value) (vs : List Value) → element_layer at key (out-Value (made.Set vs)) ≡ Ok (made.Int (pos 0))
element-Set at key vs = ap (element_layer at key) (made.outs-Set vs)

pub element-Range : (at : ℕ) (key : List Value) (l h : ℤ) → element_layer at key (out-Value (made.Range l h)) ≡ Ok (made.Int (pos 0))
element-Range at key l h = ap (element_layer at key) (made.outs-Range l h)

pub element-Names : (at : ℕ) (key : List Value) (ns : List (List ℕ)) → element_layer at key (out-Value (made.Names ns)) ≡ Ok (made.Int (pos 0))
element-Names at key ns = ap (element_layer at key) (made.outs-Names ns)

pub element-Array : (at : ℕ) (key : List Value) (s : IndexSpace) (vs : List Value) → element_layer at key (out-Value (made.Array s vs)) ≡ at_place at vs (place_of (lists s) key)
element-Array at key s vs = ap (element_layer at key) (made.outs-Array s vs)

pub keyed-Array : (s : IndexSpace) (vs : List Value) → IsKeyed (made.Array s vs) → HasPlaces s
keyed-Array s vs h = subst (λ v. keyed_layer v) (made.outs-Array s vs) h

pub ruleset elements_of_arrays = (element-Int, element-Bool, element-Enum, element-Record, element-Set, element-Range, element-Names, element-Array, keyed-Array)
