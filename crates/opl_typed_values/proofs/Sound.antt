-- Values are of the types of their expressions.
use Rattle.std.proofs.Common.{◌≡◌, ◌+◌, ◌<◌, ℕ, zero, suc, ℤ, pos, ◌+ℤ◌, ◌-ℤ◌, Bool, true, false, cond, List, [], ◌∷◌, length, map, Option, None, Some, Ok, refl, sym, ap, subst, ◌∙◌, arith}
use Rattle.std.specs.List.{AllByRecursion}
use Rattle.std.specs.Option.{option_map}
use Rattle.opl_tree.specs.declared.expression.NameTree.{NameTree}
use Rattle.opl_tree.specs.declared.expression.PatternTree.{PatternTree}
use Rattle.opl_tree.specs.declared.expression.PatternTree.TheVariants as patterns
use Rattle.opl_type_rules.specs.Types.{Sort, Sorts, elements, is_storable, sorts_of}
use Rattle.opl_type_rules.specs.Types.Sort.{int, bool, structure, row, set, empty_set, array, activity, index, anything}
use Rattle.opl_type_rules.specs.Types.Sorts.{no_sorts}
use Rattle.opl_type_rules.specs.Scope.{Scope, declared, field_sorts, fields, is_decided, sort_of, with_values}
use Rattle.opl_type_rules.specs.Scope.Thing.{value}
use Rattle.opl_type_rules.specs.Forms.{Form, Forms, SetForm, Groups, Params, form_add}
use Rattle.opl_type_rules.specs.Forms.Form.{number, named, bracket, negative, arithmetic, absolute, related, member, connected, aggregate, cardinality, all_different, subscripted, field, tuple, listed, described, cells, keyed_cells, question}
use Rattle.opl_type_rules.specs.Forms.Forms.{no_forms, more_forms}
use Rattle.opl_type_rules.specs.Forms.SetForm.{whole, between}
use Rattle.opl_type_rules.specs.Forms.Groups.{no_groups, more_groups}
use Rattle.opl_type_rules.specs.Forms.Params.{all_of, those_of}
use Rattle.opl_type_rules.specs.Expressions.Need.{data_alone}
use Rattle.opl_typed.specs.Relation.{AllName, AreOne, Typed, Each, GroupsOpen, HasType, HaveTypes, Is, IsData, IsElement, IsField, IsSetOf, Names, Opens, is_data, set_of}
use Rattle.opl_typed.proofs.Lawful as typed
use Rattle.opl_term.specs.Terms.{add_term, field_name, group_of, pattern_of, with_fields}
use Rattle.opl_term.specs.declared.term.GroupTerm.{GroupTerm}
use Rattle.opl_term.specs.declared.term.Pattern.{Pattern}
use Rattle.opl_term.specs.declared.term.SetTerm.{SetTerm}
use Rattle.opl_term.specs.declared.term.Term.{Term}
use Rattle.opl_term.specs.declared.term.Term.TheVariants as terms
use Rattle.opl_value.specs.declared.value.Value.{Value}
use Rattle.opl_value.specs.declared.value.Value.TheVariants as values
use Rattle.opl_value.specs.declared.value.Dimension.TheViews.{out-Value}
use Rattle.opl_value.specs.Places as places
use Rattle.opl_value.specs.Places.{lists, numbers_between, numbers_from, or_zero, place_of, value_at}
use Rattle.opl_value.specs.Sets.{first_occurrences}
use Rattle.opl_value.proofs.PlaceLaws.{places_below}
use Rattle.opl_value.proofs.Sets.{sets_differ}
use Rattle.opl_eval.specs.Compare.{number as number_of}
use Rattle.opl_eval.specs.Evaluation as evaluation
use Rattle.opl_eval.specs.Evaluation.{Environment, Found, Group, Item, Meaning, Parameter, all, at_place, bodies, body_where, declaration_of, element, element_layer, elements_layer, eval, found, group_meaning, in_order, independent, is_true, item_named, meaning, parts, set_meaning, value_named, values_of, visited, with_parameters}
use Rattle.opl_eval.proofs.Meanings.{group_meaning-Ordered, group_meaning-Unordered, meaning-Named, meaning-Bracket, meaning-Described, meaning-Described_where, meaning-Element, meaning-Listed, meaning-Record, set_meaning-Between, set_meaning-Whole}
use Rattle.opl_typed_values.specs.Laws.{ValuesAreOfTheirSorts}
use Rattle.opl_typed_values.specs.OfSort.{AllHaveSort, HasSort, HaveSorts, IsArrayOf, a_name, a_number, a_record, a_row, a_set, a_truth, more_have, more_parts, no_elements, no_parts, none_has}
use Rattle.opl_typed_values.specs.Positions.{AllStand, FieldsStand, GroupsStand, ParamsStand, SetStands, place_from}
use Rattle.opl_typed_values.specs.Visible.{AreOfTheirSorts}
use Rattle.opl_typed_values.proofs.Choices.{fields-stay, gathered-have, independent-choices, item-value, ordered-choices}
use Rattle.opl_typed_values.proofs.DataKinds.{array-name, data-decides, element-base, field-base, fields-same, index-name, is_name, no-activity, some-type}
use Rattle.opl_typed_values.proofs.Fields.{field-comes, parts-of, place-has}
use Rattle.opl_typed_values.proofs.Fitting.{first-has, joined-has, new-have, none-have, set-is, some_same}
use Rattle.opl_typed_values.proofs.Joining.{plain-all-known}
use Rattle.opl_typed_values.proofs.Outside.{IsBool, IsInt, same_ok, went}
use Rattle.opl_typed_values.proofs.Said.{AllSay, GroupsSay, ParamsSay, Says, SetSays}
use Rattle.opl_typed_values.proofs.Terms.{add-says}

-- ---- numbers and names

empty_has_none : (fields : ℕ → Sorts) (names : ℕ → ℕ) (x : Sort) (v : Value) → HasSort fields names x v → x ≡ empty_set → v ≡ values.Set []
empty_has_none fields names _ _ (a_number n) e = absurd (cc)
empty_has_none fields names _ _ (a_truth b) e = absurd (cc)
empty_has_none fields names _ _ (a_name k p l) e = absurd (cc)
empty_has_none fields names _ _ (a_record k vs h) e = absurd (cc)
empty_has_none fields names _ _ (a_row ss vs h) e = absurd (cc)
empty_has_none fields names _ _ (a_set x vs h d) e = absurd (cc)
empty_has_none fields names _ _ no_elements e = refl

same_struct : (k l : ℕ) → structure k ≡ structure l → k ≡ l
same_struct k l e = cc

record_has_parts : (fields : ℕ → Sorts) (names : ℕ → ℕ) (x : Sort) (v : Value) (k : ℕ) → HasSort fields names x v → x ≡ structure k → (vs : List Value) × (v ≡ values.Record vs) × HaveSorts fields names (fields k) vs
record_has_parts fields names _ _ k (a_number n) e = absurd (cc)
record_has_parts fields names _ _ k (a_truth b) e = absurd (cc)
record_has_parts fields names _ _ k (a_name d p l) e = absurd (cc)
record_has_parts fields names _ _ k (a_record d vs h) e = (vs, refl, subst (λ (j : ℕ). HaveSorts fields names (fields j) vs) (same_struct d k e) h)
record_has_parts fields names _ _ k (a_row ss vs h) e = absurd (cc)
record_has_parts fields names _ _ k (a_set x vs h d) e = absurd (cc)
record_has_parts fields names _ _ k no_elements e = absurd (cc)

numbers-have : (fields : ℕ → Sorts) (names : ℕ → ℕ) (low : ℤ) (n : ℕ) → AllHaveSort fields names int (numbers_from low n)
numbers-have fields names low zero = none_has int
numbers-have fields names low (suc n) = more_have int (values.Int low) (numbers_from (low +ℤ pos 1) n) (a_number low) (numbers-have fields names (low +ℤ pos 1) n)

-- the elements of a range and of a set
pub range-elements : (d : ℕ) (low high : ℤ) → evaluation.elements d (values.Range low high) ≡ numbers_between low high
range-elements d low high = ap (elements_layer d) (values.outs-Range low high)

pub set-elements : (d : ℕ) (vs : List Value) → evaluation.elements d (values.Set vs) ≡ vs
set-elements d vs = ap (elements_layer d) (values.outs-Set vs)

pub range-has : (fields : ℕ → Sorts) (names : ℕ → ℕ) (d : ℕ) (low high : ℤ) → AllHaveSort fields names int (evaluation.elements d (values.Range low high))
range-has fields names d low high = subst (AllHaveSort fields names int) (sym (range-elements d low high)) (numbers-have fields names low (or_zero (high +ℤ pos 1 -ℤ low)))

group-means : (b : Bool) (ps : List Pattern) (s : SetTerm) → group_meaning (group_of b ps s) ≡ record { is_ordered = b; patterns = ps; over = set_meaning s }
group-means true ps s = group_meaning-Ordered ps s
group-means false ps s = group_meaning-Unordered ps s

module _ (names : ℕ → ℕ) (sc : Scope) (env : Environment) (visible : AreOfTheirSorts names sc env) where
  abbrev Has : Sort → Value → Type 0
  Has s v = HasSort (field_sorts sc) names s v

  as_int : (s : Sort) (v : Value) → s ≡ int → IsInt v → Has s v
  as_int s v e i = subst (λ (r : Sort). Has r v) (sym e) (subst (Has int) (sym i.1) (a_number i.0))

  as_bool : (s : Sort) (v : Value) → s ≡ bool → IsBool v → Has s v
  as_bool s v e i = subst (λ (r : Sort). Has r v) (sym e) (subst (Has bool) (sym i.1) (a_truth i.0))

  named-has : (name : NameTree) (a : Typed) (t : Term) (v : Value) → HasType sc (named name) a → IsData a → is_storable a.sort ≡ true → t ≡ terms.Named name.at name.text → eval t env ≡ Ok v → Has a.sort v
  named-has name a t v h given storable is e =
      let k : sort_of h.0 ≡ a.sort = sym (ap (λ (b : Typed). b.sort) h.2) in
      let d : is_decided h.0 ≡ false = sym (ap (λ (b : Typed). b.decides) h.2) ∙ data-decides a given in
      let w : value_named name.text env ≡ v = same_ok (value_named name.text env) v (sym (ap (λ u. eval u env) is ∙ ap (λ m. m.value env) (meaning-Named name.at name.text)) ∙ e) in
      subst (λ (s : Sort). Has s v) k (subst (Has (sort_of h.0)) w (visible.values name.text h.0 h.1 d (ap is_storable k ∙ storable)))

  -- ---- elements of arrays

  pub item-has : (f : Form) (t : Term) (a : Typed) (indices : Sorts) (s : Sort) → is_name f ≡ true → Says f t → HasType sc f a → a.decides ≡ false → a.sort ≡ array indices s → is_storable s ≡ true →
      (i : Item) × ((meaning t).item env ≡ Some i) × IsArrayOf (field_sorts sc) names s i.value
  item-has (named name) t a indices s n is h d e storable =
      let k : is_decided h.0 ≡ false = sym (ap (λ (b : Typed). b.decides) h.2) ∙ d in
      let r = visible.arrays name.text h.0 indices s h.1 k (sym (ap (λ (b : Typed). b.sort) h.2) ∙ e) storable in
      (r.0, ap (λ u. (meaning u).item env) is ∙ ap (λ m. m.item env) (meaning-Named name.at name.text) ∙ r.1, r.2)
  item-has (bracket at f) t a indices s n is h d e storable =
      let r = item-has f is.1 a indices s n is.3 h d e storable in
      (r.0, ap (λ u. (meaning u).item env) is.2 ∙ ap (λ m. m.item env) (meaning-Bracket is.0 is.1) ∙ r.1, r.2)
  item-has f t a indices s n is h d e storable = absurd (cc)

  pub cell-has : (s : Sort) (cs : List Value) (p : ℕ) → AllHaveSort (field_sorts sc) names s cs → p < length cs → Has s (value_at cs p)
  cell-has s _ p (none_has _) l = absurd (omega (arith, l))
  cell-has s _ zero (more_have _ v vs h hs) l = h
  cell-has s _ (suc p) (more_have _ v vs h hs) l = cell-has s vs p hs (omega (arith, l))

  placed-has : (at : ℕ) (s : Sort) (ds : List (List Value)) (key cs : List Value) (o : Option ℕ) (v : Value) → place_of ds key ≡ o → AllHaveSort (field_sorts sc) names s cs → length cs ≡ places.elements ds → at_place at cs o ≡ Ok v → Has s v
  placed-has at s ds key cs None v is hs n e = absurd (cc)
  placed-has at s ds key cs (Some p) v is hs n e =
      let l = places_below ds key p is in
      subst (Has s) (same_ok (value_at cs p) v e) (cell-has s cs p hs (omega (arith, l, n)))

  array-has : (at : ℕ) (s : Sort) (key : List Value) (w v : Value) → IsArrayOf (field_sorts sc) names s w → element_layer at key (out-Value w) ≡ Ok v → Has s v
  array-has at s key w v a e =
      placed-has at s (lists a.space) key a.cells (place_of (lists a.space) key) v refl a.each a.filled (sym (ap (λ u. element_layer at key (out-Value u)) a.is ∙ ap (element_layer at key) (values.outs-Array a.space a.cells)) ∙ e)

  element-has : (p : ℕ) (u : Term) (us : List Term) (base : Typed) (parts : List Typed) (s : Sort) (a : Typed) (v : Value) (f : Form) → Says f u → HasType sc f base → base.sort ≡ s → IsElement sc base parts s a → IsData base →
      is_storable a.sort ≡ true → eval (terms.Element p u us) env ≡ Ok v → Has a.sort v
  element-has p u us base parts (array indices element) a v f is h b e given storable k =
      let c : a.sort ≡ element = ap (λ (x : Typed). x.sort) e.2 in
      let n = array-name names sc env visible f base indices element h given b in
      let i = item-has f u base indices element n is h (data-decides base given) b (sym (ap is_storable c) ∙ storable) in
      let w = went (values_of (map meaning us) env) _ v (sym (ap (λ m. m.value env) (meaning-Element p u us)) ∙ k) in
      subst (λ (x : Sort). Has x v) (sym c) (array-has p element w.0 i.0.value v i.2 (sym (ap (Rattle.opl_eval.specs.Evaluation.element p w.0) i.1) ∙ w.2))
  element-has p u us base parts anything a v f is h b e given storable k = absurd (some-type names sc env visible f base h given b)
  element-has p u us base parts s a v f is h b e given storable k = absurd e

  -- ---- fields of records

  field-has : (base : Typed) (name : NameTree) (s : Sort) (a : Typed) (w : Value) (f : Form) → HasType sc f base → base.sort ≡ s → IsField sc base name s a → IsData base → (is_storable base.sort ≡ true → Has base.sort w) →
      ((k p : ℕ) → base.sort ≡ structure k → place_from 0 name.text (fields sc k) ≡ Some p → env.position name.at ≡ p) → Has a.sort (value_at (parts w) (env.position name.at))
  field-has base name activity a w f h b e given has place = absurd (no-activity names sc env visible f base h given b)
  field-has base name (structure k) a w f h b e given has place =
      let r = record_has_parts (field_sorts sc) names base.sort w k (has (ap is_storable b)) b in
      let q = place-has (field_sorts sc) names (fields sc k) name.text 0 e.0 r.0 (subst (λ (ss : Sorts). HaveSorts (field_sorts sc) names ss r.0) (fields-same sc k) r.2) e.1 in
      let at = place k (0 + q.0) b q.1 in
      subst (λ (x : Sort). Has x (value_at (parts w) (env.position name.at))) (sym (ap (λ (x : Typed). x.sort) e.2))
      (subst (λ ws. Has e.0 (value_at ws (env.position name.at))) (sym (ap parts r.1 ∙ parts-of (field_sorts sc) names r.0)) (subst (λ (p : ℕ). Has e.0 (value_at r.0 p)) (sym (at ∙ omega arith)) q.2))
  field-has base name anything a w f h b e given has place = absurd (some-type names sc env visible f base h given b)
  field-has base name s a w f h b e given has place = absurd e

  -- ---- sets of parameters

  -- the name of a range or an enumeration
  index-has : (f : Form) (t : Term) (a : Typed) (s : Sort) → is_name f ≡ true → Says f t → HasType sc f a → a.decides ≡ false → a.sort ≡ index s →
      (i : Item) × ((meaning t).item env ≡ Some i) × (eval t env ≡ Ok i.value) × AllHaveSort (field_sorts sc) names s (evaluation.elements i.declaration i.value)
  index-has (named name) t a s n is h d e =
      let k : is_decided h.0 ≡ false = sym (ap (λ (b : Typed). b.decides) h.2) ∙ d in
      let r = visible.indices name.text h.0 s h.1 k (sym (ap (λ (b : Typed). b.sort) h.2) ∙ e) in
      let m = ap meaning is ∙ meaning-Named name.at name.text in
      (r.0, ap (λ x. x.item env) m ∙ r.1, ap (λ x. x.value env) m ∙ ap Ok (item-value env name.text r.0 r.1), r.2)
  index-has (bracket at f) t a s n is h d e =
      let r = index-has f is.1 a s n is.3 h d e in
      let m = ap meaning is.2 ∙ meaning-Bracket is.0 is.1 in
      (r.0, ap (λ x. x.item env) m ∙ r.1, ap (λ x. x.value env) m ∙ r.2, r.3)
  index-has f t a s n is h d e = absurd (cc)

  -- what an expression stands for as a set
  whole-has : (f : Form) (u : Term) (a : Typed) (x s : Sort) (v : Value) → Says f u → HasType sc f a → IsData a → a.sort ≡ x → elements x ≡ Some s → eval u env ≡ Ok v → (is_storable a.sort ≡ true → Has a.sort v) →
      AllHaveSort (field_sorts sc) names s (evaluation.elements (declaration_of ((meaning u).item env)) v)
  whole-has f u a (index x) s v is h given b e k has =
      let r = index-has f u a x (index-name names sc env visible f a x h given b) is h (data-decides a given) b in
      subst (λ (o : Option Item). AllHaveSort (field_sorts sc) names s (evaluation.elements (declaration_of o) v)) (sym r.1)
      (subst (λ (y : Sort). AllHaveSort (field_sorts sc) names y (evaluation.elements r.0.declaration v)) (some_same x s e) (subst (λ (w : Value). AllHaveSort (field_sorts sc) names x (evaluation.elements r.0.declaration w)) (same_ok r.0.value v (sym r.2 ∙ k)) r.3))
  whole-has f u a (set x) s v is h given b e k has =
      let r = set-is (field_sorts sc) names a.sort v x (has (ap is_storable b)) b in
      subst (AllHaveSort (field_sorts sc) names s) (sym (ap (evaluation.elements (declaration_of ((meaning u).item env))) r.1 ∙ set-elements (declaration_of ((meaning u).item env)) r.0)) (subst (λ (y : Sort). AllHaveSort (field_sorts sc) names y r.0) (some_same x s e) r.2)
  whole-has f u a empty_set s v is h given b e k has =
      let r = empty_has_none (field_sorts sc) names a.sort v (has (ap is_storable b)) b in
      subst (AllHaveSort (field_sorts sc) names s) (sym (ap (evaluation.elements (declaration_of ((meaning u).item env))) r ∙ set-elements (declaration_of ((meaning u).item env)) [])) (none_has s)
  whole-has f u a anything s v is h given b e k has = absurd (some-type names sc env visible f a h given b)
  whole-has f u a x s v is h given b e k has = absurd (cc)

  between-has : (s : Sort) (u w : Term) (v : Value) → s ≡ int → evaluation.between (meaning u) (meaning w) env ≡ Ok v → AllHaveSort (field_sorts sc) names s (evaluation.elements 0 v)
  between-has s u w v e k =
      let l = went (eval u env) _ v k in
      let h = went (eval w env) _ v l.2 in
      subst (λ (x : Sort). AllHaveSort (field_sorts sc) names x (evaluation.elements 0 v)) (sym e)
      (subst (λ (x : Value). AllHaveSort (field_sorts sc) names int (evaluation.elements 0 x)) (same_ok (values.Range (number_of l.0) (number_of h.0)) v h.2) (range-has (field_sorts sc) names 0 (number_of l.0) (number_of h.0)))

  -- ---- sets that are written out

  one-have : (parts : List Typed) (before s : Sort) (vs : List Value) → AreOne sc before parts s → HaveSorts (field_sorts sc) names (sorts_of (map (λ (x : Typed). x.sort) parts)) vs →
      AllHaveSort (field_sorts sc) names s vs × ((v : Value) → Has before v → Has s v)
  one-have [] before s vs h hs =
      (subst (AllHaveSort (field_sorts sc) names s) (sym (none-have (field_sorts sc) names no_sorts vs hs refl)) (none_has s), (λ v d. subst (λ (x : Sort). Has x v) (sym h) d))
  one-have (a ∷ parts) before s vs h hs =
      let f = first-has (field_sorts sc) names (sorts_of (map (λ (x : Typed). x.sort) (a ∷ parts))) vs a.sort (sorts_of (map (λ (x : Typed). x.sort) parts)) hs refl in
      let j = joined-has (field_sorts sc) names (λ k. plain-all-known (field_sorts sc k) (visible.structs k)) before a.sort h.0 h.1 in
      let r = one-have parts h.0 s f.1 h.2 f.4 in
      (subst (AllHaveSort (field_sorts sc) names s) (sym f.2) (more_have s f.0 f.1 (r.1 f.0 (j.1 f.0 f.3)) r.0), (λ v d. r.1 v (j.0 v d)))

  set-has : (parts : List Typed) (s : Sort) (vs : List Value) → AreOne sc anything parts s → HaveSorts (field_sorts sc) names (sorts_of (map (λ (x : Typed). x.sort) parts)) vs → Has (set_of parts s) (values.Set (first_occurrences vs))
  set-has [] s vs h hs = subst (λ (ws : List Value). Has empty_set (values.Set (first_occurrences ws))) (sym (none-have (field_sorts sc) names no_sorts vs hs refl)) no_elements
  set-has (a ∷ parts) s vs h hs =
      a_set s (first_occurrences vs) (new-have (field_sorts sc) names s [] vs (none_has s) (one-have (a ∷ parts) anything s vs h hs).0) (sets_differ vs)

-- ---- all forms

pub with-values-stay : (ns : List NameTree) (ss : List Sort) (sc : Scope) → field_sorts (with_values ns ss sc) ≡ field_sorts sc
with-values-stay [] ss sc = refl
with-values-stay (n ∷ ns) [] sc = refl
with-values-stay (n ∷ ns) (s ∷ ss) sc = with-values-stay ns ss (declared n.text (value s) sc) ∙ fields-stay sc n.text s

each-choice : (P Q : List Parameter → Type 0) (cs : List (List Parameter)) → ((c : List Parameter) → P c → Q c) → AllByRecursion P cs → AllByRecursion Q cs
each-choice P Q [] k h = tt
each-choice P Q (c ∷ cs) k h = (k c h.0, each-choice P Q cs k h.1)

names-stay : (sc inner : Scope) (s : Sort) (p : PatternTree) → Names sc s p inner → field_sorts inner ≡ field_sorts sc
names-stay sc inner s (patterns.Single name) n = ap field_sorts n ∙ fields-stay sc name.text s
names-stay sc inner s (patterns.Record at first rest) n = ap field_sorts n.2 ∙ with-values-stay (first ∷ rest) n.0 sc

all-names-stay : (ps : List PatternTree) (sc inner : Scope) (s : Sort) → AllName sc s ps inner → field_sorts inner ≡ field_sorts sc
all-names-stay [] sc inner s n = ap field_sorts n
all-names-stay (p ∷ ps) sc inner s n = all-names-stay ps n.0 inner s n.2 ∙ names-stay sc n.0 s p n.1

groups-stay : (gs : Groups) (sc inner : Scope) → GroupsOpen sc gs inner → field_sorts inner ≡ field_sorts sc
groups-stay no_groups sc inner o = ap field_sorts o
groups-stay (more_groups ps over others) sc inner o = groups-stay others o.1 inner o.5 ∙ all-names-stay ps sc o.1 o.0 o.4

-- what is found once for each choice that holds
body-have : (fields : ℕ → Sorts) (names : ℕ → ℕ) (s : Sort) (c : Option Meaning) (m : Meaning) (env : Environment) (vs : List Value) → ((v : Value) → m.value env ≡ Ok v → HasSort fields names s v) → body_where c m env ≡ Ok vs →
    AllHaveSort fields names s vs
body-have fields names s None m env vs has e =
    let w = went (m.value env) (λ v. Ok (v ∷ [])) vs e in
    subst (AllHaveSort fields names s) (same_ok (w.0 ∷ []) vs w.2) (more_have s w.0 [] (has w.0 w.1) (none_has s))
body-have fields names s (Some c) m env vs has e =
    let k = went (c.value env) _ vs e in
    by (is_true k.0) k.2
  where
    by : (b : Bool) → cond b (found (λ v. v ∷ []) (m.value env)) (Ok []) ≡ Ok vs → AllHaveSort fields names s vs
    by true g = let w = went (m.value env) (λ v. Ok (v ∷ [])) vs g in subst (AllHaveSort fields names s) (same_ok (w.0 ∷ []) vs w.2) (more_have s w.0 [] (has w.0 w.1) (none_has s))
    by false g = subst (AllHaveSort fields names s) (same_ok [] vs g) (none_has s)

described-means : (env : Environment) (q : ℕ) (u : Term) (gs : List GroupTerm) (c : Option Term) (v : Value) → eval (terms.Described q u gs c) env ≡ Ok v →
    (vs : List Value) × (bodies (map group_meaning gs) (option_map meaning c) (meaning u) env ≡ Ok vs) × (values.Set (first_occurrences vs) ≡ v)
described-means env q u gs None v e =
    let w = went (bodies (map group_meaning gs) None (meaning u) env) _ v (sym (ap (λ m. m.value env) (meaning-Described q u gs)) ∙ e) in
    (w.0, w.1, same_ok (values.Set (first_occurrences w.0)) v w.2)
described-means env q u gs (Some c) v e =
    let w = went (bodies (map group_meaning gs) (Some (meaning c)) (meaning u) env) _ v (sym (ap (λ m. m.value env) (meaning-Described_where q u gs c)) ∙ e) in
    (w.0, w.1, same_ok (values.Set (first_occurrences w.0)) v w.2)

module _ (names : ℕ → ℕ) where
  abbrev Sorted : Scope → Sort → Value → Type 0
  Sorted sc s v = HasSort (field_sorts sc) names s v

  abbrev AllSorted : Scope → Sort → List Value → Type 0
  AllSorted sc s vs = AllHaveSort (field_sorts sc) names s vs

  abbrev Of : Scope → Environment → Type 0
  Of sc env = AreOfTheirSorts names sc env

  chosen : (b : Bool) (ps : List PatternTree) (sc : Scope) (env : Environment) (s : Sort) (inner : Scope) (vs : List Value) → AllName sc s ps inner → Of sc env → AllSorted sc s vs →
      AllByRecursion (λ c. Of inner (with_parameters c env) × (field_sorts inner ≡ field_sorts sc)) (cond b (in_order (map pattern_of ps) vs) (independent (map pattern_of ps) vs))
  chosen true ps sc env s inner vs n of h = ordered-choices names ps sc env s inner vs n of h
  chosen false ps sc env s inner vs n of h = independent-choices names ps sc env s inner vs n of h

  mutual
    pub has : (sc : Scope) (env : Environment) (of : Of sc env) (f : Form) (t : Term) (a : Typed) (v : Value) → FieldsStand env.position sc f → Says f t → HasType sc f a → IsData a → is_storable a.sort ≡ true → eval t env ≡ Ok v → Sorted sc a.sort v
    has sc env of (number at) t a v c is h given storable e = as_int names sc env of a.sort v (ap (λ (x : Typed). x.sort) h) (is.1 env v e)
    has sc env of (negative at f) t a v c is h given storable e = as_int names sc env of a.sort v (ap (λ (x : Typed). x.sort) h.3) (is.1 env v e)
    has sc env of (arithmetic at fs) t a v c is h given storable e = as_int names sc env of a.sort v (ap (λ (x : Typed). x.sort) h.3) (is.1 env v e)
    has sc env of (absolute at f) t a v c is h given storable e = as_int names sc env of a.sort v (ap (λ (x : Typed). x.sort) h.3) (is.1 env v e)
    has sc env of (aggregate at p f) t a v c is h given storable e = as_int names sc env of a.sort v (ap (λ (x : Typed). x.sort) h.5) (is.1 env v e)
    has sc env of (cardinality at f) t a v c is h given storable e = as_int names sc env of a.sort v (ap (λ (x : Typed). x.sort) h.3) (is.1 env v e)
    has sc env of (related at f relation g) t a v c is h given storable e = as_bool names sc env of a.sort v (ap (λ (x : Typed). x.sort) h.5) (is.1 env v e)
    has sc env of (member at f over) t a v c is h given storable e = as_bool names sc env of a.sort v (ap (λ (x : Typed). x.sort) h.7) (is.1 env v e)
    has sc env of (connected at fs) t a v c is h given storable e = as_bool names sc env of a.sort v (ap (λ (x : Typed). x.sort) h.3) (is.1 env v e)
    has sc env of (all_different at f) t a v c is h given storable e = as_bool names sc env of a.sort v (ap (λ (x : Typed). x.sort) h.3) (is.1 env v e)
    has sc env of (named name) t a v c is h given storable e = named-has names sc env of name a t v h given storable is e
    has sc env of (bracket at f) t a v c is h given storable e =
        has sc env of f is.1 a v c is.3 h given storable (sym (ap (λ u. eval u env) is.2 ∙ ap (λ m. m.value env) (meaning-Bracket is.0 is.1)) ∙ e)
    has sc env of (subscripted at f es) t a v c is h given storable e =
        element-has names sc env of is.0 is.1 is.2 h.0 h.1 h.0.sort a v f is.4 h.2 refl h.4 (element-base names sc env of h.0 h.1 h.0.sort a h.4 given) storable (sym (ap (λ u. eval u env) is.3) ∙ e)
    has sc env of (field at f name) t a v c is h given storable e =
        let w = field-comes env is.0 is.1 is.2 (field_name name) v (sym (ap (λ u. eval u env) is.3) ∙ e) in
        let d = field-base names sc env of h.0 name h.0.sort a h.2 given in
        subst (Sorted sc a.sort) (sym w.2)
        (field-has names sc env of h.0 name h.0.sort a w.0 f h.1 refl h.2 d (λ st. has sc env of f (with_fields is.0 is.1 is.2) h.0 w.0 c.0 is.4 h.1 d st w.1) (λ k p b g. c.1 h.0 k p h.1 b g))
    has sc env of (tuple at fs) t a v c is h given storable e =
        let w = went (values_of (map meaning is.1) env) _ v (sym (ap (λ u. eval u env) is.2 ∙ ap (λ m. m.value env) (meaning-Record is.0 is.1)) ∙ e) in
        let r = have sc env of fs is.1 h.0 w.0 c is.3 h.1 h.2 h.3 w.1 in
        subst (λ (x : Sort). Sorted sc x v) (sym (ap (λ (x : Typed). x.sort) h.4)) (subst (Sorted sc (row (sorts_of (map (λ (x : Typed). x.sort) h.0)))) (same_ok (values.Record w.0) v w.2) (a_row _ w.0 r))
    has sc env of (listed at fs) t a v c is h given storable e =
        let w = went (values_of (map meaning is.1) env) _ v (sym (ap (λ u. eval u env) is.2 ∙ ap (λ m. m.value env) (meaning-Listed is.0 is.1)) ∙ e) in
        let r = have sc env of fs is.1 h.0 w.0 c is.3 h.2 h.3 h.4 w.1 in
        subst (λ (x : Sort). Sorted sc x v) (sym (ap (λ (x : Typed). x.sort) h.6)) (subst (Sorted sc (set_of h.0 h.1)) (same_ok (values.Set (first_occurrences w.0)) v w.2) (set-has names sc env of h.0 h.1 w.0 h.5 r))
    has sc env of (described at f p) t a v c is h given storable e =
        let m = described-means env is.0 is.1 is.2 is.3 v (sym (ap (λ u. eval u env) is.4) ∙ e) in
        let all = params-have sc env of p is.2 h.0 h.1.sort m.0 (body_where (option_map meaning is.3) (meaning is.1)) c.0 is.6 h.2
        (λ env2 of2 same ws k. body-have (field_sorts h.0) names h.1.sort (option_map meaning is.3) (meaning is.1) env2 ws
        (λ x d. has h.0 env2 of2 f is.1 h.1 x (subst (λ (P : ℕ → ℕ). FieldsStand P h.0 f) (sym same) (c.1 h.0 h.2)) is.5 h.3 h.4 h.5 d) k) m.1 in
        subst (λ (x : Sort). Sorted sc x v) (sym (ap (λ (x : Typed). x.sort) h.6))
        (subst (Sorted sc (set h.1.sort)) m.2 (a_set h.1.sort (first_occurrences m.0) (new-have (field_sorts sc) names h.1.sort [] m.0 (none_has h.1.sort) all) (sets_differ m.0)))
    has sc env of (cells at fs) t a v c is h given storable e = absurd h
    has sc env of (keyed_cells at ps) t a v c is h given storable e = absurd h
    has sc env of (question at op f) t a v c is h given storable e = absurd (let k : is_data a ≡ false = ap is_data h.4 in cc)

    have : (sc : Scope) (env : Environment) (of : Of sc env) (fs : Forms) (us : List Term) (parts : List Typed) (vs : List Value) → AllStand env.position sc fs → AllSay fs us → HaveTypes sc fs parts → Each IsData parts → Each (Is is_storable) parts →
        values_of (map meaning us) env ≡ Ok vs → HaveSorts (field_sorts sc) names (sorts_of (map (λ (x : Typed). x.sort) parts)) vs
    have sc env of no_forms [] parts vs c is h given storable e =
        subst (λ (ps : List Typed). HaveSorts (field_sorts sc) names (sorts_of (map (λ (x : Typed). x.sort) ps)) vs) (sym h) (subst (HaveSorts (field_sorts sc) names (sorts_of [])) (same_ok [] vs e) no_parts)
    have sc env of no_forms (u ∷ us) parts vs c is h given storable e = absurd is
    have sc env of (more_forms f fs) [] parts vs c is h given storable e = absurd is
    have sc env of (more_forms f fs) (u ∷ us) parts vs c is h given storable e =
        let w = went (eval u env) _ vs e in
        let x = went (values_of (map meaning us) env) _ vs w.2 in
        let d = subst (Each IsData) h.4 given in
        let s = subst (Each (Is is_storable)) h.4 storable in
        let first = has sc env of f u h.0 w.0 c.0 is.0 h.2 d.0 s.0 w.1 in
        let rest = have sc env of fs us h.1 x.0 c.1 is.1 h.3 d.1 s.1 x.1 in
        subst (λ (ps : List Typed). HaveSorts (field_sorts sc) names (sorts_of (map (λ (x : Typed). x.sort) ps)) vs) (sym h.4)
        (subst (HaveSorts (field_sorts sc) names (sorts_of (map (λ (x : Typed). x.sort) (h.0 ∷ h.1)))) (same_ok (w.0 ∷ x.0) vs x.2) (more_parts h.0.sort w.0 (sorts_of (map (λ (x : Typed). x.sort) h.1)) x.0 first rest))

    -- the elements of a set of parameters have its type
    pub elements-have : (sc : Scope) (env : Environment) (of : Of sc env) (over : SetForm) (t : SetTerm) (s : Sort) (v : Value) → SetStands env.position sc over → SetSays over t → IsSetOf sc over s → (set_meaning t).value env ≡ Ok v →
        AllSorted sc s (evaluation.elements (declaration_of ((set_meaning t).item env)) v)
    elements-have sc env of (whole f) t s v c is h e =
        let m = ap set_meaning is.1 ∙ set_meaning-Whole is.0 in
        let k = sym (ap (λ x. x.value env) m) ∙ e in
        subst (λ (x : Meaning). AllSorted sc s (evaluation.elements (declaration_of (x.item env)) v)) (sym m)
        (whole-has names sc env of f is.0 h.0 h.0.sort s v is.2 h.1 h.2 refl h.3 k (λ st. has sc env of f is.0 h.0 v c is.2 h.1 h.2 st k))
    elements-have sc env of (between low high) t s v c is h e =
        let m = ap set_meaning is.2 ∙ set_meaning-Between is.0 is.1 in
        subst (λ (x : Meaning). AllSorted sc s (evaluation.elements (declaration_of (x.item env)) v)) (sym m) (between-has names sc env of s is.0 is.1 v h.8 (sym (ap (λ x. x.value env) m) ∙ e))

    -- what is found under all choices of parameters, where under each all is of the type
    groups-have : (sc : Scope) (env : Environment) (of : Of sc env) (gs : Groups) (ts : List GroupTerm) (inner : Scope) (s : Sort) (vs : List Value) (body : Environment → Found (List Value)) → GroupsStand env.position sc gs → GroupsSay gs ts → GroupsOpen sc gs inner →
        ((env2 : Environment) → Of inner env2 → env2.position ≡ env.position → (ws : List Value) → body env2 ≡ Ok ws → AllSorted inner s ws) → visited (map group_meaning ts) body env ≡ Ok vs → AllSorted sc s vs
    groups-have sc env of no_groups [] inner s vs body c is o more e =
        subst (λ f. AllHaveSort f names s vs) (ap field_sorts o) (more env (subst (λ (x : Scope). Of x env) (sym o) of) refl vs e)
    groups-have sc env of no_groups (t ∷ ts) inner s vs body c is o more e = absurd is
    groups-have sc env of (more_groups ps over others) [] inner s vs body c is o more e = absurd is
    groups-have sc env of (more_groups ps over others) (t ∷ ts) inner s vs body c is o more e =
        let m = ap group_meaning is.2 ∙ group-means is.0 (map pattern_of ps) is.1 in
        let k = subst (λ (g : Group). visited (g ∷ map group_meaning ts) body env ≡ Ok vs) m e in
        let w = went ((set_meaning is.1).value env) _ vs k in
        let found = evaluation.elements (declaration_of ((set_meaning is.1).item env)) w.0 in
        let all = elements-have sc env of over is.1 o.0 w.0 c.0 is.3 o.3 w.1 in
        gathered-have (field_sorts sc) names s (λ qs. visited (map group_meaning ts) body (with_parameters qs env)) (cond is.0 (in_order (map pattern_of ps) found) (independent (map pattern_of ps) found))
        (each-choice (λ qs. Of o.1 (with_parameters qs env) × (field_sorts o.1 ≡ field_sorts sc)) _ (cond is.0 (in_order (map pattern_of ps) found) (independent (map pattern_of ps) found))
        (λ qs b ws d. subst (λ f. AllHaveSort f names s ws) b.1 (groups-have o.1 (with_parameters qs env) b.0 others ts inner s ws body (c.1 o.0 o.1 o.3 o.4) is.4 o.5 more d))
        (chosen is.0 ps sc env o.0 o.1 found o.4 of all)) vs w.2

    params-have : (sc : Scope) (env : Environment) (of : Of sc env) (p : Params) (ts : List GroupTerm) (inner : Scope) (s : Sort) (vs : List Value) (body : Environment → Found (List Value)) → ParamsStand env.position sc p → ParamsSay p ts → Opens data_alone sc p inner →
        ((env2 : Environment) → Of inner env2 → env2.position ≡ env.position → (ws : List Value) → body env2 ≡ Ok ws → AllSorted inner s ws) → visited (map group_meaning ts) body env ≡ Ok vs → AllSorted sc s vs
    params-have sc env of (all_of gs) ts inner s vs body c is o more e = groups-have sc env of gs ts inner s vs body c is o more e
    params-have sc env of (those_of gs condition) ts inner s vs body c is o more e = groups-have sc env of gs ts inner s vs body c is o.1 more e

-- ---- the law

pub values_are_of_their_sorts : ValuesAreOfTheirSorts
values_are_of_their_sorts names sc env e takes n v visible c h storable k =
    let s = typed.sound sc (form_add e) data_alone takes n h in
    has names sc env visible (form_add e) (add_term e) _ v c (add-says e) s.0 s.1 storable k
