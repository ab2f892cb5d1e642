-- What the rules of forms ask of their parts, in the words of typing and in those of the relation.
use Rattle.std.proofs.Common.{◌≡◌, ℕ, Bool, true, false, ◌&&◌, ◌||◌, not, ◌⊎◌, inl, inr, nat_eq, List, [], ◌∷◌, map, Option, Some, None, Ok, is_some, refl, ap, ◌∙◌, sym, arith}
use Rattle.std.specs.List.{list_any, list_all}
use Rattle.std.proofs.lemmas.Bool.{eqb-true}
use Rattle.opl_tree.specs.declared.expression.NameTree.{NameTree}
use Rattle.opl_tree.specs.declared.expression.Relation.{Relation}
use Rattle.opl_tree.specs.declared.expression.Relation.TheVariants as relations
use Rattle.opl_type_rules.specs.declared.fault.TypeFault.TheVariants.{Unknown}
use Rattle.opl_type_rules.specs.Types.{Sort, Sorts, is_number, is_anything, are_names, is_single, is_chosen, is_storable}
use Rattle.opl_type_rules.specs.Types.Sort.{int, enumeration, structure, array, activity, anything}
use Rattle.opl_type_rules.specs.Types.Sorts.{no_sorts, more_sorts}
use Rattle.opl_type_rules.specs.Scope.{and_then, unless, Thing, Scope, fits_in, joined_in, fit_one_struct, fields, field_sort}
use Rattle.opl_type_rules.specs.Expressions.{Node, made, of_data, all_sorts, name_node, are_ordered, are_related, subscripts_fit, may_be_decided, element_node, is_time, is_start_or_duration, known_field, field_node, is_member, element_type, set_type}
use Rattle.opl_type_rules.specs.Expressions as typing
use Rattle.opl_typed.specs.Relation.{Typed, composed, data_of, named_as, is_data, IsData, Each, AreOrdered, AreRelated, SubscriptsFit, MayChoose, IsElement, IsField, AreOne, set_of, typed_of}
use Rattle.opl_typed.specs.Relation.AreOrdered.{two_numbers, two_names, first_is_none, second_is_none}
use Rattle.opl_typed.proofs.Steps.{Fine, by-either, both-true, true-both, left-true, right-true, went, same_node, passed, unit-ok, sorts-are, are-sorts, decides-same, asks-same, data-same, all-each, each-all}

-- ---- what is composed

pub composed-same : (at : ℕ) (s : Sort) (ns : List Node) (r : Bool) → typed_of (made at s ns r) ≡ composed s (map typed_of ns)
composed-same at s ns r = λ i. record { sort = s; decides = decides-same ns i; asks = asks-same ns i; is_one = false; is_whole = false }

apart : (d decided a asked : Bool) → (not (d || decided) && not (a || asked)) ≡ true → ((not d && not a) ≡ true) × ((not decided && not asked) ≡ true)
apart true decided a asked h = absurd (cc)
apart false true a asked h = absurd (cc)
apart false false true asked h = absurd (cc)
apart false false false true h = absurd (cc)
apart false false false false h = (refl, refl)

joint : (d decided a asked : Bool) → (not d && not a) ≡ true → (not decided && not asked) ≡ true → (not (d || decided) && not (a || asked)) ≡ true
joint true decided a asked h g = absurd (cc)
joint false decided true asked h g = absurd (cc)
joint false decided false asked h g = g

-- what is composed is data exactly where its parts are
pub data-each : (ns : List Node) → (not (list_any (λ (n : Node). n.decides) ns) && not (list_any (λ (n : Node). n.asks) ns)) ≡ true → Each IsData (map typed_of ns)
data-each [] h = tt
data-each (n ∷ ns) h =
    let w = apart n.decides (list_any (λ (n : Node). n.decides) ns) n.asks (list_any (λ (n : Node). n.asks) ns) h in (w.0, data-each ns w.1)

pub each-data : (ns : List Node) → Each IsData (map typed_of ns) → (not (list_any (λ (n : Node). n.decides) ns) && not (list_any (λ (n : Node). n.asks) ns)) ≡ true
each-data [] h = refl
each-data (n ∷ ns) h = joint n.decides (list_any (λ (n : Node). n.decides) ns) n.asks (list_any (λ (n : Node). n.asks) ns) h.0 (each-data ns h.1)

neither : (a b : Bool) → (not a && not b) ≡ true → (a ≡ false) × (b ≡ false)
neither true b h = absurd (cc)
neither false true h = absurd (cc)
neither false false h = (refl, refl)

none-decides : (parts : List Typed) → Each IsData parts → (list_any (λ (a : Typed). a.decides) parts ≡ false) × (list_any (λ (a : Typed). a.asks) parts ≡ false)
none-decides [] h = (refl, refl)
none-decides (a ∷ parts) h =
    let w = neither a.decides a.asks h.0 in
    let v = none-decides parts h.1 in
    (ap (λ b. b || list_any (λ (a : Typed). a.decides) parts) w.0 ∙ v.0, ap (λ b. b || list_any (λ (a : Typed). a.asks) parts) w.1 ∙ v.1)

pub composed-data : (s : Sort) (parts : List Typed) → Each IsData parts → composed s parts ≡ data_of s
composed-data s parts h = let w = none-decides parts h in λ i. record { sort = s; decides = w.0 i; asks = w.1 i; is_one = false; is_whole = false }

pub sorts-same : (ns : List Node) → map (λ (n : Node). n.sort) ns ≡ map (λ (a : Typed). a.sort) (map typed_of ns)
sorts-same [] = refl
sorts-same (n ∷ ns) = ap (λ ss. n.sort ∷ ss) (sorts-same ns)

-- ---- names

pub name-typed : (name : NameTree) (o : Option Thing) (n : Node) → name_node name o ≡ Ok n → (thing : Thing) × (o ≡ Some thing) × (typed_of n ≡ named_as thing)
name-typed name None n h = absurd (cc)
name-typed name (Some thing) n h =
    (thing, refl, sym (ap typed_of (same_node (record { place = name.at; sort = (named_as thing).sort; decides = (named_as thing).decides; asks = false; is_one = (named_as thing).is_one; is_whole = (named_as thing).is_whole; takes_data = false; is_right = true; inner = [] }) n h)))

-- ---- comparisons

names-have : (a b : Sort) → are_names a b ≡ true → (k : ℕ) × (a ≡ enumeration k) × (b ≡ enumeration k)
names-have (enumeration k) (enumeration l) h = (k, refl, ap enumeration (sym (eqb-true k l h)))
names-have a b h = absurd (cc)

is-anything : (a : Sort) → is_anything a ≡ true → a ≡ anything
is-anything anything h = refl
is-anything a h = absurd (cc)

same-number : (k : ℕ) → nat_eq k k ≡ true
same-number k = grind arith

ordered-has : (a b : Sort) → are_ordered a b ≡ true → AreOrdered a b
ordered-has a b h =
    by-either (is_number a && is_number b) (is_anything a || (is_anything b || are_names a b)) h (λ p. let q = both-true (is_number a) (is_number b) p in two_numbers q.0 q.1)
    (λ g. by-either (is_anything a) (is_anything b || are_names a b) g (λ p. first_is_none (is-anything a p))
    (λ f. by-either (is_anything b) (are_names a b) f (λ p. second_is_none (is-anything b p)) (λ p. let n = names-have a b p in two_names n.0 n.1 n.2)))

has-ordered : (a b : Sort) → AreOrdered a b → are_ordered a b ≡ true
has-ordered a b (two_numbers p q) = left-true (is_number a && is_number b) (is_anything a || (is_anything b || are_names a b)) (true-both (is_number a) (is_number b) p q)
has-ordered a b (two_names k p q) = (λ i. are_ordered (p i) (q i)) ∙ same-number k
has-ordered a b (first_is_none p) = ap (λ c. are_ordered c b) p ∙ right-true (is_number b) true refl
has-ordered a b (second_is_none q) = ap (λ c. are_ordered a c) q ∙ right-true (is_number a && true) (is_anything a || true) (right-true (is_anything a) true refl)

equal-has : (sc : Scope) (a b : Sort) → (are_ordered a b || fit_one_struct sc a b) ≡ true → AreOrdered a b ⊎ (fit_one_struct sc a b ≡ true)
equal-has sc a b h = by-either (are_ordered a b) (fit_one_struct sc a b) h (λ p. inl (ordered-has a b p)) (λ p. inr p)

has-equal : (sc : Scope) (a b : Sort) → AreOrdered a b ⊎ (fit_one_struct sc a b ≡ true) → (are_ordered a b || fit_one_struct sc a b) ≡ true
has-equal sc a b (inl p) = left-true (are_ordered a b) (fit_one_struct sc a b) (has-ordered a b p)
has-equal sc a b (inr p) = right-true (are_ordered a b) (fit_one_struct sc a b) p

pub related-has : (sc : Scope) (relation : Relation) (a b : Sort) → are_related sc relation a b ≡ true → AreRelated sc relation a b
related-has sc relations.Equal a b h = equal-has sc a b h
related-has sc relations.NotEqual a b h = equal-has sc a b h
related-has sc relation a b h = ordered-has a b h

pub has-related : (sc : Scope) (relation : Relation) (a b : Sort) → AreRelated sc relation a b → are_related sc relation a b ≡ true
has-related sc relations.Equal a b h = has-equal sc a b h
has-related sc relations.NotEqual a b h = has-equal sc a b h
has-related sc relation a b h = has-ordered a b h

-- ---- elements

pub fit-has : (sc : Scope) (wants : Sorts) (ns : List Node) → subscripts_fit sc wants ns ≡ true → SubscriptsFit sc wants (map typed_of ns)
fit-has sc no_sorts [] h = tt
fit-has sc no_sorts (n ∷ ns) h = absurd (cc)
fit-has sc (more_sorts want wants) [] h = absurd (cc)
fit-has sc (more_sorts want wants) (n ∷ ns) h = let b = both-true (fits_in sc want n.sort) (subscripts_fit sc wants ns) h in (b.0, fit-has sc wants ns b.1)

pub has-fit : (sc : Scope) (wants : Sorts) (ns : List Node) → SubscriptsFit sc wants (map typed_of ns) → subscripts_fit sc wants ns ≡ true
has-fit sc no_sorts [] h = refl
has-fit sc no_sorts (n ∷ ns) h = absurd h
has-fit sc (more_sorts want wants) [] h = absurd h
has-fit sc (more_sorts want wants) (n ∷ ns) h = true-both (fits_in sc want n.sort) (subscripts_fit sc wants ns) h.0 (has-fit sc wants ns h.1)

pub each-of-nodes : (ns : List Node) → list_all typing.is_data ns ≡ true → Each IsData (map typed_of ns)
each-of-nodes ns h = all-each (map typed_of ns) (sym (data-same ns) ∙ h)

pub of-each-nodes : (ns : List Node) → Each IsData (map typed_of ns) → list_all typing.is_data ns ≡ true
of-each-nodes ns h = data-same ns ∙ each-all (map typed_of ns) h

choose-has : (ns : List Node) (element : Sort) → may_be_decided ns element ≡ true → MayChoose (map typed_of ns) element
choose-has ns element h =
    by-either (list_all typing.is_data ns) (all_sorts is_chosen ns && is_single element) h (λ d. inl (each-of-nodes ns d))
    (λ c. let b = both-true (all_sorts is_chosen ns) (is_single element) c in inr (sorts-are is_chosen ns b.0, b.1))

has-choose : (ns : List Node) (element : Sort) → MayChoose (map typed_of ns) element → may_be_decided ns element ≡ true
has-choose ns element (inl d) = left-true (list_all typing.is_data ns) (all_sorts is_chosen ns && is_single element) (of-each-nodes ns d)
has-choose ns element (inr c) =
    right-true (list_all typing.is_data ns) (all_sorts is_chosen ns && is_single element) (true-both (all_sorts is_chosen ns) (is_single element) (are-sorts is_chosen ns c.0) c.1)

-- the element of an array
element-is : (sc : Scope) (at : ℕ) (base : Node) (ns : List Node) (indices : Sorts) (element : Sort) →
    typed_of (element_node sc at base ns (array indices element)) ≡ record (composed element (typed_of base ∷ map typed_of ns)) { is_one = base.decides && (is_single element && list_all is_data (map typed_of ns)) }
element-is sc at base ns indices element =
    λ i. record { sort = element; decides = base.decides || decides-same ns i; asks = base.asks || asks-same ns i; is_one = base.decides && (is_single element && data-same ns i); is_whole = false }

pub element-has : (sc : Scope) (at : ℕ) (base : Node) (ns : List Node) (s : Sort) → (element_node sc at base ns s).is_right ≡ true →
    IsElement sc (typed_of base) (map typed_of ns) s (typed_of (element_node sc at base ns s))
element-has sc at base ns (array indices element) h =
    let b = both-true (subscripts_fit sc indices ns) (may_be_decided ns element) h in (fit-has sc indices ns b.0, choose-has ns element b.1, element-is sc at base ns indices element)
element-has sc at base ns anything h = composed-same at anything (base ∷ ns) true
element-has sc at base ns s h = absurd (cc)

pub has-element : (sc : Scope) (at : ℕ) (base : Node) (ns : List Node) (s : Sort) (t : Typed) → IsElement sc (typed_of base) (map typed_of ns) s t →
    Fine (element_node sc at base ns s) × (typed_of (element_node sc at base ns s) ≡ t)
has-element sc at base ns (array indices element) t h =
    (record { takes = refl; right = true-both (subscripts_fit sc indices ns) (may_be_decided ns element) (has-fit sc indices ns h.0) (has-choose ns element h.1) }, element-is sc at base ns indices element ∙ sym h.2)
has-element sc at base ns anything t h = (record { takes = refl; right = refl }, composed-same at anything (base ∷ ns) true ∙ sym h)
has-element sc at base ns s t h = absurd h

-- ---- fields

known-has : (sc : Scope) (at : ℕ) (base : Node) (name : NameTree) (o : Option Sort) (n : Node) → known_field at base name o ≡ Ok n →
    (s : Sort) × (o ≡ Some s) × (typed_of n ≡ composed s (typed_of base ∷ []))
known-has sc at base name None n h = absurd (cc)
known-has sc at base name (Some s) n h = (s, refl, sym (ap typed_of (same_node (made at s (base ∷ []) true) n h)))

pub field-has : (sc : Scope) (at : ℕ) (base : Node) (name : NameTree) (s : Sort) (n : Node) → field_node sc at base name s ≡ Ok n → n.is_right ≡ true → IsField sc (typed_of base) name s (typed_of n)
field-has sc at base name activity n h r =
    let time = record (made at int (base ∷ []) true) { is_one = is_start_or_duration name.text } in
    let w = went (unless (is_time name.text) (Unknown name.at)) (λ u. Ok time) n h in
    (passed (is_time name.text) (Unknown name.at) (unit-ok _ w.0 w.1), sym (ap typed_of (same_node time n w.2)))
field-has sc at base name (structure k) n h r = known-has sc at base name (field_sort name.text (fields sc k)) n h
field-has sc at base name anything n h r = sym (ap typed_of (same_node (made at anything (base ∷ []) true) n h))
field-has sc at base name s n h r = let e = ap (λ (m : Node). m.is_right) (same_node (made at anything (base ∷ []) (is_anything s)) n h) ∙ r in absurd (cc)

time-comes : (b : Bool) (at : ℕ) (n : Node) → b ≡ true → and_then (unless b (Unknown at)) (λ u. Ok n) ≡ Ok n
time-comes true at n h = refl
time-comes false at n h = absurd (cc)

known-comes : (at : ℕ) (base : Node) (name : NameTree) (o : Option Sort) (s : Sort) → o ≡ Some s → known_field at base name o ≡ Ok (made at s (base ∷ []) true)
known-comes at base name o s h = ap (known_field at base name) h

pub has-field : (sc : Scope) (at : ℕ) (base : Node) (name : NameTree) (s : Sort) (t : Typed) → IsField sc (typed_of base) name s t →
    (n : Node) × (field_node sc at base name s ≡ Ok n) × Fine n × (typed_of n ≡ t)
has-field sc at base name activity t h =
    let time = record (made at int (base ∷ []) true) { is_one = is_start_or_duration name.text } in
    (time, time-comes (is_time name.text) name.at time h.0, record { takes = refl; right = refl }, sym h.1)
has-field sc at base name (structure k) t h =
    (made at h.0 (base ∷ []) true, known-comes at base name (field_sort name.text (fields sc k)) h.0 h.1, record { takes = refl; right = refl }, sym h.2)
has-field sc at base name anything t h = (made at anything (base ∷ []) true, refl, record { takes = refl; right = refl }, sym h)
has-field sc at base name s t h = absurd h

-- ---- sets

pub member-has : (sc : Scope) (o : Option Sort) (s : Sort) → is_member sc o s ≡ true → (element : Sort) × (o ≡ Some element) × (is_storable s ≡ true) × (is_some (joined_in sc element s) ≡ true)
member-has sc None s h = absurd (cc)
member-has sc (Some element) s h = let b = both-true (is_storable s) (is_some (joined_in sc element s)) h in (element, refl, b.0, b.1)

pub has-member : (sc : Scope) (o : Option Sort) (element s : Sort) → o ≡ Some element → is_storable s ≡ true → is_some (joined_in sc element s) ≡ true → is_member sc o s ≡ true
has-member sc o element s e h g = ap (λ p. is_member sc p s) e ∙ true-both (is_storable s) (is_some (joined_in sc element s)) h g

no-type : (sc : Scope) (ns : List Node) → element_type sc None ns ≡ None
no-type sc [] = refl
no-type sc (n ∷ ns) = refl

some-is : {A : Type 0} (a b : A) → ◌≡◌ {A = Option A} (Some a) (Some b) → a ≡ b
some-is a b h = cc

none-some : {A B : Type 0} (b : B) → ◌≡◌ {A = Option B} None (Some b) → A
none-some b h = absurd (cc)

pub some-has : (o : Option Sort) → is_some o ≡ true → (s : Sort) × (o ≡ Some s)
some-has None h = absurd (cc)
some-has (Some s) h = (s, refl)

one-more : (sc : Scope) (ns : List Node) (before : Sort) (n : Node) (o : Option Sort) (s : Sort) → joined_in sc before n.sort ≡ o →
    ((both : Sort) → element_type sc (Some both) ns ≡ Some s → AreOne sc both (map typed_of ns) s) → element_type sc o ns ≡ Some s → AreOne sc before (typed_of n ∷ map typed_of ns) s
one-more sc ns before n None s e below h = none-some s (sym (no-type sc ns) ∙ h)
one-more sc ns before n (Some both) s e below h = (both, e, below both h)

pub one-has : (ns : List Node) (sc : Scope) (before s : Sort) → element_type sc (Some before) ns ≡ Some s → AreOne sc before (map typed_of ns) s
one-has [] sc before s h = sym (some-is before s h)
one-has (n ∷ ns) sc before s h = one-more sc ns before n (joined_in sc before n.sort) s refl (λ both g. one-has ns sc both s g) h

pub has-one : (ns : List Node) (sc : Scope) (before s : Sort) → AreOne sc before (map typed_of ns) s → element_type sc (Some before) ns ≡ Some s
has-one [] sc before s h = ap Some (sym h)
has-one (n ∷ ns) sc before s h = ap (λ o. element_type sc o ns) h.1 ∙ has-one ns sc h.0 s h.2

pub set-type : (ns : List Node) (s : Sort) → set_type ns (Some s) ≡ set_of (map typed_of ns) s
set-type [] s = refl
set-type (n ∷ ns) s = refl
