-- What the relation has, typing finds.
use Rattle.std.proofs.Common.{◌≡◌, ℕ, Bool, true, false, ◌&&◌, List, [], ◌∷◌, ◌++◌, map, Option, Some, Ok, is_some, refl, ap, ◌∙◌, sym, subst}
use Rattle.std.specs.List.{flat_map}
use Rattle.opl_tree.specs.declared.expression.NameTree.{NameTree}
use Rattle.opl_tree.specs.declared.expression.PatternTree.{PatternTree}
use Rattle.opl_tree.specs.declared.expression.Relation.{Relation}
use Rattle.opl_type_rules.specs.Types.{Sort, sorts_of, elements, is_number, is_truth, is_set, is_storable, is_array_of_single}
use Rattle.opl_type_rules.specs.Types.Sort.{int, bool, row, set, anything}
use Rattle.opl_type_rules.specs.Scope.{Checked, and_then, Thing, Scope, lookup, all_fresh, joined_in}
use Rattle.opl_type_rules.specs.Forms.{Form, Forms, SetForm, Groups, Params}
use Rattle.opl_type_rules.specs.Forms.Form.{number, named, bracket, negative, arithmetic, absolute, related, member, connected, aggregate, cardinality, all_different, subscripted, field, tuple, listed, described, cells, keyed_cells, question}
use Rattle.opl_type_rules.specs.Forms.Forms.{no_forms, more_forms}
use Rattle.opl_type_rules.specs.Forms.SetForm.{whole, between}
use Rattle.opl_type_rules.specs.Forms.Groups.{no_groups, more_groups}
use Rattle.opl_type_rules.specs.Forms.Params.{all_of, those_of}
use Rattle.opl_type_rules.specs.Expressions.{Node, Need, Opened, Range, node, made, of_data, kinds, kinds_in, used, part, data_number, any_type, all_sorts, name_node, are_related, is_member, element_node, field_node, element_type, set_type, question_node, bracketed, or_anything, pattern_names, bind_patterns, typing, typed_parts, typed_set, open_groups, open_params, scope_within}
use Rattle.opl_type_rules.specs.Expressions.Need.{nothing, data_alone}
use Rattle.opl_typed.specs.Relation.{Typed, composed, data_of, named_as, IsData, Is, Each, Meets, AreRelated, AreOne, set_of, IsElement, IsField, HasType, HaveTypes, IsSetOf, GroupsOpen, Opens, typed_of}
use Rattle.opl_typed.proofs.Steps.{Fine, true-both, goes, is_used, are-sorts}
use Rattle.opl_typed.proofs.Parts.{has-related, composed-same, each-data, composed-data, sorts-same, has-element, has-field, has-member, has-one, set-type}
use Rattle.opl_typed.proofs.Names.{new-fresh, have-patterns}

-- ---- what comes of an expression, of several, of a set, and of parameters

pub record Comes (c : Checked Node) (t : Typed) : Type 0 where
  pub node : Node
  pub given : c ≡ Ok node
  pub fine : Fine node
  pub is : typed_of node ≡ t

pub record AllCome (c : Checked (List Node)) (ts : List Typed) : Type 0 where
  pub nodes : List Node
  pub given : c ≡ Ok nodes
  pub are : map typed_of nodes ≡ ts

pub record SetComes (c : Checked Range) (s : Sort) : Type 0 where
  pub range : Range
  pub given : c ≡ Ok range
  pub has : range.element ≡ Some s
  pub plain : Each IsData (map typed_of range.nodes)

pub record Opening (c : Checked Opened) (inner : Scope) : Type 0 where
  pub opened : Opened
  pub given : c ≡ Ok opened
  pub is : opened.scope ≡ inner

-- ---- in a place

-- an expression that comes to a type fits a place that takes it
pub fits-place : (c : Checked Node) (t : Typed) (need : Need) (takes : Sort → Bool) (k : Comes c t) → Meets need t → takes t.sort ≡ true → and_then c (used need takes) ≡ Ok k.node
fits-place c t need takes k h g =
    goes c (used need takes) k.node k.given
    ∙ is_used need takes k.node (record { fine = k.fine; meets = subst (Meets need) (sym k.is) h; taken = ap (λ (a : Typed). takes a.sort) k.is ∙ g })

as-part : (c : Checked Node) (t : Typed) (k : Comes c t) → and_then c part ≡ Ok k.node
as-part c t k = fits-place c t nothing any_type k tt refl

-- ---- what is made of one expression, and of several

one : (c : Checked Node) (a : Typed) (make : Node → Node) (t : Typed) → Comes c a → ((m : Node) → typed_of m ≡ a → Fine (make m) × (typed_of (make m) ≡ t)) → Comes (and_then (and_then c part) (λ m. Ok (make m))) t
one c a make t k build =
    let b = build k.node k.is in
    record { node = make k.node; given = goes (and_then c part) (λ m. Ok (make m)) k.node (as-part c a k); fine = b.0; is = b.1 }

several : (c : Checked (List Node)) (ts : List Typed) (make : List Node → Node) (t : Typed) → AllCome c ts → ((ns : List Node) → map typed_of ns ≡ ts → Fine (make ns) × (typed_of (make ns) ≡ t)) →
    Comes (and_then c (λ ns. Ok (make ns))) t
several c ts make t k build =
    let b = build k.nodes k.are in
    record { node = make k.nodes; given = goes c (λ ns. Ok (make ns)) k.nodes k.given; fine = b.0; is = b.1 }

-- behind a step that was passed
behind : {A : Type 0} (c : Checked A) (f : A → Checked Node) (a : A) (t : Typed) → c ≡ Ok a → Comes (f a) t → Comes (and_then c f) t
behind c f a t h k = record { node = k.node; given = goes c f a h ∙ k.given; fine = k.fine; is = k.is }

number-is : (m : Node) (a : Typed) (test : Sort → Bool) → typed_of m ≡ a → Is test a → test m.sort ≡ true
number-is m a test e h = ap (λ (b : Typed). test b.sort) e ∙ h

-- ---- names

abbrev node_of_name : NameTree → Thing → Node
node_of_name name thing = record { place = name.at; sort = (named_as thing).sort; decides = (named_as thing).decides; asks = false; is_one = (named_as thing).is_one; is_whole = (named_as thing).is_whole; takes_data = false; is_right = true; inner = [] }

named-comes : (name : NameTree) (o : Option Thing) (thing : Thing) (t : Typed) → o ≡ Some thing → t ≡ named_as thing → Comes (name_node name o) t
named-comes name o thing t h e =
    record { node = node_of_name name thing; given = ap (name_node name) h; fine = record { takes = refl; right = refl }; is = sym e }

-- ---- comparisons

related-comes : (sc : Scope) (at : ℕ) (c d : Checked Node) (relation : Relation) (a b t : Typed) → Comes c a → Comes d b → AreRelated sc relation a.sort b.sort → t ≡ composed bool (a ∷ b ∷ []) →
    Comes (and_then (and_then c part) (λ m. and_then (and_then d part) (λ n. Ok (made at bool (m ∷ n ∷ []) (are_related sc relation m.sort n.sort))))) t
related-comes sc at c d relation a b t k l h e =
    behind (and_then c part) (λ m. and_then (and_then d part) (λ n. Ok (made at bool (m ∷ n ∷ []) (are_related sc relation m.sort n.sort)))) k.node t (as-part c a k)
    (one d b (λ n. made at bool (k.node ∷ n ∷ []) (are_related sc relation k.node.sort n.sort)) t l
    (λ n f. (record { takes = refl; right = (λ i. are_related sc relation (k.is i).sort (f i).sort) ∙ has-related sc relation a.sort b.sort h }, (λ i. composed bool (k.is i ∷ f i ∷ [])) ∙ sym e)))

-- ---- what is data

-- the place of a part of data
data-part : (m : Node) (a : Typed) → typed_of m ≡ a → IsData a → Each IsData (map typed_of (m ∷ []))
data-part m a e h = (subst IsData (sym e) h, tt)

member-comes : (sc : Scope) (at : ℕ) (c : Checked Node) (d : Checked Range) (a t : Typed) (s : Sort) → Comes c a → SetComes d s → IsData a → is_storable a.sort ≡ true → is_some (joined_in sc s a.sort) ≡ true → t ≡ data_of bool →
    Comes (and_then (and_then c part) (λ m. and_then d (λ range. Ok (of_data (made at bool (m ∷ range.nodes) (is_member sc range.element m.sort)))))) t
member-comes sc at c d a t s k l plain storable joins e =
    let parts = k.node ∷ l.range.nodes in
    let r = is_member sc l.range.element k.node.sort in
    let all : Each IsData (map typed_of parts) = (subst IsData (sym k.is) plain, l.plain) in
    let right : r ≡ true = has-member sc l.range.element s k.node.sort l.has (ap (λ (b : Typed). is_storable b.sort) k.is ∙ storable) (ap (λ (b : Typed). is_some (joined_in sc s b.sort)) k.is ∙ joins) in
    behind (and_then c part) (λ m. and_then d (λ range. Ok (of_data (made at bool (m ∷ range.nodes) (is_member sc range.element m.sort))))) k.node t (as-part c a k)
    (behind d (λ range. Ok (of_data (made at bool (k.node ∷ range.nodes) (is_member sc range.element k.node.sort)))) l.range t l.given
    (record { node = of_data (made at bool parts r); given = refl; fine = record { takes = each-data parts all; right = right }; is = composed-same at bool parts r ∙ composed-data bool (map typed_of parts) all ∙ sym e }))

tuple-build : (at : ℕ) (ts : List Typed) (t : Typed) → Each IsData ts → Each (Is is_storable) ts → t ≡ data_of (row (sorts_of (map (λ a. a.sort) ts))) → (ns : List Node) → map typed_of ns ≡ ts →
    Fine (of_data (made at (row (sorts_of (map (λ n. n.sort) ns))) ns (all_sorts is_storable ns))) × (typed_of (of_data (made at (row (sorts_of (map (λ n. n.sort) ns))) ns (all_sorts is_storable ns))) ≡ t)
tuple-build at ts t plain storable e ns are =
    let s = row (sorts_of (map (λ (n : Node). n.sort) ns)) in
    let all = subst (Each IsData) (sym are) plain in (
      record { takes = each-data ns all; right = are-sorts is_storable ns (subst (Each (Is is_storable)) (sym are) storable) },
      composed-same at s ns (all_sorts is_storable ns) ∙ composed-data s (map typed_of ns) all ∙ ap (λ ss. data_of (row (sorts_of ss))) (sorts-same ns ∙ ap (map (λ (a : Typed). a.sort)) are) ∙ sym e,
    )

listed-build : (sc : Scope) (at : ℕ) (ts : List Typed) (s : Sort) (t : Typed) → Each IsData ts → Each (Is is_storable) ts → AreOne sc anything ts s → t ≡ data_of (set_of ts s) → (ns : List Node) → map typed_of ns ≡ ts →
    Fine (of_data (made at (set_type ns (element_type sc (Some anything) ns)) ns (all_sorts is_storable ns && is_some (element_type sc (Some anything) ns))))
    × (typed_of (of_data (made at (set_type ns (element_type sc (Some anything) ns)) ns (all_sorts is_storable ns && is_some (element_type sc (Some anything) ns)))) ≡ t)
listed-build sc at ts s t plain storable same e ns are =
    let found : element_type sc (Some anything) ns ≡ Some s = has-one ns sc anything s (subst (λ us. AreOne sc anything us s) (sym are) same) in
    let r = all_sorts is_storable ns && is_some (element_type sc (Some anything) ns) in
    let is = set_type ns (element_type sc (Some anything) ns) in
    let all = subst (Each IsData) (sym are) plain in (
      record {
        takes = each-data ns all;
        right = true-both (all_sorts is_storable ns) (is_some (element_type sc (Some anything) ns)) (are-sorts is_storable ns (subst (Each (Is is_storable)) (sym are) storable)) (ap is_some found);
      },
      composed-same at is ns r ∙ composed-data is (map typed_of ns) all ∙ ap data_of (ap (set_type ns) found ∙ set-type ns s ∙ ap (λ us. set_of us s) are) ∙ sym e,
    )

-- the body of a set that is described stands behind the parameters
described-comes : (sc : Scope) (at : ℕ) (f : Form) (p : Params) (inner : Scope) (a t : Typed) → Opening (open_params data_alone sc p) inner → Comes (typing inner f) a → IsData a → is_storable a.sort ≡ true → t ≡ data_of (set a.sort) →
    Comes (and_then (and_then (typing (scope_within sc p (open_params data_alone sc p)) f) part) (λ n. and_then (open_params data_alone sc p) (λ o. Ok (of_data (node at (set n.sort) (n ∷ []) (is_storable n.sort) (kinds n ++ o.kinds)))))) t
described-comes sc at f p inner a t o k plain storable e =
    let there : scope_within sc p (open_params data_alone sc p) ≡ inner = ap (scope_within sc p) o.given ∙ o.is in
    let body : and_then (typing (scope_within sc p (open_params data_alone sc p)) f) part ≡ Ok k.node = ap (λ s. and_then (typing s f) part) there ∙ as-part (typing inner f) a k in
    let n = k.node in
    let all : Each IsData (typed_of n ∷ []) = (subst IsData (sym k.is) plain, tt) in
    behind (and_then (typing (scope_within sc p (open_params data_alone sc p)) f) part) (λ n. and_then (open_params data_alone sc p) (λ o. Ok (of_data (node at (set n.sort) (n ∷ []) (is_storable n.sort) (kinds n ++ o.kinds))))) n t body
    (behind (open_params data_alone sc p) (λ o. Ok (of_data (node at (set n.sort) (n ∷ []) (is_storable n.sort) (kinds n ++ o.kinds)))) o.opened t o.given
    (record {
      node = of_data (node at (set n.sort) (n ∷ []) (is_storable n.sort) (kinds n ++ o.opened.kinds));
      given = refl;
      fine = record { takes = each-data (n ∷ []) all; right = ap (λ (b : Typed). is_storable b.sort) k.is ∙ storable };
      is = composed-data (set n.sort) (typed_of n ∷ []) all ∙ ap (λ (b : Typed). data_of (set b.sort)) k.is ∙ sym e;
    }))

aggregate-comes : (sc : Scope) (at : ℕ) (f : Form) (p : Params) (inner : Scope) (a t : Typed) → Opening (open_params data_alone sc p) inner → Comes (typing inner f) a → is_number a.sort ≡ true → t ≡ composed int (a ∷ []) →
    Comes (and_then (open_params data_alone sc p) (λ o. and_then (and_then (typing o.scope f) part) (λ n. Ok (node at int (n ∷ []) (is_number n.sort) (o.kinds ++ kinds n))))) t
aggregate-comes sc at f p inner a t o k h e =
    behind (open_params data_alone sc p) (λ o. and_then (and_then (typing o.scope f) part) (λ n. Ok (node at int (n ∷ []) (is_number n.sort) (o.kinds ++ kinds n)))) o.opened t o.given
    (one (typing o.opened.scope f) a (λ n. node at int (n ∷ []) (is_number n.sort) (o.opened.kinds ++ kinds n)) t (subst (λ s. Comes (typing s f) a) (sym o.is) k)
    (λ m g. (record { takes = refl; right = ap (λ (b : Typed). is_number b.sort) g ∙ h }, ap (λ b. composed int (b ∷ [])) g ∙ sym e)))

-- ---- elements and fields

element-comes : (sc : Scope) (at : ℕ) (c : Checked Node) (d : Checked (List Node)) (base : Typed) (ts : List Typed) (t : Typed) → Comes c base → AllCome d ts → IsElement sc base ts base.sort t →
    Comes (and_then (and_then c part) (λ b. and_then d (λ ns. Ok (element_node sc at b ns b.sort)))) t
element-comes sc at c d base ts t k l h =
    let own : IsElement sc (typed_of k.node) (map typed_of l.nodes) k.node.sort t = subst (λ us. IsElement sc (typed_of k.node) us k.node.sort t) (sym l.are) (subst (λ (b : Typed). IsElement sc b ts b.sort t) (sym k.is) h) in
    let w = has-element sc at k.node l.nodes k.node.sort t own in
    behind (and_then c part) (λ b. and_then d (λ ns. Ok (element_node sc at b ns b.sort))) k.node t (as-part c base k)
    (behind d (λ ns. Ok (element_node sc at k.node ns k.node.sort)) l.nodes t l.given (record { node = element_node sc at k.node l.nodes k.node.sort; given = refl; fine = w.0; is = w.1 }))

field-comes : (sc : Scope) (at : ℕ) (c : Checked Node) (name : NameTree) (base t : Typed) → Comes c base → IsField sc base name base.sort t → Comes (and_then (and_then c part) (λ b. field_node sc at b name b.sort)) t
field-comes sc at c name base t k h =
    let w = has-field sc at k.node name k.node.sort t (subst (λ (b : Typed). IsField sc b name b.sort t) (sym k.is) h) in
    behind (and_then c part) (λ b. field_node sc at b name b.sort) k.node t (as-part c base k) (record { node = w.0; given = w.1; fine = w.2; is = w.3 })

-- ---- sets and parameters

whole-comes : (c : Checked Node) (need : Need) (takes : Sort → Bool) (a : Typed) (s : Sort) → Comes c a → Meets need a → takes a.sort ≡ true → IsData a → elements a.sort ≡ Some s →
    SetComes (and_then (and_then c (used need takes)) (λ n. Ok (record { nodes = n ∷ []; element = elements n.sort }))) s
whole-comes c need takes a s k meets taken plain has = record {
  range = record { nodes = k.node ∷ []; element = elements k.node.sort };
  given = goes (and_then c (used need takes)) (λ n. Ok (record { nodes = n ∷ []; element = elements n.sort })) k.node (fits-place c a need takes k meets taken);
  has = ap (λ (b : Typed). elements b.sort) k.is ∙ has;
  plain = (subst IsData (sym k.is) plain, tt);
}

between-comes : (c d : Checked Node) (a b : Typed) (s : Sort) → Comes c a → Comes d b → IsData a → IsData b → is_number a.sort ≡ true → is_number b.sort ≡ true → s ≡ int →
    SetComes (and_then (and_then c data_number) (λ m. and_then (and_then d data_number) (λ n. Ok (record { nodes = m ∷ n ∷ []; element = Some int })))) s
between-comes c d a b s k l plain also low high e = record {
  range = record { nodes = k.node ∷ l.node ∷ []; element = Some int };
  given =
      goes (and_then c data_number) (λ m. and_then (and_then d data_number) (λ n. Ok (record { nodes = m ∷ n ∷ []; element = Some int }))) k.node (fits-place c a data_alone is_number k plain low)
      ∙ goes (and_then d data_number) (λ n. Ok (record { nodes = k.node ∷ n ∷ []; element = Some int })) l.node (fits-place d b data_alone is_number l also high);
  has = ap Some (sym e);
  plain = (subst IsData (sym k.is) plain, (subst IsData (sym l.is) also, tt));
}

groups-come : (sc : Scope) (ps : List PatternTree) (over : SetForm) (others : Groups) (s : Sort) (mid inner : Scope) → all_fresh sc (flat_map pattern_names ps) ≡ Ok tt → SetComes (typed_set data_alone is_set sc over) s →
    bind_patterns sc s ps ≡ Ok mid → Opening (open_groups mid others) inner →
    Opening (and_then (all_fresh sc (flat_map pattern_names ps)) (λ u. and_then (typed_set data_alone is_set sc over) (λ range. and_then (bind_patterns sc (or_anything range.element) ps) (λ there. and_then (open_groups there others) (λ o. Ok (record { scope = o.scope; kinds = kinds_in range.nodes ++ o.kinds })))))) inner
groups-come sc ps over others s mid inner new range names o = record {
  opened = record { scope = o.opened.scope; kinds = kinds_in range.range.nodes ++ o.opened.kinds };
  given =
      goes (all_fresh sc (flat_map pattern_names ps)) (λ u. and_then (typed_set data_alone is_set sc over) (λ range. and_then (bind_patterns sc (or_anything range.element) ps) (λ there. and_then (open_groups there others) (λ o. Ok (record { scope = o.scope; kinds = kinds_in range.nodes ++ o.kinds }))))) tt new
      ∙ goes (typed_set data_alone is_set sc over) (λ range. and_then (bind_patterns sc (or_anything range.element) ps) (λ there. and_then (open_groups there others) (λ o. Ok (record { scope = o.scope; kinds = kinds_in range.nodes ++ o.kinds })))) range.range range.given
      ∙ goes (bind_patterns sc (or_anything range.range.element) ps) (λ there. and_then (open_groups there others) (λ o. Ok (record { scope = o.scope; kinds = kinds_in range.range.nodes ++ o.kinds }))) mid (ap (λ e. bind_patterns sc (or_anything e) ps) range.has ∙ names)
      ∙ goes (open_groups mid others) (λ o. Ok (record { scope = o.scope; kinds = kinds_in range.range.nodes ++ o.kinds })) o.opened o.given;
  is = o.is;
}

condition-comes : (need : Need) (c : Checked Opened) (condition : Form) (inner : Scope) (a : Typed) → Opening c inner → Comes (typing inner condition) a → Meets need a → is_truth a.sort ≡ true →
    Opening (and_then c (λ o. and_then (and_then (typing o.scope condition) (used need is_truth)) (λ n. Ok (record { scope = o.scope; kinds = o.kinds ++ kinds n })))) inner
condition-comes need c condition inner a o k meets truth =
    let there = subst (λ s. Comes (typing s condition) a) (sym o.is) k in record {
      opened = record { scope = o.opened.scope; kinds = o.opened.kinds ++ kinds there.node };
      given =
          goes c (λ o. and_then (and_then (typing o.scope condition) (used need is_truth)) (λ n. Ok (record { scope = o.scope; kinds = o.kinds ++ kinds n }))) o.opened o.given
          ∙ goes (and_then (typing o.opened.scope condition) (used need is_truth)) (λ n. Ok (record { scope = o.opened.scope; kinds = o.opened.kinds ++ kinds n })) there.node (fits-place (typing o.opened.scope condition) a need is_truth there meets truth);
      is = o.is;
    }

-- what has elements is a set
elements-set : (a : Typed) (s : Sort) → elements a.sort ≡ Some s → is_set a.sort ≡ true
elements-set a s h = ap is_some h

bracket-comes : (at : ℕ) (c : Checked Node) (t : Typed) → Comes c t → Comes (and_then (and_then c part) (λ n. Ok (bracketed at n))) t
bracket-comes at c t k =
    behind (and_then c part) (λ n. Ok (bracketed at n)) k.node t (as-part c t k) (record { node = bracketed at k.node; given = refl; fine = record { takes = k.fine.takes; right = k.fine.right }; is = k.is })

more-come : (c : Checked Node) (d : Checked (List Node)) (a : Typed) (rest ts : List Typed) → Comes c a → AllCome d rest → ts ≡ a ∷ rest → AllCome (and_then (and_then c part) (λ n. and_then d (λ ns. Ok (n ∷ ns)))) ts
more-come c d a rest ts k l e = record {
  nodes = k.node ∷ l.nodes;
  given = goes (and_then c part) (λ n. and_then d (λ ns. Ok (n ∷ ns))) k.node (as-part c a k) ∙ goes d (λ ns. Ok (k.node ∷ ns)) l.nodes l.given;
  are = (λ i. k.is i ∷ l.are i) ∙ sym e;
}

-- ---- the forms

mutual
  unfolding typing

  pub complete : (f : Form) (sc : Scope) (t : Typed) → HasType sc f t → Comes (typing sc f) t
  complete (number at) sc t h = record { node = made at int [] true; given = refl; fine = record { takes = refl; right = refl }; is = sym h }
  complete (named name) sc t h = named-comes name (lookup sc name.text) h.0 t h.1 h.2
  complete (bracket at f) sc t h = bracket-comes at (typing sc f) t (complete f sc t h)
  complete (negative at f) sc t h =
      one (typing sc f) h.0 (λ m. made at int (m ∷ []) (is_number m.sort)) t (complete f sc h.0 h.1)
      (λ m e. (record { takes = refl; right = number-is m h.0 is_number e h.2 }, ap (λ b. composed int (b ∷ [])) e ∙ sym h.3))
  complete (arithmetic at fs) sc t h =
      several (typed_parts sc fs) h.0 (λ ns. made at int ns (all_sorts is_number ns)) t (all-complete fs sc h.0 h.1)
      (λ ns e. (record { takes = refl; right = are-sorts is_number ns (subst (Each (Is is_number)) (sym e) h.2) }, composed-same at int ns (all_sorts is_number ns) ∙ ap (composed int) e ∙ sym h.3))
  complete (absolute at f) sc t h =
      one (typing sc f) h.0 (λ m. made at int (m ∷ []) (is_number m.sort)) t (complete f sc h.0 h.1)
      (λ m e. (record { takes = refl; right = number-is m h.0 is_number e h.2 }, ap (λ b. composed int (b ∷ [])) e ∙ sym h.3))
  complete (related at f relation g) sc t h = related-comes sc at (typing sc f) (typing sc g) relation h.0 h.1 t (complete f sc h.0 h.2) (complete g sc h.1 h.3) h.4 h.5
  complete (member at f over) sc t h =
      member-comes sc at (typing sc f) (typed_set nothing any_type sc over) h.0 t h.1 (complete f sc h.0 h.2) (set-complete over nothing any_type sc h.1 (λ a p. tt) (λ a e. refl) h.3) h.4 h.5 h.6 h.7
  complete (connected at fs) sc t h =
      several (typed_parts sc fs) h.0 (λ ns. made at bool ns (all_sorts is_truth ns)) t (all-complete fs sc h.0 h.1)
      (λ ns e. (record { takes = refl; right = are-sorts is_truth ns (subst (Each (Is is_truth)) (sym e) h.2) }, composed-same at bool ns (all_sorts is_truth ns) ∙ ap (composed bool) e ∙ sym h.3))
  complete (aggregate at p f) sc t h = aggregate-comes sc at f p h.0 h.1 t (params-complete p data_alone sc h.0 h.2) (complete f h.0 h.1 h.3) h.4 h.5
  complete (cardinality at f) sc t h =
      one (typing sc f) h.0 (λ m. made at int (m ∷ []) (is_set m.sort)) t (complete f sc h.0 h.1)
      (λ m e. (record { takes = refl; right = number-is m h.0 is_set e h.2 }, ap (λ b. composed int (b ∷ [])) e ∙ sym h.3))
  complete (all_different at f) sc t h =
      one (typing sc f) h.0 (λ m. made at bool (m ∷ []) (is_array_of_single m.sort)) t (complete f sc h.0 h.1)
      (λ m e. (record { takes = refl; right = number-is m h.0 is_array_of_single e h.2 }, ap (λ b. composed bool (b ∷ [])) e ∙ sym h.3))
  complete (subscripted at f es) sc t h = element-comes sc at (typing sc f) (typed_parts sc es) h.0 h.1 t (complete f sc h.0 h.2) (all-complete es sc h.1 h.3) h.4
  complete (field at f name) sc t h = field-comes sc at (typing sc f) name h.0 t (complete f sc h.0 h.1) h.2
  complete (tuple at fs) sc t h =
      several (typed_parts sc fs) h.0 (λ ns. of_data (made at (row (sorts_of (map (λ n. n.sort) ns))) ns (all_sorts is_storable ns))) t (all-complete fs sc h.0 h.1) (tuple-build at h.0 t h.2 h.3 h.4)
  complete (listed at fs) sc t h =
      several (typed_parts sc fs) h.0 (λ ns. of_data (made at (set_type ns (element_type sc (Some anything) ns)) ns (all_sorts is_storable ns && is_some (element_type sc (Some anything) ns)))) t
      (all-complete fs sc h.0 h.2) (listed-build sc at h.0 h.1 t h.3 h.4 h.5 h.6)
  complete (described at f p) sc t h = described-comes sc at f p h.0 h.1 t (params-complete p data_alone sc h.0 h.2) (complete f h.0 h.1 h.3) h.4 h.5 h.6
  complete (cells at fs) sc t h = absurd h
  complete (keyed_cells at ps) sc t h = absurd h
  complete (question at op f) sc t h =
      one (typing sc f) h.0 (question_node sc at op) t (complete f sc h.0 h.1)
      (λ m e. (record { takes = refl; right = true-both sc.is_search m.is_one h.2 (ap (λ (b : Typed). b.is_one) e ∙ h.3) }, sym h.4))

  pub all-complete : (fs : Forms) (sc : Scope) (ts : List Typed) → HaveTypes sc fs ts → AllCome (typed_parts sc fs) ts
  all-complete no_forms sc ts h = record { nodes = []; given = refl; are = sym h }
  all-complete (more_forms f fs) sc ts h = more-come (typing sc f) (typed_parts sc fs) h.0 h.1 ts (complete f sc h.0 h.2) (all-complete fs sc h.1 h.3) h.4

  pub set-complete : (over : SetForm) (need : Need) (takes : Sort → Bool) (sc : Scope) (s : Sort) → ((a : Typed) → IsData a → Meets need a) → ((a : Typed) → is_set a.sort ≡ true → takes a.sort ≡ true) → IsSetOf sc over s →
      SetComes (typed_set need takes sc over) s
  set-complete (whole f) need takes sc s meets taken h = whole-comes (typing sc f) need takes h.0 s (complete f sc h.0 h.1) (meets h.0 h.2) (taken h.0 (elements-set h.0 s h.3)) h.2 h.3
  set-complete (between low high) need takes sc s meets taken h = between-comes (typing sc low) (typing sc high) h.0 h.1 s (complete low sc h.0 h.2) (complete high sc h.1 h.3) h.4 h.5 h.6 h.7 h.8

  pub groups-complete : (gs : Groups) (sc inner : Scope) → GroupsOpen sc gs inner → Opening (open_groups sc gs) inner
  groups-complete no_groups sc inner h = record { opened = record { scope = sc; kinds = [] }; given = refl; is = sym h }
  groups-complete (more_groups ps over others) sc inner h =
      groups-come sc ps over others h.0 h.1 inner (new-fresh (flat_map pattern_names ps) sc h.2) (set-complete over data_alone is_set sc h.0 (λ a p. p) (λ a e. e) h.3) (have-patterns ps sc h.0 h.1 h.4) (groups-complete others h.1 inner h.5)

  pub params-complete : (p : Params) (need : Need) (sc inner : Scope) → Opens need sc p inner → Opening (open_params need sc p) inner
  params-complete (all_of gs) need sc inner h = groups-complete gs sc inner h
  params-complete (those_of gs condition) need sc inner h = condition-comes need (open_groups sc gs) condition inner h.0 (groups-complete gs sc inner h.1) (complete condition inner h.0 h.2) h.3 h.4
