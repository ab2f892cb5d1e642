-- What typing finds, the relation has.
use Rattle.std.proofs.Common.{◌≡◌, Bool, true, false, ◌&&◌, List, [], ◌∷◌, ◌++◌, map, Option, Some, Ok, is_some, refl, ap, ◌∙◌, sym, subst}
use Rattle.std.specs.List.{flat_map}
use Rattle.opl_type_rules.specs.Types.{Sort, sorts_of, elements, is_number, is_truth, is_set, is_storable, is_array_of_single}
use Rattle.opl_type_rules.specs.Types.Sort.{int, bool, row, set, anything}
use Rattle.opl_type_rules.specs.Scope.{Checked, and_then, Scope, lookup, all_fresh}
use Rattle.opl_type_rules.specs.Forms.{Form, Forms, SetForm, Groups, Params}
use Rattle.opl_type_rules.specs.Forms.Form.{number, named, bracket, negative, arithmetic, absolute, related, member, connected, aggregate, cardinality, all_different, subscripted, field, tuple, listed, described, cells, keyed_cells, question}
use Rattle.opl_type_rules.specs.Forms.Forms.{no_forms, more_forms}
use Rattle.opl_type_rules.specs.Forms.SetForm.{whole, between}
use Rattle.opl_type_rules.specs.Forms.Groups.{no_groups, more_groups}
use Rattle.opl_type_rules.specs.Forms.Params.{all_of, those_of}
use Rattle.opl_type_rules.specs.Expressions.{Node, Need, Opened, Range, node, made, of_data, kinds, kinds_in, used, part, data_number, any_type, all_sorts, are_related, is_member, element_node, element_type, set_type, question_node, bracketed, or_anything, pattern_names, bind_patterns, typing, typed_parts, typed_pairs, typed_set, open_groups, open_params, scope_within}
use Rattle.opl_type_rules.specs.Expressions.Need.{nothing, data_alone}
use Rattle.opl_typed.specs.Relation.{data_of, IsData, Each, IsElement, HasType, HaveTypes, IsSetOf, GroupsOpen, Opens, typed_of}
use Rattle.opl_typed.proofs.Steps.{Fine, both-true, went, same_node, unit-ok, was_used, sorts-are}
use Rattle.opl_typed.proofs.Parts.{related-has, composed-same, data-each, composed-data, sorts-same, name-typed, element-has, field-has, member-has, some-has, one-has, set-type}
use Rattle.opl_typed.proofs.Names.{fresh-new, patterns-have}

-- ---- an expression that is made of one, of several, and of a name

record One (c : Checked Node) (make : Node → Node) (n : Node) : Type 0 where
  inner : Node
  given : c ≡ Ok inner
  fine : Fine inner
  is : make inner ≡ n
  own : Fine (make inner)

one : (c : Checked Node) (make : Node → Node) (n : Node) → and_then (and_then c part) (λ m. Ok (make m)) ≡ Ok n → Fine n → One c make n
one c make n h fine =
    let w = went (and_then c part) (λ m. Ok (make m)) n h in
    let u = was_used c nothing any_type w.0 w.1 in
    let e = same_node (make w.0) n w.2 in
    record { inner = w.0; given = u.0; fine = u.1.fine; is = e; own = subst Fine (sym e) fine }

record Several (c : Checked (List Node)) (make : List Node → Node) (n : Node) : Type 0 where
  parts : List Node
  given : c ≡ Ok parts
  is : make parts ≡ n
  own : Fine (make parts)

several : (c : Checked (List Node)) (make : List Node → Node) (n : Node) → and_then c (λ ns. Ok (make ns)) ≡ Ok n → Fine n → Several c make n
several c make n h fine =
    let w = went c (λ ns. Ok (make ns)) n h in
    let e = same_node (make w.0) n w.2 in
    record { parts = w.0; given = w.1; is = e; own = subst Fine (sym e) fine }

same_range : (a b : Range) → ◌≡◌ {A = Checked Range} (Ok a) (Ok b) → a ≡ b
same_range a b h = cc

same_opened : (a b : Opened) → ◌≡◌ {A = Checked Opened} (Ok a) (Ok b) → a ≡ b
same_opened a b h = cc

same_list : (a b : List Node) → ◌≡◌ {A = Checked (List Node)} (Ok a) (Ok b) → a ≡ b
same_list a b h = cc

same_sort : (a b : Sort) → ◌≡◌ {A = Option Sort} (Some b) (Some a) → a ≡ b
same_sort a b h = cc

within-opened : (sc : Scope) (p : Params) (o : Opened) (f : Form) (n : Node) → open_params data_alone sc p ≡ Ok o → typing (scope_within sc p (open_params data_alone sc p)) f ≡ Ok n → typing o.scope f ≡ Ok n
within-opened sc p o f n h g = subst (λ (c : Checked Opened). typing (scope_within sc p c) f ≡ Ok n) h g

-- ---- sets of parameters are data, and have elements

pub record Elements (range : Range) (s : Sort) : Type 0 where
  pub are : range.element ≡ Some s
  pub plain : Each IsData (map typed_of range.nodes)

pub set-elements : (over : SetForm) (sc : Scope) (range : Range) → typed_set data_alone is_set sc over ≡ Ok range → (s : Sort) × Elements range s
unfolding typed_set
set-elements (whole f) sc range h =
    let w = went (and_then (typing sc f) (used data_alone is_set)) _ range h in
    let u = was_used (typing sc f) data_alone is_set w.0 w.1 in
    let e = same_range (record { nodes = w.0 ∷ []; element = elements w.0.sort }) range w.2 in
    let s = some-has (elements w.0.sort) u.1.taken in
    (s.0, subst (λ (r : Range). Elements r s.0) e (record { are = s.1; plain = (u.1.meets, tt) }))
set-elements (between low high) sc range h =
    let w = went (and_then (typing sc low) data_number) _ range h in
    let x = went (and_then (typing sc high) data_number) _ range w.2 in
    let u = was_used (typing sc low) data_alone is_number w.0 w.1 in
    let v = was_used (typing sc high) data_alone is_number x.0 x.1 in
    let e = same_range (record { nodes = w.0 ∷ x.0 ∷ []; element = Some int }) range x.2 in
    (int, subst (λ (r : Range). Elements r int) e (record { are = refl; plain = (u.1.meets, (v.1.meets, tt)) }))

-- ---- an expression of a set

listed-one : (sc : Scope) (ns : List Node) → (all_sorts is_storable ns && is_some (element_type sc (Some anything) ns)) ≡ true →
    (s : Sort) × (all_sorts is_storable ns ≡ true) × (element_type sc (Some anything) ns ≡ Some s)
listed-one sc ns h =
    let b = both-true (all_sorts is_storable ns) (is_some (element_type sc (Some anything) ns)) h in
    let s = some-has (element_type sc (Some anything) ns) b.1 in
    (s.0, b.0, s.1)

mutual
  unfolding typing

  pub sound : (f : Form) (sc : Scope) (n : Node) → typing sc f ≡ Ok n → Fine n → HasType sc f (typed_of n)
  sound (number at) sc n h fine = sym (ap typed_of (same_node (made at int [] true) n h))
  sound (named name) sc n h fine = name-typed name (lookup sc name.text) n h
  sound (bracket at f) sc n h fine =
      let w = one (typing sc f) (bracketed at) n h fine in subst (λ (m : Node). HasType sc f (typed_of m)) w.is (sound f sc w.inner w.given w.fine)
  sound (negative at f) sc n h fine =
      let w = one (typing sc f) (λ m. made at int (m ∷ []) (is_number m.sort)) n h fine in (typed_of w.inner, sound f sc w.inner w.given w.fine, w.own.right, sym (ap typed_of w.is))
  sound (arithmetic at fs) sc n h fine =
      let w = several (typed_parts sc fs) (λ ns. made at int ns (all_sorts is_number ns)) n h fine in
      (map typed_of w.parts, all-sound fs sc w.parts w.given, sorts-are is_number w.parts w.own.right, sym (ap typed_of w.is) ∙ composed-same at int w.parts (all_sorts is_number w.parts))
  sound (absolute at f) sc n h fine =
      let w = one (typing sc f) (λ m. made at int (m ∷ []) (is_number m.sort)) n h fine in (typed_of w.inner, sound f sc w.inner w.given w.fine, w.own.right, sym (ap typed_of w.is))
  sound (related at f relation g) sc n h fine =
      let w = went (and_then (typing sc f) part) _ n h in
      let u = was_used (typing sc f) nothing any_type w.0 w.1 in
      let x = one (typing sc g) (λ m. made at bool (w.0 ∷ m ∷ []) (are_related sc relation w.0.sort m.sort)) n w.2 fine in
      (typed_of w.0, typed_of x.inner, sound f sc w.0 u.0 u.1.fine, sound g sc x.inner x.given x.fine, related-has sc relation w.0.sort x.inner.sort x.own.right, sym (ap typed_of x.is))
  sound (member at f over) sc n h fine =
      let w = went (and_then (typing sc f) part) _ n h in
      let u = was_used (typing sc f) nothing any_type w.0 w.1 in
      let x = went (typed_set nothing any_type sc over) _ n w.2 in
      let made_of = of_data (made at bool (w.0 ∷ x.0.nodes) (is_member sc x.0.element w.0.sort)) in
      let e = same_node made_of n x.2 in
      let own = subst Fine (sym e) fine in
      let plain = data-each (w.0 ∷ x.0.nodes) own.takes in
      let m = member-has sc x.0.element w.0.sort own.right in (
        typed_of w.0,
        m.0,
        sound f sc w.0 u.0 u.1.fine,
        set-sound over nothing any_type sc x.0 x.1 m.0 (record { are = m.1; plain = plain.1 }),
        plain.0,
        m.2,
        m.3,
        sym (ap typed_of e) ∙ composed-same at bool (w.0 ∷ x.0.nodes) (is_member sc x.0.element w.0.sort) ∙ composed-data bool (map typed_of (w.0 ∷ x.0.nodes)) plain,
      )
  sound (connected at fs) sc n h fine =
      let w = several (typed_parts sc fs) (λ ns. made at bool ns (all_sorts is_truth ns)) n h fine in
      (map typed_of w.parts, all-sound fs sc w.parts w.given, sorts-are is_truth w.parts w.own.right, sym (ap typed_of w.is) ∙ composed-same at bool w.parts (all_sorts is_truth w.parts))
  sound (aggregate at p f) sc n h fine =
      let o = went (open_params data_alone sc p) _ n h in
      let w = one (typing o.0.scope f) (λ m. node at int (m ∷ []) (is_number m.sort) (o.0.kinds ++ kinds m)) n o.2 fine in
      (o.0.scope, typed_of w.inner, params-sound p data_alone sc o.0 o.1, sound f o.0.scope w.inner w.given w.fine, w.own.right, sym (ap typed_of w.is))
  sound (cardinality at f) sc n h fine =
      let w = one (typing sc f) (λ m. made at int (m ∷ []) (is_set m.sort)) n h fine in (typed_of w.inner, sound f sc w.inner w.given w.fine, w.own.right, sym (ap typed_of w.is))
  sound (all_different at f) sc n h fine =
      let w = one (typing sc f) (λ m. made at bool (m ∷ []) (is_array_of_single m.sort)) n h fine in (typed_of w.inner, sound f sc w.inner w.given w.fine, w.own.right, sym (ap typed_of w.is))
  sound (subscripted at f es) sc n h fine =
      let b = went (and_then (typing sc f) part) _ n h in
      let u = was_used (typing sc f) nothing any_type b.0 b.1 in
      let w = several (typed_parts sc es) (λ ns. element_node sc at b.0 ns b.0.sort) n b.2 fine in (
        typed_of b.0,
        map typed_of w.parts,
        sound f sc b.0 u.0 u.1.fine,
        all-sound es sc w.parts w.given,
        subst (λ (m : Node). IsElement sc (typed_of b.0) (map typed_of w.parts) b.0.sort (typed_of m)) w.is (element-has sc at b.0 w.parts b.0.sort w.own.right),
      )
  sound (field at f name) sc n h fine =
      let b = went (and_then (typing sc f) part) _ n h in
      let u = was_used (typing sc f) nothing any_type b.0 b.1 in
      (typed_of b.0, sound f sc b.0 u.0 u.1.fine, field-has sc at b.0 name b.0.sort n b.2 fine.right)
  sound (tuple at fs) sc n h fine =
      let w = several (typed_parts sc fs) (λ ns. of_data (made at (row (sorts_of (map (λ n. n.sort) ns))) ns (all_sorts is_storable ns))) n h fine in
      let plain = data-each w.parts w.own.takes in (
        map typed_of w.parts,
        all-sound fs sc w.parts w.given,
        plain,
        sorts-are is_storable w.parts w.own.right,
        sym (ap typed_of w.is) ∙ composed-same at (row (sorts_of (map (λ n. n.sort) w.parts))) w.parts (all_sorts is_storable w.parts)
            ∙ composed-data (row (sorts_of (map (λ n. n.sort) w.parts))) (map typed_of w.parts) plain ∙ ap (λ ss. data_of (row (sorts_of ss))) (sorts-same w.parts),
      )
  sound (listed at fs) sc n h fine =
      let w = several (typed_parts sc fs) (λ ns. of_data (made at (set_type ns (element_type sc (Some anything) ns)) ns (all_sorts is_storable ns && is_some (element_type sc (Some anything) ns)))) n h fine in
      let plain = data-each w.parts w.own.takes in
      let s = listed-one sc w.parts w.own.right in (
        map typed_of w.parts,
        s.0,
        all-sound fs sc w.parts w.given,
        plain,
        sorts-are is_storable w.parts s.1,
        one-has w.parts sc anything s.0 s.2,
        sym (ap typed_of w.is) ∙ composed-same at (set_type w.parts (element_type sc (Some anything) w.parts)) w.parts (all_sorts is_storable w.parts && is_some (element_type sc (Some anything) w.parts))
            ∙ composed-data (set_type w.parts (element_type sc (Some anything) w.parts)) (map typed_of w.parts) plain ∙ ap data_of (ap (set_type w.parts) s.2 ∙ set-type w.parts s.0),
      )
  sound (described at f p) sc n h fine =
      let w = went (and_then (typing (scope_within sc p (open_params data_alone sc p)) f) part) _ n h in
      let u = was_used (typing (scope_within sc p (open_params data_alone sc p)) f) nothing any_type w.0 w.1 in
      let o = went (open_params data_alone sc p) _ n w.2 in
      let e = same_node (of_data (node at (set w.0.sort) (w.0 ∷ []) (is_storable w.0.sort) (kinds w.0 ++ o.0.kinds))) n o.2 in
      let own = subst Fine (sym e) fine in
      let plain = data-each (w.0 ∷ []) own.takes in (
        o.0.scope,
        typed_of w.0,
        params-sound p data_alone sc o.0 o.1,
        sound f o.0.scope w.0 (within-opened sc p o.0 f w.0 o.1 u.0) u.1.fine,
        plain.0,
        own.right,
        sym (ap typed_of e) ∙ composed-data (set w.0.sort) (typed_of w.0 ∷ []) plain,
      )
  sound (cells at fs) sc n h fine = let w = several (typed_parts sc fs) (λ ns. made at anything ns false) n h fine in let wrong : false ≡ true = w.own.right in absurd (cc)
  sound (keyed_cells at ps) sc n h fine = let w = several (typed_pairs sc ps) (λ ns. made at anything ns false) n h fine in let wrong : false ≡ true = w.own.right in absurd (cc)
  sound (question at op f) sc n h fine =
      let w = one (typing sc f) (question_node sc at op) n h fine in
      let b = both-true sc.is_search w.inner.is_one w.own.right in
      (typed_of w.inner, sound f sc w.inner w.given w.fine, b.0, b.1, sym (ap typed_of w.is))

  pub all-sound : (fs : Forms) (sc : Scope) (ns : List Node) → typed_parts sc fs ≡ Ok ns → HaveTypes sc fs (map typed_of ns)
  all-sound no_forms sc ns h = ap (map typed_of) (sym (same_list [] ns h))
  all-sound (more_forms f fs) sc ns h =
      let w = went (and_then (typing sc f) part) _ ns h in
      let u = was_used (typing sc f) nothing any_type w.0 w.1 in
      let x = went (typed_parts sc fs) (λ rest. Ok (w.0 ∷ rest)) ns w.2 in
      (typed_of w.0, map typed_of x.0, sound f sc w.0 u.0 u.1.fine, all-sound fs sc x.0 x.1, ap (map typed_of) (sym (same_list (w.0 ∷ x.0) ns x.2)))

  pub set-sound : (over : SetForm) (need : Need) (takes : Sort → Bool) (sc : Scope) (range : Range) → typed_set need takes sc over ≡ Ok range → (s : Sort) → Elements range s → IsSetOf sc over s
  set-sound (whole f) need takes sc range h s found =
      let w = went (and_then (typing sc f) (used need takes)) _ range h in
      let u = was_used (typing sc f) need takes w.0 w.1 in
      let e = same_range (record { nodes = w.0 ∷ []; element = elements w.0.sort }) range w.2 in
      let own = subst (λ (r : Range). Elements r s) (sym e) found in
      (typed_of w.0, sound f sc w.0 u.0 u.1.fine, own.plain.0, own.are)
  set-sound (between low high) need takes sc range h s found =
      let w = went (and_then (typing sc low) data_number) _ range h in
      let x = went (and_then (typing sc high) data_number) _ range w.2 in
      let u = was_used (typing sc low) data_alone is_number w.0 w.1 in
      let v = was_used (typing sc high) data_alone is_number x.0 x.1 in
      let e = same_range (record { nodes = w.0 ∷ x.0 ∷ []; element = Some int }) range x.2 in
      let own = subst (λ (r : Range). Elements r s) (sym e) found in
      (typed_of w.0, typed_of x.0, sound low sc w.0 u.0 u.1.fine, sound high sc x.0 v.0 v.1.fine, u.1.meets, v.1.meets, u.1.taken, v.1.taken, same_sort s int own.are)

  groups-sound : (gs : Groups) (sc : Scope) (o : Opened) → open_groups sc gs ≡ Ok o → GroupsOpen sc gs o.scope
  groups-sound no_groups sc o h = ap (λ (x : Opened). x.scope) (sym (same_opened (record { scope = sc; kinds = [] }) o h))
  groups-sound (more_groups ps over others) sc o h =
      let w = went (all_fresh sc (flat_map pattern_names ps)) _ o h in
      let x = went (typed_set data_alone is_set sc over) _ o w.2 in
      let y = went (bind_patterns sc (or_anything x.0.element) ps) _ o x.2 in
      let z = went (open_groups y.0 others) _ o y.2 in
      let s = set-elements over sc x.0 x.1 in
      let e = same_opened (record { scope = z.0.scope; kinds = kinds_in x.0.nodes ++ z.0.kinds }) o z.2 in (
        s.0,
        y.0,
        fresh-new (flat_map pattern_names ps) sc (unit-ok _ w.0 w.1),
        set-sound over data_alone is_set sc x.0 x.1 s.0 s.1,
        patterns-have ps sc s.0 y.0 (sym (ap (λ p. bind_patterns sc (or_anything p) ps) s.1.are) ∙ y.1),
        subst (λ (q : Opened). GroupsOpen y.0 others q.scope) e (groups-sound others y.0 z.0 z.1),
      )

  pub params-sound : (p : Params) (need : Need) (sc : Scope) (o : Opened) → open_params need sc p ≡ Ok o → Opens need sc p o.scope
  params-sound (all_of gs) need sc o h = groups-sound gs sc o h
  params-sound (those_of gs condition) need sc o h =
      let w = went (open_groups sc gs) _ o h in
      let x = went (and_then (typing w.0.scope condition) (used need is_truth)) _ o w.2 in
      let u = was_used (typing w.0.scope condition) need is_truth x.0 x.1 in
      let e = same_opened (record { scope = w.0.scope; kinds = w.0.kinds ++ kinds x.0 }) o x.2 in
      subst (λ (q : Opened). Opens need sc (those_of gs condition) q.scope) e
      (typed_of x.0, groups-sound gs sc w.0 w.1, sound condition w.0.scope x.0 u.0 u.1.fine, u.1.meets, u.1.taken)
