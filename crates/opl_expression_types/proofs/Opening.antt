-- Groups of parameters, and what stands behind a primary, as the program goes through them.
use Rattle.std.proofs.Common.{◌≡◌, ℕ, ◌+◌, ◌<◌, ◌≤◌, length, get_or, drop, List, [], ◌∷◌, ◌++◌, map, Bool, false, IsTrue, Option, None, Some, Result, Ok, Err, refl, ap, sym, ◌∙◌}
use Rattle.std.proofs.lemmas.List.{at_drop_more, at_drop_all, map-append}
use Rattle.std.proofs.lemmas.Bool.{false≢true}
use Rattle.std.specs.List.{flat_map}
use Rattle.std.specs.Option.{option_map}
use Rattle.opl_tree.specs.declared.expression.NameTree.{NameTree}
use Rattle.opl_type_rules.specs.declared.fault.TypeFault.{TypeFault}
use Rattle.opl_type_rules.specs.declared.fault.TypeFault.TheVariants.{Unknown, Duplicate, Mismatch, NotData, OutOfMemory}
use Rattle.opl_type_rules.specs.declared.kind.Ty.{Ty}
use Rattle.opl_type_rules.specs.declared.names.Local.{Local}
use Rattle.opl_type_rules.specs.declared.names.Names.{Names}
use Rattle.opl_tree.specs.declared.expression.PatternTree.{PatternTree}
use Rattle.opl_type_rules.specs.declared.chain.Chain as chains
use Rattle.opl_type_rules.specs.declared.node.Node as nodes
use Rattle.opl_type_rules.specs.declared.rules.Range as ranges
use Rattle.opl_type_rules.specs.Types.{Sort, sort, is_set, is_truth, is_storable}
use Rattle.opl_type_rules.specs.Types.Sort.{set, anything}
use Rattle.opl_type_rules.specs.Scope.{Scope, Checked, and_then, all_fresh, with_values}
use Rattle.opl_type_rules.specs.Forms.{Form, Group, Params, SetForm, Suffix, forms_of, groups_of, params_form, with_suffixes}
use Rattle.opl_type_rules.specs.Forms.Form.{described}
use Rattle.opl_type_rules.specs.Forms.Suffix.{subscripts, field_of}
use Rattle.opl_type_rules.specs.Expressions.{Node, Need, Range, Opened, node, of_data, kinds, kinds_in, part, used, settled, element_node, field_node, pattern_names, bind_patterns, or_anything, names_of_params, scope_within, typing, typed_parts, typed_set, open_groups, open_params}
use Rattle.opl_type_rules.specs.Expressions.Need.{data_alone}
use Rattle.opl_type_rules.specs.Steps.{suffix_node, suffixed, open_one, open_each, with_inner, grown}
use Rattle.opl_type_rules.specs.Values.{Does, Gives, chained, node_of, range_of, scope_of, within}
use Rattle.opl_expression_types.specs.Values.{opened_in}
use Rattle.opl_type_rules.proofs.Chains.{gives-fault, gives-memory, gives-same}
use Rattle.opl_type_rules.proofs.Links.{gives-other, link-inner}
use Rattle.opl_expression_types.proofs.Found.{checked_of, gives-itself, stopped, through_both, through_part}
use Rattle.opl_expression_types.proofs.Inside.{alike-within}
use Rattle.opl_expression_types.proofs.Likeness.{element-alike, field-alike}
use Rattle.opl_expression_types.proofs.Typing.{typing-described}
use Rattle.opl_type_rules.proofs.Steps.{suffixed-fault, typing-suffixes, groups-opened}

-- ---- suffixes

module _ (n : Names) (ls : List Local) (at : ℕ) (base : nodes.Node) (s : Suffix) where
  pub suffix_element : (es : List Form) → s ≡ subscripts es → (parts : List nodes.Node) → typed_parts (within n ls) (forms_of es) ≡ Ok (map node_of parts) →
      (result : Result nodes.Node TypeFault) → Gives node_of (Ok (element_node (scope_of n) at (node_of base) (map node_of parts) (sort base.ty))) result →
      Gives node_of (suffix_node (within n ls) at (node_of base) s) result
  suffix_element es is parts t result h =
      gives-same node_of (suffix_node (within n ls) at (node_of base) s) _ result
      (ap (suffix_node (within n ls) at (node_of base)) is
      ∙ ap (λ c. and_then c (λ ns. Ok (element_node (within n ls) at (node_of base) ns (sort base.ty)))) t
      ∙ ap (λ m. Ok m) (element-alike (within n ls) (scope_of n) (alike-within n ls) at (node_of base) (map node_of parts) (sort base.ty)))
      h

  pub suffix_field : (name : NameTree) → s ≡ field_of name →
      (result : Result nodes.Node TypeFault) → Gives node_of (field_node (scope_of n) at (node_of base) name (sort base.ty)) result →
      Gives node_of (suffix_node (within n ls) at (node_of base) s) result
  suffix_field name is result h =
      gives-same node_of (suffix_node (within n ls) at (node_of base) s) _ result
      (ap (suffix_node (within n ls) at (node_of base)) is ∙ field-alike (within n ls) (scope_of n) (alike-within n ls) at (node_of base) name (sort base.ty))
      h

pub gives-suffixed : (sc : Scope) (at : ℕ) (c : Checked Node) (ss : List Suffix) (e : TypeFault) → Gives node_of c (Err e) → Gives node_of (suffixed sc at c ss) (Err e)
gives-suffixed sc at c ss (Unknown k) h = ap (λ d. suffixed sc at d ss) h ∙ suffixed-fault sc at (Unknown k) ss
gives-suffixed sc at c ss (Duplicate k) h = ap (λ d. suffixed sc at d ss) h ∙ suffixed-fault sc at (Duplicate k) ss
gives-suffixed sc at c ss (Mismatch k) h = ap (λ d. suffixed sc at d ss) h ∙ suffixed-fault sc at (Mismatch k) ss
gives-suffixed sc at c ss (NotData k) h = ap (λ d. suffixed sc at d ss) h ∙ suffixed-fault sc at (NotData k) ss
gives-suffixed sc at c ss OutOfMemory h = tt

pub post_fault : (sc : Scope) (at : ℕ) (whole f : Form) (ss : List Suffix) → whole ≡ with_suffixes at f ss → (e : TypeFault) → Gives node_of (typing sc f) (Err e) → Gives node_of (typing sc whole) (Err e)
post_fault sc at whole f ss is e h =
    gives-same node_of (typing sc whole) _ (Err e) (ap (typing sc) is ∙ typing-suffixes sc at f ss) (gives-suffixed sc at (typing sc f) ss e h)

module _ {T : Type 0} (sc : Scope) (at : ℕ) (form : T → Suffix) (whole : Checked Node) (xs : List T) (i : ℕ) (base : Node)
    (so_far : whole ≡ suffixed sc at (Ok base) (map form (drop i xs))) where
  pub suffixes_end : length xs ≤ i → whole ≡ Ok base
  suffixes_end all = so_far ∙ at_drop_all (λ ys. suffixed sc at (Ok base) (map form ys)) xs i all

  suffix_here : (x : T) → i < length xs → x ≡ get_or xs i x →
      whole ≡ suffixed sc at (and_then (part base) (λ b. suffix_node sc at b (form x))) (map form (drop (i + 1) xs))
  suffix_here x more here =
      so_far ∙ at_drop_more (λ ys. suffixed sc at (Ok base) (map form ys)) xs i x more
      ∙ ap (λ y. suffixed sc at (Ok base) (map form (y ∷ drop (i + 1) xs))) (sym here)

  pub suffix_fault : (x : T) → i < length xs → x ≡ get_or xs i x →
      (e : TypeFault) → Gives chained (and_then (part base) (λ b. suffix_node sc at b (form x))) (Err e) → Gives node_of whole (Err e)
  suffix_fault x more here e h =
      gives-same node_of whole _ (Err e) (suffix_here x more here) (gives-suffixed sc at _ (map form (drop (i + 1) xs)) e (gives-other chained node_of _ e h))

  pub suffix_added : (x : T) → i < length xs → x ≡ get_or xs i x →
      (next : Node) → and_then (part base) (λ b. suffix_node sc at b (form x)) ≡ Ok next → whole ≡ suffixed sc at (Ok next) (map form (drop (i + 1) xs))
  suffix_added x more here next h = suffix_here x more here ∙ ap (λ c. suffixed sc at c (map form (drop (i + 1) xs))) h

-- one link more
module _ (sc : Scope) (at : ℕ) (chain : chains.Chain) (s : Suffix) (bare : nodes.Node) (same : node_of bare ≡ with_inner [] (node_of chain.last)) where
  link_steps : and_then (part (chained chain)) (λ b. suffix_node sc at b s)
      ≡ and_then (and_then (part (node_of bare)) (λ b. suffix_node sc at b s)) (λ m. Ok (grown (chained chain).inner m))
  link_steps =
      link-inner sc at (chained chain).inner (node_of chain.last) s
      ∙ ap (λ n. and_then (and_then (part n) (λ b. suffix_node sc at b s)) (λ m. Ok (grown (chained chain).inner m))) (sym same)

  pub link_wrong : (e : TypeFault) → Gives node_of (part (node_of bare)) (Err e) → Gives chained (and_then (part (chained chain)) (λ b. suffix_node sc at b s)) (Err e)
  link_wrong e h = gives-same chained _ _ (Err e) link_steps (gives-fault node_of chained _ _ e (gives-fault node_of node_of _ _ e h))

  pub link_fault : (base : nodes.Node) → part (node_of bare) ≡ Ok (node_of base) → (e : TypeFault) → Gives node_of (suffix_node sc at (node_of base) s) (Err e) →
      Gives chained (and_then (part (chained chain)) (λ b. suffix_node sc at b s)) (Err e)
  link_fault base p e h =
      gives-same chained _ _ (Err e) (link_steps ∙ ap (λ c. and_then (and_then c (λ b. suffix_node sc at b s)) (λ m. Ok (grown (chained chain).inner m))) p)
      (gives-fault node_of chained _ _ e h)

  pub link_added : (base : nodes.Node) → part (node_of bare) ≡ Ok (node_of base) → (last : nodes.Node) → suffix_node sc at (node_of base) s ≡ Ok (node_of last) →
      (result : Result chains.Chain TypeFault) → Does (λ r. chained r ≡ grown (chained chain).inner (node_of last)) result →
      Gives chained (and_then (part (chained chain)) (λ b. suffix_node sc at b s)) result
  link_added base p last h (Ok r) d =
      link_steps
      ∙ ap (λ c. and_then (and_then c (λ b. suffix_node sc at b s)) (λ m. Ok (grown (chained chain).inner m))) p
      ∙ ap (λ c. and_then c (λ m. Ok (grown (chained chain).inner m))) h
      ∙ ap (λ m. Ok m) (sym d)
  link_added base p last h (Err e) d = gives-memory chained _ e d

-- all that stands behind is read
pub ended_with : (whole : Checked Node) (n : Node) → whole ≡ Ok n → (result : Result nodes.Node TypeFault) → Does (λ r. node_of r ≡ n) result → Gives node_of whole result
ended_with whole n h (Ok r) d = h ∙ ap (λ m. Ok m) (sym d)
ended_with whole n h (Err e) d = gives-memory node_of whole e d

-- ---- groups of parameters

pub groups_begin : (n : Names) (locals copy : List Local) (kinds : List Ty) → copy ≡ locals → kinds ≡ [] → (gs : List Group) →
    open_groups (within n locals) (groups_of gs) ≡ open_each (opened_in n (record { locals = copy; kinds = kinds })) gs
groups_begin n locals copy kinds same none gs =
    groups-opened (within n locals) gs
    ∙ ap (λ ls. open_each (record { scope = within n ls; kinds = [] }) gs) (sym same)
    ∙ ap (λ ks. open_each (record { scope = within n copy; kinds = map sort ks }) gs) (sym none)

module _ {B D : Type 0} (r : B → Opened) (q : D → Opened) (whole : Checked Opened) (o : Opened) (g : Group) (gs : List Group) (so_far : whole ≡ open_each o (g ∷ gs)) where
  pub group_fault : (e : TypeFault) → Gives r (open_one o g) (Err e) → Gives q whole (Err e)
  group_fault e h = gives-same q whole _ (Err e) so_far (gives-fault r q (open_one o g) (λ more. open_each more gs) e h)

pub group_opened : (whole : Checked Opened) (o : Opened) (g : Group) (gs : List Group) → whole ≡ open_each o (g ∷ gs) → (next : Opened) → open_one o g ≡ Ok next → whole ≡ open_each next gs
group_opened whole o g gs so_far next h = so_far ∙ ap (λ c. and_then c (λ more. open_each more gs)) h

module _ {T : Type 0} (form : T → Group) (whole : Checked Opened) (o : Opened) (xs : List T) (i : ℕ) (so_far : whole ≡ open_each o (map form (drop i xs))) where
  pub group_here : (x : T) → i < length xs → x ≡ get_or xs i x → (g : Group) → form x ≡ g → whole ≡ open_each o (g ∷ map form (drop (i + 1) xs))
  group_here x more here g is =
      so_far ∙ at_drop_more (λ ys. open_each o (map form ys)) xs i x more
      ∙ ap (λ y. open_each o (map form (y ∷ drop (i + 1) xs))) (sym here)
      ∙ ap (λ h. open_each o (h ∷ map form (drop (i + 1) xs))) is

  pub groups_end : length xs ≤ i → whole ≡ Ok o
  groups_end all = so_far ∙ at_drop_all (λ ys. open_each o (map form ys)) xs i all

-- one group: where its names are fresh and its set has no fault, the names of its patterns tell
pub group_bound : (o : Opened) (g : Group) (over : Range) → all_fresh o.scope (flat_map pattern_names g.patterns) ≡ Ok tt → typed_set data_alone is_set o.scope g.over ≡ Ok over →
    (inner : Scope) → bind_patterns o.scope (or_anything over.element) g.patterns ≡ Ok inner → open_one o g ≡ Ok (record { scope = inner; kinds = o.kinds ++ kinds_in over.nodes })
group_bound o g over fresh typed inner bound =
    ap (λ c. and_then c (λ u. and_then (typed_set data_alone is_set o.scope g.over) (λ r. and_then (bind_patterns o.scope (or_anything r.element) g.patterns) (λ s. Ok (record { scope = s; kinds = o.kinds ++ kinds_in r.nodes }))))) fresh
    ∙ ap (λ c. and_then c (λ r. and_then (bind_patterns o.scope (or_anything r.element) g.patterns) (λ s. Ok (record { scope = s; kinds = o.kinds ++ kinds_in r.nodes })))) typed
    ∙ ap (λ c. and_then c (λ s. Ok (record { scope = s; kinds = o.kinds ++ kinds_in over.nodes }))) bound

-- ---- parameters

recorded : (sc : Scope) (p : Checked Node) (k : Node → List Sort) (ks : List Sort) → and_then p (λ n. Ok (k n)) ≡ Ok ks → and_then {B = Opened} p (λ n. Ok (record { scope = sc; kinds = k n })) ≡ Ok (record { scope = sc; kinds = ks })
recorded sc (Ok n) k ks h = ap (λ c. and_then {B = Opened} c (λ xs. Ok (record { scope = sc; kinds = xs }))) h
recorded sc (Err e) k ks h = cc

module _ (sc : Scope) (need : Need) (whole : Params) (gs hs : List Group) (condition : Option Form) (is : whole ≡ params_form (groups_of gs) condition) (same : hs ≡ gs) where
  alone_opened : condition ≡ None → open_params need sc whole ≡ open_groups sc (groups_of hs)
  unfolding open_params open_groups
  alone_opened none =
      ap (open_params need sc) is ∙ ap (λ c. open_params need sc (params_form (groups_of gs) c)) none ∙ ap (λ ks. open_groups sc (groups_of ks)) (sym same)

  under_condition : (f : Form) → condition ≡ Some f → open_params need sc whole ≡ and_then (open_groups sc (groups_of hs)) (λ o. and_then (and_then (typing o.scope f) (used need is_truth)) (λ n. Ok (record { scope = o.scope; kinds = o.kinds ++ kinds n })))
  unfolding open_params open_groups typing
  under_condition f some =
      ap (open_params need sc) is ∙ ap (λ c. open_params need sc (params_form (groups_of gs) c)) some
      ∙ ap (λ ks. and_then (open_groups sc (groups_of ks)) (λ o. and_then (and_then (typing o.scope f) (used need is_truth)) (λ n. Ok (record { scope = o.scope; kinds = o.kinds ++ kinds n })))) (sym same)

  pub no_condition : condition ≡ None → (o : Opened) → open_groups sc (groups_of hs) ≡ Ok o → open_params need sc whole ≡ Ok o
  no_condition none o h = alone_opened none ∙ h

  module _ (f : Form) (some : condition ≡ Some f) (o : Opened) (opens : open_groups sc (groups_of hs) ≡ Ok o) (other : Scope) (inside : other ≡ o.scope) where
    condition_here : open_params need sc whole ≡ and_then (and_then (typing other f) (used need is_truth)) (λ n. Ok (record { scope = o.scope; kinds = o.kinds ++ kinds n }))
    condition_here =
        under_condition f some
        ∙ ap (λ c. and_then c (λ o. and_then (and_then (typing o.scope f) (used need is_truth)) (λ n. Ok (record { scope = o.scope; kinds = o.kinds ++ kinds n })))) opens
        ∙ ap (λ s. and_then (and_then (typing s f) (used need is_truth)) (λ n. Ok (record { scope = o.scope; kinds = o.kinds ++ kinds n }))) (sym inside)

    module _ (found : Result nodes.Node TypeFault) (typed : Gives node_of (typing other f) found) (new : List Ty) where
      pub condition_refused : {D : Type 0} (q : D → Opened) (e : TypeFault) →
          Gives (λ (u : Unit {0}). map sort new) (and_then (and_then (checked_of found) (used need is_truth)) (λ n. Ok (o.kinds ++ kinds n))) (Err e) → Gives q (open_params need sc whole) (Err e)
      condition_refused q e h =
          gives-same q (open_params need sc whole) _ (Err e) condition_here
          (gives-fault node_of q _ _ e (stopped (λ (u : Unit {0}). map sort new) node_of _ (λ n. o.kinds ++ kinds n) e
          (through_both (λ (u : Unit {0}). map sort new) (typing other f) (used need is_truth) (λ n. Ok (o.kinds ++ kinds n)) found (Err e) typed h)))

      pub condition_added : and_then (and_then (checked_of found) (used need is_truth)) (λ n. Ok (o.kinds ++ kinds n)) ≡ Ok (map sort new) →
          open_params need sc whole ≡ Ok (record { scope = o.scope; kinds = map sort new })
      condition_added h =
          condition_here
          ∙ recorded o.scope (and_then (typing other f) (used need is_truth)) (λ n. o.kinds ++ kinds n) (map sort new)
          (through_both (λ (u : Unit {0}). map sort new) (typing other f) (used need is_truth) (λ n. Ok (o.kinds ++ kinds n)) found (Ok tt) typed h)

pub params_fault : {D : Type 0} (q : D → Opened) (sc : Scope) (need : Need) (whole : Params) (gs hs : List Group) (condition : Option Form) → whole ≡ params_form (groups_of gs) condition → hs ≡ gs →
    (e : TypeFault) → Gives q (open_groups sc (groups_of hs)) (Err e) → Gives q (open_params need sc whole) (Err e)
params_fault q sc need whole gs hs None is same e h =
    gives-same q (open_params need sc whole) _ (Err e) (alone_opened sc need whole gs hs None is same refl) h
params_fault q sc need whole gs hs (Some f) is same e h =
    gives-same q (open_params need sc whole) _ (Err e) (under_condition sc need whole gs hs (Some f) is same f refl) (gives-fault q q _ _ e h)

-- ---- `{e | p}`

module _ (sc : Scope) (at : ℕ) (f : Form) (p : Params) (o : Opened) (opens : open_params data_alone sc p ≡ Ok o) (other : Scope) (inside : other ≡ o.scope) where
  described_here : typing sc (described at f p) ≡ and_then (and_then (typing other f) part) (λ n. Ok (of_data (node at (set n.sort) (n ∷ []) (is_storable n.sort) (kinds n ++ o.kinds))))
  described_here =
      typing-described sc at f p
      ∙ ap (λ c. and_then (and_then (typing (scope_within sc p c) f) part) (λ n. and_then c (λ opened. Ok (of_data (node at (set n.sort) (n ∷ []) (is_storable n.sort) (kinds n ++ opened.kinds)))))) opens
      ∙ ap (λ s. and_then (and_then (typing s f) part) (λ n. Ok (of_data (node at (set n.sort) (n ∷ []) (is_storable n.sort) (kinds n ++ o.kinds))))) (sym inside)

  pub described_through : (found : Result nodes.Node TypeFault) (result : Result nodes.Node TypeFault) → Gives node_of (typing other f) found →
      Gives node_of (and_then (and_then (checked_of found) part) (λ n. Ok (of_data (node at (set n.sort) (n ∷ []) (is_storable n.sort) (kinds n ++ o.kinds))))) result →
      Gives node_of (typing sc (described at f p)) result
  described_through found result h g =
      gives-same node_of (typing sc (described at f p)) _ result described_here
      (through_part node_of (typing other f) (λ n. Ok (of_data (node at (set n.sort) (n ∷ []) (is_storable n.sort) (kinds n ++ o.kinds)))) found result h g)

-- a fault that isn't memory's is found
found_fault : {A B : Type 0} (r : B → A) (c : Checked A) (e : TypeFault) → Gives r c (Err e) → (e ≡ OutOfMemory → IsTrue false) → c ≡ Err e
found_fault r c (Unknown at) h no_memory = h
found_fault r c (Duplicate at) h no_memory = h
found_fault r c (Mismatch at) h no_memory = h
found_fault r c (NotData at) h no_memory = h
found_fault r c OutOfMemory h no_memory = absurd (false≢true (no_memory refl))

pub wrongly : {B : Type 0} (r : B → Opened) (sc : Scope) (at : ℕ) (f : Form) (p : Params) (e : TypeFault) → Gives r (open_params data_alone sc p) (Err e) → (e ≡ OutOfMemory → IsTrue false) →
    (result : Result nodes.Node TypeFault) → Gives node_of (and_then (and_then (typing (with_values (names_of_params p) (map (λ n. anything) (names_of_params p)) sc) f) part) (λ n. Err e)) result →
    Gives node_of (typing sc (described at f p)) result
wrongly r sc at f p e h no_memory result g =
    gives-same node_of (typing sc (described at f p)) _ result
    (typing-described sc at f p
    ∙ ap (λ c. and_then (and_then (typing (scope_within sc p c) f) part) (λ n. and_then c (λ opened. Ok (of_data (node at (set n.sort) (n ∷ []) (is_storable n.sort) (kinds n ++ opened.kinds)))))) (found_fault r (open_params data_alone sc p) e h no_memory))
    g

-- the value, where the parameters have a fault
module _ (sc other : Scope) (same : other ≡ sc) (f : Form) (fault : TypeFault) where
  pub value_fault : (e : TypeFault) → Gives node_of (typing other f) (Err e) → Gives node_of (and_then (and_then (typing sc f) part) (λ n. Err fault)) (Err e)
  value_fault e h =
      gives-fault node_of node_of _ _ e (gives-fault node_of node_of _ _ e (gives-same node_of (typing sc f) (typing other f) (Err e) (ap (λ s. typing s f) (sym same)) h))

  value_typed : (n : nodes.Node) → typing other f ≡ Ok (node_of n) → and_then (typing sc f) part ≡ part (node_of n)
  value_typed n typed = ap (λ s. and_then (typing s f) part) (sym same) ∙ ap (λ c. and_then c part) typed

  pub value_wrong : (n : nodes.Node) → typing other f ≡ Ok (node_of n) → (e : TypeFault) → Gives node_of (part (node_of n)) (Err e) → Gives node_of (and_then (and_then (typing sc f) part) (λ n. Err fault)) (Err e)
  value_wrong n typed e h =
      gives-fault node_of node_of _ _ e (gives-same node_of (and_then (typing sc f) part) _ (Err e) (value_typed n typed) h)

  pub value_right : (n m : nodes.Node) → typing other f ≡ Ok (node_of n) → part (node_of n) ≡ Ok (node_of m) → Gives node_of (and_then (and_then (typing sc f) part) (λ n. Err fault)) (Err fault)
  value_right n m typed h =
      gives-same node_of (and_then (and_then (typing sc f) part) (λ n. Err fault)) (Err fault) (Err fault) (ap (λ c. and_then c (λ n. Err fault)) (value_typed n typed ∙ h)) (gives-itself node_of fault)

-- ---- a group, with what its steps have found

abbrev found_kinds : Checked (List Sort) → List Sort
found_kinds (Ok ks) = ks
found_kinds (Err e) = []

module _ (n : Names) (locals : List Local) (old_kinds : List Ty) (g : Group) (first : PatternTree) (rest : List PatternTree) (over_form : SetForm) (is : g ≡ record { patterns = first ∷ rest; over = over_form }) where
  pub group_made : (slice : List Local) → slice ≡ locals → (fresh_rest : List PatternTree) → fresh_rest ≡ rest → all_fresh (within n slice) (flat_map pattern_names (first ∷ fresh_rest)) ≡ Ok tt →
      (set_slice : List Local) → set_slice ≡ locals → (over : ranges.Range) → typed_set data_alone is_set (within n set_slice) over_form ≡ Ok (range_of over) →
      (element : Ty) → sort element ≡ or_anything (option_map sort over.element) →
      (more : List Ty) → ◌≡◌ {A = Checked (List Sort)} (Ok (kinds_in (map node_of over.nodes))) (Ok (map sort more)) → (new_kinds : List Ty) → new_kinds ≡ old_kinds ++ more →
      (bound_rest : List PatternTree) → bound_rest ≡ rest → (new_locals : List Local) → bind_patterns (within n locals) (sort element) (first ∷ bound_rest) ≡ Ok (within n new_locals) →
      open_one (opened_in n (record { locals = locals; kinds = old_kinds })) g ≡ Ok (opened_in n (record { locals = new_locals; kinds = new_kinds }))
  group_made slice e1 fresh_rest r1 fresh set_slice e2 over typed element of_element more kinds_found new_kinds added bound_rest r2 new_locals bound =
      ap (open_one (opened_in n (record { locals = locals; kinds = old_kinds }))) is
      ∙ group_bound (opened_in n (record { locals = locals; kinds = old_kinds })) (record { patterns = first ∷ rest; over = over_form }) (range_of over)
      (ap (λ ls. all_fresh (within n ls) (flat_map pattern_names (first ∷ rest))) (sym e1) ∙ ap (λ ps. all_fresh (within n slice) (flat_map pattern_names (first ∷ ps))) (sym r1) ∙ fresh)
      (ap (λ ls. typed_set data_alone is_set (within n ls) over_form) (sym e2) ∙ typed)
      (within n new_locals)
      (ap (λ s. bind_patterns (within n locals) s (first ∷ rest)) (sym of_element) ∙ ap (λ ps. bind_patterns (within n locals) (sort element) (first ∷ ps)) (sym r2) ∙ bound)
      ∙ ap (λ ks. Ok (record { scope = within n new_locals; kinds = ks }))
      (ap (λ ks. map sort old_kinds ++ ks) (ap found_kinds kinds_found) ∙ sym (map-append sort old_kinds more) ∙ ap (map sort) (sym added))
