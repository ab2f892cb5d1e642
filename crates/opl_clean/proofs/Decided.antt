-- Where a decision variable is named, typing knows it.
use Rattle.std.proofs.Common.{◌≡◌, ℕ, Bool, true, false, ◌&&◌, ◌||◌, not, List, [], ◌∷◌, ◌++◌, Option, None, Some, Ok, Err, refl, ap, sym, subst}
use Rattle.std.specs.List.{list_any, flat_map}
use Rattle.opl_tree.specs.declared.expression.NameTree.{NameTree}
use Rattle.opl_type_rules.specs.declared.fault.TypeFault.{TypeFault}
use Rattle.opl_type_rules.specs.declared.fault.TypeFault.TheVariants.{Unknown, Mismatch, NotData}
use Rattle.opl_type_rules.specs.Types.{Sort, is_number, is_set, is_storable, is_truth}
use Rattle.opl_type_rules.specs.Types.Sort.{activity, array, set, structure}
use Rattle.opl_type_rules.specs.Scope.{Checked, and_then, unless, Text, Scope, Thing, field_sort, fields, is_decided, lookup}
use Rattle.opl_type_rules.specs.Scope.Thing.{variable}
use Rattle.opl_type_rules.specs.Forms.{Form, Forms, Pairs, SetForm, Groups, Params}
use Rattle.opl_type_rules.specs.Forms.Form.{number, named, bracket, negative, arithmetic, absolute, related, member, connected, aggregate, cardinality, all_different, subscripted, field, tuple, listed, described, cells, keyed_cells, question}
use Rattle.opl_type_rules.specs.Forms.Forms.{no_forms, more_forms}
use Rattle.opl_type_rules.specs.Forms.Pairs.{no_pairs, more_pairs}
use Rattle.opl_type_rules.specs.Forms.SetForm.{whole, between}
use Rattle.opl_type_rules.specs.Forms.Groups.{no_groups, more_groups}
use Rattle.opl_type_rules.specs.Forms.Params.{all_of, those_of}
use Rattle.opl_type_rules.specs.Expressions.{Node, Need, Opened, settled, kinds, node, of_data, used, part, any_type, data_number, is_met, is_data, is_time, name_node, element_node, known_field, field_node, pattern_names, or_anything, scope_within, typing, typed_parts, typed_pairs, typed_set, open_groups, open_params}
use Rattle.opl_type_rules.specs.Expressions.Need.{data_alone, nothing}
use Rattle.opl_clean.specs.Laws.{VariablesDecide, DataNamesNone, ParamsNameNone}
use Rattle.opl_clean.specs.Mentions.{is_among, mentions, some_mention, pairs_mention, set_mentions, groups_mention, params_mention, KeepsVariables}
use Rattle.opl_clean.proofs.Kept.{fresh-others, keeps-patterns}
use Rattle.opl_clean.proofs.Lawful.{Holds, Gives, ok, fault, then, unless_holds, at_ok, nothing_found, left, or_gives, one_gives, not_true, none_given, neither, first_gives, second_gives}

-- of an expression that is accepted in its place, what follows from its own rule and the need
settle : (need : Need) (is_taken : Bool) (n : Node) (Q : Node → Type 0) → (is_met need n ≡ true → n.is_right ≡ true → Q n) → Holds Q (settled need is_taken n)
unfolding settled
settle need is_taken n Q h =
    then _ _ _ _ (unless_holds (is_met need n && (not n.takes_data || is_data n)) (NotData n.place)) (λ u met.
    then _ _ _ _ (unless_holds (n.is_right && is_taken) (Mismatch n.place)) (λ v right. ok Q n (h (left (is_met need n) (not n.takes_data || is_data n) met) (left n.is_right is_taken right))))

element-decides : (sc : Scope) (at : ℕ) (base : Node) (ns : List Node) (s : Sort) → (element_node sc at base ns s).decides ≡ list_any (λ n. n.decides) (base ∷ ns)
element-decides sc at base ns (array indices element) = refl
element-decides sc at base ns s = refl

some-thing : (a b : Thing) → ◌≡◌ {A = Option Thing} (Some a) (Some b) → a ≡ b
some-thing a b h = cc

module _ (names : List Text) where
  -- where a variable is named in f, the node says so, if its own rule is met
  abbrev pub IsDecided : Form → Node → Type 0
  IsDecided f n = n.is_right ≡ true → Gives (mentions names f) n.decides

  -- the same where the rule is met
  abbrev Decides : Form → Node → Type 0
  Decides f n = Gives (mentions names f) n.decides

  abbrev AreDecided : Bool → List Node → Type 0
  AreDecided b ns = Gives b (list_any (λ n. n.decides) ns)

  -- parameters name none, and within them the variables are visible
  abbrev pub IsOpened : Bool → Opened → Type 0
  IsOpened b o = (b ≡ false) × KeepsVariables names o.scope

  named-decided : (name : NameTree) (o : Option Thing) → (is_among names name.text ≡ true → (s : Sort) × (o ≡ Some (variable s))) → Holds (IsDecided (named name)) (name_node name o)
  named-decided name None h = fault _ (Unknown name.at)
  named-decided name (Some thing) h = ok _ _ (λ r m. let w = h m in ap is_decided (some-thing thing (variable w.0) w.1))

  known-decided : (at : ℕ) (f : Form) (base : Node) (name : NameTree) (s : Option Sort) → Decides f base → Holds (IsDecided (field at f name)) (known_field at base name s)
  known-decided at f base name None h = fault _ (Unknown name.at)
  known-decided at f base name (Some s) h = ok _ _ (λ r. one_gives _ _ h)

  field-decided : (sc : Scope) (at : ℕ) (f : Form) (base : Node) (name : NameTree) (s : Sort) → Decides f base → Holds (IsDecided (field at f name)) (field_node sc at base name s)
  field-decided sc at f base name activity h = then _ _ _ _ (unless_holds (is_time name.text) (Unknown name.at)) (λ u e. ok _ _ (λ r. one_gives _ _ h))
  field-decided sc at f base name (structure k) h = known-decided at f base name (field_sort name.text (fields sc k)) h
  field-decided sc at f base name s h = ok _ _ (λ r. one_gives _ _ h)

  part-of : (f : Form) (c : Checked Node) → Holds (IsDecided f) c → Holds (Decides f) (and_then c part)
  part-of f c h = then _ _ _ _ h (λ n i. settle nothing (any_type n.sort) n (Decides f) (λ met r. i r))

  used-of : (f : Form) (need : Need) (takes : Sort → Bool) (c : Checked Node) → Holds (IsDecided f) c → Holds (Decides f) (and_then c (used need takes))
  used-of f need takes c h = then _ _ _ _ h (λ n i. settle need (takes n.sort) n (Decides f) (λ met r. i r))

  pub data-of : (f : Form) (takes : Sort → Bool) (c : Checked Node) → Holds (IsDecided f) c → Holds (λ n. mentions names f ≡ false) (and_then c (used data_alone takes))
  data-of f takes c h = then _ _ _ _ h (λ n i. settle data_alone (takes n.sort) n (λ m. mentions names f ≡ false) (λ met r. none_given _ _ (i r) (not_true n.decides (left (not n.decides) (not n.asks) met))))

  described-by : (sc : Scope) (at : ℕ) (f : Form) (p : Params) (c : Checked Opened) (make : Node → Opened → Node) → ((n : Node) (o : Opened) → (make n o).decides ≡ list_any (λ m. m.decides) (n ∷ []))
      → Holds (IsOpened (params_mention names p)) c → ((inner : Scope) → KeepsVariables names inner → Holds (Decides f) (and_then (typing inner f) part))
      → Holds (IsDecided (described at f p)) (and_then (and_then (typing (scope_within sc p c) f) part) (λ n. and_then c (λ o. Ok (make n o))))
  described-by sc at f p (Ok o) make is w g =
      let v = at_ok (IsOpened (params_mention names p)) (Ok o) o refl w in
      then _ _ _ _ (g o.scope v.1) (λ n h. ok _ _ (λ r. subst (λ b. Gives (mentions names (described at f p)) b) (sym (is n o)) (first_gives _ _ _ v.0 (one_gives _ _ h))))
  described-by sc at f p (Err e) make is w g = nothing_found _ _ e

  mutual
    unfolding typing

    pub typed : (f : Form) (sc : Scope) → KeepsVariables names sc → Holds (IsDecided f) (typing sc f)
    typed (number at) sc k = ok _ _ (λ r m. absurd (cc))
    typed (named name) sc k = named-decided name (lookup sc name.text) (k.visible name.text)
    typed (bracket at f) sc k = then _ _ _ _ (part-of f _ (typed f sc k)) (λ n h. ok _ _ (λ r. h))
    typed (negative at f) sc k = then _ _ _ _ (part-of f _ (typed f sc k)) (λ n h. ok _ _ (λ r. one_gives _ _ h))
    typed (arithmetic at fs) sc k = then _ _ _ _ (all-typed fs sc k) (λ ns h. ok _ _ (λ r. h))
    typed (absolute at f) sc k = then _ _ _ _ (part-of f _ (typed f sc k)) (λ n h. ok _ _ (λ r. one_gives _ _ h))
    typed (related at f relation g) sc k = then _ _ _ _ (part-of f _ (typed f sc k)) (λ m h. then _ _ _ _ (part-of g _ (typed g sc k)) (λ n i. ok _ _ (λ r. or_gives _ _ _ _ h (one_gives _ _ i))))
    typed (member at f over) sc k = then _ _ _ _ (part-of f _ (typed f sc k)) (λ n h. then _ _ _ _ (set-typed over nothing any_type sc k) (λ range i. ok _ _ (λ r. or_gives _ _ _ _ h i)))
    typed (connected at fs) sc k = then _ _ _ _ (all-typed fs sc k) (λ ns h. ok _ _ (λ r. h))
    typed (aggregate at p f) sc k = then _ _ _ _ (params-typed p sc k) (λ o w. then _ _ _ _ (part-of f _ (typed f o.scope w.1)) (λ n h. ok _ _ (λ r. second_gives _ _ _ w.0 (one_gives _ _ h))))
    typed (cardinality at f) sc k = then _ _ _ _ (part-of f _ (typed f sc k)) (λ n h. ok _ _ (λ r. one_gives _ _ h))
    typed (all_different at f) sc k = then _ _ _ _ (part-of f _ (typed f sc k)) (λ n h. ok _ _ (λ r. one_gives _ _ h))
    typed (subscripted at f es) sc k =
        then _ _ _ _ (part-of f _ (typed f sc k)) (λ base h. then _ _ _ _ (all-typed es sc k) (λ ns i. ok _ _ (λ r.
        subst (λ b. Gives (mentions names f || some_mention names es) b) (sym (element-decides sc at base ns base.sort)) (or_gives _ _ _ _ h i))))
    typed (field at f name) sc k = then _ _ _ _ (part-of f _ (typed f sc k)) (λ base h. field-decided sc at f base name base.sort h)
    typed (tuple at fs) sc k = then _ _ _ _ (all-typed fs sc k) (λ ns h. ok _ _ (λ r. h))
    typed (listed at fs) sc k = then _ _ _ _ (all-typed fs sc k) (λ ns h. ok _ _ (λ r. h))
    typed (described at f p) sc k = described-by sc at f p (open_params data_alone sc p) (λ n o. of_data (node at (set n.sort) (n ∷ []) (is_storable n.sort) (kinds n ++ o.kinds))) (λ n o. refl) (params-typed p sc k) (λ inner i. part-of f _ (typed f inner i))
    typed (cells at fs) sc k = then _ _ _ _ (all-typed fs sc k) (λ ns h. ok _ _ (λ r. h))
    typed (keyed_cells at ps) sc k = then _ _ _ _ (pairs-typed ps sc k) (λ ns h. ok _ _ (λ r. h))
    typed (question at op f) sc k = then _ _ _ _ (part-of f _ (typed f sc k)) (λ n h. ok _ _ (λ r m. let s = left sc.is_search n.is_one r in let t = k.no_search in absurd (cc)))

    all-typed : (fs : Forms) (sc : Scope) → KeepsVariables names sc → Holds (AreDecided (some_mention names fs)) (typed_parts sc fs)
    all-typed no_forms sc k = ok _ [] (λ m. absurd (cc))
    all-typed (more_forms f fs) sc k = then _ _ _ _ (part-of f _ (typed f sc k)) (λ n h. then _ _ _ _ (all-typed fs sc k) (λ ns i. ok _ _ (or_gives _ _ _ _ h i)))

    pairs-typed : (ps : Pairs) (sc : Scope) → KeepsVariables names sc → Holds (AreDecided (pairs_mention names ps)) (typed_pairs sc ps)
    pairs-typed no_pairs sc k = ok _ [] (λ m. absurd (cc))
    pairs-typed (more_pairs key cell others) sc k =
        then _ _ _ _ (part-of key _ (typed key sc k)) (λ m h. then _ _ _ _ (part-of cell _ (typed cell sc k)) (λ n i. then _ _ _ _ (pairs-typed others sc k) (λ ns j. ok _ _ (or_gives _ _ _ _ h (or_gives _ _ _ _ i j)))))

    set-typed : (over : SetForm) (need : Need) (takes : Sort → Bool) (sc : Scope) → KeepsVariables names sc → Holds (λ range. AreDecided (set_mentions names over) range.nodes) (typed_set need takes sc over)
    set-typed (whole f) need takes sc k = then _ _ _ _ (used-of f need takes _ (typed f sc k)) (λ n h. ok _ _ (one_gives _ _ h))
    set-typed (between low high) need takes sc k =
        then _ _ _ _ (used-of low data_alone is_number _ (typed low sc k)) (λ m h. then _ _ _ _ (used-of high data_alone is_number _ (typed high sc k)) (λ n i. ok _ _ (or_gives _ _ _ _ h (one_gives _ _ i))))

    data-set : (over : SetForm) (sc : Scope) → KeepsVariables names sc → Holds (λ range. set_mentions names over ≡ false) (typed_set data_alone is_set sc over)
    data-set (whole f) sc k = then _ _ _ _ (data-of f is_set _ (typed f sc k)) (λ n h. ok _ _ h)
    data-set (between low high) sc k =
        then _ _ _ _ (data-of low is_number _ (typed low sc k)) (λ m h. then _ _ _ _ (data-of high is_number _ (typed high sc k)) (λ n i. ok _ _ (neither _ _ h i)))

    groups-typed : (gs : Groups) (sc : Scope) → KeepsVariables names sc → Holds (IsOpened (groups_mention names gs)) (open_groups sc gs)
    groups-typed no_groups sc k = ok (IsOpened false) _ (refl, k)
    groups-typed (more_groups ps over others) sc k =
        then _ _ _ _ (fresh-others names (flat_map pattern_names ps) sc k) (λ u os. then _ _ _ _ (data-set over sc k) (λ range h.
        then _ _ _ _ (keeps-patterns names ps sc (or_anything range.element) os k) (λ inner i. then _ _ _ _ (groups-typed others inner i) (λ o w. ok (IsOpened (set_mentions names over || groups_mention names others)) _ (neither _ _ h w.0, w.1)))))

    pub params-typed : (p : Params) (sc : Scope) → KeepsVariables names sc → Holds (IsOpened (params_mention names p)) (open_params data_alone sc p)
    params-typed (all_of gs) sc k = groups-typed gs sc k
    params-typed (those_of gs condition) sc k =
        then _ _ _ _ (groups-typed gs sc k) (λ o w. then _ _ _ _ (data-of condition is_truth _ (typed condition o.scope w.1)) (λ n h. ok (IsOpened (groups_mention names gs || mentions names condition)) _ (neither _ _ w.0 h, w.1)))

pub variables_decide : VariablesDecide
variables_decide names sc f n k h = at_ok (λ m. Gives (mentions names f) m.decides) (and_then (typing sc f) part) n h (part-of names f (typing sc f) (typed names f sc k))

pub data_names_none : DataNamesNone
data_names_none names sc f takes n k h = at_ok (λ m. mentions names f ≡ false) (and_then (typing sc f) (used data_alone takes)) n h (data-of names f takes (typing sc f) (typed names f sc k))

pub params_name_none : ParamsNameNone
params_name_none names sc p o k h = at_ok (λ q. (params_mention names p ≡ false) × KeepsVariables names q.scope) (open_params data_alone sc p) o h (params-typed names p sc k)
