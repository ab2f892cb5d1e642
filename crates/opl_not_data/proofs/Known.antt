-- Typing knows what is no data.
use Rattle.std.proofs.Common.{◌≡◌, ◌⊎◌, inl, inr, ℕ, Bool, true, false, ◌&&◌, ◌||◌, not, List, [], ◌∷◌, ◌++◌, Option, None, Some, Ok, Err, refl, ap, sym, ◌∙◌, suc}
use Rattle.std.specs.List.{list_any, flat_map, slice_get}
use Rattle.opl_tree.specs.declared.expression.NameTree.{NameTree}
use Rattle.opl_type_rules.specs.declared.fault.TypeFault.{TypeFault}
use Rattle.opl_type_rules.specs.declared.fault.TypeFault.TheVariants.{Mismatch, NotData}
use Rattle.opl_type_rules.specs.Types.{Sort, is_number, is_set, is_storable, is_truth}
use Rattle.opl_type_rules.specs.Types.Sort.{activity, array, set, structure}
use Rattle.opl_type_rules.specs.Scope.{Checked, and_then, unless, Text, Scope, Thing, field_sort, fields, lookup}
use Rattle.opl_type_rules.specs.Forms.{Form, Forms, Pairs, SetForm, Groups, Params}
use Rattle.opl_type_rules.specs.Forms.Form.{number, named, bracket, negative, arithmetic, absolute, related, member, connected, aggregate, cardinality, all_different, subscripted, field, tuple, listed, described, cells, keyed_cells, question}
use Rattle.opl_type_rules.specs.Forms.Forms.{no_forms, more_forms}
use Rattle.opl_type_rules.specs.Forms.Pairs.{no_pairs, more_pairs}
use Rattle.opl_type_rules.specs.Forms.SetForm.{whole, between}
use Rattle.opl_type_rules.specs.Forms.Groups.{no_groups, more_groups}
use Rattle.opl_type_rules.specs.Forms.Params.{all_of, those_of}
use Rattle.opl_type_rules.specs.Expressions.{Node, Need, Opened, settled, kinds, node, of_data, used, part, any_type, is_met, is_data, is_time, name_node, element_node, known_field, field_node, names_of_params, pattern_names, or_anything, scope_within, typing, typed_parts, typed_pairs, typed_set, open_groups, open_params}
use Rattle.opl_type_rules.specs.Expressions.Need.{data_alone, data_or_questions, nothing}
use Rattle.opl_not_data.specs.Laws.{MentionsAreKnown, NotDataIsExact, NotDataIsMentioned, NotDataIsMentionedThere}
use Rattle.opl_not_data.specs.Mentions.{decided, thing_decided, decides, some_decides, pairs_decides, set_decides, groups_decides, params_decides, asks, some_asks, pairs_asks, set_asks, groups_asks, params_asks}
use Rattle.opl_not_data.proofs.Parameters.{Keeps, below-values, fresh-others, keeps-patterns}
use Rattle.opl_not_data.specs.Parts.{IsMentionedAt, itself, deeper, first_token, list_of, list_of_pairs, list_of_set, list_of_groups, list_of_params, parts}
use Rattle.opl_not_data.proofs.Outcomes.{Outcome, ok, unknown, then, weaker, same_fault, unless_data, unless_known, unless_right, at_ok, at_not_data}
use Rattle.opl_not_data.proofs.Truths.{Gives, Either, or_gives, first_of, second_of, either_or, or_none, link, and_left, and_right, not_true, neither, not_without, with_one, first_false, second_fails, one_fails}

-- ---- fewer names that are decided

module _ (d e : Text → Bool) (more : (name : Text) → Gives (d name) (e name)) where
  mutual
    more-form : (f : Form) → Gives (decides d f) (decides e f)
    more-form (number at) = λ h. h
    more-form (named name) = more name.text
    more-form (bracket at f) = more-form f
    more-form (negative at f) = more-form f
    more-form (arithmetic at fs) = more-forms fs
    more-form (absolute at f) = more-form f
    more-form (related at f relation g) = or_gives _ _ _ _ (more-form f) (more-form g)
    more-form (member at f over) = or_gives _ _ _ _ (more-form f) (more-set over)
    more-form (connected at fs) = more-forms fs
    more-form (aggregate at p f) = or_gives _ _ _ _ (more-params p) (more-form f)
    more-form (cardinality at f) = more-form f
    more-form (all_different at f) = more-form f
    more-form (subscripted at f es) = or_gives _ _ _ _ (more-form f) (more-forms es)
    more-form (field at f name) = more-form f
    more-form (tuple at fs) = more-forms fs
    more-form (listed at fs) = more-forms fs
    more-form (described at f p) = or_gives _ _ _ _ (more-form f) (more-params p)
    more-form (cells at fs) = more-forms fs
    more-form (keyed_cells at ps) = more-pairs ps
    more-form (question at op f) = λ h. h

    more-forms : (fs : Forms) → Gives (some_decides d fs) (some_decides e fs)
    more-forms no_forms = λ h. h
    more-forms (more_forms f fs) = or_gives _ _ _ _ (more-form f) (more-forms fs)

    more-pairs : (ps : Pairs) → Gives (pairs_decides d ps) (pairs_decides e ps)
    more-pairs no_pairs = λ h. h
    more-pairs (more_pairs key cell others) = or_gives _ _ _ _ (more-form key) (or_gives _ _ _ _ (more-form cell) (more-pairs others))

    more-set : (over : SetForm) → Gives (set_decides d over) (set_decides e over)
    more-set (whole f) = more-form f
    more-set (between low high) = or_gives _ _ _ _ (more-form low) (more-form high)

    more-groups : (gs : Groups) → Gives (groups_decides d gs) (groups_decides e gs)
    more-groups no_groups = λ h. h
    more-groups (more_groups ps over others) = or_gives _ _ _ _ (more-set over) (more-groups others)

    more-params : (p : Params) → Gives (params_decides d p) (params_decides e p)
    more-params (all_of gs) = more-groups gs
    more-params (those_of gs condition) = or_gives _ _ _ _ (more-groups gs) (more-form condition)

  more-used : (f : Form) → Either (decides d f) (asks f) → Either (decides e f) (asks f)
  more-used f (inl h) = inl (more-form f h)
  more-used f (inr h) = inr h

-- ---- one expression

-- the node tells what is mentioned
abbrev pub Told : (Text → Bool) → Form → Node → Type 0
Told d f n = (n.decides ≡ decides d f) × (n.asks ≡ asks f) × (n.place ≡ first_token f)

abbrev Uses : (Text → Bool) → Form → Type 0
Uses d f = Either (decides d f) (asks f)

-- one of these expressions has such a place
abbrev SomeAt : (Text → Bool) → List Form → ℕ → Type 0
SomeAt d [] at = ⊥
SomeAt d (f ∷ fs) at = IsMentionedAt d f at ⊎ SomeAt d fs at

some-before : (d : Text → Bool) (fs gs : List Form) (at : ℕ) → SomeAt d fs at → SomeAt d (fs ++ gs) at
some-before d [] gs at h = absurd h
some-before d (f ∷ fs) gs at (inl h) = inl h
some-before d (f ∷ fs) gs at (inr h) = inr (some-before d fs gs at h)

some-behind : (d : Text → Bool) (fs gs : List Form) (at : ℕ) → SomeAt d gs at → SomeAt d (fs ++ gs) at
some-behind d [] gs at h = h
some-behind d (f ∷ fs) gs at h = inr (some-behind d fs gs at h)

find-some : (d : Text → Bool) (fs : List Form) (at : ℕ) → SomeAt d fs at → (i : ℕ) × (h : Form) × (slice_get fs i ≡ Some h) × IsMentionedAt d h at
find-some d [] at h = absurd h
find-some d (f ∷ fs) at (inl h) = (0, f, refl, h)
find-some d (f ∷ fs) at (inr h) = let r = find-some d fs at h in (suc r.0, r.1, r.2, r.3)

in-parts : (d : Text → Bool) (f : Form) (at : ℕ) → SomeAt d (parts f) at → IsMentionedAt d f at
in-parts d f at s =
    let r = find-some d (parts f) at s in
    record { expression = r.3.expression; stands = deeper f r.1 r.0 r.2 r.3.stands; begins = r.3.begins; mentions = r.3.mentions }

-- what is said of a fault that something in an expression, or in its parts, is no data
abbrev Blames : (Text → Bool) → Bool → Bool → List Form → ℕ → Type 0
Blames d b c fs at = Either b c × SomeAt d fs at

abbrev Blamed : (Text → Bool) → Form → ℕ → Type 0
Blamed d f at = Uses d f × IsMentionedAt d f at

-- all of these together tell it
abbrev AreTold : Bool → Bool → List Node → Type 0
AreTold b c ns = (list_any (λ n. n.decides) ns ≡ b) × (list_any (λ n. n.asks) ns ≡ c)

abbrev IsTold : (Text → Bool) → Form → Checked Node → Type 0
IsTold d f c = Outcome (Told d f) (Blames d (decides d f) (asks f) (parts f)) c

-- the same in a place that takes it
abbrev IsTaken : (Text → Bool) → Form → Checked Node → Type 0
IsTaken d f c = Outcome (Told d f) (Blamed d f) c

told-uses : (d : Text → Bool) (f : Form) (n : Node) → Told d f n → Either n.decides n.asks → Uses d f
told-uses d f n t (inl h) = inl (sym t.0 ∙ h)
told-uses d f n t (inr h) = inr (sym t.1 ∙ h)

-- what a place or a rule does not take is no data
not-taken : (n : Node) (b : Bool) → (not b || is_data n) ≡ false → Either n.decides n.asks
not-taken n b h = not_without n.decides n.asks (second_fails b (is_data n) h)

not-met : (need : Need) (n : Node) → (is_met need n && (not n.takes_data || is_data n)) ≡ false → Either n.decides n.asks
not-met nothing n h = not-taken n n.takes_data h
not-met data_alone n h = by (one_fails (is_data n) (not n.takes_data || is_data n) h)
  where
    by : (is_data n ≡ false) ⊎ ((not n.takes_data || is_data n) ≡ false) → Either n.decides n.asks
    by (inl e) = not_without n.decides n.asks e
    by (inr e) = not-taken n n.takes_data e
not-met data_or_questions n h = by (one_fails (not n.decides) (not n.takes_data || is_data n) h)
  where
    by : (not n.decides ≡ false) ⊎ ((not n.takes_data || is_data n) ≡ false) → Either n.decides n.asks
    by (inl e) = not_without n.decides n.asks (first_false (not n.decides) (not n.asks) e)
    by (inr e) = not-taken n n.takes_data e

here : (d : Text → Bool) (f : Form) (n : Node) (at : ℕ) → Told d f n → Uses d f → n.place ≡ at → Blamed d f at
here d f n at t u e = (u, record { expression = f; stands = itself; begins = sym t.2 ∙ e; mentions = either_or (decides d f) (asks f) u })

settle : (d : Text → Bool) (f : Form) (need : Need) (is_taken : Bool) (n : Node) → Told d f n → Outcome (λ m. Told d f m × (is_met need m ≡ true)) (Blamed d f) (settled need is_taken n)
unfolding settled
settle d f need is_taken n t =
    then _ _ _ _ _ _ (unless_data (is_met need n && (not n.takes_data || is_data n)) n.place) (λ at no. here d f n at t (told-uses d f n t (not-met need n no.0)) no.1) (λ u met.
    then _ _ _ _ _ _ (unless_right (n.is_right && is_taken) n.place) (λ at q. absurd q) (λ v right. ok _ _ n (t, and_left (is_met need n) (not n.takes_data || is_data n) met)))

used-of : (d : Text → Bool) (f : Form) (need : Need) (takes : Sort → Bool) (c : Checked Node) → IsTold d f c → Outcome (λ m. Told d f m × (is_met need m ≡ true)) (Blamed d f) (and_then c (used need takes))
used-of d f need takes c h = then _ _ _ _ _ _ h (λ at q. (q.0, in-parts d f at q.1)) (λ n t. settle d f need (takes n.sort) n t)

part-of : (d : Text → Bool) (f : Form) (c : Checked Node) → IsTold d f c → IsTaken d f (and_then c part)
part-of d f c h = weaker _ _ _ _ _ (used-of d f nothing any_type c h) (λ at q. q) (λ n t. t.0)

data-none : (d : Text → Bool) (f : Form) (n : Node) → Told d f n → is_data n ≡ true → (decides d f ≡ false) × (asks f ≡ false)
data-none d f n t h =
    (sym t.0 ∙ not_true n.decides (and_left (not n.decides) (not n.asks) h), sym t.1 ∙ not_true n.asks (and_right (not n.decides) (not n.asks) h))

data-of : (d : Text → Bool) (f : Form) (takes : Sort → Bool) (c : Checked Node) → IsTold d f c → Outcome (λ n. (decides d f ≡ false) × (asks f ≡ false)) (Blamed d f) (and_then c (used data_alone takes))
data-of d f takes c h = weaker _ _ _ _ _ (used-of d f data_alone takes c h) (λ at q. q) (λ n t. data-none d f n t.0 t.1)

-- ---- nodes

told-name : (sc : Scope) (d : Text → Bool) (name : Text) → Keeps d sc → thing_decided (lookup sc name) ≡ d name
unfolding decided
told-name sc d name k = k name

named-told : (d : Text → Bool) (name : NameTree) (o : Option Thing) → thing_decided o ≡ d name.text → IsTold d (named name) (name_node name o)
named-told d name None h = unknown _ _ name.at
named-told d name (Some thing) h = ok _ _ _ (h, refl, refl)

abbrev One : Bool → Bool → Node → Type 0
One b c n = ((n.decides || false) ≡ b) × ((n.asks || false) ≡ c)

one : (d : Text → Bool) (f : Form) (n : Node) → Told d f n → One (decides d f) (asks f) n
one d f n t = (or_none n.decides ∙ t.0, or_none n.asks ∙ t.1)

element-decides : (sc : Scope) (at : ℕ) (base : Node) (ns : List Node) (s : Sort) → (element_node sc at base ns s).decides ≡ list_any (λ n. n.decides) (base ∷ ns)
element-decides sc at base ns (array indices element) = refl
element-decides sc at base ns s = refl

element-asks : (sc : Scope) (at : ℕ) (base : Node) (ns : List Node) (s : Sort) → (element_node sc at base ns s).asks ≡ list_any (λ n. n.asks) (base ∷ ns)
element-asks sc at base ns (array indices element) = refl
element-asks sc at base ns s = refl

element-place : (sc : Scope) (at : ℕ) (base : Node) (ns : List Node) (s : Sort) → (element_node sc at base ns s).place ≡ at
element-place sc at base ns (array indices element) = refl
element-place sc at base ns s = refl

known-told : (d : Text → Bool) (at : ℕ) (f : Form) (base : Node) (name : NameTree) (s : Option Sort) → Told d f base → IsTold d (field at f name) (known_field at base name s)
known-told d at f base name None t = unknown _ _ name.at
known-told d at f base name (Some s) t = ok _ _ _ ((one d f base t).0, (one d f base t).1, refl)

field-told : (d : Text → Bool) (sc : Scope) (at : ℕ) (f : Form) (base : Node) (name : NameTree) (s : Sort) → Told d f base → IsTold d (field at f name) (field_node sc at base name s)
field-told d sc at f base name activity t = then _ _ _ _ _ _ (unless_known (is_time name.text) name.at) (λ place q. absurd q) (λ u e. ok _ _ _ ((one d f base t).0, (one d f base t).1, refl))
field-told d sc at f base name (structure k) t = known-told d at f base name (field_sort name.text (fields sc k)) t
field-told d sc at f base name s t = ok _ _ _ ((one d f base t).0, (one d f base t).1, refl)

-- ---- parameters

-- no set and no condition of parameters mentions what is no data, and within them each name stands for what it does here
abbrev AreOpened : (Text → Bool) → Bool → Bool → Opened → Type 0
AreOpened d b c o = (b ≡ false) × (c ≡ false) × Keeps d o.scope

abbrev IsOpened : (Text → Bool) → Params → Checked Opened → Type 0
IsOpened d p c = Outcome (AreOpened d (params_decides d p) (params_asks p)) (Blames d (params_decides d p) (params_asks p) (list_of_params p)) c

behind-none : (a b : Bool) → a ≡ false → b ≡ (a || b)
behind-none a b h = sym (ap (λ x. x || b) h)

before-none : (a b : Bool) → b ≡ false → a ≡ (a || b)
before-none a b h = sym (ap (λ x. a || x) h ∙ or_none a)

more-blamed : (d e : Text → Bool) → ((name : Text) → Gives (d name) (e name)) → (f : Form) (at : ℕ) → Blamed d f at → Blamed e f at
more-blamed d e m f at q = (
  more-used d e m f q.0,
  record {
    expression = q.1.expression;
    stands = q.1.stands;
    begins = q.1.begins;
    mentions = or_gives (decides d q.1.expression) (asks q.1.expression) (decides e q.1.expression) (asks q.1.expression) (more-form d e m q.1.expression) (λ h. h) q.1.mentions;
  },
)

hidden-part : (d : Text → Bool) (f : Form) (p : Params) (sc : Scope) (e : TypeFault) → Keeps d sc →
    ((inner : Text → Bool) (s : Scope) → Keeps inner s → IsTold inner f (typing s f)) → Outcome (λ n. Unit {0}) (Blamed d f) (and_then (typing (scope_within sc p (Err e)) f) part)
hidden-part d f p sc e k typed-f =
    let s = scope_within sc p (Err e) in
    weaker _ _ _ _ _ (part-of (decided s) f (typing s f) (typed-f (decided s) s (λ name. refl)))
    (λ at q. more-blamed (decided s) d (λ name h. sym (k name) ∙ below-values (names_of_params p) _ sc name h) f at q) (λ n t. tt)

described-by : (d : Text → Bool) (sc : Scope) (at : ℕ) (f : Form) (p : Params) (c : Checked Opened) (make : Node → Opened → Node) →
    ((n : Node) (o : Opened) → ((make n o).decides ≡ (n.decides || false)) × ((make n o).asks ≡ (n.asks || false)) × ((make n o).place ≡ at)) → Keeps d sc → IsOpened d p c →
    ((inner : Text → Bool) (s : Scope) → Keeps inner s → IsTold inner f (typing s f)) →
    IsTold d (described at f p) (and_then (and_then (typing (scope_within sc p c) f) part) (λ n. and_then c (λ o. Ok (make n o))))
described-by d sc at f p (Ok o) make is k w typed-f =
    let v = at_ok (AreOpened d (params_decides d p) (params_asks p)) (Blames d (params_decides d p) (params_asks p) (list_of_params p)) (Ok o) o refl w in
    then _ _ _ _ _ _ (part-of d f (typing o.scope f) (typed-f d o.scope v.2)) (λ place q. (first_of (params_decides d p) (params_asks p) q.0, inl q.1))
    (λ n t. ok _ _ _ ((is n o).0 ∙ (one d f n t).0 ∙ before-none (decides d f) (params_decides d p) v.0, (is n o).1 ∙ (one d f n t).1 ∙ before-none (asks f) (params_asks p) v.1, (is n o).2))
described-by d sc at f p (Err e) make is k w typed-f =
    then _ _ _ _ _ _ (hidden-part d f p sc e k typed-f) (λ place q. (first_of (params_decides d p) (params_asks p) q.0, inl q.1)) (λ n t. same_fault _ _ _ _ e w (λ place q. (second_of (decides d f) (asks f) q.0, inr q.1)))

-- ---- every expression

mutual
  unfolding typing

  typed : (f : Form) (d : Text → Bool) (sc : Scope) → Keeps d sc → IsTold d f (typing sc f)
  typed (number at) d sc k = ok _ _ _ (refl, refl, refl)
  typed (named name) d sc k = named-told d name (lookup sc name.text) (told-name sc d name.text k)
  typed (bracket at f) d sc k = then _ _ _ _ _ _ (part-of d f _ (typed f d sc k)) (λ place q. (q.0, inl q.1)) (λ n t. ok _ _ _ (t.0, t.1, refl))
  typed (negative at f) d sc k = then _ _ _ _ _ _ (part-of d f _ (typed f d sc k)) (λ place q. (q.0, inl q.1)) (λ n t. ok _ _ _ ((one d f n t).0, (one d f n t).1, refl))
  typed (arithmetic at fs) d sc k = then _ _ _ _ _ _ (all-typed fs d sc k) (λ place q. q) (λ ns t. ok _ _ _ (t.0, t.1, refl))
  typed (absolute at f) d sc k = then _ _ _ _ _ _ (part-of d f _ (typed f d sc k)) (λ place q. (q.0, inl q.1)) (λ n t. ok _ _ _ ((one d f n t).0, (one d f n t).1, refl))
  typed (related at f relation g) d sc k =
      then _ _ _ _ _ _ (part-of d f _ (typed f d sc k)) (λ place q. (first_of (decides d g) (asks g) q.0, inl q.1)) (λ m t.
      then _ _ _ _ _ _ (part-of d g _ (typed g d sc k)) (λ place q. (second_of (decides d f) (asks f) q.0, inr (inl q.1))) (λ n u. ok _ _ _ (link t.0 (one d g n u).0, link t.1 (one d g n u).1, refl)))
  typed (member at f over) d sc k =
      then _ _ _ _ _ _ (part-of d f _ (typed f d sc k)) (λ place q. (first_of (set_decides d over) (set_asks over) q.0, inl q.1)) (λ n t.
      then _ _ _ _ _ _ (set-typed over d nothing any_type sc k) (λ place q. (second_of (decides d f) (asks f) q.0, inr q.1)) (λ range u. ok _ _ _ (link t.0 u.0, link t.1 u.1, refl)))
  typed (connected at fs) d sc k = then _ _ _ _ _ _ (all-typed fs d sc k) (λ place q. q) (λ ns t. ok _ _ _ (t.0, t.1, refl))
  typed (aggregate at p f) d sc k =
      then _ _ _ _ _ _ (params-typed p d sc k) (λ place q. (first_of (decides d f) (asks f) q.0, inr q.1)) (λ o w.
      then _ _ _ _ _ _ (part-of d f _ (typed f d o.scope w.2)) (λ place q. (second_of (params_decides d p) (params_asks p) q.0, inl q.1)) (λ n t.
      ok _ _ _ ((one d f n t).0 ∙ behind-none (params_decides d p) (decides d f) w.0, (one d f n t).1 ∙ behind-none (params_asks p) (asks f) w.1, refl)))
  typed (cardinality at f) d sc k = then _ _ _ _ _ _ (part-of d f _ (typed f d sc k)) (λ place q. (q.0, inl q.1)) (λ n t. ok _ _ _ ((one d f n t).0, (one d f n t).1, refl))
  typed (all_different at f) d sc k = then _ _ _ _ _ _ (part-of d f _ (typed f d sc k)) (λ place q. (q.0, inl q.1)) (λ n t. ok _ _ _ ((one d f n t).0, (one d f n t).1, refl))
  typed (subscripted at f es) d sc k =
      then _ _ _ _ _ _ (part-of d f _ (typed f d sc k)) (λ place q. (first_of (some_decides d es) (some_asks es) q.0, inl q.1)) (λ base t.
      then _ _ _ _ _ _ (all-typed es d sc k) (λ place q. (second_of (decides d f) (asks f) q.0, inr q.1)) (λ ns u.
      ok _ _ _ (element-decides sc at base ns base.sort ∙ link t.0 u.0, element-asks sc at base ns base.sort ∙ link t.1 u.1, element-place sc at base ns base.sort)))
  typed (field at f name) d sc k = then _ _ _ _ _ _ (part-of d f _ (typed f d sc k)) (λ place q. (q.0, inl q.1)) (λ base t. field-told d sc at f base name base.sort t)
  typed (tuple at fs) d sc k = then _ _ _ _ _ _ (all-typed fs d sc k) (λ place q. q) (λ ns t. ok _ _ _ (t.0, t.1, refl))
  typed (listed at fs) d sc k = then _ _ _ _ _ _ (all-typed fs d sc k) (λ place q. q) (λ ns t. ok _ _ _ (t.0, t.1, refl))
  typed (described at f p) d sc k =
      described-by d sc at f p (open_params data_alone sc p) (λ n o. of_data (node at (set n.sort) (n ∷ []) (is_storable n.sort) (kinds n ++ o.kinds))) (λ n o. (refl, refl, refl)) k
      (params-typed p d sc k) (λ inner s i. typed f inner s i)
  typed (cells at fs) d sc k = then _ _ _ _ _ _ (all-typed fs d sc k) (λ place q. q) (λ ns t. ok _ _ _ (t.0, t.1, refl))
  typed (keyed_cells at ps) d sc k = then _ _ _ _ _ _ (pairs-typed ps d sc k) (λ place q. q) (λ ns t. ok _ _ _ (t.0, t.1, refl))
  typed (question at op f) d sc k = then _ _ _ _ _ _ (part-of d f _ (typed f d sc k)) (λ place q. (inr refl, inl q.1)) (λ n t. ok _ _ _ (refl, refl, refl))

  all-typed : (fs : Forms) (d : Text → Bool) (sc : Scope) → Keeps d sc → Outcome (AreTold (some_decides d fs) (some_asks fs)) (Blames d (some_decides d fs) (some_asks fs) (list_of fs)) (typed_parts sc fs)
  all-typed no_forms d sc k = ok _ _ [] (refl, refl)
  all-typed (more_forms f fs) d sc k =
      then _ _ _ _ _ _ (part-of d f _ (typed f d sc k)) (λ place q. (first_of (some_decides d fs) (some_asks fs) q.0, inl q.1)) (λ n t.
      then _ _ _ _ _ _ (all-typed fs d sc k) (λ place q. (second_of (decides d f) (asks f) q.0, inr q.1)) (λ ns u. ok _ _ _ (link t.0 u.0, link t.1 u.1)))

  pairs-typed : (ps : Pairs) (d : Text → Bool) (sc : Scope) → Keeps d sc → Outcome (AreTold (pairs_decides d ps) (pairs_asks ps)) (Blames d (pairs_decides d ps) (pairs_asks ps) (list_of_pairs ps)) (typed_pairs sc ps)
  pairs-typed no_pairs d sc k = ok _ _ [] (refl, refl)
  pairs-typed (more_pairs key cell others) d sc k =
      then _ _ _ _ _ _ (part-of d key _ (typed key d sc k)) (λ place q. (first_of (decides d cell || pairs_decides d others) (asks cell || pairs_asks others) q.0, inl q.1)) (λ m t.
      then _ _ _ _ _ _ (part-of d cell _ (typed cell d sc k)) (λ place q. (second_of (decides d key) (asks key) (first_of (pairs_decides d others) (pairs_asks others) q.0), inr (inl q.1))) (λ n u.
      then _ _ _ _ _ _ (pairs-typed others d sc k) (λ place q. (second_of (decides d key) (asks key) (second_of (decides d cell) (asks cell) q.0), inr (inr q.1))) (λ ns v.
      ok _ _ _ (link t.0 (link u.0 v.0), link t.1 (link u.1 v.1)))))

  set-typed : (over : SetForm) (d : Text → Bool) (need : Need) (takes : Sort → Bool) (sc : Scope) → Keeps d sc →
      Outcome (λ range. AreTold (set_decides d over) (set_asks over) range.nodes) (Blames d (set_decides d over) (set_asks over) (list_of_set over)) (typed_set need takes sc over)
  set-typed (whole f) d need takes sc k = then _ _ _ _ _ _ (used-of d f need takes _ (typed f d sc k)) (λ place q. (q.0, inl q.1)) (λ n t. ok _ _ _ (one d f n t.0))
  set-typed (between low high) d need takes sc k =
      then _ _ _ _ _ _ (used-of d low data_alone is_number _ (typed low d sc k)) (λ place q. (first_of (decides d high) (asks high) q.0, inl q.1)) (λ m t.
      then _ _ _ _ _ _ (used-of d high data_alone is_number _ (typed high d sc k)) (λ place q. (second_of (decides d low) (asks low) q.0, inr (inl q.1))) (λ n u. ok _ _ _ (link t.0.0 (one d high n u.0).0, link t.0.1 (one d high n u.0).1)))

  data-set : (over : SetForm) (d : Text → Bool) (sc : Scope) → Keeps d sc →
      Outcome (λ range. (set_decides d over ≡ false) × (set_asks over ≡ false)) (Blames d (set_decides d over) (set_asks over) (list_of_set over)) (typed_set data_alone is_set sc over)
  data-set (whole f) d sc k = then _ _ _ _ _ _ (data-of d f is_set _ (typed f d sc k)) (λ place q. (q.0, inl q.1)) (λ n h. ok _ _ _ h)
  data-set (between low high) d sc k =
      then _ _ _ _ _ _ (data-of d low is_number _ (typed low d sc k)) (λ place q. (first_of (decides d high) (asks high) q.0, inl q.1)) (λ m h.
      then _ _ _ _ _ _ (data-of d high is_number _ (typed high d sc k)) (λ place q. (second_of (decides d low) (asks low) q.0, inr (inl q.1))) (λ n i. ok _ _ _ (neither _ _ h.0 i.0, neither _ _ h.1 i.1)))

  groups-typed : (gs : Groups) (d : Text → Bool) (sc : Scope) → Keeps d sc → Outcome (AreOpened d (groups_decides d gs) (groups_asks gs)) (Blames d (groups_decides d gs) (groups_asks gs) (list_of_groups gs)) (open_groups sc gs)
  groups-typed no_groups d sc k = ok _ _ _ (refl, refl, k)
  groups-typed (more_groups ps over others) d sc k =
      then _ _ _ _ _ _ (fresh-others d (flat_map pattern_names ps) sc k) (λ place q. absurd q) (λ u os.
      then _ _ _ _ _ _ (data-set over d sc k) (λ place q. (first_of (groups_decides d others) (groups_asks others) q.0, some-before d (list_of_set over) (list_of_groups others) place q.1)) (λ range h.
      then _ _ _ _ _ _ (keeps-patterns d ps sc (or_anything range.element) os k) (λ place q. absurd q) (λ inner i.
      then _ _ _ _ _ _ (groups-typed others d inner i) (λ place q. (second_of (set_decides d over) (set_asks over) q.0, some-behind d (list_of_set over) (list_of_groups others) place q.1)) (λ o w. ok _ _ _ (neither _ _ h.0 w.0, neither _ _ h.1 w.1, w.2)))))

  params-typed : (p : Params) (d : Text → Bool) (sc : Scope) → Keeps d sc → IsOpened d p (open_params data_alone sc p)
  params-typed (all_of gs) d sc k = groups-typed gs d sc k
  params-typed (those_of gs condition) d sc k =
      then _ _ _ _ _ _ (groups-typed gs d sc k) (λ place q. (first_of (decides d condition) (asks condition) q.0, inr q.1)) (λ o w.
      then _ _ _ _ _ _ (data-of d condition is_truth _ (typed condition d o.scope w.2)) (λ place q. (second_of (groups_decides d gs) (groups_asks gs) q.0, inl q.1)) (λ n h. ok _ _ _ (neither _ _ w.0 h.0, neither _ _ w.1 h.1, w.2)))

-- ---- the laws

pub known-told-at : (sc : Scope) (f : Form) (n : Node) → typing sc f ≡ Ok n → Told (decided sc) f n
known-told-at sc f n h = at_ok (Told (decided sc) f) (Blames (decided sc) (decides (decided sc) f) (asks f) (parts f)) (typing sc f) n h (typed f (decided sc) sc (λ name. refl))

pub mentions_are_known : MentionsAreKnown
mentions_are_known sc f n h = let t = known-told-at sc f n h in (t.0, t.1)

blamed : (sc : Scope) (f : Form) (at : ℕ) → typing sc f ≡ Err (NotData at) → Blames (decided sc) (decides (decided sc) f) (asks f) (parts f) at
blamed sc f at h = at_not_data (Told (decided sc) f) (Blames (decided sc) (decides (decided sc) f) (asks f) (parts f)) (typing sc f) at h (typed f (decided sc) sc (λ name. refl))

pub not_data_is_mentioned : NotDataIsMentioned
not_data_is_mentioned sc f at h = either_or (decides (decided sc) f) (asks f) (blamed sc f at h).0

pub not_data_is_mentioned_there : NotDataIsMentionedThere
not_data_is_mentioned_there sc f at h = in-parts (decided sc) f at (blamed sc f at h).1

refused : (t : Bool) (n : Node) → is_data n ≡ false → settled data_alone t n ≡ Err (NotData n.place)
unfolding settled
refused t n h =
    ap (λ b. and_then (unless b (NotData n.place)) (λ u. and_then (unless (n.is_right && t) (Mismatch n.place)) (λ v. Ok n)))
    (first_false (is_data n) (not n.takes_data || is_data n) h)

pub not_data_is_exact : NotDataIsExact
not_data_is_exact sc f takes n h =
    let t = known-told-at sc f n h in
    let is : and_then (typing sc f) (used data_alone takes) ≡ settled data_alone (takes n.sort) n = ap (λ c. and_then c (used data_alone takes)) h in (
      (λ e. either_or (decides (decided sc) f) (asks f) (at_not_data _ (Blamed (decided sc) f) (settled data_alone (takes n.sort) n) n.place (sym is ∙ e) (settle (decided sc) f data_alone (takes n.sort) n t)).0),
      (λ u. is ∙ refused (takes n.sort) n (with_one n.decides n.asks (link t.0 t.1 ∙ u))),
    )
