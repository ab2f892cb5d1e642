-- Typing finds that something is no data exactly where it first comes to such an expression.
use Rattle.std.proofs.Common.{◌≡◌, ◌↔◌, ◌⊎◌, inl, inr, ℕ, Bool, true, false, ◌&&◌, ◌||◌, not, List, [], ◌∷◌, Option, None, Some, Ok, Err, refl, ap, sym, subst, ◌∙◌}
use Rattle.std.specs.List.{flat_map}
use Rattle.opl_tree.specs.declared.expression.NameTree.{NameTree}
use Rattle.opl_tree.specs.declared.expression.PatternTree.{PatternTree}
use Rattle.opl_tree.specs.declared.expression.PatternTree.TheVariants as patterns
use Rattle.opl_type_rules.specs.declared.fault.TypeFault.{TypeFault}
use Rattle.opl_type_rules.specs.declared.fault.TypeFault.TheVariants.{Mismatch, NotData, Unknown, Duplicate}
use Rattle.opl_type_rules.specs.Types.{Sort, Sorts, is_set, is_number, is_truth}
use Rattle.opl_type_rules.specs.Types.Sort.{activity, anything, array, structure}
use Rattle.opl_type_rules.specs.Scope.{Checked, and_then, unless, Text, Scope, Thing, lookup, declared, is_visible, fresh, all_fresh, fields, field_sort, parts_in}
use Rattle.opl_type_rules.specs.Scope.Thing.{value}
use Rattle.opl_type_rules.specs.Forms.{Form, Forms, Pairs, SetForm, Groups, Params}
use Rattle.opl_type_rules.specs.Forms.Form.{number, named, bracket, negative, arithmetic, absolute, related, member, connected, aggregate, cardinality, all_different, subscripted, field, tuple, listed, described, cells, keyed_cells, question}
use Rattle.opl_type_rules.specs.Forms.Forms.{no_forms, more_forms}
use Rattle.opl_type_rules.specs.Forms.Pairs.{no_pairs, more_pairs}
use Rattle.opl_type_rules.specs.Forms.SetForm.{whole, between}
use Rattle.opl_type_rules.specs.Forms.Groups.{no_groups, more_groups}
use Rattle.opl_type_rules.specs.Forms.Params.{all_of, those_of}
use Rattle.opl_type_rules.specs.Expressions.{Node, Need, settled, used, part, any_type, is_met, is_data, is_time, name_node, element_node, known_field, field_node, pattern_names, or_anything, scope_within, typing, typed_parts, typed_pairs, typed_set, open_groups, open_params, bind_parts, bind_record, bind_pattern, bind_patterns}
use Rattle.opl_type_rules.specs.Expressions.Need.{data_alone, data_or_questions, nothing}
use Rattle.opl_not_data.specs.Laws.{NotDataIsFirst, NotDataIsFirstOfParameters, NotDataIsFirstOfSets}
use Rattle.opl_not_data.specs.Mentions.{decided, uses}
use Rattle.opl_not_data.specs.Parts.{first_token}
use Rattle.opl_not_data.specs.First.{takes_data, Exceeds, IsNoData, After, Inside, InPlace, InParts, InPairs, InSet, InGroups, InParams}
use Rattle.opl_not_data.proofs.Known.{Told, known-told-at}
use Rattle.opl_not_data.proofs.Truths.{first_false, link, one_fails, with_one}

-- ---- where a step finds it

-- the fault is that something is no data, exactly where this holds
abbrev pub Finds : {A : Type 0} → Checked A → (ℕ → Type 0) → Type 0
Finds c P = (at : ℕ) → (c ≡ Err (NotData at)) ↔ P at

-- it never is
abbrev pub Never : {A : Type 0} → Checked A → Type 0
Never c = (at : ℕ) → c ≡ Err (NotData at) → ⊥

pub never-ok : {A : Type 0} (a : A) → Never (Ok a)
never-ok a at h = absurd (cc)

pub never-finds : {A : Type 0} (c : Checked A) → Never c → Finds c (λ at. ⊥)
never-finds c n at = ((λ h. n at h), (λ e. absurd e))

as_other : {A B : Type 0} (e : TypeFault) (at : ℕ) → (let x : Checked A = Err e in x) ≡ Err (NotData at) → (let x : Checked B = Err e in x) ≡ Err (NotData at)
as_other e at h = let k : e ≡ NotData at = cc in ap Err k

-- one step behind another
pub finds-then : {A B : Type 0} (c : Checked A) (f : A → Checked B) (P : ℕ → Type 0) (Q : A → ℕ → Type 0) → Finds c P → ((a : A) → c ≡ Ok a → Finds (f a) (Q a)) →
    Finds (and_then c f) (λ at. P at ⊎ After c (λ a. Q a at))
finds-then {B = B} (Ok a) f P Q first next at = ((λ h. inr ((next a refl at).0 h)), by)
  where
    by : P at ⊎ Q a at → f a ≡ Err (NotData at)
    by (inl p) = absurd (let e = (first at).1 p in cc)
    by (inr q) = (next a refl at).1 q
finds-then {B = B} (Err e) f P Q first next at = ((λ h. inl ((first at).0 (as_other e at h))), by)
  where
    by : P at ⊎ ⊥ → (let x : Checked B = Err e in x) ≡ Err (NotData at)
    by (inl p) = as_other e at ((first at).1 p)
    by (inr q) = absurd q

-- nothing is found behind the last step
pub finds-last : {A B : Type 0} (c : Checked A) (f : A → Checked B) (P : ℕ → Type 0) → Finds c P → ((a : A) → Never (f a)) → Finds (and_then c f) P
finds-last (Ok a) f P first next at = ((λ h. absurd (next a at h)), (λ p. absurd (let e = (first at).1 p in cc)))
finds-last (Err e) f P first next at = ((λ h. (first at).0 (as_other e at h)), (λ p. as_other e at ((first at).1 p)))

-- nor in a step before
pub finds-behind : {A B : Type 0} (c : Checked A) (f : A → Checked B) (Q : A → ℕ → Type 0) → Never c → ((a : A) → c ≡ Ok a → Finds (f a) (Q a)) → Finds (and_then c f) (λ at. After c (λ a. Q a at))
finds-behind (Ok a) f Q never next at = next a refl at
finds-behind (Err e) f Q never next at = ((λ h. absurd (never at (as_other e at h))), (λ q. absurd q))

pub never-then : {A B : Type 0} (c : Checked A) (f : A → Checked B) → Never c → ((a : A) → Never (f a)) → Never (and_then c f)
never-then (Ok a) f n m at h = m a at h
never-then (Err e) f n m at h = n at (as_other e at h)

pub never-mismatch : (b : Bool) (p : ℕ) → Never (unless b (Mismatch p))
never-mismatch true p at h = absurd (cc)
never-mismatch false p at h = absurd (cc)

never-unknown : (b : Bool) (p : ℕ) → Never (unless b (Unknown p))
never-unknown true p at h = absurd (cc)
never-unknown false p at h = absurd (cc)

pub never-duplicate : (b : Bool) (p : ℕ) → Never (unless b (Duplicate p))
never-duplicate true p at h = absurd (cc)
never-duplicate false p at h = absurd (cc)

-- ---- one expression in its place

own-fails : (t a b : Bool) → (not t || (not a && not b)) ≡ false → (t ≡ true) × ((a || b) ≡ true)
own-fails true true b h = (refl, refl)
own-fails true false true h = (refl, refl)
own-fails true false false h = absurd (cc)
own-fails false a b h = absurd (cc)

fails-own : (t a b : Bool) → t ≡ true → (a || b) ≡ true → (not t || (not a && not b)) ≡ false
fails-own true a b h k = with_one a b k
fails-own false a b h k = absurd (cc)

second_false : (a b : Bool) → b ≡ false → (a && b) ≡ false
second_false true b h = h
second_false false b h = refl

is_used : (a b : Bool) → (not a && not b) ≡ false → (a || b) ≡ true
is_used true b h = refl
is_used false true h = refl
is_used false false h = absurd (cc)

not_false : (a : Bool) → not a ≡ false → a ≡ true
not_false true h = refl
not_false false h = absurd (cc)

true_not : (a : Bool) → a ≡ true → not a ≡ false
true_not true h = refl
true_not false h = absurd (cc)

module _ (d : Text → Bool) (f : Form) (n : Node) (told : Told d f n) (own : n.takes_data ≡ takes_data f) where
  used-same : (n.decides || n.asks) ≡ uses d f
  used-same = link told.0 told.1

  unmet-exceeds : (need : Need) → is_met need n ≡ false → Exceeds need d f
  unmet-exceeds nothing h = absurd (cc)
  unmet-exceeds data_alone h = sym used-same ∙ is_used n.decides n.asks h
  unmet-exceeds data_or_questions h = sym told.0 ∙ not_false n.decides h

  exceeds-unmet : (need : Need) → Exceeds need d f → is_met need n ≡ false
  exceeds-unmet nothing h = absurd h
  exceeds-unmet data_alone h = with_one n.decides n.asks (used-same ∙ h)
  exceeds-unmet data_or_questions h = true_not n.decides (told.0 ∙ h)

  refused-no_data : (need : Need) → (is_met need n && (not n.takes_data || is_data n)) ≡ false → IsNoData need d f
  refused-no_data need h = by (one_fails (is_met need n) (not n.takes_data || is_data n) h)
    where
      by : (is_met need n ≡ false) ⊎ ((not n.takes_data || is_data n) ≡ false) → IsNoData need d f
      by (inl e) = inl (unmet-exceeds need e)
      by (inr e) = let o = own-fails n.takes_data n.decides n.asks e in inr (sym own ∙ o.0, sym used-same ∙ o.1)

  no_data-refused : (need : Need) → IsNoData need d f → (is_met need n && (not n.takes_data || is_data n)) ≡ false
  no_data-refused need (inl h) = first_false (is_met need n) (not n.takes_data || is_data n) (exceeds-unmet need h)
  no_data-refused need (inr h) = second_false (is_met need n) (not n.takes_data || is_data n) (fails-own n.takes_data n.decides n.asks (own ∙ h.0) (used-same ∙ h.1))

settled-by : (b c : Bool) (n : Node) (at : ℕ) → and_then (unless b (NotData n.place)) (λ u. and_then (unless c (Mismatch n.place)) (λ v. Ok n)) ≡ Err (NotData at) → (b ≡ false) × (n.place ≡ at)
settled-by true true n at h = absurd (cc)
settled-by true false n at h = absurd (cc)
settled-by false c n at h = (refl, cc)

settled-of : (b c : Bool) (n : Node) (at : ℕ) → b ≡ false → n.place ≡ at → and_then (unless b (NotData n.place)) (λ u. and_then (unless c (Mismatch n.place)) (λ v. Ok n)) ≡ Err (NotData at)
settled-of true c n at h e = absurd (cc)
settled-of false c n at h e = ap (λ p. Err (NotData p)) e

settled-finds : (d : Text → Bool) (f : Form) (need : Need) (t : Bool) (n : Node) → Told d f n → n.takes_data ≡ takes_data f → Finds (settled need t n) (λ at. IsNoData need d f × (first_token f ≡ at))
unfolding settled
settled-finds d f need t n told own at = (
  (λ h. let s = settled-by (is_met need n && (not n.takes_data || is_data n)) (n.is_right && t) n at h in (refused-no_data d f n told own need s.0, sym told.2 ∙ s.1)),
  (λ h. settled-of (is_met need n && (not n.takes_data || is_data n)) (n.is_right && t) n at (no_data-refused d f n told own need h.0) (told.2 ∙ h.1)),
)

-- ---- which forms take data alone

-- this holds of what is found, if anything
abbrev Yields : {A : Type 0} → (A → Type 0) → Checked A → Type 0
Yields {A} P c = (a : A) → c ≡ Ok a → P a

yields-ok : {A : Type 0} (P : A → Type 0) (a : A) → P a → Yields P (Ok a)
yields-ok P a p b h = let e : a ≡ b = cc in subst P e p

yields-err : {A : Type 0} (P : A → Type 0) (e : TypeFault) → Yields P (Err e)
yields-err P e a h = absurd (cc)

yields-then : {A B : Type 0} (P : A → Type 0) (R : B → Type 0) (c : Checked A) (f : A → Checked B) → Yields P c → ((a : A) → P a → Yields R (f a)) → Yields R (and_then c f)
yields-then P R (Ok a) f h k = k a (h a refl)
yields-then P R (Err e) f h k = λ b g. absurd (cc)

yields-any : {A : Type 0} (c : Checked A) → Yields (λ a. Unit {0}) c
yields-any c a h = tt

yields-last : {A B : Type 0} (R : B → Type 0) (c : Checked A) (f : A → Checked B) → ((a : A) → Yields R (f a)) → Yields R (and_then c f)
yields-last R c f k = yields-then (λ a. Unit {0}) R c f (yields-any c) (λ a u. k a)

abbrev Takes : Bool → Node → Type 0
Takes b n = n.takes_data ≡ b

settled-same : (P : Node → Type 0) (need : Need) (t : Bool) (n : Node) → P n → Yields P (settled need t n)
unfolding settled
settled-same P need t n p =
    yields-last P (unless (is_met need n && (not n.takes_data || is_data n)) (NotData n.place)) _ (λ u. yields-last P (unless (n.is_right && t) (Mismatch n.place)) _ (λ v. yields-ok P n p))

element-takes : (sc : Scope) (at : ℕ) (base : Node) (ns : List Node) (s : Sort) → Takes false (element_node sc at base ns s)
element-takes sc at base ns (array indices element) = refl
element-takes sc at base ns s = refl

named-takes : (name : NameTree) (o : Option Thing) → Yields (Takes false) (name_node name o)
named-takes name None = yields-err (Takes false) (Unknown name.at)
named-takes name (Some thing) = yields-ok (Takes false) _ refl

known-takes : (at : ℕ) (base : Node) (name : NameTree) (o : Option Sort) → Yields (Takes false) (known_field at base name o)
known-takes at base name None = yields-err (Takes false) (Unknown name.at)
known-takes at base name (Some s) = yields-ok (Takes false) _ refl

field-takes : (sc : Scope) (at : ℕ) (base : Node) (name : NameTree) (s : Sort) → Yields (Takes false) (field_node sc at base name s)
field-takes sc at base name activity = yields-last (Takes false) (unless (is_time name.text) (Unknown name.at)) _ (λ u. yields-ok (Takes false) _ refl)
field-takes sc at base name (structure k) = known-takes at base name (field_sort name.text (fields sc k))
field-takes sc at base name s = yields-ok (Takes false) _ refl

takes-told : (f : Form) (sc : Scope) → Yields (Takes (takes_data f)) (typing sc f)
unfolding typing
takes-told (number at) sc = yields-ok (Takes false) _ refl
takes-told (named name) sc = named-takes name (lookup sc name.text)
takes-told (bracket at f) sc =
    yields-then (Takes (takes_data f)) (Takes (takes_data f)) (and_then (typing sc f) part) _ (yields-then (Takes (takes_data f)) (Takes (takes_data f)) (typing sc f) part (takes-told f sc) (λ n t. settled-same (Takes (takes_data f)) nothing true n t))
    (λ n t. yields-ok (Takes (takes_data f)) _ t)
takes-told (negative at f) sc = yields-last (Takes false) (and_then (typing sc f) part) _ (λ n. yields-ok (Takes false) _ refl)
takes-told (arithmetic at fs) sc = yields-last (Takes false) (typed_parts sc fs) _ (λ n. yields-ok (Takes false) _ refl)
takes-told (absolute at f) sc = yields-last (Takes false) (and_then (typing sc f) part) _ (λ n. yields-ok (Takes false) _ refl)
takes-told (related at f relation g) sc = yields-last (Takes false) (and_then (typing sc f) part) _ (λ m. yields-last (Takes false) (and_then (typing sc g) part) _ (λ n. yields-ok (Takes false) _ refl))
takes-told (member at f over) sc = yields-last (Takes true) (and_then (typing sc f) part) _ (λ m. yields-last (Takes true) (typed_set nothing any_type sc over) _ (λ n. yields-ok (Takes true) _ refl))
takes-told (connected at fs) sc = yields-last (Takes false) (typed_parts sc fs) _ (λ n. yields-ok (Takes false) _ refl)
takes-told (aggregate at p f) sc = yields-last (Takes false) (open_params data_alone sc p) _ (λ o. yields-last (Takes false) (and_then (typing o.scope f) part) _ (λ n. yields-ok (Takes false) _ refl))
takes-told (cardinality at f) sc = yields-last (Takes false) (and_then (typing sc f) part) _ (λ n. yields-ok (Takes false) _ refl)
takes-told (all_different at f) sc = yields-last (Takes false) (and_then (typing sc f) part) _ (λ n. yields-ok (Takes false) _ refl)
takes-told (subscripted at f es) sc =
    yields-last (Takes false) (and_then (typing sc f) part) _ (λ base. yields-last (Takes false) (typed_parts sc es) _ (λ ns. yields-ok (Takes false) _ (element-takes sc at base ns base.sort)))
takes-told (field at f name) sc = yields-last (Takes false) (and_then (typing sc f) part) _ (λ base. field-takes sc at base name base.sort)
takes-told (tuple at fs) sc = yields-last (Takes true) (typed_parts sc fs) _ (λ n. yields-ok (Takes true) _ refl)
takes-told (listed at fs) sc = yields-last (Takes true) (typed_parts sc fs) _ (λ n. yields-ok (Takes true) _ refl)
takes-told (described at f p) sc =
    yields-last (Takes true) (and_then (typing (scope_within sc p (open_params data_alone sc p)) f) part) _ (λ n. yields-last (Takes true) (open_params data_alone sc p) _ (λ o. yields-ok (Takes true) _ refl))
takes-told (cells at fs) sc = yields-last (Takes false) (typed_parts sc fs) _ (λ n. yields-ok (Takes false) _ refl)
takes-told (keyed_cells at ps) sc = yields-last (Takes false) (typed_pairs sc ps) _ (λ n. yields-ok (Takes false) _ refl)
takes-told (question at op f) sc = yields-last (Takes false) (and_then (typing sc f) part) _ (λ n. yields-ok (Takes false) _ refl)

place-finds : (need : Need) (takes : Sort → Bool) (sc : Scope) (f : Form) → Finds (typing sc f) (Inside sc f) → Finds (and_then (typing sc f) (used need takes)) (InPlace need sc f)
place-finds need takes sc f inside =
    finds-then (typing sc f) (used need takes) (Inside sc f) (λ n at. IsNoData need (decided sc) f × (first_token f ≡ at)) inside
    (λ n h. settled-finds (decided sc) f need (takes n.sort) n (known-told-at sc f n h) (takes-told f sc n h))

-- ---- steps that never find it

named-never : (name : NameTree) (o : Option Thing) → Never (name_node name o)
named-never name None at h = absurd (cc)
named-never name (Some thing) at h = absurd (cc)

known-never : (p : ℕ) (base : Node) (name : NameTree) (o : Option Sort) → Never (known_field p base name o)
known-never p base name None at h = absurd (cc)
known-never p base name (Some s) at h = absurd (cc)

field-never : (sc : Scope) (p : ℕ) (base : Node) (name : NameTree) (s : Sort) → Never (field_node sc p base name s)
field-never sc p base name activity = never-then (unless (is_time name.text) (Unknown name.at)) _ (never-unknown (is_time name.text) name.at) (λ u. never-ok _)
field-never sc p base name (structure k) = known-never p base name (field_sort name.text (fields sc k))
field-never sc p base name s = never-ok _

pub fresh-never : (sc : Scope) (name : NameTree) → Never (fresh sc name)
unfolding fresh
fresh-never sc name = never-duplicate (not (is_visible (lookup sc name.text))) name.at

pub all_fresh-never : (ns : List NameTree) (sc : Scope) → Never (all_fresh sc ns)
unfolding all_fresh
all_fresh-never [] sc = never-ok tt
all_fresh-never (n ∷ ns) sc = never-then (fresh sc n) _ (fresh-never sc n) (λ u. all_fresh-never ns (declared n.text (value anything) sc))

parts-never : (sc : Scope) (p : ℕ) (ns : List NameTree) (o : Option Sorts) → Never (bind_parts sc p ns o)
parts-never sc p ns None = λ at h. absurd (cc)
parts-never sc p ns (Some ss) = never-then (unless _ (Mismatch p)) _ (never-mismatch _ p) (λ u. never-ok _)

record-never : (sc : Scope) (p : ℕ) (ns : List NameTree) (s : Sort) → Never (bind_record sc p ns s)
record-never sc p ns anything = never-ok _
record-never sc p ns s = parts-never sc p ns (parts_in sc s)

pattern-never : (sc : Scope) (s : Sort) (p : PatternTree) → Never (bind_pattern sc s p)
pattern-never sc s (patterns.Single name) = never-ok _
pattern-never sc s (patterns.Record at first rest) = record-never sc at (first ∷ rest) s

patterns-never : (ps : List PatternTree) (sc : Scope) (s : Sort) → Never (bind_patterns sc s ps)
patterns-never [] sc s = never-ok sc
patterns-never (p ∷ ps) sc s = never-then (bind_pattern sc s p) _ (pattern-never sc s p) (λ inner. patterns-never ps inner s)

-- ---- every expression

part-finds : (f : Form) (sc : Scope) → Finds (typing sc f) (Inside sc f) → Finds (and_then (typing sc f) part) (InPlace nothing sc f)
part-finds f sc inside = place-finds nothing any_type sc f inside

part-last : (f : Form) (sc : Scope) {B : Type 0} (next : Node → Checked B) → Finds (typing sc f) (Inside sc f) → ((n : Node) → Never (next n)) → Finds (and_then (and_then (typing sc f) part) next) (InPlace nothing sc f)
part-last f sc next inside never = finds-last (and_then (typing sc f) part) next (InPlace nothing sc f) (part-finds f sc inside) never

mutual
  unfolding typing typed_parts typed_pairs typed_set open_groups open_params

  inside-finds : (f : Form) (sc : Scope) → Finds (typing sc f) (Inside sc f)
  inside-finds (number p) sc = never-finds _ (never-ok _)
  inside-finds (named name) sc = never-finds _ (named-never name (lookup sc name.text))
  inside-finds (bracket p f) sc = part-last f sc _ (inside-finds f sc) (λ n. never-ok _)
  inside-finds (negative p f) sc = part-last f sc _ (inside-finds f sc) (λ n. never-ok _)
  inside-finds (arithmetic p fs) sc = finds-last _ _ _ (parts-find fs sc) (λ ns. never-ok _)
  inside-finds (absolute p f) sc = part-last f sc _ (inside-finds f sc) (λ n. never-ok _)
  inside-finds (related p f relation g) sc = finds-then _ _ _ _ (part-finds f sc (inside-finds f sc)) (λ m h. part-last g sc _ (inside-finds g sc) (λ n. never-ok _))
  inside-finds (member p f over) sc = finds-then _ _ _ _ (part-finds f sc (inside-finds f sc)) (λ m h. finds-last _ _ _ (set-finds over nothing any_type sc) (λ range. never-ok _))
  inside-finds (connected p fs) sc = finds-last _ _ _ (parts-find fs sc) (λ ns. never-ok _)
  inside-finds (aggregate p params f) sc = finds-then _ _ _ _ (params-find params data_alone sc) (λ o h. part-last f o.scope _ (inside-finds f o.scope) (λ n. never-ok _))
  inside-finds (cardinality p f) sc = part-last f sc _ (inside-finds f sc) (λ n. never-ok _)
  inside-finds (all_different p f) sc = part-last f sc _ (inside-finds f sc) (λ n. never-ok _)
  inside-finds (subscripted p f es) sc = finds-then _ _ _ _ (part-finds f sc (inside-finds f sc)) (λ base h. finds-last _ _ _ (parts-find es sc) (λ ns. never-ok _))
  inside-finds (field p f name) sc = part-last f sc _ (inside-finds f sc) (λ base. field-never sc p base name base.sort)
  inside-finds (tuple p fs) sc = finds-last _ _ _ (parts-find fs sc) (λ ns. never-ok _)
  inside-finds (listed p fs) sc = finds-last _ _ _ (parts-find fs sc) (λ ns. never-ok _)
  inside-finds (described p f params) sc =
      finds-then _ _ _ _ (part-finds f (scope_within sc params (open_params data_alone sc params)) (inside-finds f (scope_within sc params (open_params data_alone sc params)))) (λ n h. finds-last _ _ _ (params-find params data_alone sc) (λ o. never-ok _))
  inside-finds (cells p fs) sc = finds-last _ _ _ (parts-find fs sc) (λ ns. never-ok _)
  inside-finds (keyed_cells p ps) sc = finds-last _ _ _ (pairs-find ps sc) (λ ns. never-ok _)
  inside-finds (question p op f) sc = part-last f sc _ (inside-finds f sc) (λ n. never-ok _)

  parts-find : (fs : Forms) (sc : Scope) → Finds (typed_parts sc fs) (InParts sc fs)
  parts-find no_forms sc = never-finds _ (never-ok _)
  parts-find (more_forms f fs) sc = finds-then _ _ _ _ (part-finds f sc (inside-finds f sc)) (λ n h. finds-last _ _ _ (parts-find fs sc) (λ ns. never-ok _))

  pairs-find : (ps : Pairs) (sc : Scope) → Finds (typed_pairs sc ps) (InPairs sc ps)
  pairs-find no_pairs sc = never-finds _ (never-ok _)
  pairs-find (more_pairs key cell others) sc =
      finds-then _ _ _ _ (part-finds key sc (inside-finds key sc)) (λ m h. finds-then _ _ _ _ (part-finds cell sc (inside-finds cell sc)) (λ n k. finds-last _ _ _ (pairs-find others sc) (λ ns. never-ok _)))

  set-finds : (over : SetForm) (need : Need) (takes : Sort → Bool) (sc : Scope) → Finds (typed_set need takes sc over) (InSet need sc over)
  set-finds (whole f) need takes sc = finds-last _ _ _ (place-finds need takes sc f (inside-finds f sc)) (λ n. never-ok _)
  set-finds (between low high) need takes sc =
      finds-then _ _ _ _ (place-finds data_alone is_number sc low (inside-finds low sc)) (λ m h. finds-last _ _ _ (place-finds data_alone is_number sc high (inside-finds high sc)) (λ n. never-ok _))

  groups-find : (gs : Groups) (sc : Scope) → Finds (open_groups sc gs) (InGroups sc gs)
  groups-find no_groups sc = never-finds _ (never-ok _)
  groups-find (more_groups ps over others) sc =
      finds-behind _ _ _ (all_fresh-never (flat_map pattern_names ps) sc) (λ u h.
      finds-then _ _ _ _ (set-finds over data_alone is_set sc) (λ range i.
      finds-behind _ _ _ (patterns-never ps sc (or_anything range.element)) (λ inner j.
      finds-last _ _ _ (groups-find others inner) (λ o. never-ok _))))

  params-find : (p : Params) (need : Need) (sc : Scope) → Finds (open_params need sc p) (InParams need sc p)
  params-find (all_of groups) need sc = groups-find groups sc
  params-find (those_of groups condition) need sc =
      finds-then _ _ _ _ (groups-find groups sc) (λ o h. finds-last _ _ _ (place-finds need is_truth o.scope condition (inside-finds condition o.scope)) (λ n. never-ok _))

-- ---- the laws

pub not_data_is_first : NotDataIsFirst
not_data_is_first sc f need takes = place-finds need takes sc f (inside-finds f sc)

pub not_data_is_first_of_sets : NotDataIsFirstOfSets
not_data_is_first_of_sets sc over need takes = set-finds over need takes sc

pub not_data_is_first_of_parameters : NotDataIsFirstOfParameters
not_data_is_first_of_parameters sc p need = params-find p need sc

pub parts_find : (sc : Scope) (fs : Forms) → Finds (typed_parts sc fs) (InParts sc fs)
parts_find sc fs = parts-find fs sc
