-- Each visible name has one declaration.
use Rattle.std.proofs.Common.{◌≡◌, ℕ, zero, suc, Bool, true, false, not, List, [], ◌∷◌, ◌++◌, length, Option, None, Some, Ok, Err, refl, ap, ◌∙◌, sym, subst, cond, arith}
use Rattle.std.specs.Prelude.{IsOkAnd}
use Rattle.std.specs.Str.{bytes_eq}
use Rattle.std.proofs.lemmas.Slice.Eq.{bytes_eq-Decides}
use Rattle.opl_tree.specs.declared.expression.NameTree.{NameTree}
use Rattle.opl_type_rules.specs.declared.fault.TypeFault.{TypeFault}
use Rattle.opl_type_rules.specs.Types.{Sort}
use Rattle.opl_type_rules.specs.Scope.{Checked, and_then, unless, Text, Scope, Entry, Thing, found, lookup, declared, is_visible, fresh, all_fresh, with_values, sort_of}
use Rattle.opl_type_rules.specs.Scope.Thing.{value}
use Rattle.opl_type_rules.specs.Types.Sort.{anything}
use Rattle.opl_type_rules.specs.Forms.Form.{named}
use Rattle.opl_type_rules.specs.Expressions.{Node, Opened, typing, name_node}
use Rattle.opl_model_types.specs.Laws.{entry_at, Declared, IsDeclaredOnce, IsUsed, NamesAreDeclared}

-- ---- texts

same_text : (a b : Text) → bytes_eq a b ≡ true → a ≡ b
same_text a b h = (bytes_eq-Decides a b).0 h

text_same : (a b : Text) → a ≡ b → bytes_eq a b ≡ true
text_same a b h = (bytes_eq-Decides a b).1 h

true_not_false : {b : Bool} → b ≡ true → b ≡ false → ⊥
true_not_false {b} h g = cc

-- ---- what is found stands at a place

record Stands (name : Text) (thing : Thing) (es : List Entry) : Type 0 where
  place : ℕ
  entry : Entry
  stands : entry_at es place ≡ Some entry
  has_name : entry.name ≡ name
  is : entry.thing ≡ thing

stands-more : (name : Text) (thing : Thing) (e : Entry) (es : List Entry) → Stands name thing es → Stands name thing (e ∷ es)
stands-more name thing e es s = record { place = suc s.place; entry = s.entry; stands = s.stands; has_name = s.has_name; is = s.is }

same_thing : (a b : Thing) → ◌≡◌ {A = Option Thing} (Some a) (Some b) → a ≡ b
same_thing a b h = cc

found-stands-by : (b : Bool) (name : Text) (thing : Thing) (e : Entry) (es : List Entry) → bytes_eq name e.name ≡ b → (found name es ≡ Some thing → Stands name thing es) →
    cond b (Some e.thing) (found name es) ≡ Some thing → Stands name thing (e ∷ es)
found-stands-by true name thing e es h below f = record { place = 0; entry = e; stands = refl; has_name = sym (same_text name e.name h); is = same_thing e.thing thing f }
found-stands-by false name thing e es h below f = stands-more name thing e es (below f)

found-stands : (name : Text) (thing : Thing) (es : List Entry) → found name es ≡ Some thing → Stands name thing es
found-stands name thing [] h = absurd (cc)
found-stands name thing (e ∷ es) h = found-stands-by (bytes_eq name e.name) name thing e es refl (found-stands name thing es) h

-- ---- a name that typing accepts

node-sort : (name : NameTree) (o : Option Thing) (n : Node) → name_node name o ≡ Ok n → (thing : Thing) × (o ≡ Some thing) × (n.sort ≡ sort_of thing)
node-sort name None n h = absurd (cc)
node-sort name (Some thing) n h = (thing, refl, sym (ap (elim [ Ok n ↦ n.sort | Err e ↦ sort_of thing ]) h))

-- what is found is what the one visible declaration stands for
pub found-declared : (sc : Scope) (name : Text) (thing : Thing) → IsDeclaredOnce sc → found name sc.entries ≡ Some thing → (d : Declared sc name) × (d.entry.thing ≡ thing)
found-declared sc name thing once h =
    let w = found-stands name thing sc.entries h in
    (record { place = w.place; entry = w.entry; stands = w.stands; has_name = w.has_name; only = λ k other at same. once k w.place other w.entry at w.stands (same ∙ sym w.has_name) }, w.is)

name-used : (sc : Scope) (name : NameTree) (n : Node) → IsDeclaredOnce sc → (thing : Thing) → found name.text sc.entries ≡ Some thing → n.sort ≡ sort_of thing → IsUsed sc name n
name-used sc name n once thing h s =
    let w = found-declared sc name.text thing once h in
    record { declared = w.0; sort = s ∙ ap sort_of (sym w.1) }

typing-name : (sc : Scope) (name : NameTree) → typing sc (named name) ≡ name_node name (found name.text sc.entries)
unfolding typing lookup
typing-name sc name = refl

pub names_are_declared : NamesAreDeclared
names_are_declared sc name n once h =
    let w = node-sort name (found name.text sc.entries) n (sym (typing-name sc name) ∙ h) in
    name-used sc name n once w.0 w.1 w.2

-- ---- names that differ

-- the name is not among these
abbrev Unseen : Text → List Text → Type 0
Unseen name [] = Unit {0}
Unseen name (t ∷ ts) = (bytes_eq name t ≡ false) × Unseen name ts

abbrev pub Once : List Text → Type 0
Once [] = Unit {0}
Once (t ∷ ts) = Unseen t ts × Once ts

abbrev pub entry_names : List Entry → List Text
entry_names [] = []
entry_names (e ∷ es) = e.name ∷ entry_names es

abbrev pub names_of : Scope → List Text
names_of sc = entry_names sc.entries

-- names taken one after the other
abbrev pub pushed : List NameTree → List Text → List Text
pushed [] ts = ts
pushed (n ∷ ns) ts = pushed ns (n.text ∷ ts)

pub once-below : (ns : List NameTree) (ts : List Text) → Once (pushed ns ts) → Once ts
once-below [] ts h = h
once-below (n ∷ ns) ts h = (once-below ns (n.text ∷ ts) h).1

pub pushed-more : (ms ns : List NameTree) (ts : List Text) → pushed (ms ++ ns) ts ≡ pushed ns (pushed ms ts)
pushed-more [] ns ts = refl
pushed-more (m ∷ ms) ns ts = pushed-more ms ns (m.text ∷ ts)

pub names-declared : (name : Text) (thing : Thing) (sc : Scope) → names_of (declared name thing sc) ≡ name ∷ names_of sc
unfolding declared
names-declared name thing sc = refl

-- ---- from places to names, and back

same_entry : (a b : Entry) → ◌≡◌ {A = Option Entry} (Some a) (Some b) → a ≡ b
same_entry a b h = cc

name-at : (name : Text) (ts : List Entry) (k : ℕ) (e : Entry) → Unseen name (entry_names ts) → entry_at ts k ≡ Some e → name ≡ e.name → ⊥
name-at name [] k e u h g = cc
name-at name (x ∷ xs) zero e u h g =
    let same : x ≡ e = same_entry x e h in
    true_not_false (text_same name x.name (g ∙ sym (ap (λ (y : Entry). y.name) same))) u.0
name-at name (x ∷ xs) (suc k) e u h g = name-at name xs k e u.1 h g

once-places : (es : List Entry) → Once (entry_names es) → (j k : ℕ) (d e : Entry) → entry_at es j ≡ Some d → entry_at es k ≡ Some e → d.name ≡ e.name → j ≡ k
once-places [] o j k d e h g n = absurd (cc)
once-places (x ∷ xs) o zero zero d e h g n = refl
once-places (x ∷ xs) o zero (suc k) d e h g n = absurd (name-at x.name xs k e o.0 g (ap (λ (y : Entry). y.name) (same_entry x d h) ∙ n))
once-places (x ∷ xs) o (suc j) zero d e h g n = absurd (name-at x.name xs j d o.0 h (ap (λ (y : Entry). y.name) (same_entry x e g) ∙ sym n))
once-places (x ∷ xs) o (suc j) (suc k) d e h g n = ap suc (once-places xs o.1 j k d e h g n)

pub declared_once : (sc : Scope) → Once (names_of sc) → IsDeclaredOnce sc
declared_once sc o = once-places sc.entries o

unseen-by : (b : Bool) (name : Text) (x : Entry) (xs : List Entry) → bytes_eq name x.name ≡ b → (b ≡ true → ⊥) → Unseen name (entry_names xs) → Unseen name (entry_names (x ∷ xs))
unseen-by true name x xs h differs u = absurd (differs refl)
unseen-by false name x xs h differs u = (h, u)

places-unseen : (name : Text) (es : List Entry) → ((k : ℕ) (e : Entry) → entry_at es k ≡ Some e → name ≡ e.name → ⊥) → Unseen name (entry_names es)
places-unseen name [] h = tt
places-unseen name (x ∷ xs) h =
    unseen-by (bytes_eq name x.name) name x xs refl (λ same. h 0 x refl (same_text name x.name same)) (places-unseen name xs (λ k e. h (suc k) e))

suc_not_zero : (k : ℕ) → ◌≡◌ {A = ℕ} 0 (suc k) → ⊥
suc_not_zero k h = cc

same_suc : (j k : ℕ) → suc j ≡ suc k → j ≡ k
same_suc j k h = cc

places-once : (es : List Entry) → ((j k : ℕ) (d e : Entry) → entry_at es j ≡ Some d → entry_at es k ≡ Some e → d.name ≡ e.name → j ≡ k) → Once (entry_names es)
places-once [] h = tt
places-once (x ∷ xs) h =
    (places-unseen x.name xs (λ k e at same. suc_not_zero k (h 0 (suc k) x e refl at same)), places-once xs (λ j k d e at over same. same_suc j k (h (suc j) (suc k) d e at over same)))

pub once_declared : (sc : Scope) → IsDeclaredOnce sc → Once (names_of sc)
once_declared sc h = places-once sc.entries h

-- ---- names that are fresh

found-unseen-by : (b : Bool) (name : Text) (e : Entry) (es : List Entry) → bytes_eq name e.name ≡ b → (is_visible (found name es) ≡ false → Unseen name (entry_names es)) →
    is_visible (cond b (Some e.thing) (found name es)) ≡ false → Unseen name (entry_names (e ∷ es))
found-unseen-by true name e es h below f = absurd (true_not_false refl f)
found-unseen-by false name e es h below f = (h, below f)

found-unseen : (name : Text) (es : List Entry) → is_visible (found name es) ≡ false → Unseen name (entry_names es)
found-unseen name [] h = tt
found-unseen name (e ∷ es) h = found-unseen-by (bytes_eq name e.name) name e es refl (found-unseen name es) h

-- a test that is passed
pub unless-ok : (b : Bool) (e : TypeFault) → unless b e ≡ Ok tt → b ≡ true
unless-ok true e h = refl
unless-ok false e h = absurd (cc)

not-ok : (b : Bool) → not b ≡ true → b ≡ false
not-ok true h = absurd (cc)
not-ok false h = refl

pub fresh-unseen : (sc : Scope) (name : NameTree) → fresh sc name ≡ Ok tt → Unseen name.text (names_of sc)
unfolding fresh lookup
fresh-unseen sc name h = found-unseen name.text sc.entries (not-ok _ (unless-ok _ _ h))

pub fresh-once : (sc : Scope) (name : NameTree) → fresh sc name ≡ Ok tt → Once (names_of sc) → Once (name.text ∷ names_of sc)
fresh-once sc name h o = (fresh-unseen sc name h, o)

-- ---- a step that was passed

pub went : {A B : Type 0} (c : Checked A) (f : A → Checked B) (b : B) → and_then c f ≡ Ok b → (a : A) × (c ≡ Ok a) × (f a ≡ Ok b)
went (Ok a) f b h = (a, refl, h)
went (Err e) f b h = absurd (cc)

pub ok-and : {A : Type 0} (c : Checked A) (a : A) (P : A → Type 0) → c ≡ Ok a → P a → IsOkAnd c P
ok-and c a P h p = subst (λ d. IsOkAnd d P) (sym h) p

pub same_scope : (a b : Scope) → ◌≡◌ {A = Checked Scope} (Ok a) (Ok b) → a ≡ b
same_scope a b h = cc

pub same_opened : (a b : Opened) → ◌≡◌ {A = Checked Opened} (Ok a) (Ok b) → a ≡ b
same_opened a b h = cc

pub unit-ok : (c : Checked (Unit {0})) (u : Unit {0}) → c ≡ Ok u → c ≡ Ok tt
unit-ok c tt h = h

fresh-then : (sc : Scope) (n : NameTree) (ns : List NameTree) → all_fresh sc (n ∷ ns) ≡ Ok tt → (fresh sc n ≡ Ok tt) × (all_fresh (declared n.text (value anything) sc) ns ≡ Ok tt)
unfolding all_fresh
fresh-then sc n ns h =
    let w = went (fresh sc n) (λ u. all_fresh (declared n.text (value anything) sc) ns) tt h in
    (unit-ok (fresh sc n) w.0 w.1, w.2)

pub all_fresh-once : (ns : List NameTree) (sc : Scope) → all_fresh sc ns ≡ Ok tt → Once (names_of sc) → Once (pushed ns (names_of sc))
all_fresh-once [] sc h o = o
all_fresh-once (n ∷ ns) sc h o =
    let w = fresh-then sc n ns h in
    let inner : Once (names_of (declared n.text (value anything) sc)) = subst Once (sym (names-declared n.text (value anything) sc)) (fresh-once sc n w.0 o) in
    subst (λ (ts : List Text). Once (pushed ns ts)) (names-declared n.text (value anything) sc) (all_fresh-once ns (declared n.text (value anything) sc) w.1 inner)

-- ---- values for names

pub names-values : (ns : List NameTree) (ss : List Sort) (sc : Scope) → length ns ≡ length ss → names_of (with_values ns ss sc) ≡ pushed ns (names_of sc)
names-values [] ss sc h = refl
names-values (n ∷ ns) [] sc h = absurd (cc)
names-values (n ∷ ns) (s ∷ ss) sc h =
    names-values ns ss (declared n.text (value s) sc) (let e : length ns ≡ length ss = omega arith in e) ∙ ap (pushed ns) (names-declared n.text (value s) sc)
