-- The names of parameters, in the words of typing and in those of the relation.
use Rattle.std.proofs.Common.{◌≡◌, ℕ, Bool, true, false, not, List, [], ◌∷◌, map, length, replicate, nat_eq, Option, Some, None, Ok, refl, ap, ◌∙◌, sym, cond, arith}
use Rattle.std.specs.Str.{bytes_eq}
use Rattle.std.proofs.lemmas.Bool.{eqb-true}
use Rattle.opl_tree.specs.declared.expression.NameTree.{NameTree}
use Rattle.opl_tree.specs.declared.expression.PatternTree.{PatternTree}
use Rattle.opl_tree.specs.declared.expression.PatternTree.TheVariants as patterns
use Rattle.opl_type_rules.specs.declared.fault.TypeFault.TheVariants.{Duplicate, Mismatch}
use Rattle.opl_type_rules.specs.Types.{Sort, Sorts, sorts_of, sort_list}
use Rattle.opl_type_rules.specs.Types.Sort.{anything}
use Rattle.opl_type_rules.specs.Types.Sorts.{no_sorts, more_sorts}
use Rattle.opl_type_rules.specs.Scope.{Checked, unless, Text, Thing, Scope, found, lookup, declared, is_visible, fresh, all_fresh, with_values, parts_in}
use Rattle.opl_type_rules.specs.Scope.Thing.{value}
use Rattle.opl_type_rules.specs.Expressions.{bind_parts, bind_record, bind_pattern, bind_patterns}
use Rattle.opl_typed.specs.Relation.{IsNone, AreNew, HasParts, Names, AllName}
use Rattle.opl_typed.proofs.Steps.{not-true, went, goes, passed, unit-ok}

-- ---- new names

invisible : (o : Option Thing) → is_visible o ≡ false → o ≡ None
invisible None h = refl
invisible (Some thing) h = absurd (cc)

pub fresh-has : (sc : Scope) (name : NameTree) → fresh sc name ≡ Ok tt → lookup sc name.text ≡ None
unfolding fresh
fresh-has sc name h = invisible (lookup sc name.text) (not-true (is_visible (lookup sc name.text)) (passed (not (is_visible (lookup sc name.text))) (Duplicate name.at) h))

pub has-fresh : (sc : Scope) (name : NameTree) → lookup sc name.text ≡ None → fresh sc name ≡ Ok tt
unfolding fresh
has-fresh sc name h = ap (λ o. unless (not (is_visible o)) (Duplicate name.at)) h

by-cond : (b : Bool) (thing : Thing) (o : Option Thing) → cond b (Some thing) o ≡ None → (b ≡ false) × (o ≡ None)
by-cond true thing o h = absurd (cc)
by-cond false thing o h = (refl, h)

cond-by : (b : Bool) (thing : Thing) (o : Option Thing) → b ≡ false → o ≡ None → cond b (Some thing) o ≡ None
cond-by true thing o h g = absurd (cc)
cond-by false thing o h g = g

-- a name that is new behind another is new before it, and differs from it
pub new-behind : (sc : Scope) (text : Text) (thing : Thing) (name : Text) → lookup (declared text thing sc) name ≡ None → (bytes_eq name text ≡ false) × (lookup sc name ≡ None)
unfolding lookup declared
new-behind sc text thing name h = by-cond (bytes_eq name text) thing (found name sc.entries) h

pub behind-new : (sc : Scope) (text : Text) (thing : Thing) (name : Text) → bytes_eq name text ≡ false → lookup sc name ≡ None → lookup (declared text thing sc) name ≡ None
unfolding lookup declared
behind-new sc text thing name h g = cond-by (bytes_eq name text) thing (found name sc.entries) h g

pub all-behind : (names : List NameTree) (sc : Scope) (text : Text) (thing : Thing) → AreNew (declared text thing sc) names → IsNone text names × AreNew sc names
all-behind [] sc text thing h = (tt, tt)
all-behind (name ∷ names) sc text thing h =
    let w = new-behind sc text thing name.text h.0 in
    let v = all-behind names sc text thing h.2 in
    ((w.0, v.0), (w.1, h.1, v.1))

pub behind-all : (names : List NameTree) (sc : Scope) (text : Text) (thing : Thing) → IsNone text names → AreNew sc names → AreNew (declared text thing sc) names
behind-all [] sc text thing h g = tt
behind-all (name ∷ names) sc text thing h g = (behind-new sc text thing name.text h.0 g.0, g.1, behind-all names sc text thing h.1 g.2)

fresh-then : (sc : Scope) (n : NameTree) (ns : List NameTree) → all_fresh sc (n ∷ ns) ≡ Ok tt → (fresh sc n ≡ Ok tt) × (all_fresh (declared n.text (value anything) sc) ns ≡ Ok tt)
unfolding all_fresh
fresh-then sc n ns h =
    let w = went (fresh sc n) (λ u. all_fresh (declared n.text (value anything) sc) ns) tt h in
    (unit-ok (fresh sc n) w.0 w.1, w.2)

then-fresh : (sc : Scope) (n : NameTree) (ns : List NameTree) → fresh sc n ≡ Ok tt → all_fresh (declared n.text (value anything) sc) ns ≡ Ok tt → all_fresh sc (n ∷ ns) ≡ Ok tt
unfolding all_fresh
then-fresh sc n ns h g = goes (fresh sc n) (λ u. all_fresh (declared n.text (value anything) sc) ns) tt h ∙ g

no-names : (sc : Scope) → all_fresh sc [] ≡ Ok tt
unfolding all_fresh
no-names sc = refl

pub fresh-new : (names : List NameTree) (sc : Scope) → all_fresh sc names ≡ Ok tt → AreNew sc names
fresh-new [] sc h = tt
fresh-new (name ∷ names) sc h =
    let w = fresh-then sc name names h in
    let v = all-behind names sc name.text (value anything) (fresh-new names (declared name.text (value anything) sc) w.1) in
    (fresh-has sc name w.0, v.0, v.1)

pub new-fresh : (names : List NameTree) (sc : Scope) → AreNew sc names → all_fresh sc names ≡ Ok tt
new-fresh [] sc h = no-names sc
new-fresh (name ∷ names) sc h =
    then-fresh sc name names (has-fresh sc name h.0) (new-fresh names (declared name.text (value anything) sc) (behind-all names sc name.text (value anything) h.1 h.2))

-- ---- patterns

pub same_scope : (a b : Scope) → ◌≡◌ {A = Checked Scope} (Ok a) (Ok b) → a ≡ b
same_scope a b h = cc

list-sorts : (ss : Sorts) → sorts_of (sort_list ss) ≡ ss
list-sorts no_sorts = refl
list-sorts (more_sorts s ss) = ap (more_sorts s) (list-sorts ss)

sorts-list : (ss : List Sort) → sort_list (sorts_of ss) ≡ ss
sorts-list [] = refl
sorts-list (s ∷ ss) = ap (λ rest. s ∷ rest) (sorts-list ss)

anythings : (names : List NameTree) → map (λ (n : NameTree). anything) names ≡ replicate (length names) anything
anythings [] = refl
anythings (n ∷ names) = ap (λ rest. anything ∷ rest) (anythings names)

parts-has : (sc : Scope) (at : ℕ) (names : List NameTree) (o : Option Sorts) (inner : Scope) → bind_parts sc at names o ≡ Ok inner →
    (parts : List Sort) × (length parts ≡ length names) × (o ≡ Some (sorts_of parts)) × (inner ≡ with_values names parts sc)
parts-has sc at names None inner h = absurd (cc)
parts-has sc at names (Some ss) inner h =
    let w = went (unless (nat_eq (length names) (length (sort_list ss))) (Mismatch at)) (λ u. Ok (with_values names (sort_list ss) sc)) inner h in
    let same : length names ≡ length (sort_list ss) = eqb-true (length names) (length (sort_list ss)) (passed (nat_eq (length names) (length (sort_list ss))) (Mismatch at) (unit-ok _ w.0 w.1)) in
    (sort_list ss, sym same, ap Some (sym (list-sorts ss)), sym (same_scope (with_values names (sort_list ss) sc) inner w.2))

record-has : (sc : Scope) (at : ℕ) (names : List NameTree) (s : Sort) (inner : Scope) → bind_record sc at names s ≡ Ok inner →
    (parts : List Sort) × HasParts sc s (length names) parts × (inner ≡ with_values names parts sc)
record-has sc at names anything inner h =
    (map (λ n. anything) names, anythings names, sym (same_scope (with_values names (map (λ n. anything) names) sc) inner h))
record-has sc at names s inner h = let w = parts-has sc at names (parts_in sc s) inner h in (w.0, (w.1, w.2), w.3)

pattern-has : (sc : Scope) (s : Sort) (p : PatternTree) (inner : Scope) → bind_pattern sc s p ≡ Ok inner → Names sc s p inner
pattern-has sc s (patterns.Single name) inner h = sym (same_scope (declared name.text (value s) sc) inner h)
pattern-has sc s (patterns.Record at first rest) inner h = record-has sc at (first ∷ rest) s inner h

pub patterns-have : (ps : List PatternTree) (sc : Scope) (s : Sort) (inner : Scope) → bind_patterns sc s ps ≡ Ok inner → AllName sc s ps inner
patterns-have [] sc s inner h = sym (same_scope sc inner h)
patterns-have (p ∷ ps) sc s inner h =
    let w = went (bind_pattern sc s p) (λ mid. bind_patterns mid s ps) inner h in
    (w.0, pattern-has sc s p w.0 w.1, patterns-have ps w.0 s inner w.2)

same-length : (k : ℕ) → nat_eq k k ≡ true
same-length k = grind arith

has-parts : (sc : Scope) (at : ℕ) (names : List NameTree) (o : Option Sorts) (parts : List Sort) → length parts ≡ length names → o ≡ Some (sorts_of parts) → bind_parts sc at names o ≡ Ok (with_values names parts sc)
has-parts sc at names o parts h g =
    ap (bind_parts sc at names) g
    ∙ goes (unless (nat_eq (length names) (length (sort_list (sorts_of parts)))) (Mismatch at)) (λ u. Ok (with_values names (sort_list (sorts_of parts)) sc)) tt
    (ap (λ ss. unless (nat_eq (length names) (length ss)) (Mismatch at)) (sorts-list parts) ∙ ap (λ k. unless (nat_eq (length names) k) (Mismatch at)) h ∙ ap (λ b. unless b (Mismatch at)) (same-length (length names)))
    ∙ ap (λ ss. Ok (with_values names ss sc)) (sorts-list parts)

has-record : (sc : Scope) (at : ℕ) (names : List NameTree) (s : Sort) (parts : List Sort) → HasParts sc s (length names) parts → bind_record sc at names s ≡ Ok (with_values names parts sc)
has-record sc at names anything parts h = ap (λ ss. Ok (with_values names ss sc)) (anythings names ∙ sym h)
has-record sc at names s parts h = has-parts sc at names (parts_in sc s) parts h.0 h.1

has-pattern : (sc : Scope) (s : Sort) (p : PatternTree) (inner : Scope) → Names sc s p inner → bind_pattern sc s p ≡ Ok inner
has-pattern sc s (patterns.Single name) inner h = ap Ok (sym h)
has-pattern sc s (patterns.Record at first rest) inner h = has-record sc at (first ∷ rest) s h.0 h.1 ∙ ap Ok (sym h.2)

pub have-patterns : (ps : List PatternTree) (sc : Scope) (s : Sort) (inner : Scope) → AllName sc s ps inner → bind_patterns sc s ps ≡ Ok inner
have-patterns [] sc s inner h = ap Ok (sym h)
have-patterns (p ∷ ps) sc s inner h =
    goes (bind_pattern sc s p) (λ mid. bind_patterns mid s ps) h.0 (has-pattern sc s p h.0 h.1) ∙ have-patterns ps h.0 s inner h.2
