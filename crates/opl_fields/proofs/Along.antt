-- The walk along a chain of fields, field after field.
use Rattle.std.proofs.Common.{◌≡◌, ℕ, ◌+◌, ◌<◌, ◌≤◌, zero, suc, List, [], ◌∷◌, ◌++◌, length, drop, get_or, reverse, take, Option, refl, ap, sym, ◌∙◌, arith}
use Rattle.std.proofs.lemmas.List.{reverse-append, take_all, take_more}
use Rattle.opl_tree.specs.declared.declaration.DeclTree.{DeclTree}
use Rattle.opl_term.specs.declared.term.FieldName.{FieldName}
use Rattle.opl_fields.specs.Walk.{Pass, State, along, later, next, note, one, several}

after-next : (i : ℕ) → suc i + 1 ≡ suc (i + 1)
after-next i = omega arith

later-drop : (m : ℕ) (rs : List (Option ℕ)) → later (drop m rs) ≡ drop (m + 1) rs
later-drop zero [] = refl
later-drop zero (r ∷ rs) = refl
later-drop (suc m) [] = ap (λ n. drop n []) (sym (after-next m))
later-drop (suc m) (r ∷ rs) = later-drop m rs ∙ ap (λ n. drop n (r ∷ rs)) (sym (after-next m))

several-more : (m : ℕ) (s : State) → one (several m s) ≡ several (m + 1) s
several-more m s = ap (λ rs. record { found = s.found; records = rs }) (later-drop m s.records)

reverse-more : (names : List FieldName) (i : ℕ) (f : FieldName) → i < length names → f ≡ get_or names i f → reverse (take (i + 1) names) ≡ f ∷ reverse (take i names)
reverse-more names i f h e =
    ap reverse (take_more names i f h) ∙ reverse-append (take i names) (get_or names i f ∷ []) ∙ ap (λ g. g ∷ reverse (take i names)) (sym e)

-- one more field is noted
pub one-noted : (ds : List DeclTree) (base : Pass) (names : List FieldName) (i place left : ℕ) (f : FieldName) (s : State) (records : List (Option ℕ)) (before after : State) →
    place ≡ left + 1 → i < length names → f ≡ get_or names i f → records ≡ s.records → before ≡ along ds base (reverse (take i names)) (several place s) →
    after ≡ note ds f.at f.text (next (drop place records)) before → after ≡ along ds base (reverse (take (i + 1) names)) (several left s)
one-noted ds base names i place left f s records before after p h e r b a =
    a ∙ (λ j. note ds f.at f.text (next (drop (p j) (r j))) (b j))
    ∙ (λ j. note ds f.at f.text (next (drop (left + 1) s.records)) (along ds base (reverse (take i names)) (several (p j) s)))
    ∙ (λ j. note ds f.at f.text (next (sym (later-drop left s.records) j)) (along ds base (reverse (take i names)) (sym (several-more left s) j)))
    ∙ ap (λ l. along ds base l (several left s)) (sym (reverse-more names i f h e))

-- all of them are
pub all-noted : (ds : List DeclTree) (base : Pass) (names : List FieldName) (i place : ℕ) (s after : State) → length names ≤ i → place + i ≡ length names →
    after ≡ along ds base (reverse (take i names)) (several place s) → after ≡ along ds base (reverse names) s
all-noted ds base names i place s after h n a =
    let p : place ≡ 0 = omega arith in
    a ∙ (λ j. along ds base (reverse (take_all i names h j)) (several (p j) s))
