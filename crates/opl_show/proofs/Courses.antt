-- What is still to be written of an array, part by part.
use Rattle.std.proofs.Common.{◌≡◌, ◌<◌, ℕ, suc, ◌+◌, ◌*◌, List, [], ◌∷◌, ◌++◌, Some, codes, drop, length, refl, sym, ap, ◌∙◌, append_assoc, drop-drop, arith}
use Rattle.std.proofs.lemmas.List.{append-nil}
use Rattle.opl_show.specs.declared.course.Turn.{Turn}
use Rattle.opl_show.specs.Courses.{Writing, all_brackets, at_end, closing_of, distance, distance_back, pending, prefixes_left, rest_text, separated, still, turn_text}
use Rattle.opl_show.specs.Texts.{Brackets, behind, joined, nested, parts_with, size_of}

behind-separated : (ts : List (List ℕ)) → behind ts ≡ separated (codes ",") ts
behind-separated [] = refl
behind-separated (t ∷ ts) = refl

joined-separated : (ts : List (List ℕ)) → joined ts ≡ separated [] ts
joined-separated [] = refl
joined-separated (t ∷ ts) = refl

-- one more dimension that is begun
pub still-last : (after : Writing) (ts : List Turn) (t : Turn) (cells : List (List ℕ)) → still after (ts ++ t ∷ []) cells ≡ turn_text t (still after ts) cells
still-last after [] t cells = refl
still-last after (u ∷ us) t cells = still-last (turn_text u after) us t cells

-- ---- one part

-- no element is left
pub part-none : (text closed separator : List ℕ) (prefixes : List (List ℕ)) (closing : List ℕ) (ds : List Brackets) (after : Writing) (cells : List (List ℕ)) → prefixes ≡ [] → closed ≡ text ++ closing →
    text ++ rest_text separator prefixes closing ds after cells ≡ closed ++ after cells
part-none text closed separator prefixes closing ds after cells h g =
    ap (λ ps. text ++ rest_text separator ps closing ds after cells) h
    ∙ ap (λ k. text ++ (closing ++ after (drop k cells))) (let e : 0 * size_of ds ≡ 0 = omega arith in e)
    ∙ sym (append_assoc text closing (after cells)) ∙ ap (λ t. t ++ after cells) (sym g)

regroup : (text separator p n l closing a : List ℕ) → text ++ ((separator ++ (p ++ n) ++ l) ++ (closing ++ a)) ≡ ((text ++ separator) ++ p) ++ (n ++ (l ++ (closing ++ a)))
regroup text separator p n l closing a = simp append_assoc

cells-behind : (n size : ℕ) (cells : List (List ℕ)) → drop (suc n * size) cells ≡ drop (n * size) (drop size cells)
cells-behind n size cells = ap (λ k. drop k cells) (let e : suc n * size ≡ size + n * size = omega arith in e) ∙ sym (drop-drop (n * size) size cells)

part-some : (text separator p : List ℕ) (later : List (List ℕ)) (closing : List ℕ) (ds : List Brackets) (after : Writing) (cells : List (List ℕ)) →
    text ++ rest_text separator (p ∷ later) closing ds after cells ≡ ((text ++ separator) ++ p) ++ (nested ds cells ++ rest_text (codes ",") later closing ds after (drop (size_of ds) cells))
part-some text separator p later closing ds after cells =
    let l : List (List ℕ) = parts_with (nested ds) (size_of ds) later (drop (size_of ds) cells) in
    (λ i. text ++ ((separator ++ (p ++ nested ds cells) ++ behind-separated l i) ++ (closing ++ after (cells-behind (length later) (size_of ds) cells i))))
    ∙ regroup text separator p (nested ds cells) (separated (codes ",") l) closing (after (drop (length later * size_of ds) (drop (size_of ds) cells)))

-- an element is left
pub part-first : (text apart before separator p : List ℕ) (prefixes : List (List ℕ)) (closing : List ℕ) (t : Turn) (old new : List Turn) (cells : List (List ℕ)) → prefixes ≡ p ∷ prefixes_left t.prefixes → closing_of t.prefixes ≡ closing →
    new ≡ old ++ t ∷ [] → apart ≡ text ++ separator → before ≡ apart ++ p →
    text ++ rest_text separator prefixes closing (all_brackets t.behind.now) (still at_end old) cells ≡ before ++ pending (Some t.behind) new cells
part-first text apart before separator p prefixes closing t old new cells h c n a b =
    let ds : List Brackets = all_brackets t.behind.now in
    let left : List (List ℕ) = drop (size_of ds) cells in
    ap (λ ps. text ++ rest_text separator ps closing ds (still at_end old) cells) h
    ∙ part-some text separator p (prefixes_left t.prefixes) closing ds (still at_end old) cells
    ∙ (λ i. sym (b ∙ ap (λ s. s ++ p) a) i ++ (nested ds cells ++ rest_text (codes ",") (prefixes_left t.prefixes) (sym c i) ds (still at_end old) left))
    ∙ ap (λ s. before ++ (nested ds cells ++ s)) (sym (still-last at_end old t left) ∙ ap (λ ts. still at_end ts left) (sym n))

-- ---- one dimension before the others

opened : (text o j closing a : List ℕ) → text ++ ((o ++ j ++ closing) ++ a) ≡ (text ++ o) ++ (j ++ (closing ++ a))
opened text o j closing a = simp append_assoc

pub part-begun : (text begun separator : List ℕ) (prefixes : List (List ℕ)) (closing : List ℕ) (d : Brackets) (all ds : List Brackets) (after : Writing) (cells : List (List ℕ)) → all ≡ d ∷ ds → begun ≡ text ++ d.opening → separator ≡ [] → prefixes ≡ d.prefixes → closing ≡ d.closing →
    text ++ (nested all cells ++ after (drop (size_of all) cells)) ≡ begun ++ rest_text separator prefixes closing ds after cells
part-begun text begun separator prefixes closing d all ds after cells h b s p c =
    let parts : List (List ℕ) = parts_with (nested ds) (size_of ds) d.prefixes cells in
    ap (λ es. text ++ (nested es cells ++ after (drop (size_of es) cells))) h
    ∙ opened text d.opening (joined parts) d.closing (after (drop (length d.prefixes * size_of ds) cells))
    ∙ ap (λ j. (text ++ d.opening) ++ (j ++ (d.closing ++ after (drop (length d.prefixes * size_of ds) cells)))) (joined-separated parts)
    ∙ (λ i. sym b i ++ rest_text (sym s i) (sym p i) (sym c i) ds after cells)

-- where there are no dimensions, a cell comes
pub cell-next : (text : List ℕ) (all : List Brackets) (after : Writing) (cells : List (List ℕ)) → all ≡ [] → text ++ (nested all cells ++ after (drop (size_of all) cells)) ≡ text ++ (nested [] cells ++ after (drop 1 cells))
cell-next text all after cells h = ap (λ ds. text ++ (nested ds cells ++ after (drop (size_of ds) cells))) h

-- nothing is left
pub none-left : (text : List ℕ) (ts : List Turn) (cells : List (List ℕ)) → ts ≡ [] → text ++ still at_end ts cells ≡ text
none-left text ts cells h = ap (λ us. text ++ still at_end us cells) h ∙ append-nil text

-- the latest dimension goes on
pub turn-back : (text separator : List ℕ) (old rest : List Turn) (t : Turn) (cells : List (List ℕ)) → old ≡ rest ++ t ∷ [] → separator ≡ codes "," →
    text ++ still at_end old cells ≡ text ++ rest_text separator (prefixes_left t.prefixes) (closing_of t.prefixes) (all_brackets t.behind.now) (still at_end rest) cells
turn-back text separator old rest t cells h s =
    ap (λ ts. text ++ still at_end ts cells) h ∙ ap (λ x. text ++ x) (still-last at_end rest t cells)
    ∙ ap (λ b. text ++ rest_text b (prefixes_left t.prefixes) (closing_of t.prefixes) (all_brackets t.behind.now) (still at_end rest) cells) (sym s)

-- ---- how far it is

pub back-last : (ts : List Turn) (t : Turn) → distance_back (ts ++ t ∷ []) ≡ distance_back ts + suc (length (prefixes_left t.prefixes) * suc (distance (all_brackets t.behind.now)))
back-last [] t = omega arith
back-last (u ∷ us) t = ap (λ n. suc (length (prefixes_left u.prefixes) * suc (distance (all_brackets u.behind.now))) + n) (back-last us t) ∙ omega arith

pub farther : (old new : List Turn) (t : Turn) (prefixes : List (List ℕ)) (p : List ℕ) → new ≡ old ++ t ∷ [] → prefixes ≡ p ∷ prefixes_left t.prefixes →
    distance_back old + length prefixes * suc (distance (all_brackets t.behind.now)) ≡ distance_back new + distance (all_brackets t.behind.now)
farther old new t prefixes p h g =
    ap (λ ps. distance_back old + length ps * suc (distance (all_brackets t.behind.now))) g
    ∙ grind arith
    ∙ ap (λ n. n + distance (all_brackets t.behind.now)) (sym (ap distance_back h ∙ back-last old t))

pub distance-positive : (ds : List Brackets) → 0 < distance ds
distance-positive [] = omega arith
distance-positive (d ∷ ds) = omega arith

nearer : (back a p q next : ℕ) → a ≡ suc q → p ≡ q → back + p ≡ next → next < back + a
nearer back a p q next h g n = omega arith

-- a dimension is begun
pub nearer-begun : (back next : ℕ) (d : Brackets) (all ds : List Brackets) (prefixes : List (List ℕ)) → all ≡ d ∷ ds → prefixes ≡ d.prefixes → back + length prefixes * suc (distance ds) ≡ next → next < back + distance all
nearer-begun back next d all ds prefixes h p n =
    nearer back (distance all) (length prefixes * suc (distance ds)) (length d.prefixes * suc (distance ds)) next (ap distance h) (ap (λ ps. length ps * suc (distance ds)) p) n

-- the latest goes on
pub nearer-back : (old rest : List Turn) (t : Turn) (next : ℕ) → old ≡ rest ++ t ∷ [] → distance_back rest + length (prefixes_left t.prefixes) * suc (distance (all_brackets t.behind.now)) ≡ next → next < distance_back old
nearer-back old rest t next h n =
    let p : ℕ = length (prefixes_left t.prefixes) * suc (distance (all_brackets t.behind.now)) in
    back (distance_back old) (distance_back rest) p next (ap distance_back h ∙ back-last rest t) n
  where
    back : (a b q c : ℕ) → a ≡ b + suc q → b + q ≡ c → c < a
    back a b q c e f = omega arith
