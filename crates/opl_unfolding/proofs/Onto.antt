-- Forms made one behind another.
use Rattle.std.proofs.Common.{◌≡◌, ◌<◌, ◌≤◌, ℕ, ◌+◌, ℤ, List, [], ◌∷◌, ◌++◌, length, map, drop, get_or, Ok, Err, refl, sym, ap, ◌∙◌, arith}
use Rattle.std.proofs.lemmas.List.{append-nil, at_drop_all, at_drop_more}
use Rattle.opl_draft.specs.Drafts.{Cells, Draft, drafts_of}
use Rattle.opl_form.specs.Parts.{Form}
use Rattle.opl_form.specs.Measures.{all_nodes, part_nodes}
use Rattle.opl_form.specs.Made.{made, made_all, made_operands, place, places}
use Rattle.opl_form.specs.Nodes.{Made, next}
use Rattle.opl_unfolding.specs.Laws.{MadeOnto, OntoAppend, OntoEnd, OntoNext}
use Rattle.opl_unfolding.specs.Onto.{Maker, onto, operand_made}
use Rattle.opl_unfolding.proofs.Lists.{append-assoc, next-like, next-out, next-same}

plus-assoc : (a b c : ℕ) → a + (b + c) ≡ (a + b) + c
plus-assoc a b c = omega arith

plus-zero : (k : ℕ) → k + 0 ≡ 0 + k
plus-zero k = omega arith

none : (n : ℕ) → n + 0 ≡ n
none n = omega arith

nodes-last : (gs : List Form) (g : Form) → all_nodes (gs ++ g ∷ []) ≡ all_nodes gs + part_nodes g
nodes-last [] g = plus-zero (part_nodes g)
nodes-last (h ∷ gs) g = ap (λ k. part_nodes h + k) (nodes-last gs g) ∙ plus-assoc (part_nodes h) (all_nodes gs) (part_nodes g)

-- the forms of drafts, one after another
abbrev each : Maker → ℕ → List Draft → Made (List Form)
each make n [] = Ok []
each make n (d ∷ ds) = next (make n d) (λ g. next (each make (n + part_nodes g) ds) (λ gs. Ok (g ∷ gs)))

onto-each : (make : Maker) (n : ℕ) (before : List Form) (ds : List Draft) → onto make n before ds ≡ next (each make (n + all_nodes before) ds) (λ gs. Ok (before ++ gs))
onto-each make n before [] = ap (λ gs. Ok gs) (sym (append-nil before))
onto-each make n before (d ∷ ds) =
    let m : ℕ = n + all_nodes before in
    next-like (make m d) (λ g. onto make n (before ++ g ∷ []) ds) (λ g. next (next (each make (m + part_nodes g) ds) (λ gs. Ok (g ∷ gs))) (λ gs. Ok (before ++ gs)))
    (λ g. onto-each make n (before ++ g ∷ []) ds
    ∙ ap (λ k. next (each make k ds) (λ gs. Ok ((before ++ g ∷ []) ++ gs))) (ap (λ k. n + k) (nodes-last before g) ∙ plus-assoc n (all_nodes before) (part_nodes g))
    ∙ next-like (each make (m + part_nodes g) ds) (λ gs. Ok ((before ++ g ∷ []) ++ gs)) (λ gs. Ok (before ++ g ∷ gs)) (λ gs. ap (λ hs. Ok hs) (append-assoc before (g ∷ []) gs))
    ∙ sym (next-out (each make (m + part_nodes g) ds) (λ gs. Ok (g ∷ gs)) (λ gs. Ok (before ++ gs))))
    ∙ sym (next-out (make m d) (λ g. next (each make (m + part_nodes g) ds) (λ gs. Ok (g ∷ gs))) (λ gs. Ok (before ++ gs)))

onto-none : (make : Maker) (n : ℕ) (ds : List Draft) → onto make n [] ds ≡ each make n ds
onto-none make n ds = onto-each make n [] ds ∙ next-same (each make (n + 0) ds) ∙ ap (λ k. each make k ds) (none n)

module _ (sets : List (ℤ × ℤ)) (arrays : List Cells) (item : ℕ) where
  each-all : (n : ℕ) (ds : List Draft) → made_all sets arrays item n (drafts_of ds) ≡ each (made sets arrays item) n ds
  each-all n [] = refl
  each-all n (d ∷ ds) =
      next-like (made sets arrays item n d) (λ g. next (made_all sets arrays item (n + part_nodes g) (drafts_of ds)) (λ gs. Ok (g ∷ gs))) (λ g. next (each (made sets arrays item) (n + part_nodes g) ds) (λ gs. Ok (g ∷ gs)))
      (λ g. ap (λ r. next r (λ gs. Ok (g ∷ gs))) (each-all (n + part_nodes g) ds))

  each-operand : (n : ℕ) (ds : List Draft) → made_operands sets arrays item n (drafts_of ds) ≡ each (operand_made sets arrays item) n ds
  each-operand n [] = refl
  each-operand n (d ∷ ds) =
      next-like (operand_made sets arrays item n d) (λ g. next (made_operands sets arrays item (n + part_nodes g) (drafts_of ds)) (λ gs. Ok (g ∷ gs)))
      (λ g. next (each (operand_made sets arrays item) (n + part_nodes g) ds) (λ gs. Ok (g ∷ gs))) (λ g. ap (λ r. next r (λ gs. Ok (g ∷ gs))) (each-operand (n + part_nodes g) ds))

places-of : (ds : List Draft) → places (drafts_of ds) ≡ map place ds
places-of [] = refl
places-of (d ∷ ds) = ap (λ xs. place d ∷ xs) (places-of ds)

-- the forms of drafts are made one behind another
pub made-onto : MadeOnto
made-onto sets arrays item n ds = record {
  all = each-all sets arrays item n ds ∙ sym (onto-none (made sets arrays item) n ds);
  operands = each-operand sets arrays item n ds ∙ sym (onto-none (operand_made sets arrays item) n ds);
  places = places-of ds;
}

-- drafts behind drafts are made behind their forms
pub onto-append : OntoAppend
onto-append make n before [] es = refl
onto-append make n before (d ∷ ds) es =
    next-like (make (n + all_nodes before) d) (λ g. onto make n (before ++ g ∷ []) (ds ++ es)) (λ g. next (onto make n (before ++ g ∷ []) ds) (λ gs. onto make n gs es)) (λ g. onto-append make n (before ++ g ∷ []) ds es)
    ∙ sym (next-out (make (n + all_nodes before) d) (λ g. onto make n (before ++ g ∷ []) ds) (λ gs. onto make n gs es))

-- the next of drafts that stand for the elements of a list
pub onto-next : OntoNext
onto-next f xs make n before i x more = at_drop_more (λ ys. onto make n before (map f ys)) xs i x more

pub onto-end : OntoEnd
onto-end f xs make n before i h = at_drop_all (λ ys. onto make n before (map f ys)) xs i h
