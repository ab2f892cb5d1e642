-- What a path still has to do, task by task.
use Rattle.std.proofs.Common.{◌≡◌, ◌∙◌, ap, sym, ℕ, suc, ◌+◌, ◌<◌, ◌≤◌, zero, refl, arith, List, [], ◌∷◌, ◌++◌, drop, length, slice_index_or}
use Rattle.std.specs.declared.rc.Rc.{Rc}
use Rattle.std.specs.declared.alloc.Global.{Global}
use Rattle.opl_trace.specs.Marks.{numbers_from}
use Rattle.opl_steps.specs.Tasks as plain
use Rattle.opl_steps.specs.Tasks.Task.{values}
use Rattle.opl_search.specs.declared.tail.Tail.{Tail}
use Rattle.opl_search.specs.declared.tail.Tail.TheVariants as shape
use Rattle.opl_search.specs.declared.tail.Tail.TheOpen.{Tail-F}
use Rattle.opl_search.specs.declared.tail.Tail.TheFolds.{fold-roll-Tail, map-Tail}
use Rattle.opl_search.specs.declared.tail.Tail.TheViews.{roll-Tail}
use Rattle.opl_search.specs.Tails.{tail_layer, tail_of}

layer : (d : Tail-F Tail) → tail_of (roll-Tail d) ≡ tail_layer (map-Tail Tail (List plain.Task) tail_of d)
unfolding tail_of
layer d = fold-roll-Tail (List plain.Task) tail_layer d

pub tail_end : tail_of shape.End ≡ []
tail_end = ap tail_of (sym shape.rolls-End) ∙ layer Tail-F.End

pub tail_label : (xs : Rc (List ℕ) Global) (k : ℕ) (r : Rc Tail Global) → tail_of (shape.Label xs k r) ≡ values (drop k xs.value) ∷ tail_of r.value
tail_label xs k r = ap tail_of (sym (shape.rolls-Label xs k r)) ∙ layer (Tail-F.Label xs k r)

-- what is left of a list from a place on
pub drop_full : (i : ℕ) (xs : List ℕ) → length xs ≤ i → drop i xs ≡ []
drop_full zero [] h = refl
drop_full (suc i) [] h = refl
drop_full zero (x ∷ xs) h = absurd (omega arith)
drop_full (suc i) (x ∷ xs) h = drop_full i xs (omega arith)

drop_next : (i : ℕ) (xs : List ℕ) → i < length xs → drop i xs ≡ slice_index_or xs i 0 ∷ drop (suc i) xs
drop_next i [] h = absurd (omega arith)
drop_next zero (y ∷ xs) h = refl
drop_next (suc i) (y ∷ xs) h = drop_next i xs (omega arith)

pub drop_at : (i : ℕ) (xs : List ℕ) → i < length xs → drop i xs ≡ slice_index_or xs i 0 ∷ drop (i + 1) xs
drop_at i xs h = let k : i + 1 ≡ suc i = omega arith in drop_next i xs h ∙ ap (λ j. slice_index_or xs i 0 ∷ drop j xs) (sym k)

-- numbers from one on
numbers_more : (x n : ℕ) → numbers_from x (suc n) ≡ numbers_from x n ++ (x + n) ∷ []
numbers_more x zero = let e : x + 0 ≡ x = omega arith in ap (λ k. k ∷ []) (sym e)
numbers_more x (suc n) = let e : suc x + n ≡ x + suc n = omega arith in ap (λ ns. x ∷ ns) (numbers_more (suc x) n ∙ ap (λ k. numbers_from (suc x) n ++ k ∷ []) e)

pub numbers_next : (n : ℕ) → numbers_from 0 (n + 1) ≡ numbers_from 0 n ++ n ∷ []
numbers_next n = let e : n + 1 ≡ suc n = omega arith in let z : 0 + n ≡ n = omega arith in ap (numbers_from 0) e ∙ numbers_more 0 n ∙ ap (λ k. numbers_from 0 n ++ k ∷ []) z
