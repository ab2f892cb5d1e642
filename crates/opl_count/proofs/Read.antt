-- Literals and ties, as they are read.
use Rattle.std.proofs.Common.{◌≡◌, ◌∙◌, ℕ, zero, suc, refl, ◌+◌, ◌-◌, ◌≤◌, ◌<◌, Bool, true, false, List, [], ◌∷◌, length, get_or, drop, ap, sym, subst, arith}
use Rattle.std.specs.Prelude.{◌^◌, slice_get, Some}
use Rattle.opl_domain.specs.Family.{Family, Below}
use Rattle.opl_expr.specs.declared.model.Core.{Core}
use Rattle.opl_expr.specs.Solutions.{declared}
use Rattle.opl_filter.specs.Filtering.{refutes}
use Rattle.opl_filter.specs.Rounds.{AreThere}
use Rattle.opl_filter.proofs.Mentioned.{variables_there}
use Rattle.opl_linear_filter.specs.LinearForms.{IsMade, IsFilterOf}
use Rattle.opl_range.proofs.Parts.{part_before}
use Rattle.opl_reify.specs.Parts.{IsPart}
use Rattle.opl_count.specs.declared.sum.Literal.{Literal}
use Rattle.opl_count.specs.declared.sum.Tie.{Tie}
use Rattle.opl_count.specs.declared.sum.Sum.{Sum}
use Rattle.opl_count.specs.Costs.{fact_of, price, prices, weights, HaveParts}
use Rattle.opl_count.specs.Sums.{IsSum, IsOpenAt, IsDearAt}
use Rattle.opl_count.proofs.Prices.{the_one, part_at, at_place, there_or, prices_most, price_most}

pub read_at : {A : Type 0} (xs ys : List A) (i : ℕ) (x : A) → ys ≡ xs → i < length xs → x ≡ get_or ys i x → slice_get xs i ≡ Some x
read_at xs ys i x e l h = at_place xs i x l (h ∙ ap (λ zs. get_or zs i x) e)

pub read_filter : (core : Core) (ls xs : List Literal) (i : ℕ) (l : Literal) → HaveParts core ls → xs ≡ ls → i < length ls → l ≡ get_or xs i l → IsFilterOf core (fact_of core l) (get_or xs i l).part.filter
read_filter core ls xs i l a e k h = subst (λ (m : Literal). IsFilterOf core (fact_of core l) m.part.filter) h (part_at core ls i l a (read_at ls xs i l e k h)).filter

pub read_made : (core : Core) (ls xs : List Literal) (i : ℕ) (l : Literal) → HaveParts core ls → xs ≡ ls → i < length ls → l ≡ get_or xs i l → IsMade core (get_or xs i l).part.filter
read_made core ls xs i l a e k h = (read_filter core ls xs i l a e k h).comparison.difference.made

pub read_variables : (xs : List Literal) (i : ℕ) (l : Literal) (ys : List ℕ) → l ≡ get_or xs i l → ys ≡ (get_or xs i l).part.variables → ys ≡ l.part.variables
read_variables xs i l ys h e = e ∙ ap (λ (m : Literal). m.part.variables) (sym h)

pub read_there : (core : Core) (F : Family) (ls : List Literal) (i : ℕ) (l : Literal) (ys : List ℕ) → HaveParts core ls → slice_get ls i ≡ Some l → ys ≡ l.part.variables → Below F (declared core) → AreThere ys F
read_there core F ls i l ys a h e b =
    let m = part_at core ls i l a h in
    subst (λ zs. AreThere zs F) (sym e) (variables_there core (fact_of core l) l.part.variables F m.sound b m.named)

pub read_tie : (ts ys : List Tie) (i : ℕ) (d : Tie) → ys ≡ ts → i < length ts → slice_get ts i ≡ Some (get_or ys i d)
read_tie ts ys i d e l = there_or ts i d l ∙ ap (λ zs. Some (get_or zs i d)) (sym e)

pub read_open : (core : Core) (F : Family) (ls : List Literal) (i : ℕ) (l : Literal) (b : Bool) → slice_get ls i ≡ Some l → b ≡ refutes (fact_of core l) F → b ≡ false → IsOpenAt core F ls i
read_open core F ls i l b h e o m k = subst (λ z. refutes (fact_of core z) F ≡ false) (the_one l m (sym h ∙ k)) (sym e ∙ o)

pub read_dear : (core : Core) (F : Family) (s : Sum) (i slack : ℕ) (t : Tie) → IsSum core s → slice_get s.ties i ≡ Some t → t.is_alone ≡ true → slack < t.reach → s.costs.room ≤ s.costs.paid + prices core F s.costs.literals + slack → IsDearAt core F s.costs i
read_dear core F s i slack t m h a k r l e = let w = (m.ties.each i t h).own a l e in omega (arith, w, k, r)

-- ---- one after another, from the last

weights_drop : (ls : List Literal) (i : ℕ) → weights (drop i ls) ≤ weights ls
weights_drop [] zero = omega arith
weights_drop [] (suc i) = omega arith
weights_drop (l ∷ ls) zero = omega arith
weights_drop (l ∷ ls) (suc i) = omega (arith, weights_drop ls i)

pub prices_end : (core : Core) (F : Family) (ls : List Literal) → prices core F (drop (length ls) ls) ≡ 0
prices_end core F [] = refl
prices_end core F (l ∷ ls) = prices_end core F ls

pub price_before : (core : Core) (F : Family) (ls : List Literal) (i : ℕ) (l : Literal) (n r : ℕ) → 0 < i → i ≤ length ls → l ≡ get_or ls (i - 1) l → r ≡ n + prices core F (drop i ls) → r + price core F l ≡ n + prices core F (drop (i - 1) ls)
price_before core F ls i l n r p k e h =
    let d = ap (prices core F) (part_before ls i l p k e) in
    omega (arith, d, h)

pub price_fits : (core : Core) (F : Family) (ls : List Literal) (i : ℕ) (l : Literal) (n r : ℕ) → 0 < i → i ≤ length ls → l ≡ get_or ls (i - 1) l → n + weights ls < 2 ^ 128 → r ≡ n + prices core F (drop i ls) → r + price core F l < 2 ^ 128
price_fits core F ls i l n r p k e s h =
    let d = ap weights (part_before ls i l p k e) in
    omega (arith, d, h, s, prices_most core F (drop i ls), price_most (refutes (fact_of core l) F) l.weight, weights_drop ls (i - 1))

pub read_last : (core : Core) (ls : List Literal) (i : ℕ) (l : Literal) → HaveParts core ls → 0 < i → i ≤ length ls → l ≡ get_or ls (i - 1) l → IsPart core l.part
read_last core ls i l a p k e = part_at core ls (i - 1) l a (at_place ls (i - 1) l (omega (arith, p, k)) e)
