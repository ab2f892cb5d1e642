-- What the least value of a form tells of a family.
use Rattle.std.proofs.Common.{◌≡◌, ◌∙◌, ℕ, true, List, length, ℤ, pos, ◌+ℤ◌, ap, arith}
use Rattle.std.specs.Prelude.{int_lt, int_le}
use Rattle.std.proofs.lemmas.Int.{ints}
use Rattle.opl_domain.specs.Family.{Family}
use Rattle.opl_linear.specs.Linear.{factor_in, NamesOnce, AreAmong, least_sum, least_weighted, is_above, limit}
use Rattle.opl_linear.proofs.Sums.{least_listed}

from_sum : (F : Family) (ps : List (ℕ × ℤ)) (k t : ℤ) → NamesOnce ps → AreAmong (length F) ps → t ≡ k +ℤ least_sum F ps → t ≡ k +ℤ least_weighted F (factor_in ps) (length F)
from_sum F ps k t o a e = e ∙ ap (λ s. k +ℤ s) (least_listed F ps (length F) o a)

pub above_by_least : (F : Family) (ps : List (ℕ × ℤ)) (k t : ℤ) → NamesOnce ps → AreAmong (length F) ps → t ≡ k +ℤ least_sum F ps → int_lt (pos 0) t ≡ is_above (factor_in ps) k F
unfolding is_above
above_by_least F ps k t o a e = ap (int_lt (pos 0)) (from_sum F ps k t o a e)

one_more : (k s : ℤ) → int_le (pos 0) (k +ℤ s) ≡ int_lt (pos 0) (k +ℤ pos 1 +ℤ s)
one_more k s = grind (arith, ints)

pub reaches_by_least : (F : Family) (ps : List (ℕ × ℤ)) (k t : ℤ) → NamesOnce ps → AreAmong (length F) ps → t ≡ k +ℤ least_sum F ps → int_le (pos 0) t ≡ is_above (factor_in ps) (limit true k) F
unfolding is_above
reaches_by_least F ps k t o a e = ap (int_le (pos 0)) (from_sum F ps k t o a e) ∙ one_more k (least_weighted F (factor_in ps) (length F))

pub sum_read : (F : Family) (ps : List (ℕ × ℤ)) (k s t : ℤ) → t ≡ k +ℤ s → s ≡ least_sum F ps → t ≡ k +ℤ least_sum F ps
sum_read F ps k s t e h = e ∙ ap (λ r. k +ℤ r) h
