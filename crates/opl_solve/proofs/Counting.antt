-- A search whose solutions are counted.
use Rattle.std.proofs.Common.{◌≡◌, ℕ, ◌+◌, List, [], ◌∷◌, ℤ, Option, Some, None, Ok, refl, ◌∙◌}
use Rattle.opl_search.specs.Machines.{Searching}
use Rattle.opl_show.specs.declared.ending.Last.{Last}
use Rattle.opl_solve.specs.Answers.{IsBefore, Turns}
use Rattle.opl_solve.specs.Texts.{count_from, counted}
use Rattle.opl_solve.proofs.Found.{Ends, Standing, found_of, left-step, left_of, standing-ends, standing-start, standing-step}

-- a machine stands behind k solutions, which are counted
pub record Counting (limit : Option ℕ) (m n : Searching) (k number : ℕ) : Type 0 where
  pub latest : Option (List ℤ)
  pub stands : Standing limit m n k latest
  pub all : count_from number (left_of limit m k) ≡ count_from 0 (found_of limit m)

pub counting-start : (limit : Option ℕ) (m : Searching) → IsBefore m → Counting limit m m 0 0
counting-start limit m b = record { latest = None; stands = standing-start limit m b; all = refl }

one_more : (number next : ℕ) (ns : List ℤ) (left rest : List (List ℤ)) → next ≡ counted number → left ≡ ns ∷ rest → count_from next rest ≡ count_from number left
unfolding count_from
one_more number next ns left rest e is = rw (e, is) refl

none_left : (number : ℕ) (left : List (List ℤ)) → left ≡ [] → number ≡ count_from number left
unfolding count_from
none_left number left is = rw is refl

module _ (limit : Option ℕ) (m n p : Searching) (k number : ℕ) (g : Counting limit m n k number) where
  -- a solution is found
  pub counting-step : (next : ℕ) → Turns limit k n p (Ok None) → next ≡ counted number → Counting limit m p (k + 1) next
  counting-step next t e = record {
    latest = Some p.values;
    stands = standing-step limit m n p k g.latest g.stands t.0 t.1 t.2;
    all = one_more number next p.values (left_of limit m k) (left_of limit m (k + 1)) e (left-step limit m n p k g.latest g.stands t.0 t.1) ∙ g.all;
  }

  pub counting-ends : (l : Last) → Turns limit k n p (Ok (Some l)) → Ends limit m p k l
  counting-ends l t = standing-ends limit m n p k g.latest g.stands l t

  -- no solution is left
  pub counting-count : (l : Last) → Turns limit k n p (Ok (Some l)) → number ≡ count_from 0 (found_of limit m)
  counting-count l t = none_left number (left_of limit m k) (counting-ends l t).none ∙ g.all
