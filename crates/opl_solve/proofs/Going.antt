-- A search whose solutions are shown as they are found.
use Rattle.std.proofs.Common.{◌≡◌, ℕ, ◌+◌, List, ℤ, Option, Some, None, Ok, Err}
use Rattle.opl_meaning.specs.declared.variable.VariableItem.{VariableItem}
use Rattle.opl_outside.specs.declared.error.OutsideError.{OutsideError}
use Rattle.opl_outside.specs.declared.error.OutsideError.TheVariants.{OutOfMemory}
use Rattle.opl_search.specs.Machines.{Searching}
use Rattle.opl_show.specs.declared.ending.Last.{Last}
use Rattle.opl_show.specs.Texts.{Enumerations, solution_text}
use Rattle.opl_trace.specs.Marks.{objective}
use Rattle.opl_solve.specs.Answers.{IsBefore, Turns}
use Rattle.opl_solve.specs.Printing.{Prints}
use Rattle.opl_solve.specs.Texts.{solution_texts, count_from, counted}
use Rattle.opl_solve.proofs.Found.{Ends, Standing, left-step, found_of, left_of, standing-ends, standing-start, standing-step, value-is}
use Rattle.opl_solve.proofs.ShownTexts.{SoFar, sofar-start, sofar-step, sofar-stop, sofar-end, count-end, sofar-memory}

-- a machine stands behind k solutions, which are shown
pub record Going (names : Enumerations) (vs : List VariableItem) (limit : Option ℕ) (m n : Searching) (k shown : ℕ) (old new : Option (List ℕ)) (before now : ℕ) : Type 0 where
  pub latest : Option (List ℤ)
  pub stands : Standing limit m n k latest
  pub sofar : SoFar (objective m.core) names vs (found_of limit m) (left_of limit m k) shown old new before now

pub going-start : (names : Enumerations) (vs : List VariableItem) (limit : Option ℕ) (m : Searching) (o : Option (List ℕ)) (f : ℕ) → IsBefore m → Going names vs limit m m 0 0 o o f f
going-start names vs limit m o f b =
    record { latest = None; stands = standing-start limit m b; sofar = sofar-start (objective m.core) names vs (found_of limit m) o f }

module _ (names : Enumerations) (vs : List VariableItem) (limit : Option ℕ) (m n p : Searching) (k shown number : ℕ) (old mid new : Option (List ℕ)) (before between now : ℕ) (g : Going names vs limit m n k shown old mid before between) (t : Turns limit k n p (Ok None)) (e : number ≡ counted shown) where
  -- a solution is found, and shown
  pub going-step : (u : Unit {0}) → Prints {A = Unit {0}} (solution_text names vs number p.values p.best) mid new between now (Ok u) →
      Going names vs limit m p (k + 1) number old new before now
  going-step u h = record {
    latest = Some p.values;
    stands = standing-step limit m n p k g.latest g.stands t.0 t.1 t.2;
    sofar = sofar-step (objective m.core) names vs (found_of limit m) (left_of limit m k) (left_of limit m (k + 1)) p.values shown number (left-step limit m n p k g.latest g.stands t.0 t.1) e u old mid new before between now g.sofar (rw (value-is limit m n p k g.latest g.stands t.0 t.1) at h);
  }

  -- a solution is found, and printing stopped at it
  pub going-stop : {A : Type 0} (stop : OutsideError) → Prints {A = Unit {0}} (solution_text names vs number p.values p.best) mid new between now (Err stop) →
      Prints {A = A} (solution_texts (objective m.core) names vs 0 (found_of limit m)) old new before now (Err stop)
  going-stop stop h =
      sofar-stop (objective m.core) names vs (found_of limit m) (left_of limit m k) (left_of limit m (k + 1)) p.values shown number (left-step limit m n p k g.latest g.stands t.0 t.1) e stop old mid new before between now g.sofar (rw (value-is limit m n p k g.latest g.stands t.0 t.1) at h)

module _ (names : Enumerations) (vs : List VariableItem) (limit : Option ℕ) (m n p : Searching) (k shown : ℕ) (old mid : Option (List ℕ)) (before between : ℕ) (g : Going names vs limit m n k shown old mid before between) where
  pub going-ends : (l : Last) → Turns limit k n p (Ok (Some l)) → Ends limit m p k l
  going-ends l t = standing-ends limit m n p k g.latest g.stands l t

  -- no solution is left
  pub going-end : {A : Type 0} (r : A) (l : Last) → Turns limit k n p (Ok (Some l)) → Prints {A = A} (solution_texts (objective m.core) names vs 0 (found_of limit m)) old mid before between (Ok r)
  going-end r l t = sofar-end (objective m.core) names vs (found_of limit m) r (left_of limit m k) shown old mid before between (going-ends l t).none g.sofar

  pub going-count : (l : Last) → Turns limit k n p (Ok (Some l)) → shown ≡ count_from 0 (found_of limit m)
  going-count l t = count-end (objective m.core) names vs (found_of limit m) (left_of limit m k) shown old mid before between (going-ends l t).none g.sofar

  pub going-memory : {A : Type 0} → Prints {A = A} (solution_texts (objective m.core) names vs 0 (found_of limit m)) old mid before between (Err OutOfMemory)
  going-memory = sofar-memory (objective m.core) names vs (found_of limit m) (left_of limit m k) shown old mid before between g.sofar
