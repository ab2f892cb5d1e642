-- The whole text is the solutions and the closing lines.
use Rattle.std.proofs.Common.{◌≡◌, refl, ℕ, ℤ, List, Option, Ok, Err}
use Rattle.opl_meaning.specs.declared.variable.VariableItem.{VariableItem}
use Rattle.opl_outside.specs.declared.error.OutsideError.{OutsideError}
use Rattle.opl_show.specs.declared.ending.Last.{Last}
use Rattle.opl_show.specs.Texts.{Enumerations, closing}
use Rattle.opl_trace.specs.Objective.{Objective}
use Rattle.opl_trace.specs.Run.{Out}
use Rattle.opl_solve.specs.declared.show.Showing.{Showing}
use Rattle.opl_solve.specs.Printing.{Prints}
use Rattle.opl_solve.specs.Texts.{best_of, choices_made, closing_of, count_from, ending, found, search_text, shown_of, solution_texts}
use Rattle.opl_solve.proofs.PrintingLemmas.{prints-both, prints-first, prints-second}

module _ (goal : Option Objective) (names : Enumerations) (items : List VariableItem) (showing : Showing) (out : Out) (old mid new : Option (List ℕ)) (before between now : ℕ) where
  -- the closing lines, by what they tell
  module _ (shown made told : ℕ) (best value : Option ℤ) (last : Last) (s : shown ≡ count_from 0 (shown_of showing out)) (t : told ≡ made) (m : made ≡ choices_made showing.limit out) (v : value ≡ best) (b : best ≡ best_of goal (found showing.limit out)) (e : last ≡ ending showing.limit out) where
    closing_is : closing shown told value last ≡ closing_of goal showing out
    closing_is = rw (s, t, m, v, b, e) refl

    pub search-both : {A B C : Type 0} (a : A) (b : B) (c : C) → Prints {A = A} (solution_texts goal names items 0 (shown_of showing out)) old mid before between (Ok a) →
        Prints {A = B} (closing shown told value last) mid new between now (Ok b) → Prints {A = C} (search_text goal names items showing out) old new before now (Ok c)
    unfolding search_text
    search-both a b c p q = prints-both _ _ old mid new before between now a b c p (rw closing_is at q)

    pub search-second : {A B C : Type 0} (a : A) (stop : OutsideError) → Prints {A = A} (solution_texts goal names items 0 (shown_of showing out)) old mid before between (Ok a) →
        Prints {A = B} (closing shown told value last) mid new between now (Err stop) → Prints {A = C} (search_text goal names items showing out) old new before now (Err stop)
    unfolding search_text
    search-second a stop p q = prints-second _ _ old mid new before between now a stop p (rw closing_is at q)

pub search-first : {A C : Type 0} (goal : Option Objective) (names : Enumerations) (items : List VariableItem) (showing : Showing) (out : Out) (old new : Option (List ℕ)) (before now : ℕ) (stop : OutsideError) →
    Prints {A = A} (solution_texts goal names items 0 (shown_of showing out)) old new before now (Err stop) → Prints {A = C} (search_text goal names items showing out) old new before now (Err stop)
unfolding search_text
search-first goal names items showing out old new before now stop p = prints-first _ _ old new before now stop p
