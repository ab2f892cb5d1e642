-- What is shown so far, and what is left to be shown.
use Rattle.std.proofs.Common.{◌≡◌, refl, sym, ap, ◌∙◌, ℕ, List, [], ◌∷◌, ◌++◌, append_assoc, ℤ, Option, Ok, Err}
use Rattle.std.proofs.lemmas.List.{append-nil}
use Rattle.opl_outside.specs.Becomes.{Becomes}
use Rattle.opl_outside.specs.declared.error.OutsideError.{OutsideError}
use Rattle.opl_outside.specs.declared.error.OutsideError.TheVariants.{OutOfMemory}
use Rattle.opl_meaning.specs.declared.variable.VariableItem.{VariableItem}
use Rattle.opl_show.specs.Texts.{Enumerations, solution_text}
use Rattle.opl_solve.specs.Printing.{GainsFront, Prints}
use Rattle.opl_trace.specs.Objective.{Objective}
use Rattle.opl_solve.specs.Texts.{solution_texts, count_from, counted, goal_value}
use Rattle.opl_outside.proofs.Becomes.{becomes_same, becomes_so, becomes_then}
use Rattle.opl_solve.proofs.PrintingLemmas.{counts_after, same_stop}

module _ (goal : Option Objective) (names : Enumerations) (vs : List VariableItem) (all : List (List ℤ)) where
  -- bytes that have gained the texts of the solutions shown so far
  pub record Gained (left : List (List ℤ)) (shown : ℕ) (before now : List ℕ) : Type 0 where
    pub done : List ℕ
    pub gained : now ≡ before ++ done
    pub whole : done ++ solution_texts goal names vs shown left ≡ solution_texts goal names vs 0 all

  -- so many are shown of all solutions, and these are left
  pub record SoFar (left : List (List ℤ)) (shown : ℕ) (old new : Option (List ℕ)) (before now : ℕ) : Type 0 where
    pub written : Becomes old new (Gained left shown)
    pub count : count_from shown left ≡ count_from 0 all
    pub faults : now ≡ before

  pub sofar-start : (o : Option (List ℕ)) (f : ℕ) → SoFar all 0 o o f f
  sofar-start o f = record {
    written = becomes_same o _ (λ x. record { done = []; gained = sym (append-nil x); whole = refl });
    count = refl;
    faults = refl;
  }

  -- one solution, and those behind it
  module _ (left rest : List (List ℤ)) (a : List ℤ) (shown n : ℕ) (first : left ≡ a ∷ rest) (next : n ≡ counted shown) where
    texts_split : solution_text names vs n a (goal_value goal a) ++ solution_texts goal names vs n rest ≡ solution_texts goal names vs shown left
    unfolding solution_texts
    texts_split = rw (first, next) refl

    count_split : count_from n rest ≡ count_from shown left
    unfolding count_from
    count_split = rw (first, next) refl

    gained_then : (x y z : List ℕ) → Gained left shown x y → z ≡ y ++ solution_text names vs n a (goal_value goal a) → Gained rest n x z
    gained_then x y z s g = record {
      done = s.done ++ solution_text names vs n a (goal_value goal a);
      gained = g ∙ ap (λ t. t ++ solution_text names vs n a (goal_value goal a)) s.gained ∙ append_assoc x s.done (solution_text names vs n a (goal_value goal a));
      whole = append_assoc s.done (solution_text names vs n a (goal_value goal a)) (solution_texts goal names vs n rest) ∙ ap (λ t. s.done ++ t) texts_split ∙ s.whole;
    }

    gained_front : (x y z : List ℕ) → Gained left shown x y → GainsFront y z (solution_text names vs n a (goal_value goal a)) → GainsFront x z (solution_texts goal names vs 0 all)
    gained_front x y z s g = record {
      front = s.done ++ g.front;
      rest = g.rest ++ solution_texts goal names vs n rest;
      gained = g.gained ∙ ap (λ t. t ++ g.front) s.gained ∙ append_assoc x s.done g.front;
      whole = append_assoc s.done g.front _
          ∙ ap (λ t. s.done ++ t) (sym (append_assoc g.front g.rest _) ∙ ap (λ t. t ++ solution_texts goal names vs n rest) g.whole ∙ texts_split)
          ∙ s.whole;
    }

    -- it is shown
    pub sofar-step : (u : Unit {0}) (old mid new : Option (List ℕ)) (before between now : ℕ) → SoFar left shown old mid before between →
        Prints {A = Unit {0}} (solution_text names vs n a (goal_value goal a)) mid new between now (Ok u) → SoFar rest n old new before now
    sofar-step u old mid new before between now s p = record {
      written = becomes_then old mid new _ _ _ gained_then s.written p.written;
      count = count_split ∙ s.count;
      faults = p.faults ∙ s.faults;
    }

    -- printing stopped at it
    pub sofar-stop : {A : Type 0} (stop : OutsideError) (old mid new : Option (List ℕ)) (before between now : ℕ) → SoFar left shown old mid before between →
        Prints {A = Unit {0}} (solution_text names vs n a (goal_value goal a)) mid new between now (Err stop) → Prints {A = A} (solution_texts goal names vs 0 all) old new before now (Err stop)
    sofar-stop {A = A} stop old mid new before between now s p = record {
      written = becomes_then old mid new _ _ _ gained_front s.written p.written;
      faults = counts_after A stop before between now s.faults (same_stop (Unit {0}) A stop between now p.faults);
    }

  gained_all : (left : List (List ℤ)) (shown : ℕ) (x y : List ℕ) → left ≡ [] → Gained left shown x y → y ≡ x ++ solution_texts goal names vs 0 all
  unfolding solution_texts
  gained_all left shown x y none s = s.gained ∙ ap (λ t. x ++ t) (sym (append-nil s.done) ∙ ap (λ l. s.done ++ solution_texts goal names vs shown l) (sym none) ∙ s.whole)

  -- nothing is left
  pub sofar-end : {A : Type 0} (r : A) (left : List (List ℤ)) (shown : ℕ) (old new : Option (List ℕ)) (before now : ℕ) → left ≡ [] → SoFar left shown old new before now →
      Prints {A = A} (solution_texts goal names vs 0 all) old new before now (Ok r)
  sofar-end r left shown old new before now none s =
      record { written = becomes_so old new _ _ (λ x y. gained_all left shown x y none) s.written; faults = s.faults }

  pub count-end : (left : List (List ℤ)) (shown : ℕ) (old new : Option (List ℕ)) (before now : ℕ) → left ≡ [] → SoFar left shown old new before now → shown ≡ count_from 0 all
  unfolding count_from
  count-end left shown old new before now none s = ap (count_from shown) (sym none) ∙ s.count

  gained_some : (left : List (List ℤ)) (shown : ℕ) (x y : List ℕ) → Gained left shown x y → GainsFront x y (solution_texts goal names vs 0 all)
  gained_some left shown x y s = record { front = s.done; rest = solution_texts goal names vs shown left; gained = s.gained; whole = s.whole }

  -- memory is wanting
  pub sofar-memory : {A : Type 0} (left : List (List ℤ)) (shown : ℕ) (old new : Option (List ℕ)) (before now : ℕ) → SoFar left shown old new before now →
      Prints {A = A} (solution_texts goal names vs 0 all) old new before now (Err OutOfMemory)
  sofar-memory left shown old new before now s = record { written = becomes_so old new _ _ (gained_some left shown) s.written; faults = s.faults }
