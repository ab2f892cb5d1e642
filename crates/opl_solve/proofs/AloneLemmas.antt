-- A solution that is shown as the only one.
use Rattle.std.proofs.Common.{◌≡◌, refl, sym, ℕ, List, [], ◌∷◌, ℤ, Option, Some, None, Ok, Err}
use Rattle.std.proofs.lemmas.List.{append-nil}
use Rattle.opl_meaning.specs.declared.variable.VariableItem.{VariableItem}
use Rattle.opl_outside.specs.declared.error.OutsideError.{OutsideError}
use Rattle.opl_show.specs.Texts.{Enumerations, solution_text}
use Rattle.opl_trace.specs.Objective.{Objective}
use Rattle.opl_solve.specs.Printing.{Prints}
use Rattle.opl_solve.specs.Texts.{alone, goal_value, solution_texts, value_of}
use Rattle.opl_outside.proofs.Becomes.{becomes_same}
use Rattle.opl_solve.proofs.PrintingLemmas.{prints-as, stops-as}

module _ (names : Enumerations) (items : List VariableItem) (goal : Option Objective) where
  alone_text : (a : List ℤ) (value : Option ℤ) → value ≡ goal_value goal a → solution_text names items 1 a value ≡ solution_texts goal names items 0 (a ∷ [])
  unfolding solution_texts
  alone_text a value e = rw e (sym (append-nil (solution_text names items 1 a (goal_value goal a))))

  module _ (a b : List ℤ) (value : Option ℤ) (old new : Option (List ℕ)) (before now : ℕ) (e : value ≡ value_of goal (Some a)) (f : b ≡ a) where
    pub alone-shown : {A B : Type 0} (x : A) (y : B) → Prints {A = A} (solution_text names items 1 b value) old new before now (Ok x) →
        Prints {A = B} (solution_texts goal names items 0 (alone (Some a))) old new before now (Ok y)
    alone-shown x y p = prints-as _ old new before now x y (rw (f, alone_text a value e) at p)

    pub alone-stopped : {A B : Type 0} (stop : OutsideError) → Prints {A = A} (solution_text names items 1 b value) old new before now (Err stop) →
        Prints {A = B} (solution_texts goal names items 0 (alone (Some a))) old new before now (Err stop)
    alone-stopped stop p = stops-as _ old new before now stop (rw (f, alone_text a value e) at p)

  pub none-shown : {A : Type 0} (x : A) (o : Option (List ℕ)) (f : ℕ) → Prints {A = A} (solution_texts goal names items 0 (alone None)) o o f f (Ok x)
  unfolding solution_texts
  none-shown x o f = record { written = becomes_same o _ (λ bytes. sym (append-nil bytes)); faults = refl }
