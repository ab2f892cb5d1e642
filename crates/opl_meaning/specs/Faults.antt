-- What is made of a model with its data: a value, or the first fault.
use Rattle.std.specs.Prelude.{◌≡◌, Result, Ok, Err}
use Rattle.opl_eval.specs.Evaluation.{Found}
use Rattle.opl_meaning.specs.declared.fault.MeaningFault.{MeaningFault}
use Rattle.opl_meaning.specs.declared.fault.MeaningFault.TheVariants.{Eval, TooManyVariables, TooFar, TooWide, TooManyValues, OutOfMemory}

-- a value, or the first fault
abbrev pub Made : Type 0 → Type 0
Made A = Result A MeaningFault

abbrev pub then : {A B : Type 0} → Made A → (A → Made B) → Made B
then (Ok a) next = next a
then (Err fault) next = Err fault

-- a function of what is made
abbrev pub found : {A B : Type 0} → (A → B) → Made A → Made B
found f a = then a (λ x. Ok (f x))

-- what is found by evaluation
abbrev pub evaluated : {A : Type 0} → Found A → Made A
evaluated (Ok a) = Ok a
evaluated (Err fault) = Err (Eval fault)

-- what a function answers that makes something, unless memory fails
abbrev pub Gives : {A B : Type 0} → (B → A) → Made A → Result B MeaningFault → Type 0
Gives reading made (Ok b) = made ≡ Ok (reading b)
Gives reading made (Err OutOfMemory) = Unit {0}
Gives reading made (Err (Eval fault)) = made ≡ Err (Eval fault)
Gives reading made (Err (TooManyVariables at)) = made ≡ Err (TooManyVariables at)
Gives reading made (Err (TooFar at)) = made ≡ Err (TooFar at)
Gives reading made (Err (TooWide at)) = made ≡ Err (TooWide at)
Gives reading made (Err (TooManyValues at)) = made ≡ Err (TooManyValues at)

-- a function that answers what is made itself
abbrev pub Makes : {A : Type 0} → Made A → Result A MeaningFault → Type 0
Makes made result = Gives (λ a. a) made result

-- what a function does that only memory can stop
abbrev pub Does : {A : Type 0} → (A → Type 0) → Result A MeaningFault → Type 0
Does fact (Ok a) = fact a
Does fact (Err e) = e ≡ OutOfMemory
