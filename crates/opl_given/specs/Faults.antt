-- What is found while a model's data are bound: a value, or the first fault.
use Rattle.std.specs.Prelude.{◌≡◌, Bool, cond, List, [], ◌∷◌, ◌++◌, Result, Ok, Err}
use Rattle.opl_given.specs.declared.fault.BindFault.{BindFault}
use Rattle.opl_given.specs.declared.fault.BindFault.TheVariants.{Given, Twice, Missing, Shape, Outside, Override, Eval, OutOfMemory}

-- a value, or the first fault
abbrev pub Bound : Type 0 → Type 0
Bound A = Result A BindFault

-- what is done with a value, if there is one, or the fault that stands for it
abbrev pub then : {A B : Type 0} → Bound A → (A → Bound B) → Bound B
then (Ok a) next = next a
then (Err fault) next = Err fault

-- a function of what is found
abbrev pub found : {A B : Type 0} → (A → B) → Bound A → Bound B
found f a = then a (λ x. Ok (f x))

-- where this holds, what comes next, else a fault
abbrev pub provided : {A : Type 0} → Bool → BindFault → Bound A → Bound A
provided holds fault next = cond holds next (Err fault)

-- what a function answers that finds something, unless memory fails
abbrev pub Gives : {A B : Type 0} → (B → A) → Bound A → Result B BindFault → Type 0
Gives reading bound (Ok b) = bound ≡ Ok (reading b)
Gives reading bound (Err OutOfMemory) = Unit {0}
Gives reading bound (Err (Given name)) = bound ≡ Err (Given name)
Gives reading bound (Err (Twice name)) = bound ≡ Err (Twice name)
Gives reading bound (Err (Missing name)) = bound ≡ Err (Missing name)
Gives reading bound (Err (Shape file at)) = bound ≡ Err (Shape file at)
Gives reading bound (Err (Outside file at)) = bound ≡ Err (Outside file at)
Gives reading bound (Err (Override name)) = bound ≡ Err (Override name)
Gives reading bound (Err (Eval fault)) = bound ≡ Err (Eval fault)

-- a function that answers what is found itself, unless memory fails
abbrev pub Binds : {A : Type 0} → Bound A → Result A BindFault → Type 0
Binds bound result = Gives (λ a. a) bound result

-- what a function does that only memory can stop
abbrev pub Does : {A : Type 0} → (A → Type 0) → Result A BindFault → Type 0
Does fact (Ok a) = fact a
Does fact (Err e) = e ≡ OutOfMemory
