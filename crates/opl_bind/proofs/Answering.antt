-- What a function answers where what it finds is written in another way.
use Rattle.std.proofs.Common.{◌≡◌, Result, Ok, Err, sym, subst}
use Rattle.opl_given.specs.declared.fault.BindFault.{BindFault}
use Rattle.opl_given.specs.Faults.{Bound, Does, Gives}

pub gives_same : {A B : Type 0} (reading : B → A) (a b : Bound A) (r : Result B BindFault) → a ≡ b → Gives reading b r → Gives reading a r
gives_same reading a b r e h = subst (λ x. Gives reading x r) (sym e) h

-- what is done meets also what follows from what it meets
pub does_more : {A : Type 0} (f g : A → Type 0) (r : Result A BindFault) → ((a : A) → f a → g a) → Does f r → Does g r
does_more f g (Ok a) h d = h a d
does_more f g (Err e) h d = d
