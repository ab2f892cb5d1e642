-- Lines that are told in part.
use Rattle.std.proofs.Common.{◌≡◌, ◌<◌, ◌-◌, ℕ, zero, suc, List, [], ◌∷◌, get_or, Option, Err, inl, inr, refl, arith}
use Rattle.opl_outside.specs.Counts.{Counts}
use Rattle.opl_outside.specs.Written.{Puts}
use Rattle.opl_outside.specs.declared.error.OutsideError.{OutsideError}
use Rattle.opl_outside.specs.declared.error.OutsideError.TheVariants.{Failed}
use Rattle.opl_tool.specs.declared.answer.Answer.{Answer}
use Rattle.opl_tool.specs.declared.answer.Answer.TheVariants.{OutOfMemory}
use Rattle.opl_tool.specs.Lines.{Tells}
use Rattle.opl_outside.proofs.Becomes.{becomes_same, becomes_so}
use Rattle.opl_solve.proofs.PrintingLemmas.{front_put}

failed_tells : (old new : Option (List ℕ)) (before now : ℕ) (line : List ℕ) (answer : Answer) → Puts {A = Unit {0}} old new line (Err Failed) →
    Counts {A = Unit {0}} before now (Err Failed) → Tells old new before now line answer answer
failed_tells old new before now line answer p rose = inl (refl, becomes_so old new _ _ (λ x y h. inr (rose, front_put line x y h)) p)

pub failed-tells : (old new : Option (List ℕ)) (before now : ℕ) (line : List ℕ) (answer : Answer) (e : OutsideError) → e ≡ Failed →
    Puts {A = Unit {0}} old new line (Err e) → Counts {A = Unit {0}} before now (Err e) → Tells old new before now line answer answer
failed-tells old new before now line answer e is p c = failed_tells old new before now line answer (rw is at p) (rw is at c)

-- nothing is told where memory is wanting
pub nothing-tells : (o : Option (List ℕ)) (f : ℕ) (line : List ℕ) (answer : Answer) → Tells o o f f line answer OutOfMemory
nothing-tells o f line answer = inr (refl, becomes_same o _ (λ x. refl))

-- the data files follow the model's
pub behind-first : (model : List ℕ) (names : List (List ℕ)) (file : ℕ) → 0 < file → get_or names (file - 1) [] ≡ get_or (model ∷ names) file []
behind-first model names zero h = absurd (omega arith)
behind-first model names (suc n) h = let same : suc n - 1 ≡ n = omega arith in rw same refl
