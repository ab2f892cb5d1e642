-- What evaluation finds, as it is found for a declaration.
use Rattle.std.proofs.Common.{◌≡◌, ◌≢◌, [], Err, refl, ap}
use Rattle.opl_eval.specs.declared.environment.Environment.{Environment}
use Rattle.opl_eval.specs.declared.fault.EvalFault.{EvalFault}
use Rattle.opl_eval.specs.declared.fault.EvalFault.TheVariants as eval
use Rattle.opl_eval.specs.Evaluation.{Found}
use Rattle.opl_eval.specs.Visible.{seen, within}
use Rattle.opl_bind.specs.Dimensions.{evaluated, fault_of}
use Rattle.opl_given.specs.Faults.{Gives}

-- without parameters
pub within-none : (env : Environment) → within env [] ≡ seen env
unfolding within seen
within-none env = refl

-- the fault of an expression
pub fault_given : {A B : Type 0} (reading : B → A) (f : Found A) (e : EvalFault) → (e ≢ eval.OutOfMemory → f ≡ Err e) → Gives reading (evaluated f) (Err (fault_of e))
fault_given reading f eval.OutOfMemory h = tt
fault_given reading f (eval.DivByZero at) h = ap evaluated (h (λ e. cc))
fault_given reading f (eval.OutOfIndex at) h = ap evaluated (h (λ e. cc))
fault_given reading f (eval.TooLarge at) h = ap evaluated (h (λ e. cc))
fault_given reading f (eval.EmptyMinMax at) h = ap evaluated (h (λ e. cc))

pub ruleset evaluations = (within-none, fault_given)
