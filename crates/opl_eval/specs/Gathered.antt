-- What is made of values, one after another: their list, or an aggregate of their numbers.
use Rattle.std.specs.Prelude.{◌≢◌, ◌≡◌, ℕ, ℤ, pos, List, [], ◌∷◌, ◌++◌, Option, Some, None, Result, Ok, Err, fold}
use Rattle.std.specs.Int.{int_min, int_max}
use Rattle.opl_tree.specs.declared.expression.AggregateOp.{AggregateOp}
use Rattle.opl_tree.specs.declared.expression.AggregateOp.TheVariants as operations
use Rattle.opl_value.specs.declared.value.Value.{Value}
use Rattle.opl_eval.specs.declared.fault.EvalFault.{EvalFault}
use Rattle.opl_eval.specs.declared.fault.EvalFault.TheVariants.{EmptyMinMax, OutOfMemory}
use Rattle.opl_eval.specs.declared.gather.Gathered.{Gathered}
use Rattle.opl_eval.specs.declared.gather.Gathered.TheVariants.{Listed, Sum, Product, Least, Greatest}
use Rattle.opl_eval.specs.Arithmetic.{then, plus, times}
use Rattle.opl_eval.specs.Compare.{number}
use Rattle.opl_eval.specs.Evaluation.{Found, found}

abbrev pub lesser : Option ℤ → ℤ → ℤ
lesser None n = n
lesser (Some m) n = int_min m n

abbrev pub greater : Option ℤ → ℤ → ℤ
greater None n = n
greater (Some m) n = int_max m n

-- with one more value
abbrev pub put : Gathered → Value → Gathered
put (Listed vs) v = Listed (vs ++ v ∷ [])
put (Sum at total) v = Sum at (then total (λ n. plus at n (number v)))
put (Product at total) v = Product at (then total (λ n. times at n (number v)))
put (Least m) v = Least (Some (lesser m (number v)))
put (Greatest m) v = Greatest (Some (greater m (number v)))

-- an aggregate of no values
abbrev pub nothing : AggregateOp → ℕ → Gathered
nothing operations.Sum at = Sum at (Ok (pos 0))
nothing operations.Product at = Product at (Ok (pos 1))
nothing operations.Min at = Least None
nothing operations.Max at = Greatest None

abbrev pub any : ℕ → Option ℤ → Found ℤ
any at None = Err (EmptyMinMax at)
any at (Some n) = Ok n

-- what an aggregate comes to
abbrev pub outcome : ℕ → Gathered → Found ℤ
outcome at (Listed vs) = Ok (pos 0)
outcome at (Sum place total) = total
outcome at (Product place total) = total
outcome at (Least m) = any at m
outcome at (Greatest m) = any at m

-- the values of a list
abbrev pub values : Gathered → List Value
values (Listed vs) = vs
values (Sum place total) = []
values (Product place total) = []
values (Least m) = []
values (Greatest m) = []

-- with what is found more
abbrev pub with_more : Gathered → Found (List Value) → Found Gathered
with_more g more = found (fold put g) more

-- what a function answers that gathers what is found
abbrev pub Gathers : Found (List Value) → Gathered → Gathered → Result (Unit {0}) EvalFault → Type 0
Gathers more before after (Ok u) = with_more before more ≡ Ok after
Gathers more before after (Err e) = e ≢ OutOfMemory → more ≡ Err e

-- what a function answers that gathers a part of what is found, and says what is ahead, if anything
abbrev pub Passes : {A : Type 0} → (A → Found (List Value)) → Found (List Value) → Gathered → Gathered → Result (Option A) EvalFault → Type 0
Passes more all before after (Ok (Some next)) = with_more before all ≡ with_more after (more next)
Passes more all before after (Ok None) = with_more before all ≡ Ok after
Passes more all before after (Err e) = e ≢ OutOfMemory → all ≡ Err e
