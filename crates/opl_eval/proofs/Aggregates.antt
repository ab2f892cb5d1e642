-- What is gathered is what the definitions make of all values.
use Rattle.std.proofs.Common.{◌≡◌, ◌≢◌, ℕ, ℤ, List, [], ◌∷◌, ◌++◌, map, fold, Option, None, Some, Ok, Err, refl, ap, subst, sym, ◌∙◌}
use Rattle.std.specs.Prelude.{IfNone, IfSome}
use Rattle.std.proofs.lemmas.List.{append-nil}
use Rattle.std.specs.Int.{int_min, int_max}
use Rattle.opl_tree.specs.declared.expression.AggregateOp.{AggregateOp}
use Rattle.opl_tree.specs.declared.expression.AggregateOp.TheVariants as operations
use Rattle.opl_value.specs.declared.value.Value.{Value}
use Rattle.opl_eval.specs.declared.arithmetic.Operation.TheVariants as steps
use Rattle.opl_eval.specs.declared.fault.EvalFault.{EvalFault}
use Rattle.opl_eval.specs.declared.fault.EvalFault.TheVariants.{OutOfMemory}
use Rattle.opl_eval.specs.declared.gather.Gathered.{Gathered}
use Rattle.opl_eval.specs.declared.gather.Gathered.TheVariants as made
use Rattle.opl_eval.specs.Arithmetic.{then, run, plus, times}
use Rattle.opl_eval.specs.Compare.{number}
use Rattle.opl_eval.specs.Evaluation.{Environment, Found, eval, aggregate, integer}
use Rattle.opl_eval.specs.declared.turns.Ahead.{Ahead}
use Rattle.opl_eval.specs.declared.turns.Ahead.TheVariants as ahead
use Rattle.opl_eval.specs.declared.turns.Turn.{Turn}
use Rattle.opl_eval.specs.Gathered.{Passes, nothing, outcome, put, values, with_more}
use Rattle.opl_eval.specs.Turns.{GoesOn, Inner, ahead_in, both, pending, still, under}
use Rattle.opl_eval.specs.declared.evaluate.Visit.{Visit}
use Rattle.opl_eval.specs.Visits.{bodies_at, bodies_in, bodies_of}
use Rattle.opl_term.specs.declared.term.GroupTerm.{GroupTerm}
use Rattle.opl_term.specs.declared.term.Term.{Term}
use Rattle.opl_term.specs.declared.term.Term.TheVariants as terms
use Rattle.opl_eval.proofs.Evals.{eval-Aggregate}
use Rattle.opl_eval.proofs.Pending.{none-behind}
use Rattle.opl_eval.proofs.Loops.{append-one, found-fault}

ok-same : {A : Type 0} (a b : A) → ◌≡◌ {A = Found A} (Ok a) (Ok b) → a ≡ b
ok-same a b h = cc

-- ---- one after another

put-more : (g : Gathered) (xs ys : List Value) → fold put g (xs ++ ys) ≡ fold put (fold put g xs) ys
put-more g [] ys = refl
put-more g (x ∷ xs) ys = put-more (put g x) xs ys

pub more-both : (g h : Gathered) (r q s : Found (List Value)) → with_more g r ≡ with_more h q → with_more g (both r s) ≡ with_more h (both q s)
more-both g h (Ok xs) (Ok ys) (Ok zs) e = ap (λ k. Ok k) (put-more g xs zs ∙ ap (λ k. fold put k zs) (ok-same _ _ e) ∙ sym (put-more h ys zs))
more-both g h (Ok xs) (Ok ys) (Err d) e = refl
more-both g h (Ok xs) (Err d) s e = cc
more-both g h (Err d) (Ok ys) s e = cc
more-both g h (Err d) (Err c) s e = e

pub more-fault : (g : Gathered) (r : Found (List Value)) (e : EvalFault) → with_more g r ≡ Err e → r ≡ Err e
more-fault g r e h = found-fault (fold put g) r e h

pub err-both : (r s : Found (List Value)) (e : EvalFault) → (e ≢ OutOfMemory → r ≡ Err e) → e ≢ OutOfMemory → both r s ≡ Err e
err-both r s e h n = ap (λ q. both q s) (h n)

pub err-same : (r s : Found (List Value)) (e : EvalFault) → r ≡ s → (e ≢ OutOfMemory → s ≡ Err e) → e ≢ OutOfMemory → r ≡ Err e
err-same r s e k h n = k ∙ h n

pub err-more : (g h : Gathered) (whole rest : Found (List Value)) (e : EvalFault) → with_more g whole ≡ with_more h rest → (e ≢ OutOfMemory → rest ≡ Err e) → e ≢ OutOfMemory → whole ≡ Err e
err-more g h whole rest e k f n = more-fault g whole e (k ∙ ap (with_more h) (f n))

-- all is found by what is ahead at the start
pub begins : (v : Visit) (names env : Environment) (ts : List Turn) → env ≡ names → ts ≡ [] → bodies_of v names ≡ pending (bodies_at v) env (ahead.Groups 0) ts
begins v names env ts e h =
    ap (bodies_of v) (sym e) ∙ sym (none-behind (bodies_of v env)) ∙ ap (pending (bodies_at v) env (ahead.Groups 0)) (sym h)

-- a group's elements are found, or a body is gathered
pub passes-groups : (inner : Inner) (env : Environment) (g h : Gathered) (old same : List Turn) (before next : Ahead) (place : ℕ) → before ≡ ahead.Groups place → same ≡ old →
    with_more g (inner place (under env same)) ≡ with_more h (ahead_in inner next (under env same)) → with_more g (pending inner env before old) ≡ with_more h (pending inner env next old)
passes-groups inner env g h old same before next place e k m =
    ap (λ a. with_more g (pending inner env a old)) e
    ∙ more-both g h (inner place (under env old)) (ahead_in inner next (under env old)) (still inner env (Ok []) old)
    (subst (λ ts. with_more g (inner place (under env ts)) ≡ with_more h (ahead_in inner next (under env ts))) k m)

-- the latest turn is gone back to, if there is one
pub passes-back : (inner : Inner) (env : Environment) (g : Gathered) (old new : List Turn) (before : Ahead) (r : Option Ahead) → before ≡ ahead.Back → IfNone r (old ≡ []) → IfSome r (λ next. GoesOn ahead.Back old next new) →
    Passes (λ next. pending inner env next new) (pending inner env before old) g g (Ok r)
passes-back inner env g old new before None e h k = ap (λ a. with_more g (pending inner env a old)) e ∙ ap (λ ts. with_more g (pending inner env ahead.Back ts)) h
passes-back inner env g old new before (Some next) e h k = ap (λ a. with_more g (pending inner env a old)) e ∙ ap (with_more g) (k inner env)

-- ---- lists

listed : (us vs : List Value) → fold put (made.Listed us) vs ≡ made.Listed (us ++ vs)
listed us [] = ap made.Listed (sym (append-nil us))
listed us (v ∷ vs) = listed (us ++ v ∷ []) vs ∙ ap made.Listed (sym (append-one us v vs))

pub listed-found : (r : Found (List Value)) (g : Gathered) → with_more (made.Listed []) r ≡ Ok g → r ≡ Ok (values g)
listed-found (Ok vs) g h = ap (λ k. Ok (values k)) (sym (listed [] vs) ∙ ok-same _ _ h)
listed-found (Err e) g h = cc

-- ---- aggregates

summed : (at : ℕ) (total : Found ℤ) (vs : List Value) → fold put (made.Sum at total) vs ≡ made.Sum at (then total (λ n. run at n (map steps.Plus (map number vs))))
summed at (Ok n) [] = refl
summed at (Err e) [] = refl
summed at (Ok n) (v ∷ vs) = summed at (plus at n (number v)) vs
summed at (Err e) (v ∷ vs) = summed at (Err e) vs

multiplied : (at : ℕ) (total : Found ℤ) (vs : List Value) → fold put (made.Product at total) vs ≡ made.Product at (then total (λ n. run at n (map steps.Times (map number vs))))
multiplied at (Ok n) [] = refl
multiplied at (Err e) [] = refl
multiplied at (Ok n) (v ∷ vs) = multiplied at (times at n (number v)) vs
multiplied at (Err e) (v ∷ vs) = multiplied at (Err e) vs

least : (n : ℤ) (vs : List Value) → fold put (made.Least (Some n)) vs ≡ made.Least (Some (fold int_min n (map number vs)))
least n [] = refl
least n (v ∷ vs) = least (int_min n (number v)) vs

greatest : (n : ℤ) (vs : List Value) → fold put (made.Greatest (Some n)) vs ≡ made.Greatest (Some (fold int_max n (map number vs)))
greatest n [] = refl
greatest n (v ∷ vs) = greatest (int_max n (number v)) vs

aggregated : (op : AggregateOp) (at : ℕ) (vs : List Value) → aggregate op at (map number vs) ≡ outcome at (fold put (nothing op at) vs)
aggregated operations.Sum at vs = ap (outcome at) (sym (summed at _ vs))
aggregated operations.Product at vs = ap (outcome at) (sym (multiplied at _ vs))
aggregated operations.Min at [] = refl
aggregated operations.Min at (v ∷ vs) = ap (outcome at) (sym (least (number v) vs))
aggregated operations.Max at [] = refl
aggregated operations.Max at (v ∷ vs) = ap (outcome at) (sym (greatest (number v) vs))

pub aggregate-found : (op : AggregateOp) (at : ℕ) (r : Found (List Value)) (g : Gathered) → with_more (nothing op at) r ≡ Ok g → then r (λ vs. integer (aggregate op at (map number vs))) ≡ integer (outcome at g)
aggregate-found op at (Ok vs) g h = ap integer (aggregated op at vs ∙ ap (outcome at) (ok-same _ _ h))
aggregate-found op at (Err e) g h = cc

pub aggregate-is : (at : ℕ) (op : AggregateOp) (gs : List GroupTerm) (c : Option Term) (t : Term) (env : Environment) (g : Gathered) → with_more (nothing op at) (bodies_in gs c t env) ≡ Ok g → eval (terms.Aggregate at op gs c t) env ≡ integer (outcome at g)
aggregate-is at op gs c t env g h = eval-Aggregate at op gs c t env ∙ aggregate-found op at (bodies_in gs c t env) g h

pub aggregate-fault : (at : ℕ) (op : AggregateOp) (gs : List GroupTerm) (c : Option Term) (t : Term) (env : Environment) (r : Found (List Value)) (e : EvalFault) → bodies_in gs c t env ≡ r → (e ≢ OutOfMemory → r ≡ Err e) → e ≢ OutOfMemory → eval (terms.Aggregate at op gs c t) env ≡ Err e
aggregate-fault at op gs c t env r e k h n = eval-Aggregate at op gs c t env ∙ ap (λ q. then q (λ vs. integer (aggregate op at (map number vs)))) (k ∙ h n)
