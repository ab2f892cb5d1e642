-- Expressions whose value is a number, or a truth value, whatever they are made of.
use Rattle.std.proofs.Common.{◌≡◌, ℕ, ℤ, Bool, true, false, List, map, Option, None, Some, Ok, Err, refl, sym, ap, ◌∙◌}
use Rattle.opl_tree.specs.declared.expression.AggregateOp.{AggregateOp}
use Rattle.opl_tree.specs.declared.expression.CallOp.{CallOp}
use Rattle.opl_tree.specs.declared.expression.Relation.{Relation}
use Rattle.opl_term.specs.declared.term.GroupTerm.{GroupTerm}
use Rattle.opl_term.specs.declared.term.GroupTerm.TheOpen.{Term-F}
use Rattle.opl_term.specs.declared.term.GroupTerm.TheViews.{out-Term}
use Rattle.opl_term.specs.declared.term.SetTerm.{SetTerm}
use Rattle.opl_term.specs.declared.term.Step.{Step}
use Rattle.opl_term.specs.declared.term.Term.{Term}
use Rattle.opl_term.specs.declared.term.Term.TheVariants as terms
use Rattle.opl_value.specs.declared.value.Value.{Value}
use Rattle.opl_value.specs.declared.value.Value.TheVariants as values
use Rattle.opl_eval.specs.declared.arithmetic.Operation.{Operation}
use Rattle.opl_eval.specs.Arithmetic.{run, then}
use Rattle.opl_eval.specs.Compare.{number}
use Rattle.opl_eval.specs.Evaluation.{Environment, Found, aggregate, all, bodies, eval, group_meaning, integer, meaning, step_meaning, truth}
use Rattle.opl_eval.proofs.Meanings.{meaning-Number, meaning-Negative, meaning-Chain, meaning-Related, meaning-Member, meaning-Equivalent, meaning-Implied, meaning-Or, meaning-And, meaning-Not, meaning-Aggregate, meaning-Aggregate_where, meaning-Call, meaning-AllDifferent}

-- what is found at the end was found on the way
pub went : {A B : Type 0} (c : Found A) (f : A → Found B) (b : B) → then c f ≡ Ok b → (a : A) × (c ≡ Ok a) × (f a ≡ Ok b)
went (Ok a) f b h = (a, refl, h)
went (Err e) f b h = absurd (cc)

pub same_ok : {A : Type 0} (a b : A) → (let x : Found A = Ok a in x) ≡ Ok b → a ≡ b
same_ok a b h = cc

abbrev pub IsInt : Value → Type 0
IsInt v = (n : ℤ) × (v ≡ values.Int n)

abbrev pub IsBool : Value → Type 0
IsBool v = (b : Bool) × (v ≡ values.Bool b)

-- no record, no set and no array that is written out
abbrev pub whole_layer : {A B C D : Type 0} → Term-F A B C D → Bool
whole_layer (Term-F.Record at ts) = false
whole_layer (Term-F.Listed at ts) = false
whole_layer (Term-F.Array at ts) = false
whole_layer (Term-F.KeyedArray at ks cs) = false
whole_layer t = true

abbrev pub IsWhole : Term → Type 0
IsWhole t = whole_layer (out-Term t) ≡ true

abbrev IntIn : Term → Type 0
IntIn t = (env : Environment) (v : Value) → eval t env ≡ Ok v → IsInt v

abbrev BoolIn : Term → Type 0
BoolIn t = (env : Environment) (v : Value) → eval t env ≡ Ok v → IsBool v

-- such an expression whose value is a number, or a truth value, whatever the environment
abbrev pub GivesInt : Term → Type 0
GivesInt t = IsWhole t × IntIn t

abbrev pub GivesBool : Term → Type 0
GivesBool t = IsWhole t × BoolIn t

integer-is : (n : Found ℤ) (v : Value) → integer n ≡ Ok v → IsInt v
integer-is n v h = let w = went n (λ x. Ok (values.Int x)) v h in (w.0, sym (same_ok (values.Int w.0) v w.2))

truth-is : (b : Found Bool) (v : Value) → truth b ≡ Ok v → IsBool v
truth-is b v h = let w = went b (λ x. Ok (values.Bool x)) v h in (w.0, sym (same_ok (values.Bool w.0) v w.2))

integer-then : {A : Type 0} (c : Found A) (f : A → Found ℤ) (v : Value) → then c (λ a. integer (f a)) ≡ Ok v → IsInt v
integer-then c f v h = let w = went c (λ a. integer (f a)) v h in integer-is (f w.0) v w.2

bool-then : {A : Type 0} (c : Found A) (f : A → Bool) (v : Value) → then c (λ a. Ok (values.Bool (f a))) ≡ Ok v → IsBool v
bool-then c f v h = let w = went c (λ a. Ok (values.Bool (f a))) v h in (f w.0, sym (same_ok (values.Bool (f w.0)) v w.2))

integer-of-Number : (at : ℕ) (n : ℤ) → IntIn (terms.Number at n)
integer-of-Number at n env v h = (n, sym (same_ok (values.Int n) v (sym (ap (λ m. m.value env) (meaning-Number at n)) ∙ h)))

integer-of-Negative : (at : ℕ) (t : Term) → IntIn (terms.Negative at t)
integer-of-Negative at t env v h = integer-then (eval t env) _ v (sym (ap (λ m. m.value env) (meaning-Negative at t)) ∙ h)

integer-of-Chain : (at : ℕ) (t : Term) (ss : List Step) → IntIn (terms.Chain at t ss)
integer-of-Chain at t ss env v h =
    let w = went (eval t env) _ v (sym (ap (λ m. m.value env) (meaning-Chain at t ss)) ∙ h) in
    integer-then {A = List Operation} (all (map (λ s. s env) (map step_meaning ss))) (λ os. run at (number w.0) os) v w.2

integer-of-Aggregate : (at : ℕ) (op : AggregateOp) (gs : List GroupTerm) (c : Option Term) (t : Term) → IntIn (terms.Aggregate at op gs c t)
integer-of-Aggregate at op gs None t env v h =
    integer-then {A = List Value} (bodies (map group_meaning gs) None (meaning t) env) (λ vs. aggregate op at (map number vs)) v (sym (ap (λ m. m.value env) (meaning-Aggregate at op gs t)) ∙ h)
integer-of-Aggregate at op gs (Some c) t env v h =
    integer-then {A = List Value} (bodies (map group_meaning gs) (Some (meaning c)) (meaning t) env) (λ vs. aggregate op at (map number vs)) v (sym (ap (λ m. m.value env) (meaning-Aggregate_where at op gs c t)) ∙ h)

integer-of-Call : (at : ℕ) (op : CallOp) (t : Term) → IntIn (terms.Call at op t)
integer-of-Call at op t env v h = integer-then (eval t env) _ v (sym (ap (λ m. m.value env) (meaning-Call at op t)) ∙ h)

truth-of-Related : (at : ℕ) (t : Term) (r : Relation) (u : Term) → BoolIn (terms.Related at t r u)
truth-of-Related at t r u env v h =
    let w = went (eval t env) _ v (sym (ap (λ m. m.value env) (meaning-Related at t r u)) ∙ h) in
    bool-then (eval u env) _ v w.2

truth-of-Member : (at : ℕ) (t : Term) (s : SetTerm) → BoolIn (terms.Member at t s)
truth-of-Member at t s env v h =
    let w = went (eval t env) _ v (sym (ap (λ m. m.value env) (meaning-Member at t s)) ∙ h) in
    bool-then _ _ v w.2

truth-of-Equivalent : (at : ℕ) (ts : List Term) → BoolIn (terms.Equivalent at ts)
truth-of-Equivalent at ts env v h = truth-is _ v (sym (ap (λ m. m.value env) (meaning-Equivalent at ts)) ∙ h)

truth-of-Or : (at : ℕ) (ts : List Term) → BoolIn (terms.Or at ts)
truth-of-Or at ts env v h = truth-is _ v (sym (ap (λ m. m.value env) (meaning-Or at ts)) ∙ h)

truth-of-And : (at : ℕ) (ts : List Term) → BoolIn (terms.And at ts)
truth-of-And at ts env v h = truth-is _ v (sym (ap (λ m. m.value env) (meaning-And at ts)) ∙ h)

truth-of-Implied : (at : ℕ) (t u : Term) → BoolIn (terms.Implied at t u)
truth-of-Implied at t u env v h =
    let w = went (eval t env) _ v (sym (ap (λ m. m.value env) (meaning-Implied at t u)) ∙ h) in
    bool-then (eval u env) _ v w.2

truth-of-Not : (at : ℕ) (t : Term) → BoolIn (terms.Not at t)
truth-of-Not at t env v h = bool-then (eval t env) _ v (sym (ap (λ m. m.value env) (meaning-Not at t)) ∙ h)

truth-of-AllDifferent : (at : ℕ) (t : Term) → BoolIn (terms.AllDifferent at t)
truth-of-AllDifferent at t env v h = bool-then (eval t env) _ v (sym (ap (λ m. m.value env) (meaning-AllDifferent at t)) ∙ h)

pub int-Number : (at : ℕ) (n : ℤ) → GivesInt (terms.Number at n)
int-Number at n = (ap whole_layer (terms.outs-Number at n), integer-of-Number at n)

pub int-Negative : (at : ℕ) (t : Term) → GivesInt (terms.Negative at t)
int-Negative at t = (ap whole_layer (terms.outs-Negative at t), integer-of-Negative at t)

pub int-Chain : (at : ℕ) (t : Term) (ss : List Step) → GivesInt (terms.Chain at t ss)
int-Chain at t ss = (ap whole_layer (terms.outs-Chain at t ss), integer-of-Chain at t ss)

pub int-Aggregate : (at : ℕ) (op : AggregateOp) (gs : List GroupTerm) (c : Option Term) (t : Term) → GivesInt (terms.Aggregate at op gs c t)
int-Aggregate at op gs c t = (ap whole_layer (terms.outs-Aggregate at op gs c t), integer-of-Aggregate at op gs c t)

pub int-Call : (at : ℕ) (op : CallOp) (t : Term) → GivesInt (terms.Call at op t)
int-Call at op t = (ap whole_layer (terms.outs-Call at op t), integer-of-Call at op t)

pub bool-Related : (at : ℕ) (t : Term) (r : Relation) (u : Term) → GivesBool (terms.Related at t r u)
bool-Related at t r u = (ap whole_layer (terms.outs-Related at t r u), truth-of-Related at t r u)

pub bool-Member : (at : ℕ) (t : Term) (s : SetTerm) → GivesBool (terms.Member at t s)
bool-Member at t s = (ap whole_layer (terms.outs-Member at t s), truth-of-Member at t s)

pub bool-Equivalent : (at : ℕ) (ts : List Term) → GivesBool (terms.Equivalent at ts)
bool-Equivalent at ts = (ap whole_layer (terms.outs-Equivalent at ts), truth-of-Equivalent at ts)

pub bool-Or : (at : ℕ) (ts : List Term) → GivesBool (terms.Or at ts)
bool-Or at ts = (ap whole_layer (terms.outs-Or at ts), truth-of-Or at ts)

pub bool-And : (at : ℕ) (ts : List Term) → GivesBool (terms.And at ts)
bool-And at ts = (ap whole_layer (terms.outs-And at ts), truth-of-And at ts)

pub bool-Implied : (at : ℕ) (t u : Term) → GivesBool (terms.Implied at t u)
bool-Implied at t u = (ap whole_layer (terms.outs-Implied at t u), truth-of-Implied at t u)

pub bool-Not : (at : ℕ) (t : Term) → GivesBool (terms.Not at t)
bool-Not at t = (ap whole_layer (terms.outs-Not at t), truth-of-Not at t)

pub bool-AllDifferent : (at : ℕ) (t : Term) → GivesBool (terms.AllDifferent at t)
bool-AllDifferent at t = (ap whole_layer (terms.outs-AllDifferent at t), truth-of-AllDifferent at t)
