-- Want of memory is no fault that evaluation defines.
use Rattle.std.proofs.Common.{◌≡◌, ◌≢◌, ℕ, ℤ, pos, Bool, true, false, cond, List, [], ◌∷◌, map, Option, None, Some, Ok, Err, sym, subst}
use Rattle.std.specs.Prelude.{nat_lt, unsigned_abs, int_div, ◌+ℤ◌, ◌-ℤ◌, ◌*ℤ◌, ◌++◌, ◌^◌}
use Rattle.std.specs.Ordering.{int_eq}
use Rattle.std.specs.List.{list_any, list_all}
use Rattle.opl_tree.specs.declared.expression.AggregateOp.{AggregateOp}
use Rattle.opl_tree.specs.declared.expression.AggregateOp.TheVariants.{Sum, Product, Min, Max}
use Rattle.opl_tree.specs.declared.expression.CallOp.{CallOp}
use Rattle.opl_tree.specs.declared.expression.CallOp.TheVariants.{Absolute, Cardinality}
use Rattle.opl_term.specs.declared.term.GroupTerm.{GroupTerm}
use Rattle.opl_term.specs.declared.term.SetTerm.{SetTerm}
use Rattle.opl_term.specs.declared.term.Step.{Step}
use Rattle.opl_term.specs.declared.term.Term.{Term}
use Rattle.opl_term.specs.declared.term.GroupTerm.TheFolds.{fold-roll-GroupTerm, fold-roll-SetTerm, fold-roll-Step, fold-roll-Term, ind-GroupTerm, ind-SetTerm, ind-Term, map-GroupTerm, map-SetTerm, map-Step, map-Term}
use Rattle.opl_term.specs.declared.term.GroupTerm.TheOpen.{GroupTerm-F, SetTerm-F, Step-F, Term-F}
use Rattle.opl_term.specs.declared.term.GroupTerm.TheViews.{roll-GroupTerm, roll-SetTerm, roll-Step, roll-Term}
use Rattle.opl_value.specs.declared.value.Value.{Value}
use Rattle.opl_value.specs.declared.value.Value.TheVariants as values
use Rattle.opl_value.specs.declared.value.Dimension.TheOpen.{Value-F}
use Rattle.opl_value.specs.declared.value.Dimension.TheViews.{out-Value}
use Rattle.opl_value.specs.declared.value.IndexSpace.{IndexSpace}
use Rattle.opl_value.specs.Places.{lists, place_of, value_at}
use Rattle.opl_eval.specs.declared.arithmetic.Operation.{Operation}
use Rattle.opl_eval.specs.declared.arithmetic.Operation.TheVariants as operations
use Rattle.opl_eval.specs.declared.fault.EvalFault.{EvalFault}
use Rattle.opl_eval.specs.declared.fault.EvalFault.TheVariants.{DivByZero, OutOfIndex, TooLarge, EmptyMinMax, OutOfMemory}
use Rattle.opl_eval.specs.Arithmetic.{then, sized, negative, applied, run, least, greatest}
use Rattle.opl_eval.specs.Compare.{number, relates, size_layer}
use Rattle.opl_eval.specs.Evaluation.{Found, Item, Environment, Meaning, Group, with_parameters, is_true, elements, declaration_of, at_place, element_layer, element, equivalent, found, all, gathered, choices, visited, body_where, bodies, aggregate, called, values_of, step_layer, term_layer, set_layer, group_layer, meaning, step_meaning, set_meaning, group_meaning, eval}
use Rattle.opl_eval.specs.Laws.{NeverMemory, SetsNeverMemory}

-- a fault other than want of memory
abbrev pub IsReal : EvalFault → Type 0
IsReal (DivByZero at) = Unit {0}
IsReal (OutOfIndex at) = Unit {0}
IsReal (TooLarge at) = Unit {0}
IsReal (EmptyMinMax at) = Unit {0}
IsReal OutOfMemory = ⊥

-- what is found, or a fault other than want of memory
unfoldable pub Real : {A : Type 0} → Found A → Type 0
Real (Ok a) = Unit {0}
Real (Err e) = IsReal e

pub real_ok : {A : Type 0} (a : A) → Real (Ok a)
unfolding Real
real_ok a = tt

pub real_err : (A : Type 0) (e : EvalFault) → IsReal e → Real {A = A} (Err e)
unfolding Real
real_err A e h = h

pub real_never : {A : Type 0} (a : Found A) → Real a → a ≢ Err OutOfMemory
unfolding Real
real_never a h is = subst (λ b. Real b) is h

-- what a fault is, where one was found
pub real_fault : {A : Type 0} (a : Found A) (e : EvalFault) → Real a → a ≡ Err e → IsReal e
unfolding Real
real_fault a e h is = subst (λ b. Real b) is h

-- ---- one after another

pub real_then : {A B : Type 0} (a : Found A) (f : A → Found B) → Real a → ((x : A) → Real (f x)) → Real (then a f)
unfolding Real
real_then (Ok x) f h g = g x
real_then (Err e) f h g = h

pub real_found : {A B : Type 0} (f : A → B) (a : Found A) → Real a → Real (found f a)
real_found f a h = real_then a (λ x. Ok (f x)) h (λ x. real_ok (f x))

pub real_cond : {A : Type 0} (b : Bool) (x y : Found A) → Real x → Real y → Real (cond b x y)
real_cond true x y h g = h
real_cond false x y h g = g

pub real_all : {A B : Type 0} (f : A → Found B) (xs : List A) → ((x : A) → Real (f x)) → Real (all (map f xs))
real_all f [] h = real_ok []
real_all f (x ∷ xs) h = real_then (f x) (λ y. found (λ ys. y ∷ ys) (all (map f xs))) (h x) (λ y. real_found (λ ys. y ∷ ys) (all (map f xs)) (real_all f xs h))

pub real_gathered : {A B : Type 0} (f : A → Found (List B)) (xs : List A) → ((x : A) → Real (f x)) → Real (gathered (map f xs))
real_gathered f [] h = real_ok []
real_gathered f (x ∷ xs) h = real_then (f x) (λ ys. found (λ zs. ys ++ zs) (gathered (map f xs))) (h x) (λ ys. real_found (λ zs. ys ++ zs) (gathered (map f xs)) (real_gathered f xs h))

-- ---- numbers

pub real_sized : (at : ℕ) (a : ℤ) → Real (sized at a)
unfolding sized
real_sized at a = real_cond (nat_lt (unsigned_abs a) (2 ^ 127)) (Ok a) (Err (TooLarge at)) (real_ok a) (real_err ℤ (TooLarge at) tt)

real_applied : (at : ℕ) (a : ℤ) (o : Operation) → Real (applied at a o)
real_applied at a (operations.Plus b) = real_sized at (a +ℤ b)
real_applied at a (operations.Minus b) = real_sized at (a -ℤ b)
real_applied at a (operations.Times b) = real_sized at (a *ℤ b)
real_applied at a (operations.Quotient b) = real_cond (int_eq b (pos 0)) (Err (DivByZero at)) (sized at (int_div a b)) (real_err ℤ (DivByZero at) tt) (real_sized at (int_div a b))
real_applied at a (operations.Remainder b) = real_cond (int_eq b (pos 0)) (Err (DivByZero at)) (sized at (a -ℤ b *ℤ int_div a b)) (real_err ℤ (DivByZero at) tt) (real_sized at (a -ℤ b *ℤ int_div a b))

pub real_run : (at : ℕ) (a : ℤ) (os : List Operation) → Real (run at a os)
real_run at a [] = real_ok a
real_run at a (o ∷ os) = real_then (applied at a o) (λ b. run at b os) (real_applied at a o) (λ b. real_run at b os)

real_least : (at : ℕ) (ns : List ℤ) → Real (least at ns)
real_least at [] = real_err ℤ (EmptyMinMax at) tt
real_least at (n ∷ ns) = real_ok _

real_greatest : (at : ℕ) (ns : List ℤ) → Real (greatest at ns)
real_greatest at [] = real_err ℤ (EmptyMinMax at) tt
real_greatest at (n ∷ ns) = real_ok _

real_aggregate : (op : AggregateOp) (at : ℕ) (ns : List ℤ) → Real (aggregate op at ns)
real_aggregate Sum at ns = real_run at (pos 0) (map operations.Plus ns)
real_aggregate Product at ns = real_run at (pos 1) (map operations.Times ns)
real_aggregate Min at ns = real_least at ns
real_aggregate Max at ns = real_greatest at ns

real_size : {A C : Type 0} (at : ℕ) (v : Value-F A Value C) → Real (size_layer at v)
real_size at (Value-F.Set elements) = real_ok _
real_size at (Value-F.Range low high) = real_sized at _
real_size at (Value-F.Names names) = real_ok _
real_size at s = real_ok _

real_called : (op : CallOp) (at : ℕ) (v : Value) → Real (called op at v)
real_called Absolute at v = real_sized at _
real_called Cardinality at v = real_size at (out-Value v)

-- ---- elements of arrays

pub real_at_place : (at : ℕ) (cells : List Value) (p : Option ℕ) → Real (at_place at cells p)
real_at_place at cells None = real_err Value (OutOfIndex at) tt
real_at_place at cells (Some p) = real_ok (value_at cells p)

real_element_layer : {A : Type 0} (at : ℕ) (key : List Value) (v : Value-F A Value IndexSpace) → Real (element_layer at key v)
real_element_layer at key (Value-F.Array space cells) = real_at_place at cells (place_of (lists space) key)
real_element_layer at key v = real_ok (values.Int (pos 0))

pub real_element : (at : ℕ) (key : List Value) (i : Option Item) → Real (element at key i)
real_element at key (Some i) = real_element_layer at key (out-Value i.value)
real_element at key None = real_ok (values.Int (pos 0))

-- ---- what the parts of an expression mean

-- under no environment want of memory
abbrev pub AlwaysReal : {A : Type 0} → (Environment → Found A) → Type 0
AlwaysReal f = (env : Environment) → Real (f env)

-- of all groups of parameters
abbrev pub GroupsReal : List Group → Type 0
GroupsReal [] = Unit {0}
GroupsReal (g ∷ gs) = AlwaysReal g.over.value × GroupsReal gs

pub real_visited : {A : Type 0} (gs : List Group) (inner : Environment → Found (List A)) → GroupsReal gs → AlwaysReal inner → AlwaysReal (visited gs inner)
real_visited [] inner h g env = g env
real_visited (p ∷ ps) inner h g env =
    real_then (p.over.value env) _ (h.0 env) (λ v. real_gathered (λ qs. visited ps inner (with_parameters qs env)) (choices p (elements (declaration_of (p.over.item env)) v)) (λ qs. real_visited ps inner h.1 g (with_parameters qs env)))

real_listed : (body : Meaning) → AlwaysReal body.value → (env : Environment) → Real (found (λ v. v ∷ []) (body.value env))
real_listed body h env = real_found (λ v. v ∷ []) (body.value env) (h env)

pub real_body : (body : Meaning) → AlwaysReal body.value → AlwaysReal (body_where None body)
real_body body h env = real_listed body h env

pub real_body_where : (condition body : Meaning) → AlwaysReal condition.value → AlwaysReal body.value → AlwaysReal (body_where (Some condition) body)
real_body_where condition body g h env =
    real_then (condition.value env) _ (g env) (λ holds. real_cond (is_true holds) (found (λ v. v ∷ []) (body.value env)) (Ok []) (real_listed body h env) (real_ok []))

-- ---- terms of whose parts something is known

abbrev InTerm : Type 0
InTerm = (t : Term) × AlwaysReal (meaning t).value

abbrev InStep : Type 0
InStep = (s : Step) × AlwaysReal (step_meaning s)

abbrev InSet : Type 0
InSet = (s : SetTerm) × AlwaysReal (set_meaning s).value

abbrev InGroup : Type 0
InGroup = (g : GroupTerm) × AlwaysReal (group_meaning g).over.value

abbrev term_inner : Term-F InGroup InSet InStep InTerm → Term-F GroupTerm SetTerm Step Term
term_inner = map-Term InGroup InSet InStep InTerm GroupTerm SetTerm Step Term (λ e. e.0) (λ e. e.0) (λ e. e.0) (λ e. e.0)

abbrev step_inner : Step-F InGroup InSet InStep InTerm → Step-F GroupTerm SetTerm Step Term
step_inner = map-Step InGroup InSet InStep InTerm GroupTerm SetTerm Step Term (λ e. e.0) (λ e. e.0) (λ e. e.0) (λ e. e.0)

abbrev set_inner : SetTerm-F InGroup InSet InStep InTerm → SetTerm-F GroupTerm SetTerm Step Term
set_inner = map-SetTerm InGroup InSet InStep InTerm GroupTerm SetTerm Step Term (λ e. e.0) (λ e. e.0) (λ e. e.0) (λ e. e.0)

abbrev group_inner : GroupTerm-F InGroup InSet InStep InTerm → GroupTerm-F GroupTerm SetTerm Step Term
group_inner = map-GroupTerm InGroup InSet InStep InTerm GroupTerm SetTerm Step Term (λ e. e.0) (λ e. e.0) (λ e. e.0) (λ e. e.0)

-- one layer of each
abbrev term_here : Term-F GroupTerm SetTerm Step Term → Meaning
term_here x = term_layer (map-Term GroupTerm SetTerm Step Term Group Meaning (Environment → Found Operation) Meaning group_meaning set_meaning step_meaning meaning x)

abbrev step_here : Step-F GroupTerm SetTerm Step Term → Environment → Found Operation
step_here x = step_layer (map-Step GroupTerm SetTerm Step Term Group Meaning (Environment → Found Operation) Meaning group_meaning set_meaning step_meaning meaning x)

abbrev set_here : SetTerm-F GroupTerm SetTerm Step Term → Meaning
set_here x = set_layer (map-SetTerm GroupTerm SetTerm Step Term Group Meaning (Environment → Found Operation) Meaning group_meaning set_meaning step_meaning meaning x)

abbrev group_here : GroupTerm-F GroupTerm SetTerm Step Term → Group
group_here x = group_layer (map-GroupTerm GroupTerm SetTerm Step Term Group Meaning (Environment → Found Operation) Meaning group_meaning set_meaning step_meaning meaning x)

term-roll : (x : Term-F GroupTerm SetTerm Step Term) → meaning (roll-Term x) ≡ term_here x
unfolding meaning step_meaning set_meaning group_meaning
term-roll x = fold-roll-Term Group Meaning (Environment → Found Operation) Meaning group_layer set_layer step_layer term_layer x

step-roll : (x : Step-F GroupTerm SetTerm Step Term) → step_meaning (roll-Step x) ≡ step_here x
unfolding meaning step_meaning set_meaning group_meaning
step-roll x = fold-roll-Step Group Meaning (Environment → Found Operation) Meaning group_layer set_layer step_layer term_layer x

set-roll : (x : SetTerm-F GroupTerm SetTerm Step Term) → set_meaning (roll-SetTerm x) ≡ set_here x
unfolding meaning step_meaning set_meaning group_meaning
set-roll x = fold-roll-SetTerm Group Meaning (Environment → Found Operation) Meaning group_layer set_layer step_layer term_layer x

group-roll : (x : GroupTerm-F GroupTerm SetTerm Step Term) → group_meaning (roll-GroupTerm x) ≡ group_here x
unfolding meaning step_meaning set_meaning group_meaning
group-roll x = fold-roll-GroupTerm Group Meaning (Environment → Found Operation) Meaning group_layer set_layer step_layer term_layer x

-- ---- lists of parts

real_values : (es : List InTerm) (env : Environment) → Real (values_of (map meaning (map (λ e. e.0) es)) env)
real_values [] env = real_ok []
real_values (e ∷ es) env = real_then ((meaning e.0).value env) _ (e.1 env) (λ v. real_found (λ vs. v ∷ vs) (values_of (map meaning (map (λ e. e.0) es)) env) (real_values es env))

real_steps : (es : List InStep) (env : Environment) → Real (all (map (λ s. s env) (map step_meaning (map (λ e. e.0) es))))
real_steps [] env = real_ok []
real_steps (e ∷ es) env = real_then (step_meaning e.0 env) _ (e.1 env) (λ o. real_found (λ os. o ∷ os) (all (map (λ s. s env) (map step_meaning (map (λ e. e.0) es)))) (real_steps es env))

real_groups : (es : List InGroup) → GroupsReal (map group_meaning (map (λ e. e.0) es))
real_groups [] = tt
real_groups (e ∷ es) = (e.1, real_groups es)

real_bodies : (es : List InGroup) (body : InTerm) → AlwaysReal (bodies (map group_meaning (map (λ e. e.0) es)) None (meaning body.0))
real_bodies es body = real_visited (map group_meaning (map (λ e. e.0) es)) (body_where None (meaning body.0)) (real_groups es) (real_body (meaning body.0) body.1)

real_bodies_where : (es : List InGroup) (condition body : InTerm) → AlwaysReal (bodies (map group_meaning (map (λ e. e.0) es)) (Some (meaning condition.0)) (meaning body.0))
real_bodies_where es condition body =
    real_visited (map group_meaning (map (λ e. e.0) es)) (body_where (Some (meaning condition.0)) (meaning body.0)) (real_groups es) (real_body_where (meaning condition.0) (meaning body.0) condition.1 body.1)

-- ---- one layer

real_two : {A : Type 0} (s t : InTerm) (f : Value → Value → A) (env : Environment) → Real (then ((meaning s.0).value env) (λ v. then ((meaning t.0).value env) (λ w. Ok (f v w))))
real_two s t f env = real_then _ _ (s.1 env) (λ v. real_then _ _ (t.1 env) (λ w. real_ok (f v w)))

real_term : (y : Term-F InGroup InSet InStep InTerm) → AlwaysReal (term_here (term_inner y)).value
real_term (Term-F.Number at n) env = real_ok _
real_term (Term-F.Named at name) env = real_ok _
real_term (Term-F.Bracket at t) env = t.1 env
real_term (Term-F.Negative at t) env = real_then _ _ (t.1 env) (λ v. real_found values.Int (negative at (number v)) (real_sized at _))
real_term (Term-F.Chain at first steps) env =
    real_then _ _ (first.1 env) (λ v. real_then _ _ (real_steps steps env) (λ os. real_found values.Int (run at (number v) os) (real_run at (number v) os)))
real_term (Term-F.Related at left relation right) env = real_two left right (λ v w. values.Bool (relates relation v w)) env
real_term (Term-F.Member at t over) env = real_then _ _ (t.1 env) (λ v. real_then _ _ (over.1 env) (λ s. real_ok _))
real_term (Term-F.Equivalent at ts) env = real_found values.Bool _ (real_found equivalent _ (real_values ts env))
real_term (Term-F.Implied at premise conclusion) env = real_then _ _ (premise.1 env) (λ v. real_then _ _ (conclusion.1 env) (λ w. real_ok _))
real_term (Term-F.Or at ts) env = real_found values.Bool _ (real_found (list_any is_true) _ (real_values ts env))
real_term (Term-F.And at ts) env = real_found values.Bool _ (real_found (list_all is_true) _ (real_values ts env))
real_term (Term-F.Not at t) env = real_found _ _ (t.1 env)
real_term (Term-F.Aggregate at op groups None body) env =
    real_then _ _ (real_bodies groups body env) (λ vs. real_found values.Int (aggregate op at (map number vs)) (real_aggregate op at (map number vs)))
real_term (Term-F.Aggregate at op groups (Some condition) body) env =
    real_then _ _ (real_bodies_where groups condition body env) (λ vs. real_found values.Int (aggregate op at (map number vs)) (real_aggregate op at (map number vs)))
real_term (Term-F.Call at op t) env = real_then _ _ (t.1 env) (λ v. real_found values.Int (called op at v) (real_called op at v))
real_term (Term-F.AllDifferent at t) env = real_found _ _ (t.1 env)
real_term (Term-F.Question at op t) env = real_ok _
real_term (Term-F.Element at base subscripts) env = real_then _ _ (real_values subscripts env) (λ key. real_element at key ((meaning base.0).item env))
real_term (Term-F.Fields at t names) env = real_found _ _ (t.1 env)
real_term (Term-F.Record at ts) env = real_found values.Record _ (real_values ts env)
real_term (Term-F.Listed at ts) env = real_found _ _ (real_values ts env)
real_term (Term-F.Described at t groups None) env = real_found _ _ (real_bodies groups t env)
real_term (Term-F.Described at t groups (Some condition)) env = real_found _ _ (real_bodies_where groups condition t env)
real_term (Term-F.Array at ts) env = real_ok _
real_term (Term-F.KeyedArray at keys cells) env = real_ok _

real_step : (y : Step-F InGroup InSet InStep InTerm) → AlwaysReal (step_here (step_inner y))
real_step (Step-F.Plus t) env = real_found _ _ (t.1 env)
real_step (Step-F.Minus t) env = real_found _ _ (t.1 env)
real_step (Step-F.Times t) env = real_found _ _ (t.1 env)
real_step (Step-F.Quotient t) env = real_found _ _ (t.1 env)
real_step (Step-F.Remainder t) env = real_found _ _ (t.1 env)

real_set : (y : SetTerm-F InGroup InSet InStep InTerm) → AlwaysReal (set_here (set_inner y)).value
real_set (SetTerm-F.Whole t) env = t.1 env
real_set (SetTerm-F.Between low high) env = real_then _ _ (low.1 env) (λ l. real_then _ _ (high.1 env) (λ h. real_ok _))

real_group : (y : GroupTerm-F InGroup InSet InStep InTerm) → AlwaysReal (group_here (group_inner y)).over.value
real_group (GroupTerm-F.Unordered patterns over) = over.1
real_group (GroupTerm-F.Ordered patterns over) = over.1

-- ---- all terms

case_term : (x : Term-F GroupTerm SetTerm Step Term) (y : Term-F InGroup InSet InStep InTerm) → term_inner y ≡ x → AlwaysReal (meaning (roll-Term x)).value
case_term x y is = subst (λ m. AlwaysReal m.value) (sym (term-roll x)) (subst (λ z. AlwaysReal (term_here z).value) is (real_term y))

case_step : (x : Step-F GroupTerm SetTerm Step Term) (y : Step-F InGroup InSet InStep InTerm) → step_inner y ≡ x → AlwaysReal (step_meaning (roll-Step x))
case_step x y is = subst (λ s. AlwaysReal s) (sym (step-roll x)) (subst (λ z. AlwaysReal (step_here z)) is (real_step y))

case_set : (x : SetTerm-F GroupTerm SetTerm Step Term) (y : SetTerm-F InGroup InSet InStep InTerm) → set_inner y ≡ x → AlwaysReal (set_meaning (roll-SetTerm x)).value
case_set x y is = subst (λ m. AlwaysReal m.value) (sym (set-roll x)) (subst (λ z. AlwaysReal (set_here z).value) is (real_set y))

case_group : (x : GroupTerm-F GroupTerm SetTerm Step Term) (y : GroupTerm-F InGroup InSet InStep InTerm) → group_inner y ≡ x → AlwaysReal (group_meaning (roll-GroupTerm x)).over.value
case_group x y is = subst (λ g. AlwaysReal g.over.value) (sym (group-roll x)) (subst (λ z. AlwaysReal (group_here z).over.value) is (real_group y))

-- no term comes to want of memory
pub real_meaning : (t : Term) → AlwaysReal (meaning t).value
real_meaning = ind-Term (λ g. AlwaysReal (group_meaning g).over.value) (λ s. AlwaysReal (set_meaning s).value) (λ s. AlwaysReal (step_meaning s)) (λ t. AlwaysReal (meaning t).value) case_group case_set case_step case_term

-- nor a set
pub real_set_meaning : (s : SetTerm) → AlwaysReal (set_meaning s).value
real_set_meaning = ind-SetTerm (λ g. AlwaysReal (group_meaning g).over.value) (λ s. AlwaysReal (set_meaning s).value) (λ s. AlwaysReal (step_meaning s)) (λ t. AlwaysReal (meaning t).value) case_group case_set case_step case_term

-- nor what groups of parameters range over
pub real_group_meaning : (g : GroupTerm) → AlwaysReal (group_meaning g).over.value
real_group_meaning = ind-GroupTerm (λ g. AlwaysReal (group_meaning g).over.value) (λ s. AlwaysReal (set_meaning s).value) (λ s. AlwaysReal (step_meaning s)) (λ t. AlwaysReal (meaning t).value) case_group case_set case_step case_term

pub real_eval : (t : Term) (env : Environment) → Real (eval t env)
real_eval t env = real_meaning t env

pub real_groups_meaning : (gs : List GroupTerm) → GroupsReal (map group_meaning gs)
real_groups_meaning [] = tt
real_groups_meaning (g ∷ gs) = (real_group_meaning g, real_groups_meaning gs)

pub never_memory : NeverMemory
never_memory t env = real_never (eval t env) (real_eval t env)

pub sets_never_memory : SetsNeverMemory
sets_never_memory s env = real_never ((set_meaning s).value env) (real_set_meaning s env)
