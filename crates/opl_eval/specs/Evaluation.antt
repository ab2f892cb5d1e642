-- What a data expression comes to under the values of the visible names: a value, or the first fault.
-- Typing rules out a name that is not visible, a value of a kind that an operation does not take, and elements of what is no declared
-- array; what stands for these here is the number 0, what is false or the empty list, so that each expression comes to something.
use Rattle.std.specs.Prelude.{ℕ, suc, ℤ, pos, Bool, true, false, cond, not, ◌||◌, List, [], ◌∷◌, ◌++◌, map, fold, Option, Some, None, Result, Ok, Err}
use Rattle.std.specs.List.{list_any, list_all, flat_map}
use Rattle.std.specs.Str.{bytes_eq}
use Rattle.opl_tree.specs.declared.expression.AggregateOp.{AggregateOp}
use Rattle.opl_tree.specs.declared.expression.AggregateOp.TheVariants.{Sum, Product, Min, Max}
use Rattle.opl_tree.specs.declared.expression.CallOp.{CallOp}
use Rattle.opl_tree.specs.declared.expression.CallOp.TheVariants.{Absolute, Cardinality}
use Rattle.opl_term.specs.declared.term.Pattern.{Pattern}
use Rattle.opl_term.specs.declared.term.Pattern.TheVariants.{Single, Parts}
use Rattle.opl_term.specs.declared.term.FieldName.{FieldName}
use Rattle.opl_term.specs.declared.term.GroupTerm.{GroupTerm}
use Rattle.opl_term.specs.declared.term.SetTerm.{SetTerm}
use Rattle.opl_term.specs.declared.term.Step.{Step}
use Rattle.opl_term.specs.declared.term.Term.{Term}
use Rattle.opl_term.specs.declared.term.GroupTerm.TheOpen.{GroupTerm-F, SetTerm-F, Step-F, Term-F}
use Rattle.opl_term.specs.declared.term.GroupTerm.TheFolds.{fold-GroupTerm, fold-SetTerm, fold-Step, fold-Term}
use Rattle.opl_value.specs.declared.value.Value.{Value}
use Rattle.opl_value.specs.declared.value.Value.TheVariants as values
use Rattle.opl_value.specs.declared.value.IndexSpace.{IndexSpace}
use Rattle.opl_value.specs.declared.value.Dimension.TheOpen.{Value-F}
use Rattle.opl_value.specs.declared.value.Dimension.TheViews.{out-Value}
use Rattle.opl_value.specs.Places.{lists, numbers_between, place_of, value_at}
use Rattle.opl_value.specs.Sets.{first_occurrences}
use Rattle.opl_eval.specs.declared.fault.EvalFault.{EvalFault}
use Rattle.opl_eval.specs.declared.fault.EvalFault.TheVariants.{OutOfIndex}
use Rattle.opl_eval.specs.declared.arithmetic.Operation.{Operation}
use Rattle.opl_eval.specs.declared.arithmetic.Operation.TheVariants as operations
use Rattle.opl_eval.specs.Arithmetic.{then, run, negative, absolute, sum, product, least, greatest}
use Rattle.opl_eval.specs.Compare.{number, relates, is_member, cardinality, all_different}

-- ---- names and their values

-- what is found, or the first fault
abbrev pub Found : Type 0 → Type 0
Found A = Result A EvalFault

-- a declared name with its value; for the name of an enumeration, the number of its declaration
pub record Item : Type 0 where
  pub name : List ℕ
  pub value : Value
  pub declaration : ℕ

-- a parameter with its value
pub record Parameter : Type 0 where
  pub name : List ℕ
  pub value : Value

-- the declared names and the parameters, each in the order in which they became visible, and for the place of each field's name
-- the field's position in its struct
pub record Environment : Type 0 where
  pub items : List Item
  pub parameters : List Parameter
  pub position : ℕ → ℕ

-- the latest item with this name, else the one before
abbrev pub latest_or : Option Item → List ℕ → List Item → Option Item
latest_or before name [] = before
latest_or before name (i ∷ is) = latest_or (cond (bytes_eq name i.name) (Some i) before) name is

-- the value of the latest parameter with this name, else the one before
abbrev pub parameter_or : Option Value → List ℕ → List Parameter → Option Value
parameter_or before name [] = before
parameter_or before name (p ∷ ps) = parameter_or (cond (bytes_eq name p.name) (Some p.value) before) name ps

-- the item of a name, which a parameter hides
abbrev pub unhidden : Option Value → Option Item → Option Item
unhidden None i = i
unhidden (Some v) i = None

unfoldable pub item_named : List ℕ → Environment → Option Item
item_named name env = unhidden (parameter_or None name env.parameters) (latest_or None name env.items)

-- the value of a name
abbrev pub visible : Option Value → Option Item → Value
visible (Some v) i = v
visible None (Some i) = i.value
visible None None = values.Int (pos 0)

unfoldable pub value_named : List ℕ → Environment → Value
value_named name env = visible (parameter_or None name env.parameters) (latest_or None name env.items)

-- the number of an enumeration's declaration, and 0 for what is none
abbrev pub declaration_of : Option Item → ℕ
declaration_of (Some i) = i.declaration
declaration_of None = 0

-- the environment with further parameters
abbrev pub with_parameters : List Parameter → Environment → Environment
with_parameters ps env = record { items = env.items; parameters = env.parameters ++ ps; position = env.position }

-- the environment with one more declared name
abbrev pub declared : List ℕ → Value → ℕ → Environment → Environment
declared name v d env = record { items = env.items ++ record { name = name; value = v; declaration = d } ∷ []; parameters = env.parameters; position = env.position }

-- ---- values

-- whether a value is true
abbrev pub truth_layer : {A C : Type 0} → Value-F A Value C → Bool
truth_layer (Value-F.Bool b) = b
truth_layer v = false

abbrev pub is_true : Value → Bool
is_true v = truth_layer (out-Value v)

-- the parts of a record
abbrev pub parts_layer : {A C : Type 0} → Value-F A Value C → List Value
parts_layer (Value-F.Record parts) = parts
parts_layer v = []

abbrev pub parts : Value → List Value
parts v = parts_layer (out-Value v)

-- the names of an enumeration, from a position on
abbrev pub names_from : ℕ → ℕ → List (List ℕ) → List Value
names_from declaration p [] = []
names_from declaration p (n ∷ ns) = values.Enum declaration p ∷ names_from declaration (suc p) ns

-- the elements of a set, a range or the enumeration of this declaration, in their order
abbrev pub elements_layer : {A C : Type 0} → ℕ → Value-F A Value C → List Value
elements_layer declaration (Value-F.Set elements) = elements
elements_layer declaration (Value-F.Range low high) = numbers_between low high
elements_layer declaration (Value-F.Names names) = names_from declaration 0 names
elements_layer declaration v = []

abbrev pub elements : ℕ → Value → List Value
elements declaration v = elements_layer declaration (out-Value v)

-- the value at a place, if there is one
abbrev pub at_place : ℕ → List Value → Option ℕ → Found Value
at_place at cells None = Err (OutOfIndex at)
at_place at cells (Some p) = Ok (value_at cells p)

-- the element of a declared array with this key
abbrev pub element_layer : {A : Type 0} → ℕ → List Value → Value-F A Value IndexSpace → Found Value
element_layer at key (Value-F.Array space cells) = at_place at cells (place_of (lists space) key)
element_layer at key v = Ok (values.Int (pos 0))

abbrev pub element : ℕ → List Value → Option Item → Found Value
element at key (Some i) = element_layer at key (out-Value i.value)
element at key None = Ok (values.Int (pos 0))

-- the part of a value that a field names, and that which a chain of fields names, the first innermost
abbrev pub part_of : (ℕ → ℕ) → Value → FieldName → Value
part_of position v name = value_at (parts v) (position name.at)

abbrev pub part_at : (ℕ → ℕ) → Value → List FieldName → Value
part_at position v names = fold (part_of position) v names

-- whether the elements of an array differ pairwise
abbrev pub different_layer : {A C : Type 0} → Value-F A Value C → Bool
different_layer (Value-F.Array space cells) = all_different cells
different_layer v = true

-- whether several truth values have one truth after another: `a <=> b <=> c` is `(a <=> b) <=> c`
abbrev pub same : Bool → Bool → Bool
same b c = cond b c (not c)

abbrev pub equivalent : List Value → Bool
equivalent [] = true
equivalent (v ∷ vs) = fold (λ b w. same b (is_true w)) (is_true v) vs

-- ---- one after another

-- a function of what is found
abbrev pub found : {A B : Type 0} → (A → B) → Found A → Found B
found f a = then a (λ x. Ok (f x))

-- all of these, or the first fault of them
abbrev pub all : {A : Type 0} → List (Found A) → Found (List A)
all [] = Ok []
all (a ∷ others) = then a (λ x. found (λ xs. x ∷ xs) (all others))

-- the lists of all of these behind one another, or the first fault of them
abbrev pub gathered : {A : Type 0} → List (Found (List A)) → Found (List A)
gathered [] = Ok []
gathered (a ∷ others) = then a (λ xs. found (λ ys. xs ++ ys) (gathered others))

-- ---- what the parts of an expression mean

-- of a term: its value, and where it is a declared name that one's item
pub record Meaning : Type 0 where
  pub value : Environment → Found Value
  pub item : Environment → Option Item

-- of a group of parameters: whether it is ordered, what its elements are called, and its set
pub record Group : Type 0 where
  pub is_ordered : Bool
  pub patterns : List Pattern
  pub over : Meaning

-- ---- parameters

-- the parts of a record by name
abbrev pub bound_parts : List (List ℕ) → List Value → List Parameter
bound_parts (n ∷ ns) (v ∷ vs) = record { name = n; value = v } ∷ bound_parts ns vs
bound_parts ns vs = []

-- what a pattern calls an element or its parts
abbrev pub bound : Pattern → Value → List Parameter
bound (Single name) v = record { name = name; value = v } ∷ []
bound (Parts names) v = bound_parts names (parts v)

-- each pattern goes over all elements, the first slowest
abbrev pub independent : List Pattern → List Value → List (List Parameter)
independent [] vs = [] ∷ []
independent (p ∷ ps) vs = flat_map (λ v. map (λ later. bound p v ++ later) (independent ps vs)) vs

-- each pattern's element stands before that of the next
abbrev pub in_order : List Pattern → List Value → List (List Parameter)
in_order [] vs = [] ∷ []
in_order (p ∷ ps) [] = []
in_order (p ∷ ps) (v ∷ vs) = map (λ later. bound p v ++ later) (in_order ps vs) ++ in_order (p ∷ ps) vs

-- the choices of a group
abbrev pub choices : Group → List Value → List (List Parameter)
choices g vs = cond g.is_ordered (in_order g.patterns vs) (independent g.patterns vs)

-- what is found under all choices of the groups, the first varying slowest; the set of each is found anew for each choice of those
-- before it
abbrev pub visited : {A : Type 0} → List Group → (Environment → Found (List A)) → Environment → Found (List A)
visited [] inner env = inner env
visited (g ∷ gs) inner env =
    then (g.over.value env) (λ v. gathered (map (λ ps. visited gs inner (with_parameters ps env)) (choices g (elements (declaration_of (g.over.item env)) v))))

-- the body, where the condition holds
abbrev pub body_where : Option Meaning → Meaning → Environment → Found (List Value)
body_where None body env = found (λ v. v ∷ []) (body.value env)
body_where (Some condition) body env =
    then (condition.value env) (λ holds. cond (is_true holds) (found (λ v. v ∷ []) (body.value env)) (Ok []))

-- the body under all choices for which the condition holds
abbrev pub bodies : List Group → Option Meaning → Meaning → Environment → Found (List Value)
bodies groups condition body env = visited groups (body_where condition body) env

-- an aggregate of numbers
abbrev pub aggregate : AggregateOp → ℕ → List ℤ → Found ℤ
aggregate Sum at ns = sum at ns
aggregate Product at ns = product at ns
aggregate Min at ns = least at ns
aggregate Max at ns = greatest at ns

-- a function of one value
abbrev pub called : CallOp → ℕ → Value → Found ℤ
called Absolute at v = absolute at (number v)
called Cardinality at v = cardinality at v

-- ---- one layer of each kind of term

abbrev pub values_of : List Meaning → Environment → Found (List Value)
values_of ts env = all (map (λ t. t.value env) ts)

abbrev pub integer : Found ℤ → Found Value
integer n = found values.Int n

abbrev pub truth : Found Bool → Found Value
truth b = found values.Bool b

abbrev pub step_layer : Step-F Group Meaning (Environment → Found Operation) Meaning → Environment → Found Operation
step_layer (Step-F.Plus t) env = found (λ v. operations.Plus (number v)) (t.value env)
step_layer (Step-F.Minus t) env = found (λ v. operations.Minus (number v)) (t.value env)
step_layer (Step-F.Times t) env = found (λ v. operations.Times (number v)) (t.value env)
step_layer (Step-F.Quotient t) env = found (λ v. operations.Quotient (number v)) (t.value env)
step_layer (Step-F.Remainder t) env = found (λ v. operations.Remainder (number v)) (t.value env)

abbrev pub value_layer : Term-F Group Meaning (Environment → Found Operation) Meaning → Environment → Found Value
-- a number
value_layer (Term-F.Number at n) env = Ok (values.Int n)
-- a name
value_layer (Term-F.Named at name) env = Ok (value_named name env)
-- `(a)`
value_layer (Term-F.Bracket at t) env = t.value env
-- `-a`
value_layer (Term-F.Negative at t) env = then (t.value env) (λ v. integer (negative at (number v)))
-- `a + b - ..`, `a * b div ..`: all operands, then the operations from the left
value_layer (Term-F.Chain at first steps) env =
    then (first.value env) (λ v. then (all (map (λ s. s env) steps)) (λ os. integer (run at (number v) os)))
-- `a = b` and the like
value_layer (Term-F.Related at left relation right) env =
    then (left.value env) (λ v. then (right.value env) (λ w. Ok (values.Bool (relates relation v w))))
-- `a in S`
value_layer (Term-F.Member at t over) env =
    then (t.value env) (λ v. then (over.value env) (λ s. Ok (values.Bool (is_member v s))))
-- `a <=> b <=> ..`
value_layer (Term-F.Equivalent at ts) env = truth (found equivalent (values_of ts env))
-- `a => b`
value_layer (Term-F.Implied at premise conclusion) env =
    then (premise.value env) (λ v. then (conclusion.value env) (λ w. Ok (values.Bool (not (is_true v) || is_true w))))
-- `a \/ b \/ ..`
value_layer (Term-F.Or at ts) env = truth (found (list_any is_true) (values_of ts env))
-- `a & b & ..`
value_layer (Term-F.And at ts) env = truth (found (list_all is_true) (values_of ts env))
-- `not a`
value_layer (Term-F.Not at t) env = found (λ v. values.Bool (not (is_true v))) (t.value env)
-- `sum (GROUPS : c) a` and the like
value_layer (Term-F.Aggregate at op groups condition body) env =
    then (bodies groups condition body env) (λ vs. integer (aggregate op at (map number vs)))
-- `abs(a)`, `card(S)`
value_layer (Term-F.Call at op t) env = then (t.value env) (λ v. integer (called op at v))
-- `alldifferent(a)`
value_layer (Term-F.AllDifferent at t) env = found (λ v. values.Bool (different_layer (out-Value v))) (t.value env)
-- questions are no data
value_layer (Term-F.Question at op t) env = Ok (values.Int (pos 0))
-- `a[b,..]`
value_layer (Term-F.Element at base subscripts) env = then (values_of subscripts env) (λ key. element at key (base.item env))
-- `a.f.g..`
value_layer (Term-F.Fields at t names) env = found (λ v. part_at env.position v names) (t.value env)
-- `<a,..>`
value_layer (Term-F.Record at ts) env = found values.Record (values_of ts env)
-- `{a,..}`
value_layer (Term-F.Listed at ts) env = found (λ vs. values.Set (first_occurrences vs)) (values_of ts env)
-- `{a | GROUPS : c}`
value_layer (Term-F.Described at t groups condition) env =
    found (λ vs. values.Set (first_occurrences vs)) (bodies groups condition t env)
-- arrays are evaluated cell by cell where they are declared
value_layer (Term-F.Array at ts) env = Ok (values.Int (pos 0))
value_layer (Term-F.KeyedArray at keys cells) env = Ok (values.Int (pos 0))

-- a name, in brackets or not
abbrev pub item_layer : Term-F Group Meaning (Environment → Found Operation) Meaning → Environment → Option Item
item_layer (Term-F.Named at name) env = item_named name env
item_layer (Term-F.Bracket at t) env = t.item env
item_layer t env = None

abbrev pub term_layer : Term-F Group Meaning (Environment → Found Operation) Meaning → Meaning
term_layer t = record { value = value_layer t; item = item_layer t }

-- the numbers from one to another
abbrev pub between : Meaning → Meaning → Environment → Found Value
between low high env = then (low.value env) (λ l. then (high.value env) (λ h. Ok (values.Range (number l) (number h))))

abbrev pub set_layer : SetTerm-F Group Meaning (Environment → Found Operation) Meaning → Meaning
set_layer (SetTerm-F.Whole t) = t
set_layer (SetTerm-F.Between low high) = record { value = between low high; item = λ env. None }

abbrev pub group_layer : GroupTerm-F Group Meaning (Environment → Found Operation) Meaning → Group
group_layer (GroupTerm-F.Unordered patterns over) = record { is_ordered = false; patterns = patterns; over = over }
group_layer (GroupTerm-F.Ordered patterns over) = record { is_ordered = true; patterns = patterns; over = over }

-- ---- what each kind of term means

unfoldable pub meaning : Term → Meaning
meaning = fold-Term Group Meaning (Environment → Found Operation) Meaning group_layer set_layer step_layer term_layer

unfoldable pub step_meaning : Step → Environment → Found Operation
step_meaning = fold-Step Group Meaning (Environment → Found Operation) Meaning group_layer set_layer step_layer term_layer

unfoldable pub set_meaning : SetTerm → Meaning
set_meaning = fold-SetTerm Group Meaning (Environment → Found Operation) Meaning group_layer set_layer step_layer term_layer

unfoldable pub group_meaning : GroupTerm → Group
group_meaning = fold-GroupTerm Group Meaning (Environment → Found Operation) Meaning group_layer set_layer step_layer term_layer

-- what a term comes to
abbrev pub eval : Term → Environment → Found Value
eval t env = (meaning t).value env
