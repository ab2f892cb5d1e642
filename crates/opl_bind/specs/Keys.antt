-- The keys of index sets in index order, and those that a walk still comes to.
use Rattle.std.specs.Prelude.{◌≡◌, ℕ, suc, ◌+◌, ◌*◌, Bool, true, false, List, [], ◌∷◌, ◌++◌, length, map, Option, None, Some}
use Rattle.std.specs.Borrow.{Bor}
use Rattle.opl_tree.specs.declared.declaration.DimTree.{DimTree}
use Rattle.opl_value.specs.declared.value.Value.{Value}
use Rattle.opl_eval.specs.Evaluation.{Parameter}
use Rattle.opl_given.specs.declared.elements.Elements.{Elements}
use Rattle.opl_bind.specs.declared.key_walk.Turn.{Turn}
use Rattle.opl_bind.specs.declared.key_walk.Walk.{Walk}
use Rattle.opl_bind.specs.declared.key_walk.Stage.{Stage}
use Rattle.opl_bind.specs.declared.key_walk.Stage.TheVariants as stages
use Rattle.opl_given.specs.Elements.{element, left}
use Rattle.opl_given.specs.Turns.{named}

-- the keys that begin with one of these values, and go on with one of these keys
abbrev pub beginning : List Value → List (List Value) → List (List Value)
beginning [] keys = []
beginning (v ∷ vs) keys = map (λ key. v ∷ key) keys ++ beginning vs keys

-- the keys of index sets: the last set varies fastest
abbrev pub keys : List (List Value) → List (List Value)
keys [] = [] ∷ []
keys (vs ∷ sets) = beginning vs (keys sets)

-- the names of dimensions, each for the element of a key
abbrev pub named_all : List DimTree → List Value → List Parameter
named_all (t ∷ ts) (v ∷ vs) = named t.name v ++ named_all ts vs
named_all ts vs = []

-- ---- a walk

-- the keys of the index sets that are left
abbrev pub keys_over : List Elements → List (List Value)
keys_over sets = keys (map left sets)

-- the elements that are chosen
abbrev pub chosen : List Turn → List Value
chosen turns = map (λ t. element t.element) turns

-- the keys that go on from the chosen elements with one of these keys, and behind them those with later elements
abbrev pub under : List Turn → List (List Value) → List (List Value)
under [] keys = keys
under (t ∷ ts) keys = map (λ key. element t.element ∷ key) (under ts keys) ++ beginning (left t.later) (keys_over t.behind.now)

-- the keys that go on over the index sets that are ahead
abbrev pub ahead_keys : Option (Bor (List Elements)) → List (List Value)
ahead_keys None = []
ahead_keys (Some sets) = keys_over sets.now

-- the key at which a walk stands
abbrev pub key_of : Walk → List Value
key_of walk = chosen walk.turns.items

-- the keys that a walk still comes to
abbrev pub to_come : Walk → List (List Value)
to_come walk = under walk.turns.items (ahead_keys walk.ahead)

-- whether there is one more key, at which the walk stands then
abbrev pub Arrives : List (List Value) → Walk → Bool → Type 0
Arrives before walk true = before ≡ key_of walk ∷ to_come walk
Arrives before walk false = before ≡ []

-- the same of one step, which may end between keys
abbrev pub Steps : List (List Value) → Walk → Stage → Type 0
Steps before walk stages.Key = Arrives before walk true
Steps before walk stages.Between = before ≡ to_come walk
Steps before walk stages.End = Arrives before walk false

-- ---- how far it is

-- the number of steps over index sets
abbrev pub distance : List (List Value) → ℕ
distance [] = 1
distance (vs ∷ sets) = suc (length vs * suc (distance sets))

-- the number of steps with later elements
abbrev pub distance_back : List Turn → ℕ
distance_back [] = 0
distance_back (t ∷ ts) = suc (length (left t.later) * suc (distance (map left t.behind.now))) + distance_back ts

abbrev pub distance_ahead : Option (Bor (List Elements)) → ℕ
distance_ahead None = 0
distance_ahead (Some sets) = distance (map left sets.now)

-- the number of steps that a walk still takes
abbrev pub distance_of : Walk → ℕ
distance_of walk = distance_back walk.turns.items + distance_ahead walk.ahead
