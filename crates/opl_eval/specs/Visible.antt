-- What the program's values stand for in the definitions, and what its functions answer.
use Rattle.std.specs.Prelude.{◌≡◌, ◌≢◌, ℕ, zero, suc, List, [], ◌∷◌, map, nat_eq, Option, Some, None, Result, Ok, Err}
use Rattle.std.specs.HashMap.{get_by}
use Rattle.opl_value.specs.declared.value.Value.{Value}
use Rattle.opl_value.specs.declared.value.Value.TheVariants as values
use Rattle.opl_eval.specs.declared.entry.Entry.{Entry}
use Rattle.opl_eval.specs.declared.environment.Environment as code
use Rattle.opl_eval.specs.declared.environment.Parameter as parameters
use Rattle.opl_eval.specs.declared.fault.EvalFault.{EvalFault}
use Rattle.opl_eval.specs.declared.fault.EvalFault.TheVariants.{OutOfMemory}
use Rattle.opl_eval.specs.declared.held.Held.{Held}
use Rattle.opl_eval.specs.declared.held.Held.TheVariants.{Borrowed, Owned}
use Rattle.opl_eval.specs.declared.item.Item as items
use Rattle.opl_eval.specs.declared.positions.Positions.{Positions}
use Rattle.opl_eval.specs.Evaluation.{Item, Parameter, Environment, Found, found}

-- ---- what functions answer

-- what a function answers that finds something, unless memory fails
abbrev pub Gives : {A B : Type 0} → (B → A) → Found A → Result B EvalFault → Type 0
Gives reading found (Ok b) = found ≡ Ok (reading b)
Gives reading found (Err e) = e ≢ OutOfMemory → found ≡ Err e

-- ---- values

-- a value that is borrowed or owned
abbrev pub held : Held → Value
held (Borrowed v) = v.now
held (Owned v) = v

-- so many names of an enumeration, from a position on
abbrev pub names_on : ℕ → ℕ → ℕ → List Value
names_on declaration p zero = []
names_on declaration p (suc n) = values.Enum declaration p ∷ names_on declaration (suc p) n

-- ---- names

abbrev pub or_else : Option ℕ → ℕ
or_else None = 0
or_else (Some n) = n

-- the position that is kept for a place
abbrev pub position_in : Positions → ℕ → ℕ
position_in ps place = or_else (get_by (nat_eq place) ps.places)

abbrev pub item_of : Entry → Item
item_of e = record { name = e.name; value = e.value; declaration = e.declaration }

-- a declared name that is lent
abbrev pub lent : items.Item → Item
lent i = record { name = i.name.now; value = i.value.now; declaration = i.declaration }

abbrev pub parameter_of : parameters.Parameter → Parameter
parameter_of p = record { name = p.name.now; value = p.value.now }

-- the environment of declared names alone, and that with parameters
unfoldable pub seen : code.Environment → Environment
seen env = record { items = map item_of env.entries; parameters = []; position = position_in env.positions }

unfoldable pub within : code.Environment → List parameters.Parameter → Environment
within env ps = record { items = map item_of env.entries; parameters = map parameter_of ps; position = position_in env.positions }
