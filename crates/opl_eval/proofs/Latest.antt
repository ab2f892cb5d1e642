-- The places that are kept are those of the latest entries, and what stands there is what a name means.
use Rattle.std.proofs.Common.{◌≡◌, ℕ, ◌+◌, suc, zero, Bool, true, false, cond, List, [], ◌∷◌, ◌++◌, length, drop, map, Bor, Decides, Option, None, Some, refl, ap, ◌∙◌, sym, arith}
use Rattle.std.specs.Prelude.{bytes_eq}
use Rattle.std.specs.List.{slice_get}
use Rattle.std.specs.Option.{option_map}
use Rattle.std.specs.HashMap.{HashMap, get_by}
use Rattle.std.proofs.lemmas.Bool.Decides.{same_from_decides}
use Rattle.std.proofs.lemmas.Slice.Eq.{bytes_eq-Decides}
use Rattle.opl_value.specs.declared.value.Value.{Value}
use Rattle.opl_eval.specs.declared.entry.Entry.{Entry}
use Rattle.opl_eval.specs.declared.environment.Environment as code
use Rattle.opl_eval.specs.declared.environment.Parameter as parameters
use Rattle.opl_eval.specs.Evaluation.{Item, Environment, latest_or, parameter_or, item_named, value_named, unhidden, visible, declared}
use Rattle.opl_eval.specs.LatestPlaces.{place_or, entry_at, entry_or}
use Rattle.opl_eval.specs.declared.turns.Turn.{Turn}
use Rattle.opl_eval.specs.Turns.{in_turns, under}
use Rattle.opl_eval.proofs.Pending.{under-items, under-position, under-value}
use Rattle.opl_eval.specs.Visible.{item_of, parameter_of, position_in, seen, within}

-- ---- what stands at a place

head-at : {A : Type 0} (xs : List A) (i : ℕ) (x : A) (ys : List A) → drop i xs ≡ x ∷ ys → slice_get xs i ≡ Some x
head-at [] zero x ys h = cc
head-at [] (suc i) x ys h = cc
head-at (z ∷ xs) zero x ys h = cc
head-at (z ∷ xs) (suc i) x ys h = head-at xs i x ys h

next-of : (i : ℕ) → suc i + 1 ≡ suc (i + 1)
next-of i = omega arith

tail-at : {A : Type 0} (xs : List A) (i : ℕ) (x : A) (ys : List A) → drop i xs ≡ x ∷ ys → drop (i + 1) xs ≡ ys
tail-at [] zero x ys h = cc
tail-at [] (suc i) x ys h = cc
tail-at (z ∷ xs) zero x ys h = cc
tail-at (z ∷ xs) (suc i) x ys h = ap (λ n. drop n (z ∷ xs)) (next-of i) ∙ tail-at xs i x ys h

entry-if : (b : Bool) (all : List Entry) (i : ℕ) (e : Entry) (before : Option ℕ) → slice_get all i ≡ Some e →
    cond b (Some e) (entry_at before all) ≡ entry_at (cond b (Some i) before) all
entry-if true all i e before h = sym h
entry-if false all i e before h = refl

latest-along : (all : List Entry) (name : List ℕ) (rest : List Entry) (i : ℕ) (before : Option ℕ) → drop i all ≡ rest →
    entry_or (entry_at before all) name rest ≡ entry_at (place_or before i name rest) all
latest-along all name [] i before h = refl
latest-along all name (e ∷ es) i before h =
    ap (λ o. entry_or o name es) (entry-if (bytes_eq name e.name) all i e before (head-at all i e es h))
    ∙ latest-along all name es (i + 1) (cond (bytes_eq name e.name) (Some i) before) (tail-at all i e es h)

pub entry-placed : (env : code.Environment) (name : List ℕ) (p : Option ℕ) → p ≡ place_or None 0 name env.entries → entry_at p env.entries ≡ entry_or None name env.entries
entry-placed env name p h = ap (λ x. entry_at x env.entries) h ∙ sym (latest-along env.entries name env.entries 0 None refl)

-- ---- one more entry

next-place : (i : ℕ) (xs : List Entry) (x : Entry) → i + 1 + length xs ≡ i + length (x ∷ xs)
next-place i xs x = omega arith

place-along : (before : Option ℕ) (i : ℕ) (name : List ℕ) (es : List Entry) (e : Entry) → place_or before i name (es ++ e ∷ []) ≡ cond (bytes_eq name e.name) (Some (i + length es)) (place_or before i name es)
place-along before i name [] e = ap (λ n. cond (bytes_eq name e.name) (Some n) before) (omega arith)
place-along before i name (x ∷ xs) e =
    place-along (cond (bytes_eq name x.name) (Some i) before) (i + 1) name xs e
    ∙ ap (λ n. cond (bytes_eq name e.name) (Some n) (place_or before i name (x ∷ xs))) (next-place i xs x)

place-added : (name : List ℕ) (es : List Entry) (e : Entry) → place_or None 0 name (es ++ e ∷ []) ≡ cond (bytes_eq name e.name) (Some (length es)) (place_or None 0 name es)
place-added name es e = place-along None 0 name es e ∙ ap (λ n. cond (bytes_eq name e.name) (Some n) (place_or None 0 name es)) (omega arith)

pub places-kept : {S : Type 0} (m n : HashMap (Bor (List ℕ)) ℕ S) (es new : List Entry) (e : Entry) (name : List ℕ) →
    get_by (λ k. bytes_eq name k.now) m ≡ place_or None 0 name es →
    get_by (λ k. bytes_eq name k.now) n ≡ cond (bytes_eq name e.name) (Some (length es)) (get_by (λ k. bytes_eq name k.now) m) →
    new ≡ es ++ e ∷ [] → get_by (λ k. bytes_eq name k.now) n ≡ place_or None 0 name new
places-kept m n es new e name h a q =
    a ∙ ap (cond (bytes_eq name e.name) (Some (length es))) h ∙ sym (place-added name es e) ∙ ap (place_or None 0 name) (sym q)

pub bytes_eq-turn : (xs ys : List ℕ) → bytes_eq xs ys ≡ bytes_eq ys xs
bytes_eq-turn xs ys =
    let d : Decides (bytes_eq ys xs) (ys ≡ xs) = bytes_eq-Decides ys xs in
    same_from_decides (bytes_eq xs ys) (bytes_eq ys xs) (bytes_eq-Decides xs ys) (λ e. sym (d.0 e), λ e. d.1 (sym e))

map-last : (es : List Entry) (e : Entry) → map item_of (es ++ e ∷ []) ≡ map item_of es ++ item_of e ∷ []
map-last [] e = refl
map-last (x ∷ xs) e = ap (λ l. item_of x ∷ l) (map-last xs e)

-- an environment with one more entry
pub seen-more : (env new : code.Environment) (e : Entry) → new.entries ≡ env.entries ++ e ∷ [] → new.positions ≡ env.positions → seen new ≡ declared e.name e.value e.declaration (seen env)
unfolding seen
seen-more env new e h p = λ i. record { items = (ap (map item_of) h ∙ map-last env.entries e) i; parameters = []; position = position_in (p i) }

-- ---- the same in the definition

map-cond : (b : Bool) (e : Entry) (before : Option Entry) → option_map item_of (cond b (Some e) before) ≡ cond b (Some (item_of e)) (option_map item_of before)
map-cond true e before = refl
map-cond false e before = refl

item-along : (name : List ℕ) (es : List Entry) (before : Option Entry) → option_map item_of (entry_or before name es) ≡ latest_or (option_map item_of before) name (map item_of es)
item-along name [] before = refl
item-along name (e ∷ es) before =
    item-along name es (cond (bytes_eq name e.name) (Some e) before)
    ∙ ap (λ o. latest_or o name (map item_of es)) (map-cond (bytes_eq name e.name) e before)

pub item-latest : (name : List ℕ) (es : List Entry) → option_map item_of (entry_or None name es) ≡ latest_or None name (map item_of es)
item-latest name es = item-along name es None

pub seen-items : (env : code.Environment) → (seen env).items ≡ map item_of env.entries
unfolding seen
seen-items env = refl

-- the value of an item
pub value-latest : (env : code.Environment) (name : List ℕ) (found : Option Entry) → found ≡ entry_or None name env.entries → option_map (λ e. e.value) found ≡ option_map (λ i. i.value) (latest_or None name (seen env).items)
value-latest env name found h =
    values found ∙ ap (option_map (λ i. i.value)) (ap (option_map item_of) h ∙ item-latest name env.entries ∙ ap (latest_or None name) (sym (seen-items env)))
  where
    values : (o : Option Entry) → option_map (λ e. e.value) o ≡ option_map (λ i. i.value) (option_map item_of o)
    values None = refl
    values (Some e) = refl

-- a parameter hides an item
pub item-hidden : (names : Environment) (name : List ℕ) (v : Value) → Some v ≡ parameter_or None name names.parameters → item_named name names ≡ None
unfolding item_named
item-hidden names name v h = ap (λ p. unhidden p (latest_or None name names.items)) (sym h)

pub item-visible : (env : code.Environment) (names : Environment) (name : List ℕ) (found : Option Entry) → names.items ≡ map item_of env.entries → None ≡ parameter_or None name names.parameters → found ≡ entry_or None name env.entries →
    option_map item_of found ≡ item_named name names
unfolding item_named
item-visible env names name found k h f =
    ap (option_map item_of) f ∙ item-latest name env.entries ∙ (λ i. unhidden (h i) (latest_or None name (sym k i)))

pub value-hidden : (names : Environment) (name : List ℕ) (v : Value) → Some v ≡ parameter_or None name names.parameters → v ≡ value_named name names
unfolding value_named
value-hidden names name v h = ap (λ p. visible p (latest_or None name names.items)) h

pub value-visible : (env : code.Environment) (names : Environment) (name : List ℕ) → names.items ≡ map item_of env.entries → None ≡ parameter_or None name names.parameters →
    visible None (latest_or None name (seen env).items) ≡ value_named name names
unfolding value_named seen
value-visible env names name k h = λ i. visible (h i) (latest_or None name (sym k i))

visible-by : (o : Option Item) (v : Value) → Some v ≡ option_map (λ i. i.value) o → v ≡ visible None o
visible-by None v h = cc
visible-by (Some i) v h = cc

visible-none : (o : Option Item) → None ≡ option_map (λ i. i.value) o → o ≡ None
visible-none None h = refl
visible-none (Some i) h = cc

pub value-declared : (env : code.Environment) (names : Environment) (name : List ℕ) (v : Value) → names.items ≡ map item_of env.entries → None ≡ parameter_or None name names.parameters → Some v ≡ option_map (λ i. i.value) (latest_or None name (seen env).items) →
    v ≡ value_named name names
value-declared env names name v k h f = visible-by (latest_or None name (seen env).items) v f ∙ value-visible env names name k h

pub value-unknown : (env : code.Environment) (names : Environment) (name : List ℕ) → names.items ≡ map item_of env.entries → None ≡ parameter_or None name names.parameters → None ≡ option_map (λ i. i.value) (latest_or None name (seen env).items) →
    visible None None ≡ value_named name names
value-unknown env names name k h f = ap (visible None) (sym (visible-none (latest_or None name (seen env).items) f)) ∙ value-visible env names name k h

-- ---- names under turns

pub items-in : (env : code.Environment) (ps : List parameters.Parameter) (ts : List Turn) → (under (within env ps) ts).items ≡ map item_of env.entries
unfolding within
items-in env ps ts = under-items (within env ps) ts

pub parameter-in : (env : code.Environment) (ps : List parameters.Parameter) (ts : List Turn) (name : List ℕ) → parameter_or None name (under (within env ps) ts).parameters ≡ in_turns (parameter_or None name (map parameter_of ps)) name ts
unfolding within
parameter-in env ps ts name = under-value (within env ps) name ts

pub positions-of : (env : code.Environment) (ps : List parameters.Parameter) (ts : List Turn) → (under (within env ps) ts).position ≡ position_in env.positions
unfolding within
positions-of env ps ts = under-position (within env ps) ts
