-- What a ground core keeps beside its soundness: what a model's constraints, tables, resources and search section have in
-- common, and the limits of size.
use Rattle.std.specs.Prelude.{◌≡◌, ℕ, suc, ◌+◌, ◌<◌, ◌≤◌, max, Bool, true, false, cond, ◌&&◌, ◌||◌, not, List, [], ◌∷◌, length, map, ℤ, pos, ◌≤ℤ◌, int_le, int_lt, nat_le, slice_get, slice_index_or, Option, Some, None}
use Rattle.std.specs.List.{All, list_all}
use Rattle.opl_domain.specs.Span.{span_size}
use Rattle.opl_expr.specs.declared.forms.Expr.{Expr}
use Rattle.opl_expr.specs.declared.forms.Cons.{Cons}
use Rattle.opl_expr.specs.declared.forms.Cons.TheOpen.{Expr-F, Cons-F}
use Rattle.opl_expr.specs.declared.forms.Cons.TheFolds.{fold-Expr, fold-Cons}
use Rattle.opl_expr.specs.declared.search.Step.{Step}
use Rattle.opl_expr.specs.declared.search.Step.TheOpen.{Step-F, Branch-F}
use Rattle.opl_expr.specs.declared.search.Step.TheFolds.{fold-Step}
use Rattle.opl_expr.specs.declared.tables.Table.{Table}
use Rattle.opl_expr.specs.declared.tables.Cell.{Cell}
use Rattle.opl_expr.specs.declared.tables.Cell.TheVariants as cell
use Rattle.opl_expr.specs.declared.tables.Resource.{Resource}
use Rattle.opl_expr.specs.declared.tables.Use.{Use}
use Rattle.opl_expr.specs.declared.model.Goal.{Goal}
use Rattle.opl_expr.specs.declared.model.Core.{Core}
use Rattle.opl_expr.specs.Holds.{same}
use Rattle.opl_expr.specs.Sound.{IsSoundTable}
use Rattle.opl_trace.specs.SoundCores.{IsSoundCore}

-- ---- the parts of expressions and constraints, in order, with what was found of each

abbrev pub expr_parts : {A : Type 0} → Expr-F A A → List A
expr_parts (Expr-F.Const k) = []
expr_parts (Expr-F.Var x) = []
expr_parts (Expr-F.Sum parts) = parts
expr_parts (Expr-F.Neg a) = a ∷ []
expr_parts (Expr-F.Mul a b) = a ∷ b ∷ []
expr_parts (Expr-F.Div a b) = a ∷ b ∷ []
expr_parts (Expr-F.Rem a b) = a ∷ b ∷ []
expr_parts (Expr-F.Abs a) = a ∷ []
expr_parts (Expr-F.Min parts) = parts
expr_parts (Expr-F.Max parts) = parts
expr_parts (Expr-F.At t parts) = parts
expr_parts (Expr-F.Truth c) = c ∷ []
expr_parts (Expr-F.Ask ask x) = []

abbrev pub cons_parts : {A : Type 0} → Cons-F A A → List A
cons_parts (Cons-F.Fixed b) = []
cons_parts (Cons-F.Cmp op a b) = a ∷ b ∷ []
cons_parts (Cons-F.And parts) = parts
cons_parts (Cons-F.Or parts) = parts
cons_parts (Cons-F.Imp a b) = a ∷ b ∷ []
cons_parts (Cons-F.Iff a b) = a ∷ b ∷ []
cons_parts (Cons-F.Not a) = a ∷ []
cons_parts (Cons-F.AllDifferent parts) = parts
cons_parts (Cons-F.Capacity r t) = []
cons_parts (Cons-F.Bound x) = []

-- ---- depth: a node has one more than its deepest part

-- the greatest of some numbers, and 0 where there is none
abbrev pub deepest : List ℕ → ℕ
deepest [] = 0
deepest (n ∷ ns) = max n (deepest ns)

unfoldable pub expr_depth : Expr → ℕ
expr_depth = fold-Expr ℕ ℕ (λ c. suc (deepest (cons_parts c))) (λ e. suc (deepest (expr_parts e)))

unfoldable pub cons_depth : Cons → ℕ
cons_depth = fold-Cons ℕ ℕ (λ c. suc (deepest (cons_parts c))) (λ e. suc (deepest (expr_parts e)))

-- ---- nodes: expressions, constraints and statements, each with its parts

abbrev pub total : List ℕ → ℕ
total [] = 0
total (n ∷ ns) = n + total ns

unfoldable pub expr_nodes : Expr → ℕ
expr_nodes = fold-Expr ℕ ℕ (λ c. suc (total (cons_parts c))) (λ e. suc (total (expr_parts e)))

unfoldable pub cons_nodes : Cons → ℕ
cons_nodes = fold-Cons ℕ ℕ (λ c. suc (total (cons_parts c))) (λ e. suc (total (expr_parts e)))

-- none where there is no key
abbrev pub key_nodes : Option Expr → ℕ
key_nodes None = 0
key_nodes (Some e) = expr_nodes e

abbrev pub step_count : Step-F ℕ ℕ → ℕ
step_count (Step-F.Post c) = suc (cons_nodes c)
step_count (Step-F.Block parts) = suc (total parts)
step_count (Step-F.Try parts) = suc (total parts)
step_count (Step-F.TryAll elements) = suc (total elements)
step_count (Step-F.ForAll elements) = suc (total elements)
step_count (Step-F.Select elements) = suc (total elements)
step_count (Step-F.Once s) = suc s
step_count (Step-F.While c s) = suc (cons_nodes c + s)
step_count (Step-F.If c s t) = suc (cons_nodes c + (s + t))
step_count (Step-F.Generate xs) = 1
step_count (Step-F.Rank pairs) = 1

-- an element is no node by itself
abbrev pub branch_count : Branch-F ℕ ℕ → ℕ
branch_count b = cons_nodes b.when + (key_nodes b.key + b.body)

unfoldable pub step_nodes : Step → ℕ
step_nodes = fold-Step ℕ ℕ step_count branch_count

abbrev pub section_nodes : Option Step → ℕ
section_nodes None = 0
section_nodes (Some s) = step_nodes s

abbrev pub goal_nodes : Option Goal → ℕ
goal_nodes None = 0
goal_nodes (Some g) = expr_nodes g.value

-- a resource whose capacity is asked counts its uses, once for all times
abbrev pub resource_nodes : Resource → ℕ
resource_nodes r = cond (int_lt r.from r.to) (length r.uses) 0

abbrev pub core_nodes : Core → ℕ
core_nodes core = total (map cons_nodes core.cons) + (goal_nodes core.goal + (section_nodes core.search + total (map resource_nodes core.resources)))

-- ---- what may stand where

-- the cell is a number
abbrev pub is_constant : Cell → Bool
is_constant (cell.Const k) = true
is_constant (cell.Var x) = false

-- the table is there, and has numbers alone
abbrev pub has_constants : Option Table → Bool
has_constants None = false
has_constants (Some t) = list_all is_constant t.cells

-- the resource is there, and the time is one at which its capacity is asked
abbrev pub is_time_of : Option Resource → ℤ → Bool
is_time_of None t = false
is_time_of (Some r) t = int_le r.from t && int_lt t r.to

module _ (tables : List Table) (resources : List Resource) (decides : Bool) where
  -- where it decides, as in a condition or a key, an expression has no variable, and names tables of numbers alone
  abbrev pub expr_may_stand : {A : Type 0} → Expr-F A A → Bool
  expr_may_stand (Expr-F.Var x) = not decides
  expr_may_stand (Expr-F.At t parts) = not decides || has_constants (slice_get tables t)
  expr_may_stand _ = true

  -- there it has no capacity either; elsewhere a capacity is asked at a time of its resource
  abbrev pub cons_may_stand : {A : Type 0} → Cons-F A A → Bool
  cons_may_stand (Cons-F.Capacity r t) = not decides && is_time_of (slice_get resources r) t
  cons_may_stand _ = true

  -- so it is with an expression and with each part of it
  unfoldable pub expr_stands : Expr → Bool
  expr_stands = fold-Expr Bool Bool (λ c. cons_may_stand c && list_all (λ b. b) (cons_parts c)) (λ e. expr_may_stand e && list_all (λ b. b) (expr_parts e))

  -- so it is with a constraint and with each part of it
  unfoldable pub cons_stands : Cons → Bool
  cons_stands = fold-Cons Bool Bool (λ c. cons_may_stand c && list_all (λ b. b) (cons_parts c)) (λ e. expr_may_stand e && list_all (λ b. b) (expr_parts e))

-- the greatest depth of an expression or a constraint
abbrev pub most_deep : ℕ
most_deep = 2048

-- an element: how it is ordered, whether it has a key, and whether it is well made
pub record Element : Type 0 where
  pub rising : Bool
  pub has_key : Bool
  pub is_well_made : Bool

-- the elements of a list are ordered alike, and all or none have a key
abbrev pub are_alike : List Element → Bool
are_alike [] = true
are_alike (a ∷ others) = list_all (λ b. same a.rising b.rising && same a.has_key b.has_key) others

abbrev pub are_well_made : List Element → Bool
are_well_made bs = are_alike bs && list_all (λ b. b.is_well_made) bs

abbrev pub is_some_expr : Option Expr → Bool
is_some_expr None = false
is_some_expr (Some e) = true

module _ (tables : List Table) (resources : List Resource) where
  -- an expression is not too deep, and may stand
  abbrev pub expr_fits : Bool → ℕ → Expr → Bool
  expr_fits decides n e = nat_le (expr_depth e) n && expr_stands tables resources decides e

  -- a constraint is not too deep, and may stand
  abbrev pub cons_fits : Bool → ℕ → Cons → Bool
  cons_fits decides n c = nat_le (cons_depth c) n && cons_stands tables resources decides c

  abbrev pub key_fits : Option Expr → Bool
  key_fits None = true
  key_fits (Some e) = expr_fits true most_deep e

  -- a statement is well made: its constraints, conditions and keys fit, and the elements of a list are alike
  abbrev pub step_made : Step-F Bool Element → Bool
  step_made (Step-F.Post c) = cons_fits false most_deep c
  step_made (Step-F.Block parts) = list_all (λ b. b) parts
  step_made (Step-F.Try parts) = list_all (λ b. b) parts
  step_made (Step-F.TryAll elements) = are_well_made elements
  step_made (Step-F.ForAll elements) = are_well_made elements
  step_made (Step-F.Select elements) = are_well_made elements
  step_made (Step-F.Once s) = s
  step_made (Step-F.While c s) = cons_fits true most_deep c && s
  step_made (Step-F.If c s t) = cons_fits true most_deep c && (s && t)
  step_made (Step-F.Generate xs) = true
  step_made (Step-F.Rank pairs) = true

  abbrev pub branch_made : Branch-F Bool Element → Element
  branch_made b = record { rising = b.rising; has_key = is_some_expr b.key; is_well_made = cons_fits true most_deep b.when && (key_fits b.key && b.body) }

  unfoldable pub is_well_made : Step → Bool
  is_well_made = fold-Step Bool Element step_made branch_made

  abbrev pub section_fits : Option Step → Bool
  section_fits None = true
  section_fits (Some s) = is_well_made s

  abbrev pub goal_fits : Option Goal → Bool
  goal_fits None = true
  goal_fits (Some g) = expr_fits false most_deep g.value

-- ---- resources

-- no value between the ends is negative
abbrev pub HasNoNegative : ℤ × ℤ → Type 0
HasNoNegative ends = ends.0 ≤ℤ ends.1 → pos 0 ≤ℤ ends.0

module _ (sets : List (ℤ × ℤ)) where
  -- a use demands no less than nothing; its start and its duration are variables, and no declared duration is negative
  pub record IsSoundUse (u : Use) : Type 0 where
    pub demand : pos 0 ≤ℤ u.demand
    pub start : u.start < length sets
    pub duration : u.duration < length sets
    pub lasts : HasNoNegative (slice_index_or sets u.duration (pos 0, pos 0))

  pub record IsSoundResource (r : Resource) : Type 0 where
    pub capacity : pos 0 ≤ℤ r.capacity
    pub uses : All IsSoundUse r.uses

-- ---- ground cores

-- how many values the declared sets have together
abbrev pub all_values : List (ℤ × ℤ) → ℕ
all_values sets = total (map (λ p. span_size (record { low = p.0; high = p.1 })) sets)

-- a ground core is sound, and its variables have names; its tables are whole and its resources sound, whether they are named or
-- not; its constraints, its objective and its section fit; and it isn't too large: at most 65,536 variables, 33,554,432 declared
-- values and 4,194,304 nodes
pub record IsGroundCore (core : Core) : Type 0 where
  pub sound : IsSoundCore core
  pub named : length core.names ≡ length core.sets
  pub tables : All (λ t. IsSoundTable core.sets (Some t)) core.tables
  pub resources : All (IsSoundResource core.sets) core.resources
  pub constraints : list_all (cons_fits core.tables core.resources false most_deep) core.cons ≡ true
  pub goal : goal_fits core.tables core.resources core.goal ≡ true
  pub search : section_fits core.tables core.resources core.search ≡ true
  pub few : length core.sets ≤ 65536
  pub values : all_values core.sets ≤ 33554432
  pub nodes : core_nodes core ≤ 4194304
