-- The value of an expression, and whether a constraint holds, on a whole assignment: the list of the variables' values.
use Rattle.std.specs.Prelude.{ℕ, suc, Bool, true, false, cond, ◌&&◌, ◌||◌, not, List, [], ◌∷◌, ℤ, pos, ◌+ℤ◌, ◌*ℤ◌, neg_ℤ, int_div, int_rem, int_le, int_lt, unsigned_abs, slice_index_or, Option, Some, None}
use Rattle.std.specs.Ordering.{int_eq}
use Rattle.opl_domain.specs.Span.{smaller, larger}
use Rattle.opl_expr.specs.declared.forms.Op.{Op}
use Rattle.opl_expr.specs.declared.forms.Op.TheVariants.{Eq, Ne, Lt, Le, Gt, Ge}
use Rattle.opl_expr.specs.declared.tables.Cell.{Cell}
use Rattle.opl_expr.specs.declared.tables.Use.{Use}
use Rattle.opl_expr.specs.declared.tables.Cell.TheVariants as cell
use Rattle.opl_expr.specs.Forms.{Relation, Term, Terms, Fact, Facts}
use Rattle.opl_expr.specs.Forms.Relation.{equal, at_most, below}
use Rattle.opl_expr.specs.Options.{lift1, lift, bind, lift_all, lift_some}
use Rattle.opl_expr.specs.Range.{look_up, pairwise}

-- a truth as a number
abbrev pub bit : Bool → ℤ
bit b = cond b (pos 1) (pos 0)

-- the value of variable x
abbrev pub value_at : List ℤ → ℕ → ℤ
value_at a x = slice_index_or a x (pos 0)

-- the truncated quotient and the remainder are missing where the divisor is 0
abbrev pub quotient : ℤ → ℤ → Option ℤ
quotient x y = cond (int_eq y (pos 0)) None (Some (int_div x y))

abbrev pub remainder : ℤ → ℤ → Option ℤ
remainder x y = cond (int_eq y (pos 0)) None (Some (int_rem x y))

abbrev pub relates : Relation → ℤ → ℤ → Bool
relates equal x y = int_eq x y
relates at_most x y = int_le x y
relates below x y = int_lt x y

-- a comparison of two numbers, as it is written
abbrev pub op_relates : Op → ℤ → ℤ → Bool
op_relates Eq x y = int_eq x y
op_relates Ne x y = not (int_eq x y)
op_relates Lt x y = int_lt x y
op_relates Le x y = int_le x y
op_relates Gt x y = int_lt y x
op_relates Ge x y = int_le y x

-- a subscript has a value, and that is the index
abbrev pub is_index : Option ℤ → ℤ → Bool
is_index None i = false
is_index (Some v) i = int_eq v i

abbrev pub cell_value : List ℤ → Cell → ℤ
cell_value a (cell.Const k) = k
cell_value a (cell.Var x) = value_at a x

abbrev pub same : Bool → Bool → Bool
same b c = cond b c (not c)

-- the activity of a use runs at time t
abbrev pub is_active : List ℤ → ℤ → Use → Bool
is_active a t u = int_le (value_at a u.start) t && int_lt t (value_at a u.start +ℤ value_at a u.duration)

-- what the uses demand at time t
abbrev pub demand_of : List ℤ → ℤ → Use → ℤ
demand_of a t u = cond (is_active a t u) u.demand (pos 0)

abbrev pub total_demand : List ℤ → ℤ → List Use → ℤ
total_demand a t [] = pos 0
total_demand a t (u ∷ uses) = demand_of a t u +ℤ total_demand a t uses

-- the place of a number in a list, if it is there
abbrev pub place_in : ℤ → List ℤ → Option ℕ
place_in v [] = None
place_in v (w ∷ others) = cond (int_eq v w) (Some 0) (lift1 suc (place_in v others))

module _ (a : List ℤ) where
  abbrev mutual
    -- the value of an expression; missing where a part of it is undefined
    pub value : Term → Option ℤ
    value (Term.const k) = Some k
    value (Term.var x) = Some (value_at a x)
    value (Term.sum ts) = lift_all ◌+ℤ◌ (pos 0) (all_values ts)
    value (Term.neg t) = lift1 neg_ℤ (value t)
    value (Term.scale k t) = lift1 (λ v. k *ℤ v) (value t)
    value (Term.mul s t) = lift ◌*ℤ◌ (value s) (value t)
    value (Term.div s t) = bind quotient (value s) (value t)
    value (Term.rem s t) = bind remainder (value s) (value t)
    value (Term.abs t) = lift1 (λ v. pos (unsigned_abs v)) (value t)
    value (Term.least ts) = lift_some smaller (all_values ts)
    value (Term.greatest ts) = lift_some larger (all_values ts)
    value (Term.at table ts) = look_up is_index (cell_value a) (λ v w. v) table (all_values ts)
    value (Term.truth c) = lift1 bit (holds c)
    value (Term.asked ask x) = None

    pub all_values : Terms → List (Option ℤ)
    all_values Terms.no_terms = []
    all_values (Terms.more_terms t ts) = value t ∷ all_values ts

    -- whether a constraint holds; missing where a part of it is undefined, even beside one that decides
    pub holds : Fact → Option Bool
    holds (Fact.fixed b) = Some b
    holds (Fact.cmp rel s t) = lift (relates rel) (value s) (value t)
    holds (Fact.and cs) = lift_all (λ b c. b && c) true (all_hold cs)
    holds (Fact.or cs) = lift_all (λ b c. b || c) false (all_hold cs)
    holds (Fact.iff c d) = lift same (holds c) (holds d)
    holds (Fact.not c) = lift1 not (holds c)
    holds (Fact.different ts) = lift_all (λ b c. b && c) true (pairwise (lift1 (λ v. true)) (lift (op_relates Ne)) (all_values ts))
    holds (Fact.bound x) = None

    pub all_hold : Facts → List (Option Bool)
    all_hold Facts.no_facts = []
    all_hold (Facts.more_facts c cs) = holds c ∷ all_hold cs
