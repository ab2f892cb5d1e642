-- What holds of all ranges.
use Rattle.std.specs.Prelude.{◌≡◌, Bool, true, ◌&&◌, not, List, [], ◌∷◌, map, ℤ, Option, Some, None}
use Rattle.std.specs.List.{list_all}
use Rattle.opl_domain.specs.Span.{IsInside, point}
use Rattle.opl_domain.specs.Family.{Family, Below, Full, member}
use Rattle.opl_expr.specs.declared.tables.Table.{Table}
use Rattle.opl_expr.specs.Forms.{Term, Terms, Fact, Facts}
use Rattle.opl_expr.specs.Options.{lift1}
use Rattle.opl_expr.specs.Range.{range, fact_range, is_possible}
use Rattle.opl_expr.specs.Holds.{bit, value, holds}

-- over a family within another, a range lies within the range over the other
pub record Monotony : Type 0 where
  pub terms : (t : Term) (F G : Family) → Full F → Below F G → IsInside (range F t) (range G t)
  pub facts : (c : Fact) (F G : Family) → Full F → Below F G → IsInside (fact_range F c) (fact_range G c)

-- the family in which each variable has one value, that of the assignment
abbrev pub singles : List ℤ → Family
singles a = map (λ v. v ∷ []) a

-- no number stands twice in the list
abbrev pub all_differ : List ℤ → Bool
all_differ [] = true
all_differ (v ∷ others) = not (member v others) && all_differ others

-- in each dimension of the table the indices differ
abbrev pub is_clear : Option Table → Bool
is_clear None = true
is_clear (Some t) = list_all all_differ t.dims

-- so it is with each table that an expression or a constraint names
abbrev mutual
  pub clear : Term → Bool
  clear (Term.const k) = true
  clear (Term.var x) = true
  clear (Term.sum ts) = all_clear ts
  clear (Term.neg t) = clear t
  clear (Term.scale k t) = clear t
  clear (Term.mul s t) = clear s && clear t
  clear (Term.div s t) = clear s && clear t
  clear (Term.rem s t) = clear s && clear t
  clear (Term.abs t) = clear t
  clear (Term.least ts) = all_clear ts
  clear (Term.greatest ts) = all_clear ts
  clear (Term.at table ts) = is_clear table && all_clear ts
  clear (Term.truth c) = clear_fact c
  clear (Term.asked ask x) = true

  pub all_clear : Terms → Bool
  all_clear Terms.no_terms = true
  all_clear (Terms.more_terms t ts) = clear t && all_clear ts

  pub clear_fact : Fact → Bool
  clear_fact (Fact.fixed b) = true
  clear_fact (Fact.cmp rel s t) = clear s && clear t
  clear_fact (Fact.and cs) = clear_facts cs
  clear_fact (Fact.or cs) = clear_facts cs
  clear_fact (Fact.iff c d) = clear_fact c && clear_fact d
  clear_fact (Fact.not c) = clear_fact c
  clear_fact (Fact.different ts) = all_clear ts
  clear_fact (Fact.bound x) = true

  pub clear_facts : Facts → Bool
  clear_facts Facts.no_facts = true
  clear_facts (Facts.more_facts c cs) = clear_fact c && clear_facts cs

-- over single values, the range of an expression is its value, and that of a constraint is 1 or 0 as it holds or not;
-- it is missing exactly where they are undefined
pub record Singles : Type 0 where
  pub terms : (t : Term) (a : List ℤ) → clear t ≡ true → range (singles a) t ≡ lift1 point (value a t)
  pub facts : (c : Fact) (a : List ℤ) → clear_fact c ≡ true → fact_range (singles a) c ≡ lift1 (λ b. point (bit b)) (holds a c)

-- a family that has an assignment on which a constraint holds does not refute the constraint
abbrev pub NoneRefuted : Type 0
NoneRefuted =
    (c : Fact) (a : List ℤ) (F : Family) → clear_fact c ≡ true → holds a c ≡ Some true → Below (singles a) F → is_possible (fact_range F c) ≡ true
