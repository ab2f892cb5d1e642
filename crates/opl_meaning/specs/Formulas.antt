-- The decision variables by name, and where an expression names one.
use Rattle.std.specs.Prelude.{ℕ, Bool, List, map}
use Rattle.opl_term.specs.declared.term.Term.{Term}
use Rattle.opl_meaning.specs.declared.variable.Kind.{Kind}
use Rattle.opl_meaning.specs.Runs.{Text, Names, use_of}

-- a decision variable that is no array: its name, its number among all elements, and what its values are
pub record Plain : Type 0 where
  pub name : Text
  pub number : ℕ
  pub kind : Kind

-- the decision variables: the names of all, and those that are no arrays
pub record Scope : Type 0 where
  pub all : List Text
  pub plain : List Plain

abbrev pub names_in : Scope → Names
names_in scope = record { all = scope.all; plain = map (λ p. p.name) scope.plain }

-- whether a decision variable is named in an expression
abbrev pub is_mentioned : Scope → Term → Bool
is_mentioned scope t = (use_of (names_in scope) t).is_mentioned
