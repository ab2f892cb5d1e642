-- What a sound core keeps, as far as its search needs it, and so do constraints and best values that are handed in beside it.
use Rattle.std.specs.Prelude.{ℕ, suc, ◌+◌, ◌<◌, ◌≤◌, ◌^◌, List, [], ◌∷◌, length, map, ℤ, ◌≤ℤ◌, unsigned_abs, Option, Some, None}
use Rattle.std.specs.List.{All}
use Rattle.opl_domain.specs.Span.{span_size}
use Rattle.opl_domain.specs.Family.{most_values}
use Rattle.opl_expr.specs.declared.model.Core.{Core}
use Rattle.opl_expr.specs.declared.forms.Cons.{Cons}
use Rattle.opl_expr.specs.Forms.{Term, Fact, fact}
use Rattle.opl_expr.specs.Solutions.{facts, goal_term}
use Rattle.opl_expr.specs.Sound.{IsSmall, term_magnitude, IsSoundTerm, IsSoundFact}
use Rattle.opl_trace.specs.Statements.{Statement, Statements, Branch, Branches}
use Rattle.opl_trace.specs.Statements.Statement.{post, block, try, try_all, for_all, select, once, while, decide, generate, rank}
use Rattle.opl_trace.specs.Statements.Statements.{no_statements, more_statements}
use Rattle.opl_trace.specs.Statements.Branch.{branch}
use Rattle.opl_trace.specs.Statements.Branches.{no_branches, more_branches}
use Rattle.opl_trace.specs.Marks.{section}
use Rattle.opl_trace.specs.Questions.{IsOpenTerm, IsOpenFact}
use Rattle.std.specs.Prelude.{false}

-- the ends of a declared set are at most 2^62 in absolute value, and it has at most 1,048,576 values
pub record IsSoundSet (ends : ℤ × ℤ) : Type 0 where
  pub low : unsigned_abs ends.0 ≤ 2 ^ 62
  pub high : unsigned_abs ends.1 ≤ 2 ^ 62
  pub few : ends.0 ≤ℤ ends.1 → span_size (record { low = ends.0; high = ends.1 }) ≤ most_values

module _ (sets : List (ℤ × ℤ)) where
  -- each number is that of a variable
  abbrev pub AreThere : List ℕ → Type 0
  AreThere [] = Unit {0}
  AreThere (x ∷ xs) = (x < length sets) × AreThere xs

  -- both starts of each pair have their durations behind them
  abbrev pub ArePairs : List (ℕ × ℕ) → Type 0
  ArePairs [] = Unit {0}
  ArePairs (p ∷ ps) = (suc p.0 < length sets) × (suc p.1 < length sets) × ArePairs ps

  abbrev pub IsOpenKey : Option Term → Type 0
  IsOpenKey None = Unit {0}
  IsOpenKey (Some t) = IsOpenTerm sets t

  abbrev mutual
    -- all constraints, conditions and keys of a statement are sound
    pub IsSoundStatement : Statement → Type 0
    IsSoundStatement (post c) = IsOpenFact sets c
    IsSoundStatement (block ss) = AreSoundStatements ss
    IsSoundStatement (try ss) = AreSoundStatements ss
    IsSoundStatement (try_all bs) = AreSoundBranches bs
    IsSoundStatement (for_all bs) = AreSoundBranches bs
    IsSoundStatement (select bs) = AreSoundBranches bs
    IsSoundStatement (once s) = IsSoundStatement s
    IsSoundStatement (while c s) = IsOpenFact sets c × IsSoundStatement s
    IsSoundStatement (decide c s t) = IsOpenFact sets c × IsSoundStatement s × IsSoundStatement t
    IsSoundStatement (generate xs) = AreThere xs
    IsSoundStatement (rank ps) = ArePairs ps

    pub AreSoundStatements : Statements → Type 0
    AreSoundStatements no_statements = Unit {0}
    AreSoundStatements (more_statements s ss) = IsSoundStatement s × AreSoundStatements ss

    pub IsSoundBranch : Branch → Type 0
    IsSoundBranch (branch c key rising s) = IsOpenFact sets c × IsOpenKey key × IsSoundStatement s

    pub AreSoundBranches : Branches → Type 0
    AreSoundBranches no_branches = Unit {0}
    AreSoundBranches (more_branches b bs) = IsSoundBranch b × AreSoundBranches bs

  -- the objective is sound, and twice its magnitude is small
  abbrev pub IsSoundGoal : Option Term → Type 0
  IsSoundGoal None = Unit {0}
  IsSoundGoal (Some t) = IsSmall (term_magnitude sets t + term_magnitude sets t) × IsSoundTerm sets t

  abbrev pub IsSoundSection : Option Statement → Type 0
  IsSoundSection None = Unit {0}
  IsSoundSection (Some s) = IsSoundStatement s

-- a sound core
pub record IsSoundCore (core : Core) : Type 0 where
  pub few : length core.sets < 2 ^ 32
  pub sets : All IsSoundSet core.sets
  pub constraints : All (IsSoundFact core.sets) (facts core)
  pub goal : IsSoundGoal core.sets (goal_term core)
  pub search : IsSoundSection core.sets (section false core)

-- ---- beside a core

-- constraints as plain data
abbrev pub facts_in : Core → List Cons → List Fact
facts_in core cs = map (fact core.tables core.resources) cs

-- all constraints are sound
abbrev pub AreSound : Core → List Fact → Type 0
AreSound core P = All (IsSoundFact core.sets) P

-- a best value is no greater than the magnitude of the objective
abbrev pub IsBest : List (ℤ × ℤ) → Option Term → Option ℤ → Type 0
IsBest sets goal None = Unit {0}
IsBest sets None (Some v) = Unit {0}
IsBest sets (Some t) (Some v) = unsigned_abs v ≤ term_magnitude sets t
