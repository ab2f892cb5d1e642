-- The paths of a plain search section, without domains and marks.
use Rattle.std.specs.Prelude.{Bool, true, false, ◌&&◌, List, [], ◌∷◌, ◌++◌, map, length, ℤ, Option, Some, None}
use Rattle.std.specs.List.{filter, flat_map}
use Rattle.opl_expr.specs.declared.model.Core.{Core}
use Rattle.opl_expr.specs.Forms.{Term, Terms, Fact, Facts}
use Rattle.opl_trace.specs.Answers.{is_met}
use Rattle.opl_trace.specs.Elements.{Arm, pick, ordered, taken}
use Rattle.opl_trace.specs.Solutions.{satisfies, solutions}
use Rattle.opl_trace.specs.Statements.{Statement, Statements, Branch, Branches}
use Rattle.opl_trace.specs.Statements.Statement.{post, block, try, try_all, for_all, select, once, while, decide, generate, rank}
use Rattle.opl_trace.specs.Statements.Statements.{no_statements, more_statements}
use Rattle.opl_trace.specs.Statements.Branch.{branch}
use Rattle.opl_trace.specs.Statements.Branches.{no_branches, more_branches}

-- a path: the constraints that it posts, in order
abbrev pub Path : Type 0
Path = List Fact

-- each path of the first list joined with each of the second; the first varies slowest
abbrev pub joinings : List Path → List Path → List Path
joinings ps qs = flat_map (λ p. map (λ q. p ++ q) qs) ps

-- the paths of elements, as those of a sequence
abbrev pub sequence : List (Arm (List Path)) → List Path
sequence [] = [] ∷ []
sequence (a ∷ others) = joinings a.body (sequence others)

-- the paths of the first element by its key, if there is one
abbrev pub first_paths : List (Arm (List Path)) → List Path
first_paths [] = []
first_paths (a ∷ others) = (pick [] a others).arm.body

-- the paths of the part that a condition takes
abbrev pub either : Bool → List Path → List Path → List Path
either true ps qs = ps
either false ps qs = qs

abbrev mutual
  -- the paths of a plain statement; its conditions and keys ask nothing, so that no family is needed to decide them
  pub paths : Statement → List Path
  paths (post c) = (c ∷ []) ∷ []
  paths (block ss) = joined_paths ss
  paths (try ss) = each_path ss
  paths (try_all bs) = let ready = taken [] (routes bs) in flat_map (λ a. a.body) (ordered [] (length ready) ready)
  paths (for_all bs) = let ready = taken [] (routes bs) in sequence (ordered [] (length ready) ready)
  paths (select bs) = first_paths (taken [] (routes bs))
  paths (decide c s t) = either (is_met [] c) (paths s) (paths t)
  paths (once s) = []
  paths (while c s) = []
  paths (generate xs) = []
  paths (rank pairs) = []

  pub joined_paths : Statements → List Path
  joined_paths no_statements = [] ∷ []
  joined_paths (more_statements s ss) = joinings (paths s) (joined_paths ss)

  pub each_path : Statements → List Path
  each_path no_statements = []
  each_path (more_statements s ss) = paths s ++ each_path ss

  pub route : Branch → Arm (List Path)
  route (branch c key rising s) = record { when = c; key = key; rising = rising; body = paths s }

  pub routes : Branches → List (Arm (List Path))
  routes no_branches = []
  routes (more_branches b bs) = route b ∷ routes bs

-- the solutions that the paths reach: path after path, those on which every constraint of the path holds
abbrev pub reached : Core → Statement → List (List ℤ)
reached core s = flat_map (λ p. filter (satisfies p) (solutions core)) (paths s)

-- ---- plain sections

abbrev mutual
  -- nothing is asked in an expression
  pub asks_none : Term → Bool
  asks_none (Term.const k) = true
  asks_none (Term.var x) = true
  asks_none (Term.sum ts) = all_ask_none ts
  asks_none (Term.neg t) = asks_none t
  asks_none (Term.scale k t) = asks_none t
  asks_none (Term.mul s t) = asks_none s && asks_none t
  asks_none (Term.div s t) = asks_none s && asks_none t
  asks_none (Term.rem s t) = asks_none s && asks_none t
  asks_none (Term.abs t) = asks_none t
  asks_none (Term.least ts) = all_ask_none ts
  asks_none (Term.greatest ts) = all_ask_none ts
  asks_none (Term.at table ts) = all_ask_none ts
  asks_none (Term.truth c) = is_free c
  asks_none (Term.asked ask x) = false

  pub all_ask_none : Terms → Bool
  all_ask_none Terms.no_terms = true
  all_ask_none (Terms.more_terms t ts) = asks_none t && all_ask_none ts

  -- nothing is asked in a constraint
  pub is_free : Fact → Bool
  is_free (Fact.fixed b) = true
  is_free (Fact.cmp relation s t) = asks_none s && asks_none t
  is_free (Fact.and cs) = all_free cs
  is_free (Fact.or cs) = all_free cs
  is_free (Fact.iff c d) = is_free c && is_free d
  is_free (Fact.not c) = is_free c
  is_free (Fact.different ts) = all_ask_none ts
  is_free (Fact.bound x) = false

  pub all_free : Facts → Bool
  all_free Facts.no_facts = true
  all_free (Facts.more_facts c cs) = is_free c && all_free cs

abbrev pub is_free_key : Option Term → Bool
is_free_key None = true
is_free_key (Some t) = asks_none t

abbrev mutual
  -- the statement has no `once`, `while`, `generate` and `rank`, and asks nothing
  pub is_plain : Statement → Bool
  is_plain (post c) = is_free c
  is_plain (block ss) = all_plain ss
  is_plain (try ss) = all_plain ss
  is_plain (try_all bs) = plain_branches bs
  is_plain (for_all bs) = plain_branches bs
  is_plain (select bs) = plain_branches bs
  is_plain (decide c s t) = is_free c && (is_plain s && is_plain t)
  is_plain (once s) = false
  is_plain (while c s) = false
  is_plain (generate xs) = false
  is_plain (rank pairs) = false

  pub all_plain : Statements → Bool
  all_plain no_statements = true
  all_plain (more_statements s ss) = is_plain s && all_plain ss

  pub plain_branch : Branch → Bool
  plain_branch (branch c key rising s) = is_free c && (is_free_key key && is_plain s)

  pub plain_branches : Branches → Bool
  plain_branches no_branches = true
  plain_branches (more_branches b bs) = plain_branch b && plain_branches bs
