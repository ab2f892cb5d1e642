-- The statements of a search section as plain data, on which the search is defined.
use Rattle.std.specs.Prelude.{ℕ, Bool, List, [], ◌∷◌, Option}
use Rattle.opl_expr.specs.declared.tables.Table.{Table}
use Rattle.opl_expr.specs.declared.tables.Resource.{Resource}
use Rattle.opl_expr.specs.declared.search.Step.{Step}
use Rattle.opl_expr.specs.declared.search.Step.TheOpen.{Step-F, Branch-F}
use Rattle.opl_expr.specs.declared.search.Step.TheFolds.{fold-Step}
use Rattle.opl_expr.specs.Forms.{Term, Fact, term, fact}
use Rattle.opl_expr.specs.Options.{lift1}

mutual
  pub data Statement : Type 0 where
    post : Fact → Statement
    block : Statements → Statement
    try : Statements → Statement
    try_all : Branches → Statement
    for_all : Branches → Statement
    select : Branches → Statement
    once : Statement → Statement
    while : Fact → Statement → Statement
    decide : Fact → Statement → Statement → Statement
    generate : List ℕ → Statement
    rank : List (ℕ × ℕ) → Statement

  pub data Statements : Type 0 where
    no_statements : Statements
    more_statements : Statement → Statements → Statements

  -- the condition of an element, its key, whether the least key comes first, and its body
  pub data Branch : Type 0 where
    branch : Fact → Option Term → Bool → Statement → Branch

  pub data Branches : Type 0 where
    no_branches : Branches
    more_branches : Branch → Branches → Branches

abbrev pub statements_of : List Statement → Statements
statements_of [] = no_statements
statements_of (s ∷ ss) = more_statements s (statements_of ss)

abbrev pub branches_of : List Branch → Branches
branches_of [] = no_branches
branches_of (b ∷ bs) = more_branches b (branches_of bs)

module _ (tables : List Table) (resources : List Resource) where
  -- one layer of a statement, its parts being plain data already
  abbrev pub step_layer : Step-F Statement Branch → Statement
  step_layer (Step-F.Post c) = post (fact tables resources c)
  step_layer (Step-F.Block parts) = block (statements_of parts)
  step_layer (Step-F.Try parts) = try (statements_of parts)
  step_layer (Step-F.TryAll elements) = try_all (branches_of elements)
  step_layer (Step-F.ForAll elements) = for_all (branches_of elements)
  step_layer (Step-F.Select elements) = select (branches_of elements)
  step_layer (Step-F.Once s) = once s
  step_layer (Step-F.While c s) = while (fact tables resources c) s
  step_layer (Step-F.If c s t) = decide (fact tables resources c) s t
  step_layer (Step-F.Generate xs) = generate xs
  step_layer (Step-F.Rank pairs) = rank pairs

  abbrev pub branch_layer : Branch-F Statement Branch → Branch
  branch_layer b = branch (fact tables resources b.when) (lift1 (term tables resources) b.key) b.rising b.body

  -- the plain data of a statement
  unfoldable pub statement : Step → Statement
  statement = fold-Step Statement Branch step_layer branch_layer
