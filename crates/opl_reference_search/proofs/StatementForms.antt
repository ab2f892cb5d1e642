-- The plain data of each statement.
use Rattle.std.proofs.Common.{◌≡◌, List, map, ℕ, ap, sym, ◌∙◌}
use Rattle.opl_expr.specs.declared.forms.Cons.{Cons}
use Rattle.opl_expr.specs.declared.search.Step.{Step}
use Rattle.opl_expr.specs.declared.search.Step.TheVariants as S
use Rattle.opl_expr.specs.declared.search.Step.TheOpen.{Step-F, Branch-F}
use Rattle.opl_expr.specs.declared.search.Step.TheFolds.{fold-Branch, fold-roll-Step, fold-roll-Branch, map-Step, map-Branch}
use Rattle.opl_expr.specs.declared.search.Step.TheViews.{roll-Step, roll-Branch, out-Branch, roll-out-Branch}
use Rattle.opl_expr.specs.declared.search.Branch as code
use Rattle.opl_expr.specs.declared.tables.Table.{Table}
use Rattle.opl_expr.specs.declared.tables.Resource.{Resource}
use Rattle.opl_expr.specs.Forms.{term, fact}
use Rattle.opl_expr.specs.Options.{lift1}
use Rattle.opl_trace.specs.Statements.{Statement, Branch, step_layer, branch_layer, statement, statements_of, branches_of}
use Rattle.opl_trace.specs.Statements.Statement.{post, block, try, try_all, for_all, select, once, while, decide, generate, rank}
use Rattle.opl_trace.specs.Statements.Branch.{branch}

module _ (tables : List Table) (resources : List Resource) where
  abbrev pub st : Step → Statement
  st s = statement tables resources s

  abbrev pub br : code.Branch → Branch
  br b = fold-Branch Statement Branch (step_layer tables resources) (branch_layer tables resources) b

  layer : (d : Step-F Step code.Branch) → st (roll-Step d) ≡ step_layer tables resources (map-Step Step code.Branch Statement Branch st br d)
  unfolding statement
  layer d = fold-roll-Step Statement Branch (step_layer tables resources) (branch_layer tables resources) d

  branch_of : (d : Branch-F Step code.Branch) → br (roll-Branch d) ≡ branch_layer tables resources (map-Branch Step code.Branch Statement Branch st br d)
  unfolding statement
  branch_of d = fold-roll-Branch Statement Branch (step_layer tables resources) (branch_layer tables resources) d

  pub branch_is : (b : code.Branch) → br b ≡ branch (fact tables resources b.when) (lift1 (term tables resources) b.key) b.rising (st b.body)
  branch_is b = ap br (sym (roll-out-Branch b)) ∙ branch_of (out-Branch b)

  pub statement_Post : (c : Cons) → st (S.Post c) ≡ post (fact tables resources c)
  statement_Post c = ap st (sym (S.rolls-Post c)) ∙ layer (Step-F.Post c)

  pub statement_Block : (ss : List Step) → st (S.Block ss) ≡ block (statements_of (map st ss))
  statement_Block ss = ap st (sym (S.rolls-Block ss)) ∙ layer (Step-F.Block ss)

  pub statement_Try : (ss : List Step) → st (S.Try ss) ≡ try (statements_of (map st ss))
  statement_Try ss = ap st (sym (S.rolls-Try ss)) ∙ layer (Step-F.Try ss)

  pub statement_TryAll : (bs : List code.Branch) → st (S.TryAll bs) ≡ try_all (branches_of (map br bs))
  statement_TryAll bs = ap st (sym (S.rolls-TryAll bs)) ∙ layer (Step-F.TryAll bs)

  pub statement_ForAll : (bs : List code.Branch) → st (S.ForAll bs) ≡ for_all (branches_of (map br bs))
  statement_ForAll bs = ap st (sym (S.rolls-ForAll bs)) ∙ layer (Step-F.ForAll bs)

  pub statement_Select : (bs : List code.Branch) → st (S.Select bs) ≡ select (branches_of (map br bs))
  statement_Select bs = ap st (sym (S.rolls-Select bs)) ∙ layer (Step-F.Select bs)

  pub statement_Once : (s : Step) → st (S.Once s) ≡ once (st s)
  statement_Once s = ap st (sym (S.rolls-Once s)) ∙ layer (Step-F.Once s)

  pub statement_While : (c : Cons) (s : Step) → st (S.While c s) ≡ while (fact tables resources c) (st s)
  statement_While c s = ap st (sym (S.rolls-While c s)) ∙ layer (Step-F.While c s)

  pub statement_If : (c : Cons) (s t : Step) → st (S.If c s t) ≡ decide (fact tables resources c) (st s) (st t)
  statement_If c s t = ap st (sym (S.rolls-If c s t)) ∙ layer (Step-F.If c s t)

  pub statement_Generate : (xs : List ℕ) → st (S.Generate xs) ≡ generate xs
  statement_Generate xs = ap st (sym (S.rolls-Generate xs)) ∙ layer (Step-F.Generate xs)

  pub statement_Rank : (ps : List (ℕ × ℕ)) → st (S.Rank ps) ≡ rank ps
  statement_Rank ps = ap st (sym (S.rolls-Rank ps)) ∙ layer (Step-F.Rank ps)
