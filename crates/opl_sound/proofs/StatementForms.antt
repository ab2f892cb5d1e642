-- The plain data of each form of statement, and what the tests say of it, as the code sees it.
use Rattle.std.proofs.Common.{◌≡◌, true, ◌&&◌, List, map, ℤ, ap, sym, ◌∙◌}
use Rattle.std.specs.Prelude.{ℕ}
use Rattle.opl_expr.specs.declared.forms.Cons.{Cons}
use Rattle.opl_expr.specs.declared.search.Branch as code
use Rattle.opl_expr.specs.declared.search.Step.{Step}
use Rattle.opl_expr.specs.declared.search.Step.TheVariants as S
use Rattle.opl_expr.specs.declared.search.Step.TheOpen.{Step-F, Branch-F}
use Rattle.opl_expr.specs.declared.search.Step.TheFolds.{fold-roll-Step, fold-roll-Branch, map-Step, map-Branch}
use Rattle.opl_expr.specs.declared.search.Step.TheViews.{roll-Step, roll-Branch, out-Branch, roll-out-Branch}
use Rattle.opl_expr.specs.declared.tables.Table.{Table}
use Rattle.opl_expr.specs.declared.tables.Resource.{Resource}
use Rattle.opl_expr.specs.Forms.{term, fact}
use Rattle.opl_expr.specs.Options.{lift1}
use Rattle.opl_trace.specs.Statements.{Statement, Branch, statements_of, branches_of, step_layer, branch_layer, statement}
use Rattle.opl_trace.specs.Statements.Statement.{post, block, try, try_all, for_all, select, once, while, decide, generate, rank}
use Rattle.opl_trace.specs.Statements.Branch.{branch}
use Rattle.opl_sound.specs.Measures.{fits}
use Rattle.opl_sound.specs.Cores.{fits_key, fits_statement, fits_branch, element}

module _ (tables : List Table) (resources : List Resource) where
  layer : (d : Step-F Step code.Branch) → statement tables resources (roll-Step d) ≡ step_layer tables resources (map-Step Step code.Branch Statement Branch (statement tables resources) (element tables resources) d)
  unfolding statement element
  layer d = fold-roll-Step Statement Branch (step_layer tables resources) (branch_layer tables resources) d

  element_of : (d : Branch-F Step code.Branch) → element tables resources (roll-Branch d) ≡ branch_layer tables resources (map-Branch Step code.Branch Statement Branch (statement tables resources) (element tables resources) d)
  unfolding statement element
  element_of d = fold-roll-Branch Statement Branch (step_layer tables resources) (branch_layer tables resources) d

  element_is : (b : code.Branch) → element tables resources b ≡ branch (fact tables resources (out-Branch b).when) (lift1 (term tables resources) (out-Branch b).key) (out-Branch b).rising (statement tables resources (out-Branch b).body)
  element_is b = ap (element tables resources) (sym (roll-out-Branch b)) ∙ element_of (out-Branch b)

  statement_Post : (c : Cons) → statement tables resources (S.Post c) ≡ post (fact tables resources c)
  statement_Post c = ap (statement tables resources) (sym (S.rolls-Post c)) ∙ layer (Step-F.Post c)

  statement_Block : (ss : List Step) → statement tables resources (S.Block ss) ≡ block (statements_of (map (statement tables resources) ss))
  statement_Block ss = ap (statement tables resources) (sym (S.rolls-Block ss)) ∙ layer (Step-F.Block ss)

  statement_Try : (ss : List Step) → statement tables resources (S.Try ss) ≡ try (statements_of (map (statement tables resources) ss))
  statement_Try ss = ap (statement tables resources) (sym (S.rolls-Try ss)) ∙ layer (Step-F.Try ss)

  statement_TryAll : (bs : List code.Branch) → statement tables resources (S.TryAll bs) ≡ try_all (branches_of (map (element tables resources) bs))
  statement_TryAll bs = ap (statement tables resources) (sym (S.rolls-TryAll bs)) ∙ layer (Step-F.TryAll bs)

  statement_ForAll : (bs : List code.Branch) → statement tables resources (S.ForAll bs) ≡ for_all (branches_of (map (element tables resources) bs))
  statement_ForAll bs = ap (statement tables resources) (sym (S.rolls-ForAll bs)) ∙ layer (Step-F.ForAll bs)

  statement_Select : (bs : List code.Branch) → statement tables resources (S.Select bs) ≡ select (branches_of (map (element tables resources) bs))
  statement_Select bs = ap (statement tables resources) (sym (S.rolls-Select bs)) ∙ layer (Step-F.Select bs)

  statement_Once : (s : Step) → statement tables resources (S.Once s) ≡ once (statement tables resources s)
  statement_Once s = ap (statement tables resources) (sym (S.rolls-Once s)) ∙ layer (Step-F.Once s)

  statement_While : (c : Cons) (s : Step) → statement tables resources (S.While c s) ≡ while (fact tables resources c) (statement tables resources s)
  statement_While c s = ap (statement tables resources) (sym (S.rolls-While c s)) ∙ layer (Step-F.While c s)

  statement_If : (c : Cons) (s t : Step) → statement tables resources (S.If c s t) ≡ decide (fact tables resources c) (statement tables resources s) (statement tables resources t)
  statement_If c s t = ap (statement tables resources) (sym (S.rolls-If c s t)) ∙ layer (Step-F.If c s t)

  statement_Generate : (xs : List ℕ) → statement tables resources (S.Generate xs) ≡ generate xs
  statement_Generate xs = ap (statement tables resources) (sym (S.rolls-Generate xs)) ∙ layer (Step-F.Generate xs)

  statement_Rank : (ps : List (ℕ × ℕ)) → statement tables resources (S.Rank ps) ≡ rank ps
  statement_Rank ps = ap (statement tables resources) (sym (S.rolls-Rank ps)) ∙ layer (Step-F.Rank ps)

  module _ (sets : List (ℤ × ℤ)) where
    pub fits_Post : (c : Cons) → fits_statement sets (statement tables resources (S.Post c)) ≡ fits_statement sets (post (fact tables resources c))
    fits_Post c = ap (fits_statement sets) (statement_Post c)

    pub fits_Block : (ss : List Step) → fits_statement sets (statement tables resources (S.Block ss)) ≡ fits_statement sets (block (statements_of (map (statement tables resources) ss)))
    fits_Block ss = ap (fits_statement sets) (statement_Block ss)

    pub fits_Try : (ss : List Step) → fits_statement sets (statement tables resources (S.Try ss)) ≡ fits_statement sets (try (statements_of (map (statement tables resources) ss)))
    fits_Try ss = ap (fits_statement sets) (statement_Try ss)

    pub fits_TryAll : (bs : List code.Branch) → fits_statement sets (statement tables resources (S.TryAll bs)) ≡ fits_statement sets (try_all (branches_of (map (element tables resources) bs)))
    fits_TryAll bs = ap (fits_statement sets) (statement_TryAll bs)

    pub fits_ForAll : (bs : List code.Branch) → fits_statement sets (statement tables resources (S.ForAll bs)) ≡ fits_statement sets (for_all (branches_of (map (element tables resources) bs)))
    fits_ForAll bs = ap (fits_statement sets) (statement_ForAll bs)

    pub fits_Select : (bs : List code.Branch) → fits_statement sets (statement tables resources (S.Select bs)) ≡ fits_statement sets (select (branches_of (map (element tables resources) bs)))
    fits_Select bs = ap (fits_statement sets) (statement_Select bs)

    pub fits_Once : (s : Step) → fits_statement sets (statement tables resources (S.Once s)) ≡ fits_statement sets (once (statement tables resources s))
    fits_Once s = ap (fits_statement sets) (statement_Once s)

    pub fits_While : (c : Cons) (s : Step) → fits_statement sets (statement tables resources (S.While c s)) ≡ fits_statement sets (while (fact tables resources c) (statement tables resources s))
    fits_While c s = ap (fits_statement sets) (statement_While c s)

    pub fits_If : (c : Cons) (s t : Step) → fits_statement sets (statement tables resources (S.If c s t)) ≡ fits_statement sets (decide (fact tables resources c) (statement tables resources s) (statement tables resources t))
    fits_If c s t = ap (fits_statement sets) (statement_If c s t)

    pub fits_Generate : (xs : List ℕ) → fits_statement sets (statement tables resources (S.Generate xs)) ≡ fits_statement sets (generate xs)
    fits_Generate xs = ap (fits_statement sets) (statement_Generate xs)

    pub fits_Rank : (ps : List (ℕ × ℕ)) → fits_statement sets (statement tables resources (S.Rank ps)) ≡ fits_statement sets (rank ps)
    fits_Rank ps = ap (fits_statement sets) (statement_Rank ps)

    pub fits_element : (b : code.Branch) → fits_branch sets (element tables resources b)
        ≡ (fits sets true (fact tables resources (out-Branch b).when) && (fits_key sets (lift1 (term tables resources) (out-Branch b).key) && fits_statement sets (statement tables resources (out-Branch b).body)))
    fits_element b = ap (fits_branch sets) (element_is b)

pub ruleset statements = (fits_Post, fits_Block, fits_Try, fits_TryAll, fits_ForAll, fits_Select, fits_Once, fits_While, fits_If, fits_Generate, fits_Rank, fits_element)
