-- Whether declared sets, statements and whole cores are sound, computed.
use Rattle.std.specs.Prelude.{ℕ, suc, ◌^◌, max, Bool, true, false, ◌&&◌, List, length, ℤ, unsigned_abs, nat_lt, nat_le, Option, Some, None}
use Rattle.std.specs.List.{list_all}
use Rattle.opl_domain.specs.Span.{span_size}
use Rattle.opl_domain.specs.Family.{most_values}
use Rattle.opl_expr.specs.declared.tables.Table.{Table}
use Rattle.opl_expr.specs.declared.tables.Resource.{Resource}
use Rattle.opl_expr.specs.declared.search.Branch as code
use Rattle.opl_expr.specs.declared.search.Step.TheFolds.{fold-Branch}
use Rattle.opl_expr.specs.declared.model.Core.{Core}
use Rattle.opl_expr.specs.Forms.{Term, facts_of}
use Rattle.opl_expr.specs.Solutions.{facts, goal_term}
use Rattle.opl_trace.specs.Statements.{Statement, Statements, Branch, Branches, step_layer, branch_layer}
use Rattle.opl_trace.specs.Statements.Statement.{post, block, try, try_all, for_all, select, once, while, decide, generate, rank}
use Rattle.opl_trace.specs.Statements.Statements.{no_statements, more_statements}
use Rattle.opl_trace.specs.Statements.Branch.{branch}
use Rattle.opl_trace.specs.Statements.Branches.{no_branches, more_branches}
use Rattle.opl_trace.specs.Marks.{section}
use Rattle.opl_sound.specs.Measures.{is_some, added, measure, fits, all_fit}

-- the ends are at most 2^62 in absolute value, and there are not too many values between them
abbrev pub fits_set : ℤ × ℤ → Bool
fits_set ends = nat_le (unsigned_abs ends.0) (2 ^ 62) && (nat_le (unsigned_abs ends.1) (2 ^ 62) && nat_le (max 1 (span_size (record { low = ends.0; high = ends.1 }))) most_values)

module _ (sets : List (ℤ × ℤ)) where
  -- twice the magnitude of the objective isn't too great
  abbrev pub fits_goal : Option Term → Bool
  fits_goal None = true
  fits_goal (Some t) = is_some (added (measure sets false t) (measure sets false t))

  abbrev pub fits_key : Option Term → Bool
  fits_key None = true
  fits_key (Some t) = is_some (measure sets true t)

  -- both starts have their durations behind them
  abbrev pub fits_pair : ℕ × ℕ → Bool
  fits_pair p = nat_lt (suc p.0) (length sets) && nat_lt (suc p.1) (length sets)

  abbrev mutual
    -- all constraints, conditions and keys of a statement are sound
    pub fits_statement : Statement → Bool
    fits_statement (post c) = fits sets true c
    fits_statement (block ss) = fit_statements ss
    fits_statement (try ss) = fit_statements ss
    fits_statement (try_all bs) = fit_branches bs
    fits_statement (for_all bs) = fit_branches bs
    fits_statement (select bs) = fit_branches bs
    fits_statement (once s) = fits_statement s
    fits_statement (while c s) = fits sets true c && fits_statement s
    fits_statement (decide c s t) = fits sets true c && (fits_statement s && fits_statement t)
    fits_statement (generate xs) = list_all (λ x. nat_lt x (length sets)) xs
    fits_statement (rank ps) = list_all fits_pair ps

    pub fit_statements : Statements → Bool
    fit_statements no_statements = true
    fit_statements (more_statements s ss) = fits_statement s && fit_statements ss

    pub fits_branch : Branch → Bool
    fits_branch (branch c key rising s) = fits sets true c && (fits_key key && fits_statement s)

    pub fit_branches : Branches → Bool
    fit_branches no_branches = true
    fit_branches (more_branches b bs) = fits_branch b && fit_branches bs

  abbrev pub fits_section : Option Statement → Bool
  fits_section None = true
  fits_section (Some s) = fits_statement s

-- the plain data of an element
module _ (tables : List Table) (resources : List Resource) where
  unfoldable pub element : code.Branch → Branch
  element = fold-Branch Statement Branch (step_layer tables resources) (branch_layer tables resources)

-- a core is sound
abbrev pub fits_core : Core → Bool
fits_core core =
    nat_lt (length core.sets) (2 ^ 32)
    && (list_all fits_set core.sets && (all_fit core.sets false (facts_of (facts core)) && (fits_goal core.sets (goal_term core) && fits_section core.sets (section false core))))
