use Rattle.std.proofs.Common.{◌-◌, sym, ◌∙◌, arith}
use Rattle.opl_trace.specs.Statements.{statement}
use Rattle.opl_sound.specs.Cores.{element}
use Rattle.opl_sound.proofs.Lists.{statement_misfits, branch_misfits}
use Rattle.opl_sound.proofs.StatementForms.{statements}
use Rattle.opl_sound.proofs.steps.+steps.Goals as goal

pub fit_statements-returns-then-not-fits_statement : goal.fit_statements-returns-then-not-fits_statement
fit_statements-returns-then-not-fits_statement t c =
    statement_misfits c.args.core.now.sets (statement c.args.core.now.tables c.args.core.now.resources) c.args.parts.now (c.loop-left.left - 1) c.index-parts-left.result (omega (arith, c.loop-left-test.true, c.loop-left.invariant.0)) c.index-parts-left.is (sym c.fits_statement.ensures ∙ c.if-not-fits_statement.true)

pub fit_branches-returns-then-not-fits_branch : goal.fit_branches-returns-then-not-fits_branch
fit_branches-returns-then-not-fits_branch t c =
    branch_misfits c.args.core.now.sets (element c.args.core.now.tables c.args.core.now.resources) c.args.parts.now (c.loop-left.left - 1) c.index-parts-left.result (omega (arith, c.loop-left-test.true, c.loop-left.invariant.0)) c.index-parts-left.is (sym c.fits_branch.ensures ∙ c.if-not-fits_branch.true)

-- src/steps.rt:100:1
pub fits_branch-returns-then-fits_key : goal.fits_branch-returns-then-fits_key
fits_branch-returns-then-fits_key t c = grind (arith, statements)

-- src/steps.rt:100:1
pub fits_branch-returns-else-fits_key : goal.fits_branch-returns-else-fits_key
fits_branch-returns-else-fits_key t c = grind (arith, statements)

-- src/steps.rt:100:1
pub fits_branch-returns-else-fits : goal.fits_branch-returns-else-fits
fits_branch-returns-else-fits t c = grind (arith, statements)

-- src/steps.rt:61:1
pub fits_statement-returns-in-Post : goal.fits_statement-returns-in-Post
fits_statement-returns-in-Post t c = grind (arith, statements)

-- src/steps.rt:61:1
pub fits_statement-returns-in-Block : goal.fits_statement-returns-in-Block
fits_statement-returns-in-Block t c = grind (arith, statements)

-- src/steps.rt:61:1
pub fits_statement-returns-in-Try : goal.fits_statement-returns-in-Try
fits_statement-returns-in-Try t c = grind (arith, statements)

-- src/steps.rt:61:1
pub fits_statement-returns-in-TryAll : goal.fits_statement-returns-in-TryAll
fits_statement-returns-in-TryAll t c = grind (arith, statements)

-- src/steps.rt:61:1
pub fits_statement-returns-in-ForAll : goal.fits_statement-returns-in-ForAll
fits_statement-returns-in-ForAll t c = grind (arith, statements)

-- src/steps.rt:61:1
pub fits_statement-returns-in-Select : goal.fits_statement-returns-in-Select
fits_statement-returns-in-Select t c = grind (arith, statements)

-- src/steps.rt:61:1
pub fits_statement-returns-in-Once : goal.fits_statement-returns-in-Once
fits_statement-returns-in-Once t c = grind (arith, statements)

-- src/steps.rt:61:1
pub fits_statement-returns-then-fits : goal.fits_statement-returns-then-fits
fits_statement-returns-then-fits t c = grind (arith, statements)

-- src/steps.rt:61:1
pub fits_statement-returns-else-fits : goal.fits_statement-returns-else-fits
fits_statement-returns-else-fits t c = grind (arith, statements)

-- src/steps.rt:61:1
pub fits_statement-returns-then-fits_statement : goal.fits_statement-returns-then-fits_statement
fits_statement-returns-then-fits_statement t c = grind (arith, statements)

-- src/steps.rt:61:1
pub fits_statement-returns-else-fits_statement : goal.fits_statement-returns-else-fits_statement
fits_statement-returns-else-fits_statement t c = grind (arith, statements)

-- src/steps.rt:61:1
pub fits_statement-returns-else-fits-2 : goal.fits_statement-returns-else-fits-2
fits_statement-returns-else-fits-2 t c = grind (arith, statements)

-- src/steps.rt:61:1
pub fits_statement-returns-in-Generate : goal.fits_statement-returns-in-Generate
fits_statement-returns-in-Generate t c = grind (arith, statements)

-- src/steps.rt:61:1
pub fits_statement-returns-in-Rank : goal.fits_statement-returns-in-Rank
fits_statement-returns-in-Rank t c = grind (arith, statements)
