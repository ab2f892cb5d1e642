use Rattle.opl_bind.specs.Readings.{data_of}
use Rattle.opl_prepare.proofs.Accepted.{clean-so, unclean-stops}
use Rattle.opl_prepare.proofs.preparing.clean.Goals as goal

pub returns-then-branch : goal.returns-then-branch
returns-then-branch c =
    clean-so c.args.typed.now.tree (data_of c.args.data.now).environment c.args.variables.now c.in_ok-is_clean.field-0 _ c.requires c.in_ok-is_clean.ensures c.if-branch.true

pub returns : goal.returns
returns c =
    unclean-stops c.args.typed.now.tree c.args.variables.now c.place_of.result _
    (clean-so c.args.typed.now.tree (data_of c.args.data.now).environment c.args.variables.now c.in_ok-is_clean.field-0 _ c.requires c.in_ok-is_clean.ensures c.if-branch.false)
    c.place_of.ensures c.refused.ensures
