use Rattle.std.proofs.Common.{pos}
use Rattle.opl_expr.specs.declared.tables.Use.{Use}
use Rattle.opl_filter.specs.Mentions.{use_mentions, uses_mention}
use Rattle.opl_filter.proofs.Adding.{any_uses, first_none, first_at, first_all}
use Rattle.opl_filter.proofs.variables.add_uses.Goals as goal

pub loop-u-init : goal.loop-u-init
loop-u-init c = first_none use_mentions c.args.uses.now c.args.found.now

pub loop-u-preserved : goal.loop-u-preserved
loop-u-preserved c =
    let none : Use = record { demand = pos 0; start = 0; duration = 0 } in
    first_at use_mentions c.args.uses.now c.loop-u.u-index none c.args.found.now c.loop-u.found c.add_use.new.found c.loop-u-test.true c.loop-u.invariant c.in_ok-add_use.ensures

pub returns : goal.returns
returns c = first_all use_mentions (uses_mention c.args.uses.now) c.args.uses.now c.loop-u.u-index c.args.found.now c.loop-u.found (any_uses c.args.uses.now) c.loop-u-test.false c.loop-u.invariant
