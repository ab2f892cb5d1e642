use Rattle.std.proofs.Common.{sym, subst}
use Rattle.opl_expr.specs.Sound.{IsSoundTerm}
use Rattle.opl_range.specs.Between.{term_of}
use Rattle.opl_addends.proofs.Counting.{one_with, none_with}
use Rattle.opl_addends.proofs.apart.factor_in.Goals as goal

pub has_factor-requires-clause-sound : goal.has_factor-requires-clause-sound
has_factor-requires-clause-sound c = subst (λ e. IsSoundTerm c.args.core.now.sets (term_of c.args.core.now e)) (sym c.get.ensures) c.requires.sound.0

pub returns-then-has_factor : goal.returns-then-has_factor
returns-then-has_factor c = one_with c.args.core.now c.args.addend.now c.get.result.now c.args.x c.has_factor.result c.get.ensures c.has_factor.ensures c.if-has_factor.true

pub returns-else-has_factor : goal.returns-else-has_factor
returns-else-has_factor c = none_with c.args.core.now c.args.addend.now c.get.result.now c.args.x c.has_factor.result c.get.ensures c.has_factor.ensures c.if-has_factor.false
