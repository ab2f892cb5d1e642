use Rattle.std.proofs.Common.{ap, sym, ◌∙◌, arith}
use Rattle.opl_expr.specs.Sound.{keys}
use Rattle.opl_expr.proofs.Parts.{drop_none}
use Rattle.opl_sound.specs.Measures.{counted}
use Rattle.opl_sound.proofs.Counts.{no_dimension}
use Rattle.opl_sound.proofs.tables.keys.Goals as goal

pub loop-left-init : goal.loop-left-init
loop-left-init c = (omega arith, no_dimension ∙ ap (λ ds. counted (keys ds)) (sym (drop_none c.args.dims.now)))
