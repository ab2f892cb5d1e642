use Rattle.std.proofs.lemmas.Result.{IfOk-weaker}
use Rattle.opl_count.proofs.Made.{compared_sound, count_made}
use Rattle.opl_count.proofs.count_filter.CountFilter.new.Goals as goal

pub of_comparison-requires : goal.of_comparison-requires
of_comparison-requires c = compared_sound c.args.core.now c.args.c.now c.in-Cmp.op c.in-Cmp.a c.in-Cmp.b c.get.result.now c.get-in-Cmp.result.now c.in-Cmp.is c.get.ensures c.get-in-Cmp.ensures c.requires

pub returns-in-Cmp-clause-filter : goal.returns-in-Cmp-clause-filter
returns-in-Cmp-clause-filter c =
    IfOk-weaker c.of_comparison.result _ _ (count_made c.args.core.now c.args.c.now c.in-Cmp.op c.in-Cmp.a c.in-Cmp.b c.get.result.now c.get-in-Cmp.result.now c.in-Cmp.is c.get.ensures c.get-in-Cmp.ensures) c.of_comparison.ensures
