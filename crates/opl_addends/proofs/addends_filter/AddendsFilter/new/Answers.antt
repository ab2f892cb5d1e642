use Rattle.opl_addends.proofs.Comparing.{cmp_is, cmp_sound, filter_made, filter_there, none_there}
use Rattle.opl_addends.proofs.addends_filter.AddendsFilter.new.Goals as goal

pub of_comparison-requires-clause-is : goal.of_comparison-requires-clause-is
of_comparison-requires-clause-is c = cmp_is c.in-Cmp.op c.in-Cmp.a c.in-Cmp.b c.get.result.now c.get-2.result.now c.args.c.now c.in-Cmp.is c.get.ensures c.get-2.ensures

pub of_comparison-requires-clause-sound : goal.of_comparison-requires-clause-sound
of_comparison-requires-clause-sound c =
    cmp_sound c.args.core.now c.in-Cmp.op c.get.result.now c.get-2.result.now c.args.c.now
    (cmp_is c.in-Cmp.op c.in-Cmp.a c.in-Cmp.b c.get.result.now c.get-2.result.now c.args.c.now c.in-Cmp.is c.get.ensures c.get-2.ensures) c.requires.sound

pub returns-in-None-clause-kind : goal.returns-in-None-clause-kind
returns-in-None-clause-kind c =
    none_there c.args.core.now c.in-Cmp.op c.get.result.now c.get-2.result.now c.args.c.now c.in_ok-of_comparison.field-0
    (cmp_is c.in-Cmp.op c.in-Cmp.a c.in-Cmp.b c.get.result.now c.get-2.result.now c.args.c.now c.in-Cmp.is c.get.ensures c.get-2.ensures) c.in-None.is c.in_ok-of_comparison.ensures

pub returns-in-Some-clause-filter : goal.returns-in-Some-clause-filter
returns-in-Some-clause-filter c =
    filter_made c.args.core.now c.in-Cmp.op c.get.result.now c.get-2.result.now c.args.c.now c.in-Some.sum c.in_ok-of_comparison.field-0
    (cmp_is c.in-Cmp.op c.in-Cmp.a c.in-Cmp.b c.get.result.now c.get-2.result.now c.args.c.now c.in-Cmp.is c.get.ensures c.get-2.ensures) c.in-Some.is c.in_ok-of_comparison.ensures

pub returns-in-Some-clause-kind : goal.returns-in-Some-clause-kind
returns-in-Some-clause-kind c =
    filter_there c.args.core.now c.in-Cmp.op c.get.result.now c.get-2.result.now c.args.c.now c.in-Some.sum c.in_ok-of_comparison.field-0
    (cmp_is c.in-Cmp.op c.in-Cmp.a c.in-Cmp.b c.get.result.now c.get-2.result.now c.args.c.now c.in-Cmp.is c.get.ensures c.get-2.ensures) c.in-Some.is c.in_ok-of_comparison.ensures
