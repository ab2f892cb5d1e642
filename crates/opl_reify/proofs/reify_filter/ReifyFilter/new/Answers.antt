use Rattle.opl_reify.proofs.Made.{or_sound, imp_sound, or_made, imp_made, or_kind, imp_kind}
use Rattle.opl_reify.proofs.reify_filter.ReifyFilter.new.Goals as goal

pub literals-requires : goal.literals-requires
literals-requires c = or_sound c.args.core.now c.args.c.now c.in-Or.parts c.as_slice.result.now c.in-Or.is c.as_slice.ensures c.requires

pub implied-requires-clause-first : goal.implied-requires-clause-first
implied-requires-clause-first c = (imp_sound c.args.core.now c.args.c.now c.in-Imp.a c.in-Imp.b c.get.result.now c.get-in-Imp.result.now c.in-Imp.is c.get.ensures c.get-in-Imp.ensures c.requires).0

pub implied-requires-clause-second : goal.implied-requires-clause-second
implied-requires-clause-second c = (imp_sound c.args.core.now c.args.c.now c.in-Imp.a c.in-Imp.b c.get.result.now c.get-in-Imp.result.now c.in-Imp.is c.get.ensures c.get-in-Imp.ensures c.requires).1

pub returns-in-Some-clause-filter : goal.returns-in-Some-clause-filter
returns-in-Some-clause-filter c =
    or_made c.args.core.now c.args.c.now c.in-Or.parts c.as_slice.result.now (record { parts = c.in-Some.parts }) c.in_ok-literals-in-Or.field-0 c.in-Or.is c.as_slice.ensures c.in-Some.is c.in_ok-literals-in-Or.ensures.parts

pub returns-in-Some-clause-kind : goal.returns-in-Some-clause-kind
returns-in-Some-clause-kind c =
    or_kind c.args.core.now c.args.c.now c.in-Or.parts c.as_slice.result.now c.in_ok-literals-in-Or.field-0 c.in-Some.parts c.in-Or.is c.as_slice.ensures c.in-Some.is c.in_ok-literals-in-Or.ensures.kind

pub returns-in-Some-2-clause-filter : goal.returns-in-Some-2-clause-filter
returns-in-Some-2-clause-filter c =
    imp_made c.args.core.now c.args.c.now c.in-Imp.a c.in-Imp.b c.get.result.now c.get-in-Imp.result.now (record { parts = c.in-Some-2.parts }) c.in_ok-implied-in-Imp.field-0 c.in-Imp.is c.get.ensures c.get-in-Imp.ensures c.in-Some-2.is
    c.in_ok-implied-in-Imp.ensures.parts

pub returns-in-Some-2-clause-kind : goal.returns-in-Some-2-clause-kind
returns-in-Some-2-clause-kind c =
    imp_kind c.args.core.now c.args.c.now c.in-Imp.a c.in-Imp.b c.get.result.now c.get-in-Imp.result.now c.in_ok-implied-in-Imp.field-0 c.in-Some-2.parts c.in-Imp.is c.get.ensures c.get-in-Imp.ensures c.in-Some-2.is
    c.in_ok-implied-in-Imp.ensures.kind
