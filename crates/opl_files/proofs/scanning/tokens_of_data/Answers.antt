use Rattle.std.proofs.Common.{◌+◌, arith}
use Rattle.std.proofs.lemmas.Result.{err_from_is_err_and}
use Rattle.opl_files.specs.Reading.{Scanned}
use Rattle.opl_files.proofs.DataLemmas.{scanned-stops}
use Rattle.opl_files.proofs.EachLemmas.{each-none, each-next, each-stops}
use Rattle.opl_files.proofs.scanning.tokens_of_data.Goals as goal

pub loop-x-init : goal.loop-x-init
loop-x-init c = rw c.new-found.ensures (each-none Scanned 1)

pub returns-in_err-tokens_of : goal.returns-in_err-tokens_of
returns-in_err-tokens_of c =
    let p = err_from_is_err_and c.from_residual.result c.from_residual.ensures.1 in
    rw (p.1, p.2) (each-stops Scanned 1 (c.loop-x.x + 1) c.args.texts.now c.loop-x.x c.index-texts-x.result c.index-texts-x.result c.loop-x.found _
    (omega arith) c.index-texts-x.is (omega arith) c.loop-x.invariant (scanned-stops _ c.as_slice.result.now c.index-texts-x.result _ c.as_slice.ensures c.in_err-tokens_of.ensures))

pub loop-x-preserved : goal.loop-x-preserved
loop-x-preserved c =
    let given = rw c.as_slice.ensures at c.in_ok-tokens_of.ensures in
    rw c.in_ok-push.ensures.ok (each-next Scanned 1 (c.loop-x.x + 1) c.args.texts.now c.loop-x.x c.index-texts-x.result c.index-texts-x.result c.loop-x.found c.in_ok-tokens_of.field-0
    (omega arith) c.index-texts-x.is (omega arith) c.loop-x.invariant given)
