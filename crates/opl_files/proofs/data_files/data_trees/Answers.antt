use Rattle.std.proofs.Common.{◌+◌, arith}
use Rattle.std.proofs.lemmas.Result.{err_from_is_err_and}
use Rattle.opl_files.specs.Reading.{DataParsed}
use Rattle.opl_files.proofs.EachLemmas.{each-none, each-next, each-stops}
use Rattle.opl_files.proofs.data_files.data_trees.Goals as goal

pub loop-x-init : goal.loop-x-init
loop-x-init c = rw c.new-found.ensures (each-none DataParsed 1)

pub returns-in_err-data_tree : goal.returns-in_err-data_tree
returns-in_err-data_tree c =
    let p = err_from_is_err_and c.from_residual.result c.from_residual.ensures.1 in
    rw (p.1, p.2) (each-stops DataParsed 1 (c.loop-x.x + 1) c.args.texts.now c.loop-x.x c.index-texts-x.result c.index-texts-x.result c.loop-x.found _
    (omega arith) c.index-texts-x.is (omega arith) c.loop-x.invariant c.in_err-data_tree.ensures)

pub loop-x-preserved : goal.loop-x-preserved
loop-x-preserved c =
    rw c.in_ok-push.ensures.ok (each-next DataParsed 1 (c.loop-x.x + 1) c.args.texts.now c.loop-x.x c.index-texts-x.result c.index-texts-x.result c.loop-x.found c.in_ok-data_tree.field-0
    (omega arith) c.index-texts-x.is (omega arith) c.loop-x.invariant c.in_ok-data_tree.ensures)
