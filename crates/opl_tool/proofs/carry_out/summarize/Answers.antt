use Rattle.std.proofs.Common.{refl, []}
use Rattle.std.proofs.lemmas.Result.{err_from_is_err_and}
use Rattle.opl_generate.specs.Texts.{model_text}
use Rattle.opl_files.specs.Reading.{Read}
use Rattle.opl_tool.specs.Tasks.Task.{summarizes}
use Rattle.opl_tool.proofs.EndsLemmas.{if_all, loaded-ended, made-front-ended}
use Rattle.opl_tool.proofs.carry_out.summarize.Goals as goal

pub returns-in_err-front : goal.returns-in_err-front
returns-in_err-front g c files reads =
    let p = err_from_is_err_and c.from_residual.result c.from_residual.ensures.1 in
    rw (p.1, p.2) (made-front-ended c.args.generated (record {
      files = files;
      old = g.O.Sink.written c.args.out.now;
      new = g.O.Sink.written c.args.out.now;
      reads_before = reads;
      reads_now = reads;
      faults_before = g.O.Sink.faults c.args.out.now;
      faults_now = g.O.Sink.faults c.args.out.now;
    }) _ refl refl refl c.in_err-front.ensures)

pub returns : goal.returns
returns g c files reads =
    loaded-ended (λ told. Read (model_text c.args.generated) []) (summarizes c.args.generated) (record {
      files = files;
      old = g.O.Sink.written c.args.out.now;
      new = g.O.Sink.written c.summarize_trees-ended.new.out;
      reads_before = reads;
      reads_now = reads;
      faults_before = g.O.Sink.faults c.args.out.now;
      faults_now = g.O.Sink.faults c.summarize_trees-ended.new.out;
    }) (c.in_ok-front.front.typed.tree, c.in_ok-front.front.files) _ (if_all files _ (λ told. c.in_ok-front.ensures)) (c.summarize_trees-ended.ensures files reads)
