use Rattle.std.proofs.Common.{refl}
use Rattle.std.proofs.lemmas.Result.{err_from_is_err_and}
use Rattle.opl_tool.specs.Tasks.Task.{summarizes}
use Rattle.opl_tool.proofs.EndsLemmas.{made-ended, problem-ended}
use Rattle.opl_tool.proofs.carry_out.summarize_trees.Goals as goal

pub returns-in_err-problem : goal.returns-in_err-problem
returns-in_err-problem g c files reads =
    let p = err_from_is_err_and c.from_residual.result c.from_residual.ensures.1 in
    rw (p.1, p.2) (problem-ended (summarizes c.args.generated) (record {
      files = files;
      old = g.O.Sink.written c.args.out.now;
      new = g.O.Sink.written c.args.out.now;
      reads_before = reads;
      reads_now = reads;
      faults_before = g.O.Sink.faults c.args.out.now;
      faults_now = g.O.Sink.faults c.args.out.now;
    }) (c.args.front.now.typed.tree, c.args.front.now.files) _ refl refl refl c.in_err-problem.ensures)

pub returns : goal.returns
returns g c files reads =
    made-ended c.args.generated (record {
      files = files;
      old = g.O.Sink.written c.args.out.now;
      new = g.O.Sink.written c.print_summary.new.out;
      reads_before = reads;
      reads_now = reads;
      faults_before = g.O.Sink.faults c.args.out.now;
      faults_now = g.O.Sink.faults c.print_summary.new.out;
    }) (c.args.front.now.typed.tree, c.args.front.now.files) _ c.in_ok-problem.problem c.in_ok-problem.ensures.1 c.in_ok-problem.ensures.2 refl _
    c.print_summary.ensures.prints c.print_summary.ensures.answers
