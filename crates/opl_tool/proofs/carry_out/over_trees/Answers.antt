use Rattle.std.proofs.Common.{refl}
use Rattle.std.proofs.lemmas.Result.{err_from_is_err_and}
use Rattle.opl_tool.specs.Tasks.{task_of}
use Rattle.opl_tool.proofs.EndsLemmas.{command-ended, problem-ended}
use Rattle.opl_tool.proofs.carry_out.over_trees.Goals as goal

pub returns-in_err-problem : goal.returns-in_err-problem
returns-in_err-problem g c files reads later same =
    let p = err_from_is_err_and c.from_residual.result c.from_residual.ensures.1 in
    rw (p.1, p.2) (problem-ended (task_of c.args.command) (record {
      files = files;
      old = g.O.Sink.written c.args.out.now;
      new = g.O.Sink.written c.args.out.now;
      reads_before = reads;
      reads_now = later;
      faults_before = g.O.Sink.faults c.args.out.now;
      faults_now = g.O.Sink.faults c.args.out.now;
    }) (c.args.front.now.typed.tree, c.args.front.now.files) _ refl refl same c.in_err-problem.ensures)

pub returns : goal.returns
returns g c files reads later same =
    command-ended c.args.command (record {
      files = files;
      old = g.O.Sink.written c.args.out.now;
      new = g.O.Sink.written c.print.new.out;
      reads_before = reads;
      reads_now = later;
      faults_before = g.O.Sink.faults c.args.out.now;
      faults_now = g.O.Sink.faults c.print.new.out;
    }) (c.args.front.now.typed.tree, c.args.front.now.files) _ c.in_ok-problem.problem c.in_ok-problem.ensures.1 c.in_ok-problem.ensures.2 same _
    c.print.ensures.prints c.print.ensures.answers
