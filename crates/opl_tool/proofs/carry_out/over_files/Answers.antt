use Rattle.std.proofs.Common.{Bor, Err, IfSome, List, map, refl, subst, ℕ}
use Rattle.std.proofs.lemmas.Result.{err_from_is_err_and}
use Rattle.opl_files.specs.Held.{Loaded}
use Rattle.opl_files.specs.Stage.{GivesRead}
use Rattle.opl_tool.specs.Tasks.{task_of}
use Rattle.opl_tool.proofs.EndsLemmas.{front-ended, loaded-ended}
use Rattle.opl_tool.proofs.carry_out.over_files.Goals as goal

pub returns-in_err-front-clause-ends : goal.returns-in_err-front-clause-ends
returns-in_err-front-clause-ends g c =
    let p = err_from_is_err_and c.from_residual.result c.from_residual.ensures.1 in
    rw (p.1, p.2) (front-ended (λ files. Loaded files c.args.asked.now.model.now (map (λ file. file.now) c.args.asked.now.files)) (task_of c.args.asked.now.command) (record {
      files = g.F.Shelf.files c.args.shelf.now;
      old = g.O.Sink.written c.args.out.now;
      new = g.O.Sink.written c.args.out.now;
      reads_before = g.F.Shelf.read_faults c.args.shelf.now;
      reads_now = g.F.Shelf.read_faults c.fetch.new.shelf;
      faults_before = g.O.Sink.faults c.args.out.now;
      faults_now = g.O.Sink.faults c.args.out.now;
    }) _ refl refl c.in_err-front.ensures.cause
    (subst (λ (names : List (Bor (List ℕ))). IfSome (g.F.Shelf.files c.args.shelf.now) (λ told. GivesRead (Loaded told c.args.asked.now.model.now (map (λ file. file.now) names)) (Err c.in_err-front.field-0.0)))
    c.as_slice.ensures c.in_err-front.ensures.loaded))

pub returns-clause-ends : goal.returns-clause-ends
returns-clause-ends g c =
    loaded-ended (λ files. Loaded files c.args.asked.now.model.now (map (λ file. file.now) c.args.asked.now.files)) (task_of c.args.asked.now.command) (record {
      files = g.F.Shelf.files c.args.shelf.now;
      old = g.O.Sink.written c.args.out.now;
      new = g.O.Sink.written c.over_trees-ended.new.out;
      reads_before = g.F.Shelf.read_faults c.args.shelf.now;
      reads_now = g.F.Shelf.read_faults c.fetch.new.shelf;
      faults_before = g.O.Sink.faults c.args.out.now;
      faults_now = g.O.Sink.faults c.over_trees-ended.new.out;
    }) (c.in_ok-front.front.typed.tree, c.in_ok-front.front.files) _ (rw c.as_slice.ensures at c.in_ok-front.ensures.loaded)
    (c.over_trees-ended.ensures (g.F.Shelf.files c.args.shelf.now) (g.F.Shelf.read_faults c.args.shelf.now) (g.F.Shelf.read_faults c.fetch.new.shelf) c.in_ok-front.ensures.cause)
