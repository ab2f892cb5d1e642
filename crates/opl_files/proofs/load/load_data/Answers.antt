use Rattle.std.proofs.Common.{◌≤◌, refl, ◌∙◌, ℕ, List, length, arith}
use Rattle.std.proofs.lemmas.List.Elements.{All-nil, All-push}
use Rattle.std.proofs.lemmas.Result.{err_from_is_err_and}
use Rattle.opl_outside.specs.Files.{max_bytes}
use Rattle.opl_files.proofs.LoadLemmas.{loaded-none, loaded-next, loaded-stopped, loaded-all, files-same, files-then}
use Rattle.opl_files.proofs.load.load_data.Goals as goal

pub loop-x-init : goal.loop-x-init
loop-x-init g c = record {
  held = rw c.new-texts.ensures (loaded-none (g.F.Shelf.files c.args.shelf.now) (g.F.Shelf.files c.args.shelf.now) c.args.names.now);
  within_limit = rw c.new-texts.ensures (All-nil (λ (bytes : List ℕ). length bytes ≤ max_bytes));
  reads = refl;
  writes = refl;
  files_stay = files-same (g.F.Shelf.files c.args.shelf.now);
}

pub returns-in_err-load-clause-held : goal.returns-in_err-load-clause-held
returns-in_err-load-clause-held g c =
    let p = err_from_is_err_and c.from_residual.result c.from_residual.ensures.1 in
    rw (p.1, p.2) (loaded-stopped (g.F.Shelf.files c.args.shelf.now) (g.F.Shelf.files c.loop-x.shelf) c.args.names.now c.loop-x.x c.name_at.result.now c.loop-x.texts _ (omega arith) c.name_at.ensures
    c.loop-x.invariant.held c.loop-x.invariant.files_stay c.in_err-load.ensures.held)

pub loop-x-preserved : goal.loop-x-preserved
loop-x-preserved g c = record {
  held = rw c.in_ok-push.ensures.ok (loaded-next (g.F.Shelf.files c.args.shelf.now) (g.F.Shelf.files c.loop-x.shelf) c.args.names.now c.loop-x.x c.name_at.result.now c.in_ok-load.field-0 c.loop-x.texts (omega arith) c.name_at.ensures
      c.loop-x.invariant.held c.loop-x.invariant.files_stay c.in_ok-load.ensures.held);
  within_limit = rw c.in_ok-push.ensures.ok (All-push (λ (bytes : List ℕ). length bytes ≤ max_bytes) c.loop-x.texts c.in_ok-load.field-0 c.loop-x.invariant.within_limit c.in_ok-load.ensures.within_limit);
  reads = c.in_ok-load.ensures.cause ∙ c.loop-x.invariant.reads;
  writes = c.in_ok-load.ensures.no_write ∙ c.loop-x.invariant.writes;
  files_stay = files-then (g.F.Shelf.files c.args.shelf.now) (g.F.Shelf.files c.loop-x.shelf) (g.F.Shelf.files c.load.new.shelf) c.loop-x.invariant.files_stay c.in_ok-load.ensures.files_stay;
}

pub returns-clause-held : goal.returns-clause-held
returns-clause-held g c = loaded-all (g.F.Shelf.files c.args.shelf.now) (g.F.Shelf.files c.args.shelf.now) c.args.names.now c.loop-x.x c.loop-x.texts (omega arith) c.loop-x.invariant.held
