use Rattle.std.proofs.Common.{refl, map}
use Rattle.std.proofs.lemmas.Result.{err_from_is_err_and}
use Rattle.opl_files.specs.Reading.{front_of}
use Rattle.opl_files.proofs.LoadedLemmas.{loaded-read, loaded-stops}
use Rattle.opl_files.proofs.fetching.fetch.Goals as goal

pub returns-in_err-texts-clause-loaded : goal.returns-in_err-texts-clause-loaded
returns-in_err-texts-clause-loaded g c =
    let p = err_from_is_err_and c.from_residual-in_err-texts.result c.from_residual-in_err-texts.ensures.1 in
    rw (p.1, p.2) (loaded-stops (g.F.Shelf.files c.args.shelf.now) (g.F.Shelf.files c.load.new.shelf) c.args.model.now (map (λ name. name.now) c.args.files.now) (map (λ name. name.now) c.args.files.now) c.in_ok-bytes.bytes _
    refl c.in_ok-bytes.ensures.held c.in_ok-bytes.ensures.files_stay c.in_err-texts.ensures.held)

pub returns-clause-loaded : goal.returns-clause-loaded
returns-clause-loaded g c =
    loaded-read (g.F.Shelf.files c.args.shelf.now) (g.F.Shelf.files c.load.new.shelf) c.args.model.now (map (λ name. name.now) c.args.files.now) (map (λ name. name.now) c.args.files.now) c.in_ok-bytes.bytes c.as_slice.result.now
    c.in_ok-texts.texts c.as_slice-2.result.now (front_of c.read.result) refl c.as_slice.ensures c.as_slice-2.ensures
    c.in_ok-bytes.ensures.held c.in_ok-bytes.ensures.files_stay c.in_ok-texts.ensures.held c.read.ensures
