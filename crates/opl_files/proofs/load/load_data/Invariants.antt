use Rattle.std.proofs.Common.{◌≡◌, ◌≤◌, All, length, map, take, IfSome, Ok}
use Rattle.opl_outside.specs.Becomes.{Becomes}
use Rattle.opl_outside.specs.Files.{max_bytes}
use Rattle.opl_files.specs.Stage.{Each}
use Rattle.opl_files.specs.Held.{Held}
use Rattle.opl_files.proofs.load.load_data.Given as goal

abbrev pub invariant-loop-x : goal.invariant-loop-x
invariant-loop-x g l = record {
  held : IfSome (g.F.Shelf.files l.fn.shelf) (λ files. Each (Held files) 1 (take l.x (map (λ name. name.now) l.names)) (Ok l.texts));
  within_limit : All (λ bytes. length bytes ≤ max_bytes) l.texts;
  reads : g.F.Shelf.read_faults l.shelf ≡ g.F.Shelf.read_faults l.fn.shelf;
  writes : g.F.Shelf.write_faults l.shelf ≡ g.F.Shelf.write_faults l.fn.shelf;
  files_stay : Becomes (g.F.Shelf.files l.fn.shelf) (g.F.Shelf.files l.shelf) (λ before now. now ≡ before);
}
