-- The bytes of files that are asked for, and their trees.
use Rattle.std.specs.Prelude.{◌≡◌, ◌⊎◌, ◌<◌, ◌≤◌, ℕ, List, length, Some, None, Ok, Err, IsSomeAnd}
use Rattle.opl_outside.specs.Files.{Files, max_bytes}
use Rattle.opl_data.specs.declared.tree.DataTree.{DataTree}
use Rattle.opl_tree.specs.declared.model.ModelTree.{ModelTree}
use Rattle.opl_files.specs.declared.refusal.Refusal.TheVariants.{Absent, TooLong}
use Rattle.opl_files.specs.Reading.{Read}
use Rattle.opl_files.specs.Stage.{Stage, Then, Each}

-- the bytes of the file of this name
abbrev pub Held : Files → (file : ℕ) → List ℕ → Stage (List ℕ)
Held files file name (Ok bytes) = (files name ≡ Some bytes) × (length bytes ≤ max_bytes)
Held files file name (Err e) =
    ((e ≡ Absent file) × (files name ≡ None)) ⊎ ((e ≡ TooLong file) × IsSomeAnd (files name) (λ bytes. max_bytes < length bytes))

-- the trees of a model's file and of data files
abbrev pub Trees : Type 0
Trees = ModelTree × List DataTree

-- the trees of the files of these names, the model's first: the reading of each comes first
abbrev pub Loaded : Files → (model : List ℕ) → (names : List (List ℕ)) → Stage Trees
Loaded files model names = Then (Held files 0 model) (λ bytes. Then (Each (Held files) 1 names) (Read bytes))
