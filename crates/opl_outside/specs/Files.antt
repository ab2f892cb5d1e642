-- Files by their names, and what the calls of a shelf do to them.
use Rattle.std.specs.Prelude.{◌≡◌, ◌≢◌, ℕ, ◌^◌, ◌<◌, ◌≤◌, List, [], ◌++◌, length, take, Option, None, Some, unwrap_or, IsSomeAnd, Result, Ok, Err, IfOk, ⊤, ◌⊎◌}
use Rattle.opl_outside.specs.Becomes.{Becomes}
use Rattle.opl_outside.specs.declared.error.OutsideError.{OutsideError}
use Rattle.opl_outside.specs.declared.error.OutsideError.TheVariants.{Failed, OutOfMemory}
use Rattle.opl_outside.specs.declared.shelf.Found.{Found}
use Rattle.opl_outside.specs.declared.shelf.Found.TheVariants.{Bytes, Absent, TooLong}

-- from a name to the bytes of the file of that name, if there is one
abbrev pub Files : Type 0
Files = List ℕ → Option (List ℕ)

-- the most bytes of a file that is read: 16,777,216
abbrev pub max_bytes : ℕ
max_bytes = 2 ^ 24

-- the bytes of a file; none where there is no such file
abbrev pub bytes_of : Files → List ℕ → List ℕ
bytes_of files name = unwrap_or (files name) []

-- the file of this name has these bytes now, and every other file is as it was
pub record Sets (old new : Files) (name bytes : List ℕ) : Type 0 where
  pub this : new name ≡ Some bytes
  pub others : (other : List ℕ) → other ≢ name → new other ≡ old other

-- the bytes that a read gives are never more than the limit
abbrev pub IsWithinLimit : Found → Type 0
IsWithinLimit (Bytes bytes) = length bytes ≤ max_bytes
IsWithinLimit Absent = ⊤
IsWithinLimit TooLong = ⊤

-- what a read finds of a file
abbrev pub IsFound : Option (List ℕ) → Found → Type 0
IsFound file (Bytes bytes) = (file ≡ Some bytes) × (length bytes ≤ max_bytes)
IsFound file Absent = file ≡ None
IsFound file TooLong = IsSomeAnd file (λ bytes. max_bytes < length bytes)

-- a read changes no file, and finds what there is
abbrev pub Reads : Option Files → Option Files → List ℕ → Result Found OutsideError → Type 0
Reads old new name result =
    Becomes old new (λ before now. (now ≡ before) × IfOk result (IsFound (before name)))

-- what making a file empty has done, by how the call ended
abbrev pub EmptiesBy : {A : Type 0} → Result A OutsideError → List ℕ → Files → Files → Type 0
EmptiesBy (Ok x) name before now = Sets before now name []
EmptiesBy (Err Failed) name before now = (now ≡ before) ⊎ Sets before now name []
EmptiesBy (Err OutOfMemory) name before now = now ≡ before

-- the file is empty; where the call failed it is as it was or empty
abbrev pub Empties : {A : Type 0} → Option Files → Option Files → List ℕ → Result A OutsideError → Type 0
Empties old new name result = Becomes old new (EmptiesBy result name)

-- what adding a piece at the end of a file has done, by how the call ended
abbrev pub AddsBy : {A : Type 0} → Result A OutsideError → List ℕ → List ℕ → Files → Files → Type 0
AddsBy (Ok x) name piece before now = Sets before now name (bytes_of before name ++ piece)
AddsBy (Err Failed) name piece before now =
    (now ≡ before) ⊎ ((n : ℕ) × Sets before now name (bytes_of before name ++ take n piece))
AddsBy (Err OutOfMemory) name piece before now = now ≡ before

-- the file, empty if it was absent, has gained the piece; where the call failed, a prefix of it
abbrev pub Adds : {A : Type 0} → Option Files → Option Files → List ℕ → List ℕ → Result A OutsideError → Type 0
Adds old new name piece result = Becomes old new (AddsBy result name piece)
