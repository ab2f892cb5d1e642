-- Lists of those who watch a variable. A list may have members too that are there no longer.
use Rattle.std.specs.Prelude.{◌≡◌, ℕ, ◌<◌, true, List, length}
use Rattle.opl_filter.specs.Mentions.{lists}
use Rattle.opl_closure.specs.Waits.{watches}

-- each of the variables has a list
abbrev pub HaveLists : List ℕ → List (List ℕ) → Type 0
HaveLists variables watchers = (x : ℕ) → lists variables x ≡ true → x < length watchers

-- the members before i go on watching what they watched
abbrev pub KeepsBefore : ℕ → List (List ℕ) → List (List ℕ) → Type 0
KeepsBefore i old new = (j x : ℕ) → j < i → watches old j x ≡ true → watches new j x ≡ true
