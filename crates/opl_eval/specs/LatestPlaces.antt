-- The places of the latest entries.
use Rattle.std.specs.Prelude.{ℕ, ◌+◌, List, [], ◌∷◌, cond, bytes_eq, Option, Some, None}
use Rattle.std.specs.List.{slice_get}
use Rattle.opl_eval.specs.declared.entry.Entry.{Entry}

-- the place of the latest of these entries with that name, where the first of them stands at i; else the place before
abbrev pub place_or : Option ℕ → ℕ → List ℕ → List Entry → Option ℕ
place_or before i name [] = before
place_or before i name (e ∷ es) = place_or (cond (bytes_eq name e.name) (Some i) before) (i + 1) name es

-- the entry at that place
abbrev pub entry_at : Option ℕ → List Entry → Option Entry
entry_at None es = None
entry_at (Some i) es = slice_get es i

-- the latest of these entries with that name, else the one before
abbrev pub entry_or : Option Entry → List ℕ → List Entry → Option Entry
entry_or before name [] = before
entry_or before name (e ∷ es) = entry_or (cond (bytes_eq name e.name) (Some e) before) name es
