-- The law of outcomes.
use Rattle.std.specs.Prelude.{◌≡◌, ℕ, List, Result}
use Rattle.opl_outside.specs.Files.{Files}
use Rattle.opl_files.specs.declared.refusal.Refusal.{Refusal}
use Rattle.opl_tool.specs.Judged.{Judged}
use Rattle.opl_tool.specs.Tasks.{Task}

-- whatever the words and the files are, they come to one outcome and to no other: a task, or a refusal
abbrev pub OneOutcome : Type 0
OneOutcome = (words : List (List ℕ)) (files : Files) →
    (outcome : Result Task Refusal) × Judged words files outcome × ((other : Result Task Refusal) → Judged words files other → other ≡ outcome)
