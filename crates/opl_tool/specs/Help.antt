-- The words that calls have.
use Rattle.std.specs.Prelude.{ℕ, List, ◌++◌, codes}

-- a line for each command
abbrev pub help_text : List ℕ
help_text =
    codes "solve MODEL [DATA..] [--limit N] [--budget N] [--improving] [--default-search] [--certificate FILE]\n"
    ++ codes "check MODEL [DATA..] --certificate FILE\n"
    ++ codes "run SCRIPT [--budget N] [--steps N]\n"
    ++ codes "ground MODEL [DATA..]\n"
    ++ codes "generate KIND N SEED\n"
    ++ codes "help\n"
