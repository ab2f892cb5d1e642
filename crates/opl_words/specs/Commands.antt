-- The commands by which `clap` reads words: no program's name among them, no help, no version; files in one list, and options.
use Rattle.std.specs.Prelude.{◌≡◌, true, List, [], Option, Some, MatchOption, codes}
use Rattle.clap.specs.Matches.{found_of}
use Rattle.clap.specs.Walk.{Rule, rows_of}
use Rattle.clap.specs.Simple.{App, matches_of, new_app, new_rule, with_rule}
use Rattle.clap.specs.Faults.{fault_of}
use Rattle.clap.specs.declared.builder.action.ArgAction.TheVariants.{Append, Set, SetTrue}
use Rattle.clap.specs.declared.parser.matches.ArgMatches.{ArgMatches}
use Rattle.opl_words.specs.Requests.{Word}

-- the files
abbrev pub file_rule : Rule
file_rule = record (new_rule (codes "file")) { action = Some Append }

-- an option with a value
abbrev pub value_rule : Word → Rule
value_rule name = record (new_rule name) { long = Some name; action = Some Set }

-- a flag
abbrev pub flag_rule : Word → Rule
flag_rule name = record (new_rule name) { long = Some name; action = Some SetTrue }

-- a command without the name of a program among its words, and without help
abbrev pub bare_app : App
bare_app = record (new_app (codes "opl")) { top = record (new_app (codes "opl")).top { no_binary_name = true; disable_help_flag = true } }

abbrev pub files_app : App
files_app = with_rule bare_app file_rule

abbrev pub solve_app : App
solve_app = with_rule (with_rule (with_rule files_app (value_rule (codes "limit"))) (value_rule (codes "budget"))) (flag_rule (codes "improving"))

-- a command takes the words with these matches, or refuses them
abbrev pub Parses : App → List Word → Option ArgMatches → Type 0
Parses app words r = MatchOption r ((fault_of app words ≡ []) → ⊥) (λ m. (fault_of app words ≡ []) × (rows_of (found_of m) ≡ matches_of app words))
