-- What the program's values stand for in the definitions.
use Rattle.std.specs.Prelude.{Bool, List, map, Option, option_map, unwrap_or, codes}
use Rattle.std.specs.Option.{option_and_then}
use Rattle.std.specs.Borrow.{Bor}
use Rattle.opl_words.specs.declared.call.Request.{Request}
use Rattle.opl_words.specs.declared.call.Request.TheVariants as request
use Rattle.opl_words.specs.declared.call.Searching.{Searching}
use Rattle.opl_words.specs.declared.given.Given.{Given as ProgramGiven}
use Rattle.opl_words.specs.Requests.{Asked, Given, Word, default_budget, generate, help, is_among, number_given, over_files, value_in}

-- what a request asks for
abbrev pub asked_of : Request → Asked
asked_of (request.OverFiles r) = over_files (record { command = r.command; model = r.model.now; files = map (λ file. file.now) r.files })
asked_of (request.Generate g) = generate g
asked_of request.Help = help

-- what `solve` asks of its search, by the values of its options
abbrev pub given_searching : (limit budget : Option Word) → Bool → Option Searching
given_searching limit budget is_improving =
    option_and_then (λ b. option_map (λ l. record { budget = unwrap_or b default_budget; limit = l; is_improving = is_improving }) (number_given limit)) (number_given budget)

-- what the words behind `solve` give, option by option
pub record SolveWords : Type 0 where
  pub limit : Option Word
  pub budget : Option Word
  pub is_improving : Bool
  pub files : List Word

abbrev pub given_of : ProgramGiven → SolveWords
given_of g = record {
  limit = option_map (λ w. w.now) g.limit;
  budget = option_map (λ w. w.now) g.budget;
  is_improving = g.is_improving;
  files = map (λ file. file.now) g.files;
}

abbrev pub of_given : Given → SolveWords
of_given g = record {
  limit = value_in g (codes "limit");
  budget = value_in g (codes "budget");
  is_improving = is_among g.flags (codes "improving");
  files = g.files;
}

-- the program's files as words
abbrev pub files_of : List (Bor Word) → List Word
files_of files = map (λ file. file.now) files
