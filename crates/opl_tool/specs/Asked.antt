-- What the words of a call name: its files, and its budget.
use Rattle.std.specs.Prelude.{ℕ, List, [], ◌∷◌, get_or, Option, Some, None}
use Rattle.opl_generate.specs.Texts.{kind_name}
use Rattle.opl_words.specs.Requests.{Asked, default_budget, request}
use Rattle.opl_words.specs.Requests.Asked.{over_files, generate, help}
use Rattle.opl_words.specs.declared.call.Command.{Command}
use Rattle.opl_words.specs.declared.call.Command.TheVariants.{Solve, Ground}

-- the names of the files: the model's, and then those of the data files; a made model has its kind as its name
abbrev pub files_of : Asked → List (List ℕ)
files_of (over_files asked) = asked.model ∷ asked.files
files_of (generate g) = kind_name g.kind ∷ []
files_of help = []

abbrev pub files_asked : Option Asked → List (List ℕ)
files_asked None = []
files_asked (Some asked) = files_of asked

abbrev pub files_in : List (List ℕ) → List (List ℕ)
files_in words = files_asked (request words)

-- the name of the file with this number: 0 is the model's, the data files follow
abbrev pub file_among : List (List ℕ) → ℕ → List ℕ
file_among files number = get_or files number []

-- how many choices a command allows
abbrev pub choices_of : Command → ℕ
choices_of (Solve s) = s.budget
choices_of Ground = 0

abbrev pub budget_of : Asked → ℕ
budget_of (over_files asked) = choices_of asked.command
budget_of (generate g) = default_budget
budget_of help = 0

abbrev pub choices_asked : Option Asked → ℕ
choices_asked None = 0
choices_asked (Some asked) = budget_of asked

-- the budget that the words give
abbrev pub budget_in : List (List ℕ) → ℕ
budget_in words = choices_asked (request words)
