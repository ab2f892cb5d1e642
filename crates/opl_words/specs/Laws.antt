-- What holds of the words of calls.
use Rattle.std.specs.Prelude.{◌≡◌, true, false, not, List, ◌∷◌, ◌++◌, map, None, Some, codes}
use Rattle.std.specs.List.{list_all}
use Rattle.opl_words.specs.declared.call.Command.TheVariants.{Solve}
use Rattle.opl_words.specs.Requests.{Word, default_budget, is_dashed, over_files, request}
use Rattle.opl_words.specs.Examples.{examples, words_of}

-- each example asks for what it says
abbrev pub ExamplesHold : Type 0
ExamplesHold = map (λ e. request (words_of e.line)) examples ≡ map (λ e. e.asks) examples

-- `solve` with files alone is the request for all solutions, with the default budget
abbrev pub FilesAlone : Type 0
FilesAlone = (model : Word) (files : List Word) → list_all (λ word. not (is_dashed word)) (model ∷ files) ≡ true
    → request (codes "solve" ∷ model ∷ files)
    ≡ Some (over_files (record { command = Solve (record { budget = default_budget; limit = None; is_improving = false }); model = model; files = files }))

-- `--budget=N` is `--budget N`
abbrev pub BudgetsAlike : Type 0
BudgetsAlike = (number : Word) (words : List Word) → is_dashed number ≡ false
    → request (codes "solve" ∷ (codes "--budget=" ++ number) ∷ words) ≡ request (codes "solve" ∷ codes "--budget" ∷ number ∷ words)

-- `--limit=N` is `--limit N`
abbrev pub LimitsAlike : Type 0
LimitsAlike = (number : Word) (words : List Word) → is_dashed number ≡ false
    → request (codes "solve" ∷ (codes "--limit=" ++ number) ∷ words) ≡ request (codes "solve" ∷ codes "--limit" ∷ number ∷ words)
