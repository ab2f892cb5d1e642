-- What the words of a call ask for.
use Rattle.std.specs.Prelude.{ℕ, ◌+◌, ◌-◌, ◌*◌, ◌^◌, Bool, false, not, ◌&&◌, nat_eq, nat_le, nat_lt, List, [], ◌∷◌, ◌++◌, length, drop, find, fold, codes, bytes_eq, Option, Some, None, unwrap_or, option_map, if◌then◌else◌}
use Rattle.std.specs.List.{after_first, before_first, list_all, list_any, starts_with}
use Rattle.std.specs.Option.{option_and_then}
use Rattle.std.specs.Char.{is_ascii_digit}
use Rattle.opl_words.specs.declared.call.Command.{Command}
use Rattle.opl_words.specs.declared.call.Command.TheVariants.{Solve, Ground}
use Rattle.opl_words.specs.declared.call.Generated.{Generated}
use Rattle.opl_words.specs.declared.call.Kind.{Kind}
use Rattle.opl_words.specs.declared.call.Kind.TheVariants.{Chain, Queens}
use Rattle.opl_words.specs.declared.call.Searching.{Searching}

-- a word is the list of its bytes
abbrev pub Word : Type 0
Word = List ℕ

-- the name of the model's file, and those of the data files, for a command
pub record Files : Type 0 where
  pub command : Command
  pub model : Word
  pub files : List Word

-- what a call asks for: a command over files, the text of a model that is made, or the words that calls have
pub data Asked : Type 0 where
  over_files : Files → Asked
  generate : Generated → Asked
  help : Asked

-- ---- numbers

-- the value of decimal digits
abbrev pub decimal : Word → ℕ
decimal digits = fold (λ n digit. 10 * n + (digit - 48)) 0 digits

-- a number is written with 1 to 19 decimal digits
abbrev pub is_decimal : Word → Bool
is_decimal word = nat_le 1 (length word) && nat_le (length word) 19 && list_all is_ascii_digit word

-- the number that a word is, from `least` to below `end`
abbrev pub number_in : (least end : ℕ) → Word → Option ℕ
number_in least end word = if is_decimal word && nat_le least (decimal word) && nat_lt (decimal word) end then Some (decimal word) else None

-- how many choices or solutions there may be: 1 to 2 ^ 63 - 1
abbrev pub count_of : Word → Option ℕ
count_of word = number_in 1 (2 ^ 63) word

-- how large a generated model is: 1 to 1,000
abbrev pub size_of : Word → Option ℕ
size_of word = number_in 1 1001 word

-- from what its numbers are drawn: 0 to 2 ^ 63 - 1
abbrev pub seed_of : Word → Option ℕ
seed_of word = number_in 0 (2 ^ 63) word

-- ---- the words behind the command

-- the names of a command's options: of those with a value, and of flags
pub record Options : Type 0 where
  pub valued : List Word
  pub flags : List Word

-- what words give: the options with their values, the flags, and the files
pub record Given : Type 0 where
  pub values : List (Word × Word)
  pub flags : List Word
  pub files : List Word

-- no word has given anything
abbrev pub nothing : Given
nothing = record { values = []; flags = []; files = [] }

abbrev pub with_value : Word → Word → Given → Given
with_value name value g = record g { values = g.values ++ (name, value) ∷ [] }

abbrev pub with_flag : Word → Given → Given
with_flag name g = record g { flags = g.flags ++ name ∷ [] }

abbrev pub with_files : List Word → Given → Given
with_files files g = record g { files = g.files ++ files }

-- the name is one of these
abbrev pub is_among : List Word → Word → Bool
is_among names name = list_any (λ other. bytes_eq other name) names

-- the value of the option that has been given by this name
abbrev pub value_in : Given → Word → Option Word
value_in g name = option_map (λ p. p.1) (find (λ p. bytes_eq p.0 name) g.values)

-- an option with a value has been given by this name
abbrev pub has_value : Given → Word → Bool
has_value g name = list_any (λ p. bytes_eq p.0 name) g.values

-- `--`, behind which every word is a file
abbrev pub is_end_of_options : Word → Bool
is_end_of_options word = bytes_eq word (codes "--")

-- `--NAME` or `--NAME=VALUE`
abbrev pub is_named : Word → Bool
is_named word = starts_with nat_eq word (codes "--")

-- a word that begins with `-` is no file and no value; but `-` alone is
abbrev pub is_dashed : Word → Bool
is_dashed [] = false
is_dashed (b ∷ []) = false
is_dashed (b ∷ c ∷ rest) = nat_eq b 45

-- what stands behind `--`, up to the first `=`
abbrev pub name_of : Word → Word
name_of word = before_first (λ b. nat_eq b 61) (drop 2 word)

-- `--NAME=VALUE`
abbrev pub is_attached : Word → Bool
is_attached word = list_any (λ b. nat_eq b 61) (drop 2 word)

-- what stands behind the first `=`
abbrev pub attached_to : Word → Word
attached_to word = after_first (λ b. nat_eq b 61) (drop 2 word)

-- what has been given with the option of this name, if it is one with a value and has not been given before
abbrev pub add_value : Options → (name value : Word) → Given → Option Given
add_value o name value g = if is_among o.valued name && not (has_value g name) then Some (with_value name value g) else None

-- the same with a flag
abbrev pub add_flag : Options → (name : Word) → Given → Option Given
add_flag o name g = if is_among o.flags name && not (is_among g.flags name) then Some (with_flag name g) else None

abbrev mutual
  -- the words from the left, behind those that gave `g`
  pub read : Options → (g : Given) → List Word → Option Given
  read o g [] = Some g
  read o g (word ∷ words) =
      if is_end_of_options word then Some (with_files words g)
      else (if is_named word then
      (if is_attached word then option_and_then (λ h. read o h words) (add_value o (name_of word) (attached_to word) g)
      else (if is_among o.valued (name_of word) then read_value o g (name_of word) words
      else option_and_then (λ h. read o h words) (add_flag o (name_of word) g)))
      else (if is_dashed word then None
      else read o (with_files (word ∷ []) g) words))

  -- the words behind an option that wants a value: the first is the value
  pub read_value : Options → (g : Given) → (name : Word) → List Word → Option Given
  read_value o g name [] = None
  read_value o g name (value ∷ words) = if is_dashed value then None else option_and_then (λ h. read o h words) (add_value o name value g)

-- ---- all words

-- the first file is the model's
abbrev pub asked : Command → List Word → Option Asked
asked command [] = None
asked command (model ∷ files) = Some (over_files (record { command = command; model = model; files = files }))

-- how many choices there may be, where no budget is given
abbrev pub default_budget : ℕ
default_budget = 1000000

-- the number of an option that may be left out
abbrev pub number_given : Option Word → Option (Option ℕ)
number_given None = Some None
number_given (Some word) = option_map Some (count_of word)

-- what `solve` asks of its search
abbrev pub searching : Given → Option Searching
searching g =
    option_and_then (λ budget. option_map (λ limit. record {
      budget = unwrap_or budget default_budget;
      limit = limit;
      is_improving = is_among g.flags (codes "improving");
    }) (number_given (value_in g (codes "limit")))) (number_given (value_in g (codes "budget")))

abbrev pub solve_options : Options
solve_options = record { valued = codes "limit" ∷ codes "budget" ∷ []; flags = codes "improving" ∷ [] }

-- `solve` with these words behind it
abbrev pub solve_request : List Word → Option Asked
solve_request words = option_and_then (λ g. option_and_then (λ s. asked (Solve s) g.files) (searching g)) (read solve_options nothing words)

-- a command with files alone
abbrev pub no_options : Options
no_options = record { valued = []; flags = [] }

-- `ground` with these words behind it
abbrev pub ground_request : List Word → Option Asked
ground_request words = option_and_then (λ g. asked Ground g.files) (read no_options nothing words)

-- the kind of models by its name
abbrev pub kind_of : Word → Option Kind
kind_of word =
    if bytes_eq word (codes "queens") then Some Queens
    else (if bytes_eq word (codes "chain") then Some Chain
    else None)

-- KIND, N and SEED
abbrev pub generated : List Word → Option Generated
generated (kind ∷ size ∷ seed ∷ []) =
    option_and_then (λ k. option_and_then (λ n. option_map (λ s. record { kind = k; size = n; seed = s }) (seed_of seed)) (size_of size)) (kind_of kind)
generated _ = None

-- `generate` with these words behind it
abbrev pub generate_request : List Word → Option Asked
generate_request words = option_and_then (λ g. option_map generate (generated g.files)) (read no_options nothing words)

-- `help`, which stands alone
abbrev pub help_request : List Word → Option Asked
help_request [] = Some help
help_request (word ∷ words) = None

-- what the words of a call ask for, or nothing: then they are no call
abbrev pub request : List Word → Option Asked
request [] = None
request (command ∷ words) =
    if bytes_eq command (codes "solve") then solve_request words
    else (if bytes_eq command (codes "ground") then ground_request words
    else (if bytes_eq command (codes "generate") then generate_request words
    else (if bytes_eq command (codes "help") then help_request words
    else None)))
