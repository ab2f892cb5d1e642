-- Calls, and what they ask for.
use Rattle.std.specs.Prelude.{ℕ, nat_eq, Bool, true, false, List, [], ◌∷◌, Option, None, Some, codes, if◌then◌else◌}
use Rattle.opl_words.specs.declared.call.Command.TheVariants.{Solve, Ground}
use Rattle.opl_words.specs.declared.call.Kind.{Kind}
use Rattle.opl_words.specs.declared.call.Kind.TheVariants.{Chain, Queens}
use Rattle.opl_words.specs.Requests.{Asked, Word, asked, generate, help}

-- a byte before the first word
abbrev pub before : ℕ → List Word → List Word
before b [] = (b ∷ []) ∷ []
before b (word ∷ words) = (b ∷ word) ∷ words

-- the words of a line, with one space between them
abbrev pub words_of : List ℕ → List Word
words_of [] = [] ∷ []
words_of (b ∷ bs) = if nat_eq b 32 then [] ∷ words_of bs else before b (words_of bs)

-- what is asked for, over the files of a line
abbrev pub solves : (budget : ℕ) (limit : Option ℕ) (is_improving : Bool) → List ℕ → Option Asked
solves budget limit is_improving line = asked (Solve (record { budget = budget; limit = limit; is_improving = is_improving })) (words_of line)

abbrev pub grounds : List ℕ → Option Asked
grounds line = asked Ground (words_of line)

-- a model that is made
abbrev pub makes : Kind → (size seed : ℕ) → Option Asked
makes kind size seed = Some (generate (record { kind = kind; size = size; seed = seed }))

-- a line of words, and what it asks for
pub record Example : Type 0 where
  pub line : List ℕ
  pub asks : Option Asked

abbrev pub example : List ℕ → Option Asked → Example
example line asks = record { line = line; asks = asks }

abbrev pub examples : List Example
examples =
    example (codes "solve m") (solves 1000000 None false (codes "m"))
    ∷ example (codes "solve m d e") (solves 1000000 None false (codes "m d e"))
    ∷ example (codes "solve ground") (solves 1000000 None false (codes "ground"))
    ∷ example (codes "solve") None
    ∷ example (codes "ground m") (grounds (codes "m"))
    ∷ example (codes "ground m d") (grounds (codes "m d"))
    ∷ example (codes "ground") None
    ∷ example (codes "") None
    ∷ example (codes "m") None
    ∷ example (codes "Solve m") None
    ∷ example (codes "solv m") None
    ∷ example (codes "-- solve m") None
    ∷ example (codes "--help") None
    ∷ example (codes "-h") None
    ∷ example (codes "solve --budget 5 m") (solves 5 None false (codes "m"))
    ∷ example (codes "solve --budget=5 m") (solves 5 None false (codes "m"))
    ∷ example (codes "solve m --budget 5") (solves 5 None false (codes "m"))
    ∷ example (codes "solve m --budget=5 d") (solves 5 None false (codes "m d"))
    ∷ example (codes "solve m d --budget 5") (solves 5 None false (codes "m d"))
    ∷ example (codes "solve --budget 5") None
    ∷ example (codes "solve --budget 5 --budget 6 m") None
    ∷ example (codes "solve --budget=5 m --budget=5") None
    ∷ example (codes "solve --budget=5 m --budget 5") None
    ∷ example (codes "solve m --budget") None
    ∷ example (codes "solve --budget -- m") None
    ∷ example (codes "solve m --budget --") None
    ∷ example (codes "solve --budget m") None
    ∷ example (codes "solve --budget - m") None
    ∷ example (codes "solve --budget 0 m") None
    ∷ example (codes "solve --budget=0 m") None
    ∷ example (codes "solve --budget 1 m") (solves 1 None false (codes "m"))
    ∷ example (codes "solve --budget 007 m") (solves 7 None false (codes "m"))
    ∷ example (codes "solve --budget 0000000000000000001 m") (solves 1 None false (codes "m"))
    ∷ example (codes "solve --budget 00000000000000000001 m") None
    ∷ example (codes "solve --budget 9223372036854775807 m") (solves 9223372036854775807 None false (codes "m"))
    ∷ example (codes "solve --budget=9223372036854775808 m") None
    ∷ example (codes "solve --budget +5 m") None
    ∷ example (codes "solve --budget -5 m") None
    ∷ example (codes "solve --budget=-5 m") None
    ∷ example (codes "solve --budget= m") None
    ∷ example (codes "solve --budget  m") None
    ∷ example (codes "solve --budget=5x m") None
    ∷ example (codes "solve --budget=5= m") None
    ∷ example (codes "solve --budgets 5 m") None
    ∷ example (codes "solve --budge 5 m") None
    ∷ example (codes "solve --b 5 m") None
    ∷ example (codes "solve --Budget=5 m") None
    ∷ example (codes "solve -budget 5 m") None
    ∷ example (codes "solve --=5 m") None
    ∷ example (codes "solve --limit 3 m") (solves 1000000 (Some 3) false (codes "m"))
    ∷ example (codes "solve --limit=3 m") (solves 1000000 (Some 3) false (codes "m"))
    ∷ example (codes "solve m --limit 3 d") (solves 1000000 (Some 3) false (codes "m d"))
    ∷ example (codes "solve m --limit=0") None
    ∷ example (codes "solve m --limit 0") None
    ∷ example (codes "solve --limit 3 --limit 3 m") None
    ∷ example (codes "solve --limit --budget 5 m") None
    ∷ example (codes "solve --limit=--budget m") None
    ∷ example (codes "solve --limit -x m") None
    ∷ example (codes "solve --limit= m") None
    ∷ example (codes "solve --lim 3 m") None
    ∷ example (codes "solve m --limit 9223372036854775807") (solves 1000000 (Some 9223372036854775807) false (codes "m"))
    ∷ example (codes "solve m --limit 9223372036854775808") None
    ∷ example (codes "solve --budget 5 --limit 3 m") (solves 5 (Some 3) false (codes "m"))
    ∷ example (codes "solve --limit 3 m --budget 5") (solves 5 (Some 3) false (codes "m"))
    ∷ example (codes "solve m --limit=3 d --budget=5") (solves 5 (Some 3) false (codes "m d"))
    ∷ example (codes "solve --improving m") (solves 1000000 None true (codes "m"))
    ∷ example (codes "solve m --improving") (solves 1000000 None true (codes "m"))
    ∷ example (codes "solve m --improving d") (solves 1000000 None true (codes "m d"))
    ∷ example (codes "solve --improving --improving m") None
    ∷ example (codes "solve --improving= m") None
    ∷ example (codes "solve --improving=true m") None
    ∷ example (codes "solve --improve m") None
    ∷ example (codes "solve --improving --limit 3 --budget 5 m") (solves 5 (Some 3) true (codes "m"))
    ∷ example (codes "solve --limit --improving m") None
    ∷ example (codes "solve --improving") None
    ∷ example (codes "solve m -x") None
    ∷ example (codes "solve -x m") None
    ∷ example (codes "solve -") (solves 1000000 None false (codes "-"))
    ∷ example (codes "solve - -") (solves 1000000 None false (codes "- -"))
    ∷ example (codes "solve ") (solves 1000000 None false (codes ""))
    ∷ example (codes "solve m ") (solves 1000000 None false (codes "m "))
    ∷ example (codes "solve  m") (solves 1000000 None false (codes " m"))
    ∷ example (codes "solve -- -x") (solves 1000000 None false (codes "-x"))
    ∷ example (codes "solve -- --budget 5") (solves 1000000 None false (codes "--budget 5"))
    ∷ example (codes "solve m -- --budget=5") (solves 1000000 None false (codes "m --budget=5"))
    ∷ example (codes "solve --budget 5 -- m -x") (solves 5 None false (codes "m -x"))
    ∷ example (codes "solve --improving -- --improving") (solves 1000000 None true (codes "--improving"))
    ∷ example (codes "solve -- m --") (solves 1000000 None false (codes "m --"))
    ∷ example (codes "solve m --") (solves 1000000 None false (codes "m"))
    ∷ example (codes "solve --") None
    ∷ example (codes "solve -- ") (solves 1000000 None false (codes ""))
    ∷ example (codes "solve m --default-search") None
    ∷ example (codes "solve m --certificate c") None
    ∷ example (codes "check m --certificate c") None
    ∷ example (codes "run s") None
    ∷ example (codes "run s --steps 5") None
    ∷ example (codes "ground --budget 5 m") None
    ∷ example (codes "ground --budget=5 m") None
    ∷ example (codes "ground --limit 3 m") None
    ∷ example (codes "ground --improving m") None
    ∷ example (codes "ground -- --budget=5") (grounds (codes "--budget=5"))
    ∷ example (codes "ground m --") (grounds (codes "m"))
    ∷ example (codes "ground --") None
    ∷ example (codes "ground -") (grounds (codes "-"))
    ∷ example (codes "ground -x m") None
    ∷ example (codes "ground ") (grounds (codes ""))
    ∷ example (codes "ground --help") None
    ∷ example (codes "generate queens 8 1") (makes Queens 8 1)
    ∷ example (codes "generate chain 5 0") (makes Chain 5 0)
    ∷ example (codes "generate chain 1000 9") (makes Chain 1000 9)
    ∷ example (codes "generate chain 1001 9") None
    ∷ example (codes "generate chain 0 9") None
    ∷ example (codes "generate queens 008 001") (makes Queens 8 1)
    ∷ example (codes "generate queens 1 9223372036854775807") (makes Queens 1 9223372036854775807)
    ∷ example (codes "generate queens 1 9223372036854775808") None
    ∷ example (codes "generate queens 8") None
    ∷ example (codes "generate queens") None
    ∷ example (codes "generate") None
    ∷ example (codes "generate queens 8 1 2") None
    ∷ example (codes "generate Queens 8 1") None
    ∷ example (codes "generate knights 8 1") None
    ∷ example (codes "generate queens -8 1") None
    ∷ example (codes "generate queens 8 -") None
    ∷ example (codes "generate queens 8 +1") None
    ∷ example (codes "generate queens 8 ") None
    ∷ example (codes "generate  8 1") None
    ∷ example (codes "generate -- queens 8 1") (makes Queens 8 1)
    ∷ example (codes "generate queens -- 8 1") (makes Queens 8 1)
    ∷ example (codes "generate queens 8 1 --") (makes Queens 8 1)
    ∷ example (codes "generate queens 8 -- -1") None
    ∷ example (codes "generate --seed=1 queens 8 1") None
    ∷ example (codes "generate queens 8 --limit 1") None
    ∷ example (codes "help") (Some help)
    ∷ example (codes "help solve") None
    ∷ example (codes "help --") None
    ∷ example (codes "help ") None
    ∷ example (codes "Help") None ∷ []
