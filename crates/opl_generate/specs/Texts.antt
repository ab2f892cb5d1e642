-- The texts of generated models.
use Rattle.std.specs.Prelude.{ℕ, ◌+◌, ◌%◌, codes, decimal, List, [], ◌∷◌, ◌++◌, map}
use Rattle.rand_core.specs.Pcg32Seed.{pcg32_seed}
use Rattle.rand_core.specs.Steps.{first_words}
use Rattle.rand_pcg.specs.Pcg.{pcg32, pcg32_of_seed}
use Rattle.opl_words.specs.declared.call.Generated.{Generated}
use Rattle.opl_words.specs.declared.call.Kind.{Kind}
use Rattle.opl_words.specs.declared.call.Kind.TheVariants.{Chain, Queens}

-- lines, each ended by a newline
abbrev pub lines : List (List ℕ) → List ℕ
lines [] = []
lines (line ∷ rest) = line ++ codes "\n" ++ lines rest

-- ---- queens

-- no two queens stand in one column, or in one diagonal
abbrev pub queens_text : (size : ℕ) → List ℕ
queens_text size =
    codes "int n = " ++ decimal size ++ codes ";\n"
    ++ lines (
    codes "range R 1..n;"
    ∷ codes "var R q[R];"
    ∷ codes "solve {"
    ∷ codes "  forall(ordered i,j in R) {"
    ∷ codes "    q[i] <> q[j];"
    ∷ codes "    q[i] + i <> q[j] + j;"
    ∷ codes "    q[i] - i <> q[j] - j;"
    ∷ codes "  };"
    ∷ codes "};" ∷ []
    )

-- ---- a chain

-- a duration by a word that is drawn: 1 to 9
abbrev pub duration : ℕ → ℕ
duration word = 1 + word % 9

-- the durations by the first words of the Pcg32 of a seed
abbrev pub durations : (size seed : ℕ) → List ℕ
durations size seed = map duration (first_words pcg32 size (pcg32_of_seed (pcg32_seed 16 seed)))

-- each number behind a comma
abbrev pub followed : List ℕ → List ℕ
followed [] = []
followed (n ∷ rest) = codes "," ++ decimal n ++ followed rest

-- numbers with commas between them
abbrev pub listed : List ℕ → List ℕ
listed [] = []
listed (n ∷ rest) = decimal n ++ followed rest

-- activities with these durations, each of which ends before the next begins
abbrev pub chain_text : (size seed : ℕ) → List ℕ
chain_text size seed =
    codes "range R 1.." ++ decimal size
    ++ codes ";\nint d[R] = [" ++ listed (durations size seed)
    ++ codes "];\nint s = sum(i in R : i < " ++ decimal size
    ++ codes ") d[i];\nvar int x[R] in 0..s + 1;\nsolve { forall(i in R : i < " ++ decimal size
    ++ codes ") x[i] + d[i] <= x[i + 1]; };\n"

-- ---- whole texts

-- the text of a generated model; that of the queens doesn't depend on the seed
abbrev pub text_of : Kind → (size seed : ℕ) → List ℕ
text_of Queens size seed = queens_text size
text_of Chain size seed = chain_text size seed

abbrev pub model_text : Generated → List ℕ
model_text g = text_of g.kind g.size g.seed

-- the name of a kind of models
abbrev pub kind_name : Kind → List ℕ
kind_name Queens = codes "queens"
kind_name Chain = codes "chain"

-- the first line of the summary
abbrev pub head_text : Generated → List ℕ
head_text g = lines ((codes "Kind: " ++ kind_name g.kind ++ codes " " ++ decimal g.size ++ codes " " ++ decimal g.seed) ∷ [])
