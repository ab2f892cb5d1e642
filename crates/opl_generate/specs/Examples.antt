-- Generated models, and their texts.
use Rattle.std.specs.Prelude.{◌≡◌, ℕ, codes, List, [], ◌∷◌, ◌++◌}
use Rattle.opl_words.specs.declared.call.Kind.TheVariants.{Chain, Queens}
use Rattle.opl_generate.specs.Texts.{durations, model_text}

-- the durations of some chains, as another program of the same generator gives them
abbrev pub DurationsHold : Type 0
DurationsHold =
    (durations 5 0 ≡ 2 ∷ 6 ∷ 6 ∷ 1 ∷ 7 ∷ [])
    × (durations 5 1 ≡ 1 ∷ 6 ∷ 5 ∷ 3 ∷ 3 ∷ [])
    × (durations 12 42 ≡ 2 ∷ 5 ∷ 2 ∷ 8 ∷ 1 ∷ 4 ∷ 2 ∷ 7 ∷ 1 ∷ 8 ∷ 3 ∷ 5 ∷ [])
    × (durations 3 9223372036854775807 ≡ 5 ∷ 7 ∷ 1 ∷ [])

-- the text of a chain of three activities
abbrev pub three : List ℕ
three =
    codes "range R 1..3;\nint d[R] = [2,6,6];\nint s = sum(i in R : i < 3) d[i];\nvar int x[R] in 0..s + 1;\n"
    ++ codes "solve { forall(i in R : i < 3) x[i] + d[i] <= x[i + 1]; };\n"

-- the text of eight queens
abbrev pub eight : List ℕ
eight =
    codes "int n = 8;\nrange R 1..n;\nvar R q[R];\nsolve {\n  forall(ordered i,j in R) {\n"
    ++ codes "    q[i] <> q[j];\n    q[i] + i <> q[j] + j;\n    q[i] - i <> q[j] - j;\n  };\n};\n"

abbrev pub TextsHold : Type 0
TextsHold = (model_text (record { kind = Chain; size = 3; seed = 0 }) ≡ three) × (model_text (record { kind = Queens; size = 8; seed = 1 }) ≡ eight)
