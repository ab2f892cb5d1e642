-- What is still to be written of an array, while its cells are written one after another.
use Rattle.std.specs.Prelude.{◌≡◌, ℕ, suc, ◌+◌, ◌*◌, Bool, true, false, codes, drop, length, List, [], ◌∷◌, ◌++◌, map, Option, None, Some}
use Rattle.std.specs.Borrow.{Bor}
use Rattle.opl_value.specs.Places.{numbers_between}
use Rattle.opl_given.specs.Elements.{left}
use Rattle.opl_show.specs.declared.course.Course.{Course}
use Rattle.opl_show.specs.declared.course.Stage.{Stage}
use Rattle.opl_show.specs.declared.course.Stage.TheVariants as stages
use Rattle.opl_show.specs.declared.course.Turn.{Turn}
use Rattle.opl_show.specs.declared.layers.Layer.{Layer}
use Rattle.opl_show.specs.declared.layers.Layer.TheVariants.{Whole, Listed}
use Rattle.opl_show.specs.declared.layers.Prefixes.{Prefixes}
use Rattle.opl_show.specs.declared.layers.Prefixes.TheVariants.{Bare, Keyed}
use Rattle.opl_show.specs.Texts.{Brackets, behind, nested, parts_with, size_of}

-- how a dimension is written
abbrev pub brackets_of : Layer → Brackets
brackets_of (Whole low high) = record { opening = codes "["; closing = codes "]"; prefixes = map (λ v. []) (numbers_between low high) }
brackets_of (Listed keys) = record { opening = codes "#["; closing = codes "]#"; prefixes = keys }

abbrev pub all_brackets : List Layer → List Brackets
all_brackets layers = map brackets_of layers

-- what stands before the elements that are left
abbrev pub prefixes_left : Prefixes → List (List ℕ)
prefixes_left (Bare elements) = map (λ v. []) (left elements)
prefixes_left (Keyed keys) = keys.now

abbrev pub closing_of : Prefixes → List ℕ
closing_of (Bare elements) = codes "]"
closing_of (Keyed keys) = codes "]#"

-- texts with `,` between them, behind a text where there are any
abbrev pub separated : List ℕ → List (List ℕ) → List ℕ
separated before [] = []
separated before (t ∷ ts) = before ++ t ++ behind ts

-- what is written of cells
abbrev pub Writing : Type 0
Writing = List (List ℕ) → List ℕ

-- the parts of a dimension with these prefixes, what closes it, and what comes after the cells that they take
abbrev pub rest_text : List ℕ → List (List ℕ) → List ℕ → List Brackets → Writing → Writing
rest_text before prefixes closing ds after cells =
    separated before (parts_with (nested ds) (size_of ds) prefixes cells) ++ (closing ++ after (drop (length prefixes * size_of ds) cells))

-- what is left of a dimension, and what comes after it
abbrev pub turn_text : Turn → Writing → Writing
turn_text t after cells = rest_text (codes ",") (prefixes_left t.prefixes) (closing_of t.prefixes) (all_brackets t.behind.now) after cells

-- what is left of dimensions, the last of them first
abbrev pub still : Writing → List Turn → Writing
still after [] cells = after cells
still after (t ∷ ts) cells = still (turn_text t after) ts cells

-- nothing comes after all cells
abbrev pub at_end : Writing
at_end cells = []

-- what comes next, and then what is left
abbrev pub pending : Option (Bor (List Layer)) → List Turn → Writing
pending None ts cells = still at_end ts cells
pending (Some layers) ts cells = nested (all_brackets layers.now) cells ++ still at_end ts (drop (size_of (all_brackets layers.now)) cells)

abbrev pub to_write : Course → Writing
to_write course cells = pending course.ahead course.turns.items cells

-- whether a cell comes next, where these texts were and are written
abbrev pub Comes : List ℕ → Course → List ℕ → Course → Bool → Type 0
Comes old before new course true = (cells : List (List ℕ)) → old ++ to_write before cells ≡ new ++ (nested [] cells ++ to_write course (drop 1 cells))
Comes old before new course false = (cells : List (List ℕ)) → old ++ to_write before cells ≡ new

-- the same of one step, which may end between cells
abbrev pub Steps : List ℕ → Course → List ℕ → Course → Stage → Type 0
Steps old before new course stages.Cell = Comes old before new course true
Steps old before new course stages.Between = (cells : List (List ℕ)) → old ++ to_write before cells ≡ new ++ to_write course cells
Steps old before new course stages.End = Comes old before new course false

-- ---- how far it is

-- the number of steps over dimensions
abbrev pub distance : List Brackets → ℕ
distance [] = 1
distance (d ∷ ds) = suc (length d.prefixes * suc (distance ds))

-- the number of steps over what is left of dimensions
abbrev pub distance_back : List Turn → ℕ
distance_back [] = 0
distance_back (t ∷ ts) = suc (length (prefixes_left t.prefixes) * suc (distance (all_brackets t.behind.now))) + distance_back ts

abbrev pub distance_ahead : Option (Bor (List Layer)) → ℕ
distance_ahead None = 0
distance_ahead (Some layers) = distance (all_brackets layers.now)

-- the number of steps that are still taken
abbrev pub distance_of : Course → ℕ
distance_of course = distance_back course.turns.items + distance_ahead course.ahead

-- whether a step is not the last
abbrev pub goes_on : Stage → Bool
goes_on stages.End = false
goes_on stage = true
