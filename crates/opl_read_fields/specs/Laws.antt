-- The positions of fields that a model is bound with are those that its types tell, where the model was read from a text.
use Rattle.std.specs.Prelude.{◌≡◌, ◌≢◌, ◌<◌, ◌^◌, ℕ, List, [], length, map, Ok}
use Rattle.std.specs.List.{AllPairs}
use Rattle.std.specs.List.Sorted.{IsStrictlyIncreasing}
use Rattle.opl_outside.specs.Files.{Files}
use Rattle.opl_token.specs.declared.token.Token.{Token}
use Rattle.opl_token.specs.Scan.{Scans}
use Rattle.opl_tree.specs.declared.model.ModelTree.{ModelTree}
use Rattle.opl_tree.specs.Marks.{marks_model}
use Rattle.opl_reader_laws.specs.Reading.{IsTreeOf}
use Rattle.opl_type_rules.specs.Types.{Sort}
use Rattle.opl_model_types.specs.Models.{model}
use Rattle.opl_fields.specs.Whole.{model_fields}
use Rattle.opl_data.specs.declared.tree.DataTree.{DataTree}
use Rattle.opl_bind.specs.Bind.{Data, bound}
use Rattle.opl_bound_fields.specs.Laws.{Tells, ValuesFit}
use Rattle.opl_files.specs.Held.{Loaded}
use Rattle.opl_prepare.specs.Data.{HasData}
use Rattle.opl_prepare.specs.Positions.{positions}
use Rattle.opl_read_fields.specs.Places.{field_places}

-- no two names of fields stand at the same place
abbrev pub FieldNamesDiffer : ModelTree → Type 0
FieldNamesDiffer t = AllPairs (λ a b. a ≢ b) (field_places (marks_model t))

-- in a model that has types each field that the model names has its position, if no two names of fields stand at the same place
abbrev pub PositionsAreTold : Type 0
PositionsAreTold = (t : ModelTree) (kinds : List Sort) → FieldNamesDiffer t → model t ≡ Ok kinds → Tells (positions t) (model_fields t)

-- in the tree of tokens each of which stands behind the one before it, no two do
abbrev pub NamesOfTextsDiffer : Type 0
NamesOfTextsDiffer = (t : ModelTree) (tokens : List Token) (end : ℕ) → IsTreeOf marks_model t tokens end → IsStrictlyIncreasing (map (λ token. token.at) tokens) → FieldNamesDiffer t

-- so in a model that has types and was read from a text of fewer than 2^32 bytes each value that binding gives has the form of its declared type
abbrev pub ReadModelValuesFit : Type 0
ReadModelValuesFit =
    (bytes : List ℕ) (tokens : List Token) (end : ℕ) (t : ModelTree) (kinds : List Sort) (files : List DataTree) (final : Data) →
    length bytes < 2 ^ 32 → Scans bytes tokens → IsTreeOf marks_model t tokens end → model t ≡ Ok kinds → bound (positions t) t.decls files [] ≡ Ok final → ValuesFit (positions t) t files final

-- so has each value of the data that the program makes of the files that it reads
abbrev pub LoadedModelValuesFit : Type 0
LoadedModelValuesFit =
    (held : Files) (name : List ℕ) (names : List (List ℕ)) (t : ModelTree) (files : List DataTree) (final : Data) →
    Loaded held name names (Ok (t, files)) → HasData t files (Ok final) → ValuesFit (positions t) t files final
