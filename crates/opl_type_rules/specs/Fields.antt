-- Where the fields of a struct stand.
use Rattle.std.specs.Prelude.{◌≡◌, ℕ, List, [], ◌∷◌, cond, bytes_eq, map, Option, None, Some}
use Rattle.opl_type_rules.specs.declared.kind.Ty.{Ty}
use Rattle.opl_type_rules.specs.declared.names.Field as fields

-- the type of the first field of a name, and that of the last, else the one before
abbrev pub first_type : List ℕ → List fields.Field → Option Ty
first_type name [] = None
first_type name (f ∷ fs) = cond (bytes_eq name f.name) (Some f.ty) (first_type name fs)

abbrev pub last_type : Option Ty → List ℕ → List fields.Field → Option Ty
last_type before name [] = before
last_type before name (f ∷ fs) = last_type (cond (bytes_eq name f.name) (Some f.ty) before) name fs

-- the names are those of the fields, and of each name there is one field at most
abbrev pub Apart : List fields.Field → List (List ℕ) → Type 0
Apart fs names = (names ≡ map (λ f. f.name) fs) × ((name : List ℕ) → last_type None name fs ≡ first_type name fs)
