-- The structs of a model, by the numbers of their declarations.
use Rattle.std.specs.Prelude.{ℕ, ◌+◌, cond, List, [], ◌∷◌, map, Option, Some, None}
use Rattle.std.specs.List.{slice_get}
use Rattle.std.specs.Str.{bytes_eq}
use Rattle.opl_tree.specs.declared.declaration.DeclTree.{DeclTree}
use Rattle.opl_tree.specs.declared.declaration.DeclTree.TheVariants as decls
use Rattle.opl_tree.specs.declared.declaration.FieldTree.{FieldTree}
use Rattle.opl_tree.specs.declared.declaration.StructTree.{StructTree}

-- the bytes of a field's name
abbrev pub field_name : FieldTree → List ℕ
field_name f = f.name.text

-- the names of a struct's fields, in their order
abbrev pub names_in : StructTree → List (List ℕ)
names_in t = map field_name (t.first ∷ t.rest)

-- a declaration that is no struct has no fields
abbrev pub names_of : Option DeclTree → List (List ℕ)
names_of (Some (decls.Structure t)) = names_in t
names_of d = []

-- the names of the fields of the struct that is declared with this number
unfoldable pub field_names : List DeclTree → ℕ → List (List ℕ)
field_names ds k = names_of (slice_get ds k)

-- where a name stands among names, the first of which stands at p
abbrev pub position_from : ℕ → List ℕ → List (List ℕ) → Option ℕ
position_from p name [] = None
position_from p name (n ∷ ns) = cond (bytes_eq name n) (Some p) (position_from (p + 1) name ns)

-- the position of a field in the struct that is declared with this number, from 0
unfoldable pub position : List DeclTree → ℕ → List ℕ → Option ℕ
position ds k name = position_from 0 name (field_names ds k)
