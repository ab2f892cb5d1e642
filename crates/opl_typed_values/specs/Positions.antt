-- Where the fields that expressions name stand in their structs.
use Rattle.std.specs.Prelude.{◌≡◌, ℕ, ◌+◌, cond, List, [], ◌∷◌, Option, Some, None}
use Rattle.std.specs.Str.{bytes_eq}
use Rattle.opl_type_rules.specs.Types.{Sort}
use Rattle.opl_type_rules.specs.Types.Sort.{structure}
use Rattle.opl_type_rules.specs.Scope.{Field, Scope, Text, fields}
use Rattle.opl_type_rules.specs.Forms.{Form, Forms, Pairs, SetForm, Groups, Params}
use Rattle.opl_type_rules.specs.Forms.Form.{bracket, field, tuple, listed, described, cells, keyed_cells}
use Rattle.opl_type_rules.specs.Forms.Forms.{no_forms, more_forms}
use Rattle.opl_type_rules.specs.Forms.Pairs.{no_pairs, more_pairs}
use Rattle.opl_type_rules.specs.Forms.SetForm.{whole, between}
use Rattle.opl_type_rules.specs.Forms.Groups.{no_groups, more_groups}
use Rattle.opl_type_rules.specs.Forms.Params.{all_of, those_of}
use Rattle.opl_type_rules.specs.Expressions.Need.{data_alone}
use Rattle.opl_typed.specs.Relation.{AllName, HasType, IsSetOf, Opens, Typed}

-- where the first field with this name stands among fields, the first of which stands at p
abbrev pub place_from : ℕ → Text → List Field → Option ℕ
place_from p name [] = None
place_from p name (f ∷ fs) = cond (bytes_eq name f.name) (Some p) (place_from (p + 1) name fs)

module _ (position : ℕ → ℕ) where
  abbrev mutual
    -- the position of each field of which an expression's value is made is that of the field in its struct; what numbers and truth values are made of does not matter
    pub FieldsStand : Scope → Form → Type 0
    FieldsStand sc (bracket at f) = FieldsStand sc f
    FieldsStand sc (field at f name) = FieldsStand sc f × ((a : Typed) (k p : ℕ) → HasType sc f a → a.sort ≡ structure k → place_from 0 name.text (fields sc k) ≡ Some p → position name.at ≡ p)
    FieldsStand sc (tuple at fs) = AllStand sc fs
    FieldsStand sc (listed at fs) = AllStand sc fs
    FieldsStand sc (described at f p) = ParamsStand sc p × ((inner : Scope) → Opens data_alone sc p inner → FieldsStand inner f)
    FieldsStand sc (cells at fs) = AllStand sc fs
    FieldsStand sc (keyed_cells at ps) = PairsStand sc ps
    FieldsStand sc f = Unit {0}

    -- the same of expressions one beside the other
    pub AllStand : Scope → Forms → Type 0
    AllStand sc no_forms = Unit {0}
    AllStand sc (more_forms f fs) = FieldsStand sc f × AllStand sc fs

    -- of the cells behind keys: what a key comes to is looked up among the elements of an index set
    pub PairsStand : Scope → Pairs → Type 0
    PairsStand sc no_pairs = Unit {0}
    PairsStand sc (more_pairs key cell others) = FieldsStand sc cell × PairsStand sc others

    -- of a set of parameters
    pub SetStands : Scope → SetForm → Type 0
    SetStands sc (whole f) = FieldsStand sc f
    SetStands sc (between low high) = Unit {0}

    -- of the sets of groups, each in the scope of those before it
    pub GroupsStand : Scope → Groups → Type 0
    GroupsStand sc no_groups = Unit {0}
    GroupsStand sc (more_groups ps over others) = SetStands sc over × ((s : Sort) (behind : Scope) → IsSetOf sc over s → AllName sc s ps behind → GroupsStand behind others)

    -- of parameters, whose condition is a truth value
    pub ParamsStand : Scope → Params → Type 0
    ParamsStand sc (all_of groups) = GroupsStand sc groups
    ParamsStand sc (those_of groups condition) = GroupsStand sc groups
