-- Typing is the function of the relation: it finds a type exactly where the relation holds, and that type.
use Rattle.std.specs.Prelude.{◌≡◌, Bool, true, Some, Ok}
use Rattle.opl_type_rules.specs.Types.{Sort, is_set}
use Rattle.opl_type_rules.specs.Scope.{Scope, and_then}
use Rattle.opl_type_rules.specs.Forms.{Form, SetForm, Params}
use Rattle.opl_type_rules.specs.Expressions.{Node, Need, Opened, Range, used, typing, typed_set, open_params}
use Rattle.opl_type_rules.specs.Expressions.Need.{data_alone}
use Rattle.opl_typed.specs.Relation.{Typed, typed_of, HasType, Meets, IsSetOf, Opens}

-- an expression is so typed, and fits a place that has this need and takes such types
abbrev pub Fits : Scope → Form → Need → (Sort → Bool) → Typed → Type 0
Fits sc f need takes t = HasType sc f t × Meets need t × (takes t.sort ≡ true)

-- what typing finds of an expression in its place, the relation has
abbrev pub Sound : Type 0
Sound = (sc : Scope) (f : Form) (need : Need) (takes : Sort → Bool) (n : Node) → and_then (typing sc f) (used need takes) ≡ Ok n → Fits sc f need takes (typed_of n)

-- what the relation has, typing finds
abbrev pub Complete : Type 0
Complete =
    (sc : Scope) (f : Form) (need : Need) (takes : Sort → Bool) (t : Typed) → Fits sc f need takes t → (n : Node) × (and_then (typing sc f) (used need takes) ≡ Ok n) × (typed_of n ≡ t)

-- so an expression is typed in one way at most
abbrev pub OneType : Type 0
OneType = (sc : Scope) (f : Form) (t u : Typed) → HasType sc f t → HasType sc f u → t ≡ u

-- the same of sets of parameters
abbrev pub SetsSound : Type 0
SetsSound = (sc : Scope) (over : SetForm) (range : Range) → typed_set data_alone is_set sc over ≡ Ok range → (s : Sort) × IsSetOf sc over s × (range.element ≡ Some s)

abbrev pub SetsComplete : Type 0
SetsComplete = (sc : Scope) (over : SetForm) (s : Sort) → IsSetOf sc over s → (range : Range) × (typed_set data_alone is_set sc over ≡ Ok range) × (range.element ≡ Some s)

-- and of parameters
abbrev pub ParamsSound : Type 0
ParamsSound = (need : Need) (sc : Scope) (p : Params) (o : Opened) → open_params need sc p ≡ Ok o → Opens need sc p o.scope

abbrev pub ParamsComplete : Type 0
ParamsComplete = (need : Need) (sc : Scope) (p : Params) (inner : Scope) → Opens need sc p inner → (o : Opened) × (open_params need sc p ≡ Ok o) × (o.scope ≡ inner)
