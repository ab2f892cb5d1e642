-- What the program's values stand for in the definitions.
use Rattle.std.specs.Prelude.{List, [], map, Option, Some, None}
use Rattle.std.specs.Borrow.{Bor}
use Rattle.opl_given.specs.declared.axis.Axis as axes
use Rattle.opl_given.specs.declared.given.Given as gifts
use Rattle.opl_given.specs.declared.given.GivenValue as gift_values
use Rattle.opl_given.specs.declared.names.Names as names
use Rattle.opl_given.specs.declared.types.Types.{Types}
use Rattle.opl_given.specs.Forms.{Known}
use Rattle.opl_given.specs.Given.{Given, GivenValue}
use Rattle.opl_given.specs.Arrays.{Axis}
use Rattle.opl_given.specs.Names.{Text}
use Rattle.opl_given.specs.Values.{seen}

-- the names of a list of names
abbrev pub texts_of : names.Names → List Text
texts_of n = map (λ t. t.now) n.texts

-- names that are lent, or none
abbrev pub texts_lent : Option (Bor (List (Bor Text))) → List Text
texts_lent (Some ts) = map (λ t. t.now) ts.now
texts_lent None = []

-- what is known of types
unfoldable pub known_of : Types → Known
known_of types = record { names = texts_of types.names; forms = types.forms; enumerations = map texts_of types.enumerations; fields = types.fields }

-- the index set that an axis keeps
abbrev pub axis_of : axes.Axis → Axis
axis_of a = record { dimension = a.dimension; form = a.form }

-- what is lent
abbrev pub lent : {A : Type 0} → List (Bor A) → List A
lent bs = map (λ b. b.now) bs

-- what lies at places
abbrev pub laid : {A : Type 0} → List (Option (Bor A)) → List (Option A)
laid slots = map seen slots

-- the values that are given
abbrev pub given_value_of : gift_values.GivenValue → GivenValue
given_value_of g = record { file = g.file; value = g.value.now }

unfoldable pub given_of : gifts.Given → Given
given_of g = record { names = texts_of g.names; values = map given_value_of g.values }
