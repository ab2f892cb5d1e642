-- The values that are given, as the program keeps them.
use Rattle.std.proofs.Common.{◌≡◌, ℕ, [], ◌∷◌, ◌++◌, map, Some, refl, ap, ◌∙◌}
use Rattle.std.specs.List.{slice_get}
use Rattle.std.specs.Option.{option_map}
use Rattle.std.proofs.lemmas.List.{map-append}
use Rattle.std.proofs.lemmas.Option.{slice_get-map}
use Rattle.opl_data.specs.declared.tree.DataItem.{DataItem}
use Rattle.opl_given.specs.declared.given.Given.{Given}
use Rattle.opl_given.specs.declared.given.GivenValue.{GivenValue}
use Rattle.opl_given.specs.Given.{nothing_given, given_to, with_value, value_at}
use Rattle.opl_given.specs.Names.{Text, position}
use Rattle.opl_given.specs.Readings.{given_of, given_value_of, texts_of}

-- the value at the place of a name
pub given-found : (g : Given) (name : Text) → given_to (given_of g) name ≡ value_at (map given_value_of g.values) (position name (texts_of g.names))
unfolding given_to given_of
given-found g name = refl

pub given-at : (g : Given) (place : ℕ) → value_at (map given_value_of g.values) (Some place) ≡ option_map given_value_of (slice_get g.values place)
given-at g place = slice_get-map given_value_of g.values place

pub given-none : (g : Given) → texts_of g.names ≡ [] → g.values ≡ [] → given_of g ≡ nothing_given
unfolding given_of
given-none g n v = λ i. record { names = n i; values = map given_value_of (v i) }

pub given-more : (g h : Given) (file : ℕ) (item : DataItem) (v : GivenValue) → texts_of h.names ≡ texts_of g.names ++ item.name.text ∷ [] →
    h.values ≡ g.values ++ v ∷ [] → given_value_of v ≡ record { file = file; value = item.value } → given_of h ≡ with_value (given_of g) file item
unfolding given_of with_value
given-more g h file item v n a e = λ i. record { names = n i; values = (ap (map given_value_of) a ∙ map-append given_value_of g.values (v ∷ []) ∙ ap (λ x. map given_value_of g.values ++ x ∷ []) e) i }

-- the names to which values are given
pub given-names : (g : Given) → (given_of g).names ≡ texts_of g.names
unfolding given_of
given-names g = refl

pub ruleset gifts = (given-found, given-at, given-none, given-more, given-names)
