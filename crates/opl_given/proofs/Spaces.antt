-- Index spaces, dimension after dimension.
use Rattle.std.proofs.Common.{◌≡◌, List, [], ◌∷◌, map, refl, ap, ◌∙◌, sym}
use Rattle.opl_value.specs.declared.value.Dimension.{Dimension}
use Rattle.opl_value.specs.declared.value.Dimension.TheViews.{roll-IndexSpace, out-roll-IndexSpace, roll-out-IndexSpace}
use Rattle.opl_value.specs.declared.value.IndexSpace.{IndexSpace}
use Rattle.opl_value.specs.Places.{dimension_values, dimensions, lists, space_of}
use Rattle.opl_given.specs.declared.axis.Axis as kept
use Rattle.opl_given.specs.Items.{lists_of}
use Rattle.opl_given.specs.Readings.{axis_of}

pub lists-none : (space : IndexSpace) → dimensions space ≡ [] → lists space ≡ []
lists-none space h = ap (map dimension_values) h

-- the index space with these dimensions
pub space-made : (space : IndexSpace) (ds : List Dimension) → dimensions space ≡ ds → space ≡ space_of ds
space-made space ds h = sym (roll-out-IndexSpace space) ∙ ap (λ (xs : List Dimension). roll-IndexSpace (record { dims = xs })) h

pub dimensions-space_of : (ds : List Dimension) → dimensions (space_of ds) ≡ ds
dimensions-space_of ds = ap (λ s. s.dims) (out-roll-IndexSpace (record { dims = ds }))

-- the dimensions of index sets, as the program keeps them and as they are read
pub dimensions-read : (axes : List kept.Axis) → map (λ a. a.dimension) (map axis_of axes) ≡ map (λ a. a.dimension) axes
dimensions-read [] = refl
dimensions-read (a ∷ others) = ap (λ ds. a.dimension ∷ ds) (dimensions-read others)

along : (axes : List kept.Axis) → map dimension_values (map (λ a. a.dimension) axes) ≡ lists_of (map axis_of axes)
along [] = refl
along (a ∷ others) = ap (λ vs. dimension_values a.dimension ∷ vs) (along others)

pub lists-space_of : (axes : List kept.Axis) → lists (space_of (map (λ a. a.dimension) axes)) ≡ lists_of (map axis_of axes)
lists-space_of axes = ap (map dimension_values) (dimensions-space_of (map (λ a. a.dimension) axes)) ∙ along axes

pub ruleset spaces = (lists-none, space-made, dimensions-space_of, dimensions-read, lists-space_of)
