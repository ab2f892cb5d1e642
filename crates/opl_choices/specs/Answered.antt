-- Products whose factors are answered.
use Rattle.std.specs.Prelude.{Bool, true, false, ℤ, Option, Some, None}

-- there is a number
abbrev pub is_some_number : Option ℤ → Bool
is_some_number None = false
is_some_number (Some k) = true

-- of two factors, of which some are numbers, the second alone is one: a product is scaled by it
abbrev pub is_swapped : Option ℤ → Option ℤ → Bool
is_swapped None None = false
is_swapped None (Some k) = true
is_swapped (Some j) k = false
