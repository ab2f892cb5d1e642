-- Default labelling of some variables of a core.
use Rattle.std.specs.Prelude.{ℕ, List, [], ◌∷◌, ◌++◌, ℤ}
use Rattle.opl_expr.specs.declared.model.Core.{Core}
use Rattle.opl_trace.specs.Answers.{is_value}
use Rattle.opl_trace.specs.Marks.{objective}
use Rattle.opl_trace.specs.Run.{Rest, Alternative, by_value, whole_leaf, label}
use Rattle.opl_trace.specs.Moments.{core_sets}

-- a value for each of some variables, and then a solution
unfoldable pub labelling : Core → List ℕ → Rest
labelling core xs = label (objective core) (core_sets core) xs (whole_leaf (objective core) (core_sets core))

-- the alternatives of variable x, each of which is followed by the other variables
abbrev pub values_then : Core → ℕ → List ℕ → List ℤ → List Alternative
values_then core x xs vs = by_value x (λ v P. labelling core xs (P ++ is_value x v ∷ [])) vs
