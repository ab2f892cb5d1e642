-- The first Leaf among marks of the program.
use Rattle.std.specs.Prelude.{◌≡◌, ℕ, ◌<◌, Bool, true, false, List, [], length, take, Option, Some, None}
use Rattle.opl_expr.specs.declared.model.Core.{Core}
use Rattle.opl_expr.specs.declared.forms.Cons.{Cons}
use Rattle.opl_expr.specs.Forms.{Fact}
use Rattle.opl_trace.specs.Run as run
use Rattle.opl_trace.specs.Run.{first_leaf}
use Rattle.opl_reference_labelling.specs.declared.mark.Mark as code
use Rattle.opl_trace.specs.SoundCores.{facts_in}
use Rattle.opl_reference_labelling.specs.Outcomes.{marks_in}

-- the constraints of a mark that is a Leaf
abbrev pub leaf_of : run.Mark → Option (List Fact)
leaf_of (run.Mark.choice label) = None
leaf_of (run.Mark.leaf P) = Some P
leaf_of (run.Mark.solution a) = None
leaf_of run.Mark.cut = None

abbrev pub is_choice : code.Mark → Bool
is_choice (code.TheVariants.Choice label) = true
is_choice (code.TheVariants.Leaf cs) = false
is_choice (code.TheVariants.Solution a) = false
is_choice (code.TheVariants.Cut) = false

-- the place of the first Leaf and its constraints, or none
abbrev pub IsFirstLeaf : Core → List code.Mark → Option (ℕ × List Cons) → Type 0
IsFirstLeaf core ms None = first_leaf (marks_in core ms) ≡ None
IsFirstLeaf core ms (Some p) = (p.0 < length ms) × (first_leaf (marks_in core ms) ≡ Some (record { before = marks_in core (take p.0 ms); posted = facts_in core p.1 }))
