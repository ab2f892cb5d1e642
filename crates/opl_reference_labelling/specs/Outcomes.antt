-- What a search has made, as the program keeps it.
use Rattle.std.specs.Prelude.{◌≡◌, List, [], ◌∷◌, map}
use Rattle.opl_expr.specs.declared.model.Core.{Core}
use Rattle.opl_expr.specs.Solutions.{goal_term}
use Rattle.opl_trace.specs.SoundCores.{facts_in, AreSound, IsBest}
use Rattle.opl_trace.specs.Run as run
use Rattle.opl_reference_labelling.specs.declared.mark.Mark as mark
use Rattle.opl_reference_labelling.specs.declared.outcome.Outcome as code

-- a mark of the program as plain data
abbrev pub mark_of : Core → mark.Mark → run.Mark
mark_of core (mark.TheVariants.Choice label) = run.Mark.choice label
mark_of core (mark.TheVariants.Leaf cs) = run.Mark.leaf (facts_in core cs)
mark_of core (mark.TheVariants.Solution values) = run.Mark.solution values
mark_of core (mark.TheVariants.Cut) = run.Mark.cut

abbrev pub marks_in : Core → List mark.Mark → List run.Mark
marks_in core ms = map (mark_of core) ms

abbrev pub outcome : Core → code.Outcome → run.Out
outcome core o = record { marks = marks_in core o.marks; best = o.best; left = o.left; is_cut = o.is_cut }

-- ---- what is kept

-- the constraints of each Leaf are sound
abbrev pub AreSoundMarks : Core → List run.Mark → Type 0
AreSoundMarks core [] = Unit {0}
AreSoundMarks core (run.Mark.choice label ∷ ms) = AreSoundMarks core ms
AreSoundMarks core (run.Mark.leaf P ∷ ms) = AreSound core P × AreSoundMarks core ms
AreSoundMarks core (run.Mark.solution a ∷ ms) = AreSoundMarks core ms
AreSoundMarks core (run.Mark.cut ∷ ms) = AreSoundMarks core ms

pub record IsSoundOut (core : Core) (o : run.Out) : Type 0 where
  pub marks : AreSoundMarks core o.marks
  pub best : IsBest core.sets (goal_term core) o.best

-- what the program made is the outcome, and sound
pub record IsMade (core : Core) (made : code.Outcome) (o : run.Out) : Type 0 where
  pub same : outcome core made ≡ o
  pub sound : IsSoundOut core o
