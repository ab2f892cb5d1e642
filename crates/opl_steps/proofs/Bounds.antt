-- The bound that a best value sets.
use Rattle.std.proofs.Common.{◌≤◌, Bool, true, false, List, ℤ, arith}
use Rattle.std.specs.Prelude.{unsigned_abs, Some}
use Rattle.std.proofs.lemmas.Bool.{and_parts}
use Rattle.opl_expr.specs.Forms.{Term}
use Rattle.opl_expr.specs.Laws.{clear_fact}
use Rattle.opl_expr.specs.Sound.{term_magnitude, IsSoundFact}
use Rattle.opl_trace.specs.Objective.{better_than}
use Rattle.opl_trace.specs.SoundCores.{IsSoundGoal}
use Rattle.opl_trace.proofs.Improving.{holds_better, clear_better}
use Rattle.opl_steps.specs.Laws.{BetterHolds, BetterIsSound, BetterIsClear}

pub better_holds : BetterHolds
better_holds g i a = holds_better g.is_most g.term i a

pub better_clear : BetterIsClear
better_clear g i h = (and_parts (clear_fact (better_than g i)) true (clear_better g.is_most g.term i h)).0

sound_bound : (sets : List (ℤ × ℤ)) (m : Bool) (t : Term) (i : ℤ) → IsSoundGoal sets (Some t) → unsigned_abs i ≤ term_magnitude sets t → IsSoundFact sets (better_than (record { is_most = m; term = t }) i)
sound_bound sets true t i h l = (omega (arith, h.0, l), omega (arith, h.0, l), h.1)
sound_bound sets false t i h l = (omega (arith, h.0, l), h.1, omega (arith, h.0, l))

pub better_sound : BetterIsSound
better_sound sets g i h l = sound_bound sets g.is_most g.term i h l
