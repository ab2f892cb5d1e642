-- The line on the sink of errors, by the answer of the call.
use Rattle.std.proofs.Common.{◌≡◌, ◌⊎◌, sym, ◌∙◌, ℕ, List, Option, Result, Ok, Err, inl, inr}
use Rattle.opl_outside.proofs.Becomes.{becomes_so}
use Rattle.opl_outside.specs.Becomes.{Becomes}
use Rattle.opl_files.specs.declared.stop.Stop.{Stop}
use Rattle.opl_files.specs.declared.stop.Stop.TheVariants as stops
use Rattle.opl_tool.specs.declared.answer.Answer.{Answer}
use Rattle.opl_tool.specs.declared.answer.Answer.TheVariants as answer
use Rattle.opl_tool.specs.declared.ended.Ended.{Ended}
use Rattle.opl_tool.specs.declared.ended.Ended.TheVariants.{Done, NoSolution}
use Rattle.opl_tool.specs.Headline.{Answers, ErrBy, GainsMemoryLine}
use Rattle.opl_tool.specs.Lines.{GainsLine, Tells, answer_of, stop_text}

-- a line that was told is that of its answer, or memory was wanting
pub tells-answers : (old new : Option (List ℕ)) (before now : ℕ) (line : List ℕ) (own a : Answer) → Tells old new before now line own a → (a ≡ own) ⊎ (a ≡ answer.OutOfMemory)
tells-answers old new before now line own a (inl told) = inl told.0
tells-answers old new before now line own a (inr none) = inr none.0

module _ (words : List (List ℕ)) (old new : Option (List ℕ)) (before now : ℕ) (a : Answer) where
  -- the line of this
  abbrev HasLine : Stop → Type 0
  HasLine stop = Becomes old new (GainsLine before now (stop_text stop words))

  -- the line was told, as memory sufficed
  told_line : (stop : Stop) (b : Answer) → (b ≡ answer.OutOfMemory → ⊥) → a ≡ b → Tells old new before now (stop_text stop words) (answer_of stop) a → HasLine stop
  told_line stop b enough is (inl told) = told.1
  told_line stop b enough is (inr none) = absurd (enough (sym is ∙ none.0))

  -- the answer is not that of what ended the work
  other_line : (stop : Stop) (b : Answer) (P : Type 0) → (answer_of stop ≡ b → ⊥) → (b ≡ answer.OutOfMemory → ⊥) → a ≡ b → Tells old new before now (stop_text stop words) (answer_of stop) a → P
  other_line stop b P unlike enough is (inl told) = absurd (unlike (sym told.0 ∙ is))
  other_line stop b P unlike enough is (inr none) = absurd (enough (sym is ∙ none.0))

  pub spent-line : (r : Result Ended Stop) → Answers r a → ErrBy words r old new before now a → a ≡ answer.Spent → HasLine stops.Spent
  spent-line (Ok Done) is told e = absurd (cc)
  spent-line (Ok NoSolution) is told e = absurd (cc)
  spent-line (Err (stops.Refused f)) is told e = other_line (stops.Refused f) answer.Spent _ (λ x. absurd (cc)) (λ x. absurd (cc)) e told
  spent-line (Err stops.Spent) is told e = told_line stops.Spent answer.Spent (λ x. absurd (cc)) e told
  spent-line (Err stops.ReadFault) is told e = other_line stops.ReadFault answer.Spent _ (λ x. absurd (cc)) (λ x. absurd (cc)) e told
  spent-line (Err stops.WriteFault) is told e = other_line stops.WriteFault answer.Spent _ (λ x. absurd (cc)) (λ x. absurd (cc)) e told
  spent-line (Err stops.OutOfMemory) is told e = other_line stops.OutOfMemory answer.Spent _ (λ x. absurd (cc)) (λ x. absurd (cc)) e told

  pub read-line : (r : Result Ended Stop) → Answers r a → ErrBy words r old new before now a → a ≡ answer.ReadFault → HasLine stops.ReadFault
  read-line (Ok Done) is told e = absurd (cc)
  read-line (Ok NoSolution) is told e = absurd (cc)
  read-line (Err (stops.Refused f)) is told e = other_line (stops.Refused f) answer.ReadFault _ (λ x. absurd (cc)) (λ x. absurd (cc)) e told
  read-line (Err stops.Spent) is told e = other_line stops.Spent answer.ReadFault _ (λ x. absurd (cc)) (λ x. absurd (cc)) e told
  read-line (Err stops.ReadFault) is told e = told_line stops.ReadFault answer.ReadFault (λ x. absurd (cc)) e told
  read-line (Err stops.WriteFault) is told e = other_line stops.WriteFault answer.ReadFault _ (λ x. absurd (cc)) (λ x. absurd (cc)) e told
  read-line (Err stops.OutOfMemory) is told e = other_line stops.OutOfMemory answer.ReadFault _ (λ x. absurd (cc)) (λ x. absurd (cc)) e told

  pub write-line : (r : Result Ended Stop) → Answers r a → ErrBy words r old new before now a → a ≡ answer.WriteFault → HasLine stops.WriteFault
  write-line (Ok Done) is told e = absurd (cc)
  write-line (Ok NoSolution) is told e = absurd (cc)
  write-line (Err (stops.Refused f)) is told e = other_line (stops.Refused f) answer.WriteFault _ (λ x. absurd (cc)) (λ x. absurd (cc)) e told
  write-line (Err stops.Spent) is told e = other_line stops.Spent answer.WriteFault _ (λ x. absurd (cc)) (λ x. absurd (cc)) e told
  write-line (Err stops.ReadFault) is told e = other_line stops.ReadFault answer.WriteFault _ (λ x. absurd (cc)) (λ x. absurd (cc)) e told
  write-line (Err stops.WriteFault) is told e = told_line stops.WriteFault answer.WriteFault (λ x. absurd (cc)) e told
  write-line (Err stops.OutOfMemory) is told e = other_line stops.OutOfMemory answer.WriteFault _ (λ x. absurd (cc)) (λ x. absurd (cc)) e told

  -- beside want of memory stands nothing, or its own line
  abbrev HasMemoryLine : Type 0
  HasMemoryLine = Becomes old new (GainsMemoryLine before now)

  own_or_none : (stop : Stop) → (answer_of stop ≡ answer.OutOfMemory → ⊥) → a ≡ answer.OutOfMemory → Tells old new before now (stop_text stop words) (answer_of stop) a → HasMemoryLine
  own_or_none stop unlike e (inl told) = absurd (unlike (sym told.0 ∙ e))
  own_or_none stop unlike e (inr none) = becomes_so old new _ _ (λ x y same. inl same) none.1

  memory_told : Tells old new before now (stop_text stops.OutOfMemory words) answer.OutOfMemory a → HasMemoryLine
  memory_told (inl told) = becomes_so old new _ _ (λ x y gained. inr gained) told.1
  memory_told (inr none) = becomes_so old new _ _ (λ x y same. inl same) none.1

  pub memory-line : (r : Result Ended Stop) → Answers r a → ErrBy words r old new before now a → a ≡ answer.OutOfMemory → HasMemoryLine
  memory-line (Ok Done) is told e = absurd (cc)
  memory-line (Ok NoSolution) is told e = absurd (cc)
  memory-line (Err (stops.Refused f)) is told e = own_or_none (stops.Refused f) (λ x. absurd (cc)) e told
  memory-line (Err stops.Spent) is told e = own_or_none stops.Spent (λ x. absurd (cc)) e told
  memory-line (Err stops.ReadFault) is told e = own_or_none stops.ReadFault (λ x. absurd (cc)) e told
  memory-line (Err stops.WriteFault) is told e = own_or_none stops.WriteFault (λ x. absurd (cc)) e told
  memory-line (Err stops.OutOfMemory) is told e = memory_told told
