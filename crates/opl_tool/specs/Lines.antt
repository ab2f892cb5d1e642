-- The line that a call puts on the sink of errors.
use Rattle.std.specs.Prelude.{◌≡◌, ◌⊎◌, ℕ, List, ◌++◌, codes, decimal, Option}
use Rattle.opl_outside.specs.Becomes.{Becomes}
use Rattle.opl_outside.specs.Counts.{Rose}
use Rattle.opl_tool.specs.declared.answer.Answer.{Answer}
use Rattle.opl_tool.specs.declared.answer.Answer.TheVariants as answer
use Rattle.opl_files.specs.declared.refusal.Fault.{Fault}
use Rattle.opl_files.specs.declared.refusal.Fault.TheVariants.{BadByte, OpenComment, OpenString, NumberTooLarge, Syntax, TooDeep, Unknown, Duplicate, NotData, Mismatch, NotYet, Shape, Outside, DivByZero, OutOfIndex, TooLarge, EmptyMinMax, LimitVariables, LimitValue, LimitDomain, LimitDomains, LimitDepth, LimitNodes}
use Rattle.opl_files.specs.declared.refusal.ItemFault.{ItemFault}
use Rattle.opl_files.specs.declared.refusal.ItemFault.TheVariants as items
use Rattle.opl_files.specs.declared.refusal.Refusal.{Refusal}
use Rattle.opl_files.specs.declared.refusal.Refusal.TheVariants.{Words, Absent, TooLong, At, Item}
use Rattle.opl_files.specs.declared.stop.Stop.{Stop}
use Rattle.opl_files.specs.declared.stop.Stop.TheVariants.{Refused, Spent, ReadFault, WriteFault, OutOfMemory}
use Rattle.opl_solve.specs.Printing.{GainsFront}
use Rattle.opl_tool.specs.Asked.{budget_in, file_among, files_in}

-- refused: KIND NAME
abbrev pub named_text : List ℕ → List ℕ → List ℕ
named_text kind name = codes "refused: " ++ kind ++ codes " " ++ name ++ codes "\n"

-- refused: KIND FILE AT
abbrev pub placed_text : List ℕ → List ℕ → ℕ → List ℕ
placed_text kind file at = codes "refused: " ++ kind ++ codes " " ++ file ++ codes " " ++ decimal at ++ codes "\n"

-- the word for a fault
abbrev pub word_of : Fault → List ℕ
word_of BadByte = codes "BadByte"
word_of OpenComment = codes "OpenComment"
word_of OpenString = codes "OpenString"
word_of NumberTooLarge = codes "NumberTooLarge"
word_of Syntax = codes "Syntax"
word_of TooDeep = codes "TooDeep"
word_of Unknown = codes "Unknown"
word_of Duplicate = codes "Duplicate"
word_of NotData = codes "NotData"
word_of Mismatch = codes "Mismatch"
word_of NotYet = codes "NotYet"
word_of Shape = codes "Shape"
word_of Outside = codes "Outside"
word_of DivByZero = codes "DivByZero"
word_of OutOfIndex = codes "OutOfIndex"
word_of TooLarge = codes "TooLarge"
word_of EmptyMinMax = codes "EmptyMinMax"
word_of LimitVariables = codes "Limit Variables"
word_of LimitValue = codes "Limit Value"
word_of LimitDomain = codes "Limit Domain"
word_of LimitDomains = codes "Limit Domains"
word_of LimitDepth = codes "Limit Depth"
word_of LimitNodes = codes "Limit Nodes"

-- the word for what is wrong with an item
abbrev pub word_of_item : ItemFault → List ℕ
word_of_item items.Given = codes "Given"
word_of_item items.Twice = codes "Twice"
word_of_item items.Missing = codes "Missing"
word_of_item items.Override = codes "Override"

-- the line of a refusal where the files have these names; an item of data is named by its name
abbrev pub refusal_line : Refusal → (files : List (List ℕ)) → List ℕ
refusal_line Words files = codes "refused: Words\n"
refusal_line (Absent file) files = named_text (codes "Absent") (file_among files file)
refusal_line (TooLong file) files = named_text (codes "TooLong") (file_among files file)
refusal_line (At fault file at) files = placed_text (word_of fault) (file_among files file) at
refusal_line (Item fault name) files = named_text (word_of_item fault) name

-- the line of a refusal of a call with these words, which names a file as they do
abbrev pub refusal_text : Refusal → (words : List (List ℕ)) → List ℕ
refusal_text refusal words = refusal_line refusal (files_in words)

-- spent: N
abbrev pub spent_text : ℕ → List ℕ
spent_text n = codes "spent: " ++ decimal n ++ codes "\n"

-- the line of a call that ends so
abbrev pub stop_text : Stop → (words : List (List ℕ)) → List ℕ
stop_text (Refused refusal) words = refusal_text refusal words
stop_text Spent words = spent_text (budget_in words)
stop_text ReadFault words = codes "fault: read\n"
stop_text WriteFault words = codes "fault: write\n"
stop_text OutOfMemory words = codes "out of memory\n"

-- the answer of such a call
abbrev pub answer_of : Stop → Answer
answer_of (Refused refusal) = answer.Refused
answer_of Spent = answer.Spent
answer_of ReadFault = answer.ReadFault
answer_of WriteFault = answer.WriteFault
answer_of OutOfMemory = answer.OutOfMemory

-- the bytes have gained the line; where the count of the sink's faults rose, they may have gained only a front of it
abbrev pub GainsLine : (before now : ℕ) → (line x y : List ℕ) → Type 0
GainsLine before now line x y = (y ≡ x ++ line) ⊎ (Rose before now × GainsFront x y line)

-- The line of an answer was put on a sink that told `old` and counted `before` faults, or memory was wanting for it: then that is the answer, and nothing was put.
abbrev pub Tells : (old new : Option (List ℕ)) (before now : ℕ) (line : List ℕ) (own result : Answer) → Type 0
Tells old new before now line own result =
    ((result ≡ own) × Becomes old new (GainsLine before now line)) ⊎ ((result ≡ answer.OutOfMemory) × Becomes old new (λ x y. y ≡ x))
