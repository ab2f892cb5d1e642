-- Laws of typing on what is no data.
use Rattle.std.specs.Prelude.{◌≡◌, ◌↔◌, ℕ, Bool, true, Ok, Err}
use Rattle.opl_type_rules.specs.declared.fault.TypeFault.TheVariants.{NotData}
use Rattle.opl_type_rules.specs.Types.{Sort}
use Rattle.opl_type_rules.specs.Scope.{Scope, and_then}
use Rattle.opl_type_rules.specs.Forms.{Form, Params, SetForm}
use Rattle.opl_type_rules.specs.Expressions.{Need, Node, open_params, typed_set, typing, used}
use Rattle.opl_type_rules.specs.Expressions.Need.{data_alone}
use Rattle.opl_not_data.specs.Mentions.{asks, decided, decides, uses}
use Rattle.opl_not_data.specs.Parts.{IsMentionedAt}
use Rattle.opl_not_data.specs.First.{InParams, InPlace, InSet}

-- typing knows of each expression whether a decision variable or an activity stands in it, other than in a question, and whether a question does
abbrev pub MentionsAreKnown : Type 0
MentionsAreKnown = (sc : Scope) (f : Form) (n : Node) → typing sc f ≡ Ok n → (n.decides ≡ decides (decided sc) f) × (n.asks ≡ asks f)

-- where data is needed, an expression whose parts have types is refused as no data exactly where it mentions what is none
abbrev pub NotDataIsExact : Type 0
NotDataIsExact = (sc : Scope) (f : Form) (takes : Sort → Bool) (n : Node) → typing sc f ≡ Ok n →
    (and_then (typing sc f) (used data_alone takes) ≡ Err (NotData n.place)) ↔ (uses (decided sc) f ≡ true)

-- an expression that mentions nothing but data has no such fault, in no part of it
abbrev pub NotDataIsMentioned : Type 0
NotDataIsMentioned = (sc : Scope) (f : Form) (at : ℕ) → typing sc f ≡ Err (NotData at) → uses (decided sc) f ≡ true

-- where an expression is refused as no data, an expression in it begins that mentions what is none
abbrev pub NotDataIsMentionedThere : Type 0
NotDataIsMentionedThere = (sc : Scope) (f : Form) (at : ℕ) → typing sc f ≡ Err (NotData at) → IsMentionedAt (decided sc) f at

-- an expression in its place is refused as no data exactly at the first place where such an expression begins, where no fault is found before it
abbrev pub NotDataIsFirst : Type 0
NotDataIsFirst = (sc : Scope) (f : Form) (need : Need) (takes : Sort → Bool) (at : ℕ) → (and_then (typing sc f) (used need takes) ≡ Err (NotData at)) ↔ InPlace need sc f at

-- the same of sets and of parameters
abbrev pub NotDataIsFirstOfSets : Type 0
NotDataIsFirstOfSets = (sc : Scope) (over : SetForm) (need : Need) (takes : Sort → Bool) (at : ℕ) → (typed_set need takes sc over ≡ Err (NotData at)) ↔ InSet need sc over at

abbrev pub NotDataIsFirstOfParameters : Type 0
NotDataIsFirstOfParameters = (sc : Scope) (p : Params) (need : Need) (at : ℕ) → (open_params need sc p ≡ Err (NotData at)) ↔ InParams need sc p at
