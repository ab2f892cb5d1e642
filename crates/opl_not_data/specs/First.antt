-- Where typing first comes to an expression that is no data and stands where data is needed: one clause for each form, in the order in which typing goes.
use Rattle.std.specs.Prelude.{◌≡◌, ◌⊎◌, ℕ, Bool, true, false, IsOkAnd}
use Rattle.std.specs.List.{flat_map}
use Rattle.opl_type_rules.specs.Types.{is_set}
use Rattle.opl_type_rules.specs.Scope.{Text, Scope, Checked, and_then, all_fresh}
use Rattle.opl_type_rules.specs.Forms.{Form, Forms, Pairs, SetForm, Groups, Params}
use Rattle.opl_type_rules.specs.Forms.Form.{number, named, bracket, negative, arithmetic, absolute, related, member, connected, aggregate, cardinality, all_different, subscripted, field, tuple, listed, described, cells, keyed_cells, question}
use Rattle.opl_type_rules.specs.Forms.Forms.{no_forms, more_forms}
use Rattle.opl_type_rules.specs.Forms.Pairs.{no_pairs, more_pairs}
use Rattle.opl_type_rules.specs.Forms.SetForm.{whole, between}
use Rattle.opl_type_rules.specs.Forms.Groups.{no_groups, more_groups}
use Rattle.opl_type_rules.specs.Forms.Params.{all_of, those_of}
use Rattle.opl_type_rules.specs.Expressions.{Need, part, data_number, typing, typed_set, open_groups, open_params, bind_patterns, pattern_names, or_anything, scope_within}
use Rattle.opl_type_rules.specs.Expressions.Need.{nothing, data_alone, data_or_questions}
use Rattle.opl_not_data.specs.Mentions.{decided, decides, uses}
use Rattle.opl_not_data.specs.Parts.{first_token}

-- ---- what is no data

-- the forms that are data or nothing, wherever they stand: `e in S`, `<..>`, `{..}` and `{e | p}`, also in brackets
abbrev pub takes_data : Form → Bool
takes_data (bracket at f) = takes_data f
takes_data (member at f over) = true
takes_data (tuple at fs) = true
takes_data (listed at fs) = true
takes_data (described at f p) = true
takes_data f = false

-- an expression mentions what a place with this need does not take
abbrev pub Exceeds : Need → (Text → Bool) → Form → Type 0
Exceeds nothing is_decided_name f = ⊥
Exceeds data_alone is_decided_name f = uses is_decided_name f ≡ true
Exceeds data_or_questions is_decided_name f = decides is_decided_name f ≡ true

-- an expression mentions what its place, or its own form, does not take
abbrev pub IsNoData : Need → (Text → Bool) → Form → Type 0
IsNoData need is_decided_name f = Exceeds need is_decided_name f ⊎ ((takes_data f ≡ true) × (uses is_decided_name f ≡ true))

-- ---- the first one

-- where the one has no fault, this holds of the next, which stands behind it
abbrev pub After : {A : Type 0} → Checked A → (A → Type 0) → Type 0
After c Next = IsOkAnd c Next

-- in a place with this need: it is a part of an expression, or it is that one, which has a type
abbrev pub OrItself : Need → Scope → Form → (ℕ → Type 0) → ℕ → Type 0
OrItself need sc f InIt at = InIt at ⊎ After (typing sc f) (λ n. IsNoData need (decided sc) f × (first_token f ≡ at))

-- what is visible to the element of `{e | p}`
abbrev pub within : Scope → Params → Scope
within sc p = scope_within sc p (open_params data_alone sc p)

abbrev mutual
  -- the first such expression is a part of this one, and begins there
  pub Inside : Scope → Form → ℕ → Type 0
  Inside sc (number p) at = ⊥
  Inside sc (named name) at = ⊥
  Inside sc (bracket p f) at = OrItself nothing sc f (Inside sc f) at
  Inside sc (negative p f) at = OrItself nothing sc f (Inside sc f) at
  Inside sc (arithmetic p fs) at = InParts sc fs at
  Inside sc (absolute p f) at = OrItself nothing sc f (Inside sc f) at
  Inside sc (related p f relation g) at = OrItself nothing sc f (Inside sc f) at ⊎ After (and_then (typing sc f) part) (λ m. OrItself nothing sc g (Inside sc g) at)
  Inside sc (member p f over) at = OrItself nothing sc f (Inside sc f) at ⊎ After (and_then (typing sc f) part) (λ n. InSet nothing sc over at)
  Inside sc (connected p fs) at = InParts sc fs at
  Inside sc (aggregate p params f) at = InParams data_alone sc params at ⊎ After (open_params data_alone sc params) (λ o. OrItself nothing o.scope f (Inside o.scope f) at)
  Inside sc (cardinality p f) at = OrItself nothing sc f (Inside sc f) at
  Inside sc (all_different p f) at = OrItself nothing sc f (Inside sc f) at
  Inside sc (subscripted p f es) at = OrItself nothing sc f (Inside sc f) at ⊎ After (and_then (typing sc f) part) (λ n. InParts sc es at)
  Inside sc (field p f name) at = OrItself nothing sc f (Inside sc f) at
  Inside sc (tuple p fs) at = InParts sc fs at
  Inside sc (listed p fs) at = InParts sc fs at
  -- the element is looked at before the parameters
  Inside sc (described p f params) at =
      OrItself nothing (within sc params) f (Inside (within sc params) f) at ⊎ After (and_then (typing (within sc params) f) part) (λ n. InParams data_alone sc params at)
  Inside sc (cells p fs) at = InParts sc fs at
  Inside sc (keyed_cells p ps) at = InPairs sc ps at
  Inside sc (question p op f) at = OrItself nothing sc f (Inside sc f) at

  pub InParts : Scope → Forms → ℕ → Type 0
  InParts sc no_forms at = ⊥
  InParts sc (more_forms f fs) at = OrItself nothing sc f (Inside sc f) at ⊎ After (and_then (typing sc f) part) (λ n. InParts sc fs at)

  pub InPairs : Scope → Pairs → ℕ → Type 0
  InPairs sc no_pairs at = ⊥
  InPairs sc (more_pairs key cell others) at =
      OrItself nothing sc key (Inside sc key) at ⊎ After (and_then (typing sc key) part) (λ m. OrItself nothing sc cell (Inside sc cell) at ⊎ After (and_then (typing sc cell) part) (λ n. InPairs sc others at))

  -- the ends of `a..b` are data
  pub InSet : Need → Scope → SetForm → ℕ → Type 0
  InSet need sc (whole f) at = OrItself need sc f (Inside sc f) at
  InSet need sc (between low high) at = OrItself data_alone sc low (Inside sc low) at ⊎ After (and_then (typing sc low) data_number) (λ m. OrItself data_alone sc high (Inside sc high) at)

  -- so is the set of each group, which sees the parameters before it
  pub InGroups : Scope → Groups → ℕ → Type 0
  InGroups sc no_groups at = ⊥
  InGroups sc (more_groups ps over others) at =
      After (all_fresh sc (flat_map pattern_names ps)) (λ u.
      InSet data_alone sc over at ⊎ After (typed_set data_alone is_set sc over) (λ range.
      After (bind_patterns sc (or_anything range.element) ps) (λ inner. InGroups inner others at)))

  -- and the condition has the need of its place
  pub InParams : Need → Scope → Params → ℕ → Type 0
  InParams need sc (all_of groups) at = InGroups sc groups at
  InParams need sc (those_of groups condition) at = InGroups sc groups at ⊎ After (open_groups sc groups) (λ o. OrItself need o.scope condition (Inside o.scope condition) at)

-- of an expression in its place
abbrev pub InPlace : Need → Scope → Form → ℕ → Type 0
InPlace need sc f at = OrItself need sc f (Inside sc f) at
