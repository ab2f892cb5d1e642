-- The tree of a list of tokens, where a list of tokens stops being the beginning of a text of the grammar, and where it nests
-- too deep: for any grammar, by the type of its trees and their marks.
use Rattle.std.specs.Prelude.{◌≡◌, ◌<◌, ◌≤◌, ◌⊎◌, ℕ, List, [], ◌∷◌, ◌++◌, Result, Ok, Err}
use Rattle.opl_token.specs.declared.token.Kind.{Kind}
use Rattle.opl_token.specs.declared.token.Token.{Token}
use Rattle.opl_tree.specs.declared.fault.SyntaxFault.{SyntaxFault}
use Rattle.opl_tree.specs.declared.fault.SyntaxFault.TheVariants.{Syntax, TooDeep, OutOfMemory}
use Rattle.opl_tree.specs.Reading.{kinds, place_of}
use Rattle.opl_tree.specs.Marks.{place, token, unbraced, opens, Marks}
use Rattle.opl_tree.specs.Spelling.{kinds_of, AllProper}
use Rattle.opl_tree.specs.Depth.{depth_of, max_nesting}

-- each node's place is that of the token that comes next
abbrev pub AtPlaces : Marks → List Token → ℕ → Type 0
AtPlaces [] ts end = Unit {0}
AtPlaces (place at ∷ ms) ts end = (at ≡ place_of ts end) × AtPlaces ms ts end
AtPlaces (token p ∷ ms) [] end = AtPlaces ms [] end
AtPlaces (token p ∷ ms) (t ∷ ts) end = AtPlaces ms ts end
AtPlaces (unbraced ∷ ms) ts end = AtPlaces ms ts end
AtPlaces (opens k ∷ ms) ts end = AtPlaces ms ts end

module _ {T : Type 0} (marks : T → Marks) where
  -- The tree of the tokens of a text whose length is `end`: it is well formed, it is spelt so, and each node has the place of
  -- its first token; a node without tokens has the place of the token after it, or `end`.
  pub record IsTreeOf (t : T) (tokens : List Token) (end : ℕ) : Type 0 where
    pub formed : AllProper (marks t)
    pub spelt : kinds_of (marks t) ≡ kinds tokens
    pub placed : AtPlaces (marks t) tokens end

  -- the spelling of some well-formed tree begins so
  pub record IsViable (front : List Kind) : Type 0 where
    pub tree : T
    pub formed : AllProper (marks tree)
    pub rest : List Kind
    pub begins : kinds_of (marks tree) ≡ front ++ rest

  -- no well-formed tree's spelling begins so
  abbrev pub IsStuck : List Kind → Type 0
  IsStuck front = IsViable front → ⊥

  -- no well-formed tree is spelt just so
  abbrev pub IsUnfinished : List Kind → Type 0
  IsUnfinished whole = (t : T) → AllProper (marks t) → kinds_of (marks t) ≡ whole → ⊥

  -- Behind the tokens `front` they stop: at the next token, with which no tree goes on, or at the end of the text, where
  -- something is still missing.
  abbrev pub Stops : List Token → List Token → ℕ → ℕ → Type 0
  Stops front [] end at = IsUnfinished (kinds front) × (at ≡ end)
  Stops front (t ∷ ts) end at = IsStuck (kinds front ++ t.kind ∷ []) × (at ≡ t.at)

  -- the place of the token that follows the longest beginning of the tokens with which a tree's spelling begins, or `end` if
  -- none follows
  pub record StopsAt (tokens : List Token) (end at : ℕ) : Type 0 where
    pub front : List Token
    pub back : List Token
    pub parts : tokens ≡ front ++ back
    pub viable : IsViable (kinds front)
    pub stop : Stops front back end at

  -- The token at `at` opens a level too many, and is the first to do so: some well-formed tree is spelt up to this token as the
  -- tokens are, this token opens a level in it that is more than there may be, and none before it does.
  pub record OpensAt (levels : ℕ) (tokens : List Token) (at : ℕ) : Type 0 where
    pub front : List Token
    pub opener : Token
    pub back : List Token
    pub parts : tokens ≡ front ++ opener ∷ back
    pub placed : at ≡ opener.at
    pub tree : T
    pub formed : AllProper (marks tree)
    pub before : Marks
    pub number : ℕ
    pub behind : Marks
    pub opened : marks tree ≡ before ++ opens number ∷ behind
    pub same : kinds_of before ≡ kinds front
    pub rest : List Kind
    pub next : kinds_of behind ≡ opener.kind ∷ rest
    pub too_many : levels < number
    pub first : depth_of before ≤ levels

  -- no token opens a level too many
  abbrev pub NoneOpens : ℕ → List Token → Type 0
  NoneOpens levels tokens = (at : ℕ) → OpensAt levels tokens at → ⊥

  -- The tree of the tokens, which does not nest too deep; or the place where they stop, where no token opens a level too many;
  -- or the place of the first token that opens one. Want of memory may come at any time.
  abbrev pub ParseAnswers : List Token → ℕ → Result T SyntaxFault → Type 0
  ParseAnswers tokens end (Ok t) = IsTreeOf t tokens end × (depth_of (marks t) ≤ max_nesting)
  ParseAnswers tokens end (Err (Syntax at)) = StopsAt tokens end at × NoneOpens max_nesting tokens
  ParseAnswers tokens end (Err (TooDeep at)) = OpensAt max_nesting tokens at
  ParseAnswers tokens end (Err OutOfMemory) = Unit {0}

  -- tokens have at most one tree
  abbrev pub OneTree : Type 0
  OneTree = (tokens : List Token) (end : ℕ) (t u : T) → IsTreeOf t tokens end → IsTreeOf u tokens end → t ≡ u

  -- tokens that have a tree stop nowhere
  abbrev pub TreeOrStop : Type 0
  TreeOrStop = (tokens : List Token) (end : ℕ) (t : T) (at : ℕ) → IsTreeOf t tokens end → StopsAt tokens end at → ⊥

  -- tokens stop at one place at most
  abbrev pub OneStop : Type 0
  OneStop = (tokens : List Token) (end at other : ℕ) → StopsAt tokens end at → StopsAt tokens end other → at ≡ other

  -- the level too many is opened at one place at most
  abbrev pub OneOpening : Type 0
  OneOpening = (levels : ℕ) (tokens : List Token) (at other : ℕ) → OpensAt levels tokens at → OpensAt levels tokens other → at ≡ other

  -- tokens have a tree that does not nest too deep, or stop somewhere and open no level too many, or open one
  abbrev pub ParseTotal : Type 0
  ParseTotal = (tokens : List Token) (end : ℕ) → ((t : T) × IsTreeOf t tokens end × (depth_of (marks t) ≤ max_nesting)) ⊎ (((at : ℕ) × StopsAt tokens end at × NoneOpens max_nesting tokens) ⊎ ((at : ℕ) × OpensAt max_nesting tokens at))

  -- the tree of tokens that open a level too many nests deeper
  abbrev pub DeepOrTree : Type 0
  DeepOrTree = (levels : ℕ) (tokens : List Token) (end : ℕ) (t : T) (at : ℕ) → IsTreeOf t tokens end → OpensAt levels tokens at → levels < depth_of (marks t)

  -- each tree that begins with the tokens up to one that opens a level too many nests deeper
  abbrev pub OnlyDeeper : Type 0
  OnlyDeeper = (levels : ℕ) (tokens : List Token) (at : ℕ) (o : OpensAt levels tokens at) (t : T) (rest : List Kind) → AllProper (marks t) → kinds_of (marks t) ≡ kinds o.front ++ o.opener.kind ∷ rest → levels < depth_of (marks t)
