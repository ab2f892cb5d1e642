-- The names of decision variables, where expressions name one, and which declarations and sections do not run yet.
use Rattle.std.specs.Prelude.{ℕ, Bool, false, ◌||◌, bytes_eq, List, [], ◌∷◌, ◌++◌, Option, Some, None}
use Rattle.std.specs.List.{list_any}
use Rattle.opl_tree.specs.declared.declaration.DeclTree.{DeclTree}
use Rattle.opl_tree.specs.declared.declaration.DeclTree.TheVariants as decls
use Rattle.opl_tree.specs.declared.declaration.DimsTree.{DimsTree}
use Rattle.opl_tree.specs.declared.search.SearchTree.{SearchTree}
use Rattle.opl_term.specs.declared.term.GroupTerm.{GroupTerm}
use Rattle.opl_term.specs.declared.term.SetTerm.{SetTerm}
use Rattle.opl_term.specs.declared.term.Step.{Step}
use Rattle.opl_term.specs.declared.term.Term.{Term}
use Rattle.opl_term.specs.declared.term.GroupTerm.TheOpen.{GroupTerm-F, SetTerm-F, Step-F, Term-F}
use Rattle.opl_term.specs.declared.term.GroupTerm.TheFolds.{fold-GroupTerm, fold-SetTerm, fold-Step, fold-Term}

-- a name, as its bytes
abbrev pub Text : Type 0
Text = List ℕ

abbrev pub is_among : List Text → Text → Bool
is_among names name = list_any (bytes_eq name) names

-- the names of the decision variables, and of those among them that are no arrays
pub record Names : Type 0 where
  pub all : List Text
  pub plain : List Text

-- the first of these, if there is one
abbrev pub first_of : List (Option ℕ) → Option ℕ
first_of [] = None
first_of (None ∷ others) = first_of others
first_of (Some at ∷ others) = Some at

-- ---- expressions

-- of an expression: whether a decision variable is named in it, and the place of its first token
pub record Use : Type 0 where
  pub is_mentioned : Bool
  pub at : ℕ

abbrev pub any_mentioned : List Use → Bool
any_mentioned ts = list_any (λ t. t.is_mentioned) ts

abbrev pub mentioned_or : Option Use → Bool
mentioned_or None = false
mentioned_or (Some t) = t.is_mentioned

abbrev pub any : List Bool → Bool
any bs = list_any (λ b. b) bs

-- whether a decision variable is named in a step, a set, a group and a term
abbrev pub step_mentions : {A B C : Type 0} → Step-F A B C Use → Bool
step_mentions (Step-F.Plus t) = t.is_mentioned
step_mentions (Step-F.Minus t) = t.is_mentioned
step_mentions (Step-F.Times t) = t.is_mentioned
step_mentions (Step-F.Quotient t) = t.is_mentioned
step_mentions (Step-F.Remainder t) = t.is_mentioned

abbrev pub set_mentions : {A B C : Type 0} → SetTerm-F A B C Use → Bool
set_mentions (SetTerm-F.Whole t) = t.is_mentioned
set_mentions (SetTerm-F.Between low high) = low.is_mentioned || high.is_mentioned

abbrev pub group_mentions : {A B C : Type 0} → GroupTerm-F A Bool B C → Bool
group_mentions (GroupTerm-F.Unordered patterns over) = over
group_mentions (GroupTerm-F.Ordered patterns over) = over

abbrev pub term_mentions : List Text → Term-F Bool Bool Bool Use → Bool
term_mentions names (Term-F.Number at n) = false
term_mentions names (Term-F.Named at name) = is_among names name
term_mentions names (Term-F.Bracket at t) = t.is_mentioned
term_mentions names (Term-F.Negative at t) = t.is_mentioned
term_mentions names (Term-F.Chain at first steps) = first.is_mentioned || any steps
term_mentions names (Term-F.Related at left relation right) = left.is_mentioned || right.is_mentioned
term_mentions names (Term-F.Member at t over) = t.is_mentioned || over
term_mentions names (Term-F.Equivalent at ts) = any_mentioned ts
term_mentions names (Term-F.Implied at premise conclusion) = premise.is_mentioned || conclusion.is_mentioned
term_mentions names (Term-F.Or at ts) = any_mentioned ts
term_mentions names (Term-F.And at ts) = any_mentioned ts
term_mentions names (Term-F.Not at t) = t.is_mentioned
term_mentions names (Term-F.Aggregate at op groups condition body) = any groups || mentioned_or condition || body.is_mentioned
term_mentions names (Term-F.Call at op t) = t.is_mentioned
term_mentions names (Term-F.AllDifferent at t) = t.is_mentioned
term_mentions names (Term-F.Question at op t) = t.is_mentioned
term_mentions names (Term-F.Element at base subscripts) = base.is_mentioned || any_mentioned subscripts
term_mentions names (Term-F.Fields at t fs) = t.is_mentioned
term_mentions names (Term-F.Record at ts) = any_mentioned ts
term_mentions names (Term-F.Listed at ts) = any_mentioned ts
term_mentions names (Term-F.Described at t groups condition) = t.is_mentioned || any groups || mentioned_or condition
term_mentions names (Term-F.Array at ts) = any_mentioned ts
term_mentions names (Term-F.KeyedArray at keys cells) = any_mentioned keys || any_mentioned cells

-- the place of its first token
abbrev pub at_layer : {A B C D : Type 0} → Term-F A B C D → ℕ
at_layer (Term-F.Number at n) = at
at_layer (Term-F.Named at name) = at
at_layer (Term-F.Bracket at t) = at
at_layer (Term-F.Negative at t) = at
at_layer (Term-F.Chain at first steps) = at
at_layer (Term-F.Related at left relation right) = at
at_layer (Term-F.Member at t over) = at
at_layer (Term-F.Equivalent at ts) = at
at_layer (Term-F.Implied at premise conclusion) = at
at_layer (Term-F.Or at ts) = at
at_layer (Term-F.And at ts) = at
at_layer (Term-F.Not at t) = at
at_layer (Term-F.Aggregate at op groups condition body) = at
at_layer (Term-F.Call at op t) = at
at_layer (Term-F.AllDifferent at t) = at
at_layer (Term-F.Question at op t) = at
at_layer (Term-F.Element at base subscripts) = at
at_layer (Term-F.Fields at t fs) = at
at_layer (Term-F.Record at ts) = at
at_layer (Term-F.Listed at ts) = at
at_layer (Term-F.Described at t groups condition) = at
at_layer (Term-F.Array at ts) = at
at_layer (Term-F.KeyedArray at keys cells) = at

abbrev pub use_layer : Names → Term-F Bool Bool Bool Use → Use
use_layer names t = record { is_mentioned = term_mentions names.all t; at = at_layer t }

unfoldable pub use_of : Names → Term → Use
use_of names = fold-Term Bool Bool Bool Use group_mentions set_mentions step_mentions (use_layer names)

-- whether a decision variable is named in a step of a chain, in a set, and in the set of a group of parameters
unfoldable pub step_use : Names → Step → Bool
step_use names = fold-Step Bool Bool Bool Use group_mentions set_mentions step_mentions (use_layer names)

unfoldable pub set_use : Names → SetTerm → Bool
set_use names = fold-SetTerm Bool Bool Bool Use group_mentions set_mentions step_mentions (use_layer names)

unfoldable pub group_use : Names → GroupTerm → Bool
group_use names = fold-GroupTerm Bool Bool Bool Use group_mentions set_mentions step_mentions (use_layer names)

-- ---- declarations

-- a name of a decision variable
abbrev pub plain_name : Text → Option DimsTree → List Text
plain_name name None = name ∷ []
plain_name name (Some dims) = []

abbrev pub name_of : DeclTree → List Text
name_of (decls.Variable t) = t.name.text ∷ []
name_of t = []

abbrev pub plain_of : DeclTree → List Text
plain_of (decls.Variable t) = plain_name t.name.text t.dims
plain_of t = []

-- the names of the decision variables of declarations, behind those before
unfoldable pub names_of : Names → List DeclTree → Names
names_of before [] = before
names_of before (t ∷ ts) = names_of (record { all = before.all ++ name_of t; plain = before.plain ++ plain_of t }) ts

abbrev pub no_names : Names
no_names = record { all = []; plain = [] }

-- the place of a declaration that does not run yet: one of scheduling
abbrev pub decl_unrun : DeclTree → Option ℕ
decl_unrun (decls.Data t) = None
decl_unrun (decls.Range t) = None
decl_unrun (decls.Enumeration t) = None
decl_unrun (decls.Structure t) = None
decl_unrun (decls.Variable t) = None
decl_unrun (decls.Activity t) = Some t.at
decl_unrun (decls.Unary t) = Some t.at
decl_unrun (decls.Discrete t) = Some t.at
decl_unrun (decls.Schedule t) = Some t.at

-- ---- sections

-- the place of a search section, which does not run yet
abbrev pub search_unrun : Option SearchTree → Option ℕ
search_unrun None = None
search_unrun (Some search) = Some search.at
