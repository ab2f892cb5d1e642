-- Which variables stand in a constraint.
use Rattle.std.specs.Prelude.{ℕ, Bool, false, ◌||◌, ◌≡◌, List, [], ◌∷◌, nat_eq, Option, Some, None}
use Rattle.opl_expr.specs.declared.tables.Table.{Table}
use Rattle.opl_expr.specs.declared.tables.Cell.{Cell}
use Rattle.opl_expr.specs.declared.tables.Cell.TheVariants as cell
use Rattle.opl_expr.specs.declared.tables.Use.{Use}
use Rattle.opl_expr.specs.declared.tables.Resource.{Resource}
use Rattle.opl_expr.specs.Forms.{Term, Terms, Fact, Facts}

abbrev pub cell_mentions : Cell → ℕ → Bool
cell_mentions (cell.Const k) x = false
cell_mentions (cell.Var y) x = nat_eq x y

abbrev pub cells_mention : List Cell → ℕ → Bool
cells_mention [] x = false
cells_mention (c ∷ cells) x = cell_mentions c x || cells_mention cells x

abbrev pub table_mentions : Option Table → ℕ → Bool
table_mentions None x = false
table_mentions (Some t) x = cells_mention t.cells x

-- the activity of the use starts at x, or lasts x
abbrev pub use_mentions : Use → ℕ → Bool
use_mentions u x = nat_eq x u.start || nat_eq x u.duration

abbrev pub uses_mention : List Use → ℕ → Bool
uses_mention [] x = false
uses_mention (u ∷ uses) x = use_mentions u x || uses_mention uses x

abbrev pub resource_mentions : Option Resource → ℕ → Bool
resource_mentions None x = false
resource_mentions (Some r) x = uses_mention r.uses x

abbrev mutual
  -- variable x stands in the expression, or in a cell of one of its tables
  pub term_mentions : Term → ℕ → Bool
  term_mentions (Term.const k) x = false
  term_mentions (Term.var y) x = nat_eq x y
  term_mentions (Term.sum ts) x = terms_mention ts x
  term_mentions (Term.neg t) x = term_mentions t x
  term_mentions (Term.scale k t) x = term_mentions t x
  term_mentions (Term.mul s t) x = term_mentions s x || term_mentions t x
  term_mentions (Term.div s t) x = term_mentions s x || term_mentions t x
  term_mentions (Term.rem s t) x = term_mentions s x || term_mentions t x
  term_mentions (Term.abs t) x = term_mentions t x
  term_mentions (Term.least ts) x = terms_mention ts x
  term_mentions (Term.greatest ts) x = terms_mention ts x
  term_mentions (Term.at table ts) x = table_mentions table x || terms_mention ts x
  term_mentions (Term.truth c) x = mentions c x
  term_mentions (Term.asked ask y) x = nat_eq x y

  pub terms_mention : Terms → ℕ → Bool
  terms_mention Terms.no_terms x = false
  terms_mention (Terms.more_terms t ts) x = term_mentions t x || terms_mention ts x

  -- variable x stands in the constraint
  pub mentions : Fact → ℕ → Bool
  mentions (Fact.fixed b) x = false
  mentions (Fact.cmp rel s t) x = term_mentions s x || term_mentions t x
  mentions (Fact.and cs) x = facts_mention cs x
  mentions (Fact.or cs) x = facts_mention cs x
  mentions (Fact.iff c d) x = mentions c x || mentions d x
  mentions (Fact.not c) x = mentions c x
  mentions (Fact.different ts) x = terms_mention ts x
  mentions (Fact.bound y) x = nat_eq x y

  pub facts_mention : Facts → ℕ → Bool
  facts_mention Facts.no_facts x = false
  facts_mention (Facts.more_facts c cs) x = mentions c x || facts_mention cs x

-- x is one of the list
abbrev pub lists : List ℕ → ℕ → Bool
lists [] x = false
lists (y ∷ others) x = nat_eq x y || lists others x

-- the second list has the variables of the first, and those that pass
abbrev pub Adds : (ℕ → Bool) → List ℕ → List ℕ → Type 0
Adds passes first second = (x : ℕ) → lists second x ≡ (lists first x || passes x)

-- the list has the variables that the constraint mentions, and no others
abbrev pub AreVariables : List ℕ → Fact → Type 0
AreVariables variables c = (x : ℕ) → lists variables x ≡ mentions c x
