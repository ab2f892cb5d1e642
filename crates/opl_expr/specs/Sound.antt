-- Magnitudes of expressions, and what a sound expression or constraint keeps: its magnitudes are below 2^127, it names
-- variables, tables and resources that are there, and no question stands in it.
use Rattle.std.specs.Prelude.{◌≡◌, ℕ, ◌+◌, ◌*◌, ◌^◌, ◌<◌, max, Bool, true, cond, List, [], ◌∷◌, length, ℤ, pos, int_le, unsigned_abs, nat_lt, slice_index_or, Option, Some, None}
use Rattle.std.specs.List.{list_all}
use Rattle.opl_expr.specs.declared.tables.Table.{Table}
use Rattle.opl_expr.specs.declared.tables.Cell.{Cell}
use Rattle.opl_expr.specs.declared.tables.Use.{Use}
use Rattle.opl_expr.specs.declared.tables.Cell.TheVariants as cell
use Rattle.opl_expr.specs.Forms.{Term, Terms, Fact, Facts}
use Rattle.opl_expr.specs.Laws.{is_clear}

-- the greatest magnitude is 2^127 - 1
abbrev pub IsSmall : ℕ → Type 0
IsSmall n = n < 2 ^ 127

-- the greatest absolute value of a list of numbers
abbrev pub greatest_abs : List ℤ → ℕ
greatest_abs [] = 0
greatest_abs (v ∷ others) = max (unsigned_abs v) (greatest_abs others)

-- how many combinations of indices there are
abbrev pub keys : List (List ℤ) → ℕ
keys [] = 1
keys (dim ∷ dims) = length dim * keys dims

-- the cell is a number, or names one of n variables
abbrev pub is_there : ℕ → Cell → Bool
is_there n (cell.Const k) = true
is_there n (cell.Var x) = nat_lt x n

module _ (sets : List (ℤ × ℤ)) where
  -- the greatest absolute value of the declared set of variable x, and at least 1
  abbrev pub set_magnitude : ℤ × ℤ → ℕ
  set_magnitude ends = cond (int_le ends.0 ends.1) (max 1 (max (unsigned_abs ends.0) (unsigned_abs ends.1))) 1

  abbrev pub var_magnitude : ℕ → ℕ
  var_magnitude x = set_magnitude (slice_index_or sets x (pos 0, pos 0))

  abbrev pub cell_magnitude : Cell → ℕ
  cell_magnitude (cell.Const k) = unsigned_abs k
  cell_magnitude (cell.Var x) = var_magnitude x

  abbrev pub cells_magnitude : List Cell → ℕ
  cells_magnitude [] = 0
  cells_magnitude (c ∷ cells) = max (cell_magnitude c) (cells_magnitude cells)

  abbrev pub table_magnitude : Option Table → ℕ
  table_magnitude None = 0
  table_magnitude (Some t) = cells_magnitude t.cells

  abbrev mutual
    -- the magnitude of an expression: no value of it is greater in absolute value
    pub term_magnitude : Term → ℕ
    term_magnitude (Term.const k) = unsigned_abs k
    term_magnitude (Term.var x) = var_magnitude x
    term_magnitude (Term.sum ts) = sum_magnitude ts
    term_magnitude (Term.neg t) = term_magnitude t
    term_magnitude (Term.scale k t) = unsigned_abs k * term_magnitude t
    term_magnitude (Term.mul s t) = max 1 (term_magnitude s * term_magnitude t)
    term_magnitude (Term.div s t) = max 1 (term_magnitude s)
    term_magnitude (Term.rem s t) = max 1 (term_magnitude s)
    term_magnitude (Term.abs t) = max 1 (term_magnitude t)
    term_magnitude (Term.least ts) = max 1 (greatest_magnitude ts)
    term_magnitude (Term.greatest ts) = max 1 (greatest_magnitude ts)
    term_magnitude (Term.at table ts) = max 1 (table_magnitude table)
    term_magnitude (Term.truth c) = 1
    term_magnitude (Term.asked ask x) = 1

    pub sum_magnitude : Terms → ℕ
    sum_magnitude Terms.no_terms = 0
    sum_magnitude (Terms.more_terms t ts) = term_magnitude t + sum_magnitude ts

    pub greatest_magnitude : Terms → ℕ
    greatest_magnitude Terms.no_terms = 0
    greatest_magnitude (Terms.more_terms t ts) = max (term_magnitude t) (greatest_magnitude ts)

  -- the table is there; it has one cell for each combination of indices, and the indices of a dimension differ
  abbrev pub IsSoundTable : Option Table → Type 0
  IsSoundTable None = ⊥
  IsSoundTable (Some t) = (length t.cells ≡ keys t.dims) × (is_clear (Some t) ≡ true) × (list_all (is_there (length sets)) t.cells ≡ true)

  -- the subscripts of a table, one for each dimension, can be compared with each index
  abbrev pub FitDimensions : List (List ℤ) → Terms → Type 0
  FitDimensions [] Terms.no_terms = Unit {0}
  FitDimensions [] (Terms.more_terms t ts) = ⊥
  FitDimensions (dim ∷ dims) Terms.no_terms = ⊥
  FitDimensions (dim ∷ dims) (Terms.more_terms t ts) = IsSmall (term_magnitude t + greatest_abs dim) × FitDimensions dims ts

  abbrev pub FitTable : Option Table → Terms → Type 0
  FitTable None ts = ⊥
  FitTable (Some t) ts = FitDimensions t.dims ts

  abbrev pub IsSome : Terms → Type 0
  IsSome Terms.no_terms = ⊥
  IsSome (Terms.more_terms t ts) = Unit {0}

  -- each two of the expressions can be compared
  abbrev pub AreComparable : Terms → Type 0
  AreComparable Terms.no_terms = Unit {0}
  AreComparable (Terms.more_terms t ts) = IsSmall (term_magnitude t + greatest_magnitude ts) × AreComparable ts

  abbrev mutual
    pub IsSoundTerm : Term → Type 0
    IsSoundTerm (Term.const k) = IsSmall (unsigned_abs k)
    IsSoundTerm (Term.var x) = IsSmall (var_magnitude x) × (x < length sets)
    IsSoundTerm (Term.sum ts) = IsSmall (sum_magnitude ts) × AreSoundTerms ts
    IsSoundTerm (Term.neg t) = IsSmall (term_magnitude t) × IsSoundTerm t
    IsSoundTerm (Term.scale k t) = IsSmall (unsigned_abs k * term_magnitude t) × IsSmall (unsigned_abs k) × IsSoundTerm t
    IsSoundTerm (Term.mul s t) = IsSmall (term_magnitude s * term_magnitude t) × IsSoundTerm s × IsSoundTerm t
    IsSoundTerm (Term.div s t) = IsSoundTerm s × IsSoundTerm t
    IsSoundTerm (Term.rem s t) = IsSoundTerm s × IsSoundTerm t
    IsSoundTerm (Term.abs t) = IsSoundTerm t
    IsSoundTerm (Term.least ts) = IsSome ts × AreSoundTerms ts
    IsSoundTerm (Term.greatest ts) = IsSome ts × AreSoundTerms ts
    IsSoundTerm (Term.at table ts) = IsSmall (table_magnitude table) × IsSoundTable table × FitTable table ts × AreSoundTerms ts
    IsSoundTerm (Term.truth c) = IsSoundFact c
    IsSoundTerm (Term.asked ask x) = ⊥

    pub AreSoundTerms : Terms → Type 0
    AreSoundTerms Terms.no_terms = Unit {0}
    AreSoundTerms (Terms.more_terms t ts) = IsSoundTerm t × AreSoundTerms ts

    pub IsSoundFact : Fact → Type 0
    IsSoundFact (Fact.fixed b) = Unit {0}
    IsSoundFact (Fact.cmp rel s t) = IsSmall (term_magnitude s + term_magnitude t) × IsSoundTerm s × IsSoundTerm t
    IsSoundFact (Fact.and cs) = AreSoundFacts cs
    IsSoundFact (Fact.or cs) = AreSoundFacts cs
    IsSoundFact (Fact.iff c d) = IsSoundFact c × IsSoundFact d
    IsSoundFact (Fact.not c) = IsSoundFact c
    IsSoundFact (Fact.different ts) = AreComparable ts × AreSoundTerms ts
    IsSoundFact (Fact.bound x) = ⊥

    pub AreSoundFacts : Facts → Type 0
    AreSoundFacts Facts.no_facts = Unit {0}
    AreSoundFacts (Facts.more_facts c cs) = IsSoundFact c × AreSoundFacts cs

-- the absolute values of the demands together
abbrev pub demands : List Use → ℕ
demands [] = 0
demands (u ∷ uses) = unsigned_abs u.demand + demands uses

-- starts and durations are among n variables
abbrev pub UsesThere : ℕ → List Use → Type 0
UsesThere n [] = Unit {0}
UsesThere n (u ∷ uses) = (u.start < n) × (u.duration < n) × UsesThere n uses
