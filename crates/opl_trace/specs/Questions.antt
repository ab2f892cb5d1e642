-- Magnitudes of expressions in which questions stand, and what a sound expression or constraint of a search section keeps.
use Rattle.std.specs.Prelude.{ℕ, ◌+◌, ◌*◌, ◌<◌, max, List, length, ℤ, pos, unsigned_abs, slice_index_or, Option}
use Rattle.opl_domain.specs.Span.{span_size}
use Rattle.opl_expr.specs.declared.forms.Ask.{Ask}
use Rattle.opl_expr.specs.declared.forms.Ask.TheVariants.{Size, Least, Greatest}
use Rattle.opl_expr.specs.Forms.{Term, Terms, Fact, Facts}
use Rattle.opl_expr.specs.Sound.{IsSmall, IsSome, greatest_abs, var_magnitude, table_magnitude, IsSoundTable}
use Rattle.opl_expr.specs.declared.tables.Table.{Table}
use Rattle.std.specs.Prelude.{[], ◌∷◌, Some, None}

module _ (sets : List (ℤ × ℤ)) where
  -- the number of values of the declared set of variable x, and at least 1
  abbrev pub size_magnitude : ℕ → ℕ
  size_magnitude x = let ends = slice_index_or sets x (pos 0, pos 0) in max 1 (span_size (record { low = ends.0; high = ends.1 }))

  -- no answer is greater in absolute value
  abbrev pub ask_magnitude : Ask → ℕ → ℕ
  ask_magnitude Size x = size_magnitude x
  ask_magnitude Least x = var_magnitude sets x
  ask_magnitude Greatest x = var_magnitude sets x

  abbrev mutual
    -- the magnitude of an expression, whatever its questions are answered
    pub open_magnitude : Term → ℕ
    open_magnitude (Term.const k) = unsigned_abs k
    open_magnitude (Term.var x) = var_magnitude sets x
    open_magnitude (Term.sum ts) = open_sum ts
    open_magnitude (Term.neg t) = open_magnitude t
    open_magnitude (Term.scale k t) = unsigned_abs k * open_magnitude t
    open_magnitude (Term.mul s t) = max 1 (open_magnitude s * open_magnitude t)
    open_magnitude (Term.div s t) = max 1 (open_magnitude s)
    open_magnitude (Term.rem s t) = max 1 (open_magnitude s)
    open_magnitude (Term.abs t) = max 1 (open_magnitude t)
    open_magnitude (Term.least ts) = max 1 (open_greatest ts)
    open_magnitude (Term.greatest ts) = max 1 (open_greatest ts)
    open_magnitude (Term.at table ts) = max 1 (table_magnitude sets table)
    open_magnitude (Term.truth c) = 1
    open_magnitude (Term.asked ask x) = ask_magnitude ask x

    pub open_sum : Terms → ℕ
    open_sum Terms.no_terms = 0
    open_sum (Terms.more_terms t ts) = open_magnitude t + open_sum ts

    pub open_greatest : Terms → ℕ
    open_greatest Terms.no_terms = 0
    open_greatest (Terms.more_terms t ts) = max (open_magnitude t) (open_greatest ts)

  -- the subscripts of a table, one for each dimension, can be compared with each index
  abbrev pub FitOpen : List (List ℤ) → Terms → Type 0
  FitOpen [] Terms.no_terms = Unit {0}
  FitOpen [] (Terms.more_terms t ts) = ⊥
  FitOpen (dim ∷ dims) Terms.no_terms = ⊥
  FitOpen (dim ∷ dims) (Terms.more_terms t ts) = IsSmall (open_magnitude t + greatest_abs dim) × FitOpen dims ts

  abbrev pub FitOpenTable : Option Table → Terms → Type 0
  FitOpenTable None ts = ⊥
  FitOpenTable (Some t) ts = FitOpen t.dims ts

  -- each two of the expressions can be compared
  abbrev pub AreOpenComparable : Terms → Type 0
  AreOpenComparable Terms.no_terms = Unit {0}
  AreOpenComparable (Terms.more_terms t ts) = IsSmall (open_magnitude t + open_greatest ts) × AreOpenComparable ts

  abbrev mutual
    pub IsOpenTerm : Term → Type 0
    IsOpenTerm (Term.const k) = IsSmall (unsigned_abs k)
    IsOpenTerm (Term.var x) = IsSmall (var_magnitude sets x) × (x < length sets)
    IsOpenTerm (Term.sum ts) = IsSmall (open_sum ts) × AreOpenTerms ts
    IsOpenTerm (Term.neg t) = IsSmall (open_magnitude t) × IsOpenTerm t
    IsOpenTerm (Term.scale k t) = IsSmall (unsigned_abs k * open_magnitude t) × IsSmall (unsigned_abs k) × IsOpenTerm t
    IsOpenTerm (Term.mul s t) = IsSmall (open_magnitude s * open_magnitude t) × IsOpenTerm s × IsOpenTerm t
    IsOpenTerm (Term.div s t) = IsOpenTerm s × IsOpenTerm t
    IsOpenTerm (Term.rem s t) = IsOpenTerm s × IsOpenTerm t
    IsOpenTerm (Term.abs t) = IsOpenTerm t
    IsOpenTerm (Term.least ts) = IsSome sets ts × AreOpenTerms ts
    IsOpenTerm (Term.greatest ts) = IsSome sets ts × AreOpenTerms ts
    IsOpenTerm (Term.at table ts) = IsSmall (table_magnitude sets table) × IsSoundTable sets table × FitOpenTable table ts × AreOpenTerms ts
    IsOpenTerm (Term.truth c) = IsOpenFact c
    IsOpenTerm (Term.asked ask x) = IsSmall (ask_magnitude ask x) × (x < length sets)

    pub AreOpenTerms : Terms → Type 0
    AreOpenTerms Terms.no_terms = Unit {0}
    AreOpenTerms (Terms.more_terms t ts) = IsOpenTerm t × AreOpenTerms ts

    pub IsOpenFact : Fact → Type 0
    IsOpenFact (Fact.fixed b) = Unit {0}
    IsOpenFact (Fact.cmp rel s t) = IsSmall (open_magnitude s + open_magnitude t) × IsOpenTerm s × IsOpenTerm t
    IsOpenFact (Fact.and cs) = AreOpenFacts cs
    IsOpenFact (Fact.or cs) = AreOpenFacts cs
    IsOpenFact (Fact.iff c d) = IsOpenFact c × IsOpenFact d
    IsOpenFact (Fact.not c) = IsOpenFact c
    IsOpenFact (Fact.different ts) = AreOpenComparable ts × AreOpenTerms ts
    IsOpenFact (Fact.bound x) = x < length sets

    pub AreOpenFacts : Facts → Type 0
    AreOpenFacts Facts.no_facts = Unit {0}
    AreOpenFacts (Facts.more_facts c cs) = IsOpenFact c × AreOpenFacts cs
