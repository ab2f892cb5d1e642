-- The magnitude of an expression where it is sound, and none where it is not; whether a constraint is sound. Both are
-- computed, with questions on the sets of variables where they may be asked.
use Rattle.std.specs.Prelude.{ℕ, ◌+◌, ◌*◌, ◌^◌, max, Bool, true, false, cond, ◌&&◌, List, [], ◌∷◌, length, ℤ, pos, unsigned_abs, nat_lt, nat_eq, slice_index_or, Option, Some, None}
use Rattle.std.specs.List.{list_all}
use Rattle.opl_domain.specs.Span.{span_size}
use Rattle.opl_expr.specs.declared.forms.Ask.{Ask}
use Rattle.opl_expr.specs.declared.forms.Ask.TheVariants.{Size, Least, Greatest}
use Rattle.opl_expr.specs.declared.tables.Table.{Table}
use Rattle.opl_expr.specs.declared.tables.Use.{Use}
use Rattle.opl_expr.specs.declared.tables.Resource.{Resource}
use Rattle.opl_expr.specs.Forms.{Term, Terms, Fact, Facts, constant_value}
use Rattle.opl_expr.specs.Options.{lift1, lift, bind}
use Rattle.opl_expr.specs.Laws.{is_clear}
use Rattle.opl_expr.specs.Sound.{keys, is_there, greatest_abs, var_magnitude, cells_magnitude}

-- ---- magnitudes that may be missing

-- a magnitude, unless it is too great
unfoldable pub small : ℕ → Option ℕ
small n = cond (nat_lt n (2 ^ 127)) (Some n) None

-- a count, unless it is too great
unfoldable pub counted : ℕ → Option ℕ
counted n = cond (nat_lt n (2 ^ 64)) (Some n) None

abbrev pub is_some : Option ℕ → Bool
is_some None = false
is_some (Some n) = true

-- the sum and the product of two magnitudes, unless they are too great
abbrev pub added : Option ℕ → Option ℕ → Option ℕ
added = bind (λ m n. small (m + n))

abbrev pub multiplied : Option ℕ → Option ℕ → Option ℕ
multiplied = bind (λ m n. small (m * n))

abbrev pub at_least_one : Option ℕ → Option ℕ
at_least_one = lift1 (λ n. max 1 n)

abbrev pub greater : Option ℕ → Option ℕ → Option ℕ
greater = lift (λ m n. max m n)

-- the first, where both are there
abbrev pub first : Option ℕ → Option ℕ → Option ℕ
first = lift (λ m n. m)

-- 1 where it is so
abbrev pub one_if : Bool → Option ℕ
one_if b = cond b (Some 1) None

-- the greater of two magnitudes whose sum isn't too great
abbrev pub comparable : Option ℕ → Option ℕ → Option ℕ
comparable m n = cond (is_some (added m n)) (greater m n) None

-- a magnitude where it is so
abbrev pub only_if : Bool → Option ℕ → Option ℕ
only_if b m = cond b m None

-- ---- products

-- the expression is a number
abbrev pub is_some_number : Option ℤ → Bool
is_some_number None = false
is_some_number (Some k) = true

abbrev pub is_number : Term → Bool
is_number t = is_some_number (constant_value t)

-- ---- tables

abbrev pub dims_of : Option Table → List (List ℤ)
dims_of None = []
dims_of (Some t) = t.dims

module _ (sets : List (ℤ × ℤ)) where
  -- the table has one cell for each combination of indices, the indices of a dimension differ, and its cells are there
  abbrev pub is_whole : Table → Bool
  is_whole t = nat_eq (length t.cells) (keys t.dims) && (is_clear (Some t) && list_all (is_there (length sets)) t.cells)

  -- the magnitude of a cell of a table, where its subscripts fit
  abbrev pub measure_table : Option Table → Bool → Option ℕ
  measure_table None fits = None
  measure_table (Some t) fits = only_if (is_whole t && fits) (at_least_one (small (cells_magnitude sets t.cells)))

  -- ---- variables, uses of resources and questions

  abbrev pub measure_variable : ℕ → Option ℕ
  measure_variable x = only_if (nat_lt x (length sets)) (small (var_magnitude sets x))

  -- what a use demands at a time of this absolute value
  abbrev pub measure_use : ℕ → Use → Option ℕ
  measure_use time u =
      multiplied (small (unsigned_abs u.demand))
      (one_if (is_some (added (measure_variable u.start) (small time)) && is_some (added (small time) (added (measure_variable u.start) (added (measure_variable u.duration) (Some 0))))))

  -- what uses demand together
  abbrev pub measure_uses : ℕ → List Use → Option ℕ
  measure_uses time [] = Some 0
  measure_uses time (u ∷ uses) = added (measure_use time u) (measure_uses time uses)

  -- the demands on a resource can be compared with its capacity
  abbrev pub fits_capacity : ℕ → Resource → Bool
  fits_capacity time r = is_some (added (measure_uses time r.uses) (small (unsigned_abs r.capacity)))

  -- the greatest answer to a question, and at least 1
  abbrev pub answer_magnitude : Ask → ℕ → ℕ
  answer_magnitude Size x = let ends = slice_index_or sets x (pos 0, pos 0) in max 1 (span_size (record { low = ends.0; high = ends.1 }))
  answer_magnitude Least x = var_magnitude sets x
  answer_magnitude Greatest x = var_magnitude sets x

  -- ---- expressions and constraints; `asks` tells whether questions may be asked

  module _ (asks : Bool) where
    abbrev pub measure_question : Ask → ℕ → Option ℕ
    measure_question ask x = only_if (asks && nat_lt x (length sets)) (small (answer_magnitude ask x))

    abbrev mutual
      pub measure : Term → Option ℕ
      measure (Term.const k) = small (unsigned_abs k)
      measure (Term.var x) = measure_variable x
      measure (Term.sum ts) = measure_sum ts
      measure (Term.neg t) = measure t
      measure (Term.scale k t) = multiplied (small (unsigned_abs k)) (measure t)
      measure (Term.mul s t) = at_least_one (multiplied (measure s) (measure t))
      measure (Term.div s t) = at_least_one (first (measure s) (measure t))
      measure (Term.rem s t) = at_least_one (first (measure s) (measure t))
      measure (Term.abs t) = at_least_one (measure t)
      measure (Term.least ts) = measure_some ts
      measure (Term.greatest ts) = measure_some ts
      measure (Term.at table ts) = measure_table table (fit_subscripts (dims_of table) ts)
      measure (Term.truth c) = one_if (fits c)
      measure (Term.asked ask x) = measure_question ask x

      -- the sum of the magnitudes
      pub measure_sum : Terms → Option ℕ
      measure_sum Terms.no_terms = Some 0
      measure_sum (Terms.more_terms t ts) = added (measure t) (measure_sum ts)

      -- the greatest magnitude
      pub measure_all : Terms → Option ℕ
      measure_all Terms.no_terms = Some 0
      measure_all (Terms.more_terms t ts) = greater (measure t) (measure_all ts)

      -- the greatest magnitude, and at least 1; none where there are no expressions
      pub measure_some : Terms → Option ℕ
      measure_some Terms.no_terms = None
      measure_some (Terms.more_terms t ts) = at_least_one (greater (measure t) (measure_all ts))

      -- the greatest magnitude of expressions of which each two can be compared
      pub measure_pairs : Terms → Option ℕ
      measure_pairs Terms.no_terms = Some 0
      measure_pairs (Terms.more_terms t ts) = comparable (measure t) (measure_pairs ts)

      -- there is one subscript for each dimension, and each can be compared with each index
      pub fit_subscripts : List (List ℤ) → Terms → Bool
      fit_subscripts [] Terms.no_terms = true
      fit_subscripts [] (Terms.more_terms t ts) = false
      fit_subscripts (dim ∷ dims) Terms.no_terms = false
      fit_subscripts (dim ∷ dims) (Terms.more_terms t ts) = is_some (added (measure t) (Some (greatest_abs dim))) && fit_subscripts dims ts

      -- the constraint is sound
      pub fits : Fact → Bool
      fits (Fact.fixed b) = true
      fits (Fact.cmp rel s t) = is_some (added (measure s) (measure t))
      fits (Fact.and cs) = all_fit cs
      fits (Fact.or cs) = all_fit cs
      fits (Fact.iff c d) = fits c && fits d
      fits (Fact.not c) = fits c
      fits (Fact.different ts) = is_some (measure_pairs ts)
      fits (Fact.bound x) = asks && nat_lt x (length sets)

      pub all_fit : Facts → Bool
      all_fit Facts.no_facts = true
      all_fit (Facts.more_facts c cs) = fits c && all_fit cs
