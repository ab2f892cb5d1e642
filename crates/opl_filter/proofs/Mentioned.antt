-- The variables that a sound constraint mentions are there.
use Rattle.std.proofs.Common.{◌≡◌, ◌∙◌, ℕ, ◌<◌, Bool, true, false, cond, ◌||◌, ◌&&◌, refl, List, [], ◌∷◌, map, length, ℤ, inl, inr, ap, sym, subst, arith}
use Rattle.std.specs.Prelude.{Option, Some, None, nat_eq, nat_lt}
use Rattle.std.specs.List.{list_all}
use Rattle.std.proofs.lemmas.Bool.{or_cases}
use Rattle.std.proofs.lemmas.Bool.Decides.{Decides-eqb}
use Rattle.opl_domain.specs.Span.{values}
use Rattle.opl_domain.specs.Family.{Family, only, Below, Full}
use Rattle.opl_expr.specs.declared.model.Core.{Core}
use Rattle.opl_expr.specs.declared.tables.Table.{Table}
use Rattle.opl_expr.specs.declared.tables.Cell.{Cell}
use Rattle.opl_expr.specs.declared.tables.Cell.TheVariants as cell
use Rattle.opl_expr.specs.Forms.{Term, Terms, Fact, Facts}
use Rattle.opl_expr.specs.Range.{is_possible}
use Rattle.opl_expr.specs.Sound.{is_there, IsSoundTable, IsSoundTerm, AreSoundTerms, IsSoundFact, AreSoundFacts}
use Rattle.opl_expr.specs.Solutions.{declared}
use Rattle.opl_filter.specs.Mentions.{cell_mentions, cells_mention, table_mentions, term_mentions, terms_mention, mentions, facts_mention, AreVariables}
use Rattle.opl_filter.specs.Filtering.{refutes}
use Rattle.opl_filter.specs.Rounds.{AreThere, LooksOnlyAt}
use Rattle.opl_filter.proofs.Unmentioned.{others_dont_matter, differ_only}

both_hold : (a b : Bool) → (a && b) ≡ true → (a ≡ true) × (b ≡ true)
both_hold true b h = (refl, h)
both_hold false b h = cc

same_there : (x y n : ℕ) → nat_eq x y ≡ true → y < n → x < n
same_there x y n h k = let e : x ≡ y = (Decides-eqb x y).0 h in omega (arith, e, k)

less_than : (y n : ℕ) → nat_lt y n ≡ true → y < n
less_than y n h = grind arith

cells_there : (n x : ℕ) (cells : List Cell) → list_all (is_there n) cells ≡ true → cells_mention cells x ≡ true → x < n
cells_there n x [] s h = cc
cells_there n x (cell.Const k ∷ cells) s h = cells_there n x cells s h
cells_there n x (cell.Var y ∷ cells) s h =
    let b = both_hold (nat_lt y n) (list_all (is_there n) cells) s in
    elim (or_cases (nat_eq x y) (cells_mention cells x) h) [ inl e ↦ same_there x y n e (less_than y n b.0) | inr k ↦ cells_there n x cells b.1 k ]

table_there : (sets : List (ℤ × ℤ)) (x : ℕ) (table : Option Table) → IsSoundTable sets table → table_mentions table x ≡ true → x < length sets
table_there sets x None s h = absurd s
table_there sets x (Some t) s h = cells_there (length sets) x t.cells s.2 h

module _ (sets : List (ℤ × ℤ)) (x : ℕ) where
  mutual
    term_there : (t : Term) → IsSoundTerm sets t → term_mentions t x ≡ true → x < length sets
    term_there (Term.const k) s h = cc
    term_there (Term.var y) s h = same_there x y (length sets) h s.1
    term_there (Term.sum ts) s h = terms_there ts s.1 h
    term_there (Term.neg t) s h = term_there t s.1 h
    term_there (Term.scale k t) s h = term_there t s.2 h
    term_there (Term.mul a b) s h = elim (or_cases (term_mentions a x) (term_mentions b x) h) [ inl e ↦ term_there a s.1 e | inr k ↦ term_there b s.2 k ]
    term_there (Term.div a b) s h = elim (or_cases (term_mentions a x) (term_mentions b x) h) [ inl e ↦ term_there a s.0 e | inr k ↦ term_there b s.1 k ]
    term_there (Term.rem a b) s h = elim (or_cases (term_mentions a x) (term_mentions b x) h) [ inl e ↦ term_there a s.0 e | inr k ↦ term_there b s.1 k ]
    term_there (Term.abs t) s h = term_there t s h
    term_there (Term.least ts) s h = terms_there ts s.1 h
    term_there (Term.greatest ts) s h = terms_there ts s.1 h
    term_there (Term.at table ts) s h = elim (or_cases (table_mentions table x) (terms_mention ts x) h) [ inl e ↦ table_there sets x table s.1 e | inr k ↦ terms_there ts s.3 k ]
    term_there (Term.truth c) s h = fact_there c s h
    term_there (Term.asked ask y) s h = absurd s

    terms_there : (ts : Terms) → AreSoundTerms sets ts → terms_mention ts x ≡ true → x < length sets
    terms_there Terms.no_terms s h = cc
    terms_there (Terms.more_terms t ts) s h = elim (or_cases (term_mentions t x) (terms_mention ts x) h) [ inl e ↦ term_there t s.0 e | inr k ↦ terms_there ts s.1 k ]

    fact_there : (c : Fact) → IsSoundFact sets c → mentions c x ≡ true → x < length sets
    fact_there (Fact.fixed b) s h = cc
    fact_there (Fact.cmp rel a b) s h = elim (or_cases (term_mentions a x) (term_mentions b x) h) [ inl e ↦ term_there a s.1 e | inr k ↦ term_there b s.2 k ]
    fact_there (Fact.and cs) s h = facts_there cs s h
    fact_there (Fact.or cs) s h = facts_there cs s h
    fact_there (Fact.iff c d) s h = elim (or_cases (mentions c x) (mentions d x) h) [ inl e ↦ fact_there c s.0 e | inr k ↦ fact_there d s.1 k ]
    fact_there (Fact.not c) s h = fact_there c s h
    fact_there (Fact.different ts) s h = terms_there ts s.1 h
    fact_there (Fact.bound y) s h = absurd s

    facts_there : (cs : Facts) → AreSoundFacts sets cs → facts_mention cs x ≡ true → x < length sets
    facts_there Facts.no_facts s h = cc
    facts_there (Facts.more_facts c cs) s h = elim (or_cases (mentions c x) (facts_mention cs x) h) [ inl e ↦ fact_there c s.0 e | inr k ↦ facts_there cs s.1 k ]

length_map : {A B : Type 0} (f : A → B) (xs : List A) → length (map f xs) ≡ length xs
length_map f [] = refl
length_map f (x ∷ xs) = omega (arith, length_map f xs)

declared_length : (core : Core) → length (declared core) ≡ length core.sets
unfolding declared
declared_length core = length_map (λ p. values (record { low = p.0; high = p.1 })) core.sets

pub variables_there : (core : Core) (c : Fact) (variables : List ℕ) (F : Family) → IsSoundFact core.sets c → Below F (declared core) → AreVariables variables c → AreThere variables F
variables_there core c variables F s b a x h = omega (arith, b.same, declared_length core, fact_there core.sets x c s (sym (a x) ∙ h))

pub refutes_looks : (c : Fact) (variables : List ℕ) → AreVariables variables c → LooksOnlyAt variables (refutes c)
refutes_looks c variables a F x v f h = ap (λ r. cond (is_possible r) false true) (others_dont_matter c (only F x v) F x (differ_only F x v f) (sym (a x) ∙ h))
