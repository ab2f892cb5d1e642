-- The test of a core tells whether it is sound.
use Rattle.std.proofs.Common.{◌≡◌, ℕ, zero, suc, ◌+◌, ◌≤◌, ◌^◌, max, Bool, true, false, ◌&&◌, refl, List, [], ◌∷◌, length, ℤ, pos, negsuc, ◌≤ℤ◌, ◌+ℤ◌, neg_ℤ, arith}
use Rattle.std.specs.Prelude.{nat_lt, nat_le, int_le, unsigned_abs, Option, Some, None}
use Rattle.std.specs.List.{All, list_all}
use Rattle.std.proofs.lemmas.Bool.{leb-true, leb-false}
use Rattle.std.proofs.lemmas.Int.{ints}
use Rattle.opl_domain.specs.Span.{span_size, count_from}
use Rattle.opl_domain.specs.Family.{most_values}
use Rattle.opl_expr.specs.declared.model.Core.{Core}
use Rattle.opl_expr.specs.Forms.{Term, Fact, facts_of}
use Rattle.opl_expr.specs.Solutions.{facts, goal_term}
use Rattle.opl_expr.specs.Sound.{term_magnitude, IsSoundFact}
use Rattle.opl_trace.specs.Marks.{section}
use Rattle.opl_trace.specs.Statements.{Statement, Statements, Branch, Branches}
use Rattle.opl_trace.specs.Statements.Statement.{post, block, try, try_all, for_all, select, once, while, decide, generate, rank}
use Rattle.opl_trace.specs.Statements.Statements.{no_statements, more_statements}
use Rattle.opl_trace.specs.Statements.Branch.{branch}
use Rattle.opl_trace.specs.Statements.Branches.{no_branches, more_branches}
use Rattle.opl_trace.specs.Questions.{open_magnitude}
use Rattle.opl_trace.specs.SoundCores.{IsSoundSet, AreThere, ArePairs, IsOpenKey, IsSoundStatement, AreSoundStatements, IsSoundBranch, AreSoundBranches, IsSoundGoal, IsSoundSection, IsSoundCore}
use Rattle.opl_sound.specs.Measures.{added, measure, fits, all_fit}
use Rattle.opl_sound.specs.Cores.{fits_set, fits_goal, fits_key, fits_pair, fits_statement, fit_statements, fits_branch, fit_branches, fits_section, fits_core}
use Rattle.opl_sound.proofs.Tells.{IsTold, tells_both, tells_as, tells_less, some_tells, iff_added}
use Rattle.opl_sound.proofs.Sound as sound
use Rattle.opl_sound.proofs.Open as open_

-- ---- lists

first_all : {X : Type 0} (P : X → Type 0) (x : X) (xs : List X) → (P x) × All P xs → All P (x ∷ xs)
first_all P x xs h zero d i = h.0
first_all P x xs h (suc k) d i = h.1 k d (omega (arith, i))

pub all_told : {X : Type 0} (p : X → Bool) (P : X → Type 0) → ((x : X) → IsTold (p x) (P x)) → (xs : List X) → IsTold (list_all p xs) (All P xs)
all_told p P h [] = record { told = λ k d i. absurd (omega (arith, i)) }
all_told p P h (x ∷ xs) =
    tells_as (list_all p (x ∷ xs)) (first_all P x xs) (λ i. (i 0 x (omega arith), λ k d j. i (suc k) d (omega (arith, j))))
    (tells_both (p x) (list_all p xs) (h x) (all_told p P h xs))

pub facts_told : (sets : List (ℤ × ℤ)) (cs : List Fact) → IsTold (all_fit sets false (facts_of cs)) (All (IsSoundFact sets) cs)
facts_told sets [] = record { told = λ k d i. absurd (omega (arith, i)) }
facts_told sets (c ∷ cs) =
    tells_as (all_fit sets false (facts_of (c ∷ cs))) (first_all (IsSoundFact sets) c cs) (λ i. (i 0 c (omega arith), λ k d j. i (suc k) d (omega (arith, j))))
    (tells_both (fits sets false c) (all_fit sets false (facts_of cs)) (sound.tells_fact sets c) (facts_told sets cs))

-- ---- declared sets

pub tells_most : (m n : ℕ) → IsTold (nat_le m n) (m ≤ n)
tells_most m n = elim (nat_le m n) as (λ b. nat_le m n ≡ b → IsTold b (m ≤ n)) [
  | true ↦ λ e. record { told = leb-true m n e }
  | false ↦ λ e. record { told = λ h. let g = leb-false m n e in omega (arith, g, h) }
] refl

count_none : (n : ℤ) → n ≤ℤ pos 0 → count_from n ≡ 0
count_none (pos zero) h = refl
count_none (pos (suc n)) h = absurd (omega (arith, ints, h))
count_none (negsuc n) h = refl

few : (lo hi : ℤ) → (lo ≤ℤ hi → span_size (record { low = lo; high = hi }) ≤ most_values) → max 1 (span_size (record { low = lo; high = hi })) ≤ most_values
few lo hi h = elim (int_le lo hi) as (λ b. int_le lo hi ≡ b → max 1 (span_size (record { low = lo; high = hi })) ≤ most_values) [
  | true ↦ λ e. let m = h (omega (arith, ints, e)) in omega (arith, m)
  | false ↦ λ e. let m = count_none (hi +ℤ pos 1 +ℤ neg_ℤ lo) (omega (arith, ints, e)) in omega (arith, m)
] refl

set_told : (p : ℤ × ℤ) → IsTold (fits_set p) (IsSoundSet p)
set_told p =
    let n = span_size (record { low = p.0; high = p.1 }) in
    tells_as (fits_set p) (λ h. record { low = h.0; high = h.1.0; few = λ o. omega (arith, h.1.1) }) (λ h. (h.low, (h.high, few p.0 p.1 h.few)))
    (tells_both (nat_le (unsigned_abs p.0) (2 ^ 62)) (nat_le (unsigned_abs p.1) (2 ^ 62) && nat_le (max 1 n) most_values) (tells_most (unsigned_abs p.0) (2 ^ 62))
    (tells_both (nat_le (unsigned_abs p.1) (2 ^ 62)) (nat_le (max 1 n) most_values) (tells_most (unsigned_abs p.1) (2 ^ 62)) (tells_most (max 1 n) most_values)))

-- ---- statements

module _ (sets : List (ℤ × ℤ)) where
  there_told : (xs : List ℕ) → IsTold (list_all (λ x. nat_lt x (length sets)) xs) (AreThere sets xs)
  there_told [] = record { told = tt }
  there_told (x ∷ xs) = tells_both (nat_lt x (length sets)) (list_all (λ x. nat_lt x (length sets)) xs) (tells_less x (length sets)) (there_told xs)

  pairs_told : (ps : List (ℕ × ℕ)) → IsTold (list_all (fits_pair sets) ps) (ArePairs sets ps)
  pairs_told [] = record { told = tt }
  pairs_told (p ∷ ps) =
      tells_as (list_all (fits_pair sets) (p ∷ ps)) (λ h. (h.0.0, h.0.1, h.1)) (λ h. ((h.0, h.1), h.2))
      (tells_both (fits_pair sets p) (list_all (fits_pair sets) ps) (tells_both (nat_lt (suc p.0) (length sets)) (nat_lt (suc p.1) (length sets)) (tells_less (suc p.0) (length sets)) (tells_less (suc p.1) (length sets))) (pairs_told ps))

  key_told : (key : Option Term) → IsTold (fits_key sets key) (IsOpenKey sets key)
  key_told None = record { told = tt }
  key_told (Some t) = some_tells (measure sets true t) (open_magnitude sets t) (open_.tells sets t)

  mutual
    statement_told : (s : Statement) → IsTold (fits_statement sets s) (IsSoundStatement sets s)
    statement_told (post c) = open_.tells_fact sets c
    statement_told (block ss) = statements_told ss
    statement_told (try ss) = statements_told ss
    statement_told (try_all bs) = branches_told bs
    statement_told (for_all bs) = branches_told bs
    statement_told (select bs) = branches_told bs
    statement_told (once s) = statement_told s
    statement_told (while c s) = tells_both (fits sets true c) (fits_statement sets s) (open_.tells_fact sets c) (statement_told s)
    statement_told (decide c s t) =
        tells_as (fits_statement sets (decide c s t)) (λ h. (h.0, h.1.0, h.1.1)) (λ h. (h.0, (h.1, h.2)))
        (tells_both (fits sets true c) (fits_statement sets s && fits_statement sets t) (open_.tells_fact sets c) (tells_both (fits_statement sets s) (fits_statement sets t) (statement_told s) (statement_told t)))
    statement_told (generate xs) = there_told xs
    statement_told (rank ps) = pairs_told ps

    statements_told : (ss : Statements) → IsTold (fit_statements sets ss) (AreSoundStatements sets ss)
    statements_told no_statements = record { told = tt }
    statements_told (more_statements s ss) = tells_both (fits_statement sets s) (fit_statements sets ss) (statement_told s) (statements_told ss)

    branch_told : (b : Branch) → IsTold (fits_branch sets b) (IsSoundBranch sets b)
    branch_told (branch c key rising s) =
        tells_as (fits_branch sets (branch c key rising s)) (λ h. (h.0, h.1.0, h.1.1)) (λ h. (h.0, (h.1, h.2)))
        (tells_both (fits sets true c) (fits_key sets key && fits_statement sets s) (open_.tells_fact sets c) (tells_both (fits_key sets key) (fits_statement sets s) (key_told key) (statement_told s)))

    branches_told : (bs : Branches) → IsTold (fit_branches sets bs) (AreSoundBranches sets bs)
    branches_told no_branches = record { told = tt }
    branches_told (more_branches b bs) = tells_both (fits_branch sets b) (fit_branches sets bs) (branch_told b) (branches_told bs)

  section_told : (s : Option Statement) → IsTold (fits_section sets s) (IsSoundSection sets s)
  section_told None = record { told = tt }
  section_told (Some s) = statement_told s

  goal_told : (t : Option Term) → IsTold (fits_goal sets t) (IsSoundGoal sets t)
  goal_told None = record { told = tt }
  goal_told (Some t) =
      tells_as (fits_goal sets (Some t)) (λ h. (h.0, h.1)) (λ h. (h.0, h.1, h.1))
      (some_tells (added (measure sets false t) (measure sets false t)) (term_magnitude sets t + term_magnitude sets t) (iff_added (measure sets false t) (measure sets false t) (term_magnitude sets t) (term_magnitude sets t) (sound.tells sets t) (sound.tells sets t)))

-- ---- cores

pub core_told : (core : Core) → IsTold (fits_core core) (IsSoundCore core)
core_told core =
    let few = nat_lt (length core.sets) (2 ^ 32) in
    let sets = list_all fits_set core.sets in
    let constraints = all_fit core.sets false (facts_of (facts core)) in
    let goal = fits_goal core.sets (goal_term core) in
    let search_section = fits_section core.sets (section false core) in
    tells_as (fits_core core) (λ h. record { few = h.0; sets = h.1.0; constraints = h.1.1.0; goal = h.1.1.1.0; search = h.1.1.1.1 }) (λ h. (h.few, (h.sets, (h.constraints, (h.goal, h.search)))))
    (tells_both few (sets && (constraints && (goal && search_section))) (tells_less (length core.sets) (2 ^ 32))
    (tells_both sets (constraints && (goal && search_section)) (all_told fits_set IsSoundSet set_told core.sets)
    (tells_both constraints (goal && search_section) (facts_told core.sets (facts core)) (tells_both goal search_section (goal_told core.sets (goal_term core)) (section_told core.sets (section false core))))))
