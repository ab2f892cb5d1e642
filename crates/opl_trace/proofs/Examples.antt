-- Searches of small models, worked out by hand.
use Rattle.std.proofs.Common.{◌≡◌, ℕ, Bool, true, false, refl, List, [], ◌∷◌, ◌++◌, ◌+◌, map, ℤ, pos, neg_ℤ}
use Rattle.std.specs.Prelude.{Some, None}
use Rattle.opl_domain.specs.Span.{smaller, larger, hull_of, values}
use Rattle.opl_domain.specs.Arithmetic.{span_add, span_neg, span_mul, span_min, span_max}
use Rattle.opl_domain.specs.Family.{set_of, hull, only}
use Rattle.opl_expr.specs.declared.forms.Ask.TheVariants.{Size, Least}
use Rattle.opl_expr.specs.Forms.{Term, Fact, terms_of, facts_of, plus}
use Rattle.opl_expr.specs.Forms.Relation.{equal, at_most, below}
use Rattle.opl_expr.specs.Forms.Term.{const, var, truth, asked}
use Rattle.opl_expr.specs.Forms.Fact.{fixed, cmp, not, bound}
use Rattle.opl_expr.specs.Range.{flip, span_scale, with_variables, never_zero, compare}
use Rattle.opl_trace.specs.Closure.{is_stable}
use Rattle.opl_trace.specs.Answers.{is_met, is_decided, key_value, precedes}
use Rattle.opl_trace.specs.Objective.{Objective}
use Rattle.opl_trace.specs.Statements.{Statement, Branch, statements_of, branches_of}
use Rattle.opl_trace.specs.Statements.Statement.{post, try, try_all, for_all, once, while, generate, rank}
use Rattle.opl_trace.specs.Statements.Branch.{branch}
use Rattle.opl_trace.specs.Run.{Out, choices, is_dead, within}
use Rattle.opl_trace.specs.Marks.{solved}
use Rattle.opl_trace.specs.Sweeps.{swept, swept_trace}

-- the solutions, the number of choices, and whether there is a Cut
record Seen : Type 0 where
  solutions : List (List ℤ)
  choices : ℕ
  is_cut : Bool

abbrev seen : Out → Seen
seen o = record { solutions = solved o.marks; choices = choices o.marks; is_cut = o.is_cut }

abbrev x : Term
x = var 0

abbrev n : ℕ → Term
n k = const (pos k)

abbrev le : Term → Term → Fact
le s t = cmp at_most s t

abbrev eq : Term → Term → Fact
eq s t = cmp equal s t

abbrev y : Term
y = var 1

abbrev gt : Term → Term → Fact
gt s t = cmp below t s

abbrev ne : Term → Term → Fact
ne s t = not (eq s t)

abbrev trying : List Fact → Statement
trying cs = try (statements_of (map post cs))

-- every element, without an order
abbrev always : Statement → Branch
always s = branch (fixed true) None true s

-- a solution on two paths is found twice: `try x <= 2 | x >= 2 endtry`
overlapping : seen (swept_trace None ((pos 1 ∷ pos 2 ∷ pos 3 ∷ []) ∷ []) (Some (trying (le x (n 2) ∷ le (n 2) x ∷ []))) ([]) 100)
    ≡ record { solutions = (pos 1 ∷ []) ∷ (pos 2 ∷ []) ∷ (pos 2 ∷ []) ∷ (pos 3 ∷ []) ∷ []; choices = 6; is_cut = false }
unfolding set_of hull only hull_of smaller larger span_add span_neg span_mul values span_scale with_variables never_zero compare flip span_min span_max is_stable is_met is_decided key_value within is_dead swept
overlapping = refl

-- the same without a search section
overlapping_by_default : seen (swept_trace None ((pos 1 ∷ pos 2 ∷ pos 3 ∷ []) ∷ []) (None) ([]) 100)
    ≡ record { solutions = (pos 1 ∷ []) ∷ (pos 2 ∷ []) ∷ (pos 3 ∷ []) ∷ []; choices = 3; is_cut = false }
unfolding set_of hull only hull_of smaller larger span_add span_neg span_mul values span_scale with_variables never_zero compare flip span_min span_max is_stable is_met is_decided key_value within is_dead swept
overlapping_by_default = refl

-- two of four queens stand in other rows, and on no common diagonal
abbrev apart : ℕ → ℕ → List Fact
apart i j =
    ne (var i) (var j) ∷ ne (plus (var i) (n (i + 1))) (plus (var j) (n (j + 1)))
    ∷ ne (plus (var i) (const (neg_ℤ (pos (i + 1))))) (plus (var j) (const (neg_ℤ (pos (j + 1))))) ∷ []

abbrev queens : List Fact
queens = apart 0 1 ++ (apart 0 2 ++ (apart 0 3 ++ (apart 1 2 ++ (apart 1 3 ++ apart 2 3))))

-- four queens
four_queens : seen (swept_trace None ((pos 1 ∷ pos 2 ∷ pos 3 ∷ pos 4 ∷ []) ∷ (pos 1 ∷ pos 2 ∷ pos 3 ∷ pos 4 ∷ []) ∷ (pos 1 ∷ pos 2 ∷ pos 3 ∷ pos 4 ∷ []) ∷ (pos 1 ∷ pos 2 ∷ pos 3 ∷ pos 4 ∷ []) ∷ []) (None) (queens) 100)
    ≡ record { solutions = (pos 2 ∷ pos 4 ∷ pos 1 ∷ pos 3 ∷ []) ∷ (pos 3 ∷ pos 1 ∷ pos 4 ∷ pos 2 ∷ []) ∷ []; choices = 8; is_cut = false }
unfolding set_of hull only hull_of smaller larger span_add span_neg span_mul values span_scale with_variables never_zero compare flip span_min span_max is_stable is_met is_decided key_value within is_dead swept
four_queens = refl

-- the last choice is due when none is left
spent_queens : seen (swept_trace None ((pos 1 ∷ pos 2 ∷ pos 3 ∷ pos 4 ∷ []) ∷ (pos 1 ∷ pos 2 ∷ pos 3 ∷ pos 4 ∷ []) ∷ (pos 1 ∷ pos 2 ∷ pos 3 ∷ pos 4 ∷ []) ∷ (pos 1 ∷ pos 2 ∷ pos 3 ∷ pos 4 ∷ []) ∷ []) (None) (queens) 7)
    ≡ record { solutions = (pos 2 ∷ pos 4 ∷ pos 1 ∷ pos 3 ∷ []) ∷ (pos 3 ∷ pos 1 ∷ pos 4 ∷ pos 2 ∷ []) ∷ []; choices = 7; is_cut = true }
unfolding set_of hull only hull_of smaller larger span_add span_neg span_mul values span_scale with_variables never_zero compare flip span_min span_max is_stable is_met is_decided key_value within is_dead swept
spent_queens = refl

-- variable i counts the variables that have the value i
abbrev counts : ℕ → Fact
counts i = eq (var i) (Term.sum (terms_of (map (λ j. truth (eq (var j) (n i))) (0 ∷ 1 ∷ 2 ∷ 3 ∷ []))))

-- a series in which each place tells how often it stands in the series
magic_series : solved (swept_trace None ((pos 0 ∷ pos 1 ∷ pos 2 ∷ pos 3 ∷ pos 4 ∷ []) ∷ (pos 0 ∷ pos 1 ∷ pos 2 ∷ pos 3 ∷ pos 4 ∷ []) ∷ (pos 0 ∷ pos 1 ∷ pos 2 ∷ pos 3 ∷ pos 4 ∷ []) ∷ (pos 0 ∷ pos 1 ∷ pos 2 ∷ pos 3 ∷ pos 4 ∷ []) ∷ []) None (map counts (0 ∷ 1 ∷ 2 ∷ 3 ∷ [])) 100).marks ≡ (pos 1 ∷ pos 2 ∷ pos 1 ∷ pos 0 ∷ []) ∷ (pos 2 ∷ pos 0 ∷ pos 2 ∷ pos 0 ∷ []) ∷ []
unfolding set_of hull only hull_of smaller larger span_add span_neg span_mul values span_scale with_variables never_zero compare flip span_min span_max is_stable is_met is_decided key_value within is_dead swept
magic_series = refl

-- `maximize x + y`
abbrev highest : Objective
highest = record { is_most = true; term = plus x y }

abbrev up_to_three : List Fact
up_to_three = le (plus x y) (n 3) ∷ eq (plus x y) (plus x y) ∷ []

-- each solution is better than those before; alternatives that the bound fails make their choices
improving : seen (swept_trace (Some highest) ((pos 0 ∷ pos 1 ∷ pos 2 ∷ pos 3 ∷ []) ∷ (pos 0 ∷ pos 1 ∷ pos 2 ∷ pos 3 ∷ []) ∷ []) (None) (up_to_three) 100)
    ≡ record { solutions = (pos 0 ∷ pos 0 ∷ []) ∷ (pos 0 ∷ pos 1 ∷ []) ∷ (pos 0 ∷ pos 2 ∷ []) ∷ (pos 0 ∷ pos 3 ∷ []) ∷ []; choices = 8; is_cut = false }
unfolding set_of hull only hull_of smaller larger span_add span_neg span_mul values span_scale with_variables never_zero compare flip span_min span_max is_stable is_met is_decided key_value within is_dead swept
improving = refl

-- `once try x = 1 | x = 2 endtry` where x isn't 1
first_leaf_of_once : seen (swept_trace None ((pos 1 ∷ pos 2 ∷ pos 3 ∷ []) ∷ []) (Some (once (trying (eq x (n 1) ∷ eq x (n 2) ∷ [])))) (ne x (n 1) ∷ []) 100)
    ≡ record { solutions = (pos 2 ∷ []) ∷ []; choices = 2; is_cut = false }
unfolding set_of hull only hull_of smaller larger span_add span_neg span_mul values span_scale with_variables never_zero compare flip span_min span_max is_stable is_met is_decided key_value within is_dead swept
first_leaf_of_once = refl

-- `while 1 = 1 do x >= 1`, with five choices
endless_loop : seen (swept_trace None ((pos 1 ∷ pos 2 ∷ []) ∷ []) (Some (while (fixed true) (post (le (n 1) x)))) ([]) 5)
    ≡ record { solutions = []; choices = 5; is_cut = true }
unfolding set_of hull only hull_of smaller larger span_add span_neg span_mul values span_scale with_variables never_zero compare flip span_min span_max is_stable is_met is_decided key_value within is_dead swept
endless_loop = refl

-- `forall(i in 1..3 ordered by increasing dsize(x[i])) tryall(v in 1..2) x[i] = v`
abbrev by_size : ℕ → Branch
by_size i = branch (fixed true) (Some (asked Size i)) true (try_all (branches_of (map (λ v. always (post (eq (var i) (n v)))) (1 ∷ 2 ∷ []))))

-- the order of the variables is chosen when each is reached
smallest_first : seen (swept_trace None ((pos 1 ∷ pos 2 ∷ []) ∷ (pos 1 ∷ pos 2 ∷ []) ∷ (pos 1 ∷ pos 2 ∷ []) ∷ []) (Some (for_all (branches_of (map by_size (0 ∷ 1 ∷ 2 ∷ []))))) (ne (var 0) (var 2) ∷ []) 100)
    ≡ record { solutions = (pos 1 ∷ pos 1 ∷ pos 2 ∷ []) ∷ (pos 1 ∷ pos 2 ∷ pos 2 ∷ []) ∷ (pos 2 ∷ pos 1 ∷ pos 1 ∷ []) ∷ (pos 2 ∷ pos 2 ∷ pos 1 ∷ []) ∷ []; choices = 10; is_cut = false }
unfolding set_of hull only hull_of smaller larger span_add span_neg span_mul values span_scale with_variables never_zero compare flip span_min span_max is_stable is_met is_decided key_value within is_dead swept
smallest_first = refl

-- `while not bound(x) do try x = dmin(x) | x > dmin(x) endtry`
least_value_first : seen (swept_trace None ((pos 1 ∷ pos 2 ∷ pos 3 ∷ []) ∷ []) (Some (while (not (bound 0)) (trying (eq x (asked Least 0) ∷ gt x (asked Least 0) ∷ [])))) ([]) 100)
    ≡ record { solutions = (pos 1 ∷ []) ∷ (pos 2 ∷ []) ∷ (pos 3 ∷ []) ∷ []; choices = 6; is_cut = false }
unfolding set_of hull only hull_of smaller larger span_add span_neg span_mul values span_scale with_variables never_zero compare flip span_min span_max is_stable is_met is_decided key_value within is_dead swept
least_value_first = refl

-- two activities of duration 2 on one resource up to time 4; variables 0 and 2 are their starts
abbrev activities : List Fact
activities = le (plus (var 0) (var 1)) (n 4) ∷ le (plus (var 2) (var 3)) (n 4) ∷ Fact.or (facts_of (precedes 0 2 ∷ precedes 2 0 ∷ [])) ∷ []

-- `rank(u)`
ranked : seen (swept_trace None ((pos 0 ∷ pos 1 ∷ pos 2 ∷ pos 3 ∷ pos 4 ∷ []) ∷ (pos 2 ∷ []) ∷ (pos 0 ∷ pos 1 ∷ pos 2 ∷ pos 3 ∷ pos 4 ∷ []) ∷ (pos 2 ∷ []) ∷ []) (Some (rank ((0, 2) ∷ []))) (activities) 100)
    ≡ record { solutions = (pos 0 ∷ pos 2 ∷ pos 2 ∷ pos 2 ∷ []) ∷ (pos 2 ∷ pos 2 ∷ pos 0 ∷ pos 2 ∷ []) ∷ []; choices = 2; is_cut = false }
unfolding set_of hull only hull_of smaller larger span_add span_neg span_mul values span_scale with_variables never_zero compare flip span_min span_max is_stable is_met is_decided key_value within is_dead swept
ranked = refl

-- `generate(y)`
second_first : seen (swept_trace None ((pos 1 ∷ pos 2 ∷ []) ∷ (pos 1 ∷ pos 2 ∷ []) ∷ []) (Some (generate (1 ∷ []))) ([]) 100)
    ≡ record { solutions = (pos 1 ∷ pos 1 ∷ []) ∷ (pos 2 ∷ pos 1 ∷ []) ∷ (pos 1 ∷ pos 2 ∷ []) ∷ (pos 2 ∷ pos 2 ∷ []) ∷ []; choices = 6; is_cut = false }
unfolding set_of hull only hull_of smaller larger span_add span_neg span_mul values span_scale with_variables never_zero compare flip span_min span_max is_stable is_met is_decided key_value within is_dead swept
second_first = refl

-- without variables there is one solution
no_variables : seen (swept_trace None ([]) (None) ([]) 0)
    ≡ record { solutions = ([]) ∷ []; choices = 0; is_cut = false }
unfolding set_of hull only hull_of smaller larger span_add span_neg span_mul values span_scale with_variables never_zero compare flip span_min span_max is_stable is_met is_decided key_value within is_dead swept
no_variables = refl

-- with an empty declared set there is none
empty_set : seen (swept_trace None ((pos 1 ∷ pos 2 ∷ []) ∷ ([]) ∷ []) (None) ([]) 100)
    ≡ record { solutions = []; choices = 0; is_cut = false }
unfolding set_of hull only hull_of smaller larger span_add span_neg span_mul values span_scale with_variables never_zero compare flip span_min span_max is_stable is_met is_decided key_value within is_dead swept
empty_set = refl
