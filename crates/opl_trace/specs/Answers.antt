-- Questions that a search asks of the sets of variables, and what constraints are in a family.
use Rattle.std.specs.Prelude.{ℕ, suc, Bool, false, ◌||◌, length, ℤ, pos, nat_eq, Option, Some, None}
use Rattle.opl_domain.specs.Span.{Span, is_point}
use Rattle.opl_domain.specs.Family.{Family, set_of, hull}
use Rattle.opl_expr.specs.declared.forms.Ask.{Ask}
use Rattle.opl_expr.specs.declared.forms.Ask.TheVariants.{Size, Least, Greatest}
use Rattle.opl_expr.specs.Forms.{Term, Terms, Fact, Facts, product, plus}
use Rattle.opl_expr.specs.Forms.Relation.{equal, at_most}
use Rattle.opl_expr.specs.Options.{lift1, bind1}
use Rattle.opl_expr.specs.Range.{range, fact_range}

-- variable x has one value
abbrev pub is_single : Family → ℕ → Bool
is_single F x = nat_eq (length (set_of F x)) 1

-- the interval is there, and has the number k alone
abbrev pub is_some_point : ℤ → Option Span → Bool
is_some_point k None = false
is_some_point k (Some a) = is_point k a

module _ (F : Family) where
  -- the size, the least and the greatest value of the set of variable x
  abbrev pub answer : Ask → ℕ → ℤ
  answer Size x = pos (length (set_of F x))
  answer Least x = (hull F x).low
  answer Greatest x = (hull F x).high

  abbrev mutual
    -- an expression with its questions answered; nothing else of it is changed
    pub answered_term : Term → Term
    answered_term (Term.const k) = Term.const k
    answered_term (Term.var x) = Term.var x
    answered_term (Term.sum ts) = Term.sum (answered_terms ts)
    answered_term (Term.neg t) = Term.neg (answered_term t)
    answered_term (Term.scale k t) = Term.scale k (answered_term t)
    answered_term (Term.mul s t) = product (answered_term s) (answered_term t)
    answered_term (Term.div s t) = Term.div (answered_term s) (answered_term t)
    answered_term (Term.rem s t) = Term.rem (answered_term s) (answered_term t)
    answered_term (Term.abs t) = Term.abs (answered_term t)
    answered_term (Term.least ts) = Term.least (answered_terms ts)
    answered_term (Term.greatest ts) = Term.greatest (answered_terms ts)
    answered_term (Term.at table ts) = Term.at table (answered_terms ts)
    answered_term (Term.truth c) = Term.truth (answered c)
    answered_term (Term.asked ask x) = Term.const (answer ask x)

    pub answered_terms : Terms → Terms
    answered_terms Terms.no_terms = Terms.no_terms
    answered_terms (Terms.more_terms t ts) = Terms.more_terms (answered_term t) (answered_terms ts)

    -- a constraint with its questions answered
    pub answered : Fact → Fact
    answered (Fact.fixed b) = Fact.fixed b
    answered (Fact.cmp relation s t) = Fact.cmp relation (answered_term s) (answered_term t)
    answered (Fact.and cs) = Fact.and (all_answered cs)
    answered (Fact.or cs) = Fact.or (all_answered cs)
    answered (Fact.iff c d) = Fact.iff (answered c) (answered d)
    answered (Fact.not c) = Fact.not (answered c)
    answered (Fact.different ts) = Fact.different (answered_terms ts)
    answered (Fact.bound x) = Fact.fixed (is_single F x)

    pub all_answered : Facts → Facts
    all_answered Facts.no_facts = Facts.no_facts
    all_answered (Facts.more_facts c cs) = Facts.more_facts (answered c) (all_answered cs)

  -- the range of a constraint is [k,k]
  abbrev pub ranges_to : ℤ → Fact → Bool
  ranges_to k c = is_some_point k (fact_range F c)

  -- a condition holds: its range is [1,1] once its questions are answered
  unfoldable pub is_met : Fact → Bool
  is_met c = ranges_to (pos 1) (answered c)

  -- a constraint is decided: its range is [0,0] or [1,1]
  unfoldable pub is_decided : Fact → Bool
  is_decided c = ranges_to (pos 0) c || ranges_to (pos 1) c

  -- the value of a key, which has no variables; missing where there is no key or it is undefined
  unfoldable pub key_value : Option Term → Option ℤ
  key_value key = bind1 (λ t. lift1 (λ a. a.low) (range F (answered_term t))) key

-- variable x has the value v
abbrev pub is_value : ℕ → ℤ → Fact
is_value x v = Fact.cmp equal (Term.var x) (Term.const v)

-- the activity that starts at variable x ends by the time at which the one that starts at y does; the duration of the
-- former is the variable after its start
abbrev pub precedes : ℕ → ℕ → Fact
precedes x y = Fact.cmp at_most (plus (Term.var x) (Term.var (suc x))) (Term.var y)
