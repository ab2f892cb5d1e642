-- The weight of each form of terms.
use Rattle.std.proofs.Common.{◌≡◌, ◌+◌, ◌*◌, ◌<◌, ◌≤◌, ℕ, List, [], ◌∷◌, map, length, get_or, zero, suc, Option, None, Some, refl, ap, sym, ◌∙◌, arith}
use Rattle.std.specs.Option.{option_map}
use Rattle.opl_tree.specs.declared.expression.AggregateOp.{AggregateOp}
use Rattle.opl_tree.specs.declared.expression.CallOp.{CallOp}
use Rattle.opl_tree.specs.declared.expression.Relation.{Relation}
use Rattle.opl_term.specs.declared.term.FieldName.{FieldName}
use Rattle.opl_term.specs.declared.term.GroupTerm.{GroupTerm}
use Rattle.opl_term.specs.declared.term.GroupTerm.TheVariants as groups
use Rattle.opl_term.specs.declared.term.Pattern.{Pattern}
use Rattle.opl_term.specs.declared.term.SetTerm.{SetTerm}
use Rattle.opl_term.specs.declared.term.SetTerm.TheVariants as sets
use Rattle.opl_term.specs.declared.term.Step.{Step}
use Rattle.opl_term.specs.declared.term.Step.TheVariants as steps
use Rattle.opl_term.specs.declared.term.Term.{Term}
use Rattle.opl_term.specs.declared.term.Term.TheVariants as terms
use Rattle.opl_term.specs.declared.term.GroupTerm.TheFolds.{fold-roll-GroupTerm, fold-roll-SetTerm, fold-roll-Step, fold-roll-Term}
use Rattle.opl_eval.specs.Weights.{weight, step_weight, set_weight, group_weight, if_any, total}

pub weight-Bracket : (at : ℕ) (t : Term) → weight (terms.Bracket at t) ≡ weight t + 20
unfolding weight step_weight set_weight group_weight
weight-Bracket at t = ap weight (sym (terms.rolls-Bracket at t)) ∙ rw fold-roll-Term refl

pub weight-Negative : (at : ℕ) (t : Term) → weight (terms.Negative at t) ≡ weight t + 20
unfolding weight step_weight set_weight group_weight
weight-Negative at t = ap weight (sym (terms.rolls-Negative at t)) ∙ rw fold-roll-Term refl

pub weight-Chain : (at : ℕ) (t : Term) (ss : List Step) → weight (terms.Chain at t ss) ≡ weight t + total (map step_weight ss) + 20
unfolding weight step_weight set_weight group_weight
weight-Chain at t ss = ap weight (sym (terms.rolls-Chain at t ss)) ∙ rw fold-roll-Term refl

pub weight-Related : (at : ℕ) (t : Term) (r : Relation) (u : Term) → weight (terms.Related at t r u) ≡ weight t + weight u + 20
unfolding weight step_weight set_weight group_weight
weight-Related at t r u = ap weight (sym (terms.rolls-Related at t r u)) ∙ rw fold-roll-Term refl

pub weight-Member : (at : ℕ) (t : Term) (s : SetTerm) → weight (terms.Member at t s) ≡ weight t + set_weight s + 20
unfolding weight step_weight set_weight group_weight
weight-Member at t s = ap weight (sym (terms.rolls-Member at t s)) ∙ rw fold-roll-Term refl

pub weight-Equivalent : (at : ℕ) (ts : List Term) → weight (terms.Equivalent at ts) ≡ total (map weight ts) + 20
unfolding weight step_weight set_weight group_weight
weight-Equivalent at ts = ap weight (sym (terms.rolls-Equivalent at ts)) ∙ rw fold-roll-Term refl

pub weight-Implied : (at : ℕ) (t : Term) (u : Term) → weight (terms.Implied at t u) ≡ weight t + weight u + 20
unfolding weight step_weight set_weight group_weight
weight-Implied at t u = ap weight (sym (terms.rolls-Implied at t u)) ∙ rw fold-roll-Term refl

pub weight-Or : (at : ℕ) (ts : List Term) → weight (terms.Or at ts) ≡ total (map weight ts) + 20
unfolding weight step_weight set_weight group_weight
weight-Or at ts = ap weight (sym (terms.rolls-Or at ts)) ∙ rw fold-roll-Term refl

pub weight-And : (at : ℕ) (ts : List Term) → weight (terms.And at ts) ≡ total (map weight ts) + 20
unfolding weight step_weight set_weight group_weight
weight-And at ts = ap weight (sym (terms.rolls-And at ts)) ∙ rw fold-roll-Term refl

pub weight-Not : (at : ℕ) (t : Term) → weight (terms.Not at t) ≡ weight t + 20
unfolding weight step_weight set_weight group_weight
weight-Not at t = ap weight (sym (terms.rolls-Not at t)) ∙ rw fold-roll-Term refl

pub weight-Call : (at : ℕ) (op : CallOp) (t : Term) → weight (terms.Call at op t) ≡ weight t + 20
unfolding weight step_weight set_weight group_weight
weight-Call at op t = ap weight (sym (terms.rolls-Call at op t)) ∙ rw fold-roll-Term refl

pub weight-AllDifferent : (at : ℕ) (t : Term) → weight (terms.AllDifferent at t) ≡ weight t + 20
unfolding weight step_weight set_weight group_weight
weight-AllDifferent at t = ap weight (sym (terms.rolls-AllDifferent at t)) ∙ rw fold-roll-Term refl

pub weight-Element : (at : ℕ) (t : Term) (ts : List Term) → weight (terms.Element at t ts) ≡ weight t + total (map weight ts) + 20
unfolding weight step_weight set_weight group_weight
weight-Element at t ts = ap weight (sym (terms.rolls-Element at t ts)) ∙ rw fold-roll-Term refl

pub weight-Fields : (at : ℕ) (t : Term) (names : List FieldName) → weight (terms.Fields at t names) ≡ weight t + 20
unfolding weight step_weight set_weight group_weight
weight-Fields at t names = ap weight (sym (terms.rolls-Fields at t names)) ∙ rw fold-roll-Term refl

pub weight-Record : (at : ℕ) (ts : List Term) → weight (terms.Record at ts) ≡ total (map weight ts) + 20
unfolding weight step_weight set_weight group_weight
weight-Record at ts = ap weight (sym (terms.rolls-Record at ts)) ∙ rw fold-roll-Term refl

pub weight-Listed : (at : ℕ) (ts : List Term) → weight (terms.Listed at ts) ≡ total (map weight ts) + 20
unfolding weight step_weight set_weight group_weight
weight-Listed at ts = ap weight (sym (terms.rolls-Listed at ts)) ∙ rw fold-roll-Term refl

pub weight-Aggregate : (at : ℕ) (op : AggregateOp) (gs : List GroupTerm) (c : Option Term) (t : Term) → weight (terms.Aggregate at op gs c t) ≡ total (map group_weight gs) + if_any (option_map weight c) + weight t + 20
unfolding weight step_weight set_weight group_weight
weight-Aggregate at op gs None t = ap weight (sym (terms.rolls-Aggregate at op gs None t)) ∙ rw fold-roll-Term refl
weight-Aggregate at op gs (Some c) t = ap weight (sym (terms.rolls-Aggregate at op gs (Some c) t)) ∙ rw fold-roll-Term refl

pub weight-Described : (at : ℕ) (t : Term) (gs : List GroupTerm) (c : Option Term) → weight (terms.Described at t gs c) ≡ total (map group_weight gs) + if_any (option_map weight c) + weight t + 20
unfolding weight step_weight set_weight group_weight
weight-Described at t gs None = ap weight (sym (terms.rolls-Described at t gs None)) ∙ rw fold-roll-Term refl
weight-Described at t gs (Some c) = ap weight (sym (terms.rolls-Described at t gs (Some c))) ∙ rw fold-roll-Term refl

pub weight-Whole : (t : Term) → set_weight (sets.Whole t) ≡ weight t + 20
unfolding weight step_weight set_weight group_weight
weight-Whole t = ap set_weight (sym (sets.rolls-Whole t)) ∙ rw fold-roll-SetTerm refl

pub weight-Between : (t u : Term) → set_weight (sets.Between t u) ≡ weight t + weight u + 20
unfolding weight step_weight set_weight group_weight
weight-Between t u = ap set_weight (sym (sets.rolls-Between t u)) ∙ rw fold-roll-SetTerm refl

pub weight-Unordered : (ps : List Pattern) (s : SetTerm) → group_weight (groups.Unordered ps s) ≡ 2 * length ps + set_weight s + 20
unfolding weight step_weight set_weight group_weight
weight-Unordered ps s = ap group_weight (sym (groups.rolls-Unordered ps s)) ∙ rw fold-roll-GroupTerm refl

pub weight-Ordered : (ps : List Pattern) (s : SetTerm) → group_weight (groups.Ordered ps s) ≡ 2 * length ps + set_weight s + 20
unfolding weight step_weight set_weight group_weight
weight-Ordered ps s = ap group_weight (sym (groups.rolls-Ordered ps s)) ∙ rw fold-roll-GroupTerm refl

pub weight-Plus : (t : Term) → step_weight (steps.Plus t) ≡ weight t + 20
unfolding weight step_weight set_weight group_weight
weight-Plus t = ap step_weight (sym (steps.rolls-Plus t)) ∙ rw fold-roll-Step refl

pub weight-Minus : (t : Term) → step_weight (steps.Minus t) ≡ weight t + 20
unfolding weight step_weight set_weight group_weight
weight-Minus t = ap step_weight (sym (steps.rolls-Minus t)) ∙ rw fold-roll-Step refl

pub weight-Times : (t : Term) → step_weight (steps.Times t) ≡ weight t + 20
unfolding weight step_weight set_weight group_weight
weight-Times t = ap step_weight (sym (steps.rolls-Times t)) ∙ rw fold-roll-Step refl

pub weight-Quotient : (t : Term) → step_weight (steps.Quotient t) ≡ weight t + 20
unfolding weight step_weight set_weight group_weight
weight-Quotient t = ap step_weight (sym (steps.rolls-Quotient t)) ∙ rw fold-roll-Step refl

pub weight-Remainder : (t : Term) → step_weight (steps.Remainder t) ≡ weight t + 20
unfolding weight step_weight set_weight group_weight
weight-Remainder t = ap step_weight (sym (steps.rolls-Remainder t)) ∙ rw fold-roll-Step refl

-- one of a list weighs no more than all
pub weight-at : {A : Type 0} (w : A → ℕ) (xs : List A) (i : ℕ) (x : A) → i < length xs → x ≡ get_or xs i x → w x ≤ total (map w xs)
weight-at w [] i x l e = absurd (omega arith)
weight-at w (y ∷ ys) zero x l e =
    let same : w x ≡ w y = ap w e in
    let all : total (map w (y ∷ ys)) ≡ w y + total (map w ys) = refl in
    omega (arith, same, all)
weight-at w (y ∷ ys) (suc i) x l e =
    let all : total (map w (y ∷ ys)) ≡ w y + total (map w ys) = refl in
    let within : w x ≤ total (map w ys) = weight-at w ys i x (omega arith) e in
    omega (arith, all, within)

-- a list weighs as much as its first and the others
pub weight-more : {A : Type 0} (w : A → ℕ) (x : A) (xs ys : List A) → ys ≡ x ∷ xs → total (map w ys) ≡ w x + total (map w xs)
weight-more w x xs ys e = ap (λ l. total (map w l)) e

pub ruleset weights = (weight-Bracket, weight-Negative, weight-Chain, weight-Related, weight-Member, weight-Equivalent, weight-Implied, weight-Or, weight-And, weight-Not, weight-Call, weight-AllDifferent, weight-Element, weight-Fields, weight-Record, weight-Listed, weight-Aggregate)

pub ruleset weights_of_descriptions = (weight-Described, weight-Bracket)

pub ruleset weights_of_sets = (weight-Whole, weight-Between)

pub ruleset weights_of_groups = (weight-Unordered, weight-Ordered)

pub ruleset weights_of_steps = (weight-Plus, weight-Minus, weight-Times, weight-Quotient, weight-Remainder)

pub ruleset weights_of_lists = (weight-at, weight-more)
