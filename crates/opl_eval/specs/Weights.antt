-- How much there is to evaluate in a term: what a recursion over terms and lists of them takes less of.
use Rattle.std.specs.Prelude.{ℕ, ◌+◌, ◌*◌, List, [], ◌∷◌, map, length, Option, Some, None}
use Rattle.std.specs.Option.{option_copied, option_map}
use Rattle.opl_term.specs.declared.term.GroupTerm.{GroupTerm}
use Rattle.opl_term.specs.declared.term.SetTerm.{SetTerm}
use Rattle.opl_term.specs.declared.term.Step.{Step}
use Rattle.opl_term.specs.declared.term.Term.{Term}
use Rattle.opl_term.specs.declared.term.GroupTerm.TheOpen.{GroupTerm-F, SetTerm-F, Step-F, Term-F}
use Rattle.opl_term.specs.declared.term.GroupTerm.TheFolds.{fold-GroupTerm, fold-SetTerm, fold-Step, fold-Term}
use Rattle.opl_eval.specs.declared.evaluate.Visit.{Visit}

-- the sum of numbers
abbrev pub total : List ℕ → ℕ
total [] = 0
total (n ∷ ns) = n + total ns

abbrev pub if_any : Option ℕ → ℕ
if_any None = 0
if_any (Some n) = n

abbrev pub term_layer : Term-F ℕ ℕ ℕ ℕ → ℕ
term_layer (Term-F.Number at n) = 1
term_layer (Term-F.Named at name) = 1
term_layer (Term-F.Bracket at t) = t + 20
term_layer (Term-F.Negative at t) = t + 20
term_layer (Term-F.Chain at t ss) = t + total ss + 20
term_layer (Term-F.Related at t r u) = t + u + 20
term_layer (Term-F.Member at t s) = t + s + 20
term_layer (Term-F.Equivalent at ts) = total ts + 20
term_layer (Term-F.Implied at t u) = t + u + 20
term_layer (Term-F.Or at ts) = total ts + 20
term_layer (Term-F.And at ts) = total ts + 20
term_layer (Term-F.Not at t) = t + 20
term_layer (Term-F.Aggregate at op gs c t) = total gs + if_any c + t + 20
term_layer (Term-F.Call at op t) = t + 20
term_layer (Term-F.AllDifferent at t) = t + 20
term_layer (Term-F.Question at op t) = t + 20
term_layer (Term-F.Element at t ts) = t + total ts + 20
term_layer (Term-F.Fields at t names) = t + 20
term_layer (Term-F.Record at ts) = total ts + 20
term_layer (Term-F.Listed at ts) = total ts + 20
term_layer (Term-F.Described at t gs c) = total gs + if_any c + t + 20
term_layer (Term-F.Array at ts) = total ts + 20
term_layer (Term-F.KeyedArray at ts us) = total ts + total us + 20

abbrev pub step_layer : Step-F ℕ ℕ ℕ ℕ → ℕ
step_layer (Step-F.Plus t) = t + 20
step_layer (Step-F.Minus t) = t + 20
step_layer (Step-F.Times t) = t + 20
step_layer (Step-F.Quotient t) = t + 20
step_layer (Step-F.Remainder t) = t + 20

abbrev pub set_layer : SetTerm-F ℕ ℕ ℕ ℕ → ℕ
set_layer (SetTerm-F.Whole t) = t + 20
set_layer (SetTerm-F.Between t u) = t + u + 20

abbrev pub group_layer : GroupTerm-F ℕ ℕ ℕ ℕ → ℕ
group_layer (GroupTerm-F.Unordered ps s) = 2 * length ps + s + 20
group_layer (GroupTerm-F.Ordered ps s) = 2 * length ps + s + 20

unfoldable pub weight : Term → ℕ
weight = fold-Term ℕ ℕ ℕ ℕ group_layer set_layer step_layer term_layer

unfoldable pub step_weight : Step → ℕ
step_weight = fold-Step ℕ ℕ ℕ ℕ group_layer set_layer step_layer term_layer

unfoldable pub set_weight : SetTerm → ℕ
set_weight = fold-SetTerm ℕ ℕ ℕ ℕ group_layer set_layer step_layer term_layer

unfoldable pub group_weight : GroupTerm → ℕ
group_weight = fold-GroupTerm ℕ ℕ ℕ ℕ group_layer set_layer step_layer term_layer

abbrev pub visit_weight : Visit → ℕ
visit_weight v = total (map group_weight v.groups.now) + if_any (option_map weight (option_copied v.condition)) + weight v.body.now
