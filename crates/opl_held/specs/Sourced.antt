-- What conditions of the source come to under an assignment, as the program goes through them.
use Rattle.std.specs.Prelude.{◌≡◌, ℕ, ℤ, true, List, map}
use Rattle.std.specs.List.{All}
use Rattle.opl_tree.specs.declared.expression.AggregateOp.{AggregateOp}
use Rattle.opl_term.specs.declared.term.Step.{Step}
use Rattle.opl_term.specs.declared.term.Term.{Term}
use Rattle.opl_eval.specs.Arithmetic.{then}
use Rattle.opl_eval.specs.Evaluation.{Environment, Found}
use Rattle.opl_meaning.specs.declared.variable.VariableItem.{VariableItem}
use Rattle.opl_meaning.specs.Laws.{HasOneSet}
use Rattle.opl_meaning.specs.Runs.{Names}
use Rattle.opl_draft.specs.Drafts.{Draft, steps_of}
use Rattle.opl_draft.specs.Unrolled.{is_clean}
use Rattle.opl_groups.specs.declared.scope.Scope.{Scope}
use Rattle.opl_groups.specs.Met.{Met}
use Rattle.opl_nodes.specs.Contexts.{arrays}
use Rattle.opl_unfolding.specs.Unrolling.{body_met}
use Rattle.opl_making.specs.declared.site.Site.{Site}
use Rattle.opl_making.specs.Sites.{draft, drafts, items, names, step_draft, step_drafts}
use Rattle.opl_held.specs.Gathered.{behind, gathered}
use Rattle.opl_held.specs.Outcomes.{Worth}
use Rattle.opl_held.specs.Worth.{Sum, stepped, worth, worth_steps}

-- A draft, where arrays have the numbers of a site.
abbrev pub worth_at : Site → List ℤ → Draft → Found Worth
worth_at s ns d = worth (arrays s.context.now) ns d

-- An expression, where these names are visible.
abbrev pub term_worth : Site → Scope → List ℤ → Term → Found Worth
term_worth s scope ns t = worth_at s ns (draft s scope t)

-- Expressions one after another.
abbrev pub terms_behind : {S : Type 0} → Site → Scope → List ℤ → (S → Worth → S) → S → List Term → Found S
terms_behind s scope ns more first ts = behind (arrays s.context.now) ns more first (drafts s scope ts)

-- One step of a chain more.
abbrev pub step_behind : Site → Scope → List ℤ → ℕ → Sum → Step → Found Sum
step_behind s scope ns at sum t = then (worth_at s ns (step_draft s scope t).operand) (λ o. stepped at (step_draft s scope t).sign sum o)

-- The steps of a chain, one after another.
abbrev pub steps_behind : Site → Scope → List ℤ → ℕ → Sum → List Step → Found Sum
steps_behind s scope ns at sum ts = worth_steps (arrays s.context.now) ns at sum (steps_of (step_drafts s scope ts))

-- The bodies of an aggregate, choice by choice.
abbrev pub bodies_behind : Site → List ℤ → AggregateOp → ℕ → Sum → Term → List Met → Found Sum
bodies_behind s ns op at total t ms = behind (arrays s.context.now) ns (gathered op at) total (map (body_met (items s) (names s) t) ms)

-- A body under one choice.
abbrev pub body_worth : Site → List ℤ → Term → Environment → Found Worth
body_worth s ns t env = worth_at s ns (body_met (items s) (names s) t (Met.chosen env))

-- Decision variables that are no arrays have one declared set, and variables stand in an expression only where typing lets them.
pub record AreTyped (items : List VariableItem) (names : Names) (t : Term) : Type 0 where
  pub single : All HasOneSet items
  pub clean : is_clean items names t ≡ true
