-- What is unrolled under groups is unrolled choice by choice.
use Rattle.std.proofs.Common.{◌≡◌, Bool, true, false, cond, ℕ, ℤ, List, [], ◌∷◌, ◌++◌, map, Option, None, Some, Ok, Err, refl, sym, ap, ◌∙◌}
use Rattle.std.specs.List.{flat_map}
use Rattle.opl_term.specs.declared.term.Term.{Term}
use Rattle.opl_eval.specs.declared.fault.EvalFault.{EvalFault}
use Rattle.opl_eval.specs.Evaluation.{Environment, Found, Group, choices, declaration_of, elements, eval, group_meaning, is_true, with_parameters}
use Rattle.opl_meaning.specs.declared.variable.VariableItem.{VariableItem}
use Rattle.opl_meaning.specs.Runs.{Names}
use Rattle.opl_draft.specs.Choices.{or_stop, under_groups, where_true}
use Rattle.opl_draft.specs.Drafts.{Cells, Draft}
use Rattle.opl_draft.specs.Drafts.Draft.{broken}
use Rattle.opl_draft.specs.Forms.{bodies_in}
use Rattle.opl_draft.specs.Unrolled.{unrolled}
use Rattle.opl_form.specs.Nodes.{aggregated, next}
use Rattle.opl_form.specs.Nodes.Fault.{eval as evaluation}
use Rattle.opl_form.specs.Parts.{Form}
use Rattle.opl_groups.specs.Met as met
use Rattle.opl_groups.specs.Met.{Met, first, met_under, or_stopped}
use Rattle.opl_groups.specs.Met.Met.{chosen, stopped}
use Rattle.opl_unfolding.specs.Laws.{AggregatesByChoice, BodiesByChoice, BodiesStop}
use Rattle.opl_unfolding.specs.Onto.{onto, operand_made}
use Rattle.opl_unfolding.specs.Unrolling.{body_met}
use Rattle.opl_unfolding.proofs.Lists.{map-append}
use Rattle.opl_unfolding.proofs.Onto.{made-onto}

module _ (items : List VariableItem) (names : Names) (t : Term) where
  abbrev met_draft : Met → Draft
  met_draft = body_met items names t

  abbrev body : Environment → List Draft
  body env = unrolled items names t env ∷ []

  or-map : {A : Type 0} (r : Found A) (g : A → List Draft) (h : A → List Met) → ((a : A) → g a ≡ map met_draft (h a)) → or_stop broken r g ≡ map met_draft (or_stopped r h)
  or-map (Ok a) g h e = e a
  or-map (Err fault) g h e = refl

  cond-map : (b : Bool) (env : Environment) → cond b (body env) [] ≡ map met_draft (cond b (chosen env ∷ []) [])
  cond-map true env = refl
  cond-map false env = refl

  where-map : (c : Option Term) (env : Environment) → where_true broken c body env ≡ map met_draft (met.where_true c env)
  where-map None env = refl
  where-map (Some c) env = or-map (eval c env) (λ v. cond (is_true v) (body env) []) (λ v. cond (is_true v) (chosen env ∷ []) []) (λ v. cond-map (is_true v) env)

  flat-map : {A : Type 0} (f : A → List Draft) (g : A → List Met) → ((a : A) → f a ≡ map met_draft (g a)) → (xs : List A) → flat_map f xs ≡ map met_draft (flat_map g xs)
  flat-map f g e [] = refl
  flat-map f g e (a ∷ xs) = (λ i. e a i ++ flat-map f g e xs i) ∙ sym (map-append met_draft (g a) (flat_map g xs))

  groups-map : (gs : List Group) (c : Option Term) (env : Environment) → under_groups broken gs (where_true broken c body) env ≡ map met_draft (met_under gs c env)
  groups-map [] c env = where-map c env
  groups-map (g ∷ gs) c env =
      or-map (g.over.value env)
      (λ v. flat_map (λ ps. under_groups broken gs (where_true broken c body) (with_parameters ps env)) (choices g (elements (declaration_of (g.over.item env)) v)))
      (λ v. flat_map (λ ps. met_under gs c (with_parameters ps env)) (choices g (elements (declaration_of (g.over.item env)) v)))
      (λ v. flat-map (λ ps. under_groups broken gs (where_true broken c body) (with_parameters ps env)) (λ ps. met_under gs c (with_parameters ps env)) (λ ps. groups-map gs c (with_parameters ps env)) (choices g (elements (declaration_of (g.over.item env)) v)))

-- the bodies of an aggregate are those of the choices that are met
pub bodies-by-choice : BodiesByChoice
bodies-by-choice items names gs c t env = groups-map items names t (map group_meaning gs) c env

pub aggregates-by-choice : AggregatesByChoice
aggregates-by-choice sets arrays item n items names at op gs c t env =
    ap (λ r. next r (λ fs. aggregated sets arrays item op at n fs))
    ((made-onto sets arrays item n (bodies_in items names gs c t env)).operands ∙ ap (onto (operand_made sets arrays item) n []) (bodies-by-choice items names gs c t env))

pub bodies-stop : BodiesStop
bodies-stop sets arrays item n items names t before [] fault e = cc
bodies-stop sets arrays item n items names t before (chosen env ∷ ms) fault e = cc
bodies-stop sets arrays item n items names t before (stopped own ∷ ms) fault e = ap (λ f. Err (evaluation f)) (own-fault own fault e)
  where
    own-fault : (own fault : EvalFault) → Some (stopped own) ≡ Some (stopped fault) → own ≡ fault
    own-fault own fault e = cc
