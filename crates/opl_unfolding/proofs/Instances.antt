-- What items give, they give choice by choice and one after another.
use Rattle.std.proofs.Common.{◌≡◌, Bool, true, false, cond, List, [], ◌∷◌, ◌++◌, map, Option, None, Some, Ok, Err, refl, sym, ap, ◌∙◌}
use Rattle.std.specs.List.{flat_map}
use Rattle.std.proofs.lemmas.List.{append-nil}
use Rattle.opl_term.specs.declared.term.Term.{Term}
use Rattle.opl_eval.specs.declared.fault.EvalFault.{EvalFault}
use Rattle.opl_eval.specs.Evaluation.{Environment, Found, Group, choices, declaration_of, elements, eval, is_true, with_parameters}
use Rattle.opl_draft.specs.Choices.{or_stop, under_groups, where_true}
use Rattle.opl_draft.specs.Instances.{Condition, Instance, Instances, condition_of, for_all, in_turn}
use Rattle.opl_draft.specs.Instances.Instance.{stopped}
use Rattle.opl_form.specs.Nodes.Fault.{eval as evaluation}
use Rattle.opl_groups.specs.Met as met
use Rattle.opl_groups.specs.Met.{Met, met_under, or_stopped}
use Rattle.opl_groups.specs.Met.Met.{chosen}
use Rattle.opl_unfolding.specs.Laws.{ForAllByChoice, PostedByChoice, PostedInTurn, PostedStop, conditions}
use Rattle.opl_unfolding.specs.Posted.{posted}
use Rattle.opl_unfolding.specs.Unrolling.{instances_met}
use Rattle.opl_unfolding.proofs.Lists.{flat-append, map-append}
use Rattle.opl_unfolding.proofs.Posted.{posted-append}

module _ (inner : Instances) where
  abbrev all_met : List Met → List Instance
  all_met ms = flat_map (instances_met inner) ms

  or-met : {A : Type 0} (r : Found A) (g : A → List Instance) (h : A → List Met) → ((a : A) → g a ≡ all_met (h a)) → or_stop stopped r g ≡ all_met (or_stopped r h)
  or-met (Ok a) g h e = e a
  or-met (Err fault) g h e = refl

  cond-met : (b : Bool) (env : Environment) → cond b (inner env) [] ≡ all_met (cond b (chosen env ∷ []) [])
  cond-met true env = sym (append-nil (inner env))
  cond-met false env = refl

  where-met : (c : Option Term) (env : Environment) → where_true stopped c inner env ≡ all_met (met.where_true c env)
  where-met None env = sym (append-nil (inner env))
  where-met (Some c) env = or-met (eval c env) (λ v. cond (is_true v) (inner env) []) (λ v. cond (is_true v) (chosen env ∷ []) []) (λ v. cond-met (is_true v) env)

  each-met : {A : Type 0} (f : A → List Instance) (g : A → List Met) → ((a : A) → f a ≡ all_met (g a)) → (xs : List A) → flat_map f xs ≡ all_met (flat_map g xs)
  each-met f g e [] = refl
  each-met f g e (x ∷ xs) = (λ i. e x i ++ each-met f g e xs i) ∙ sym (flat-append (instances_met inner) (g x) (flat_map g xs))

  for_all-met : (gs : List Group) (c : Option Term) (env : Environment) → for_all gs c inner env ≡ all_met (met_under gs c env)
  for_all-met [] c env = where-met c env
  for_all-met (g ∷ gs) c env =
      or-met (g.over.value env)
      (λ v. flat_map (λ ps. under_groups stopped gs (where_true stopped c inner) (with_parameters ps env)) (choices g (elements (declaration_of (g.over.item env)) v)))
      (λ v. flat_map (λ ps. met_under gs c (with_parameters ps env)) (choices g (elements (declaration_of (g.over.item env)) v)))
      (λ v. each-met (λ ps. under_groups stopped gs (where_true stopped c inner) (with_parameters ps env)) (λ ps. met_under gs c (with_parameters ps env)) (λ ps. for_all-met gs c (with_parameters ps env)) (choices g (elements (declaration_of (g.over.item env)) v)))

-- what stands under groups is given under each choice that is met, up to the fault at which the choices stop
pub for-all-by-choice : ForAllByChoice
for-all-by-choice inner gs c env = for_all-met inner gs c env

pub posted-by-choice : PostedByChoice
posted-by-choice sets arrays items names declared p inner m ms =
    let of : Instance → Condition = condition_of items names declared in
    ap (posted sets arrays p) (map-append of (instances_met inner m) (flat_map (instances_met inner) ms))
    ∙ posted-append sets arrays p (map of (instances_met inner m)) (map of (flat_map (instances_met inner) ms))

pub posted-in-turn : PostedInTurn
posted-in-turn sets arrays items names declared p env inner rest =
    let of : Instance → Condition = condition_of items names declared in
    ap (posted sets arrays p) (map-append of (inner env) (in_turn rest env)) ∙ posted-append sets arrays p (map of (inner env)) (map of (in_turn rest env))

pub posted-stop : PostedStop
posted-stop sets arrays items names declared p inner [] fault e = cc
posted-stop sets arrays items names declared p inner (met.Met.chosen env ∷ ms) fault e = cc
posted-stop sets arrays items names declared p inner (met.Met.stopped own ∷ ms) fault e = ap (λ f. Err (evaluation f)) (own-fault own fault e)
  where
    own-fault : (own fault : EvalFault) → Some (met.Met.stopped own) ≡ Some (met.Met.stopped fault) → own ≡ fault
    own-fault own fault e = cc
