-- Constraints posted one behind another: of items in turn, and of one choice after another.
use Rattle.std.proofs.Common.{◌≡◌, ◌≢◌, ◌<◌, ◌≤◌, ◌+◌, ℕ, Bool, cond, List, [], ◌∷◌, length, map, drop, get_or, Result, Some, Ok, Err, ap, sym, subst, ◌∙◌}
use Rattle.std.specs.List.{flat_map}
use Rattle.std.proofs.lemmas.List.{at_drop_all, at_drop_more}
use Rattle.opl_tree.specs.declared.instruction.ItemTree.{ItemTree}
use Rattle.opl_term.specs.declared.term.Term.{Term}
use Rattle.opl_value.specs.declared.value.Value.{Value}
use Rattle.opl_eval.specs.declared.environment.Environment as code
use Rattle.opl_eval.specs.declared.fault.EvalFault.{EvalFault}
use Rattle.opl_eval.specs.declared.fault.EvalFault.TheVariants as faults
use Rattle.opl_eval.specs.Evaluation as evaluation
use Rattle.opl_eval.specs.Evaluation.{Environment, Found, found, is_true}
use Rattle.opl_eval.specs.Visible.{seen}
use Rattle.opl_draft.specs.Choices.{or_stop}
use Rattle.opl_draft.specs.Instances.{Instance, Instances, decided, in_turn}
use Rattle.opl_form.specs.Nodes.{Made, next}
use Rattle.opl_groups.specs.Met.{Met, first}
use Rattle.opl_groups.specs.Met.Met.{chosen, stopped}
use Rattle.opl_nodes.specs.declared.fault.FormFault.{FormFault}
use Rattle.opl_nodes.specs.Contexts.{cells}
use Rattle.opl_nodes.specs.Pieces.{Refuses, told}
use Rattle.opl_declared.specs.Kept.{names_in}
use Rattle.opl_unfolding.specs.Laws.{PostedByChoice, PostedInTurn, PostedStop, conditions}
use Rattle.opl_unfolding.specs.Posted.{Posted, posted}
use Rattle.opl_unfolding.specs.Unrolling.{instances_met}
use Rattle.opl_making.proofs.Next.{refused, refuses-same, refuses-told}
use Rattle.opl_posting.specs.declared.plan.Plan.{Plan}
use Rattle.opl_posting.specs.declared.posted.Posted as kept
use Rattle.opl_posting.specs.Items.{item_instances}
use Rattle.opl_posting.specs.Walks.{PostsBehind, behind, posted_of}

-- the same is posted
pub posts-same : (a b : Made Posted) (r : Result kept.Posted FormFault) → a ≡ b → PostsBehind b r → PostsBehind a r
posts-same a b r e h = subst (λ (m : Made Posted). PostsBehind m r) (sym e) h

module _ (plan : Plan) (env : code.Environment) where
  abbrev after : Posted → List Instance → Made Posted
  after p is = posted plan.sets.now (map cells plan.arrays.now) p (conditions plan.declared.now.items.now (names_in plan.declared.now) (seen env) is)

  pub instances-same : (p : kept.Posted) (is js : List Instance) (r : Result kept.Posted FormFault) → is ≡ js → PostsBehind (behind plan env p js) r → PostsBehind (behind plan env p is) r
  instances-same p is js r e h = posts-same (behind plan env p is) (behind plan env p js) r (ap (behind plan env p) e) h

  -- ---- in turn

  turn-out : PostedInTurn → (p : kept.Posted) (inner : Instances) (rest : List Instances) (e : Environment) →
      behind plan env p (in_turn (inner ∷ rest) e) ≡ next (behind plan env p (inner e)) (λ q. after q (in_turn rest e))
  turn-out law p inner rest e = law plan.sets.now (map cells plan.arrays.now) plan.declared.now.items.now (names_in plan.declared.now) (seen env) (posted_of p) e inner rest

  -- behind what the first posts
  pub turn-next : PostedInTurn → (p q : kept.Posted) (inner : Instances) (rest : List Instances) (e : Environment) → behind plan env p (inner e) ≡ Ok (posted_of q) →
      behind plan env p (in_turn (inner ∷ rest) e) ≡ behind plan env q (in_turn rest e)
  turn-next law p q inner rest e h = turn-out law p inner rest e ∙ ap (λ (m : Made Posted). next m (λ o. after o (in_turn rest e))) h

  -- or it has a fault
  pub turn-stop : PostedInTurn → (p : kept.Posted) (inner : Instances) (rest : List Instances) (e : Environment) (fault : FormFault) → Refuses {A = Posted} (behind plan env p (inner e)) fault →
      Refuses {A = Posted} (behind plan env p (in_turn (inner ∷ rest) e)) fault
  turn-stop law p inner rest e fault h =
      refuses-same Posted (next (behind plan env p (inner e)) (λ o. after o (in_turn rest e))) (behind plan env p (in_turn (inner ∷ rest) e)) fault (sym (turn-out law p inner rest e))
      (refused Posted Posted (behind plan env p (inner e)) (λ o. after o (in_turn rest e)) fault h)

  module _ (law : PostedInTurn) (whole : Made Posted) (xs : List ItemTree) (i : ℕ) (p : kept.Posted) (e : Environment) (so : whole ≡ behind plan env p (in_turn (map item_instances (drop i xs)) e)) where
    here : (x : ItemTree) → i < length xs → x ≡ get_or xs i x → whole ≡ behind plan env p (in_turn (item_instances x ∷ map item_instances (drop (i + 1) xs)) e)
    here x more is =
        so ∙ ap (λ (ts : List Instances). behind plan env p (in_turn ts e)) (at_drop_more (λ ys. map item_instances ys) xs i x more ∙ ap (λ y. item_instances y ∷ map item_instances (drop (i + 1) xs)) (sym is))

    pub each-next : (x : ItemTree) (q : kept.Posted) → i < length xs → x ≡ get_or xs i x → behind plan env p (item_instances x e) ≡ Ok (posted_of q) → whole ≡ behind plan env q (in_turn (map item_instances (drop (i + 1) xs)) e)
    each-next x q more is h = here x more is ∙ turn-next law p q (item_instances x) (map item_instances (drop (i + 1) xs)) e h

    pub each-stop : (x : ItemTree) (fault : FormFault) → i < length xs → x ≡ get_or xs i x → Refuses {A = Posted} (behind plan env p (item_instances x e)) fault → Refuses {A = Posted} whole fault
    each-stop x fault more is h =
        refuses-same Posted (behind plan env p (in_turn (item_instances x ∷ map item_instances (drop (i + 1) xs)) e)) whole fault (sym (here x more is))
        (turn-stop law p (item_instances x) (map item_instances (drop (i + 1) xs)) e fault h)

    pub each-end : length xs ≤ i → whole ≡ Ok (posted_of p)
    each-end h = so ∙ ap (λ (ts : List Instances). behind plan env p (in_turn ts e)) (at_drop_all (λ ys. map item_instances ys) xs i h)

  -- ---- choices

  choice-out : PostedByChoice → (p : kept.Posted) (inner : Instances) (m : Met) (ms : List Met) →
      behind plan env p (flat_map (instances_met inner) (m ∷ ms)) ≡ next (behind plan env p (instances_met inner m)) (λ q. after q (flat_map (instances_met inner) ms))
  choice-out law p inner m ms = law plan.sets.now (map cells plan.arrays.now) plan.declared.now.items.now (names_in plan.declared.now) (seen env) (posted_of p) inner m ms

  module _ (whole : Made Posted) (inner : Instances) (ms : List Met) (p : kept.Posted) (so : whole ≡ behind plan env p (flat_map (instances_met inner) ms)) where
    met-here : PostedByChoice → (e : Environment) (others : List Met) → ms ≡ chosen e ∷ others → whole ≡ next (behind plan env p (inner e)) (λ q. after q (flat_map (instances_met inner) others))
    met-here law e others is = so ∙ ap (λ (os : List Met). behind plan env p (flat_map (instances_met inner) os)) is ∙ choice-out law p inner (chosen e) others

    pub met-next : PostedByChoice → (e : Environment) (others : List Met) (q : kept.Posted) → ms ≡ chosen e ∷ others → behind plan env p (inner e) ≡ Ok (posted_of q) → whole ≡ behind plan env q (flat_map (instances_met inner) others)
    met-next law e others q is h = met-here law e others is ∙ ap (λ (m : Made Posted). next m (λ o. after o (flat_map (instances_met inner) others))) h

    pub met-stop : PostedByChoice → (e : Environment) (others : List Met) (fault : FormFault) → ms ≡ chosen e ∷ others → Refuses {A = Posted} (behind plan env p (inner e)) fault → Refuses {A = Posted} whole fault
    met-stop law e others fault is h =
        refuses-same Posted (next (behind plan env p (inner e)) (λ o. after o (flat_map (instances_met inner) others))) whole fault (sym (met-here law e others is))
        (refused Posted Posted (behind plan env p (inner e)) (λ o. after o (flat_map (instances_met inner) others)) fault h)

    pub met-end : ms ≡ [] → whole ≡ Ok (posted_of p)
    met-end is = so ∙ ap (λ (os : List Met). behind plan env p (flat_map (instances_met inner) os)) is

    pub met-fault : PostedStop → (fault : EvalFault) → (fault ≢ faults.OutOfMemory → first ms ≡ Some (stopped fault)) → Refuses {A = Posted} whole (told fault)
    met-fault law fault h =
        refuses-told Posted whole fault (λ ne. so ∙ law plan.sets.now (map cells plan.arrays.now) plan.declared.now.items.now (names_in plan.declared.now) (seen env) (posted_of p) inner ms fault (h ne))

-- ---- conditions of `if`

or-held : (r : Found Value) (b : Bool) (xs ys : List Instance) → found is_true r ≡ Ok b → or_stop Instance.stopped r (λ v. cond (is_true v) xs ys) ≡ cond b xs ys
or-held (Ok v) b xs ys h = let e : is_true v ≡ b = cc in ap (λ c. cond c xs ys) e
or-held (Err fault) b xs ys h = cc

or-failed : (r : Found Value) (fault : EvalFault) (xs ys : List Instance) → found is_true r ≡ Err fault → or_stop Instance.stopped r (λ v. cond (is_true v) xs ys) ≡ Instance.stopped fault ∷ []
or-failed (Ok v) fault xs ys h = cc
or-failed (Err own) fault xs ys h = let e : own ≡ fault = cc in ap (λ f. Instance.stopped f ∷ []) e

module _ (condition : Term) (holds fails : Instances) (e : Environment) where
  -- the items of one of the branches
  pub decided-held : (b : Bool) → found is_true (evaluation.eval condition e) ≡ Ok b → decided condition holds fails e ≡ cond b (holds e) (fails e)
  decided-held b h = or-held (evaluation.eval condition e) b (holds e) (fails e) h

  -- or a fault
  pub decided-failed : (plan : Plan) (env : code.Environment) (p : kept.Posted) (fault : EvalFault) → (fault ≢ faults.OutOfMemory → found is_true (evaluation.eval condition e) ≡ Err fault) →
      Refuses {A = Posted} (behind plan env p (decided condition holds fails e)) (told fault)
  decided-failed plan env p fault h =
      refuses-told Posted (behind plan env p (decided condition holds fails e)) fault (λ ne. ap (behind plan env p) (or-failed (evaluation.eval condition e) fault (holds e) (fails e) (h ne)))
