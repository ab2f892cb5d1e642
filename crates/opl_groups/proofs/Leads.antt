-- What is met under the choices of a group, element by element.
use Rattle.std.proofs.Common.{◌≡◌, ◌≢◌, ◌+◌, ◌<◌, ◌≤◌, ℕ, length, get_or, drop, Result, Bool, true, false, cond, List, [], ◌∷◌, ◌++◌, map, Option, Some, Ok, Err, refl, ap, sym, ◌∙◌}
use Rattle.std.specs.List.{flat_map}
use Rattle.std.specs.Option.{option_copied}
use Rattle.std.proofs.lemmas.List.{append-nil, at_drop_more, at_drop_all}
use Rattle.opl_term.specs.declared.term.GroupTerm.{GroupTerm}
use Rattle.opl_term.specs.declared.term.GroupTerm.TheVariants as groups
use Rattle.opl_term.specs.declared.term.Pattern.{Pattern}
use Rattle.opl_term.specs.declared.term.SetTerm.{SetTerm}
use Rattle.opl_term.specs.declared.term.Term.{Term}
use Rattle.opl_value.specs.declared.value.Value.{Value}
use Rattle.opl_eval.specs.declared.fault.EvalFault.{EvalFault}
use Rattle.opl_eval.specs.declared.fault.EvalFault.TheVariants.{OutOfMemory}
use Rattle.opl_eval.specs.Evaluation.{Environment, Found, Group, Parameter, bound, declaration_of, elements, group_meaning, in_order, independent, set_meaning, with_parameters}
use Rattle.opl_eval.proofs.Meanings as by
use Rattle.opl_groups.specs.declared.choices.Visit.{Visit}
use Rattle.opl_groups.specs.declared.course.Ahead.{Ahead}
use Rattle.opl_groups.specs.Courses.{Inner, along, turns}
use Rattle.opl_groups.specs.Met.{Met, first, met_under, or_stopped, where_true}
use Rattle.opl_groups.specs.Met.Met.{stopped}
use Rattle.opl_groups.specs.Visits.{Leads, group_met, met_at, over_met}
use Rattle.opl_groups.proofs.Courses.{append-assoc}

-- parameters, and further ones behind them
with-behind : (ps qs : List Parameter) (env : Environment) → with_parameters (ps ++ qs) env ≡ with_parameters qs (with_parameters ps env)
with-behind ps qs env = ap (λ l. record { items = env.items; parameters = l; position = env.position }) (append-assoc env.parameters ps qs)

with-none : (env : Environment) → with_parameters [] env ≡ env
with-none env = ap (λ l. record { items = env.items; parameters = l; position = env.position }) (append-nil env.parameters)

flat-append : {A B : Type 0} (f : A → List B) (xs ys : List A) → flat_map f (xs ++ ys) ≡ flat_map f xs ++ flat_map f ys
flat-append f [] ys = refl
flat-append f (x ∷ xs) ys = ap (λ r. f x ++ r) (flat-append f xs ys) ∙ append-assoc (f x) (flat_map f xs) (flat_map f ys)

module _ (inner : Environment → List Met) where
  abbrev with : Environment → List Parameter → List Met
  with env ps = inner (with_parameters ps env)

  behind : (qs : List Parameter) (cs : List (List Parameter)) (env : Environment) → flat_map (with env) (map (λ later. qs ++ later) cs) ≡ flat_map (with (with_parameters qs env)) cs
  behind qs [] env = refl
  behind qs (c ∷ cs) env = λ i. inner (with-behind qs c env i) ++ behind qs cs env i

  one-choice : (env : Environment) → flat_map (with env) ([] ∷ []) ≡ inner env
  one-choice env = append-nil (inner (with_parameters [] env)) ∙ ap inner (with-none env)

  of_independent : (ps : List Pattern) (vs : List Value) (env : Environment) → flat_map (with env) (independent ps vs) ≡ along false ps vs inner env
  of_independent [] vs env = one-choice env
  of_independent (p ∷ ps) vs env = each (of_independent ps vs) vs
    where
      each : ((e : Environment) → flat_map (with e) (independent ps vs) ≡ along false ps vs inner e) → (ws : List Value) → flat_map (with env) (flat_map (λ v. map (λ later. bound p v ++ later) (independent ps vs)) ws) ≡ turns (λ later v. along false ps vs inner (with_parameters (bound p v) env)) ws
      each others [] = refl
      each others (w ∷ ws) =
          flat-append (with env) (map (λ later. bound p w ++ later) (independent ps vs)) (flat_map (λ v. map (λ later. bound p v ++ later) (independent ps vs)) ws)
          ∙ (λ i. (behind (bound p w) (independent ps vs) env ∙ others (with_parameters (bound p w) env)) i ++ each others ws i)

  of_in_order : (ps : List Pattern) (vs : List Value) (env : Environment) → flat_map (with env) (in_order ps vs) ≡ along true ps vs inner env
  of_in_order [] vs env = one-choice env
  of_in_order (p ∷ ps) [] env = refl
  of_in_order (p ∷ ps) (v ∷ vs) env =
      flat-append (with env) (map (λ later. bound p v ++ later) (in_order ps vs)) (in_order (p ∷ ps) vs)
      ∙ (λ i. (behind (bound p v) (in_order ps vs) env ∙ of_in_order ps vs (with_parameters (bound p v) env)) i ++ of_in_order (p ∷ ps) vs env i)

  -- what is met under the choices of a group
  of_choices : (is_ordered : Bool) (ps : List Pattern) (vs : List Value) (env : Environment) → flat_map (with env) (cond is_ordered (in_order ps vs) (independent ps vs)) ≡ along is_ordered ps vs inner env
  of_choices true ps vs env = of_in_order ps vs env
  of_choices false ps vs env = of_independent ps vs env

alike-or : {A : Type 0} (r : Found A) (f g : A → List Met) → ((a : A) → f a ≡ g a) → or_stopped r f ≡ or_stopped r g
alike-or (Ok a) f g h = h a
alike-or (Err e) f g h = refl

met-more : (g : Group) (gs : List Group) (condition : Option Term) (env : Environment) → met_under (g ∷ gs) condition env
    ≡ or_stopped (g.over.value env) (λ v. along g.is_ordered g.patterns (elements (declaration_of (g.over.item env)) v) (met_under gs condition) env)
met-more g gs condition env = alike-or (g.over.value env) _ _ (λ v. of_choices (met_under gs condition) g.is_ordered g.patterns (elements (declaration_of (g.over.item env)) v) env)

-- groups, the one at a place in front
pub visits-more : (v : Visit) (place : ℕ) (g : GroupTerm) (env : Environment) → place < length v.groups.now → g ≡ get_or v.groups.now place g →
    met_at v place env ≡ group_met g (met_at v (place + 1)) env
unfolding group_met
visits-more v place g env more here =
    at_drop_more (λ l. met_under (map group_meaning l) (option_copied v.condition) env) v.groups.now place g more
    ∙ ap (λ x. met_under (map group_meaning (x ∷ drop (place + 1) v.groups.now)) (option_copied v.condition) env) (sym here)
    ∙ met-more (group_meaning g) (map group_meaning (drop (place + 1) v.groups.now)) (option_copied v.condition) env

pub visits-none : (v : Visit) (place : ℕ) (env : Environment) → length v.groups.now ≤ place → met_at v place env ≡ where_true (option_copied v.condition) env
visits-none v place env h = at_drop_all (λ l. met_under (map group_meaning l) (option_copied v.condition) env) v.groups.now place h

pub group-Unordered : (ps : List Pattern) (s : SetTerm) (inner : Environment → List Met) (env : Environment) → group_met (groups.Unordered ps s) inner env ≡ over_met false ps s inner env
unfolding group_met over_met
group-Unordered ps s inner env =
    ap (λ g. or_stopped (g.over.value env) (λ v. along g.is_ordered g.patterns (elements (declaration_of (g.over.item env)) v) inner env)) (by.group_meaning-Unordered ps s)

pub group-Ordered : (ps : List Pattern) (s : SetTerm) (inner : Environment → List Met) (env : Environment) → group_met (groups.Ordered ps s) inner env ≡ over_met true ps s inner env
unfolding group_met over_met
group-Ordered ps s inner env =
    ap (λ g. or_stopped (g.over.value env) (λ v. along g.is_ordered g.patterns (elements (declaration_of (g.over.item env)) v) inner env)) (by.group_meaning-Ordered ps s)

pub over-made : (is_ordered : Bool) (ps : List Pattern) (over : SetTerm) (inner : Environment → List Met) (env : Environment) (v : Value) (d : ℕ) (es : List Value) →
    (set_meaning over).value env ≡ Ok v → d ≡ declaration_of ((set_meaning over).item env) → es ≡ elements d v → over_met is_ordered ps over inner env ≡ along is_ordered ps es inner env
unfolding over_met
over-made is_ordered ps over inner env v d es h e l =
    ap (λ r. or_stopped r (λ x. along is_ordered ps (elements (declaration_of ((set_meaning over).item env)) x) inner env)) h
    ∙ ap (λ x. along is_ordered ps x inner env) (ap (λ n. elements n v) (sym e) ∙ sym l)

pub over-fault : (is_ordered : Bool) (ps : List Pattern) (over : SetTerm) (later : ℕ) (env : Environment) (e : EvalFault) → (e ≢ OutOfMemory → (set_meaning over).value env ≡ Err e) → e ≢ OutOfMemory → (inner : Inner) → first (over_met is_ordered ps over (inner later) env) ≡ Some (stopped e)
unfolding over_met
over-fault is_ordered ps over later env e h n inner =
    ap (λ r. first (or_stopped r (λ x. along is_ordered ps (elements (declaration_of ((set_meaning over).item env)) x) (inner later) env))) (h n)

-- what leads on in one way leads on in a way that meets the same
pub leads-same : (what same : Inner → List Met) (env : Environment) (r : Result Ahead EvalFault) → ((inner : Inner) → what inner ≡ same inner) → Leads same env r → Leads what env r
leads-same what same env (Ok next) h l = λ inner. h inner ∙ l inner
leads-same what same env (Err e) h l = λ n inner. ap first (h inner) ∙ l n inner

-- a fault that is met at a group is met at its place
pub leads-fault : (v : Visit) (place : ℕ) (g h : GroupTerm) (env : Environment) (e : EvalFault) → met_at v place env ≡ group_met g (met_at v (place + 1)) env → g ≡ h →
    (e ≢ OutOfMemory → (inner : Inner) → first (group_met h (inner (place + 1)) env) ≡ Some (stopped e)) → e ≢ OutOfMemory → first (met_at v place env) ≡ Some (stopped e)
leads-fault v place g h env e m s l n = ap first (m ∙ ap (λ x. group_met x (met_at v (place + 1)) env) s) ∙ l n (met_at v)
