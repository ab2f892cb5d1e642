-- Choices, element by element.
use Rattle.std.proofs.Common.{◌≡◌, ◌≢◌, ◌+◌, ◌<◌, ◌≤◌, ℕ, length, get_or, drop, Result, Bool, true, false, cond, List, [], ◌∷◌, ◌++◌, map, Ok, Err, refl, ap, sym, ◌∙◌}
use Rattle.std.specs.List.{flat_map}
use Rattle.std.specs.Option.{option_copied, option_map}
use Rattle.std.proofs.lemmas.List.{append-nil, at_drop_more, at_drop_all}
use Rattle.opl_term.specs.declared.term.GroupTerm.{GroupTerm}
use Rattle.opl_term.specs.declared.term.GroupTerm.TheVariants as groups
use Rattle.opl_term.specs.declared.term.Pattern.{Pattern}
use Rattle.opl_term.specs.declared.term.SetTerm.{SetTerm}
use Rattle.opl_value.specs.declared.value.Value.{Value}
use Rattle.opl_eval.specs.declared.evaluate.Visit.{Visit}
use Rattle.opl_eval.specs.declared.fault.EvalFault.{EvalFault}
use Rattle.opl_eval.specs.declared.fault.EvalFault.TheVariants.{OutOfMemory}
use Rattle.opl_eval.specs.Arithmetic.{then}
use Rattle.opl_eval.specs.Evaluation.{Environment, Parameter, Found, Group, found, bound, with_parameters, independent, in_order, gathered, visited, bodies, body_where, elements, declaration_of, group_meaning, set_meaning, meaning}
use Rattle.opl_eval.specs.declared.turns.Ahead.{Ahead}
use Rattle.opl_eval.specs.Turns.{Inner, Leads, chosen, turns}
use Rattle.opl_eval.specs.declared.gather.Gathered.{Gathered}
use Rattle.opl_eval.specs.Gathered.{with_more}
use Rattle.opl_eval.specs.Visits.{Reaches, bodies_at, bodies_in, group_visits, over_visits}
use Rattle.opl_eval.proofs.Meanings as by

pub append-assoc : {A : Type 0} (xs ys zs : List A) → xs ++ (ys ++ zs) ≡ (xs ++ ys) ++ zs
append-assoc [] ys zs = refl
append-assoc (x ∷ xs) ys zs = ap (λ r. x ∷ r) (append-assoc xs ys zs)

-- what is found in one list and then in another
pub found-twice : {A : Type 0} (xs ys : List A) (r : Found (List A)) → found (λ zs. xs ++ zs) (found (λ zs. ys ++ zs) r) ≡ found (λ zs. (xs ++ ys) ++ zs) r
found-twice xs ys (Ok zs) = ap (λ l. Ok l) (append-assoc xs ys zs)
found-twice xs ys (Err e) = refl

pub none-first : {A : Type 0} (r : Found (List A)) → found (λ zs. [] ++ zs) r ≡ r
none-first (Ok zs) = refl
none-first (Err e) = refl

pub joined : {A : Type 0} (a b r : Found (List A)) → then a (λ xs. found (λ zs. xs ++ zs) (then b (λ ys. found (λ zs. ys ++ zs) r))) ≡ then (then a (λ xs. found (λ ys. xs ++ ys) b)) (λ ws. found (λ zs. ws ++ zs) r)
joined (Ok xs) (Ok ys) r = found-twice xs ys r
joined (Ok xs) (Err e) r = refl
joined (Err e) b r = refl

gathered-append : {A : Type 0} (rs bs : List (Found (List A))) → gathered (rs ++ bs) ≡ then (gathered rs) (λ xs. found (λ ys. xs ++ ys) (gathered bs))
gathered-append [] bs = sym (none-first (gathered bs))
gathered-append (r ∷ rs) bs =
    ap (λ q. then r (λ xs. found (λ ys. xs ++ ys) q)) (gathered-append rs bs) ∙ joined r (gathered rs) (gathered bs)

pub map-append : {A B : Type 0} (f : A → B) (xs ys : List A) → map f (xs ++ ys) ≡ map f xs ++ map f ys
map-append f [] ys = refl
map-append f (x ∷ xs) ys = ap (λ r. f x ∷ r) (map-append f xs ys)

-- parameters, and further ones behind them
with-behind : (ps qs : List Parameter) (env : Environment) → with_parameters (ps ++ qs) env ≡ with_parameters qs (with_parameters ps env)
with-behind ps qs env = ap (λ l. record { items = env.items; parameters = l; position = env.position }) (append-assoc env.parameters ps qs)

with-none : (env : Environment) → with_parameters [] env ≡ env
with-none env = ap (λ l. record { items = env.items; parameters = l; position = env.position }) (append-nil env.parameters)

module _ {A : Type 0} (inner : Environment → Found (List A)) where
  abbrev under : Environment → List Parameter → Found (List A)
  under env ps = inner (with_parameters ps env)

  behind : (qs : List Parameter) (cs : List (List Parameter)) (env : Environment) → map (under env) (map (λ later. qs ++ later) cs) ≡ map (under (with_parameters qs env)) cs
  behind qs [] env = refl
  behind qs (c ∷ cs) env = λ i. inner (with-behind qs c env i) ∷ behind qs cs env i

  one-choice : (env : Environment) → gathered (map (under env) ([] ∷ [])) ≡ inner env
  one-choice env = ap (λ x. gathered (inner x ∷ [])) (with-none env) ∙ alone (inner env)
    where
      alone : (r : Found (List A)) → then r (λ xs. found (λ ys. xs ++ ys) (Ok [])) ≡ r
      alone (Ok xs) = ap (λ l. Ok l) (append-nil xs)
      alone (Err e) = refl

  of_independent : (ps : List Pattern) (vs : List Value) (env : Environment) → gathered (map (under env) (independent ps vs)) ≡ chosen false ps vs inner env
  of_independent [] vs env = one-choice env
  of_independent (p ∷ ps) vs env = along (of_independent ps vs) vs
    where
      along : ((e : Environment) → gathered (map (under e) (independent ps vs)) ≡ chosen false ps vs inner e) → (ws : List Value) → gathered (map (under env) (flat_map (λ v. map (λ later. bound p v ++ later) (independent ps vs)) ws)) ≡ turns (λ later v. chosen false ps vs inner (with_parameters (bound p v) env)) ws
      along others [] = refl
      along others (w ∷ ws) =
          ap gathered (map-append (under env) (map (λ later. bound p w ++ later) (independent ps vs)) (flat_map (λ v. map (λ later. bound p v ++ later) (independent ps vs)) ws))
          ∙ gathered-append (map (under env) (map (λ later. bound p w ++ later) (independent ps vs))) (map (under env) (flat_map (λ v. map (λ later. bound p v ++ later) (independent ps vs)) ws))
          ∙ ap (λ cs. then (gathered cs) (λ xs. found (λ ys. xs ++ ys) (gathered (map (under env) (flat_map (λ v. map (λ later. bound p v ++ later) (independent ps vs)) ws))))) (behind (bound p w) (independent ps vs) env)
          ∙ ap (λ r. then r (λ xs. found (λ ys. xs ++ ys) (gathered (map (under env) (flat_map (λ v. map (λ later. bound p v ++ later) (independent ps vs)) ws))))) (others (with_parameters (bound p w) env))
          ∙ ap (λ r. then (chosen false ps vs inner (with_parameters (bound p w) env)) (λ xs. found (λ ys. xs ++ ys) r)) (along others ws)

  of_in_order : (ps : List Pattern) (vs : List Value) (env : Environment) → gathered (map (under env) (in_order ps vs)) ≡ chosen true ps vs inner env
  of_in_order [] vs env = one-choice env
  of_in_order (p ∷ ps) [] env = refl
  of_in_order (p ∷ ps) (v ∷ vs) env =
      ap gathered (map-append (under env) (map (λ later. bound p v ++ later) (in_order ps vs)) (in_order (p ∷ ps) vs))
      ∙ gathered-append (map (under env) (map (λ later. bound p v ++ later) (in_order ps vs))) (map (under env) (in_order (p ∷ ps) vs))
      ∙ ap (λ cs. then (gathered cs) (λ xs. found (λ ys. xs ++ ys) (gathered (map (under env) (in_order (p ∷ ps) vs))))) (behind (bound p v) (in_order ps vs) env)
      ∙ ap (λ r. then r (λ xs. found (λ ys. xs ++ ys) (gathered (map (under env) (in_order (p ∷ ps) vs))))) (of_in_order ps vs (with_parameters (bound p v) env))
      ∙ ap (λ r. then (chosen true ps vs inner (with_parameters (bound p v) env)) (λ xs. found (λ ys. xs ++ ys) r)) (of_in_order (p ∷ ps) vs env)

  -- what is found under the choices of a group
  pub of_choices : (is_ordered : Bool) (ps : List Pattern) (vs : List Value) (env : Environment) → gathered (map (under env) (cond is_ordered (in_order ps vs) (independent ps vs))) ≡ chosen is_ordered ps vs inner env
  of_choices true ps vs env = of_in_order ps vs env
  of_choices false ps vs env = of_independent ps vs env

alike-then : {A B : Type 0} (r : Found A) (f g : A → Found B) → ((a : A) → f a ≡ g a) → then r f ≡ then r g
alike-then (Ok a) f g h = h a
alike-then (Err e) f g h = refl

visited-more : (g : Group) (gs : List Group) (inner : Environment → Found (List Value)) (env : Environment) → visited (g ∷ gs) inner env
    ≡ then (g.over.value env) (λ v. chosen g.is_ordered g.patterns (elements (declaration_of (g.over.item env)) v) (visited gs inner) env)
visited-more g gs inner env = alike-then (g.over.value env) _ _ (λ v. of_choices (visited gs inner) g.is_ordered g.patterns (elements (declaration_of (g.over.item env)) v) env)

-- groups, the one at a place in front
pub visits-more : (v : Visit) (place : ℕ) (g : GroupTerm) (env : Environment) → place < length v.groups.now → g ≡ get_or v.groups.now place g →
    bodies_at v place env ≡ group_visits g (bodies_at v (place + 1)) env
unfolding bodies_in group_visits
visits-more v place g env more here =
    at_drop_more (λ l. bodies (map group_meaning l) (option_map meaning (option_copied v.condition)) (meaning v.body.now) env) v.groups.now place g more
    ∙ ap (λ x. bodies (map group_meaning (x ∷ drop (place + 1) v.groups.now)) (option_map meaning (option_copied v.condition)) (meaning v.body.now) env) (sym here)
    ∙ visited-more (group_meaning g) (map group_meaning (drop (place + 1) v.groups.now)) (body_where (option_map meaning (option_copied v.condition)) (meaning v.body.now)) env

pub visits-none : (v : Visit) (place : ℕ) (env : Environment) → length v.groups.now ≤ place → bodies_at v place env ≡ body_where (option_map meaning (option_copied v.condition)) (meaning v.body.now) env
unfolding bodies_in
visits-none v place env h = at_drop_all (λ l. bodies (map group_meaning l) (option_map meaning (option_copied v.condition)) (meaning v.body.now) env) v.groups.now place h

pub group-Unordered : (ps : List Pattern) (s : SetTerm) (inner : Environment → Found (List Value)) (env : Environment) → group_visits (groups.Unordered ps s) inner env ≡ over_visits false ps s inner env
unfolding group_visits over_visits
group-Unordered ps s inner env =
    ap (λ g. then (g.over.value env) (λ v. chosen g.is_ordered g.patterns (elements (declaration_of (g.over.item env)) v) inner env)) (by.group_meaning-Unordered ps s)

pub group-Ordered : (ps : List Pattern) (s : SetTerm) (inner : Environment → Found (List Value)) (env : Environment) → group_visits (groups.Ordered ps s) inner env ≡ over_visits true ps s inner env
unfolding group_visits over_visits
group-Ordered ps s inner env =
    ap (λ g. then (g.over.value env) (λ v. chosen g.is_ordered g.patterns (elements (declaration_of (g.over.item env)) v) inner env)) (by.group_meaning-Ordered ps s)

-- patterns over a set
pub over-made : (is_ordered : Bool) (ps : List Pattern) (over : SetTerm) (inner : Environment → Found (List Value)) (env : Environment) (v : Value) (d : ℕ) (es : List Value) → (set_meaning over).value env ≡ Ok v → d ≡ declaration_of ((set_meaning over).item env) →
    ◌≡◌ {A = Found (List Value)} (Ok (elements d v)) (Ok es) → over_visits is_ordered ps over inner env ≡ chosen is_ordered ps es inner env
unfolding over_visits
over-made is_ordered ps over inner env v d es h e l =
    ap (λ r. then r (λ x. chosen is_ordered ps (elements (declaration_of ((set_meaning over).item env)) x) inner env)) h
    ∙ ap (λ x. chosen is_ordered ps x inner env) (ap (λ n. elements n v) (sym e) ∙ same l)
  where
    same : ◌≡◌ {A = Found (List Value)} (Ok (elements d v)) (Ok es) → elements d v ≡ es
    same q = cc

pub over-fault : (is_ordered : Bool) (ps : List Pattern) (over : SetTerm) (inner : Environment → Found (List Value)) (env : Environment) (e : EvalFault) → (e ≢ OutOfMemory → (set_meaning over).value env ≡ Err e) → e ≢ OutOfMemory → over_visits is_ordered ps over inner env ≡ Err e
unfolding over_visits
over-fault is_ordered ps over inner env e h n =
    ap (λ r. then r (λ x. chosen is_ordered ps (elements (declaration_of ((set_meaning over).item env)) x) inner env)) (h n)

pub over-faults : (is_ordered : Bool) (ps : List Pattern) (over : SetTerm) (later : ℕ) (env : Environment) (e : EvalFault) → (e ≢ OutOfMemory → (set_meaning over).value env ≡ Err e) → e ≢ OutOfMemory → (inner : Inner) → over_visits is_ordered ps over (inner later) env ≡ Err e
over-faults is_ordered ps over later env e h n inner = over-fault is_ordered ps over (inner later) env e h n

-- what leads on in one way leads on in a way that finds the same
pub leads-same : (what same : Inner → Found (List Value)) (env : Environment) (r : Result Ahead EvalFault) → ((inner : Inner) → what inner ≡ same inner) → Leads same env r → Leads what env r
leads-same what same env (Ok next) h l = λ inner. h inner ∙ l inner
leads-same what same env (Err e) h l = λ n inner. h inner ∙ l n inner

-- what leads on from a group leads on from its place
pub reaches : (v : Visit) (place : ℕ) (g : GroupTerm) (env : Environment) (before : Gathered) (r : Result Ahead EvalFault) → bodies_at v place env ≡ group_visits g (bodies_at v (place + 1)) env →
    Leads (λ inner. group_visits g (inner (place + 1)) env) env r → Reaches (bodies_at v) place env before before r
reaches v place g env before (Ok next) e l = ap (with_more before) (e ∙ l (bodies_at v))
reaches v place g env before (Err d) e l = λ n. e ∙ l n (bodies_at v)

pub ruleset groups_of = (group-Unordered, group-Ordered)
