-- What the name of a type stands for.
use Rattle.std.proofs.Common.{◌≡◌, ℕ, pos, ◌||◌, Bool, true, false, cond, List, [], ◌∷◌, map, Option, Some, None, Ok, refl, ap, sym, ◌∙◌}
use Rattle.std.specs.Prelude.{bytes_eq, is_some}
use Rattle.std.specs.Option.{option_map}
use Rattle.opl_term.specs.declared.term.SetTerm.{SetTerm}
use Rattle.opl_term.specs.declared.term.SetTerm.TheVariants as sets
use Rattle.opl_term.specs.declared.term.Term.TheVariants as terms
use Rattle.opl_term.specs.declared.term.GroupTerm.TheOpen.{Term-F}
use Rattle.opl_value.specs.declared.value.Value.{Value}
use Rattle.opl_value.specs.declared.value.Dimension.TheViews.{out-Value}
use Rattle.opl_eval.specs.declared.environment.Environment as code
use Rattle.opl_eval.specs.declared.environment.Parameter as parameters
use Rattle.opl_eval.specs.Evaluation.{Found, Item, declaration_of, item_named, latest_or, parameter_or, set_meaning, term_layer, unhidden, value_named, visible}
use Rattle.opl_eval.specs.Visible.{parameter_of, seen, within}
use Rattle.opl_eval.proofs.Meanings as by
use Rattle.opl_meaning.specs.declared.ends.Ends as ends
use Rattle.opl_meaning.specs.VariableReadings.{is_named, reach}
use Rattle.opl_meaning.specs.Variables.{no_ends, type_ends, type_layer}
use Rattle.opl_meaning.proofs.VariableTypes.{kind-Int}

-- ---- parameters hide declared names

any-step : (b : Bool) (v : Value) (before : Option Value) (r : Bool) → (is_some (cond b (Some v) before) || r) ≡ (is_some before || (b || r))
any-step true v None r = refl
any-step true v (Some w) r = refl
any-step false v None r = refl
any-step false v (Some w) r = refl

any-none : (before : Option Value) → is_some before ≡ (is_some before || false)
any-none None = refl
any-none (Some v) = refl

parameter-named : (name : List ℕ) (before : Option Value) (ps : List parameters.Parameter) → is_some (parameter_or before name (map parameter_of ps)) ≡ (is_some before || is_named ps name)
parameter-named name before [] = any-none before
parameter-named name before (p ∷ ps) = parameter-named name (cond (bytes_eq name p.name.now) (Some p.value.now) before) ps ∙ any-step (bytes_eq name p.name.now) p.value.now before (is_named ps name)

unhidden-some : (v : Option Value) (i : Option Item) → is_some v ≡ true → unhidden v i ≡ None
unhidden-some None i h = cc
unhidden-some (Some v) i h = refl

unhidden-none : (v : Option Value) (i : Option Item) → is_some v ≡ false → unhidden v i ≡ i
unhidden-none None i h = refl
unhidden-none (Some v) i h = cc

module _ (env : code.Environment) (ps : List parameters.Parameter) (name : List ℕ) where
  item_hidden : is_named ps name ≡ true → item_named name (within env ps) ≡ None
  unfolding within item_named
  item_hidden h = unhidden-some (parameter_or None name (map parameter_of ps)) _ (parameter-named name None ps ∙ h)

  item_shown : is_named ps name ≡ false → item_named name (within env ps) ≡ latest_or None name (seen env).items
  unfolding within seen item_named
  item_shown h = unhidden-none (parameter_or None name (map parameter_of ps)) _ (parameter-named name None ps ∙ h)

  pub hidden_reach : is_named ps name ≡ true → (e : ends.Ends) → e ≡ reach no_ends → e ≡ reach (type_ends (item_named name (within env ps)))
  hidden_reach h e f = f ∙ ap (λ i. reach (type_ends i)) (sym (item_hidden h))

-- ---- the ends of what is declared

reach_of : (i : Option Item) (v : Value) (e : ends.Ends) → ◌≡◌ {A = Option Value} (Some v) (option_map (λ i. i.value) i) → ((d : ℕ) → e ≡ reach (type_layer d (out-Value v))) → e ≡ reach (type_ends i)
reach_of None v e h f = cc
reach_of (Some i) v e h f = f i.declaration ∙ ap (λ w. reach (type_layer i.declaration (out-Value w))) (same h)
  where
    same : ◌≡◌ {A = Option Value} (Some v) (Some i.value) → v ≡ i.value
    same q = cc

reach_none : (i : Option Item) (e : ends.Ends) → ◌≡◌ {A = Option Value} None (option_map (λ i. i.value) i) → e ≡ reach no_ends → e ≡ reach (type_ends i)
reach_none None e h f = f
reach_none (Some i) e h f = cc

module _ (env : code.Environment) (ps : List parameters.Parameter) (name : List ℕ) (h : is_named ps name ≡ false) (e : ends.Ends) where
  pub declared_reach : (v : Value) → ◌≡◌ {A = Option Value} (Some v) (option_map (λ i. i.value) (latest_or None name (seen env).items)) → ((d : ℕ) → e ≡ reach (type_layer d (out-Value v))) → e ≡ reach (type_ends (item_named name (within env ps)))
  declared_reach v g f = reach_of (latest_or None name (seen env).items) v e g f ∙ ap (λ i. reach (type_ends i)) (sym (item_shown env ps name h))

  pub unknown_reach : ◌≡◌ {A = Option Value} None (option_map (λ i. i.value) (latest_or None name (seen env).items)) → e ≡ reach no_ends → e ≡ reach (type_ends (item_named name (within env ps)))
  unknown_reach g f = reach_none (latest_or None name (seen env).items) e g f ∙ ap (λ i. reach (type_ends i)) (sym (item_shown env ps name h))

-- ---- the kind of what is declared

kind_by : (i : Option Item) (v : Value) (d : ℕ) → visible None i ≡ v → d ≡ declaration_of i → (type_layer d (out-Value v)).kind ≡ (type_ends i).kind
kind_by None v d h g = ap (λ w. (type_layer d (out-Value w)).kind) (sym h) ∙ kind-Int d (pos 0)
kind_by (Some i) v d h g = λ j. (type_layer (g j) (out-Value (sym h j))).kind

meaning_of_name : (at : ℕ) (text : List ℕ) → set_meaning (sets.Whole (terms.Named at text)) ≡ term_layer (Term-F.Named at text)
meaning_of_name at text = by.set_meaning-Whole (terms.Named at text) ∙ by.meaning-Named at text

kind_in : (env : code.Environment) (text : List ℕ) (v : Value) (d : ℕ) → value_named text (within env []) ≡ v → d ≡ declaration_of (item_named text (within env [])) → (type_layer d (out-Value v)).kind ≡ (type_ends (item_named text (seen env))).kind
unfolding within seen item_named value_named
kind_in env text v d h g = kind_by (latest_or None text (seen env).items) v d h g

pub kind_named : (env : code.Environment) (at : ℕ) (text : List ℕ) (set : SetTerm) (v : Value) (d : ℕ) → set ≡ sets.Whole (terms.Named at text) →
    (set_meaning set).value (within env []) ≡ Ok v → d ≡ declaration_of ((set_meaning set).item (within env [])) → (type_layer d (out-Value v)).kind ≡ (type_ends (item_named text (seen env))).kind
kind_named env at text set v d e h g =
    let m = ap set_meaning e ∙ meaning_of_name at text in
    kind_in env text v d (same (sym (ap (λ n. n.value (within env [])) m) ∙ h)) (g ∙ ap (λ n. declaration_of (n.item (within env []))) m)
  where
    same : ◌≡◌ {A = Found Value} (Ok (value_named text (within env []))) (Ok v) → value_named text (within env []) ≡ v
    same q = cc

-- without parameters the declared names alone are seen
pub within-none : (env : code.Environment) → within env [] ≡ seen env
unfolding within seen
within-none env = refl
