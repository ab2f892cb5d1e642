-- What objectives become in ground cores: their values, and that they are sound.
use Rattle.std.proofs.Common.{◌≡◌, ℕ, suc, ◌+◌, ◌<◌, ◌≤◌, ◌^◌, nat_lt, ℤ, true, length, List, [], ◌∷◌, Option, None, Some, Ok, Err, refl, sym, ap, subst, ◌∙◌, arith}
use Rattle.std.specs.List.{flat_map}
use Rattle.std.proofs.lemmas.Bool.{and_parts}
use Rattle.opl_domain.specs.Family.{member}
use Rattle.opl_domain.specs.Span.{values}
use Rattle.opl_value.specs.declared.value.Value.{Value}
use Rattle.opl_value.specs.declared.value.Value.TheVariants as value_forms
use Rattle.opl_eval.specs.Arithmetic.{run, then}
use Rattle.opl_eval.specs.Compare as compare
use Rattle.opl_eval.specs.Evaluation.{Environment, Found, integer}
use Rattle.opl_meaning.specs.declared.variable.VariableItem.{VariableItem}
use Rattle.opl_meaning.specs.Runs.{Names}
use Rattle.opl_meaning.specs.Uses.{place_of}
use Rattle.opl_draft.specs.Drafts.{Cells, Draft, draft_value}
use Rattle.opl_draft.specs.Drafts.Steps.{no_steps}
use Rattle.opl_draft.specs.Laws.{UnrolledMeans, arrays}
use Rattle.opl_draft.specs.Unrolled.{unrolled}
use Rattle.opl_expr.specs.declared.forms.Cons.TheOpen.{Expr-F}
use Rattle.opl_expr.specs.declared.forms.Cons.TheFolds.{fold-roll-Expr}
use Rattle.opl_expr.specs.declared.forms.Expr.{Expr}
use Rattle.opl_expr.specs.declared.forms.Expr.TheVariants as E
use Rattle.opl_expr.specs.declared.model.Goal.{Goal}
use Rattle.opl_expr.specs.Options.{lift1}
use Rattle.opl_expr.specs.Solutions.{is_among}
use Rattle.opl_form.specs.Parts.{Form, as_number}
use Rattle.opl_form.specs.Parts.Form.{known, number, name, condition, truth}
use Rattle.opl_form.specs.Measures.{cons_depth, cons_nodes, depth, expr_depth, expr_nodes, nodes, part_depth, part_nodes}
use Rattle.opl_form.specs.Nodes.{as_operand, number_node, number_part, size}
use Rattle.opl_form.specs.Made.{made, place}
use Rattle.opl_form.specs.Worth.{some_of}
use Rattle.opl_form.specs.Laws.{AreSoundArrays, IsAssignment, declared_ends, families}
use Rattle.opl_form.proofs.FormLaws.{made_is_sound, made_is_worth}
use Rattle.opl_form.proofs.Indices.{length-map}
use Rattle.opl_form.proofs.Nodes.{next-made, number-node, ok-same, sized-made}
use Rattle.opl_form.proofs.Views.{as_number-worth, number-Int}
use Rattle.opl_optimum.specs.Goals.{doubled, goal_by, goal_form, goal_with, number_of}
use Rattle.opl_optimum.specs.Laws.{GoalIsSound, GoalMeans, IsSoundNumber}
use Rattle.opl_optimum.specs.Optima.{Objective, number_found}

-- ---- the number of a draft

-- a chain of a draft alone, which is made as its number is
abbrev pub alone : Draft → Draft
alone d = Draft.chain (place d) d no_steps

lt-out : (m n : ℕ) → nat_lt m n ≡ true → m < n
lt-out m n h = grind arith

module _ (sets : List (ℤ × ℤ)) (arrays : List Cells) (item : ℕ) where
  -- the form of an objective is the number of its draft, which is small twice over
  pub record IsNumber (d : Draft) (f : Form) : Type 0 where
    pub is_made : made sets arrays item 0 (alone d) ≡ Ok f
    pub twice : size sets arrays (as_number f) + size sets arrays (as_number f) < 2 ^ 127

  pub goal-made : (d : Draft) (f : Form) → goal_form sets arrays item d ≡ Ok f → IsNumber d f
  goal-made d f e =
      let p = next-made (number_of sets arrays item d) (λ g. doubled sets arrays item (place d) g) f e in
      let m : ℕ = size sets arrays (as_number p.0) + size sets arrays (as_number p.0) in
      let q = sized-made (place d) m (Ok p.0) f p.2 in
      subst (IsNumber d) (ok-same p.0 f q.1) (record { is_made = p.1; twice = lt-out m (2 ^ 127) q.0 })

  -- ---- its measures are those of its expression

  abbrev KeepsMeasures : Form → Type 0
  KeepsMeasures g = (nodes (as_number g) ≡ part_nodes g) × (depth (as_number g) ≡ part_depth g)

  nodes-Const : (k : ℤ) → nodes (E.Const k) ≡ 1
  unfolding nodes
  nodes-Const k = ap nodes (sym (E.rolls-Const k)) ∙ fold-roll-Expr ℕ ℕ cons_nodes expr_nodes (Expr-F.Const k)

  depth-Const : (k : ℤ) → depth (E.Const k) ≡ 1
  unfolding depth
  depth-Const k = ap depth (sym (E.rolls-Const k)) ∙ fold-roll-Expr ℕ ℕ cons_depth expr_depth (Expr-F.Const k)

  node-keeps : (at n : ℕ) (e : Expr) (h : Form) → number_node sets arrays item at n e ≡ Ok h → KeepsMeasures h
  node-keeps at n e h k = subst KeepsMeasures (number-node sets arrays item at n e h k).0 (refl, refl)

  number-keeps : (at n : ℕ) (g h : Form) → number_part sets arrays item at n g ≡ Ok h → KeepsMeasures h
  number-keeps at n (known v) h e =
      subst KeepsMeasures (ok-same (known (value_forms.Int (compare.number v))) h e) (nodes-Const (compare.number (value_forms.Int (compare.number v))), depth-Const (compare.number (value_forms.Int (compare.number v))))
  number-keeps at n (number x) h e = subst KeepsMeasures (ok-same (number x) h e) (refl, refl)
  number-keeps at n (name d x) h e = node-keeps at n (as_number (name d x)) h e
  number-keeps at n (condition c) h e = node-keeps at n (as_number (condition c)) h e
  number-keeps at n (truth c) h e = node-keeps at n (as_number (truth c)) h e

  within : (m n : ℕ) → 0 + m ≤ 4194304 → n ≡ m → n ≤ 4194304
  within m n h e = omega (arith, h, e)

  number-sound : (d : Draft) (f : Form) → AreSoundArrays sets arrays → IsNumber d f → IsSoundNumber sets arrays (as_number f)
  number-sound d f all h =
      let s = made_is_sound sets arrays item 0 (alone d) f all h.is_made in
      let p = next-made (as_operand item (place d) 0 (made sets arrays item 0 d)) (λ g. number_part sets arrays item (place d) 0 g) f h.is_made in
      let k = number-keeps (place d) 0 p.0 f p.2 in
      record {
        sound = s.as_number;
        twice = h.twice;
        depth = subst (λ n. n ≤ 2048) (sym k.1) s.depth;
        nodes = within (part_nodes f) (nodes (as_number f)) s.nodes k.0;
      }

pub goal_is_sound : GoalIsSound
goal_is_sound sets arrays item d f all e = number-sound sets arrays item d f all (goal-made sets arrays item d f e)

-- ---- values

-- an assignment has a value for each declared set
assigned-length : (sets : List (ℤ × ℤ)) (ns : List ℤ) → IsAssignment sets ns → length ns ≡ length sets
assigned-length [] [] h = refl
assigned-length [] (n ∷ ns) h = absurd (cc)
assigned-length (p ∷ sets) [] h = absurd (cc)
assigned-length (p ∷ sets) (n ∷ ns) h =
    ap (λ k. suc k) (assigned-length sets ns (and_parts (member n (values (record { low = p.0; high = p.1 }))) (is_among ns (families sets)) h).1)

number-alone : (at : ℕ) (r : Found Value) → lift1 compare.number (some_of (then r (λ v. integer (run at (compare.number v) [])))) ≡ number_found r
number-alone at (Ok v) = ap (λ n. Some n) (number-Int (compare.number v))
number-alone at (Err fault) = refl

pub goal_means : UnrolledMeans → GoalMeans
goal_means unrolled_means items names env item g f declared sound clean e ns m =
    let sets = declared_ends items in
    let cells = arrays env items in
    let d : Draft = unrolled items names g.term env in
    let w = made_is_worth sets cells item 0 (alone d) f sound (goal-made sets cells item d f e).is_made ns m in
    sym (as_number-worth cells ns (some_of (draft_value cells ns (alone d))) f w)
    ∙ number-alone (place d) (draft_value cells ns d)
    ∙ ap number_found (unrolled_means items names ns env g.term declared (assigned-length sets ns m ∙ length-map (λ set. (set.low, set.high)) (flat_map (λ v. v.sets) items)) clean)

-- ---- objectives that a model has

-- the objective of a core, if a model has one, is that of its form
pub goal-of-form : (env : Environment) (items : List VariableItem) (names : Names) (g : Objective) (goal : Option Goal) → goal_by env items names (Some g) ≡ Ok goal →
    (f : Form) × (goal_form (declared_ends items) (arrays env items) (place_of g.term) (unrolled items names g.term env) ≡ Ok f) × (Some (goal_with g f) ≡ goal)
goal-of-form env items names g goal e =
    let p = next-made (goal_form (declared_ends items) (arrays env items) (place_of g.term) (unrolled items names g.term env)) (λ f. Ok (Some (goal_with g f))) goal e in
    (p.0, p.1, ok-same (Some (goal_with g p.0)) goal p.2)

pub no-goal : (env : Environment) (items : List VariableItem) (names : Names) (goal : Option Goal) → goal_by env items names None ≡ Ok goal → None ≡ goal
no-goal env items names goal e = ok-same None goal e

-- the objective of a core is sound, if there is one
abbrev pub IsSoundObjective : List (ℤ × ℤ) → List Cells → Option Goal → Type 0
IsSoundObjective sets arrays None = Unit {0}
IsSoundObjective sets arrays (Some goal) = IsSoundNumber sets arrays goal.value

pub goal-sound : (env : Environment) (items : List VariableItem) (names : Names) (o : Option Objective) (goal : Option Goal) → AreSoundArrays (declared_ends items) (arrays env items) →
    goal_by env items names o ≡ Ok goal → IsSoundObjective (declared_ends items) (arrays env items) goal
goal-sound env items names None goal sound e = subst (IsSoundObjective (declared_ends items) (arrays env items)) (no-goal env items names goal e) tt
goal-sound env items names (Some g) goal sound e =
    let p = goal-of-form env items names g goal e in
    subst (IsSoundObjective (declared_ends items) (arrays env items)) p.2
    (goal_is_sound (declared_ends items) (arrays env items) (place_of g.term) (unrolled items names g.term env) p.0 sound p.1)
