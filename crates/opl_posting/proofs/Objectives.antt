-- The forms of objectives.
use Rattle.std.proofs.Common.{◌≡◌, ◌<◌, ◌≤◌, ◌^◌, ◌+◌, ℕ, ℤ, Bool, List, map, Option, Some, Result, Ok, Err, refl, sym, ap, subst, ◌∙◌, arith}
use Rattle.opl_term.specs.declared.term.Term.{Term}
use Rattle.opl_value.specs.declared.value.Value.TheVariants as values
use Rattle.opl_eval.specs.Compare as compare
use Rattle.opl_eval.specs.Evaluation.{Environment}
use Rattle.opl_meaning.specs.Uses.{place_of}
use Rattle.opl_draft.specs.Drafts.{Cells, Draft}
use Rattle.opl_draft.specs.Numbers.{arrays_of, entries}
use Rattle.opl_draft.specs.Unrolled.{unrolled}
use Rattle.opl_expr.specs.declared.forms.Expr.{Expr}
use Rattle.opl_expr.specs.declared.forms.Expr.TheVariants as E
use Rattle.opl_expr.specs.declared.model.Goal.{Goal}
use Rattle.opl_form.specs.Laws.{declared_ends}
use Rattle.opl_form.specs.Made.{made, place}
use Rattle.opl_form.specs.Measures.{depth, nodes}
use Rattle.opl_form.specs.Nodes.{Made, as_operand, counted, next, number_node, number_part, size}
use Rattle.opl_form.specs.Nodes.Fault.{large}
use Rattle.opl_form.specs.Parts.{Form, as_number}
use Rattle.opl_form.specs.Parts.Form.{known, number, name, condition, truth}
use Rattle.opl_form.proofs.Nodes.{counted-made, next-made, ok-same, sized-made}
use Rattle.opl_form.proofs.Views.{number-Int, rank-Int}
use Rattle.opl_nodes.specs.declared.context.Context.{Context}
use Rattle.opl_nodes.specs.declared.fault.FormFault.{FormFault}
use Rattle.opl_nodes.specs.declared.part.Part.{Part}
use Rattle.opl_nodes.specs.Contexts.{arrays as arrays_in, cells, sets as sets_in}
use Rattle.opl_nodes.specs.Pieces.{IsMade, IsPart, Refuses, form, magnitude}
use Rattle.opl_nodes.proofs.Tests.{sized-large, sized-small}
use Rattle.opl_numbers.proofs.Measures.{nodes-Const}
use Rattle.opl_unfolding.specs.Onto.{operand_made}
use Rattle.opl_making.specs.Places.{place_or}
use Rattle.opl_making.proofs.DraftPlaces.{own-place}
use Rattle.opl_making.proofs.Next.{next-out, refused, refuses-same}
use Rattle.opl_declared.specs.Kept.{names_in}
use Rattle.opl_optimum.specs.Goals as goals
use Rattle.opl_optimum.specs.Goals.{doubled, goal_form, goal_nodes, number_of}
use Rattle.opl_optimum.specs.Optima.{Objective}
use Rattle.opl_posting.specs.declared.aim.Aim.{Aim}
use Rattle.opl_posting.specs.declared.plan.Plan.{Plan}
use Rattle.opl_posting.specs.Aims.{Aims, IsAim, IsNumber, goal_as, goal_made}

-- ---- numbers

-- a number of the data
value-is : (z : ℤ) → IsNumber (known (values.Int z))
value-is z = record { ranked = ap E.Const (rank-Int z ∙ sym (number-Int z)); nodes = sym (nodes-Const (compare.number (values.Int z))) }

-- a number with variables
expr-is : (x : Expr) → IsNumber (number x)
expr-is x = record { ranked = refl; nodes = refl }

module _ (sets : List (ℤ × ℤ)) (arrays : List Cells) (item : ℕ) where
  node-is : (at n : ℕ) (x : Expr) (f : Form) → number_node sets arrays item at n x ≡ Ok f → IsNumber f
  node-is at n x f e =
      subst IsNumber (counted-made item n (depth x) (nodes x) (number x) f (sized-made at (size sets arrays x) (counted item n (depth x) (nodes x) (number x)) f e).1) (expr-is x)

  -- a part as a number is one
  part-is : (at n : ℕ) (g f : Form) → number_part sets arrays item at n g ≡ Ok f → IsNumber f
  part-is at n (known v) f e = subst IsNumber (ok-same (known (values.Int (compare.number v))) f e) (value-is (compare.number v))
  part-is at n (number x) f e = subst IsNumber (ok-same (number x) f e) (expr-is x)
  part-is at n (name d x) f e = node-is at n (as_number (name d x)) f e
  part-is at n (condition c) f e = node-is at n (as_number (condition c)) f e
  part-is at n (truth c) f e = node-is at n (as_number (truth c)) f e

  pub number_of-is : (d : Draft) (f : Form) → number_of sets arrays item d ≡ Ok f → IsNumber f
  number_of-is d f e =
      let p = next-made (as_operand item (place d) 0 (made sets arrays item 0 d)) (λ g. number_part sets arrays item (place d) 0 g) f e in
      part-is (place d) 0 p.0 f p.2

  -- the form of an objective is a number
  pub goal_form-is : (d : Draft) (f : Form) → goal_form sets arrays item d ≡ Ok f → IsNumber f
  goal_form-is d f e =
      let p = next-made (number_of sets arrays item d) (λ g. doubled sets arrays item (place d) g) f e in
      let m : ℕ = size sets arrays (as_number p.0) in
      subst IsNumber (ok-same p.0 f (sized-made (place d) (m + m) (Ok p.0) f p.2).1) (number_of-is d p.0 p.1)

  -- ---- places

  -- what depends on the place of an operand that is made
  pub number-at : (at : ℕ) (d : Draft) → place_or at d ≡ at → next (operand_made sets arrays item 0 d) (λ g. number_part sets arrays item at 0 g) ≡ number_of sets arrays item d
  number-at at d h = sym (own-place sets arrays item Form 0 at d (λ k g. number_part sets arrays item k 0 g) h)

  -- and of a number
  pub doubled-at : (at : ℕ) (d : Draft) → place_or at d ≡ at → next (number_of sets arrays item d) (λ g. doubled sets arrays item at g) ≡ goal_form sets arrays item d
  doubled-at at d h =
      next-out (operand_made sets arrays item 0 d) (λ g. number_part sets arrays item (place d) 0 g) (λ g. doubled sets arrays item at g)
      ∙ sym (own-place sets arrays item Form 0 at d (λ k g. next (number_part sets arrays item (place d) 0 g) (λ f. doubled sets arrays item k f)) h)
      ∙ sym (next-out (operand_made sets arrays item 0 d) (λ g. number_part sets arrays item (place d) 0 g) (λ g. doubled sets arrays item (place d) g))

-- ---- twice the magnitude

module _ (c : Context) (p : Part) (at : ℕ) (h : IsPart c p) (whole : IsNumber (form p)) where
  abbrev twice : ℕ
  twice = size (sets_in c) (arrays_in c) (as_number (form p)) + size (sets_in c) (arrays_in c) (as_number (form p))

  size-is : p.size ≡ size (sets_in c) (arrays_in c) (as_number (form p))
  unfolding magnitude
  size-is = h.size ∙ ap (size (sets_in c) (arrays_in c)) whole.ranked

  is-large : (m n : ℕ) → m ≡ n → 2 ^ 126 ≤ m → 2 ^ 127 ≤ n + n
  is-large m n e k = omega (arith, e, k)

  is-small : (m n : ℕ) → m ≡ n → m < 2 ^ 126 → n + n < 2 ^ 127
  is-small m n e k = omega (arith, e, k)

  pub doubled-large : 2 ^ 126 ≤ p.size → doubled (sets_in c) (arrays_in c) c.item at (form p) ≡ Err (large at)
  doubled-large k = sized-large at twice (Ok (form p)) (is-large p.size (size (sets_in c) (arrays_in c) (as_number (form p))) size-is k)

  pub doubled-small : p.size < 2 ^ 126 → IsMade c (doubled (sets_in c) (arrays_in c) c.item at (form p)) p
  doubled-small k = record {
    is_form = sized-small at twice (Ok (form p)) (is-small p.size (size (sets_in c) (arrays_in c) (as_number (form p))) size-is k);
    is_part = h;
  }

-- ---- objectives

-- an objective of a form that is made
module _ (plan : Plan) (env : Environment) (is_most : Bool) (t : Term) where
  abbrev draft : Draft
  draft = unrolled plan.declared.now.items.now (names_in plan.declared.now) t env

  abbrev pub form_made : ℕ → Made Form
  form_made item = goal_form plan.sets.now (map cells plan.arrays.now) item draft

  module _ (item : ℕ) (here : item ≡ place_of t) where
    made-here : goal_made plan env is_most t ≡ next (form_made item) (λ f. Ok (Some (goal_as is_most t f)))
    made-here = ap (λ k. next (form_made k) (λ f. Ok (Some (goal_as is_most t f)))) (sym here)

    pub aim-made : (c : Context) (p : Part) (a : Aim) → IsMade c (form_made item) p → a.goal ≡ Some (goal_as is_most t (form p)) → a.nodes ≡ p.nodes → IsAim (goal_made plan env is_most t) a
    aim-made c p a m e k = record {
      goal = made-here ∙ ap (λ (m : Made Form). next m (λ f. Ok (Some (goal_as is_most t f)))) m.is_form ∙ ap (λ (o : Option Goal). Ok o) (sym e);
      nodes = k ∙ m.is_part.nodes ∙ (goal_form-is plan.sets.now (map cells plan.arrays.now) item draft (form p) m.is_form).nodes ∙ ap goal_nodes (sym e);
    }

    pub aim-refused : (fault : FormFault) → Refuses {A = Form} (form_made item) fault → Refuses {A = Option Goal} (goal_made plan env is_most t) fault
    aim-refused fault h =
        refuses-same (Option Goal) (next (form_made item) (λ f. Ok (Some (goal_as is_most t f)))) (goal_made plan env is_most t) fault (sym made-here)
        (refused Form (Option Goal) (form_made item) (λ f. Ok (Some (goal_as is_most t f))) fault h)

-- over the declared sets and the arrays of a model, where the declared names alone are visible
pub aims-same : (plan : Plan) (env inner : Environment) (is_most : Bool) (t : Term) (o : Option Objective) (r : Result Aim FormFault) → plan.sets.now ≡ declared_ends plan.declared.now.items.now →
    map cells plan.arrays.now ≡ arrays_of (entries env.items plan.declared.now.items.now) → inner ≡ env → o ≡ Some (record { is_most = is_most; term = t }) →
    Aims (goal_made plan inner is_most t) r → Aims (goals.goal_by env plan.declared.now.items.now (names_in plan.declared.now) o) r
aims-same plan env inner is_most t o r s a e f h =
    subst (λ (o : Option Objective). Aims (goals.goal_by env plan.declared.now.items.now (names_in plan.declared.now) o) r) (sym f)
    (subst (λ (m : Made (Option Goal)). Aims m r)
    (λ i. next (goal_form (s i) (a i) (place_of t) (unrolled plan.declared.now.items.now (names_in plan.declared.now) t (e i))) (λ f. Ok (Some (goal_as is_most t f)))) h)
