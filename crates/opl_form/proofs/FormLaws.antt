-- The laws of ground forms.
use Rattle.std.proofs.Common.{◌≡◌, ℕ, zero, suc, ◌+◌, ◌≤◌, ℤ, Bool, ◌&&◌, slice_get, unsigned_abs, List, [], ◌∷◌, map, Option, Some, Ok, Err, refl, sym, ap, subst, ◌∙◌, arith}
use Rattle.std.specs.List.{All, list_all}
use Rattle.opl_value.specs.declared.value.Value.{Value}
use Rattle.opl_value.specs.declared.value.Value.TheVariants as values
use Rattle.opl_eval.specs.Evaluation.{Found, is_true as is_true_value}
use Rattle.opl_meaning.specs.Solutions.{truth as truth_of}
use Rattle.opl_draft.specs.Drafts.{Cells, draft_value}
use Rattle.opl_draft.specs.Instances.{Condition}
use Rattle.opl_draft.specs.Laws.{is_met}
use Rattle.opl_expr.specs.declared.forms.Cons.{Cons}
use Rattle.opl_expr.specs.declared.forms.Cons.TheVariants as C
use Rattle.opl_expr.specs.declared.forms.Cons.TheOpen.{Cons-F}
use Rattle.opl_expr.specs.declared.forms.Cons.TheFolds.{fold-roll-Cons}
use Rattle.opl_expr.specs.Forms.{Term}
use Rattle.opl_expr.specs.Holds.{value}
use Rattle.opl_expr.specs.Options.{lift1}
use Rattle.opl_expr.specs.Solutions.{is_true}
use Rattle.opl_expr.specs.Sound.{IsSoundFact, IsSoundTable, term_magnitude}
use Rattle.opl_form.specs.Parts.{Form, as_condition, table_of}
use Rattle.opl_form.specs.Parts.Form.{known, number, name, condition, truth}
use Rattle.opl_form.specs.Measures.{cons_depth, cons_nodes, depth_of, expr_depth, expr_nodes, nodes_of, part_depth, part_nodes, total}
use Rattle.opl_form.specs.Nodes.{condition_node, next, truth_part}
use Rattle.opl_form.specs.Made.{made}
use Rattle.opl_form.specs.Forms.{form, forms}
use Rattle.opl_form.specs.Worth.{plain_fact, some_of}
use Rattle.opl_form.specs.Laws.{AreSoundArrays, AreSoundConstraints, FormsAreSound, FormsMean, IsAssignment, MadeIsSound, MadeIsWorth, ValuesAreSmall, is_held}
use Rattle.opl_form.proofs.Assigned.{belongs}
use Rattle.opl_form.proofs.Meaning.{made-worth}
use Rattle.opl_form.proofs.Nodes.{counted-made, next-made, ok-same}
use Rattle.opl_form.proofs.Small.{value-small}
use Rattle.opl_form.proofs.Sound.{IsFine, made-fine, truth_part-fine}
use Rattle.opl_form.proofs.SoundParts.{as_condition-sound, as_number-sound, ranked-sound}
use Rattle.opl_form.proofs.Sums.{truth_part-worth}
use Rattle.opl_form.proofs.Tables.{all-get}
use Rattle.opl_form.proofs.Views.{true-Bool, truth-worth}

-- ---- one form

small-values : (sets : List (ℤ × ℤ)) (ns : List ℤ) → IsAssignment sets ns → (t : Term) (v : ℤ) → value ns t ≡ Some v → unsigned_abs v ≤ term_magnitude sets t
small-values sets ns m t v e = value-small sets ns (λ x. (belongs ns sets sets x m).0) t v e

pub values_are_small : ValuesAreSmall
values_are_small sets ns t v m e = small-values sets ns m t v e

sound-table : (sets : List (ℤ × ℤ)) (arrays : List Cells) → AreSoundArrays sets arrays → (k : ℕ) (a : Cells) → slice_get arrays k ≡ Some a → IsSoundTable sets (Some (table_of a))
sound-table sets arrays all k a h = all-get (λ a. IsSoundTable sets (Some (table_of a))) arrays k a all h

pub made_is_worth : MadeIsWorth
made_is_worth sets arrays item n d g all e ns m =
    made-worth sets arrays item ns (small-values sets ns m) (λ x h. (belongs ns sets sets x m).1 h) (sound-table sets arrays all) d n g e

pub made_is_sound : MadeIsSound
made_is_sound sets arrays item n d g all e =
    let f = made-fine sets arrays item (sound-table sets arrays all) d n g e in
    record {
      as_number = as_number-sound sets arrays g f.0;
      ranked = ranked-sound sets arrays g f.0;
      as_condition = as_condition-sound sets arrays g f.0;
      depth = f.1.0;
      nodes = f.1.1;
    }

-- ---- the constraints of conditions

truth-is : (r : Found Value) → truth_of r ≡ is_true (lift1 is_true_value (lift1 (λ v. values.Bool (is_true_value v)) (some_of r)))
truth-is (Ok v) = sym (true-Bool (is_true_value v))
truth-is (Err fault) = refl

form-means : (sets : List (ℤ × ℤ)) (arrays : List Cells) (n : ℕ) (c : Condition) (g : Form) → AreSoundArrays sets arrays → form sets arrays n c ≡ Ok g → (ns : List ℤ) → IsAssignment sets ns →
    is_met arrays ns c ≡ is_held arrays ns (as_condition g)
form-means sets arrays n c g all e ns m =
    let p = next-made (made sets arrays c.at n c.draft) (λ g. truth_part c.at n g) g e in
    let r : Option Value = some_of (draft_value arrays ns c.draft) in
    truth-is (draft_value arrays ns c.draft)
    ∙ ap is_true (truth-worth arrays ns (lift1 (λ v. values.Bool (is_true_value v)) r) g
    (truth_part-worth sets arrays c.at ns (small-values sets ns m) n r p.0 g (made_is_worth sets arrays c.at n c.draft p.0 all p.1 ns m) p.2))

pub forms_mean : FormsMean
forms_mean sets arrays n [] cs all e ns m = ap (list_all (is_held arrays ns)) (ok-same [] cs e)
forms_mean sets arrays n (c ∷ conditions) cs all e ns m =
    let p = next-made (form sets arrays n c) (λ g. next (forms sets arrays (n + part_nodes g) conditions) (λ ds. Ok (as_condition g ∷ ds))) cs e in
    let q = next-made (forms sets arrays (n + part_nodes p.0) conditions) (λ ds. Ok (as_condition p.0 ∷ ds)) cs p.2 in
    (λ i. form-means sets arrays n c p.0 all p.1 ns m i && forms_mean sets arrays (n + part_nodes p.0) conditions q.0 all q.1 ns m i)
    ∙ ap (list_all (is_held arrays ns)) (ok-same (as_condition p.0 ∷ q.0) cs q.2)

nodes-Fixed : (b : Bool) → nodes_of (C.Fixed b) ≡ 1
unfolding nodes_of
nodes-Fixed b = ap nodes_of (sym (C.rolls-Fixed b)) ∙ fold-roll-Cons ℕ ℕ cons_nodes expr_nodes (Cons-F.Fixed b)

depth-Fixed : (b : Bool) → depth_of (C.Fixed b) ≡ 1
unfolding depth_of
depth-Fixed b = ap depth_of (sym (C.rolls-Fixed b)) ∙ fold-roll-Cons ℕ ℕ cons_depth expr_depth (Cons-F.Fixed b)

-- the measures of a truth are those of its constraint
abbrev KeepsMeasures : Form → Type 0
KeepsMeasures g = (nodes_of (as_condition g) ≡ part_nodes g) × (depth_of (as_condition g) ≡ part_depth g)

tested-keeps : (sets : List (ℤ × ℤ)) (arrays : List Cells) (item n : ℕ) (c : Cons) (h : Form) → condition_node item n c ≡ Ok h → KeepsMeasures h
tested-keeps sets arrays item n c h e = subst KeepsMeasures (counted-made item n (depth_of c) (nodes_of c) (condition c) h e) (refl, refl)

truth-keeps : (sets : List (ℤ × ℤ)) (arrays : List Cells) (item n : ℕ) (g h : Form) → truth_part item n g ≡ Ok h → KeepsMeasures h
truth-keeps sets arrays item n (known v) h e =
    let b : Bool = is_true_value (values.Bool (is_true_value v)) in
    subst KeepsMeasures (ok-same (known (values.Bool (is_true_value v))) h e) (nodes-Fixed b, depth-Fixed b)
truth-keeps sets arrays item n (condition c) h e = subst KeepsMeasures (ok-same (condition c) h e) (refl, refl)
truth-keeps sets arrays item n (number x) h e = tested-keeps sets arrays item n (as_condition (number x)) h e
truth-keeps sets arrays item n (name d x) h e = tested-keeps sets arrays item n (as_condition (name d x)) h e
truth-keeps sets arrays item n (truth c) h e = tested-keeps sets arrays item n (as_condition (truth c)) h e

all-none : {A : Type 0} (P : A → Type 0) → All P []
all-none P k d h = absurd (omega (arith, h))

all-more : {A : Type 0} (P : A → Type 0) (x : A) (xs : List A) → P x → All P xs → All P (x ∷ xs)
all-more P x xs p all zero d h = p
all-more P x xs p all (suc k) d h = all k d (omega (arith, h))

pub forms_are_sound : FormsAreSound
forms_are_sound sets arrays n [] cs all l e = subst (AreSoundConstraints sets arrays n) (ok-same [] cs e) (record {
  facts = all-none (λ c. IsSoundFact sets (plain_fact arrays c));
  depth = all-none (λ c. depth_of c ≤ 2048);
  nodes = omega (arith, l);
})
forms_are_sound sets arrays n (c ∷ conditions) cs all l e =
    let p = next-made (form sets arrays n c) (λ g. next (forms sets arrays (n + part_nodes g) conditions) (λ ds. Ok (as_condition g ∷ ds))) cs e in
    let q = next-made (forms sets arrays (n + part_nodes p.0) conditions) (λ ds. Ok (as_condition p.0 ∷ ds)) cs p.2 in
    let r = next-made (made sets arrays c.at n c.draft) (λ g. truth_part c.at n g) p.0 p.1 in
    let f : IsFine sets arrays c.at n p.0 = truth_part-fine sets arrays c.at n r.0 p.0 (made-fine sets arrays c.at (sound-table sets arrays all) c.draft n r.0 r.1) r.2 in
    let k = truth-keeps sets arrays c.at n r.0 p.0 r.2 in
    let s = forms_are_sound sets arrays (n + part_nodes p.0) conditions q.0 all f.1.1 q.1 in
    subst (AreSoundConstraints sets arrays n) (ok-same (as_condition p.0 ∷ q.0) cs q.2) (record {
      facts = all-more (λ c. IsSoundFact sets (plain_fact arrays c)) (as_condition p.0) q.0 (as_condition-sound sets arrays p.0 f.0) s.facts;
      depth = all-more (λ c. depth_of c ≤ 2048) (as_condition p.0) q.0 (subst (λ d. d ≤ 2048) (sym k.1) f.1.0) s.depth;
      nodes = together n (nodes_of (as_condition p.0)) (part_nodes p.0) (total (map nodes_of q.0)) k.0 s.nodes;
    })
  where
    together : (n a b m : ℕ) → a ≡ b → (n + b) + m ≤ 4194304 → n + (a + m) ≤ 4194304
    together n a b m h l = omega (arith, h, l)
