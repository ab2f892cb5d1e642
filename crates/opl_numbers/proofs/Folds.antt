-- Nodes by whether a variable is left in their parts.
use Rattle.std.proofs.Common.{◌≡◌, ℕ, ℤ, true, false, List, [], ◌∷◌, map, Option, Some, None, is_some, Ok, Err, refl, sym, ap, ◌∙◌}
use Rattle.opl_value.specs.declared.value.Value.{Value}
use Rattle.opl_value.specs.declared.value.Value.TheVariants as values
use Rattle.opl_eval.specs.declared.fault.EvalFault.TheVariants.{EmptyMinMax}
use Rattle.opl_eval.specs.Arithmetic as arithmetic
use Rattle.opl_eval.specs.Compare as compare
use Rattle.opl_eval.specs.Evaluation.{Found, integer}
use Rattle.opl_draft.specs.Drafts.{Cells}
use Rattle.opl_expr.specs.declared.forms.Expr.TheVariants as E
use Rattle.opl_form.specs.Parts.{Form, all_known, as_number, with_value}
use Rattle.opl_form.specs.Parts.Form.{known, number, name, condition, truth}
use Rattle.opl_form.specs.Nodes as making
use Rattle.opl_form.specs.Nodes.{Made, evaluated, folded, number_node}
use Rattle.opl_form.specs.Nodes.Fault.{eval}
use Rattle.opl_nodes.specs.declared.part.Part.{Part}
use Rattle.opl_nodes.specs.Pieces.{forms, value_of}
use Rattle.opl_numbers.specs.Numbers.{number_of}

-- ---- what values come to, and what is a node

pub folded-all : (item n : ℕ) (gs : List Form) (come : List Value → Found Value) (node : Made Form) (r : Found Value) → ((vs : List Value) → all_known gs ≡ Some vs → come vs ≡ r) →
    is_some (all_known gs) ≡ true → folded item n (all_known gs) come node ≡ evaluated item n r
folded-all item n gs come node r is h = by (all_known gs) is h
  where
    by : (o : Option (List Value)) → ((vs : List Value) → o ≡ Some vs → come vs ≡ r) → is_some o ≡ true → folded item n o come node ≡ evaluated item n r
    by (Some vs) is h = ap (evaluated item n) (is vs refl)
    by None is h = absurd (cc)

pub live-all : (item n : ℕ) (o : Option (List Value)) (come : List Value → Found Value) (node : Made Form) → is_some o ≡ false → folded item n o come node ≡ node
live-all item n (Some vs) come node h = absurd (cc)
live-all item n None come node h = refl

-- the numbers of values
pub numbers-known : (gs : List Form) (vs : List Value) → all_known gs ≡ Some vs → map compare.number vs ≡ map number_of gs
numbers-known [] vs e = let same : [] ≡ vs = cc in ap (map compare.number) (sym same)
numbers-known (g ∷ gs) vs e = by g (all_known gs) (λ us f. numbers-known gs us f) e
  where
    by : (g : Form) (o : Option (List Value)) → ((us : List Value) → o ≡ Some us → map compare.number us ≡ map number_of gs) → with_value g o ≡ Some vs → map compare.number vs ≡ number_of g ∷ map number_of gs
    by (known v) (Some us) k e = let same : v ∷ us ≡ vs = cc in ap (map compare.number) (sym same) ∙ ap (λ ns. compare.number v ∷ ns) (k us refl)
    by (known v) None k e = cc
    by (number x) o k e = cc
    by (name d x) o k e = cc
    by (condition d) o k e = cc
    by (truth d) o k e = cc

-- ---- the nodes

module _ (sets : List (ℤ × ℤ)) (arrays : List Cells) (item : ℕ) where
  pub number-known : (at n : ℕ) (g : Form) → is_some (value_of g) ≡ true → Ok (known (values.Int (number_of g))) ≡ making.number_part sets arrays item at n g
  number-known at n (known v) h = refl
  number-known at n (number e) h = absurd (cc)
  number-known at n (name d e) h = absurd (cc)
  number-known at n (condition d) h = absurd (cc)
  number-known at n (truth d) h = absurd (cc)

  pub summed-known : (at n : ℕ) (gs : List Form) → is_some (all_known gs) ≡ true → evaluated item n (integer (arithmetic.sum at (map number_of gs))) ≡ making.summed sets arrays item at n gs
  summed-known at n gs h =
      sym (folded-all item n gs (λ vs. integer (arithmetic.sum at (map compare.number vs))) (number_node sets arrays item at n (E.Sum (map as_number gs))) (integer (arithmetic.sum at (map number_of gs)))
      (λ vs e. ap (λ ns. integer (arithmetic.sum at ns)) (numbers-known gs vs e)) h)

  pub summed-live : (at n : ℕ) (gs : List Form) → is_some (all_known gs) ≡ false → number_node sets arrays item at n (E.Sum (map as_number gs)) ≡ making.summed sets arrays item at n gs
  summed-live at n gs h = sym (live-all item n (all_known gs) (λ vs. integer (arithmetic.sum at (map compare.number vs))) (number_node sets arrays item at n (E.Sum (map as_number gs))) h)

  pub least-none : (at n : ℕ) (ps : List Part) → ps ≡ [] → Err (eval (EmptyMinMax at)) ≡ making.least sets arrays item at n (forms ps)
  least-none at n [] h = refl
  least-none at n (p ∷ ps) h = cc

  pub least-known : (at n : ℕ) (ps : List Part) → (ps ≡ [] → ⊥) → is_some (all_known (forms ps)) ≡ true → evaluated item n (integer (arithmetic.least at (map number_of (forms ps)))) ≡ making.least sets arrays item at n (forms ps)
  least-known at n [] k h = absurd (k refl)
  least-known at n (p ∷ ps) k h =
      let gs : List Form = forms (p ∷ ps) in
      sym (folded-all item n gs (λ vs. integer (arithmetic.least at (map compare.number vs))) (number_node sets arrays item at n (E.Min (map as_number gs))) (integer (arithmetic.least at (map number_of gs)))
      (λ vs e. ap (λ ns. integer (arithmetic.least at ns)) (numbers-known gs vs e)) h)

  pub least-live : (at n : ℕ) (ps : List Part) → (ps ≡ [] → ⊥) → is_some (all_known (forms ps)) ≡ false → number_node sets arrays item at n (E.Min (map as_number (forms ps))) ≡ making.least sets arrays item at n (forms ps)
  least-live at n [] k h = absurd (k refl)
  least-live at n (p ∷ ps) k h =
      let gs : List Form = forms (p ∷ ps) in
      sym (live-all item n (all_known gs) (λ vs. integer (arithmetic.least at (map compare.number vs))) (number_node sets arrays item at n (E.Min (map as_number gs))) h)

  pub greatest-none : (at n : ℕ) (ps : List Part) → ps ≡ [] → Err (eval (EmptyMinMax at)) ≡ making.greatest_of sets arrays item at n (forms ps)
  greatest-none at n [] h = refl
  greatest-none at n (p ∷ ps) h = cc

  pub greatest-known : (at n : ℕ) (ps : List Part) → (ps ≡ [] → ⊥) → is_some (all_known (forms ps)) ≡ true → evaluated item n (integer (arithmetic.greatest at (map number_of (forms ps)))) ≡ making.greatest_of sets arrays item at n (forms ps)
  greatest-known at n [] k h = absurd (k refl)
  greatest-known at n (p ∷ ps) k h =
      let gs : List Form = forms (p ∷ ps) in
      sym (folded-all item n gs (λ vs. integer (arithmetic.greatest at (map compare.number vs))) (number_node sets arrays item at n (E.Max (map as_number gs))) (integer (arithmetic.greatest at (map number_of gs)))
      (λ vs e. ap (λ ns. integer (arithmetic.greatest at ns)) (numbers-known gs vs e)) h)

  pub greatest-live : (at n : ℕ) (ps : List Part) → (ps ≡ [] → ⊥) → is_some (all_known (forms ps)) ≡ false → number_node sets arrays item at n (E.Max (map as_number (forms ps))) ≡ making.greatest_of sets arrays item at n (forms ps)
  greatest-live at n [] k h = absurd (k refl)
  greatest-live at n (p ∷ ps) k h =
      let gs : List Form = forms (p ∷ ps) in
      sym (live-all item n (all_known gs) (λ vs. integer (arithmetic.greatest at (map compare.number vs))) (number_node sets arrays item at n (E.Max (map as_number gs))) h)
