-- Parts in which no variable is left, and what is made of them.
use Rattle.std.proofs.Common.{◌≡◌, ℕ, Bool, true, false, ◌||◌, ◌&&◌, List, [], ◌∷◌, map, Option, Some, None, is_some, Ok, refl, sym, ap, ◌∙◌}
use Rattle.std.specs.List.{list_any, list_all}
use Rattle.opl_value.specs.declared.value.Value.{Value}
use Rattle.opl_value.specs.declared.value.Value.TheVariants as values
use Rattle.opl_eval.specs.Evaluation.{Found, is_true}
use Rattle.opl_form.specs.Parts.{Form, all_known, as_condition, with_value}
use Rattle.opl_form.specs.Parts.Form.{known, number, name, condition, truth}
use Rattle.opl_form.specs.Nodes.{Made, folded, known_node}
use Rattle.opl_nodes.specs.declared.part.Part.{Part}
use Rattle.opl_nodes.specs.Pieces.{form, forms, value_of}
use Rattle.opl_truths.specs.Conditions.{conditions, is_true_part, is_true_value}

-- ---- conditions

pub conditions-are : (ps : List Part) → conditions ps ≡ map as_condition (forms ps)
conditions-are [] = refl
conditions-are (p ∷ ps) = ap (λ cs. as_condition (form p) ∷ cs) (conditions-are ps)

-- ---- values in place of parts

-- where a variable is left in a part
pub folded-live : (item n : ℕ) (o : Option (List Value)) (come : List Value → Found Value) (node : Made Form) → o ≡ None → folded item n o come node ≡ node
folded-live item n o come node h = ap (λ o. folded item n o come node) h

pub none-known : (o : Option (List Value)) → is_some o ≡ false → o ≡ None
none-known None h = refl
none-known (Some vs) h = cc

-- where a variable is left in none, and this is what the values come to
pub folded-all : (item n : ℕ) (o : Option (List Value)) (test : List Value → Bool) (b : Bool) (node : Made Form) → ((vs : List Value) → o ≡ Some vs → b ≡ test vs) → is_some o ≡ true →
    folded item n o (λ vs. Ok (values.Bool (test vs))) node ≡ known_node item n (values.Bool b)
folded-all item n None test b node h k = cc
folded-all item n (Some vs) test b node h k = ap (λ b. known_node item n (values.Bool b)) (sym (h vs refl))

-- ---- truths of parts that are values

-- the first part is a value, and the others have theirs
first-known : (g : Form) (o : Option (List Value)) (vs : List Value) → with_value g o ≡ Some vs → (v : Value) × (ws : List Value) × (g ≡ known v) × (o ≡ Some ws) × (v ∷ ws ≡ vs)
first-known (known v) None vs h = absurd (cc)
first-known (known v) (Some ws) vs h = let e : v ∷ ws ≡ vs = cc in (v, ws, refl, refl, e)
first-known (number e) o vs h = absurd (cc)
first-known (name d e) o vs h = absurd (cc)
first-known (condition c) o vs h = absurd (cc)
first-known (truth c) o vs h = absurd (cc)

pub any-known : (ps : List Part) (vs : List Value) → all_known (forms ps) ≡ Some vs → list_any is_true_part ps ≡ list_any is_true vs
any-known [] vs h = let e : [] ≡ vs = cc in ap (list_any is_true) e
any-known (p ∷ ps) vs h =
    let k = first-known (form p) (all_known (forms ps)) vs h in
    ap (λ g. is_true_value (value_of g) || list_any is_true_part ps) k.2 ∙ ap (λ b. is_true k.0 || b) (any-known ps k.1 k.3) ∙ ap (list_any is_true) k.4

pub all-known : (ps : List Part) (vs : List Value) → all_known (forms ps) ≡ Some vs → list_all is_true_part ps ≡ list_all is_true vs
all-known [] vs h = let e : [] ≡ vs = cc in ap (list_all is_true) e
all-known (p ∷ ps) vs h =
    let k = first-known (form p) (all_known (forms ps)) vs h in
    ap (λ g. is_true_value (value_of g) && list_all is_true_part ps) k.2 ∙ ap (λ b. is_true k.0 && b) (all-known ps k.1 k.3) ∙ ap (list_all is_true) k.4
