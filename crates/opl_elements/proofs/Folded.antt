-- Nodes whose parts are all values, and others.
use Rattle.std.proofs.Common.{◌≡◌, ℕ, Bool, List, Option, Some, None, Ok, refl, ap}
use Rattle.std.specs.Option.{option_map}
use Rattle.opl_value.specs.declared.value.Value.{Value}
use Rattle.opl_value.specs.declared.value.Value.TheVariants as values
use Rattle.opl_eval.specs.Evaluation.{Found}
use Rattle.opl_form.specs.Parts.{Form}
use Rattle.opl_form.specs.Nodes.{Made, folded, known_node}

pub folded-known : (item n : ℕ) (o : Option (List Value)) (f : List Value → Bool) (node : Made Form) (b : Bool) →
    option_map f o ≡ Some b → folded item n o (λ vs. Ok (values.Bool (f vs))) node ≡ known_node item n (values.Bool b)
folded-known item n None f node b h = absurd (cc)
folded-known item n (Some vs) f node b h = let e : f vs ≡ b = cc in ap (λ b. known_node item n (values.Bool b)) e

pub folded-live : (item n : ℕ) (o : Option (List Value)) (f : List Value → Bool) (come : List Value → Found Value) (node : Made Form) →
    option_map f o ≡ None → folded item n o come node ≡ node
folded-live item n None f come node h = refl
folded-live item n (Some vs) f come node h = absurd (cc)
