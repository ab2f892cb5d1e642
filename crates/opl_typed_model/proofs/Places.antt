-- An expression stands in a place exactly where typing accepts it there.
use Rattle.std.proofs.Common.{◌≡◌, Bool, true, List, [], Option, Some, None, Ok, refl, ap, ◌∙◌}
use Rattle.opl_tree.specs.declared.expression.AddTree.{AddTree}
use Rattle.opl_type_rules.specs.Types.{Sort, is_number}
use Rattle.opl_type_rules.specs.Scope.{and_then, Scope}
use Rattle.opl_type_rules.specs.Forms.{Form, form_add}
use Rattle.opl_type_rules.specs.Expressions.{Node, Need, used, kinds, data_number, typing}
use Rattle.opl_type_rules.specs.Expressions.Need.{data_alone}
use Rattle.opl_expression_types.specs.Numbers.{number_kinds, maybe_number}
use Rattle.opl_typed.specs.Relation.{Typed, typed_of}
use Rattle.opl_typed.proofs.Lawful.{sound, complete}
use Rattle.opl_typed.proofs.Steps.{went, goes}
use Rattle.opl_typed_model.specs.Places.{Stands, IsDataNumber, MayBeDataNumber}

pub stands-sound : (sc : Scope) (need : Need) (takes : Sort → Bool) (f : Form) (n : Node) → and_then (typing sc f) (used need takes) ≡ Ok n → Stands sc need takes f
stands-sound sc need takes f n h = let s = sound sc f need takes n h in (typed_of n, s.0, s.1, s.2)

-- what typing finds of an expression that stands in a place
pub record Found (sc : Scope) (need : Need) (takes : Sort → Bool) (f : Form) : Type 0 where
  pub node : Node
  pub given : and_then (typing sc f) (used need takes) ≡ Ok node
  pub taken : takes node.sort ≡ true

pub stands-complete : (sc : Scope) (need : Need) (takes : Sort → Bool) (f : Form) → Stands sc need takes f → Found sc need takes f
stands-complete sc need takes f h =
    let k = complete sc f need takes h.0 (h.1, h.2, h.3) in
    record { node = k.0; given = k.1; taken = ap (λ (a : Typed). takes a.sort) k.2 ∙ h.3 }

-- ---- numbers that are data

pub number-sound : (sc : Scope) (t : AddTree) (ks : List Sort) → number_kinds sc t ≡ Ok ks → IsDataNumber sc t
number-sound sc t ks h =
    let w = went (and_then (typing sc (form_add t)) data_number) (λ n. Ok (kinds n)) ks h in stands-sound sc data_alone is_number (form_add t) w.0 w.1

pub number-complete : (sc : Scope) (t : AddTree) → IsDataNumber sc t → (ks : List Sort) × (number_kinds sc t ≡ Ok ks)
number-complete sc t h =
    let k = stands-complete sc data_alone is_number (form_add t) h in (kinds k.node, goes (and_then (typing sc (form_add t)) data_number) (λ n. Ok (kinds n)) k.node k.given)

pub maybe-sound : (sc : Scope) (t : Option AddTree) (ks : List Sort) → maybe_number sc t ≡ Ok ks → MayBeDataNumber sc t
maybe-sound sc None ks h = tt
maybe-sound sc (Some t) ks h = number-sound sc t ks h

pub maybe-complete : (sc : Scope) (t : Option AddTree) → MayBeDataNumber sc t → (ks : List Sort) × (maybe_number sc t ≡ Ok ks)
maybe-complete sc None h = ([], refl)
maybe-complete sc (Some t) h = number-complete sc t h
