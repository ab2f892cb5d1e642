-- What the walk over an expression takes and finds where a type is asked for.
use Rattle.std.proofs.Common.{◌≡◌, ℕ, Bool, List, [], ◌∷◌, ◌++◌, Option, Ok, refl, ap, subst}
use Rattle.opl_tree.specs.declared.declaration.DeclTree.{DeclTree}
use Rattle.opl_type_rules.specs.Types.{Sort}
use Rattle.opl_type_rules.specs.Scope.{Scope, and_then}
use Rattle.opl_type_rules.specs.Forms.{Form}
use Rattle.opl_type_rules.specs.Expressions.{Need, kinds, used, typing}
use Rattle.opl_fields.specs.declared.place.FieldPlace.{FieldPlace}
use Rattle.opl_fields.specs.Walk.{Pass, one}
use Rattle.opl_fields.specs.Typed.{form_fields}
use Rattle.opl_fields.proofs.Taken.{Takes, Follows, went, same, used-is}

pub takes-one : (g : Pass) (k : Sort) (ks : List Sort) (a : List FieldPlace) → Takes g ks a → Takes (λ s. g (one s)) (k ∷ ks) a
takes-one g k ks a p found rest = p found rest

-- as one of the types that are asked for
pub takes-typed : (ds : List DeclTree) (f : Form) (g : Pass) → Follows ds f g → (sc : Scope) (need : Need) (takes : Sort → Bool) (ks : List Sort) →
    and_then (and_then (typing sc f) (used need takes)) (λ n. Ok (kinds n)) ≡ Ok ks → Takes g ks (form_fields ds sc f)
takes-typed ds f g p sc need takes ks h =
    let w = went (and_then (typing sc f) (used need takes)) _ ks h in
    subst (λ ks. Takes g ks (form_fields ds sc f)) (same _ ks w.2) (p sc w.0 (used-is _ need takes w.0 w.1))
