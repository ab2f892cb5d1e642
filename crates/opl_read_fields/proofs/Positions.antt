-- The latest field with a place is the only one, where no two fields have the same place.
use Rattle.std.proofs.Common.{◌≡◌, ◌≢◌, ℕ, true, false, cond, List, [], ◌∷◌, map, Ok, refl, sym, ap, ◌∙◌, subst, arith}
use Rattle.std.specs.Prelude.{nat_eq}
use Rattle.std.specs.List.{AllByRecursion, AllPairs}
use Rattle.std.proofs.lemmas.Bool.Decides.{nat_tests}
use Rattle.std.proofs.lemmas.List.{append-nil}
use Rattle.opl_tree.specs.Marks.{marks_model}
use Rattle.opl_tree.specs.declared.model.ModelTree.{ModelTree}
use Rattle.opl_type_rules.specs.Scope.{empty_scope}
use Rattle.opl_type_rules.specs.Types.{Sort}
use Rattle.opl_model_types.specs.Models.{model}
use Rattle.opl_fields.specs.declared.place.FieldPlace.{FieldPlace}
use Rattle.opl_fields.specs.Fields.{fields, record_of}
use Rattle.opl_fields.specs.Trees.{walk_model}
use Rattle.opl_fields.specs.Walk.{before}
use Rattle.opl_fields.specs.Whole.{model_fields}
use Rattle.opl_fields.proofs.Models.{walk_finds_all}
use Rattle.opl_prepare.specs.Positions.{kinds_or_none, position_or, positions}
use Rattle.opl_bound_fields.specs.Laws.{Tells}
use Rattle.opl_read_fields.specs.Laws.{PositionsAreTold}
use Rattle.opl_read_fields.specs.Places.{field_places}
use Rattle.opl_read_fields.proofs.Items.{model_told}
use Rattle.opl_read_fields.proofs.Lists.{pairs_among, pairs_first, pairs_rest}

abbrev places : List FieldPlace → List ℕ
places fs = map (λ (f : FieldPlace). f.place) fs

same_number : (n : ℕ) → nat_eq n n ≡ true
same_number n = grind arith

other_number : (m n : ℕ) → m ≢ n → nat_eq m n ≡ false
other_number m n h = grind (arith, nat_tests, h)

-- no field has that place
absent : (place kept : ℕ) (fs : List FieldPlace) → AllByRecursion (λ other. place ≢ other) (places fs) → position_or kept place fs ≡ kept
absent place kept [] h = refl
absent place kept (f ∷ fs) h = ap (λ b. position_or (cond b f.position kept) place fs) (other_number place f.place h.0) ∙ absent place kept fs h.1

-- whatever is kept before
each_found : (fs : List FieldPlace) → AllPairs (λ a b. a ≢ b) (places fs) → (kept : ℕ → ℕ) → AllByRecursion (λ (f : FieldPlace). position_or (kept f.place) f.place fs ≡ f.position) fs
each_found [] h kept = tt
each_found (f ∷ fs) h kept = (
  ap (λ b. position_or (cond b f.position (kept f.place)) f.place fs) (same_number f.place) ∙ absent f.place f.position fs (pairs_first (λ a b. a ≢ b) f.place (places fs) h),
  each_found fs (pairs_rest (λ a b. a ≢ b) f.place (places fs) h) (λ place. cond (nat_eq place f.place) f.position (kept place)),
)

-- the fields that the walk finds are those that the model names
fields_named : (t : ModelTree) (ks : List Sort) → model t ≡ Ok ks → fields t ks ≡ model_fields t
unfolding fields
fields_named t ks h = ap (λ rs. (walk_model t (before rs)).found) (sym (append-nil (map record_of ks))) ∙ ap (λ s. s.found) (walk_finds_all t ks h [] [])

positions_are : (t : ModelTree) (ks : List Sort) → model t ≡ Ok ks → (λ place. position_or 0 place (model_fields t)) ≡ positions t
unfolding positions
positions_are t ks h = ap (λ fs place. position_or 0 place fs) (sym (fields_named t ks h)) ∙ ap (λ kinds place. position_or 0 place (fields t (kinds_or_none kinds))) (sym h)

pub positions_are_told : PositionsAreTold
positions_are_told t ks differ h =
    subst (λ (p : ℕ → ℕ). Tells p (model_fields t)) (positions_are t ks h)
    (each_found (model_fields t) (pairs_among (λ a b. a ≢ b) (places (model_fields t)) (field_places (marks_model t)) ((model_told t).says empty_scope).among differ) (λ place. 0))
