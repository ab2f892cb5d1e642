-- The positions of fields, as they are kept one after another.
use Rattle.std.proofs.Common.{◌≡◌, sym, ap, ◌∙◌, subst, ℕ, List, [], Ok, Err}
use Rattle.opl_bind.specs.Bind.{bound}
use Rattle.opl_given.specs.Faults as of_data
use Rattle.opl_bind.specs.Readings.{data_of}
use Rattle.opl_given.specs.declared.assigned.Override.{Override}
use Rattle.opl_given.specs.declared.fault.BindFault.{BindFault}
use Rattle.opl_data.specs.declared.tree.DataTree.{DataTree}
use Rattle.opl_fields.specs.Fields.{fields}
use Rattle.opl_fields.specs.declared.place.FieldPlace.{FieldPlace}
use Rattle.opl_tree.specs.declared.declaration.DeclTree.{DeclTree}
use Rattle.opl_tree.specs.declared.model.ModelTree.{ModelTree}
use Rattle.opl_model_types.specs.Models.{model}
use Rattle.opl_type_rules.specs.Types.{Sort}
use Rattle.opl_files.specs.declared.stop.Stop.{Stop}
use Rattle.opl_prepare.specs.Data.{HasData, refusal_of_data}
use Rattle.opl_prepare.specs.Positions.{kinds_or_none, position_or, positions}
use Rattle.opl_prepare.specs.Prepared.{stop_at}
use Rattle.opl_files.specs.Stage.{Gives}
use Rattle.opl_prepare.proofs.Stops.{data-stops}

-- before any field
pub positions-begin : (tree : ModelTree) (kinds : List Sort) (found : List FieldPlace) (n place : ℕ) → model tree ≡ Ok kinds → found ≡ fields tree kinds → n ≡ 0 →
    position_or n place found ≡ positions tree place
unfolding positions
positions-begin tree kinds found n place typed is none =
    (λ i. position_or (none i) place (is i)) ∙ ap (λ ks. position_or 0 place (fields tree (kinds_or_none ks))) (sym typed)

-- the data of a model came to an end
pub data-ended : (tree : ModelTree) (files fs : List DataTree) (ds : List DeclTree) (os : List Override) (p : ℕ → ℕ) (fault : BindFault) (stop : Stop) →
    ((place : ℕ) → p place ≡ positions tree place) → ds ≡ tree.decls → fs ≡ files → os ≡ [] → of_data.Gives data_of (bound p ds fs os) (Err fault) →
    stop ≡ stop_at (refusal_of_data fault) → Gives (HasData tree files) (Err stop)
data-ended tree files fs ds os p fault stop same decls these none h told =
    rw told (data-stops data_of (bound (positions tree) tree.decls files []) fault
    (subst (λ b. of_data.Gives data_of b (Err fault)) (λ i. bound (λ place. same place i) (decls i) (these i) (none i)) h))
