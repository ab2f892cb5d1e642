-- Why a call ends at a fault of its data, its variables or its constraints.
use Rattle.std.proofs.Common.{◌≡◌, refl, Option, Some, None, Result, Err}
use Rattle.opl_form.specs.Nodes.{Made}
use Rattle.opl_form.specs.Nodes.Fault.{eval, large, deep, many}
use Rattle.opl_given.specs.Faults as of_data
use Rattle.opl_given.specs.declared.fault.BindFault.{BindFault}
use Rattle.opl_given.specs.declared.fault.BindFault.TheVariants as binding
use Rattle.opl_meaning.specs.Faults as of_meaning
use Rattle.opl_meaning.specs.declared.fault.MeaningFault.{MeaningFault}
use Rattle.opl_meaning.specs.declared.fault.MeaningFault.TheVariants as meaning
use Rattle.opl_nodes.specs.Pieces.{Refuses}
use Rattle.opl_nodes.specs.declared.fault.FormFault.{FormFault}
use Rattle.opl_nodes.specs.declared.fault.FormFault.TheVariants as form
use Rattle.opl_files.specs.declared.refusal.Refusal.{Refusal}
use Rattle.opl_files.specs.declared.stop.Stop.{Stop}
use Rattle.opl_prepare.specs.Data.{Comes, refusal_of_data, refusal_of_forms, refusal_of_variables}
use Rattle.opl_prepare.specs.Prepared.{StopsForms, stop_at}
use Rattle.opl_files.specs.Stage.{Gives}

-- a definition has a fault, and the call ends at it
stops_by : {A E : Type 0} (refusal : E → Option Refusal) (made : Result A E) (fault : E) (o : Option Refusal) → refusal fault ≡ o → made ≡ Err fault →
    Gives (Comes refusal made) (Err (stop_at o))
stops_by refusal made fault (Some e) h m = (fault, h, m)
stops_by refusal made fault None h m = tt

pub stops-at : {A E : Type 0} (refusal : E → Option Refusal) (made : Result A E) (fault : E) → made ≡ Err fault → Gives (Comes refusal made) (Err (stop_at (refusal fault)))
stops-at refusal made fault m = stops_by refusal made fault (refusal fault) refl m

-- a fault of binding
pub data-stops : {A B : Type 0} (reading : B → A) (made : of_data.Bound A) (fault : BindFault) → of_data.Gives reading made (Err fault) →
    Gives (Comes refusal_of_data made) (Err (stop_at (refusal_of_data fault)))
data-stops reading made (binding.Given name) h = stops-at refusal_of_data made (binding.Given name) h
data-stops reading made (binding.Twice name) h = stops-at refusal_of_data made (binding.Twice name) h
data-stops reading made (binding.Missing name) h = stops-at refusal_of_data made (binding.Missing name) h
data-stops reading made (binding.Shape file at) h = stops-at refusal_of_data made (binding.Shape file at) h
data-stops reading made (binding.Outside file at) h = stops-at refusal_of_data made (binding.Outside file at) h
data-stops reading made (binding.Override name) h = stops-at refusal_of_data made (binding.Override name) h
data-stops reading made (binding.Eval fault) h = stops-at refusal_of_data made (binding.Eval fault) h
data-stops reading made binding.OutOfMemory h = tt

-- a fault of variables
pub variables-stop : {A B : Type 0} (reading : B → A) (made : of_meaning.Made A) (fault : MeaningFault) → of_meaning.Gives reading made (Err fault) →
    Gives (Comes refusal_of_variables made) (Err (stop_at (refusal_of_variables fault)))
variables-stop reading made (meaning.Eval fault) h = stops-at refusal_of_variables made (meaning.Eval fault) h
variables-stop reading made (meaning.TooManyVariables at) h = stops-at refusal_of_variables made (meaning.TooManyVariables at) h
variables-stop reading made (meaning.TooFar at) h = stops-at refusal_of_variables made (meaning.TooFar at) h
variables-stop reading made (meaning.TooWide at) h = stops-at refusal_of_variables made (meaning.TooWide at) h
variables-stop reading made (meaning.TooManyValues at) h = stops-at refusal_of_variables made (meaning.TooManyValues at) h
variables-stop reading made meaning.OutOfMemory h = tt

-- a fault of constraints
pub forms-stop : {A : Type 0} (made : Made A) (fault : FormFault) (stop : Stop) → Refuses made fault → StopsForms fault stop → Gives (Comes refusal_of_forms made) (Err stop)
forms-stop made form.OutOfMemory stop h told = rw told tt
forms-stop made (form.Eval fault) stop h told = rw told (stops-at refusal_of_forms made (eval fault) h)
forms-stop made (form.TooLarge at) stop h told = rw told (stops-at refusal_of_forms made (large at) h)
forms-stop made (form.Depth at) stop h told = rw told (stops-at refusal_of_forms made (deep at) h)
forms-stop made (form.Nodes at) stop h told = rw told (stops-at refusal_of_forms made (many at) h)
