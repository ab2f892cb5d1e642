-- What scopes see.
use Rattle.std.proofs.Common.{◌≡◌, List, [], Err, refl, ap}
use Rattle.opl_tree.specs.declared.declaration.DimTree.{DimTree}
use Rattle.opl_term.specs.declared.term.Term.{Term}
use Rattle.opl_eval.specs.declared.environment.Environment as code
use Rattle.opl_eval.specs.Visible.{seen, within}
use Rattle.opl_given.specs.declared.fault.BindFault.{BindFault}
use Rattle.opl_given.specs.declared.fault.BindFault.TheVariants.{Given, Twice, Missing, Shape, Outside, Override, Eval, OutOfMemory}
use Rattle.opl_given.specs.declared.form.Form.{Form}
use Rattle.opl_given.specs.Forms.{Known}
use Rattle.opl_given.specs.Arrays.{Axis}
use Rattle.opl_given.specs.Faults.{Bound, Gives, then}
use Rattle.opl_bind.specs.Written.{cells_by_form, written, written_cells, written_value}

-- without parameters the declared names alone are seen
pub within-none : (env : code.Environment) → within env [] ≡ seen env
unfolding within seen
within-none env = refl

pub written_value-is : (known : Known) (env : code.Environment) (form : Form) (t : Term) → written_value known (seen env) form t ≡ (written known t).fit form (within env [])
unfolding written_value within seen
written_value-is known env form t = refl

pub written_cells-is : (known : Known) (env : code.Environment) (form : Form) (ts : List DimTree) (axes : List Axis) (t : Term) → written_cells known (seen env) form ts axes t ≡ cells_by_form known (written known t) form ts axes (within env [])
unfolding written_cells within seen
written_cells-is known env form ts axes t = refl

-- a fault of the first of two steps is that of both
pub then_fault : {A B C D : Type 0} (r : C → A) (s : D → B) (b : Bound A) (next : A → Bound B) (e : BindFault) → Gives r b (Err e) → Gives s (then b next) (Err e)
then_fault r s b next OutOfMemory h = tt
then_fault r s b next (Given name) h = ap (λ x. then x next) h
then_fault r s b next (Twice name) h = ap (λ x. then x next) h
then_fault r s b next (Missing name) h = ap (λ x. then x next) h
then_fault r s b next (Shape file at) h = ap (λ x. then x next) h
then_fault r s b next (Outside file at) h = ap (λ x. then x next) h
then_fault r s b next (Override name) h = ap (λ x. then x next) h
then_fault r s b next (Eval fault) h = ap (λ x. then x next) h
