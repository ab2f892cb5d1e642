-- The bound on a linear objective is refuted by the ends of sets alone.
use Rattle.std.proofs.Common.{◌≡◌, ◌∙◌, ap, sym, length}
use Rattle.opl_expr.specs.declared.forms.Op.TheVariants.{Lt}
use Rattle.opl_domain.specs.Family.{Family, Full}
use Rattle.opl_filter.specs.Filtering.{refutes}
use Rattle.opl_trace.specs.Objective.{better_than}
use Rattle.opl_linear.specs.declared.kind.Kind.TheVariants as kinds
use Rattle.opl_linear.specs.Forms.{rejects}
use Rattle.opl_linear.specs.Laws.{factors_of, constant_of}
use Rattle.opl_linear.proofs.Carrying.{comparisons_by_forms}
use Rattle.opl_linear_filter.proofs.Ends.{rejects_same}
use Rattle.opl_objective_filter.specs.ObjectiveFilters.{lesser_side, greater_side, EndsDecide}
use Rattle.opl_objective_filter.proofs.Bounds.{better_is, sides_linear}

pub ends_decide : EndsDecide
ends_decide core g b h F G u v m n s =
    let p = sides_linear g b h in
    let c = factors_of (lesser_side g b) (greater_side g b) in
    let k = constant_of (lesser_side g b) (greater_side g b) in
    let by_form : (H : Family) → Full H → refutes (better_than g b) H ≡ rejects kinds.Below c k H =
    λ H w. ap (λ z. refutes z H) (better_is g b) ∙ comparisons_by_forms Lt (lesser_side g b) (greater_side g b) H w p.0 p.1 (λ e. cc) in
    by_form F u ∙ rejects_same kinds.Below F G c k (length core.sets) m n s ∙ sym (by_form G v)
