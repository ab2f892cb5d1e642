-- From propagation to the closure.
use Rattle.std.proofs.Common.{◌≡◌, Bool, List, refl, sym, subst}
use Rattle.std.specs.Prelude.{Option, Some, None}
use Rattle.opl_domain.specs.Family.{Family}
use Rattle.opl_expr.specs.Forms.{Fact}
use Rattle.opl_trace.specs.Stable.{IsMonotone, IsStable, HasFailed}
use Rattle.opl_trace.specs.Closure.{closure}
use Rattle.opl_trace.specs.ClosureLaws.{ClosesTo}
use Rattle.opl_trace.specs.Removals.{Kept}
use Rattle.opl_trace.specs.Run.{is_dead}
use Rattle.opl_trace.proofs.Closures.{closure_is}
use Rattle.opl_trace.proofs.StableFamilies.{greatest_from_union}
use Rattle.opl_trace.proofs.Removals.{kept_closed}
use Rattle.opl_filter.specs.Filtering.{IsLeftOf}
use Rattle.opl_filter.proofs.Removals.{each_kept}
use Rattle.opl_closure.specs.Members.{refutes_one}
use Rattle.opl_closure.specs.Laws.{BoundIsMember}
use Rattle.opl_closure.proofs.Turns.{some_falls}

pub bound_member : BoundIsMember
unfolding is_dead
bound_member goal P b F = refl

pub kept_left : (ms : List Fact) (D F G : Family) → Kept (refutes_one ms) D F → IsLeftOf (refutes_one ms) F G → Kept (refutes_one ms) D G
kept_left ms D F G k a = subst (λ H. Kept (refutes_one ms) D H) (sym a.left) (each_kept (refutes_one ms) D F a.gone (some_falls ms) k a.each)

pub closes_stable : (ms : List Fact) (D F G : Family) → Kept (refutes_one ms) D F → IsLeftOf (refutes_one ms) F G → IsStable (refutes_one ms) G → closure (refutes_one ms) D ≡ Some G
closes_stable ms D F G k a s = sym (kept_closed (refutes_one ms) D G (some_falls ms) (kept_left ms D F G k a) s)

fails_cases : (dead : Family → Bool) (D F : Family) (o : Option Family) → IsMonotone dead → Kept dead D F → HasFailed dead F → closure dead D ≡ o → ClosesTo dead D o → closure dead D ≡ None
fails_cases dead D F None m k f e c = e
fails_cases dead D F (Some C) m k f e c =
    let most = greatest_from_union dead D C m c in
    absurd (f C (record { stable = most.is_stable.stable; within = k.above C most.is_stable.stable most.is_stable.within }))

pub closes_failed : (ms : List Fact) (D F : Family) → Kept (refutes_one ms) D F → HasFailed (refutes_one ms) F → closure (refutes_one ms) D ≡ None
closes_failed ms D F k f = fails_cases (refutes_one ms) D F (closure (refutes_one ms) D) (some_falls ms) k f refl (closure_is (refutes_one ms) D (some_falls ms))
