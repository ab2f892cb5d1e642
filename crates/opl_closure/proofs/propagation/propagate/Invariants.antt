use Rattle.std.proofs.Common.{◌≡◌, ℕ, ◌+◌, ◌*◌, suc, map, length}
use Rattle.opl_trace.specs.Sweeps.{size}
use Rattle.opl_expr.specs.Forms.{Fact}
use Rattle.opl_filter.specs.Filtering.{IsLeftOf}
use Rattle.opl_notes.specs.Noted.{Tells}
use Rattle.opl_closure.specs.Waits.{count_waits}
use Rattle.opl_closure.specs.Members.{refutes_one, Each, WaitOrAreStable}
use Rattle.opl_closure.proofs.propagation.propagate.Given as goal

abbrev pub invariant-loop-i : goal.invariant-loop-i
invariant-loop-i g l = record {
  left : IsLeftOf (refutes_one (map (λ f. g.F.Propagator.constraint f l.fn.core) l.fn.filters)) (g.N.View.family l.fn.n) (g.N.View.family l.n);
  same : map (λ f. g.F.Propagator.constraint f l.fn.core) l.filters ≡ map (λ f. g.F.Propagator.constraint f l.fn.core) l.fn.filters;
  woken_by : map g.F.Propagator.woken_by l.filters ≡ map g.F.Propagator.woken_by l.fn.filters;
  woken_by_ends : map g.F.Propagator.woken_by_ends l.filters ≡ map g.F.Propagator.woken_by_ends l.fn.filters;
  kinds : map g.F.Propagator.kind l.filters ≡ map g.F.Propagator.kind l.fn.filters;
  made : Each (λ i f. g.F.Propagator.is_made_with f l.fn.core) l.filters;
  tells : Tells (λ facts places. Each (λ i f. g.F.Propagator.means f l.fn.core facts places) l.fn.filters) l.fn.notes (g.N.View.family l.fn.n) l.notes (g.N.View.family l.n);
  means : (facts : ℕ → Fact) (places : ℕ) → Each (λ i f. g.F.Propagator.means f l.fn.core facts places) l.fn.filters → Each (λ i f. g.F.Propagator.means f l.fn.core facts places) l.filters;
  long : length l.filters ≡ length l.fn.filters;
  waits : length l.waiting ≡ length l.fn.waiting;
  wait : WaitOrAreStable (map (λ f. g.F.Propagator.constraint f l.fn.core) l.fn.filters) l.waiting (g.N.View.family l.n);
  leads : g.N.Narrow.leads_to l.fn.n l.n;
}

abbrev pub decreases-loop-i : goal.decreases-loop-i
decreases-loop-i g l = size (g.N.View.family l.n) * suc (length l.waiting) + count_waits l.waiting
