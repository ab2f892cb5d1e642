-- Marks with more choices begin with those with fewer.
use Rattle.std.proofs.Common.{◌≡◌, ◌∙◌, ℕ, suc, ◌+◌, false, cond, refl, List, [], ◌∷◌, ◌++◌, length, ap, sym, arith, append_assoc, append-nil}
use Rattle.std.specs.Prelude.{Option, None}
use Rattle.opl_domain.specs.Family.{Family}
use Rattle.opl_expr.specs.Forms.{Fact}
use Rattle.opl_trace.specs.Objective.{Objective}
use Rattle.opl_trace.specs.Statements.{Statement}
use Rattle.opl_trace.specs.Run.{Out, marks_of, closed}
use Rattle.opl_trace.specs.Run.Mark.{cut}
use Rattle.opl_trace.specs.Marks.{trace}
use Rattle.opl_trace.specs.SearchLaws.{IsContinued, Prefix, Counted}
use Rattle.opl_trace.proofs.Budgets.{Agrees, more}
use Rattle.opl_trace.proofs.Performs.{searched_grows}

trace_agrees : (goal : Option Objective) (D : Family) (section : Option Statement) (P : List Fact) (n d : ℕ) → Agrees n d (trace goal D section P n) (trace goal D section P (n + d))
unfolding trace
trace_agrees goal D section P n d = searched_grows d goal (closed goal D) (length D) section n P None n (n + d) (omega arith) refl

marks_without : (o : Out) → o.is_cut ≡ false → marks_of o ≡ o.marks
marks_without o e = rw e (append-nil o.marks)

continued : (n d : ℕ) (o p : Out) → Agrees n d o p → IsContinued o p
continued n d o p a = record {
  others = a.rest ++ cond p.is_cut (cut ∷ []) [];
  joins = ap (λ ms. ms ++ cond p.is_cut (cut ∷ []) []) a.joins ∙ append_assoc o.marks a.rest (cond p.is_cut (cut ∷ []) []);
  ended = λ e. ap marks_of (a.alike e) ∙ marks_without (more d o) e;
}

pub marks_begin : Prefix
marks_begin goal D section P n =
    let e : n + 1 ≡ suc n = omega arith in
    rw (sym e) (continued n 1 (trace goal D section P n) (trace goal D section P (n + 1)) (trace_agrees goal D section P n 1))

pub choices_counted : Counted
choices_counted goal D section P n = (trace_agrees goal D section P n 0).counted
