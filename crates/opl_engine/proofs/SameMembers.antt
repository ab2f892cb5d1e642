-- A member is the same after its own filter has run.
use Rattle.std.proofs.Common.{◌≡◌, ℕ, false, cond, refl, List, ap, sym, subst}
use Rattle.std.specs.Prelude.{Option, slice_get}
use Rattle.std.specs.declared.alloc.Global.{Global}
use Rattle.std.specs.declared.rc.Rc.{Rc}
use Rattle.opl_expr.specs.declared.forms.Cons.{Cons}
use Rattle.opl_expr.specs.Forms.{fact}
use Rattle.opl_filter.specs.Mentions.{lists}
use Rattle.opl_engine.specs.declared.own_filter.OwnFilter.{OwnFilter}
use Rattle.opl_engine.specs.declared.member.Member.{Member}
use Rattle.opl_engine.specs.declared.member.Member.TheVariants as member
use Rattle.opl_engine.specs.OwnFilters.{KeepsConstraints}
use Rattle.opl_engine.specs.Members.{fact_at}
use Rattle.opl_engine.specs.Crowds.{IsSameMember}

pub declared_same : (m : Member) (k : ℕ) (xs : List ℕ) (old new : Option OwnFilter) → m ≡ member.Declared k xs old → KeepsConstraints old new → IsSameMember m (member.Declared k xs new)
declared_same m k xs old new e keep = subst (λ z. IsSameMember z (member.Declared k xs new)) (sym e) (record {
  constraint = λ core. refl;
  made = λ core i. (i.0, (i.1.0, keep.constraint core (fact_at core (slice_get core.cons k)) i.1.1));
  means = keep.means;
  woken = λ x. ap (λ b. cond b false (lists xs x)) keep.ends;
  woken_by_ends = λ x. ap (λ b. cond b (lists xs x) false) keep.ends;
  kind = refl;
})

pub posted_same : (m : Member) (c : Rc Cons Global) (xs : List ℕ) (old new : Option OwnFilter) → m ≡ member.Posted c xs old → KeepsConstraints old new → IsSameMember m (member.Posted c xs new)
posted_same m c xs old new e keep = subst (λ z. IsSameMember z (member.Posted c xs new)) (sym e) (record {
  constraint = λ core. refl;
  made = λ core i. (i.0, keep.constraint core (fact core.tables core.resources c.value) i.1);
  means = keep.means;
  woken = λ x. ap (λ b. cond b false (lists xs x)) keep.ends;
  woken_by_ends = λ x. ap (λ b. cond b (lists xs x) false) keep.ends;
  kind = refl;
})
