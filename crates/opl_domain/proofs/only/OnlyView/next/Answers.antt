use Rattle.std.proofs.Common.{arith, rules, sym, subst}
use Rattle.std.specs.Prelude.{FitsSigned, None}
use mir.Syntax.{w64}
use Rattle.std.proofs.lemmas.Int.{ints, to_z-of_z}
use Rattle.opl_domain.specs.Family.{IsLeastAbove, IsNext}
use Rattle.opl_domain.proofs.Sets.{only_there, single_next, single_no_next, told_here, within_only, only_at_here}
use Rattle.opl_domain.proofs.only.OnlyView.next.Goals as goal

pub next-requires : goal.next-requires
next-requires g c = within_only _ _ _ _ c.requires

pub returns-then-x-self : goal.returns-then-x-self
returns-then-x-self g c =
    let after_fits : FitsSigned w64 c.args.after = c.ranges.after in
    let e = simp to_z-of_z at c.next.ensures in
    subst (λ vs. IsNext vs c.args.after c.next.result) (sym (only_there _ _ _ _ c.if-x-self.true)) e

pub returns-then-after-self : goal.returns-then-after-self
returns-then-after-self g c =
    let fits : FitsSigned w64 c.args.self.now.value = search rules in
    let after_fits : FitsSigned w64 c.args.after = c.ranges.after in
    told_here (λ vs v. IsLeastAbove vs c.args.after v) _ _ _ _ fits c.requires c.if-x-self.false (single_next _ _ (omega (arith, ints)))

pub returns-else-after-self : goal.returns-else-after-self
returns-else-after-self g c =
    let fits : FitsSigned w64 c.args.self.now.value = search rules in
    let after_fits : FitsSigned w64 c.args.after = c.ranges.after in
    subst (λ vs. IsNext vs c.args.after None) (sym (only_at_here _ _ _ _ c.requires c.if-x-self.false)) (single_no_next _ _ (omega (arith, ints)))
