use Rattle.std.proofs.Common.{sym, subst}
use Rattle.opl_filter.specs.Filtering.{IsBetween, Filters}
use Rattle.std.proofs.lemmas.Int.{to_z-of_z}
use Rattle.opl_linear.specs.Linear.{factor_in}
use Rattle.opl_linear.specs.Forms.{rejects}
use Rattle.opl_linear.proofs.form.filter_form.Goals as goal

pub returns-in-AtMost-clause-between : goal.returns-in-AtMost-clause-between
returns-in-AtMost-clause-between g c =
    let rk = c.ranges.constant in
    let e = simp to_z-of_z at c.filter_at_most.ensures.between in
    subst (λ q. IsBetween (rejects q (factor_in c.args.parts.now) c.args.constant) (g.N.View.family c.args.n.now) (g.N.View.family c.filter_at_most.new.n)) (sym c.in-AtMost.is) e

pub returns-in-AtMost-clause-outcome : goal.returns-in-AtMost-clause-outcome
returns-in-AtMost-clause-outcome g c =
    let rk = c.ranges.constant in
    let e = simp to_z-of_z at c.filter_at_most.ensures.outcome in
    subst (λ q. Filters (rejects q (factor_in c.args.parts.now) c.args.constant) (g.N.View.family c.args.n.now) (g.N.View.family c.filter_at_most.new.n) c.filter_at_most.result) (sym c.in-AtMost.is) e

pub returns-in-Below-clause-between : goal.returns-in-Below-clause-between
returns-in-Below-clause-between g c =
    let rk = c.ranges.constant in
    let e = simp to_z-of_z at c.filter_at_most-in-Below.ensures.between in
    subst (λ q. IsBetween (rejects q (factor_in c.args.parts.now) c.args.constant) (g.N.View.family c.args.n.now) (g.N.View.family c.filter_at_most-in-Below.new.n)) (sym c.in-Below.is) e

pub returns-in-Below-clause-outcome : goal.returns-in-Below-clause-outcome
returns-in-Below-clause-outcome g c =
    let rk = c.ranges.constant in
    let e = simp to_z-of_z at c.filter_at_most-in-Below.ensures.outcome in
    subst (λ q. Filters (rejects q (factor_in c.args.parts.now) c.args.constant) (g.N.View.family c.args.n.now) (g.N.View.family c.filter_at_most-in-Below.new.n) c.filter_at_most-in-Below.result) (sym c.in-Below.is) e

pub returns-in-Different-clause-between : goal.returns-in-Different-clause-between
returns-in-Different-clause-between g c =
    let rk = c.ranges.constant in
    let e = simp to_z-of_z at c.filter_different.ensures.between in
    subst (λ q. IsBetween (rejects q (factor_in c.args.parts.now) c.args.constant) (g.N.View.family c.args.n.now) (g.N.View.family c.filter_different.new.n)) (sym c.in-Different.is) e

pub returns-in-Different-clause-outcome : goal.returns-in-Different-clause-outcome
returns-in-Different-clause-outcome g c =
    let rk = c.ranges.constant in
    let e = simp to_z-of_z at c.filter_different.ensures.outcome in
    subst (λ q. Filters (rejects q (factor_in c.args.parts.now) c.args.constant) (g.N.View.family c.args.n.now) (g.N.View.family c.filter_different.new.n) c.filter_different.result) (sym c.in-Different.is) e
