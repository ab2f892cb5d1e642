use Rattle.std.proofs.Common.{rules, ◌∙◌, refl, ap, ◌+ℤ◌, neg_ℤ}
use Rattle.std.specs.Prelude.{FitsSigned}
use mir.Syntax.{w128}
use Rattle.std.proofs.lemmas.Int.{to_z-of_z}
use Rattle.opl_range.specs.Between.{term_of}
use Rattle.opl_linear.specs.Forms.{constant_part}
use Rattle.opl_linear_filter.proofs.Constants.{constants_fit}
use Rattle.opl_linear_filter.proofs.Comparing.{difference_made}
use Rattle.opl_linear_filter.proofs.linear_filter.difference.Goals as goal

pub less-constant-requires : goal.less-constant-requires
less-constant-requires c =
    let core = c.args.core.now in
    let v : FitsSigned w128 c.constant_part.result = search rules in
    let w : FitsSigned w128 c.constant_part-2.result = search rules in
    simp to_z-of_z (constants_fit core.sets (term_of core c.args.a.now) (term_of core c.args.b.now) c.constant_part.result c.constant_part-2.result c.requires.sound.0 c.constant_part.ensures c.constant_part-2.ensures)

pub returns : goal.returns
returns c =
    let core = c.args.core.now in
    let v : FitsSigned w128 c.constant_part.result = search rules in
    let w : FitsSigned w128 c.constant_part-2.result = search rules in
    let r : FitsSigned w128 c.less-constant.result = search rules in
    let e = simp to_z-of_z at c.less-constant.ensures in
    simp to_z-of_z (difference_made core c.args.kind c.args.a.now c.args.b.now (record { kind = c.args.kind; parts = c.in_ok-parts.parts; opposites = c.in_ok-parts.opposites; constant = c.less-constant.result }) c.requires.sound c.requires.first c.requires.second
    refl c.in_ok-parts.ensures (e ∙ ap (λ k. k +ℤ neg_ℤ c.constant_part-2.result) c.constant_part.ensures ∙ ap (λ k. constant_part (term_of core c.args.a.now) +ℤ neg_ℤ k) c.constant_part-2.ensures))
