use Rattle.std.proofs.Common.{rules, sym, ap, ◌∙◌}
use Rattle.std.specs.Prelude.{FitsSigned}
use mir.Syntax.{w64}
use Rattle.std.proofs.lemmas.Int.{to_z-of_z}
use Rattle.opl_domain.proofs.Bits.{same_bits_64}
use Rattle.opl_domain.specs.Family.{member}
use Rattle.opl_domain.proofs.Sets.{only_there, single_member, within_only, only_at_here}
use Rattle.opl_domain.proofs.only.OnlyView.has.Goals as goal

pub has-requires : goal.has-requires
has-requires g c = within_only _ _ _ _ c.requires

pub returns-then-x-self : goal.returns-then-x-self
returns-then-x-self g c =
    let fits : FitsSigned w64 c.args.self.now.value = search rules in
    same_bits_64 _ _ c.ranges.v fits ∙ single_member c.args.self.now.value c.args.v ∙ sym (ap (member c.args.v) (only_at_here _ _ _ _ c.requires c.if-x-self.true))

pub returns-else-x-self : goal.returns-else-x-self
returns-else-x-self g c =
    let v_fits : FitsSigned w64 c.args.v = c.ranges.v in
    let e = simp to_z-of_z at c.has.ensures in
    e ∙ sym (ap (member c.args.v) (only_there _ _ _ _ c.if-x-self.false))
