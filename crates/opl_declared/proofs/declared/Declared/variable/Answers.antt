use Rattle.std.proofs.Common.{ap, sym, ◌∙◌}
use Rattle.opl_meaning.specs.Places.{position}
use Rattle.opl_declared.specs.Lookups.{numbered_at}
use Rattle.opl_declared.proofs.Arrays.{variable-placed}
use Rattle.opl_declared.proofs.declared.Declared.variable.Goals as goal

pub returns : goal.returns
returns c =
    c.numbered_at.ensures
    ∙ (λ i. numbered_at ((c.place.ensures ∙ ap (position c.args.name.now) c.requires.names) i) c.args.self.now.items.now ((c.as_slice.ensures ∙ c.requires.firsts) i))
    ∙ sym (variable-placed c.args.name.now c.args.self.now.items.now)
