use Rattle.std.proofs.Common.{ap, sym, ◌∙◌}
use Rattle.std.specs.Option.{option_copied}
use Rattle.opl_eval.specs.Visible.{seen}
use Rattle.opl_meaning.specs.Places.{position}
use Rattle.opl_declared.specs.Lookups.{guarded, names_array}
use Rattle.opl_declared.proofs.Arrays.{array-placed}
use Rattle.opl_declared.proofs.declared.Declared.array.Goals as goal

pub returns : goal.returns
returns c =
    c.guarded.ensures
    ∙ (λ i. guarded ((c.names_array-is_array.ensures ∙ ap (λ w. names_array w (option_copied c.value.result)) c.variable.ensures) i) ((c.place.ensures ∙ ap (position c.args.name.now) c.requires.arrays) i))
    ∙ sym (array-placed c.args.name.now (seen c.args.environment.now).items c.args.self.now.items.now (option_copied c.value.result) c.value.ensures)
