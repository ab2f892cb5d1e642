use Rattle.std.proofs.Common.{◌∙◌}
use Rattle.opl_type_rules.specs.Types.{sort}
use Rattle.opl_declaration_types.proofs.Declared.{fits-within}
use Rattle.opl_declaration_types.proofs.declaration.fits_within.Goals as goal

pub returns : goal.returns
returns c = c.fits.ensures ∙ fits-within c.args.model.now c.args.locals.now (sort c.args.want.now) (sort c.args.have.now)
